-- The inodes of a disk that holds nodes, and its tree.
use Rattle.inodes_on_blocks.proofs.Vocabulary.{◌≡◌, ◌⊎◌, ℕ, zero, suc, true, false, pos, inl, inr, refl, sym, ◌∙◌, ap, subst, List, [], ◌∷◌, ◌++◌, map, Option, Some, None, nat_lt, false≢true, Dinode, Version, version_in, Node, NodeKind, Directory, File, Device, inode_of, is_number, is_positive, is_free, is_directory, is_live, is_node, count_of, node_of, first_nodes, node_is, node_from, Slots, folder, links_of, either, folder_dead, dead_links, dead_no_directory, Nodes, type_in, size_in, IsDevice, IsInode, IsRecord, HasContent, entry_of, live_part, live_nodes, kind_by, first_nodes_by}
use Rattle.plain_tree.specs.Tree as plain
use Rattle.image_tree.specs.Images.{kind_of}
use Rattle.inodes_on_blocks.proofs.HeldParts.{HoldsRecords, HoldsContents}
use Rattle.inodes_on_blocks.proofs.ImageSlots.{Entries, in_tree}
use Rattle.inodes_on_blocks.proofs.Nodes.{no_node, dead_node, live_node, kind_of_directory}

pub some_or : {A : Type 0} (o : Option A) → (o ≡ None) ⊎ ((v : A) × (o ≡ Some v))
some_or None = inl refl
some_or (Some v) = inr (v, refl)

-- ---- the live part

pub live_whole : (o : Option Node) → plain.is_live o ≡ true → live_part o ≡ o
live_whole o h = rw h refl

pub live_none : (o : Option Node) → plain.is_live o ≡ false → live_part o ≡ None
live_none o h = rw h refl

pub live_folder : (o : Option Node) → folder (live_part o) ≡ folder o
live_folder o = elim (either (plain.is_live o)) [
  | inl y ↦ ap (λ (v : Option Node). folder v) (live_whole o y)
  | inr y ↦ ap (λ (v : Option Node). folder v) (live_none o y) ∙ sym (folder_dead o (dead_no_directory o y))
]

pub live_links : (o : Option Node) → links_of (live_part o) ≡ links_of o
live_links o = elim (either (plain.is_live o)) [
  | inl y ↦ ap (λ (v : Option Node). links_of v) (live_whole o y)
  | inr y ↦ ap (λ (v : Option Node). links_of v) (live_none o y) ∙ sym (dead_links o y)
]

-- ---- an inode of a node

used_type : (k : NodeKind) → is_number 0 (pos (type_in k)) ≡ false
used_type (Directory slots) = refl
used_type (File bytes) = refl
used_type (Device major minor size) = refl

directory_type : (k : NodeKind) → is_number 1 (pos (type_in k)) ≡ plain.is_directory k
directory_type (Directory slots) = refl
directory_type (File bytes) = refl
directory_type (Device major minor size) = refl

pub inode_used : (version : Version) (d : Dinode) (v : Node) → IsInode version d v → is_free d ≡ false
inode_used version d v h = ap (is_number 0) h.kind ∙ used_type v.kind

pub inode_directory : (version : Version) (d : Dinode) (v : Node) → IsInode version d v → is_directory d ≡ plain.is_directory v.kind
inode_directory version d v h = ap (is_number 1) h.kind ∙ directory_type v.kind

pub inode_live : (version : Version) (d : Dinode) (v : Node) → IsInode version d v → is_live d ≡ nat_lt 0 v.count
inode_live version d v h = ap is_positive h.count

pub inode_count : (version : Version) (d : Dinode) (v : Node) → IsInode version d v → count_of d.nlink ≡ v.count
inode_count version d v h = ap count_of h.count

-- ---- slots are read as they are spelled

pub entries_back : (slots : Slots) → in_tree (map entry_of slots) ≡ slots
entries_back [] = refl
entries_back (None ∷ slots) = ap (λ (ss : Slots). None ∷ ss) (entries_back slots)
entries_back (Some s ∷ slots) = ap (λ (ss : Slots). Some s ∷ ss) (entries_back slots)

kind_same : (disk : List (List ℕ)) (d : Dinode) (k : NodeKind) → d.kind ≡ pos (type_in k) → d.size ≡ size_in (version_in disk) k → IsDevice d k → HasContent disk d k → kind_of disk d ≡ k
unfolding kind_by
kind_same disk d (Directory slots) kind size device content =
    kind_of_directory disk d (ap (is_number 1) kind) ∙ ap (λ (ss : Entries). Directory (in_tree ss)) content ∙ ap (λ (ss : Slots). Directory ss) (entries_back slots)
kind_same disk d (File bytes) kind size device content =
    let no : is_directory d ≡ false = ap (is_number 1) kind in
    let yes : is_number 2 d.kind ≡ true = ap (is_number 2) kind in
    rw (no, yes, content) refl
kind_same disk d (Device major minor s) kind size device content =
    let no : is_directory d ≡ false = ap (is_number 1) kind in
    let not : is_number 2 d.kind ≡ false = ap (is_number 2) kind in
    rw (no, not, device.0, device.1, size) refl

module _ (disk : List (List ℕ)) (nodes : Nodes) (records : HoldsRecords disk nodes) where
  pub inode_at : (i : ℕ) (v : Node) → nodes i ≡ Some v → IsInode (version_in disk) (inode_of disk i) v
  inode_at i v is = let r = records.range i v is in subst (IsRecord (version_in disk) (inode_of disk i)) is (records.record_of i r.0 r.1)

  pub node_there : (i : ℕ) (v : Node) → nodes i ≡ Some v → is_node disk i ≡ true
  node_there i v is =
      let r = records.range i v is in
      node_from disk i (record { low = r.0; bound = r.1; used = inode_used (version_in disk) (inode_of disk i) v (inode_at i v is) })

  -- an inode in use that isn't a node's has no name
  pub unused_count : (i : ℕ) → is_node disk i ≡ true → nodes i ≡ None → (inode_of disk i).nlink ≡ pos 0
  unused_count i h none =
      let is = node_is disk i h in
      let u = subst (IsRecord (version_in disk) (inode_of disk i)) none (records.record_of i is.low is.bound) in
      u.unnamed (λ e. false≢true (sym is.used ∙ ap (is_number 0) e))

  -- so a live one is a node's
  pub node_of_inode : (i : ℕ) → is_node disk i ≡ true → is_live (inode_of disk i) ≡ true → (v : Node) × (nodes i ≡ Some v)
  node_of_inode i h live = elim (some_or (nodes i)) [
    | inr some ↦ some
    | inl none ↦ absurd (false≢true (sym (ap is_positive (unused_count i h none)) ∙ live))
  ]

  pub no_inode : (i : ℕ) → nodes i ≡ None → node_of disk i ≡ None
  no_inode i none = elim (either (is_node disk i)) [
    | inr y ↦ no_node disk i y
    | inl y ↦ dead_node disk i (ap is_positive (unused_count i y none))
  ]

  module _ (contents : HoldsContents disk nodes) where
    -- the tree's nodes are the live ones
    pub node_same : (i : ℕ) → node_of disk i ≡ live_part (nodes i)
    node_same i = elim (some_or (nodes i)) [
      | inl none ↦ no_inode i none ∙ (rw none refl)
      | inr some ↦ of_node some.0 some.1 (either (nat_lt 0 some.0.count))
    ]
      where
        of_node : (v : Node) → nodes i ≡ Some v → (nat_lt 0 v.count ≡ true) ⊎ (nat_lt 0 v.count ≡ false) → node_of disk i ≡ live_part (nodes i)
        of_node v is (inr dead) = dead_node disk i (inode_live (version_in disk) (inode_of disk i) v (inode_at i v is) ∙ dead) ∙ (rw (is, dead) refl)
        of_node v is (inl live) =
            let d = inode_at i v is in
            let kind : kind_of disk (inode_of disk i) ≡ v.kind = kind_same disk (inode_of disk i) v.kind d.kind d.size d.device (contents.content i v is) in
            live_node disk i (node_there i v is) (inode_live (version_in disk) (inode_of disk i) v d ∙ live)
            ∙ ap (λ (n : ℕ). Some (record { count = n; kind = kind_of disk (inode_of disk i) })) (inode_count (version_in disk) (inode_of disk i) v d)
            ∙ ap (λ (k : NodeKind). Some (record { count = v.count; kind = k })) kind
            ∙ (rw (is, live) refl)

    pub folder_same : (i : ℕ) → folder (node_of disk i) ≡ folder (nodes i)
    folder_same i = ap (λ (o : Option Node). folder o) (node_same i) ∙ live_folder (nodes i)

    pub links_same : (i : ℕ) → links_of (node_of disk i) ≡ links_of (nodes i)
    links_same i = ap (λ (o : Option Node). links_of o) (node_same i) ∙ live_links (nodes i)

    -- the nodes of the tree in a list
    pub nodes_listed : (n : ℕ) → first_nodes disk n ≡ live_nodes nodes n
    unfolding first_nodes_by live_nodes
    nodes_listed zero = refl
    nodes_listed (suc n) =
        ap (λ (xs : List (Option Node)). xs ++ node_of disk n ∷ []) (nodes_listed n) ∙ ap (λ (o : Option Node). live_nodes nodes n ++ o ∷ []) (node_same n)
