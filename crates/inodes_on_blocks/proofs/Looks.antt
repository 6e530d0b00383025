-- What a search of a directory's blocks finds is what its node has: under a name, and past its first two entries.
use Rattle.inodes_on_blocks.proofs.Vocabulary.{◌≡◌, ◌≢◌, ⊎_elim, ℕ, zero, suc, ◌+◌, ◌-◌, ◌*◌, ◌/◌, ◌<◌, ◌≤◌, nat_lt, ◌&&◌, ◌||◌, not, ℤ, pos, Bool, true, false, List, [], ◌∷◌, length, map, drop, get_or, Option, Some, None, is_some, refl, sym, ◌∙◌, ap, subst, arith, if◌then◌else◌, cases_lt, le-leb, get_or_append_left, get_or-append_right, get_or-map, none-some, Free, Used, Found, is_sought, number_of, IsFirst, Aim, Named, block_count, slot_count, is_used, Super, Version, Dinode, Dirent, sizes_of, block_len, inode_of, is_free, content_block, HoldsAt, HasContent, entry_of, size_in, type_in, Slot, Node, NodeKind, Directory, File, Device, any_used, Name, first_slot, live_directory, look, same_name, same_pointwise, is_empty_kind, is_empty_node, has_name, IsFirstNamed, IsKnown, number_found, learned, first_slots_by as first_slots, slot_by as slot_on, largest_size, most_slots, dirents_per_block_of, dirent_len_of, most_blocks}
use Rattle.directory.proofs.Indexed.{searched, searched_right}
use Rattle.directory.specs.Laws.{AreSlots, slot_at}
use Rattle.directory.specs.Programs.{Entry, Searched, is_number, is_positive, is_directory, is_live_directory}
use Rattle.directory.specs.Slots.{is_named}
use Rattle.fs_machine.specs.InMemory.{IndexState}
use Rattle.inodes_on_blocks.specs.Indexes.{IsIndexOf, slot_read}
use Rattle.inodes_on_blocks.proofs.ImageNodes.{length_slots}
use Rattle.image_versions.proofs.Places.{count_slots, hold_most, in_block, in_range, in_their_content, lie_apart, take_blocks, whole_blocks}
use Rattle.std.proofs.lemmas.List.{get_or_past}
use Rattle.plain_tree.specs.Steps as steps
use Rattle.plain_tree.specs.Tree as tree
use Rattle.plain_tree.specs.Tree.{slots_of}

-- ---- slots as they are read

-- these slots are read so, one by one
abbrev pub AreRead : (ℕ → Option Dirent) → List (Option Slot) → Type 0
AreRead read slots = (s : ℕ) → s < length slots → read s ≡ entry_of (get_or slots s None)

behind : (read : ℕ → Option Dirent) (x : Option Slot) (slots : List (Option Slot)) → AreRead read (x ∷ slots) → AreRead (λ s. read (suc s)) slots
behind read x slots are = λ s lt. are (suc s) (omega (arith, lt))

first : (read : ℕ → Option Dirent) (x : Option Slot) (slots : List (Option Slot)) → AreRead read (x ∷ slots) → read 0 ≡ entry_of x
first read x slots are = are 0 (omega arith)

-- ---- under a name

misses : (x : Option Slot) (slots : List (Option Slot)) (e : Name) → is_named e (entry_of x) ≡ false → first_slot (x ∷ slots) e ≡ first_slot slots e
unfolding first_slot
misses None slots e h = refl
misses (Some s) slots e h = let same : same_name s.name e ≡ false = sym (same_pointwise s.name e) ∙ h in rw same refl

hits : (x : Option Slot) (slots : List (Option Slot)) (e : Name) → is_named e (entry_of x) ≡ true → first_slot (x ∷ slots) e ≡ Some (number_of (entry_of x))
unfolding first_slot
hits None slots e h = cc
hits (Some s) slots e h = let same : same_name s.name e ≡ true = sym (same_pointwise s.name e) ∙ h in rw same refl

none_named : (slots : List (Option Slot)) (e : Name) (read : ℕ → Option Dirent) → AreRead read slots → ((s : ℕ) → s < length slots → is_named e (read s) ≡ false) → first_slot slots e ≡ None
unfolding first_slot
none_named [] e read are none = refl
none_named (x ∷ slots) e read are none =
    misses x slots e (ap (is_named e) (sym (first read x slots are)) ∙ none 0 (omega arith))
    ∙ none_named slots e (λ s. read (suc s)) (behind read x slots are) (λ s lt. none (suc s) (omega (arith, lt)))

first_named : (slots : List (Option Slot)) (e : Name) (read : ℕ → Option Dirent) (k : ℕ) → AreRead read slots → k < length slots → is_named e (read k) ≡ true → ((s : ℕ) → s < k → is_named e (read s) ≡ false)
    → first_slot slots e ≡ Some (number_of (read k))
first_named [] e read k are lt is none = absurd (omega (arith, lt))
first_named (x ∷ slots) e read zero are lt is none =
    hits x slots e (ap (is_named e) (sym (first read x slots are)) ∙ is) ∙ ap (λ (y : Option Dirent). Some (number_of y)) (sym (first read x slots are))
first_named (x ∷ slots) e read (suc k) are lt is none =
    misses x slots e (ap (is_named e) (sym (first read x slots are)) ∙ none 0 (omega arith))
    ∙ first_named slots e (λ s. read (suc s)) k (behind read x slots are) (omega (arith, lt)) is (λ s l. none (suc s) (omega (arith, l)))

-- the first slot of that name has the number that the node has
pub found_is : (slots : List (Option Slot)) (e : Name) (read : ℕ → Option Dirent) (o : Option Found) → AreRead read slots → IsFirst (Named e) read (length slots) o → number_found o ≡ first_slot slots e
found_is slots e read None are is = sym (none_named slots e read are is)
found_is slots e read (Some f) are is = ap (λ (n : ℕ). Some n) is.2 ∙ sym (first_named slots e read f.slot are is.0 is.1 is.3)

-- and it is the first of that name
named_as : (e : Name) (x : Option Slot) → has_name e x ≡ is_named e (entry_of x)
named_as e None = refl
named_as e (Some s) = sym (same_pointwise s.name e)

pub slot_is : (slots : List (Option Slot)) (e : Name) (read : ℕ → Option Dirent) (o : Option Found) → AreRead read slots → IsFirst (Named e) read (length slots) o → IsKnown (learned e o) (Some (record { count = 0; kind = Directory slots }))
slot_is slots e read None are is = tt
slot_is slots e read (Some f) are is =
    let same : (s : ℕ) → s < length slots → has_name e (get_or slots s None) ≡ is_named e (read s) = (λ s lt. named_as e (get_or slots s None) ∙ ap (is_named e) (sym (are s lt))) in
    record { below = is.0; is = same f.slot is.0 ∙ is.1; first = λ q low. same q (let top = is.0 in omega (arith, low, top)) ∙ is.3 q low }

-- ---- used slots

pub used_as : (x : Option Slot) → is_used (entry_of x) ≡ steps.is_used x
used_as None = refl
used_as (Some s) = refl

none_used : (slots : List (Option Slot)) (read : ℕ → Option Dirent) → AreRead read slots → ((s : ℕ) → s < length slots → is_used (read s) ≡ false) → any_used slots ≡ false
unfolding any_used
none_used [] read are none = refl
none_used (x ∷ slots) read are none =
    let here : steps.is_used x ≡ false = sym (used_as x) ∙ ap is_used (sym (first read x slots are)) ∙ none 0 (omega arith) in
    rw here (none_used slots (λ s. read (suc s)) (behind read x slots are) (λ s lt. none (suc s) (omega (arith, lt))))

some_used : (slots : List (Option Slot)) (read : ℕ → Option Dirent) (k : ℕ) → AreRead read slots → k < length slots → is_used (read k) ≡ true → any_used slots ≡ true
unfolding any_used
some_used [] read k are lt is = absurd (omega (arith, lt))
some_used (x ∷ slots) read zero are lt is =
    let here : steps.is_used x ≡ true = sym (used_as x) ∙ ap is_used (sym (first read x slots are)) ∙ is in
    rw here refl
some_used (x ∷ slots) read (suc k) are lt is = either (steps.is_used x) (some_used slots (λ s. read (suc s)) k (behind read x slots are) (omega (arith, lt)) is)
  where
    either : (b : Bool) → any_used slots ≡ true → (b || any_used slots) ≡ true
    either true h = refl
    either false h = h

-- past the first two
past : (slots : List (Option Slot)) (read : ℕ → Option Dirent) (o : Option Found) → AreRead read slots → IsFirst Entry read (length slots) o → not (is_some o) ≡ not (any_used (drop 2 slots))
unfolding any_used
past [] read None are is = refl
past [] read (Some f) are is = absurd (let lt = is.0 in omega (arith, lt))
past (x ∷ []) read None are is = refl
past (x ∷ []) read (Some f) are is = absurd (early read f.slot (is.0) is.1)
  where
    early : (read : ℕ → Option Dirent) (k : ℕ) → k < 1 → is_sought Entry k (read k) ≡ true → ⊥
    early read zero lt is = cc
    early read (suc k) lt is = absurd (omega (arith, lt))
past (x ∷ y ∷ slots) read None are is =
    ap not (sym (none_used slots (λ s. read (suc (suc s))) (behind (λ s. read (suc s)) y slots (behind read x (y ∷ slots) are))
    (λ s lt. sym (ap (λ (b : Bool). b && is_used (read (suc (suc s)))) (le-leb 2 (suc (suc s)) (omega arith))) ∙ is (suc (suc s)) (omega (arith, lt)))))
past (x ∷ y ∷ slots) read (Some f) are is = ap not (sym (by f.slot is.0 is.1))
  where
    by : (k : ℕ) → k < length (x ∷ y ∷ slots) → is_sought Entry k (read k) ≡ true → any_used slots ≡ true
    by zero lt is = cc
    by (suc zero) lt is = cc
    by (suc (suc k)) lt is =
        some_used slots (λ s. read (suc (suc s))) k (behind (λ s. read (suc s)) y slots (behind read x (y ∷ slots) are)) (omega (arith, lt))
        (sym (ap (λ (b : Bool). b && is_used (read (suc (suc k)))) (le-leb 2 (suc (suc k)) (omega arith))) ∙ is)

is_entry : (x : Option Slot) → entry_of x ≢ None
is_entry None e = none-some Free (sym e)
is_entry (Some s) e = none-some (Used s.number s.name) (sym e)

-- ---- an inode that holds a directory

-- no more slots fit in a content
pub slots_few : (version : Version) (n : ℕ) → dirent_len_of version * n ≤ largest_size → n ≤ most_slots version
slots_few version n fits =
    ⊎_elim
    (λ (more : most_slots version < n).
    let wide = (in_range version).2 in
    let all = hold_most version in
    let past = lie_apart version (most_slots version) n more in
    absurd (omega (arith, fits, wide, all, past)))
    (λ (few : n ≤ most_slots version). few)
    (cases_lt (most_slots version) n)

read_slots : (version : Version) (disk : List (List ℕ)) (d : Dinode) (n s : ℕ) (x : Option Dirent) → s < n → get_or (first_slots version disk d n) s x ≡ slot_on version disk d s
unfolding first_slots
read_slots version disk d zero s x lt = absurd (omega (arith, lt))
read_slots version disk d (suc n) s x lt =
    let long = length_slots version disk d n in
    ⊎_elim
    (λ (low : s < n). get_or_append_left (first_slots version disk d n) (slot_on version disk d n ∷ []) x s (omega (arith, long, low)) ∙ read_slots version disk d n s x low)
    (λ (high : n ≤ s).
    let last : s ≡ n = omega (arith, lt, high) in
    let at : s - length (first_slots version disk d n) ≡ 0 = omega (arith, long, last) in
    get_or-append_right (first_slots version disk d n) (slot_on version disk d n ∷ []) (length (first_slots version disk d n)) s x refl (omega (arith, long, last))
    ∙ ap (λ (k : ℕ). get_or (slot_on version disk d n ∷ []) k x) at ∙ ap (slot_on version disk d) (sym last))
    (cases_lt s n)

and_swap : (a b : Bool) → (a && b) ≡ (b && a)
and_swap true true = refl
and_swap true false = refl
and_swap false true = refl
and_swap false false = refl

pub no_directory : (count : ℕ) → (nat_lt 0 count && false) ≡ true → ⊥
no_directory count h = by (nat_lt 0 count) h
  where
    by : (b : Bool) → (b && false) ≡ true → ⊥
    by true h = cc
    by false h = cc

module _ (sizes : Super) (disk : List (List ℕ)) (at : sizes_of disk ≡ sizes) (owner : ℕ → ℕ) (i : ℕ) (v : Node) (holds : HoldsAt disk owner i (Some v)) (used : is_free (inode_of disk i) ≡ false) where
  abbrev d : Dinode
  d = inode_of disk i

  abbrev version : Version
  version = sizes.version

  abbrev content : ℕ → List ℕ
  content k = content_block disk d k

  -- a directory, as its record says
  pub directory_is : is_directory d ≡ tree.is_directory v.kind
  directory_is = ap (is_number 1) holds.inode.kind ∙ by v.kind
    where
      by : (k : NodeKind) → is_number 1 (pos (type_in k)) ≡ tree.is_directory k
      by (Directory slots) = refl
      by (File bytes) = refl
      by (Device major minor size) = refl

  -- and a live one
  pub live_is : is_live_directory d ≡ live_directory (Some v)
  live_is =
      ap (λ (b : Bool). b && is_positive d.nlink) directory_is ∙ ap (λ (z : ℤ). tree.is_directory v.kind && is_positive z) holds.inode.count
      ∙ and_swap (tree.is_directory v.kind) (nat_lt 0 v.count)

  -- its blocks show its slots
  pub shown : (slots : List (Option Slot)) → v.kind ≡ Directory slots → AreRead (slot_at version content) slots × (slot_count version d ≡ length slots)
  unfolding slot_on
  shown slots is =
      let size : d.size ≡ dirent_len_of version * length slots = subst (λ (z : Super). d.size ≡ size_in z.version v.kind) at holds.inode.size ∙ ap (size_in version) is in
      let has : first_slots version disk d (d.size / dirent_len_of version) ≡ map entry_of slots =
      subst (λ (z : Super). first_slots z.version disk d (d.size / dirent_len_of z.version) ≡ map entry_of slots) at (subst (HasContent disk d) is holds.content) in
      let many : d.size / dirent_len_of version ≡ length slots = ap (λ (n : ℕ). n / dirent_len_of version) size ∙ (count_slots version (length slots)).0 in
      let limit = (holds.room used).limit in
      let few : length slots ≤ most_slots version = slots_few version (length slots) (omega (arith, size, limit)) in (
        λ s lt.
            sym (read_slots version disk d (d.size / dirent_len_of version) s None (omega (arith, many, lt))) ∙ ap (λ (xs : List (Option Dirent)). get_or xs s None) has ∙ get_or-map entry_of slots s None None lt,
        omega (arith, many, few),
      )

  -- they are the slots that the node has
  pub read_is : (slots : List (Option Slot)) → v.kind ≡ Directory slots → AreRead (slot_read (Some v)) slots
  read_is slots is s lt = ap (λ (k : NodeKind). entry_of (get_or (slots_of k) s None)) is

  pub are_slots : (slots : List (Option Slot)) → v.kind ≡ Directory slots → AreSlots version (slot_count version d) content (slot_read (Some v))
  are_slots slots is =
      let same : slot_count version d ≡ length slots = (shown slots is).1 in
      record {
        shown = λ s lt. (shown slots is).0 s (omega (arith, lt, same)) ∙ sym (read_is slots is s (omega (arith, lt, same)));
        entries = λ s lt. is_entry (get_or (slots_of v.kind) s None);
        beyond = λ s le. ap (λ (x : Option Slot). is_used (entry_of x)) (ap (λ (k : NodeKind). get_or (slots_of k) s None) is ∙ get_or_past slots s None (omega (arith, le, same)));
      }

  -- by an index that is right
  module _ (index : IndexState) (right : IsIndexOf version index (Some v)) where
    abbrev pub search_finds : Aim → Searched
    search_finds aim = searched version aim (record { inode = d; index = index }) content

    pub is_first : (aim : Aim) (slots : List (Option Slot)) → v.kind ≡ Directory slots → IsFirst aim (slot_read (Some v)) (length slots) (search_finds aim).found
    is_first aim slots is =
        subst (λ (n : ℕ). IsFirst aim (slot_read (Some v)) n (search_finds aim).found) (shown slots is).1
        (searched_right version content (record { inode = d; index = index }) (slot_read (Some v)) (are_slots slots is) right aim).0

    -- it stays right with the blocks that were read
    index_of : (aim : Aim) (slots : List (Option Slot)) → v.kind ≡ Directory slots → IsIndexOf version (search_finds aim).index (Some v)
    index_of aim slots is = (searched_right version content (record { inode = d; index = index }) (slot_read (Some v)) (are_slots slots is) right aim).1

    pub still_right : (aim : Aim) → tree.is_directory v.kind ≡ true → IsIndexOf version (search_finds aim).index (Some v)
    still_right aim directory = by v.kind refl
      where
        by : (k : NodeKind) → v.kind ≡ k → IsIndexOf version (search_finds aim).index (Some v)
        by (Directory slots) is = index_of aim slots is
        by (File bytes) is = let no : false ≡ true = ap tree.is_directory (sym is) ∙ directory in cc
        by (Device major minor size) is = let no : false ≡ true = ap tree.is_directory (sym is) ∙ directory in cc

    -- what a live directory finds
    pub name_found : (e : Name) → live_directory (Some v) ≡ true → number_found (search_finds (Named e)).found ≡ look (λ j. Some v) i e
    unfolding look
    name_found e live = by v.kind refl ∙ sym (ap (λ (b : Bool). if b then first_slot (slots_of v.kind) e else None) live)
      where
        by : (k : NodeKind) → v.kind ≡ k → number_found (search_finds (Named e)).found ≡ first_slot (slots_of v.kind) e
        by (Directory slots) is = found_is slots e (slot_read (Some v)) (search_finds (Named e)).found (read_is slots is) (is_first (Named e) slots is) ∙ ap (λ (k : NodeKind). first_slot (slots_of k) e) (sym is)
        by (File bytes) is = absurd (no_directory v.count (ap (λ (k : NodeKind). nat_lt 0 v.count && tree.is_directory k) (sym is) ∙ live))
        by (Device major minor size) is = absurd (no_directory v.count (ap (λ (k : NodeKind). nat_lt 0 v.count && tree.is_directory k) (sym is) ∙ live))

    -- and its slot
    pub slot_found : (e : Name) → live_directory (Some v) ≡ true → IsKnown (learned e (search_finds (Named e)).found) (Some v)
    slot_found e live = by v.kind refl
      where
        by : (k : NodeKind) → v.kind ≡ k → IsKnown (learned e (search_finds (Named e)).found) (Some v)
        by (Directory slots) is = of_slots (search_finds (Named e)).found (slot_is slots e (slot_read (Some v)) (search_finds (Named e)).found (read_is slots is) (is_first (Named e) slots is))
          where
            of_slots : (o : Option Found) → IsKnown (learned e o) (Some (record { count = 0; kind = Directory slots })) → IsKnown (learned e o) (Some v)
            of_slots None known = tt
            of_slots (Some f) known = subst (λ (k : NodeKind). IsFirstNamed (slots_of k) e f.slot) (sym is) known
        by (File bytes) is = absurd (no_directory v.count (ap (λ (k : NodeKind). nat_lt 0 v.count && tree.is_directory k) (sym is) ∙ live))
        by (Device major minor size) is = absurd (no_directory v.count (ap (λ (k : NodeKind). nat_lt 0 v.count && tree.is_directory k) (sym is) ∙ live))

    -- whether a directory is empty
    pub entries_found : tree.is_directory v.kind ≡ true → not (is_some (search_finds Entry).found) ≡ is_empty_node (Some v)
    entries_found directory = by v.kind refl
      where
        by : (k : NodeKind) → v.kind ≡ k → not (is_some (search_finds Entry).found) ≡ is_empty_kind v.kind
        by (Directory slots) is = past slots (slot_read (Some v)) (search_finds Entry).found (read_is slots is) (is_first Entry slots is) ∙ ap is_empty_kind (sym is)
        by (File bytes) is = let no : false ≡ true = ap tree.is_directory (sym is) ∙ directory in cc
        by (Device major minor size) is = let no : false ≡ true = ap tree.is_directory (sym is) ∙ directory in cc

  -- what another directory finds
  pub name_lost : (e : Name) → live_directory (Some v) ≡ false → None ≡ look (λ j. Some v) i e
  unfolding look
  name_lost e dead = sym (ap (λ (b : Bool). if b then first_slot (slots_of v.kind) e else None) dead)

  -- what is no directory has no entries
  pub no_entries : tree.is_directory v.kind ≡ false → true ≡ is_empty_node (Some v)
  no_entries other = by v.kind refl
    where
      by : (k : NodeKind) → v.kind ≡ k → true ≡ is_empty_kind v.kind
      by (Directory slots) is = let no : true ≡ false = ap tree.is_directory (sym is) ∙ other in cc
      by (File bytes) is = ap is_empty_kind (sym is)
      by (Device major minor size) is = ap is_empty_kind (sym is)

  -- each block that is searched has a part of the content
  pub block_within : (k : ℕ) → k < block_count version d → block_len * k < d.size
  block_within k lt =
      let wide = (in_range version).4 in
      let here = (in_block version k 0 (omega (arith, wide))).0 in
      let low = (take_blocks version (slot_count version d) k).0 lt in
      let within = (in_their_content version (dirents_per_block_of version * k + 0) d.size (omega (arith, low))).1 in
      subst (λ (n : ℕ). block_len * n < d.size) here within

-- a directory's blocks are at most as many as a content has
pub few_blocks : (version : Version) (d : Dinode) → block_count version d ≤ most_blocks
few_blocks version d = (whole_blocks version).1 (slot_count version d) (omega arith)
