-- The world of a mount.
use Rattle.inodes_on_blocks.proofs.Vocabulary.{◌≡◌, ◌≢◌, inl, inr, ℕ, zero, suc, ◌+◌, ◌<◌, Bool, true, false, ℤ, pos, negsuc, List, is_some, refl, sym, ◌∙◌, ap, subst, arith, Option, Some, None, replicate, get_or-replicate, none-some, nat_lt, ◌==◌, ◌&&◌, ◌||◌, if◌then◌else◌, IsBytes, block_at, sizes_of, SeatState, is_held_by, unused_from, seen_in, sound_unused, seen_on_disk, Node, TreeData, Tree, tree_of, all_slots, settle, hart_count, root, folder, either, eq_not, same_or, inode_of, is_node, is_positive, count_of, node_of, tree_in, LogPart, fresh, is_dead, rests, idle_at_rest, loaded, is_joined, Ghost, AreOnBlocks, World, disk_of, Shows, LoadsShow, ghost_of, Stands, nothing, IsMountable, resting_log, mounted, first_world, MountsShowTheirTrees}
use Rattle.buffer_cache.specs.Lists as lists
use Rattle.group_log.proofs.Fresh.{fresh_good}
use Rattle.plain_tree.specs.Tree.{is_directory, is_live, is_named}
use Rattle.tree_laws.specs.WellFormed as trees
use Rattle.image_tree.specs.Inodes as inodes
use Rattle.image_tree.specs.Images.{kind_of}
use Rattle.inodes_on_blocks.proofs.Basics.{image_at_rest, dead_node, live_node, ninodes_are, no_node, nodes_at, tree_well, other_refs, fresh_tables_show, nothing_loaded, nothing_locked, mounted_ghost, mounted_on, image_shown}
use Rattle.inode_machine.specs.World as above
use Rattle.inodes_on_blocks.specs.ShownTables as tables

-- no buffer is in a hand
none_held : (h n count : ℕ) → lists.count_of (is_held_by h) (unused_from n count) ≡ 0
unfolding unused_from
none_held h n zero = refl
none_held h n (suc count) = let rest = none_held h (n + 1) count in omega (arith, rest)

-- nobody is in a transaction
none_joined : (g : ℕ) → g < 8 → is_joined (replicate 8 None) g ≡ false
none_joined g lt = ap is_some (get_or-replicate 8 g None None lt)

-- a directory in the tree isn't dead
folder_lives : (v : Option Node) → folder v ≢ None → is_dead v ≡ false
folder_lives None some = refl
folder_lives (Some v) some = elim (either (nat_lt 0 v.count)) [
  | inl y ↦ by v.count y
  | inr n ↦ absurd (some (ap (λ (t : Bool). if t && is_directory v.kind then Some (all_slots (Some v)) else None) n))
]
  where
    by : (k : ℕ) → nat_lt 0 k ≡ true → (k == 0) ≡ false
    by k e = eq_not k 0 (λ q. absurd (let z : false ≡ true = sym (ap (λ (n : ℕ). nat_lt 0 n) q) ∙ e in cc z))

positive_count : (z : ℤ) → is_positive z ≡ true → nat_lt 0 (count_of z) ≡ true
positive_count (pos n) h = h
positive_count (negsuc n) h = absurd (let q : false ≡ true = h in cc q)

module _ (disk : List (List ℕ)) (failures : ℕ) (m : IsMountable disk) where
  abbrev seats : List SeatState
  seats = unused_from 0 46

  abbrev members : List (Option ℕ)
  members = replicate 8 None

  abbrev l : LogPart
  l = resting_log disk failures

  abbrev t : Tree
  t = tree_of (tree_in disk)

  abbrev w : above.World
  w = first_world disk

  abbrev r : World
  r = mounted disk failures

  well : trees.IsWellFormed t
  well = tree_well disk m.well

  seen_so : (b : ℕ) → seen_in disk seats b ≡ block_at disk b
  seen_so b = seen_on_disk disk seats b refl

  -- what is seen holds the tree's nodes
  nodes_seen : (n : ℕ) → node_of (disk_of l) n ≡ t.nodes n
  nodes_seen n =
      sym (nodes_at (disk_of l) n) ∙ ap (λ (x : TreeData). (tree_of x).nodes n) (image_shown disk seats members m.whole m.well m.empty seen_so).1

  ghost_is : mounted_ghost disk seats members m.whole m.well m.empty seen_so ≡ ghost_of r.owner r.left w.disk w.lock w.desks
  ghost_is = λ z. record { nodes = λ n. nodes_seen n z; owner = r.owner; left = r.left; changing = λ i. None }

  blocks : AreOnBlocks disk seats (sizes_of disk) members (ghost_of r.owner r.left w.disk w.lock w.desks)
  blocks = subst (λ (g : Ghost). AreOnBlocks disk seats (sizes_of disk) members g) ghost_is (mounted_on disk seats members m.whole m.well m.empty seen_so)

  -- ---- inodes in memory

  root_lives : is_dead (t.nodes root) ≡ false
  root_lives = folder_lives (t.nodes root) well.forest.rooted

  some_inodes : root < t.ninodes
  some_inodes = let d = well.directories 0 (let z : 0 < hart_count = omega arith in z) in subst (λ (n : ℕ). n < t.ninodes) ((image_at_rest disk).cwd 0) (well.range (t.cwd 0) d.node d.is).1

  tables_show : tables.Shows fresh w (loaded fresh)
  tables_show = fresh_tables_show t (λ h lt. (image_at_rest disk).cwd h) some_inodes

  -- of what is referred to nothing is dead, because that is the root
  referred_lives : (n : ℕ) → 0 < w.refs n → is_dead (t.nodes n) ≡ false
  referred_lives n some = elim (same_or n root) [
    | inl e ↦ ap (λ (k : ℕ). is_dead (t.nodes k)) e ∙ root_lives
    | inr ne ↦ absurd (let none = other_refs t (λ h lt. (image_at_rest disk).cwd h) n ne in omega (arith, none, some))
  ]

  loads : LoadsShow (loaded fresh) l w.refs w.lock w.keeper w.disk
  loads = record {
    seen = λ n d e. absurd (none-some d (sym (nothing_loaded n) ∙ e));
    dead = λ n some free loose dead. absurd (let q : false ≡ true = sym (referred_lives n some) ∙ dead in cc q);
    typed = λ n none. nothing_loaded n;
    indexed = λ n d e. absurd (none-some d (sym (nothing_loaded n) ∙ e));
  }

  -- ---- all of it

  shows : Shows r w
  shows = record {
    whole = record { cache = sound_unused disk; log = fresh_good disk seats (sizes_of disk) refl m.placed m.empty };
    runs = λ e. absurd (cc e);
    size = ninodes_are disk;
    tables = tables_show;
    members = λ g lt. sym (none_joined g lt);
    blocks = blocks;
    bytes = λ b within out. subst IsBytes (sym (seen_so b)) (m.bytes b);
    taken = λ b h e. absurd (none-some h e);
    commit = refl;
    news = λ n k e. absurd (none-some k e);
    loads = loads;
    offsets = λ k e at. absurd (none-some e at);
  }

  stands : (h : ℕ) → Stands (sizes_of disk) h r w nothing
  stands h = (
    record {
      free = none_held h 0 46;
      taken = λ b e. none-some h e;
      through = record { commits = λ e. none-some h e; new = λ n e. none-some h e };
      inodes = λ i e. absurd (none-some h (sym (nothing_locked i) ∙ e));
      lent = λ some. absurd (some refl);
    },
    refl,
  )

  -- each node has a name, so none goes when the tree settles
  live_only : (n : ℕ) → is_live (t.nodes n) ≡ false → t.nodes n ≡ None
  live_only n isnt = nodes_at disk n ∙ elim (either (is_node disk n)) [
    | inl y ↦ elim (either (inodes.is_live (inode_of disk n))) [
      | inl live ↦
          let is : t.nodes n ≡ Some (record { count = count_of (inode_of disk n).nlink; kind = kind_of disk (inode_of disk n) }) = nodes_at disk n ∙ live_node disk n y live in
          absurd (let q : false ≡ true = sym isnt ∙ ap (λ (v : Option Node). is_live v) is ∙ positive_count (inode_of disk n).nlink live in cc q)
      | inr dead ↦ dead_node disk n dead
    ]
    | inr none ↦ no_node disk n none
  ]

  settled : settle t ≡ t
  unfolding settle
  settled = λ z. record { ninodes = t.ninodes; nodes = λ n. each n z; files = t.files; cwd = t.cwd; fds = t.fds; holds = t.holds }
    where
      each : (n : ℕ) → (if is_live (t.nodes n) || is_named t n then t.nodes n else None) ≡ t.nodes n
      each n = elim (either (is_live (t.nodes n))) [
        | inl y ↦ rw y refl
        | inr isnt ↦ rw isnt (by (is_named t n) (live_only n isnt))
      ]
        where
          by : (b : Bool) → t.nodes n ≡ None → (if b then t.nodes n else None) ≡ t.nodes n
          by true none = refl
          by false none = sym none

pub mounts_show_their_trees : MountsShowTheirTrees
mounts_show_their_trees disk failures m =
    let rest = image_at_rest disk in
    record {
      shows = shows disk failures m;
      inv = rests (tree_of (tree_in disk)) (tree_well disk m.well) rest.files rest.holds rest.fds;
      idle = idle_at_rest (tree_of (tree_in disk)) rest.holds;
      stands = stands disk failures m;
      settled = settled disk failures m;
    }
