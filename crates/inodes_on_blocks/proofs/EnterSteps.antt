-- A name entered acts when the directory's record is put, after its entry was written. If the directory has no slot
-- left, it acts when its last block is given back.
use Rattle.inode_machine.specs.Rules as rules
use Rattle.inodes_on_blocks.proofs.Vocabulary.{◌≡◌, ⊎_elim, cases_lt, inl, inr, ℕ, zero, suc, ◌+◌, ◌-◌, ◌*◌, ◌/◌, ◌<◌, ◌≤◌, ◌==◌, ◌&&◌, nat_lt, Bool, true, false, List, [], length, drop, max, min, get_or, take, none-some, Option, Some, None, refl, sym, ◌∙◌, ap, subst, arith, if◌then◌else◌, slice_index, nat_tests, Found, slot_for, Version, IsFirst, Unused, block_count, look_at, search_from, slot_count, Used, Dinode, Dirent, Super, IsDirent, spell_dirent, length-spell_dirent, is_free, content_block, HoldsAt, entry_of, size_in, slots_with, Slot, Node, NodeKind, Directory, File, Device, node_or, Name, hart_count, same_or, put_same, put_other, eq_not, eq_self, Ret, bind, Ran, Laws, Machine, P, Wp, Both, joined, Below, Lasts, Handover, ToAct, to_act, may_act, Wp-more, lock_holder, Direct, InTable, BlockInHand, fetch_at, fetch_block, blocks_between, WriteResult, front_of, write_blocks, inode_block, Spent, size, with_contents, most_recorded, Enter, all_used, enter_if, is_full_directory, with_entry, with_record, marked, Inv, IsSpent, World, log_of, tables_of, disk_of, inode_in, enter, entered_to, put_grown, look_last, search_full, Acts, acts, Same, Kept, Knowledge, NothingMore, Finds, Opened, Had, Apart, Has, Emptied, IsOpened, Carry, InHand, Base, Stands, below, Labels, labelled, Keeps, IsChanging, HasSpent, Shows, record_in, version_in, sizes_of, block_len, direct, dirent_len_of, dirents_per_block_of, most_blocks, most_slots}
use Rattle.directory.proofs.Indexed.{else_searched, few_known, searched_from}
use Rattle.directory.proofs.IndexChanges.{index_entered}
use Rattle.directory.specs.Indexes.{first_gap, first_of, index_room, slots_known, with_entry as entered_index}
use Rattle.directory.specs.Programs.{Searched, or_next, search}
use Rattle.directory.specs.Slots as sought
use Rattle.fs_layout.proofs.Entries.{dirent_of-spell}
use Rattle.fs_machine.specs.InMemory.{IndexState, Loaded}
use Rattle.plain_tree.specs.Steps.{first_free}
use Rattle.plain_tree.specs.Tree as tree
use Rattle.plain_tree.specs.Tree.{slots_of}
use Rattle.image_versions.proofs.Places.{hold_most, in_range, most_fit, take_blocks, whole_blocks}
use Rattle.std.proofs.Math.Nat.{mul-le-mul_left}
use Rattle.inode_machine.specs.World as above
use Rattle.inodes_on_blocks.specs.Entering.{seek_full}
use Rattle.inodes_on_blocks.specs.Indexes.{IsIndexOf, slot_read}
use Rattle.inodes_on_blocks.specs.Storing.{index_in, loaded_in, reindexed, with_index}
use Rattle.inodes_on_blocks.proofs.Basics.{kept_same, kept_then, HasBlocks, blocks_start, blocks_end, extra, extra_missing, below_laws, base_marked, kept_disk, marked_same, lock_range, seen_dinode, seen_sizes, spent_stays, TakesStep, s-here}
use Rattle.inodes_on_blocks.proofs.Changing.{Changing, left_same, changing_start, changing_then}
use Rattle.inodes_on_blocks.proofs.ContentReads.{touches, touches_are}
use Rattle.inodes_on_blocks.proofs.DirectorySearches.{s-search}
use Rattle.inodes_on_blocks.proofs.EntryParts.{directory_of, entry_makes, slot_front, slot_place}
use Rattle.inodes_on_blocks.proofs.FillSteps.{index_here, record_here, takes_write}
use Rattle.inodes_on_blocks.proofs.FreeSlots.{entry_bytes, entry_is, new_slot, none_left, read_here, read_other, slot_below, slot_of, slot_unused, some_left}
use Rattle.inodes_on_blocks.proofs.FullSteps.{Rests, s-full}
use Rattle.inodes_on_blocks.proofs.GrownSteps.{record_same, s-grown}
use Rattle.inodes_on_blocks.proofs.LocateSteps.{Between, Fits}
use Rattle.inodes_on_blocks.proofs.Looks as looks
use Rattle.inodes_on_blocks.proofs.NumberPuts.{sized}
use Rattle.inodes_on_blocks.proofs.PartSteps.{MakesPart, s-part}
use Rattle.inodes_on_blocks.proofs.StatSteps.{in_use}

-- a slot is in one block
one_block : (version : Version) (slot : ℕ) → blocks_between (dirent_len_of version * slot) (dirent_len_of version * slot + dirent_len_of version) ≡ 1
one_block version slot =
    let at : ℕ = dirent_len_of version * slot in
    let upto : ℕ = dirent_len_of version * slot + dirent_len_of version in
    let room = (slot_place version slot).1 in
    let wide = (in_range version).2 in
    let some : nat_lt at upto ≡ true = grind (arith, nat_tests, wide) in
    ap (λ (t : Bool). if t then ((upto - 1) / block_len + 1) - at / block_len else 0) some ∙ (let e : ((upto - 1) / block_len + 1) - at / block_len ≡ 1 = omega (arith, room, wide) in e)

-- a free slot that the index finds is one of the directory's
abbrev slot_or : ℕ → Option Found → ℕ
slot_or count None = count
slot_or count (Some f) = f.slot

free_low : (version : Version) (d : Dinode) (x : IndexState) (f : Found) → first_of version Unused d x ≡ Some f → f.slot < slot_count version d
unfolding first_of
free_low version d x f is = by (first_gap 0 (take index_room x.slots)) (nat_lt (first_gap 0 (take index_room x.slots)) (min (slots_known version x) (slot_count version d))) refl is
  where
    by : (gap : ℕ) (b : Bool) → nat_lt gap (min (slots_known version x) (slot_count version d)) ≡ b → (if b then Some (record { slot = gap; number = 0 }) else None) ≡ Some f → f.slot < slot_count version d
    by gap true low same = let there : gap ≡ f.slot = ap (slot_or 0) same in grind (arith, nat_tests, low, there)
    by gap false low same = absurd (none-some f same)

-- so many slots are in two blocks at most
blocks_few : (version : Version) (n : ℕ) → dirents_per_block_of version * n ≤ index_room → n ≤ 2
blocks_few version n few =
    ⊎_elim
    (λ (more : 2 < n).
    let wide = (in_range version).4 in
    let past = mul-le-mul_left (dirents_per_block_of version) more in
    absurd (omega (arith, few, wide, past)))
    (λ (low : n ≤ 2). low)
    (cases_lt 2 n)

-- a hart knows an index that is right, in place of what it had
indexed_base : (h n : ℕ) (c : Carry) (x : IndexState) (r : World) (g : above.World) → IsIndexOf (log_of r).sizes.version x (g.disk n) → Base h r g c → Base h r g (with_index c n x)
indexed_base h n c x r g right base = record {
  free = base.free;
  taken = base.taken;
  through = base.through;
  inodes = λ i z. elim (same_or i n) [
    | inl e ↦ subst (λ (k : ℕ). InHand h k (with_index c n x k) r g) (sym e) (here (subst (λ (k : ℕ). InHand h k (c k) r g) e (base.inodes i z)))
    | inr ne ↦ subst (λ (o : Had). InHand h i o r g) (sym (put_other c n (reindexed x (c n)) i ne)) (base.inodes i z)
  ];
  lent = base.lent;
}
  where
    opened : (y : Loaded) (k : Knowledge) → IsOpened h n (Has y k) g → IsOpened h n (Has (record y { index = x }) k) g
    opened y NothingMore was = tt
    opened y (Finds e s) was = tt
    opened y (Opened fd offset) was = was

    with_it : (had : Had) → InHand h n had r g → InHand h n (reindexed x had) r g
    with_it Apart was = was
    with_it Emptied was = was
    with_it (Has y k) was = record { keeps = was.keeps; loaded_is = (was.loaded_is.0, was.loaded_is.1, was.loaded_is.2, right); holds = was.holds; opened = opened y k was.opened }

    here : InHand h n (c n) r g → InHand h n (with_index c n x n) r g
    here was = subst (λ (o : Had). InHand h n o r g) (sym (put_same c n (reindexed x (c n)))) (with_it (c n) was)

module _ (sizes : Super) (l : Labels) (laws : Laws (labelled sizes.version l)) (keeps : Keeps l) (h : ℕ) (lt : h < hart_count) (n : ℕ) (e : Name) (q : ℕ) (m : above.EntryResult → Option above.Mark) (s : Spent) (bitmap : s.bitmap ≡ true)
    (named : IsSpent sizes s (inode_block sizes.inodestart n)) (room : size s + 2 ≤ most_recorded) (c : Carry) (B : List l.Step → Type 0) (C : above.EntryResult → List l.Step → above.World → Type 0) (lasts : Lasts (labelled sizes.version l) h B C) where
  abbrev W : Type 0
  W = Both World above.World

  abbrev M : Machine
  M = joined (labelled sizes.version l) (below sizes)

  abbrev Q : Handover above.EntryResult Carry → List l.Step → W → Type 0
  Q r fs u = Below (labelled sizes.version l) (below sizes) h C r fs u × HasSpent sizes h (with_contents 2 s) u.real

  abbrev Todo : List l.Step → above.World → Type 0
  Todo = ToAct (labelled sizes.version l) (below sizes) laws (below_laws sizes l keeps) h B (Enter n e q) m C lasts

  may_at : (fs : List l.Step) (g : above.World) → Todo fs g → Inv g → rules.May sizes.version h (Enter n e q) g
  may_at fs g todo inv = may_act (labelled sizes.version l) (below sizes) laws (below_laws sizes l keeps) h B (Enter n e q) m C lasts fs g todo inv

  changes : (fs : List l.Step) (g : above.World) → Todo fs g → Inv g → IsChanging h n g
  changes fs g todo inv = let may = may_at fs g todo inv in record { lock = may.1.0.0; joined = may.1.0.1 }

  asks : (g : above.World) → rules.May sizes.version h (Enter n e q) g → IsChanging h n g × ((g.desks h).lender ≡ None)
  asks g asked = (record { lock = asked.1.0.0; joined = asked.1.0.1 }, asked.0)

  abbrev bytes : List ℕ
  bytes = spell_dirent sizes.version (Used q e)

  abbrev act : Option Acts
  act = acts (Enter n e q) above.Room m

  -- the program if the record is x
  abbrev goes_in : Dinode → IndexState → ℕ → P M (Handover above.EntryResult Carry)
  goes_in x y slot =
      if nat_lt slot (most_slots sizes.version) then bind (write_blocks (blocks_between (dirent_len_of sizes.version * slot) (dirent_len_of sizes.version * slot + length bytes)) sizes (dirent_len_of sizes.version * slot) bytes x) (entered_to sizes n e q c m y slot)
      else Ret (record { answer = above.NoSlot; carry = with_index c n y })

  abbrev goes : Dinode → Searched → P M (Handover above.EntryResult Carry)
  goes x o = goes_in x o.index (slot_for sizes.version x o.found)

  -- ---- it takes a step

  ends_take : (y : IndexState) (slot : ℕ) (w : WriteResult) → TakesStep sizes l laws keeps h lt B (entered_to sizes n e q c m y slot w)
  ends_take y slot w = by (w.upto == dirent_len_of sizes.version * (slot + 1))
    where
      by : (t : Bool) → TakesStep sizes l laws keeps h lt B (if t then put_grown (Enter n e q) above.Room m above.InPlace sizes n c (entered_index sizes.version slot bytes y) w else put_grown (Enter n e q) (above.RoomFor 0) m above.NoBlock sizes n c y w)
      by true = tt
      by false = tt

  in_takes : (x : Dinode) (y : IndexState) (slot : ℕ) → nat_lt slot (most_slots sizes.version) ≡ true
      → TakesStep sizes l laws keeps h lt B (goes_in x y slot)
  in_takes x y slot is =
      subst (λ (t : Bool). TakesStep sizes l laws keeps h lt B (if t then bind (write_blocks (blocks_between (dirent_len_of sizes.version * slot) (dirent_len_of sizes.version * slot + length bytes)) sizes (dirent_len_of sizes.version * slot) bytes x) (entered_to sizes n e q c m y slot) else Ret (record { answer = above.NoSlot; carry = with_index c n y }))) (sym is)
      (takes_write sizes l laws keeps h lt B (blocks_between (dirent_len_of sizes.version * slot) (dirent_len_of sizes.version * slot + length bytes)) (dirent_len_of sizes.version * slot) bytes x (entered_to sizes n e q c m y slot) (ends_take y slot))

  block_takes : (d : Dinode) (k : ℕ) (f : BlockInHand → P M Searched) (x : Dinode) → TakesStep sizes l laws keeps h lt B (bind (bind (fetch_block d k) f) (goes x))
  block_takes d k f x = by (nat_lt k direct)
    where
      by : (b : Bool) → TakesStep sizes l laws keeps h lt B (bind (bind (fetch_at d (if b then Direct k else InTable (k - direct))) f) (goes x))
      by true = tt
      by false = tt

  blocks_take : (x : Dinode) (i k : ℕ) (y : IndexState) → nat_lt (slot_count sizes.version x) (most_slots sizes.version) ≡ true → TakesStep sizes l laws keeps h lt B (bind (search_from sizes.version i Unused x k y) (goes x))
  unfolding search_from
  blocks_take x zero k y is = in_takes x y (slot_count sizes.version x) is
  blocks_take x (suc i) k y is = block_takes x k (look_at sizes.version Unused x k y (search_from sizes.version i Unused x (k + 1))) x

  full_takes : (x : Dinode) (i k : ℕ) (y : IndexState) → TakesStep sizes l laws keeps h lt B (bind (search_full sizes.version act i x k y) (goes x))
  unfolding search_full
  full_takes x zero k y = block_takes x k (look_last sizes.version act x k y) x
  full_takes x (suc i) k y = block_takes x k (look_at sizes.version Unused x k y (search_full sizes.version act i x (k + 1))) x

  low_slot : (x : Loaded) (f : Found) → first_of sizes.version Unused x.inode x.index ≡ Some f → nat_lt f.slot (most_slots sizes.version) ≡ true
  low_slot x f is = let low = free_low sizes.version x.inode x.index f is in grind (arith, nat_tests, low)

  seek_takes : (x : Loaded) (t : Bool) → nat_lt (slot_count sizes.version x.inode) (most_slots sizes.version) ≡ t → TakesStep sizes l laws keeps h lt B (bind (if t then search sizes.version Unused x else seek_full sizes.version act x) (goes x.inode))
  seek_takes x false isnt = by (first_of sizes.version Unused x.inode x.index) refl
    where
      by : (o : Option Found) → first_of sizes.version Unused x.inode x.index ≡ o → TakesStep sizes l laws keeps h lt B (bind (or_next o x.index (search_full sizes.version act (most_blocks - 1 - x.index.blocks) x.inode x.index.blocks)) (goes x.inode))
      by (Some f) is = in_takes x.inode x.index f.slot (low_slot x f is)
      by None is = full_takes x.inode (most_blocks - 1 - x.index.blocks) x.index.blocks x.index
  seek_takes x true room_ = by (first_of sizes.version Unused x.inode x.index) refl
    where
      by : (o : Option Found) → first_of sizes.version Unused x.inode x.index ≡ o
          → TakesStep sizes l laws keeps h lt B (bind (or_next o x.index (search_from sizes.version (block_count sizes.version x.inode - x.index.blocks) Unused x.inode x.index.blocks)) (goes x.inode))
      by (Some f) is = in_takes x.inode x.index f.slot (low_slot x f is)
      by None is = blocks_take x.inode (block_count sizes.version x.inode - x.index.blocks) x.index.blocks x.index room_

  -- ---- from v on, with the lock in the hart's hand

  module _ (v : W) (fs : List l.Step) (todo : Todo fs v.seen) (shows : Shows v.real v.seen) (inv : Inv v.seen) (stands : Stands sizes h v.real v.seen c) (knows : HasSpent sizes h s v.real) where
    may : rules.May sizes.version h (Enter n e q) v.seen
    may = may_at fs v.seen todo inv

    mine : lock_holder n (tables_of v.real) ≡ Some h
    mine = sym (shows.tables.places.holders n) ∙ may.1.0.0

    abbrev node : Node
    node = may.1.1.node

    is : v.seen.disk n ≡ Some node
    is = may.1.1.is

    abbrev d : Dinode
    d = inode_in (log_of v.real) n

    hand : InHand h n (c n) v.real v.seen
    hand = stands.0.inodes n mine

    holds : HoldsAt (disk_of (log_of v.real)) v.real.owner n (Some node)
    holds = subst (λ (o : Option Node). HoldsAt (disk_of (log_of v.real)) v.real.owner n o) is hand.holds

    -- the seen disk has the sizes of the program
    at : sizes_of (disk_of (log_of v.real)) ≡ sizes
    at = seen_sizes v.real v.seen shows ∙ stands.1

    used : is_free d ≡ false
    used = in_use (version_in (disk_of (log_of v.real))) d node holds.inode

    directory : (slots : List (Option Slot)) × (node.kind ≡ Directory slots)
    directory = by node.kind refl may.1.1.fits.0
      where
        by : (k : NodeKind) → node.kind ≡ k → tree.is_directory node.kind ≡ true → (slots : List (Option Slot)) × (node.kind ≡ Directory slots)
        by (Directory slots) z dir = (slots, z)
        by (File bytes) z dir = absurd (let no : false ≡ true = ap tree.is_directory (sym z) ∙ dir in cc)
        by (Device major minor size) z dir = absurd (let no : false ≡ true = ap tree.is_directory (sym z) ∙ dir in cc)

    abbrev slots : List (Option Slot)
    slots = directory.0

    size_is : d.size ≡ dirent_len_of sizes.version * length slots
    size_is = subst (λ (z : Super). d.size ≡ size_in z.version node.kind) at holds.inode.size ∙ ap (size_in sizes.version) directory.1

    limit : d.size ≤ most_blocks * block_len
    limit = (holds.room used).limit

    range : (1 ≤ n) × (n < (log_of v.real).sizes.ninodes)
    range = lock_range n h v.real v.seen shows may.1.0.0

    fits : Fits (dirent_len_of sizes.version * length slots) d
    fits = (seen_dinode v.real v.seen shows n range.1, size_is)

    dirent : IsDirent sizes.version (Used q e)
    dirent = entry_is sizes.version q e may.1.2.0 (let few = shows.blocks.seen.good.many_inodes in let top = may.1.2.1 in let same = shows.size in omega (arith, few, top, same)) may.1.3

    long : length bytes ≡ dirent_len_of sizes.version
    long = length-spell_dirent sizes.version (Used q e) dirent

    was_is : node ≡ directory_of node.count slots
    was_is = λ z. record { count = node.count; kind = directory.1 z }

    abbrev content : ℕ → List ℕ
    content k = content_block (disk_of (log_of v.real)) d k

    -- the index that it has
    abbrev known : IndexState
    known = index_in c n

    right_known : IsIndexOf sizes.version known (Some node)
    right_known = subst (λ (z : Super). IsIndexOf z.version known (Some node)) stands.1 (index_here h n c v.real v.seen node hand is)

    abbrev found : Searched
    found = looks.search_finds sizes (disk_of (log_of v.real)) at v.real.owner n node holds used known right_known Unused

    abbrev read : ℕ → Option Dirent
    read = slot_read (Some node)

    first : IsFirst Unused read (length slots) found.found
    first = looks.is_first sizes (disk_of (log_of v.real)) at v.real.owner n node holds used known right_known Unused slots directory.1

    still_right : IsIndexOf sizes.version found.index (Some node)
    still_right = looks.still_right sizes (disk_of (log_of v.real)) at v.real.owner n node holds used known right_known Unused (ap tree.is_directory directory.1)

    are : looks.AreRead read slots
    are = looks.read_is sizes (disk_of (log_of v.real)) at v.real.owner n node holds used slots directory.1

    -- there are no more than a directory may have
    few_slots : length slots ≤ most_slots sizes.version
    few_slots = looks.slots_few sizes.version (length slots) (omega (arith, size_is, limit))

    count_is : slot_count sizes.version d ≡ length slots
    count_is = (looks.shown sizes (disk_of (log_of v.real)) at v.real.owner n node holds used slots directory.1).1

    abbrev entry : Slot
    entry = record { name = e; number = q }

    full_is : is_full_directory sizes.version (Some node) ≡ ((length slots == most_slots sizes.version) && all_used slots)
    full_is = ap (λ (k : NodeKind). (length (slots_of k) == most_slots sizes.version) && all_used (slots_of k)) directory.1

    -- ---- the slot is known

    module _ (slot : ℕ) (past : slot ≤ length slots) (low : slot < most_slots sizes.version) (free : first_free slots entry ≡ slots_with slots slot (Some entry)) (open_ : is_full_directory sizes.version (Some node) ≡ false)
        (y : IndexState) (right : IsIndexOf sizes.version y (Some node)) (unused : sought.is_used (read slot) ≡ false) where
      abbrev after : Node
      after = directory_of node.count (slots_with slots slot (Some entry))

      abbrev grew : ℕ
      grew = max (dirent_len_of sizes.version * length slots) (dirent_len_of sizes.version * suc slot)

      entered_is : with_entry e q node ≡ after
      entered_is = let same = ap (λ (k : NodeKind). first_free (slots_of k) entry) directory.1 ∙ free in λ z. directory_of node.count (same z)

      -- the index with it is right then
      right_then : IsIndexOf sizes.version (entered_index sizes.version slot bytes y) (Some after)
      right_then =
          let spelled = dirent_of-spell sizes.version (Used q e) dirent in
          index_entered sizes.version y read (slot_read (Some after)) slot bytes long right unused (ap sought.is_used spelled) (ap entry_of (read_here slots slot (Some entry) past) ∙ sym spelled)
          (λ p ne. ap entry_of (read_other slots slot (Some entry) p past ne) ∙ sym (ap (λ (k : NodeKind). entry_of (get_or (slots_of k) p None)) directory.1))

      place : dirent_len_of sizes.version * slot / block_len ≡ slot / dirents_per_block_of sizes.version
      place = (slot_place sizes.version slot).2

      makes : MakesPart sizes h n (dirent_len_of sizes.version * slot / block_len) (dirent_len_of sizes.version * length slots) grew (dirent_len_of sizes.version * slot) bytes c (Some node) (directory_of node.count slots) after
      makes =
          subst (λ (k : ℕ). MakesPart sizes h n k (dirent_len_of sizes.version * length slots) grew (dirent_len_of sizes.version * slot) bytes c (Some node) (directory_of node.count slots) after) (sym place)
          (entry_makes sizes h n slot node.count slots (Some entry) (Used q e) c (Some node) past (most_fit sizes.version (suc slot) (omega (arith, low))) refl dirent)

      -- no block was free
      lacks : (x : Dinode) (bs : List ℕ) (u : W) (gs : List l.Step) → Between sizes h n (Todo gs) c (Some node) (sized (dirent_len_of sizes.version * length slots) x) (directory_of node.count slots) (HasBlocks sizes h s bs) u → Fits (dirent_len_of sizes.version * length slots) x → length bs ≤ 1
          → Wp M h B Q (entered_to sizes n e q c m y slot (record { inode = x; upto = dirent_len_of sizes.version * slot })) 3 gs u
      lacks x bs u gs there fit few =
          subst (λ (t : Bool). Wp M h B Q (if t then put_grown (Enter n e q) above.Room m above.InPlace sizes n c (entered_index sizes.version slot bytes y) (record { inode = x; upto = dirent_len_of sizes.version * slot }) else put_grown (Enter n e q) (above.RoomFor 0) m above.NoBlock sizes n c y (record { inode = x; upto = dirent_len_of sizes.version * slot })) 3 gs u)
          (sym (eq_not (dirent_len_of sizes.version * slot) (dirent_len_of sizes.version * (slot + 1)) (λ z. absurd (let wide = (in_range sizes.version).2 in omega (arith, z, wide)))))
          (s-grown sizes l laws keeps h lt n (Enter n e q) m c asks B C lasts (Some node) s named 2 room (above.RoomFor 0) above.NoBlock (directory_of node.count slots) y (subst (λ (x : Node). IsIndexOf sizes.version y (Some x)) was_is right) (dirent_len_of sizes.version * length slots) (dirent_len_of sizes.version * length slots) (dirent_len_of sizes.version * slot) x bs (λ y. tt)
          (λ g asked was.
          ap (λ (o : Option Node). enter_if n e q g (above.RoomFor 0) (is_full_directory sizes.version o)) was ∙ ap (enter_if n e q g (above.RoomFor 0)) open_
          ∙ ap (λ (y : above.World). Ran above.NoBlock y) (sym (record_same g n (directory_of node.count slots) (was ∙ ap (λ (y : Node). Some y) was_is))))
          fit (let below_ = mul-le-mul_left (dirent_len_of sizes.version) past in omega (arith, below_)) (omega (arith, size_is, limit)) (omega (arith, few)) gs u there)

      abbrev upto : ℕ
      upto = dirent_len_of sizes.version * slot + length (front_of (dirent_len_of sizes.version * slot) bytes)

      upto_is : upto ≡ dirent_len_of sizes.version * (slot + 1)
      upto_is = let part : length (front_of (dirent_len_of sizes.version * slot) bytes) ≡ length bytes = ap length (slot_front sizes.version slot bytes long) in omega (arith, part, long)

      -- the entry was written
      ends : (x : Dinode) (bs : List ℕ) (u : W) (gs : List l.Step) → Between sizes h n (Todo gs) c (Some node) (sized grew x) after (HasBlocks sizes h s bs) u → Fits (dirent_len_of sizes.version * length slots) x → length bs ≤ 2
          → Wp M h B Q (entered_to sizes n e q c m y slot (record { inode = x; upto = upto })) 3 gs u
      ends x bs u gs there fit few =
          subst (λ (t : Bool). Wp M h B Q (if t then put_grown (Enter n e q) above.Room m above.InPlace sizes n c (entered_index sizes.version slot bytes y) (record { inode = x; upto = upto }) else put_grown (Enter n e q) (above.RoomFor 0) m above.NoBlock sizes n c y (record { inode = x; upto = upto })) 3 gs u)
          (sym (ap (λ (k : ℕ). k == dirent_len_of sizes.version * (slot + 1)) upto_is ∙ eq_self (dirent_len_of sizes.version * (slot + 1))))
          (s-grown sizes l laws keeps h lt n (Enter n e q) m c asks B C lasts (Some node) s named 2 room above.Room above.InPlace after (entered_index sizes.version slot bytes y) right_then (dirent_len_of sizes.version * length slots) grew upto x bs (λ y. tt)
          (λ g asked was.
          ap (λ (o : Option Node). enter_if n e q g above.Room (is_full_directory sizes.version o)) was ∙ ap (enter_if n e q g above.Room) open_
          ∙ ap (λ (o : Option Node). Ran above.InPlace (with_record g n (Some (with_entry e q (node_or o))))) was ∙ ap (λ (y : Node). Ran above.InPlace (with_record g n (Some y))) entered_is)
          fit (omega (arith, upto_is)) (let top = most_fit sizes.version (suc slot) (omega (arith, low)) in omega (arith, size_is, limit, top)) few gs u there)

      -- the blocks are written, after the slot was found
      writes : (w : W) (gs : List l.Step) → Same h v.real w.real → Kept h v.seen w.seen → Todo gs w.seen → Wp M h B Q (goes_in d y slot) 21 gs w
      unfolding write_blocks
      writes w gs same kept stage =
          s-here sizes l laws keeps h lt B (goes_in d y slot) Q Todo (to_act (labelled sizes.version l) (below sizes) laws (below_laws sizes l keeps) h B (Enter n e q) m C lasts) (in_takes d y slot is_low) 21 gs w stage
          (λ u hs here.
          let same_u = (below_laws sizes l keeps).trans h v.real w.real u.real same here.same in
          let kept_u = kept_then h v.seen w.seen u.seen kept here.kept in
          let changing = changing_then h n c (Some node) d node v.real u.real v.seen u.seen shows here.shows (left_same h v.real u.real same_u) kept_u (changing_start h n c node v.real v.seen stands.0 mine is) in
          written u hs (record {
            changing = subst (λ (y : Dinode × Node). Changing h n c (Some node) y.0 y.1 u.real u.seen) (λ z. (record d { size = size_is z }, was_is z)) changing;
            shows = here.shows;
            stage = here.stage;
            none = same_u.held ∙ stands.0.free;
            at = same_u.sizes ∙ stands.1;
            known = blocks_start sizes h s u.real (spent_stays sizes h s v.real u.real same_u knows);
          }))
        where
          is_low : nat_lt slot (most_slots sizes.version) ≡ true
          is_low = grind (arith, nat_tests, low)

          cost : (t : ℕ) → length {A = ℕ} [] + extra true [] t ≤ 1
          cost t = let one = extra_missing [] t refl in omega (arith, one)

          written : (u : W) (hs : List l.Step) → Between sizes h n (Todo hs) c (Some node) (sized (dirent_len_of sizes.version * length slots) d) (directory_of node.count slots) (HasBlocks sizes h s []) u → Wp M h B Q (goes_in d y slot) 21 hs u
          written u hs start =
              subst (λ (t : Bool). Wp M h B Q (if t then bind (write_blocks (blocks_between (dirent_len_of sizes.version * slot) (dirent_len_of sizes.version * slot + length bytes)) sizes (dirent_len_of sizes.version * slot) bytes d) (entered_to sizes n e q c m y slot) else Ret (record { answer = above.NoSlot; carry = with_index c n y })) 21 hs u) (sym is_low)
              (subst (λ (k : ℕ). Wp M h B Q (bind (write_blocks k sizes (dirent_len_of sizes.version * slot) bytes d) (entered_to sizes n e q c m y slot)) 21 hs u) (sym (ap (λ (k : ℕ). blocks_between (dirent_len_of sizes.version * slot) (dirent_len_of sizes.version * slot + k)) long ∙ one_block sizes.version slot))
              (s-part sizes l laws keeps h lt B Q Todo (to_act (labelled sizes.version l) (below sizes) laws (below_laws sizes l keeps) h B (Enter n e q) m C lasts) n changes c (Some node) (directory_of node.count slots) after s bitmap true (dirent_len_of sizes.version * slot / block_len)
              (dirent_len_of sizes.version * length slots) grew (dirent_len_of sizes.version * length slots) 1 (omega (arith, room)) (dirent_len_of sizes.version * slot) bytes
              (entry_bytes sizes.version q e may.1.3) makes
              (write_blocks 0 sizes upto (drop (length (front_of (dirent_len_of sizes.version * slot) bytes)) bytes))
              (entered_to sizes n e q c m y slot) 3 lacks
              (λ x bs y is_ there fit few. ends x bs y is_ there fit (omega (arith, few))) d fits [] (let top = most_fit sizes.version (suc slot) (omega (arith, low)) in let wide = (in_range sizes.version).2 in omega (arith, top, wide)) (cost (slice_index d.addrs direct)) u hs start (λ z. absurd (let no : true ≡ false = z in cc))))

    -- ---- it is sought

    slot_is : (o : Option Found) → slot_for sizes.version d o ≡ slot_of slots o
    slot_is None = count_is
    slot_is (Some f) = refl

    -- if there is room for it
    here_goes : (o : Option Found) (y : IndexState) → IsIndexOf sizes.version y (Some node) → IsFirst Unused read (length slots) o → slot_of slots o < most_slots sizes.version → (w : W) (gs : List l.Step) → Same h v.real w.real → Kept h v.seen w.seen → Todo gs w.seen
        → Wp M h B Q (goes d (record { found = o; index = y })) 21 gs w
    here_goes o y right is_first low w gs same kept stage =
        subst (λ (k : ℕ). Wp M h B Q (goes_in d y k) 21 gs w) (sym (slot_is o))
        (writes (slot_of slots o) (slot_below slots read are o is_first) low (new_slot slots read are o is_first entry) (full_is ∙ some_left slots read are (most_slots sizes.version) o is_first low) y right (unused o is_first) w gs same kept stage)
      where
        unused : (o : Option Found) → IsFirst Unused read (length slots) o → sought.is_used (read (slot_of slots o)) ≡ false
        unused o is_first =
            ap (λ (k : NodeKind). sought.is_used (entry_of (get_or (slots_of k) (slot_of slots o) None))) directory.1 ∙ looks.used_as (get_or slots (slot_of slots o) None) ∙ slot_unused slots read are o is_first

    -- if all slots are there
    full_goes : most_slots sizes.version ≤ length slots → Wp M h B Q (bind (seek_full sizes.version act (record { inode = d; index = known })) (goes d)) 1641 fs v
    full_goes all = by (first_of sizes.version Unused d known) refl
      where
        blocks_are : block_count sizes.version d ≡ most_blocks
        blocks_are =
            let wide = (in_range sizes.version).4 in
            let whole = whole_blocks sizes.version in
            let last = whole.0 (most_blocks - 1) (omega arith) in
            let low = (take_blocks sizes.version (slot_count sizes.version d) (most_blocks - 1)).1 (let exact = count_is in omega (arith, exact, all, last, wide)) in
            let high = whole.1 (slot_count sizes.version d) (let exact = count_is in omega (arith, exact, few_slots)) in
            omega (arith, low, high)

        -- all its blocks are there
        full_size : d.size ≡ most_blocks * block_len
        full_size =
            let exact : length slots ≡ most_slots sizes.version = omega (arith, all, few_slots) in
            size_is ∙ ap (λ (k : ℕ). dirent_len_of sizes.version * k) exact ∙ hold_most sizes.version

        found_low : (f : Found) → found.found ≡ Some f → slot_of slots found.found < most_slots sizes.version
        found_low f z = subst (λ (o : Option Found). slot_of slots o < most_slots sizes.version) (sym z) (let below_ = (subst (IsFirst Unused read (length slots)) z first).0 in omega (arith, below_, few_slots))

        still : found.found ≡ None → (u : W) → Kept h v.seen u.seen → is_full_directory sizes.version (u.seen.disk n) ≡ true
        still none u kept =
            ap (is_full_directory sizes.version) ((kept_disk h n v.seen u.seen kept stands.0.lent hand.keeps).1 ∙ is) ∙ full_is
            ∙ ap (λ (t : Bool). t && all_used slots) (ap (λ (k : ℕ). k == most_slots sizes.version) (let exact : length slots ≡ most_slots sizes.version = omega (arith, all, few_slots) in exact) ∙ eq_self (most_slots sizes.version))
            ∙ none_left slots read are (subst (IsFirst Unused read (length slots)) none first)

        rests : Rests sizes l laws keeps h lt B (Enter n e q) m C lasts above.Room above.NoSlot (λ y. tt) Q n (Some node) (goes d) 21 v holds used mine stands.0.free found
        rests = record {
          some = λ f z w gs same kept stage. here_goes found.found found.index still_right first (found_low f z) w gs same kept stage;
          none = λ z u r gs same kept asked done.
              let stands_r = (below_laws sizes l keeps).base h v.real r v.seen u.seen c same kept stands in
              let g = marked sizes.version h (m above.NoSlot) u.seen in
              let there : IsIndexOf (log_of r).sizes.version found.index (u.seen.disk n) =
              subst (λ (z : Super). IsIndexOf z.version found.index (u.seen.disk n)) (sym stands_r.1) (subst (IsIndexOf sizes.version found.index) (sym ((kept_disk h n v.seen u.seen kept stands.0.lent hand.keeps).1 ∙ is)) still_right) in
              let no : nat_lt (slot_for sizes.version d found.found) (most_slots sizes.version) ≡ false = ap (λ (o : Option Found). nat_lt (slot_for sizes.version d o) (most_slots sizes.version)) z ∙ (let exact = count_is in grind (arith, nat_tests, exact, all)) in
              subst (λ (t : Bool). Wp M h B Q (if t then bind (write_blocks (blocks_between (dirent_len_of sizes.version * slot_for sizes.version d found.found) (dirent_len_of sizes.version * slot_for sizes.version d found.found + length bytes)) sizes (dirent_len_of sizes.version * slot_for sizes.version d found.found) bytes d) (entered_to sizes n e q c m found.index (slot_for sizes.version d found.found)) else Ret (record { answer = above.NoSlot; carry = with_index c n found.index })) 21 gs (record { real = r; seen = g })) (sym no)
              (Wp-more M h (Ret (record { answer = above.NoSlot; carry = with_index c n found.index })) B Q 0 21 gs (record { real = r; seen = g }) (omega arith)
              ((done, (base_marked h r u.seen g (with_index c n found.index) (marked_same sizes.version h (m above.NoSlot) u.seen) asked.0 (indexed_base h n c found.index r u.seen there stands_r.0), stands_r.1)), blocks_end sizes h s [] 2 r (omega arith) (blocks_start sizes h s r (spent_stays sizes h s v.real r same knows))));
          stays = λ z u kept asked. ap (enter_if n e q u.seen above.Room) (still z u kept);
        }

        by : (o : Option Found) → first_of sizes.version Unused d known ≡ o → Wp M h B Q (bind (or_next o known (search_full sizes.version act (most_blocks - 1 - known.blocks) d known.blocks)) (goes d)) 1641 fs v
        by (Some f) z =
            let there : found.found ≡ Some f = ap (λ (o : Option Found). (else_searched o known (searched_from sizes.version (block_count sizes.version d - known.blocks) Unused d content known.blocks)).found) z in
            let is_first = subst (IsFirst Unused read (length slots)) there first in
            Wp-more M h (goes d (record { found = Some f; index = known })) B Q 21 1641 fs v (omega arith)
            (here_goes (Some f) known right_known is_first (let below_ = is_first.0 in omega (arith, below_, few_slots)) v fs ((below_laws sizes l keeps).same h v.real) (kept_same h v.seen) todo)
        by None z =
            let few : known.blocks ≤ 2 = blocks_few sizes.version known.blocks (few_known sizes.version (record { inode = d; index = known }) (let exact = count_is in omega (arith, exact, all, few_slots)) z) in
            let many : block_count sizes.version d - known.blocks ≡ suc (most_blocks - 1 - known.blocks) = omega (arith, blocks_are, few) in
            let there : found ≡ searched_from sizes.version (suc (most_blocks - 1 - known.blocks)) Unused d content known.blocks known =
            ap (λ (o : Option Found). else_searched o known (searched_from sizes.version (block_count sizes.version d - known.blocks) Unused d content known.blocks)) z ∙ ap (λ (k : ℕ). searched_from sizes.version k Unused d content known.blocks known) many in
            Wp-more M h (bind (search_full sizes.version act (most_blocks - 1 - known.blocks) d known.blocks known) (goes d)) B Q (touches (suc (most_blocks - 1 - known.blocks)) 21) 1641 fs v (let steps_ = touches_are (suc (most_blocks - 1 - known.blocks)) 21 in omega (arith, steps_))
            (s-full sizes l laws keeps h lt B (Enter n e q) m C lasts above.Room above.NoSlot (λ y. tt) Q n (Some node) (goes d) 21 v holds used mine stands.0.free (most_blocks - 1 - known.blocks) known.blocks known v fs
            ((below_laws sizes l keeps).same h v.real) (kept_same h v.seen) todo (λ k low. omega (arith, full_size, low, few))
            (subst (Rests sizes l laws keeps h lt B (Enter n e q) m C lasts above.Room above.NoSlot (λ y. tt) Q n (Some node) (goes d) 21 v holds used mine stands.0.free) there rests))

    seeks : (t : Bool) → nat_lt (slot_count sizes.version d) (most_slots sizes.version) ≡ t → Wp M h B Q (bind (if t then search sizes.version Unused (record { inode = d; index = known }) else seek_full sizes.version act (record { inode = d; index = known })) (goes d)) 1641 fs v
    seeks true room_ =
        Wp-more M h (bind (search sizes.version Unused (record { inode = d; index = known })) (goes d)) B Q (touches (block_count sizes.version d) 21) 1641 fs v (let few = looks.few_blocks sizes.version d in let steps_ = touches_are (block_count sizes.version d) 21 in omega (arith, few, steps_))
        (s-search sizes l laws keeps h lt B Q Todo (to_act (labelled sizes.version l) (below sizes) laws (below_laws sizes l keeps) h B (Enter n e q) m C lasts) n (Some node) Unused (goes d) 21 v holds used mine stands.0.free known v fs
        ((below_laws sizes l keeps).same h v.real) (kept_same h v.seen) todo (looks.block_within sizes (disk_of (log_of v.real)) at v.real.owner n node holds used)
        (λ w gs same kept stage. here_goes found.found found.index still_right first (below_all found.found first) w gs same kept stage))
      where
        below_all : (o : Option Found) → IsFirst Unused read (length slots) o → slot_of slots o < most_slots sizes.version
        below_all None z = (let exact = count_is in grind (arith, nat_tests, room_, exact))
        below_all (Some f) z = let low = z.0 in omega (arith, low, few_slots)
    seeks false isnt = full_goes (let exact = count_is in grind (arith, nat_tests, isnt, exact))

    enters : Wp M h B Q (enter sizes n e q c m) 1641 fs v
    enters =
        subst (λ (x : Dinode). Wp M h B Q (bind (if nat_lt (slot_count sizes.version x) (most_slots sizes.version) then search sizes.version Unused (record { inode = x; index = known }) else seek_full sizes.version act (record { inode = x; index = known })) (goes x)) 1641 fs v)
        (sym (record_here h n c v.real v.seen node hand is)) (seeks (nat_lt (slot_count sizes.version d) (most_slots sizes.version)) refl)

  pub enter_acts : (es : List l.Step) (w : W) → Todo es w.seen → Stands sizes h w.real w.seen c → HasSpent sizes h s w.real → Wp M h B Q (enter sizes n e q c m) 1641 es w
  enter_acts es w todo stands knows =
      s-here sizes l laws keeps h lt B (enter sizes n e q c m) Q Todo (to_act (labelled sizes.version l) (below sizes) laws (below_laws sizes l keeps) h B (Enter n e q) m C lasts) (seek_takes (loaded_in c n) (nat_lt (slot_count sizes.version (record_in c n)) (most_slots sizes.version)) refl) 1641 es w todo
      (λ v fs here.
      enters v fs here.stage here.shows here.inv ((below_laws sizes l keeps).base h w.real v.real w.seen v.seen c here.same here.kept stands) (spent_stays sizes h s w.real v.real here.same knows))
