-- A name cleared acts when the directory's record is put, after its slot was put free.
use Rattle.inode_machine.specs.Rules as rules
use Rattle.inodes_on_blocks.proofs.Vocabulary.{◌≡◌, ◌≢◌, ℕ, zero, suc, ◌+◌, ◌-◌, ◌*◌, ◌/◌, ◌%◌, ◌<◌, ◌≤◌, ◌==◌, ◌&&◌, nat_lt, Bool, true, false, List, [], ◌∷◌, length, max, get_or, Option, Some, None, refl, sym, ◌∙◌, ap, subst, arith, if◌then◌else◌, IsSome, option_map, unwrap_or, none-some, Found, Named, block_count, look_at, search_from, with_dirent, with_slot, Free, Dinode, Super, IsBytes, IsDinode, recovered, All, IsData, is_free, numbers_of, block_number, content_block, HoldsAt, IsOwned, entry_of, size_in, IsPut, IsLaidOut, Becomes, slots_with, Slot, Node, NodeKind, Directory, File, Device, cleared, node_or, Name, same_name, live_directory, look, first_slot, all_slots, put, hart_count, eq_is, Ret, bind, Ran, Laws, Machine, P, Wp, Both, joined, Below, Lasts, Handover, ToAct, to_act, may_act, bind-assoc, Wp-more, lock_holder, fetch, seen_of, Direct, InTable, BlockInHand, fetch_at, fetch_block, no_record, inode_block, Clear, without_entry, with_record, Inv, World, log_of, tables_of, disk_of, inode_in, KeepsRoom, in_hand, HasBuffer, KeepsInode, NothingMore, Finds, Opened, Had, Apart, Has, Emptied, Same, Kept, Carry, record_had, IsFirstNamed, IsKnown, InHand, Stands, below, Labels, labelled, Keeps, put_named, slot_found, clear_in, clear_slot, clear, learned, number_found, IsChanging, GivesRoom, Shows, record_in, block_len, direct, dirent_len_of, dirents_per_block_of, most_blocks, sizes_of, version_in}
use Rattle.inodes_on_blocks.proofs.Basics.{at_index, good_seen, kept_then, kept_same, same_inode, same_numbers, holds_now, used_now, block_stays, but_same, but_then, below_laws, lock_range, seen_dinode, seen_sizes, TakesStep, s-here}
use Rattle.directory.proofs.IndexChanges.{index_cleared}
use Rattle.directory.specs.Indexes.{cleared as cleared_index, first_of}
use Rattle.directory.specs.Programs.{Searched, or_next, search}
use Rattle.directory.specs.Slots as sought
use Rattle.fs_machine.specs.InMemory.{IndexState, Loaded, no_index, unindexed}
use Rattle.plain_tree.specs.Tree as tree
use Rattle.plain_tree.specs.Tree.{slots_of}
use Rattle.image_versions.proofs.Places.{count_slots, in_their_blocks, in_their_content}
use Rattle.std.proofs.Math.Nat.{mul-le-mul_left}
use Rattle.inode_machine.specs.World as above
use Rattle.inodes_on_blocks.specs.Indexes.{IsIndexOf, slot_read}
use Rattle.inodes_on_blocks.specs.Naming.{slot_of}
use Rattle.inodes_on_blocks.proofs.Changing.{owner_with, Changing, LeftTo, left_but, changing_start, changing_then, numbers_stay}
use Rattle.inodes_on_blocks.proofs.ContentFetch.{s-content}
use Rattle.inodes_on_blocks.proofs.ContentReads.{touches, touches_are}
use Rattle.inodes_on_blocks.proofs.DataPuts.{data_home, s-data}
use Rattle.inodes_on_blocks.proofs.DirectorySearches.{s-search}
use Rattle.inodes_on_blocks.proofs.FreeSlots.{read_here, read_other}
use Rattle.inodes_on_blocks.proofs.Looks as looks
use Rattle.inodes_on_blocks.proofs.NamingSteps.{naming_acts}
use Rattle.inodes_on_blocks.proofs.SlotPuts.{dirent_long, dirent_bytes, free_bytes, slot_makes, cleared_first}
use Rattle.inodes_on_blocks.proofs.StatSteps.{in_use}

-- one name
same_is : (a e : Name) → same_name a e ≡ true → a ≡ e
unfolding same_name
same_is [] [] h = refl
same_is [] (y ∷ ys) h = absurd (let z : false ≡ true = h in cc)
same_is (x ∷ xs) [] h = absurd (let z : false ≡ true = h in cc)
same_is (x ∷ xs) (y ∷ ys) h = by (x == y) refl h (λ more. same_is xs ys more)
  where
    by : (b : Bool) → (x == y) ≡ b → (b && same_name xs ys) ≡ true → (same_name xs ys ≡ true → xs ≡ ys) → x ∷ xs ≡ y ∷ ys
    by true q h rest = λ i. eq_is x y q i ∷ rest h i
    by false q h rest = absurd (let z : false ≡ true = h in cc)

module _ (sizes : Super) (l : Labels) (laws : Laws (labelled sizes.version l)) (keeps : Keeps l) (h : ℕ) (lt : h < hart_count) (n : ℕ) (e : Name) (m : Unit {0} → Option above.Mark) (Knows Then : World → Type 0)
    (room : (b : ℕ) → KeepsRoom h b Knows Then) (gives : GivesRoom h (inode_block sizes.inodestart n) Then) (c : Carry) (B : List l.Step → Type 0) (C : Unit {0} → List l.Step → above.World → Type 0) (lasts : Lasts (labelled sizes.version l) h B C) where
  abbrev W : Type 0
  W = Both World above.World

  abbrev M : Machine
  M = joined (labelled sizes.version l) (below sizes)

  abbrev Q : Handover (Unit {0}) Carry → List l.Step → W → Type 0
  Q = Below (labelled sizes.version l) (below sizes) h C

  abbrev Todo : List l.Step → above.World → Type 0
  Todo = ToAct (labelled sizes.version l) (below sizes) laws (below_laws sizes l keeps) h B (Clear n e) m C lasts

  may_at : (fs : List l.Step) (g : above.World) → Todo fs g → Inv g → rules.May sizes.version h (Clear n e) g
  may_at fs g todo inv = may_act (labelled sizes.version l) (below sizes) laws (below_laws sizes l keeps) h B (Clear n e) m C lasts fs g todo inv

  changes : (fs : List l.Step) (g : above.World) → Todo fs g → Inv g → IsChanging h n g
  changes fs g todo inv = let may = may_at fs g todo inv in record { lock = may.1.0.0; joined = may.1.0.1 }

  -- ---- the program takes a step

  block_takes : {A : Type 0} (d : Dinode) (k : ℕ) (f : BlockInHand → P M A) → TakesStep sizes l laws keeps h lt B (bind (fetch_block d k) f)
  block_takes {A} d k f = by (nat_lt k direct)
    where
      by : (b : Bool) → TakesStep sizes l laws keeps h lt B (bind (fetch_at d (if b then Direct k else InTable (k - direct))) f)
      by true = tt
      by false = tt

  blocks_take : (d : Dinode) (i k : ℕ) (y : IndexState) → TakesStep sizes l laws keeps h lt B (bind (bind (search_from sizes.version i (Named e) d k y) slot_found) (clear_slot sizes n e c m))
  unfolding search_from
  blocks_take d zero k y = block_takes (record_in c n) (0 / dirents_per_block_of sizes.version) (clear_in sizes n e c m (0, y))
  blocks_take d (suc i) k y = by (nat_lt k direct)
    where
      next : BlockInHand → P M Searched
      next = look_at sizes.version (Named e) d k y (search_from sizes.version i (Named e) d (k + 1))

      by : (b : Bool) → TakesStep sizes l laws keeps h lt B (bind (bind (bind (fetch_at d (if b then Direct k else InTable (k - direct))) next) slot_found) (clear_slot sizes n e c m))
      by true = tt
      by false = tt

  search_takes : (x : Loaded) → TakesStep sizes l laws keeps h lt B (bind (bind (search sizes.version (Named e) x) slot_found) (clear_slot sizes n e c m))
  search_takes x = by (first_of sizes.version (Named e) x.inode x.index)
    where
      by : (o : Option Found) → TakesStep sizes l laws keeps h lt B (bind (bind (or_next o x.index (search_from sizes.version (block_count sizes.version x.inode - x.index.blocks) (Named e) x.inode x.index.blocks)) slot_found) (clear_slot sizes n e c m))
      by (Some f) = block_takes (record_in c n) (f.slot / dirents_per_block_of sizes.version) (clear_in sizes n e c m (f.slot, x.index))
      by None = blocks_take x.inode (block_count sizes.version x.inode - x.index.blocks) x.index.blocks x.index

  takes : (had : Had) → TakesStep sizes l laws keeps h lt B (bind (slot_of sizes.version had e) (clear_slot sizes n e c m))
  takes Apart = block_takes (record_in c n) (0 / dirents_per_block_of sizes.version) (clear_in sizes n e c m (0, no_index))
  takes Emptied = block_takes (record_in c n) (0 / dirents_per_block_of sizes.version) (clear_in sizes n e c m (0, no_index))
  takes (Has x NothingMore) = search_takes x
  takes (Has x (Opened fd offset)) = search_takes x
  takes (Has x (Finds name s)) = by (same_name name e)
    where
      by : (b : Bool) → TakesStep sizes l laws keeps h lt B (bind (if b then Ret (s, x.index) else bind (search sizes.version (Named e) x) slot_found) (clear_slot sizes n e c m))
      by true = block_takes (record_in c n) (s / dirents_per_block_of sizes.version) (clear_in sizes n e c m (s, x.index))
      by false = search_takes x

  -- ---- from v on, with the lock in the hart's hand

  module _ (v : W) (fs : List l.Step) (todo : Todo fs v.seen) (shows : Shows v.real v.seen) (inv : Inv v.seen) (stands : Stands sizes h v.real v.seen c) (knows : Knows v.real) where
    may : rules.May sizes.version h (Clear n e) v.seen
    may = may_at fs v.seen todo inv

    mine : lock_holder n (tables_of v.real) ≡ Some h
    mine = sym (shows.tables.places.holders n) ∙ may.1.0.0

    abbrev node : Node
    node = may.1.1.node

    is : v.seen.disk n ≡ Some node
    is = may.1.1.is

    abbrev d : Dinode
    d = inode_in (log_of v.real) n

    holds : HoldsAt (disk_of (log_of v.real)) v.real.owner n (Some node)
    holds = subst (λ (o : Option Node). HoldsAt (disk_of (log_of v.real)) v.real.owner n o) is (stands.0.inodes n mine).holds

    -- the seen disk has the sizes of the program
    at : sizes_of (disk_of (log_of v.real)) ≡ sizes
    at = seen_sizes v.real v.seen shows ∙ stands.1

    used : is_free d ≡ false
    used = in_use (version_in (disk_of (log_of v.real))) d node holds.inode

    -- a live directory, if it has a name
    live : live_directory (Some node) ≡ true
    unfolding look
    live = by (live_directory (Some node)) refl
      where
        by : (b : Bool) → live_directory (Some node) ≡ b → live_directory (Some node) ≡ true
        by true q = q
        by false q = absurd (let z : IsSome (if false then first_slot (all_slots (Some node)) e else None) = subst (λ (t : Bool). IsSome (if t then first_slot (all_slots (Some node)) e else None)) q may.1.1.fits in cc z)

    directory : (slots : List (Option Slot)) × (node.kind ≡ Directory slots)
    directory = by node.kind refl
      where
        by : (k : NodeKind) → node.kind ≡ k → (slots : List (Option Slot)) × (node.kind ≡ Directory slots)
        by (Directory slots) q = (slots, q)
        by (File bytes) q = absurd (looks.no_directory node.count (ap (λ (k : NodeKind). nat_lt 0 node.count && tree.is_directory k) (sym q) ∙ live))
        by (Device major minor size) q = absurd (looks.no_directory node.count (ap (λ (k : NodeKind). nat_lt 0 node.count && tree.is_directory k) (sym q) ∙ live))

    abbrev slots : List (Option Slot)
    slots = directory.0

    size_is : d.size ≡ dirent_len_of sizes.version * length slots
    size_is = subst (λ (z : Super). d.size ≡ size_in z.version node.kind) at holds.inode.size ∙ ap (size_in sizes.version) directory.1

    limit : d.size ≤ most_blocks * block_len
    limit = (holds.room used).limit

    module _ (record_is : record_in c n ≡ d) where
      -- ---- the slot is known

      module _ (s : ℕ) (y : IndexState) (right : IsIndexOf sizes.version y (Some node)) (known : IsFirstNamed (all_slots (Some node)) e s) where
        first : IsFirstNamed slots e s
        first = subst (λ (k : NodeKind). IsFirstNamed (slots_of k) e s) directory.1 known

        abbrev k : ℕ
        k = s / dirents_per_block_of sizes.version

        count : d.size / dirent_len_of sizes.version ≡ length slots
        count = ap (λ (q : ℕ). q / dirent_len_of sizes.version) size_is ∙ (count_slots sizes.version (length slots)).0

        within : block_len * k < d.size
        within = (in_their_content sizes.version s d.size (let low = first.below in let many = count in omega (arith, low, many))).1

        abbrev after : Node
        after = without_entry e node

        was_is : node ≡ record { count = node.count; kind = Directory slots }
        was_is = λ z. record { count = node.count; kind = directory.1 z }

        after_is : record { count = node.count; kind = Directory (slots_with slots s None) } ≡ after
        after_is = ap (λ (ss : List (Option Slot)). record { count = node.count; kind = Directory ss }) (sym (cleared_first slots e s first) ∙ ap (λ (q : NodeKind). cleared (slots_of q) e) (sym directory.1))

        -- the index without it is right then
        right_then : IsIndexOf sizes.version (cleared_index s y) (Some after)
        right_then =
            let past : s ≤ length slots = (let low = first.below in omega (arith, low)) in
            let without : Node = record { count = node.count; kind = Directory (slots_with slots s None) } in
            subst (λ (x : Node). IsIndexOf sizes.version (cleared_index s y) (Some x)) after_is
            (index_cleared sizes.version y (slot_read (Some node)) (slot_read (Some without)) s right (ap (λ (x : Option Slot). sought.is_used (entry_of x)) (read_here slots s None past))
            (λ q ne. ap entry_of (read_other slots s None q past ne) ∙ sym (ap (λ (x : NodeKind). entry_of (get_or (slots_of x) q None)) directory.1)))

        abbrev f : Dinode
        f = record d { size = max d.size (dirent_len_of sizes.version * suc s) }

        same_size : max d.size (dirent_len_of sizes.version * suc s) ≡ d.size
        same_size = let low = mul-le-mul_left (dirent_len_of sizes.version) first.below in omega (arith, size_is, low)

        fits : IsDinode f
        fits = subst IsDinode (λ z. record d { size = sym same_size z }) (seen_dinode v.real v.seen shows n (lock_range n h v.real v.seen shows may.1.0.0).1)

        put_is : with_slot sizes.version s (record_in c n) ≡ f
        put_is = let more : s + 1 ≡ suc s = omega arith in ap (with_slot sizes.version s) record_is
            ∙ (λ z. record d { size = max d.size (dirent_len_of sizes.version * more z) })

        abbrev numbers : List ℕ
        numbers = numbers_of (disk_of (log_of v.real)) d

        abbrev b : ℕ
        b = block_number numbers k

        -- the block's place later
        abbrev block_in : World → ℕ
        block_in r = block_number (numbers_of (disk_of (log_of r)) (inode_in (log_of r) n)) k

        some : b ≢ 0
        some = (holds.room used).there k within

        -- the slot is free, and the record is put
        ends : (w : W) (gs : List l.Step) → Todo gs w.seen → Shows w.real w.seen → Changing h n c (Some node) f after w.real w.seen → in_hand h w.real ≡ 0 → (log_of w.real).sizes ≡ sizes → Then w.real
            → Wp M h B Q (bind (fetch (inode_block sizes.inodestart n)) (put_named (Clear n e) above.Room m tt (inode_block sizes.inodestart n) n (record { inode = with_slot sizes.version s (record_in c n); index = cleared_index s y }) c)) 3 gs w
        ends w gs stage shows_w changing none at then_ =
            subst (λ (x : Dinode). Wp M h B Q (bind (fetch (inode_block sizes.inodestart n)) (put_named (Clear n e) above.Room m tt (inode_block sizes.inodestart n) n (record { inode = x; index = cleared_index s y }) c)) 3 gs w) (sym put_is)
            (naming_acts sizes l laws keeps h lt n (Clear n e) above.Room m tt c (Some node) f after (cleared_index s y) right_then fits (λ u. tt) (λ g asked. (record { lock = asked.1.0.0; joined = asked.1.0.1 }, asked.0))
            (λ g asked was. ap (λ (o : Option Node). Ran tt (with_record g n (Some (without_entry e (node_or o))))) was) Then gives B C lasts gs w stage shows_w changing none at then_)

        makes : (old : List ℕ) → length old ≡ block_len → (disk new : List (List ℕ)) (owner : ℕ → ℕ) → sizes_of disk ≡ sizes → IsLaidOut disk owner n d node → numbers_of disk d ≡ numbers → recovered disk b ≡ old → IsPut disk new b
            → recovered new b ≡ with_dirent sizes.version (s % dirents_per_block_of sizes.version) Free old → Becomes disk new owner owner n d f after
        makes old long disk new owner at laid names was put now =
            let low = first.below in
            subst (λ (x : Node). Becomes disk new owner owner n d f x) after_is
            (slot_makes sizes.version n s node.count slots None Free d old numbers (omega (arith, low)) (let fits_ = mul-le-mul_left (dirent_len_of sizes.version) low in omega (arith, size_is, limit, fits_)) refl tt long some disk new owner (ap (λ (z : Super). z.version) at) (subst (λ (x : Node). IsLaidOut disk owner n d x) was_is laid) names was put now)

        -- its block is in hand
        puts : (w u : W) (gs : List l.Step) → Todo gs u.seen → Shows u.real u.seen → LeftTo h v.real u.real → Kept h v.seen u.seen → (old : List ℕ) → HasBuffer h b old u.real → seen_of (log_of u.real) b ≡ old → in_hand h u.real ≡ 1 → Knows u.real
            → Wp M h B Q (clear_in sizes n e c m (s, y) (record { number = b; bytes = old })) 4 gs u
        puts w u gs stage shows_u left kept old buffer old_is one knows_u =
            let start = changing_start h n c node v.real v.seen stands.0 mine is in
            let changing = changing_then h n c (Some node) d node v.real u.real v.seen u.seen shows shows_u left kept start in
            let names = numbers_stay h n c (Some node) d node v.real u.real v.seen u.seen shows shows_u left start in
            let at : (log_of u.real).sizes ≡ sizes = left.sizes ∙ stands.1 in
            let own = at_index (λ (q : ℕ). IsOwned (disk_of (log_of u.real)) (owner_with h n u.real) n q) numbers (if nat_lt k direct then k else k + 1)
            (subst (λ (ns : List ℕ). All (λ q. q ≢ 0 → IsOwned (disk_of (log_of u.real)) (owner_with h n u.real) n q) ns) names changing.laid.owned) some in
            let disk_sizes = (good_seen (log_of u.real).sizes (seen_of (log_of u.real)) (length (log_of u.real).contents) shows_u.blocks.seen).sizes_are in
            let block_there : IsData (log_of u.real).sizes b = subst (λ (z : Super). IsData z b) disk_sizes own.block in
            let home = data_home u.real u.seen shows_u b block_there in
            let long : length old ≡ block_len = ap length (sym old_is) ∙ shows_u.blocks.seen.whole b home.within home.outside in
            s-data sizes l laws keeps h lt B Q Todo (to_act (labelled sizes.version l) (below sizes) laws (below_laws sizes l keeps) h B (Clear n e) m C lasts) n changes c (Some node) d f node after b old (with_dirent sizes.version (s % dirents_per_block_of sizes.version) Free old) numbers
            (subst (λ (z : Super). IsData z b) at block_there) (dirent_long sizes.version (s % dirents_per_block_of sizes.version) Free old (in_their_blocks sizes.version s).0 tt long)
            (dirent_bytes sizes.version (s % dirents_per_block_of sizes.version) Free old (subst IsBytes old_is (shows_u.bytes b home.within home.outside)) (free_bytes sizes.version)) (makes old long) Knows Then (room b)
            (λ _. bind (fetch (inode_block sizes.inodestart n)) (put_named (Clear n e) above.Room m tt (inode_block sizes.inodestart n) n (record { inode = with_slot sizes.version s (record_in c n); index = cleared_index s y }) c)) 3 gs u stage shows_u changing names buffer at own.owner_is knows_u
            (λ z hs p. ends z hs p.stage p.shows p.changing (let down = p.count in omega (arith, down, one)) (p.sizes_same ∙ at) p.known)

        clears : (w : W) (gs : List l.Step) → Same h v.real w.real → Kept h v.seen w.seen → Todo gs w.seen → Wp M h B Q (clear_slot sizes n e c m (s, y)) 9 gs w
        clears w gs same kept stage =
            subst (λ (x : Dinode). Wp M h B Q (bind (fetch_block x k) (clear_in sizes n e c m (s, y))) 9 gs w) (inode ∙ sym record_is)
            (s-content sizes l laws keeps h lt B Q Todo (to_act (labelled sizes.version l) (below sizes) laws (below_laws sizes l keeps) h B (Clear n e) m C lasts) n k (Some node) (clear_in sizes n e c m (s, y)) 4 w holds_w used_w stays.lock within_w (same.held ∙ stands.0.free)
            (λ u hs got.
            let since = but_then h (block_in w.real) v.real w.real u.real (but_same h (block_in w.real) v.real w.real same) got.since in
            let bytes_is = (block_stays h n w.real u.real (got.since.inodes n stays.lock) (Some node) holds_w used_w u.seen got.shows k within_w).seen in
            let old = content_block (disk_of (log_of w.real)) (inode_in (log_of w.real) n) k in
            subst (λ (q : ℕ). Wp M h B Q (clear_in sizes n e c m (s, y) (record { number = q; bytes = old })) 4 hs u) (sym b_is)
            (puts w u hs got.stage got.shows (left_but h (block_in w.real) v.real u.real since) (kept_then h v.seen w.seen u.seen kept got.kept) old
            (subst (λ (q : ℕ). HasBuffer h q old u.real) b_is (subst (λ (x : List ℕ). HasBuffer h (block_in w.real) x u.real) bytes_is got.buffer)) (ap (seen_of (log_of u.real)) (sym b_is) ∙ bytes_is)
            (got.count ∙ ap suc (same.held ∙ stands.0.free)) ((room (block_in w.real)).gives.fetched (block_in w.real) w.real u.real got.since ((room (block_in w.real)).gives.lasts v.real w.real same knows))))
            gs stage)
          where
            stays : KeepsInode h n v.real w.real
            stays = same.inodes n mine

            inode : inode_in (log_of w.real) n ≡ d
            inode = same_inode h n v.real w.real stays (Some node) holds used

            holds_w : HoldsAt (disk_of (log_of w.real)) w.real.owner n (Some node)
            holds_w = holds_now h n v.real w.real stays (Some node) holds used

            used_w : is_free (inode_in (log_of w.real) n) ≡ false
            used_w = used_now h n v.real w.real stays (Some node) holds used

            within_w : block_len * k < (inode_in (log_of w.real) n).size
            within_w = subst (λ (x : Dinode). block_len * k < x.size) (sym inode) within

            b_is : block_in w.real ≡ b
            b_is = ap (λ (x : Dinode). block_number (numbers_of (disk_of (log_of w.real)) x) k) inode ∙ ap (λ (ns : List ℕ). block_number ns k) (same_numbers h n v.real w.real stays (Some node) holds used)

      -- ---- it is looked for

      module _ (y : IndexState) (right : IsIndexOf sizes.version y (Some node)) where
        abbrev found : Searched
        found = looks.search_finds sizes (disk_of (log_of v.real)) at v.real.owner n node holds used y right (Named e)

        abbrev goes : Searched → P M (Handover (Unit {0}) Carry)
        goes o = clear_slot sizes n e c m (unwrap_or (option_map (λ q. q.slot) o.found) 0, o.index)

        by : (o : Option Found) → number_found o ≡ look (λ j. Some node) n e → IsKnown (learned e o) (Some node) → (w : W) (gs : List l.Step) → Same h v.real w.real → Kept h v.seen w.seen → Todo gs w.seen
            → Wp M h B Q (goes (record { found = o; index = found.index })) 9 gs w
        by None number known w gs same kept stage = absurd (let z : IsSome {T = ℕ} None = subst IsSome (sym number) may.1.1.fits in cc z)
        by (Some g) number known w gs same kept stage =
            clears g.slot found.index (looks.still_right sizes (disk_of (log_of v.real)) at v.real.owner n node holds used y right (Named e) (ap tree.is_directory directory.1)) known w gs same kept stage

        searches_it : Wp M h B Q (bind (bind (search sizes.version (Named e) (record { inode = d; index = y })) slot_found) (clear_slot sizes n e c m)) 1621 fs v
        searches_it =
            subst (λ (p : P M (Handover (Unit {0}) Carry)). Wp M h B Q p 1621 fs v) (sym (bind-assoc (search sizes.version (Named e) (record { inode = d; index = y })) slot_found (clear_slot sizes n e c m)))
            (Wp-more M h (bind (search sizes.version (Named e) (record { inode = d; index = y })) goes) B Q (touches (block_count sizes.version d) 9) 1621 fs v (let few = looks.few_blocks sizes.version d in let steps_ = touches_are (block_count sizes.version d) 9 in omega (arith, few, steps_))
            (s-search sizes l laws keeps h lt B Q Todo (to_act (labelled sizes.version l) (below sizes) laws (below_laws sizes l keeps) h B (Clear n e) m C lasts) n (Some node) (Named e) goes 9 v holds used mine stands.0.free y v fs
            ((below_laws sizes l keeps).same h v.real) (kept_same h v.seen) todo (looks.block_within sizes (disk_of (log_of v.real)) at v.real.owner n node holds used)
            (λ w gs same kept stage.
            by found.found (looks.name_found sizes (disk_of (log_of v.real)) at v.real.owner n node holds used y right e live) (looks.slot_found sizes (disk_of (log_of v.real)) at v.real.owner n node holds used y right e live) w gs same kept stage)))

      searches : (x : Loaded) → x.inode ≡ d → IsIndexOf sizes.version x.index (Some node) → Wp M h B Q (bind (bind (search sizes.version (Named e) x) slot_found) (clear_slot sizes n e c m)) 1621 fs v
      searches x is_d right =
          subst (λ (y : Dinode). Wp M h B Q (bind (bind (search sizes.version (Named e) (record { inode = y; index = x.index })) slot_found) (clear_slot sizes n e c m)) 1621 fs v) (sym is_d) (searches_it x.index right)

    -- an index that the hart has
    right_index : (x : Loaded) → IsIndexOf (log_of v.real).sizes.version x.index (v.seen.disk n) → IsIndexOf sizes.version x.index (Some node)
    right_index x right = subst (λ (z : Super). IsIndexOf z.version x.index (Some node)) stands.1 (subst (IsIndexOf (log_of v.real).sizes.version x.index) is right)

    -- by what the hart has of the directory
    by_had : (had : Had) → c n ≡ had → InHand h n had v.real v.seen → Wp M h B Q (bind (slot_of sizes.version had e) (clear_slot sizes n e c m)) 1621 fs v
    by_had Apart q hand = absurd hand.loaded_is
    by_had Emptied q hand = absurd (none-some node (sym hand.loaded_is.0 ∙ is))
    by_had (Has x NothingMore) q hand = searches (ap (λ (o : Had). (unwrap_or (record_had o) (unindexed no_record)).inode) q ∙ hand.loaded_is.0) x hand.loaded_is.0 (right_index x hand.loaded_is.3)
    by_had (Has x (Opened fd offset)) q hand = searches (ap (λ (o : Had). (unwrap_or (record_had o) (unindexed no_record)).inode) q ∙ hand.loaded_is.0) x hand.loaded_is.0 (right_index x hand.loaded_is.3)
    by_had (Has x (Finds name s)) q hand = by (same_name name e) refl
      where
        record_is : record_in c n ≡ d
        record_is = ap (λ (o : Had). (unwrap_or (record_had o) (unindexed no_record)).inode) q ∙ hand.loaded_is.0

        right : IsIndexOf sizes.version x.index (Some node)
        right = right_index x hand.loaded_is.3

        by : (t : Bool) → same_name name e ≡ t → Wp M h B Q (bind (if t then Ret (s, x.index) else bind (search sizes.version (Named e) x) slot_found) (clear_slot sizes n e c m)) 1621 fs v
        by true one =
            let known : IsFirstNamed (all_slots (Some node)) e s = subst (λ (a : Name). IsFirstNamed (all_slots (Some node)) a s) (same_is name e one) (subst (λ (o : Option Node). IsFirstNamed (all_slots o) name s) is hand.loaded_is.2) in
            Wp-more M h (clear_slot sizes n e c m (s, x.index)) B Q 9 1621 fs v (omega arith) (clears record_is s x.index right known v fs ((below_laws sizes l keeps).same h v.real) (kept_same h v.seen) todo)
        by false other = searches record_is x hand.loaded_is.0 right

    clears_here : Wp M h B Q (clear sizes n e c m) 1621 fs v
    clears_here = by_had (c n) refl (stands.0.inodes n mine)

  pub clear_acts : (es : List l.Step) (w : W) → Todo es w.seen → Stands sizes h w.real w.seen c → Knows w.real → Wp M h B Q (clear sizes n e c m) 1621 es w
  clear_acts es w todo stands knows =
      s-here sizes l laws keeps h lt B (clear sizes n e c m) Q Todo (to_act (labelled sizes.version l) (below sizes) laws (below_laws sizes l keeps) h B (Clear n e) m C lasts) (takes (c n)) 1621 es w todo
      (λ v fs here.
      clears_here v fs here.stage here.shows here.inv ((below_laws sizes l keeps).base h w.real v.real w.seen v.seen c here.same here.kept stands) ((room 0).gives.lasts w.real v.real here.same knows))
