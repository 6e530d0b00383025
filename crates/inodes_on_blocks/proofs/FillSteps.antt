-- A new directory's two names written act when its record is put.
use Rattle.inode_machine.specs.Rules as rules
use Rattle.inodes_on_blocks.proofs.Vocabulary.{◌≡◌, ◌≢◌, ℕ, zero, suc, ◌+◌, ◌-◌, ◌*◌, ◌/◌, ◌<◌, ◌≤◌, ◌==◌, nat_lt, Bool, true, false, List, [], ◌∷◌, length, length-take, drop, Option, Some, None, refl, sym, ◌∙◌, ap, subst, arith, if◌then◌else◌, slice_index, unwrap_or, eq_not, eq_self, nat_tests, none-some, Dinode, Super, spell_dirent, Used, HoldsAt, size_in, Node, node_or, dot, dotdot, hart_count, bind, Ran, Laws, Machine, P, Wp, Both, joined, Below, Lasts, Handover, ToAct, to_act, may_act, Wp-more, lock_holder, Direct, InTable, table_of, blocks_between, WriteResult, front_of, take_one, located, name_direct, with_table, locate_in_table, locate_at, write_located, write_blocks, no_record, inode_block, Spent, size, with_contents, most_recorded, Fill, with_dots, with_record, Inv, IsSpent, World, log_of, tables_of, disk_of, inode_in, dots, filled_to, fill, put_grown, Had, Apart, Has, Emptied, Carry, record_had, InHand, Stands, below, Labels, labelled, Keeps, IsChanging, HasSpent, Shows, record_in, block_len, direct, dirent_len_of, new_directory_size_of, version_in}
use Rattle.directory.proofs.IndexChanges.{index_none}
use Rattle.fs_machine.specs.InMemory.{no_index, unindexed}
use Rattle.image_versions.proofs.Places.{in_range, new_fits}
use Rattle.inode_machine.specs.World as above
use Rattle.inodes_on_blocks.specs.Indexes.{IsIndexOf, slot_read}
use Rattle.inodes_on_blocks.specs.Storing.{index_in}
use Rattle.inodes_on_blocks.proofs.Basics.{HasBlocks, blocks_start, below_laws, lock_range, append_bytes, seen_dinode, spent_stays, TakesStep, s-here}
use Rattle.inodes_on_blocks.proofs.Changing.{Changing, changing_start}
use Rattle.inodes_on_blocks.proofs.EntryParts.{directory_of, dots_long, dots_make}
use Rattle.inodes_on_blocks.proofs.FreeSlots.{dot_name, dotdot_name, entry_bytes}
use Rattle.inodes_on_blocks.proofs.GrownSteps.{record_same, s-grown}
use Rattle.inodes_on_blocks.proofs.LocateSteps.{Between, Fits}
use Rattle.inodes_on_blocks.proofs.NumberPuts.{sized}
use Rattle.inodes_on_blocks.proofs.PartSteps.{s-part}

-- what is written from the beginning on, and is no longer than a block, is in one
one_block : (z : ℕ) → 0 < z → z ≤ block_len → blocks_between 0 (0 + z) ≡ 1
one_block z some fit =
    let there : nat_lt 0 (0 + z) ≡ true = grind (arith, nat_tests, some) in
    ap (λ (t : Bool). if t then ((0 + z - 1) / block_len + 1) - 0 / block_len else 0) there ∙ (let e : ((0 + z - 1) / block_len + 1) - 0 / block_len ≡ 1 = omega (arith, some, fit) in e)

-- the record that a hart has of an inode with a node is the inode as it is seen
pub record_here : (h n : ℕ) (c : Carry) (r : World) (g : above.World) (node : Node) → InHand h n (c n) r g → g.disk n ≡ Some node → record_in c n ≡ inode_in (log_of r) n
record_here h n c r g node hand is = by (c n) refl hand
  where
    by : (had : Had) → c n ≡ had → InHand h n had r g → record_in c n ≡ inode_in (log_of r) n
    by Apart q hand = absurd hand.loaded_is
    by (Has x l) q hand = ap (λ (o : Had). (unwrap_or (record_had o) (unindexed no_record)).inode) q ∙ hand.loaded_is.0
    by Emptied q hand = absurd (none-some node (sym hand.loaded_is.0 ∙ is))

-- and the index that it has is right
pub index_here : (h n : ℕ) (c : Carry) (r : World) (g : above.World) (node : Node) → InHand h n (c n) r g → g.disk n ≡ Some node → IsIndexOf (log_of r).sizes.version (index_in c n) (Some node)
index_here h n c r g node hand is = by (c n) refl hand
  where
    by : (had : Had) → c n ≡ had → InHand h n had r g → IsIndexOf (log_of r).sizes.version (index_in c n) (Some node)
    by Apart q hand = absurd hand.loaded_is
    by (Has x l) q hand = subst (λ (o : Had). IsIndexOf (log_of r).sizes.version (unwrap_or (record_had o) (unindexed no_record)).index (Some node)) (sym q) (subst (IsIndexOf (log_of r).sizes.version x.index) is hand.loaded_is.3)
    by Emptied q hand = absurd (none-some node (sym hand.loaded_is.0 ∙ is))

module _ (sizes : Super) (l : Labels) (laws : Laws (labelled sizes.version l)) (keeps : Keeps l) (h : ℕ) (lt : h < hart_count) (B : List l.Step → Type 0) where
  abbrev M : Machine
  M = joined (labelled sizes.version l) (below sizes)

  -- a program that writes blocks takes a step, if what follows does
  pub takes_write : {A : Type 0} (count at : ℕ) (bytes : List ℕ) (d : Dinode) (f : WriteResult → P M A) → ((w : WriteResult) → TakesStep sizes l laws keeps h lt B (f w)) → TakesStep sizes l laws keeps h lt B (bind (write_blocks count sizes at bytes d) f)
  unfolding write_blocks
  takes_write zero at bytes d f all = all (record { inode = d; upto = at })
  takes_write {A} (suc count) at bytes d f all = by (nat_lt (at / block_len) direct)
    where
      more : Dinode → P M WriteResult
      more = write_blocks count sizes (at + length (front_of at bytes)) (drop (length (front_of at bytes)) bytes)

      own : (t : Bool) → TakesStep sizes l laws keeps h lt B (bind (bind (if t then bind (take_one sizes) (name_direct (at / block_len) d) else located d (Some (slice_index d.addrs (at / block_len)))) (write_located more at bytes)) f)
      own true = tt
      own false = tt

      listed : (t : Bool) → TakesStep sizes l laws keeps h lt B (bind (bind (if t then bind (take_one sizes) (with_table sizes (at / block_len - direct) d) else locate_in_table sizes (at / block_len - direct) d) (write_located more at bytes)) f)
      listed true = tt
      listed false = tt

      by : (t : Bool) → TakesStep sizes l laws keeps h lt B (bind (bind (locate_at sizes d (if t then Direct (at / block_len) else InTable (at / block_len - direct))) (write_located more at bytes)) f)
      by true = own (slice_index d.addrs (at / block_len) == 0)
      by false = listed (table_of d == 0)

module _ (sizes : Super) (l : Labels) (laws : Laws (labelled sizes.version l)) (keeps : Keeps l) (h : ℕ) (lt : h < hart_count) (n p : ℕ) (m : Bool → Option above.Mark) (s : Spent) (bitmap : s.bitmap ≡ true) (named : IsSpent sizes s (inode_block sizes.inodestart n))
    (room : size s + 1 ≤ most_recorded) (c : Carry) (B : List l.Step → Type 0) (C : Bool → List l.Step → above.World → Type 0) (lasts : Lasts (labelled sizes.version l) h B C) where
  abbrev W : Type 0
  W = Both World above.World

  abbrev N : Machine
  N = joined (labelled sizes.version l) (below sizes)

  abbrev Q : Handover Bool Carry → List l.Step → W → Type 0
  Q r fs u = Below (labelled sizes.version l) (below sizes) h C r fs u × HasSpent sizes h (with_contents 1 s) u.real

  abbrev Todo : List l.Step → above.World → Type 0
  Todo = ToAct (labelled sizes.version l) (below sizes) laws (below_laws sizes l keeps) h B (Fill n p) m C lasts

  may_at : (fs : List l.Step) (g : above.World) → Todo fs g → Inv g → rules.May sizes.version h (Fill n p) g
  may_at fs g todo inv = may_act (labelled sizes.version l) (below sizes) laws (below_laws sizes l keeps) h B (Fill n p) m C lasts fs g todo inv

  changes : (fs : List l.Step) (g : above.World) → Todo fs g → Inv g → IsChanging h n g
  changes fs g todo inv = let may = may_at fs g todo inv in record { lock = may.1.0.0; joined = may.1.0.1 }

  asks : (g : above.World) → rules.May sizes.version h (Fill n p) g → IsChanging h n g × ((g.desks h).lender ≡ None)
  asks g asked = (record { lock = asked.1.0.0; joined = asked.1.0.1 }, asked.0)

  ends_take : (w : WriteResult) → TakesStep sizes l laws keeps h lt B (filled_to sizes n p c m w)
  ends_take w = by (w.upto == new_directory_size_of sizes.version)
    where
      by : (t : Bool) → TakesStep sizes l laws keeps h lt B (if t then put_grown (Fill n p) above.Room m true sizes n c no_index w else put_grown (Fill n p) (above.RoomFor 0) m false sizes n c no_index w)
      by true = tt
      by false = tt

  -- from v on, with the lock in the hart's hand
  module _ (v : W) (fs : List l.Step) (todo : Todo fs v.seen) (shows : Shows v.real v.seen) (inv : Inv v.seen) (stands : Stands sizes h v.real v.seen c) (knows : HasSpent sizes h s v.real) where
    may : rules.May sizes.version h (Fill n p) v.seen
    may = may_at fs v.seen todo inv

    mine : lock_holder n (tables_of v.real) ≡ Some h
    mine = sym (shows.tables.places.holders n) ∙ may.1.0.0

    abbrev node : Node
    node = may.1.1.node

    is : v.seen.disk n ≡ Some node
    is = may.1.1.is

    abbrev d : Dinode
    d = inode_in (log_of v.real) n

    hand : InHand h n (c n) v.real v.seen
    hand = stands.0.inodes n mine

    holds : HoldsAt (disk_of (log_of v.real)) v.real.owner n (Some node)
    holds = subst (λ (o : Option Node). HoldsAt (disk_of (log_of v.real)) v.real.owner n o) is hand.holds

    size_is : d.size ≡ 0
    size_is = holds.inode.size ∙ ap (size_in (version_in (disk_of (log_of v.real)))) may.1.1.fits ∙ (let none : dirent_len_of (version_in (disk_of (log_of v.real))) * 0 ≡ 0 = omega arith in none)

    range : (1 ≤ n) × (n < (log_of v.real).sizes.ninodes)
    range = lock_range n h v.real v.seen shows may.1.0.0

    some_n : n ≢ 0
    some_n e = absurd (let low = range.0 in omega (arith, low, e))

    small_n : n < 65536
    small_n = let few = shows.blocks.seen.good.many_inodes in let top = range.1 in omega (arith, few, top)

    some_p : p ≢ 0
    some_p e = absurd (let low = may.1.2.0 in omega (arith, low, e))

    small_p : p < 65536
    small_p = let few = shows.blocks.seen.good.many_inodes in let top = may.1.2.1 in let same = shows.size in omega (arith, few, top, same)

    fits : Fits 0 d
    fits = (seen_dinode v.real v.seen shows n range.1, size_is)

    was_is : node ≡ directory_of node.count []
    was_is = λ z. record { count = node.count; kind = may.1.1.fits z }

    start : Between sizes h n (Todo fs) c (Some node) (sized 0 d) (directory_of node.count []) (HasBlocks sizes h s []) v
    start = record {
      changing = subst (λ (q : Dinode × Node). Changing h n c (Some node) q.0 q.1 v.real v.seen) (λ z. (record d { size = size_is z }, was_is z)) (changing_start h n c node v.real v.seen stands.0 mine is);
      shows = shows;
      stage = todo;
      none = stands.0.free;
      at = stands.1;
      known = blocks_start sizes h s v.real knows;
    }

    -- no block was free
    lacks : (x : Dinode) (bs : List ℕ) (u : W) (gs : List l.Step) → Between sizes h n (Todo gs) c (Some node) (sized 0 x) (directory_of node.count []) (HasBlocks sizes h s bs) u → Fits 0 x → length bs ≤ 0 → Wp N h B Q (filled_to sizes n p c m (record { inode = x; upto = 0 })) 3 gs u
    lacks x bs u gs there fit few =
        subst (λ (t : Bool). Wp N h B Q (if t then put_grown (Fill n p) above.Room m true sizes n c no_index (record { inode = x; upto = 0 }) else put_grown (Fill n p) (above.RoomFor 0) m false sizes n c no_index (record { inode = x; upto = 0 })) 3 gs u)
        (sym (eq_not 0 (new_directory_size_of sizes.version) (λ z. absurd (let wide = (in_range sizes.version).2 in omega (arith, z, wide)))))
        (s-grown sizes l laws keeps h lt n (Fill n p) m c asks B C lasts (Some node) s named 1 room (above.RoomFor 0) false (directory_of node.count []) no_index (index_none sizes.version (slot_read (Some (directory_of node.count [])))) 0 0 0 x bs (λ y. tt)
        (λ g asked was. ap (λ (q : above.World). Ran false q) (sym (record_same g n (directory_of node.count []) (was ∙ ap (λ (q : Node). Some q) was_is)))) fit refl (omega arith) (omega (arith, few)) gs u there)

    -- both were written
    long : 0 + length (front_of 0 (dots sizes.version n p)) ≡ new_directory_size_of sizes.version
    long = let all = dots_long sizes.version n p some_n small_n some_p small_p in let fit = (new_fits sizes.version).0 in omega (arith, all, fit, length-take block_len (dots sizes.version n p))

    abbrev filled : Node
    filled = directory_of node.count (Some (record { name = dot; number = n }) ∷ Some (record { name = dotdot; number = p }) ∷ [])

    goes : (x : Dinode) (bs : List ℕ) (u : W) (gs : List l.Step) → Between sizes h n (Todo gs) c (Some node) (sized (new_directory_size_of sizes.version) x) (directory_of node.count (Some (record { name = dot; number = n }) ∷ Some (record { name = dotdot; number = p }) ∷ [])) (HasBlocks sizes h s bs) u → Fits 0 x → length bs ≤ 1
        → Wp N h B Q (filled_to sizes n p c m (record { inode = x; upto = 0 + length (front_of 0 (dots sizes.version n p)) })) 3 gs u
    goes x bs u gs there fit few =
        subst (λ (t : Bool). Wp N h B Q (if t then put_grown (Fill n p) above.Room m true sizes n c no_index (record { inode = x; upto = 0 + length (front_of 0 (dots sizes.version n p)) }) else put_grown (Fill n p) (above.RoomFor 0) m false sizes n c no_index (record { inode = x; upto = 0 + length (front_of 0 (dots sizes.version n p)) })) 3 gs u)
        (sym (ap (λ (q : ℕ). q == new_directory_size_of sizes.version) long ∙ eq_self (new_directory_size_of sizes.version)))
        (s-grown sizes l laws keeps h lt n (Fill n p) m c asks B C lasts (Some node) s named 1 room above.Room true filled no_index (index_none sizes.version (slot_read (Some filled))) 0 (new_directory_size_of sizes.version) (0 + length (front_of 0 (dots sizes.version n p))) x bs (λ y. tt)
        (λ g asked was. ap (λ (o : Option Node). Ran true (with_record g n (Some (with_dots n p (node_or o))))) was) fit (omega (arith, long)) (let fit = (new_fits sizes.version).0 in omega (arith, fit)) few gs u there)

    fills : Wp N h B Q (fill sizes n p c m) 13 fs v
    unfolding write_blocks
    fills =
        subst (λ (q : ℕ × Dinode). Wp N h B Q (bind (write_blocks q.0 sizes 0 (dots sizes.version n p) q.1) (filled_to sizes n p c m)) 13 fs v) (λ z. (sym one z, sym (record_here h n c v.real v.seen node hand is) z))
        (Wp-more N h (bind (write_blocks 1 sizes 0 (dots sizes.version n p) d) (filled_to sizes n p c m)) B Q 12 13 fs v (omega arith)
        (s-part sizes l laws keeps h lt B Q Todo (to_act (labelled sizes.version l) (below sizes) laws (below_laws sizes l keeps) h B (Fill n p) m C lasts) n changes c (Some node) (directory_of node.count [])
        (directory_of node.count (Some (record { name = dot; number = n }) ∷ Some (record { name = dotdot; number = p }) ∷ [])) s bitmap false 0 0 (new_directory_size_of sizes.version) 0 0 (omega (arith, room)) 0 (dots sizes.version n p)
        (append_bytes (spell_dirent sizes.version (Used n dot)) (spell_dirent sizes.version (Used p dotdot)) (entry_bytes sizes.version n dot (dot_name sizes.version)) (entry_bytes sizes.version p dotdot (dotdot_name sizes.version))) (dots_make sizes h n p node.count c (Some node) some_n small_n some_p small_p)
        (write_blocks 0 sizes (0 + length (front_of 0 (dots sizes.version n p))) (drop (length (front_of 0 (dots sizes.version n p))) (dots sizes.version n p))) (filled_to sizes n p c m) 3 lacks
        (λ x bs u gs there fit few. goes x bs u gs there fit (omega (arith, few))) d fits [] (omega arith) (omega arith) v fs start (λ e. omega arith)))
      where
        one : blocks_between 0 (0 + length (dots sizes.version n p)) ≡ 1
        one =
            let fit = (new_fits sizes.version).0 in
            let wide = (in_range sizes.version).2 in
            ap (λ (q : ℕ). blocks_between 0 (0 + q)) (dots_long sizes.version n p some_n small_n some_p small_p) ∙ one_block (new_directory_size_of sizes.version) (omega (arith, wide)) fit

  pub fill_acts : (es : List l.Step) (w : W) → Todo es w.seen → Stands sizes h w.real w.seen c → HasSpent sizes h s w.real → Wp N h B Q (fill sizes n p c m) 13 es w
  fill_acts es w todo stands knows =
      s-here sizes l laws keeps h lt B (fill sizes n p c m) Q Todo (to_act (labelled sizes.version l) (below sizes) laws (below_laws sizes l keeps) h B (Fill n p) m C lasts)
      (takes_write sizes l laws keeps h lt B (blocks_between 0 (0 + length (dots sizes.version n p))) 0 (dots sizes.version n p) (record_in c n) (filled_to sizes n p c m) ends_take) 13 es w todo
      (λ v fs here.
      fills v fs here.stage here.shows here.inv ((below_laws sizes l keeps).base h w.real v.real w.seen v.seen c here.same here.kept stands) (spent_stays sizes h s w.real v.real here.same knows))
