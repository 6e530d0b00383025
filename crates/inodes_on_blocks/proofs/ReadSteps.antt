-- A part of a locked file is read, and the operation acts when the lock is given up and the offset moves.
use Rattle.inodes_on_blocks.proofs.Vocabulary.{◌≡◌, ◌≢◌, ℕ, zero, suc, ◌+◌, ◌-◌, ◌/◌, ◌<◌, ◌≤◌, nat_lt, Bool, true, false, List, [], length, Option, Some, None, refl, sym, ◌∙◌, ap, subst, arith, if◌then◌else◌, option_map, unwrap_or, IfSome, none-some, same_Some, Dinode, Super, largest_size, HoldsAt, Node, put, hart_count, put_other, Ret, bind, Ran, Machine, Laws, Wp, Both, Handover, joined, Below, Lasts, Acting, ToAct, to_act, may_act, s-act, Wp-more, Inode, unlock_inode, TablesState, file_named, lock_holder, Outside, no_record, Direct, InTable, FilledMemory, blocks_between, end_of, fetch_at, next_block, read_blocks, read_from, read_part, Entry, ReadFile, entry_at, entry_moved, offset_of, read_at, slot_at, unlocked, with_offset, Inv, loaded, file_of, ActsOnceAt, World, log_of, tables_of, disk_of, inode_in, exec, give_read, read_file, Apart, Emptied, Has, Had, Carry, InHand, IsLoaded, Stands, below, Labels, labelled, Keeps, record_had, Shows, OffsetsShow, record_in, Loaded, unindexed, block_len, direct, version_in}
use Rattle.fs_machine.specs.declared.files.OpenFile as files
use Rattle.fs_machine.specs.Premises as premises
use Rattle.fs_machine.specs.Steps as steps
use Rattle.inode_machine.specs.World as above
use Rattle.inode_machine.specs.Rules as rules
use Rattle.inode_machine.specs.Exec as above_exec
use Rattle.inode_machine.specs.Exec.{entry_of, part_of}
use Rattle.inodes_on_blocks.specs.ShownTables as tables
use Rattle.inodes_on_blocks.proofs.Basics.{file_is, offsets_are_moved, kept_same, below_laws, kept_disk, OpenStays, TakesStep, s-here, with_tables}
use Rattle.inodes_on_blocks.proofs.ContentParts.{with_bytes}
use Rattle.inodes_on_blocks.proofs.ContentReads.{s-reads, touches, touches_are}
use Rattle.inodes_on_blocks.proofs.ReadParts.{part_read, part_short, few_blocks, blocks_within}
use Rattle.inodes_on_blocks.proofs.SlotSteps.{offsets_put}
use Rattle.inodes_on_blocks.proofs.StatSteps.{in_use, came_acting}
use Rattle.inodes_on_blocks.proofs.TableSteps.{GivesBack, given_came}

-- ---- a lock given up, and an offset that moves in the same step

-- an inode that is kept alone stays so, which the tables don't show
moved_shows : (t : TablesState) (n : ℕ) (g : above.World) (load : ℕ → Option Loaded) (o : Option ℕ) (e : Entry) (by : ℕ) (b : Bool) → tables.Shows t (with_offset (record g { lock = put g.lock n None }) o e by) load → tables.Shows t (with_offset (unlocked n g b) o e by) load
moved_shows t n g load None e by true s = record { sound = s.sound; places = s.places; files = s.files; desks = s.desks; lenders = s.lenders; range = s.range }
moved_shows t n g load None e by false s = record { sound = s.sound; places = s.places; files = s.files; desks = s.desks; lenders = s.lenders; range = s.range }
moved_shows t n g load (Some k) e by true s = record { sound = s.sound; places = s.places; files = s.files; desks = s.desks; lenders = s.lenders; range = s.range }
moved_shows t n g load (Some k) e by false s = record { sound = s.sound; places = s.places; files = s.files; desks = s.desks; lenders = s.lenders; range = s.range }

-- an open file of another inode stays
moved_open : (h n i s : ℕ) (g u : above.World) (e : Entry) (by : ℕ) → u.desks ≡ g.desks → u.files ≡ put g.files s (Some (entry_moved e by)) → g.files s ≡ Some e → e.file.number ≡ n → i ≢ n → OpenStays h i g u
moved_open h n i s g u e by desks files at mine ne fd k x below is there number = (
  (λ z. (desks z h).fds fd) ∙ is,
  x,
  (λ z. files z k) ∙ put_other g.files s (Some (entry_moved e by)) k (λ q. ne (sym number ∙ ap (λ (y : Entry). y.file.number) (same_Some x e (sym there ∙ ap g.files q ∙ at)) ∙ mine)) ∙ there,
  refl,
)

moved_offsets : (files : ℕ → Option Entry) (s : ℕ) (e : Entry) (by : ℕ) → e.file.offset + by ≤ largest_size → OffsetsShow files → OffsetsShow (put files s (Some (entry_moved e by)))
moved_offsets files s e by within = offsets_put files s (Some (entry_moved e by)) (λ x is. subst (λ (y : Entry). y.file.offset ≤ largest_size) (same_Some (entry_moved e by) x is) within)

module _ (sizes : Super) (l : Labels) (laws : Laws (labelled sizes.version l)) (keeps : Keeps l) (h : ℕ) (lt : h < hart_count) where
  pub moved_back : (n : ℕ) (g : above.World) (s : ℕ) (e : Entry) (by : ℕ) (b : Bool) → g.files s ≡ Some e → e.file.number ≡ n → e.file.offset + by ≤ largest_size → GivesBack sizes l laws keeps h lt n g (with_offset (unlocked n g b) (Some s) e by)
  moved_back n g s e by true at mine within = record {
    disk = refl;
    lock = refl;
    refs = refl;
    keeper = λ i ne. refl;
    size = refl;
    joined = λ j. refl;
    lender = refl;
    opens = λ i ne. moved_open h n i s g (with_offset (unlocked n g true) (Some s) e by) e by refl refl at mine ne;
    offsets = moved_offsets g.files s e by within;
  }
  moved_back n g s e by false at mine within = record {
    disk = refl;
    lock = refl;
    refs = refl;
    keeper = λ i ne. put_other g.keeper n None i ne;
    size = refl;
    joined = λ j. refl;
    lender = refl;
    opens = λ i ne. moved_open h n i s g (with_offset (unlocked n g false) (Some s) e by) e by refl refl at mine ne;
    offsets = moved_offsets g.files s e by within;
  }

module _ (sizes : Super) (l : Labels) (laws : Laws (labelled sizes.version l)) (keeps : Keeps l) (h : ℕ) (lt : h < hart_count) (fd n offset count : ℕ) (m : List ℕ → Option above.Mark) where
  abbrev W : Type 0
  W = Both World above.World

  abbrev M : Machine
  M = joined (labelled sizes.version l) (below sizes)

  abbrev op : above.Op
  op = ReadFile fd n offset count

  -- the program takes a step
  takes : (B : List l.Step → Type 0) (k : ℕ) (d : Dinode) (from upto : ℕ) (f : FilledMemory) (c : Carry) → TakesStep sizes l laws keeps h lt B (bind (read_blocks k d from upto f) (give_read fd n offset count m c))
  unfolding read_blocks
  takes B zero d from upto f c = tt
  takes B (suc k) d from upto f c = by (nat_lt (from / block_len) direct)
    where
      by : (b : Bool) → TakesStep sizes l laws keeps h lt B (bind (bind (fetch_at d (if b then Direct (from / block_len) else InTable (from / block_len - direct))) (read_part (read_blocks k d (next_block from) upto) from upto f)) (give_read fd n offset count m c))
      by true = tt
      by false = tt

  module _ (c : Carry) (B : List l.Step → Type 0) (C : List ℕ → List l.Step → above.World → Type 0) (lasts : Lasts (labelled sizes.version l) h B C) where
    abbrev Q : Handover (List ℕ) Carry → List l.Step → W → Type 0
    Q = Below (labelled sizes.version l) (below sizes) h C

    abbrev Todo : List l.Step → above.World → Type 0
    Todo = ToAct (labelled sizes.version l) (below sizes) laws (below_laws sizes l keeps) h B op m C lasts

    -- ---- the act

    module _ (part : List ℕ) (short : offset ≤ largest_size → offset + length part ≤ largest_size) where
      abbrev inode : Inode
      inode = record { number = n; content = record_had (c n) }

      abbrev Acts : W → Type 0
      Acts u =
          premises.May h (steps.Unlock inode (Some (fd, offset + length part))) u.real.state × ((x : Outside) → premises.Honest h (steps.Unlock inode (Some (fd, offset + length part))) u.real.state x
          → Acting (labelled sizes.version l) (below sizes) laws (below_laws sizes l keeps) h B op m C lasts above.Room u (premises.MayWait h (steps.Unlock inode (Some (fd, offset + length part))) u.real.state) (exec h x (steps.Unlock inode (Some (fd, offset + length part))) u.real)
          (λ a b r g. (gs : List l.Step) → Inv g → C b gs g → Wp M h B Q (Ret (record { answer = part; carry = put c n Apart })) 0 gs (record { real = r; seen = g })))

      acts_there : (u : W) → Shows u.real u.seen → Inv u.seen → Stands sizes h u.real u.seen c → rules.May sizes.version h op u.seen → part_of sizes.version (u.seen.disk n) offset count ≡ part → (e : Entry) → entry_of u.seen h fd ≡ Some e → e.file.number ≡ n → e.file.offset ≡ offset
          → (o : Option ℕ) → slot_at u.seen h fd ≡ o → Acts u
      unfolding steps.exec premises.May premises.MayWait premises.Honest
      acts_there u shows inv stands may read e is number at None slot = absurd (none-some e (sym (ap (entry_at u.seen.files) slot) ∙ is))
      acts_there u shows inv stands may read e is number at (Some s) slot =
          let t = tables_of u.real in
          let g = u.seen in
          let runs : tables.Runs h g = record { below = lt; free = may.0 } in
          let there : g.files s ≡ Some e = sym (ap (entry_at g.files) slot) ∙ is in
          let bound = shows.offsets s e there in
          let far : e.file.offset + length part ≤ largest_size = subst (λ (k : ℕ). k + length part ≤ largest_size) (sym at) (short (subst (λ (k : ℕ). k ≤ largest_size) at bound)) in
          let name : file_named h fd t ≡ Some (file_of e) = file_is h fd t g (loaded t) shows.tables inv runs ∙ ap (option_map file_of) is in
          let then_ : above.World = with_offset (unlocked n g (g.alone n)) (slot_at g h fd) e (length part) in
          let ran : above_exec.exec sizes.version h above.Room op g ≡ Ran part then_ = ap (read_at sizes.version g n count (slot_at g h fd)) is
          ∙ ap (λ (xs : List ℕ). Ran xs (with_offset (unlocked n g (g.alone n)) (slot_at g h fd) e (length xs))) (ap (λ (k : ℕ). part_of sizes.version (g.disk n) k count) at ∙ read) in
          let moved = offsets_are_moved h fd (length part) e inode t g (loaded t) shows.tables inv runs may.1.0 is in
          let after : tables.Shows (unlock_inode h inode (Some (fd, offset + length part)) t) then_ (put (loaded t) n (record_had (c n))) =
          moved_shows (unlock_inode h inode (Some (fd, offset + length part)) t) n g (put (loaded t) n (record_had (c n))) (slot_at g h fd) e (length part) (g.alone n)
          (subst (λ (k : ℕ). tables.Shows (unlock_inode h inode (Some (fd, k + length part)) t) (with_offset (record g { lock = put g.lock n None }) (slot_at g h fd) e (length part)) (put (loaded t) n (record_had (c n)))) at moved) in
          let back : GivesBack sizes l laws keeps h lt n g then_ = subst (λ (o : Option ℕ). GivesBack sizes l laws keeps h lt n g (with_offset (unlocked n g (g.alone n)) o e (length part))) (sym slot) (moved_back sizes l laws keeps h lt n g s e (length part) (g.alone n) there number far) in (
            (sym (shows.tables.places.holders n) ∙ may.1.0, (omega (arith, far, at), subst (λ (z : Option files.OpenFile). IfSome z (λ f. f.number ≡ n)) (sym name) number)),
            λ x honest.
                came_acting sizes l laws keeps h lt op m B C lasts u (premises.MayWait h (steps.Unlock inode (Some (fd, offset + length part))) u.real.state) (tt {0}) (with_tables u.real (unlock_inode h inode (Some (fd, offset + length part)) t)) part (put c n Apart)
                (λ a b r g. (gs : List l.Step) → Inv g → C b gs g → Wp M h B Q (Ret (record { answer = part; carry = put c n Apart })) 0 gs (record { real = r; seen = g })) tt stands.1
                (given_came sizes l laws keeps h lt op n u c part (unlock_inode h inode (Some (fd, offset + length part)) t) then_ shows stands.0 may.1.0 may.0 ran after back)
                (λ f same_f stands_f gs inv_f done. (done, stands_f)),
          )

      gives : (es : List l.Step) (w : W) → Todo es w.seen → Stands sizes h w.real w.seen c → part_of sizes.version (w.seen.disk n) offset count ≡ part → Wp M h B Q (give_read fd n offset count m c (with_bytes part)) 1 es w
      gives es w todo stands read =
          s-act (labelled sizes.version l) (below sizes) laws (below_laws sizes l keeps) h B op m C lasts above.Room (steps.Unlock inode (Some (fd, offset + length part))) (λ a. Ret (record { answer = part; carry = put c n Apart })) Q 0 es w todo
          (λ u fs here may.
          let mine : lock_holder n (tables_of w.real) ≡ Some h = here.same.no_more n (sym (here.shows.tables.places.holders n) ∙ may.1.0) in
          let still = (kept_disk h n w.seen u.seen here.kept stands.0.lent (stands.0.inodes n mine).keeps).1 in
          acts_there u here.shows here.inv ((below_laws sizes l keeps).base h w.real u.real w.seen u.seen c here.same here.kept stands) may
          (ap (λ (x : Option Node). part_of sizes.version x offset count) still ∙ read) may.1.1.entry may.1.1.at may.1.1.number (ap offset_of (sym may.1.1.at) ∙ may.1.2) (slot_at u.seen h fd) refl)

    -- ---- the blocks, and then that

    from : (v : W) (fs : List l.Step) → Todo fs v.seen → Shows v.real v.seen → Inv v.seen → Stands sizes h v.real v.seen c → Wp M h B Q (read_file fd n offset count c m) 1609 fs v
    from v fs todo shows inv stands = by (c n) refl (stands.0.inodes n mine)
      where
        may : rules.May sizes.version h op v.seen
        may = may_act (labelled sizes.version l) (below sizes) laws (below_laws sizes l keeps) h B op m C lasts fs v.seen todo inv

        mine : lock_holder n (tables_of v.real) ≡ Some h
        mine = sym (shows.tables.places.holders n) ∙ may.1.0

        node : Node
        node = may.1.3.node

        there : v.seen.disk n ≡ Some node
        there = may.1.3.is

        d : Dinode
        d = inode_in (log_of v.real) n

        part : List ℕ
        part = part_of (log_of v.real).sizes.version (Some node) offset count

        by : (had : Had) → c n ≡ had → InHand h n (c n) v.real v.seen → Wp M h B Q (read_file fd n offset count c m) 1609 fs v
        by Apart is hand = absurd (subst (λ (o : Had). IsLoaded (log_of v.real).sizes.version o (v.seen.disk n) d) is hand.loaded_is)
        by Emptied is hand = absurd (none-some node (sym (subst (λ (o : Had). IsLoaded (log_of v.real).sizes.version o (v.seen.disk n) d) is hand.loaded_is).0 ∙ there))
        by (Has x learned) is hand =
            let record_is : record_in c n ≡ d = ap (λ (o : Had). (unwrap_or (record_had o) (unindexed no_record)).inode) is ∙ (subst (λ (o : Had). IsLoaded (log_of v.real).sizes.version o (v.seen.disk n) d) is hand.loaded_is).0 in
            let holds : HoldsAt (disk_of (log_of v.real)) v.real.owner n (Some node) = subst (λ (o : Option Node). HoldsAt (disk_of (log_of v.real)) v.real.owner n o) there hand.holds in
            let used = in_use (version_in (disk_of (log_of v.real))) d node holds.inode in
            let plain = may.1.3.fits in
            let blocks : ℕ = blocks_between offset (end_of d offset count) in
            let few = few_blocks v.real v.seen shows n node holds used plain offset count in
            subst (λ (y : Dinode). Wp M h B Q (bind (read_from y offset count []) (give_read fd n offset count m c)) 1609 fs v) (sym record_is)
            (Wp-more M h (bind (read_from d offset count []) (give_read fd n offset count m c)) B Q (touches blocks 1) 1609 fs v (let steps_ = touches_are blocks 1 in omega (arith, few, steps_))
            (s-reads sizes l laws keeps h lt B Q Todo (to_act (labelled sizes.version l) (below sizes) laws (below_laws sizes l keeps) h B op m C lasts) n (Some node) (give_read fd n offset count m c) 1 v holds used mine stands.0.free
            blocks offset (end_of d offset count) (with_bytes []) v fs ((below_laws sizes l keeps).same h v.real) (kept_same h v.seen) todo (blocks_within v.real v.seen shows n node holds used plain offset count)
            (λ z gs same kept stage.
            subst (λ (f : FilledMemory). Wp M h B Q (give_read fd n offset count m c f) 1 gs z) (sym (part_read v.real v.seen shows n node holds used plain offset count))
            (gives part (part_short v.real v.seen shows n node holds used plain offset count) gs z stage ((below_laws sizes l keeps).base h v.real z.real v.seen z.seen c same kept stands)
            (ap (λ (o : Option Node). part_of sizes.version o offset count) ((kept_disk h n v.seen z.seen kept stands.0.lent hand.keeps).1 ∙ there) ∙ ap (λ (z : Super). part_of z.version (Some node) offset count) (sym stands.1))))))

  pub read_acts : ActsOnceAt sizes l h op m (read_file fd n offset count)
  read_acts c B C es w lasts todo stands =
      s-here sizes l laws keeps h lt B (read_file fd n offset count c m) (Q c B C lasts) (Todo c B C lasts) (to_act (labelled sizes.version l) (below sizes) laws (below_laws sizes l keeps) h B op m C lasts)
      (takes B (blocks_between offset (end_of (record_in c n) offset count)) (record_in c n) offset (end_of (record_in c n) offset count) (with_bytes []) c) 1609 es w todo
      (λ v fs here. from c B C lasts v fs here.stage here.shows here.inv ((below_laws sizes l keeps).base h w.real v.real w.seen v.seen c here.same here.kept stands))
