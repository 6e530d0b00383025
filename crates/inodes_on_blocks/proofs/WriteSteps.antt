-- A piece is written into a locked file, and the operation acts when the lock is given up; or it is refused.
use Rattle.inodes_on_blocks.proofs.Vocabulary.{◌≡◌, ⊎_elim, ℕ, zero, suc, ◌+◌, ◌-◌, ◌/◌, ◌<◌, ◌≤◌, ◌==◌, ◌&&◌, not, nat_lt, Bool, true, false, List, [], ◌∷◌, length, take, drop, Option, Some, None, refl, sym, ◌∙◌, ap, subst, arith, append_assoc, if◌then◌else◌, slice_index, max, unwrap_or, cases_lt, nat_tests, none-some, Dinode, Super, IsBytes, overwrite, IsDinode, largest_size, HoldsAt, Cause, BadOffset, TooBig, Node, NodeKind, Directory, File, Device, content, node_or, write_kind, hart_count, Ret, bind, Machine, Laws, P, Wp, Both, Handover, joined, Below, Lasts, ToAct, to_act, may_act, bind-assoc, Wp-more, lock_holder, inode_block, no_record, store_inode, Direct, InTable, table_of, blocks_between, WriteResult, front_of, grown, locate_at, locate_in_table, located, name_direct, store_written, take_one, with_table, write_blocks, write_located, Spent, size, with_bitmap, with_contents, with_inode, most_recorded, Wrote, WriteFile, with_bytes, Inv, World, log_of, tables_of, disk_of, inode_in, Apart, Emptied, Has, Had, Carry, IsLoaded, Stands, below, Labels, labelled, Keeps, record_had, IsChanging, HasSpent, Shows, ActsWithin, DoesItWithin, NoMore, record_in, deny_write, give_written, refused_in, write_file, write_unless, Answers, IsDone, alone, unindexed, IsIndexOf, index_in, all_slots, block_len, direct, Version, version_in}
use Rattle.plain_tree.specs.Steps.{is_file}
use Rattle.inode_machine.specs.World as above
use Rattle.inode_machine.specs.Rules as rules
use Rattle.inodes_on_blocks.proofs.Basics.{alone_keeps, alone_laws, lasts_done, HasBlocks, blocks_start, blocks_end, extra, named_room, one_of, below_laws, lock_range, seen_dinode, both_more, record_spent, spent_stays, TakesStep, s-here, indexed_file, indexed_in}
use Rattle.inodes_on_blocks.proofs.Changing.{Changing, changing_start}
use Rattle.inodes_on_blocks.proofs.LocateSteps.{Between, Fits}
use Rattle.inodes_on_blocks.proofs.NumberPuts.{sized}
use Rattle.inodes_on_blocks.proofs.ReadParts.{many_between, none_there}
use Rattle.inodes_on_blocks.proofs.Spending.{ends_within}
use Rattle.inodes_on_blocks.proofs.StatSteps.{in_use}
use Rattle.inodes_on_blocks.proofs.WriteBlocks.{file, s-blocks, write_steps, write_steps_are}
use Rattle.inodes_on_blocks.proofs.WrittenSteps.{IsWritten, denies, gives_written, s-stored}

-- ---- what is refused

is_over : (a b : ℕ) → nat_lt a b ≡ false → b ≤ a
is_over a b e = grind (arith, nat_tests)

-- some bytes, as above
refused_as : (version : Version) (d : Dinode) (fs : List ℕ) (offset : ℕ) (bytes : List ℕ) → d.size ≡ length fs → 0 < length bytes → write_kind version (File fs) offset bytes ≡ refused_in d offset bytes
refused_as version d fs offset [] same some = absurd (omega (arith, some))
refused_as version d fs offset (b ∷ bs) same some = ap (λ (k : ℕ). if nat_lt k offset then Some BadOffset else (if nat_lt largest_size (offset + length (b ∷ bs)) then Some TooBig else None)) (sym same)

-- a write that isn't refused goes no further than a content may
fits_in : (d : Dinode) (offset : ℕ) (bytes : List ℕ) → refused_in d offset bytes ≡ None → (offset ≤ d.size) × (offset + length bytes ≤ largest_size)
fits_in d offset bytes e = by (nat_lt d.size offset) refl (nat_lt largest_size (offset + length bytes)) refl e
  where
    by : (p : Bool) → nat_lt d.size offset ≡ p → (q : Bool) → nat_lt largest_size (offset + length bytes) ≡ q → (if p then Some BadOffset else (if q then Some TooBig else None)) ≡ None → (offset ≤ d.size) × (offset + length bytes ≤ largest_size)
    by true is q far z = absurd (none-some BadOffset (sym z))
    by false is true far z = absurd (none-some TooBig (sym z))
    by false is false far z = (is_over d.size offset is, is_over largest_size (offset + length bytes) far)

-- a record with another size
sized_fits : (z : ℕ) (d : Dinode) → z ≤ largest_size → IsDinode d → IsDinode (sized z d)
sized_fits z d small is = record { kind = is.kind; major = is.major; minor = is.minor; nlink = is.nlink; size = omega (arith, small); thirteen = is.thirteen; addrs = is.addrs }

-- a piece has bytes in four blocks at most
few_blocks : (from upto : ℕ) → upto ≤ from + 3072 → blocks_between from upto ≤ 4
few_blocks from upto short =
    ⊎_elim
    (λ (less : from < upto). let many = many_between from upto less in omega (arith, many, short, less))
    (λ (le : upto ≤ from). let none = none_there from upto le in omega (arith, none))
    (cases_lt from upto)

-- a node that is a file's
file_is : (version : Version) (x : Node) → is_file x.kind ≡ true → x ≡ file x.count (content version x.kind)
file_is version x e = λ i. record { count = x.count; kind = by x.kind e i }
  where
    by : (k : NodeKind) → is_file k ≡ true → k ≡ File (content version k)
    by (Directory slots) q = absurd cc
    by (File bs) q = refl
    by (Device major minor z) q = absurd cc

-- bytes written into a file, above
written_file : (count offset : ℕ) (fs bytes : List ℕ) → file count (overwrite fs offset bytes) ≡ with_bytes offset bytes (file count fs)
written_file count offset fs bytes = ap (file count) (sym (append_assoc (take offset fs) bytes (drop (offset + length bytes) fs)))

same_spent : (s : Spent) → NoMore s s
same_spent s g = omega arith

module _ (sizes : Super) (l : Labels) (laws : Laws (labelled sizes.version l)) (keeps : Keeps l) (h : ℕ) (lt : h < hart_count) (fd n offset : ℕ) (bytes : List ℕ) (m : Wrote → Option above.Mark)
    (c : Carry) (B : List l.Step → Type 0) (C : Wrote → List l.Step → above.World → Type 0) (lasts : Lasts (labelled sizes.version l) h B C) (s : Spent) (room : size (with_inode n (with_bitmap s)) + 5 ≤ most_recorded) (some : 0 < length bytes) (are : IsBytes bytes) where
  abbrev W : Type 0
  W = Both World above.World

  abbrev M : Machine
  M = joined (labelled sizes.version l) (below sizes)

  abbrev op : above.Op
  op = WriteFile fd n offset bytes

  -- what the transaction has spent with the records, and then
  abbrev mid : Spent
  mid = with_inode n (with_bitmap s)

  abbrev end : Spent
  end = with_contents 5 mid

  abbrev Q : Handover Wrote Carry → List l.Step → W → Type 0
  Q r fs u = Below (labelled sizes.version l) (below sizes) h C r fs u × HasSpent sizes h end u.real

  abbrev Todo : List l.Step → above.World → Type 0
  Todo = ToAct (labelled sizes.version l) (below sizes) laws (below_laws sizes l keeps) h B op m C lasts

  may_at : (fs : List l.Step) (g : above.World) → Todo fs g → Inv g → rules.May sizes.version h op g
  may_at fs g todo inv = may_act (labelled sizes.version l) (below sizes) laws (below_laws sizes l keeps) h B op m C lasts fs g todo inv

  changes : (fs : List l.Step) (g : above.World) → Todo fs g → Inv g → IsChanging h n g
  changes fs g todo inv = let may = may_at fs g todo inv in record { lock = may.1.0.0; joined = may.1.0.1 }

  -- ---- the program takes a step

  blocks_take : {A : Type 0} (k at : ℕ) (bs : List ℕ) (d : Dinode) (f : WriteResult → P M A) → ((w : WriteResult) → TakesStep sizes l laws keeps h lt B (f w)) → TakesStep sizes l laws keeps h lt B (bind (write_blocks k sizes at bs d) f)
  unfolding write_blocks
  blocks_take zero at bs d f each = each (record { inode = d; upto = at })
  blocks_take {A} (suc k) at bs d f each = by (nat_lt (at / block_len) direct)
    where
      more : Dinode → P M WriteResult
      more = write_blocks k sizes (at + length (front_of at bs)) (drop (length (front_of at bs)) bs)

      own : (b : Bool) → TakesStep sizes l laws keeps h lt B
          (bind (bind (if b then bind (take_one sizes) (name_direct (at / block_len) d) else located d (Some (slice_index d.addrs (at / block_len)))) (write_located more at bs)) f)
      own true = tt
      own false = tt

      table : (b : Bool) → TakesStep sizes l laws keeps h lt B (bind (bind (if b then bind (take_one sizes) (with_table sizes (at / block_len - direct) d) else locate_in_table sizes (at / block_len - direct) d) (write_located more at bs)) f)
      table true = tt
      table false = tt

      by : (b : Bool) → TakesStep sizes l laws keeps h lt B (bind (bind (locate_at sizes d (if b then Direct (at / block_len) else InTable (at / block_len - direct))) (write_located more at bs)) f)
      by true = own (slice_index d.addrs (at / block_len) == 0)
      by false = table (table_of d == 0)

  takes : (why : Option Cause) → TakesStep sizes l laws keeps h lt B (write_unless sizes fd n offset bytes m c why)
  takes (Some why) = tt
  takes None =
      subst (TakesStep sizes l laws keeps h lt B) (sym (bind-assoc (write_blocks (blocks_between offset (offset + length bytes)) sizes offset bytes (record_in c n)) (store_written sizes n) (give_written fd n offset bytes m c)))
      (blocks_take (blocks_between offset (offset + length bytes)) offset bytes (record_in c n) (λ w. bind (store_written sizes n w) (give_written fd n offset bytes m c)) (λ w. tt))

  -- ---- from v on, with the lock in the hart's hand

  module _ (count : ℕ) (fs : List ℕ) (v : W) (gs : List l.Step) (todo : Todo gs v.seen) (shows : Shows v.real v.seen) (inv : Inv v.seen) (stands : Stands sizes h v.real v.seen c) (known : HasSpent sizes h s v.real) (there : v.seen.disk n ≡ Some (file count fs)) where
    may : rules.May sizes.version h op v.seen
    may = may_at gs v.seen todo inv

    mine : lock_holder n (tables_of v.real) ≡ Some h
    mine = sym (shows.tables.places.holders n) ∙ may.1.0.0

    abbrev d : Dinode
    d = inode_in (log_of v.real) n

    held : HoldsAt (disk_of (log_of v.real)) v.real.owner n (Some (file count fs))
    held = subst (λ (o : Option Node). HoldsAt (disk_of (log_of v.real)) v.real.owner n o) there (stands.0.inodes n mine).holds

    long : d.size ≡ length fs
    long = held.inode.size

    small : d.size ≤ largest_size
    small = (held.room (in_use (version_in (disk_of (log_of v.real))) d (file count fs) held.inode)).limit

    record_is : record_in c n ≡ d
    record_is = by (c n) refl
      where
        by : (had : Had) → c n ≡ had → record_in c n ≡ d
        by Apart is = absurd (subst (λ (o : Had). IsLoaded (log_of v.real).sizes.version o (v.seen.disk n) d) is (stands.0.inodes n mine).loaded_is)
        by Emptied is = absurd (none-some (file count fs) (sym (subst (λ (o : Had). IsLoaded (log_of v.real).sizes.version o (v.seen.disk n) d) is (stands.0.inodes n mine).loaded_is).0 ∙ there))
        by (Has x learned) is = ap (λ (o : Had). (unwrap_or (record_had o) (unindexed no_record)).inode) is ∙ (subst (λ (o : Had). IsLoaded (log_of v.real).sizes.version o (v.seen.disk n) d) is (stands.0.inodes n mine).loaded_is).0

    -- a file has no names, before and after
    indexed : (xs : List ℕ) → IsIndexOf sizes.version (index_in c n) (Some (file count xs))
    indexed xs =
        indexed_file sizes.version (index_in c n) (v.seen.disk n) (Some (file count xs)) (ap all_slots there)
        (subst (λ (z : Super). IsIndexOf z.version (index_in c n) (v.seen.disk n)) stands.1 (indexed_in (log_of v.real).sizes.version (c n) (v.seen.disk n) d (stands.0.inodes n mine).loaded_is))

    -- with the inode's block and the bitmap
    spent_now : HasSpent sizes h mid v.real
    spent_now = (known.0, both_more h n s v.real known.1)

    -- Once the first k bytes are written the record is put, and the lock given up.
    ends : refused_in d offset bytes ≡ None → (e : Dinode) (bs : List ℕ) (k : ℕ) (u : W) (hs : List l.Step) → k ≤ length bytes
        → Between sizes h n (Todo hs) c (Some (file count fs)) (sized (max d.size (offset + k)) e) (file count (overwrite fs offset (take k bytes))) (HasBlocks sizes h mid bs) u → Fits d.size e → length bs ≤ 5
        → Wp M h B Q (bind (store_written sizes n (record { inode = e; upto = offset + k })) (give_written fd n offset bytes m c)) 4 hs u
    ends allowed e bs k u hs within now fits few =
        subst (λ (p : P M (Handover Wrote Carry)). Wp M h B Q p 4 hs u) (sym (bind-assoc (store_inode sizes.inodestart n last) (λ _. Ret wrote) (give_written fd n offset bytes m c)))
        (s-stored sizes l laws keeps h lt B Q Todo (to_act (labelled sizes.version l) (below sizes) laws (below_laws sizes l keeps) h B op m C lasts) n changes c (Some (file count fs)) last (file count (overwrite fs offset (take k bytes))) (indexed (overwrite fs offset (take k bytes)))
        (sized_fits (max e.size (offset + k)) e (let size_is = fits.1 in let low = small in omega (arith, limit, within, size_is, low)) fits.0)
        (HasBlocks sizes h mid bs) (HasBlocks sizes h mid bs) (named_room sizes h (inode_block sizes.inodestart n) mid bs (record_spent sizes n (with_bitmap s)) (omega (arith, few, room)))
        (λ _. give_written fd n offset bytes m c wrote) 1 hs u now.stage now.shows
        (subst (λ (z : ℕ). Changing h n c (Some (file count fs)) (sized (max z (offset + k)) e) (file count (overwrite fs offset (take k bytes))) u.real u.seen) (sym fits.1) now.changing) now.none now.at now.known
        (λ z js stored.
        ends_within sizes l h (give_written fd n offset bytes m c wrote) end end (end, same_spent end, λ a. (end, refl, same_spent end)) B (Below (labelled sizes.version l) (below sizes) h C) 1 js z
        (gives_written sizes l laws keeps h lt fd n offset bytes m c B C lasts (file count fs) (refused_as sizes.version d fs offset bytes long some ∙ allowed) k within (λ low. omega (arith, limit, within)) wrote refl js z stored.stage
        (subst (λ (x : Node). IsWritten h n c (Some (file count fs)) last x z.real z.seen) (written_file count offset fs (take k bytes)) stored.written) stored.at)
        (blocks_end sizes h mid bs 5 z.real few stored.known)))
      where
        limit : offset + length bytes ≤ largest_size
        limit = (fits_in d offset bytes allowed).1

        wrote : WriteResult
        wrote = record { inode = grown (record { inode = e; upto = offset + k }); upto = offset + k }

        last : Dinode
        last = grown (record { inode = e; upto = offset + k })

    writes : (why : Option Cause) → refused_in d offset bytes ≡ why → Wp M h B Q (write_unless sizes fd n offset bytes m c why) 98 gs v
    writes (Some why) is =
        ends_within sizes l h (deny_write fd n offset bytes m c why) end end (end, same_spent end, λ a. (end, refl, same_spent end)) B (Below (labelled sizes.version l) (below sizes) h C) 98 gs v
        (denies sizes l laws keeps h lt fd n offset bytes m c B C lasts why gs v todo stands mine (ap (λ (o : Option Node). write_kind sizes.version (node_or o).kind offset bytes) there ∙ refused_as sizes.version d fs offset bytes long some ∙ is))
        (spent_now.0, λ k e. let few = spent_now.1 k e in omega (arith, few))
    writes None is =
        let most = few_blocks offset (offset + length bytes) (let short = may.1.4 in omega (arith, short)) in
        let blocks : ℕ = blocks_between offset (offset + length bytes) in
        let fits_ = fits_in d offset bytes is in
        subst (λ (p : P M (Handover Wrote Carry)). Wp M h B Q p 98 gs v) (sym (bind-assoc (write_blocks blocks sizes offset bytes (record_in c n)) (store_written sizes n) (give_written fd n offset bytes m c)))
        (subst (λ (x : Dinode). Wp M h B Q (bind (write_blocks blocks sizes offset bytes x) (λ w. bind (store_written sizes n w) (give_written fd n offset bytes m c))) 98 gs v) (sym record_is)
        (Wp-more M h (bind (write_blocks blocks sizes offset bytes d) (λ w. bind (store_written sizes n w) (give_written fd n offset bytes m c))) B Q (write_steps blocks 4) 98 gs v (let steps_ = write_steps_are blocks 4 in omega (arith, steps_, most))
        (s-blocks sizes l laws keeps h lt B Q Todo (to_act (labelled sizes.version l) (below sizes) laws (below_laws sizes l keeps) h B op m C lasts) n changes c (Some (file count fs)) mid refl count d.size (λ w. bind (store_written sizes n w) (give_written fd n offset bytes m c)) 4
        blocks offset d.size 1 bytes fs refl are long fits_.0 fits_.1 (omega (arith, most, room)) d (seen_dinode v.real v.seen shows n (lock_range n h v.real v.seen shows may.1.0.0).1, refl) [] (least (table_of d)) v gs
        (record {
          changing = changing_start h n c (file count fs) v.real v.seen stands.0 mine there;
          shows = shows;
          stage = todo;
          none = stands.0.free;
          at = stands.1;
          known = blocks_start sizes h mid v.real spent_now;
        })
        (λ e bs k u hs within now fits few. ends is e bs k u hs within now fits (omega (arith, few, most))))))
      where
        least : (t : ℕ) → 0 + extra true [] t ≤ 1
        least t = by (not (not (t == 0) && false))
          where
            by : (b : Bool) → 0 + one_of b ≤ 1
            by true = omega arith
            by false = omega arith

  pub write_acts : (es : List l.Step) (w : W) → Todo es w.seen → Stands sizes h w.real w.seen c → HasSpent sizes h s w.real → Wp M h B Q (write_file sizes fd n offset bytes c m) 98 es w
  write_acts es w todo stands known =
      s-here sizes l laws keeps h lt B (write_file sizes fd n offset bytes c m) Q Todo (to_act (labelled sizes.version l) (below sizes) laws (below_laws sizes l keeps) h B op m C lasts) (takes (refused_in (record_in c n) offset bytes)) 98 es w todo
      (λ v gs here.
      let may = may_at gs v.seen here.stage here.inv in
      let x : Node = may.1.3.node in
      let count : ℕ = x.count in
      let fs : List ℕ = content sizes.version x.kind in
      let there : v.seen.disk n ≡ Some (file count fs) = may.1.3.is ∙ ap (λ (z : Node). Some z) (file_is sizes.version x may.1.3.fits) in
      let stands_v = (below_laws sizes l keeps).base h w.real v.real w.seen v.seen c here.same here.kept stands in
      let known_v = spent_stays sizes h s w.real v.real here.same known in
      subst (λ (why : Option Cause). Wp M h B Q (write_unless sizes fd n offset bytes m c why) 98 gs v) (sym (ap (λ (d : Dinode). refused_in d offset bytes) (record_is count fs v gs here.stage here.shows here.inv stands_v known_v there)))
      (writes count fs v gs here.stage here.shows here.inv stands_v known_v there (refused_in (inode_in (log_of v.real) n) offset bytes) refl))

-- A piece is written within what its transaction may record.
pub write_within : (sizes : Super) (l : Labels) (laws : Laws (labelled sizes.version l)) (keeps : Keeps l) (h : ℕ) → h < hart_count → (fd n offset : ℕ) (bytes : List ℕ) → 0 < length bytes → IsBytes bytes → (m : Wrote → Option above.Mark) → ActsWithin sizes l h (WriteFile fd n offset bytes) m (write_file sizes fd n offset bytes)
write_within sizes l laws keeps h lt fd n offset bytes some are m c s B C es w lasts todo stands few has = write_acts sizes l laws keeps h lt fd n offset bytes m c B C lasts s (omega (arith, few)) some are es w todo stands has

-- with the history that is the operations themselves
pub writes_within : (sizes : Super) (fd n offset : ℕ) (bytes : List ℕ) → 0 < length bytes → IsBytes bytes → DoesItWithin sizes (WriteFile fd n offset bytes) (write_file sizes fd n offset bytes)
writes_within sizes fd n offset bytes some are h s m c w lt few todo stands known =
    write_within sizes alone (alone_laws sizes.version) alone_keeps h lt fd n offset bytes some are m c s (IsDone (WriteFile fd n offset bytes)) (Answers (WriteFile fd n offset bytes)) [] w (lasts_done sizes.version (WriteFile fd n offset bytes) h) todo stands few (stands.1, known)
