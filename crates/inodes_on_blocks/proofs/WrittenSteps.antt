-- The end of a write: the inode's record is put unseen, and the operation acts when the lock is given up and the
-- offset moves.
use Rattle.inodes_on_blocks.proofs.Vocabulary.{◌≡◌, ◌≢◌, inl, inr, ℕ, suc, ◌+◌, ◌-◌, ◌<◌, ◌≤◌, ◌==◌, if◌then◌else◌, Bool, true, false, List, length, take, Option, Some, None, is_some, refl, sym, ◌∙◌, ap, subst, arith, option_map, IfSome, take_all, none-some, Dinode, Super, IsDinode, IsOutsideLog, holder_of, kept, has, HasRoom, largest_size, HoldsAt, Cause, Node, node_or, write_kind, put, hart_count, put_again, eq_is, eq_isnt, same_or, put_same, put_other, Ret, Do, bind, Ran, Machine, Laws, P, Wp, Both, Handover, joined, Below, Lasts, Acting, Here, Stable, ToAct, s-act, bind-assoc, Inode, unlock_inode, TablesState, file_named, lock_holder, Outside, fetch, seen_of, WriteResult, inode_block, put_inode, with_dinode, store_inode, Entry, Wrote, Whole, Stopped as Refused, Short, WriteFile, entry_at, offset_of, slot_at, unlocked, with_bytes, with_offset, with_record, write_at, write_if, wrote_in, marked, with_mark, HonestPiece, Idle, Inv, loaded, file_of, World, log_of, tables_of, disk_of, inode_in, exec, KeepsRoom, world_with, acts, in_hand, IsFetched, Apart, Base, Carry, Had, Has, InHand, IsLoaded, IsOpened, Keeps, Kept, Labels, NothingMore, Same, Stands, below, labelled, record_had, IsThrough, CanPut, IsChanging, log_with, Shows, give_written, deny_write, Loaded, IsIndexOf, index_in, recorded_had, block_len}
use Rattle.std.proofs.lemmas.List.{length-take}
use Rattle.inodes_on_blocks.proofs.Basics.{untouched, locks_are_given, file_is, offsets_are_moved, kept_then, buffer_seen, buffer_then, s-fetch, base_marked, below_laws, hand_then, kept_disk, lent_then, through_then, through_put, empty_hand, inode_place, marked_same, shows_marked, open_same, open_then, lock_range, node_then, inode_home, untaken, stored_long, stored_bytes, one_step_from, with_tables}
use Rattle.fs_machine.specs.declared.files.OpenFile as files
use Rattle.fs_machine.specs.Premises as premises
use Rattle.fs_machine.specs.Steps as steps
use Rattle.inode_machine.specs.World as above
use Rattle.inode_machine.specs.Rules as rules
use Rattle.inode_machine.specs.Exec as above_exec
use Rattle.inode_machine.specs.Exec.{entry_of, write_in}
use Rattle.inodes_on_blocks.specs.ShownTables as tables
use Rattle.inodes_on_blocks.specs.Recording as recording
use Rattle.inodes_on_blocks.proofs.Changing.{Changing, changing_then, left_but, left_same, others_put}
use Rattle.inodes_on_blocks.proofs.NamingPuts.{holds_then, inode_then, naming_leaves, none_taken}
use Rattle.inodes_on_blocks.proofs.PutSteps.{Putting, s-put}
use Rattle.inodes_on_blocks.proofs.ReadSteps.{moved_back}
use Rattle.inodes_on_blocks.proofs.TableSteps.{GivesBack, given_base, given_came, given_same, given_shows, unlocked_back, unlocked_shows}

-- ---- an inode that was changed, and whose lock the hart has still

-- Above it is what it was; below it has this record, and holds this node. The hart's other inodes are as before, and
-- it has nothing else.
pub record IsWritten (h n : ℕ) (c : Carry) (o : Option Node) (d : Dinode) (x : Node) (r : World) (g : above.World) : Type 0 where
  pub others : (i : ℕ) → i ≢ n → lock_holder i (tables_of r) ≡ Some h → InHand h i (c i) r g
  pub lock : lock_holder n (tables_of r) ≡ Some h
  pub keeps : g.keeper n ≡ Some h
  pub was : g.disk n ≡ o
  pub inode : inode_in (log_of r) n ≡ d
  pub holds : HoldsAt (disk_of (log_of r)) r.owner n (Some x)
  pub free : in_hand h r ≡ 0
  pub taken : (b : ℕ) → r.taken b ≢ Some h
  pub through : IsThrough h r
  pub lent : ((g.desks h).lender ≡ None → ⊥) → Idle h g
  -- the index that it has is right for that node
  pub indexed : IsIndexOf (log_of r).sizes.version (index_in c n) (Some x)

-- it lasts while others step
pub written_then : (h n : ℕ) (c : Carry) (o : Option Node) (d : Dinode) (x : Node) (v w : World) (g u : above.World) → Same h v w → Kept h g u → IsWritten h n c o d x v g → IsWritten h n c o d x w u
written_then h n c o d x v w g u same kept is =
    let stays = same.inodes n is.lock in
    let now = kept_disk h n g u kept is.lent is.keeps in
    record {
      others = λ i ne e. let before = same.no_more i e in hand_then h i (c i) v w g u same.sizes (same.inodes i before) kept is.lent (is.others i ne before);
      lock = stays.lock;
      keeps = now.0;
      was = now.1 ∙ is.was;
      inode = stays.untouched.inode ∙ is.inode;
      holds = untouched (disk_of (log_of v)) (disk_of (log_of w)) v.owner w.owner n (Some x) stays.untouched is.holds;
      free = same.held ∙ is.free;
      taken = untaken h v w same.taken is.taken;
      through = through_then h v w same.begun is.through;
      lent = lent_then h g u kept is.lent;
      indexed = subst (λ (z : Super). IsIndexOf z.version (index_in c n) (Some x)) (sym same.sizes) is.indexed;
    }

-- above, once it is that node there, the hart has its record in hand
written_base : (h n : ℕ) (c : Carry) (o : Option Node) (d : Dinode) (x : Node) (r : World) (g : above.World) → (g.desks h).lender ≡ None → IsWritten h n c o d x r g → Base h r (with_record g n (Some x)) (put c n (Has (recorded_had c n d) NothingMore))
written_base h n c o d x r g free is = record {
  free = is.free;
  taken = is.taken;
  through = is.through;
  inodes = λ i e. elim (same_or i n) [
    | inl q ↦ subst (λ (j : ℕ). InHand h j (put c n (Has (recorded_had c n d) NothingMore) j) r (with_record g n (Some x))) (sym q) this
    | inr ne ↦ subst (λ (z : Had). InHand h i z r (with_record g n (Some x))) (sym (put_other c n (Has (recorded_had c n d) NothingMore) i ne)) (other i ne (is.others i ne e))
  ];
  lent = λ some. absurd (some free);
}
  where
    this : InHand h n (put c n (Has (recorded_had c n d) NothingMore) n) r (with_record g n (Some x))
    this = record {
      keeps = is.keeps;
      loaded_is =
          subst (λ (z : Had). IsLoaded (log_of r).sizes.version z (put g.disk n (Some x) n) (inode_in (log_of r) n)) (sym (put_same c n (Has (recorded_had c n d) NothingMore)))
          (sym is.inode, (λ z. none-some x (sym z ∙ put_same g.disk n (Some x))), tt, subst (IsIndexOf (log_of r).sizes.version (index_in c n)) (sym (put_same g.disk n (Some x))) is.indexed);
      holds = subst (λ (v : Option Node). HoldsAt (disk_of (log_of r)) r.owner n v) (sym (put_same g.disk n (Some x))) is.holds;
      opened = subst (λ (z : Had). IsOpened h n z (with_record g n (Some x))) (sym (put_same c n (Has (recorded_had c n d) NothingMore))) tt;
    }

    other : (i : ℕ) → i ≢ n → InHand h i (c i) r g → InHand h i (c i) r (with_record g n (Some x))
    other i ne was = record {
      keeps = was.keeps;
      loaded_is = subst (λ (v : Option Node). IsLoaded (log_of r).sizes.version (c i) v (inode_in (log_of r) i)) (sym (put_other g.disk n (Some x) i ne)) was.loaded_is;
      holds = subst (λ (v : Option Node). HoldsAt (disk_of (log_of r)) r.owner i v) (sym (put_other g.disk n (Some x) i ne)) was.holds;
      opened = open_then h i (c i) g (with_record g n (Some x)) (open_same h i g) was.opened;
    }

-- ---- its record put unseen

-- How a hart that was in w goes on after it has put the record: what it knows of z.
pub record Stored (sizes : Super) (h n : ℕ) (Stage : above.World → Type 0) (c : Carry) (o : Option Node) (d : Dinode) (x : Node) (Then : World → Type 0) (w z : Both World above.World) : Type 0 where
  pub written : IsWritten h n c o d x z.real z.seen
  pub kept : Kept h w.seen z.seen
  pub shows : Shows z.real z.seen
  pub inv : Inv z.seen
  pub stage : Stage z.seen
  pub at : (log_of z.real).sizes ≡ sizes
  pub known : Then z.real

module _ (sizes : Super) (l : Labels) (laws : Laws (labelled sizes.version l)) (keeps : Keeps l) (h : ℕ) (lt : h < hart_count) (B : List l.Step → Type 0) where
  abbrev W : Type 0
  W = Both World above.World

  abbrev M : Machine
  M = joined (labelled sizes.version l) (below sizes)

  module _ {A : Type 0} (Q : A → List l.Step → W → Type 0) (G : List l.Step → above.World → Type 0) (stable : Stable (labelled sizes.version l) (below sizes) laws (below_laws sizes l keeps) h B G)
      (n : ℕ) (changes : (fs : List l.Step) (g : above.World) → G fs g → Inv g → IsChanging h n g) (c : Carry) (o : Option Node) (d : Dinode) (x : Node) (right : IsIndexOf sizes.version (index_in c n) (Some x)) (fits : IsDinode d)
      (Knows Then : World → Type 0) (room : KeepsRoom h (inode_block sizes.inodestart n) Knows Then) (k : Unit {0} → P M A) (j : ℕ) where
    abbrev b : ℕ
    b = inode_block sizes.inodestart n

    -- the block of an inode
    abbrev at : World → ℕ
    at r = inode_block (log_of r).sizes.inodestart n

    abbrev IsHere : W → W → List l.Step → Type 0
    IsHere w v fs = Here (labelled sizes.version l) (below sizes) laws (below_laws sizes l keeps) h B G w v fs

    abbrev IsPutting : ℕ → List ℕ → List l.Step → W → Type 0
    IsPutting b bytes gs u = Putting sizes l laws keeps h lt B Q G stable n b bytes k j gs u

    abbrev Rest : W → Type 0
    Rest w = (z : W) (gs : List l.Step) → Stored sizes h n (G gs) c o d x Then w z → Wp M h B Q (k tt) j gs z

    -- the put, with the buffer in hand
    there : (w u : W) (gs : List l.Step) → G gs u.seen → Shows u.real u.seen → Inv u.seen → Kept h w.seen u.seen → IsChanging h n u.seen → Changing h n c o d x u.real u.seen → in_hand h u.real ≡ 1 → (log_of u.real).sizes ≡ sizes
        → CanPut h (at u.real) (recording.with_record n d u.real) (log_of u.real) → Then (world_with h (at u.real) (recording.with_record n d u.real) u.real) → Rest w → IsPutting (at u.real) (recording.with_record n d u.real) gs u
    there w u gs stage shows inv kept_ is changing one here can known rest =
        let r = u.real in
        let g = u.seen in
        let leaves = naming_leaves h n c o d x r g shows changing is fits can in
        record {
          changing = is;
          can = can;
          leaves = leaves;
          goes_on = λ shows_then count.
              rest (record { real = world_with h (at r) (recording.with_record n d r) r; seen = g }) gs (record {
                written = record {
                  others = others_put h n (at r) (recording.with_record n d r) r g shows leaves c changing.others;
                  lock = changing.lock;
                  keeps = changing.keeps;
                  was = changing.was;
                  inode = inode_then h n c o d x r g shows changing is fits can;
                  holds = holds_then h n c o d x r g shows changing is fits can;
                  free = omega (arith, count, one);
                  taken = none_taken h n c o d x r g shows changing is fits can;
                  through = through_put h r (world_with h (at r) (recording.with_record n d r) r) (log_with h (at r) (recording.with_record n d r) r) refl refl changing.through;
                  lent = changing.lent;
                  indexed = subst (λ (z : Super). IsIndexOf z.version (index_in c n) (Some x)) (sym here) right;
                };
                kept = kept_;
                shows = shows_then;
                inv = inv;
                stage = stage;
                at = here;
                known = known;
              });
        }

    -- and from the fetch of the block on
    puts : (w v u : W) (fs gs : List l.Step) → Shows w.real w.seen → Changing h n c o d x w.real w.seen → in_hand h w.real ≡ 0 → (log_of w.real).sizes ≡ sizes → Knows w.real → IsFetched h b (G fs) w v → IsHere v u gs → Rest w
        → IsPutting b (with_dinode n d (seen_of (log_of v.real) b)) gs u
    puts w v u fs gs shows changing none here_ knows got here rest =
        let middle = changing_then h n c o d x w.real v.real w.seen v.seen shows got.shows (left_but h b w.real v.real got.since) got.kept changing in
        let now = changing_then h n c o d x v.real u.real v.seen u.seen got.shows here.shows (left_same h v.real u.real here.same) here.kept middle in
        let is = changes gs u.seen here.stage here.inv in
        let where_ : b ≡ at u.real = ap (λ (s : Super). inode_block s.inodestart n) (sym (here.same.sizes ∙ got.since.sizes ∙ here_)) in
        let buffer = buffer_then h b (seen_of (log_of v.real) b) v.real u.real (here.same.buffers b) got.buffer in
        let bytes : seen_of (log_of u.real) (at u.real) ≡ seen_of (log_of v.real) b = ap (seen_of (log_of u.real)) (sym where_) ∙ buffer_seen h b (seen_of (log_of v.real) b) u.real buffer in
        let range = lock_range n h u.real u.seen here.shows is.lock in
        let home = inode_home (log_of u.real) n here.shows.blocks.seen.good here.shows.blocks.seen.sized range.1 in
        let long : length (seen_of (log_of u.real) (at u.real)) ≡ block_len = here.shows.blocks.seen.whole (at u.real) home.within home.outside in
        let knows_there : Knows u.real = room.gives.lasts v.real u.real here.same (room.gives.fetched b w.real v.real got.since knows) in
        let can : CanPut h (at u.real) (recording.with_record n d u.real) (log_of u.real) = record {
          holder = subst (λ (i : ℕ). holder_of i (log_of u.real).seats ≡ Some h) where_ buffer.holder;
          valid = ap (λ (z : Option (List ℕ)). is_some z) (subst (λ (i : ℕ). kept i (log_of u.real).seats ≡ Some (seen_of (log_of v.real) b)) where_ buffer.has);
          joined = sym (here.shows.members h lt) ∙ is.joined;
          runs = here.shows.runs;
          home = home;
          room = subst (λ (i : ℕ). has (log_of u.real).group i ≡ false → HasRoom (log_of u.real).members h) where_ (room.gives.room u.real knows_there (sym (here.shows.members h lt) ∙ is.joined));
          long = stored_long n d (seen_of (log_of u.real) (at u.real)) fits long;
          are = stored_bytes n d (seen_of (log_of u.real) (at u.real)) (here.shows.bytes (at u.real) home.within home.outside);
        } in
        subst (λ (q : ℕ × List ℕ). IsPutting q.0 q.1 gs u) (λ z. (sym where_ z, with_dinode n d (bytes z)))
        (there w u gs here.stage here.shows here.inv (kept_then h w.seen v.seen u.seen got.kept here.kept) is now (here.same.held ∙ got.count ∙ ap suc none) (here.same.sizes ∙ got.since.sizes ∙ here_) can
        (subst (λ (i : ℕ). Then (world_with h i (recording.with_record n d u.real) u.real)) where_ (room.put (recording.with_record n d u.real) u.real knows_there)) rest)

    pub s-stored : (es : List l.Step) (w : W) → G es w.seen → Shows w.real w.seen → Changing h n c o d x w.real w.seen → in_hand h w.real ≡ 0 → (log_of w.real).sizes ≡ sizes → Knows w.real → Rest w
        → Wp M h B Q (bind (store_inode sizes.inodestart n d) k) (suc (suc (suc j))) es w
    s-stored es w stage shows changing none here_ knows rest =
        subst (λ (p : P M A). Wp M h B Q p (suc (suc (suc j))) es w) (sym (bind-assoc (fetch b) (put_inode b n d) k))
        (s-fetch sizes l laws keeps h lt B Q G stable b (λ block. bind (put_inode b n d block) k) (suc j) es w stage (omega (arith, none)) place (empty_hand h b w.real none)
        (λ v fs got. s-put sizes l laws keeps h lt B Q G stable n b (with_dinode n d (seen_of (log_of v.real) b)) k j fs v got.stage (λ u gs here. puts w v u fs gs shows changing none here_ knows got here rest)))
      where
        place : (v : W) (fs : List l.Step) → IsHere w v fs → IsOutsideLog (log_of v.real).sizes b × (b < (log_of v.real).sizes.size)
        place v fs here =
            let range = lock_range n h v.real v.seen here.shows (changes fs v.seen here.stage here.inv).lock in
            subst (λ (s : Super). IsOutsideLog (log_of v.real).sizes (inode_block s.inodestart n) × (inode_block s.inodestart n < (log_of v.real).sizes.size)) (here.same.sizes ∙ here_) (inode_place v.real v.seen here.shows n range.1)

-- ---- the act

-- the tables show nothing of records, nor who keeps an inode alone
changed_shows : (t : TablesState) (n : ℕ) (g : above.World) (x : Option Node) (load : ℕ → Option Loaded) (o : Option ℕ) (e : Entry) (by : ℕ) (b : Bool) → tables.Shows t (with_offset (record g { lock = put g.lock n None }) o e by) load
    → tables.Shows t (with_offset (unlocked n (with_record g n x) b) o e by) load
changed_shows t n g x load None e by true s = record { sound = s.sound; places = s.places; files = s.files; desks = s.desks; lenders = s.lenders; range = s.range }
changed_shows t n g x load None e by false s = record { sound = s.sound; places = s.places; files = s.files; desks = s.desks; lenders = s.lenders; range = s.range }
changed_shows t n g x load (Some k) e by true s = record { sound = s.sound; places = s.places; files = s.files; desks = s.desks; lenders = s.lenders; range = s.range }
changed_shows t n g x load (Some k) e by false s = record { sound = s.sound; places = s.places; files = s.files; desks = s.desks; lenders = s.lenders; range = s.range }

module _ (sizes : Super) (l : Labels) (laws : Laws (labelled sizes.version l)) (keeps : Keeps l) (h : ℕ) (lt : h < hart_count) (fd n offset : ℕ) (bytes : List ℕ) (m : Wrote → Option above.Mark)
    (c : Carry) (B : List l.Step → Type 0) (C : Wrote → List l.Step → above.World → Type 0) (lasts : Lasts (labelled sizes.version l) h B C) where
  abbrev op : above.Op
  op = WriteFile fd n offset bytes

  abbrev Q : Handover Wrote Carry → List l.Step → Both World above.World → Type 0
  Q = Below (labelled sizes.version l) (below sizes) h C

  abbrev Todo : List l.Step → above.World → Type 0
  Todo = ToAct (labelled sizes.version l) (below sizes) laws (below_laws sizes l keeps) h B op m C lasts

  abbrev answers : Wrote → P (joined (labelled sizes.version l) (below sizes)) (Handover Wrote Carry)
  answers b = Ret (record { answer = b; carry = put c n Apart })

  -- by what comes from outside: these bytes were written
  module _ (y : above.Outside) (b : Wrote) (bs : List ℕ) (honest : HonestPiece bytes y) (goes : (g : above.World) (s : Option ℕ) (e : Entry) → write_in g s e n bytes y ≡ Ran b (wrote_in g s e n bs))
      (node : Node) (d : Dinode) (allowed : write_kind sizes.version node.kind offset bytes ≡ None) (short : offset ≤ largest_size → offset + length bs ≤ largest_size) where
    abbrev inode : Inode
    inode = record { number = n; content = Some (recorded_had c n d) }

    abbrev unlock : steps.Op
    unlock = steps.Unlock inode (Some (fd, offset + length bs))

    abbrev IsIt : Both World above.World → Type 0
    IsIt u = IsWritten h n c (Some node) d (with_bytes offset bs node) u.real u.seen

    abbrev Acts : Both World above.World → Type 0
    Acts u =
        premises.May h unlock u.real.state × ((x : Outside) → premises.Honest h unlock u.real.state x
        → Acting (labelled sizes.version l) (below sizes) laws (below_laws sizes l keeps) h B op m C lasts y u (premises.MayWait h unlock u.real.state) (exec h x unlock u.real)
        (λ a z r g. (gs : List l.Step) → Inv g → C z gs g → Wp (joined (labelled sizes.version l) (below sizes)) h B Q (answers b) 0 gs (record { real = r; seen = g })))

    acts_there : (u : Both World above.World) → Shows u.real u.seen → Inv u.seen → rules.May sizes.version h op u.seen → IsIt u → (log_of u.real).sizes ≡ sizes → (e : Entry) → entry_of u.seen h fd ≡ Some e → e.file.number ≡ n → e.file.offset ≡ offset
        → (o : Option ℕ) → slot_at u.seen h fd ≡ o → Acts u
    unfolding steps.exec premises.May premises.MayWait premises.Honest
    acts_there u shows inv may written here e is number at None slot = absurd (none-some e (sym (ap (entry_at u.seen.files) slot) ∙ is))
    acts_there u shows inv may written here e is number at (Some s) slot =
        let t = tables_of u.real in
        let g = u.seen in
        let x : Node = with_bytes offset bs node in
        let after_ : above.World = with_record g n (Some x) in
        let runs : tables.Runs h g = record { below = lt; free = may.0 } in
        let lock = may.1.0.0 in
        let joined_ = may.1.0.1 in
        let there : g.files s ≡ Some e = sym (ap (entry_at g.files) slot) ∙ is in
        let bound = shows.offsets s e there in
        let far : e.file.offset + length bs ≤ largest_size = subst (λ (k : ℕ). k + length bs ≤ largest_size) (sym at) (short (subst (λ (k : ℕ). k ≤ largest_size) at bound)) in
        let name : file_named h fd t ≡ Some (file_of e) = file_is h fd t g (loaded t) shows.tables inv runs ∙ ap (option_map file_of) is in
        let then_ : above.World = with_offset (unlocked n after_ (g.alone n)) (slot_at g h fd) e (length bs) in
        let was : node_or (g.disk n) ≡ node = ap node_or written.was in
        let ran : above_exec.exec sizes.version h y op g ≡ Ran b then_ = ap (write_at sizes.version g (slot_at g h fd) n bytes y) is
        ∙ ap (write_if g (slot_at g h fd) e n bytes y) ((λ z. write_kind sizes.version (was z).kind (at z) bytes) ∙ allowed)
        ∙ goes g (slot_at g h fd) e
        ∙ (λ z. Ran b (with_offset (unlocked n (with_record g n (Some (with_bytes (at z) bs (was z)))) (g.alone n)) (slot_at g h fd) e (length bs))) in
        let moved = offsets_are_moved h fd (length bs) e inode t g (loaded t) shows.tables inv runs lock is in
        let tables_then : TablesState = unlock_inode h inode (Some (fd, offset + length bs)) t in
        let had : Carry = put c n (Has (recorded_had c n d) NothingMore) in
        let after : tables.Shows tables_then then_ (put (loaded t) n (record_had (had n))) =
        subst (λ (z : Had). tables.Shows tables_then then_ (put (loaded t) n (record_had z))) (sym (put_same c n (Has (recorded_had c n d) NothingMore)))
        (changed_shows tables_then n g (Some x) (put (loaded t) n (Some (recorded_had c n d))) (slot_at g h fd) e (length bs) (g.alone n)
        (subst (λ (k : ℕ). tables.Shows (unlock_inode h inode (Some (fd, k + length bs)) t) (with_offset (record g { lock = put g.lock n None }) (slot_at g h fd) e (length bs)) (put (loaded t) n (Some (recorded_had c n d)))) at moved)) in
        let back : GivesBack sizes l laws keeps h lt n after_ then_ = subst (λ (o : Option ℕ). GivesBack sizes l laws keeps h lt n after_ (with_offset (unlocked n after_ (g.alone n)) o e (length bs))) (sym slot) (moved_back sizes l laws keeps h lt n after_ s e (length bs) (g.alone n) there number far) in
        let shows_ = node_then h n u.real g (Some x) shows lock joined_ in
        let base_ = written_base h n c (Some node) d x u.real g may.0 written in
        let real_then : World = with_tables u.real tables_then in
        let shows_then = given_shows sizes l laws keeps h lt n u.real after_ had tables_then then_ shows_ base_ lock may.0 after back in
        let base_then : Base h real_then then_ (put c n Apart) = subst (Base h real_then then_) (put_again c n (Has (recorded_had c n d) NothingMore) Apart) (given_base sizes l laws keeps h lt n u.real after_ had tables_then then_ shows_ base_ lock may.0 after back) in
        let s_ = marked_same sizes.version h (m b) then_ in (
          (sym (shows.tables.places.holders n) ∙ lock, (omega (arith, far, at), subst (λ (z : Option files.OpenFile). IfSome z (λ f. f.number ≡ n)) (sym name) number)),
          λ a t_. (
            b,
            marked sizes.version h (m b) then_,
            ap (with_mark sizes.version h m) ran,
            honest,
            (λ inv_. shows_marked real_then then_ (marked sizes.version h (m b) then_) s_ shows_then),
            given_same sizes l laws keeps h lt n u.real after_ had tables_then then_ shows_ base_ lock may.0 after back,
            λ gs inv_ done. (done, (base_marked h real_then then_ (marked sizes.version h (m b) then_) (put c n Apart) s_ (back.lender ∙ may.0) base_then, here)),
          ),
        )

    pub written_acts : (es : List l.Step) (w : Both World above.World) → Todo es w.seen → IsIt w → (log_of w.real).sizes ≡ sizes → Wp (joined (labelled sizes.version l) (below sizes)) h B Q (Do unlock (λ a. acts op y m) (λ a. answers b)) 1 es w
    written_acts es w todo written here_ =
        s-act (labelled sizes.version l) (below sizes) laws (below_laws sizes l keeps) h B op m C lasts y unlock (λ a. answers b) Q 0 es w todo
        (λ u fs here may.
        acts_there u here.shows here.inv may (written_then h n c (Some node) d (with_bytes offset bs node) w.real u.real w.seen u.seen here.same here.kept written) (here.same.sizes ∙ here_)
        may.1.1.entry may.1.1.at may.1.1.number (ap offset_of (sym may.1.1.at) ∙ may.1.2) (slot_at u.seen h fd) refl)

  -- ---- by how far it was written

  module _ (node : Node) (allowed : write_kind sizes.version node.kind offset bytes ≡ None) (k : ℕ) (some : k ≤ length bytes) (short : offset ≤ largest_size → offset + k ≤ largest_size) where
    -- the first k bytes of the piece
    abbrev front : List ℕ
    front = take k bytes

    long : length front ≡ k
    long = omega (arith, length-take k bytes, some)

    pub gives_written : (f : WriteResult) → f.upto ≡ offset + k → (es : List l.Step) (w : Both World above.World) → Todo es w.seen → IsWritten h n c (Some node) f.inode (with_bytes offset front node) w.real w.seen → (log_of w.real).sizes ≡ sizes
        → Wp (joined (labelled sizes.version l) (below sizes)) h B Q (give_written fd n offset bytes m c f) 1 es w
    gives_written f ends es w todo written here = by (f.upto == offset + length bytes) refl
      where
        Goes : Bool → ℕ → Type 0
        Goes t upto =
            Wp (joined (labelled sizes.version l) (below sizes)) h B Q
            (Do (steps.Unlock (record { number = n; content = Some (recorded_had c n f.inode) }) (Some (fd, upto))) (λ a. acts op (if t then above.Room else above.RoomFor (f.upto - offset)) m) (λ a. answers (if t then Whole else Short (f.upto - offset)))) 1 es w

        at_front : f.upto ≡ offset + length front
        at_front = ends ∙ ap (λ (j : ℕ). offset + j) (sym long)

        within : offset ≤ largest_size → offset + length front ≤ largest_size
        within small = subst (λ (j : ℕ). offset + j ≤ largest_size) (sym long) (short small)

        by : (t : Bool) → (f.upto == offset + length bytes) ≡ t → Goes (f.upto == offset + length bytes) f.upto
        by true is =
            let all : k ≡ length bytes = let e = eq_is f.upto (offset + length bytes) is in omega (arith, e, ends) in
            let same : front ≡ bytes = take_all k bytes (omega (arith, all)) in
            subst (λ (t : Bool). Goes t f.upto) (sym is)
            (subst (Goes true) (sym (at_front ∙ ap (λ (xs : List ℕ). offset + length xs) same))
            (written_acts above.Room Whole bytes tt (λ g s e. refl) node f.inode allowed (subst (λ (xs : List ℕ). offset ≤ largest_size → offset + length xs ≤ largest_size) same within) es w todo
            (subst (λ (xs : List ℕ). IsWritten h n c (Some node) f.inode (with_bytes offset xs node) w.real w.seen) same written) here))
        by false is =
            let left : f.upto - offset ≡ k = omega (arith, ends) in
            let less : f.upto - offset < length bytes = let ne = eq_isnt f.upto (offset + length bytes) is in omega (arith, ends, some, ne) in
            let same : front ≡ take (f.upto - offset) bytes = ap (λ (j : ℕ). take j bytes) (sym left) in
            subst (λ (t : Bool). Goes t f.upto) (sym is)
            (subst (Goes false) (sym (at_front ∙ ap (λ (xs : List ℕ). offset + length xs) same))
            (written_acts (above.RoomFor (f.upto - offset)) (Short (f.upto - offset)) (take (f.upto - offset) bytes) less (λ g s e. refl) node f.inode allowed (subst (λ (xs : List ℕ). offset ≤ largest_size → offset + length xs ≤ largest_size) same within) es w todo
            (subst (λ (xs : List ℕ). IsWritten h n c (Some node) f.inode (with_bytes offset xs node) w.real w.seen) same written) here))

  -- ---- refused

  pub denies : (why : Cause) (es : List l.Step) (w : Both World above.World) → Todo es w.seen → Stands sizes h w.real w.seen c → lock_holder n (tables_of w.real) ≡ Some h → write_kind sizes.version (node_or (w.seen.disk n)).kind offset bytes ≡ Some why
      → Wp (joined (labelled sizes.version l) (below sizes)) h B Q (deny_write fd n offset bytes m c why) 98 es w
  unfolding steps.exec premises.May
  denies why es w todo stands mine refused =
      one_step_from sizes l laws keeps h op m (steps.Unlock inode None) (λ a. Refused why) (λ a. put c n Apart) (λ v. tt) c B C es w
      (λ v kept shows inv base may.
      let t = tables_of v.real in
      let lock = may.1.0.0 in
      let still = (kept_disk h n w.seen v.seen kept stands.0.lent (stands.0.inodes n mine).keeps).1 in
      let stays : write_kind sizes.version (node_or (v.seen.disk n)).kind may.1.1.entry.file.offset bytes ≡ Some why = (λ z. write_kind sizes.version (node_or (still z)).kind ((ap offset_of (sym may.1.1.at) ∙ may.1.2) z) bytes) ∙ refused in
      let ran : above_exec.exec sizes.version h above.Room op v.seen ≡ Ran (Refused why) (unlocked n v.seen (v.seen.alone n)) = ap (write_at sizes.version v.seen (slot_at v.seen h fd) n bytes above.Room) may.1.1.at ∙ ap (write_if v.seen (slot_at v.seen h fd) may.1.1.entry n bytes above.Room) stays in (
        (sym (shows.tables.places.holders n) ∙ lock, tt),
        λ x t_.
            given_came sizes l laws keeps h lt op n v c (Refused why) (unlock_inode h inode None t) (unlocked n v.seen (v.seen.alone n)) shows base lock may.0 ran
            (unlocked_shows sizes l laws keeps h lt (unlock_inode h inode None t) n v.seen (put (loaded t) n (record_had (c n))) (v.seen.alone n) (locks_are_given h inode t v.seen (loaded t) shows.tables lock))
            (unlocked_back sizes l laws keeps h lt n v.seen (v.seen.alone n)),
      )) lasts todo stands
    where
      inode : Inode
      inode = record { number = n; content = record_had (c n) }
