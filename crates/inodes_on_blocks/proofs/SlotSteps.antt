-- The operations on descriptors and open files act at their one step.
use Rattle.inodes_on_blocks.proofs.Vocabulary.{◌≡◌, inl, inr, ℕ, ◌<◌, ◌≤◌, ◌==◌, Bool, true, false, Option, Some, None, refl, sym, ◌∙◌, ap, subst, arith, ◌+◌, ◌-◌, ◌≢◌, IsSome, option_map, none-some, same_Some, Cause, OpenFile, put, lowest, has_room, hart_count, largest_size, ExecResult, Waits, Ran, Stops, exec_result_in, Laws, Both, Doubled, TablesState, file_named, refusal_of, take_place, open_file, double_descriptor, shut_descriptor, Entry, Install, CheckFile, Double, Shut, Say, slot_if, install_if, first_from, file_count, is_empty_slot, double_if, slot_at, close_at, close_if, mode_refusal, write_refused, entry_at, InodeType, OfDirectory, OfFile, OfDevice, loaded, new_file, Runs, BothCame, doubled_as, shut_as, refused_as, World, tables_of, came_to, commits_after, owners_of, owners_after, new_after, Shows, OffsetsShow, Carry, Base, Labels, labelled, Keeps, doubled_to, shut_to, cause_if, slot, install, double, close, check_file, say, ActsOnceAt, LogPart, lowest_free, renewed_same, Inv, same_or, put_same, put_other, IsIndexOf, Super, log_of}
use Rattle.fs_machine.specs.declared.files.Want.TheVariants as want
use Rattle.fs_machine.specs.declared.slots.Shut as shuts
use Rattle.fs_machine.specs.Steps as steps
use Rattle.fs_machine.specs.Premises as premises
use Rattle.inode_machine.specs.World as above
use Rattle.inode_machine.specs.World.Op.{Slot}
use Rattle.inode_machine.specs.Exec as above_exec
use Rattle.inode_machine.specs.Exec.{double_at, entry_of}
use Rattle.inodes_on_blocks.specs.ShownTables as tables
use Rattle.inodes_on_blocks.proofs.Basics.{part_same, places_are_taken, files_are_opened, hand_here, descriptors_are_doubled, descriptors_name_files, tables_left, fewer_owed, Came, CameTo, one_step, with_tables, shows_then, base_then, OpenStays, open_same, open_put}
use Rattle.inodes_on_blocks.proofs.Shuts.{descriptors_are_shut}

-- after one open file is put
pub offsets_put : (files : ℕ → Option Entry) (s : ℕ) (o : Option Entry) → ((e : Entry) → o ≡ Some e → e.file.offset ≤ largest_size) → OffsetsShow files → OffsetsShow (put files s o)
offsets_put files s o new old k e at = elim (same_or k s) [
  | inl q ↦ new e (sym (ap (put files s o) q ∙ put_same files s o) ∙ at)
  | inr ne ↦ old k e (sym (put_other files s o k ne) ∙ at)
]

-- an operation that leaves the inodes as they were, and refers to no more of them
pub record SameInodes (h : ℕ) (g u : above.World) : Type 0 where
  pub disk : u.disk ≡ g.disk
  pub lock : u.lock ≡ g.lock
  pub refs : (n : ℕ) → 0 < u.refs n → 0 < g.refs n
  pub keeper : u.keeper ≡ g.keeper
  pub size : u.all.ninodes ≡ g.all.ninodes
  pub joined : (j : ℕ) → (u.desks j).joined ≡ (g.desks j).joined
  pub lender : (u.desks h).lender ≡ (g.desks h).lender
  -- what it has open, of an inode whose lock it has
  pub opens : (i : ℕ) → g.lock i ≡ Some h → OpenStays h i g u
  pub offsets : OffsetsShow g.files → OffsetsShow u.files

pub all_same : (h : ℕ) (g : above.World) → SameInodes h g g
all_same h g = record { disk = refl; lock = refl; refs = λ n some. some; keeper = refl; size = refl; joined = λ j. refl; lender = refl; opens = λ i mine. open_same h i g; offsets = λ old. old }

-- if an operation ran so
pub ran_same : {A : Type 0} (h : ℕ) (g w u : above.World) (a b : A) → ◌≡◌ {A = ExecResult A above.World} (Ran a w) (Ran b u) → SameInodes h g w → SameInodes h g u
ran_same {A} h g w u a b e s = subst (SameInodes h g) world s
  where
    world_of : ExecResult A above.World → above.World
    world_of Waits = w
    world_of (Ran c x) = x
    world_of (Stops x) = x

    world : w ≡ u
    world = ap world_of e

pub no_wait : {A S : Type 0} (a : A) (s : S) → ◌≡◌ {A = ExecResult A S} (Ran a s) Waits → ⊥
no_wait a s e = cc

-- a step on the tables, as a step on all
pub in_tables_is : (h : ℕ) (lop : steps.Op) (v : World) → ((a : steps.Answer lop) (o : Option ℕ) → commits_after h lop a o ≡ o) → ((s : steps.State) → owners_after h lop v s ≡ owners_of v) → ((a : steps.Answer lop) (l : LogPart) → new_after h lop a l v.new ≡ v.new) → (d : ExecResult (steps.Answer lop) TablesState)
    → came_to h lop v (steps.in_tables v.state d) ≡ exec_result_in (with_tables v) d
in_tables_is h lop v quiet whose old Waits = refl
in_tables_is h lop v quiet whose old (Ran a t) =
    let s = record (v.state) { tables = t } in
    λ i. Ran a (record { state = s; owner = (whose s i).owner; left = (whose s i).left; taken = (whose s i).taken; commits = quiet a v.commits i; new = old a s.log i })
in_tables_is h lop v quiet whose old (Stops t) = refl

module _ (sizes : Super) (l : Labels) (laws : Laws (labelled sizes.version l)) (keeps : Keeps l) (h : ℕ) (lt : h < hart_count) where
  abbrev W : Type 0
  W = Both World above.World

  pub came_quiet : (op : above.Op) (v : W) (b : above.Answer op) (t : TablesState) (u : above.World) (c : Carry) → Shows v.real v.seen → Base h v.real v.seen c → (v.seen.desks h).lender ≡ None
      → above_exec.exec sizes.version h above.Room op v.seen ≡ Ran b u → tables.Shows t u (loaded (tables_of v.real)) → SameInodes h v.seen u → Came sizes l laws keeps h op v b (with_tables v.real t) c
  came_quiet op v b t u c shows base free ran after s = record {
    then_ = u;
    ran = ran;
    free = s.lender ∙ free;
    shows = shows_then h lt v.real v.seen shows t u (loaded (tables_of v.real)) after s.disk s.size s.joined (λ i. inl (λ z. s.lock z i))
        (λ n k e. let is = shows.news n k e in ((λ z. s.lock z n) ∙ is.unlocked, (λ z. s.keeper z n) ∙ is.kept, is.unloaded))
        (record {
          seen = shows.loads.seen;
          dead = λ n some unlocked loose dead. shows.loads.dead n (s.refs n some) ((λ z. sym s.lock z n) ∙ unlocked) ((λ z. sym s.keeper z n) ∙ loose) ((λ z. above_exec.is_dead (sym s.disk z n)) ∙ dead);
          typed = λ n e. shows.loads.typed n ((λ z. sym s.disk z n) ∙ e);
          indexed = λ n d e. subst (IsIndexOf (log_of v.real).sizes.version d.index) (λ z. sym s.disk z n) (shows.loads.indexed n d e);
        }) (s.offsets shows.offsets);
    same = tables_left h v.real t v.seen u (loaded (tables_of v.real)) (loaded (tables_of v.real)) shows.tables after (λ i. inl (λ z. s.lock z i));
    base = base_then h lt v.real v.seen shows c c t u (loaded (tables_of v.real)) base after (s.lender ∙ free)
        (λ i e.
        let was : v.seen.lock i ≡ Some h = (λ z. sym s.lock z i) ∙ e in
        inl (was, (λ z. s.keeper z i) ∙ (base.inodes i (sym (shows.tables.places.holders i) ∙ was)).keeps, (λ z. s.disk z i), refl, s.opens i was));
  }

  -- by what came of both
  pub from_both : (op : above.Op) {A : Type 0} (v : W) (wait : Type 0) (answer : A → above.Answer op) (Fits : A → above.Answer op → Type 0) (c : Carry) (d : ExecResult A TablesState) (e : ExecResult (above.Answer op) above.World)
      → above_exec.exec sizes.version h above.Room op v.seen ≡ e → BothCame Fits (λ a. loaded (tables_of v.real)) d e → (e ≡ Waits → ⊥) → ((a : A) (b : above.Answer op) → Fits a b → answer a ≡ b)
      → ((b : above.Answer op) (u : above.World) → e ≡ Ran b u → SameInodes h v.seen u) → Shows v.real v.seen → Base h v.real v.seen c → (v.seen.desks h).lender ≡ None
      → CameTo sizes l laws keeps h op v wait (exec_result_in (with_tables v.real) d) answer (λ a. c)
  from_both op v wait answer Fits c Waits Waits is both no_waits fits same shows base free = absurd (no_waits refl)
  from_both op v wait answer Fits c Waits (Ran b u) is both no_waits fits same shows base free = absurd both
  from_both op v wait answer Fits c Waits (Stops u) is both no_waits fits same shows base free = absurd both
  from_both op v wait answer Fits c (Ran a t) Waits is both no_waits fits same shows base free = absurd both
  from_both op v wait answer Fits c (Ran a t) (Ran b u) is both no_waits fits same shows base free =
      came_quiet op v (answer a) t u c shows base free (is ∙ ap (λ (x : above.Answer op). Ran x u) (sym (fits a b both.0))) both.1 (same b u refl)
  from_both op v wait answer Fits c (Ran a t) (Stops u) is both no_waits fits same shows base free = absurd both
  from_both op v wait answer Fits c (Stops t) Waits is both no_waits fits same shows base free = absurd both
  from_both op v wait answer Fits c (Stops t) (Ran b u) is both no_waits fits same shows base free = absurd both
  from_both op v wait answer Fits c (Stops t) (Stops u) is both no_waits fits same shows base free = absurd both

  pub runs_here : (v : W) → (v.seen.desks h).lender ≡ None → Runs h v.seen
  runs_here v free = record { below = lt; free = free }

  -- ---- a place for an open file

  -- the hart's desk changed, but not whether it is in a transaction, nor who hands it descriptors
  desk_same : (w u : above.World) (new : above.Desk) → u.disk ≡ w.disk → u.lock ≡ w.lock → u.refs ≡ w.refs → u.keeper ≡ w.keeper → u.all.ninodes ≡ w.all.ninodes → u.desks ≡ put w.desks h new
      → new.joined ≡ (w.desks h).joined → new.lender ≡ (w.desks h).lender → ((i : ℕ) → w.lock i ≡ Some h → OpenStays h i w u) → (OffsetsShow w.files → OffsetsShow u.files) → SameInodes h w u
  desk_same w u new disk lock refs keeper size desks joined lender opens offsets = record {
    disk = disk;
    lock = lock;
    refs = λ n some. subst (λ (f : ℕ → ℕ). 0 < f n) refs some;
    keeper = keeper;
    size = size;
    joined = λ j. (λ z. (desks z j).joined) ∙ part_same (λ d. d.joined) w.desks h new j joined;
    lender = (λ z. (desks z h).lender) ∙ part_same (λ d. d.lender) w.desks h new h lender;
    opens = opens;
    offsets = offsets;
  }

  slot_same : (w : above.World) (o : Option ℕ) (b : Bool) (u : above.World) → slot_if h w o ≡ Ran b u → SameInodes h w u
  slot_same w None b u e = ran_same h w w u false b e (all_same h w)
  slot_same w (Some s) b u e =
      let w' : above.World = record w { desks = put w.desks h (record (w.desks h) { hand = Some s }) } in
      ran_same h w w' u true b e (desk_same w w' (record (w.desks h) { hand = Some s }) refl refl refl refl refl refl refl refl (λ i mine. open_put h i w w' (record (w.desks h) { hand = Some s }) refl (λ fd k e. e) (λ k e at. (e, at, refl))) (λ old. old))

  slot_runs : (w : above.World) (o : Option ℕ) → slot_if h w o ≡ Waits → ⊥
  slot_runs w None e = no_wait false w e
  slot_runs w (Some s) e = no_wait true _ e

  pub slot_acts : (m : Bool → Option above.Mark) → ActsOnceAt sizes l h Slot m slot
  unfolding steps.exec premises.May premises.MayWait
  slot_acts m =
      one_step sizes l laws keeps h Slot m (λ c. steps.TakePlace) (λ c a. a) (λ c a. c) (λ v. tt)
      (λ v c shows inv base may. (
        (lt, hand_here h (tables_of v.real) v.seen (loaded (tables_of v.real)) shows.tables (runs_here v may.0) ∙ may.1),
        λ x t.
            subst (λ (d : ExecResult Bool World). CameTo sizes l laws keeps h Slot v ⊥ d (λ a. a) (λ a. c)) (sym (in_tables_is h steps.TakePlace v.real (λ a o. refl) (λ s. refl) (λ a l. refl) (take_place h (tables_of v.real))))
            (from_both Slot v ⊥ (λ a. a) (λ a b. a ≡ b) c (take_place h (tables_of v.real)) (above_exec.exec sizes.version h above.Room Slot v.seen) refl
            (places_are_taken sizes.version h (tables_of v.real) v.seen (loaded (tables_of v.real)) shows.tables (runs_here v may.0) may.1)
            (slot_runs v.seen (first_from file_count 0 (is_empty_slot v.seen))) (λ a b e. e) (slot_same v.seen (first_from file_count 0 (is_empty_slot v.seen))) shows base may.0),
      ))

  -- ---- a file opened

  -- a new descriptor is none that the hart had
  kept_lowest : (w : above.World) (o : Option ℕ) → has_room (w.desks h).fds ≡ true → (fd k : ℕ) → (w.desks h).fds fd ≡ Some k → put (w.desks h).fds (lowest (w.desks h).fds) o fd ≡ Some k
  kept_lowest w o room fd k is = put_other (w.desks h).fds (lowest (w.desks h).fds) o fd (λ e. none-some k (sym (lowest_free (w.desks h).fds room).1 ∙ ap (w.desks h).fds (sym e) ∙ is)) ∙ is

  opened_same : (w : above.World) (f : OpenFile) (inode_type : InodeType) (o : Option ℕ) (b : Bool) (a : Option ℕ) (u : above.World) → Inv w → f.offset ≡ 0 → (w.desks h).hand ≡ o → has_room (w.desks h).fds ≡ b → install_if h w f inode_type o b ≡ Ran a u → SameInodes h w u
  opened_same w f inode_type None b a u inv new hand room q = ran_same h w w u None a q (all_same h w)
  opened_same w f inode_type (Some s) true a u inv new hand room q =
      ran_same h w (above_exec.installed h w f inode_type s (lowest (w.desks h).fds)) u _ a q
      (desk_same w (above_exec.installed h w f inode_type s (lowest (w.desks h).fds)) (record (w.desks h) { fds = put (w.desks h).fds (lowest (w.desks h).fds) (Some s); hand = None; opening = None }) refl refl refl refl refl refl refl refl
      (λ i mine. open_put h i w (above_exec.installed h w f inode_type s (lowest (w.desks h).fds)) (record (w.desks h) { fds = put (w.desks h).fds (lowest (w.desks h).fds) (Some s); hand = None; opening = None }) refl (kept_lowest w (Some s) room)
      (λ k e at. (e, put_other w.files s (Some (record { file = f; inode_type = inode_type; references = 1 })) k (λ z. none-some e (sym (inv.tied.hand h s lt hand).1 ∙ ap w.files (sym z) ∙ at)) ∙ at, refl)))
      (λ old. offsets_put w.files s (Some (record { file = f; inode_type = inode_type; references = 1 })) (λ e is. subst (λ (x : Entry). x.file.offset ≤ largest_size) (same_Some _ e is) (omega (arith, new))) old))
  opened_same w f inode_type (Some s) false a u inv new hand room q =
      let w' : above.World = record w { desks = put w.desks h (record (w.desks h) { hand = None }) } in
      ran_same h w w' u None a q (desk_same w w' (record (w.desks h) { hand = None }) refl refl refl refl refl refl refl refl (λ i mine. open_put h i w w' (record (w.desks h) { hand = None }) refl (λ fd k e. e) (λ k e at. (e, at, refl))) (λ old. old))

  opened_runs : (w : above.World) (f : OpenFile) (inode_type : InodeType) (o : Option ℕ) (b : Bool) → install_if h w f inode_type o b ≡ Waits → ⊥
  opened_runs w f inode_type None b q = no_wait None w q
  opened_runs w f inode_type (Some s) true q = no_wait _ _ q
  opened_runs w f inode_type (Some s) false q = no_wait None _ q

  some_hand : (o p : Option ℕ) → o ≡ p → (p ≡ None → ⊥) → IsSome o
  some_hand None p e ne = absurd (ne (sym e))
  some_hand (Some k) p e ne = refl

  pub install_acts : (f : OpenFile) (inode_type : InodeType) (m : Option ℕ → Option above.Mark) → ActsOnceAt sizes l h (Install f inode_type) m (install f inode_type)
  unfolding steps.exec premises.May premises.MayWait
  install_acts f inode_type m =
      one_step sizes l laws keeps h (Install f inode_type) m (λ c. steps.TakeDescriptor f.number (new_file f inode_type)) (λ c a. a) (λ c a. c) (λ v. tt)
      (λ v c shows inv base may. (
        (
          lt,
          some_hand _ (v.seen.desks h).hand (hand_here h (tables_of v.real) v.seen (loaded (tables_of v.real)) shows.tables (runs_here v may.0)) may.1.0,
          fewer_owed f.number (tables_of v.real) v.seen (loaded (tables_of v.real)) shows.tables inv h lt may.1.2,
        ),
        λ x t.
            subst (λ (d : ExecResult (Option ℕ) World). CameTo sizes l laws keeps h (Install f inode_type) v ⊥ d (λ a. a) (λ a. c)) (sym (in_tables_is h (steps.TakeDescriptor f.number (new_file f inode_type)) v.real (λ a o. refl) (λ s. refl) (λ a l. refl) (open_file h f.number (new_file f inode_type) (tables_of v.real))))
            (from_both (Install f inode_type) v ⊥ (λ a. a) (λ a b. a ≡ b) c (open_file h f.number (new_file f inode_type) (tables_of v.real)) (above_exec.exec sizes.version h above.Room (Install f inode_type) v.seen) refl
            (files_are_opened sizes.version h f inode_type (tables_of v.real) v.seen (loaded (tables_of v.real)) shows.tables inv (runs_here v may.0) may.1.0 may.1.1)
            (opened_runs v.seen f inode_type (v.seen.desks h).hand (has_room (v.seen.desks h).fds)) (λ a b e. e) (λ a u. opened_same v.seen f inode_type (v.seen.desks h).hand (has_room (v.seen.desks h).fds) a u inv may.1.1 refl refl) shows base may.0),
      ))

  -- ---- doubled

  double_same : (w : above.World) (s : ℕ) (e : Entry) (b : Bool) (a : Option (Option ℕ)) (u : above.World) → w.files s ≡ Some e → has_room (w.desks h).fds ≡ b → double_if h w s e b ≡ Ran a u → SameInodes h w u
  double_same w s e true a u at room q =
      ran_same h w (above_exec.doubled h w s e (lowest (w.desks h).fds)) u _ a q
      (desk_same w (above_exec.doubled h w s e (lowest (w.desks h).fds)) (record (w.desks h) { fds = put (w.desks h).fds (lowest (w.desks h).fds) (Some s) }) refl refl refl refl refl refl refl refl
      (λ i mine. open_put h i w (above_exec.doubled h w s e (lowest (w.desks h).fds)) (record (w.desks h) { fds = put (w.desks h).fds (lowest (w.desks h).fds) (Some s) }) refl (kept_lowest w (Some s) room)
      (λ k d at_k. let x = renewed_same w.files s e (record { file = e.file; inode_type = e.inode_type; references = e.references + 1 }) k d at refl refl at_k in (x.0, x.1, x.3)))
      (λ old. offsets_put w.files s (Some (record { file = e.file; inode_type = e.inode_type; references = e.references + 1 })) (λ d is. subst (λ (x : Entry). x.file.offset ≤ largest_size) (same_Some _ d is) (old s e at)) old))
  double_same w s e false a u at room q = ran_same h w w u (Some None) a q (all_same h w)

  doubled_same : (w : above.World) (o : Option ℕ) (e : Option Entry) (a : Option (Option ℕ)) (u : above.World) → entry_at w.files o ≡ e → double_at h w o e ≡ Ran a u → SameInodes h w u
  doubled_same w None e a u at q = ran_same h w w u None a q (all_same h w)
  doubled_same w (Some s) None a u at q = ran_same h w w u None a q (all_same h w)
  doubled_same w (Some s) (Some e) a u at q = double_same w s e (has_room (w.desks h).fds) a u at refl q

  doubled_runs : (w : above.World) (o : Option ℕ) (e : Option Entry) → double_at h w o e ≡ Waits → ⊥
  doubled_runs w None e q = no_wait None w q
  doubled_runs w (Some s) None q = no_wait None w q
  doubled_runs w (Some s) (Some e) q = by (has_room (w.desks h).fds) q
    where
      by : (b : Bool) → double_if h w s e b ≡ Waits → ⊥
      by true q = no_wait _ _ q
      by false q = no_wait _ _ q

  doubled_back : (b : Option (Option ℕ)) → doubled_to (doubled_as b) ≡ b
  doubled_back None = refl
  doubled_back (Some None) = refl
  doubled_back (Some (Some fd)) = refl

  pub double_acts : (fd : ℕ) (m : Option (Option ℕ) → Option above.Mark) → ActsOnceAt sizes l h (Double fd) m (double fd)
  unfolding steps.exec premises.May premises.MayWait
  double_acts fd m =
      one_step sizes l laws keeps h (Double fd) m (λ c. steps.Double fd) (λ c. doubled_to) (λ c a. c) (λ v. tt)
      (λ v c shows inv base may. (
        lt,
        λ x t.
            subst (λ (d : ExecResult Doubled World). CameTo sizes l laws keeps h (Double fd) v ⊥ d doubled_to (λ a. c)) (sym (in_tables_is h (steps.Double fd) v.real (λ a o. refl) (λ s. refl) (λ a l. refl) (double_descriptor h fd (tables_of v.real))))
            (from_both (Double fd) v ⊥ doubled_to (λ a b. a ≡ doubled_as b) c (double_descriptor h fd (tables_of v.real)) (above_exec.exec sizes.version h above.Room (Double fd) v.seen) refl
            (descriptors_are_doubled sizes.version h fd (tables_of v.real) v.seen (loaded (tables_of v.real)) shows.tables inv (runs_here v may.0))
            (doubled_runs v.seen (slot_at v.seen h fd) (entry_of v.seen h fd)) (λ a b e. ap doubled_to e ∙ doubled_back b) (λ a u. doubled_same v.seen (slot_at v.seen h fd) (entry_of v.seen h fd) a u refl) shows base may.0),
      ))

  -- ---- shut

  close_same : (w : above.World) (fd s : ℕ) (e : Entry) (b : Bool) (a : Option (Option ℕ)) (u : above.World) → ((i : ℕ) → w.lock i ≢ Some h) → w.files s ≡ Some e → close_if h w fd s e b ≡ Ran a u → SameInodes h w u
  close_same w fd s e true a u none at q =
      ran_same h w (above_exec.close_last h w fd s e) u _ a q
      (desk_same w (above_exec.close_last h w fd s e) (record (w.desks h) { fds = put (w.desks h).fds fd None }) refl refl refl refl refl refl refl refl (λ i mine. absurd (none i mine)) (λ old. offsets_put w.files s None (λ d is. absurd (none-some d is)) old))
  close_same w fd s e false a u none at q =
      ran_same h w (above_exec.close_less h w fd s e) u _ a q
      (desk_same w (above_exec.close_less h w fd s e) (record (w.desks h) { fds = put (w.desks h).fds fd None }) refl refl refl refl refl refl refl refl (λ i mine. absurd (none i mine))
      (λ old. offsets_put w.files s (Some (record { file = e.file; inode_type = e.inode_type; references = e.references - 1 })) (λ d is. subst (λ (x : Entry). x.file.offset ≤ largest_size) (same_Some _ d is) (old s e at)) old))

  closed_same : (w : above.World) (fd : ℕ) (o : Option ℕ) (e : Option Entry) (a : Option (Option ℕ)) (u : above.World) → ((i : ℕ) → w.lock i ≢ Some h) → entry_at w.files o ≡ e → close_at h w fd o e ≡ Ran a u → SameInodes h w u
  closed_same w fd None e a u none at q = ran_same h w w u None a q (all_same h w)
  closed_same w fd (Some s) None a u none at q = ran_same h w w u None a q (all_same h w)
  closed_same w fd (Some s) (Some e) a u none at q = close_same w fd s e (e.references == 1) a u none at q

  closed_runs : (w : above.World) (fd : ℕ) (o : Option ℕ) (e : Option Entry) → close_at h w fd o e ≡ Waits → ⊥
  closed_runs w fd None e q = no_wait None w q
  closed_runs w fd (Some s) None q = no_wait None w q
  closed_runs w fd (Some s) (Some e) q = by (e.references == 1) q
    where
      by : (b : Bool) → close_if h w fd s e b ≡ Waits → ⊥
      by true q = no_wait _ _ q
      by false q = no_wait _ _ q

  shut_back : (b : Option (Option ℕ)) → shut_to (shut_as b) ≡ b
  shut_back None = refl
  shut_back (Some None) = refl
  shut_back (Some (Some n)) = refl

  pub close_acts : (fd : ℕ) (m : Option (Option ℕ) → Option above.Mark) → ActsOnceAt sizes l h (Shut fd) m (close fd)
  unfolding steps.exec premises.May premises.MayWait
  close_acts fd m =
      one_step sizes l laws keeps h (Shut fd) m (λ c. steps.Close fd) (λ c. shut_to) (λ c a. c) (λ v. tt)
      (λ v c shows inv base may. (
        lt,
        λ x t.
            subst (λ (d : ExecResult shuts.Shut World). CameTo sizes l laws keeps h (Shut fd) v ⊥ d shut_to (λ a. c)) (sym (in_tables_is h (steps.Close fd) v.real (λ a o. refl) (λ s. refl) (λ a l. refl) (shut_descriptor h fd (tables_of v.real))))
            (from_both (Shut fd) v ⊥ shut_to (λ a b. a ≡ shut_as b) c (shut_descriptor h fd (tables_of v.real)) (above_exec.exec sizes.version h above.Room (Shut fd) v.seen) refl
            (descriptors_are_shut sizes.version h fd (tables_of v.real) v.seen (loaded (tables_of v.real)) shows.tables inv (runs_here v may.0) (λ i z. may.1.1 z i))
            (closed_runs v.seen fd (slot_at v.seen h fd) (entry_of v.seen h fd)) (λ a b e. ap shut_to e ∙ shut_back b) (λ a u. closed_same v.seen fd (slot_at v.seen h fd) (entry_of v.seen h fd) a u may.1.0 refl) shows base may.0),
      ))

  -- ---- what changes nothing

  pub same_back : (o : Option Cause) (e : Option Entry) → write_refused e ≡ o → cause_if (option_map refused_as o) ≡ o
  same_back None e q = refl
  same_back (Some k) e q = by e k q
    where
      by : (e : Option Entry) (k : Cause) → write_refused e ≡ Some k → cause_if (Some (refused_as k)) ≡ Some k
      by None k q = subst (λ (z : Cause). cause_if (Some (refused_as z)) ≡ Some z) (same_Some _ k q) refl
      by (Some e) k q = mode e.file.writable e.inode_type k q
        where
          mode : (b : Bool) (inode_type : InodeType) (k : Cause) → mode_refusal b inode_type ≡ Some k → cause_if (Some (refused_as k)) ≡ Some k
          mode true OfDirectory k q = absurd (none-some k q)
          mode true OfFile k q = absurd (none-some k q)
          mode true (OfDevice major) k q = subst (λ (z : Cause). cause_if (Some (refused_as z)) ≡ Some z) (same_Some _ k q) refl
          mode false inode_type k q = subst (λ (z : Cause). cause_if (Some (refused_as z)) ≡ Some z) (same_Some _ k q) refl

  pub check_acts : (fd : ℕ) (m : Option Cause → Option above.Mark) → ActsOnceAt sizes l h (CheckFile fd) m (check_file fd)
  unfolding steps.exec premises.May premises.MayWait
  check_acts fd m =
      one_step sizes l laws keeps h (CheckFile fd) m (λ c. steps.CheckFile want.Write fd) (λ c. cause_if) (λ c a. c) (λ v. tt)
      (λ v c shows inv base may. (
        lt,
        λ x t.
            let e = (descriptors_name_files h fd (tables_of v.real) v.seen (loaded (tables_of v.real)) shows.tables inv (runs_here v may.0)).2 in
            came_quiet (CheckFile fd) v (cause_if (refusal_of want.Write (file_named h fd (tables_of v.real)))) (tables_of v.real) v.seen c shows base may.0
            (ap (λ (o : Option Cause). Ran o v.seen) (sym (ap cause_if e ∙ same_back (write_refused (entry_of v.seen h fd)) (entry_of v.seen h fd) refl))) shows.tables (all_same h v.seen),
      ))

  pub say_acts : (m : Unit {0} → Option above.Mark) → ActsOnceAt sizes l h Say m say
  unfolding steps.exec premises.May premises.MayWait
  say_acts m =
      one_step sizes l laws keeps h Say m (λ c. steps.Reply) (λ c a. a) (λ c a. c) (λ v. tt)
      (λ v c shows inv base may. (tt, λ x t. came_quiet Say v tt (tables_of v.real) v.seen c shows base may.0 refl shows.tables (all_same h v.seen)))
