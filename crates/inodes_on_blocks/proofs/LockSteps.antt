-- The lock of an open file's inode, taken by its descriptor, acts when it is taken.
use Rattle.inode_machine.specs.Rules as rules
use Rattle.inodes_on_blocks.proofs.Vocabulary.{◌≡◌, ◌≢◌, ℕ, ◌<◌, ◌^◌, Bool, true, false, List, Option, Some, None, refl, sym, ◌∙◌, ap, subst, arith, option_map, MatchOption, none-some, same_Some, Super, Cause, BadDescriptor, put, hart_count, put_same, bind, ExecResult, Waits, Ran, exec_result_in, Laws, Wp, Both, joined, Below, Lasts, Acting, acted, s-act, TablesState, file_named, lock_holder, LockedState, Refuses, Locks, lock_file as lock_named, lock_unless, lock_inode, with_file as with_locked, Outside, lock_opened, with_open, MayLockFile, IsElsewhere, InodeType, OfDirectory, OfFile, OfDevice, Entry, LockResult, NotLocked, LocksIt, LockOpen, entry_at, slot_at, lock_at, lock_if, locked, mode_refusal, offset_of, read_refused, Inv, loaded, file_of, refused_as, World, tables_of, exec, Shows, Opened, NothingMore, Has, Carry, HasOpen, Stands, below, Labels, labelled, Keeps, cause_of, ActsOnceAt, file_locked, open_locked, lock_open, load_unless, Loaded}
use Rattle.fs_machine.specs.declared.files.Want.TheVariants as want
use Rattle.fs_machine.specs.declared.files.OpenFile as files
use Rattle.fs_machine.specs.Steps as steps
use Rattle.fs_machine.specs.Premises as premises
use Rattle.inode_machine.specs.World as above
use Rattle.inode_machine.specs.World.Op.{LockFile}
use Rattle.inode_machine.specs.Exec.{entry_of}
use Rattle.inodes_on_blocks.specs.ShownTables as tables
use Rattle.inodes_on_blocks.proofs.Basics.{by_lock, place_there, names_at, file_is, descriptors_name_files, below_laws, s-load, SameCode, open_alike, open_kept, open_then, with_tables}
use Rattle.inodes_on_blocks.specs.Files.{with_file, lock_file}
use Rattle.inodes_on_blocks.proofs.SlotSteps.{in_tables_is, came_quiet, all_same}
use Rattle.inodes_on_blocks.proofs.StatSteps.{file_typed, file_referred, lock_came, came_acting, file_old, loads_of}
use Rattle.inodes_on_blocks.proofs.TakeSteps.{learned_base}

-- what a descriptor names is open by it
pub has_open : (h fd : ℕ) (v : above.World) (e : Entry) → Inv v → h < hart_count → entry_of v h fd ≡ Some e → HasOpen h e.file.number fd e.file.offset v
has_open h fd v e inv lt is = by_slot (slot_at v h fd) refl
  where
    by_slot : (o : Option ℕ) → slot_at v h fd ≡ o → HasOpen h e.file.number fd e.file.offset v
    by_slot None q = absurd (none-some e (sym (ap (entry_at v.files) q) ∙ is))
    by_slot (Some s) q =
        let m = names_at h fd s v inv lt q in
        record { hart = lt; below = m.below; slot = s; is = m.is; entry = e; at = sym (ap (entry_at v.files) q) ∙ is; number = refl; offset_is = refl }

-- if an operation ran to one world
ran_is : {A : Type 0} (b : A) (d : ExecResult A above.World) (g u : above.World) → d ≡ Ran b g → d ≡ Ran b u → g ≡ u
ran_is {A} b d g u p q = same (sym p ∙ q)
  where
    same : ◌≡◌ {A = ExecResult A above.World} (Ran b g) (Ran b u) → g ≡ u
    same e = cc e

-- a cause that the tables answer comes back
read_back : (e : Option Entry) (k : Cause) → read_refused e ≡ Some k → cause_of (refused_as k) ≡ k
read_back None k q = subst (λ (z : Cause). cause_of (refused_as z) ≡ z) (same_Some _ k q) refl
read_back (Some e) k q = mode e.file.readable e.inode_type k q
  where
    mode : (b : Bool) (inode_type : InodeType) (k : Cause) → mode_refusal b inode_type ≡ Some k → cause_of (refused_as k) ≡ k
    mode true OfDirectory k q = absurd (none-some k q)
    mode true OfFile k q = absurd (none-some k q)
    mode true (OfDevice major) k q = subst (λ (z : Cause). cause_of (refused_as z) ≡ z) (same_Some _ k q) refl
    mode false inode_type k q = subst (λ (z : Cause). cause_of (refused_as z) ≡ z) (same_Some _ k q) refl

module _ (sizes : Super) (l : Labels) (laws : Laws (labelled sizes.version l)) (keeps : Keeps l) (h : ℕ) (lt : h < hart_count) (fd : ℕ) where
  abbrev W : Type 0
  W = Both World above.World

  -- ---- the inode is loaded, after its lock was taken at v

  loads : (op : above.Op) (m : above.Answer op → Option above.Mark) (c : Carry) (B : List l.Step → Type 0) (C : above.Answer op → List l.Step → above.World → Type 0) → Lasts (labelled sizes.version l) h B C → (b : above.Answer op) (v : W) (e : Entry)
      → Shows v.real v.seen → Inv v.seen → (v.seen.desks h).lender ≡ None → entry_of v.seen h fd ≡ Some e → 0 < v.seen.refs e.file.number → (u : TablesState) (g : above.World)
      → tables.Shows u (locked h e.file.number v.seen) (put (loaded (tables_of v.real)) e.file.number None) → SameCode (locked h e.file.number v.seen) g
      → Stands sizes h (with_tables v.real u) g (put c e.file.number (Has (loads_of v.real e.file.number) NothingMore)) → (gs : List l.Step) → C b gs g
      → Wp (joined (labelled sizes.version l) (below sizes)) h B (Below (labelled sizes.version l) (below sizes) h C) (bind (load_unless sizes.inodestart e.file.number (loaded (tables_of v.real) e.file.number)) (with_file b c fd e.file.number e.file.offset)) 3 gs (record { real = with_tables v.real u; seen = g })
  loads op m c B C lasts b v e shows inv free is some u g after same stands gs done =
      let n = e.file.number in
      let d = loads_of v.real n in
      let range = shows.tables.range n some in
      let has = open_then h n (Has d (Opened fd e.file.offset)) v.seen g (open_alike h n v.seen g (same.desks h).fds same.files) (has_open h fd v.seen e inv lt is) in
      let keeps_it : g.keeper n ≡ Some h = (λ z. same.keeper z n) ∙ put_same v.seen.keeper n (Some h) in
      s-load sizes l laws keeps h lt B (Below (labelled sizes.version l) (below sizes) h C) (C b) (acted (labelled sizes.version l) (below sizes) laws (below_laws sizes l keeps) h B op m C lasts b)
      n (loaded (tables_of v.real) n) (put c n (Has d NothingMore)) (with_file b c fd n e.file.offset) 0 gs (record { real = with_tables v.real u; seen = g }) done stands
      (sym (after.places.holders n) ∙ put_same v.seen.lock n (Some h)) (let top = range.1 in let size = shows.size in subst (λ (s : Super). n < s.ninodes) stands.1 (omega (arith, top, size)))
      (λ z fs same_z kept_z stage stands_z. (
        stage,
        (learned_base h n z.real z.seen c d (Opened fd e.file.offset) tt (open_kept h n (Has d (Opened fd e.file.offset)) g z.seen ((same.desks h).lender ∙ free) kept_z keeps_it has) stands_z.0, stands_z.1),
      ))

  -- an open file's number is one that an entry can say, and its lock isn't the hart's
  may_lock : (v : W) (e : Entry) → Shows v.real v.seen → Inv v.seen → entry_of v.seen h fd ≡ Some e → ((i : ℕ) → v.seen.lock i ≢ Some h) → (e.file.number < 2 ^ 16) × (lock_holder e.file.number (tables_of v.real) ≢ Some h)
  may_lock v e shows inv is none =
      let referred = file_referred h fd v.seen e inv lt is in
      let top = (shows.tables.range e.file.number referred.2).1 in
      let many = shows.blocks.seen.good.many_inodes in
      let size = shows.size in
      (omega (arith, top, size, many), λ q. none e.file.number (shows.tables.places.holders e.file.number ∙ q))

  -- what it names
  named : (v : W) (o : Option Entry) → Shows v.real v.seen → Inv v.seen → (v.seen.desks h).lender ≡ None → entry_of v.seen h fd ≡ o → file_named h fd (tables_of v.real) ≡ option_map file_of o
  named v o shows inv free is = file_is h fd (tables_of v.real) v.seen (loaded (tables_of v.real)) shows.tables inv (record { below = lt; free = free }) ∙ ap (option_map file_of) is

  -- ---- to read

  module _ (m : LockResult → Option above.Mark) where
    pub file_acts : ActsOnceAt sizes l h (LockFile fd) m (lock_file sizes fd)
    unfolding steps.exec premises.May premises.MayWait lock_named
    file_acts c B C es w lasts todo stands =
        s-act (labelled sizes.version l) (below sizes) laws (below_laws sizes l keeps) h B (LockFile fd) m C lasts above.Room (steps.LockFile want.Read fd) (file_locked sizes fd c) (Below (labelled sizes.version l) (below sizes) h C) 3 es w todo
        (λ v fs here may. by v here.shows here.inv ((below_laws sizes l keeps).base h w.real v.real w.seen v.seen c here.same here.kept stands) may (entry_of v.seen h fd) refl (read_refused (entry_of v.seen h fd)) refl)
      where
        Next : LockedState → LockResult → World → above.World → Type 0
        Next a b u g = (gs : List l.Step) → Inv g → C b gs g → Wp (joined (labelled sizes.version l) (below sizes)) h B (Below (labelled sizes.version l) (below sizes) h C) (file_locked sizes fd c a) 3 gs (record { real = u; seen = g })

        IsActing : W → ExecResult LockedState World → Type 0
        IsActing v d = Acting (labelled sizes.version l) (below sizes) laws (below_laws sizes l keeps) h B (LockFile fd) m C lasts above.Room v (premises.MayWait h (steps.LockFile want.Read fd) v.real.state) d Next

        on_tables : (v : W) (x : Outside) (d : ExecResult LockedState TablesState) → lock_named h want.Read fd (tables_of v.real) ≡ d → IsActing v (exec_result_in (with_tables v.real) d) → IsActing v (exec h x (steps.LockFile want.Read fd) v.real)
        on_tables v x d is acting =
            subst (λ (z : ExecResult LockedState World). IsActing v z) (sym (in_tables_is h (steps.LockFile want.Read fd) v.real (λ a o. refl) (λ s. refl) (λ a l. refl) (lock_named h want.Read fd (tables_of v.real)) ∙ ap (exec_result_in (with_tables v.real)) is)) acting

        may_be : (v : W) (o : Option Entry) → Shows v.real v.seen → Inv v.seen → (v.seen.desks h).lender ≡ None → entry_of v.seen h fd ≡ o → ((i : ℕ) → v.seen.lock i ≢ Some h) → MayLockFile h (file_named h fd (tables_of v.real)) (tables_of v.real)
        may_be v None shows inv free is none = subst (λ (z : Option files.OpenFile). MayLockFile h z (tables_of v.real)) (sym (named v None shows inv free is)) tt
        may_be v (Some e) shows inv free is none = subst (λ (z : Option files.OpenFile). MayLockFile h z (tables_of v.real)) (sym (named v (Some e) shows inv free is)) (may_lock v e shows inv is none)

        by : (v : W) → Shows v.real v.seen → Inv v.seen → Stands sizes h v.real v.seen c → rules.May sizes.version h (LockFile fd) v.seen → (o : Option Entry) → entry_of v.seen h fd ≡ o → (r : Option Cause) → read_refused (entry_of v.seen h fd) ≡ r
            → premises.May h (steps.LockFile want.Read fd) v.real.state × ((x : Outside) → premises.Honest h (steps.LockFile want.Read fd) v.real.state x → IsActing v (exec h x (steps.LockFile want.Read fd) v.real))
        by v shows inv stands_v may o is (Some why) r =
            let t = tables_of v.real in
            let names = descriptors_name_files h fd t v.seen (loaded t) shows.tables inv (record { below = lt; free = may.0 }) in (
              (lt, may_be v o shows inv may.0 is may.1),
              λ x honest.
                  on_tables v x (Ran (Refuses (refused_as why)) t) (ap (lock_unless h t (file_named h fd t)) (names.1 ∙ ap (option_map refused_as) r))
                  (came_acting sizes l laws keeps h lt (LockFile fd) m B C lasts v (premises.MayWait h (steps.LockFile want.Read fd) v.real.state) (Refuses (refused_as why)) (with_tables v.real t) (NotLocked why) c Next tt stands_v.1
                  (came_quiet sizes l laws keeps h lt (LockFile fd) v (NotLocked why) t v.seen c shows stands_v.0 may.0 (ap (lock_at h v.seen (entry_of v.seen h fd)) r) shows.tables (all_same h v.seen))
                  (λ g same_g stands_g gs inv_g done. (subst (λ (k : Cause). C (NotLocked k) gs g) (sym (read_back (entry_of v.seen h fd) why r)) done, stands_g))),
            )
        by v shows inv stands_v may None is None r = absurd (none-some BadDescriptor (sym r ∙ ap read_refused is))
        by v shows inv stands_v may (Some e) is None r =
            let t = tables_of v.real in
            let n = e.file.number in
            let names = descriptors_name_files h fd t v.seen (loaded t) shows.tables inv (record { below = lt; free = may.0 }) in
            let name = named v (Some e) shows inv may.0 is in
            let referred = file_referred h fd v.seen e inv lt is in
            let lower : lock_named h want.Read fd t ≡ with_locked (file_of e) (lock_inode h n t) = (λ z. lock_unless h t (name z) ((names.1 ∙ ap (option_map refused_as) r) z)) in
            let p = place_there n t v.seen (loaded t) shows.tables referred.2 in (
              (lt, may_be v (Some e) shows inv may.0 is may.1),
              λ x honest.
                  by_lock h n p.0 t v.seen (loaded t) shows.tables p.1 (IsActing v (exec h x (steps.LockFile want.Read fd) v.real))
                  (λ waits g out.
                  on_tables v x Waits (lower ∙ ap (with_locked (file_of e)) waits)
                  (subst (λ (z : Option files.OpenFile). MatchOption z ⊥ (λ f. IsElsewhere h (lock_holder f.number t))) (sym name)
                  (g, (λ q. may.1 n (out ∙ ap (λ (z : ℕ). Some z) q)), sym (shows.tables.places.holders n) ∙ out)))
                  (λ u ran free after.
                  on_tables v x (Ran (Locks (file_of e) (loaded t n)) u) (lower ∙ ap (with_locked (file_of e)) ran)
                  (let ran_to : lock_at h v.seen (entry_of v.seen h fd) (read_refused (entry_of v.seen h fd)) ≡ Ran (LocksIt n e.file.offset) (locked h n v.seen) = (λ z. lock_at h v.seen (is z) (r z)) ∙ ap (lock_if h n (LocksIt n e.file.offset) v.seen (locked h n v.seen)) free in
                  let came = lock_came sizes l laws keeps h lt (LockFile fd) n v c (LocksIt n e.file.offset) u shows stands_v.0 may.0 referred.2 free (file_old v.real v.seen shows referred.0 e inv referred.1) (file_typed v.seen referred.0 e inv referred.1 free) ran_to after in
                  came_acting sizes l laws keeps h lt (LockFile fd) m B C lasts v (premises.MayWait h (steps.LockFile want.Read fd) v.real.state) (Locks (file_of e) (loaded t n)) (with_tables v.real u) (LocksIt n e.file.offset) (put c n (Has (loads_of v.real n) NothingMore)) Next tt stands_v.1 came
                  (λ g same_g stands_g gs inv_g done.
                  loads (LockFile fd) m c B C lasts (LocksIt n e.file.offset) v e shows inv may.0 is referred.2 u g after (subst (λ (x : above.World). SameCode x g) (ran_is (LocksIt n e.file.offset) _ came.then_ (locked h n v.seen) came.ran ran_to) same_g) stands_g gs done))),
            )

  -- ---- to write

  module _ (n : ℕ) (m : ℕ × ℕ → Option above.Mark) where
    pub open_acts : ActsOnceAt sizes l h (LockOpen fd n) m (lock_open sizes fd n)
    unfolding steps.exec premises.May premises.MayWait
    open_acts c B C es w lasts todo stands =
        s-act (labelled sizes.version l) (below sizes) laws (below_laws sizes l keeps) h B (LockOpen fd n) m C lasts above.Room (steps.LockOpen fd) (open_locked sizes fd c) (Below (labelled sizes.version l) (below sizes) h C) 3 es w todo
        (λ v fs here may. by v here.shows here.inv ((below_laws sizes l keeps).base h w.real v.real w.seen v.seen c here.same here.kept stands) may may.1.1.entry may.1.1.at may.1.1.number)
      where
        A : Type 0
        A = files.OpenFile × Option Loaded

        Next : A → ℕ × ℕ → World → above.World → Type 0
        Next a b u g = (gs : List l.Step) → Inv g → C b gs g → Wp (joined (labelled sizes.version l) (below sizes)) h B (Below (labelled sizes.version l) (below sizes) h C) (open_locked sizes fd c a) 3 gs (record { real = u; seen = g })

        IsActing : W → ExecResult A World → Type 0
        IsActing v d = Acting (labelled sizes.version l) (below sizes) laws (below_laws sizes l keeps) h B (LockOpen fd n) m C lasts above.Room v (premises.MayWait h (steps.LockOpen fd) v.real.state) d Next

        on_tables : (v : W) (x : Outside) (d : ExecResult A TablesState) → lock_opened h (tables_of v.real) (file_named h fd (tables_of v.real)) ≡ d → IsActing v (exec_result_in (with_tables v.real) d) → IsActing v (exec h x (steps.LockOpen fd) v.real)
        on_tables v x d is acting =
            subst (λ (z : ExecResult A World). IsActing v z) (sym (in_tables_is h (steps.LockOpen fd) v.real (λ a o. refl) (λ s. refl) (λ a l. refl) (lock_opened h (tables_of v.real) (file_named h fd (tables_of v.real))) ∙ ap (exec_result_in (with_tables v.real)) is)) acting

        by : (v : W) → Shows v.real v.seen → Inv v.seen → Stands sizes h v.real v.seen c → rules.May sizes.version h (LockOpen fd n) v.seen → (e : Entry) → entry_of v.seen h fd ≡ Some e → e.file.number ≡ n
            → premises.May h (steps.LockOpen fd) v.real.state × ((x : Outside) → premises.Honest h (steps.LockOpen fd) v.real.state x → IsActing v (exec h x (steps.LockOpen fd) v.real))
        by v shows inv stands_v may e is number =
            let t = tables_of v.real in
            let k = e.file.number in
            let name = named v (Some e) shows inv may.0 is in
            let referred = file_referred h fd v.seen e inv lt is in
            let lower : lock_opened h t (file_named h fd t) ≡ with_open (file_of e) (lock_inode h k t) = ap (lock_opened h t) name in
            let p = place_there k t v.seen (loaded t) shows.tables referred.2 in (
              (lt, subst (λ (z : Option files.OpenFile). premises.MayLockOpen h z t) (sym name) (may_lock v e shows inv is may.1.0)),
              λ x honest.
                  by_lock h k p.0 t v.seen (loaded t) shows.tables p.1 (IsActing v (exec h x (steps.LockOpen fd) v.real))
                  (λ waits g out.
                  on_tables v x Waits (lower ∙ ap (with_open (file_of e)) waits)
                  (subst (λ (z : Option files.OpenFile). MatchOption z ⊥ (λ f. IsElsewhere h (lock_holder f.number t))) (sym name)
                  (g, (λ q. may.1.0 k (out ∙ ap (λ (z : ℕ). Some z) q)), sym (shows.tables.places.holders k) ∙ out)))
                  (λ u ran free after.
                  on_tables v x (Ran (file_of e, loaded t k) u) (lower ∙ ap (with_open (file_of e)) ran)
                  (let ran_to : lock_if h n (n, offset_of (entry_of v.seen h fd)) v.seen (locked h n v.seen) (v.seen.lock n) ≡ Ran (k, e.file.offset) (locked h k v.seen) = (λ z. lock_if h (sym number z) (sym number z, offset_of (is z)) v.seen (locked h (sym number z) v.seen) (v.seen.lock (sym number z))) ∙ ap (lock_if h k (k, e.file.offset) v.seen (locked h k v.seen)) free in
                  let came = lock_came sizes l laws keeps h lt (LockOpen fd n) k v c (k, e.file.offset) u shows stands_v.0 may.0 referred.2 free (file_old v.real v.seen shows referred.0 e inv referred.1) (file_typed v.seen referred.0 e inv referred.1 free) ran_to after in
                  came_acting sizes l laws keeps h lt (LockOpen fd n) m B C lasts v (premises.MayWait h (steps.LockOpen fd) v.real.state) (file_of e, loaded t k) (with_tables v.real u) (k, e.file.offset) (put c k (Has (loads_of v.real k) NothingMore)) Next tt stands_v.1 came
                  (λ g same_g stands_g gs inv_g done.
                  loads (LockOpen fd n) m c B C lasts (k, e.file.offset) v e shows inv may.0 is referred.2 u g after (subst (λ (x : above.World). SameCode x g) (ran_is (k, e.file.offset) _ came.then_ (locked h k v.seen) came.ran ran_to) same_g) stands_g gs done))),
            )
