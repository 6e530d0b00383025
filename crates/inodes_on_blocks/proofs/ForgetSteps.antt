-- The reference that is left to a freed inode goes in one step.
use Rattle.inode_machine.specs.Rules as rules
use Rattle.inodes_on_blocks.proofs.Vocabulary.{◌≡◌, ℕ, ◌<◌, ◌==◌, ◌&&◌, Bool, false, true, Option, Some, None, refl, sym, ◌∙◌, ap, subst, if◌then◌else◌, slice_get, SlotState, pick, Node, hart_count, ExecResult, Waits, Ran, Stops, exec_result_in, Laws, Both, Inode, TablesState, place_of, DroppedState, Counts, Dies, dead_in, dying, drop_inode, drop_at, drop_dying, drop_freed, uncounted_freed as freed_at, Freed, Forget, is_last, down_if, counted_down, Inv, load_after, BothCame, loaded, loaded_at, loaded_of, World, tables_of, Shows, Carry, Base, Labels, labelled, Keeps, forget, ActsOnceAt, Loaded, Super}
use Rattle.fs_machine.specs.declared.entries.Entry.{Entry}
use Rattle.fs_machine.specs.Steps as steps
use Rattle.fs_machine.specs.Premises as premises
use Rattle.inode_machine.specs.World as above
use Rattle.inode_machine.specs.Exec as above_exec
use Rattle.inodes_on_blocks.specs.ShownTables as tables
use Rattle.inodes_on_blocks.proofs.Drops.{references_are_dropped}
use Rattle.inodes_on_blocks.proofs.Basics.{kept_old, fewer_owed, CameTo, one_step, with_tables}
use Rattle.inodes_on_blocks.proofs.CountSteps.{last_free, some_here, may_die, counted_down_came}
use Rattle.inodes_on_blocks.proofs.SlotSteps.{in_tables_is}

-- if nothing is loaded nothing dies
dead_none : (o : Option Inode) → loaded_of o ≡ None → dead_in o ≡ None
dead_none None e = refl
dead_none (Some v) e = ap dead_of_content e
  where
    dead_of_content : Option Loaded → Option Loaded
    dead_of_content o = dead_in (Some (record v { content = o }))

dying_none : (e : Option Entry) (s : Option (SlotState Inode)) → loaded_at s ≡ None → dying e s ≡ None
dying_none None s q = refl
dying_none (Some e) None q = refl
dying_none (Some e) (Some s) q = ap (λ (o : Option Loaded). if e.references == 1 then o else None) (dead_none s.inside q) ∙ pick (e.references == 1) (λ t. ◌≡◌ {A = Option Loaded} (if t then None else None) None) (λ _. refl) (λ _. refl)

-- so that a drop counts down
freed_is : (h n : ℕ) (t : TablesState) → loaded t n ≡ None → drop_freed n t ≡ drop_inode h n t
unfolding drop_freed drop_inode
freed_is h n t none = at (place_of n t.entries) none
  where
    at : (o : Option ℕ) → tables.loaded_in t.locks o ≡ None → freed_at t o ≡ drop_at h n t o
    at None e = refl
    at (Some k) e = sym (ap (drop_dying h n k t) (dying_none (slice_get t.entries k) (slice_get t.locks k) e))

not_last : (n : ℕ) (w : above.World) → w.disk n ≡ None → is_last w n ≡ false
not_last n w none = ap (λ (o : Option Node). (w.refs n == 1) && above_exec.is_dead o) none ∙ pick (w.refs n == 1) (λ t. (t && false) ≡ false) (λ _. refl) (λ _. refl)

module _ (sizes : Super) (l : Labels) (laws : Laws (labelled sizes.version l)) (keeps : Keeps l) (h : ℕ) (lt : h < hart_count) where
  abbrev W : Type 0
  W = Both World above.World

  forgotten_came : (n : ℕ) (v : W) (c : Carry) → Shows v.real v.seen → Inv v.seen → Base h v.real v.seen c → rules.May sizes.version h (Forget n) v.seen
      → CameTo sizes l laws keeps h (Forget n) v ⊥ (exec_result_in (with_tables v.real) (drop_freed n (tables_of v.real))) (λ a. tt {0}) (λ a. c)
  forgotten_came n v c shows inv base may =
      subst (λ (d : ExecResult DroppedState TablesState). CameTo sizes l laws keeps h (Forget n) v ⊥ (exec_result_in (with_tables v.real) d) (λ a. tt {0}) (λ a. c)) (sym (freed_is h n (tables_of v.real) (shows.loads.typed n may.1.2.1)))
      (at (drop_inode h n (tables_of v.real))
      (subst (λ (z : Bool). BothCame (λ a last. a ≡ (if last then Dies n (loaded (tables_of v.real) n) else Counts)) (load_after n (v.seen.refs n) (loaded (tables_of v.real))) (drop_inode h n (tables_of v.real)) (down_if h n v.seen z))
      (not_last n v.seen may.1.2.1) (references_are_dropped sizes.version h n (tables_of v.real) v.seen (loaded (tables_of v.real)) shows.tables (may_die sizes l laws keeps h lt n v shows inv (λ one. kept_old v.real v.seen shows n h base.through.new may.1.2.0) (may.1.0, may.1.1) (λ one dead. absurd (let q : false ≡ true = sym (ap (λ (o : Option Node). above_exec.is_dead o) may.1.2.1) ∙ dead in cc q))))))
    where
      at : (d : ExecResult DroppedState TablesState) → BothCame (λ a last. a ≡ (if last then Dies n (loaded (tables_of v.real) n) else Counts)) (load_after n (v.seen.refs n) (loaded (tables_of v.real))) d (down_if h n v.seen false)
          → CameTo sizes l laws keeps h (Forget n) v ⊥ (exec_result_in (with_tables v.real) d) (λ a. tt {0}) (λ a. c)
      at Waits both = absurd both
      at (Stops t) both = absurd both
      at (Ran a t) both =
          counted_down_came sizes l laws keeps h lt (Forget n) n v c (tt {0}) t shows base may.0 may.1.1 (λ lone. ap (λ (o : Option Node). above_exec.is_dead o) may.1.2.1) (λ lone. kept_old v.real v.seen shows n h base.through.new may.1.2.0) refl
          (subst (λ (z : DroppedState). tables.Shows t (counted_down h n v.seen) (load_after n (v.seen.refs n) (loaded (tables_of v.real)) z)) both.0 both.1)

  pub forget_acts : (n : ℕ) (m : Unit {0} → Option above.Mark) → ActsOnceAt sizes l h (Forget n) m (forget n)
  unfolding steps.exec premises.May premises.MayWait
  forget_acts n m =
      one_step sizes l laws keeps h (Forget n) m (λ c. steps.Down (Freed n)) (λ c a. tt) (λ c a. c) (λ v. tt)
      (λ v c shows inv base may. (
        (fewer_owed n (tables_of v.real) v.seen (loaded (tables_of v.real)) shows.tables inv h lt may.1.0, λ one. sym (shows.tables.places.holders n) ∙ last_free sizes l laws keeps h lt n v.seen inv (some_here sizes l laws keeps h lt n v.seen may.1.0) may.1.1 (shows.tables.places.counts n ∙ one)),
        λ x t.
            subst (λ (d : ExecResult DroppedState World). CameTo sizes l laws keeps h (Forget n) v ⊥ d (λ a. tt {0}) (λ a. c)) (sym (in_tables_is h (steps.Down (Freed n)) v.real (λ a o. refl) (λ s. refl) (λ a l. refl) (drop_freed n (tables_of v.real))))
            (forgotten_came n v c shows inv base may),
      ))
