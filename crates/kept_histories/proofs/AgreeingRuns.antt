-- A run whose events the keeper notes: what it keeps agrees with the theory from beginning to end.
use Rattle.std.specs.Prelude.{◌<◌, ◌+◌, ◌-◌, ◌^◌, ℕ, suc, List, [], ◌∷◌, Option, length}
use Rattle.calls_on_blocks.proofs.Vocabulary.{sym, subst, arith}
use Rattle.atomic_programs.specs.Calls.{Event, State, next, run, with_answer}
use Rattle.calls_on_blocks.specs.History.{block_moves}
use Rattle.calls_on_blocks.specs.Theory.{block_calls}
use Rattle.fs_layout.specs.declared.superblock.Super.{Super}
use Rattle.hart_core.specs.Events.{event_of, said_of}
use Rattle.hart_core.specs.Harts.{HartsOf, shared_of}
use Rattle.hart_core.specs.declared.events.Came.{Came}
use Rattle.hart_core.specs.declared.events.Event.{Event as HartEvent}
use Rattle.inode_machine.specs.Kept.{kept, kept_on}
use Rattle.plain_tree.specs.declared.call.Call.{Call}
use Rattle.run_laws.specs.UnderWay.{StepsPlaceInTime, UnderWay}
use Rattle.run_laws.specs.Vocabulary.{Outside}
use Rattle.tree_histories.specs.Keeping.{KeptTree}
use Rattle.tree_laws.specs.History.{History}
use Rattle.kept_histories.specs.Keeps.{KeepsRun}
use Rattle.kept_histories.proofs.Agreeing.{Agrees}
use Rattle.kept_histories.proofs.Counted.{IsCounted, counted_on}
use Rattle.kept_histories.proofs.EachEvent.{AllKnown}
use Rattle.kept_histories.proofs.Events.{event_agrees}
use Rattle.kept_histories.proofs.KeptHistory.{history_in}

module _ {D : Type 0} (contents : D → List (List ℕ)) (failures : D → ℕ) (sizes : Super) (under : ℕ → ℕ → Option UnderWay) where
  -- after n events: it agrees, and the history is of n events
  pub record AgreesAt (n : ℕ) (s : State (block_calls sizes)) (b : History) (w : HartsOf D) (k : KeptTree) : Type 0 where
    pub agrees : Agrees contents failures sizes s b w k (under n)
    pub counted : IsCounted n b

  pub few_calls : (n : ℕ) (s : State (block_calls sizes)) (b : History) (w : HartsOf D) (k : KeptTree) → AgreesAt n s b w k → n < 2 ^ 64 - 1 → k.calls < 2 ^ 64 - 1
  few_calls n s b w k at few = let is = at.agrees.book.calls in let least = at.counted.calls in omega (arith, few, is, least)

  -- So what is kept agrees with the theory after the run.
  pub run_agrees : StepsPlaceInTime → (es : List HartEvent) (cs : List Came) (n : ℕ) (s : State (block_calls sizes)) (b : History) (old new : HartsOf D) (k k' : KeptTree)
      (r : KeepsRun contents failures sizes old k es cs new k') → AgreesAt n s b old k → AllKnown sizes under n (history_in contents failures sizes es cs old new k k' r) s → n + length es < 2 ^ 64
      → (m : ℕ) × AgreesAt m (run (block_calls sizes) (history_in contents failures sizes es cs old new k k' r) s) (kept sizes.version (block_moves sizes) (history_in contents failures sizes es cs old new k k' r) s b) new k'
  run_agrees in_time [] [] n s b old new k k' r at known few = (n, subst (λ (z : HartsOf D). AgreesAt n s b z k') (sym r.0) (subst (λ (z : KeptTree). AgreesAt n s b old z) (sym r.1) at))
  run_agrees in_time [] (c ∷ cs) n s b old new k k' r at known few = absurd r
  run_agrees in_time (e ∷ es) [] n s b old new k k' r at known few = absurd r
  run_agrees in_time (e ∷ es) (c ∷ cs) n s b old new k k' r at known few =
      let f : Event Call Outside = with_answer (event_of e) (said_of c (shared_of contents failures r.0)) in
      let calls : k.calls < 2 ^ 64 - 1 = few_calls n s b old k at (omega (arith, few)) in
      let there : AgreesAt (suc n) (next (block_calls sizes) f s) (kept_on sizes.version (block_moves sizes) f s b) r.0 r.1 = record {
        agrees = event_agrees contents failures sizes in_time s (under n) (under (suc n)) b old r.0 k r.1 at.agrees calls e c r.2 known.0;
        counted = counted_on sizes n (omega (arith, few)) b at.counted f s;
      } in
      run_agrees in_time es cs (suc n) (next (block_calls sizes) f s) (kept_on sizes.version (block_moves sizes) f s b) r.0 new r.1 k' r.3 there known.1
      (omega (arith, few))
