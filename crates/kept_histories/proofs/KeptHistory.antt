-- The events that the keeper noted, with what the device said in each, are a history of the run.
use Rattle.std.specs.Prelude.{◌≡◌, ℕ, List, [], ◌∷◌}
use Rattle.calls_on_blocks.proofs.Vocabulary.{refl, sym, ◌∙◌, ap, subst}
use Rattle.atomic_programs.specs.Calls.{Event, Start, Step, asked, with_answer}
use Rattle.atomic_programs.specs.Plain.{PlainMade, plain_makes, plain_outcomes, plain_run}
use Rattle.calls_on_blocks.specs.Theory.{block_calls, block_code}
use Rattle.fs_layout.specs.declared.superblock.Super.{Super}
use Rattle.hart_core.specs.Events.{came_of, event_of, said_of}
use Rattle.hart_core.specs.Harts.{HartsOf, shared_of}
use Rattle.hart_core.specs.Runs.{AllAnswer, IsHistory}
use Rattle.hart_core.specs.Worlds.{calls_of}
use Rattle.hart_core.specs.declared.events.Came.{Came}
use Rattle.hart_core.specs.declared.events.Event.{Event as HartEvent}
use Rattle.plain_tree.specs.declared.call.Call.{Call}
use Rattle.run_laws.specs.Vocabulary.{Outside}
use Rattle.tree_histories.specs.Keeping.{KeptTree}
use Rattle.kept_histories.specs.Keeps.{KeepsRun}

asked_is : (e : Event Call (Unit {0})) (x : Outside) → asked (with_answer e x) ≡ e
asked_is (Start h call) x = refl
asked_is (Step h u) x = refl

module _ {D : Type 0} (contents : D → List (List ℕ)) (failures : D → ℕ) (sizes : Super) where
  -- the run's events as the theory has them, each with what the device said
  abbrev pub history_in : (es : List HartEvent) (cs : List Came) (old new : HartsOf D) (k k' : KeptTree) → KeepsRun contents failures sizes old k es cs new k' → List (Event Call Outside)
  history_in [] [] old new k k' r = []
  history_in [] (c ∷ cs) old new k k' r = absurd r
  history_in (e ∷ es) [] old new k k' r = absurd r
  history_in (e ∷ es) (c ∷ cs) old new k k' r = with_answer (event_of e) (said_of c (shared_of contents failures r.0)) ∷ history_in es cs r.0 new r.1 k' r.3

  pub is_history : (es : List HartEvent) (cs : List Came) (old new : HartsOf D) (k k' : KeptTree) (r : KeepsRun contents failures sizes old k es cs new k')
      → IsHistory contents failures sizes old es cs new (history_in es cs old new k k' r)
  is_history [] [] old new k k' r = record { asks = refl; answers = tt; comes_to = refl; makes = ap (calls_of contents failures sizes) (sym r.0) }
  is_history [] (c ∷ cs) old new k k' r = absurd r
  is_history (e ∷ es) [] old new k k' r = absurd r
  is_history (e ∷ es) (c ∷ cs) old new k k' r =
      let mid : HartsOf D = r.0 in
      let rest : IsHistory contents failures sizes mid es cs new (history_in es cs mid new r.1 k' r.3) = is_history es cs mid new r.1 k' r.3 in
      let f : Event Call Outside = with_answer (event_of e) (said_of c (shared_of contents failures mid)) in
      let made : plain_makes (block_calls sizes) (block_code sizes) f (calls_of contents failures sizes old) ≡ record { came = came_of c; after = calls_of contents failures sizes mid } = r.2.makes in
      let after : (plain_makes (block_calls sizes) (block_code sizes) f (calls_of contents failures sizes old)).after ≡ calls_of contents failures sizes mid =
      ap (λ (z : PlainMade (block_calls sizes) (block_code sizes)). z.after) made in
      record {
        asks = λ i. asked_is (event_of e) (said_of c (shared_of contents failures mid)) i ∷ rest.asks i;
        answers = (r.2.answers, subst (AllAnswer sizes (history_in es cs mid new r.1 k' r.3)) (sym after) rest.answers);
        comes_to =
            ap (λ (z : PlainMade (block_calls sizes) (block_code sizes)). z.came ∷ plain_outcomes (block_calls sizes) (block_code sizes) (history_in es cs mid new r.1 k' r.3) z.after) made
            ∙ (λ i. came_of c ∷ rest.comes_to i);
        makes =
            ap (plain_run (block_calls sizes) (block_code sizes) (history_in es cs mid new r.1 k' r.3)) after ∙ rest.makes;
      }
