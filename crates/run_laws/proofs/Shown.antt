-- What a run's events show of calls is what those of its history do.
use Rattle.run_laws.proofs.Vocabulary.{◌≡◌, List, [], ◌∷◌, refl, ◌∙◌, Super, Call, EventOf, EventOutcome, all_asked, all_by_kind, Outside, block_calls, block_code, Event, all_shown, events_of, outcomes_of}
use Rattle.hart_core.specs.declared.events.Came.{Came}
use Rattle.run_laws.proofs.Traced.{all_shown_by}
use Rattle.hart_core.proofs.Histories.{zipped, all_same, kind_same}

module _ (sizes : Super) where
  kinds_same : (es : List (EventOf Call Outside)) (os : List (EventOutcome (block_calls sizes))) → all_shown_by sizes es os ≡ zipped (all_asked es) (all_by_kind (block_calls sizes) (block_code sizes) os)
  kinds_same [] os = refl
  kinds_same (e ∷ es) [] = refl
  kinds_same (e ∷ es) (o ∷ os) = λ i. kind_same sizes e o i ∷ kinds_same es os i

  pub shown_same : (es : List (EventOf Call Outside)) (os : List (EventOutcome (block_calls sizes))) (events : List Event) (cs : List Came) → all_asked es ≡ events_of events → all_by_kind (block_calls sizes) (block_code sizes) os ≡ outcomes_of cs
      → all_shown_by sizes es os ≡ all_shown events cs
  shown_same es os events cs asks come = kinds_same es os ∙ (λ i. zipped (asks i) (come i)) ∙ all_same events cs
