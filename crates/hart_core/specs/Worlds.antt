-- What a world is to its callers, and what it keeps.
use Rattle.std.specs.Prelude.{◌≡◌, ℕ, List, Option}
use Rattle.hart_core.specs.Vocabulary.{Super, Heard, sizes_of, Reply, Call, EventOf as Event, OutcomeOf as Outcome, fresh, Plain, PlainHonest, plain_makes, CameTo, plain_at, Kind, Outside, running_of, IsSized, Refusal, IsMountable, first, block_calls, block_code}
use Rattle.hart_core.specs.Harts.{HartsOf, children_in, shared_of}

-- Eight harts, and the sizes of their disk; last: what the call that replied last heard in its last step.
pub record WorldOf (D : Type 0) : Type 0 where
  pub harts : HartsOf D
  pub sizes : Super
  pub last : Option Heard

module _ {D : Type 0} (contents : D → List (List ℕ)) (failures : D → ℕ) (sizes : Super) where
  -- the harts as programs of calls on a disk of these sizes
  abbrev pub calls_of : HartsOf D → Plain (block_calls sizes) (block_code sizes)
  calls_of w = plain_at (block_calls sizes) (block_code sizes) running_of
      (record { state = shared_of contents failures w; children = children_in w.children }) w.stopped w.calls

  -- an event makes these harts of those, and has this outcome
  abbrev pub Makes : Event Call Outside → HartsOf D → Outcome Kind Reply Refusal → HartsOf D → Type 0
  Makes event old came new =
      plain_makes (block_calls sizes) (block_code sizes) event (calls_of old) ≡ record { came = came; after = calls_of new }

  -- what the device answered in it is possible
  abbrev pub Answers : Event Call Outside → HartsOf D → Type 0
  Answers event old = PlainHonest (block_calls sizes) (block_code sizes) event (calls_of old)

  -- The harts are as some list of events leaves them, of a disk that was mounted, whose sizes these are; and calls run on those.
  pub record IsWorld (w : HartsOf D) : Type 0 where
    pub disk : List (List ℕ)
    -- how often the device had failed then
    pub count : ℕ
    pub mountable : IsMountable disk
    pub sizes_are : sizes ≡ sizes_of disk
    pub asks : List (Event Call (Unit {0}))
    pub came : List (Outcome Kind Reply Refusal)
    pub events : CameTo (block_calls sizes) (block_code sizes) (fresh (block_calls sizes) (first disk count)) asks came (calls_of w)
    pub sized : IsSized sizes
