-- The list that code keeps is that of the theory's history.
use Rattle.std.specs.Prelude.{◌≡◌, ℕ, ◌<◌, map, length, Option, Some, None}
use Rattle.tree_histories.specs.Vocabulary.{Placed, hart_count, History, HartStanding, Free, Busy}
use Rattle.tree_histories.specs.Keeping.{KeptTree, Under, capped, hart_in}

-- an entry as code has it: the number of its event as far as it fits
abbrev pub capped_entry : Placed → Placed
capped_entry e = record e { event = capped e.event }

-- a hart's call is that of the history; one that has ended in code may be busy there yet
abbrev pub StandsAs : Option Under → HartStanding → Type 0
StandsAs None s = Unit {0}
StandsAs (Some u) Free = ⊥
StandsAs (Some u) (Busy id c told) = u.id ≡ id

-- What is kept is the history's: its list, its number of events, its calls under way.
pub record IsBook (k : KeptTree) (b : History) : Type 0 where
  pub harts : length k.harts ≡ hart_count
  pub list : k.list ≡ map capped_entry b.list
  pub events : k.events ≡ capped b.trace.events
  pub calls : k.calls ≡ length b.trace.calls
  pub stands : (h : ℕ) → h < hart_count → StandsAs (hart_in k h) (b.calls h)
