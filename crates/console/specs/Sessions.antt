-- A mounted file system that a console runs, and what happens to it.
use Rattle.std.specs.Prelude.{◌≡◌, ℕ, ◌+◌, ◌-◌, min, nat_lt, Bool, true, false, List, replicate, set, get_or, Option, Some, None, IfSome}
use Rattle.std.specs.Option.{option_map}
use Rattle.console.specs.Vocabulary.{Kind, KeptTree, with_answer, Event, Came, Outcome, event_of, came_of, said_of, shared_of, AreHarts, WorldOf, Makes, Answers, HasNoted, NotesEvent, ended, heard_by, heard_in, some_lacks_place}
use Rattle.fs_machine.specs.declared.kind.Kind.TheVariants as kinds
use Rattle.hart_core.specs.declared.events.Event.TheVariants as event
use Rattle.hart_core.specs.declared.events.Came.TheVariants as came
use Rattle.hart_core.specs.declared.outcome.Outcome.TheVariants as outcome
use Rattle.console.specs.declared.verb.Verb.{Verb}
use Rattle.console.specs.declared.doing.Doing.{Doing}
use Rattle.console.specs.Numbers.{kind_place}

-- ---- what a hart's call has done so far: its word, the count of its steps of each kind, its last step, and whether
-- one waited after it

-- counted up to the greatest u32
abbrev pub one_more : ℕ → ℕ
one_more n = min (n + 1) 4294967295

abbrev pub begun : Verb → Doing
begun verb = record { verb = verb; ran = replicate 12 0; last = None; waits = false }

abbrev pub count_of : Kind → Doing → ℕ
count_of kind d = get_or d.ran (kind_place kind) 0

-- how many inodes' locks it has: those that it has taken, less those that it has given up
abbrev pub locks_of : Doing → ℕ
locks_of d = count_of kinds.Lock d - count_of kinds.Unlock d

-- it has joined a transaction, and not left it
abbrev pub is_joined : Doing → Bool
is_joined d = nat_lt (count_of kinds.Leave d) (count_of kinds.Join d)

abbrev pub with_step : Kind → Doing → Doing
with_step kind d = record d { ran = set d.ran (kind_place kind) (one_more (count_of kind d)); last = Some kind; waits = false }

abbrev pub with_wait : Doing → Doing
with_wait d = record d { waits = true }

abbrev pub stepped : Outcome → Option Doing → Option Doing
stepped came None = None
stepped outcome.Idle (Some d) = Some d
stepped outcome.Waits (Some d) = Some (with_wait d)
stepped (outcome.Ran kind) (Some d) = Some (with_step kind d)
stepped (outcome.Done reply) (Some d) = None
stepped (outcome.Stopped stop) (Some d) = Some d

-- a hart has a call under way from an accepted start to its reply
abbrev pub done_after : Verb → Came → Option Doing → Option Doing
done_after verb came.Started d = Some (begun verb)
done_after verb (came.Refused why) d = d
done_after verb (came.Stepped outcome) d = stepped outcome d

-- ---- what happens

-- an event, which call it is of, and its outcome
pub record EventOfCall : Type 0 where
  pub event : Event
  pub verb : Verb
  pub came : Came

abbrev pub hart_in : Event → ℕ
hart_in (event.Start hart call) = hart
hart_in (event.Step hart) = hart

abbrev pub doing_at : ℕ → List (Option Doing) → Option Doing
doing_at hart doing = get_or doing hart None

-- a step of a hart without a call is none
abbrev pub is_event_step : Outcome → Bool
is_event_step outcome.Idle = false
is_event_step outcome.Waits = true
is_event_step (outcome.Ran kind) = true
is_event_step (outcome.Done reply) = true
is_event_step (outcome.Stopped stop) = true

abbrev pub is_event : Came → Bool
is_event came.Started = true
is_event (came.Refused why) = true
is_event (came.Stepped outcome) = is_event_step outcome

-- The file system, what each hart's call has done so far, and the tree that is kept beside it. There is such a tree
-- if a keeper notes its events and memory wasn't refused to it.
pub record SessionOf (D : Type 0) : Type 0 where
  pub world : WorldOf D
  pub doing : List (Option Doing)
  pub beside : Option KeptTree

abbrev pub with_beside : {D : Type 0} → Option KeptTree → SessionOf D → SessionOf D
with_beside beside s = record { world = s.world; doing = s.doing; beside = beside }

-- what a keeper has, if there is one
abbrev pub beside_in : Option (Option KeptTree) → Option KeptTree
beside_in None = None
beside_in (Some kept) = kept

-- what it knows once the run has ended
abbrev pub known_at : {D : Type 0} → SessionOf D → Option KeptTree → Option KeptTree
known_at s kept = option_map (ended (some_lacks_place s.world.harts)) kept

module _ {D : Type 0} (contents : D → List (List ℕ)) (failures : D → ℕ) where
  -- A keeper noted an event with this outcome, of which there is a copy: what it was, and what the hart's call heard.
  pub record HearsOf (w : WorldOf D) (hart : ℕ) (copy : Option Event) (c : Came) (old new : Option KeptTree) : Type 0 where
    pub event : Event
    pub copied : copy ≡ Some event
    pub is : is_event c ≡ true
    pub fits : AreHarts (shared_of contents failures w.harts) w.harts.calls
    pub noted : HasNoted old event c (heard_in c (heard_by w hart)) new

  -- so, or nothing is kept any more
  abbrev pub Hears : WorldOf D → ℕ → Option Event → Came → Option KeptTree → Option KeptTree → Type 0
  Hears w hart copy c old new = IfSome new (λ kept. HearsOf w hart copy c old new)

  -- The tree that is kept beside a file system goes on as the event says, or is kept no more: so after a step of a
  -- hart without a call.
  abbrev pub KeepsBeside : SessionOf D → EventOfCall → SessionOf D → Type 0
  KeepsBeside s x t =
      IfSome t.beside (λ kept. (is_event x.came ≡ true) × NotesEvent contents failures (λ old c heard new. HasNoted old x.event c heard new)
      s.world.sizes x.event s.world.harts s.beside x.came t.world.harts t.beside)

  -- the event makes one file system of the other, and has this outcome
  pub record Happens (s : SessionOf D) (x : EventOfCall) (t : SessionOf D) : Type 0 where
    pub makes : Makes contents failures s.world.sizes
        (with_answer (event_of x.event) (said_of x.came (shared_of contents failures t.world.harts))) s.world.harts
        (came_of x.came) t.world.harts
    pub honest : Answers contents failures s.world.sizes
        (with_answer (event_of x.event) (said_of x.came (shared_of contents failures t.world.harts))) s.world.harts
    pub sizes : t.world.sizes ≡ s.world.sizes
    pub doing : t.doing ≡ set s.doing (hart_in x.event) (done_after x.verb x.came (doing_at (hart_in x.event) s.doing))
    pub beside : KeepsBeside s x t
