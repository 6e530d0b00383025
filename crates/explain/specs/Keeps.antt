-- What a keeper has, and what of it is handed out.
use Rattle.std.specs.Prelude.{◌≡◌, List, Option, Some, None, Bool, true, false}
use Rattle.kept_histories.specs.Keeps.{KeepsEvent}
use Rattle.explain.specs.Vocabulary.{Placed, Heard, Came, Event, KeptTree, any_climbs, trace_in}
use Rattle.explain.specs.declared.refused.ExplainRefused.{ExplainRefused}
use Rattle.explain.specs.declared.refused.ExplainRefused.TheVariants as refused

-- what a keeper has, unless memory was refused to it
abbrev pub kept_unless : Bool → KeptTree → Option KeptTree
kept_unless true k = None
kept_unless false k = Some k

-- these are the steps that it has kept
abbrev pub IsListOf : Option KeptTree → List Placed → Type 0
IsListOf None list = ⊥
IsListOf (Some k) list = list ≡ k.list

-- it saw a step without room
abbrev pub SawNoRoom : Option KeptTree → Type 0
SawNoRoom None = ⊥
SawNoRoom (Some k) = k.full ≡ true

-- .. or it saw no step without room
abbrev pub SawRoom : Option KeptTree → Type 0
SawRoom None = Unit {0}
SawRoom (Some k) = k.full ≡ false

-- Just what was kept is handed out: each step found room, and no path of a call that was started climbs.
abbrev pub HandsOut : Option KeptTree → List Event → List Came → List Placed → Type 0
HandsOut None events outcomes list = ⊥
HandsOut (Some k) events outcomes list = (k.full ≡ false) × (any_climbs (trace_in events outcomes).calls ≡ false) × (list ≡ k.list)

-- Why a keeper's list isn't handed out: nothing was kept, for want of memory; or a step found no room; or each did,
-- and a path climbs.
abbrev pub IsRefusedBy : Option KeptTree → List Event → List Came → ExplainRefused → Type 0
IsRefusedBy None events outcomes refused.NoMemory = Unit {0}
IsRefusedBy (Some k) events outcomes refused.NoMemory = ⊥
IsRefusedBy o events outcomes (refused.Damaged d) = ⊥
IsRefusedBy o events outcomes refused.FullSeen = SawNoRoom o
IsRefusedBy None events outcomes refused.Climbs = ⊥
IsRefusedBy (Some k) events outcomes refused.Climbs = (k.full ≡ false) × (any_climbs (trace_in events outcomes).calls ≡ true)

-- it has noted the event, or has nothing after it
abbrev pub HasNoted : Option KeptTree → Event → Came → Option Heard → Option KeptTree → Type 0
HasNoted before e c heard None = Unit {0}
HasNoted None e c heard (Some k') = ⊥
HasNoted (Some k) e c heard (Some k') = KeepsEvent k e c heard k'
