-- Why a keeper's list is handed out, or isn't.
use Rattle.std.specs.Prelude.{false, true, Option, Some, None}
use Rattle.explain.proofs.Vocabulary.{◌≡◌, List, Placed, Came, Event, any_climbs, trace_in}
use Rattle.explain.specs.Vocabulary.{KeptTree}
use Rattle.explain.specs.Keeps.{HandsOut, IsListOf, IsRefusedBy, SawNoRoom, SawRoom}
use Rattle.explain.specs.declared.refused.ExplainRefused.TheVariants as refused

module _ (events : List Event) (outcomes : List Came) where
  pub full_out : (o : Option KeptTree) → SawNoRoom o → IsRefusedBy o events outcomes refused.FullSeen
  full_out None saw = saw
  full_out (Some k) saw = saw

  pub short_out : (o : Option KeptTree) → o ≡ None → IsRefusedBy o events outcomes refused.NoMemory
  short_out None is = tt
  short_out (Some k) is = absurd (cc is)

  pub climbs_out : (o : Option KeptTree) (list : List Placed) → SawRoom o → IsListOf o list → any_climbs (trace_in events outcomes).calls ≡ true → IsRefusedBy o events outcomes refused.Climbs
  climbs_out None list room is climbs = absurd is
  climbs_out (Some k) list room is climbs = (room, climbs)

  pub list_out : (o : Option KeptTree) (list : List Placed) → SawRoom o → IsListOf o list → any_climbs (trace_in events outcomes).calls ≡ false → HandsOut o events outcomes list
  list_out None list room is flat = absurd is
  list_out (Some k) list room is flat = (room, flat, is)
