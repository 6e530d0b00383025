use Rattle.std.proofs.Common.{◌≡◌, ◌≤◌, ◌++◌, drop, length, reverse}
use Rattle.image_reports.specs.Vocabulary.{flat_map}
use Rattle.image_reports.specs.Listing.{named_at}
use Rattle.image_reports.proofs.walk.push_slots.Given as goal

abbrev pub invariant-loop-end : goal.invariant-loop-end
invariant-loop-end l = record {
  pushed : reverse l.pending.items ≡ flat_map (named_at l.path) (drop l.end l.slots) ++ reverse l.initial.pending.items;
  in_range : l.end ≤ length l.slots;
}

abbrev pub decreases-loop-end : goal.decreases-loop-end
decreases-loop-end l = l.end
