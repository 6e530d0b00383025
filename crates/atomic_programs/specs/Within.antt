-- The swaps and the gifts below, event by event: each operation below that runs, and those above as they act.
use Rattle.atomic_programs.specs.Basics.{Theory, Dinode, whole}
use Rattle.atomic_programs.specs.Noted.{Notes, IsWhole, with_notes}
use Rattle.atomic_programs.specs.Blocks as low
use Rattle.atomic_programs.specs.OfWhole.{core}
use Rattle.atomic_programs.specs.Swap.{Step, Swap, program, labels, swaps_above}
use Rattle.atomic_programs.specs.Wards as wards
use Rattle.atomic_programs.specs.Wards.{gifts, gifts_above}

-- a swap's notes: whole runs of its operations' programs, and each operation within its own
abbrev pub SwapIsWhole : Swap → Notes swaps_above.M → Dinode → Type 0
SwapIsWhole c es o = IsWhole (whole labels) (core labels) low.blocks (low.handler Step) low.blocks.none (program c) es o

abbrev pub swaps_noted : Theory
swaps_noted = with_notes swaps_above SwapIsWhole

abbrev pub GiftIsWhole : gifts_above.Call → Notes gifts_above.M → gifts_above.Reply → Type 0
GiftIsWhole j es r = IsWhole wards.machine wards.core wards.low wards.handler tt (gifts.program j) es r

abbrev pub gifts_noted : Theory
gifts_noted = with_notes gifts_above GiftIsWhole
