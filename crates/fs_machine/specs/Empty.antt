-- Nothing is in hand.
use Rattle.std.specs.Prelude.{◌≡◌, [], None}
use Rattle.fs_machine.specs.declared.hand.Hand.{Hand}

abbrev pub emptied : Hand → Hand
emptied h =
    record h { txn = None; first = None; second = None; one = None; two = None; to_one = None; to_two = None; aside = None; listed = [] }

abbrev pub IsEmpty : Hand → Type 0
IsEmpty h = h ≡ emptied h
