-- The numbers and names under which refused starts and stops are printed, and the places of kinds of steps.
use Rattle.std.specs.Prelude.{ℕ, List, codes}
use Rattle.console.specs.Vocabulary.{Kind, StartRefused, Busy, PathTooLong, ZeroInPath, TooLong, NoSuchHart, NotEmptyHart, Stop, DeviceFault}
use Rattle.fs_machine.specs.declared.kind.Kind.TheVariants as kind
use Rattle.hart_core.specs.declared.outcome.Stop.TheVariants.{Halted}

-- ---- a start that is refused

abbrev pub start_number : StartRefused → ℕ
start_number Busy = 41
start_number PathTooLong = 42
start_number ZeroInPath = 43
start_number TooLong = 44
start_number NoSuchHart = 45
start_number NotEmptyHart = 46

abbrev pub start_name : StartRefused → List ℕ
start_name Busy = codes "Busy"
start_name PathTooLong = codes "PathTooLong"
start_name ZeroInPath = codes "ZeroInPath"
start_name TooLong = codes "TooLong"
start_name NoSuchHart = codes "NoSuchHart"
start_name NotEmptyHart = codes "NotEmptyHart"

-- ---- a stop

abbrev pub stop_number : Stop → ℕ
stop_number DeviceFault = 31
stop_number Halted = 32

abbrev pub stop_name : Stop → List ℕ
stop_name DeviceFault = codes "DeviceFault"
stop_name Halted = codes "Halted"

-- ---- the place of a kind of step among the twelve

abbrev pub kind_place : Kind → ℕ
kind_place kind.Lock = 0
kind_place kind.Unlock = 1
kind_place kind.Get = 2
kind_place kind.Read = 3
kind_place kind.Put = 4
kind_place kind.Join = 5
kind_place kind.Leave = 6
kind_place kind.Commit = 7
kind_place kind.Up = 8
kind_place kind.Down = 9
kind_place kind.Slot = 10
kind_place kind.Reply = 11
