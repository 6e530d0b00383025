-- The numbers and the names of damages and stops.
use Rattle.std.specs.Prelude.{ℕ, List, codes}
use Rattle.image_tree.specs.declared.fault.Damage.{Damage}
use Rattle.image_tree.specs.declared.fault.Damage.TheVariants.{TooShort, BadSuper, BadLog, BadType, NoRoot, BlockRange, BlockShared, BlockUnmarked, BadSize, BadEntry, NotATree, LinkCount}
use Rattle.image_tree.specs.declared.fault.MountFault.{MountFault}
use Rattle.image_tree.specs.declared.fault.MountFault.TheVariants as faults

abbrev pub damage_number : Damage → ℕ
damage_number TooShort = 51
damage_number BadSuper = 52
damage_number BadLog = 53
damage_number BadType = 54
damage_number BlockRange = 55
damage_number BlockShared = 56
damage_number BlockUnmarked = 57
damage_number BadSize = 58
damage_number BadEntry = 59
damage_number NotATree = 60
damage_number LinkCount = 61
damage_number NoRoot = 62

abbrev pub fault_number : MountFault → ℕ
fault_number (faults.Damaged d) = damage_number d
fault_number faults.DeviceFault = 31
fault_number faults.NoMemory = 33

abbrev pub damage_name : Damage → List ℕ
damage_name TooShort = codes "TooShort"
damage_name BadSuper = codes "BadSuper"
damage_name BadLog = codes "BadLog"
damage_name BadType = codes "BadType"
damage_name BlockRange = codes "BlockRange"
damage_name BlockShared = codes "BlockShared"
damage_name BlockUnmarked = codes "BlockUnmarked"
damage_name BadSize = codes "BadSize"
damage_name BadEntry = codes "BadEntry"
damage_name NotATree = codes "NotATree"
damage_name LinkCount = codes "LinkCount"
damage_name NoRoot = codes "NoRoot"

abbrev pub fault_name : MountFault → List ℕ
fault_name (faults.Damaged d) = damage_name d
fault_name faults.DeviceFault = codes "DeviceFault"
fault_name faults.NoMemory = codes "NoMemory"
