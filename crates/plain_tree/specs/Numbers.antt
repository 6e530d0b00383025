-- The numbers and the names of answers.
use Rattle.std.specs.Prelude.{ℕ, List, codes}
use Rattle.plain_tree.specs.declared.answer.Cause.{Cause}
use Rattle.plain_tree.specs.declared.answer.Cause.TheVariants.{NoEntry, Exists, IsDirectory, NotEmpty, DotName, BadDescriptor, BadMode, TooBig, NoDriver, TooManyLinks, BadOffset, NotDirectory}
use Rattle.plain_tree.specs.declared.answer.Full.{Full}
use Rattle.plain_tree.specs.declared.answer.Full.TheVariants.{MemInodes, OpenFiles, Descriptors, Blocks, DiskInodes, Directory as FullDirectory}
use Rattle.plain_tree.specs.declared.answer.NodeType.{NodeType}
use Rattle.plain_tree.specs.declared.answer.NodeType.TheVariants.{Directory, File, Device}

abbrev pub cause_number : Cause → ℕ
cause_number NoEntry = 1
cause_number Exists = 2
cause_number IsDirectory = 3
cause_number NotEmpty = 4
cause_number DotName = 5
cause_number BadDescriptor = 6
cause_number BadMode = 7
cause_number TooBig = 8
cause_number NoDriver = 9
cause_number TooManyLinks = 10
cause_number BadOffset = 11
cause_number NotDirectory = 12

abbrev pub cause_name : Cause → List ℕ
cause_name NoEntry = codes "NoEntry"
cause_name Exists = codes "Exists"
cause_name IsDirectory = codes "IsDirectory"
cause_name NotEmpty = codes "NotEmpty"
cause_name DotName = codes "DotName"
cause_name BadDescriptor = codes "BadDescriptor"
cause_name BadMode = codes "BadMode"
cause_name TooBig = codes "TooBig"
cause_name NoDriver = codes "NoDriver"
cause_name TooManyLinks = codes "TooManyLinks"
cause_name BadOffset = codes "BadOffset"
cause_name NotDirectory = codes "NotDirectory"

abbrev pub full_number : Full → ℕ
full_number MemInodes = 21
full_number OpenFiles = 22
full_number Descriptors = 23
full_number Blocks = 24
full_number DiskInodes = 25
full_number FullDirectory = 26

abbrev pub full_name : Full → List ℕ
full_name MemInodes = codes "MemInodes"
full_name OpenFiles = codes "OpenFiles"
full_name Descriptors = codes "Descriptors"
full_name Blocks = codes "Blocks"
full_name DiskInodes = codes "DiskInodes"
full_name FullDirectory = codes "Directory"

abbrev pub type_number : NodeType → ℕ
type_number Directory = 1
type_number File = 2
type_number Device = 3
