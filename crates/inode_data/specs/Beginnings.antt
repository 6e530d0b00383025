-- What the beginning of a machine means.
use Rattle.inode_data.specs.Vocabulary.{Ret, P}
use Rattle.inode_data.specs.declared.begun.Begun.{Begun}
use Rattle.inode_data.specs.declared.begun.Begun.TheVariants.{Runs, Is}

-- the program that it begins
abbrev pub begun_of : {M R A : Type 0} → (M → P A) → (R → A) → Begun M R → P A
begun_of program value (Runs m) = program m
begun_of program value (Is r) = Ret (value r)

-- what holds of the machine, or of the result
abbrev pub IfBegun : {M R : Type 0} → (M → Type 0) → (R → Type 0) → Begun M R → Type 0
IfBegun Fits Ends (Runs m) = Fits m
IfBegun Fits Ends (Is r) = Ends r
