-- What comes of an image and a script: it is mounted and the script is run on it, or it is only examined.
use Rattle.std.specs.Prelude.{◌≡◌, ◌⊎◌, ℕ, Bool, List, Option, None, Result, Ok, Err, Vec, replicate}
use Rattle.console.specs.Vocabulary.{Appends, Global, blocks_of, shape_of, TreeData, tree_in, Rests, StartsOn, shape_line, Mode}
use Rattle.console.specs.declared.fault.ConsoleFault.{ConsoleFault}
use Rattle.console.specs.declared.fault.ConsoleFault.TheVariants as faults
use Rattle.console.specs.Histories.{WhereSet, history_of}
use Rattle.console.specs.Basics.{bytes_for, SessionOf}
use Rattle.console.specs.Runs.{RunsReader}

-- the image, or there is no memory for it
abbrev pub IsUntaken : {A : Type 0} → Result A ConsoleFault → Type 0
IsUntaken (Err (faults.Image f)) = Unit {0}
IsUntaken (Err faults.Memory) = Unit {0}
IsUntaken (Ok a) = ⊥
IsUntaken (Err (faults.Read e)) = ⊥
IsUntaken (Err (faults.Write e)) = ⊥
IsUntaken (Err (faults.Line n why)) = ⊥
IsUntaken (Err (faults.Stopped stop)) = ⊥

-- the image isn't taken, and nothing is printed
pub record TakesNoImage {A : Type 0} (result : Result A ConsoleFault) (out out' : Option (List ℕ)) : Type 0 where
  pub untaken : IsUntaken result
  pub silent : out' ≡ out

-- The file system is as a mount of a disk in memory with these bytes leaves it, and no hart has a call. The tree is
-- the image's, if it is wanted.
pub record IsMountedOn (wanted : Bool) (bytes : List ℕ) (base : TreeData) (s : SessionOf (List ℕ)) : Type 0 where
  pub starts : StartsOn bytes s.world
  pub idle : s.doing ≡ replicate 8 None
  pub base_is : WhereSet wanted (base ≡ tree_in (blocks_of bytes)) (Unit {0})

-- a disk is handed out if the script reached its end, else the fault
abbrev pub HandsOut : {D : Type 0} → D → Result (Unit {0}) ConsoleFault → Result D ConsoleFault → Type 0
HandsOut disk (Ok u) result = result ≡ Ok disk
HandsOut disk (Err fault) result = result ≡ Err fault

module _ {D : Type 0} (contents : D → List (List ℕ)) (failures : D → ℕ) where
  -- From a file system that is mounted on this disk, in which no hart has a call, the script makes another; the disk as it is there is
  -- handed out. The history that is printed is that of this run, on the disk's bytes.
  pub record RunsOn (mode : Mode) (bytes : List ℕ) (disk : D) (script : Option (List ℕ)) (result : Result D ConsoleFault)
      (out out' : Option (List ℕ)) : Type 0 where
    pub first : SessionOf D
    pub last : SessionOf D
    pub ended : Result (Unit {0}) ConsoleFault
    pub rests : Rests contents failures disk first.world.harts
    pub idle : first.doing ≡ replicate 8 None
    pub runs : RunsReader contents failures mode (history_of bytes) first script ended last out out'
    pub hands : HandsOut last.world.harts.core.log.cache.device ended result

-- its line is printed, and its blocks stay; or that isn't written
abbrev pub Tells : List ℕ → Result (List ℕ) ConsoleFault → Option (List ℕ) → Option (List ℕ) → Type 0
Tells disk (Ok kept) out out' = (blocks_of kept ≡ blocks_of disk) × Appends out out' (shape_line (shape_of (blocks_of disk)))
Tells disk (Err (faults.Write e)) out out' = Unit {0}
Tells disk (Err (faults.Image f)) out out' = out' ≡ out
Tells disk (Err faults.Memory) out out' = out' ≡ out
Tells disk (Err (faults.Read e)) out out' = ⊥
Tells disk (Err (faults.Line n why)) out out' = ⊥
Tells disk (Err (faults.Stopped stop)) out out' = ⊥

-- a disk in memory is examined, or the script is run on it, or it isn't taken
abbrev pub RunsImage : Mode → Option (Vec ℕ Global) → Option (List ℕ) → Result (List ℕ) ConsoleFault → Option (List ℕ) → Option (List ℕ)
    → Type 0
RunsImage mode image script result out out' =
    WhereSet mode.check (Tells (bytes_for image) result out out')
    (RunsOn blocks_of (λ d. 0) mode (bytes_for image) (bytes_for image) script result out out' ⊎ TakesNoImage result out out')
