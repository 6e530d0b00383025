-- Nothing is lost: if no hart has a call, each inode without links is open, or a current directory. And what is freed
-- has no type.
use Rattle.std.specs.Prelude.{◌≡◌, ◌<◌, ℕ, pos, true, List, [], ◌∷◌, ◌++◌, Option, Some}
use Rattle.run_laws.specs.Vocabulary.{Super, Handover, Carry, handlers, inode_block, Put, Call, EventOf, TablesState, owed, Outside, World, Came, Event, AreIdle, HartsOf, shared_of, IsHistory, IsMounted, WorldOf}
use Rattle.fs_layout.specs.declared.inode.Dinode.{Dinode}
use Rattle.inode_table.specs.Programs.{with_dinode}
use Rattle.inode_machine.specs.Exec.{is_dead}
use Rattle.inode_machine.specs.World as above
use Rattle.inode_machine.specs.World.Op.{Free}
use Rattle.run_laws.specs.Idle.{inodes_after}
use Rattle.run_laws.specs.Searches.{AnsweredStep, ComesTo, HasRead}

-- an inode on the disk whose count is 0 is that of an open file or of a current directory
abbrev pub DeadAreInUse : World → TablesState → Type 0
DeadAreInUse w t = (n : ℕ) → is_dead (w.disk n) ≡ true → 0 < owed n t

module _ {D : Type 0} (contents : D → List (List ℕ)) (failures : D → ℕ) where
  -- So it is after each history of a run, from a world as a mount left it, if no hart has a call.
  abbrev pub NothingIsLost : WorldOf D → Type 0
  NothingIsLost w =
      (device : D) (events : List Event) (came : List Came) (new : HartsOf D) (history : List (EventOf Call Outside))
      → IsMounted contents failures device w → IsHistory contents failures w.sizes w.harts events came new history
      → AreIdle new.calls → DeadAreInUse (inodes_after contents failures w history) (shared_of contents failures new).tables

-- ---- what is freed

-- The last of these steps puts the block of inode n, as it was read, with a record of the inode that has no type.
pub record PutsNoType (sizes : Super) (es : List AnsweredStep) (n : ℕ) : Type 0 where
  pub front : List AnsweredStep
  pub block : List ℕ
  pub read : HasRead front (inode_block sizes.inodestart n) block
  pub inode : Dinode
  pub free : inode.kind ≡ pos 0
  pub is : es ≡ front ++ (Put (inode_block sizes.inodestart n) (Some (with_dinode n inode block)), tt) ∷ []

-- So does the program of each freeing, whatever its steps are answered.
abbrev pub FreesPutNoType : Type 0
FreesPutNoType =
    (sizes : Super) (c : Carry) (n : ℕ) (m : Unit {0} → Option above.Mark) (es : List AnsweredStep) (r : Handover (Unit {0}) Carry)
    → ComesTo (handlers sizes c (Free n) m) es r → PutsNoType sizes es n
