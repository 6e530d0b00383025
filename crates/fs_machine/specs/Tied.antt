-- How the guards in a hart's hand go with the state.
use Rattle.std.specs.Prelude.{◌≡◌, ◌≢◌, ℕ, List, [], IfSome}
use Rattle.fs_machine.specs.Vocabulary.{unwrap_or, IsOutsideLog, GuardState, BufferState, seen_in, IsHeld}
use Rattle.fs_machine.specs.InMemory.{Inode}
use Rattle.fs_machine.specs.Locks.{IsLocked}
use Rattle.fs_machine.specs.LogPart.{LogPart}
use Rattle.fs_machine.specs.Steps.{State}

-- The guard's buffer is out in its hart's hand, and what it holds is as its block is seen.
pub record IsTied (guard : GuardState BufferState) (l : LogPart) : Type 0 where
  pub held : IsHeld l.seats guard
  pub bytes : IfSome guard.value.content (λ bytes. bytes ≡ seen_in l.contents l.seats guard.value.block)
  pub outside : IsOutsideLog l.sizes guard.value.block

-- the bytes in a guard
abbrev pub bytes_of : GuardState BufferState → List ℕ
bytes_of guard = unwrap_or guard.value.content []

-- this hart's guard of this block
pub record IsOwn (hart b : ℕ) (guard : GuardState BufferState) (s : State) : Type 0 where
  pub hand : guard.hart ≡ hart
  pub block : guard.value.block ≡ b
  pub tied : IsTied guard s.log

-- this hart's guard of this inode
pub record IsOwnInode (hart n : ℕ) (guard : GuardState Inode) (s : State) : Type 0 where
  pub hand : guard.hart ≡ hart
  pub number : guard.value.number ≡ n
  pub locked : IsLocked guard s.tables

-- what is in the hands of others stays so
pub record LeavesTied (hart : ℕ) (old new : State) : Type 0 where
  pub buffers : (guard : GuardState BufferState) → guard.hart ≢ hart → IsTied guard old.log → IsTied guard new.log
  pub inodes : (guard : GuardState Inode) → guard.hart ≢ hart → IsLocked guard old.tables → IsLocked guard new.tables
