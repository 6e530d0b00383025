-- What the crates below call things: the words that this crate's definitions and contracts use.
pub use Rattle.inode_table.specs.Vocabulary.{Do, Goes, IsAfter, P, Ret, bare, bind, inode_at, left_after, unmarked}
unfoldable pub use Rattle.inode_table.specs.Vocabulary.{answer_in}
pub use Rattle.fs_machine.specs.Inodes.{LockedState, Locks, Refuses}
pub use Rattle.fs_machine.specs.declared.files.OpenFile.{OpenFile}
pub use Rattle.inode_table.specs.LoadingHeld.{IsLoading, beside_lock}
pub use Rattle.fs_machine.specs.declared.files.Want.{Want}
pub use Rattle.inode_table.specs.HeldInodes.{IsLoadedAt, loaded_in, number_in}
pub use Rattle.inode_table.specs.Loading.{load_asked, load_left}
pub use Rattle.inode_table.specs.Programs.{inode_block, load_unless}
pub use Rattle.fs_machine.specs.InMemory.{Loaded}
pub use Rattle.fs_machine.specs.declared.hand.Hand.{Hand as HandState}
pub use Rattle.fs_machine.specs.declared.hand.InodePlace.{InodePlace}
pub use Rattle.fs_machine.specs.declared.op.Op.{Op}
