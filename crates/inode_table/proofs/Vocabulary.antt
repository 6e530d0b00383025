-- What this crate's proofs speak of: its own definitions, and what the crates below and the library call things.
pub use Rattle.fs_machine.proofs.Vocabulary.{GuardState, IsSome, MatchOption, None, Option, P, Some, ap, arith, false, fetch_left, inode_at, inode_in, is_some, no_inode, option_map, option_map_or, refl, ℕ, ◌∙◌, ◌≡◌}
pub use Rattle.fs_layout.proofs.Vocabulary.{dinode_of, spell_dinode, ◌*◌}
pub use Rattle.fs_layout.proofs.Inodes.{dinode_of-spell, length-spell_dinode}
pub use Rattle.fs_layout.proofs.Overwrites.{part-overwrite, record_at-overwrite}
pub use Rattle.fs_machine.proofs.HasOnes.{HasOne, fetch_has, first}
pub use Rattle.fs_machine.specs.Hands.{recorded, with_record}
pub use Rattle.inode_table.specs.HeldInodes.{IsLoadedAt}
pub use Rattle.inode_table.specs.Laws.{StoresOneInode}
pub use Rattle.inode_table.specs.Loading.{load_left}
pub use Rattle.inode_table.specs.LockingInodes.{lock_left}
pub use Rattle.inode_table.specs.Making.{new_left}
pub use Rattle.inode_table.specs.Programs.{load, load_unless, place_of, record_of}
unfoldable pub use Rattle.inode_table.specs.Programs.{with_dinode}
pub use Rattle.inode_table.specs.Storing.{store_left}
pub use Rattle.inode_table.specs.StoringRecords.{record_left}
pub use Rattle.inode_table.specs.declared.locking_inodes.LoadInode.{LoadInode}
pub use Rattle.inode_table.specs.declared.locking_inodes.LockInode.{LockInode}
pub use Rattle.inode_table.specs.declared.new_inode.NewInode.{NewInode}
pub use Rattle.inode_table.specs.declared.storing_inodes.StoreInode.{StoreInode}
pub use Rattle.inode_table.specs.declared.storing_inodes.StoreRecord.{StoreRecord}
pub use Rattle.fs_layout.specs.declared.inode.Dinode.{Dinode}
pub use Rattle.fs_machine.specs.InMemory.{Inode, Loaded, stands_so, unindexed, with_inode_of}
pub use Rattle.fs_machine.specs.declared.hand.Hand.{Hand}
pub use Rattle.fs_machine.specs.declared.hand.InodePlace.{InodePlace}
pub use Rattle.fs_machine.specs.declared.hand.InodePlace.TheVariants.{One, Two}
