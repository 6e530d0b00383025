-- What the crates below call things: the words that this crate's definitions and contracts use.
pub use Rattle.fs_machine.specs.Vocabulary.{Do, GuardState, MatchOption, Prog, Ret, option_map, option_map_or, unmarked, unwrap_or}
pub use Rattle.group_log.specs.Vocabulary.{block_len, overwrite}
pub use Rattle.fs_machine.specs.declared.hand.Hand.{Hand}
pub use Rattle.fs_machine.specs.declared.hand.InodePlace.{InodePlace}
pub use Rattle.fs_machine.specs.Hands.{block_at, buffer_at, bytes_at, inode_at, inode_in, no_inode, number_at, reference_at, with_buffer, with_bytes, with_content, with_inode, with_record, with_reference}
pub use Rattle.atomic_programs.specs.Prog.{bind}
pub use Rattle.fs_layout.specs.Widths.{addresses, inode_len, inodes_per_block}
pub use Rattle.fs_machine.specs.Machines.{P}
pub use Rattle.fs_machine.specs.Controls.{Goes, bare, left_after}
pub use Rattle.fs_machine.specs.Ops.{IsAfter}
unfoldable pub use Rattle.fs_machine.specs.Ops.{answer_in}
pub use Rattle.fs_machine.specs.declared.op.Op.{Op}
pub use Rattle.fs_layout.specs.Inode.{IsDinode, dinode_at, spell_dinode}
pub use Rattle.fs_machine.specs.Fetching.{FetchReady, fetch_asked, fetch_block, fetch_left, fetch_place}
pub use Rattle.fs_machine.specs.declared.hand.Place.TheVariants.{First}
pub use Rattle.fs_machine.specs.declared.hand.Place.{Place}
pub use Rattle.fs_machine.specs.Programs.{fetch}
pub use Rattle.fs_machine.specs.Steps.{Answer, Claim, ClaimResult, Claims, NoInode as HasNoInode, NoPlace, Put}
pub use Rattle.fs_machine.specs.Tied.{bytes_of}
pub use Rattle.fs_machine.specs.InMemory.{Inode, Loaded, unindexed}
pub use Rattle.fs_layout.specs.Bytes.{i16_at}
pub use Rattle.fs_layout.specs.declared.inode.Dinode.{Dinode}
pub use Rattle.fs_layout.specs.declared.superblock.Super.{Super}
