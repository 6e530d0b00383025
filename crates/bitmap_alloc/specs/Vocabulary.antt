-- What the crates below call things: the words that this crate's definitions and contracts use.
pub use Rattle.group_log.specs.Vocabulary.{MatchOption, block_len, unwrap_or}
pub use Rattle.fs_machine.specs.Hands.{block_at, buffer_at, bytes_at, with_buffer, with_bytes, with_content}
pub use Rattle.fs_layout.specs.Widths.{bits_per_block}
pub use Rattle.fs_machine.specs.declared.hand.Hand.{Hand}
pub use Rattle.atomic_programs.specs.Prog.{Do, Prog, Ret, bind, unmarked}
pub use Rattle.fs_machine.specs.Machines.{P}
pub use Rattle.fs_layout.specs.Bits.{bit_of}
pub use Rattle.fs_machine.specs.Controls.{Goes, bare, left_after}
pub use Rattle.fs_machine.specs.Fetching.{FetchReady, fetch_asked, fetch_block, fetch_left, fetch_place}
pub use Rattle.fs_machine.specs.Ops.{IsAfter}
unfoldable pub use Rattle.fs_machine.specs.Ops.{answer_in}
pub use Rattle.fs_machine.specs.Steps.{Answer, Get, Op, Put, Read}
pub use Rattle.fs_machine.specs.Tied.{bytes_of}
pub use Rattle.fs_machine.specs.declared.hand.Place.{Place}
pub use Rattle.fs_machine.specs.Programs.{fetch}
pub use Rattle.fs_machine.specs.declared.hand.Place.TheVariants.{First}
pub use Rattle.std.specs.Int.{bit_at}
