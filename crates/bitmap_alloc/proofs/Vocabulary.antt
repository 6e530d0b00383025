-- What this crate's proofs speak of: its own definitions, and what the crates below and the library call things.
pub use Rattle.fs_machine.proofs.Vocabulary.{Bool, Do, Get, List, None, Option, P, Put, Read, Some, [], arith, bind, cases_eq, false, fetch, fetch_left, get_or, if◌then◌else◌, not, read_unless, refl, suc, sym, true, unmarked, unwrap_or, zero, ℕ, ⊎_elim, ◌+◌, ◌-◌, ◌<◌, ◌∷◌, ◌≡◌, ◌≢◌, ◌≤◌}
pub use Rattle.fs_layout.proofs.Vocabulary.{bit_at, bit_of, ne_eqb, ◌%◌, ◌*◌, ◌/◌, ◌^◌}
pub use Rattle.bitmap_alloc.specs.Bytes.{marked_by}
unfoldable pub use Rattle.bitmap_alloc.specs.Bytes.{with_bit, without_bit, zeros}
pub use Rattle.bitmap_alloc.specs.First.{else_this, first_below}
unfoldable pub use Rattle.bitmap_alloc.specs.First.{first_clear_below}
pub use Rattle.bitmap_alloc.specs.FreeingBlocks.{free_left}
pub use Rattle.bitmap_alloc.specs.Laws.{ClearsOneBit, FreesByTheBitmap, Oracle, SetsOneBit, TakesFirstClear, TakesTheFirst, fetched, outcome, recorded}
pub use Rattle.bitmap_alloc.specs.Programs.{clear_bit, give_zeros, take_first, zero_block, zero_found}
pub use Rattle.bitmap_alloc.specs.Taking.{take_left}
pub use Rattle.bitmap_alloc.specs.declared.free_block.FreeBlock.{FreeBlock}
pub use Rattle.bitmap_alloc.specs.declared.take_block.TakeBlock.{TakeBlock}
pub use Rattle.fs_layout.proofs.Bitmaps.{changed_bit}
pub use Rattle.fs_machine.proofs.HasOnes.{HasOne, fetch_has, first}
pub use Rattle.std.proofs.Common.{bit_and, bit_or, eq-eqb, w8}
pub use Rattle.std.proofs.lemmas.Nat.{pow_below}
pub use Rattle.std.proofs.lemmas.Nat.Bits.{bit_at-pow_other, bit_at-pow_same, bit_at_and, bit_at_not, bit_at_ones, bit_at_or}
pub use Rattle.fs_machine.specs.declared.hand.Hand.{Hand}
