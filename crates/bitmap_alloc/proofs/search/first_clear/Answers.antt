use Rattle.std.proofs.Common.{arith}
use Rattle.bitmap_alloc.proofs.FirstClear.{all_full, clear_past, clear_there}
use Rattle.bitmap_alloc.proofs.search.first_clear.Goals as goal

pub returns-then-byte-eq-BLOCK_LEN-clause-first : goal.returns-then-byte-eq-BLOCK_LEN-clause-first
returns-then-byte-eq-BLOCK_LEN-clause-first c = all_full c.args.bitmap.now c.args.limit c.first_open-byte.result c.first_open-byte.ensures.before (omega arith)

pub returns-then-bit-limit-clause-first : goal.returns-then-bit-limit-clause-first
returns-then-bit-limit-clause-first c =
    clear_there c.args.bitmap.now c.args.limit c.first_open-byte.result c.lowest_clear.result c.first_open-byte.ensures.before c.lowest_clear.ensures.before
    c.lowest_clear.ensures.below c.lowest_clear.ensures.clear c.if-bit-limit.true

pub returns-else-bit-limit-clause-first : goal.returns-else-bit-limit-clause-first
returns-else-bit-limit-clause-first c =
    clear_past c.args.bitmap.now c.args.limit c.first_open-byte.result c.lowest_clear.result c.first_open-byte.ensures.before c.lowest_clear.ensures.before
    c.lowest_clear.ensures.below c.if-bit-limit.false
