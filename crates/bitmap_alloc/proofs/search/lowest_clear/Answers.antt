use Rattle.std.proofs.Common.{◌<◌, ◌+◌, w8, arith}
use Rattle.std.proofs.lemmas.Nat.Bits.{bit_at-trailing_ones}
use Rattle.bitmap_alloc.proofs.search.lowest_clear.Goals as goal

pub returns : goal.returns
returns c =
    let within : c.args.byte + 1 < 256 = omega arith in
    let ones = bit_at-trailing_ones w8 c.args.byte within in
    rw c.trailing_ones.ensures (record { below = ones.0; clear = ones.1; before = ones.2 })
