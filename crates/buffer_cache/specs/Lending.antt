use Rattle.std.specs.Prelude.{ℕ, List, Some}
use Rattle.buffer_cache.specs.Vocabulary.{Lends, MutBor, Fml, Array, u8}
use Rattle.buffer_cache.specs.Buffers.{BufferState}
use Rattle.buffer_cache.specs.contracts.buffer.Buffer.{the_row}

-- the buffer ends with the last bytes of r
abbrev pub LendsBytes : MutBor BufferState → MutBor (List ℕ) → Fml
LendsBytes b r = Lends the_row (Array u8 1024) b r (λ w. record b.now { content = Some w })
