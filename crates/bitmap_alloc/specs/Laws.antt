-- What the programs do, whatever their operations answer.
use Rattle.std.specs.Prelude.{◌≡◌, ◌==◌, ℕ, ◌+◌, ◌*◌, ◌<◌, List, [], ◌∷◌, ◌++◌, length, true, false, Option, Some, None, if◌then◌else◌}
use Rattle.bitmap_alloc.specs.Vocabulary.{unwrap_or, bit_of, Ret, Do, Op, Answer, Get, Read, Put, P}
use Rattle.bitmap_alloc.specs.Bytes.{with_bit, without_bit, zeros}
use Rattle.bitmap_alloc.specs.Programs.{take_block, free_block}

-- what the operation after n others answers
abbrev pub Oracle : Type 0
Oracle = ℕ → (op : Op) → Answer op

-- what a program ends with
abbrev pub outcome : {A : Type 0} → Oracle → ℕ → P A → A
outcome answer n (Ret a) = a
outcome answer n (Do op m k) = outcome answer (n + 1) (k (answer n op))

-- the block that an operation records, with its bytes
abbrev pub recording : Op → List (ℕ × List ℕ)
recording (Put b (Some bytes)) = (b, bytes) ∷ []
recording _ = []

-- what a program records, the first first
abbrev pub recorded : {A : Type 0} → Oracle → ℕ → P A → List (ℕ × List ℕ)
recorded answer n (Ret a) = []
recorded answer n (Do op m k) = recording op ++ recorded answer (n + 1) (k (answer n op))

-- the bytes of block b that are fetched after n operations
abbrev pub fetched : Oracle → ℕ → ℕ → List ℕ
fetched answer n b = unwrap_or (answer n (Get b)) (answer (n + 1) (Read b))

-- No bit below the size is clear and nothing is recorded. Or the first clear bit is found, and the bitmap with it set
-- and the block with zeros are recorded.
abbrev pub TakesFirstClear : (at size : ℕ) → List ℕ → List (ℕ × List ℕ) → Option ℕ → Type 0
TakesFirstClear at size bitmap changes None = ((k : ℕ) → k < size → bit_of bitmap k ≡ true) × (changes ≡ [])
TakesFirstClear at size bitmap changes (Some b) = (b < size) × (bit_of bitmap b ≡ false) × ((k : ℕ) → k < b → bit_of bitmap k ≡ true)
    × (changes ≡ (at, with_bit b bitmap) ∷ (b, zeros) ∷ [])

-- a block is taken so
abbrev pub TakesTheFirst : Type 0
TakesTheFirst = (answer : Oracle) (at size : ℕ)
    → TakesFirstClear at size (fetched answer 0 at) (recorded answer 0 (take_block at size)) (outcome answer 0 (take_block at size))

-- a block is given back by the bitmap alone
abbrev pub FreesByTheBitmap : Type 0
FreesByTheBitmap = (answer : Oracle) (at b : ℕ) → recorded answer 0 (free_block at b) ≡ (at, without_bit b (fetched answer 0 at)) ∷ []

-- one bit is set, and every other stays
abbrev pub SetsOneBit : Type 0
SetsOneBit = (bitmap : List ℕ) (b c : ℕ) → b < 8 * length bitmap → bit_of (with_bit b bitmap) c ≡ (if c == b then true else bit_of bitmap c)

abbrev pub ClearsOneBit : Type 0
ClearsOneBit =
    (bitmap : List ℕ) (b c : ℕ) → b < 8 * length bitmap → bit_of (without_bit b bitmap) c ≡ (if c == b then false else bit_of bitmap c)
