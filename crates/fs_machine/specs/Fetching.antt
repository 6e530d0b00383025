-- A block's buffer, taken and valid.
use Rattle.std.specs.Prelude.{◌≡◌, ℕ, List, [], Option, None, IsSome}
use Rattle.fs_machine.specs.Vocabulary.{MatchOption, option_map_or, once, unmarked, BufferState, GuardState}
use Rattle.fs_machine.specs.Steps as steps
use Rattle.fs_machine.specs.Machines.{P}
use Rattle.fs_machine.specs.Programs.{fetch}
use Rattle.fs_machine.specs.declared.hand.Hand.{Hand}
use Rattle.fs_machine.specs.declared.hand.Place.{Place}
use Rattle.fs_machine.specs.declared.op.Op.{Op}
use Rattle.fs_machine.specs.declared.op.Op.TheVariants as ops
use Rattle.fs_machine.specs.Hands.{buffer_at, bytes_at}
use Rattle.fs_machine.specs.declared.fetch.Fetch.{Fetch}
use Rattle.fs_machine.specs.declared.fetch.Fetch.TheVariants.{Get, Read}
use Rattle.fs_machine.specs.declared.fetch.Fetched.{Fetched}
use Rattle.fs_machine.specs.Tied.{bytes_of}

abbrev pub fetch_left : Fetch → Hand → P (List ℕ)
fetch_left (Get p b) h = fetch b
fetch_left (Read p b) h = once (steps.Read b) unmarked

abbrev pub fetch_asked : Fetch → Op
fetch_asked (Get p b) = ops.Get p b
fetch_asked (Read p b) = ops.Read p

abbrev pub FetchReady : Fetch → Hand → Type 0
FetchReady (Get p b) h = buffer_at p h ≡ None
FetchReady (Read p b) h = MatchOption (buffer_at p h) ⊥ (λ g. (g.value.content ≡ None) × (g.value.block ≡ b))

abbrev pub fetched_bytes : Fetched → Hand → List ℕ
fetched_bytes f h = bytes_at f.place h

-- the block
abbrev pub fetch_block : Fetch → ℕ
fetch_block (Get p b) = b
fetch_block (Read p b) = b

abbrev pub fetch_place : Fetch → Place
fetch_place (Get p b) = p
fetch_place (Read p b) = p

abbrev pub FetchEnds : Fetch → Fetched → Hand → Type 0
FetchEnds f out h = MatchOption (buffer_at out.place h) ⊥ (λ g. IsSome g.value.content × (g.value.block ≡ out.block))
    × (out.block ≡ fetch_block f) × (out.place ≡ fetch_place f)

-- the block of a buffer, and its bytes
abbrev pub block_in : Option (GuardState BufferState) → ℕ
block_in o = option_map_or (λ (g : GuardState BufferState). g.value.block) o 0

abbrev pub bytes_in : Option (GuardState BufferState) → List ℕ
bytes_in o = option_map_or bytes_of o []
