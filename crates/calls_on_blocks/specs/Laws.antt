-- The laws of the calls on blocks.
use Rattle.calls_on_blocks.specs.Vocabulary.{Super, Lawful, IsCode}
use Rattle.calls_on_blocks.specs.Theory.{block_calls, block_code}

-- Each call that is served is right below, whatever the others do.
abbrev pub CallsAreLawful : Type 0
CallsAreLawful = (sizes : Super) → Lawful (block_calls sizes)

-- What the code has goes on as the theory says.
abbrev pub CodeIsOfIt : Type 0
CodeIsOfIt = (sizes : Super) → IsCode (block_calls sizes) (block_code sizes)
