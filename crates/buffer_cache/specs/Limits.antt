-- The cache's numbers, said here once more: a wrong one in the code is refused.
use Rattle.std.specs.Prelude.{ℕ}

abbrev pub buffer_count : ℕ
buffer_count = 46

-- how many buffers may be pinned at a time
abbrev pub most_pinned : ℕ
most_pinned = 30

abbrev pub hart_count : ℕ
hart_count = 8

-- how many buffers a hart may have in its hand
abbrev pub buffers_of_a_hart : ℕ
buffers_of_a_hart = 2
