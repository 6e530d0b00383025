-- A commit's writes.
use Rattle.std.specs.Prelude.{ℕ, ◌+◌, ◌≤◌, List, [], ◌∷◌, length, Bool, false, if◌then◌else◌, ◌==◌, slice_index, replicate}
use Rattle.group_log.specs.Vocabulary.{Super, overwrite, spell_log_head, block_len, log_head_count_at}
use Rattle.group_log.specs.declared.phase.Phase.{Phase}
use Rattle.group_log.specs.declared.phase.Phase.TheVariants.{Open, Staging, Installing, Halted}

-- in the commit of a group of n blocks
abbrev pub IsUnderWay : ℕ → Phase → Type 0
IsUnderWay n Open = ⊥
IsUnderWay n (Staging i) = i ≤ n
IsUnderWay n (Installing i) = i ≤ n
IsUnderWay n Halted = ⊥

abbrev pub next_phase : ℕ → Phase → Phase
next_phase n Open = Open
next_phase n (Staging i) = if i == n then Installing 0 else Staging (i + 1)
next_phase n (Installing i) = if i == n then Open else Installing (i + 1)
next_phase n Halted = Halted

-- a group ends with its commit
abbrev pub group_in : Phase → List ℕ → List ℕ
group_in Open group = []
group_in (Staging i) group = group
group_in (Installing i) group = group
group_in Halted group = group

-- a head that names these blocks, in a block of zeros
unfoldable pub head_block : List ℕ → List ℕ
head_block ks = overwrite (replicate block_len 0) log_head_count_at (spell_log_head ks)

-- the block that the next write goes to
abbrev pub write_to : Super → List ℕ → Phase → ℕ
write_to sizes group Open = 0
write_to sizes group (Staging i) = if i == length group then sizes.logstart else sizes.logstart + 1 + i
write_to sizes group (Installing i) = if i == length group then sizes.logstart else slice_index group i
write_to sizes group Halted = 0

-- and its bytes, if the blocks are seen so
abbrev pub write_of : (ℕ → List ℕ) → List ℕ → Phase → List ℕ
write_of seen group Open = []
write_of seen group (Staging i) = if i == length group then head_block group else seen (slice_index group i)
write_of seen group (Installing i) = if i == length group then head_block [] else seen (slice_index group i)
write_of seen group Halted = []

-- the write that makes the head name the group
abbrev pub is_point : ℕ → Phase → Bool
is_point n Open = false
is_point n (Staging i) = i == n
is_point n (Installing i) = false
is_point n Halted = false

-- the phase and the answer of a leave that leaves n in a transaction
abbrev pub phase_at_leave : ℕ → List ℕ → Phase
phase_at_leave n [] = Open
phase_at_leave n (b ∷ group) = if n == 0 then Staging 0 else Open
