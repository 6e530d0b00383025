-- The disk as it is seen while a log runs: of each block the bytes that are seen, and an empty log.
use Rattle.std.specs.Prelude.{◌≡◌, ◌≢◌, ℕ, zero, suc, ◌+◌, ◌<◌, ◌≤◌, nat_le, nat_lt, ◌&&◌, Bool, List, [], ◌∷◌, ◌++◌, length, replicate, if◌then◌else◌}
use Rattle.inodes_on_blocks.specs.Vocabulary.{HasWholeBlocks, Super, block_len, magic_of, super_block, super_magic_at, u32_at, super_fields, recovered, sizes_of, IsOutsideLog, IsGoodSuper, UpToLog}

-- block b belongs to the log
abbrev pub is_in_log : Super → ℕ → Bool
is_in_log sizes b = nat_le sizes.logstart b && nat_lt b (sizes.logstart + sizes.nlog)

-- the first n blocks as they are seen, and zeros in place of those of the log
unfoldable pub seen_blocks : Super → (ℕ → List ℕ) → ℕ → List (List ℕ)
seen_blocks sizes see zero = []
seen_blocks sizes see (suc n) = seen_blocks sizes see n ++ (if is_in_log sizes n then replicate block_len 0 else see n) ∷ []

-- the blocks that are seen of a disk which passed the checks of its superblock
pub record AreSeen (sizes : Super) (see : ℕ → List ℕ) (n : ℕ) : Type 0 where
  pub is_super : u32_at (see super_block) super_magic_at ≡ magic_of sizes.version
  pub sizes_are : super_fields (see super_block) ≡ sizes
  pub good : IsGoodSuper sizes
  pub sized : sizes.size ≤ n
  pub whole : (b : ℕ) → b < n → IsOutsideLog sizes b → length (see b) ≡ block_len

-- As a disk they have these sizes and pass the checks up to the log's, and recovery would leave what is seen.
pub record IsGoodSeen (sizes : Super) (see : ℕ → List ℕ) (n : ℕ) : Type 0 where
  pub sizes_are : sizes_of (seen_blocks sizes see n) ≡ sizes
  pub good : UpToLog (seen_blocks sizes see n)
  pub whole : HasWholeBlocks (seen_blocks sizes see n)
  pub blocks : (b : ℕ) → b < n → IsOutsideLog sizes b → recovered (seen_blocks sizes see n) b ≡ see b

-- block b, which may be put, is seen otherwise, and no other one
pub record IsSeenPut (sizes : Super) (see now : ℕ → List ℕ) (b : ℕ) : Type 0 where
  pub no_super : b ≢ super_block
  pub outside : IsOutsideLog sizes b
  pub whole : length (now b) ≡ block_len
  pub others : (c : ℕ) → c ≢ b → now c ≡ see c

-- the same is seen outside the log
abbrev pub AreSeenAlike : Super → (ℕ → List ℕ) → (ℕ → List ℕ) → ℕ → Type 0
AreSeenAlike sizes see now n = (b : ℕ) → b < n → IsOutsideLog sizes b → now b ≡ see b

-- recovery would leave a disk as it is seen
pub record IsRecoveredSo (sizes : Super) (see : ℕ → List ℕ) (disk : List (List ℕ)) : Type 0 where
  pub sizes_are : sizes_of disk ≡ sizes
  pub good : UpToLog disk
  pub blocks : (b : ℕ) → b < length disk → IsOutsideLog sizes b → recovered disk b ≡ see b
