-- What an inode in use holds is seen in its own blocks alone.
use Rattle.image_tree.proofs.Vocabulary.{Version, ◌≡◌, ◌≢◌, ◌⊎◌, inl, inr, ℕ, zero, suc, ◌+◌, ◌/◌, ◌%◌, ◌==◌, nat_lt, ◌&&◌, not, Bool, true, false, if◌then◌else◌, List, [], ◌∷◌, ◌++◌, slice_index, slice_index_or, take, Option, map, refl, ◌∙◌, ap, subst, All, and_parts, Dinode, Dirent, numbers_in, dirent_at, dirents_per_block_of, dirent_len_of, recovered, sizes_of, inode_of, is_free, is_directory, is_live, is_node, is_live_directory, direct, numbers_of, block_number, content_block, numbers_by, front_blocks, content_of, blocks_for, slot_at, first_slots, slots_of, IsData, HasGoodNumbers, Directory, File, Device, slot_of, is_file, kind_of}
use Rattle.image_tree.proofs.Views.{number_at, All-front, kind_used}
pub use Rattle.image_tree.proofs.Views.{InRange, pick, ranged}

pub not_free : (t : Bool) → not t ≡ true → t ≡ false
not_free true e = absurd (cc e)
not_free false e = refl

-- the numbers of an inode in use are good
pub Good : List (List ℕ) → Dinode → Type 0
Good d x = All (λ b. b ≢ 0 → IsData (sizes_of d) b) (numbers_of d x)

module _ (d : List (List ℕ)) (good_numbers : HasGoodNumbers d) where
  pub used_good : (i : ℕ) → InRange (sizes_of d) i → is_free (inode_of d i) ≡ false → Good d (inode_of d i)
  unfolding Good numbers_by
  used_good i range isnt =
      subst (λ (t : Bool). All (λ b. b ≢ 0 → IsData (sizes_of d) b) (if t then [] else numbers_of d (inode_of d i))) isnt (good_numbers i range.low range.high)

  pub node_good : (i : ℕ) → is_node d i ≡ true → Good d (inode_of d i)
  unfolding is_node
  node_good i is = let r = ranged (sizes_of d) i (not (is_free (inode_of d i))) is in used_good i r.0 (not_free (is_free (inode_of d i)) r.1)

  pub live_good : (i : ℕ) → is_live_directory d i ≡ true → Good d (inode_of d i)
  unfolding is_live_directory
  live_good i is =
      let r = ranged (sizes_of d) i (is_directory (inode_of d i) && is_live (inode_of d i)) is in
      used_good i r.0 (kind_used (inode_of d i).kind (and_parts (is_directory (inode_of d i)) (is_live (inode_of d i)) r.1).0)

-- another disk with the same data, and the same in block 0, which a read of a hole reads
module _ (d e : List (List ℕ)) (same : (b : ℕ) → (b ≡ 0) ⊎ IsData (sizes_of d) b → recovered e b ≡ recovered d b) (x : Dinode) (good : Good d x) where
  place_same : (k : ℕ) → recovered e (slice_index (numbers_of d x) k) ≡ recovered d (slice_index (numbers_of d x) k)
  unfolding Good
  place_same k = number_at (λ b. recovered e b ≡ recovered d b) (numbers_of d x)
      (λ k z lt ne. same (slice_index_or (numbers_of d x) k z) (inr (good k z lt ne))) (same 0 (inl refl)) k

  addr_same : recovered e (slice_index x.addrs direct) ≡ recovered d (slice_index x.addrs direct)
  unfolding Good numbers_of
  addr_same = number_at (λ b. recovered e b ≡ recovered d b) x.addrs
      (All-front (λ b. b ≢ 0 → recovered e b ≡ recovered d b) x.addrs _ (λ k z lt ne. same (slice_index_or (numbers_of d x) k z) (inr (good k z lt ne)))) (same 0 (inl refl)) direct

  pub numbers_same : numbers_of e x ≡ numbers_of d x
  unfolding numbers_of
  numbers_same = ap (λ (bytes : List ℕ). x.addrs ++ (if slice_index x.addrs direct == 0 then [] else numbers_in bytes)) addr_same

  content_same : (k : ℕ) → content_block e x k ≡ content_block d x k
  unfolding content_block
  content_same k =
      ap (λ (l : List ℕ). recovered e (block_number l k)) numbers_same
      ∙ place_same (if nat_lt k direct then k else k + 1)

  front_same : (n : ℕ) → front_blocks e x n ≡ front_blocks d x n
  unfolding front_blocks
  front_same zero = refl
  front_same (suc n) = ap (λ (l : List ℕ). l ++ content_block e x n) (front_same n) ∙ ap (λ (l : List ℕ). front_blocks d x n ++ l) (content_same n)

-- and of a version's slots
module _ (v : Version) (d e : List (List ℕ)) (same : (b : ℕ) → (b ≡ 0) ⊎ IsData (sizes_of d) b → recovered e b ≡ recovered d b) (x : Dinode) (good : Good d x) where
  slot_same : (n : ℕ) → slot_at v e x n ≡ slot_at v d x n
  unfolding slot_at
  slot_same n = ap (λ (bytes : List ℕ). dirent_at v (n % dirents_per_block_of v) bytes) (content_same d e same x good (n / dirents_per_block_of v))

  pub slots_same : (n : ℕ) → first_slots v e x n ≡ first_slots v d x n
  unfolding first_slots
  slots_same zero = refl
  slots_same (suc n) = ap (λ (l : List (Option Dirent)). l ++ slot_at v e x n ∷ []) (slots_same n) ∙ ap (λ (o : Option Dirent). first_slots v d x n ++ o ∷ []) (slot_same n)

  pub kind_same : kind_of v e x ≡ kind_of v d x
  unfolding kind_of
  kind_same =
      ap (λ (l : List (Option Dirent)). if is_directory x then Directory (map slot_of l) else (if is_file x then File (content_of e x) else Device x.major x.minor x.size)) (slots_same (x.size / dirent_len_of v))
      ∙ ap (λ (l : List ℕ). if is_directory x then Directory (map slot_of (slots_of v d x)) else (if is_file x then File (take x.size l) else Device x.major x.minor x.size)) (front_same d e same x good (blocks_for x.size))
