-- A new inode: which inodes of a block may be claimed, and what one holds once its record has a type.
use Rattle.inodes_on_blocks.proofs.Vocabulary.{◌≡◌, inl, inr, ℕ, zero, suc, ◌+◌, ◌<◌, ◌≤◌, Bool, true, false, List, [], ◌∷◌, length, replicate, Some, None, refl, sym, ◌∙◌, ap, subst, arith, if◌then◌else◌, get_or, find, Contains-append_cases, none-some, same_Some, Dinode, sizes_of, addresses, UpToLog, inode_of, is_free, numbers_by_free, HoldsAt, IsInode, NamesOwned, size_in, IsInodePut, is_free_in, free_among, new_record, blank, InodeType, OfDirectory, OfFile, OfDevice, kind_of, IsMade, Version, version_in}
use Rattle.std.proofs.Common.{All}
use Rattle.std.specs.Prelude.{Contains}
use Rattle.inodes_on_blocks.proofs.LaidInodes.{node_held, empty_laid, empty_named}

-- ---- which may be claimed

in_one : (a n : ℕ) → Contains (a ∷ []) n → n ≡ a
in_one a n has = at has.0 has.1 has.2
  where
    at : (k : ℕ) → k < length (a ∷ []) → get_or (a ∷ []) k n ≡ n → n ≡ a
    at zero l e = sym e
    at (suc k) l e = absurd (omega (arith, l))

-- what is found among some passes, and is one of them
pub found_passes : (p : ℕ → Bool) (xs : List ℕ) (n : ℕ) → find p xs ≡ Some n → (p n ≡ true) × Contains xs n
found_passes p [] n e = absurd (none-some n e)
found_passes p (x ∷ xs) n e = at (p x) refl (λ z. found_passes p xs n z) e
  where
    at : (b : Bool) → p x ≡ b → (find p xs ≡ Some n → (p n ≡ true) × Contains xs n) → (if b then Some x else find p xs) ≡ Some n → (p n ≡ true) × Contains (x ∷ xs) n
    at true q rest e = let s : x ≡ n = same_Some x n e in (ap p (sym s) ∙ q, (0, omega arith, s))
    at false q rest e = let r = rest e in (r.0, (suc r.1.0, (let l = r.1.1 in omega (arith, l)), r.1.2))

-- the free ones of the inodes from one on are so, and of these
pub among_free : (ninodes first : ℕ) (block : List ℕ) (k n : ℕ) → Contains (free_among ninodes first block k) n → (is_free_in ninodes block n ≡ true) × (first ≤ n) × (n < first + k)
unfolding free_among
among_free ninodes first block zero n has = absurd (let l = has.1 in omega (arith, l))
among_free ninodes first block (suc k) n has = elim (Contains-append_cases (free_among ninodes first block k) _ n has) [
  | inl old ↦ (let r = among_free ninodes first block k n old in let low = r.1 in let high = r.2 in (r.0, low, omega (arith, high)))
  | inr new ↦ at (is_free_in ninodes block (first + k)) refl new
]
  where
    at : (b : Bool) → is_free_in ninodes block (first + k) ≡ b → Contains (if b then (first + k) ∷ [] else []) n → (is_free_in ninodes block n ≡ true) × (first ≤ n) × (n < first + suc k)
    at false e new = absurd (let l = new.1 in omega (arith, l))
    at true e new = let q : n ≡ first + k = in_one (first + k) n new in (ap (is_free_in ninodes block) q ∙ e, omega (arith, q), omega (arith, q))

-- ---- what it holds

pub all_zero : (n : ℕ) → All {X = ℕ} (λ b. b ≡ 0) (replicate n 0)
all_zero zero k z l = absurd (omega (arith, l))
all_zero (suc n) zero z l = refl
all_zero (suc n) (suc k) z l = all_zero n k z (omega (arith, l))

blank_inode : (version : Version) (inode_type : InodeType) → IsMade inode_type → IsInode version (new_record (kind_of inode_type)) (blank inode_type)
blank_inode version OfDirectory made = record { kind = refl; count = refl; size = omega arith; device = tt }
blank_inode version OfFile made = record { kind = refl; count = refl; size = refl; device = tt }
blank_inode version (OfDevice major) made = absurd made

blank_empty : (version : Version) (inode_type : InodeType) → IsMade inode_type → size_in version (blank inode_type).kind ≡ 0
blank_empty version OfDirectory made = omega arith
blank_empty version OfFile made = refl
blank_empty version (OfDevice major) made = absurd made

-- An inode that is free has no block; put with a type alone it holds the node of that type, without links or content.
pub new_holds : (disk new : List (List ℕ)) (owner : ℕ → ℕ) (n : ℕ) (inode_type : InodeType) → UpToLog disk → n < (sizes_of disk).ninodes → IsMade inode_type → is_free (inode_of disk n) ≡ true → HoldsAt disk owner n None
    → IsInodePut disk new n (new_record (kind_of inode_type)) → HoldsAt new owner n (Some (blank inode_type))
new_holds disk new owner n inode_type front bound made free held put =
    let d : Dinode = new_record (kind_of inode_type) in
    let is : IsInode (version_in disk) d (blank inode_type) = blank_inode (version_in disk) inode_type made in
    let none : All {X = ℕ} (λ b. b ≡ 0) d.addrs = all_zero addresses in
    let owned : NamesOwned disk owner n [] = subst (NamesOwned disk owner n) (numbers_by_free disk n (inode_of disk n) refl free) held.blocks.named in
    node_held disk new owner n d (blank inode_type) front bound put (empty_laid disk owner n d (blank inode_type) is (blank_empty (version_in disk) inode_type made) none) (empty_named disk owner n d (blank inode_type) is (blank_empty (version_in disk) inode_type made) none owned)
