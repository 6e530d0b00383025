-- The numbers that an inode has.
use Rattle.image_versions.specs.Shared.{most_disk_blocks}
use Rattle.image_tree.proofs.Vocabulary.{true, ◌≡◌, ◌≢◌, ℕ, ◌<◌, ◌≤◌, false, List, [], ◌++◌, length, get_or, slice_index, refl, arith, length-append, subst, ⊎_elim, append-nil, get_or_append_left, ne_eqb, cases_eq, All, Dinode, u32s_at, numbers_of, numbers_by, inode_of, is_free, recovered, sizes_of, IsData, Layout, IsLayout, addresses, direct, numbers_per_block}

pub numbers_without : (disk : List (List ℕ)) (d : Dinode) → slice_index d.addrs direct ≡ 0 → numbers_of disk d ≡ d.addrs
unfolding numbers_of
numbers_without disk d h = rw (h, append-nil) refl

pub numbers_with : (disk : List (List ℕ)) (d : Dinode) → slice_index d.addrs direct ≢ 0
    → numbers_of disk d ≡ d.addrs ++ u32s_at numbers_per_block (recovered disk (slice_index d.addrs direct)) 0
unfolding numbers_of
numbers_with disk d h = rw (ne_eqb (slice_index d.addrs direct) 0 h) refl

-- the front of a list of good numbers
pub All-front : {A : Type 0} (P : A → Type 0) (xs ys : List A) → All P (xs ++ ys) → All P xs
All-front P xs ys h = λ k d l. subst P (get_or_append_left xs ys d k l) (h k d (omega (arith, length-append xs ys)))

pub All-addrs : (P : ℕ → Type 0) (disk : List (List ℕ)) (d : Dinode) → All P (numbers_of disk d) → All P d.addrs
unfolding numbers_of
All-addrs P disk d h = All-front P d.addrs _ h

pub numbers_by_free : (disk : List (List ℕ)) (i : ℕ) (d : Dinode) → d ≡ inode_of disk i → is_free d ≡ true → numbers_by disk i ≡ []
unfolding numbers_by
numbers_by_free disk i d e h = rw (← e, h) refl

pub numbers_by_used : (disk : List (List ℕ)) (i : ℕ) (d : Dinode) → d ≡ inode_of disk i → is_free d ≡ false → numbers_by disk i ≡ numbers_of disk d
unfolding numbers_by
numbers_by_used disk i d e h = rw (← e, h) refl

pub All-nil : (P : ℕ → Type 0) → All P []
All-nil P = λ k d l. absurd (omega arith)

-- a good number is a block of the disk
pub twelfth_within : (disk : List (List ℕ)) (layout : Layout) (d : Dinode) → IsLayout disk layout → length d.addrs ≡ addresses
    → All (λ b. b ≢ 0 → IsData (sizes_of disk) b) d.addrs → slice_index d.addrs direct < length disk
twelfth_within disk layout d h l good =
    let two : 2 ≤ length disk = h.good.0.0.0 in
    let size = h.good.0.1 in
    ⊎_elim
    (λ (e : slice_index d.addrs direct ≡ 0). omega arith)
    (λ (n : slice_index d.addrs direct ≡ 0 → ⊥). let p = good direct 0 (omega arith) n in omega arith)
    (cases_eq (slice_index d.addrs direct) 0)

pub small_numbers : (disk : List (List ℕ)) (xs : List ℕ) → (sizes_of disk).size ≤ most_disk_blocks
    → All (λ b. b ≢ 0 → IsData (sizes_of disk) b) xs → All (λ b. b < 8192) xs
small_numbers disk xs size good =
    λ k d l.
    ⊎_elim
    (λ (e : get_or xs k d ≡ 0). omega arith)
    (λ (n : get_or xs k d ≡ 0 → ⊥). let p = good k d l n in omega arith)
    (cases_eq (get_or xs k d) 0)
