-- When an inode is a node, or a live directory.
use Rattle.image_tree.proofs.Vocabulary.{◌≡◌, ◌≢◌, ℕ, ◌<◌, ◌≤◌, Bool, true, false, not, List, length, slice_index, refl, sym, ap, subst, arith, ◌+◌, ⊎_elim, ◌&&◌, nat_lt, All, false≢true, cases_lt, nat_tests, Dinode, sizes_of, inode_of, is_free, is_directory, is_live, is_node, is_live_directory, numbers_of, numbers_by, HasGoodNumbers, IsData, Layout, IsLayout, addresses, direct}
use Rattle.image_tree.proofs.NumberLists.{All-addrs, twelfth_within}

pub both : (a b : Bool) → (a && b) ≡ true → (a ≡ true) × (b ≡ true)
both true b h = (refl, h)
both false b h = absurd (false≢true h)

pub both_from : (a b : Bool) → a ≡ true → b ≡ true → (a && b) ≡ true
both_from a b p q = rw (p, q) refl

not_true : (b : Bool) → not b ≡ true → b ≡ false
not_true true h = absurd (false≢true h)
not_true false h = refl

-- inode i is one that can be used, and not free
pub record IsNode (disk : List (List ℕ)) (i : ℕ) : Type 0 where
  pub low : 1 ≤ i
  pub bound : i < (sizes_of disk).ninodes
  pub used : is_free (inode_of disk i) ≡ false

pub node_is : (disk : List (List ℕ)) (i : ℕ) → is_node disk i ≡ true → IsNode disk i
unfolding is_node
node_is disk i h =
    let p = both (nat_lt 0 i && nat_lt i (sizes_of disk).ninodes) (not (is_free (inode_of disk i))) h in
    let q = both (nat_lt 0 i) (nat_lt i (sizes_of disk).ninodes) p.0 in
    let a = q.0 in
    let b = q.1 in
    record { low = grind (arith, nat_tests); bound = grind (arith, nat_tests); used = not_true (is_free (inode_of disk i)) p.1 }

pub node_from : (disk : List (List ℕ)) (i : ℕ) → IsNode disk i → is_node disk i ≡ true
unfolding is_node
node_from disk i h =
    let low = h.low in
    let bound = h.bound in
    let a : nat_lt 0 i ≡ true = grind (arith, nat_tests) in
    let b : nat_lt i (sizes_of disk).ninodes ≡ true = grind (arith, nat_tests) in
    both_from _ _ (both_from _ _ a b) (ap not h.used)

-- inode i is a live directory
pub record IsLiveDirectory (disk : List (List ℕ)) (i : ℕ) : Type 0 where
  pub low : 1 ≤ i
  pub bound : i < (sizes_of disk).ninodes
  pub directory : is_directory (inode_of disk i) ≡ true
  pub live : is_live (inode_of disk i) ≡ true

pub directory_is : (disk : List (List ℕ)) (i : ℕ) → is_live_directory disk i ≡ true → IsLiveDirectory disk i
unfolding is_live_directory
directory_is disk i h =
    let p = both (nat_lt 0 i && nat_lt i (sizes_of disk).ninodes) (is_directory (inode_of disk i) && is_live (inode_of disk i)) h in
    let q = both (nat_lt 0 i) (nat_lt i (sizes_of disk).ninodes) p.0 in
    let r = both (is_directory (inode_of disk i)) (is_live (inode_of disk i)) p.1 in
    let a = q.0 in
    let b = q.1 in
    record { low = grind (arith, nat_tests); bound = grind (arith, nat_tests); directory = r.0; live = r.1 }

pub directory_from : (disk : List (List ℕ)) (i : ℕ) → IsLiveDirectory disk i → is_live_directory disk i ≡ true
unfolding is_live_directory
directory_from disk i h =
    let low = h.low in
    let bound = h.bound in
    let a : nat_lt 0 i ≡ true = grind (arith, nat_tests) in
    let b : nat_lt i (sizes_of disk).ninodes ≡ true = grind (arith, nat_tests) in
    both_from _ _ (both_from _ _ a b) (both_from _ _ h.directory h.live)

pub numbers_by_node : (disk : List (List ℕ)) (i : ℕ) → is_free (inode_of disk i) ≡ false → numbers_by disk i ≡ numbers_of disk (inode_of disk i)
unfolding numbers_by
numbers_by_node disk i h = rw h refl

-- the indirect block of a node is a block of the disk
pub twelfth_of_node : (disk : List (List ℕ)) (layout : Layout) (i : ℕ) (d : Dinode) → IsLayout disk layout → HasGoodNumbers disk
    → 1 ≤ i → i < layout.sizes.ninodes → d ≡ inode_of disk i → is_free d ≡ false → length d.addrs ≡ addresses → slice_index d.addrs direct < length disk
twelfth_of_node disk layout i d h good low bound e used l =
    let P : ℕ → Type 0 = λ b. b ≢ 0 → IsData (sizes_of disk) b in
    let own : All P (numbers_of disk (inode_of disk i)) =
    subst (All P) (numbers_by_node disk i (rw e at used)) (good i low (rw (← h.sizes) bound)) in
    twelfth_within disk layout d h l (All-addrs P disk d (subst (λ (x : Dinode). All P (numbers_of disk x)) (sym e) own))

-- what holds of each inode below one, and of that one
pub one_more : (P : ℕ → Type 0) (i : ℕ) → ((k : ℕ) → 1 ≤ k → k < i → P k) → P i → (k : ℕ) → 1 ≤ k → k < i + 1 → P k
one_more P i below here k low bound =
    ⊎_elim (λ (h : k < i). below k low h) (λ (h : i ≤ k). let e : i ≡ k = omega arith in subst P e here) (cases_lt k i)
