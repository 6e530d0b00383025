-- The slots of a directory, one by one.
use Rattle.image_tree.proofs.Vocabulary.{Version, dirents_per_block_of, ◌≡◌, ℕ, ◌+◌, ◌/◌, ◌%◌, ◌<◌, ◌≤◌, true, false, List, [], ◌∷◌, ◌++◌, refl, sym, ap, ◌∙◌, add-one, Option, ℤ, pos, negsuc, eqb, ◌&&◌, false≢true, false_from_ne_true, eqb-true, Dinode, Dirent, dirent_at, recovered, inode_of, is_directory, is_live, is_live_directory, is_free, is_number, numbers_by, numbers_of, block_number, content_block, slot_at, first_slots, slots_of, slots_in, Layout, IsLayout}
use Rattle.image_tree.proofs.Nodes.{both, both_from, directory_is, directory_from, numbers_by_node}

pub directory_kind : (z : ℤ) → is_number 1 z ≡ true → is_number 0 z ≡ false
directory_kind (pos n) h = ap (λ (k : ℕ). eqb k 0) (eqb-true n 1 h)
directory_kind (negsuc n) h = refl

pub first_slots-none : (v : Version) (disk : List (List ℕ)) (d : Dinode) → first_slots v disk d 0 ≡ []
unfolding first_slots
first_slots-none v disk d = refl

-- one more slot, as it was loaded from a disk with these contents
pub first_slots-more : (v : Version) (disk now : List (List ℕ)) (d : Dinode) (numbers : List ℕ) (n : ℕ) (slots more : List (Option Dirent)) (slot : Option Dirent) → now ≡ disk
    → numbers ≡ numbers_of disk d → slot ≡ dirent_at v (n % dirents_per_block_of v) (recovered now (block_number numbers (n / dirents_per_block_of v))) → slots ≡ first_slots v disk d n
    → more ≡ slots ++ slot ∷ [] → more ≡ first_slots v disk d (n + 1)
unfolding first_slots slot_at content_block
first_slots-more v disk now d numbers n slots more slot same is read before e =
    let at : dirent_at v (n % dirents_per_block_of v) (recovered now (block_number numbers (n / dirents_per_block_of v))) ≡ slot_at v disk d n = rw (same, is) refl in
    e ∙ ap (λ (xs : List (Option Dirent)). xs ++ slot ∷ []) before ∙ ap (λ (x : Option Dirent). first_slots v disk d n ++ x ∷ []) (read ∙ at)
    ∙ ap (first_slots v disk d) (sym (add-one n))

pub slots_in_directory : (disk : List (List ℕ)) (layout : Layout) (i : ℕ) (d : Dinode) → IsLayout disk layout → 1 ≤ i → i < layout.sizes.ninodes
    → d ≡ inode_of disk i → (is_directory d && is_live d) ≡ true → slots_of layout.version disk d ≡ slots_in layout.version disk i
unfolding slots_in
slots_in_directory disk layout i d h low bound e is =
    let parts = both (is_directory d) (is_live d) is in
    let live : is_live_directory disk i ≡ true =
    directory_from disk i (record { low = low; bound = rw (← h.sizes) bound; directory = rw e at parts.0; live = rw e at parts.1 }) in
    rw (live, ← e) refl

pub slots_in_other : (v : Version) (disk : List (List ℕ)) (i : ℕ) (d : Dinode) → d ≡ inode_of disk i → (is_directory d && is_live d) ≡ false → slots_in v disk i ≡ []
unfolding slots_in
slots_in_other v disk i d e not =
    let live : is_live_directory disk i ≡ false =
    false_from_ne_true (is_live_directory disk i) (λ t.
    let is = directory_is disk i t in
    false≢true (sym not ∙ rw e (both_from (is_directory (inode_of disk i)) (is_live (inode_of disk i)) is.directory is.live))) in
    rw live refl

directory_not_free : (d : Dinode) → is_directory d ≡ true → is_free d ≡ false
directory_not_free d h = directory_kind d.kind h

-- the numbers that were loaded are those of the inode that was loaded
pub numbers_of_directory : (disk now later : List (List ℕ)) (i : ℕ) (d : Dinode) (numbers : List ℕ) → now ≡ disk → later ≡ now → d ≡ inode_of disk i
    → (is_directory d && is_live d) ≡ true → numbers ≡ numbers_by now i → numbers ≡ numbers_of later d
numbers_of_directory disk now later i d numbers same same2 e is n =
    let used : is_free (inode_of disk i) ≡ false = rw e at (directory_not_free d (both (is_directory d) (is_live d) is).0) in
    n ∙ ap (λ (x : List (List ℕ)). numbers_by x i) same ∙ numbers_by_node disk i used ∙ ap (numbers_of disk) (sym e)
    ∙ ap (λ (x : List (List ℕ)). numbers_of x d) (sym (same2 ∙ same))
