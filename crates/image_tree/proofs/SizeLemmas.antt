-- What the parts of the check of a size say of the whole.
use Rattle.image_tree.proofs.Vocabulary.{Version, ◌≡◌, ◌≢◌, ◌↔◌, ◌∙◌, sym, subst, ℕ, ◌<◌, ◌≤◌, ◌*◌, List, Bool, true, false, IsTrue, false≢true, Dinode, inode_of, is_free, is_node, numbers_of, block_number, IsFittingSize, IsGoodSize, Layout, IsLayout, block_len}
use Rattle.image_tree.proofs.Nodes.{node_is, node_from}

pub free_no_size : (v : Version) (disk : List (List ℕ)) (i : ℕ) (d : Dinode) → d ≡ inode_of disk i → is_free d ≡ true
    → is_node disk i ≡ true → IsGoodSize v disk (inode_of disk i)
free_no_size v disk i d e free node = absurd (false≢true (sym (node_is disk i node).used ∙ rw e at free))

is_used : (disk : List (List ℕ)) (layout : Layout) (i : ℕ) (d : Dinode) → IsLayout disk layout → 1 ≤ i → i < layout.sizes.ninodes
    → d ≡ inode_of disk i → is_free d ≡ false → is_node disk i ≡ true
is_used disk layout i d h low bound e used = node_from disk i (record { low = low; bound = rw (← h.sizes) bound; used = rw e at used })

pub unfit_no_size : (disk : List (List ℕ)) (layout : Layout) (i : ℕ) (d : Dinode) → IsLayout disk layout → 1 ≤ i → i < layout.sizes.ninodes
    → d ≡ inode_of disk i → is_free d ≡ false → (IsFittingSize layout.version d → ⊥) → (is_node disk i ≡ true → IsGoodSize layout.version disk (inode_of disk i)) → ⊥
unfit_no_size disk layout i d h low bound e used bad good =
    bad (subst (IsFittingSize layout.version) (sym e) (good (is_used disk layout i d h low bound e used)).fits)

pub size_told : (disk : List (List ℕ)) (layout : Layout) (i : ℕ) (d : Dinode) → IsLayout disk layout → 1 ≤ i → i < layout.sizes.ninodes
    → d ≡ inode_of disk i → is_free d ≡ false → IsFittingSize layout.version d → (told : Bool) (numbers : List ℕ) → numbers ≡ numbers_of disk d
    → (IsTrue told ↔ ((k : ℕ) → block_len * k < d.size → block_number numbers k ≢ 0))
    → IsTrue told ↔ (is_node disk i ≡ true → IsGoodSize layout.version disk (inode_of disk i))
size_told disk layout i d h low bound e used fits told numbers is says = (
  λ yes _. subst (IsGoodSize layout.version disk) e (record { fits = fits; named = rw (← is) (says.0 yes) }),
  λ good. says.1 (rw is (subst (IsGoodSize layout.version disk) (sym e) (good (is_used disk layout i d h low bound e used))).named),
)
