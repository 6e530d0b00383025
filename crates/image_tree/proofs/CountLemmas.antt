-- Counts, and how often inodes are named.
use Rattle.image_tree.proofs.Vocabulary.{Version, ◌≡◌, ◌↔◌, ◌∙◌, sym, subst, ℕ, ◌<◌, ◌≤◌, min, Bool, true, false, IsTrue, List, length, get_or, arith, get_or_default, false≢true, Dinode, times, inode_of, is_free, is_node, names_of, further_names_of, children_of, IsGoodCount, Tallies, Layout, IsLayout}
use Rattle.image_tree.proofs.Nodes.{node_is, node_from}

abbrev pub GoodCount : Version → List (List ℕ) → ℕ → Type 0
GoodCount v disk i = is_node disk i ≡ true → IsGoodCount (inode_of disk i) (names_of v disk i) (further_names_of v disk i) (children_of v disk i)

pub free_count : (v : Version) (disk : List (List ℕ)) (i : ℕ) (d : Dinode) → d ≡ inode_of disk i → is_free d ≡ true → GoodCount v disk i
free_count v disk i d e free = λ node. absurd (false≢true (sym (node_is disk i node).used ∙ rw e at free))

-- what a table says of an inode, as it was read
pub table_at : (table xs : List ℕ) (i n read : ℕ) → Tallies table xs → length table ≡ n → i < n → read ≡ get_or table i read → read ≡ min (times i xs) 65535
table_at table xs i n read t l bound is = is ∙ get_or_default table i read 0 (omega arith) ∙ t.says i (omega arith)

pub count_told : (disk : List (List ℕ)) (layout : Layout) (i : ℕ) (d : Dinode) (told : Bool) → IsLayout disk layout → 1 ≤ i → i < layout.sizes.ninodes
    → d ≡ inode_of disk i → is_free d ≡ false
    → (IsTrue told ↔ IsGoodCount d (names_of layout.version disk i) (further_names_of layout.version disk i) (children_of layout.version disk i))
    → IsTrue told ↔ GoodCount layout.version disk i
count_told disk layout i d told h low bound e used says = (
  λ yes node. subst (λ (x : Dinode). IsGoodCount x (names_of layout.version disk i) (further_names_of layout.version disk i) (children_of layout.version disk i)) e (says.0 yes),
  λ good.
      let node = node_from disk i (record { low = low; bound = rw (← h.sizes) bound; used = rw e at used }) in
      says.1 (subst (λ (x : Dinode). IsGoodCount x (names_of layout.version disk i) (further_names_of layout.version disk i) (children_of layout.version disk i)) (sym e) (good node)),
)
