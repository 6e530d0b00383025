-- What a hart's row says of the tree.
use Rattle.plain_tree.proofs.Vocabulary.{◌≡◌, ℕ, ◌<◌, Bool, true, false, ◌&&◌, ◌||◌, ◌==◌, nat_lt, Option, Some, None, refl, sym, ◌∙◌, ap, arith, if◌then◌else◌, nat_tests, OpenFile, hart_count, descriptor_count, Tree, any_below, hold_names, fd_names, file_names, is_named, file_at, Key, key_is, key_of, key_at, key_names, row_of, row_names}
use Rattle.plain_tree.proofs.Maps.{and_true, any_same}

-- a key names what the descriptor does
pub key_fd : (t : Tree) (o : Option ℕ) (n : ℕ) → key_names (key_at t.files o) n ≡ fd_names t o n
key_fd t None n = refl
key_fd t (Some id) n = at (t.files id)
  where
    at : (f : Option OpenFile) → key_names (key_of f) n ≡ file_names f n
    at None = refl
    at (Some f) = refl

pub below_is : (a b : ℕ) → a < b → nat_lt a b ≡ true
below_is a b lt = grind (arith, nat_tests)

pub less_is : (a b : ℕ) → nat_lt a b ≡ true → a < b
less_is a b lt = grind (arith, nat_tests)

pub row_key : (t : Tree) (h j n : ℕ) → h < hart_count → j < descriptor_count → key_names ((row_of t h).keys j) n ≡ fd_names t (t.fds h j) n
row_key t h j n lt lj = rw (below_is h hart_count lt, below_is j descriptor_count lj) (key_fd t (t.fds h j) n)

-- what a hart's row names
pub row_is : (t : Tree) (h n : ℕ) → h < hart_count → row_names (row_of t h) n ≡ ((t.cwd h == n) || (hold_names (t.holds h) n || any_below descriptor_count (λ i. fd_names t (t.fds h i) n)))
row_is t h n lt = ap (λ (z : Bool). (t.cwd h == n) || (hold_names (t.holds h) n || z)) (any_same descriptor_count (λ j. key_names ((row_of t h).keys j) n) (λ i. fd_names t (t.fds h i) n) (λ j lj. row_key t h j n lt lj))

-- a node is named if a row names it
pub rows_name : (t : Tree) (n : ℕ) → is_named t n ≡ any_below hart_count (λ h. row_names (row_of t h) n)
unfolding is_named
rows_name t n = any_same hart_count (λ h. (t.cwd h == n) || (hold_names (t.holds h) n || any_below descriptor_count (λ i. fd_names t (t.fds h i) n))) (λ h. row_names (row_of t h) n) (λ h lt. sym (row_is t h n lt))

-- A descriptor's key, and the open file that it is of.

pub key_from : (t : Tree) (h fd id : ℕ) (f : OpenFile) → h < hart_count → fd < descriptor_count → t.fds h fd ≡ Some id → t.files id ≡ Some f → (row_of t h).keys fd ≡ Some (key_is f)
key_from t h fd id f lt low e q = rw (below_is h hart_count lt, below_is fd descriptor_count low) (ap (λ (z : Option ℕ). key_at t.files z) e ∙ ap (λ (z : Option OpenFile). key_of z) q)

pub record Behind (t : Tree) (h fd : ℕ) (key : Key) : Type 0 where
  pub file : OpenFile
  pub id : ℕ
  pub low : fd < descriptor_count
  pub fds : t.fds h fd ≡ Some id
  pub is : t.files id ≡ Some file
  pub at : file_at t h fd ≡ Some file
  pub same : key_is file ≡ key

pub behind : (t : Tree) (h fd : ℕ) (key : Key) → (row_of t h).keys fd ≡ Some key → Behind t h fd key
behind t h fd key is = go (nat_lt h hart_count && nat_lt fd descriptor_count) refl is
  where
    file : (id : ℕ) (f : Option OpenFile) → fd < descriptor_count → nat_lt fd descriptor_count ≡ true → t.fds h fd ≡ Some id → t.files id ≡ f → key_of f ≡ Some key → Behind t h fd key
    file id None low lt q r e = absurd cc
    file id (Some f) low lt q r e = record { file = f; id = id; low = low; fds = q; is = r; at = rw (lt, q) r; same = cc }

    some : (o : Option ℕ) → fd < descriptor_count → nat_lt fd descriptor_count ≡ true → t.fds h fd ≡ o → key_at t.files o ≡ Some key → Behind t h fd key
    some None low lt q e = absurd cc
    some (Some id) low lt q e = file id (t.files id) low lt q refl e

    go : (b : Bool) → (nat_lt h hart_count && nat_lt fd descriptor_count) ≡ b → (if b then key_at t.files (t.fds h fd) else None) ≡ Some key → Behind t h fd key
    go false q e = absurd cc
    go true q e = let two = and_true (nat_lt h hart_count) (nat_lt fd descriptor_count) q in some (t.fds h fd) (less_is fd descriptor_count two.1) two.1 refl e
