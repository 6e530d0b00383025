-- What settling leaves of a tree, and when two trees settle to one.
use Rattle.plain_tree.proofs.Vocabulary.{◌≡◌, ◌⊎◌, inl, inr, ℕ, ◌<◌, Bool, true, false, ◌||◌, ◌==◌, nat_lt, Option, Some, None, refl, sym, ◌∙◌, ap, if◌then◌else◌, Node, OpenFile, hart_count, descriptor_count, Tree, any_below, fd_names, hold_names, is_directory, is_live, is_named, live_directory, settle, file_at, with_nodes, row_of}
use Rattle.plain_tree.proofs.Maps.{and_true, or_none, or_left, or_right, any_none, none_any, any_at}

-- A change before a tree settles gives the same as after, if it doesn't ask for what settling removes.
pub settle_nodes : (b : Tree) (ns ms : ℕ → Option Node) → ((n : ℕ) → (ns n ≡ ms n) ⊎ ((ns n ≡ None) × (is_live (ms n) ≡ false) × (is_named b n ≡ false))) → settle (with_nodes b ns) ≡ settle (with_nodes b ms)
unfolding settle is_named
settle_nodes b ns ms same = λ i. record b { nodes = λ n. each n (same n) i }
  where
    each : (n : ℕ) → (ns n ≡ ms n) ⊎ ((ns n ≡ None) × (is_live (ms n) ≡ false) × (is_named b n ≡ false)) → (if is_live (ns n) || is_named b n then ns n else None) ≡ (if is_live (ms n) || is_named b n then ms n else None)
    each n (inl e) = λ i. if is_live (e i) || is_named b n then e i else None
    each n (inr e) = rw (e.0, e.1, e.2) refl

-- what settling leaves at a number
pub settle_or : (t : Tree) (n : ℕ) → ((settle t).nodes n ≡ t.nodes n) ⊎ (((settle t).nodes n ≡ None) × (is_live (t.nodes n) ≡ false) × (is_named t n ≡ false))
unfolding settle
settle_or t n = pick (is_live (t.nodes n)) (is_named t n) refl refl
  where
    pick : (a b : Bool) → is_live (t.nodes n) ≡ a → is_named t n ≡ b → ((if is_live (t.nodes n) || is_named t n then t.nodes n else None) ≡ t.nodes n) ⊎ (((if is_live (t.nodes n) || is_named t n then t.nodes n else None) ≡ None) × (is_live (t.nodes n) ≡ false) × (is_named t n ≡ false))
    pick true b p q = inl (rw p refl)
    pick false true p q = inl (rw (p, q) refl)
    pick false false p q = inr (rw (p, q) refl, p, q)

-- What stays: what is live, named, or not there.

pub settle_alive : (t : Tree) (n : ℕ) → is_live (t.nodes n) ≡ true → (settle t).nodes n ≡ t.nodes n
settle_alive t n live = elim (settle_or t n) [ inl e ↦ e | inr e ↦ absurd (let a = e.1 in cc (a, live)) ]

pub settle_named : (t : Tree) (n : ℕ) → is_named t n ≡ true → (settle t).nodes n ≡ t.nodes n
settle_named t n named = elim (settle_or t n) [ inl e ↦ e | inr e ↦ absurd (let a = e.2 in cc (a, named)) ]

pub settle_none : (t : Tree) (n : ℕ) → t.nodes n ≡ None → (settle t).nodes n ≡ t.nodes n
settle_none t n none = elim (settle_or t n) [ inl e ↦ e | inr e ↦ e.0 ∙ sym none ]

directory_lives : (o : Option Node) → live_directory o ≡ true → is_live o ≡ true
directory_lives None h = h
directory_lives (Some v) h = (and_true (nat_lt 0 v.count) (is_directory v.kind) h).0

pub settle_live : (t : Tree) (d : ℕ) → live_directory (t.nodes d) ≡ true → (settle t).nodes d ≡ t.nodes d
settle_live t d live = settle_alive t d (directory_lives (t.nodes d) live)

-- a number that is no live directory becomes none
pub settle_dead : (t : Tree) (d : ℕ) → live_directory (t.nodes d) ≡ false → live_directory ((settle t).nodes d) ≡ false
settle_dead t d dead = elim (settle_or t d) [ inl e ↦ ap (λ (z : Option Node). live_directory z) e ∙ dead | inr e ↦ ap (λ (z : Option Node). live_directory z) e.0 ]

-- The rest of the tree stays.

pub with_settled : (b : Tree) (ns : ℕ → Option Node) → with_nodes (settle b) ns ≡ with_nodes b ns
unfolding settle
with_settled b ns = refl

pub settled_row : (t : Tree) (h : ℕ) → row_of (settle t) h ≡ row_of t h
unfolding settle
settled_row t h = refl

pub file_settled : (t : Tree) (h fd : ℕ) → file_at (settle t) h fd ≡ file_at t h fd
unfolding settle
file_settled t h fd = refl

pub settled_fds : (t : Tree) (h : ℕ) → (settle t).fds h ≡ t.fds h
unfolding settle
settled_fds t h = refl

as_nodes : (t : Tree) → settle (settle t) ≡ settle (with_nodes t (settle t).nodes)
unfolding settle
as_nodes t = refl

-- what has settled settles to itself
pub settle_again : (t : Tree) → settle t ≡ settle (settle t)
settle_again t = sym (as_nodes t ∙ settle_nodes t (settle t).nodes t.nodes (λ n. settle_or t n))

-- What no hart names.

pub record Unnamed (t : Tree) (n : ℕ) : Type 0 where
  pub cwd : (h : ℕ) → h < hart_count → (t.cwd h == n) ≡ false
  pub hold : (h : ℕ) → h < hart_count → hold_names (t.holds h) n ≡ false
  pub fds : (h i : ℕ) → h < hart_count → i < descriptor_count → fd_names t (t.fds h i) n ≡ false

abbrev pub hart_names : Tree → ℕ → ℕ → Bool
hart_names t n h = (t.cwd h == n) || (hold_names (t.holds h) n || any_below descriptor_count (λ i. fd_names t (t.fds h i) n))

pub unnamed : (t : Tree) (n : ℕ) → is_named t n ≡ false → Unnamed t n
unfolding is_named
unnamed t n none = record {
  cwd = λ h lt. (one h lt).0;
  hold = λ h lt. (two h lt).0;
  fds = λ h i lt li. any_none descriptor_count (λ j. fd_names t (t.fds h j) n) (two h lt).1 i li;
}
  where
    one : (h : ℕ) → h < hart_count → ((t.cwd h == n) ≡ false) × ((hold_names (t.holds h) n || any_below descriptor_count (λ i. fd_names t (t.fds h i) n)) ≡ false)
    one h lt = or_none (t.cwd h == n) (hold_names (t.holds h) n || any_below descriptor_count (λ i. fd_names t (t.fds h i) n)) (any_none hart_count (hart_names t n) none h lt)

    two : (h : ℕ) → h < hart_count → (hold_names (t.holds h) n ≡ false) × (any_below descriptor_count (λ i. fd_names t (t.fds h i) n) ≡ false)
    two h lt = or_none (hold_names (t.holds h) n) (any_below descriptor_count (λ i. fd_names t (t.fds h i) n)) (one h lt).1

pub is_unnamed : (t : Tree) (n : ℕ) → Unnamed t n → is_named t n ≡ false
unfolding is_named
is_unnamed t n u = none_any hart_count (hart_names t n) (λ h lt. rw (u.cwd h lt, u.hold h lt, none_any descriptor_count (λ i. fd_names t (t.fds h i) n) (λ i li. u.fds h i lt li)) refl)

-- What a hart names stays.

pub named_by : (t : Tree) (n h : ℕ) → h < hart_count → hart_names t n h ≡ true → is_named t n ≡ true
unfolding is_named
named_by t n h lt is = any_at hart_count (hart_names t n) h lt is

pub named_fd : (t : Tree) (h fd n : ℕ) → h < hart_count → fd < descriptor_count → fd_names t (t.fds h fd) n ≡ true → is_named t n ≡ true
named_fd t h fd n lt low is =
    let any : any_below descriptor_count (λ i. fd_names t (t.fds h i) n) ≡ true = any_at descriptor_count (λ i. fd_names t (t.fds h i) n) fd low is in
    named_by t n h lt (or_right (t.cwd h == n) (hold_names (t.holds h) n || any_below descriptor_count (λ i. fd_names t (t.fds h i) n)) (or_right (hold_names (t.holds h) n) (any_below descriptor_count (λ i. fd_names t (t.fds h i) n)) any))

pub named_hold : (t : Tree) (h n : ℕ) → h < hart_count → hold_names (t.holds h) n ≡ true → is_named t n ≡ true
named_hold t h n lt is = named_by t n h lt (or_right (t.cwd h == n) (hold_names (t.holds h) n || any_below descriptor_count (λ i. fd_names t (t.fds h i) n)) (or_left (hold_names (t.holds h) n) (any_below descriptor_count (λ i. fd_names t (t.fds h i) n)) is))

-- Fewer descriptors, or other open files that name no more: the tree settles as it would have.

abbrev pub with_open : Tree → (ℕ → ℕ → Option ℕ) → (ℕ → Option OpenFile) → Tree
with_open t X F = record t { fds = X; files = F }

abbrev pub NamesLess : Tree → (ℕ → ℕ → Option ℕ) → (ℕ → Option OpenFile) → Type 0
NamesLess t X F = (n g i : ℕ) → g < hart_count → i < descriptor_count → ((k j : ℕ) → k < hart_count → j < descriptor_count → fd_names t (t.fds k j) n ≡ false) → fd_names (with_open t X F) (X g i) n ≡ false

pub named_less : (t : Tree) (X : ℕ → ℕ → Option ℕ) (F : ℕ → Option OpenFile) → NamesLess t X F → (n : ℕ) → is_named t n ≡ false → is_named (with_open t X F) n ≡ false
named_less t X F less n none =
    let u = unnamed t n none in
    is_unnamed (with_open t X F) n (record { cwd = u.cwd; hold = u.hold; fds = λ g i lg li. less n g i lg li u.fds })

as_open : (t : Tree) (X : ℕ → ℕ → Option ℕ) (F : ℕ → Option OpenFile) → with_open (settle t) X F ≡ with_nodes (with_open t X F) (settle t).nodes
unfolding settle
as_open t X F = refl

pub settle_less : (t : Tree) (X : ℕ → ℕ → Option ℕ) (F : ℕ → Option OpenFile) → NamesLess t X F → settle (with_open t X F) ≡ settle (with_open (settle t) X F)
settle_less t X F less = sym (ap (λ (z : Tree). settle z) (as_open t X F) ∙ settle_nodes (with_open t X F) (settle t).nodes t.nodes (λ n. elim (settle_or t n) [
  | inl e ↦ inl e
  | inr e ↦ inr (e.0, e.1, named_less t X F less n e.2)
]))
