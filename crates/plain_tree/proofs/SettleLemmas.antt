-- Nodes that nothing keeps leave the tree one after another.
use Rattle.plain_tree.proofs.Vocabulary.{◌≡◌, ◌≢◌, ℕ, zero, suc, ◌+◌, ◌<◌, ◌≤◌, Bool, true, false, ◌||◌, ◌&&◌, not, ◌==◌, nat_lt, length, ◌⊎◌, inl, inr, refl, sym, ◌∙◌, ap, subst, arith, Option, Some, None, cond, fun_ext, get_or-eq_default, cases_eq, cases_Bool, nat_tests, Node, TreeData, Tree, tree_of, is_live, is_named, put, settle, with_nodes, is_lost, lost_of, settled_below}
use Rattle.plain_tree.proofs.TreeLemmas.{put_same, put_other}

pub named_with : (t : Tree) (ns : ℕ → Option Node) (n : ℕ) → is_named (with_nodes t ns) n ≡ is_named t n
unfolding is_named
named_with t ns n = refl

lt_true : (k n : ℕ) → k < n → nat_lt k n ≡ true
lt_true k n h = grind (arith, nat_tests)

lt_false : (k n : ℕ) → n ≤ k → nat_lt k n ≡ false
lt_false k n h = grind (arith, nat_tests)

cases_lt : (k n : ℕ) → (k < n) ⊎ (n ≤ k)
cases_lt k n = elim (cases_Bool (nat_lt k n)) [ inl y ↦ inl (grind (arith, nat_tests)) | inr y ↦ inr (grind (arith, nat_tests)) ]

live_or : (c : ℕ) (b : Bool) → ((c == 0) && not b) ≡ false → (nat_lt 0 c || b) ≡ true
live_or zero true h = refl
live_or zero false h = grind (arith, h)
live_or (suc c) b h = rw (lt_true 0 (suc c) (omega arith)) refl

dead_or : (c : ℕ) (b : Bool) → ((c == 0) && not b) ≡ true → (nat_lt 0 c || b) ≡ false
dead_or zero true h = grind (arith, h)
dead_or zero false h = refl
dead_or (suc c) b h = grind (arith, h)

none_both : (b : Bool) → cond {A = Option Node} b None None ≡ None
none_both true = refl
none_both false = refl

none_at : (t : Tree) (n : ℕ) → t.nodes n ≡ None → (settle t).nodes n ≡ None
unfolding settle
none_at t n h = rw h (none_both (is_named t n))

-- by whether the node that is there is lost
stays_of : (o : Option Node) (b : Bool) → lost_of o b ≡ false → cond (is_live o || b) o None ≡ o
stays_of None b h = none_both b
stays_of (Some v) b h = rw (live_or v.count b h) refl

goes_of : (o : Option Node) (b : Bool) → lost_of o b ≡ true → cond (is_live o || b) o None ≡ None
goes_of None b h = grind (arith, h)
goes_of (Some v) b h = rw (dead_or v.count b h) refl

kept_at : (t : Tree) (n : ℕ) → is_lost t n ≡ false → (settle t).nodes n ≡ t.nodes n
unfolding settle
kept_at t n h = stays_of (t.nodes n) (is_named t n) h

gone_at : (t : Tree) (n : ℕ) → is_lost t n ≡ true → (settle t).nodes n ≡ None
unfolding settle
gone_at t n h = goes_of (t.nodes n) (is_named t n) h

below_in : (n k : ℕ) (t : Tree) → k < n → (settled_below n t).nodes k ≡ (settle t).nodes k
below_in n k t h = rw (lt_true k n h) refl

below_out : (n k : ℕ) (t : Tree) → n ≤ k → (settled_below n t).nodes k ≡ t.nodes k
below_out n k t h = rw (lt_false k n h) refl

same_elsewhere : (n k : ℕ) (t : Tree) → k ≢ n → (settled_below n t).nodes k ≡ (settled_below (n + 1) t).nodes k
same_elsewhere n k t ne = elim (cases_lt k n) [
  | inl lt ↦ below_in n k t lt ∙ sym (below_in (n + 1) k t (omega arith))
  | inr ge ↦ below_out n k t ge ∙ sym (below_out (n + 1) k t (omega arith))
]

pub settle_kept : (n : ℕ) (t : Tree) → is_lost (settled_below n t) n ≡ false → settled_below n t ≡ settled_below (n + 1) t
settle_kept n t h =
    let kept : (settle t).nodes n ≡ t.nodes n = kept_at t n (rw (below_out n n t (omega arith), named_with t (settled_below n t).nodes n) at h) in
    ap (λ (f : ℕ → Option Node). with_nodes t f) (fun_ext (λ k. elim (cases_eq k n) [
      | inl e ↦ rw e (below_out n n t (omega arith) ∙ (sym kept ∙ sym (below_in (n + 1) n t (omega arith))))
      | inr ne ↦ same_elsewhere n k t ne
    ]))

pub settle_gone : (n : ℕ) (t : Tree) → is_lost (settled_below n t) n ≡ true → with_nodes (settled_below n t) (put (settled_below n t).nodes n None) ≡ settled_below (n + 1) t
settle_gone n t h =
    let gone : (settle t).nodes n ≡ None = gone_at t n (rw (below_out n n t (omega arith), named_with t (settled_below n t).nodes n) at h) in
    ap (λ (f : ℕ → Option Node). with_nodes t f) (fun_ext (λ k. elim (cases_eq k n) [
      | inl e ↦ put_same (settled_below n t).nodes n None k e ∙ rw e (sym gone ∙ sym (below_in (n + 1) n t (omega arith)))
      | inr ne ↦ put_other (settled_below n t).nodes n None k ne ∙ same_elsewhere n k t ne
    ]))

pub settle_none : (t : Tree) → settled_below 0 t ≡ t
settle_none t = ap (λ (f : ℕ → Option Node). with_nodes t f) (fun_ext (λ k. below_out 0 k t (omega arith)))

settled_as : (t : Tree) (f : ℕ → Option Node) → f ≡ (settle t).nodes → with_nodes t f ≡ settle t
unfolding settle
settled_as t f e = ap (λ (g : ℕ → Option Node). with_nodes t g) e

pub settle_all : (d : TreeData) → settled_below (length d.nodes) (tree_of d) ≡ settle (tree_of d)
settle_all d = settled_as (tree_of d) (settled_below (length d.nodes) (tree_of d)).nodes (fun_ext (λ k. elim (cases_lt k (length d.nodes)) [
  | inl lt ↦ below_in (length d.nodes) k (tree_of d) lt
  | inr ge ↦ below_out (length d.nodes) k (tree_of d) ge ∙ (get_or-eq_default d.nodes None ge ∙ sym (none_at (tree_of d) k (get_or-eq_default d.nodes None ge)))
]))

-- T: the tree after the nodes below n
pub step_kept : (T t : Tree) (n : ℕ) → T ≡ settled_below n t → is_lost T n ≡ false → T ≡ settled_below (n + 1) t
step_kept T t n is h = is ∙ settle_kept n t (let P : Tree → Type 0 = λ x. is_lost x n ≡ false in subst P is h)

pub step_gone : (T T' t : Tree) (n : ℕ) → T ≡ settled_below n t → T' ≡ with_nodes T (put T.nodes n None) → is_lost T n ≡ true → T' ≡ settled_below (n + 1) t
step_gone T T' t n is now h = now ∙ (ap (λ (x : Tree). with_nodes x (put x.nodes n None)) is ∙ settle_gone n t (let P : Tree → Type 0 = λ x. is_lost x n ≡ true in subst P is h))

pub settle_end : (T : Tree) (d : TreeData) (m n : ℕ) → T ≡ settled_below n (tree_of d) → m ≡ length d.nodes → m ≤ n → n ≤ m → T ≡ settle (tree_of d)
settle_end T d m n is e le ge =
    let last : n ≡ length d.nodes = omega arith in
    is ∙ (ap (λ (k : ℕ). settled_below k (tree_of d)) last ∙ settle_all d)
