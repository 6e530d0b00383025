use Rattle.image_tree.proofs.Lemmas.{◌≡◌, ◌≤◌, ◌↔◌, ◌∙◌, ℕ, Bool, true, false, List, [], ◌∷◌, length, get_or, nat_lt, sym, subst, arith, IsTrue, All, get_or_past, both_ways, false≢true, le-ltb, slot_number}
use Rattle.image_tree.proofs.entries.names_node.Goals as goal

-- a number past the table's end is no node's
past_table : (nodes : List Bool) (numbers : List ℕ) (n : ℕ) → n ∷ [] ≡ numbers → length nodes ≤ n
    → IsTrue (nat_lt n (length nodes)) ↔ All (λ k. get_or nodes k false ≡ true) numbers
past_table nodes numbers n is past = (
  λ yes. absurd (both_ways _ (le-ltb n (length nodes) past) yes),
  λ all.
      let here : All (λ k. get_or nodes k false ≡ true) (n ∷ []) = subst (λ (xs : List ℕ). All (λ k. get_or nodes k false ≡ true) xs) (sym is) all in
      absurd (false≢true (sym (get_or_past nodes n false past) ∙ here 0 0 (omega arith))),
)

pub returns-else-n-nodes : goal.returns-else-n-nodes
returns-else-n-nodes c = past_table c.args.nodes.now (slot_number c.args.slot.now) c.in-Some.n c.in-Some.ensures c.if-n-nodes.false
