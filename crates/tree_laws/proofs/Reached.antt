-- Each live node has a path from the root.
use Rattle.tree_laws.proofs.Vocabulary.{◌≡◌, ℕ, zero, suc, ◌<◌, ◌≤◌, true, ◌==◌, inl, inr, sym, ◌∙◌, ap, subst, arith, [], ◌∷◌, ◌++◌, drop, Option, Some, None, nat_tests, Slot, Node, root, Name, Tree, same_name, dot, dotdot, first_slot, is_live, look, IsReached, Slots, Folders, folder, folders_of, links_in, links_of, up_in, past, sum_below, one_if, count_in, mentions, raises, NamesOnce, IsForest, IsWellFormed}
use Rattle.tree_laws.proofs.Basics.{either, same_or, eq_is, one_no, count_nil, same_is, same_self, slot_here, slot_past, slot_none, Dots, plain_or, follow_on, follow_end, follow_one}
use Rattle.tree_laws.proofs.Frames.{look_by}

-- a sum has a term
sum_some : (n : ℕ) (f : ℕ → ℕ) → 1 ≤ sum_below n f → (k : ℕ) × (k < n) × (1 ≤ f k)
unfolding sum_below
sum_some zero f h = absurd (omega (arith, h))
sum_some (suc n) f h = elim (same_or (f n) 0) [
  | inr ne ↦ (n, omega arith, omega (arith, ne))
  | inl e ↦ let ih = sum_some n f (omega (arith, h, e)) in (ih.0, (let l = ih.1 in omega (arith, l)), ih.2)
]

-- if each name is there once, a later slot is found under its name
named_later : (s : Slot) (ss : Slots) (e : Name) (n : ℕ) → first_slot ss s.name ≡ None → first_slot ss e ≡ Some n → first_slot (Some s ∷ ss) e ≡ Some n
named_later s ss e n none found = elim (either (same_name s.name e)) [
  | inr y ↦ slot_past s ss e y ∙ found
  | inl y ↦ absurd (let z : first_slot ss e ≡ None = subst (λ (x : Name). first_slot ss x ≡ None) (same_is s.name e y) none in cc (z, found))
]

named_in : (ss : Slots) (n : ℕ) → NamesOnce ss → 1 ≤ count_in ss n → (e : Name) × (first_slot ss e ≡ Some n)
unfolding NamesOnce count_in
named_in [] n o h = absurd (omega (arith, h))
named_in (None ∷ ss) n o h = let ih = named_in ss n o (omega (arith, h)) in (ih.0, slot_none ss ih.0 ∙ ih.1)
named_in (Some s ∷ ss) n o h =
    let ih = named_in ss n o.1 in
    elim (either (s.number == n)) [
      | inl y ↦ (s.name, slot_here s ss s.name (same_self s.name) ∙ ap (λ (z : ℕ). Some z) (eq_is s.number n y))
      | inr y ↦ let c : one_if (s.number == n) ≡ 0 = one_no (s.number == n) y in let q = ih (omega (arith, h, c)) in (q.0, named_later s ss q.0 n o.0 q.1)
    ]

dots_named : (d up n : ℕ) (rest : Slots) → NamesOnce (Dots d up rest) → 1 ≤ count_in rest n → (e : Name) × (first_slot (Dots d up rest) e ≡ Some n)
unfolding NamesOnce
dots_named d up n rest o h =
    let q = named_in rest n o.1.1 h in
    (q.0, named_later (record { name = dot; number = d }) (Some (record { name = dotdot; number = up }) ∷ rest) q.0 n o.0 (named_later (record { name = dotdot; number = up }) rest q.0 n o.1.0 q.1))

-- an entry of a directory that is reached
entry_reached : (t : Tree) (D : ℕ → ℕ) (d n : ℕ) (ss : Slots) → IsForest (folders_of t.nodes) (links_in t.nodes) (raises t.holds) t.ninodes D → folder (t.nodes d) ≡ Some ss → 1 ≤ count_in (drop 2 ss) n → IsReached t d → IsReached t n
entry_reached t D d n ss f is some r =
    let k = f.directory d ss is in
    let q = dots_named d (up_in ss) n (drop 2 ss) (subst (λ (z : Slots). NamesOnce z) k.dots k.once) some in
    let found : look t.nodes d q.0 ≡ Some n = look_by t.nodes d q.0 ss (Some n) is (ap (λ (z : Slots). first_slot z q.0) k.dots ∙ q.1) in
    (r.0 ++ q.0 ∷ [], follow_on t.nodes root d r.0 (q.0 ∷ []) r.1 ∙ follow_one t.nodes d q.0 (Some n) found)

folder_reached : (t : Tree) (D : ℕ → ℕ) (k d : ℕ) (ss : Slots) → IsForest (folders_of t.nodes) (links_in t.nodes) (raises t.holds) t.ninodes D → folder (t.nodes d) ≡ Some ss → D d < k → IsReached t d
folder_reached t D zero d ss f is lt = absurd (omega (arith, lt))
folder_reached t D (suc k) d ss f is lt =
    let ih = folder_reached t D k in
    elim (same_or d root) [
      | inl e ↦ subst (λ (z : ℕ). IsReached t z) (sym e) ([], follow_end t.nodes root)
      | inr ne ↦
          let mine = f.directory d ss is in
          let place = mine.place ne in
          elim (plain_or (folder (t.nodes (up_in ss)))) [
            | inl none ↦ absurd (mine.above none)
            | inr some ↦
                let low = place.2 in
                let named : count_in (drop 2 some.0) d ≡ 1 = sym (ap (λ (o : Option Slots). count_in (past o) d) some.1) ∙ place.1 in
                entry_reached t D (up_in ss) d some.0 f some.1 (omega (arith, named)) (ih (up_in ss) some.0 f some.1 (omega (arith, low, lt)))
          ]
    ]

mentioned : (F : Folders) (N n : ℕ) → 1 ≤ mentions F N n → (d : ℕ) × (ss : Slots) × (F d ≡ Some ss) × (1 ≤ count_in (drop 2 ss) n)
unfolding mentions
mentioned F N n h =
    let q = sum_some N (λ d. count_in (past (F d)) n) h in
    elim (plain_or (F q.0)) [
      | inl none ↦ absurd (let z : count_in (past (F q.0)) n ≡ 0 = ap (λ (o : Option Slots). count_in (past o) n) none ∙ count_nil n in let y = q.2 in omega (arith, z, y))
      | inr some ↦ (q.0, some.0, some.1, subst (λ (o : Option Slots). 1 ≤ count_in (past o) n) some.1 q.2)
    ]

live_links : (o : Option Node) → is_live o ≡ true → 1 ≤ links_of o
live_links None h = absurd cc
live_links (Some v) h = grind (arith, nat_tests)

-- Each live node that no raised hold names has a path from the root.
pub reached : (t : Tree) (n : ℕ) → IsWellFormed t → is_live (t.nodes n) ≡ true → raises t.holds n ≡ 0 → IsReached t n
reached t n k live held = elim (plain_or (folder (t.nodes n))) [
  | inr some ↦ folder_reached t k.depth (suc (k.depth n)) n some.0 k.forest some.1 (omega arith)
  | inl none ↦
      let o = k.forest.other n none in
      let l = live_links (t.nodes n) live in
      let m = mentioned (folders_of t.nodes) t.ninodes n (omega (arith, o, l, held)) in
      entry_reached t k.depth m.0 n m.1 k.forest m.2 m.3 (folder_reached t k.depth (suc (k.depth m.0)) m.0 m.1 k.forest m.2 (omega arith))
]
