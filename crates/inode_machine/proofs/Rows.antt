-- What a hart names, through its own row and through its descriptors.
use Rattle.inode_machine.proofs.Vocabulary.{◌≡◌, inl, inr, ℕ, ◌<◌, true, false, ◌==◌, ◌||◌, nat_lt, Option, Some, None, refl, sym, ◌∙◌, ap, arith, nat_tests, Node, OpenFile, hart_count, descriptor_count, any_below, hold_names, fd_names, file_names, is_live, key_names, row_of, eq_is, either, or_none, none_any, is_at, World, own_names, key_in, id_at, Inv}
use Rattle.inode_machine.proofs.Rules.{opens_slots}
pub use Rattle.plain_tree.proofs.RowLemmas.{row_key}

pub below_is : (a b : ℕ) → a < b → nat_lt a b ≡ true
below_is a b lt = grind (arith, nat_tests)

pub unlive : (o : Option Node) → o ≡ None → is_live o ≡ false
unlive o e = ap (λ (z : Option Node). is_live z) e

pub is_at_some : (o : Option ℕ) (j : ℕ) → is_at o j ≡ true → o ≡ Some j
is_at_some None j e = absurd cc
is_at_some (Some k) j e = ap (λ (z : ℕ). Some z) (eq_is k j e)

-- a descriptor of the tree names nothing that no open file of the table has, and that the hart doesn't name itself
fd_not : (g j i : ℕ) (v : World) → Inv v → g < hart_count → j < descriptor_count → v.slots i ≡ 0 → key_names (key_in (row_of v.all g).keys (v.desks g).opening) i ≡ false → fd_names v.all (v.all.fds g j) i ≡ false
fd_not g j i v inv lg lj zero own = elim (either (is_at (v.desks g).opening j)) [
  | inl y ↦
      let o = is_at_some (v.desks g).opening j y in
      sym (row_key v.all g j i lg lj) ∙ ap (λ (z : Option ℕ). key_names (key_in (row_of v.all g).keys z) i) (sym o) ∙ own
  | inr y ↦ go ((v.desks g).fds j) refl (inv.tied.fds g j lg lj y)
]
  where
    go : (o : Option ℕ) → (v.desks g).fds j ≡ o → v.all.fds g j ≡ id_at v.ids o → fd_names v.all (v.all.fds g j) i ≡ false
    go None q e = ap (λ (z : Option ℕ). fd_names v.all z i) e
    go (Some k) q e =
        let u = inv.tied.used g j k lg lj q in
        let f = inv.tied.files k u.0 u.1 in
        let s : fd_names v.all (v.all.fds g j) i ≡ (u.0.file.number == i) = ap (λ (z : Option ℕ). fd_names v.all z i) e ∙ ap (λ (z : Option OpenFile). file_names z i) f in
        elim (either (u.0.file.number == i)) [
          | inr n ↦ s ∙ n
          | inl n ↦ absurd (let p = opens_slots v g i inv (record { fd = j; below = lj; slot = k; is = q; entry = u.0; at = u.1; number = eq_is u.0.file.number i n }) in omega (arith, p, zero))
        ]

pub hart_not : (g i : ℕ) (v : World) → Inv v → g < hart_count → v.slots i ≡ 0 → own_names (row_of v.all g) (v.desks g) i ≡ false
    → ((v.all.cwd g == i) || (hold_names (v.all.holds g) i || any_below descriptor_count (λ j. fd_names v.all (v.all.fds g j) i))) ≡ false
hart_not g i v inv lg zero own =
    let one = or_none (v.all.cwd g == i) (hold_names (v.all.holds g) i || (key_names (key_in (row_of v.all g).keys (v.desks g).opening) i || is_at (v.desks g).left i)) own in
    let two = or_none (hold_names (v.all.holds g) i) (key_names (key_in (row_of v.all g).keys (v.desks g).opening) i || is_at (v.desks g).left i) one.1 in
    let key = or_none (key_names (key_in (row_of v.all g).keys (v.desks g).opening) i) (is_at (v.desks g).left i) two.1 in
    let three : any_below descriptor_count (λ j. fd_names v.all (v.all.fds g j) i) ≡ false = none_any descriptor_count _ (λ j lj. fd_not g j i v inv lg lj zero key.0) in
    rw (one.0, two.0, three) refl
