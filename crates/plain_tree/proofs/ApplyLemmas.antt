-- A step, from the parts that the code found.
use Rattle.plain_tree.proofs.Vocabulary.{◌≡◌, Version, ℕ, ◌<◌, ◌≤◌, true, false, nat_lt, refl, arith, Option, nat_tests, BadDescriptor, Action, Open, Truncate, Read, WritePart, Find, Bump, Enter, Unbump, Unlink, Mkdir, Chdir, Dup, Close, Fstat, Inherit, TreeStep, StepAnswer, Failed, Name, Tree, place_of, makes_node, out_of_place, IsAppliedAtWith}

hart_true : (h : ℕ) → h < 8 → nat_lt h 8 ≡ true
hart_true h lt = grind (arith, nat_tests)

hart_false : (h : ℕ) → 8 ≤ h → nat_lt h 8 ≡ false
hart_false h le = grind (arith, nat_tests)

pub no_hart : (v : Version) (t : Tree) (s : TreeStep) (res : Option ℕ) (par : Option (ℕ × Name)) (id : ℕ) → 8 ≤ s.hart → IsAppliedAtWith v t s res par id (Failed BadDescriptor) t
no_hart v t s res par id le = record {
  is = rw (hart_false s.hart le) refl;
  chosen = λ b. absurd (omega (arith, b.hart, le));
}

-- what is out of its place makes no node
placeless : (t : Tree) (h : ℕ) (a : Action) (par : Option (ℕ × Name)) → place_of t h a ≡ false → makes_node t a par ≡ true → ⊥
unfolding place_of
placeless t h (Open path flags) par p m = absurd cc
placeless t h (Truncate fd) par p m = absurd cc
placeless t h (Read fd n) par p m = absurd cc
placeless t h (WritePart fd b) par p m = absurd cc
placeless t h (Find old) par p m = absurd cc
placeless t h Bump par p m = absurd cc
placeless t h (Enter name) par p m = absurd cc
placeless t h Unbump par p m = absurd cc
placeless t h (Unlink path) par p m = absurd cc
placeless t h (Mkdir path) par p m = absurd cc
placeless t h (Chdir path) par p m = absurd cc
placeless t h (Dup fd) par p m = absurd cc
placeless t h (Close fd) par p m = absurd cc
placeless t h (Fstat fd) par p m = absurd cc
placeless t h (Inherit child) par p m = absurd cc

pub no_place : (v : Version) (t : Tree) (s : TreeStep) (res : Option ℕ) (par : Option (ℕ × Name)) (id : ℕ) (a : StepAnswer) → s.hart < 8 → place_of t s.hart s.action ≡ false → a ≡ out_of_place s.action → IsAppliedAtWith v t s res par id a t
no_place v t s res par id a lt p e = record {
  is = rw (hart_true s.hart lt, p, e) refl;
  chosen = λ b. placeless t s.hart s.action par p b.makes;
}
