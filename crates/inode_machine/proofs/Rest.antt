-- A world at rest meets the invariant, also one with orphans.
use Rattle.inode_machine.proofs.Vocabulary.{◌≡◌, inl, inr, ℕ, ◌<◌, true, false, ◌==◌, ◌||◌, Option, Some, None, refl, sym, ◌∙◌, ap, arith, hart_count, Node, NodeKind, Directory, File, Device, Tree, is_directory, hold_names, row_of, Hold, holds_raised, one_if, IsWellFormed, eq_self, either, sum_none, one_yes, OfDirectory, type_of, type_of_kind, file_count, at_rest, number_is, own_names, Inv, Idle}
use Rattle.inode_machine.proofs.Counting.{one_most}

-- a current directory is one
pub type_of_directory : (t : Tree) (g : ℕ) → IsWellFormed t → g < hart_count → type_of (t.nodes (t.cwd g)) ≡ Some OfDirectory
type_of_directory t g well lt = let d = well.directories g lt in ap (λ (z : Option Node). type_of z) d.is ∙ directory_of d.node.kind d.inode_type
  where
    directory_of : (k : NodeKind) → is_directory k ≡ true → Some (type_of_kind k) ≡ Some OfDirectory
    directory_of (Directory slots) e = refl
    directory_of (File bytes) e = absurd cc
    directory_of (Device major minor size) e = absurd cc

pub rests : (t : Tree) → IsWellFormed t → ((id : ℕ) → t.files id ≡ None) → ((h : ℕ) → t.holds h ≡ None) → ((h i : ℕ) → t.fds h i ≡ None) → Inv (at_rest t)
rests t well files holds fds =
    record {
      well = well;
      ids = λ k le. files k;
      whole = λ i e. refl;
      quiet = λ i g e. absurd cc;
      keeps = λ i g e. absurd cc;
      kept = λ i g e. absurd cc;
      held = λ i g e. absurd cc;
      alone = λ i e. absurd cc;
      counts = λ i. omega arith;
      tied = record {
        fds = λ g i lg li e. fds g i;
        fresh = λ g i lg e. absurd cc;
        used = λ g i k lg li e. absurd cc;
        lends = λ g i k lg li e. absurd cc;
        hand = λ g k lg e. absurd cc;
        hands = λ g j k lg lj e. absurd cc;
        within = λ k e q. absurd cc;
        files = λ k e q. absurd cc;
        apart = λ k l e f p q r. absurd cc;
        counted = λ k e q. absurd cc;
        slots = λ n. sym (sum_none file_count (λ k. number_is None n) (λ k lk. refl));
        spoiled = λ g q. absurd cc;
      };
      inode_types = λ k e q. absurd cc;
      named = λ g i lt free is. inl (here g i (cwd g i lt is));
      pending = λ g i lt e. absurd cc;
      walks = λ g k lt e. absurd cc;
      noted = λ g n lt e. absurd cc;
      refers = λ g lt. record { few = λ i. let a = one_most (t.cwd g == i) in omega (arith, a); home = here g (t.cwd g) (eq_self (t.cwd g)) };
      directory = λ g lt. record { at = λ _. refl; inode_type = type_of_directory t g well lt };
      raised = λ g lt q. absurd (let a = ap (λ (o : Option Hold). holds_raised true o) (holds g) in cc (a, q));
      lent = λ g c lt is. absurd cc;
      serves = λ c g lt is. absurd cc;
    }
  where
    here : (g i : ℕ) → (t.cwd g == i) ≡ true → 0 < one_if (t.cwd g == i)
    here g i e = let a = one_yes (t.cwd g == i) e in omega (arith, a)

    cwd : (g i : ℕ) → g < hart_count → own_names (row_of t g) ((at_rest t).desks g) i ≡ true → (t.cwd g == i) ≡ true
    cwd g i lt is = elim (either (t.cwd g == i)) [
      | inl y ↦ y
      | inr y ↦ absurd (let e : own_names (row_of t g) ((at_rest t).desks g) i ≡ false = (λ z. (y z) || (hold_names (holds g z) i || false)) in cc (e, is))
    ]

-- every hart rests
pub idle_at_rest : (t : Tree) → ((h : ℕ) → t.holds h ≡ None) → (h : ℕ) → Idle h (at_rest t)
idle_at_rest t holds h = record { inodes = refl; refs = λ i. refl; walk = refl; pending = refl; hold = holds h; hand = refl; joined = refl; lent = refl; opening = refl; left = refl; noted = refl }
