-- The law of blocks given back.
use Rattle.inodes_on_blocks.proofs.Vocabulary.{◌≡◌, ℕ, ◌+◌, true, List, [], ◌∷◌, ◌++◌, length, ◌*◌, Option, Some, None, inl, inr, refl, sym, ◌∙◌, ap, subst, arith, Super, has, eq_is, eq_self, NamesOwned, Machine, P, Wp, onto, Prog, Ret, Do, bind, Both, joined, Wp-more, free_block, free_numbers, Desk, Held, view, above_own as own_of, is_hart, has_inode, kept_here, World, log_of, disk_of, Kept, below, whole, alone, Done, IsChanging, Spent, HasSpent, Gave, GaveBlocks, Owns, BlocksAreGivenBack, NumbersAreGivenBack}
use Rattle.inode_machine.specs.World as above
use Rattle.inode_machine.specs.Rules.{Own}
use Rattle.inodes_on_blocks.proofs.Basics.{kept_same, alone_laws, alone_keeps, spent_gives}
use Rattle.inodes_on_blocks.proofs.PutSteps.{s-give}
use Rattle.inodes_on_blocks.proofs.Emptying.{none_yet, s-numbers}

-- ---- what the others leave

pub record Changing (h n : ℕ) (fs : List Done) (g : above.World) : Type 0 where
  pub none : fs ≡ []
  pub is : IsChanging h n g
  pub keeps : g.keeper n ≡ Some h
  pub free : (g.desks h).lender ≡ None

has_lock : (o : Option ℕ) (h : ℕ) → is_hart o h ≡ true → o ≡ Some h
has_lock None h e = absurd (cc e)
has_lock (Some g) h e = ap (λ (z : ℕ). Some z) (eq_is g h e)

is_locked : (o : Option ℕ) (h : ℕ) → o ≡ Some h → is_hart o h ≡ true
is_locked o h e = ap (λ (z : Option ℕ). is_hart z h) e ∙ eq_self h

pub stays : (h n : ℕ) (xs fs : List Done) (g u : above.World) → (xs ≡ []) × Kept h g u → Changing h n fs g → Changing h n (onto xs fs) u
stays h n xs fs g u o c =
    let same = o.1.same c.free in
    let desk = ap (λ (z : Own). z.desk) same in
    let there = has_inode h n u (own_of h g) (view g h n) same (kept_here h (g.keeper n) (view g h n) c.keeps) in
    record {
      none = subst (λ (ys : List Done). onto ys fs ≡ []) (sym o.0) c.none;
      is = record {
        lock = has_lock (u.lock n) h (ap (λ (x : Held). x.locked) there.1 ∙ is_locked (g.lock n) h c.is.lock);
        joined = ap (λ (d : Desk). d.joined) desk ∙ c.is.joined;
      };
      keeps = there.0;
      free = ap (λ (d : Desk). d.lender) desk ∙ c.free;
    }

-- ---- the law

-- a program with nothing after it but its end is that program
pub bind-end : {Op : Type 0} {Answer : Op → Type 0} {M A : Type 0} (p : Prog Op Answer M A) → bind p (λ a. Ret a) ≡ p
bind-end (Ret a) = refl
bind-end (Do op m k) = λ i. Do op m (λ a. bind-end (k a) i)

abbrev M : Super → Machine
M sizes = joined (whole sizes.version) (below sizes)

-- what holds at its end
abbrev Ends : (sizes : Super) (h n b : ℕ) → Spent → Both World above.World → Unit {0} → List Done → Both World above.World → Type 0
Ends sizes h n b s w a es x = (es ≡ []) × Gave h n b (IsChanging h n) w x × HasSpent sizes h s x.real

pub blocks_are_given_back : BlocksAreGivenBack
blocks_are_given_back sizes h n b s w lt is keeps free mine block own few untouched has few_spent spent =
    subst (λ (p : P (M sizes) (Unit {0})). Wp (M sizes) h (λ es. es ≡ []) (Ends sizes h n b s w) p 3 [] w) (bind-end (free_block sizes.bmapstart b))
    (s-give sizes alone (alone_laws sizes.version) alone_keeps h lt (λ es. es ≡ []) (Ends sizes h n b s w) (Changing h n) (λ fs xs g u o i c. (λ y. inl o.0, stays h n xs fs g u o c)) n (λ fs g c i. c.is) b block
    (HasSpent sizes h s) (HasSpent sizes h s) (spent_gives sizes h sizes.bmapstart s (inr (has, refl)) few_spent) (λ a. Ret a) 0 [] w (record { none = refl; is = is; keeps = keeps; free = free }) few untouched spent.0 mine own spent
    (λ x gs gave left. (gave.stage.none, record { since = gave.since; kept = gave.kept; shows = gave.shows; inv = gave.inv; stage = gave.stage.is; held = gave.held }, left)))

abbrev AllGone : (sizes : Super) (h n : ℕ) → Spent → Both World above.World → Unit {0} → List Done → Both World above.World → Type 0
AllGone sizes h n s w a es x =
    (es ≡ []) × IsChanging h n x.seen × Kept h w.seen x.seen × GaveBlocks h n w.real x.real × NamesOwned (disk_of (log_of x.real)) x.real.owner n [] × HasSpent sizes h s x.real

pub numbers_are_given_back : NumbersAreGivenBack
numbers_are_given_back sizes h n numbers s w lt is keeps free mine owns named few untouched has few_spent spent =
    Wp-more (M sizes) h (free_numbers sizes.bmapstart numbers (Ret (tt {0}))) (λ es. es ≡ []) (AllGone sizes h n s w) (3 * length numbers + 0) (3 * length numbers) [] w (omega arith)
    (s-numbers sizes alone (alone_laws sizes.version) alone_keeps h lt (λ es. es ≡ []) (AllGone sizes h n s w) (Changing h n) (λ fs xs g u o i c. (λ y. inl o.0, stays h n xs fs g u o c)) n (λ fs g c i. c.is)
    (λ more. HasSpent sizes h s) (λ more. spent_gives sizes h sizes.bmapstart s (inr (has, refl)) few_spent) (λ more v known. known) w numbers [] (Ret (tt {0})) 0 [] w
    (record {
      stage = record { none = refl; is = is; keeps = keeps; free = free };
      since = none_yet h n w.real mine;
      kept = kept_same h w.seen;
      few = few;
      free = untouched;
      at = spent.0;
      owns = subst (Owns sizes w.real.owner n) (sym (no_more numbers)) owns;
      named = subst (NamesOwned (disk_of (log_of w.real)) w.real.owner n) (sym (no_more numbers)) named;
      knows = spent;
    })
    (λ x gs left. (left.stage.none, left.stage.is, left.kept, left.since, left.named, left.knows)))
  where
    no_more : (xs : List ℕ) → xs ++ [] ≡ xs
    no_more [] = refl
    no_more (x ∷ xs) = λ i. x ∷ no_more xs i
