-- Programs on the blocks as code has them: how one goes on with these answers, and whether it is at its end.
use Rattle.std.specs.Prelude.{◌≡◌, Bool, true, false, Option}
use Rattle.calls_on_blocks.proofs.Vocabulary.{sym, ◌∙◌, ap}
use Rattle.atomic_programs.specs.Prog.{Prog, Ret, Do, bind, plain}
use Rattle.fs_machine.specs.Steps as steps
use Rattle.fs_machine.specs.Controls.{Goes}

-- a program is at its end
abbrev pub at_end : {Op : Type 0} {Answer : Op → Type 0} {M A : Type 0} → Prog Op Answer M A → Bool
at_end (Ret a) = true
at_end (Do op m k) = false

-- ---- a program and what it is answered

abbrev pub Answers : Type 0
Answers = (o : steps.Op) → steps.Answer o

-- how it goes on with these answers
abbrev pub after : {M A : Type 0} → Answers → Prog steps.Op steps.Answer M A → Prog steps.Op steps.Answer M A
after answer (Ret a) = Ret a
after answer (Do o m k) = k (answer o)

after_bind : {A B : Type 0} (answer : Answers) (p q : Prog steps.Op steps.Answer ⊥ A) (f : A → Prog steps.Op steps.Answer ⊥ B) → Goes p answer q → after answer (bind p f) ≡ bind q f
after_bind answer (Ret a) q f g = absurd g
after_bind answer (Do o m k) q f g = ap (λ z. bind z f) g

-- so two programs that are one after the first operation go on as one
pub goes_same : {A B : Type 0} (answer : Answers) (p q : Prog steps.Op steps.Answer ⊥ A) (f g : A → Prog steps.Op steps.Answer ⊥ B) → bind p f ≡ bind p g → Goes p answer q → bind q f ≡ bind q g
goes_same answer p q f g same goes = sym (after_bind answer p q f goes) ∙ ap (after answer) same ∙ after_bind answer p q g goes

pub plain_goes : {M A B : Type 0} (answer : Answers) (left : Prog steps.Op steps.Answer M B) (op : steps.Op) (mark : steps.Answer op → Option M) (rest : steps.Answer op → Prog steps.Op steps.Answer M B)
    (p q : Prog steps.Op steps.Answer ⊥ A) (f : A → Prog steps.Op steps.Answer ⊥ B) → left ≡ Do op mark rest → plain left ≡ bind p f → Goes p answer q → plain (rest (answer op)) ≡ bind q f
plain_goes answer left op mark rest p q f asks_it is goes =
    ap (λ z. after answer (plain z)) (sym asks_it) ∙ ap (after answer) is ∙ after_bind answer p q f goes

-- ---- its end

abbrev value_or : {M A : Type 0} → A → Prog steps.Op steps.Answer M A → A
value_or a (Ret b) = b
value_or a (Do o m k) = a

no_end : {X : Type 0} → false ≡ true → X
no_end e = absurd cc

pub plain_end : {M A : Type 0} (p : Prog steps.Op steps.Answer M A) (a : A) → plain p ≡ Ret a → p ≡ Ret a
plain_end (Ret b) a e = ap (λ z. Ret (value_or b z)) e
plain_end (Do o m k) a e = no_end (ap at_end e)

pub same_end : {A : Type 0} (a b : A) → ◌≡◌ {A = Prog steps.Op steps.Answer ⊥ A} (Ret a) (Ret b) → a ≡ b
same_end a b e = ap (value_or a) e

pub goes_on_still : {M A : Type 0} (p : Prog steps.Op steps.Answer M A) (q : Prog steps.Op steps.Answer ⊥ A) → plain p ≡ q → at_end p ≡ at_end q
goes_on_still (Ret a) q e = ap at_end e
goes_on_still (Do o m k) q e = ap at_end e
