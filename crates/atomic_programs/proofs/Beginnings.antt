-- Lists that grow, and beginnings of a call's sequence.
use Rattle.atomic_programs.proofs.Vocabulary.{◌≡◌, List, [], ◌∷◌, ◌++◌, refl, sym, ◌∙◌, ap, subst, append_assoc, onto, oldest_first, BeginsWhole}

pub append_nil : {A : Type 0} (xs : List A) → xs ++ [] ≡ xs
append_nil [] = refl
append_nil (x ∷ xs) = ap (λ (z : List _). x ∷ z) (append_nil xs)

pub onto_is : {A : Type 0} (es ys : List A) → onto es ys ≡ oldest_first es ++ ys
onto_is [] ys = refl
onto_is {A} (e ∷ es) ys = onto_is es (e ∷ ys) ∙ sym (append_assoc (oldest_first es) (e ∷ []) ys) ∙ ap (λ (z : List A). z ++ ys) (sym (onto_is es (e ∷ [])))

-- one more is the last one, with the oldest first
pub oldest_first_more : {A : Type 0} (e : A) (es : List A) → oldest_first (e ∷ es) ≡ oldest_first es ++ e ∷ []
oldest_first_more e es = onto_is es (e ∷ [])

-- what begins a beginning is one
pub shorter : {Call Step Reply : Type 0} (Written : Call → List Step → Reply → Type 0) (call : Call) (xs ys : List Step) → BeginsWhole Written call (xs ++ ys) → BeginsWhole Written call xs
shorter {Call} {Step} Written call xs ys b = (ys ++ b.0, b.1, subst (λ (z : List Step). Written call z b.1) (append_assoc xs ys b.0) b.2)

-- and so is the whole
pub whole_begins : {Call Step Reply : Type 0} (Written : Call → List Step → Reply → Type 0) (call : Call) (es : List Step) (reply : Reply) → Written call es reply → BeginsWhole Written call es
whole_begins {Call} {Step} Written call es reply w = ([], reply, subst (λ (z : List Step). Written call z reply) (sym (append_nil es)) w)

-- a step less, with the newest first
pub one_less : {Call Step Reply : Type 0} (Written : Call → List Step → Reply → Type 0) (call : Call) (e : Step) (es : List Step) → BeginsWhole Written call (oldest_first (e ∷ es)) → BeginsWhole Written call (oldest_first es)
one_less Written call e es b = shorter Written call (oldest_first es) (e ∷ []) (subst (BeginsWhole Written call) (oldest_first_more e es) b)
