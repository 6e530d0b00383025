-- What a test says, if its answer is known.
use Rattle.image_tree.proofs.Vocabulary.{◌↔◌, true, false, IsTrue, IsFalse, refl, false≢true, true≢false}

pub held : (P : Type 0) → P → IsTrue true ↔ P
held P p = (λ _. p, λ _. refl)

pub refuted : (P : Type 0) → (P → ⊥) → IsTrue false ↔ P
refuted P not_so = (λ f. absurd (false≢true f), λ p. absurd (not_so p))

-- of a test whose answer is false if the fact holds
pub caught : (P : Type 0) → (P → ⊥) → IsFalse true ↔ P
caught P not_so = (λ f. absurd (true≢false f), λ p. absurd (not_so p))
