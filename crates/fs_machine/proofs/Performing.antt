-- What an operation says, by what its function of the core says.
use Rattle.fs_machine.proofs.Vocabulary.{◌≡◌, ℕ, List, refl, sym, subst, inl, Waits as ItWaits, Core, Passes, state_of, exec, Honest, Hand, Op, Answer, HandFits, op_in, Performs}
use Rattle.fs_machine.specs.declared.op.Performed.TheVariants.{Waits}

module _ {D : Type 0} (contents : D → List (List ℕ)) (failures : D → ℕ) (Called : D → D → Type 0) where
  -- one that waits
  pub waits : (hart : ℕ) (op : Op) (h : Hand) (told : Answer) (old new : Core D) → new ≡ old → HandFits hart (state_of contents failures old) h → exec hart Passes (op_in h op) (state_of contents failures old) ≡ ItWaits
      → Honest hart (op_in h op) (state_of contents failures old) Passes → Performs contents failures Called hart op h h told Waits old new
  waits hart op h told old new same fits ran honest =
      subst (λ (now : Core D). Performs contents failures Called hart op h h told Waits old now) (sym same)
      (record {
        ran = ran;
        kind = tt;
        honest = honest;
        still = (refl, refl);
        hand = tt;
        fits = fits;
        others = record { buffers = λ _ _ tied. tied; inodes = λ _ _ locked. locked };
        called = inl refl;
      })
