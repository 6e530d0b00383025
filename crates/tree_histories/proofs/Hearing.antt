-- A call starts, and goes on.
use Rattle.tree_histories.proofs.Vocabulary.{◌≡◌, ℕ, true, Option, Some, None, refl, sym, ◌∙◌, ap, subst, Call, Heard, HasHeard, HasStarted, HearsSo, HeardBy, IsNewCall, KeptTree, Under, counted, hart_in, passed, with_hart}
use Rattle.tree_histories.proofs.Harts.{put_twice}

module _ (k k1 k' : KeptTree) (h : ℕ) (u : Under) (is : hart_in k h ≡ Some u) (taken : k1 ≡ with_hart k h None) where
  put_so : (o : Option Under) → k' ≡ with_hart k1 h o → k' ≡ with_hart k h o
  put_so o kept = kept ∙ (ap (λ (x : KeptTree). with_hart x h o) taken ∙ put_twice k h None o)

  pub heard_on : (x : Heard) (o : Option Under) → HearsSo k.version u x o → k' ≡ with_hart k1 h o → HasHeard k h (Some x) k'
  heard_on x o goes kept = record { under = o; hears = subst (λ (p : Option Under). HeardBy k.version p (Some x) o) (sym is) goes; kept = put_so o kept }

  pub heard_begun : k' ≡ with_hart k1 h (Some (record u { has_begun = true })) → HasHeard k h None k'
  heard_begun kept = record {
    under = Some (record u { has_begun = true });
    hears = subst (λ (p : Option Under). HeardBy k.version p None (Some (record u { has_begun = true }))) (sym is) refl;
    kept = put_so (Some (record u { has_begun = true })) kept;
  }

pub started_so : (k k1 k' : KeptTree) (h : ℕ) (c : Call) (u : Under) → IsNewCall k.version k.calls c u → k1 ≡ with_hart k h (Some u)
    → k' ≡ passed (record k1 { calls = counted k1.calls }) → HasStarted k h c k'
started_so k k1 k' h c u fresh put kept = record { under = u; fresh = fresh; kept = kept ∙ ap (λ (x : KeptTree). passed (record x { calls = counted x.calls })) put }
