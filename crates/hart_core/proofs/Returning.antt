-- A call that replied in the first events has all its steps in their entries.
use Rattle.hart_core.proofs.Vocabulary.{◌≡◌, ℕ, ◌≤◌, ◌<◌, nat_lt, ◌==◌, Bool, true, false, List, [], ◌∷◌, Option, Some, refl, sym, ◌∙◌, ap, subst, if◌then◌else◌, arith, slice_get, eqb-true, nat_tests, Reply, Placed, Trace, TracedCall, Act, AllBelong, Belongs, IsInTime, act_of, acts_of, before, Some-inj}

module _ (t : Trace) (k id : ℕ) (c : TracedCall) (r : ℕ × Reply) (is : slice_get t.calls id ≡ Some c) (finished : c.finished ≡ Some r) (early : r.0 < k) where
  -- each of its entries is of an event before
  in_time : (e : Placed) → Belongs t e → e.call ≡ id → nat_lt e.event k ≡ true
  in_time e b same =
      let his : b.traced ≡ c = Some-inj b.traced c (sym b.is ∙ ap (slice_get t.calls) same ∙ is) in
      let low : e.event ≤ r.0 = subst (λ (o : Option (ℕ × Reply)). IsInTime t.events e.event o) (ap (λ (x : TracedCall). x.finished) his ∙ finished) b.before_return in
      grind (arith, nat_tests)

  pub returned : (list : List Placed) → AllBelong t list → acts_of id (before k list) ≡ acts_of id list
  unfolding acts_of AllBelong
  returned [] b = refl
  returned (e ∷ es) b = by (nat_lt e.event k) (e.call == id) refl refl (returned es b.1)
    where
      by : (kept his : Bool) → nat_lt e.event k ≡ kept → (e.call == id) ≡ his → acts_of id (before k es) ≡ acts_of id es
          → acts_of id (if kept then e ∷ before k es else before k es) ≡ (if his then act_of e ∷ acts_of id es else acts_of id es)
      by true true q i rest = (λ j. if i j then act_of e ∷ acts_of id (before k es) else acts_of id (before k es)) ∙ ap (λ (acts : List Act). act_of e ∷ acts) rest
      by true false q i rest = (λ j. if i j then act_of e ∷ acts_of id (before k es) else acts_of id (before k es)) ∙ rest
      by false true q i rest = absurd (let on : true ≡ false = sym (in_time e b.0 (eqb-true e.call id i)) ∙ q in cc)
      by false false q i rest = rest
