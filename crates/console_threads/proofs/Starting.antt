-- The calls that a hart was asked to start, event after event.
use Rattle.console_threads.proofs.Vocabulary.{◌≡◌, ℕ, ◌+◌, ◌<◌, ◌≤◌, List, [], ◌∷◌, ◌++◌, length, drop, get_or, ap, sym, ◌∙◌, arith, length-drop, ◌↔◌, ◌≢◌, at_drop_all, at_drop_more, Event, Call, started_by, starts_in}

module _ (hart : ℕ) (events : List Event) (asked : List Call) where
  -- the rest of the events starts the rest of the calls
  abbrev pub Left : ℕ → ℕ → Type 0
  Left i seen = starts_in hart (drop i events) ≡ drop seen asked

  at : (i : ℕ) (event : Event) → i < length events → event ≡ get_or events i event → starts_in hart (drop i events) ≡ started_by hart event ++ starts_in hart (drop (i + 1) events)
  unfolding starts_in
  at i event lt is = at_drop_more (λ es. starts_in hart es) events i event lt ∙ ap (λ e. started_by hart e ++ starts_in hart (drop (i + 1) events)) (sym is)

  -- an event that starts none
  pub passed : (i seen : ℕ) (event : Event) → i < length events → event ≡ get_or events i event → started_by hart event ≡ [] → Left i seen ↔ Left (i + 1) seen
  passed i seen event lt is none =
      let same : starts_in hart (drop i events) ≡ starts_in hart (drop (i + 1) events) = at i event lt is ∙ ap (λ cs. cs ++ starts_in hart (drop (i + 1) events)) none in
      (λ left. sym same ∙ left, λ left. same ∙ left)

  split : (i : ℕ) (event : Event) (call : Call) → i < length events → event ≡ get_or events i event → started_by hart event ≡ call ∷ [] → starts_in hart (drop i events) ≡ call ∷ starts_in hart (drop (i + 1) events)
  split i event call lt is one = at i event lt is ∙ ap (λ cs. cs ++ starts_in hart (drop (i + 1) events)) one

  next : (seen : ℕ) (wanted : Call) → seen < length asked → wanted ≡ get_or asked seen wanted → drop seen asked ≡ wanted ∷ drop (seen + 1) asked
  next seen wanted lt is = at_drop_more (λ cs. cs) asked seen wanted lt ∙ ap (λ c. c ∷ drop (seen + 1) asked) (sym is)

  -- one that starts the next call
  pub took : (i seen : ℕ) (event : Event) (call wanted : Call) → i < length events → event ≡ get_or events i event → started_by hart event ≡ call ∷ [] → seen < length asked → wanted ≡ get_or asked seen wanted → call ≡ wanted → Left i seen ↔ Left (i + 1) (seen + 1)
  took i seen event call wanted lt is one within there same =
      let here = split i event call lt is one in
      let want = next seen wanted within there in
      (λ left. ap (drop 1) (sym here ∙ left ∙ want), λ left. here ∙ (λ j. same j ∷ left j) ∙ sym want)

  -- one that starts another call
  pub differs : (i seen : ℕ) (event : Event) (call wanted : Call) → i < length events → event ≡ get_or events i event → started_by hart event ≡ call ∷ [] → seen < length asked → wanted ≡ get_or asked seen wanted → call ≢ wanted → Left i seen → ⊥
  differs i seen event call wanted lt is one within there other left = other (ap (λ cs. get_or cs 0 call) (sym (split i event call lt is one) ∙ left ∙ next seen wanted within there))

  -- one that starts a call more than there are
  pub beyond : (i seen : ℕ) (event : Event) (call : Call) → i < length events → event ≡ get_or events i event → started_by hart event ≡ call ∷ [] → length asked ≤ seen → Left i seen → ⊥
  beyond i seen event call lt is one past left =
      let long = ap length (sym (split i event call lt is one) ∙ left ∙ at_drop_all (λ cs. cs) asked seen past) in
      absurd (omega (arith, long))

  -- at the end
  pub ended : (i seen : ℕ) → length events ≤ i → seen ≤ length asked → Left i seen ↔ (seen ≡ length asked)
  unfolding starts_in
  ended i seen past within =
      let none : starts_in hart (drop i events) ≡ [] = at_drop_all (λ es. starts_in hart es) events i past in
      (λ left. let long : 0 ≡ length (drop seen asked) = ap length (sym none ∙ left) in omega (arith, long, length-drop seen asked, within), λ all. none ∙ sym (at_drop_all (λ cs. cs) asked seen (omega (arith, all))))
