-- What a step's act on whole inodes is, by what was noted of it: the machine answers so, and its mark places the move; or nothing is done.
use Rattle.run_laws.proofs.Vocabulary.{◌≡◌, ℕ, Option, Some, None, List, [], ◌∷◌, refl, sym, ◌∙◌, ap, subst, ExecResult, Waits, Ran, Stops, ActOf, ran_to, placed_at, act_places, seen_after, placed_with, own, own_one, MoveStep, exec, go, marked, with_mark, lock_if, locked, seen_in, places, machine, Mark, Take, Query, Sight, IsOperation, Operation, told_by, whole_inodes, SeesTruly, Version}
use Rattle.inode_machine.specs.World as above
use Rattle.run_laws.proofs.Whole.{answer_or, mark_there}

mark_back : (version : Version) {A : Type 0} (h : ℕ) (m : A → Option Mark) (a : A) (u : above.World) (d : ExecResult A above.World) → with_mark version h (λ _. m a) d ≡ Ran a u → with_mark version h m d ≡ Ran a u
mark_back version h m a u Waits e = e
mark_back version {A} h m a u (Ran b w) e = ap (λ (z : A). Ran b (marked version h (m z) w)) (ap (answer_or a) e) ∙ e
mark_back version h m a u (Stops w) e = e

pub none_is : {A : Type 0} (x : A) (xs : List A) → x ∷ xs ≡ [] → ⊥
none_is x xs e = cc

pub head_is : {A : Type 0} (x y : A) (xs ys : List A) → x ∷ xs ≡ y ∷ ys → x ≡ y
head_is x y xs ys e = cc

pub never_ran : {A S : Type 0} (a : A) (s : S) → Waits ≡ Ran a s → ⊥
never_ran a s e = cc

-- ---- what an inode is seen as

take_sees : (version : Version) (h n : ℕ) (looking : Query) (m : Sight → Option Mark) (a : Sight) (w u : above.World) (o : Option ℕ) → with_mark version h m (lock_if h n (seen_in version n looking (w.disk n)) w (locked h n w) o) ≡ Ran a u → a ≡ seen_in version n looking (w.disk n)
take_sees version h n looking m a w u None e = sym (ap (answer_or a) e)
take_sees version h n looking m a w u (Some g) e = absurd (never_ran a u e)

pub sees_truly : (version : Version) (h : ℕ) (x : above.Outside) (op : above.Op) (m : above.Answer op → Option Mark) (a : above.Answer op) (w u : above.World) → go version h x op m w ≡ Ran a u → SeesTruly version op a w
sees_truly version h x (Take n looking) m a w u e = take_sees version h n looking m a w u (w.lock n) e
sees_truly version h x op m a w u e = tt

-- ---- an act

module _ (version : Version) (h : ℕ) (w : above.World) where
  -- nothing was noted
  pub none_made : (t : Option (ActOf (machine version))) → ◌≡◌ {A = List Operation} (own h (act_places (whole_inodes version) h t w)) [] → (seen_after (machine version) h t w ≡ w) × (◌≡◌ {A = List (ℕ × MoveStep)} (act_places (machine version) h t w) [])
  none_made None e = (refl, refl)
  none_made (Some t) e = at (go version h t.outside t.op t.mark w) e
    where
      at : (d : ExecResult (above.Answer t.op) above.World) → ◌≡◌ {A = List Operation} (own h (placed_at (placed_with (whole_inodes version) h t.op t.mark w) d)) [] → (ran_to w d ≡ w) × (◌≡◌ {A = List (ℕ × MoveStep)} (placed_at (placed_with (machine version) h t.op t.mark w) d) [])
      at Waits e = (refl, refl)
      at (Stops u) e = (refl, refl)
      at (Ran b u) e =
          absurd (none_is _ [] (sym (own_one {A = Operation} h (record { op = t.op; answer = b; mark = t.mark b; told = told_by version h (t.mark b) w })) ∙ e))

  -- an operation was
  pub one_made : (t : Option (ActOf (machine version))) (op : above.Op) (m : above.Answer op → Option Mark) (a : above.Answer op) (s : Operation) → ◌≡◌ {A = List Operation} (own h (act_places (whole_inodes version) h t w)) (s ∷ []) → IsOperation op m a s
      → ((x : above.Outside) × (go version h x op m w ≡ Ran a (seen_after (machine version) h t w)))
      × (◌≡◌ {A = List (ℕ × MoveStep)} (act_places (machine version) h t w) (places version h op a (m a) w))
  one_made None op m a s e is = absurd (none_is s [] (sym e))
  one_made (Some t) op m a s e is = at (go version h t.outside t.op t.mark w) refl e
    where
      at : (d : ExecResult (above.Answer t.op) above.World) → go version h t.outside t.op t.mark w ≡ d → ◌≡◌ {A = List Operation} (own h (placed_at (placed_with (whole_inodes version) h t.op t.mark w) d)) (s ∷ [])
          → ((x : above.Outside) × (go version h x op m w ≡ Ran a (ran_to w d))) × (◌≡◌ {A = List (ℕ × MoveStep)} (placed_at (placed_with (machine version) h t.op t.mark w) d) (places version h op a (m a) w))
      at Waits g e = absurd (none_is s [] (sym e))
      at (Stops u) g e = absurd (none_is s [] (sym e))
      at (Ran b u) g e =
          let made : Operation = record { op = t.op; answer = b; mark = t.mark b; told = told_by version h (t.mark b) w } in
          let same : made ≡ record { op = op; answer = a; mark = m a; told = is.0 } = head_is made s [] [] (sym (own_one {A = Operation} h made) ∙ e) ∙ is.1 in (
            (
              t.outside,
              mark_back version h m a u (exec version h t.outside op w)
                  (subst (λ (o : Operation). go version h t.outside o.op (λ _. o.mark) w ≡ Ran o.answer u) same
                  (mark_there version h t.mark b u (exec version h t.outside t.op w) g)),
            ),
            subst (λ (o : Operation). ◌≡◌ {A = List (ℕ × MoveStep)} (places version h t.op b (t.mark b) w) (places version h o.op o.answer o.mark w)) same refl,
          )
