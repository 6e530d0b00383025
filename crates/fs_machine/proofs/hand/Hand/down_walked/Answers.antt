use Rattle.fs_machine.proofs.Lemmas.{◌≡◌, ℕ, List, [], ◌∷◌, ◌++◌, None, refl, sym, ap, ◌∙◌, subst, inl, Ran, Counts, Keeps, Passes, part_of, state_of, exec, Honest, Hand, HandFits, number_at, with_listed, with_seated, answer_in, lists, number-there, seated-again, seated-beside, seats-aside, tables-stay}
use Rattle.fs_machine.specs.Steps as steps
use Rattle.fs_machine.proofs.hand.Hand.down_walked.Goals as goal

pub returns-in-None-drop_walked : goal.returns-in-None-drop_walked
unfolding Honest answer_in
returns-in-None-drop_walked g c =
    let old = state_of g.D.Device.contents g.D.Device.failures c.args.core.now in
    let new = state_of g.D.Device.contents g.D.Device.failures c.drop_walked.new.self in
    let hart = c.args.hart in
    let hand = c.args.self.now in
    let did = c.in-None-drop_walked.ensures in
    let k = c.args.seat in
    let n = c.in-Some.reference in
    let was = sym c.take_reference.ensures.is ∙ c.in-Some.is in
    let there = c.seat_aside.ensures ∙ ap (with_seated k) c.take_reference.ensures.left ∙ seated-again k None hand in
    record {
      ran = subst (λ (m : ℕ). exec hart Passes (steps.Down (steps.Walked m)) old ≡ Ran Counts new) (sym (number-there k n hand was)) (did.ran Passes);
      kind = refl;
      honest = tt;
      still = tt;
      hand = there;
      fits = subst (λ h. HandFits hart new h) (sym there) (seats-aside hart new hand (tables-stay hart old new hand c.requires.fits (ap (part_of g.D.Device.contents g.D.Device.failures) did.log) did.rest) k);
      others = did.others;
      called = inl (ap (λ l. l.cache.device) did.log);
    }

pub returns-in-Some-drop_walked : goal.returns-in-Some-drop_walked
unfolding Honest answer_in
returns-in-Some-drop_walked g c =
    let old = state_of g.D.Device.contents g.D.Device.failures c.args.core.now in
    let new = state_of g.D.Device.contents g.D.Device.failures c.drop_walked.new.self in
    let hart = c.args.hart in
    let hand = c.args.self.now in
    let did = c.in-Some-drop_walked.ensures in
    let k = c.args.seat in
    let n = c.in-Some.reference in
    let was = sym c.take_reference.ensures.is ∙ c.in-Some.is in
    let number = number-there k n hand was in
    let gone = c.seat_aside.ensures ∙ ap (with_seated k) c.take_reference.ensures.left ∙ seated-again k None hand in
    let is : c.push.new.self ≡ hand.listed ++ number_at k hand ∷ [] = c.push.ensures ∙ ap (λ (h : Hand). h.listed ++ c.in-Some-drop_walked.kept ∷ []) gone
    ∙ ap (λ (ns : List ℕ). ns ++ c.in-Some-drop_walked.kept ∷ []) (seated-beside k hand) ∙ ap (λ (n : ℕ). hand.listed ++ n ∷ []) (did.kept ∙ sym number) in
    let there = ap (with_listed c.push.new.self) gone ∙ ap (λ (ns : List ℕ). with_listed ns (with_seated k hand)) is in
    record {
      ran = subst (λ (m : ℕ). exec hart Passes (steps.Down (steps.Walked m)) old ≡ Ran Keeps new) (sym number) (did.ran Passes);
      kind = refl;
      honest = tt;
      still = tt;
      hand = there;
      fits = subst (λ h. HandFits hart new h) (sym there)
          (lists hart new (with_seated k hand) (seats-aside hart new hand (tables-stay hart old new hand c.requires.fits (ap (part_of g.D.Device.contents g.D.Device.failures) did.log) did.rest) k) (hand.listed ++ number_at k hand ∷ []));
      others = did.others;
      called = inl (ap (λ l. l.cache.device) did.log);
    }
