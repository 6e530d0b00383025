use Rattle.fs_machine.proofs.Lemmas.{◌≡◌, ℕ, Some, None, refl, sym, ap, ◌∙◌, subst, inl, Ran, Passes, part_of, state_of, exec, Honest, HandFits, with_reference, answer_in, tables-stay, refers, reference-back, number-there}
use Rattle.fs_machine.specs.Steps as steps
use Rattle.fs_machine.proofs.hand.Hand.take_descriptor.Goals as goal

pub returns-in-Ok : goal.returns-in-Ok
unfolding Honest answer_in
returns-in-Ok g c =
    let old = state_of g.D.Device.contents g.D.Device.failures c.args.core.now in
    let new = state_of g.D.Device.contents g.D.Device.failures c.take_descriptor.new.self in
    let hart = c.args.hart in
    let hand = c.args.self.now in
    let did = c.in-Ok.ensures in
    let k = c.args.seat in
    let n = c.in-Some.reference in
    let was = sym c.take_reference.ensures.is ∙ c.in-Some.is in
    let there = c.take_reference.ensures.left in
    record {
      ran = subst (λ (m : ℕ). exec hart Passes (steps.TakeDescriptor m c.args.file) old ≡ Ran (Some c.in-Ok.fd) new) (sym (number-there k n hand was)) (did.ran Passes);
      kind = refl;
      honest = tt;
      still = tt;
      hand = there;
      fits = subst (λ h. HandFits hart new h) (sym there) (refers hart new hand (tables-stay hart old new hand c.requires.fits (ap (part_of g.D.Device.contents g.D.Device.failures) did.log) did.rest) k None);
      others = did.others;
      called = inl (ap (λ l. l.cache.device) did.log);
    }

pub returns-in-Err : goal.returns-in-Err
unfolding Honest answer_in
returns-in-Err g c =
    let old = state_of g.D.Device.contents g.D.Device.failures c.args.core.now in
    let new = state_of g.D.Device.contents g.D.Device.failures c.take_descriptor.new.self in
    let hart = c.args.hart in
    let hand = c.args.self.now in
    let did = c.in-Err.ensures in
    let k = c.args.seat in
    let n = c.in-Some.reference in
    let was = sym c.take_reference.ensures.is ∙ c.in-Some.is in
    let same : c.hold_reference.new.self ≡ hand = c.hold_reference.ensures ∙ ap (λ (m : ℕ). with_reference k (Some m) c.take_reference.new.self) did.back
    ∙ ap (with_reference k (Some n)) c.take_reference.ensures.left ∙ reference-back k n hand was in
    record {
      ran = subst (λ (m : ℕ). exec hart Passes (steps.TakeDescriptor m c.args.file) old ≡ Ran None new) (sym (number-there k n hand was)) (did.ran Passes);
      kind = refl;
      honest = tt;
      still = tt;
      hand = same;
      fits = subst (λ h. HandFits hart new h) (sym same) (tables-stay hart old new hand c.requires.fits (ap (part_of g.D.Device.contents g.D.Device.failures) did.log) did.rest);
      others = did.others;
      called = inl (ap (λ l. l.cache.device) did.log);
    }
