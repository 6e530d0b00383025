use Rattle.fs_machine.proofs.Lemmas.{ℕ, Option, Some, None, refl, sym, ap, ◌∙◌, subst, inl, Ran, Passes, part_of, state_of, Honest, HandFits, reference_at, answer_in, reference-none, tables-stay, refers, reference-there}
use Rattle.fs_machine.proofs.hand.Hand.up.Goals as goal

pub returns-in-None : goal.returns-in-None
unfolding Honest answer_in
returns-in-None g c told =
    let old = state_of g.D.Device.contents g.D.Device.failures c.args.core.now in
    let new = state_of g.D.Device.contents g.D.Device.failures c.up.new.self in
    let hart = c.args.hart in
    let hand = c.args.self.now in
    let did = c.in-None.ensures in
    record {
      ran = did.ran Passes ∙ ap (λ (r : Option ℕ). Ran r new) (sym c.requires.can);
      kind = refl;
      honest = tt;
      still = tt;
      hand = (None, reference-none c.args.seat hand c.requires.can, tt);
      fits = tables-stay hart old new hand c.requires.fits (ap (part_of g.D.Device.contents g.D.Device.failures) did.log) did.rest;
      others = did.others;
      called = inl (ap (λ l. l.cache.device) did.log);
    }

pub returns-in-Some : goal.returns-in-Some
unfolding Honest answer_in
returns-in-Some g c told =
    let old = state_of g.D.Device.contents g.D.Device.failures c.args.core.now in
    let new = state_of g.D.Device.contents g.D.Device.failures c.up.new.self in
    let hart = c.args.hart in
    let hand = c.args.self.now in
    let did = c.in-Some.ensures in
    let there = c.hold_reference.ensures in
    record {
      ran = did.ran Passes ∙ ap (λ (r : Option ℕ). Ran r new) (sym (ap (reference_at c.args.seat) there ∙ reference-there c.args.seat (Some c.in-Some.reference) hand));
      kind = refl;
      honest = tt;
      still = tt;
      hand = (Some c.in-Some.reference, there, did.number);
      fits = subst (λ h. HandFits hart new h) (sym there) (refers hart new hand (tables-stay hart old new hand c.requires.fits (ap (part_of g.D.Device.contents g.D.Device.failures) did.log) did.rest) c.args.seat (Some c.in-Some.reference));
      others = did.others;
      called = inl (ap (λ l. l.cache.device) did.log);
    }
