use Rattle.fs_machine.proofs.Lemmas.{ℕ, Some, refl, sym, ap, ◌∙◌, subst, inl, Ran, Passes, part_of, state_of, Honest, HandFits, reference_at, answer_in, tables-stay, refers, number-there, reference-there}
use Rattle.fs_machine.specs.declared.slots.Shut.TheVariants as shut
use Rattle.fs_machine.proofs.hand.Hand.close.Goals as goal

pub returns-in-BadDescriptor : goal.returns-in-BadDescriptor
unfolding Honest answer_in
returns-in-BadDescriptor g c =
    let old = state_of g.D.Device.contents g.D.Device.failures c.args.core.now in
    let new = state_of g.D.Device.contents g.D.Device.failures c.close.new.self in
    let hart = c.args.hart in
    let hand = c.args.self.now in
    let did = c.in-BadDescriptor.ensures in
    record {
      ran = did.ran Passes;
      kind = refl;
      honest = tt;
      still = tt;
      hand = refl;
      fits = tables-stay hart old new hand c.requires.fits (ap (part_of g.D.Device.contents g.D.Device.failures) did.log) did.rest;
      others = did.others;
      called = inl (ap (λ l. l.cache.device) did.log);
    }

pub returns-in-Closed : goal.returns-in-Closed
unfolding Honest answer_in
returns-in-Closed g c =
    let old = state_of g.D.Device.contents g.D.Device.failures c.args.core.now in
    let new = state_of g.D.Device.contents g.D.Device.failures c.close.new.self in
    let hart = c.args.hart in
    let hand = c.args.self.now in
    let did = c.in-Closed.ensures in
    record {
      ran = did.ran Passes;
      kind = refl;
      honest = tt;
      still = tt;
      hand = refl;
      fits = tables-stay hart old new hand c.requires.fits (ap (part_of g.D.Device.contents g.D.Device.failures) did.log) did.rest;
      others = did.others;
      called = inl (ap (λ l. l.cache.device) did.log);
    }

pub returns-in-Last : goal.returns-in-Last
unfolding Honest answer_in
returns-in-Last g c =
    let old = state_of g.D.Device.contents g.D.Device.failures c.args.core.now in
    let new = state_of g.D.Device.contents g.D.Device.failures c.close.new.self in
    let hart = c.args.hart in
    let hand = c.args.self.now in
    let did = c.in-Last.ensures in
    let k = c.args.seat in
    let n = c.in-Last.reference in
    let there = c.hold_reference.ensures in
    let number = number-there k n c.hold_reference.new.self (ap (reference_at k) there ∙ reference-there k (Some n) hand) in
    record {
      ran = did.ran Passes ∙ ap (λ (m : ℕ). Ran (shut.Last m) new) (sym number);
      kind = refl;
      honest = tt;
      still = tt;
      hand = (n, there);
      fits = subst (λ h. HandFits hart new h) (sym there) (refers hart new hand (tables-stay hart old new hand c.requires.fits (ap (part_of g.D.Device.contents g.D.Device.failures) did.log) did.rest) k (Some n));
      others = did.others;
      called = inl (ap (λ l. l.cache.device) did.log);
    }
