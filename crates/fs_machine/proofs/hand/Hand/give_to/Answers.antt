use Rattle.fs_machine.proofs.Lemmas.{◌<◌, ◌≤◌, arith, ℕ, Some, refl, sym, ap, ◌∙◌, subst, inl, Ran, Passes, part_of, state_of, Honest, HandFits, reference_at, answer_in, tables-stay, refers, number-there, reference-there, descriptor_count}
use Rattle.fs_machine.specs.declared.slots.Given.TheVariants as given
use Rattle.fs_machine.proofs.hand.Hand.give_to.Goals as goal

below : (a b : ℕ) → (b ≤ a → ⊥) → a < b
below a b above = omega (arith, above)

pub returns-in-Descriptor : goal.returns-in-Descriptor
unfolding Honest answer_in
returns-in-Descriptor g c =
    let old = state_of g.D.Device.contents g.D.Device.failures c.args.core.now in
    let new = state_of g.D.Device.contents g.D.Device.failures c.give.new.self in
    let hart = c.args.hart in
    let hand = c.args.self.now in
    let did = c.in-Descriptor.ensures in
    record {
      ran = did.ran Passes;
      kind = refl;
      honest = tt;
      still = tt;
      hand = (below c.args.from descriptor_count did.past, refl);
      fits = tables-stay hart old new hand c.requires.fits (ap (part_of g.D.Device.contents g.D.Device.failures) did.log) did.rest;
      others = did.others;
      called = inl (ap (λ l. l.cache.device) did.log);
    }

pub returns-in-Directory : goal.returns-in-Directory
unfolding Honest answer_in
returns-in-Directory g c =
    let old = state_of g.D.Device.contents g.D.Device.failures c.args.core.now in
    let new = state_of g.D.Device.contents g.D.Device.failures c.give.new.self in
    let hart = c.args.hart in
    let hand = c.args.self.now in
    let did = c.in-Directory.ensures in
    let k = c.args.seat in
    let n = c.in-Directory.reference in
    let there = c.hold_reference.ensures in
    let number = number-there k n c.hold_reference.new.self (ap (reference_at k) there ∙ reference-there k (Some n) hand) in
    record {
      ran = did.ran Passes ∙ ap (λ (m : ℕ). Ran (given.Directory m) new) (sym number);
      kind = refl;
      honest = tt;
      still = tt;
      hand = (n, there);
      fits = subst (λ h. HandFits hart new h) (sym there) (refers hart new hand (tables-stay hart old new hand c.requires.fits (ap (part_of g.D.Device.contents g.D.Device.failures) did.log) did.rest) k (Some n));
      others = did.others;
      called = inl (ap (λ l. l.cache.device) did.log);
    }
