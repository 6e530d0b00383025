use Rattle.fs_machine.proofs.Lemmas.{◌≡◌, ℕ, None, refl, sym, ap, ◌∙◌, subst, inl, Ran, Counts, Passes, part_of, state_of, exec, Honest, HandFits, answer_in, tables-stay, refers, number-there}
use Rattle.fs_machine.specs.Steps as steps
use Rattle.fs_machine.proofs.hand.Hand.down_freed.Goals as goal

pub returns : goal.returns
unfolding Honest answer_in
returns g c told =
    let old = state_of g.D.Device.contents g.D.Device.failures c.args.core.now in
    let new = state_of g.D.Device.contents g.D.Device.failures c.drop_freed.new.self in
    let hart = c.args.hart in
    let hand = c.args.self.now in
    let did = c.drop_freed.ensures in
    let k = c.args.seat in
    let n = c.in-Some.reference in
    let was = sym c.take_reference.ensures.is ∙ c.in-Some.is in
    let there = c.take_reference.ensures.left in
    record {
      ran = subst (λ (m : ℕ). exec hart Passes (steps.Down (steps.Freed m)) old ≡ Ran Counts new) (sym (number-there k n hand was)) (did.ran Passes);
      kind = refl;
      honest = tt;
      still = tt;
      hand = there;
      fits = subst (λ h. HandFits hart new h) (sym there) (refers hart new hand (tables-stay hart old new hand c.requires.fits (ap (part_of g.D.Device.contents g.D.Device.failures) did.log) did.rest) k None);
      others = did.others;
      called = inl (ap (λ l. l.cache.device) did.log);
    }
