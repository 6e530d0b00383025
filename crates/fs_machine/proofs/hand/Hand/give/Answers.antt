use Rattle.fs_machine.proofs.Lemmas.{◌≡◌, None, refl, sym, ◌∙◌, subst, inl, Ran, Passes, state_of, exec, Honest, HandFits, answer_in, buffer-given, block-there}
use Rattle.fs_machine.specs.Steps as steps
use Rattle.fs_machine.proofs.hand.Hand.give.Goals as goal

pub put_back-requires-clause-own : goal.put_back-requires-clause-own
put_back-requires-clause-own g c = c.requires.fits.buffers.own c.args.place c.in-Some.guard (sym c.take_buffer.ensures.is ∙ c.in-Some.is)

pub returns : goal.returns
unfolding Honest answer_in
returns g c told =
    let old = state_of g.D.Device.contents g.D.Device.failures c.args.core.now in
    let new = state_of g.D.Device.contents g.D.Device.failures c.put_back.new.self in
    let hart = c.args.hart in
    let hand = c.args.self.now in
    let did = c.put_back.ensures in
    let was = sym c.take_buffer.ensures.is ∙ c.in-Some.is in
    let there = c.take_buffer.ensures.left in
    record {
      ran = subst (λ b. exec hart Passes (steps.Put b None) old ≡ Ran tt new) (sym (block-there c.args.place c.in-Some.guard hand was)) (did.ran Passes);
      kind = refl;
      honest = tt;
      still = tt;
      hand = there;
      fits = subst (λ h. HandFits hart new h) (sym there) (buffer-given hart old new hand c.requires.fits c.args.place c.in-Some.guard did.tables was did.rest);
      others = did.others;
      called = inl did.device;
    }
