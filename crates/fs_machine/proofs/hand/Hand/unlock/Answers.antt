use Rattle.fs_machine.proofs.Lemmas.{◌≡◌, None, refl, sym, ap, ◌∙◌, subst, inl, Ran, Passes, part_of, state_of, exec, Honest, HandFits, answer_in, inode-given, inode-in}
use Rattle.fs_machine.specs.Steps as steps
use Rattle.fs_machine.proofs.hand.Hand.unlock.Goals as goal

pub unlock-requires-clause-own : goal.unlock-requires-clause-own
unlock-requires-clause-own g c = c.requires.fits.inodes.own c.args.seat c.in-Some.guard (sym c.take_inode.ensures.is ∙ c.in-Some.is)

pub returns : goal.returns
unfolding Honest answer_in
returns g c told =
    let old = state_of g.D.Device.contents g.D.Device.failures c.args.core.now in
    let new = state_of g.D.Device.contents g.D.Device.failures c.unlock.new.self in
    let hart = c.args.hart in
    let hand = c.args.self.now in
    let did = c.unlock.ensures in
    let was = sym c.take_inode.ensures.is ∙ c.in-Some.is in
    let there = c.take_inode.ensures.left in
    record {
      ran = subst (λ v. exec hart Passes (steps.Unlock v None) old ≡ Ran tt new) (sym (inode-in c.args.seat c.in-Some.guard hand was)) (did.ran Passes);
      kind = refl;
      honest = tt;
      still = tt;
      hand = there;
      fits = subst (λ h. HandFits hart new h) (sym there) (inode-given hart old new hand c.requires.fits c.args.seat c.in-Some.guard (ap (part_of g.D.Device.contents g.D.Device.failures) did.log) was did.rest);
      others = did.others;
      called = inl (ap (λ l. l.cache.device) did.log);
    }
