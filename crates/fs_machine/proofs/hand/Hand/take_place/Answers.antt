use Rattle.fs_machine.proofs.Lemmas.{refl, ap, inl, Passes, part_of, state_of, Honest, answer_in, tables-stay}
use Rattle.fs_machine.proofs.hand.Hand.take_place.Goals as goal

pub returns : goal.returns
unfolding Honest answer_in
returns g c =
    let old = state_of g.D.Device.contents g.D.Device.failures c.args.core.now in
    let new = state_of g.D.Device.contents g.D.Device.failures c.take_place-taken.new.self in
    let hart = c.args.hart in
    let hand = c.args.self.now in
    let did = c.take_place-taken.ensures in
    record {
      ran = did.ran Passes;
      kind = refl;
      honest = tt;
      still = tt;
      hand = refl;
      fits = tables-stay hart old new hand c.requires.fits (ap (part_of g.D.Device.contents g.D.Device.failures) did.log) did.rest;
      others = did.others;
      called = inl (ap (λ l. l.cache.device) did.log);
    }
