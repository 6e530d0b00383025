use Rattle.fs_machine.proofs.Lemmas.{refl, ap, inl, Passes, part_of, state_of, Honest, answer_in, tables-stay}
use Rattle.fs_machine.proofs.hand.Hand.double.Goals as goal

pub returns-in-BadDescriptor : goal.returns-in-BadDescriptor
unfolding Honest answer_in
returns-in-BadDescriptor g c =
    let old = state_of g.D.Device.contents g.D.Device.failures c.args.core.now in
    let new = state_of g.D.Device.contents g.D.Device.failures c.double.new.self in
    let hart = c.args.hart in
    let hand = c.args.self.now in
    let did = c.in-BadDescriptor.ensures in
    record {
      ran = did.ran Passes;
      kind = refl;
      honest = tt;
      still = tt;
      hand = refl;
      fits = tables-stay hart old new hand c.requires.fits (ap (part_of g.D.Device.contents g.D.Device.failures) did.log) did.rest;
      others = did.others;
      called = inl (ap (λ l. l.cache.device) did.log);
    }

pub returns-in-Full : goal.returns-in-Full
unfolding Honest answer_in
returns-in-Full g c =
    let old = state_of g.D.Device.contents g.D.Device.failures c.args.core.now in
    let new = state_of g.D.Device.contents g.D.Device.failures c.double.new.self in
    let hart = c.args.hart in
    let hand = c.args.self.now in
    let did = c.in-Full.ensures in
    record {
      ran = did.ran Passes;
      kind = refl;
      honest = tt;
      still = tt;
      hand = refl;
      fits = tables-stay hart old new hand c.requires.fits (ap (part_of g.D.Device.contents g.D.Device.failures) did.log) did.rest;
      others = did.others;
      called = inl (ap (λ l. l.cache.device) did.log);
    }

pub returns-in-Gave : goal.returns-in-Gave
unfolding Honest answer_in
returns-in-Gave g c =
    let old = state_of g.D.Device.contents g.D.Device.failures c.args.core.now in
    let new = state_of g.D.Device.contents g.D.Device.failures c.double.new.self in
    let hart = c.args.hart in
    let hand = c.args.self.now in
    let did = c.in-Gave.ensures in
    record {
      ran = did.ran Passes;
      kind = refl;
      honest = tt;
      still = tt;
      hand = refl;
      fits = tables-stay hart old new hand c.requires.fits (ap (part_of g.D.Device.contents g.D.Device.failures) did.log) did.rest;
      others = did.others;
      called = inl (ap (λ l. l.cache.device) did.log);
    }
