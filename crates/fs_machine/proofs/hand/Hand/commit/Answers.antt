use Rattle.fs_machine.proofs.Lemmas.{refl, inr, state_of, Honest, answer_in, log-stays}
use Rattle.fs_machine.proofs.hand.Hand.commit.Goals as goal

pub returns-in-Wrote : goal.returns-in-Wrote
unfolding Honest answer_in
returns-in-Wrote g c =
    let old = state_of g.D.Device.contents g.D.Device.failures c.args.core.now in
    let new = state_of g.D.Device.contents g.D.Device.failures c.commit.new.self in
    let hart = c.args.hart in
    let hand = c.args.self.now in
    let did = c.in-Wrote.ensures in
    record {
      ran = did.ran;
      kind = refl;
      honest = did.honest;
      still = tt;
      hand = refl;
      fits = log-stays hart old new hand c.requires.fits did.tables did.rest;
      others = did.others;
      called = inr (did.called (λ e. absurd (cc e)));
    }

pub returns-in-Ended : goal.returns-in-Ended
unfolding Honest answer_in
returns-in-Ended g c =
    let old = state_of g.D.Device.contents g.D.Device.failures c.args.core.now in
    let new = state_of g.D.Device.contents g.D.Device.failures c.commit.new.self in
    let hart = c.args.hart in
    let hand = c.args.self.now in
    let did = c.in-Ended.ensures in
    record {
      ran = did.ran;
      kind = refl;
      honest = did.honest;
      still = tt;
      hand = refl;
      fits = log-stays hart old new hand c.requires.fits did.tables did.rest;
      others = did.others;
      called = inr (did.called (λ e. absurd (cc e)));
    }

pub returns-in-Failed : goal.returns-in-Failed
unfolding Honest answer_in
returns-in-Failed g c =
    let old = state_of g.D.Device.contents g.D.Device.failures c.args.core.now in
    let new = state_of g.D.Device.contents g.D.Device.failures c.commit.new.self in
    let hart = c.args.hart in
    let hand = c.args.self.now in
    let did = c.in-Failed.ensures in
    record {
      ran = did.ran;
      kind = tt;
      honest = did.honest;
      still = refl;
      hand = tt;
      fits = log-stays hart old new hand c.requires.fits did.tables did.rest;
      others = did.others;
      called = inr (did.called (λ e. absurd (cc e)));
    }
