use Rattle.fs_machine.proofs.Lemmas.{Some, refl, sym, subst, inl, Passes, state_of, Honest, HandFits, answer_in, log-stays, has-txn, waits}
use Rattle.fs_machine.specs.declared.op.Op.TheVariants as ops
use Rattle.fs_machine.proofs.hand.Hand.join_to_write.Goals as goal

pub returns-in-Waits : goal.returns-in-Waits
unfolding Honest
returns-in-Waits g c =
    waits g.D.Device.contents g.D.Device.failures g.D.Device.Called c.args.hart (ops.JoinToWrite c.args.fd) c.args.self.now c.args.told.now c.args.core.now c.join_to_write.new.self
    c.in-Waits.ensures.still c.requires.fits (c.in-Waits.ensures.ran Passes) tt

pub returns-in-Refused : goal.returns-in-Refused
unfolding Honest answer_in
returns-in-Refused g c =
    let old = state_of g.D.Device.contents g.D.Device.failures c.args.core.now in
    let new = state_of g.D.Device.contents g.D.Device.failures c.join_to_write.new.self in
    let hart = c.args.hart in
    let hand = c.args.self.now in
    let did = c.in-Refused.ensures in
    record {
      ran = did.ran Passes;
      kind = refl;
      honest = tt;
      still = tt;
      hand = refl;
      fits = log-stays hart old new hand c.requires.fits did.tables did.rest;
      others = did.others;
      called = inl did.device;
    }

pub returns-in-Joined : goal.returns-in-Joined
unfolding Honest answer_in
returns-in-Joined g c =
    let old = state_of g.D.Device.contents g.D.Device.failures c.args.core.now in
    let new = state_of g.D.Device.contents g.D.Device.failures c.join_to_write.new.self in
    let hart = c.args.hart in
    let hand = c.args.self.now in
    let did = c.in-Joined.ensures in
    let there = c.hold_txn.ensures in
    record {
      ran = did.ran Passes;
      kind = refl;
      honest = tt;
      still = tt;
      hand = (c.in-Joined.txn, there);
      fits = subst (λ h. HandFits hart new h) (sym there) (has-txn hart new hand (log-stays hart old new hand c.requires.fits did.tables did.rest) (Some c.in-Joined.txn) did.txn);
      others = did.others;
      called = inl did.device;
    }
