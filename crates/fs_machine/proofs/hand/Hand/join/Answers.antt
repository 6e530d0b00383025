use Rattle.fs_machine.proofs.Lemmas.{Some, refl, sym, subst, inl, Passes, state_of, Honest, HandFits, answer_in, log-stays, has-txn, waits}
use Rattle.fs_machine.specs.declared.op.Op.TheVariants as ops
use Rattle.fs_machine.proofs.hand.Hand.join.Goals as goal

pub returns-in-None : goal.returns-in-None
unfolding Honest
returns-in-None g c told =
    waits g.D.Device.contents g.D.Device.failures g.D.Device.Called c.args.hart ops.Join c.args.self.now told c.args.core.now c.join.new.self
    c.in-None.ensures.still c.requires.fits (c.in-None.ensures.ran Passes) tt

pub returns-in-Some : goal.returns-in-Some
unfolding Honest answer_in
returns-in-Some g c told =
    let old = state_of g.D.Device.contents g.D.Device.failures c.args.core.now in
    let new = state_of g.D.Device.contents g.D.Device.failures c.join.new.self in
    let hart = c.args.hart in
    let hand = c.args.self.now in
    let did = c.in-Some.ensures in
    let there = c.hold_txn.ensures in
    record {
      ran = did.ran Passes;
      kind = refl;
      honest = tt;
      still = tt;
      hand = (c.in-Some.txn, there);
      fits = subst (λ h. HandFits hart new h) (sym there) (has-txn hart new hand (log-stays hart old new hand c.requires.fits did.tables did.rest) (Some c.in-Some.txn) did.txn);
      others = did.others;
      called = inl did.device;
    }
