use Rattle.fs_machine.proofs.Lemmas.{Some, refl, sym, ap, ◌∙◌, subst, inl, Ran, Passes, part_of, state_of, Honest, HandFits, inode_at, answer_in, inode-there, inode-taken, inode-in, Inode, waits}
use Rattle.fs_machine.specs.declared.op.Op.TheVariants as ops
use Rattle.fs_machine.proofs.hand.Hand.lock_open.Goals as goal

pub returns-in-None : goal.returns-in-None
unfolding Honest
returns-in-None g c =
    waits g.D.Device.contents g.D.Device.failures g.D.Device.Called c.args.hart (ops.LockOpen c.args.seat c.args.fd) c.args.self.now c.args.told.now c.args.core.now c.lock_open.new.self
    c.in-None.ensures.still c.requires.fits (c.in-None.ensures.ran Passes) tt

pub returns-in-Some : goal.returns-in-Some
unfolding Honest answer_in
returns-in-Some g c =
    let old = state_of g.D.Device.contents g.D.Device.failures c.args.core.now in
    let new = state_of g.D.Device.contents g.D.Device.failures c.lock_open.new.self in
    let hart = c.args.hart in
    let hand = c.args.self.now in
    let did = c.in-Some.ensures in
    let k = c.args.seat in
    let guard = c.in-Some.guard in
    let file = c.in-Some.file in
    let there = c.hold_inode.ensures in
    record {
      ran = did.ran Passes
          ∙ ap (λ (v : Inode). Ran (file, v.content) new) (sym (inode-in k guard c.hold_inode.new.self (ap (inode_at k) there ∙ inode-there k (Some guard) hand)));
      kind = refl;
      honest = tt;
      still = tt;
      hand = (guard, there, did.own.number, did.number);
      fits = subst (λ h. HandFits hart new h) (sym there)
          (inode-taken hart old new hand c.requires.fits k guard (ap (part_of g.D.Device.contents g.D.Device.failures) did.log)
          (record { hand = did.own.hand; number = refl; locked = did.own.locked }) did.rest (λ l f own e. did.apart l f own (e ∙ did.own.number)));
      others = did.others;
      called = inl (ap (λ l. l.cache.device) did.log);
    }
