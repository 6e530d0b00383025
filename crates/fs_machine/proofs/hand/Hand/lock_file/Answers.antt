use Rattle.fs_machine.proofs.Lemmas.{Some, refl, sym, ap, ◌∙◌, subst, inl, Ran, Locks, Passes, part_of, state_of, Honest, HandFits, inode_at, answer_in, inode-there, tables-stay, inode-taken, inode-in, Inode, waits}
use Rattle.fs_machine.specs.declared.op.Op.TheVariants as ops
use Rattle.fs_machine.proofs.hand.Hand.lock_file.Goals as goal

pub returns-in-Waits : goal.returns-in-Waits
unfolding Honest
returns-in-Waits g c =
    waits g.D.Device.contents g.D.Device.failures g.D.Device.Called c.args.hart (ops.LockFile c.args.seat c.args.want c.args.fd) c.args.self.now c.args.told.now c.args.core.now c.lock_file.new.self
    c.in-Waits.ensures.still c.requires.fits (c.in-Waits.ensures.ran Passes) tt

pub returns-in-Refused : goal.returns-in-Refused
unfolding Honest answer_in
returns-in-Refused g c =
    let old = state_of g.D.Device.contents g.D.Device.failures c.args.core.now in
    let new = state_of g.D.Device.contents g.D.Device.failures c.lock_file.new.self in
    let hart = c.args.hart in
    let hand = c.args.self.now in
    let did = c.in-Refused.ensures in
    record {
      ran = did.ran Passes;
      kind = refl;
      honest = tt;
      still = tt;
      hand = refl;
      fits = tables-stay hart old new hand c.requires.fits (ap (part_of g.D.Device.contents g.D.Device.failures) did.log) did.rest;
      others = did.others;
      called = inl (ap (λ l. l.cache.device) did.log);
    }

pub returns-in-Locked : goal.returns-in-Locked
unfolding Honest answer_in
returns-in-Locked g c =
    let old = state_of g.D.Device.contents g.D.Device.failures c.args.core.now in
    let new = state_of g.D.Device.contents g.D.Device.failures c.lock_file.new.self in
    let hart = c.args.hart in
    let hand = c.args.self.now in
    let did = c.in-Locked.ensures in
    let k = c.args.seat in
    let guard = c.in-Locked.guard in
    let file = c.in-Locked.file in
    let there = c.hold_inode.ensures in
    record {
      ran = did.ran Passes
          ∙ ap (λ (v : Inode). Ran (Locks file v.content) new) (sym (inode-in k guard c.hold_inode.new.self (ap (inode_at k) there ∙ inode-there k (Some guard) hand)));
      kind = refl;
      honest = tt;
      still = tt;
      hand = (guard, there, did.own.number, did.number);
      fits = subst (λ h. HandFits hart new h) (sym there)
          (inode-taken hart old new hand c.requires.fits k guard (ap (part_of g.D.Device.contents g.D.Device.failures) did.log)
          (record { hand = did.own.hand; number = refl; locked = did.own.locked }) did.rest (λ l f own e. did.apart l f own (e ∙ did.own.number)));
      others = did.others;
      called = inl (ap (λ l. l.cache.device) did.log);
    }
