use Rattle.fs_machine.proofs.Lemmas.{◌≡◌, ℕ, Some, refl, sym, ap, ◌∙◌, subst, inl, Ran, ItWaits, Passes, part_of, state_of, exec, Honest, HandFits, inode_at, inode_in, number_at, with_inode, answer_in, inode-there, inode-taken, inode-in, number-there, Inode, waits}
use Rattle.fs_machine.specs.Steps as steps
use Rattle.fs_machine.specs.declared.op.Op.TheVariants as ops
use Rattle.fs_machine.proofs.hand.Hand.lock.Goals as goal

pub returns-in-None-lock : goal.returns-in-None-lock
unfolding Honest answer_in
returns-in-None-lock g c told =
    let old = state_of g.D.Device.contents g.D.Device.failures c.args.core.now in
    let hart = c.args.hart in
    let hand = c.args.self.now in
    let k = c.args.seat in
    let number : number_at k hand ≡ c.in-Some.reference.now = number-there k c.in-Some.reference.now hand c.in-Some.ensures in
    waits g.D.Device.contents g.D.Device.failures g.D.Device.Called hart (ops.Lock k) hand told c.args.core.now c.lock.new.self c.in-None-lock.ensures.still c.requires.fits
    (subst (λ (m : ℕ). exec hart Passes (steps.Lock m) old ≡ ItWaits) (sym number) (c.in-None-lock.ensures.ran Passes)) tt

pub returns-in-Some-lock : goal.returns-in-Some-lock
unfolding Honest answer_in
returns-in-Some-lock g c told =
    let old = state_of g.D.Device.contents g.D.Device.failures c.args.core.now in
    let new = state_of g.D.Device.contents g.D.Device.failures c.lock.new.self in
    let hart = c.args.hart in
    let hand = c.args.self.now in
    let k = c.args.seat in
    let guard = c.in-Some-lock.guard in
    let did = c.in-Some-lock.ensures in
    let number : number_at k hand ≡ c.in-Some.reference.now = number-there k c.in-Some.reference.now hand c.in-Some.ensures in
    let there : c.hold_inode.new.self ≡ with_inode k (Some guard) hand = c.hold_inode.ensures in
    record {
      ran = subst (λ (m : ℕ). exec hart Passes (steps.Lock m) old ≡ Ran (inode_in k c.hold_inode.new.self).content new) (sym number)
          (did.ran Passes ∙ ap (λ (v : Inode). Ran v.content new) (sym (inode-in k guard c.hold_inode.new.self (ap (inode_at k) there ∙ inode-there k (Some guard) hand))));
      kind = refl;
      honest = tt;
      still = tt;
      hand = (guard, there, did.own.number ∙ sym number);
      fits = subst (λ h. HandFits hart new h) (sym there)
          (inode-taken hart old new hand c.requires.fits k guard (ap (part_of g.D.Device.contents g.D.Device.failures) did.log)
          (record { hand = did.own.hand; number = refl; locked = did.own.locked }) did.rest (λ l f own e. did.apart l f own (e ∙ did.own.number)));
      others = did.others;
      called = inl (ap (λ l. l.cache.device) did.log);
    }
