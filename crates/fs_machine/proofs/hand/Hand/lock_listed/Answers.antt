use Rattle.fs_machine.proofs.Lemmas.{◌≡◌, ℕ, drop, Some, refl, sym, ap, ◌∙◌, subst, inl, Ran, ItWaits, Passes, part_of, state_of, exec, Honest, HandFits, first_in, first_listed, inode_at, inode_in, with_first, with_inode, with_listed, answer_in, inode-there, inode-taken, inode-in, lists, refers, Inode, waits}
use Rattle.fs_machine.specs.Steps as steps
use Rattle.fs_machine.specs.declared.op.Op.TheVariants as ops
use Rattle.fs_machine.proofs.hand.Hand.lock_listed.Goals as goal

pub returns-in-None-lock : goal.returns-in-None-lock
unfolding Honest answer_in
returns-in-None-lock g c told =
    let old = state_of g.D.Device.contents g.D.Device.failures c.args.core.now in
    let hart = c.args.hart in
    let hand = c.args.self.now in
    let k = c.args.seat in
    let number : first_listed hand ≡ c.in-Some.first.now = ap first_in c.in-Some.ensures.1 in
    waits g.D.Device.contents g.D.Device.failures g.D.Device.Called hart (ops.LockListed k) hand told c.args.core.now c.lock.new.self c.in-None-lock.ensures.still c.requires.fits
    (subst (λ (m : ℕ). exec hart Passes (steps.Lock m) old ≡ ItWaits) (sym number) (c.in-None-lock.ensures.ran Passes)) tt

pub returns-in-Some-lock : goal.returns-in-Some-lock
unfolding Honest answer_in
returns-in-Some-lock g c told =
    let old = state_of g.D.Device.contents g.D.Device.failures c.args.core.now in
    let new = state_of g.D.Device.contents g.D.Device.failures c.lock.new.self in
    let hart = c.args.hart in
    let hand = c.args.self.now in
    let k = c.args.seat in
    let guard = c.in-Some-lock.guard in
    let did = c.in-Some-lock.ensures in
    let number : first_listed hand ≡ c.in-Some.first.now = ap first_in c.in-Some.ensures.1 in
    let moved = with_first k hand in
    let there : c.hold_inode.new.self ≡ with_inode k (Some guard) moved = c.hold_inode.ensures ∙ ap (with_inode k (Some guard)) c.hold_first.ensures in
    let fits = refers hart old (with_listed (drop 1 hand.listed) hand) (lists hart old hand c.requires.fits (drop 1 hand.listed)) k (Some (first_listed hand)) in
    record {
      ran = subst (λ (m : ℕ). exec hart Passes (steps.Lock m) old ≡ Ran (inode_in k c.hold_inode.new.self).content new) (sym number)
          (did.ran Passes ∙ ap (λ (v : Inode). Ran v.content new) (sym (inode-in k guard c.hold_inode.new.self (ap (inode_at k) there ∙ inode-there k (Some guard) moved))));
      kind = refl;
      honest = tt;
      still = tt;
      hand = (guard, there, did.own.number ∙ sym number);
      fits = subst (λ h. HandFits hart new h) (sym there)
          (inode-taken hart old new moved fits k guard (ap (part_of g.D.Device.contents g.D.Device.failures) did.log)
          (record { hand = did.own.hand; number = refl; locked = did.own.locked }) did.rest (λ l f own e. did.apart l f own (e ∙ did.own.number)));
      others = did.others;
      called = inl (ap (λ l. l.cache.device) did.log);
    }
