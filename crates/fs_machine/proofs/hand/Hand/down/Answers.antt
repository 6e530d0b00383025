use Rattle.fs_machine.proofs.Lemmas.{◌≡◌, ℕ, Some, None, refl, sym, ap, ◌∙◌, subst, inl, true, Ran, Counts, Dies, Passes, part_of, state_of, exec, Honest, HandFits, inode_at, inode_in, with_inode, with_reference, answer_in, dropped_by, inode-there, tables-stay, inode-taken, refers, reference-back, inode-in, number-there, dies_loaded, Inode}
use Rattle.fs_machine.specs.Steps as steps
use Rattle.fs_machine.proofs.hand.Hand.down.Goals as goal

pub returns-in-Counted : goal.returns-in-Counted
unfolding Honest answer_in
returns-in-Counted g c =
    let old = state_of g.D.Device.contents g.D.Device.failures c.args.core.now in
    let new = state_of g.D.Device.contents g.D.Device.failures c.drop_reference.new.self in
    let hart = c.args.hart in
    let hand = c.args.self.now in
    let k = c.args.seat in
    let n = c.in-Some.reference in
    let did = c.in-Counted.ensures in
    let was = sym c.take_reference.ensures.is ∙ c.in-Some.is in
    let there = c.take_reference.ensures.left in
    record {
      ran = subst (λ (m : ℕ). exec hart Passes (steps.Down (steps.Held m)) old ≡ Ran Counts new) (sym (number-there k n hand was)) (did.ran Passes);
      kind = refl;
      honest = tt;
      still = tt;
      hand = there;
      fits = subst (λ h. HandFits hart new h) (sym there) (refers hart new hand (tables-stay hart old new hand c.requires.fits (ap (part_of g.D.Device.contents g.D.Device.failures) did.log) did.rest) k None);
      others = did.others;
      called = inl (ap (λ l. l.cache.device) did.log);
    }

pub returns-in-Dying : goal.returns-in-Dying
unfolding Honest answer_in
returns-in-Dying g c =
    let old = state_of g.D.Device.contents g.D.Device.failures c.args.core.now in
    let new = state_of g.D.Device.contents g.D.Device.failures c.drop_reference.new.self in
    let hart = c.args.hart in
    let hand = c.args.self.now in
    let k = c.args.seat in
    let n = c.in-Some.reference in
    let guard = c.in-Dying.guard in
    let did = c.in-Dying.ensures in
    let was = sym c.take_reference.ensures.is ∙ c.in-Some.is in
    let same : c.hold_reference.new.self ≡ hand = c.hold_reference.ensures ∙ ap (λ (m : ℕ). with_reference k (Some m) c.take_reference.new.self) did.own.0
    ∙ ap (with_reference k (Some n)) c.take_reference.ensures.left ∙ reference-back k n hand was in
    let there : c.hold_inode.new.self ≡ with_inode k (Some guard) hand = c.hold_inode.ensures ∙ ap (with_inode k (Some guard)) same in
    let number = number-there k n hand was in
    let own = did.own.1 in
    record {
      ran = subst (λ (m : ℕ). exec hart Passes (steps.Down (steps.Held m)) old ≡ Ran (dropped_by true (inode_in k c.hold_inode.new.self)) new) (sym number)
          (did.ran Passes ∙ ap (λ (m : ℕ). Ran (Dies m guard.value.content) new) (did.own.0 ∙ sym own.number)
          ∙ ap (λ (v : Inode). Ran (Dies v.number v.content) new) (sym (inode-in k guard c.hold_inode.new.self (ap (inode_at k) there ∙ inode-there k (Some guard) hand))));
      kind = refl;
      honest = tt;
      still = tt;
      hand = (guard, there, own.number ∙ sym number, dies_loaded hart c.in-Dying.reference n guard.value.content Passes old new (did.ran Passes));
      fits = subst (λ h. HandFits hart new h) (sym there)
          (inode-taken hart old new hand c.requires.fits k guard (ap (part_of g.D.Device.contents g.D.Device.failures) did.log)
          (record { hand = own.hand; number = refl; locked = own.locked }) did.rest (λ l f owns e. did.apart l f owns (e ∙ own.number)));
      others = did.others;
      called = inl (ap (λ l. l.cache.device) did.log);
    }
