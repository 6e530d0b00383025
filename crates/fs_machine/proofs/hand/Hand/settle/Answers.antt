use Rattle.fs_machine.proofs.Lemmas.{◌≡◌, ℕ, Some, None, refl, sym, ap, ◌∙◌, subst, inl, Ran, Passes, part_of, state_of, exec, Honest, HandFits, number_at, reference_at, with_inode, with_reference, answer_in, inode-given, refers, reference-again, inode-in, number-there, reference-there}
use Rattle.fs_machine.specs.Steps as steps
use Rattle.fs_machine.proofs.hand.Hand.settle.Goals as goal

pub settle-old-requires-clause-own : goal.settle-old-requires-clause-own
settle-old-requires-clause-own g c = c.requires.fits.inodes.own c.args.seat c.in-Some.guard (sym c.take_inode.ensures.is ∙ c.in-Some.is)

pub returns : goal.returns
unfolding Honest answer_in
returns g c told =
    let old = state_of g.D.Device.contents g.D.Device.failures c.args.core.now in
    let new = state_of g.D.Device.contents g.D.Device.failures c.settle-old.new.self in
    let hart = c.args.hart in
    let hand = c.args.self.now in
    let did = c.settle-old.ensures in
    let k = c.args.seat in
    let was = sym c.take_inode.ensures.is ∙ c.in-Some.is in
    let n = c.settle-old.result in
    let there : c.hold_reference.new.self ≡ with_reference k (Some n) (with_inode k None hand) = c.hold_reference.ensures ∙ ap (with_reference k (Some n)) c.take_reference.ensures.left
    ∙ reference-again k (Some n) None c.take_inode.new.self ∙ ap (with_reference k (Some n)) c.take_inode.ensures.left in
    let number = number-there k n c.hold_reference.new.self (ap (reference_at k) there ∙ reference-there k (Some n) (with_inode k None hand)) in
    record {
      ran = subst (λ v. exec hart Passes (steps.SetDirectory v) old ≡ Ran (number_at k c.hold_reference.new.self) new) (sym (inode-in k c.in-Some.guard hand was))
          (did.ran Passes ∙ ap (λ (m : ℕ). Ran m new) (sym number));
      kind = refl;
      honest = tt;
      still = tt;
      hand = (n, there);
      fits = subst (λ h. HandFits hart new h) (sym there) (refers hart new (with_inode k None hand) (inode-given hart old new hand c.requires.fits k c.in-Some.guard (ap (part_of g.D.Device.contents g.D.Device.failures) did.log) was did.rest) k (Some n));
      others = did.others;
      called = inl (ap (λ l. l.cache.device) did.log);
    }
