use Rattle.fs_machine.proofs.Lemmas.{◌≡◌, ℕ, Some, None, refl, sym, ap, ◌∙◌, subst, inl, Ran, Passes, state_of, exec, Honest, HandFits, with_buffer, with_reference, answer_in, block-there, buffer-back, buffer-again, refers, only-buffer, no-buffer, take, GuardState, BufferState}
use Rattle.fs_machine.specs.Steps as steps
use Rattle.fs_machine.proofs.hand.Hand.claim.Goals as goal

pub claim-requires-clause-own : goal.claim-requires-clause-own
claim-requires-clause-own g c = c.requires.fits.buffers.own c.args.place c.in-Some.guard (sym c.take_buffer.ensures.is ∙ c.in-Some.is)

pub returns-in-Claimed : goal.returns-in-Claimed
unfolding Honest answer_in
returns-in-Claimed g c =
    let old = state_of g.D.Device.contents g.D.Device.failures c.args.core.now in
    let new = state_of g.D.Device.contents g.D.Device.failures c.claim.new.self in
    let hart = c.args.hart in
    let hand = c.args.self.now in
    let did = c.in-Claimed.ensures in
    let p = c.args.place in
    let k = c.args.seat in
    let was = sym c.take_buffer.ensures.is ∙ c.in-Some.is in
    let alone = c.requires.can.1 in
    let guard = c.in-Claimed.guard in
    let held : c.hold_buffer.new.self ≡ with_buffer p (Some guard) hand = c.hold_buffer.ensures ∙ ap (with_buffer p (Some guard)) c.take_buffer.ensures.left ∙ buffer-again p (Some guard) None hand in
    let back : with_buffer p (Some guard) hand ≡ hand = ap (λ (o : GuardState BufferState). with_buffer p (Some o) hand) did.kept.0 ∙ sym (buffer-again p (Some c.in-Some.guard) None hand) ∙ buffer-back p c.in-Some.guard hand was in
    let there = c.hold_reference.ensures in
    record {
      ran = subst (λ (b : ℕ). exec hart Passes (steps.Claim b (take c.args.self.now.count c.args.self.now.numbers)) old ≡ Ran (steps.Claims c.number-number.result) new) (sym (block-there p c.in-Some.guard hand was)) (did.ran Passes ∙ ap (λ (n : ℕ). Ran (steps.Claims n) new) (sym c.number-number.ensures));
      kind = refl;
      honest = tt;
      still = tt;
      hand = there ∙ ap (with_reference k (Some c.in-Claimed.reference)) (held ∙ back) ∙ ap (λ (n : ℕ). with_reference k (Some n) hand) (sym c.number-number.ensures);
      fits = subst (λ h. HandFits hart new h) (sym (there ∙ ap (with_reference k (Some c.in-Claimed.reference)) held))
          (refers hart new (with_buffer p (Some guard) hand) (only-buffer hart old new hand c.requires.fits p guard alone (record { hand = did.kept.1.hand; block = refl; tied = did.kept.1.tied }) did.rest) k (Some c.in-Claimed.reference));
      others = did.others;
      called = inl did.device;
    }

pub returns-in-NoPlace : goal.returns-in-NoPlace
unfolding Honest answer_in
returns-in-NoPlace g c =
    let old = state_of g.D.Device.contents g.D.Device.failures c.args.core.now in
    let new = state_of g.D.Device.contents g.D.Device.failures c.claim.new.self in
    let hart = c.args.hart in
    let hand = c.args.self.now in
    let did = c.in-NoPlace.ensures in
    let p = c.args.place in
    let k = c.args.seat in
    let was = sym c.take_buffer.ensures.is ∙ c.in-Some.is in
    let alone = c.requires.can.1 in
    let guard = c.in-NoPlace.guard in
    let held : c.hold_buffer-in-NoPlace.new.self ≡ with_buffer p (Some guard) hand = c.hold_buffer-in-NoPlace.ensures ∙ ap (with_buffer p (Some guard)) c.take_buffer.ensures.left ∙ buffer-again p (Some guard) None hand in
    let back : with_buffer p (Some guard) hand ≡ hand = ap (λ (o : GuardState BufferState). with_buffer p (Some o) hand) did.kept.0 ∙ sym (buffer-again p (Some c.in-Some.guard) None hand) ∙ buffer-back p c.in-Some.guard hand was in
    record {
      ran = subst (λ (b : ℕ). exec hart Passes (steps.Claim b (take c.args.self.now.count c.args.self.now.numbers)) old ≡ Ran steps.NoPlace new) (sym (block-there p c.in-Some.guard hand was)) (did.ran Passes);
      kind = refl;
      honest = tt;
      still = tt;
      hand = held ∙ back;
      fits = subst (λ h. HandFits hart new h) (sym held) (only-buffer hart old new hand c.requires.fits p guard alone (record { hand = did.kept.1.hand; block = refl; tied = did.kept.1.tied }) did.rest);
      others = did.others;
      called = inl did.device;
    }

pub returns-in-NoInode : goal.returns-in-NoInode
unfolding Honest answer_in
returns-in-NoInode g c =
    let old = state_of g.D.Device.contents g.D.Device.failures c.args.core.now in
    let new = state_of g.D.Device.contents g.D.Device.failures c.claim.new.self in
    let hart = c.args.hart in
    let hand = c.args.self.now in
    let did = c.in-NoInode.ensures in
    let p = c.args.place in
    let k = c.args.seat in
    let was = sym c.take_buffer.ensures.is ∙ c.in-Some.is in
    let alone = c.requires.can.1 in
    record {
      ran = subst (λ (b : ℕ). exec hart Passes (steps.Claim b (take c.args.self.now.count c.args.self.now.numbers)) old ≡ Ran steps.NoInode new) (sym (block-there p c.in-Some.guard hand was)) (did.ran Passes);
      kind = refl;
      honest = tt;
      still = tt;
      hand = c.take_buffer.ensures.left;
      fits = subst (λ h. HandFits hart new h) (sym c.take_buffer.ensures.left) (no-buffer hart old new hand c.requires.fits p alone did.rest);
      others = did.others;
      called = inl did.device;
    }
