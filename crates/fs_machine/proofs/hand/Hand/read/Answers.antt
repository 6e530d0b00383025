use Rattle.fs_machine.proofs.Lemmas.{◌≡◌, ℕ, Some, None, List, refl, sym, ap, ◌∙◌, subst, inr, Ran, Stops, Passes, Fails, state_of, exec, Honest, HandFits, buffer_at, bytes_at, with_buffer, answer_in, block-there, bytes-there, buffer-back, buffer-again, buffer-there, buffer-changed, GuardState, BufferState}
use Rattle.fs_machine.specs.Steps as steps
use Rattle.fs_machine.proofs.hand.Hand.read.Goals as goal

pub read-requires-clause-own : goal.read-requires-clause-own
read-requires-clause-own g c = c.requires.fits.buffers.own c.args.place c.in-Some.guard (sym c.take_buffer.ensures.is ∙ c.in-Some.is)

pub returns-in-Ok : goal.returns-in-Ok
unfolding Honest answer_in
returns-in-Ok g c told =
    let old = state_of g.D.Device.contents g.D.Device.failures c.args.core.now in
    let new = state_of g.D.Device.contents g.D.Device.failures c.read.new.self in
    let hart = c.args.hart in
    let hand = c.args.self.now in
    let p = c.args.place in
    let did = c.in-Ok.ensures in
    let was = sym c.take_buffer.ensures.is ∙ c.in-Some.is in
    let read = c.read.new.guard in
    let there : c.hold_buffer.new.self ≡ with_buffer p (Some read) hand = c.hold_buffer.ensures ∙ ap (with_buffer p (Some read)) c.take_buffer.ensures.left ∙ buffer-again p (Some read) None hand in
    let block = block-there p c.in-Some.guard hand was in
    record {
      ran = subst (λ b. exec hart Passes (steps.Read b) old ≡ Ran (bytes_at p c.hold_buffer.new.self) new) (sym block)
          (did.ran ∙ ap (λ (bytes : List ℕ). Ran bytes new) (sym (bytes-there p read c.hold_buffer.new.self (ap (buffer_at p) there ∙ buffer-there p (Some read) hand))));
      kind = refl;
      honest = did.honest;
      still = tt;
      hand = (read, there, did.own.block ∙ sym block, did.valid);
      fits = subst (λ h. HandFits hart new h) (sym there)
          (buffer-changed hart old new hand c.requires.fits p c.in-Some.guard read did.tables was did.rest did.own.block (record { hand = did.own.hand; block = refl; tied = did.own.tied }));
      others = did.others;
      called = inr did.called;
    }

pub returns-in-Err : goal.returns-in-Err
unfolding Honest answer_in
returns-in-Err g c told =
    let old = state_of g.D.Device.contents g.D.Device.failures c.args.core.now in
    let new = state_of g.D.Device.contents g.D.Device.failures c.read.new.self in
    let hart = c.args.hart in
    let hand = c.args.self.now in
    let p = c.args.place in
    let did = c.in-Err.ensures in
    let was = sym c.take_buffer.ensures.is ∙ c.in-Some.is in
    let read = c.read.new.guard in
    let there : c.hold_buffer-in-Err.new.self ≡ with_buffer p (Some read) hand = c.hold_buffer-in-Err.ensures ∙ ap (with_buffer p (Some read)) c.take_buffer.ensures.left ∙ buffer-again p (Some read) None hand in
    let same : c.hold_buffer-in-Err.new.self ≡ hand = there ∙ ap (λ (o : GuardState BufferState). with_buffer p (Some o) hand) did.valid
    ∙ sym (buffer-again p (Some c.in-Some.guard) None hand) ∙ buffer-back p c.in-Some.guard hand was in
    record {
      ran = subst (λ b. exec hart (Fails (g.D.Device.contents c.read.new.self.log.cache.device)) (steps.Read b) old ≡ Stops new) (sym (block-there p c.in-Some.guard hand was)) did.ran;
      kind = tt;
      honest = did.honest;
      still = same;
      hand = tt;
      fits = subst (λ h. HandFits hart new h) (sym there)
          (buffer-changed hart old new hand c.requires.fits p c.in-Some.guard read did.tables was did.rest did.own.block (record { hand = did.own.hand; block = refl; tied = did.own.tied }));
      others = did.others;
      called = inr did.called;
    }
