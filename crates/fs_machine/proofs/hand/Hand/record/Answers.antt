use Rattle.fs_machine.proofs.Lemmas.{◌≡◌, ℕ, Some, None, List, refl, sym, ap, ◌∙◌, subst, inl, Ran, Passes, state_of, exec, Honest, HandFits, with_content, buffer_at, bytes_at, with_buffer, with_txn, answer_in, buffer-given, block-there, bytes-there, buffer-again, txn-back, prepared, held-with, option_map, GuardState, BufferState, IsHeld, IsOwn, LeavesAllBut}
use Rattle.fs_machine.specs.Steps as steps
use Rattle.fs_machine.proofs.hand.Hand.record.Goals as goal

pub put_changed-requires-clause-hand : goal.put_changed-requires-clause-hand
put_changed-requires-clause-hand g c =
    let i = prepared c.args.place c.requires.fits.0 c.args.self.now c.requires.fits.2.1.0 c.in-Some.guard c.requires.fits.2.0 c.requires.fits.2.1.1 (sym c.take_buffer.ensures.is ∙ c.in-Some.is) in
    ap (λ (g : GuardState BufferState). g.hart) i.is ∙ (c.requires.fits.1.buffers.own c.args.place i.was i.there).hand

pub put_changed-requires-clause-held : goal.put_changed-requires-clause-held
put_changed-requires-clause-held g c =
    let i = prepared c.args.place c.requires.fits.0 c.args.self.now c.requires.fits.2.1.0 c.in-Some.guard c.requires.fits.2.0 c.requires.fits.2.1.1 (sym c.take_buffer.ensures.is ∙ c.in-Some.is) in
    subst (λ (g : GuardState BufferState). IsHeld c.args.core.now.log.cache.seats g) (sym i.is)
    (held-with c.args.core.now.log.cache.seats i.was c.requires.fits.2.1.0 i.valid (c.requires.fits.1.buffers.own c.args.place i.was i.there).tied.held)

pub returns : goal.returns
unfolding Honest answer_in
returns g c told =
    let old = state_of g.D.Device.contents g.D.Device.failures c.args.core.now in
    let new = state_of g.D.Device.contents g.D.Device.failures c.put_changed.new.self in
    let hart = c.args.hart in
    let hand = c.args.self.now in
    let p = c.args.place in
    let did = c.put_changed.ensures in
    let before = c.requires.fits.0 in
    let bytes = c.requires.fits.2.1.0 in
    let was = sym c.take_buffer.ensures.is ∙ c.in-Some.is in
    let i = prepared p before hand bytes c.in-Some.guard c.requires.fits.2.0 c.requires.fits.2.1.1 was in
    let taken = c.take_buffer.new.self in
    let back : with_txn (Some c.put_changed.new.txn) taken ≡ taken = ap (λ (t : ℕ). with_txn (Some t) taken) did.kept ∙ txn-back c.in-Some-txn.txn taken c.in-Some-txn.is in
    let there : taken ≡ with_buffer p None before = c.take_buffer.ensures.left ∙ ap (with_buffer p None) c.requires.fits.2.1.1 ∙ buffer-again p None (option_map (with_content bytes) (buffer_at p before)) before in
    record {
      ran = subst (λ (b : ℕ). exec hart Passes (steps.Put b (Some (bytes_at p hand))) old ≡ Ran tt new) (sym (block-there p c.in-Some.guard hand was))
          (subst (λ (bytes : List ℕ). exec hart Passes (steps.Put c.in-Some.guard.value.block (Some bytes)) old ≡ Ran tt new) (sym (bytes-there p c.in-Some.guard hand was)) (did.ran Passes));
      kind = refl;
      honest = tt;
      still = tt;
      hand = back ∙ c.take_buffer.ensures.left;
      fits = subst (λ h. HandFits hart new h) (sym (back ∙ there))
          (buffer-given hart old new before c.requires.fits.1 p i.was did.tables i.there
          (subst (λ (g : GuardState BufferState). LeavesAllBut g.value.block (IsOwn hart) old new) i.is did.rest));
      others = did.others;
      called = inl did.device;
    }
