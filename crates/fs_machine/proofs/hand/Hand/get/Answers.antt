use Rattle.fs_machine.proofs.Lemmas.{ℕ, Option, List, subst, refl, sym, ap, ◌∙◌, inl, Ran, Passes, state_of, Honest, HandFits, answer_in, buffer-taken, content-there}
use Rattle.fs_machine.proofs.hand.Hand.get.Goals as goal

pub returns-in-Waits : goal.returns-in-Waits
unfolding Honest
returns-in-Waits g c told =
    record {
      ran = c.in-Waits.ensures.ran Passes;
      kind = tt;
      honest = tt;
      still = (refl, c.in-Waits.ensures.still);
      hand = tt;
      fits = subst (λ core. HandFits c.args.hart (state_of g.D.Device.contents g.D.Device.failures core) c.args.self.now) (sym c.in-Waits.ensures.still) c.requires.fits;
      others = c.in-Waits.ensures.others;
      called = inl c.in-Waits.ensures.device;
    }

pub returns-in-Held : goal.returns-in-Held
unfolding Honest answer_in
returns-in-Held g c told =
    let did = c.in-Held.ensures in
    let old = state_of g.D.Device.contents g.D.Device.failures c.args.core.now in
    let new = state_of g.D.Device.contents g.D.Device.failures c.get.new.self in
    let there = c.hold_buffer.ensures in
    record {
      ran = did.ran Passes ∙ ap (λ (o : Option (List ℕ)). Ran o new) (sym (content-there c.args.place c.in-Held.guard c.args.self.now c.hold_buffer.new.self there));
      kind = refl;
      honest = tt;
      still = tt;
      hand = (c.in-Held.guard, there, did.own.block);
      fits = subst (λ h. HandFits c.args.hart new h) (sym there)
          (buffer-taken c.args.hart old new c.args.self.now c.requires.fits c.args.place c.in-Held.guard did.tables
          (record { hand = did.own.hand; block = refl; tied = did.own.tied }) did.rest (λ k f own e. did.apart k f own (e ∙ did.own.block)));
      others = did.others;
      called = inl did.device;
    }
