use Rattle.fs_machine.proofs.Lemmas.{◌≡◌, ℕ, Option, None, refl, sym, ap, ◌∙◌, subst, inl, Ran, Passes, state_of, Honest, HandFits, with_txn, answer_in, log-stays, has-txn}
use Rattle.fs_machine.proofs.hand.Hand.leave.Goals as goal

pub returns : goal.returns
unfolding Honest answer_in
returns g c =
    let old = state_of g.D.Device.contents g.D.Device.failures c.args.core.now in
    let new = state_of g.D.Device.contents g.D.Device.failures c.leave.new.self in
    let hart = c.args.hart in
    let hand = c.args.self.now in
    let did = c.leave.ensures in
    let there : with_txn c.replace.new.dest hand ≡ with_txn None hand = ap (λ (t : Option ℕ). with_txn t hand) c.replace.ensures.after in
    record {
      ran = did.ran Passes ∙ ap (λ l. Ran l new) c.commits-commits.ensures;
      kind = refl;
      honest = tt;
      still = tt;
      hand = there;
      fits = subst (λ h. HandFits hart new h) (sym there) (has-txn hart new hand (log-stays hart old new hand c.requires.fits did.tables did.rest) None tt);
      others = did.others;
      called = inl did.device;
    }
