use Rattle.fs_machine.proofs.Lemmas.{refl, inl, Passes, Honest, answer_in}
use Rattle.fs_machine.proofs.hand.Hand.reply.Goals as goal

pub returns : goal.returns
unfolding Honest answer_in
returns g c told =
    record {
      ran = c.reply.ensures Passes;
      kind = refl;
      honest = tt;
      still = tt;
      hand = refl;
      fits = c.requires.fits;
      others = record { buffers = λ _ _ tied. tied; inodes = λ _ _ locked. locked };
      called = inl refl;
    }
