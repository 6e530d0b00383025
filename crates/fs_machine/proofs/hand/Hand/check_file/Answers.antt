use Rattle.fs_machine.proofs.Lemmas.{refl, inl, Passes, Honest, answer_in}
use Rattle.fs_machine.proofs.hand.Hand.check_file.Goals as goal

pub returns-in-None : goal.returns-in-None
unfolding Honest answer_in
returns-in-None g c =
    record {
      ran = c.in-None.ensures Passes;
      kind = refl;
      honest = tt;
      still = tt;
      hand = refl;
      fits = c.requires.fits;
      others = record { buffers = λ _ _ tied. tied; inodes = λ _ _ locked. locked };
      called = inl refl;
    }

pub returns-in-Some : goal.returns-in-Some
unfolding Honest answer_in
returns-in-Some g c =
    record {
      ran = c.in-Some.ensures Passes;
      kind = refl;
      honest = tt;
      still = tt;
      hand = refl;
      fits = c.requires.fits;
      others = record { buffers = λ _ _ tied. tied; inodes = λ _ _ locked. locked };
      called = inl refl;
    }
