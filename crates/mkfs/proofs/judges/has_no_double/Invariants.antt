use Rattle.mkfs.proofs.Lemmas.{names_of, Seen}
use Rattle.mkfs.proofs.judges.has_no_double.Given as goal

abbrev pub invariant-loop-file : goal.invariant-loop-file
invariant-loop-file l = Seen (λ k. k.now) (names_of l.files) l.seen.keys l.file-index
