use Rattle.directory.proofs.Lemmas.{ap, List, ℕ, ◌++◌, length, drop-replicate}
use Rattle.directory.proofs.index.kept.Goals as goal

pub returns : goal.returns
returns c = rw c.copy_from_slice.ensures.after (ap (λ (zs : List ℕ). c.args.bytes.now ++ zs) (drop-replicate (length c.args.bytes.now) 32 0))
