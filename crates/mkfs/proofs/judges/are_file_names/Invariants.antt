use Rattle.mkfs.proofs.Lemmas.{ℕ, ◌<◌, get_or, NewFile, IsFileName}
use Rattle.mkfs.proofs.judges.are_file_names.Given as goal

abbrev pub invariant-loop-file : goal.invariant-loop-file
invariant-loop-file l = (k : ℕ) (d : NewFile) → k < l.file-index → IsFileName l.version (get_or l.files k d).name.items
