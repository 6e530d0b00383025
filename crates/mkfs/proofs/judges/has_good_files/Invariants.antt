use Rattle.image_versions.specs.Shared.{largest_size}
use Rattle.mkfs.proofs.Lemmas.{ℕ, ◌<◌, ◌≤◌, get_or, length, NewFile}
use Rattle.mkfs.proofs.judges.has_good_files.Given as goal

abbrev pub invariant-loop-file : goal.invariant-loop-file
invariant-loop-file l = (k : ℕ) (d : NewFile) → k < l.file-index → length (get_or l.files k d).content.items ≤ largest_size
