use Rattle.image_tree.proofs.Lemmas.{supers_tell}
use Rattle.image_tree.proofs.heads.supers_tell_versions.Goals as goal

pub returns : goal.returns
returns c = supers_tell
