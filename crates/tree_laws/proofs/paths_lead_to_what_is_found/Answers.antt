use Rattle.tree_laws.proofs.Kept.{path_found}
use Rattle.tree_laws.proofs.paths_lead_to_what_is_found.Goals as goal

pub returns : goal.returns
returns c = path_found
