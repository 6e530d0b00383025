use Rattle.run_laws.proofs.SearchEnds.{all_see, claims_find}
use Rattle.run_laws.proofs.searches_see_all.Goals as goal

pub returns-clause-sees_all : goal.returns-clause-sees_all
returns-clause-sees_all c = all_see

pub returns-clause-finds_references : goal.returns-clause-finds_references
returns-clause-finds_references c = claims_find
