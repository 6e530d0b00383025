use Rattle.image_versions.proofs.Places.{magics_tell, magics_only, numbers_tell, between}
use Rattle.image_versions.proofs.laws.magics_tell_versions.Goals as goal

pub returns-clause-tells : goal.returns-clause-tells
returns-clause-tells c = magics_tell

pub returns-clause-only : goal.returns-clause-only
returns-clause-only c = magics_only

pub returns-clause-numbers : goal.returns-clause-numbers
returns-clause-numbers c = numbers_tell

pub returns-clause-between : goal.returns-clause-between
returns-clause-between c = between
