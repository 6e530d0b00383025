use Rattle.image_reports.proofs.Walking.{one_listing}
use Rattle.image_reports.proofs.walk.listings_are_one.Goals as goal

pub returns : goal.returns
returns c = one_listing
