use Rattle.image_reports.proofs.Pairs.{shown_read}
use Rattle.image_reports.proofs.words.shown_paths_are_read.Goals as goal

pub returns : goal.returns
returns c = shown_read
