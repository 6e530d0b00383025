use Rattle.tree_laws.proofs.History.{run_explained, IsHart, starts_alone, apart_alone}
use Rattle.tree_laws.proofs.Serial.{serial}
use Rattle.tree_laws.proofs.one_hart_is_explained.Goals as goal

pub returns : goal.returns
returns c = λ version base w h es k alone r. (run_explained version (IsHart h) base w es (apart_alone h) (starts_alone h es alone) k r, serial version base w h es k alone r)
