use Rattle.fs_layout.proofs.Lemmas.{any_name}
use Rattle.fs_layout.proofs.name.names_have_room.Goals as goal

pub returns : goal.returns
returns c = any_name
