use Rattle.inodes_on_blocks.proofs.Lemmas.{quiet_holds, quiet_image}
use Rattle.inodes_on_blocks.proofs.running.quiet_blocks_are_images.Goals as goal

pub returns : goal.returns
returns c = λ disk nodes owner left changing joined t h well these nobody. (
  quiet_holds disk nodes owner left changing joined h nobody,
  quiet_image disk nodes owner left changing joined h t well these nobody,
)
