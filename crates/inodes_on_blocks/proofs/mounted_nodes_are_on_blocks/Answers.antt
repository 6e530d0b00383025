use Rattle.inodes_on_blocks.proofs.Lemmas.{refl, mounted_ghost, mounted_on, mounted_tree}
use Rattle.inodes_on_blocks.proofs.mounted_nodes_are_on_blocks.Goals as goal

pub returns : goal.returns
returns c = λ contents seats members whole well none same. (
  mounted_ghost contents seats members whole well none same,
  mounted_on contents seats members whole well none same,
  (λ i. refl),
  mounted_tree contents seats members whole well none same,
)
