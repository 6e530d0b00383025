use Rattle.image_tree.proofs.Lemmas.{◌^◌, IsJumpTable}
use Rattle.image_tree.proofs.one_tree.reach_root.Given as goal

abbrev pub invariant-loop-doubling : goal.invariant-loop-doubling
invariant-loop-doubling l = IsJumpTable l.ups (2 ^ l._doubling) l.jumps.items
