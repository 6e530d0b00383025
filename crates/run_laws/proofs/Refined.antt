-- Runs on a mounted disk are runs of the machine of whole inodes.
use Rattle.run_laws.proofs.Vocabulary.{◌≡◌, refl, subst, Super, sizes_of, tree_of, tree_in, State, fresh, run, Chain, IsExplained, history, explains, inv_of, first_world, mounts_show_their_trees, first, block_calls, first_holds, first_idle, IsRunFrom, RunsRefineWholeInodes, lowered_inode_calls, unreserved}
use Rattle.inode_machine.specs.World as above
use Rattle.run_laws.proofs.Lowered.{lowered_lawful}
use Rattle.run_laws.proofs.Reserved.{rests_unreserved}
use Rattle.run_laws.proofs.SameRuns.{honest_same, outcomes_same, run_same}

is_run : (sizes : Super) (s : State (lowered_inode_calls sizes)) (base t : above.World) → t ≡ base → IsExplained (lowered_inode_calls sizes) t s → IsRunFrom sizes s base
is_run sizes s base t same e = record {
  leads = subst (λ (z : above.World). Chain (lowered_inode_calls sizes) z (history (lowered_inode_calls sizes) s) (unreserved s.world.seen)) same (e.chained tt);
  rises = e.rising;
  shown = λ on. (inv_of (lowered_inode_calls sizes) s.stopped s.world e.holds on).0;
  whole = λ f i. e.whole tt f i;
  begun = λ h r is. e.begun tt h r is;
  owned = e.owned;
  within = e.within;
  after = e.after;
}

pub runs_refine : RunsRefineWholeInodes
runs_refine disk failures events mountable honest =
    let sizes = sizes_of disk in
    let s = mounts_show_their_trees disk failures mountable in
    record {
      outcomes_are = outcomes_same sizes events (fresh (block_calls sizes) (first disk failures)) (fresh (lowered_inode_calls sizes) (first disk failures)) refl;
      world_is = λ i. (run_same sizes events (fresh (block_calls sizes) (first disk failures)) (fresh (lowered_inode_calls sizes) (first disk failures)) refl i).world;
      runs = is_run sizes (run (lowered_inode_calls sizes) events (fresh (lowered_inode_calls sizes) (first disk failures))) (first_world disk) (unreserved (first_world disk)) (rests_unreserved (tree_of (tree_in disk)))
          (explains (lowered_inode_calls sizes) (lowered_lawful sizes) (first disk failures) events (first_holds disk failures s) (first_idle disk failures s)
          (honest_same sizes events (fresh (block_calls sizes) (first disk failures)) (fresh (lowered_inode_calls sizes) (first disk failures)) refl honest));
    }
