-- In each run of a mounted world moves are made as the operations under way act.
use Rattle.run_laws.proofs.Vocabulary.{◌≡◌, ℕ, List, refl, sym, ◌∙◌, subst, Super, sizes_of, Call, Theory, AllHonest, EventOf, fresh, Outside, HasInodes, IsMountable, ShowsItsTree, mounts_show_their_trees, first, block_calls, first_holds, first_idle, AllAnswer, IsHistory, WorldOf, all_honest, mountable, rests_erased, AreOf, AreOfFinished, first_world, lowered_inode_calls, GoesOnAsItActs, MovesAreMadeAsOperationsAct}
use Rattle.inodes_on_blocks.specs.Mounted.{mounted}
use Rattle.run_laws.proofs.FaithfulCalls.{telling}
use Rattle.run_laws.proofs.FaithfulRuns.{alone_places, faithful}
use Rattle.run_laws.proofs.Followed.{goes_on_as_it_acts}
use Rattle.run_laws.proofs.Lowered.{has_inodes}
use Rattle.run_laws.proofs.Retold.{retold_honest}
use Rattle.run_laws.proofs.SameRuns.{honest_same}
use Rattle.run_laws.proofs.StepRuns.{steps_honest}

module _ (disk : List (List ℕ)) (failures : ℕ) (events : List (EventOf Call Outside)) (may : IsMountable disk)
    (honest : AllHonest (block_calls (sizes_of disk)) events (fresh (block_calls (sizes_of disk)) (first disk failures))) where
  abbrev sizes : Super
  sizes = sizes_of disk

  abbrev I : Theory
  I = lowered_inode_calls (sizes_of disk)

  abbrev O : Theory
  O = telling (lowered_inode_calls (sizes_of disk)) (AreOf (sizes_of disk))

  shows : ShowsItsTree disk failures
  shows = mounts_show_their_trees disk failures may

  inodes : HasInodes (sizes_of disk)
  inodes = has_inodes sizes (mounted disk failures) (first_world disk) shows.shows (shows.stands 0).1

  noted : AllHonest O events (fresh O (first disk failures))
  noted =
      retold_honest I (AreOfFinished sizes) (AreOf sizes) (first disk failures) events
      (steps_honest I (AreOfFinished sizes) (alone_places sizes) (first disk failures) events
      (honest_same sizes events (fresh (block_calls sizes) (first disk failures)) (fresh I (first disk failures)) refl honest))

  pub made_as_they_act : GoesOnAsItActs (sizes_of disk) (first disk failures) events
  made_as_they_act = goes_on_as_it_acts sizes (first disk failures) events (faithful sizes) inodes (first_holds disk failures shows) (first_idle disk failures shows) noted

pub moves_made : {D : Type 0} (contents : D → List (List ℕ)) (failures : D → ℕ) (w : WorldOf D) → MovesAreMadeAsOperationsAct contents failures w
moves_made contents failures w device events came new made mounts is =
    subst (λ (s : Super). GoesOnAsItActs s (first disk count) made) (sym same)
    (made_as_they_act disk count made (mountable contents failures device w.harts mounts.rests)
    (all_honest (sizes_of disk) made (fresh (block_calls (sizes_of disk)) (first disk count)) (subst (AllAnswer (sizes_of disk) made) (sym (rests_erased contents failures device w.harts mounts.rests)) here.answers)))
  where
    disk : List (List ℕ)
    disk = contents w.harts.core.log.cache.device

    count : ℕ
    count = failures w.harts.core.log.cache.device

    same : w.sizes ≡ sizes_of disk
    same = mounts.sizes ∙ sym mounts.rests.disk.sizes

    here : IsHistory contents failures (sizes_of disk) w.harts events came new made
    here = subst (λ (s : Super). IsHistory contents failures s w.harts events came new made) same is
