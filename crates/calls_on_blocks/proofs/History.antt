-- Runs on a mounted disk as one list of tree steps.
use Rattle.calls_on_blocks.proofs.Vocabulary.{◌≡◌, ◌⊎◌, inl, ◌<◌, ℕ, Bool, List, [], ◌∷◌, ◌++◌, Option, Some, None, refl, sym, ◌∙◌, ap, subst, arith, Super, sizes_of, Version, version_in, Call, none-some, Tree, put, hart_count, tree_in, settle_again, settled_well, MoveStep, ExecResult, Waits, Ran, Stops, placed_with, Began, Refuses, Begins, Event, ActOf, Both, act_places, placed_at, began_to, begun_both, Outside, stage_of, go, IsMoving, RunsFrom, machine, Refusal, places_one, moves_history, moves_alone, start_is, ShowsItsTree, first_world, mounts_show_their_trees, block_moves, first, RunsOn, MountsHaveOneHistory, OneHartHasOneHistory, World, shared_of, serves, served_calls, child_of, begins as begins_below, block_calls}
use Rattle.tree_laws.specs.WellFormed.{IsWellFormed}
use Rattle.inode_machine.specs.World as above
use Rattle.inode_machine.proofs.RunMoves.{run_moves}
use Rattle.calls_on_blocks.specs.History.{MountsMakeMoves}
use Rattle.calls_on_blocks.proofs.Lawful.{lawful}
use Rattle.calls_on_blocks.proofs.Starting.{begun_here, below_count}

-- a step below places nothing, or what the operation that acts there places
places_any : (v : Version) (h : ℕ) (m : Option (ActOf (machine v))) (w : above.World) → (act_places (machine v) h m w ≡ []) ⊎ ((e : MoveStep) × (act_places (machine v) h m w ≡ (h, e) ∷ []))
places_any v h None w = inl refl
places_any v h (Some t) w = by (go v h t.outside t.op t.mark w)
  where
    by : (d : ExecResult (above.Answer t.op) above.World) → (placed_at (placed_with (machine v) h t.op t.mark w) d ≡ []) ⊎ ((e : MoveStep) × (placed_at (placed_with (machine v) h t.op t.mark w) d ≡ (h, e) ∷ []))
    by Waits = inl refl
    by (Ran b u) = places_one v h t.op b (t.mark b) w
    by (Stops u) = inl refl

-- a start leaves the tree and the walks
began_stage : (v : Version) (h : ℕ) (call : Call) (busy : ℕ → Bool) (w : above.World) (x : Began Refusal above.World) → (served_calls v).start h call busy w ≡ x → stage_of (began_to w x) ≡ stage_of w
began_stage v h call busy w (Refuses why) e = refl
began_stage v h call busy w (Begins u) e = (start_is serves h call busy w u e).stage

pub moving : (sizes : Super) → IsMoving sizes.version (block_moves sizes)
moving sizes = record {
  lawful = lawful sizes;
  one = λ h op a m w. places_any sizes.version h m w.seen;
  begins = λ h call busy w u e. begins h call busy w u e;
  rests = λ h w i. i.1.walk;
  settled = λ w. sym (settle_again w.seen.all);
}
  where
    begins : (h : ℕ) (call : Call) (busy : ℕ → Bool) (w u : Both World above.World) → (block_calls sizes).start h call busy w ≡ Begins u → (h < hart_count) × (stage_of u.seen ≡ stage_of w.seen)
    begins h call busy w u e =
        let t : World = record (w.real) { children = put w.real.children h (child_of call) } in
        let b = begun_both (began_to w.seen ((served_calls sizes.version).start h call busy w.seen)) (begins_below sizes h call busy w.real) u e in
        (below_count h (begun_here h call busy (shared_of w.real) t u.real b.0).hart, ap stage_of b.1 ∙ began_stage sizes.version h call busy w.seen ((served_calls sizes.version).start h call busy w.seen) refl)

-- as a mount gives them
pub first_holds : (disk : List (List ℕ)) (failures : ℕ) → ShowsItsTree disk failures → (block_calls (sizes_of disk)).M.Inv (first disk failures)
first_holds disk failures shows = ((shows.shows, λ g c lg e. absurd (none-some c e)), shows.inv)

pub first_idle : (disk : List (List ℕ)) (failures : ℕ) → ShowsItsTree disk failures → (h : ℕ) → (block_calls (sizes_of disk)).M.Idle h (first disk failures)
first_idle disk failures shows h = (shows.stands h, shows.idle h)

pub runs_from : (disk : List (List ℕ)) (failures : ℕ) (events : List (Event Call Outside)) → RunsOn disk failures events → RunsFrom (version_in disk) (block_moves (sizes_of disk)) (tree_in disk) (first disk failures) events
runs_from disk failures events r = record {
  holds = first_holds disk failures shows;
  idle = first_idle disk failures shows;
  tree = shows.settled;
  well = subst (λ (z : Tree). IsWellFormed z) shows.settled (settled_well (first_world disk).all shows.inv.well);
  honest = r.honest;
  clean = r.clean;
}
  where
    shows : ShowsItsTree disk failures
    shows = mounts_show_their_trees disk failures r.mountable

pub one_history : MountsHaveOneHistory
one_history disk failures events r calm = moves_history (version_in disk) (block_moves (sizes_of disk)) (moving (sizes_of disk)) (tree_in disk) (first disk failures) events (runs_from disk failures events r) calm

pub one_hart : OneHartHasOneHistory
one_hart disk failures h events r alone = moves_alone (version_in disk) (block_moves (sizes_of disk)) (moving (sizes_of disk)) (tree_in disk) (first disk failures) h events (runs_from disk failures events r) alone

pub makes_moves : MountsMakeMoves
makes_moves disk failures before later e r =
    run_moves (version_in disk) (block_moves (sizes_of disk)) (moving (sizes_of disk)) (tree_in disk) (first disk failures) before later e (runs_from disk failures (before ++ e ∷ later) r)
    (let size = shows.shows.size in let many = shows.shows.blocks.seen.good.many_inodes in omega (arith, size, many))
  where
    shows : ShowsItsTree disk failures
    shows = mounts_show_their_trees disk failures r.mountable
