-- The calls on blocks, and the runs of a world, take few steps.
use Rattle.run_laws.proofs.Vocabulary.{◌≡◌, ◌≤◌, ℕ, Bool, Super, sizes_of, Call, put, and_true, Theory, Begins, fresh, Both, began_to, Keeps-fresh, begun_both, limit, is_covered, mounts_show_their_trees, first, World, shared_of, begins, block_calls, child_of, is_served, served_calls, first_holds, first_idle, lawful, begun_here, AreFew, CallsTakeFewSteps, version_in}
use Rattle.inode_machine.specs.World as above
use Rattle.run_laws.proofs.Counts.{each_fits}
use Rattle.run_laws.proofs.Limits.{limits}

-- a call that begins is one that may
few : (sizes : Super) (h : ℕ) (call : Call) (busy : ℕ → Bool) (w u : Both World above.World) → (block_calls sizes).start h call busy w ≡ Begins u → (n : ℕ) → n ≤ limit sizes.version call → AreFew sizes.version call n
few sizes h call busy w u e n le =
    let t : World = record (w.real) { children = put w.real.children h (child_of call) } in
    let b = begun_both (began_to w.seen ((served_calls sizes.version).start h call busy w.seen)) (begins sizes h call busy w.real) u e in
    (le, limits sizes.version call (and_true (is_covered call) (is_served call) (begun_here h call busy (shared_of w.real) t u.real b.0).serves_it).0)

pub calls_few : CallsTakeFewSteps
calls_few disk failures events mountable honest =
    let shows = mounts_show_their_trees disk failures mountable in
    let L : Theory = block_calls (sizes_of disk) in
    each_fits L (lawful (sizes_of disk)) (L.M.tree (first disk failures)) (AreFew (version_in disk)) (few (sizes_of disk)) events (fresh L (first disk failures)) honest
    (Keeps-fresh L (first disk failures) (first_holds disk failures shows) (first_idle disk failures shows))
