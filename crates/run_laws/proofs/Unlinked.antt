-- If no hart has a call, what has no links is open, or a current directory.
use Rattle.run_laws.proofs.Vocabulary.{◌≡◌, inl, inr, ℕ, pos, ◌==◌, true, false, List, [], ◌∷◌, Option, sym, ◌∙◌, ap, subst, arith, nat_tests, Super, sizes_of, Theory, PlacedStep, fresh, run, Chain, Both, first_world, first, block_calls, WorldOf, Node, Version}
use Rattle.image_tree.specs.Inodes.{inode_of, is_live, is_node, is_positive}
use Rattle.image_tree.specs.Trees.{count_of}
use Rattle.image_tree.specs.Images.{node_of}
use Rattle.inode_machine.specs.Exec.{is_dead}
use Rattle.calls_on_blocks.specs.Layer as layers
use Rattle.inode_machine.specs.World.{World}
use Rattle.inodes_on_blocks.proofs.Nodes.{dead_node, live_node, no_node}
use Rattle.inodes_on_blocks.proofs.Trees.{nodes_are}
use Rattle.run_laws.specs.Idle.{IdleHartsAreThrough, inodes_after}
use Rattle.run_laws.specs.Laws.{RefinesWholeInodes}
use Rattle.run_laws.specs.Unlinked.{NothingIsLost}
use Rattle.run_laws.specs.WholeInodes.{IsStep, Operation, lowered_inode_calls}
use Rattle.run_laws.proofs.Idle.{idle_harts_have_begun_nothing}
use Rattle.run_laws.proofs.Referred.{DeadAreReferredTo, dead_stay}
use Rattle.run_laws.proofs.Worlds.{worlds_refine}
use Rattle.std.proofs.Common.{ℤ, negsuc}
use Rattle.tree_laws.proofs.Maps.{either}

-- ---- a mounted disk: its nodes have names

counted : (z : ℤ) → is_positive z ≡ true → (count_of z == 0) ≡ false
counted (pos n) is = grind (arith, nat_tests, is)
counted (negsuc n) is = absurd (let no : false ≡ true = is in cc)

none_dead : (disk : List (List ℕ)) (n : ℕ) → is_dead (node_of disk n) ≡ false
none_dead disk n = elim (either (is_node disk n)) [
  | inr none ↦ ap (λ (o : Option Node). is_dead o) (no_node disk n none)
  | inl node ↦ elim (either (is_live (inode_of disk n))) [
    | inr dead ↦ ap (λ (o : Option Node). is_dead o) (dead_node disk n dead)
    | inl live ↦ ap (λ (o : Option Node). is_dead o) (live_node disk n node live) ∙ counted (inode_of disk n).nlink live
  ]
]

at_first : (disk : List (List ℕ)) → DeadAreReferredTo (first_world disk)
at_first disk n is = absurd (
    let none : is_dead ((first_world disk).disk n) ≡ false =
    ap (λ (f : ℕ → Option Node). is_dead (f n)) (nodes_are disk) ∙ none_dead disk n in
    let no : true ≡ false = sym is ∙ none in
    cc)

-- ---- along a run

step_keeps : (version : Version) (t u : World) (h : ℕ) (e : Operation) → IsStep version t h e u → DeadAreReferredTo t → DeadAreReferredTo u
step_keeps version t u h e s dead =
    subst (λ (z : World). DeadAreReferredTo z) s.to
    (dead_stay version h s.outside e.op (λ _. e.mark) s.before s.after e.answer s.holds s.may s.goes
    (subst (λ (z : World). DeadAreReferredTo z) (sym s.from) dead))

module _ (sizes : Super) where
  abbrev L : Theory
  L = lowered_inode_calls sizes

  chain_keeps : (base t : World) (es : List (PlacedStep (lowered_inode_calls sizes))) → Chain L base es t → DeadAreReferredTo base
      → DeadAreReferredTo t
  chain_keeps base t [] c dead = subst (λ (z : World). DeadAreReferredTo z) (sym c) dead
  chain_keeps base t (e ∷ es) c dead = chain_keeps c.0 t es c.2 (step_keeps sizes.version base c.0 e.hart e.step c.1 dead)

-- ---- if no hart has a call

pub nothing_is_lost : {D : Type 0} (contents : D → List (List ℕ)) (failures : D → ℕ) (w : WorldOf D) → NothingIsLost contents failures w
nothing_is_lost contents failures w device events came new history mounted is idle n dead =
    let some = here n dead in
    let shown = through.shown.places.counts n in
    let owed_are = (through.all idle).1.references n in
    omega (arith, some, shown, owed_are)
  where
    disk : List (List ℕ)
    disk = contents w.harts.core.log.cache.device

    count : ℕ
    count = failures w.harts.core.log.cache.device

    same : w.sizes ≡ sizes_of disk
    same = mounted.sizes ∙ sym mounted.rests.disk.sizes

    refines : RefinesWholeInodes disk count history
    refines = (worlds_refine contents failures w device events came new history mounted is).0

    through : IdleHartsAreThrough contents failures new (inodes_after contents failures w history)
    through = idle_harts_have_begun_nothing contents failures w device events came new history mounted is

    at_end : DeadAreReferredTo (run (lowered_inode_calls (sizes_of disk)) history
        (fresh (lowered_inode_calls (sizes_of disk)) (first disk count))).world.seen
    at_end = chain_keeps (sizes_of disk) (first_world disk) _ _ refines.runs.leads (at_first disk)

    here : DeadAreReferredTo (inodes_after contents failures w history)
    here =
        subst (λ (z : Super). DeadAreReferredTo (run (block_calls z) history (fresh (block_calls z) (first disk count))).world.seen)
        (sym same)
        (subst (λ (z : Both layers.World World). DeadAreReferredTo z.seen) refines.world_is at_end)
