-- In each run of a mounted world the calls go on as their operations acted.
use Rattle.run_laws.proofs.Vocabulary.{◌≡◌, ◌<◌, ◌∙◌, ℕ, true, List, refl, sym, subst, Option, None, Some, ap, Super, sizes_of, Call, put, hart_count, Theory, AllHonest, EventOf, Lawful, fresh, run, IsExplained, history, steps_of, ActOf, Both, placed_at, BeginsSome, IsStarted, Uses, own, placed_with, ExecResult, Waits, Ran, Stops, explains, Alone, own_one, Outside, AnswerBelow, Op, unspent, program, transactions_are_small, nothing, IsMountable, handlers, HasSpent, recorded_blocks, mounts_show_their_trees, affords, first, World, layer, shared_of, begins, block_calls, child_of, serves, first_holds, first_idle, served_is, begun_here, below_count, AllAnswer, IsHistory, WorldOf, all_honest, mountable, rests_erased, AreOf, AreOfFinished, CallsGoOnAsTheyActed, GoOnAsTheyActed, IsOperation, noted_inode_calls, Operation, inode_calls, lowered_inode_calls, operations, told_by, whole_inodes, Version, version_in}
use Rattle.inode_machine.specs.World as above
use Rattle.run_laws.proofs.CallFits.{call_fits, most_written}
use Rattle.run_laws.proofs.Faithful.{PlacesItself, faithful_shorter}
use Rattle.run_laws.proofs.FaithfulCalls.{faithful_calls, faithful_lawful, telling}
use Rattle.run_laws.proofs.Lowered.{has_inodes, lowered_lawful, none_yet, whole_lower_laws, whole_starts_both}
use Rattle.run_laws.proofs.Operations.{Within, all_within}
use Rattle.run_laws.proofs.Retold.{retold_begun, retold_honest, retold_whole}
use Rattle.run_laws.proofs.SameRuns.{honest_same}
use Rattle.run_laws.proofs.StepRuns.{all_by, steps_entries, steps_honest, steps_outcomes}
use Rattle.run_laws.proofs.Whole.{whole_lawful}

alone : (version : Version) → Alone (whole_inodes version)
alone version h v w xs o = o.0

itself : (version : Version) → PlacesItself (whole_inodes version) IsOperation
itself version h op m a w = (record { op = op; answer = a; mark = m a; told = told_by version h (m a) w }, refl, (told_by version h (m a) w, refl))

module _ (sizes : Super) where
  -- a step makes operations of its own hart alone
  pub alone_places : (h : ℕ) (op : Op) (a : AnswerBelow op) (m : Option (ActOf (whole_inodes sizes.version))) (w : Both World above.World)
      → (lowered_inode_calls sizes).M.places h op a m w ≡ all_by h (own h ((lowered_inode_calls sizes).M.places h op a m w))
  alone_places h op a None w = refl
  alone_places h op a (Some t) w = at ((whole_inodes sizes.version).go h t.outside t.op t.mark w.seen)
    where
      at : (d : ExecResult (above.Answer t.op) above.World)
          → placed_at (placed_with (whole_inodes sizes.version) h t.op t.mark w.seen) d
          ≡ all_by h (own h (placed_at (placed_with (whole_inodes sizes.version) h t.op t.mark w.seen) d))
      at Waits = refl
      at (Ran b u) = ap (λ (xs : List Operation). all_by h xs) (sym (own_one {A = Operation} h (record { op = t.op; answer = b; mark = t.mark b; told = told_by sizes.version h (t.mark b) w.seen })))
      at (Stops u) = refl

  is_below : (h : ℕ) (call : Call) → BeginsSome (inode_calls sizes.version) (layer sizes) (begins sizes) h call → (h < hart_count) × (serves call ≡ true)
  is_below h call can =
      let t : World = record (can.1) { children = put can.1.children h (child_of call) } in
      let b = begun_here h call can.0 (shared_of can.1) t can.2 can.3 in
      (below_count h b.hart, b.serves_it)

  none_spent : (h : ℕ) (call : Call) → BeginsSome (inode_calls sizes.version) (layer sizes) (begins sizes) h call → (w : Both World above.World) → IsStarted (inode_calls sizes.version) (layer sizes) h call w → (layer sizes).Base h w.real w.seen nothing → HasSpent sizes h unspent w.real.blocks
  none_spent h call can w from base = none_yet sizes h call w (is_below h call can).0 base.1 from

  uses : (h : ℕ) (call : Call) → BeginsSome (inode_calls sizes.version) (layer sizes) (begins sizes) h call → (w : Both World above.World) → IsStarted (inode_calls sizes.version) (layer sizes) h call w → (layer sizes).Base h w.real w.seen nothing → Uses (whole_inodes sizes.version) (Within sizes h) (program sizes.version call)
  uses h call can w from base =
      let b = is_below h call can in
      all_within sizes h b.0 (has_inodes sizes w.real.blocks w.seen from.shows.0 base.1) (most_written call) (program sizes.version call)
      (call_fits sizes.version call (served_is call b.1))

  pub faithful : Lawful (faithful_calls (inode_calls sizes.version) (layer sizes) (handlers sizes) (begins sizes) IsOperation)
  faithful =
      faithful_lawful (inode_calls sizes.version) (layer sizes) (handlers sizes) (begins sizes) IsOperation (whole_lawful sizes.version) (whole_lower_laws sizes) (whole_starts_both sizes) (lowered_lawful sizes) (alone sizes.version) (λ w. tt) (itself sizes.version)
      (recorded_blocks sizes.version (operations sizes.version)) (λ h r s. HasSpent sizes h s r.blocks) unspent (λ call. affords sizes.version (operations sizes.version) (program sizes.version call) unspent (transactions_are_small sizes.version call)) none_spent uses

module _ (disk : List (List ℕ)) (failures : ℕ) (events : List (EventOf Call Outside)) where
  abbrev sizes : Super
  sizes = sizes_of disk

  abbrev L : Theory
  L = lowered_inode_calls (sizes_of disk)

  abbrev N : Theory
  N = noted_inode_calls (sizes_of disk)

  abbrev O : Theory
  O = telling (lowered_inode_calls (sizes_of disk)) (AreOf (sizes_of disk))

  module _ (may : IsMountable disk) (honest : AllHonest (lowered_inode_calls (sizes_of disk)) events (fresh (lowered_inode_calls (sizes_of disk)) (first disk failures))) where
    explained : IsExplained O (O.M.tree (first disk failures)) (run O events (fresh O (first disk failures)))
    explained =
        let shows = mounts_show_their_trees disk failures may in
        explains O (faithful sizes) (first disk failures) events (first_holds disk failures shows) (first_idle disk failures shows) (retold_honest L (AreOfFinished sizes) (AreOf sizes) (first disk failures) events (steps_honest L (AreOfFinished sizes) (alone_places sizes) (first disk failures) events honest))

    go_on : GoOnAsTheyActed disk failures events
    go_on =
        record {
          outcomes_are = steps_outcomes L (AreOfFinished sizes) (alone_places sizes) (first disk failures) events;
          operations_are = steps_entries L (AreOfFinished sizes) (alone_places sizes) (first disk failures) events;
          finished = λ f i. retold_whole L (AreOfFinished sizes) (AreOf sizes) (first disk failures) (O.M.tree (first disk failures)) events explained (λ v. tt) f i;
          under_way = λ h r is.
              let b = retold_begun L (AreOfFinished sizes) (AreOf sizes) (first disk failures) (O.M.tree (first disk failures)) events explained (λ v. tt) h r is in
              faithful_shorter (whole_inodes (version_in disk)) (layer sizes) (handlers sizes) IsOperation b.1 nothing (program (version_in disk) r.call) (steps_of N r.start (history N (run N events (fresh N (first disk failures))))) b.0 b.2;
        }

pub calls_go_on : {D : Type 0} (contents : D → List (List ℕ)) (failures : D → ℕ) (w : WorldOf D) → CallsGoOnAsTheyActed contents failures w
calls_go_on contents failures w device events came new made mounted is =
    go_on disk count made (mountable contents failures device w.harts mounted.rests)
    (honest_same (sizes_of disk) made (fresh (block_calls (sizes_of disk)) (first disk count)) (fresh (lowered_inode_calls (sizes_of disk)) (first disk count)) refl
    (all_honest (sizes_of disk) made (fresh (block_calls (sizes_of disk)) (first disk count)) (subst (AllAnswer (sizes_of disk) made) (sym (rests_erased contents failures device w.harts mounted.rests)) here.answers)))
  where
    disk : List (List ℕ)
    disk = contents w.harts.core.log.cache.device

    count : ℕ
    count = failures w.harts.core.log.cache.device

    here : IsHistory contents failures (sizes_of disk) w.harts events came new made
    here = subst (λ (s : Super). IsHistory contents failures s w.harts events came new made) (mounted.sizes ∙ sym mounted.rests.disk.sizes) is
