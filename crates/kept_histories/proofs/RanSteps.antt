-- A step that ran: the theory's state, code's harts and the kept tree agree after it as before it.
use Rattle.std.specs.Prelude.{◌≡◌, ◌≢◌, ◌⊎◌, ◌<◌, ℕ, Bool, true, false, List, Option, Some, None, get_or}
use Rattle.std.specs.Option.{option_map}
use Rattle.calls_on_blocks.proofs.Vocabulary.{refl, sym, ◌∙◌, ap, subst, inl, inr}
use Rattle.atomic_programs.proofs.Explains.{changed_other}
use Rattle.atomic_programs.proofs.Maps.{same_or}
use Rattle.atomic_programs.specs.Calls.{Made, State, Step}
use Rattle.atomic_programs.specs.Plain.{Plain, erase}
use Rattle.atomic_programs.specs.Prog.{Do}
use Rattle.calls_on_blocks.specs.History.{block_moves}
use Rattle.calls_on_blocks.specs.Theory.{block_calls, block_code}
use Rattle.fs_layout.specs.declared.superblock.Super.{Super}
use Rattle.fs_machine.specs.LogPart.{Passes}
use Rattle.hart_core.specs.Harts.{HartsOf, shared_of}
use Rattle.hart_core.specs.Telling.{RanAt, SetsAt, rest_of}
use Rattle.hart_core.specs.Worlds.{calls_of}
use Rattle.inode_machine.specs.Kept.{told_of}
use Rattle.inode_machine.specs.Kept.{placed}
use Rattle.inode_machine.specs.Making.{MakesPlaced}
use Rattle.inode_machine.specs.MoveCalls.{MoveMachine}
use Rattle.inode_parts.specs.Telling.{GoesOrEnds, part_of}
use Rattle.path_walk.specs.declared.asks.Heard.{Heard}
use Rattle.plain_tree.specs.Tree.{tree_of}
use Rattle.plain_tree.specs.declared.answer.Reply.{Reply}
use Rattle.run_laws.specs.UnderWay.{RunsAStep, StepsPlaceInTime, UnderWay, gone_on}
use Rattle.run_laws.specs.Vocabulary.{or_else}
use Rattle.syscalls.specs.Machines.{Running, TellsOf}
use Rattle.image_versions.specs.declared.version.Version.{Version}
use Rattle.tree_histories.proofs.Harts.{is_hart, other_hart, put_twice, same_hart}
use Rattle.tree_histories.specs.Books.{IsBook}
use Rattle.tree_histories.specs.Keeping.{HeardBy, KeptTree, Under, hart_in, passed, stage_of, walk_under, walking, with_hart}
use Rattle.tree_histories.specs.Moving.{HasRun, SameCalls}
use Rattle.tree_histories.specs.Sights.{MarksBy}
use Rattle.tree_laws.specs.History.{History, passes, replies}
use Rattle.tree_laws.specs.Moves.{Stage}
use Rattle.tree_laws.specs.Runs.{moves_on}
use Rattle.whole_calls.specs.Wholes.{WholeFits, action_in}
use Rattle.kept_histories.specs.Keeps.{Passes as JustPasses, Replies}
use Rattle.kept_histories.proofs.Agreeing.{Agrees, Has, book_put, has, hart_still, other_call, stands_still}
use Rattle.kept_histories.proofs.Amid.{AreAmid}
use Rattle.kept_histories.proofs.Controls.{at_end}
use Rattle.kept_histories.proofs.Found.{AllFound, acted_room}
use Rattle.kept_histories.proofs.KeptCalls.{KeptAs}
use Rattle.kept_histories.proofs.Marks.{PlacesAlike, calls_stay, version_stays}
use Rattle.kept_histories.proofs.Moved.{MovedOn, moved_on}
use Rattle.kept_histories.proofs.StepMarks.{HeardAt, SeesAlike, step_alike}
use Rattle.kept_histories.proofs.Stepped.{Comes, comes_to}
use Rattle.kept_histories.proofs.Together.{CallGoes, HartAt, StillCalled, call_goes, heard_so, stage_same, still_called}

module _ {D : Type 0} (contents : D → List (List ℕ)) (failures : D → ℕ) (sizes : Super) (in_time : StepsPlaceInTime) (h : ℕ) (s : State (block_calls sizes))
    (made : Made (block_calls sizes)) (was now : ℕ → Option UnderWay) (r : RunsAStep sizes h Passes s made was now) (b : History) (old new : HartsOf D) (k : KeptTree)
    (agree : Agrees contents failures sizes s b old k was) (out : Option (Unit {0})) (heard : Option Heard)
    (ran : RanAt h (get_or old.calls h None) out heard (get_or new.calls h None) (shared_of contents failures old) (shared_of contents failures new))
    (sets : SetsAt h old.calls new.calls) (amid : KeptTree) (kept : HasRun k h heard amid)
    (placed_so : MakesPlaced sizes.version h ((block_moves sizes).tree s.world) (placed sizes.version (block_moves sizes) (Step h Passes) s)
    ((block_moves sizes).tree made.after.world))
    (code : erase (block_calls sizes) (block_code sizes) made.after ≡ calls_of contents failures sizes new)
    (fine : AreAmid new) (found : AllFound was) (clean : made.after.world.seen.clean ≡ true)
    (sees : SeesAlike sizes.version r.under (tree_of k.tree) s.world.seen (r.rest r.answer) (or_else r.acts r.under.acted)) where
  abbrev N : MoveMachine
  N = block_moves sizes

  here : Has sizes r.under (get_or old.calls h None) (hart_in k h)
  here = has sizes r.under (get_or old.calls h None) (hart_in k h) (subst (λ (z : Option UnderWay). HartAt sizes z (get_or old.calls h None) (hart_in k h)) r.is (agree.harts h))

  ran_here : RanAt h (Some here.machine) out heard (get_or new.calls h None) (shared_of contents failures old) (shared_of contents failures new)
  ran_here = subst (λ (z : Option Running). RanAt h z out heard (get_or new.calls h None) (shared_of contents failures old) (shared_of contents failures new)) here.is ran

  abbrev left : Running
  left = ran_here.0

  abbrev tells : TellsOf h here.machine out ran_here.0 (shared_of contents failures old) (shared_of contents failures new)
  tells = ran_here.1

  unended : left.control.ended ≡ false → at_end (part_of left.control left.hand) ≡ false
  unended e = by out ran_here.3 (subst (λ (z : Bool). GoesOrEnds here.machine.control here.machine.hand tells.answer out z left.control left.hand) e tells.tells.goes)
    where
      by : (o : Option (Unit {0})) → get_or new.calls h None ≡ rest_of o left → GoesOrEnds here.machine.control here.machine.hand tells.answer o false left.control left.hand
          → at_end (part_of left.control left.hand) ≡ false
      by None is g = fine h left is
      by (Some end) is g = absurd g

  comes : Comes sizes r.under (r.rest r.answer) (now h) left.control left.hand out left.control.ended
  comes =
      comes_to sizes h s made was now r (shared_of contents failures old) (shared_of contents failures new)
      (ap (λ (p : Plain (block_calls sizes) (block_code sizes)). p.shared.state) agree.code)
      here.machine left out tells here.together.stands here.together.sized unended

  heard_at : HeardAt r.under (r.rest r.answer) heard
  heard_at =
      subst (HeardAt r.under (r.rest r.answer)) (sym ran_here.2)
      (heard_so sizes r.under (r.rest r.answer) (now h) left.control left.hand out left.control.ended comes)

  alike : PlacesAlike h (placed sizes.version N (Step h Passes) s) (action_in here.call.whole) kept.marked
  alike =
      step_alike sizes h Passes s made was now r here.call here.together.kept (tree_of k.tree) heard kept.marked heard_at
      (acted_room sizes h Passes s made was now r clean found) in_time here.together.fits here.together.begun
      (subst (λ (z : Option Under). MarksBy sizes.version (tree_of k.tree) z heard kept.marked) here.found
      (subst (λ (z : Version). MarksBy z (tree_of k.tree) (hart_in k h) heard kept.marked) agree.version kept.marks))
      sees

  placed_here : MakesPlaced k.version h (N.tree s.world) (placed sizes.version N (Step h Passes) s) (N.tree made.after.world)
  placed_here =
      subst (λ (z : Version). MakesPlaced z h (N.tree s.world) (placed sizes.version N (Step h Passes) s) (N.tree made.after.world)) (sym agree.version) placed_so

  moved : MovedOn N h k (N.tree s.world) (N.tree made.after.world) (placed sizes.version N (Step h Passes) s) agree.stage placed_here here.call here.found kept.marked kept.between kept.moves
  moved =
      moved_on N h k (N.tree s.world) (N.tree made.after.world)
      (placed sizes.version N (Step h Passes) s) agree.stage placed_here here.call here.found kept.marked kept.between
      kept.moves alike

  same_calls : SameCalls k kept.between
  same_calls = calls_stay k h kept.marked kept.between kept.moves

  version : kept.between.version ≡ sizes.version
  version = version_stays k h kept.marked kept.between kept.moves ∙ agree.version

  still : StillCalled here.call (hart_in kept.between h)
  still = still_called here.call (hart_in kept.between h) (hart_in k h) here.found (same_calls h)

  kept_as : KeptAs sizes.version (Do r.under.op r.under.mark r.under.rest) still.call
  kept_as = subst (λ (z : Under). KeptAs sizes.version (Do r.under.op r.under.mark r.under.rest) z) (sym still.same) here.together.kept

  fits : WholeFits sizes.version still.call.listed still.call.whole
  fits = subst (λ (z : Under). WholeFits sizes.version z.listed z.whole) (sym still.same) here.together.fits

  sized : left.control.sizes ≡ sizes
  sized = tells.tells.sizes ∙ here.together.sized

  -- the history with the move
  abbrev pub then_ : History
  then_ = moves_on (N.tree s.world) (N.tree made.after.world) h (told_of N (placed sizes.version N (Step h Passes) s)) b

  heard_by : HeardBy sizes.version (Some still.call) heard kept.hears.under
  heard_by =
      subst (λ (z : Option Under). HeardBy sizes.version z heard kept.hears.under) still.is
      (subst (λ (z : Version). HeardBy z (hart_in kept.between h) heard kept.hears.under) version kept.hears.hears)

  amid_book : IsBook amid then_
  amid_book =
      subst (λ (z : KeptTree). IsBook z then_) (sym kept.hears.kept)
      (book_put kept.between then_ h still.call kept.hears.under still.is (stands_still sizes.version still.call heard kept.hears.under heard_by)
      (moved.book b agree.book))

  -- the harts, if this one's is as it should be, and the others' calls have not changed after that
  all_at : (k' : KeptTree) → HartAt sizes (now h) (get_or new.calls h None) (hart_in k' h) → ((j : ℕ) → j ≢ h → hart_in k' j ≡ hart_in kept.between j)
      → (j : ℕ) → HartAt sizes (now j) (get_or new.calls j None) (hart_in k' j)
  all_at k' at others j = by (same_or j h)
    where
      by : (j ≡ h) ⊎ (j ≢ h) → HartAt sizes (now j) (get_or new.calls j None) (hart_in k' j)
      by (inl e) = subst (λ (i : ℕ). HartAt sizes (now i) (get_or new.calls i None) (hart_in k' i)) (sym e) at
      by (inr ne) =
          subst (λ (z : Option UnderWay). HartAt sizes z (get_or new.calls j None) (hart_in k' j)) (sym (ap (λ (f : ℕ → Option UnderWay). f j) r.goes_on ∙ changed_other was h (gone_on sizes r.under (or_else r.acts r.under.acted) (r.op, r.answer) (r.rest r.answer)) j ne))
          (subst (λ (z : Option Running). HartAt sizes (was j) z (hart_in k' j)) (sym (other_call h j old.calls new.calls sets ne))
          (hart_still sizes (was j) (get_or old.calls j None) (hart_in k j) (hart_in k' j) (agree.harts j) (ap (option_map (walking None)) (others j ne) ∙ same_calls j)))

  -- the call goes on
  pub ran_on : out ≡ None → (made_ : State (block_calls sizes)) → made_ ≡ made.after → (k' : KeptTree) → JustPasses amid k' → Agrees contents failures sizes made_ (passes then_) new k' now
  ran_on e made_ is k' p = record {
    code = ap (erase (block_calls sizes) (block_code sizes)) is ∙ code;
    harts = all_at k'
        (subst (λ (z : KeptTree). HartAt sizes (now h) (get_or new.calls h None) (hart_in z h)) (sym p.kept)
        (subst (λ (z : Option Under). HartAt sizes (now h) (get_or new.calls h None) z) (sym goes.found)
        (subst (λ (z : Option Running). HartAt sizes (now h) z (Some goes.then_)) (sym (ran_here.3 ∙ ap (λ (o : Option (Unit {0})). rest_of o left) e)) goes.at)))
        (λ j ne. ap (λ (z : KeptTree). hart_in z j) p.kept ∙ goes.others j ne);
    stage = ap stage_of p.kept ∙ goes.stage ∙ moved.stage ∙ ap (λ (z : State (block_calls sizes)). N.tree z.world) (sym is);
    book = p.book then_ amid_book;
    room = ap (λ (z : KeptTree). z.full) p.kept ∙ ap (λ (z : KeptTree). z.full) kept.hears.kept ∙ moved.full ∙ agree.room;
    version = ap (λ (z : KeptTree). z.version) p.kept ∙ ap (λ (z : KeptTree). z.version) kept.hears.kept ∙ version;
  }
    where
      goes : CallGoes sizes r.under (r.rest r.answer) (now h) left h kept.between amid still.call still.is kept_as fits heard kept.hears sized version
      goes =
          call_goes sizes r.under (r.rest r.answer) (now h) left h kept.between amid still.call still.is kept_as fits heard kept.hears sized version left.control.ended
          (subst (λ (o : Option (Unit {0})). Comes sizes r.under (r.rest r.answer) (now h) left.control left.hand o left.control.ended) e comes)
          ran_here.2

  -- .. or it has ended, and so has its walk
  pub ran_out : (end : Unit {0}) → out ≡ Some end → (now h ≡ None → (N.tree made.after.world).walk h ≡ None) → (made_ : State (block_calls sizes)) → made_ ≡ made.after → (k' : KeptTree) → (reply : Reply) → Replies amid h k'
      → Agrees contents failures sizes made_ (replies then_ h reply) new k' now
  ran_out end e rests made_ is k' reply p = record {
    code = ap (erase (block_calls sizes) (block_code sizes)) is ∙ code;
    harts = all_at k' at_h (λ j ne. ap (λ (z : KeptTree). hart_in z j) kept_is ∙ other_hart kept.between h None j ne);
    stage = ap stage_of kept_is ∙ stage_same kept.between h still.call None still.is walk ∙ moved.stage ∙ ap (λ (z : State (block_calls sizes)). N.tree z.world) (sym is);
    book = p.book then_ reply (subst (λ (z : ℕ). h < z) agree.book.harts (is_hart k h here.call here.found)) amid_book;
    room = ap (λ (z : KeptTree). z.full) kept_is ∙ moved.full ∙ agree.room;
    version = ap (λ (z : KeptTree). z.version) kept_is ∙ version;
  }
    where
      kept_is : k' ≡ passed (with_hart kept.between h None)
      kept_is = p.kept ∙ ap (λ (z : KeptTree). passed (with_hart z h None)) kept.hears.kept ∙ ap passed (put_twice kept.between h kept.hears.under None)

      ends : (b : Bool) → Comes sizes r.under (r.rest r.answer) (now h) left.control left.hand (Some end) b → now h ≡ None
      ends true c = c.now
      ends false c = absurd c

      none_now : now h ≡ None
      none_now = ends left.control.ended (subst (λ (o : Option (Unit {0})). Comes sizes r.under (r.rest r.answer) (now h) left.control left.hand o left.control.ended) e comes)

      none_left : get_or new.calls h None ≡ None
      none_left = ran_here.3 ∙ ap (λ (o : Option (Unit {0})). rest_of o left) e

      none_kept : hart_in k' h ≡ None
      none_kept = ap (λ (z : KeptTree). hart_in z h) kept_is ∙ same_hart kept.between h None h refl (is_hart kept.between h still.call still.is)

      at_h : HartAt sizes (now h) (get_or new.calls h None) (hart_in k' h)
      at_h = subst (λ (z : Option UnderWay). HartAt sizes z (get_or new.calls h None) (hart_in k' h)) (sym none_now)
          (subst (λ (z : Option Running). HartAt sizes None z (hart_in k' h)) (sym none_left) (subst (λ (z : Option Under). HartAt sizes None None z) (sym none_kept) tt))

      walk : walk_under kept.between.version None ≡ walk_under kept.between.version (Some still.call)
      walk = sym (rests none_now) ∙ ap (λ (m : Stage). m.walk h) (sym moved.stage) ∙ ap (walk_under kept.between.version) still.is
