-- The step that is the first to find no room. Either the kept tree knows of it then, or the hart's call is just after
-- a claim of an inode for which no place in memory was left. It hears so in its next step.
use Rattle.std.specs.Prelude.{◌≡◌, ◌⊎◌, ℕ, Bool, true, false, not, ◌&&◌, ◌||◌, List, [], Option, Some, None, get_or, is_some}
use Rattle.calls_on_blocks.proofs.Vocabulary.{refl, sym, ◌∙◌, ap, subst, inl, inr}
use Rattle.atomic_programs.proofs.Explains.{Some-inj}
use Rattle.atomic_programs.specs.Calls.{Made, State}
use Rattle.atomic_programs.specs.Joined.{Handover}
use Rattle.atomic_programs.specs.Plain.{Plain}
use Rattle.atomic_programs.specs.Prog.{ExecResult, Waits, Ran, Stops, Ret, Do, asks}
use Rattle.calls_on_blocks.specs.Theory.{block_calls, block_code}
use Rattle.fs_layout.specs.declared.superblock.Super.{Super}
use Rattle.fs_machine.specs.LogPart.{Passes}
use Rattle.hart_core.specs.Harts.{HartsOf, shared_of}
use Rattle.hart_core.specs.Telling.{RanAt, rest_of}
use Rattle.inode_machine.specs.Exec.{exec}
use Rattle.inode_machine.specs.Inodes.{InodeType}
use Rattle.inode_machine.specs.Marks.{go, with_mark}
use Rattle.inode_machine.specs.Rooms.{says_no_room}
use Rattle.inode_machine.specs.World as above
use Rattle.inode_machine.specs.World.Op.{Claim, Leave, LockFile, LockOpen, StatFile, Take}
use Rattle.inode_parts.specs.Telling.{GoesOrEnds, part_of}
use Rattle.inodes_on_blocks.specs.Handlers.{P}
use Rattle.inodes_on_blocks.specs.Lowering.{Carry}
use Rattle.inodes_on_blocks.specs.Programs.{handlers}
use Rattle.inodes_on_blocks.specs.Shown.{Shows}
use Rattle.path_walk.specs.Asks.{answer_to, mark_at, marked_as}
use Rattle.path_walk.specs.declared.asks.Claimed.TheVariants as claimed
use Rattle.path_walk.specs.declared.asks.Heard.{Heard}
use Rattle.path_walk.specs.declared.asks.Heard.TheVariants as heard
use Rattle.path_walk.specs.declared.asks.Mark.{Mark}
use Rattle.plain_tree.specs.Tree.{tree_of}
use Rattle.run_laws.proofs.RoomRuns.{after_clean}
use Rattle.run_laws.proofs.Running.{Goes, goes_on}
use Rattle.call_programs.specs.Asks.{spoils}
use Rattle.run_laws.specs.UnderWay.{ActingTime, ActsThen, EndsAsActed, InFirst, InLast, InOne, IsMadeBy, LeadTo, RunsAStep, SeesTruly, UnderWay, is_at_end, none_ran, time_of}
use Rattle.run_laws.specs.Vocabulary.{or_else}
use Rattle.syscalls.specs.Machines.{Running, TellsOf}
use Rattle.tree_histories.specs.Keeping.{KeptTree, Under, hart_in}
use Rattle.tree_histories.specs.Moving.{HasRun, MovesByAny, spoils as kept_spoils}
use Rattle.tree_histories.specs.Sights.{MarksAt, MarksBy, MarksIn, acts_first}
use Rattle.tree_laws.specs.History.{History}
use Rattle.whole_calls.specs.Wholes.{WholeFits, action_in, whole_of}
use Rattle.kept_histories.proofs.Claiming.{GivesBackOf, claim_short}
use Rattle.kept_histories.proofs.Lacking.{gives_lacks}
use Rattle.kept_histories.proofs.Lasting.{Lacks, SomeLacks}
use Rattle.kept_histories.proofs.Agreeing.{Agrees, Has, has}
use Rattle.kept_histories.proofs.Amid.{AreAmid}
use Rattle.kept_histories.proofs.Controls.{at_end}
use Rattle.kept_histories.proofs.Heads.{IsFineOp, MakesNone}
use Rattle.kept_histories.proofs.KeptCalls.{KeptAs, same_asked}
use Rattle.kept_histories.proofs.Marks.{calls_stay, or_true, spoils_none, spoils_so, version_stays}
use Rattle.kept_histories.proofs.ReadRooms.{is_read}
use Rattle.kept_histories.proofs.StepMarks.{HeardAt, SeesAlike, fine_unless, same_marks, text_marks}
use Rattle.kept_histories.proofs.Stepped.{Comes, comes_to}
use Rattle.kept_histories.proofs.Together.{CallGoes, HartAt, StillCalled, Together, call_goes, heard_so, still_called}
use Rattle.image_versions.specs.declared.version.Version.{Version}

-- ---- an operation that acts, and leaves the world unclean

true_false : {X : Type 0} → true ≡ false → X
true_false e = absurd cc

short_by : (a b : Bool) → b ≡ true → (not a && b) ≡ false → a ≡ true
short_by true b clean short = refl
short_by false b clean short = true_false (sym clean ∙ short)

-- its mark says that there was no room
acts_short : (version : Version) (h : ℕ) (x : above.Outside) (op : above.Op) (m : above.Answer op → Option above.Mark) (v w : above.World) (a : above.Answer op)
    → go version h x op m v ≡ Ran a w
    → v.clean ≡ true → w.clean ≡ false → spoils (m a) ≡ true
acts_short version h x op m v w a e clean short =
    short_by (spoils (m a)) v.clean clean (sym (after_clean version h (m a) v w a (exec version h x op v) (goes_on version h x op v)
    (by (exec version h x op v) (goes_on version h x op v) e)) ∙ short)
  where
    by : (d : ExecResult (above.Answer op) above.World) → Goes h v d → with_mark version h m d ≡ Ran a w → with_mark version h (λ _. m a) d ≡ Ran a w
    by Waits g e = absurd cc
    by (Stops u) g e = absurd g
    by (Ran b u) g e =
        let same : b ≡ a = cc in
        ap (λ (z : above.Answer op). with_mark version h (λ _. m z) (Ran b u)) (sym same) ∙ e

-- ---- when an operation acts

-- no mark of it makes a move
abbrev MakesNoMove : above.Op → Type 0
MakesNoMove op = (is_read op ≡ false) × ((m : above.Answer op → Option above.Mark) → IsFineOp op m → (a : above.Answer op) → MakesNone (m a))

-- in its first step, as it takes a lock; in its last one; a claim, in one of them; or it leaves, which takes no room
abbrev Sort : above.Op → Type 0
Sort op =
    ((time_of op ≡ InFirst) × (acts_first op ≡ true)) ⊎ (((time_of op ≡ InLast) × (acts_first op ≡ false))
    ⊎ (((time_of op ≡ InOne) × (acts_first op ≡ false) × MakesNoMove op) ⊎ ((a : above.Answer op) → says_no_room op a ≡ false)))

sort : (op : above.Op) → Sort op
sort (Take n looking) = inl (refl, refl)
sort (StatFile fd) = inl (refl, refl)
sort (LockFile fd) = inl (refl, refl)
sort (LockOpen fd n) = inl (refl, refl)
sort (Claim inode_type) = inr (inr (inl (refl, refl, (refl, λ m fine a. fine a))))
sort Leave = inr (inr (inr (λ a. refl)))
sort op = inr (inl (refl, refl))

-- a claim whose block is given back is one, and its mark says that there was no room if it is answered so
claim_spoils : (op : above.Op) (m : above.Answer op → Option above.Mark) (left : P (Handover (above.Answer op) Carry)) → GivesBackOf op left
    → ((a : above.Answer op) → spoils (m a) ≡ says_no_room op a) → (t : InodeType) × (op ≡ Claim t) × (spoils (m (answer_to [] op (heard.Claimed claimed.NoPlace))) ≡ true)
claim_spoils (Claim t) m left gives tells = (t, refl, tells above.NoPlace)
claim_spoils op m left gives tells = absurd gives

-- its program isn't at its end
gives_amid : (op : above.Op) (left : P (Handover (above.Answer op) Carry)) → GivesBackOf op left → at_end left ≡ false
gives_amid (Claim t) left gives = ap at_end gives.is
gives_amid op left gives = absurd gives

end_of : {A : Type 0} (p : P A) → is_at_end p ≡ true → (z : A) × (p ≡ Ret z)
end_of (Ret z) e = (z, refl)
end_of (Do op m k) e = absurd cc

-- ---- the step

-- If the kept tree's mark is that of an operation that found no room, that is known.
module _ (k : KeptTree) (h : ℕ) (v : Under) (m : Option above.Mark) where
  known_by : (o : Option Mark) (between : KeptTree) → MovesByAny k h o between → marked_as (action_in v.whole) o ≡ m → spoils m ≡ true → between.full ≡ true
  known_by None between by same e = true_false (sym e ∙ ap spoils (sym same))
  known_by (Some mk) between by same e =
      let so : kept_spoils mk ≡ true = sym (spoils_so (action_in v.whole) mk) ∙ ap spoils same ∙ e in
      ap (λ (z : KeptTree). z.full) (by.still (spoils_none mk so)) ∙ ap (λ (b : Bool). k.full || b) so ∙ or_true k.full

module _ {D : Type 0} (contents : D → List (List ℕ)) (failures : D → ℕ) (sizes : Super) (h : ℕ) (s : State (block_calls sizes)) (made : Made (block_calls sizes))
    (was now : ℕ → Option UnderWay) (r : RunsAStep sizes h Passes s made was now) (b : History) (old new : HartsOf D) (k : KeptTree)
    (agree : Agrees contents failures sizes s b old k was) (out : Option (Unit {0})) (came : Option Heard)
    (ran : RanAt h (get_or old.calls h None) out came (get_or new.calls h None) (shared_of contents failures old) (shared_of contents failures new))
    (amid : KeptTree) (kept : HasRun k h came amid) (fine : AreAmid new) (sees : SeesAlike sizes.version r.under (tree_of k.tree) s.world.seen (r.rest r.answer) (or_else r.acts r.under.acted))
    (leads : LeadTo (handlers sizes r.under.hand r.under.op r.under.mark) r.under.ran r.under.left)
    (tells_so : (a : above.Answer r.under.op) → spoils (r.under.mark a) ≡ says_no_room r.under.op a) (shows : Shows s.world.real.blocks s.world.seen)
    (clean : s.world.seen.clean ≡ true) (short : made.after.world.seen.clean ≡ false) where
  here : Has sizes r.under (get_or old.calls h None) (hart_in k h)
  here = has sizes r.under (get_or old.calls h None) (hart_in k h) (subst (λ (z : Option UnderWay). HartAt sizes z (get_or old.calls h None) (hart_in k h)) r.is (agree.harts h))

  -- ---- in code

  ran_here : RanAt h (Some here.machine) out came (get_or new.calls h None) (shared_of contents failures old) (shared_of contents failures new)
  ran_here = subst (λ (z : Option Running). RanAt h z out came (get_or new.calls h None) (shared_of contents failures old) (shared_of contents failures new)) here.is ran

  abbrev left : Running
  left = ran_here.0

  abbrev tells : TellsOf h here.machine out ran_here.0 (shared_of contents failures old) (shared_of contents failures new)
  tells = ran_here.1

  unended : left.control.ended ≡ false → at_end (part_of left.control left.hand) ≡ false
  unended e = by out ran_here.3 (subst (λ (z : Bool). GoesOrEnds here.machine.control here.machine.hand tells.answer out z left.control left.hand) e tells.tells.goes)
    where
      by : (o : Option (Unit {0})) → get_or new.calls h None ≡ rest_of o left → GoesOrEnds here.machine.control here.machine.hand tells.answer o false left.control left.hand
          → at_end (part_of left.control left.hand) ≡ false
      by None is g = fine h left is
      by (Some end) is g = absurd g

  comes : Comes sizes r.under (r.rest r.answer) (now h) left.control left.hand out left.control.ended
  comes =
      comes_to sizes h s made was now r (shared_of contents failures old) (shared_of contents failures new)
      (ap (λ (p : Plain (block_calls sizes) (block_code sizes)). p.shared.state) agree.code)
      here.machine left out tells here.together.stands here.together.sized unended

  heard_at : HeardAt r.under (r.rest r.answer) came
  heard_at =
      subst (HeardAt r.under (r.rest r.answer)) (sym ran_here.2)
      (heard_so sizes r.under (r.rest r.answer) (now h) left.control left.hand out left.control.ended comes)

  -- ---- the operation

  record ActsShort : Type 0 where
    a : above.Answer r.under.op
    is : r.acts ≡ Some a
    finds_none : spoils (r.under.mark a) ≡ true
    truly : SeesTruly sizes.version r.under.op a s.world.seen

  -- it acts in this step, and finds no room
  acts : ActsShort
  acts = by r.acts refl r.does
    where
      by : (o : Option (above.Answer r.under.op)) → r.acts ≡ o → IsMadeBy sizes.version h r.under o s.world.seen made.after.world.seen → ActsShort
      by None e does = true_false (sym clean ∙ ap (λ (w : above.World). w.clean) (sym does) ∙ short)
      by (Some a) e does = record {
        a = a;
        is = e;
        finds_none = acts_short sizes.version h does.0.0 r.under.op r.under.mark s.world.seen made.after.world.seen a does.0.1 clean short;
        truly = does.1;
      }

  acted : or_else r.acts r.under.acted ≡ Some acts.a
  acted = ap (λ (o : Option (above.Answer r.under.op)). or_else o r.under.acted) acts.is

  -- if it ends, with that answer
  ended : (z : Handover (above.Answer r.under.op) Carry) → r.rest r.answer ≡ Ret z → acts.a ≡ z.answer
  ended z is = Some-inj acts.a z.answer (sym acted ∙ subst (EndsAsActed r.under (or_else r.acts r.under.acted)) is r.ends)

  program : KeptAs sizes.version (Do r.under.op r.under.mark r.under.rest) here.call
  program = here.together.kept

  asked : asks (whole_of sizes.version here.call.listed here.call.whole) ≡ Some r.under.op
  asked = same_asked sizes.version (Do r.under.op r.under.mark r.under.rest) here.call program r.under.op refl

  -- the kept call's mark at what is heard is the operation's at that answer
  marked_at : (v : Under) → KeptAs sizes.version (Do r.under.op r.under.mark r.under.rest) v → (y : Heard) (text : List ℕ)
      → mark_at (whole_of sizes.version v.listed v.whole) y ≡ r.under.mark (answer_to text r.under.op y)
  marked_at v program y text =
      sym (same_marks sizes.version (Do r.under.op r.under.mark r.under.rest) v program y)
      ∙ text_marks sizes.version (Do r.under.op r.under.mark r.under.rest) v program [] text y

  -- ---- what is kept

  full_by : (y : Heard) → mark_at (whole_of sizes.version here.call.listed here.call.whole) y ≡ r.under.mark acts.a → MarksAt sizes.version here.call y kept.marked
      → amid.full ≡ true
  full_by y same marks =
      ap (λ (z : KeptTree). z.full) kept.hears.kept
      ∙ known_by k h here.call (r.under.mark acts.a) kept.marked kept.between kept.moves (sym (marks here.call.listed) ∙ same) acts.finds_none

  abbrev Result : Type 0
  Result = (amid.full ≡ true) ⊎ ((out ≡ None) × SomeLacks new amid)

  -- at the end of its program
  full_at_end : (z : Handover (above.Answer r.under.op) Carry) → r.rest r.answer ≡ Ret z → (begun : Bool) (y : Option Heard) → HeardAt r.under (r.rest r.answer) y
      → MarksIn sizes.version (tree_of k.tree) here.call (Some r.under.op) false begun y kept.marked → amid.full ≡ true
  full_at_end z is begun None at m = true_false (ap at_end (sym is) ∙ at)
  full_at_end z is begun (Some y) at m = full_by y (marked_at here.call program y at.2 ∙ sym (ap r.under.mark (ended at.0 at.1 ∙ at.3))) (by begun m)
    where
      by : (begun : Bool) → MarksIn sizes.version (tree_of k.tree) here.call (Some r.under.op) false begun (Some y) kept.marked
          → MarksAt sizes.version here.call y kept.marked
      by true m = m
      by false m = m

  full_first : none_ran r.under.ran ≡ true → acts_first r.under.op ≡ true → (y : Option Heard) → HeardAt r.under (r.rest r.answer) y
      → MarksIn sizes.version (tree_of k.tree) here.call (Some r.under.op) true false y kept.marked → amid.full ≡ true
  full_first none takes (Some y) at m = full_by y (marked_at here.call program y at.2 ∙ sym (ap r.under.mark (ended at.0 at.1 ∙ at.3))) m
  full_first none takes None at m =
      full_by m.0 (marked_at here.call program m.0 [] ∙ sym (sees takes none at m.0 acts.a m.1 acts.truly acted)) m.2

  -- ---- a claim whose block is given back

  version : kept.between.version ≡ sizes.version
  version = version_stays k h kept.marked kept.between kept.moves ∙ agree.version

  still : StillCalled here.call (hart_in kept.between h)
  still = still_called here.call (hart_in kept.between h) (hart_in k h) here.found (calls_stay k h kept.marked kept.between kept.moves h)

  kept_as : KeptAs sizes.version (Do r.under.op r.under.mark r.under.rest) still.call
  kept_as = subst (λ (z : Under). KeptAs sizes.version (Do r.under.op r.under.mark r.under.rest) z) (sym still.same) program

  fits : WholeFits sizes.version still.call.listed still.call.whole
  fits = subst (λ (z : Under). WholeFits sizes.version z.listed z.whole) (sym still.same) here.together.fits

  sized : left.control.sizes ≡ sizes
  sized = tells.tells.sizes ∙ here.together.sized

  goes : out ≡ None → CallGoes sizes r.under (r.rest r.answer) (now h) left h kept.between amid still.call still.is kept_as fits came kept.hears sized version
  goes e =
      call_goes sizes r.under (r.rest r.answer) (now h) left h kept.between amid still.call still.is kept_as fits came kept.hears sized version left.control.ended
      (subst (λ (o : Option (Unit {0})). Comes sizes r.under (r.rest r.answer) (now h) left.control left.hand o left.control.ended) e comes)
      ran_here.2

  lacks : GivesBackOf r.under.op (r.rest r.answer) → (o : Option (Unit {0})) → out ≡ o → (b : Bool) → Comes sizes r.under (r.rest r.answer) (now h) left.control left.hand o b
      → Result
  lacks gives (Some end) e false c = absurd c
  lacks gives (Some end) e true c = true_false (ap at_end (sym c.is) ∙ gives_amid r.under.op (r.rest r.answer) gives)
  lacks gives None e true c = true_false (ap at_end (sym c.is) ∙ gives_amid r.under.op (r.rest r.answer) gives)
  lacks gives None e false c =
      let on = goes e in
      let then_ : UnderWay = record r.under { ran = c.ran; left = r.rest r.answer; acted = c.acted } in
      let at : Together sizes then_ left on.then_ = subst (λ (z : Option UnderWay). HartAt sizes z (Some left) (Some on.then_)) c.is on.at in
      let amid_version : amid.version ≡ sizes.version = ap (λ (z : KeptTree). z.version) kept.hears.kept ∙ version in
      let claims = claim_spoils r.under.op r.under.mark (r.rest r.answer) gives tells_so in
      inr (
        e,
        record {
          hart = h;
          machine = left;
          call = on.then_;
          code = ran_here.3 ∙ ap (λ (o : Option (Unit {0})). rest_of o left) e;
          kept = on.found;
          lacks = subst (λ (z : Version). Lacks z left on.then_) (sym amid_version) (record {
            code = gives_lacks sizes.version then_ left.control left.hand c.stands gives;
            op = (claims.0, same_asked sizes.version (Do r.under.op r.under.mark r.under.rest) on.then_ at.kept r.under.op refl ∙ ap Some claims.1);
            fits = at.fits;
            spoils = ap spoils (marked_at on.then_ at.kept (heard.Claimed claimed.NoPlace) []) ∙ claims.2;
          });
        },
      )

  -- ---- all

  here_marks : MarksIn sizes.version (tree_of k.tree) here.call (Some r.under.op) (acts_first r.under.op) here.call.has_begun came kept.marked
  here_marks =
      subst (λ (z : Option Under). MarksBy sizes.version (tree_of k.tree) z came kept.marked) here.found
      (subst (λ (z : Version). MarksBy z (tree_of k.tree) (hart_in k h) came kept.marked) agree.version kept.marks) here.call.listed r.under.op here.together.fits asked

  marks_then : (first begun : Bool) → acts_first r.under.op ≡ first → here.call.has_begun ≡ begun → MarksIn sizes.version (tree_of k.tree) here.call (Some r.under.op) first begun came kept.marked
  marks_then first begun e f =
      subst (λ (z : Bool). MarksIn sizes.version (tree_of k.tree) here.call (Some r.under.op) z begun came kept.marked) e
      (subst (λ (z : Bool). MarksIn sizes.version (tree_of k.tree) here.call (Some r.under.op) (acts_first r.under.op) z came kept.marked) f here_marks)

  -- it acts then, by the step's place in its program
  acts_then : (t : ActingTime) → time_of r.under.op ≡ t → ActsThen t (none_ran r.under.ran) (is_at_end (r.rest r.answer)) true
  acts_then t e =
      subst (λ (z : ActingTime). ActsThen z (none_ran r.under.ran) (is_at_end (r.rest r.answer)) true) e
      (subst (λ (o : Option (above.Answer r.under.op)). ActsThen (time_of r.under.op) (none_ran r.under.ran) (is_at_end (r.rest r.answer)) (is_some o)) acts.is r.then_)

  none_made : MakesNoMove r.under.op → (a : above.Answer r.under.op) → MakesNone (r.under.mark a)
  none_made f = f.1 r.under.mark (fine_unless sizes.version (Do r.under.op r.under.mark r.under.rest) here.call program f.0)

  never_short : (m : Option above.Mark) → spoils m ≡ false → spoils m ≡ true → Result
  never_short m room e = true_false (sym e ∙ room)

  -- Full is known then, or the call lacks a place and hasn't heard so yet.
  pub first_short : Result
  first_short = by (sort r.under.op)
    where
      by : Sort r.under.op → Result
      by (inl f) =
          let none : none_ran r.under.ran ≡ true = sym (acts_then InFirst f.0) in
          inl (full_first none f.1 came heard_at (marks_then true false f.1 (here.together.begun ∙ ap not none)))
      by (inr (inl f)) =
          let end = end_of (r.rest r.answer) (sym (acts_then InLast f.0)) in
          inl (full_at_end end.0 end.1 here.call.has_begun came heard_at (marks_then false here.call.has_begun f.1 refl))
      by (inr (inr (inl f))) = elim (claim_short sizes h Passes s made was now r leads tells_so f.0 shows (none_made f.2) clean short) [
        | inl end ↦ inl (full_at_end end.0 end.1 here.call.has_begun came heard_at (marks_then false here.call.has_begun f.1 refl))
        | inr gives ↦ lacks gives out refl left.control.ended comes
      ]
      by (inr (inr (inr f))) = never_short (r.under.mark acts.a) (tells_so acts.a ∙ f acts.a) acts.finds_none
