-- What is known of want of room stays known. A call just after a claim for which there was no place in memory stays
-- at that point. In its next step it hears so, and then that is known.
use Rattle.std.specs.Prelude.{◌≡◌, ◌≢◌, ◌⊎◌, ℕ, suc, Bool, true, false, ◌||◌, List, [], ◌∷◌, length, Option, Some, None, get_or}
use Rattle.std.specs.List.{list_any}
use Rattle.std.specs.Option.{option_map}
use Rattle.std.proofs.lemmas.List.Folds.{list_any_at}
use Rattle.calls_on_blocks.proofs.Vocabulary.{refl, sym, ◌∙◌, ap, subst, inl, inr}
use Rattle.atomic_programs.proofs.Maps.{same_or}
use Rattle.atomic_programs.specs.Joined.{Handover}
use Rattle.atomic_programs.specs.Prog.{Ret, Do, unmarked}
use Rattle.fs_layout.specs.declared.superblock.Super.{Super}
use Rattle.fs_machine.specs.Controls.{Goes}
use Rattle.fs_machine.specs.Steps as steps
use Rattle.fs_machine.specs.declared.hand.Hand.{Hand}
use Rattle.hart_core.specs.Harts.{HartsOf, shared_of}
use Rattle.hart_core.specs.Starts.{fault_of}
use Rattle.hart_core.specs.Telling.{NotesEvent, RanAt, StaysAt, hart_of, heard_in, rest_of, some_lacks_place}
use Rattle.hart_core.specs.declared.events.Came.{Came}
use Rattle.hart_core.specs.declared.events.Came.TheVariants as came
use Rattle.hart_core.specs.declared.events.Event.{Event as HartEvent}
use Rattle.hart_core.specs.declared.events.Event.TheVariants as event
use Rattle.hart_core.specs.declared.outcome.Outcome.TheVariants as outcome
use Rattle.inode_machine.specs.Inodes.{InodeType}
use Rattle.inode_machine.specs.World as above
use Rattle.inode_parts.specs.Leaving.{heard_if}
use Rattle.inode_parts.specs.Parts.{Message, Part}
use Rattle.inode_parts.specs.Telling.{GoesOrEnds, LoweredTells, PartEnds, lacks_place, part_of}
use Rattle.inode_parts.specs.declared.lowered.Lowered.{Lowered}
use Rattle.inodes_on_blocks.specs.Lowering.{Carry}
use Rattle.path_walk.specs.Asks.{asks, mark_at, marked_as}
use Rattle.path_walk.specs.declared.asks.Claimed.TheVariants as claimed
use Rattle.path_walk.specs.declared.asks.Heard.{Heard}
use Rattle.path_walk.specs.declared.asks.Heard.TheVariants as heard
use Rattle.path_walk.specs.declared.asks.Mark.{Mark}
use Rattle.plain_tree.specs.Tree.{tree_of}
use Rattle.plain_tree.specs.declared.step.Action.{Action}
use Rattle.call_programs.specs.Asks.{spoils}
use Rattle.syscalls.specs.Machines.{Running, lacks_place_at}
use Rattle.tree_histories.proofs.Harts.{other_hart}
use Rattle.tree_histories.proofs.Vocabulary.{cases_lt, get_or-eq_default}
use Rattle.tree_histories.specs.Keeping.{KeptTree, Under, hart_in, walking}
use Rattle.tree_histories.specs.Moving.{HasRun, MovesByAny, spoils as kept_spoils}
use Rattle.tree_histories.specs.Sights.{MarksAt, MarksBy, MarksIn}
use Rattle.whole_calls.specs.Wholes.{WholeFits, action_in, whole_of}
use Rattle.kept_histories.specs.Keeps.{KeepsEvent, KeepsRun, Passes, Replies}
use Rattle.kept_histories.proofs.Agreeing.{other_call}
use Rattle.kept_histories.proofs.Amid.{are_amid}
use Rattle.kept_histories.proofs.Controls.{at_end, same_end}
use Rattle.kept_histories.proofs.Marks.{calls_stay, or_true, spoils_none, spoils_so, version_stays}
use Rattle.kept_histories.proofs.Together.{StillCalled, still_called}
use Rattle.kept_histories.proofs.Lacking.{lacks_next}
use Rattle.image_versions.specs.declared.version.Version.{Version}

-- A hart's call is just after such a claim, in code and in the kept tree.
pub record Lacks (version : Version) (m : Running) (v : Under) : Type 0 where
  pub code : lacks_place m.control ≡ true
  pub op : (t : InodeType) × (asks (whole_of version v.listed v.whole) ≡ Some (above.Claim t))
  pub fits : WholeFits version v.listed v.whole
  pub spoils : spoils (mark_at (whole_of version v.listed v.whole) (heard.Claimed claimed.NoPlace)) ≡ true

pub record SomeLacks {D : Type 0} (w : HartsOf D) (k : KeptTree) : Type 0 where
  pub hart : ℕ
  pub machine : Running
  pub call : Under
  pub code : get_or w.calls hart None ≡ Some machine
  pub kept : hart_in k hart ≡ Some call
  pub lacks : Lacks k.version machine call

-- it is so wherever the call walks
lacks_still : (version : Version) (m n : Running) (v w : Under) → n.control ≡ m.control → walking None w ≡ walking None v → Lacks version m v → Lacks version n w
lacks_still version m n v w control same l = record {
  code = ap lacks_place control ∙ l.code;
  op = (l.op.0, ap (λ (z : Under). asks (whole_of version z.listed z.whole)) same ∙ l.op.1);
  fits = subst (λ (z : Under). WholeFits version z.listed z.whole) (sym same) l.fits;
  spoils = ap (λ (z : Under). spoils (mark_at (whole_of version z.listed z.whole) (heard.Claimed claimed.NoPlace))) same ∙ l.spoils;
}

-- ---- in code alone

some_none : {X A : Type 0} (o : Option A) (a : A) → o ≡ Some a → o ≡ None → X
some_none o a is none = absurd (let q : Some a ≡ None = sym is ∙ none in cc)

pub lacks_some : {D : Type 0} (w : HartsOf D) (h : ℕ) (m : Running) → get_or w.calls h None ≡ Some m → lacks_place m.control ≡ true → some_lacks_place w ≡ true
lacks_some w h m is lacks = elim (cases_lt h (length w.calls)) [
  | inl lt ↦ list_any_at lacks_place_at w.calls h None lt (ap lacks_place_at is ∙ lacks)
  | inr le ↦ some_none (get_or w.calls h None) m is (get_or-eq_default w.calls None le)
]

-- a call that lacks a place
abbrev Who : List (Option Running) → Type 0
Who calls = (h : ℕ) × (m : Running) × (get_or calls h None ≡ Some m) × (lacks_place m.control ≡ true)

who_first : (o : Option Running) (calls : List (Option Running)) → (list_any lacks_place_at calls ≡ true → Who calls) → (lacks_place_at o || list_any lacks_place_at calls) ≡ true → Who (o ∷ calls)
who_first None calls rest e = let w = rest e in (suc w.0, w.1, w.2, w.3)
who_first (Some m) calls rest e = by (lacks_place m.control) refl e
  where
    by : (b : Bool) → lacks_place m.control ≡ b → (b || list_any lacks_place_at calls) ≡ true → Who (Some m ∷ calls)
    by true is e = (0, m, refl, is)
    by false is e = let w = rest e in (suc w.0, w.1, w.2, w.3)

who_in : (calls : List (Option Running)) → list_any lacks_place_at calls ≡ true → Who calls
who_in [] e = absurd cc
who_in (o ∷ calls) e = who_first o calls (who_in calls) e

pub who_lacks : {D : Type 0} (w : HartsOf D) → some_lacks_place w ≡ true → (h : ℕ) × (m : Running) × (get_or w.calls h None ≡ Some m) × (lacks_place m.control ≡ true)
who_lacks w some = who_in w.calls some

-- ---- a mark by which there was no room

spoiled_full : (k : KeptTree) (h : ℕ) (s : Action) (o : Option Mark) (k' : KeptTree) → spoils (marked_as s o) ≡ true → MovesByAny k h o k' → k'.full ≡ true
spoiled_full k h s None k' e moves = absurd cc
spoiled_full k h s (Some m) k' e moves =
    let so : kept_spoils m ≡ true = sym (spoils_so s m) ∙ e in
    ap (λ (z : KeptTree). z.full) (moves.still (spoils_none m so)) ∙ ap (λ (b : Bool). k.full || b) so ∙ or_true k.full

-- ---- what an event leaves as it is

-- a call that starts has no fault
abbrev pub StartsFaultless : HartEvent → Came → Type 0
StartsFaultless (event.Start h call) came.Started = fault_of call ≡ None
StartsFaultless e c = Unit {0}

abbrev Same : KeptTree → KeptTree → ℕ → Type 0
Same k k' j = option_map (walking None) (hart_in k' j) ≡ option_map (walking None) (hart_in k j)

ran_same : (k : KeptTree) (h : ℕ) (x : Option Heard) (k' : KeptTree) → HasRun k h x k' → (j : ℕ) → j ≢ h → Same k k' j
ran_same k h x k' r j ne =
    ap (λ (z : KeptTree). option_map (walking None) (hart_in z j)) r.hears.kept
    ∙ ap (option_map (walking None)) (other_hart r.between h r.hears.under j ne) ∙ calls_stay k h r.marked r.between r.moves j

passed_same : (k : KeptTree) (k' : KeptTree) → Passes k k' → (j : ℕ) → hart_in k' j ≡ hart_in k j
passed_same k k' p j = ap (λ (z : KeptTree). hart_in z j) p.kept

replied_same : (k : KeptTree) (h : ℕ) (k' : KeptTree) → Replies k h k' → (j : ℕ) → j ≢ h → hart_in k' j ≡ hart_in k j
replied_same k h k' p j ne = ap (λ (z : KeptTree). hart_in z j) p.kept ∙ other_hart k h None j ne

-- the others' calls, but for their walks
others_same : (k : KeptTree) (e : HartEvent) (c : Came) (x : Option Heard) (k' : KeptTree) → StartsFaultless e c → KeepsEvent k e c x k' → (j : ℕ) → j ≢ hart_of e → Same k k' j
others_same k (event.Start h call) came.Started x k' right p j ne =
    let s = p right in
    ap (λ (z : KeptTree). option_map (walking None) (hart_in z j)) s.kept.kept ∙ ap (option_map (walking None)) (other_hart k h (Some s.kept.under) j ne)
others_same k (event.Start h call) (came.Refused why) x k' right p j ne = ap (option_map (walking None)) (passed_same k k' p j)
others_same k (event.Start h call) (came.Stepped out) x k' right p j ne = ap (option_map (walking None)) (passed_same k k' p j)
others_same k (event.Step h) came.Started x k' right p j ne = ap (option_map (walking None)) (passed_same k k' p j)
others_same k (event.Step h) (came.Refused why) x k' right p j ne = ap (option_map (walking None)) (passed_same k k' p j)
others_same k (event.Step h) (came.Stepped outcome.Idle) x k' right p j ne = ap (option_map (walking None)) (passed_same k k' p j)
others_same k (event.Step h) (came.Stepped outcome.Waits) x k' right p j ne = ap (option_map (walking None)) (passed_same k k' p j)
others_same k (event.Step h) (came.Stepped (outcome.Ran kind)) x k' right p j ne =
    ap (option_map (walking None)) (passed_same p.amid k' p.ends j) ∙ ran_same k h x p.amid p.runs j ne
others_same k (event.Step h) (came.Stepped (outcome.Done reply)) x k' right p j ne =
    ap (option_map (walking None)) (replied_same p.amid h k' p.ends j ne) ∙ ran_same k h x p.amid p.runs j ne
others_same k (event.Step h) (came.Stepped (outcome.Stopped why)) x k' right p j ne = ap (option_map (walking None)) (passed_same k k' p j)

-- ---- a part of which one operation is left

module _ (l : Lowered) (h : Hand) (answer : (o : steps.Op) → steps.Answer o) (out : Option (Unit {0})) (k : Lowered) (g : Hand) (op : steps.Op) (end : Handover Message Carry)
    (is : ◌≡◌ {A = Part} (part_of l h) (Do op unmarked (λ _. Ret end))) where
  goes_so : (q : Part) → Goes (part_of l h) answer q → Ret end ≡ q
  goes_so q goes = subst (λ (z : Part). Goes z answer q) is goes

  ends_as : (out : Option (Unit {0})) → PartEnds l h answer out k g → k.heard ≡ end.answer.1
  ends_as out p = sym p.heard ∙ sym (ap (λ (z : Handover Message Carry). z.answer.1) (same_end end p.ends (goes_so (Ret p.ends) p.goes)))

  -- it ends in its next step, and that is heard
  ends_so : (out ≡ None → at_end (part_of k g) ≡ false) → LoweredTells l h answer out k g → heard_if k.ended k.heard ≡ Some end.answer.1
  ends_so amid tells = by out k.ended amid tells.goes
    where
      by : (out : Option (Unit {0})) (b : Bool) → (out ≡ None → at_end (part_of k g) ≡ false) → GoesOrEnds l h answer out b k g → heard_if b k.heard ≡ Some end.answer.1
      by None false amid p = absurd (let q : true ≡ false = ap at_end (goes_so (part_of k g) p.goes) ∙ amid refl in cc)
      by (Some e) false amid p = absurd p
      by None true amid p = ap (λ (x : Heard). Some x) (ends_as None p)
      by (Some e) true amid p = ap (λ (x : Heard). Some x) (ends_as (Some e) p)

-- ---- what is known

passed_full : (k k' : KeptTree) → Passes k k' → k.full ≡ true → k'.full ≡ true
passed_full k k' p full = ap (λ (z : KeptTree). z.full) p.kept ∙ full

replied_full : (k : KeptTree) (h : ℕ) (k' : KeptTree) → Replies k h k' → k.full ≡ true → k'.full ≡ true
replied_full k h k' p full = ap (λ (z : KeptTree). z.full) p.kept ∙ full

moved_full : (k : KeptTree) (h : ℕ) (o : Option Mark) (k' : KeptTree) → MovesByAny k h o k' → k.full ≡ true → k'.full ≡ true
moved_full k h None k' moves full = ap (λ (z : KeptTree). z.full) moves ∙ full
moved_full k h (Some m) k' moves full = moves.grows full

ran_full : (k : KeptTree) (h : ℕ) (x : Option Heard) (k' : KeptTree) → HasRun k h x k' → k.full ≡ true → k'.full ≡ true
ran_full k h x k' r full = ap (λ (z : KeptTree). z.full) r.hears.kept ∙ moved_full k h r.marked r.between r.moves full

-- the version stays
ran_version : (k : KeptTree) (h : ℕ) (x : Option Heard) (k' : KeptTree) → HasRun k h x k' → k'.version ≡ k.version
ran_version k h x k' r = ap (λ (z : KeptTree). z.version) r.hears.kept ∙ version_stays k h r.marked r.between r.moves

passed_version : (k k' : KeptTree) → Passes k k' → k'.version ≡ k.version
passed_version k k' p = ap (λ (z : KeptTree). z.version) p.kept

same_version : (k : KeptTree) (e : HartEvent) (c : Came) (x : Option Heard) (k' : KeptTree) → StartsFaultless e c → KeepsEvent k e c x k' → k'.version ≡ k.version
same_version k (event.Start h call) came.Started x k' right p = ap (λ (z : KeptTree). z.version) (p right).kept.kept
same_version k (event.Start h call) (came.Refused why) x k' right p = passed_version k k' p
same_version k (event.Start h call) (came.Stepped out) x k' right p = passed_version k k' p
same_version k (event.Step h) came.Started x k' right p = passed_version k k' p
same_version k (event.Step h) (came.Refused why) x k' right p = passed_version k k' p
same_version k (event.Step h) (came.Stepped outcome.Idle) x k' right p = passed_version k k' p
same_version k (event.Step h) (came.Stepped outcome.Waits) x k' right p = passed_version k k' p
same_version k (event.Step h) (came.Stepped (outcome.Ran kind)) x k' right p = passed_version p.amid k' p.ends ∙ ran_version k h x p.amid p.runs
same_version k (event.Step h) (came.Stepped (outcome.Done reply)) x k' right p = ap (λ (z : KeptTree). z.version) p.ends.kept ∙ ran_version k h x p.amid p.runs
same_version k (event.Step h) (came.Stepped (outcome.Stopped why)) x k' right p = passed_version k k' p

-- Want of room that is known stays known.
pub stays_full : (k : KeptTree) (e : HartEvent) (c : Came) (x : Option Heard) (k' : KeptTree) → StartsFaultless e c → KeepsEvent k e c x k' → k.full ≡ true → k'.full ≡ true
stays_full k (event.Start h call) came.Started x k' right p full = ap (λ (z : KeptTree). z.full) (p right).kept.kept ∙ full
stays_full k (event.Start h call) (came.Refused why) x k' right p full = passed_full k k' p full
stays_full k (event.Start h call) (came.Stepped out) x k' right p full = passed_full k k' p full
stays_full k (event.Step h) came.Started x k' right p full = passed_full k k' p full
stays_full k (event.Step h) (came.Refused why) x k' right p full = passed_full k k' p full
stays_full k (event.Step h) (came.Stepped outcome.Idle) x k' right p full = passed_full k k' p full
stays_full k (event.Step h) (came.Stepped outcome.Waits) x k' right p full = passed_full k k' p full
stays_full k (event.Step h) (came.Stepped (outcome.Ran kind)) x k' right p full = passed_full p.amid k' p.ends (ran_full k h x p.amid p.runs full)
stays_full k (event.Step h) (came.Stepped (outcome.Done reply)) x k' right p full = replied_full p.amid h k' p.ends (ran_full k h x p.amid p.runs full)
stays_full k (event.Step h) (came.Stepped (outcome.Stopped why)) x k' right p full = passed_full k k' p full

-- ---- the step in which the call hears it

-- in code
told_so : (l : Lowered) (h : Hand) (answer : (o : steps.Op) → steps.Answer o) (out : Option (Unit {0})) (k : Lowered) (g : Hand) → lacks_place l ≡ true
    → (out ≡ None → at_end (part_of k g) ≡ false) → LoweredTells l h answer out k g → heard_if k.ended k.heard ≡ Some (heard.Claimed claimed.NoPlace)
told_so l h answer out k g lacks amid tells =
    let next = lacks_next l h lacks in
    ends_so l h answer out k g (steps.Put next.0 None) (record { answer = (next.1, heard.Claimed claimed.NoPlace); carry = next.2 }) next.3 amid tells

-- .. and in what is kept
heard_full : (k : KeptTree) (h : ℕ) (k' : KeptTree) (m : Running) (v : Under) → hart_in k h ≡ Some v → Lacks k.version m v → HasRun k h (Some (heard.Claimed claimed.NoPlace)) k' → k'.full ≡ true
heard_full k h k' m v is l r =
    ap (λ (z : KeptTree). z.full) r.hears.kept
    ∙ spoiled_full k h (action_in v.whole) r.marked r.between
    (sym (ap spoils (at v.has_begun (marks v.listed (above.Claim l.op.0) l.fits l.op.1) v.listed)) ∙ l.spoils) r.moves
  where
    marks : MarksBy k.version (tree_of k.tree) (Some v) (Some (heard.Claimed claimed.NoPlace)) r.marked
    marks = subst (λ (z : Option Under). MarksBy k.version (tree_of k.tree) z (Some (heard.Claimed claimed.NoPlace)) r.marked) is r.marks

    at : (begun : Bool) → MarksIn k.version (tree_of k.tree) v (Some (above.Claim l.op.0)) false begun (Some (heard.Claimed claimed.NoPlace)) r.marked → MarksAt k.version v (heard.Claimed claimed.NoPlace) r.marked
    at true m = m
    at false m = m

module _ {D : Type 0} (contents : D → List (List ℕ)) (failures : D → ℕ) (sizes : Super) where
  -- ---- an event

  faultless : (e : HartEvent) (old : HartsOf D) (k : KeptTree) (c : Came) (new : HartsOf D) (k' : KeptTree) → NotesEvent contents failures (λ a d x b. KeepsEvent a e d x b) sizes e old k c new k'
      → StartsFaultless e c
  faultless (event.Start h call) old k came.Started new k' n = n.tells.place.2
  faultless (event.Start h call) old k (came.Refused why) new k' n = tt
  faultless (event.Start h call) old k (came.Stepped out) new k' n = tt
  faultless (event.Step h) old k c new k' n = tt

  pub event_full : (e : HartEvent) (old : HartsOf D) (k : KeptTree) (c : Came) (new : HartsOf D) (k' : KeptTree) → NotesEvent contents failures (λ a d x b. KeepsEvent a e d x b) sizes e old k c new k'
      → k.full ≡ true → k'.full ≡ true
  event_full e old k c new k' n full = stays_full k e c (heard_in c n.heard) k' (faultless e old k c new k' n) n.took full

  module _ (old : HartsOf D) (k : KeptTree) (new : HartsOf D) (k' : KeptTree) (s : SomeLacks old k) where
    -- the call stays where it is
    stands_on : (o : Option Running) → get_or new.calls s.hart None ≡ o → StaysAt (Some s.machine) o → Same k k' s.hart → k'.version ≡ k.version → SomeLacks new k'
    stands_on None is stays same version = absurd stays
    stands_on (Some m) is stays same version =
        let v : StillCalled s.call (hart_in k' s.hart) = still_called s.call (hart_in k' s.hart) (hart_in k s.hart) s.kept same in
        record {
          hart = s.hart;
          machine = m;
          call = v.call;
          code = is;
          kept = v.is;
          lacks = subst (λ (z : Version). Lacks z m v.call) (sym version) (lacks_still k.version s.machine m s.call v.call stays.0 v.same s.lacks);
        }

    stays_there : StaysAt (get_or old.calls s.hart None) (get_or new.calls s.hart None) → Passes k k' → SomeLacks new k'
    stays_there stays p =
        stands_on (get_or new.calls s.hart None) refl (subst (λ (z : Option Running). StaysAt z (get_or new.calls s.hart None)) s.code stays)
        (ap (option_map (walking None)) (passed_same k k' p s.hart)) (passed_version k k' p)

    -- it runs a step
    told : (out : Option (Unit {0})) (x : Option Heard)
        → RanAt s.hart (get_or old.calls s.hart None) out x (get_or new.calls s.hart None) (shared_of contents failures old) (shared_of contents failures new)
        → ((m : Running) → get_or new.calls s.hart None ≡ Some m → at_end (part_of m.control m.hand) ≡ false) → x ≡ Some (heard.Claimed claimed.NoPlace)
    told out x ran amid = here.2 ∙ told_so s.machine.control s.machine.hand here.1.answer out here.0.control here.0.hand s.lacks.code goes here.1.tells
      where
        here : RanAt s.hart (Some s.machine) out x (get_or new.calls s.hart None) (shared_of contents failures old) (shared_of contents failures new)
        here = subst (λ (z : Option Running). RanAt s.hart z out x (get_or new.calls s.hart None) (shared_of contents failures old) (shared_of contents failures new)) s.code ran

        goes : out ≡ None → at_end (part_of here.0.control here.0.hand) ≡ false
        goes e = amid here.0 (here.3 ∙ ap (λ (o : Option (Unit {0})). rest_of o here.0) e)

    runs : (x : Option Heard) → x ≡ Some (heard.Claimed claimed.NoPlace) → (amid : KeptTree) → HasRun k s.hart x amid → amid.full ≡ true
    runs x is amid r = heard_full k s.hart amid s.machine s.call s.kept s.lacks (subst (λ (z : Option Heard). HasRun k s.hart z amid) is r)

    own : (e : HartEvent) (c : Came) → NotesEvent contents failures (λ a d x b. KeepsEvent a e d x b) sizes e old k c new k' → s.hart ≡ hart_of e → (k'.full ≡ true) ⊎ SomeLacks new k'
    own (event.Start h call) came.Started n e =
        some_none (get_or old.calls s.hart None) s.machine s.code (ap (λ (j : ℕ). get_or old.calls j None) e ∙ n.tells.place.0)
    own (event.Start h call) (came.Refused why) n e = inr (stays_there (subst (λ (j : ℕ). StaysAt (get_or old.calls j None) (get_or new.calls j None)) (sym e) n.tells.place) n.took)
    own (event.Start h call) (came.Stepped out) n e = absurd n.tells.place
    own (event.Step h) came.Started n e = absurd n.tells.place
    own (event.Step h) (came.Refused why) n e = absurd n.tells.place
    own (event.Step h) (came.Stepped outcome.Idle) n e = inr (stays_there (subst (λ (j : ℕ). StaysAt (get_or old.calls j None) (get_or new.calls j None)) (sym e) n.tells.place) n.took)
    own (event.Step h) (came.Stepped outcome.Waits) n e = inr (stays_there (subst (λ (j : ℕ). StaysAt (get_or old.calls j None) (get_or new.calls j None)) (sym e) n.tells.place) n.took)
    own (event.Step h) (came.Stepped (outcome.Ran kind)) n e =
        let x : n.heard ≡ Some (heard.Claimed claimed.NoPlace) =
        told None n.heard (subst (λ (j : ℕ). RanAt j (get_or old.calls j None) None n.heard (get_or new.calls j None) (shared_of contents failures old) (shared_of contents failures new)) (sym e) n.tells.place)
        (are_amid contents failures new n.fits s.hart) in
        inl (passed_full n.took.amid k' n.took.ends (runs n.heard x n.took.amid (subst (λ (j : ℕ). HasRun k j n.heard n.took.amid) (sym e) n.took.runs)))
    own (event.Step h) (came.Stepped (outcome.Done reply)) n e =
        let x : n.heard ≡ Some (heard.Claimed claimed.NoPlace) =
        told (Some tt) n.heard (subst (λ (j : ℕ). RanAt j (get_or old.calls j None) (Some tt) n.heard (get_or new.calls j None) (shared_of contents failures old) (shared_of contents failures new)) (sym e) n.tells.place)
        (are_amid contents failures new n.fits s.hart) in
        inl (replied_full n.took.amid h k' n.took.ends (runs n.heard x n.took.amid (subst (λ (j : ℕ). HasRun k j n.heard n.took.amid) (sym e) n.took.runs)))
    own (event.Step h) (came.Stepped (outcome.Stopped stop)) n e = inr (stays_there (subst (λ (j : ℕ). StaysAt (get_or old.calls j None) (get_or new.calls j None)) (sym e) n.tells.place) n.took)

    -- Such a call is at that point still, or it has heard it, and that is known.
    pub event_lasts : (e : HartEvent) (c : Came) → NotesEvent contents failures (λ a d x b. KeepsEvent a e d x b) sizes e old k c new k' → (k'.full ≡ true) ⊎ SomeLacks new k'
    event_lasts e c n = elim (same_or s.hart (hart_of e)) [
      | inl same ↦ own e c n same
      | inr ne ↦
          let still = other_call (hart_of e) s.hart old.calls new.calls n.tells.others ne ∙ s.code in
          let right : StartsFaultless e c = faultless e old k c new k' n in
          let x : Option Heard = heard_in c n.heard in
          inr (stands_on (Some s.machine) still (refl, refl) (others_same k e c x k' right n.took s.hart ne) (same_version k e c x k' right n.took))
    ]

  -- ---- a run

  -- So at its end: it is known that there was no room, or a call lacks a place and hasn't heard so yet.
  pub run_lasts : (es : List HartEvent) (cs : List Came) (old new : HartsOf D) (k k' : KeptTree) → KeepsRun contents failures sizes old k es cs new k' → (k.full ≡ true) ⊎ SomeLacks old k
      → (k'.full ≡ true) ⊎ (some_lacks_place new ≡ true)
  run_lasts [] [] old new k k' r (inl full) = inl (ap (λ (z : KeptTree). z.full) r.1 ∙ full)
  run_lasts [] [] old new k k' r (inr s) = inr (ap some_lacks_place r.0 ∙ lacks_some old s.hart s.machine s.code s.lacks.code)
  run_lasts [] (c ∷ cs) old new k k' r short = absurd r
  run_lasts (e ∷ es) [] old new k k' r short = absurd r
  run_lasts (e ∷ es) (c ∷ cs) old new k k' r (inl full) = run_lasts es cs r.0 new r.1 k' r.3 (inl (event_full e old k c r.0 r.1 r.2 full))
  run_lasts (e ∷ es) (c ∷ cs) old new k k' r (inr s) = run_lasts es cs r.0 new r.1 k' r.3 (event_lasts old k r.0 r.1 s e c r.2)
