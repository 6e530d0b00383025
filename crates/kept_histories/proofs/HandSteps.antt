-- An event of a run: each hart's call takes so on, with what it has in hand.
use Rattle.std.specs.Prelude.{◌≡◌, ◌≢◌, ◌⊎◌, ℕ, Bool, true, false, List, [], ◌∷◌, Option, Some, None, is_some}
use Rattle.calls_on_blocks.proofs.Vocabulary.{refl, sym, ◌∙◌, ap, subst, inl, inr, same_or}
use Rattle.calls_on_blocks.proofs.Starting.{starts_both}
use Rattle.atomic_programs.proofs.Explains as explained
use Rattle.atomic_programs.proofs.Explains.{Some-inj, changed_other, changed_same, is_some-false}
use Rattle.atomic_programs.proofs.Lowered.{begun_both}
use Rattle.atomic_programs.specs.Calls.{Began, Begins, Begun, DidEnd, DidRun, Ends, Event, EventOutcome, HonestStep, IsHonest, Made, Refuses, Right, Run, Start, State, Step, Theory, begun, busy_in, changed, is_some as is_called, makes, moved, start_run, step_prog, step_run, step_unless, tried}
use Rattle.atomic_programs.specs.Joined.{Both, Handover, act_places, both, lowered, placed_at}
use Rattle.atomic_programs.specs.Logic.{Goes, Good, Wp, onto, own, placed_with}
use Rattle.atomic_programs.specs.Lowered.{began_to}
use Rattle.atomic_programs.specs.Prog.{Do, ExecResult, OfNext, Ran, Ret, Stops, Waits, asks, bind}
use Rattle.calls_on_blocks.proofs.Lawful.{lawful}
use Rattle.calls_on_blocks.specs.Layer.{World, layer}
use Rattle.calls_on_blocks.specs.Theory.{begins, block_calls, served_calls, serves}
use Rattle.fs_layout.specs.declared.superblock.Super.{Super}
use Rattle.fs_machine.specs.Steps as steps
use Rattle.inode_machine.specs.Exec.{has_place, up_if}
use Rattle.inode_machine.specs.Marks.{with_mark}
use Rattle.inode_machine.specs.Parts as programs
use Rattle.inode_machine.specs.Programs.{program}
use Rattle.inode_machine.specs.Rules.{Found, Inv, Others}
use Rattle.inode_machine.specs.Rules.{machine}
use Rattle.inode_machine.specs.Vocabulary.{Deed, look}
use Rattle.inode_machine.specs.World as above
use Rattle.inode_machine.specs.World.Op.{Up}
use Rattle.inodes_on_blocks.specs.Handlers.{Acts, P}
use Rattle.inodes_on_blocks.specs.Lowering.{Carry, nothing}
use Rattle.inodes_on_blocks.specs.Programs.{handlers}
use Rattle.plain_tree.specs.declared.answer.Reply.{Reply}
use Rattle.plain_tree.specs.declared.call.Call.{Call}
use Rattle.run_laws.proofs.Bare.{Bare, bare}
use Rattle.run_laws.proofs.Lowered.{lowered_lawful}
use Rattle.run_laws.proofs.SameRuns.{both_same}
use Rattle.run_laws.specs.ActsAt.{IsAtEnd}
use Rattle.run_laws.specs.Searches.{AnsweredStep}
use Rattle.run_laws.specs.UnderWay.{EndsAsActed, EventDoes, Fits, IsInOperation, IsMadeBy, LeadTo, RunsAStep, StartDoes, StepDoes, UnderWay, at_beginning, gone_on}
use Rattle.run_laws.specs.Vocabulary.{Outside, or_else}
use Rattle.run_laws.specs.WholeInodes.{IsStep, lowered_inode_calls, told_by, unreserved, whole_inodes}
use Rattle.kept_histories.proofs.CallHands.{takes_so}
use Rattle.kept_histories.proofs.Hands.{Hands, TakesSo, after}
use Rattle.kept_histories.proofs.InHand.{HasFound, Holds, acts_so, empty_hands, others_hold, started_in_hand}
use Rattle.image_versions.specs.declared.version.Version.{Version}

abbrev pub W : Type 0
W = Both World above.World

-- ---- what a call takes from here on

-- its operation under way, which has acted so, or not yet, and those after it
abbrev pub Left : Option Hands → (u : UnderWay) → Option (above.Answer u.op) → Type 0
Left g u None = TakesSo g (Do u.op u.mark u.rest)
Left g u (Some a) = TakesSo g (u.rest a)

-- the hart has in hand what they take
pub record TakesOn (h : ℕ) (w : above.World) (u : UnderWay) (acted : Option (above.Answer u.op)) : Type 0 where
  pub hands : Option Hands
  pub left : Left hands u acted
  pub holds : Holds h hands w

abbrev pub InHands : ℕ → above.World → Option UnderWay → Type 0
InHands h w None = Unit {0}
InHands h w (Some u) = TakesOn h w u u.acted

-- ---- another hart's step

kept : (h : ℕ) (v w : above.World) → Inv w → Others h v [] w → (u : Option UnderWay) → InHands h v u → InHands h w u
kept h v w inv o None t = tt
kept h v w inv o (Some u) t = record { hands = t.hands; left = t.left; holds = others_hold h t.hands v w inv o t.holds }

-- ---- its own

module _ (version : Version) (h : ℕ) (u : UnderWay) (v w : above.World) (inv : Inv v) (found : HasFound h v u.op) where
  acts_on : (o : Option (above.Answer u.op)) → (is_some o ≡ true → u.acted ≡ None) → IsMadeBy version h u o v w → TakesOn h v u u.acted
      → TakesOn h w u (or_else o u.acted)
  acts_on None once e t = subst (λ (z : above.World). TakesOn h z u u.acted) (sym e) t
  acts_on (Some a) once e t =
      let left : TakesSo t.hands (Do u.op u.mark u.rest) = subst (Left t.hands u) (once refl) t.left in
      record { hands = after u.op a t.hands; left = left.1 a; holds = acts_so version h t.hands v inv t.holds e.0.0 u.op u.mark a w found left.0 e.0.1 }

module _ (sizes : Super) (h : ℕ) (w : above.World) where
  begins_on : (c : Carry) (g : Option Hands) (p : programs.P Reply) → TakesSo g p → Holds h g w → InHands h w (at_beginning sizes c p)
  begins_on c g (Ret r) t holds = tt
  begins_on c g (Do op m k) t holds = record { hands = g; left = t; holds = holds }

  gone : (u : UnderWay) (acted : Option (above.Answer u.op)) (step : AnsweredStep) (k : P (Handover (above.Answer u.op) Carry)) → EndsAsActed u acted k → TakesOn h w u acted → InHands h w (gone_on sizes u acted step k)
  gone u acted step (Ret z) e t = begins_on z.carry t.hands (u.rest z.answer) (subst (Left t.hands u) e t.left) t.holds
  gone u acted step (Do op m k) e t = record { hands = t.hands; left = t.left; holds = t.holds }

-- ---- what is counted up has been found

module _ (sizes : Super) (h : ℕ) (v : above.World) where
  -- the step of a program below ran, and what it placed leads there
  abbrev Placed : {A : Type 0} → P A → Type 0
  Placed (Ret a) = Unit {0}
  Placed (Do lop lm lk) =
      (b : steps.Answer lop) × (to : above.World) × Goes (whole_inodes sizes.version) (unreserved v) (act_places (whole_inodes sizes.version) h (lm b) v) to

  step_found : (n : ℕ) (a : Bool) (mark : Option above.Mark) (told : Option Deed) (to : above.World) → IsStep sizes.version (unreserved v) h (record { op = Up n; answer = a; mark = mark; told = told }) to → Found v.keeper v.all.nodes h n
  step_found n a mark told to s =
      let f : Found s.before.keeper s.before.all.nodes h n = s.may.1 in
      record {
        directory = f.directory;
        name = f.name;
        keeps = sym (ap (λ (z : above.World). z.keeper f.directory) s.from) ∙ f.keeps;
        finds = sym (ap (λ (z : above.World). look z.all.nodes f.directory f.name) s.from) ∙ f.finds;
      }

  counts_found : (n : ℕ) (m : Bool → Option above.Mark) (to : above.World) (b : Bool)
      → Goes (whole_inodes sizes.version) (unreserved v)
      (placed_at (placed_with (whole_inodes sizes.version) h (Up n) m v) (with_mark sizes.version h m (up_if h n v b))) to
      → Found v.keeper v.all.nodes h n
  counts_found n m to true g = step_found n true (m true) (told_by sizes.version h (m true) v) g.0 g.1
  counts_found n m to false g = step_found n false (m false) (told_by sizes.version h (m false) v) g.0 g.1

  pub has_found : (op : above.Op) (m : above.Answer op → Option above.Mark) (c : Carry) (ran : List AnsweredStep) (left : P (Handover (above.Answer op) Carry))
      → LeadTo (handlers sizes c op m) ran left → (IsAtEnd left → ⊥) → Placed left → HasFound h v op
  has_found (Up n) m c [] left e goes placed =
      let there : Placed (handlers sizes c (Up n) m) = subst (λ (z : P (Handover Bool Carry)). Placed z) (sym e) placed in
      counts_found n m there.1 (has_place v n) there.2
  has_found (Up n) m c (e ∷ []) left t goes placed = absurd (goes (subst (λ (z : P (Handover Bool Carry)). IsAtEnd z) t.2 tt))
  has_found (Up n) m c (e ∷ f ∷ es) left t goes placed = absurd t.2
  has_found op m c ran left t goes placed = tt

-- ---- an event

module _ (sizes : Super) where
  abbrev L : Theory
  L = block_calls sizes

  abbrev I : Theory
  I = lowered_inode_calls sizes

  -- a program in hand
  abbrev prog_there : Option (Run (lowered_inode_calls sizes)) → State (lowered_inode_calls sizes) → Option (P Reply)
  prog_there o i = (bare (lowered_inode_calls sizes) (record i { running = λ _. o })).running 0

  record CallThere (i : State (lowered_inode_calls sizes)) (h : ℕ) (p : P Reply) : Type 0 where
    call : Run (lowered_inode_calls sizes)
    is : i.running h ≡ Some call
    same : call.prog ≡ p

  call_of : (i : State (lowered_inode_calls sizes)) (h : ℕ) (p : P Reply) (o : Option (Run (lowered_inode_calls sizes))) → i.running h ≡ o → prog_there o i ≡ Some p → CallThere i h p
  call_of i h p None is e = absurd (let q : None ≡ Some p = e in cc)
  call_of i h p (Some r) is e = record { call = r; is = is; same = Some-inj r.prog p e }

  -- the call of the hart's, and what is under way
  record Here (s : State (block_calls sizes)) (h : ℕ) (u : UnderWay) : Type 0 where
    call : Run (block_calls sizes)
    is : s.running h ≡ Some call
    in_ : IsInOperation sizes call.prog u

  call_here : (s : State (block_calls sizes)) (h : ℕ) (u : UnderWay) (o : Option (Run (block_calls sizes))) → s.running h ≡ o → Fits sizes o (Some u) → Here s h u
  call_here s h u None is fits = absurd fits
  call_here s h u (Some r) is fits = record { call = r; is = is; in_ = fits }

  module _ (s : State (block_calls sizes)) (i : State (lowered_inode_calls sizes)) (base : (lowered_inode_calls sizes).M.Tree) (keeps : explained.Keeps (lowered_inode_calls sizes) base i) (same : bare (lowered_inode_calls sizes) i ≡ bare (block_calls sizes) s) (off : s.stopped ≡ false) where
    world : i.world ≡ s.world
    world = ap (λ (b : Bare W (P Reply)). b.world) same

    on : i.stopped ≡ false
    on = ap (λ (b : Bare W (P Reply)). b.stopped) same ∙ off

    holds : I.M.Inv s.world
    holds = subst (λ (z : W). I.M.Inv z) world (explained.inv_of I i.stopped i.world keeps.holds on)

    -- hart h's call asks for this
    module _ (h : ℕ) (r : Run (block_calls sizes)) (is : s.running h ≡ Some r) (op : steps.Op) (m : steps.Answer op → Option Acts) (k : steps.Answer op → P Reply) (asks_it : r.prog ≡ Do op m k) where
      there : CallThere i h r.prog
      there = call_of i h r.prog (i.running h) refl (ap (λ (b : Bare W (P Reply)). b.running h) same ∙ ap (λ (o : Option (Run L)). (bare L (record s { running = λ _. o })).running 0) is)

      abbrev q : Run (lowered_inode_calls sizes)
      q = there.call

      left : ℕ
      left = (keeps.going h there.call there.is).left

      safe : Wp I.M h (Begun I there.call.call) (Ends I h there.call.call) (Do op m k) (keeps.going h there.call there.is).left there.call.done s.world
      safe =
          let g = keeps.going h there.call there.is in
          subst (λ (z : W). Wp I.M h (Begun I there.call.call) (Ends I h there.call.call) (Do op m k) g.left there.call.done z) world
          (subst (λ (p : P Reply). Wp I.M h (Begun I there.call.call) (Ends I h there.call.call) p g.left there.call.done i.world) (there.same ∙ asks_it) (g.wp on))

      pub may : I.M.May h op s.world
      may = (safe s.world [] ((lowered_lawful sizes).laws.same h s.world) holds).1

      -- and it ran
      module _ (x : Outside) (honest : IsHonest (block_calls sizes) (Step h x) s) (b : steps.Answer op) (w : W) (ran : (block_calls sizes).M.go h x op m s.world ≡ Ran b w) where
        said : L.M.Honest h op s.world x
        said =
            subst (λ (o : Option steps.Op). OfNext (λ o v. L.M.Honest h o v x) o s.world) (ap asks asks_it)
            (subst (λ (o : Option (Run L)). HonestStep L h x s.world false o) is (subst (λ (z : Bool). HonestStep L h x s.world z (s.running h)) off honest))

        came : I.M.go h x op m s.world ≡ Ran b w
        came = both_same sizes.version h m s.world.seen ((layer sizes).exec h x op s.world.real) ∙ ran

        -- nothing of the others changed, and what was placed leads on
        pub record Went : Type 0 where
          pub inv : Inv w.seen
          pub others : (j : ℕ) → j ≢ h → Others j s.world.seen [] w.seen
          pub placed : Goes (whole_inodes sizes.version) (unreserved s.world.seen) (act_places (whole_inodes sizes.version) h (m b) s.world.seen) (unreserved w.seen)

        pub went : Went
        went =
            let g = keeps.going h there.call there.is in
            let good = (safe s.world [] ((lowered_lawful sizes).laws.same h s.world) holds).2 x said in
            let fine = subst (λ (d : ExecResult (steps.Answer op) W). Good I.M (steps.Answer op) h (placed_with I.M h op m s.world) (I.M.more op) g.left (Begun I there.call.call) there.call.done s.world (I.M.MayWait h op s.world) d
            (λ l a z. Wp I.M h (Begun I there.call.call) (Ends I h there.call.call) (k a) l (onto (own h (I.M.places h op a (m a) s.world)) there.call.done) z)) came good in
            record { inv = fine.inv.1; others = λ j ne. (fine.kept j ne).1.1; placed = fine.goes tt }

    -- ---- a step

    abbrev Next : (made : Made (block_calls sizes)) (now : ℕ → Option UnderWay) → Type 0
    Next made now = (j : ℕ) → InHands j made.after.world.seen (now j)

    module _ (was : ℕ → Option UnderWay) (fits : (j : ℕ) → Fits sizes (s.running j) (was j)) (hands : (j : ℕ) → InHands j s.world.seen (was j)) where
      ran_on : (h : ℕ) (x : Outside) → IsHonest (block_calls sizes) (Step h x) s → (made : Made (block_calls sizes)) (now : ℕ → Option UnderWay) → RunsAStep sizes h x s made was now → Next made now
      ran_on h x honest made now r = λ j. elim (same_or j h) [
        | inl e ↦ subst (λ (z : ℕ). InHands z made.after.world.seen (now z)) (sym e) here
        | inr ne ↦ subst (InHands j made.after.world.seen) (sym (ap (λ (f : ℕ → Option UnderWay). f j) r.goes_on ∙ changed_other was h (gone_on sizes u (or_else r.acts u.acted) (r.op, r.answer) (r.rest r.answer)) j ne)) (kept j s.world.seen made.after.world.seen ran.inv (ran.others j ne) (was j) (hands j))
      ]
        where
          u : UnderWay
          u = r.under

          call : Here s h u
          call = call_here s h u (s.running h) refl (subst (Fits sizes (s.running h)) r.is (fits h))

          after_this : Handover (above.Answer u.op) Carry → P Reply
          after_this z = lowered (machine sizes.version) (layer sizes) (handlers sizes) z.carry (u.rest z.answer)

          asks_it : call.call.prog ≡ Do r.op r.mark (λ y. bind (r.rest y) after_this)
          asks_it = call.in_.is ∙ ap (λ (z : P (Handover (above.Answer u.op) Carry)). bind z after_this) r.asks

          ran : Went h call.call call.is r.op r.mark (λ y. bind (r.rest y) after_this) asks_it x honest r.answer made.after.world r.ran
          ran = went h call.call call.is r.op r.mark (λ y. bind (r.rest y) after_this) asks_it x honest r.answer made.after.world r.ran

          found : HasFound h s.world.seen u.op
          found =
              has_found sizes h s.world.seen u.op u.mark u.hand u.ran u.left call.in_.leads call.in_.goes_on
              (subst (λ (z : P (Handover (above.Answer u.op) Carry)). Placed sizes h s.world.seen z) (sym r.asks) (r.answer, unreserved made.after.world.seen, ran.placed))

          on_it : TakesOn h made.after.world.seen u (or_else r.acts u.acted)
          on_it = acts_on sizes.version h u s.world.seen made.after.world.seen holds.1 found r.acts r.once r.does (subst (InHands h s.world.seen) r.is (hands h))

          here : InHands h made.after.world.seen (now h)
          here =
              subst (InHands h made.after.world.seen) (sym (ap (λ (f : ℕ → Option UnderWay). f h) r.goes_on ∙ changed_same was h (gone_on sizes u (or_else r.acts u.acted) (r.op, r.answer) (r.rest r.answer)) h refl))
              (gone sizes h made.after.world.seen u (or_else r.acts u.acted) (r.op, r.answer) (r.rest r.answer) r.ends on_it)

      -- the world above is as it was, if no step ran
      abbrev HasRun : EventOutcome (block_calls sizes) → Type 0
      HasRun (DidRun did) = Unit {0}
      HasRun (DidEnd reply) = Unit {0}
      HasRun o = ⊥

      abbrev RanOrStill : Made (block_calls sizes) → Type 0
      RanOrStill made = HasRun made.came ⊎ (made.after.world.seen ≡ s.world.seen)

      stopped_still : {A : Type 0} (h : ℕ) (m : A → Option Acts) (d : ExecResult A World) (w : W) → both (machine sizes.version) h m s.world.seen d ≡ Stops w
          → w.seen ≡ s.world.seen
      stopped_still h m Waits w e = absurd (let q : Waits ≡ Stops w = e in cc)
      stopped_still {A} h m (Ran a t) w e = absurd (let q : Ran a _ ≡ Stops w = e in cc)
      stopped_still h m (Stops t) w e = sym (seen_there e)
        where
          seen_there : {A : Type 0} → ◌≡◌ {A = ExecResult A W} (Stops (record { real = t; seen = s.world.seen })) (Stops w) → s.world.seen ≡ w.seen
          seen_there e = let q : record { real = t; seen = s.world.seen } ≡ w = cc in ap (λ (z : W). z.seen) q

      moved_ran : (h : ℕ) (r : Run (block_calls sizes)) (did : (op : steps.Op) × steps.Answer op) (ps : List (ℕ × (block_calls sizes).M.Step)) (p : P Reply) (w : W) → RanOrStill (moved L h s r did ps p w)
      moved_ran h r did ps (Ret reply) w = inl tt
      moved_ran h r did ps (Do op m k) w = inl tt

      tried_still : (h : ℕ) (x : Outside) (r : Run (block_calls sizes)) (op : steps.Op) (m : steps.Answer op → Option Acts) (k : steps.Answer op → P Reply) (d : ExecResult (steps.Answer op) W) → (block_calls sizes).M.go h x op m s.world ≡ d
          → RanOrStill (tried L h s r op (λ a. L.M.places h op a (m a) s.world) k d)
      tried_still h x r op m k Waits e = inr refl
      tried_still h x r op m k (Ran a w) e = moved_ran h r (op, a) (L.M.places h op a (m a) s.world) (k a) w
      tried_still h x r op m k (Stops w) e = inr (stopped_still h m ((layer sizes).exec h x op s.world.real) w e)

      prog_still : (h : ℕ) (x : Outside) (r : Run (block_calls sizes)) (p : P Reply) → RanOrStill (step_prog L h x s r p)
      prog_still h x r (Ret reply) = inr refl
      prog_still h x r (Do op m k) = tried_still h x r op m k (L.M.go h x op m s.world) refl

      unless_still : (h : ℕ) (x : Outside) (b : Bool) (r : Run (block_calls sizes)) → RanOrStill (step_unless L h x s b r)
      unless_still h x true r = inr refl
      unless_still h x false r = prog_still h x r r.prog

      run_still : (h : ℕ) (x : Outside) (o : Option (Run (block_calls sizes))) → RanOrStill (step_run L h x s o)
      run_still h x None = inr refl
      run_still h x (Some r) = unless_still h x s.stopped r

      as_before : (made : Made (block_calls sizes)) (now : ℕ → Option UnderWay) → made.after.world.seen ≡ s.world.seen → now ≡ was → Next made now
      as_before made now seen e j = subst (λ (f : ℕ → Option UnderWay). InHands j made.after.world.seen (f j)) (sym e) (subst (λ (z : above.World). InHands j z (was j)) (sym seen) (hands j))

      step_on : (h : ℕ) (x : Outside) → IsHonest (block_calls sizes) (Step h x) s → (made : Made (block_calls sizes)) (now : ℕ → Option UnderWay) → RanOrStill made → (o : EventOutcome (block_calls sizes)) → made.came ≡ o → StepDoes sizes h x s made o was now → Next made now
      step_on h x honest made now ran (DidRun did) e does = ran_on h x honest made now does
      step_on h x honest made now ran (DidEnd reply) e does = ran_on h x honest made now does
      step_on h x honest made now (inr seen) o e does = as_before made now seen does.0
      step_on h x honest made now (inl ran) o e does = absurd (subst HasRun e ran)

      -- ---- a start

      module _ (root : (block_calls sizes).M.Tree) (known : explained.Keeps (block_calls sizes) root s) where
        idle : (j : ℕ) → busy_in L s j ≡ false → L.M.Idle j s.world
        idle j e = known.idle j (is_some-false (s.running j) e)

        called : (j : ℕ) (u : UnderWay) (o : Option (Run (block_calls sizes))) → Fits sizes o (Some u) → is_called o ≡ true
        called j u None f = absurd f
        called j u (Some r) f = refl

        begins_so : (h : ℕ) (call : Call) → s.running h ≡ None → (w : W) → L.start h call (busy_in L s) s.world ≡ Begins w → (j : ℕ) → InHands j w.seen (changed was h (at_beginning sizes nothing (program sizes.version call)) j)
        begins_so h call none w e j = elim (same_or j h) [
          | inl q ↦ subst (λ (z : ℕ). InHands z w.seen (changed was h (at_beginning sizes nothing (program sizes.version call)) z)) (sym q)
              (subst (InHands h w.seen) (sym (changed_same was h (at_beginning sizes nothing (program sizes.version call)) h refl))
              (begins_on sizes h w.seen nothing (Some empty_hands) (program sizes.version call) (takes_so sizes.version empty_hands call) (started_in_hand serves h call (busy_in L s) s.world.seen w.seen holds.1 (idle h free).1 started)))
          | inr ne ↦ subst (InHands j w.seen) (sym (changed_other was h (at_beginning sizes nothing (program sizes.version call)) j ne))
              (others j ne (was j) (fits j) (hands j))
        ]
          where
            free : busy_in L s h ≡ false
            free = ap is_called none

            right : Right L h call (busy_in L s) s.world w
            right = (lawful sizes).calls h call (busy_in L s) s.world w (inl holds) idle free e

            lower : (begins sizes h call (busy_in L s) s.world.real ≡ Begins w.real) × (w.seen ≡ began_to s.world.seen ((served_calls sizes.version).start h call (busy_in L s) s.world.seen))
            lower =
                begun_both (began_to s.world.seen ((served_calls sizes.version).start h call (busy_in L s) s.world.seen))
                (begins sizes h call (busy_in L s) s.world.real) w e

            started : (served_calls sizes.version).start h call (busy_in L s) s.world.seen ≡ Begins w.seen
            started =
                let b = starts_both sizes h call (busy_in L s) s.world.real w.real s.world.seen (inl holds.0) holds.1 idle free lower.0 in
                b.begins ∙ ap (λ (z : above.World). Begins z) (sym (lower.1 ∙ ap (began_to s.world.seen) b.begins))

            others : (j : ℕ) → j ≢ h → (u : Option UnderWay) → Fits sizes (s.running j) u → InHands j s.world.seen u → InHands j w.seen u
            others j ne None f t = tt
            others j ne (Some u) f t = kept j s.world.seen w.seen (right.inv holds).1 (right.kept j ne (called j u (s.running j) f)).1 (Some u) t

        begun_on : (h : ℕ) (call : Call) → s.running h ≡ None → (d : Began (block_calls sizes).Refusal W) → L.start h call (busy_in L s) s.world ≡ d → (now : ℕ → Option UnderWay) → StartDoes sizes h call (begun L h call s d).came was now → Next (begun L h call s d) now
        begun_on h call none (Refuses why) e now does = as_before (begun L h call s (Refuses why)) now refl does
        begun_on h call none (Begins w) e now does = λ j. subst (λ (f : ℕ → Option UnderWay). InHands j w.seen (f j)) (sym does) (begins_so h call none w e j)

        start_on : (h : ℕ) (call : Call) (o : Option (Run (block_calls sizes))) → s.running h ≡ o → (now : ℕ → Option UnderWay) → StartDoes sizes h call (start_run L h call s o).came was now → Next (start_run L h call s o) now
        start_on h call (Some r) e now does = as_before (start_run L h call s (Some r)) now refl does
        start_on h call None e now does = begun_on h call e (L.start h call (busy_in L s) s.world) refl now does

        pub event_on : (e : Event Call Outside) → IsHonest (block_calls sizes) e s → (now : ℕ → Option UnderWay) → EventDoes sizes e s (makes (block_calls sizes) e s) was now → Next (makes (block_calls sizes) e s) now
        event_on (Start h call) honest now does = start_on h call (s.running h) refl now does
        event_on (Step h x) honest now does = step_on h x honest (makes L (Step h x) s) now (run_still h x (s.running h)) (makes L (Step h x) s).came refl does
