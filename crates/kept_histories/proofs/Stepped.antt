-- A step of a call in code is the step of the theory: its operation has the same answer. After it the call is as far
-- as the operation then under way.
use Rattle.std.specs.Prelude.{◌≡◌, ℕ, List, [], ◌∷◌, ◌++◌, Bool, true, false, Option, Some, None}
use Rattle.calls_on_blocks.proofs.Vocabulary.{refl, sym, ◌∙◌, ap, subst}
use Rattle.calls_on_blocks.proofs.Lawful.{is_code}
use Rattle.atomic_programs.proofs.Explains.{changed_same}
use Rattle.atomic_programs.specs.Calls.{Made, State}
use Rattle.atomic_programs.specs.Joined.{Handover}
use Rattle.atomic_programs.specs.Prog.{ExecResult, Waits, Ran, Stops, Ret, Do, asks, bind, exec_result_in, plain}
use Rattle.calls_on_blocks.specs.Layer.{SharedState}
use Rattle.calls_on_blocks.specs.Theory.{block_calls, block_code}
use Rattle.fs_layout.specs.declared.superblock.Super.{Super}
use Rattle.fs_machine.specs.LogPart.{Passes}
use Rattle.fs_machine.specs.Machines.{P as Plain}
use Rattle.fs_machine.specs.Steps as steps
use Rattle.fs_machine.specs.declared.hand.Hand.{Hand}
use Rattle.inode_machine.specs.World as above
use Rattle.inode_parts.specs.Calls.{lowered_left}
use Rattle.inode_parts.specs.Parts.{Part}
use Rattle.inode_parts.specs.Telling.{part_of}
use Rattle.inode_parts.specs.declared.lowered.Lowered.{Lowered}
use Rattle.inodes_on_blocks.specs.Handlers.{P}
use Rattle.inodes_on_blocks.specs.Lowering.{Carry}
use Rattle.path_walk.specs.Asks.{answer_to}
use Rattle.plain_tree.specs.declared.answer.Reply.{Reply}
use Rattle.run_laws.specs.Searches.{AnsweredStep}
use Rattle.run_laws.specs.UnderWay.{RunsAStep, UnderWay, at_beginning, gone_on, none_ran}
use Rattle.run_laws.specs.Vocabulary.{or_else}
use Rattle.syscalls.specs.Machines.{Running, TellsOf}
use Rattle.kept_histories.proofs.ReadRooms.{RoomOf}
use Rattle.kept_histories.proofs.Standing.{Begins, StandsAt, Went, begins, handed, went}
use Rattle.kept_histories.proofs.Controls.{at_end}

-- ---- the answer

answer_or : {A S : Type 0} → A → ExecResult A S → A
answer_or a Waits = a
answer_or a (Ran b s) = b
answer_or a (Stops s) = a

same_answer : {A S : Type 0} (a b : A) (s t : S) → ◌≡◌ {A = ExecResult A S} (Ran a s) (Ran b t) → a ≡ b
unfolding answer_or
same_answer a b s t e = ap (answer_or a) e

asked_still : {A B : Type 0} (q : Part) (op : steps.Op) (f : _ → A) (g : _ → Plain B) → asks (bind q (λ r. Ret (f r))) ≡ Some op → asks (bind q g) ≡ Some op
asked_still (Ret r) op f g e = absurd cc
asked_still (Do o m k) op f g e = e

-- ---- how far the call is then

module _ (sizes : Super) (u : UnderWay) (left : P (Handover (above.Answer u.op) Carry)) (n : Option UnderWay) (k : Lowered) (g : Hand) where
  -- in the same operation, of which a step more has run
  pub record GoesOn : Type 0 where
    pub ran : List AnsweredStep
    pub acted : Option (above.Answer u.op)
    pub is : n ≡ Some (record u { ran = ran; left = left; acted = acted })
    pub goes_on : at_end left ≡ false
    pub has_run : none_ran ran ≡ false
    pub stands : StandsAt sizes.version (record u { ran = ran; left = left; acted = acted }) k g

  -- the operation has ended with what was heard, and the next one begins
  pub record BeginsNext : Type 0 where
    pub end : Handover (above.Answer u.op) Carry
    pub is : left ≡ Ret end
    pub text : List ℕ
    pub answer : end.answer ≡ answer_to text u.op k.heard
    pub room : RoomOf u.op k.heard
    pub begins : Begins sizes end.carry (u.rest end.answer) k g
    pub now : n ≡ Some begins.under

  -- .. or the call has ended
  pub record EndsCall : Type 0 where
    pub end : Handover (above.Answer u.op) Carry
    pub is : left ≡ Ret end
    pub text : List ℕ
    pub answer : end.answer ≡ answer_to text u.op k.heard
    pub room : RoomOf u.op k.heard
    pub reply : Reply
    pub ends : u.rest end.answer ≡ Ret reply
    pub now : n ≡ None

  abbrev pub Comes : Option (Unit {0}) → Bool → Type 0
  Comes None false = GoesOn
  Comes None true = BeginsNext
  Comes (Some end) false = ⊥
  Comes (Some end) true = EndsCall

one_more : (ran : List AnsweredStep) (step : AnsweredStep) → none_ran (ran ++ step ∷ []) ≡ false
one_more [] step = refl
one_more (e ∷ es) step = refl

gone_past : (sizes : Super) (u : UnderWay) (acted : Option (above.Answer u.op)) (step : AnsweredStep) (left : P (Handover (above.Answer u.op) Carry)) → at_end left ≡ false
    → gone_on sizes u acted step left ≡ Some (record u { ran = u.ran ++ step ∷ []; left = left; acted = acted })
gone_past sizes u acted step (Ret z) e = absurd (let q : true ≡ false = e in cc)
gone_past sizes u acted step (Do op m c) e = refl

comes : (sizes : Super) (u : UnderWay) (acted : Option (above.Answer u.op)) (step : AnsweredStep) (left : P (Handover (above.Answer u.op) Carry)) (n : Option UnderWay)
    (out : Option (Unit {0})) (b : Bool) (k : Lowered) (g : Hand) → n ≡ gone_on sizes u acted step left → Went sizes u left out b k g → Comes sizes u left n k g out b
comes sizes u acted step left n None false k g is w = record {
  ran = u.ran ++ step ∷ [];
  acted = acted;
  is = is ∙ gone_past sizes u acted step left w.goes_on;
  goes_on = w.goes_on;
  has_run = one_more u.ran step;
  stands = w.stands (u.ran ++ step ∷ []) acted;
}
comes sizes u acted step left n (Some end) false k g is w = w
comes sizes u acted step left n None true k g is w =
    let b = begins sizes w.end.carry (u.rest w.end.answer) k g w.next in
    record {
      end = w.end;
      is = w.is;
      text = w.text;
      answer = w.answer;
      room = w.room;
      begins = b;
      now = is ∙ ap (gone_on sizes u acted step) w.is ∙ b.is;
    }
comes sizes u acted step left n (Some end) true k g is w = record {
  end = w.end;
  is = w.is;
  text = w.text;
  answer = w.answer;
  room = w.room;
  reply = _;
  ends = w.next;
  now = is ∙ ap (gone_on sizes u acted step) w.is ∙ ap (at_beginning sizes w.end.carry) w.next;
}

module _ (sizes : Super) (h : ℕ) (s : State (block_calls sizes)) (made : Made (block_calls sizes)) (was now : ℕ → Option UnderWay)
    (r : RunsAStep sizes h Passes s made was now) (old new : steps.State) (shares : ((block_code sizes).shared s.world).state ≡ old)
    (m left : Running) (out : Option (Unit {0})) (tells : TellsOf h m out left old new) (stands : StandsAt sizes.version r.under m.control m.hand) where
  pub answers_same : tells.answer r.op ≡ r.answer
  answers_same =
      let asked : asks (lowered_left m.control m.hand) ≡ Some r.op =
      asked_still (part_of m.control m.hand) r.op (handed r.under.op) _ (sym (ap asks stands.part) ∙ ap (λ z. asks (plain z)) r.asks) in
      let ran : steps.exec h Passes r.op old ≡ Ran (tells.answer r.op) new = tells.ran r.op asked in
      let shared : SharedState = (block_code sizes).shared s.world in
      let code : (block_code sizes).exec h Passes r.op shared ≡ exec_result_in (block_code sizes).shared (Ran r.answer made.after.world) =
      (is_code sizes).goes h Passes r.op r.mark s.world ∙ ap (exec_result_in (block_code sizes).shared) r.ran in
      same_answer (tells.answer r.op) r.answer _ _
      (sym (ap (exec_result_in (λ (t : steps.State). record shared { state = t })) (ap (λ (t : steps.State). steps.exec h Passes r.op t) shares ∙ ran)) ∙ code)

  -- So the call is as far as the operation that is under way after the step.
  pub comes_to : m.control.sizes ≡ sizes → (left.control.ended ≡ false → at_end (part_of left.control left.hand) ≡ false)
      → Comes sizes r.under (r.rest r.answer) (now h) left.control left.hand out left.control.ended
  comes_to sized goes =
      comes sizes r.under (or_else r.acts r.under.acted) (r.op, r.answer) (r.rest r.answer) (now h) out left.control.ended left.control left.hand
      (ap (λ (f : ℕ → Option UnderWay). f h) r.goes_on ∙ changed_same was h _ h refl)
      (subst (λ (a : steps.Answer r.op). Went sizes r.under (r.rest a) out left.control.ended left.control left.hand) answers_same
      (went sizes r.under m.control m.hand stands sized tells.answer r.op r.mark r.rest r.asks left.control left.hand out tells.tells goes))
