-- Each operation on whole inodes acts once within its own program on the blocks, with the answer that this program ends with; by that
-- answer the call goes on.
use Rattle.std.specs.Prelude.{◌≡◌, ◌⊎◌, ℕ, true, List, [], ◌∷◌, Option, Some, None, is_some}
use Rattle.run_laws.specs.Vocabulary.{BeginsWhole, Super, sizes_of, Reply, Call, Theory, EventOf, FinishedCall, PlacedStep, Run, State, fresh, outcomes, run, In, history, steps_of, Handlers, Handover, LowerLayer, joined, Machine, OpWithAnswer, P, own, Ret, Do, Outside, program, Answer, Mark, Op, nothing, handlers, Deed, first, layer, Came, Event, HartsOf, IsHistory, IsMounted, WorldOf}
use Rattle.run_laws.specs.WholeInodes.{Operation, lowered_inode_calls, whole_inodes}

-- ---- what is noted

-- a step below that ran, with its answer, and the operations above that were made in it
pub record StepNote (E S : Type 0) : Type 0 where
  pub ran : E
  pub made : List S

abbrev pub Notes : Machine → Type 0
Notes L = List (StepNote (OpWithAnswer L) L.Step)

-- The same machine, with each step that runs noted for its hart, with all that is placed in it. No step is placed for
-- another hart; and nothing is asked again of the states to which the placed ones lead.
abbrev pub stepwise : Machine → Machine
stepwise L =
    record {
      Op = L.Op;
      Answer = L.Answer;
      Mark = L.Mark;
      Step = StepNote (OpWithAnswer L) L.Step;
      World = L.World;
      Tree = L.Tree;
      more = L.more;
      Outside = L.Outside;
      Honest = L.Honest;
      May = L.May;
      go = L.go;
      places = λ h op a m w. (h, record { ran = (op, a); made = own h (L.places h op a m w) }) ∷ [];
      tree = L.tree;
      Takes = λ t h e u. Unit {0};
      Inv = L.Inv;
      Halted = L.Halted;
      Others = λ h v xs w. (xs ≡ []) × L.Others h v [] w;
      Idle = L.Idle;
      MayWait = L.MayWait;
      Clean = L.Clean;
    }

-- the same calls, each explained by all that is noted of it
abbrev pub with_steps : (L : Theory) → (L.Call → Notes L.M → L.Reply → Type 0) → Theory
with_steps L Written = record L { M = stepwise L.M; Written = Written; WrittenSoFar = BeginsWhole Written }

module _ (L : Theory) (Written : L.Call → Notes L.M → L.Reply → Type 0) where
  -- entries of one event, put one after the other onto a list that has the newest first
  abbrev pub with_entries : (number hart call : ℕ) → List L.M.Step → List (PlacedStep L) → List (PlacedStep L)
  with_entries number hart call [] list = list
  with_entries number hart call (x ∷ xs) list =
      with_entries number hart call xs (record { number = number; hart = hart; call = call; step = x } ∷ list)

  -- the entries of all that was made, each at its event, in its call; both lists have the newest first
  abbrev pub entries_of : List (PlacedStep (with_steps L Written)) → List (PlacedStep L)
  entries_of [] = []
  entries_of (e ∷ es) = with_entries e.number e.hart e.call e.step.made (entries_of es)

-- ---- the program of one operation

-- What is noted of it, the oldest first. IsOf a s: s is the operation with answer a. If the notes end within the
-- program, this is Open; from its end on they are as Then says, of what it ends with.
module _ (L : Machine) {A C : Type 0} (IsOf : A → L.Step → Type 0) (Open : Type 0) (Then : Handover A C → Notes L → Type 0) where
  -- It has acted with this answer: its program runs on, in which nothing more is made, and ends with the same answer.
  abbrev pub EndsWith : A → P L (Handover A C) → Notes L → Type 0
  EndsWith a (Ret x) es = (x.answer ≡ a) × Then x es
  EndsWith a (Do op m k) [] = Open
  EndsWith a (Do op m k) (e ∷ es) = (b : L.Answer op) × (e ≡ record { ran = (op, b); made = [] }) × EndsWith a (k b) es

  -- It acts in one of its program's steps that are marked, with some answer; in those before nothing is made. So it has acted as its
  -- program ends.
  abbrev pub ActsWithin : P L (Handover A C) → Notes L → Type 0
  ActsWithin (Ret x) es = ⊥
  ActsWithin (Do op m k) [] = Open
  ActsWithin (Do op m k) (e ∷ es) =
      (b : L.Answer op)
      × (((e ≡ record { ran = (op, b); made = [] }) × ActsWithin (k b) es)
      ⊎ ((a : A) × (s : L.Step) × (e ≡ record { ran = (op, b); made = s ∷ [] }) × IsOf a s × (is_some (m b) ≡ true) × EndsWith a (k b) es))

-- ---- a program above

-- a program that is under way may be noted up to any step
abbrev pub IsUnderWay : {A : Type 0} → Option A → Type 0
IsUnderWay None = Unit {0}
IsUnderWay (Some r) = ⊥

-- one that has ended, ended with this
abbrev pub IsReply : {A : Type 0} → A → Option A → Type 0
IsReply a None = Unit {0}
IsReply a (Some r) = a ≡ r

module _ (U : Machine) (R : LowerLayer U.World) (handler : Handlers U R)
    (IsOf : (op : U.Op) → (U.Answer op → Option U.Mark) → U.Answer op → U.Step → Type 0) where
  -- Notes of a program above that ends with r; if no r is given it is under way. For each of its operations, one
  -- after the other, they have the steps of the operation's own program, in which it acts once. That program ends
  -- with the answer with which it acted, and by this answer the program above goes on. c: what is in hand.
  abbrev pub IsFaithful : {A : Type 0} → Option A → R.Carry → P U A → Notes (joined U R) → Type 0
  IsFaithful r c (Ret a) [] = IsReply a r
  IsFaithful r c (Ret a) (e ∷ es) = ⊥
  IsFaithful r c (Do op m k) [] = IsUnderWay r
  IsFaithful r c (Do op m k) (e ∷ es) =
      ActsWithin (joined U R) {C = R.Carry} (IsOf op m) (IsUnderWay r) (λ x rest. IsFaithful r x.carry (k x.answer) rest)
      (handler c op m) (e ∷ es)

-- ---- the calls

-- this is the operation with that answer, as it was made
abbrev pub IsOperation : (op : Op) → (Answer op → Option Mark) → Answer op → Operation → Type 0
IsOperation op m a e = (told : Option Deed) × (e ≡ record { op = op; answer = a; mark = m a; told = told })

module _ (sizes : Super) where
  abbrev inodes : Theory
  inodes = lowered_inode_calls sizes

  -- these notes are of this call, which ends with that reply, or is under way
  abbrev pub AreOf : Call → Option Reply → Notes inodes.M → Type 0
  AreOf call r es =
      IsFaithful (whole_inodes sizes.version) (layer sizes) (handlers sizes) IsOperation r nothing (program sizes.version call) es

  abbrev pub AreOfFinished : Call → Notes inodes.M → Reply → Type 0
  AreOfFinished call es reply = AreOf call (Some reply) es

  -- the calls, with all that is noted of each: the steps on the blocks as they run, and in which of them operations on whole inodes act
  abbrev pub noted_inode_calls : Theory
  noted_inode_calls = with_steps inodes AreOfFinished

-- ---- the law

module _ (disk : List (List ℕ)) (failures : ℕ) (events : List (EventOf Call Outside)) where
  abbrev noted : Theory
  noted = noted_inode_calls (sizes_of disk)

  abbrev plain : Theory
  plain = lowered_inode_calls (sizes_of disk)

  abbrev ran : State (noted_inode_calls (sizes_of disk))
  ran = run noted events (fresh noted (first disk failures))

  -- what is noted of the call that started at this event
  abbrev pub notes_of : ℕ → Notes plain.M
  notes_of start = steps_of noted start (history noted ran)

  -- The notes change nothing of a run, and leave each operation on whole inodes at its event, in its call. Of each call, finished or
  -- under way, they show that it goes on as its operations acted.
  pub record GoOnAsTheyActed : Type 0 where
    pub outcomes_are : outcomes noted events (fresh noted (first disk failures)) ≡ outcomes plain events (fresh plain (first disk failures))
    pub operations_are : entries_of plain (AreOfFinished (sizes_of disk)) ran.list
        ≡ (run plain events (fresh plain (first disk failures))).list
    pub finished : (f : FinishedCall noted) → In f ran.finished → AreOf (sizes_of disk) f.call (Some f.reply) (notes_of f.start)
    pub under_way : (h : ℕ) (r : Run noted) → ran.running h ≡ Some r → AreOf (sizes_of disk) r.call None (notes_of r.start)

module _ {D : Type 0} (contents : D → List (List ℕ)) (failures : D → ℕ) where
  -- So it is in each history of a run of this world, if the world is as a mount left it.
  abbrev pub CallsGoOnAsTheyActed : WorldOf D → Type 0
  CallsGoOnAsTheyActed w =
      (device : D) (events : List Event) (came : List Came) (new : HartsOf D) (made : List (EventOf Call Outside))
      → IsMounted contents failures device w → IsHistory contents failures w.sizes w.harts events came new made
      → GoOnAsTheyActed (contents w.harts.core.log.cache.device) (failures w.harts.core.log.cache.device) made
