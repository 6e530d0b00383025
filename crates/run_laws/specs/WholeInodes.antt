-- The calls on blocks as calls of the machine of whole inodes: what explains each is the operations on whole inodes that it ran.
use Rattle.std.specs.Prelude.{◌≡◌, ℕ, nat_lt, if◌then◌else◌, List, [], ◌∷◌, Option, Some, None}
use Rattle.run_laws.specs.Vocabulary.{BeginsWhole, Super, Full, Reply, Call, descriptor_count, Theory, In, Machine, lowered_calls, Ret, Do, Ran, go, made_by, new_id, Above as P, program, Honest, Inv, May, Answer, Desk, Mark, Op, World, Fills, Frees, Makes, Mends, Orphans, Spoils, Deed, Labels, labelled, handlers, layer, begins, served_calls, Version}
use Rattle.plain_tree.specs.declared.answer.Answer.TheVariants as answers
use Rattle.inode_machine.specs.Rules as rules
use Rattle.inode_machine.specs.World.{Outside}
use Rattle.call_programs.specs.Wanted.{wanted}

-- ---- the machine of whole inodes

-- the descriptors on their way to a child, without which hart that is and how much it has
abbrev pub on_the_way : (ℕ → Option ℕ) → ℕ → Option ℕ
on_the_way lent i = if nat_lt i descriptor_count then lent i else None

abbrev pub unreserved_desk : Desk → Desk
unreserved_desk d = record d { lent = on_the_way d.lent; lender = None }

-- a world, but for what a start reserves: which hart is whose child
abbrev pub unreserved : World → World
unreserved w = record w { desks = λ h. unreserved_desk (w.desks h) }

-- what a call hears of a step on the tree that it takes in this world, by the mark of an operation of hart h
abbrev pub told_by : Version → ℕ → Option Mark → World → Option Deed
told_by version h None w = None
told_by version h (Some (Makes v)) w = (made_by version w.all h (new_id w) (w.harts h).walk v).told
told_by version h (Some (Frees n)) w = None
told_by version h (Some (Orphans n)) w = None
told_by version h (Some Fills) w = None
told_by version h (Some Mends) w = None
told_by version h (Some (Spoils s)) w = None

-- an operation with its answer; for the proof, its mark, which says what it does to the tree, and what its call hears
-- of that
pub record Operation : Type 0 where
  pub op : Op
  pub answer : Answer op
  pub mark : Option Mark
  pub told : Option Deed

-- Hart h makes this operation, when it may be made, at an answer from outside that may be given: it leads from t to
-- u, but for what starts reserve.
pub record IsStep (version : Version) (t : World) (h : ℕ) (e : Operation) (u : World) : Type 0 where
  pub before : World
  pub after : World
  pub outside : Outside
  pub from : unreserved before ≡ t
  pub to : unreserved after ≡ u
  pub may : May version h e.op before
  pub honest : Honest h e.op before outside
  pub goes : go version h outside e.op (λ _. e.mark) before ≡ Ran e.answer after
  -- what always holds does before it, and after it
  pub holds : Inv before
  pub keeps : Inv after
  pub tells : e.told ≡ told_by version h e.mark before

-- these operations, the oldest first, are a run of the program that ends with r
abbrev pub IsRunOf : {A : Type 0} → P A → List Operation → A → Type 0
IsRunOf (Ret a) [] r = a ≡ r
IsRunOf (Ret a) (e ∷ es) r = ⊥
IsRunOf (Do op m k) [] r = ⊥
IsRunOf (Do op m k) (e ∷ es) r =
    (a : Answer op) × (told : Option Deed) × (e ≡ record { op = op; answer = a; mark = m a; told = told }) × IsRunOf (k a) es r

-- some of these operations wanted this room, and didn't find it
abbrev pub HasWanted : List Operation → Full → Type 0
HasWanted es room = (e : Operation) × In e es × (wanted e.op e.answer ≡ Some room)

-- A whole call's operations: they are a run of its program, which ends with this reply. If that is that there is no
-- room, one of them wanted it.
pub record IsRunOfCall (version : Version) (call : Call) (es : List Operation) (reply : Reply) : Type 0 where
  pub runs : IsRunOf (program version call) es reply
  pub wants : (room : Full) → reply.answer ≡ answers.Full room → HasWanted es room

-- the history that is the operations themselves, from world to world
abbrev pub operations : Version → Labels
operations version = record {
  Step = Operation;
  Tree = World;
  places = λ h op a m w. (h, record { op = op; answer = a; mark = m; told = told_by version h m w }) ∷ [];
  tree = unreserved;
  Takes = λ t h e u. IsStep version t h e u;
  Others = λ h v xs w. (xs ≡ []) × rules.Others h v [] w;
  Clean = λ w. Unit {0};
}

abbrev pub whole_inodes : Version → Machine
whole_inodes version = labelled version (operations version)

-- ---- its calls

-- explained by the operations on whole inodes
abbrev pub inode_calls : Version → Theory
inode_calls version = record (served_calls version) {
  M = whole_inodes version;
  Written = IsRunOfCall version;
  WrittenSoFar = BeginsWhole (IsRunOfCall version);
}

-- the same calls, run on the blocks
abbrev pub lowered_inode_calls : Super → Theory
lowered_inode_calls sizes = lowered_calls (inode_calls sizes.version) (layer sizes) (handlers sizes) (begins sizes)
