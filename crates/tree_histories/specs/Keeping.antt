-- What is kept beside a run: a tree, the calls under way with their walks in it, and the list of the steps so far.
use Rattle.std.specs.Prelude.{◌≡◌, ◌<◌, ◌⊎◌, ℕ, ◌+◌, ◌-◌, ◌^◌, min, Bool, true, false, not, ◌||◌, List, [], ◌∷◌, ◌++◌, length, Option, Some, None, replicate, slice_index_or, slice_set}
use Rattle.tree_histories.specs.Vocabulary.{Version, option_map, Answer, Call, is_nothing, tree_of, TreeData, hart_count, Placed, entry_of, Deed, lost_of, program, Ret, count_in, hears, reply_to, Heard, WholeFits, call_in, text_in, whole_of, Whole}
use Rattle.tree_laws.specs.Moves as moves
use Rattle.whole_calls.specs.declared.reading.Read.TheVariants as reading
use Rattle.whole_calls.specs.declared.whole.Whole.TheVariants as calling
use Rattle.tree_histories.specs.declared.standing.Walk.{Walk}
use Rattle.tree_histories.specs.Walks.{walk_of}

-- A call under way: its place in the trace, how far it has come, the inodes that it has listed, and its walk, if it is
-- on one. Also whether a step of its present operation has run.
pub record Under : Type 0 where
  pub id : ℕ
  pub whole : Whole
  pub listed : List ℕ
  pub walk : Option Walk
  pub has_begun : Bool

-- a call that begins, the one at this place of the trace; the inodes that are listed are those of its walk
abbrev pub IsNewCall : Version → ℕ → Call → Under → Type 0
IsNewCall version id call u =
    (u.id ≡ id) × (u.walk ≡ None) × (u.has_begun ≡ false) × (call_in u.whole ≡ call)
    × (whole_of version u.listed u.whole ≡ program version call) × WholeFits version u.listed u.whole

-- more was heard to be read than the call's buffer has
abbrev pub ReadsTooMuch : Heard → Whole → Type 0
ReadsTooMuch x (calling.Read fd buf (reading.Part n offset)) = length buf.items < count_in x
ReadsTooMuch x w = ⊥

-- the same call, on the same walk, at the operation that comes after this answer, with the inodes of its walk listed
pub record GoesOn (version : Version) (u : Under) (x : Heard) (v : Under) : Type 0 where
  pub same : (v.id ≡ u.id) × (v.walk ≡ u.walk) × (v.has_begun ≡ false) × (call_in v.whole ≡ call_in u.whole)
  pub program : hears (text_in u.whole) (whole_of version u.listed u.whole) x ≡ whole_of version v.listed v.whole
  pub fits : WholeFits version v.listed v.whole

-- .. or it has ended, with a reply
abbrev pub HearsSo : Version → Under → Heard → Option Under → Type 0
HearsSo version u x (Some v) = GoesOn version u x v
HearsSo version u x None = ReadsTooMuch x u.whole
    ⊎ ((a : Answer) × (hears (text_in u.whole) (whole_of version u.listed u.whole) x ≡ Ret (reply_to (call_in u.whole) a)))

-- a number, as far as it fits; one more
abbrev pub capped : ℕ → ℕ
capped n = min n (2 ^ 64 - 1)

abbrev pub counted : ℕ → ℕ
counted n = capped (n + 1)

-- version: of the image on which the calls run; harts: by hart, its call under way; full: a step of a call found no
-- room, as it was answered, or as a move shows that can't be made
pub record KeptTree : Type 0 where
  pub version : Version
  pub tree : TreeData
  pub list : List Placed
  pub events : ℕ
  pub calls : ℕ
  pub harts : List (Option Under)
  pub full : Bool

abbrev pub nothing_kept : Version → TreeData → KeptTree
nothing_kept version t =
    record { version = version; tree = t; list = []; events = 0; calls = 0; harts = replicate hart_count None; full = false }

abbrev pub hart_in : KeptTree → ℕ → Option Under
hart_in k h = slice_index_or k.harts h None

abbrev pub with_hart : KeptTree → ℕ → Option Under → KeptTree
with_hart k h o = record k { harts = slice_set k.harts h o }

-- each call under way has room for its list, and its places are in its paths
abbrev pub StandsFit : Version → Option Under → Type 0
StandsFit version None = Unit {0}
StandsFit version (Some u) = WholeFits version u.listed u.whole

abbrev pub AllFit : Version → List (Option Under) → Type 0
AllFit version harts = (h : ℕ) → StandsFit version (slice_index_or harts h None)

abbrev pub walking : Option Walk → Under → Under
walking w u = record u { walk = w }

-- the hart's call, if it has one, has this walk
abbrev pub with_walk : KeptTree → ℕ → Option Walk → KeptTree
with_walk k h w = with_hart k h (option_map (walking w) (hart_in k h))

-- the run has ended, and its world says whether a call found no room and hasn't heard so yet
abbrev pub ended : Bool → KeptTree → KeptTree
ended lacks k = record k { full = k.full || lacks }

abbrev pub passed : KeptTree → KeptTree
passed k = record k { events = counted k.events }

-- the tree with the walks in it
abbrev pub walk_under : Version → Option Under → Option moves.Walk
walk_under version None = None
walk_under version (Some u) = option_map (walk_of version (call_in u.whole)) u.walk

abbrev pub stage_of : KeptTree → moves.Stage
stage_of k = record { tree = tree_of k.tree; walk = λ h. walk_under k.version (hart_in k h) }

-- the hart's walk is in no live directory
abbrev pub is_lost : moves.Stage → ℕ → Bool
is_lost m h = not (is_nothing (lost_of m h))

-- a deed of a hart's call is an entry at the present event
abbrev pub written_by : KeptTree → ℕ → Deed → Option Under → KeptTree
written_by k h d None = k
written_by k h d (Some u) = record k { list = k.list ++ entry_of k.events u.id h d ∷ [] }

abbrev pub written : KeptTree → ℕ → Deed → KeptTree
written k h d = written_by k h d (hart_in k h)

-- the hart's call after a step, which heard this, or nothing yet
abbrev pub HeardBy : Version → Option Under → Option Heard → Option Under → Type 0
HeardBy version None x o = o ≡ None
HeardBy version (Some u) None o = o ≡ Some (record u { has_begun = true })
HeardBy version (Some u) (Some x) o = HearsSo version u x o

pub record HasHeard (k : KeptTree) (h : ℕ) (heard : Option Heard) (k' : KeptTree) : Type 0 where
  pub under : Option Under
  pub hears : HeardBy k.version (hart_in k h) heard under
  pub kept : k' ≡ with_hart k h under

-- A call of the hart has started at this event.
pub record HasStarted (k : KeptTree) (h : ℕ) (call : Call) (k' : KeptTree) : Type 0 where
  pub under : Under
  pub fresh : IsNewCall k.version k.calls call under
  pub kept : k' ≡ passed (record (with_hart k h (Some under)) { calls = counted k.calls })
