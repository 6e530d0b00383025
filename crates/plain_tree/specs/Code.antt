-- Words for the promises of the code's parts.
use Rattle.std.specs.Prelude.{ℕ, ◌≡◌, ◌+◌, ◌^◌, ◌==◌, ◌&&◌, not, true, false, ◌<◌, ◌++◌, length, slice_index_or, slice_set, Bool, List, [], ◌∷◌, take, nat_lt, if◌then◌else◌, Option, Some, None, ◌-◌, drop}
use Rattle.image_versions.specs.declared.version.Version.{Version}
use Rattle.image_versions.specs.Versions.{name_len_of}
use Rattle.plain_tree.specs.declared.node.Node.{Node}
use Rattle.plain_tree.specs.declared.node.Slot.{Slot}
use Rattle.plain_tree.specs.declared.step.Action.{Action}
use Rattle.plain_tree.specs.declared.step.Action.TheVariants.{Open, Read}
use Rattle.plain_tree.specs.declared.step.StepAnswer.{StepAnswer}
use Rattle.plain_tree.specs.declared.step.StepAnswer.TheVariants.{Bytes}
use Rattle.plain_tree.specs.declared.tree.OpenFile.{OpenFile}
use Rattle.plain_tree.specs.declared.tree.OpenFileEntry.{OpenFileEntry}
use Rattle.plain_tree.specs.Basics.{Name, Tree, tree_of, file_in, is_empty, and_then, is_named, settle, TreeData, cleared, file_at, first_free, has_fd}

-- the element that these bytes are, if there are any, before the others
abbrev pub with_element : Version → List ℕ → List Name → List Name
with_element v bytes es = if is_empty bytes then es else take (name_len_of v) bytes ∷ es

-- these bytes are the end of the path
abbrev pub IsEnd : List ℕ → List ℕ → Type 0
IsEnd path rest = rest ≡ drop (length path - length rest) path

-- the parent, with the last element
abbrev pub with_name : Option ℕ → Name → Option (ℕ × Name)
with_name None e = None
with_name (Some d) e = Some (d, e)

-- there is a node, with a count of 0, and no hart names it
abbrev pub lost_of : Option Node → Bool → Bool
lost_of None named = false
lost_of (Some node) named = (node.count == 0) && not named

abbrev pub is_lost : Tree → ℕ → Bool
is_lost t n = lost_of (t.nodes n) (is_named t n)

-- the tree, settled below n
abbrev pub settled_below : ℕ → Tree → Tree
settled_below n t = record t { nodes = λ k. if nat_lt k n then (settle t).nodes k else t.nodes k }

-- entry i is the first one of that id
pub record IsEntryOf (es : List OpenFileEntry) (id i : ℕ) : Type 0 where
  pub below : i < length es
  pub before : file_in (take i es) id ≡ None
  pub there : (d : OpenFileEntry) → (slice_index_or es i d).id ≡ id

-- a new slot goes to i; if that is none, to the end
abbrev pub FreeAt : List (Option Slot) → Option ℕ → Type 0
FreeAt ss None = (s : Slot) → first_free ss s ≡ ss ++ Some s ∷ []
FreeAt ss (Some i) = (i < length ss) × ((s : Slot) → first_free ss s ≡ slice_set ss i (Some s))

-- the slot at i is cleared; if that is none, no slot is
abbrev pub ClearsAt : List (Option Slot) → Name → Option ℕ → Type 0
ClearsAt ss e None = cleared ss e ≡ ss
ClearsAt ss e (Some i) = (i < length ss) × (cleared ss e ≡ slice_set ss i None)

abbrev pub is_id : Option ℕ → ℕ → Bool
is_id o id = elim o [ None ↦ false | Some j ↦ j == id ]

-- no descriptor has the open file of entry i; if that is none, each open file has one
abbrev pub IsOrphan : TreeData → Option ℕ → Type 0
IsOrphan d None = (j : ℕ) (e : OpenFileEntry) → j < length d.files → has_fd (tree_of d) (slice_index_or d.files j e).id ≡ true
IsOrphan d (Some i) = (i < length d.files) × ((e : OpenFileEntry) → has_fd (tree_of d) (slice_index_or d.files i e).id ≡ false)

-- these entries are the open files f
abbrev pub HasFiles : List OpenFileEntry → (ℕ → Option OpenFile) → Type 0
HasFiles es f = (k : ℕ) → file_in es k ≡ f k

-- the offset of that open file, moved on by this count, is a u64
abbrev pub Advances : Tree → Option ℕ → ℕ → Type 0
Advances t id by = (f : OpenFile) → and_then id (λ j. t.files j) ≡ Some f → f.offset + by < 2 ^ 64

-- the number of bytes that a read's answer has
abbrev pub read_count : StepAnswer → ℕ
read_count (Bytes b) = length b
read_count a = 0

-- the offset of the open file and this count add up to a u64
abbrev pub EndsWithin : Option OpenFile → ℕ → Type 0
EndsWithin None by = Unit {0}
EndsWithin (Some f) by = f.offset + by < 2 ^ 64

-- the end of what a read gives is a u64
abbrev pub ReadsWithin : Tree → ℕ → Action → StepAnswer → Type 0
ReadsWithin t h (Read fd n) a = EndsWithin (file_at t h fd) (read_count a)
ReadsWithin t h s a = Unit {0}

abbrev pub is_open : Action → Bool
is_open (Open path flags) = true
is_open s = false
