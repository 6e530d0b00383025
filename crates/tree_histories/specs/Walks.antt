-- The walk of a call under way in the kept tree, and the tree steps that its marks are for.
use Rattle.std.specs.Prelude.{◌≡◌, ℕ, Bool, true, false, List, [], ◌∷◌, drop, length, Option, Some, None}
use Rattle.tree_histories.specs.Vocabulary.{Version, option_map, Call, Action, Name, elements, path_of, piece_of, Mark, Whole}
use Rattle.plain_tree.specs.declared.call.Call.TheVariants as calls
use Rattle.plain_tree.specs.declared.step.Action.TheVariants as steps
use Rattle.tree_laws.specs.Moves as moves
use Rattle.path_walk.specs.declared.asks.Mark.TheVariants as mark
use Rattle.whole_calls.specs.declared.link.Link.{Link}
use Rattle.whole_calls.specs.declared.link.Link.TheVariants as linking
use Rattle.whole_calls.specs.declared.whole.Whole.TheVariants as calling
use Rattle.tree_histories.specs.declared.kept.Lead.{Lead}
use Rattle.tree_histories.specs.declared.standing.Walk.{Walk}

-- The tree step that a call's next mark is for; of a link the one along its old path, or the one along the new.
abbrev pub step_for : Call → Bool → Action
step_for (calls.Open path flags) is_new = steps.Open path flags
step_for (calls.Read fd buf) is_new = steps.Read fd (length buf)
step_for (calls.Write fd bytes) is_new = steps.WritePart fd bytes
step_for (calls.Link old new) true = steps.Enter new
step_for (calls.Link old new) false = steps.Find old
step_for (calls.Unlink path) is_new = steps.Unlink path
step_for (calls.Mkdir path) is_new = steps.Mkdir path
step_for (calls.Chdir path) is_new = steps.Chdir path
step_for (calls.Dup fd) is_new = steps.Dup fd
step_for (calls.Fstat fd) is_new = steps.Fstat fd
step_for (calls.Close fd) is_new = steps.Close fd
step_for (calls.Inherit child) is_new = steps.Inherit child

-- a link has come to its new path
abbrev pub is_past_old : Link → Bool
is_past_old linking.Join = false
is_past_old (linking.WalksOld w) = false
is_past_old c = true

abbrev pub is_on_new : Whole → Bool
is_on_new (calling.Link old new c) = is_past_old c
is_on_new w = false

-- the step of a mark, of a call whose marks are for this one
abbrev pub step_in : Action → Mark → Action
step_in s (mark.Truncate fd) = steps.Truncate fd
step_in s mark.Bump = steps.Bump
step_in s mark.Unbump = steps.Unbump
step_in s (mark.Piece i) = piece_of s i
step_in s m = s

-- ---- walks

abbrev pub first_of_them : List Name → Name
first_of_them [] = []
first_of_them (e ∷ es) = e

abbrev pub others : List Name → List Name
others [] = []
others (e ∷ es) = es

-- a walk for this step, in this directory, with these elements left
abbrev pub walk_on : Action → ℕ → List Name → moves.Walk
walk_on s d es = record { step = s; at = d; next = first_of_them es; rest = others es }

-- the elements that are left to a walk of the call
abbrev pub left_to : Version → Call → Walk → List Name
left_to version call w = elements version (drop w.from (path_of (step_for call w.is_new)))

-- what a walk in code represents
abbrev pub walk_of : Version → Call → Walk → moves.Walk
walk_of version call w = walk_on (step_for call w.is_new) w.directory (left_to version call w)

-- the next element of a path from this place on
abbrev pub name_from : Version → ℕ → List ℕ → Name
name_from version from path = first_of_them (elements version (drop from path))

-- no elements are left
abbrev pub are_none : List Name → Bool
are_none [] = true
are_none (e ∷ es) = false

-- what a walk's step acts by if it doesn't go on: with no elements left what was found, else nothing
abbrev pub LeadsBy : Lead → Walk → List Name → Option ℕ → Type 0
LeadsBy lead w [] found = (lead.node ≡ found) × (lead.parent ≡ Some w.directory) × (lead.from ≡ w.from)
LeadsBy lead w (e ∷ es) found = (lead.node ≡ None) × (lead.parent ≡ None)

-- a walk of the call, for this step, in this directory, with these elements left; without elements there is none
abbrev pub IsWalk : Version → Call → Option Walk → Action → ℕ → List Name → Type 0
IsWalk version call o s d [] = o ≡ None
IsWalk version call o s d (e ∷ es) = option_map (walk_of version call) o ≡ Some (walk_on s d (e ∷ es))

-- the walk goes on in what was found, if that is there and elements are left
abbrev pub IsNextWalk : Version → Call → Option Walk → moves.Walk → Option ℕ → Type 0
IsNextWalk version call o w None = o ≡ None
IsNextWalk version call o w (Some n) = IsWalk version call o w.step n w.rest
