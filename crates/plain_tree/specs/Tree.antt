-- The plain tree: what a path names, and which nodes stay.
use Rattle.std.specs.Prelude.{ℕ, zero, suc, Bool, true, false, ◌&&◌, ◌||◌, not, List, [], ◌∷◌, ◌++◌, take, map, filter, ◌==◌, nat_lt, if◌then◌else◌, Option, Some, None, slice_index_or}
use Rattle.image_versions.specs.declared.version.Version.{Version}
use Rattle.image_versions.specs.declared.version.Version.TheVariants.{One}
use Rattle.image_versions.specs.Versions.{name_len_of}
use Rattle.plain_tree.specs.declared.node.Slot.{Slot}
use Rattle.plain_tree.specs.declared.node.Node.{Node}
use Rattle.plain_tree.specs.declared.node.NodeKind.{NodeKind}
use Rattle.plain_tree.specs.declared.node.NodeKind.TheVariants.{Directory, File, Device}
use Rattle.plain_tree.specs.declared.tree.OpenFile.{OpenFile}
use Rattle.plain_tree.specs.declared.tree.OpenFileEntry.{OpenFileEntry}
use Rattle.plain_tree.specs.declared.tree.Hold.{Hold}
use Rattle.plain_tree.specs.declared.tree.Hart.{Hart}
use Rattle.plain_tree.specs.TreeData.{TreeData}
use Rattle.plain_tree.specs.Widths.{hart_count, descriptor_count, root}

-- a name is its bytes: none of them zero, and at most as many as a name of the version has
abbrev pub Name : Type 0
Name = List ℕ

pub record Tree : Type 0 where
  pub ninodes : ℕ  -- the number of a new node is below it
  pub nodes : ℕ → Option Node
  pub files : ℕ → Option OpenFile  -- by id
  pub cwd : ℕ → ℕ  -- by hart
  pub fds : ℕ → ℕ → Option ℕ  -- by hart and descriptor, the id of the open file
  pub holds : ℕ → Option Hold  -- by hart

-- The tree that the data of a `Tree` means.

unfoldable pub file_in : List OpenFileEntry → ℕ → Option OpenFile
file_in [] id = None
file_in (e ∷ es) id = if e.id == id then Some e.file else file_in es id

-- a hart at rest in the root
abbrev pub resting : Hart
resting = record { directory = root; descriptors = []; hold = None }

abbrev pub hart_at : TreeData → ℕ → Hart
hart_at d h = slice_index_or d.harts h resting

abbrev pub tree_of : TreeData → Tree
tree_of d = record {
  ninodes = d.ninodes;
  nodes = λ n. slice_index_or d.nodes n None;
  files = λ id. file_in d.files id;
  cwd = λ h. (hart_at d h).directory;
  fds = λ h i. slice_index_or (hart_at d h).descriptors i None;
  holds = λ h. (hart_at d h).hold;
}

-- f, but v at k
unfoldable pub put : {A : Type 0} → (ℕ → A) → ℕ → A → ℕ → A
put f k v n = if n == k then v else f n

unfoldable pub any_below : ℕ → (ℕ → Bool) → Bool
any_below zero p = false
any_below (suc n) p = p n || any_below n p

-- the same bytes
unfoldable pub same_name : Name → Name → Bool
same_name [] [] = true
same_name [] (y ∷ ys) = false
same_name (x ∷ xs) [] = false
same_name (x ∷ xs) (y ∷ ys) = (x == y) && same_name xs ys

-- "." and ".."
abbrev pub dot : Name
dot = 46 ∷ []

abbrev pub dotdot : Name
dotdot = 46 ∷ 46 ∷ []

-- Elements of a path: cut at every '/', the empty ones dropped, each cut to a name of the version.

unfoldable pub pieces : List ℕ → List ℕ → List (List ℕ)
pieces so_far [] = so_far ∷ []
pieces so_far (b ∷ bs) = if b == 47 then so_far ∷ pieces [] bs else pieces (so_far ++ b ∷ []) bs

abbrev pub is_empty : {A : Type 0} → List A → Bool
is_empty [] = true
is_empty (x ∷ xs) = false

abbrev pub elements : Version → List ℕ → List Name
elements v path = map (λ e. take (name_len_of v) e) (filter (λ e. not (is_empty e)) (pieces [] path))

abbrev pub is_absolute : List ℕ → Bool
is_absolute [] = false
is_absolute (b ∷ bs) = b == 47

-- an element is ".."
unfoldable pub climbs_in : List Name → Bool
climbs_in [] = false
climbs_in (e ∷ es) = same_name e dotdot || climbs_in es

-- in one version exactly if in any, because no name is cut to ".."
abbrev pub climbs : List ℕ → Bool
climbs path = climbs_in (elements One path)

-- Live directories, and what they find.

abbrev pub is_directory : NodeKind → Bool
is_directory (Directory slots) = true
is_directory (File bytes) = false
is_directory (Device major minor size) = false

abbrev pub slots_of : NodeKind → List (Option Slot)
slots_of (Directory slots) = slots
slots_of (File bytes) = []
slots_of (Device major minor size) = []

abbrev pub live_directory : Option Node → Bool
live_directory None = false
live_directory (Some v) = nat_lt 0 v.count && is_directory v.kind

abbrev pub is_live : Option Node → Bool
is_live None = false
is_live (Some v) = nat_lt 0 v.count

abbrev pub all_slots : Option Node → List (Option Slot)
all_slots None = []
all_slots (Some v) = slots_of v.kind

-- the number in the first slot of that name
unfoldable pub first_slot : List (Option Slot) → Name → Option ℕ
first_slot [] e = None
first_slot (None ∷ ss) e = first_slot ss e
first_slot (Some s ∷ ss) e = if same_name s.name e then Some s.number else first_slot ss e

-- what a live directory finds under a name
unfoldable pub look : (ℕ → Option Node) → ℕ → Name → Option ℕ
look ns d e = if live_directory (ns d) then first_slot (all_slots (ns d)) e else None

abbrev pub and_then : {A B : Type 0} → Option A → (A → Option B) → Option B
and_then None f = None
and_then (Some x) f = f x

unfoldable pub follow : (ℕ → Option Node) → ℕ → List Name → Option ℕ
follow ns d [] = Some d
follow ns d (e ∷ es) = and_then (look ns d e) (λ n. follow ns n es)

-- the directory before the last element, if it is live, with that element
unfoldable pub parent_from : (ℕ → Option Node) → ℕ → Name → List Name → Option (ℕ × Name)
parent_from ns d e [] = if live_directory (ns d) then Some (d, e) else None
parent_from ns d e (e' ∷ es) = and_then (look ns d e) (λ n. parent_from ns n e' es)

unfoldable pub parent_of : (ℕ → Option Node) → ℕ → List Name → Option (ℕ × Name)
parent_of ns d [] = None
parent_of ns d (e ∷ es) = parent_from ns d e es

-- a path that begins with '/' starts at the root, any other at the hart's current directory
abbrev pub start_of : Tree → ℕ → List ℕ → ℕ
start_of t h path = if is_absolute path then root else t.cwd h

abbrev pub resolve : Version → Tree → ℕ → List ℕ → Option ℕ
resolve v t h path = follow t.nodes (start_of t h path) (elements v path)

abbrev pub parent : Version → Tree → ℕ → List ℕ → Option (ℕ × Name)
parent v t h path = parent_of t.nodes (start_of t h path) (elements v path)

-- What stays: live nodes, and those that a descriptor's open file, a current directory or a hold names.

abbrev pub file_names : Option OpenFile → ℕ → Bool
file_names None n = false
file_names (Some f) n = f.number == n

abbrev pub fd_names : Tree → Option ℕ → ℕ → Bool
fd_names t None n = false
fd_names t (Some id) n = file_names (t.files id) n

abbrev pub hold_names : Option Hold → ℕ → Bool
hold_names None n = false
hold_names (Some o) n = o.number == n

unfoldable pub is_named : Tree → ℕ → Bool
is_named t n =
    any_below hart_count (λ h. (t.cwd h == n) || (hold_names (t.holds h) n || any_below descriptor_count (λ i. fd_names t (t.fds h i) n)))

unfoldable pub settle : Tree → Tree
settle t = record t { nodes = λ n. if is_live (t.nodes n) || is_named t n then t.nodes n else None }
