-- A well-formed plain tree: live directories form one tree under the root, and counts are numbers of links.
use Rattle.std.specs.Prelude.{◌≡◌, ◌≢◌, ℕ, zero, suc, ◌+◌, ◌<◌, ◌≤◌, Bool, true, false, ◌&&◌, not, List, [], ◌∷◌, drop, ◌==◌, if◌then◌else◌, Option, Some, None}
use Rattle.tree_laws.specs.Vocabulary.{Slot, Node, OpenFile, Hold, hart_count, descriptor_count, root, Tree, dot, dotdot, is_directory, live_directory, all_slots, first_slot}

abbrev pub Slots : Type 0
Slots = List (Option Slot)

-- the slots of a live directory
abbrev pub folder : Option Node → Option Slots
folder v = if live_directory v then Some (all_slots v) else None

abbrev pub links_of : Option Node → ℕ
links_of None = 0
links_of (Some v) = v.count

-- live directories by number
abbrev pub Folders : Type 0
Folders = ℕ → Option Slots

-- the number in the second slot, which is ".."
abbrev pub up_in : Slots → ℕ
up_in [] = 0
up_in (a ∷ []) = 0
up_in (a ∷ None ∷ ss) = 0
up_in (a ∷ Some s ∷ ss) = s.number

-- the slots past "." and ".."
abbrev pub past : Option Slots → Slots
past None = []
past (Some ss) = drop 2 ss

abbrev pub has_up : Option Slots → ℕ → Bool
has_up None d = false
has_up (Some ss) d = up_in ss == d

unfoldable pub sum_below : ℕ → (ℕ → ℕ) → ℕ
sum_below zero f = 0
sum_below (suc n) f = f n + sum_below n f

unfoldable pub one_if : Bool → ℕ
one_if true = 1
one_if false = 0

abbrev pub names : Option Slot → ℕ → ℕ
names None n = 0
names (Some s) n = one_if (s.number == n)

-- how many slots name n
unfoldable pub count_in : Slots → ℕ → ℕ
count_in [] n = 0
count_in (s ∷ ss) n = names s n + count_in ss n

-- how many slots of live directories name n, "." and ".." aside
unfoldable pub mentions : Folders → ℕ → ℕ → ℕ
mentions folders below n = sum_below below (λ d. count_in (past (folders d)) n)

-- how many live directories other than the root have d as their ".."
unfoldable pub children : Folders → ℕ → ℕ → ℕ
children folders below d = sum_below below (λ c. one_if (not (c == root) && has_up (folders c) d))

abbrev pub raised_at : Option Hold → ℕ → ℕ
raised_at None n = 0
raised_at (Some o) n = one_if (o.raised && o.number == n)

-- how many raised holds name n
unfoldable pub raises : (ℕ → Option Hold) → ℕ → ℕ
raises holds n = sum_below hart_count (λ h. raised_at (holds h) n)

-- no two slots have one name
unfoldable pub NamesOnce : Slots → Type 0
NamesOnce [] = Unit {0}
NamesOnce (None ∷ ss) = NamesOnce ss
NamesOnce (Some s ∷ ss) = (first_slot ss s.name ≡ None) × NamesOnce ss

-- The live directory d with the slots ss is in order.
pub record IsInOrder (folders : Folders) (links held : ℕ → ℕ) (below : ℕ) (depth : ℕ → ℕ) (d : ℕ) (ss : Slots) : Type 0 where
  pub within : d < below
  -- "." is d itself, ".." comes next
  pub dots : ss ≡ Some (record { name = dot; number = d }) ∷ Some (record { name = dotdot; number = up_in ss }) ∷ drop 2 ss
  pub once : NamesOnce ss
  -- ".." is a live directory
  pub above : folders (up_in ss) ≢ None
  -- one for its own place, and one for each directory in it
  pub counted : links d ≡ 1 + children folders below d
  pub unheld : held d ≡ 0
  pub rooted : d ≡ root → (up_in ss ≡ root) × (mentions folders below root ≡ 0)
  -- any other directory has one place, in its "..", which is higher
  pub place : d ≢ root → (mentions folders below d ≡ 1) × (count_in (past (folders (up_in ss))) d ≡ 1) × (depth (up_in ss) < depth d)

-- Live directories and counts of links fit. held: how many raised holds name a node. Going up from a directory, depth falls until the root
-- is reached.
pub record IsForest (folders : Folders) (links held : ℕ → ℕ) (below : ℕ) (depth : ℕ → ℕ) : Type 0 where
  pub rooted : folders root ≢ None
  pub directory : (d : ℕ) (ss : Slots) → folders d ≡ Some ss → IsInOrder folders links held below depth d ss
  -- a node that is no live directory: one for each name, and one for each raised hold; so a dead node has neither
  pub other : (n : ℕ) → folders n ≡ None → links n ≡ mentions folders below n + held n

abbrev pub folders_of : (ℕ → Option Node) → Folders
folders_of nodes = λ n. folder (nodes n)

abbrev pub links_in : (ℕ → Option Node) → ℕ → ℕ
links_in nodes = λ n. links_of (nodes n)

-- the node is there, and is a directory or isn't
pub record IsThere (nodes : ℕ → Option Node) (n : ℕ) (directory : Bool) : Type 0 where
  pub node : Node
  pub is : nodes n ≡ Some node
  pub inode_type : is_directory node.kind ≡ directory

-- a descriptor's open file is there, and so is its node
pub record IsOpen (t : Tree) (id : ℕ) : Type 0 where
  pub file : OpenFile
  pub is : t.files id ≡ Some file
  pub node : Node
  pub there : t.nodes file.number ≡ Some node

pub record IsWellFormed (t : Tree) : Type 0 where
  -- numbers are of the range
  pub range : (n : ℕ) (v : Node) → t.nodes n ≡ Some v → (1 ≤ n) × (n < t.ninodes)
  pub depth : ℕ → ℕ
  pub forest : IsForest (folders_of t.nodes) (links_in t.nodes) (raises t.holds) t.ninodes depth
  -- a hold names no directory
  pub holds : (h : ℕ) (o : Hold) → h < hart_count → t.holds h ≡ Some o → IsThere t.nodes o.number false
  pub descriptors : (h i id : ℕ) → h < hart_count → i < descriptor_count → t.fds h i ≡ Some id → IsOpen t id
  pub directories : (h : ℕ) → h < hart_count → IsThere t.nodes (t.cwd h) true
