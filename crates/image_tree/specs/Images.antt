-- The words of images, at the version that the disk itself says.
use Rattle.std.specs.Prelude.{ℕ, List, Option, Result}
use Rattle.fs_layout.specs.Recovered.{version_in}
use Rattle.image_tree.specs.Vocabulary.{Dinode, Dirent, Node, NodeKind, TreeData}
use Rattle.image_tree.specs.declared.fault.Damage.{Damage}
use Rattle.image_tree.specs.declared.fault.MountFault.{MountFault}
use Rattle.image_tree.specs.Inodes as inodes
use Rattle.image_tree.specs.Links as links
use Rattle.image_tree.specs.Checks as checks
use Rattle.image_tree.specs.Damage as damage
use Rattle.image_tree.specs.Trees as trees
use Rattle.image_tree.specs.Views as views
use Rattle.image_tree.specs.Freeing as freeing

-- ---- the slots of directories

abbrev pub slot_at : List (List ℕ) → Dinode → ℕ → Option Dirent
slot_at disk d s = inodes.slot_at (version_in disk) disk d s

abbrev pub first_slots : List (List ℕ) → Dinode → ℕ → List (Option Dirent)
first_slots disk d n = inodes.first_slots (version_in disk) disk d n

abbrev pub slots_of : List (List ℕ) → Dinode → List (Option Dirent)
slots_of disk d = inodes.slots_of (version_in disk) disk d

-- ---- who names whom

abbrev pub slots_in : List (List ℕ) → ℕ → List (Option Dirent)
slots_in disk d = links.slots_in (version_in disk) disk d

abbrev pub named_in : List (List ℕ) → ℕ → List ℕ
named_in disk d = links.named_in (version_in disk) disk d

abbrev pub further_in : List (List ℕ) → ℕ → List ℕ
further_in disk d = links.further_in (version_in disk) disk d

abbrev pub up : List (List ℕ) → ℕ → ℕ
up disk d = links.up (version_in disk) disk d

abbrev pub proper_in : List (List ℕ) → ℕ → List ℕ
proper_in disk d = links.proper_in (version_in disk) disk d

abbrev pub parent_of : List (List ℕ) → ℕ → List ℕ
parent_of disk d = links.parent_of (version_in disk) disk d

abbrev pub names_of : List (List ℕ) → ℕ → ℕ
names_of disk i = links.names_of (version_in disk) disk i

abbrev pub further_names_of : List (List ℕ) → ℕ → ℕ
further_names_of disk i = links.further_names_of (version_in disk) disk i

abbrev pub proper_names_of : List (List ℕ) → ℕ → ℕ
proper_names_of disk i = links.proper_names_of (version_in disk) disk i

abbrev pub children_of : List (List ℕ) → ℕ → ℕ
children_of disk i = links.children_of (version_in disk) disk i

-- ---- the checks

abbrev pub HasSuper : List (List ℕ) → Type 0
HasSuper disk = checks.HasSuper (version_in disk) disk

abbrev pub IsGoodSize : List (List ℕ) → Dinode → Type 0
IsGoodSize disk d = checks.IsGoodSize (version_in disk) disk d

abbrev pub HasGoodSizes : List (List ℕ) → Type 0
HasGoodSizes disk = checks.HasGoodSizes (version_in disk) disk

abbrev pub HasGoodSlots : List (List ℕ) → Type 0
HasGoodSlots disk = checks.HasGoodSlots (version_in disk) disk

abbrev pub IsOneTree : List (List ℕ) → Type 0
IsOneTree disk = checks.IsOneTree (version_in disk) disk

abbrev pub HasGoodCounts : List (List ℕ) → Type 0
HasGoodCounts disk = checks.HasGoodCounts (version_in disk) disk

-- ---- the first that fails

abbrev pub UpToSuper : List (List ℕ) → Type 0
UpToSuper disk = damage.UpToSuper (version_in disk) disk

abbrev pub UpToSize : List (List ℕ) → Type 0
UpToSize disk = damage.UpToSize (version_in disk) disk

abbrev pub UpToLog : List (List ℕ) → Type 0
UpToLog disk = damage.UpToLog (version_in disk) disk

abbrev pub UpToTypes : List (List ℕ) → Type 0
UpToTypes disk = damage.UpToTypes (version_in disk) disk

abbrev pub UpToRoot : List (List ℕ) → Type 0
UpToRoot disk = damage.UpToRoot (version_in disk) disk

abbrev pub UpToRange : List (List ℕ) → Type 0
UpToRange disk = damage.UpToRange (version_in disk) disk

abbrev pub UpToOnce : List (List ℕ) → Type 0
UpToOnce disk = damage.UpToOnce (version_in disk) disk

abbrev pub UpToMarks : List (List ℕ) → Type 0
UpToMarks disk = damage.UpToMarks (version_in disk) disk

abbrev pub UpToSizes : List (List ℕ) → Type 0
UpToSizes disk = damage.UpToSizes (version_in disk) disk

abbrev pub UpToSlots : List (List ℕ) → Type 0
UpToSlots disk = damage.UpToSlots (version_in disk) disk

abbrev pub UpToTree : List (List ℕ) → Type 0
UpToTree disk = damage.UpToTree (version_in disk) disk

abbrev pub IsWellFormed : List (List ℕ) → Type 0
IsWellFormed disk = damage.IsWellFormed (version_in disk) disk

abbrev pub IsFirstDamage : List (List ℕ) → Damage → Type 0
IsFirstDamage disk d = damage.IsFirstDamage (version_in disk) disk d

abbrev pub JudgesFault : List (List ℕ) → MountFault → Type 0
JudgesFault disk e = damage.JudgesFault (version_in disk) disk e

abbrev pub JudgesWith : {T : Type 0} → (T → Type 0) → List (List ℕ) → Result T MountFault → Type 0
JudgesWith P disk r = damage.JudgesWith (version_in disk) P disk r

-- ---- the tree

abbrev pub kind_of : List (List ℕ) → Dinode → NodeKind
kind_of disk d = trees.kind_of (version_in disk) disk d

abbrev pub node_of : List (List ℕ) → ℕ → Option Node
node_of disk i = trees.node_of (version_in disk) disk i

abbrev pub first_nodes : List (List ℕ) → ℕ → List (Option Node)
first_nodes disk n = trees.first_nodes (version_in disk) disk n

abbrev pub tree_in : List (List ℕ) → TreeData
tree_in disk = trees.tree_in (version_in disk) disk

-- ---- what stays when a disk is written

abbrev pub IsViewOf : List (List ℕ) → List (List ℕ) → Type 0
IsViewOf old new = views.IsViewOf (version_in old) old new

abbrev pub IsFreed : List (List ℕ) → List (List ℕ) → ℕ → Type 0
IsFreed old new i = freeing.IsFreed (version_in old) old new i

abbrev pub IsReclaimed : List (List ℕ) → List (List ℕ) → ℕ → Type 0
IsReclaimed old new i = freeing.IsReclaimed (version_in old) old new i
