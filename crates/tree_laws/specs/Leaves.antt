-- What a tree step leaves of the directories, and of the paths that other harts follow.
use Rattle.std.specs.Prelude.{◌≡◌, ◌≢◌, ℕ, Bool, true, false, List, drop, Option, Some, None, ◌⊎◌}
use Rattle.image_versions.specs.declared.version.Version.{Version}
use Rattle.tree_laws.specs.Vocabulary.{Action, Open, Truncate, Read, WritePart, Find, Bump, Enter, Unbump, Unlink, Mkdir, Chdir, Dup, Close, Fstat, Inherit, Name, Tree, climbs_in, live_directory, all_slots, look, follow, is_named, creates, any_used, makes_node, refusal_with}

-- the step may enter or clear a name
abbrev pub names_change : Action → Bool
names_change (Open path flags) = creates flags
names_change (Truncate fd) = false
names_change (Read fd n) = false
names_change (WritePart fd b) = false
names_change (Find old) = false
names_change Bump = false
names_change (Enter new) = true
names_change Unbump = false
names_change (Unlink path) = true
names_change (Mkdir path) = true
names_change (Chdir path) = false
names_change (Dup fd) = false
names_change (Close fd) = false
names_change (Fstat fd) = false
names_change (Inherit child) = false

-- What was found for a step's path: a node that is there, and a live directory that has its last element to look up.
-- If the path has "..", it may lead to other nodes at the time of the step.
pub record IsFound (t : Tree) (res : Option ℕ) (par : Option (ℕ × Name)) : Type 0 where
  pub node : (n : ℕ) → res ≡ Some n → t.nodes n ≢ None
  pub directory : (q : ℕ × Name) → par ≡ Some q → live_directory (t.nodes q.0) ≡ true

-- What live directories find. A step that enters or clears a name changes it at that name alone; any other step
-- changes nothing.
pub record LeavesFinding (version : Version) (t : Tree) (h : ℕ) (s : Action) (res : Option ℕ) (par : Option (ℕ × Name)) (new : ℕ)
    (t' : Tree) : Type 0 where
  pub finds : (d : ℕ) (e : Name) → live_directory (t.nodes d) ≡ true → live_directory (t'.nodes d) ≡ true
      → (names_change s ≡ true → par ≢ Some (d, e)) → look t'.nodes d e ≡ look t.nodes d e
  -- only a directory without entries goes
  pub gone : (d : ℕ) → live_directory (t.nodes d) ≡ true → live_directory (t'.nodes d) ≡ false
      → any_used (drop 2 (all_slots (t.nodes d))) ≡ false
  -- only a new node's number becomes a live directory
  pub dead : (d : ℕ) → (refusal_with version t h s res par ≡ None → makes_node t s par ≡ true → d ≢ new) → live_directory (t.nodes d)
      ≡ false
      → live_directory (t'.nodes d) ≡ false

-- What a step by hart h leaves to the walks of others. A path without ".." leads to the same node as before, or it
-- led to what was removed and leads nowhere.
pub record Frame (version : Version) (t : Tree) (h : ℕ) (s : Action) (res : Option ℕ) (par : Option (ℕ × Name)) (new : ℕ)
    (t' : Tree) : Type 0 where
  pub paths : (a x : ℕ) (w : List Name) → climbs_in w ≡ false → follow t.nodes a w ≡ Some x
      → (follow t'.nodes a w ≡ Some x) ⊎ ((live_directory (t'.nodes x) ≡ false) × (follow t'.nodes a w ≡ None))
  pub dead : (n : ℕ) → (refusal_with version t h s res par ≡ None → makes_node t s par ≡ true → n ≢ new) → live_directory (t.nodes n)
      ≡ false
      → live_directory (t'.nodes n) ≡ false
  pub holds : (g : ℕ) → g ≢ h → t'.holds g ≡ t.holds g
  pub cwds : (g : ℕ) → g ≢ h → (s ≡ Inherit g → ⊥) → t'.cwd g ≡ t.cwd g

-- A number that isn't in the tree is found under no name, and no hart has it.
abbrev pub IsNobodys : Tree → ℕ → Type 0
IsNobodys t n = ((d : ℕ) (e : Name) → look t.nodes d e ≢ Some n) × (is_named t n ≡ false)
