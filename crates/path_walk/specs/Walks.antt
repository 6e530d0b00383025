-- The rest of a walk.
use Rattle.std.specs.Prelude.{◌≤◌, ℕ, ◌+◌, List, [], ◌∷◌, drop, length, Option, Some, None, IfSome}
use Rattle.path_walk.specs.Vocabulary.{option_map, Name, elements, Reply, Action, Do, unmarked, AtName, Take, UnlockInode, WalkDown, P, leave_directory, looks_or_quits, see_parent, start, walk, walk_parent, walk_step, with_last}
use Rattle.image_versions.specs.declared.version.Version.{Version}
use Rattle.path_walk.specs.Elements.{name_in, IsElement}
use Rattle.inode_machine.specs.Parts as parts
use Rattle.path_walk.specs.declared.walk.Goal.{Goal}
use Rattle.path_walk.specs.declared.walk.Goal.TheVariants as goal
use Rattle.path_walk.specs.declared.walk.Lost.{Lost}
use Rattle.path_walk.specs.declared.walk.Lost.TheVariants as lost
use Rattle.path_walk.specs.declared.walk.Next.{Next}
use Rattle.path_walk.specs.declared.walk.Next.TheVariants as next
use Rattle.path_walk.specs.declared.walk.Walk.{Walk}
use Rattle.path_walk.specs.declared.walk.Walk.TheVariants as walking
use Rattle.path_walk.specs.declared.walk.Walked.{Walked}
use Rattle.path_walk.specs.declared.walk.Walked.TheVariants as walked

abbrev pub stop_of : Lost → parts.WalkStop
stop_of lost.NotThere = parts.NotThere
stop_of lost.NoMemory = parts.NoMemory

-- what comes after a walk: at this directory, with the last name where it is one to the parent; or where it is lost
pub record After : Type 0 where
  pub found : ℕ → Option Name → List ℕ → P Reply
  pub lost : parts.WalkStop → List ℕ → P Reply

module _ (v : Version) (s : Action) (path : List ℕ) (after : After) where
  -- from directory d through these elements
  abbrev pub onward : Goal → ℕ → List Name → List ℕ → P Reply
  onward goal.Inside d es ns = walk s d es ns (λ j ms. after.found j None ms) after.lost
  onward goal.Parent d [] ns = after.lost parts.NotThere ns
  onward goal.Parent d (e ∷ es) ns = walk_parent s d e es ns (λ j e ms. after.found j (Some e) ms) after.lost

  abbrev pub next_of : Goal → Next → List ℕ → P Reply
  next_of to (next.Go j rest) ns = onward to j (elements v (drop rest path)) ns
  next_of to (next.Quits why) ns = after.lost (stop_of why) ns

  abbrev pub walk_of : Goal → List ℕ → Walk → P Reply
  walk_of to ns walking.Start = start s path ns (λ d. onward to d (elements v path) ns) after.lost
  walk_of to ns (walking.Look d e) =
      Do (Take d (AtName (name_in path e))) (looks_or_quits s)
      (λ a. walk_step d ns (λ j ms. onward to j (elements v (drop e.rest path)) ms) after.lost a.found)
  walk_of to ns (walking.See d e) = see_parent s d ns (after.found d (Some (name_in path e))) after.lost
  walk_of to ns (walking.Up d j rest) = walk_step d ns (λ j ms. onward to j (elements v (drop rest path)) ms) after.lost (Some j)
  walk_of to ns (walking.UnlockInode d then_) = leave_directory d ns (next_of to then_)
  walk_of to ns (walking.Down d then_) = Do (WalkDown d) unmarked (λ last. next_of to then_ (with_last ns d last))
  walk_of to ns (walking.Leave d e) = Do (UnlockInode d) unmarked (λ _. after.found d (Some (name_in path e)) ns)

  -- after a step, with the walk as the step left it
  abbrev pub walked_to : Goal → List ℕ → Walk → Walked → P Reply
  walked_to to ns w walked.Walks = walk_of to ns w
  walked_to to ns w (walked.Reached d e) = after.found d (option_map (name_in path) e) ns
  walked_to to ns w (walked.Lost why) = after.lost (stop_of why) ns

-- ---- how long its list may grow

abbrev pub elements_from : Version → List ℕ → ℕ → ℕ
elements_from v path rest = length (elements v (drop rest path))

abbrev pub most_next : Version → List ℕ → Next → ℕ
most_next v path (next.Go j rest) = elements_from v path rest
most_next v path (next.Quits why) = 0

-- the inodes that may yet go on it
abbrev pub most_left : Version → List ℕ → Walk → ℕ
most_left v path walking.Start = length (elements v path)
most_left v path (walking.Look d e) = 1 + elements_from v path e.rest
most_left v path (walking.See d e) = 1
most_left v path (walking.Up d j rest) = 1 + elements_from v path rest
most_left v path (walking.UnlockInode d then_) = 1 + most_next v path then_
most_left v path (walking.Down d then_) = 1 + most_next v path then_
most_left v path (walking.Leave d e) = 0

abbrev pub most_walked : Version → List ℕ → Walk → Walked → ℕ
most_walked v path w walked.Walks = most_left v path w
most_walked v path w (walked.Reached d e) = 0
most_walked v path w (walked.Lost why) = 0

-- its places are in the path
abbrev pub next_stands : List ℕ → Next → Type 0
next_stands path (next.Go j rest) = rest ≤ length path
next_stands path (next.Quits why) = Unit {0}

abbrev pub Stands : Version → List ℕ → Walk → Type 0
Stands v path walking.Start = Unit {0}
Stands v path (walking.Look d e) = IsElement v path e
Stands v path (walking.See d e) = IsElement v path e
Stands v path (walking.Up d j rest) = rest ≤ length path
Stands v path (walking.UnlockInode d then_) = next_stands path then_
Stands v path (walking.Down d then_) = next_stands path then_
Stands v path (walking.Leave d e) = IsElement v path e

abbrev pub StandsAt : Version → List ℕ → Walk → Walked → Type 0
StandsAt v path w walked.Walks = Stands v path w
StandsAt v path w (walked.Reached d e) = IfSome e (IsElement v path)
StandsAt v path w (walked.Lost why) = Unit {0}
