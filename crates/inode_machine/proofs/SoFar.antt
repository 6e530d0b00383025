-- What a call may have made so far, by what its whole sequence may be.
use Rattle.image_versions.specs.declared.version.Version.{Version}
use Rattle.inode_machine.proofs.Vocabulary.{List, [], ◌∷◌, ◌++◌, Option, sym, subst, oldest_first, Begun, oldest_first_more, Reply, Call, Act, Deed, Step, Move, begins, IsNext, after, told_by, IsPlayed, IsPlayedSoFar, covered_calls}

-- what begins a whole sequence
pub played_so_far : (c : Call) (acts : List Act) (es rest : List Step) (r : Reply) → IsPlayed c acts (es ++ rest) r → IsPlayedSoFar c acts es
played_so_far c acts [] rest r p = tt
played_so_far c acts (e ∷ es) rest r p = (p.0, played_so_far c (after e.told acts) es rest r p.1)

-- and the whole of it
pub whole_so_far : (c : Call) (acts : List Act) (es : List Step) (r : Reply) → IsPlayed c acts es r → IsPlayedSoFar c acts es
whole_so_far c acts [] r p = tt
whole_so_far c acts (e ∷ es) r p = (p.0, whole_so_far c (after e.told acts) es r p.1)

-- the last step is the next one after those before it
pub next_so_far : (c : Call) (acts : List Act) (es : List Step) (e : Step) → IsPlayedSoFar c acts (es ++ e ∷ []) → IsNext c (told_by acts es) (begins e.move)
next_so_far c acts [] e p = p.0
next_so_far c acts (x ∷ es) e p = next_so_far c (after x.told acts) es e p.1

-- the same, whatever the last step tells
pub told_so_far : (c : Call) (acts : List Act) (es : List Step) (v : Move) (a b : Option Deed) → IsPlayedSoFar c acts (es ++ record { move = v; told = a } ∷ []) → IsPlayedSoFar c acts (es ++ record { move = v; told = b } ∷ [])
told_so_far c acts [] v a b p = p
told_so_far c acts (x ∷ es) v a b p = (p.0, told_so_far c (after x.told acts) es v a b p.1)

-- so a call that was begun is, if its last step finds no room
pub full_begins : (version : Version) (c : Call) (es : List Step) (v : Move) (a b : Option Deed) → Begun (covered_calls version) c (record { move = v; told = a } ∷ es) → Begun (covered_calls version) c (record { move = v; told = b } ∷ es)
full_begins version c es v a b p =
    subst (λ (z : List Step). IsPlayedSoFar c [] z) (sym (oldest_first_more (record { move = v; told = b }) es))
    (told_so_far c [] (oldest_first es) v a b (subst (λ (z : List Step). IsPlayedSoFar c [] z) (oldest_first_more (record { move = v; told = a }) es) p))
