-- What a search hears of a list.
use Rattle.std.specs.Prelude.{List, [], ◌∷◌, ◌++◌, length}
use Rattle.tree_histories.specs.Vocabulary.{Placed, acts_of}
use Rattle.tree_histories.specs.declared.explore.Hint.{Hint}

-- an entry after these: its call, how many steps of the call come before it, its new node, its event
abbrev pub hint_of : List Placed → Placed → Hint
hint_of before e = record { call = e.call; step = length (acts_of e.call before); new = e.step.new; event = e.event }

unfoldable pub hints_after : List Placed → List Placed → List Hint
hints_after before [] = []
hints_after before (e ∷ es) = hint_of before e ∷ hints_after (before ++ e ∷ []) es

abbrev pub hints_of : List Placed → List Hint
hints_of es = hints_after [] es
