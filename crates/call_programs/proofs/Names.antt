-- The names of a path fit into entries.
use Rattle.call_programs.proofs.Vocabulary.{ℕ, not, List, [], ◌∷◌, take, filter, is_empty, pieces, arith, length-take, Name, elements, map, name_len_of, Version, IsShort}

abbrev pub AllShort : Version → List Name → Type 0
AllShort version [] = Unit {0}
AllShort version (e ∷ es) = IsShort version e × AllShort version es

cut_short : (version : Version) (es : List (List ℕ)) → AllShort version (map (λ e. take (name_len_of version) e) es)
cut_short version [] = tt
cut_short version (e ∷ es) = (let a = length-take (name_len_of version) e in omega (arith, a), cut_short version es)

pub elements_short : (version : Version) (p : List ℕ) → AllShort version (elements version p)
elements_short version p = cut_short version (filter (λ e. not (is_empty e)) (pieces [] p))
