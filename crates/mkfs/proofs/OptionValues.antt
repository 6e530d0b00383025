-- A parse of the command line gives its values.
use Rattle.mkfs.proofs.Vocabulary.{◌≡◌, List, Result, Ok, Err, true, ap, refl, ◌∙◌, IfOk, HasMatchesOf, is_simple, matches_of, rows_of, ArgMatches, mkfs_line}
use Rattle.clap.specs.Words.{App, Text, found_of}

pub line_is_simple : is_simple mkfs_line ≡ true
line_is_simple = refl

-- of a command that is that of b
pub values_given : {E : Type 0} (P Q : ArgMatches → Type 0) (a b : App) (words : List Text) (result : Result ArgMatches E) → a ≡ b → is_simple b ≡ true
    → IfOk result (λ m. P m × Q m × HasMatchesOf a words m) → IfOk result (λ m. rows_of (found_of m) ≡ matches_of b words)
values_given P Q a b words (Ok m) same simple h = (h.2 (ap is_simple same ∙ simple)).0 ∙ ap (λ x. matches_of x words) same
values_given P Q a b words (Err e) same simple h = tt
