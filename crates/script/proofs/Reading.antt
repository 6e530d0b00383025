-- What a command line that was read has.
use Rattle.script.proofs.Vocabulary.{◌≡◌, List, Result, Ok, Err, true, ap, refl, ◌∙◌, subst, IfOk, App, FailsBy, HasMatchesOf, Text, fault_of, found_of, is_simple, is_simple_and_free, matches_of, rows_of, Error, ArgMatches, console_line}

pub line_is_simple : is_simple console_line ≡ true
line_is_simple = refl

-- of a command that is that of b
pub read_as : {E : Type 0} (a b : App) (words : List Text) (result : Result ArgMatches E) → a ≡ b → is_simple b ≡ true → IfOk result (HasMatchesOf a words) → IfOk result (λ m. rows_of (found_of m) ≡ matches_of b words)
read_as a b words (Ok m) same simple h = (h (ap is_simple same ∙ simple)).0 ∙ ap (λ x. matches_of x words) same
read_as a b words (Err e) same simple h = tt

line_is_free : is_simple_and_free console_line ≡ true
line_is_free = refl

-- a fault of a command that is the console's has a kind that the words call for
pub faults_as : {V : Type 0} (a : App) (words : List Text) (result : Result V Error) → a ≡ console_line → (is_simple_and_free a ≡ true → FailsBy (fault_of a words) result) → FailsBy (fault_of console_line words) result
faults_as a words result same fails = subst (λ x. FailsBy (fault_of x words) result) same (fails (ap is_simple_and_free same ∙ line_is_free))
