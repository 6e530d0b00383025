use Rattle.script.proofs.Lemmas.{◌≡◌, Bool, true, false, cond, Option, Some, None, refl, ap, ◌∙◌, none-some, Line, words_of, line_in, ends_in_return, line_read, line_says}
use Rattle.script.proofs.laws.lines_are_read.Goals as goal

-- what is said of a line that may end in a carriage return is said of one that doesn't
unless : (ends : Bool) (o : Option Line) (said : Line) → cond ends None o ≡ Some said → (ends ≡ false) × (o ≡ Some said)
unless false o said is = (refl, is)
unless true o said is = absurd (none-some said is)

pub returns : goal.returns
returns c = λ said line. (
  λ s. ap (λ e. cond e None (line_in (words_of line))) s.0 ∙ line_read said (words_of line) s.1,
  λ is. let both = unless (ends_in_return line) (line_in (words_of line)) said is in (both.0, line_says said (words_of line) both.1),
)
