-- A script read line by line.
use Rattle.script.proofs.Vocabulary.{◌≡◌, ℕ, ◌+◌, ◌<◌, ◌≤◌, true, false, List, [], ◌∷◌, ◌++◌, length, drop, get_or, cond, Option, Some, None, ap, sym, ◌∙◌, at_drop_more, at_drop_all, append_assoc, append-nil, Line, NumberedLine, lines_from, first_said, said_in, is_passed_over}
use Rattle.script.specs.Reading.{ReadLines}
use Rattle.script.specs.Gives.{GivesFront, number_told}
use Rattle.script.specs.Reading.{lines_of}
use Rattle.script.specs.Said.{numbered}
use Rattle.script.specs.declared.command.Front.{Front}
use Rattle.std.specs.Prelude.{map, option_map}

-- after these lines
abbrev pub with_lines : List NumberedLine → ReadLines → ReadLines
with_lines front rest = record { front = front ++ rest.front; bad = rest.bad }

abbrev pub at_line : ℕ → Line → NumberedLine
at_line n said = record { number = n; says = said }

abbrev pub ended_by : List NumberedLine → Option ℕ → ReadLines
ended_by front bad = record { front = front; bad = bad }

push_line : (front : List NumberedLine) (n : ℕ) (said : Line) (rest : ReadLines) → with_lines front (first_said n (Some said) rest) ≡ with_lines (front ++ at_line n said ∷ []) rest
push_line front n said rest = ap (λ xs. ended_by xs rest.bad) (sym (append_assoc front (at_line n said ∷ []) rest.front))

-- line i of the lines, the first of the remaining ones
one_line : (n : ℕ) (lines : List (List ℕ)) (i : ℕ) (line : List ℕ) → i < length lines → line ≡ get_or lines i line
    → lines_from n (drop i lines) ≡ cond (is_passed_over line) (lines_from (n + 1) (drop (i + 1) lines)) (first_said n (said_in line) (lines_from (n + 1) (drop (i + 1) lines)))
unfolding lines_from
one_line n lines i line lt is = at_drop_more (lines_from n) lines i line lt ∙ ap (λ x. cond (is_passed_over x) (lines_from (n + 1) (drop (i + 1) lines)) (first_said n (said_in x) (lines_from (n + 1) (drop (i + 1) lines)))) (sym is)

pub none_left : (front : List NumberedLine) (n : ℕ) (lines : List (List ℕ)) (i : ℕ) → length lines ≤ i → with_lines front (lines_from n (drop i lines)) ≡ ended_by front None
unfolding lines_from
none_left front n lines i le = ap (with_lines front) (at_drop_all (lines_from n) lines i le) ∙ ap (λ xs. ended_by xs None) (append-nil front)

pub passed_over : (front : List NumberedLine) (n : ℕ) (lines : List (List ℕ)) (i j : ℕ) (line : List ℕ) → i < length lines → line ≡ get_or lines i line → j ≡ i + 1 → is_passed_over line ≡ true
    → with_lines front (lines_from (n + 1) (drop j lines)) ≡ with_lines front (lines_from n (drop i lines))
passed_over front n lines i j line lt is next passed =
    ap (λ k. with_lines front (lines_from (n + 1) (drop k lines))) next
    ∙ sym (ap (with_lines front) (one_line n lines i line lt is ∙ ap (λ b. cond b (lines_from (n + 1) (drop (i + 1) lines)) (first_said n (said_in line) (lines_from (n + 1) (drop (i + 1) lines)))) passed))

pub one_said : (front : List NumberedLine) (n : ℕ) (lines : List (List ℕ)) (i j : ℕ) (line : List ℕ) (said : Line) → i < length lines → line ≡ get_or lines i line → j ≡ i + 1 → is_passed_over line ≡ false
    → said_in line ≡ Some said
    → with_lines (front ++ at_line n said ∷ []) (lines_from (n + 1) (drop j lines)) ≡ with_lines front (lines_from n (drop i lines))
one_said front n lines i j line said lt is next read says =
    ap (λ k. with_lines (front ++ at_line n said ∷ []) (lines_from (n + 1) (drop k lines))) next
    ∙ sym (push_line front n said (lines_from (n + 1) (drop (i + 1) lines)))
    ∙ sym (ap (with_lines front) (one_line n lines i line lt is ∙ ap (λ b. cond b (lines_from (n + 1) (drop (i + 1) lines)) (first_said n (said_in line) (lines_from (n + 1) (drop (i + 1) lines)))) read
    ∙ ap (λ o. first_said n o (lines_from (n + 1) (drop (i + 1) lines))) says))

pub nothing_said : (front : List NumberedLine) (n : ℕ) (lines : List (List ℕ)) (i : ℕ) (line : List ℕ) → i < length lines → line ≡ get_or lines i line → is_passed_over line ≡ false → said_in line ≡ None
    → with_lines front (lines_from n (drop i lines)) ≡ ended_by front (Some n)
nothing_said front n lines i line lt is read says =
    ap (with_lines front) (one_line n lines i line lt is ∙ ap (λ b. cond b (lines_from (n + 1) (drop (i + 1) lines)) (first_said n (said_in line) (lines_from (n + 1) (drop (i + 1) lines)))) read
    ∙ ap (λ o. first_said n o (lines_from (n + 1) (drop (i + 1) lines))) says)
    ∙ ap (λ xs. ended_by xs (Some n)) (append-nil front)

-- what was read is what the text says
pub gives_front : (front : Front) (text : List ℕ) → lines_from 1 (lines_of text) ≡ ended_by (map numbered front.lines.items) (option_map number_told front.bad) → GivesFront front text
gives_front front text is = record { lines = sym (ap (λ (r : ReadLines). r.front) is); bad = sym (ap (λ (r : ReadLines). r.bad) is) }
