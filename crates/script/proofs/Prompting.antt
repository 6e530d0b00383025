-- A line that says something in a script is none of the lines that only a prompt has.
use Rattle.script.proofs.Vocabulary.{◌≡◌, ℕ, Bool, true, false, ◌||◌, List, cond, Option, Some, None, refl, ap, sym, ◌∙◌, none-some, same_Some, bytes_eq-Decides, bytes_eq, codes, Asked, Nothing, Help, State, Quit, ends_input, Line, is_passed_over, line_in, call_in, said_in, with_one, value_after}
use Rattle.std.specs.Prelude.{◌⊎◌, []}
use Rattle.std.proofs.Common.{inl, inr}
use Rattle.script.specs.Asking.{Run, asked_as_typed, asked_in, or_asked, single_spaced}
use Rattle.script.specs.Reading.{words_of}

is_other : (line text : List ℕ) (said : Line) → said_in text ≡ None → said_in line ≡ Some said → bytes_eq line text ≡ false
is_other line text said none some = by (bytes_eq line text) refl
  where
    by : (b : Bool) → bytes_eq line text ≡ b → b ≡ false
    by false same = refl
    by true same = absurd (none-some said (sym none ∙ sym (ap said_in ((bytes_eq-Decides line text).0 same)) ∙ some))

help_says_nothing : said_in (codes "help") ≡ None
unfolding line_in call_in value_after
help_says_nothing = refl

state_says_nothing : said_in (codes "state") ≡ None
unfolding line_in call_in value_after
state_says_nothing = refl

quit_says_nothing : said_in (codes "quit") ≡ None
unfolding line_in call_in value_after
quit_says_nothing = refl

exit_says_nothing : said_in (codes "exit") ≡ None
unfolding line_in call_in value_after
exit_says_nothing = refl

-- none of them
abbrev other : Bool → Bool → Bool → Option Asked → Option Asked
other help state quit run = cond help (Some Help) (cond state (Some State) (cond quit (Some Quit) run))

is_run : (said : Line) (line : List ℕ) → is_passed_over line ≡ false → said_in line ≡ Some said → asked_as_typed line ≡ Some (Run said)
is_run said line read says =
    let help = is_other line (codes "help") said help_says_nothing says in
    let state = is_other line (codes "state") said state_says_nothing says in
    let quit = is_other line (codes "quit") said quit_says_nothing says in
    let exit = is_other line (codes "exit") said exit_says_nothing says in
    ap (λ b. cond b (Some Nothing) (other (bytes_eq line (codes "help")) (bytes_eq line (codes "state")) (ends_input line) (with_one Run (said_in line)))) read
    ∙ ap (λ b. other b (bytes_eq line (codes "state")) (ends_input line) (with_one Run (said_in line))) help
    ∙ ap (λ b. other false b (ends_input line) (with_one Run (said_in line))) state
    ∙ ap (λ b. other false false (b || bytes_eq line (codes "exit")) (with_one Run (said_in line))) quit
    ∙ ap (λ b. other false false b (with_one Run (said_in line))) exit
    ∙ ap (with_one Run) says

run_says : (o : Option Line) (said : Line) → with_one Run o ≡ Some (Run said) → o ≡ Some said
run_says None said is = absurd (none-some (Run said) is)
run_says (Some l) said is = by (same_Some _ _ is)
  where
    by : Run l ≡ Run said → Some l ≡ Some said
    by same = cc

says_so : (help state quit : Bool) (o : Option Line) (said : Line) → other help state quit (with_one Run o) ≡ Some (Run said) → o ≡ Some said
says_so true state quit o said is = cc
says_so false true quit o said is = cc
says_so false false true o said is = cc
says_so false false false o said is = run_says o said is

run_is_said : (said : Line) (line : List ℕ) → is_passed_over line ≡ false → asked_as_typed line ≡ Some (Run said) → said_in line ≡ Some said
run_is_said said line read is =
    says_so (bytes_eq line (codes "help")) (bytes_eq line (codes "state")) (ends_input line) (said_in line) said
    (sym (ap (λ b. cond b (Some Nothing) (other (bytes_eq line (codes "help")) (bytes_eq line (codes "state")) (ends_input line) (with_one Run (said_in line)))) read) ∙ is)

-- ---- spaces at an end, and beside others

pub runs_so : (said : Line) (line : List ℕ) → is_passed_over line ≡ false → said_in line ≡ Some said → asked_in line ≡ Some (Run said)
runs_so said line read says = ap (λ o. or_asked o (asked_as_typed (single_spaced [] (words_of line)))) (is_run said line read says)

-- a line that is run isn't passed over
said_by : (said : Line) (line : List ℕ) → asked_as_typed line ≡ Some (Run said) → said_in line ≡ Some said
said_by said line is = by (is_passed_over line) refl
  where
    by : (b : Bool) → is_passed_over line ≡ b → said_in line ≡ Some said
    by false read = run_is_said said line read is
    by true read =
        let nothing : Some Nothing ≡ Some (Run said) =
        sym (ap (λ b. cond b (Some Nothing) (other (bytes_eq line (codes "help")) (bytes_eq line (codes "state")) (ends_input line) (with_one Run (said_in line)))) read) ∙ is in
        absurd (cc nothing)

pub run_was_said : (said : Line) (line : List ℕ) → asked_in line ≡ Some (Run said) → (said_in line ≡ Some said) ⊎ (said_in (single_spaced [] (words_of line)) ≡ Some said)
run_was_said said line is = by (asked_as_typed line) refl
  where
    by : (o : Option Asked) → asked_as_typed line ≡ o → (said_in line ≡ Some said) ⊎ (said_in (single_spaced [] (words_of line)) ≡ Some said)
    by None none = inr (said_by said (single_spaced [] (words_of line)) (sym (ap (λ o. or_asked o (asked_as_typed (single_spaced [] (words_of line)))) none) ∙ is))
    by (Some a) some = inl (said_by said line (some ∙ sym (ap (λ o. or_asked o (asked_as_typed (single_spaced [] (words_of line)))) some) ∙ is))
