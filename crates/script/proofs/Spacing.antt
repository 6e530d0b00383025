-- Words put one after the other, with one space between them.
use Rattle.script.proofs.Vocabulary.{◌≡◌, ℕ, ◌+◌, ◌<◌, ◌≤◌, List, length, drop, get_or, ap, sym, ◌∙◌, at_drop_more, at_drop_all}
use Rattle.script.specs.Asking.{single_spaced, with_word}

-- word i of the words, the first of the remaining ones
pub word_spaced : (line : List ℕ) (words : List (List ℕ)) (i j : ℕ) (word : List ℕ) → i < length words → word ≡ get_or words i word → j ≡ i + 1
    → single_spaced (with_word line word) (drop j words) ≡ single_spaced line (drop i words)
unfolding single_spaced
word_spaced line words i j word lt is next =
    ap (λ k. single_spaced (with_word line word) (drop k words)) next
    ∙ ap (λ w. single_spaced (with_word line w) (drop (i + 1) words)) is
    ∙ sym (at_drop_more (single_spaced line) words i word lt)

pub all_spaced : (line : List ℕ) (words : List (List ℕ)) (i : ℕ) → length words ≤ i → single_spaced line (drop i words) ≡ line
unfolding single_spaced
all_spaced line words i le = at_drop_all (single_spaced line) words i le
