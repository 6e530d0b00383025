-- What a writer holds after one part and then another.
use Rattle.std.proofs.Common.{◌≡◌, ℕ, ◌+◌, ◌<◌, ◌/◌, ◌%◌, List, [], ◌∷◌, ◌++◌, length, take, get_or, Option, Some, None, refl, ap, sym, ◌∙◌, subst, append_assoc, Result, Ok, Err, OnOk}
use Rattle.std.proofs.lemmas.List.{append-nil}
use Rattle.plain_tree.proofs.Vocabulary.{take_more}
use Rattle.image_reports.specs.Vocabulary.{Appends}
use Rattle.image_reports.specs.Shown.{hex, hex_digit}

pub appends_nothing : (known : Option (List ℕ)) → Appends known known []
appends_nothing None = tt
appends_nothing (Some xs) = sym (append-nil xs)

pub appends_both : (known next end : Option (List ℕ)) (xs ys : List ℕ) → Appends known next xs → Appends next end ys
    → Appends known end (xs ++ ys)
appends_both None next end xs ys first second = tt
appends_both (Some held) None end xs ys first second = absurd first
appends_both (Some held) (Some more) None xs ys first second = absurd second
appends_both (Some held) (Some more) (Some most) xs ys first second = second ∙ ap (λ l. l ++ ys) first ∙ append_assoc held xs ys

hex_one_more : (bytes : List ℕ) (b : ℕ) → hex (bytes ++ b ∷ []) ≡ hex bytes ++ hex (b ∷ [])
hex_one_more [] b = refl
hex_one_more (x ∷ xs) b = ap (λ l. hex_digit (x / 16) ∷ hex_digit (x % 16) ∷ l) (hex_one_more xs b)

-- the first i bytes are written, and then byte i
pub hex_turn : (known next end : Option (List ℕ)) (bytes : List ℕ) (i : ℕ) → i < length bytes → Appends known next (hex (take i bytes))
    → Appends next end (hex (get_or bytes i 0 ∷ [])) → Appends known end (hex (take (i + 1) bytes))
hex_turn known next end bytes i lt first second =
    subst (λ xs. Appends known end xs) (sym (ap hex (take_more bytes i 0 lt) ∙ hex_one_more (take i bytes) (get_or bytes i 0))) (appends_both known next end (hex (take i bytes)) (hex (get_or bytes i 0 ∷ [])) first second)

-- if a last part is written too, the whole is
pub tells_both : {E : Type 0} (known next end : Option (List ℕ)) (result : Result (Unit {0}) E) (head rest whole : List ℕ)
    → head ++ rest ≡ whole → Appends known next head → OnOk result (Appends next end rest) → OnOk result (Appends known end whole)
tells_both known next end (Ok u) head rest whole same first second =
    subst (λ xs. Appends known end xs) same (appends_both known next end head rest first second)
tells_both known next end (Err e) head rest whole same first second = tt
