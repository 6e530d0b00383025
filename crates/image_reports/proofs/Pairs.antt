-- Bytes read pair by pair of digits.
use Rattle.std.proofs.Common.{◌≡◌, ◌≤◌, ◌<◌, ◌+◌, ◌*◌, ◌/◌, ◌%◌, ℕ, Bool, true, false, cond, List, [], ◌∷◌, ◌++◌, All, length, get_or, drop, codes, Option, Some, None, refl, ap, sym, ◌∙◌, append_assoc, arith}
use Rattle.std.proofs.lemmas.List.{append-nil}
use Rattle.std.proofs.lemmas.List.Elements.{All-cons, All-head, All-tail}
use Rattle.image_reports.specs.Shown.{are_printed, hex, hex_digit}
use Rattle.image_reports.specs.Words.{ReadsShown, both, digit_of, pair_of, pairs_in, says, with_first}

abbrev pub with_front : List ℕ → Option (List ℕ) → Option (List ℕ)
with_front front (Some bytes) = Some (front ++ bytes)
with_front front None = None

pub one_pair : (digits : List ℕ) → 2 ≤ length digits → pairs_in digits ≡ with_first (pair_of (get_or digits 0 0) (get_or digits 1 0)) (pairs_in (drop 2 digits))
unfolding pairs_in
one_pair [] long = absurd (omega (arith, long))
one_pair (high ∷ []) long = absurd (omega (arith, long))
one_pair (high ∷ low ∷ rest) long = refl

pub push_front : (front : List ℕ) (b : ℕ) (rest : Option (List ℕ)) → with_front front (with_first (Some b) rest) ≡ with_front (front ++ b ∷ []) rest
push_front front b None = refl
push_front front b (Some bytes) = ap Some (sym (append_assoc front (b ∷ []) bytes))

-- the first pair of the rest is none
pub no_byte : (front rest digits : List ℕ) → 2 ≤ length rest → None ≡ pair_of (get_or rest 0 0) (get_or rest 1 0)
    → with_front front (pairs_in rest) ≡ pairs_in digits → None ≡ pairs_in digits
no_byte front rest digits long none had =
    ap (λ o. with_front front (with_first o (pairs_in (drop 2 rest)))) none ∙ sym (ap (with_front front) (one_pair rest long)) ∙ had

-- or it is one
pub one_byte : (front more rest after digits : List ℕ) (b : ℕ) → 2 ≤ length rest → Some b ≡ pair_of (get_or rest 0 0) (get_or rest 1 0)
    → more ≡ front ++ b ∷ [] → after ≡ drop 2 rest → with_front front (pairs_in rest) ≡ pairs_in digits
    → with_front more (pairs_in after) ≡ pairs_in digits
one_byte front more rest after digits b long one pushed left had =
    ap (λ l. with_front l (pairs_in after)) pushed ∙ sym (push_front front b (pairs_in after))
    ∙ ap (λ l. with_front front (with_first (Some b) (pairs_in l))) left
    ∙ ap (λ o. with_front front (with_first o (pairs_in (drop 2 rest)))) one ∙ sym (ap (with_front front) (one_pair rest long)) ∙ had

-- nothing is left, or one digit is
pub none_left : (front rest digits : List ℕ) → length rest ≡ 0 → with_front front (pairs_in rest) ≡ pairs_in digits → Some front ≡ pairs_in digits
unfolding pairs_in
none_left front [] digits none had = ap Some (sym (append-nil front)) ∙ had
none_left front (d ∷ rest) digits none had = absurd (omega (arith, none))

pub one_left : (front rest digits : List ℕ) → length rest < 2 → 0 < length rest → with_front front (pairs_in rest) ≡ pairs_in digits → None ≡ pairs_in digits
unfolding pairs_in
one_left front [] digits few some had = absurd (omega (arith, some))
one_left front (d ∷ []) digits few some had = had
one_left front (d ∷ e ∷ rest) digits few some had = absurd (omega (arith, few))

-- ---- what is shown is read

digit_back : (n : ℕ) → n < 16 → digit_of (hex_digit n) ≡ Some n
digit_back n low = grind arith

byte_back : (b : ℕ) → b < 256 → pair_of (hex_digit (b / 16)) (hex_digit (b % 16)) ≡ Some b
byte_back b low =
    let high_low : b / 16 < 16 = omega arith in
    let low_low : b % 16 < 16 = omega arith in
    let whole : (b / 16) * 16 + b % 16 ≡ b = omega arith in
    ap (λ o. both o (digit_of (hex_digit (b % 16)))) (digit_back (b / 16) high_low) ∙ ap (both (Some (b / 16))) (digit_back (b % 16) low_low) ∙ ap Some whole

pairs_back : (bytes : List ℕ) → All (λ b. b < 256) bytes → pairs_in (hex bytes) ≡ Some bytes
unfolding pairs_in
pairs_back [] low = refl
pairs_back (b ∷ bs) low =
    ap (λ o. with_first o (pairs_in (hex bs))) (byte_back b (All-head (λ b. b < 256) b bs low))
    ∙ ap (with_first (Some b)) (pairs_back bs (All-tail (λ b. b < 256) b bs low))

shown_back : (path : List ℕ) (is_plain : Bool) → All (λ b. b < 256) path → says (cond is_plain (47 ∷ path) (codes "hex:" ++ hex (47 ∷ path))) ≡ Some (47 ∷ path)
shown_back path true low = refl
shown_back path false low = pairs_back (47 ∷ path) (All-cons (λ b. b < 256) 47 path (omega arith) low)

pub shown_read : ReadsShown
shown_read path low = shown_back path (are_printed (47 ∷ path)) low
