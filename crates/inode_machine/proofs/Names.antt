-- The names of a path that a call may have are such as entries can have.
use Rattle.image_versions.specs.declared.version.Version.{Version}
use Rattle.image_versions.proofs.Places.{in_range}
use Rattle.inode_machine.proofs.Vocabulary.{◌≡◌, ◌≢◌, inl, inr, ℕ, zero, suc, ◌<◌, Bool, true, false, ◌==◌, not, nat_lt, List, [], ◌∷◌, ◌++◌, Option, Some, None, filter, length, map, take, refl, arith, if◌then◌else◌, length-take, Name, elements, is_empty, pieces, name_len_of, and_true, either, eq_isnt, or_none, is_nothing, IsName, IsText, Refusal, PathTooLong, ZeroInPath, NotCovered, are_bytes, first_wrong, has_zero, path_limit, path_wrong}
use Rattle.inode_machine.proofs.Dups.{less_is}

abbrev pub AllNames : Version → List Name → Type 0
AllNames version [] = Unit {0}
AllNames version (e ∷ es) = IsName version e × AllNames version es

abbrev AllTexts : List (List ℕ) → Type 0
AllTexts [] = Unit {0}
AllTexts (e ∷ es) = IsText e × AllTexts es

-- the bytes of a path, among which '/' may be
abbrev IsPath : List ℕ → Type 0
IsPath [] = Unit {0}
IsPath (b ∷ bs) = (0 < b) × (b < 256) × IsPath bs

path_of : (p : List ℕ) → has_zero p ≡ false → are_bytes p ≡ true → IsPath p
path_of [] q r = tt
path_of (b ∷ bs) q r =
    let z = or_none (b == 0) (has_zero bs) q in
    let y = and_true (nat_lt b 256) (are_bytes bs) r in
    (above b (eq_isnt b 0 z.0), less_is b 256 y.0, path_of bs z.1 y.1)
  where
    above : (b : ℕ) → b ≢ 0 → 0 < b
    above b ne = omega (arith, ne)

text_more : (f : List ℕ) (b : ℕ) → IsText f → 0 < b → b ≢ 47 → b < 256 → IsText (f ++ b ∷ [])
text_more [] b t low apart high = (low, apart, high, tt)
text_more (x ∷ f) b t low apart high = (t.0, t.1, t.2, text_more f b t.3 low apart high)

text_take : (n : ℕ) (e : List ℕ) → IsText e → IsText (take n e)
text_take zero e t = tt
text_take (suc n) [] t = tt
text_take (suc n) (b ∷ bs) t = (t.0, t.1, t.2, text_take n bs t.3)

pieces_text : (f p : List ℕ) → IsText f → IsPath p → AllTexts (pieces f p)
unfolding pieces
pieces_text f [] tf tp = (tf, tt)
pieces_text f (b ∷ bs) tf tp = elim (either (b == 47)) [
  | inl y ↦ rw y (tf, pieces_text [] bs tt tp.2)
  | inr y ↦ rw y (pieces_text (f ++ b ∷ []) bs (text_more f b tf tp.0 (eq_isnt b 47 y) tp.1) tp.2)
]

name_of : (version : Version) (b : ℕ) (bs : List ℕ) → IsText (b ∷ bs) → IsName version (take (name_len_of version) (b ∷ bs))
name_of version b bs t = record { some = (let a = length-take (name_len_of version) (b ∷ bs) in let least = (in_range version).0 in omega (arith, a, least)); fits = (let a = length-take (name_len_of version) (b ∷ bs) in omega (arith, a)); text = text_take (name_len_of version) (b ∷ bs) t }

pub names_of : (version : Version) (es : List (List ℕ)) → AllTexts es → AllNames version (map (λ e. take (name_len_of version) e) (filter (λ e. not (is_empty e)) es))
names_of version [] t = tt
names_of version ([] ∷ es) t = names_of version es t.1
names_of version ((b ∷ bs) ∷ es) t = (name_of version b bs t.0, names_of version es t.1)

pub path_names : (version : Version) (p : List ℕ) → is_nothing (path_wrong p) ≡ true → AllNames version (elements version p)
path_names version p e = let r = by (nat_lt path_limit (length p)) (has_zero p) refl (are_bytes p) refl e in names_of version (pieces [] p) (pieces_text [] p tt (path_of p r.0 r.1))
  where
    by : (a b : Bool) → has_zero p ≡ b → (c : Bool) → are_bytes p ≡ c → is_nothing (if a then Some PathTooLong else (if b then Some ZeroInPath else (if c then None else Some NotCovered))) ≡ true → (has_zero p ≡ false) × (are_bytes p ≡ true)
    by true b q c r e = absurd cc
    by false true q c r e = absurd cc
    by false false q true r e = (q, r)
    by false false q false r e = absurd cc

-- nothing is wrong with either path of a link
pub both_paths : (p q : List ℕ) → is_nothing (first_wrong (path_wrong p) (path_wrong q)) ≡ true → (is_nothing (path_wrong p) ≡ true) × (is_nothing (path_wrong q) ≡ true)
both_paths p q e = by (path_wrong p) e
  where
    by : (o : Option Refusal) → is_nothing (first_wrong o (path_wrong q)) ≡ true → (is_nothing o ≡ true) × (is_nothing (path_wrong q) ≡ true)
    by None r = (refl, r)
    by (Some why) r = absurd cc
