-- What several proofs here need of lists, options and truth values.
use Rattle.std.proofs.Common.{◌≡◌, ◌++◌, ◌∷◌, [], Bool, List, None, Option, Some, ap, false, length, refl, suc, sym, true, ◌∙◌}

pub none_some : {X A : Type 0} (a : A) → ◌≡◌ {A = Option A} None (Some a) → X
none_some a e = absurd cc

pub not_both : {X : Type 0} (b : Bool) → b ≡ true → b ≡ false → X
not_both b is isnt = absurd (let q : true ≡ false = sym is ∙ isnt in cc)

pub longer : {A : Type 0} (es : List A) (e : A) → length (es ++ e ∷ []) ≡ suc (length es)
longer [] e = refl
longer (x ∷ es) e = ap suc (longer es e)
