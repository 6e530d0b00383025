-- What is counted of the first inodes and the first blocks.
use Rattle.std.proofs.Common.{◌≡◌, ◌∙◌, ap, sym, refl, ℕ, suc, ◌+◌, ◌-◌, ◌≤◌, Bool, true, false, cond, List, length, arith, length-append, ◌++◌, Option, Result, Ok, Err, OnOk, subst}
use Rattle.image_reports.specs.Vocabulary.{Appends, IsWellFormed, count_upto, gathered, logged, version_in}
use Rattle.image_reports.specs.Parts.{Prints, log_text}
use Rattle.image_reports.specs.Usage.{TellsUsage, usage_of, usage_text}
use Rattle.image_reports.specs.declared.usage.Usage.{Usage}

pub none_counted : (p : ℕ → Bool) → 0 ≡ count_upto p 0
unfolding count_upto
none_counted p = refl

pub one_counted : (p : ℕ → Bool) (i count more : ℕ) → 1 ≤ i → count ≡ count_upto p (i - 1) → more ≡ cond (p i) 1 0
    → count + more ≡ count_upto p (i + 1 - 1)
unfolding count_upto
one_counted p i count more low counted one =
    let e : i + 1 - 1 ≡ suc (i - 1) = omega arith in
    let k : suc (i - 1) ≡ i = omega arith in
    ap (λ n. n + more) counted ∙ ap (λ n. count_upto p (i - 1) + n) one
    ∙ sym (ap (count_upto p) e ∙ ap (λ (k : ℕ). count_upto p (i - 1) + cond (p k) 1 0) k)

pub none_gathered : (f : ℕ → List ℕ) → 0 ≡ length (gathered f 0)
unfolding gathered
none_gathered f = refl

pub one_gathered : (f : ℕ → List ℕ) (i count more : ℕ) → 1 ≤ i → count ≡ length (gathered f (i - 1)) → more ≡ length (f i)
    → count + more ≡ length (gathered f (i + 1 - 1))
unfolding gathered
one_gathered f i count more low counted one =
    let e : i + 1 - 1 ≡ suc (i - 1) = omega arith in
    let k : suc (i - 1) ≡ i = omega arith in
    ap (λ n. n + more) counted ∙ ap (λ n. length (gathered f (i - 1)) + n) one ∙ sym (length-append (gathered f (i - 1)) (f i))
    ∙ sym (ap (λ n. length (gathered f n)) e ∙ ap (λ (k : ℕ). length (gathered f (i - 1) ++ f k)) k)

pub at_most_one : (n : ℕ) (b : Bool) → n ≡ cond b 1 0 → n ≤ 1
at_most_one n true is = omega (arith, is)
at_most_one n false is = omega (arith, is)

pub tells_usage : {E : Type 0} (disk : List (List ℕ)) (usage : Usage) (out out' : Option (List ℕ)) (result : Result (Unit {0}) E)
    → IsWellFormed (version_in disk) disk → usage ≡ usage_of disk → OnOk result (Appends out out' (usage_text usage))
    → OnOk result (TellsUsage disk out out')
tells_usage disk usage out out' (Ok u) good is printed =
    record { good = good; printed = subst (λ u. Appends out out' (usage_text u)) is printed }
tells_usage disk usage out out' (Err e) good is printed = tt

pub prints_log : {E : Type 0} (disk : List (List ℕ)) (blocks : List ℕ) (out out' : Option (List ℕ)) (result : Result (Unit {0}) E)
    → IsWellFormed (version_in disk) disk → blocks ≡ logged disk → OnOk result (Appends out out' (log_text blocks))
    → OnOk result (Prints disk (log_text (logged disk)) out out')
prints_log disk blocks out out' (Ok u) good is printed =
    record { good = good; printed = subst (λ blocks. Appends out out' (log_text blocks)) is printed }
prints_log disk blocks out out' (Err e) good is printed = tt
