use Rattle.image_tree.proofs.Lemmas.{◌≡◌, ◌<◌, length, sym, ◌∙◌, ℕ, subst, arith, take, get_or, Contains, get_or-take, take_more, length-take-le, eqb-true, eqb-false, IsOnce, caught, push_once}
use Rattle.image_tree.proofs.heads.has_repeat.Goals as goal

pub returns-then-contains : goal.returns-then-contains
returns-then-contains c =
    caught _ (λ once.
    let a = c.if-contains.ensures.cases in
    let short : length (take c.loop-i.i c.args.numbers.now) ≡ c.loop-i.i = length-take-le c.loop-i.i c.args.numbers.now (omega arith) in
    let within = a.1 in
    let before : a.0 < c.loop-i.i = omega arith in
    once.apart a.0 c.loop-i.i 0 before c.loop-i-test.true (sym (get_or-take c.loop-i.i c.args.numbers.now a.0 0 before) ∙ eqb-true _ _ (a.2 0)))

pub loop-i-preserved : goal.loop-i-preserved
loop-i-preserved c =
    let a = c.if-contains.ensures.cases in
    let b : ℕ = get_or c.args.numbers.now c.loop-i.i 0 in
    subst IsOnce (sym (take_more c.args.numbers.now c.loop-i.i 0 c.loop-i-test.true))
    (push_once (take c.loop-i.i c.args.numbers.now) b c.loop-i.invariant
    (λ (h : Contains (take c.loop-i.i c.args.numbers.now) b). eqb-false _ b (a h.0 b (omega arith) h.1) h.2))
