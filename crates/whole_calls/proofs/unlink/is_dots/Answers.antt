use Rattle.whole_calls.proofs.Lemmas.{◌≡◌, ◌∙◌, length, get_or, nat_eq, Bool, true, false, ◌&&◌, sym, ap, arith, eq-eqb, ne_eqb, one_dots, two_dots, more_dots}
use Rattle.whole_calls.proofs.unlink.is_dots.Goals as goal

pub returns-then-len-eq1 : goal.returns-then-len-eq1
returns-then-len-eq1 c =
    let one : length c.args.name.now ≡ 1 = omega arith in
    one_dots c.args.name.now one

pub returns-then-name-eq46 : goal.returns-then-name-eq46
returns-then-name-eq46 c =
    let two : length c.args.name.now ≡ 2 = omega arith in
    let first : nat_eq (get_or c.args.name.now 0 0) 46 ≡ true = eq-eqb (get_or c.args.name.now 0 0) 46 c.if-name-eq46.true in
    sym (ap (λ (b : Bool). b && nat_eq (get_or c.args.name.now 1 0) 46) first) ∙ two_dots c.args.name.now two

pub returns-else-name-eq46 : goal.returns-else-name-eq46
returns-else-name-eq46 c =
    let two : length c.args.name.now ≡ 2 = omega arith in
    let first : nat_eq (get_or c.args.name.now 0 0) 46 ≡ false = ne_eqb (get_or c.args.name.now 0 0) 46 c.if-name-eq46.false in
    first ∙ (sym (ap (λ (b : Bool). b && nat_eq (get_or c.args.name.now 1 0) 46) first) ∙ two_dots c.args.name.now two)

pub returns : goal.returns
returns c = more_dots c.args.name.now (λ e. omega (arith, e)) (λ e. omega (arith, e))
