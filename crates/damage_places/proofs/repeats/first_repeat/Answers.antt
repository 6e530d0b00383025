use Rattle.image_tree.proofs.Lemmas.{sym, subst, ℕ, take, get_or, take_more, Contains, IsOnce, push_once}
use Rattle.damage_places.proofs.repeats.first_repeat.Goals as goal

pub loop-k-preserved : goal.loop-k-preserved
loop-k-preserved c =
    let b : ℕ = get_or c.args.numbers.now c.loop-k.k 0 in
    subst IsOnce (sym (take_more c.args.numbers.now c.loop-k.k 0 c.loop-k-test.true))
    (push_once (take c.loop-k.k c.args.numbers.now) b c.loop-k.invariant
    (λ (h : Contains (take c.loop-k.k c.args.numbers.now) b). c.in_default.ensures h.0 b h.1 h.2))
