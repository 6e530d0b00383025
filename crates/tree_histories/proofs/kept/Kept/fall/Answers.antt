use Rattle.tree_histories.proofs.Lemmas.{◌≡◌, ℕ, ◌+◌, sym, subst, arith, hart_count, all_fall, IsBook, KeptTree, stage_of, Fallen, fallen_first, fallen_not, fallen_now}
use Rattle.tree_histories.proofs.kept.Kept.fall.Goals as goal
use Rattle.tree_histories.proofs.kept.Kept.fall.Goals.{then-falls+in_ok-fails, else-falls}

pub loop-hart-init : goal.loop-hart-init
loop-hart-init c = fallen_first c.args.before.now c.args.self.now

pub loop-hart-preserved : goal.loop-hart-preserved
loop-hart-preserved c =
    let before = c.args.before.now in
    let k0 = c.args.self.now in
    let k1 = c.loop-hart.self in
    let n = c.loop-hart.hart in
    elim c.if-falls.branch [
      | then-falls+in_ok-fails w ↦ subst (λ (k : KeptTree). Fallen before k0 k (n + 1)) (sym w.self-is)
          (fallen_now before k0 k1 n c.loop-hart-test.true c.loop-hart.invariant w.fails.new.self c.falls.result c.falls.ensures w.if-falls.true w.in_ok-fails.ensures)
      | else-falls w ↦ subst (λ (k : KeptTree). Fallen before k0 k (n + 1)) (sym w.self-is)
          (fallen_not before k0 k1 n c.loop-hart-test.true c.loop-hart.invariant c.falls.result c.falls.ensures w.if-falls.false)
    ]

pub returns-clause-book : goal.returns-clause-book
returns-clause-book c m b were B =
    let last : c.loop-hart.hart ≡ hart_count = omega arith in
    subst (λ (n : ℕ). IsBook c.loop-hart.self (all_fall m (stage_of c.args.self.now) n b)) last (c.loop-hart.invariant.book m b were B)
