use Rattle.std.specs.Borrow.{Lends, MutBor, Fml, RattleType}
use Rattle.sleep_lock.specs.SleepLock.{GuardState}
use Rattle.sleep_lock.specs.contracts.slot.Guard.{the_row}

-- the guard ends with the last value of r
abbrev pub LendsValue : (R : RattleType) → MutBor (GuardState R.Denot) → MutBor R.Denot → Fml
LendsValue R g r = Lends (the_row R) R g r (λ w. record g.now { value = w })
