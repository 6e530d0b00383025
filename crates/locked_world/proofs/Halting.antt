-- A world's stop, as the answer gives it.
use Rattle.locked_world.proofs.Vocabulary.{◌≡◌, ℕ, sym, subst, Stopped, Stop, DeviceFault, LockedRun, Steps, HaltAnswers, halt_for, Halt}
use Rattle.hart_core.specs.declared.outcome.Stop.TheVariants.{Halted}

own_halt : (s : LockedRun) (h : ℕ) (stop : Stop) (t : LockedRun) → Steps s h (Stopped stop) t → HaltAnswers s h (halt_for stop) t
own_halt s h DeviceFault t steps = steps
own_halt s h Halted t steps = steps

pub halt_told : (s : LockedRun) (h : ℕ) (stop : Stop) (halt : Halt) (t : LockedRun) → halt ≡ halt_for stop → Steps s h (Stopped stop) t → HaltAnswers s h halt t
halt_told s h stop halt t is steps = subst (λ (z : Halt). HaltAnswers s h z t) (sym is) (own_halt s h stop t steps)
