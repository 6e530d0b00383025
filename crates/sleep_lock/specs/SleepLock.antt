-- A slot and its guard.
use Rattle.std.specs.Prelude.{ℕ, Option, Some, None}
use Rattle.std.specs.Option.{option_map, option_map_or}

-- a slot: its number, the value if it is in, and the hart that has it if it is out
pub record SlotState (T : Type 0) : Type 0 where
  pub number : ℕ
  pub inside : Option T
  pub holder : Option ℕ

-- a guard: the number of its slot, the hart that has it, and the value
pub record GuardState (T : Type 0) : Type 0 where
  pub number : ℕ
  pub hart : ℕ
  pub value : T

-- what a hart gets that tries to take the value of a slot
abbrev pub guard_of : {T : Type 0} → SlotState T → ℕ → Option (GuardState T)
guard_of s hart = option_map (λ v. record { number = s.number; hart = hart; value = v }) s.inside

-- the slot after that try
abbrev pub taken : {T : Type 0} → SlotState T → ℕ → SlotState T
taken s hart = record { number = s.number; inside = None; holder = option_map_or (λ _. Some hart) s.inside s.holder }

-- a slot with this value in it
abbrev pub filled : {T : Type 0} → ℕ → T → SlotState T
filled number v = record { number = number; inside = Some v; holder = None }

-- the slot of this guard, while the guard is out
abbrev pub emptied : {T : Type 0} → GuardState T → SlotState T
emptied g = record { number = g.number; inside = None; holder = Some g.hart }
