-- A table of machines, a place for each hart, over the state that the code has.
use Rattle.std.specs.Prelude.{◌≡◌, ℕ, Bool, Option, Some, None, List, length, get_or}
use Rattle.atomic_programs.specs.Basics.{Theory, UnmarkedProgram, Code, Plain, SoundPlain, programs_in}

-- what a machine's own values keep, of a place of the table
abbrev pub PlaceFits : {M : Type 0} → (ℕ → M → Type 0) → ℕ → Option M → Type 0
PlaceFits Fits h None = Unit {0}
PlaceFits Fits h (Some m) = Fits h m

module _ (L : Theory) (C : Code L) {M : Type 0} (program : M → UnmarkedProgram L) where
  -- the table as programs
  abbrev pub plain_at : C.Shared → Bool → List (Option M) → Plain L C
  plain_at t b calls = record { shared = t; stopped = b; running = programs_in program calls }

  -- What every world keeps: it is what the code has of a sound state, and each machine's own values are in order.
  pub record IsKept (Fits : ℕ → M → Type 0) (harts : ℕ) (t : C.Shared) (b : Bool) (calls : List (Option M)) : Type 0 where
    pub sound : SoundPlain L C (plain_at t b calls)
    pub long : length calls ≡ harts
    pub fits : (h : ℕ) → PlaceFits Fits h (get_or calls h None)
