-- What is run step by step: how it comes from one state to another, what happens on the way, what is printed, and how it ends.
use Rattle.std.specs.Prelude.{◌≡◌, ℕ, List, [], ◌++◌, Bool, true, false, Option, Result, Ok, Err}
use Rattle.console.specs.Vocabulary.{Appends}
use Rattle.console.specs.declared.fault.ConsoleFault.{ConsoleFault}
use Rattle.console.specs.declared.fault.ConsoleFault.TheVariants as faults
use Rattle.console.specs.Basics.{EventOfCall, NotesOf, all_noted}

-- From this state these things happen in their order, this is printed, and it ends so, in that state.
abbrev pub Behaviour : Type 0 → Type 0 → Type 1
Behaviour S A = S → List EventOfCall → List ℕ → Result A ConsoleFault → S → Type 0

-- nothing happens
pub record DoesNothing {S : Type 0} (s : S) (events : List EventOfCall) (text : List ℕ) (t : S) : Type 0 where
  pub events_are : events ≡ []
  pub text_is : text ≡ []
  pub same : t ≡ s

-- at once
unfoldable pub gives : {S A : Type 0} → A → Behaviour S A
gives a s events text result t = DoesNothing s events text t × (result ≡ Ok a)

abbrev pub in_case : {S A : Type 0} → Bool → Behaviour S A → Behaviour S A → Behaviour S A
in_case true this other = this
in_case false this other = other

-- after the first part, with this result in u, the second one; a fault is the end
abbrev pub GoesOn : {S A B : Type 0} → (A → Behaviour S B) → List EventOfCall → List ℕ → Result A ConsoleFault → S → List EventOfCall
    → List ℕ → Result B ConsoleFault → S → Type 0
GoesOn second first front (Ok a) u events text result t =
    (rest : List EventOfCall) × (back : List ℕ) × second a u rest back result t × (events ≡ first ++ rest) × (text ≡ front ++ back)
GoesOn second first front (Err fault) u events text result t = (events ≡ first) × (text ≡ front) × (result ≡ Err fault) × (t ≡ u)

unfoldable pub followed_by : {S A B : Type 0} → Behaviour S A → (A → Behaviour S B) → Behaviour S B
followed_by {S} {A} one second s events text result t =
    (first : List EventOfCall) × (front : List ℕ) × (ends : Result A ConsoleFault) × (u : S) × one s first front ends u
    × GoesOn second first front ends u events text result t

-- this value, or memory was refused; nothing has happened
abbrev pub IsOrMemory : {A : Type 0} → A → Result A ConsoleFault → Type 0
IsOrMemory a (Ok b) = b ≡ a
IsOrMemory a (Err faults.Memory) = Unit {0}
IsOrMemory a (Err (faults.Image f)) = ⊥
IsOrMemory a (Err (faults.Read e)) = ⊥
IsOrMemory a (Err (faults.Write e)) = ⊥
IsOrMemory a (Err (faults.Line n why)) = ⊥
IsOrMemory a (Err (faults.Stopped stop)) = ⊥

unfoldable pub takes_memory : {S A : Type 0} → A → Behaviour S A
takes_memory a s events text result t = DoesNothing s events text t × IsOrMemory a result

-- what is printed can't be written
abbrev pub IsWritten : Result (Unit {0}) ConsoleFault → Type 0
IsWritten (Ok u) = Unit {0}
IsWritten (Err (faults.Write e)) = Unit {0}
IsWritten (Err faults.Memory) = ⊥
IsWritten (Err (faults.Image f)) = ⊥
IsWritten (Err (faults.Read e)) = ⊥
IsWritten (Err (faults.Line n why)) = ⊥
IsWritten (Err (faults.Stopped stop)) = ⊥

-- only prints
unfoldable pub prints : {S : Type 0} → (S → List ℕ) → Behaviour S (Unit {0})
prints words s events text result t = (events ≡ []) × (text ≡ words s) × (t ≡ s) × IsWritten result

-- ---- a behaviour that was run, with a writer and notes

-- at its end, and if a call was stopped, all is printed and noted; if writing failed, or memory was refused, some of
-- it
abbrev pub IfTold : {A : Type 0} → Result A ConsoleFault → Type 0 → Type 0
IfTold (Ok a) P = P
IfTold (Err (faults.Stopped stop)) P = P
IfTold (Err (faults.Write e)) P = Unit {0}
IfTold (Err faults.Memory) P = Unit {0}
IfTold (Err (faults.Image f)) P = Unit {0}
IfTold (Err (faults.Read e)) P = Unit {0}
IfTold (Err (faults.Line n why)) P = Unit {0}

pub record IsPrintedAndNoted (out : Option (List ℕ)) (notes : NotesOf) (events : List EventOfCall) (text : List ℕ) (out' : Option (List ℕ))
    (notes' : NotesOf) : Type 0 where
  pub printed : Appends out out' text
  pub noted : notes' ≡ all_noted notes events

pub record Runs {S A : Type 0} (behaviour : Behaviour S A) (s : S) (out : Option (List ℕ)) (notes : NotesOf)
    (result : Result A ConsoleFault) (t : S) (out' : Option (List ℕ)) (notes' : NotesOf) : Type 0 where
  pub events : List EventOfCall
  pub text : List ℕ
  pub does : behaviour s events text result t
  pub told : IfTold result (IsPrintedAndNoted out notes events text out' notes')
