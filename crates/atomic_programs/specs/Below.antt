-- The rest of a call over operations above, while one of them runs below.
use Rattle.std.specs.Prelude.{◌≡◌, Option, Some}
use Rattle.atomic_programs.specs.Basics.{Prog, Ret, Do, bind, plain, asks, Machine, P, ActOf, LowerLayer, Handover, Handlers, lowered}
use Rattle.atomic_programs.specs.declared.machines.Stepped.{Stepped}
use Rattle.atomic_programs.specs.declared.machines.Stepped.TheVariants.{Waits, Ran, Done, Stopped}

-- answer_to: what code hears, as each operation's answer
module _ (U : Machine) (R : LowerLayer U.World) (handler : Handlers U R) {Heard : Type 0}
    (answer_to : (op : U.Op) → Heard → U.Answer op) where
  -- the call's program below as code knows it, with this in hand
  abbrev pub below : {A : Type 0} → R.Carry → P U A → Prog R.Op R.Answer ⊥ A
  below c p = plain (lowered U R handler c p)

  -- how a program above goes on after this answer
  abbrev pub hears : {A : Type 0} → P U A → Heard → P U A
  hears (Ret a) x = Ret a
  hears (Do op m k) x = k (answer_to op x)

  -- a part's program: it ends with what is heard and with what is in hand
  abbrev pub Part : Type 0
  Part = Prog R.Op R.Answer ⊥ (Handover Heard R.Carry)

  abbrev pub handed : (op : U.Op) → Handover Heard R.Carry → Handover (U.Answer op) R.Carry
  handed op r = record { answer = answer_to op r.answer; carry = r.carry }

  -- it is the operation's program, whatever that is marked with
  abbrev pub IsPart : R.Carry → U.Op → Part → Type 0
  IsPart c op q = (m : U.Answer op → Option U.Mark) → plain (handler c op m) ≡ bind q (λ r. Ret (handed op r))

  -- the rest of a call, if this part of its next operation is left
  abbrev pub with_part : {A : Type 0} → Part → P U A → Prog R.Op R.Answer ⊥ A
  with_part q p = bind q (λ r. below r.carry (hears p r.answer))

  -- ---- in code: a call under way is a control above, and a part that runs

  pub record Running (Control PartOf : Type 0) : Type 0 where
    pub control : Control
    pub part : PartOf

  abbrev pub running_of : {Control PartOf A : Type 0} → (Control → P U A) → (PartOf → Part) → Running Control PartOf
      → Prog R.Op R.Answer ⊥ A
  running_of program_of part_of r = with_part (part_of r.part) (program_of r.control)

  module _ {Control PartOf Handed A B K : Type 0} (program_of : Control → P U A) (part_of : PartOf → Part)
      (handed_as : Handed → Handover Heard R.Carry) (reply_of : B → A) where
    -- the control has heard the part's result: it asks, and the next part has begun; or the call has ended
    abbrev pub GoesOn : Control → Handed → Stepped (Running Control PartOf) B K → K → Type 0
    GoesOn c x (Waits r) kind = ⊥
    GoesOn c x (Ran r kind') kind =
        (kind' ≡ kind) × (hears (program_of c) (handed_as x).answer ≡ program_of r.control)
        × ((op : U.Op) × (asks (program_of r.control) ≡ Some op) × IsPart (handed_as x).carry op (part_of r.part))
    GoesOn c x (Done b kind') kind = (kind' ≡ kind) × (hears (program_of c) (handed_as x).answer ≡ Ret (reply_of b))
    GoesOn c x (Stopped r) kind = ⊥

    -- the call's step, by the step of its part
    abbrev pub Follows : Control → Stepped PartOf Handed K → Stepped (Running Control PartOf) B K → Type 0
    Follows c (Waits m) result = result ≡ Waits (record { control = c; part = m })
    Follows c (Ran m kind) result = result ≡ Ran (record { control = c; part = m }) kind
    Follows c (Done x kind) result = GoesOn c x result kind
    Follows c (Stopped m) result = result ≡ Stopped (record { control = c; part = m })

  -- ---- the same with its marks, as the theory has it: nothing is erased

  -- a part's program, as its operation is marked so
  abbrev pub MarkedPart : U.Op → Type 0
  MarkedPart op = (U.Answer op → Option U.Mark) → Prog R.Op R.Answer (ActOf U) (Handover Heard R.Carry)

  abbrev pub IsMarkedPart : R.Carry → (op : U.Op) → MarkedPart op → Type 0
  IsMarkedPart c op q = (m : U.Answer op → Option U.Mark) → handler c op m ≡ bind (q m) (λ r. Ret (handed op r))

  abbrev pub with_marked : {A : Type 0} → (op : U.Op) → MarkedPart op → (U.Answer op → Option U.Mark) → (U.Answer op → P U A)
      → Prog R.Op R.Answer (ActOf U) A
  with_marked op q m k = bind (q m) (λ r. lowered U R handler r.carry (k (answer_to op r.answer)))
