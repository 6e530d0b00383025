-- A call's step is the step of its part.
use Rattle.atomic_programs.proofs.Vocabulary.{◌≡◌, Option, Some, None, refl, sym, ◌∙◌, ap, subst, Prog, Ret, Do, bind, plain, unmarked, asks, advance, ExecResult, OperationResult, WentOn, Machine, P, ActOf, LowerLayer, Handover, Handlers, lowered, moved_to, Stepped, Done, Stopped, Theory, Starts, lowered_calls, Running}
use Rattle.atomic_programs.specs.declared.machines.Stepped.TheVariants.{Waits, Ran}
use Rattle.atomic_programs.proofs.Basics.{bind-assoc, plain-bind, advance-bind, moved_bind}
use Rattle.atomic_programs.specs.Below as layers

module _ (U : Machine) (R : LowerLayer U.World) (handler : Handlers U R) {Heard : Type 0} (answer_to : (op : U.Op) → Heard → U.Answer op) where
  abbrev below : {A : Type 0} → R.Carry → P U A → Prog R.Op R.Answer ⊥ A
  below = layers.below U R handler answer_to

  abbrev hears : {A : Type 0} → P U A → Heard → P U A
  hears = layers.hears U R handler answer_to

  abbrev Part : Type 0
  Part = layers.Part U R handler answer_to

  abbrev IsPart : R.Carry → U.Op → Part → Type 0
  IsPart = layers.IsPart U R handler answer_to

  abbrev with_part : {A : Type 0} → Part → P U A → Prog R.Op R.Answer ⊥ A
  with_part = layers.with_part U R handler answer_to

  -- the operation that a program asks is its first one
  here : {A : Type 0} (c : R.Carry) (q : Part) (op' : U.Op) (m : U.Answer op' → Option U.Mark) (k : U.Answer op' → P U A) → IsPart c op' q → below c (Do op' m k) ≡ with_part q (Do op' m k)
  here c q op' m k is =
      plain-bind (handler c op' m) (λ r. lowered U R handler r.carry (k r.answer))
      ∙ ap (λ (p : Prog R.Op R.Answer ⊥ (Handover (U.Answer op') R.Carry)). bind p (λ r. below r.carry (k r.answer))) (is m)
      ∙ bind-assoc q (λ r. Ret (layers.handed U R handler answer_to op' r)) (λ r. below r.carry (k r.answer))

  -- a part begins
  pub part_begins : {A : Type 0} (c : R.Carry) (p : P U A) (op : U.Op) (q : Part) → asks p ≡ Some op → IsPart c op q → below c p ≡ with_part q p
  part_begins c (Ret a) op q e is = absurd cc
  part_begins c (Do op' m k) op q e is = here c q op' m k (subst (λ o. IsPart c o q) (sym (ap (unwrap op') e)) is)
    where
      unwrap : U.Op → Option U.Op → U.Op
      unwrap d None = d
      unwrap d (Some x) = x

  -- it ends: the call goes on at what is heard, with what is handed over
  pub part_ends : {A : Type 0} (p : P U A) (x : Heard) (c : R.Carry) → with_part (Ret (record { answer = x; carry = c })) p ≡ below c (hears p x)
  part_ends p x c = refl

  pub next_begins : {A : Type 0} (p p' : P U A) (x : Heard) (c : R.Carry) (op : U.Op) (q : Part) → hears p x ≡ p' → asks p' ≡ Some op → IsPart c op q
      → with_part (Ret (record { answer = x; carry = c })) p ≡ with_part q p'
  next_begins p p' x c op q e asked is = ap (below c) e ∙ part_begins c p' op q asked is

  pub call_ends : {A : Type 0} (p : P U A) (x : Heard) (c : R.Carry) (a : A) → hears p x ≡ Ret a → with_part (Ret (record { answer = x; carry = c })) p ≡ Ret a
  call_ends p x c a e = ap (below c) e

  -- ---- with marks

  pub marked_begins : {A : Type 0} (c : R.Carry) (op : U.Op) (m : U.Answer op → Option U.Mark) (k : U.Answer op → P U A) (q : layers.MarkedPart U R handler answer_to op)
      → layers.IsMarkedPart U R handler answer_to c op q → lowered U R handler c (Do op m k) ≡ layers.with_marked U R handler answer_to op q m k
  marked_begins c op m k q is =
      ap (λ (p : Prog R.Op R.Answer (ActOf U) (Handover (U.Answer op) R.Carry)). bind p (λ r. lowered U R handler r.carry (k r.answer))) (is m)
      ∙ bind-assoc (q m) (λ r. Ret (layers.handed U R handler answer_to op r)) (λ r. lowered U R handler r.carry (k r.answer))

  -- without them it is the other
  pub marked_is : (c : R.Carry) (op : U.Op) (q : layers.MarkedPart U R handler answer_to op) (p : Part) → layers.IsMarkedPart U R handler answer_to c op q → ((m : U.Answer op → Option U.Mark) → plain (q m) ≡ p) → IsPart c op p
  marked_is c op q p is same m =
      ap plain (is m) ∙ plain-bind (q m) (λ r. Ret (layers.handed U R handler answer_to op r))
      ∙ ap (λ (x : Part). bind x (λ r. Ret (layers.handed U R handler answer_to op r))) (same m)

  -- ---- the step of a call under way

  pub goes_on : {A K S : Type 0} (kind : (op : R.Op) → R.Answer op → K) (exec : (op : R.Op) → S → ExecResult (R.Answer op) S) (q : Part) (p : P U A) (s : S) (op : R.Op) (r : OperationResult K Part S) → asks q ≡ Some op → advance kind exec q s ≡ r
      → advance kind exec (with_part q p) s ≡ moved_bind kind exec (λ x. below x.carry (hears p x.answer)) r
  goes_on kind exec q p s op r asked e = advance-bind kind exec q (λ x. below x.carry (hears p x.answer)) s op asked ∙ ap (moved_bind kind exec (λ x. below x.carry (hears p x.answer))) e

  -- the part has ended here, and the next one began
  pub begins_next : {A K S : Type 0} (kind : (op : R.Op) → R.Answer op → K) (exec : (op : R.Op) → S → ExecResult (R.Answer op) S) (q q' : Part) (p p' : P U A) (s t : S) (op : R.Op) (next : U.Op) (x : Heard) (c : R.Carry) (k : K) → asks q ≡ Some op
      → advance kind exec q s ≡ WentOn k (Ret (record { answer = x; carry = c })) t → hears p x ≡ p' → asks p' ≡ Some next → IsPart c next q' → advance kind exec (with_part q p) s ≡ WentOn k (with_part q' p') t
  begins_next kind exec q q' p p' s t op next x c k asked e heard asks_next is = goes_on kind exec q p s op (WentOn k (Ret (record { answer = x; carry = c })) t) asked e ∙ (λ i. WentOn k (next_begins p p' x c next q' heard asks_next is i) t)

  module _ {Control PartOf Handed A B K S : Type 0} (program_of : Control → P U A) (part_of : PartOf → Part) (handed_as : Handed → Handover Heard R.Carry) (reply_of : B → A)
      (kind : (op : R.Op) → R.Answer op → K) (exec : (op : R.Op) → S → ExecResult (R.Answer op) S) where
    abbrev running_of : Running U R handler answer_to Control PartOf → Prog R.Op R.Answer ⊥ A
    running_of r = layers.running_of U R handler answer_to program_of part_of r

    goes : (c : Control) (stepped : Stepped PartOf Handed K) (result : Stepped (Running U R handler answer_to Control PartOf) B K) (t : S)
        → layers.Follows U R handler answer_to program_of part_of handed_as reply_of c stepped result
        → moved_bind kind exec (λ r. below r.carry (hears (program_of c) r.answer)) (moved_to part_of handed_as stepped t) ≡ moved_to running_of reply_of result t
    goes c (Waits m) result t e = ap (λ (x : Stepped (Running U R handler answer_to Control PartOf) B K). moved_to running_of reply_of x t) (sym e)
    goes c (Ran m k) result t e = ap (λ (x : Stepped (Running U R handler answer_to Control PartOf) B K). moved_to running_of reply_of x t) (sym e)
    goes c (Done x k) (Waits r) t e = absurd e
    goes c (Done x k) (Ran r k') t e = λ i. WentOn (sym e.0 i) (next_begins (program_of c) (program_of r.control) (handed_as x).answer (handed_as x).carry e.2.0 (part_of r.part) e.1 e.2.1 e.2.2 i) t
    goes c (Done x k) (Done b k') t e = λ i. WentOn (sym e.0 i) (call_ends (program_of c) (handed_as x).answer (handed_as x).carry (reply_of b) e.1 i) t
    goes c (Done x k) (Stopped r) t e = absurd e
    goes c (Stopped m) result t e = ap (λ (x : Stepped (Running U R handler answer_to Control PartOf) B K). moved_to running_of reply_of x t) (sym e)

    -- The call's step is its program's next operation, as the part's step is the part's.
    pub steps : (r : Running U R handler answer_to Control PartOf) (s t : S) (op : R.Op) (stepped : Stepped PartOf Handed K) (result : Stepped (Running U R handler answer_to Control PartOf) B K)
        → asks (part_of r.part) ≡ Some op
        → advance kind exec (part_of r.part) s ≡ moved_to part_of handed_as stepped t
        → layers.Follows U R handler answer_to program_of part_of handed_as reply_of r.control stepped result
        → advance kind exec (running_of r) s ≡ moved_to running_of reply_of result t
    steps r s t op stepped result asked part follows =
        advance-bind kind exec (part_of r.part) (λ x. below x.carry (hears (program_of r.control) x.answer)) s op asked
        ∙ ap (moved_bind kind exec (λ x. below x.carry (hears (program_of r.control) x.answer))) part
        ∙ goes r.control stepped result t follows

-- what code begins with is what the theory of the lowered calls begins with
pub starts_so : (T : Theory) (R : LowerLayer T.M.World) (handler : Handlers T.M R) (begin : Starts T R) {Heard : Type 0} (answer_to : (op : T.M.Op) → Heard → T.M.Answer op) (call : T.Call)
    → plain ((lowered_calls T R handler begin).program call) ≡ layers.below T.M R handler answer_to R.none (T.program call)
starts_so T R handler begin answer_to call = refl

-- ---- a handler is a part, step by step

module _ {Op : Type 0} {Answer : Op → Type 0} {M : Type 0} where
  pub step_is : {Y Z : Type 0} (op : Op) (m : Answer op → Option M) (k : Answer op → Prog Op Answer M Y) (l : Answer op → Prog Op Answer ⊥ Z) (h : Z → Prog Op Answer ⊥ Y) → ((a : Answer op) → plain (k a) ≡ bind (l a) h)
      → plain (Do op m k) ≡ bind (Do op unmarked l) h
  step_is op m k l h each = λ i. Do op unmarked (λ a. each a i)

  -- a machine below does p as q, and then it goes on
  pub then_is : {X Y Z : Type 0} (p : Prog Op Answer M X) (q : Prog Op Answer ⊥ X) (f : X → Prog Op Answer M Y) (g : X → Prog Op Answer ⊥ Z) (h : Z → Prog Op Answer ⊥ Y) → plain p ≡ q → ((x : X) → plain (f x) ≡ bind (g x) h)
      → plain (bind p f) ≡ bind (bind q g) h
  then_is p q f g h same each = plain-bind p f ∙ (λ i. bind (same i) (λ x. each x i)) ∙ sym (bind-assoc q g h)
