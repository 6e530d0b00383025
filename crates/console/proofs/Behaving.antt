-- One behaviour after another.
use Rattle.console.proofs.Vocabulary.{◌≡◌, ℕ, List, [], ◌∷◌, ◌++◌, Bool, true, false, Option, Result, Ok, Err, refl, ap, sym, ◌∙◌, subst, OnOk, Appends, ConsoleFault, Behaviour, gives, in_case, followed_by, takes_memory, prints, IfTold, IsWritten, IsPrintedAndNoted, Runs, NotesOf, all_noted, noted, EventOfCall, appends_nothing, appends_both}
use Rattle.console.specs.declared.fault.ConsoleFault.TheVariants as faults

noted_both : (n : NotesOf) (xs ys : List EventOfCall) → all_noted n (xs ++ ys) ≡ all_noted (all_noted n xs) ys
unfolding all_noted
noted_both n [] ys = refl
noted_both n (x ∷ xs) ys = noted_both (noted n x) xs ys

told_both : (out mid end : Option (List ℕ)) (n m l : NotesOf) (xs ys : List EventOfCall) (front back : List ℕ) → IsPrintedAndNoted out n xs front mid m → IsPrintedAndNoted mid m ys back end l → IsPrintedAndNoted out n (xs ++ ys) (front ++ back) end l
told_both out mid end n m l xs ys front back first second = record {
  printed = appends_both out mid end front back first.printed second.printed;
  noted = second.noted ∙ ap (λ k. all_noted k ys) first.noted ∙ sym (noted_both n xs ys);
}

pub told_nothing : (out : Option (List ℕ)) (n : NotesOf) → IsPrintedAndNoted out n [] [] out n
unfolding all_noted
told_nothing out n = record { printed = appends_nothing out; noted = refl }

pub if_told_map : {A P Q : Type 0} (r : Result A ConsoleFault) → (P → Q) → IfTold r P → IfTold r Q
if_told_map (Ok a) f told = f told
if_told_map (Err (faults.Stopped stop)) f told = f told
if_told_map (Err (faults.Write e)) f told = tt
if_told_map (Err faults.Memory) f told = tt
if_told_map (Err (faults.Image e)) f told = tt
if_told_map (Err (faults.Read e)) f told = tt
if_told_map (Err (faults.Line n why)) f told = tt

pub if_told_both : {A : Type 0} (P Q : Type 0) (r : Result A ConsoleFault) → IfTold r P → IfTold r Q → IfTold r (P × Q)
if_told_both P Q (Ok a) p q = (p, q)
if_told_both P Q (Err (faults.Stopped stop)) p q = (p, q)
if_told_both P Q (Err (faults.Write e)) p q = tt
if_told_both P Q (Err faults.Memory) p q = tt
if_told_both P Q (Err (faults.Image e)) p q = tt
if_told_both P Q (Err (faults.Read e)) p q = tt
if_told_both P Q (Err (faults.Line n why)) p q = tt

-- the same fault, of another part
if_told_err : (A B P : Type 0) (fault : ConsoleFault) → IfTold {A = A} (Err fault) P → IfTold {A = B} (Err fault) P
if_told_err A B P (faults.Stopped stop) told = told
if_told_err A B P (faults.Write e) told = tt
if_told_err A B P faults.Memory told = tt
if_told_err A B P (faults.Image e) told = tt
if_told_err A B P (faults.Read e) told = tt
if_told_err A B P (faults.Line n why) told = tt

module _ {S : Type 0} where
  pub gives_at_once : {A : Type 0} (a : A) (s : S) (out : Option (List ℕ)) (n : NotesOf) → Runs {S = S} (gives a) s out n (Ok a) s out n
  unfolding gives
  gives_at_once a s out n = record { events = []; text = []; does = (record { events_are = refl; text_is = refl; same = refl }, refl); told = told_nothing out n }

  pub goes_on : {A B : Type 0} (one : Behaviour S A) (second : A → Behaviour S B) (a : A) (s u t : S) (out mid end : Option (List ℕ)) (n m l : NotesOf) (r : Result B ConsoleFault)
      → Runs one s out n (Ok a) u mid m → Runs (second a) u mid m r t end l → Runs (followed_by one second) s out n r t end l
  unfolding followed_by
  goes_on one second a s u t out mid end n m l r first rest = record {
    events = first.events ++ rest.events;
    text = first.text ++ rest.text;
    does = (first.events, first.text, Ok a, u, first.does, (rest.events, rest.text, rest.does, refl, refl));
    told = if_told_map r (told_both out mid end n m l first.events rest.events first.text rest.text first.told) rest.told;
  }

  pub ends_in_fault : {A B : Type 0} (one : Behaviour S A) (second : A → Behaviour S B) (fault : ConsoleFault) (s t : S) (out end : Option (List ℕ)) (n l : NotesOf)
      → Runs one s out n (Err fault) t end l → Runs (followed_by one second) s out n (Err fault) t end l
  unfolding followed_by
  ends_in_fault {A} {B} one second fault s t out end n l first = record {
    events = first.events;
    text = first.text;
    does = (first.events, first.text, Err fault, t, first.does, (refl, refl, refl, refl));
    told = if_told_err A B _ fault first.told;
  }

  -- the value, or no memory
  pub has_memory : {A : Type 0} (a b : A) (s : S) (out : Option (List ℕ)) (n : NotesOf) → b ≡ a → Runs {S = S} (takes_memory a) s out n (Ok b) s out n
  unfolding takes_memory
  has_memory a b s out n is = record { events = []; text = []; does = (record { events_are = refl; text_is = refl; same = refl }, is); told = told_nothing out n }

  pub no_memory : {A : Type 0} (a : A) (s : S) (out : Option (List ℕ)) (n : NotesOf) → Runs {S = S} (takes_memory a) s out n (Err faults.Memory) s out n
  unfolding takes_memory
  no_memory a s out n = record { events = []; text = []; does = (record { events_are = refl; text_is = refl; same = refl }, tt); told = tt }

  -- one of two
  pub in_this_case : {A : Type 0} (b : Bool) (this other : Behaviour S A) (s t : S) (out end : Option (List ℕ)) (n l : NotesOf) (r : Result A ConsoleFault) → b ≡ true → Runs this s out n r t end l → Runs (in_case b this other) s out n r t end l
  in_this_case b this other s t out end n l r is runs = subst (λ x. Runs (in_case x this other) s out n r t end l) (sym is) runs

  pub in_other_case : {A : Type 0} (b : Bool) (this other : Behaviour S A) (s t : S) (out end : Option (List ℕ)) (n l : NotesOf) (r : Result A ConsoleFault) → b ≡ false → Runs other s out n r t end l → Runs (in_case b this other) s out n r t end l
  in_other_case b this other s t out end n l r is runs = subst (λ x. Runs (in_case x this other) s out n r t end l) (sym is) runs

  -- only printed
  pub printed_so : (words : S → List ℕ) (s : S) (out end : Option (List ℕ)) (n : NotesOf) (r : Result (Unit {0}) ConsoleFault) → IsWritten r → OnOk r (Appends out end (words s)) → Runs (prints words) s out n r s end n
  unfolding prints all_noted
  printed_so words s out end n (Ok u) may text = record { events = []; text = words s; does = (refl, refl, refl, tt); told = record { printed = text; noted = refl } }
  printed_so words s out end n (Err (faults.Write e)) may text = record { events = []; text = words s; does = (refl, refl, refl, tt); told = tt }
  printed_so words s out end n (Err faults.Memory) may text = absurd may
  printed_so words s out end n (Err (faults.Image e)) may text = absurd may
  printed_so words s out end n (Err (faults.Read e)) may text = absurd may
  printed_so words s out end n (Err (faults.Line k why)) may text = absurd may
  printed_so words s out end n (Err (faults.Stopped stop)) may text = absurd may
