-- A hart's step or start in its place, and what a world keeps of it.
use Rattle.atomic_programs.proofs.Vocabulary.{◌≡◌, ◌<◌, ℕ, zero, suc, Option, Some, None, Bool, true, false, List, [], ◌∷◌, refl, sym, ◌∙◌, ap, subst, length, get_or, set, get_or-set_same, get_or-set_other, length-set, nat_eq, slice_get, eqb-true, eqb-false, slice_get_within, get_or_from_slice_get, set-set, Theory, Lawful, Event, Start, Step, Outcome, changed, is_some, fresh, UnmarkedProgram, Code, IsCode, PlainMade, PlainHonest, PlainHonestStep, MayOf, plain_makes, hart_step, hart_start, program_at, programs_in, PlaceFits, plain_at, IsKept}
use Rattle.atomic_programs.proofs.Advances.{programs_in-set, hart_steps, hart_starts}
use Rattle.atomic_programs.proofs.Reached.{sound_fresh, sound_event, sound_may}

abbrev pub AllNone : {M : Type 0} → List (Option M) → Type 0
AllNone [] = Unit {0}
AllNone (x ∷ xs) = (x ≡ None) × AllNone xs

none_at : {M : Type 0} (xs : List (Option M)) → AllNone xs → (k : ℕ) → get_or xs k None ≡ None
none_at [] all zero = refl
none_at [] all (suc k) = refl
none_at (x ∷ xs) all zero = all.0
none_at (x ∷ xs) all (suc k) = none_at xs all.1 k

module _ (L : Theory) (C : Code L) {M : Type 0} (program : M → UnmarkedProgram L) where
  -- a world at rest
  pub kept_first : (Fits : ℕ → M → Type 0) (w : L.M.World) (xs : List (Option M)) (n : ℕ) → L.M.Inv w → ((h : ℕ) → L.M.Idle h w) → AllNone xs → length xs ≡ n → IsKept L C program Fits n (C.shared w) false xs
  kept_first Fits w xs n inv idle none long =
      record {
        sound = record { state = fresh L w; sound = sound_fresh L w inv idle; is = λ i. record { shared = C.shared w; stopped = false; running = λ h. program_at program (sym (none_at xs none h) i) } };
        long = long;
        fits = λ h. subst (PlaceFits Fits h) (sym (none_at xs none h)) tt;
      }

  -- what a world gives a hart that does this
  module _ (Fits : ℕ → M → Type 0) (n : ℕ) (s : C.Shared) (b : Bool) (calls : List (Option M)) (h : ℕ) (doing : Option M) (kept : IsKept L C program Fits n s b calls) (at : slice_get calls h ≡ Some doing) where
    -- the operation that it makes next may be made
    pub may_here : IsCode L C → Lawful L → b ≡ false → MayOf L C h s (program_at program doing)
    may_here is laws on =
        subst (λ (z : Option M). MayOf L C h s (program_at program z)) (get_or_from_slice_get calls h doing None at) (sound_may L C is laws (plain_at L C program s b calls) kept.sound on h)

    pub fits_here : PlaceFits Fits h doing
    fits_here = subst (PlaceFits Fits h) (get_or_from_slice_get calls h doing None at) (kept.fits h)

  -- hart h's place was emptied and filled
  module _ (s : C.Shared) (b : Bool) (calls : List (Option M)) (h : ℕ) (doing left : Option M) (one two : List (Option M)) (at : slice_get calls h ≡ Some doing) (first : one ≡ set calls h None) (second : two ≡ set one h left) where
    is_set : two ≡ set calls h left
    is_set = second ∙ ap (λ (z : List (Option M)). set z h left) first ∙ set-set calls h None left

    room : h < length calls
    room = slice_get_within calls h doing at

    is_there : get_or calls h None ≡ doing
    is_there = get_or_from_slice_get calls h doing None at

    runs : programs_in program two ≡ changed (programs_in program calls) h (program_at program left)
    runs = ap (programs_in program) is_set ∙ programs_in-set program calls h left room

    abbrev pub IsMade : Event L.Call L.M.Outside → Outcome C.Kind L.Reply L.Refusal → C.Shared → Bool → Type 0
    IsMade e o t c = plain_makes L C e (plain_at L C program s b calls) ≡ record { came = o; after = plain_at L C program t c two }

    back : (o : Outcome C.Kind L.Reply L.Refusal) (t : C.Shared) (c : Bool)
        → ◌≡◌ {A = PlainMade L C} (record { came = o; after = record { shared = t; stopped = c; running = changed (programs_in program calls) h (program_at program left) } }) (record { came = o; after = plain_at L C program t c two })
    back o t c = λ i. record { came = o; after = record { shared = t; stopped = c; running = sym runs i } }

    pub step_gives : (x : L.M.Outside) (o : Outcome C.Kind L.Reply L.Refusal) (t : C.Shared) (c : Bool)
        → hart_step L C h x s b (program_at program doing) ≡ record { came = o; left = program_at program left; shared = t; stopped = c } → IsMade (Step h x) o t c
    step_gives x o t c is =
        hart_steps L C h x (plain_at L C program s b calls) (record { came = o; left = program_at program left; shared = t; stopped = c })
        (ap (λ (z : Option M). hart_step L C h x s b (program_at program z)) is_there ∙ is)
        ∙ back o t c

    pub start_gives : (call : L.Call) (o : Outcome C.Kind L.Reply L.Refusal) (t : C.Shared) (c : Bool)
        → hart_start L C h call (λ j. is_some (programs_in program calls j)) s b (program_at program doing) ≡ record { came = o; left = program_at program left; shared = t; stopped = c } → IsMade (Start h call) o t c
    start_gives call o t c is =
        hart_starts L C h (plain_at L C program s b calls) call (record { came = o; left = program_at program left; shared = t; stopped = c })
        (ap (λ (z : Option M). hart_start L C h call (λ j. is_some (programs_in program calls j)) s b (program_at program z)) is_there ∙ is)
        ∙ back o t c

    pub honest_here : (x : L.M.Outside) → PlainHonestStep L C h x s b (program_at program doing) → PlainHonest L C (Step h x) (plain_at L C program s b calls)
    honest_here x t = subst (λ (z : Option M). PlainHonestStep L C h x s b (program_at program z)) (sym is_there) t

    fits_on : (Fits : ℕ → M → Type 0) → PlaceFits Fits h left → ((k : ℕ) → PlaceFits Fits k (get_or calls k None)) → (k : ℕ) → PlaceFits Fits k (get_or two k None)
    fits_on Fits mine all k = subst (λ (z : List (Option M)). PlaceFits Fits k (get_or z k None)) (sym is_set) (each (nat_eq k h) refl)
      where
        each : (d : Bool) → nat_eq k h ≡ d → PlaceFits Fits k (get_or (set calls h left) k None)
        each true e =
            subst (λ (j : ℕ). PlaceFits Fits j (get_or (set calls h left) j None)) (sym (eqb-true k h e))
            (subst (PlaceFits Fits h) (sym (get_or-set_same calls h left None room)) mine)
        each false e = subst (PlaceFits Fits k) (sym (get_or-set_other calls h k left None (eqb-false k h e))) (all k)

    -- what every world keeps is kept
    pub kept_on : IsCode L C → (Fits : ℕ → M → Type 0) (n : ℕ) (e : Event L.Call L.M.Outside) (o : Outcome C.Kind L.Reply L.Refusal) (t : C.Shared) (c : Bool)
        → IsKept L C program Fits n s b calls → PlainHonest L C e (plain_at L C program s b calls) → IsMade e o t c → PlaceFits Fits h left → IsKept L C program Fits n t c two
    kept_on is Fits n e o t c kept honest made mine =
        record {
          sound = sound_event L C is e (plain_at L C program s b calls) (record { came = o; after = plain_at L C program t c two }) kept.sound honest made;
          long = ap length is_set ∙ length-set calls h left ∙ kept.long;
          fits = fits_on Fits mine kept.fits;
        }
