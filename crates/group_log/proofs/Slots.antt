-- The slots of the group's buffers stay known.
use Rattle.group_log.proofs.Vocabulary.{◌≡◌, ◌≢◌, inl, inr, ℕ, ◌+◌, ◌<◌, ◌≤◌, List, [], ◌∷◌, ◌++◌, length, get_or, true, false, refl, sym, ◌∙◌, ap, subst, arith, Option, Some, None, IsSome, is_some, if◌then◌else◌, ◌==◌, cases_eq, cases_lt, MatchOption, IfSome, option_map, find, get_or_append_left, get_or-append_seam, GuardState, Super, BufferState, change_first, count_of, Got, Held, Waits, get_of, get_by, get_new, guard_of, SeatState, has_block, is_free, seat_of, slot_of, with_seat, with_holder, with_content, with_pin, as_new, given_back, without_holder, IsHeld, IsGuardOf, Phase, Open, Staging, Installing, Halted, HasRecorded, has, with_block, next_phase, group_in, seats_after, PinsFrom, PinsFit, AreInSlots, SlotsFit, HasSlots, slots_with}
use Rattle.std.proofs.lemmas.List.{length-append}
use Rattle.group_log.proofs.Basics.{pick, count_same, of_another, seat_changed, seat_of_others, seat_given_back, others_given_back, some_recorded, first_stays, not_free}

abbrev number_of : Option SeatState → Option ℕ
number_of o = option_map (λ (s : SeatState). s.number) o

-- a change in its place, and a giving back
pub slot_with : (b k : ℕ) (f : SeatState → SeatState) (ss : List SeatState) → ((s : SeatState) → (f s).block ≡ s.block) → ((s : SeatState) → (f s).number ≡ s.number) → slot_of k (with_seat b f ss) ≡ slot_of k ss
slot_with b k f ss block number = elim (cases_eq k b) [
  | inl e ↦ subst (λ (j : ℕ). slot_of j (with_seat b f ss) ≡ slot_of j ss) (sym e) (ap number_of (seat_changed b f ss block) ∙ mapped (seat_of b ss))
  | inr ne ↦ ap number_of (seat_of_others b k f ss block ne)
]
  where
    mapped : (o : Option SeatState) → number_of (option_map f o) ≡ number_of o
    mapped None = refl
    mapped (Some s) = ap Some (number s)

pub slot_back : (b k : ℕ) (ss : List SeatState) → count_of (has_block b) ss ≤ 1 → slot_of k (given_back b ss) ≡ slot_of k ss
slot_back b k ss once = elim (cases_eq k b) [
  | inl e ↦ subst (λ (j : ℕ). slot_of j (given_back b ss) ≡ slot_of j ss) (sym e) (ap number_of (seat_given_back b ss once) ∙ mapped (seat_of b ss))
  | inr ne ↦ ap number_of (others_given_back b k ss ne)
]
  where
    mapped : (o : Option SeatState) → number_of (option_map without_holder o) ≡ number_of o
    mapped None = refl
    mapped (Some s) = refl

-- a get
abbrev pub KeepSlots : List SeatState → List SeatState → Type 0
KeepSlots old new = (k : ℕ) → HasRecorded old k → slot_of k new ≡ slot_of k old

slots_new : (hart b : ℕ) (ss : List SeatState) → seat_of b ss ≡ None → KeepSlots ss (change_first is_free (as_new hart b) ss)
slots_new hart b ss none k is =
    let found = some_recorded (seat_of k ss) is in
    let other : k ≢ b = λ e. (let both : None ≡ Some found.0 = sym none ∙ ap (λ (j : ℕ). seat_of j ss) (sym e) ∙ found.1 in absurd (cc both)) in
    ap number_of (first_stays (has_block k) is_free (as_new hart b) ss found.0 found.1 (not_free found.0 found.2.pinned) (λ s. of_another b k (Some b) refl other) ∙ sym found.1)

abbrev pair : List SeatState → Got → List SeatState × Got
pair ss r = (ss, r)

keep_same : (old new : List SeatState) → new ≡ old → KeepSlots old new
keep_same old new e k is = ap (λ (l : List SeatState). slot_of k l) e

by_free : (hart b : ℕ) (old new : List SeatState) (r : Got) (o : Option SeatState) → seat_of b old ≡ None → pair new r ≡ get_new hart b old o → KeepSlots old new
by_free hart b old new r None none e = keep_same old new (ap (λ (p : List SeatState × Got). p.0) e)
by_free hart b old new r (Some s) none e = subst (λ (l : List SeatState). KeepSlots old l) (sym (ap (λ (p : List SeatState × Got). p.0) e)) (slots_new hart b old none)

by_seat : (hart b : ℕ) (old new : List SeatState) (r : Got) (o : Option SeatState) → seat_of b old ≡ o → pair new r ≡ get_by hart b old o → KeepSlots old new
by_seat hart b old new r None none e = by_free hart b old new r (find is_free old) none e
by_seat hart b old new r (Some s) some e =
    pick (is_some s.holder) (λ t. pair new r ≡ (if t then (old, Waits) else (with_seat b (with_holder hart) old, Held (guard_of hart b s s.content))) → KeepSlots old new)
    (λ _ x. keep_same old new (ap (λ (p : List SeatState × Got). p.0) x))
    (λ _ x k is. ap (λ (p : List SeatState × Got). slot_of k p.0) x ∙ slot_with b k (with_holder hart) old (λ t. refl) (λ t. refl))
    e

pub slots_get : (hart b : ℕ) (old new : List SeatState) (r : Got) → pair new r ≡ get_of hart b old → KeepSlots old new
unfolding get_of
slots_get hart b old new r e = by_seat hart b old new r (seat_of b old) refl e

-- the log after such a call
in_slots : (sizes : Super) (old new : List SeatState) (group slots : List ℕ) (n : ℕ) → KeepSlots old new → PinsFrom sizes old group n → AreInSlots old group slots n → AreInSlots new group slots n
in_slots sizes old new group slots n keeps pins are k from lt = keeps (get_or group k 0) (pins.pinned k from lt) ∙ are k from lt

slots_fit : (sizes : Super) (old new : List SeatState) (group slots : List ℕ) (p : Phase) → KeepSlots old new → PinsFit sizes old group p → SlotsFit old group slots p → SlotsFit new group slots p
slots_fit sizes old new group slots Open keeps pins fit = in_slots sizes old new group slots 0 keeps pins fit
slots_fit sizes old new group slots (Staging i) keeps pins fit = in_slots sizes old new group slots 0 keeps pins fit
slots_fit sizes old new group slots (Installing i) keeps pins fit = in_slots sizes old new group slots i keeps pins fit
slots_fit sizes old new group slots Halted keeps pins fit = tt

pub slots_kept : (sizes : Super) (old new : List SeatState) (group slots : List ℕ) (p : Phase) → KeepSlots old new → PinsFit sizes old group p → HasSlots old group slots p → HasSlots new group slots p
slots_kept sizes old new group slots p keeps pins are = record { count = are.count; fit = slots_fit sizes old new group slots p keeps pins are.fit }

-- and after a record
held_slot : (ss : List SeatState) (g : GuardState BufferState) → IsHeld ss g → slot_of g.value.block ss ≡ Some g.number
held_slot ss g held = by_held (seat_of g.value.block ss) held
  where
    by_held : (o : Option SeatState) → MatchOption o ⊥ (IsGuardOf g) → number_of o ≡ Some g.number
    by_held None is = absurd is
    by_held (Some s) is = ap Some is.number

slots_added : (ss : List SeatState) (group slots : List ℕ) (b slot : ℕ) → slot_of b ss ≡ Some slot → HasSlots ss group slots Open → HasSlots ss (with_block group b) (slots_with group b slots slot) Open
slots_added ss group slots b slot at are =
    pick (has group b) (λ t. HasSlots ss (if t then group else group ++ b ∷ []) (if t then slots else slots ++ slot ∷ []) Open)
    (λ _. are)
    (λ _. record { count = let x = length-append group (b ∷ []) in let y = length-append slots (slot ∷ []) in let same = are.count in omega (arith, x, y, same); fit = λ k from lt. by_place k lt })
  where
    by_place : (k : ℕ) → k < length (group ++ b ∷ []) → slot_of (get_or (group ++ b ∷ []) k 0) ss ≡ Some (get_or (slots ++ slot ∷ []) k 0)
    by_place k lt = elim (cases_lt k (length group)) [
      | inl less ↦
          let same = are.count in
          ap (λ (j : ℕ). slot_of j ss) (get_or_append_left group (b ∷ []) 0 k less) ∙ are.fit k (omega arith) less
          ∙ ap Some (sym (get_or_append_left slots (slot ∷ []) 0 k (omega (arith, less, same))))
      | inr more ↦
          let long = length-append group (b ∷ []) in
          let here : k ≡ length group = omega (arith, lt, more, long) in
          let there : k ≡ length slots = here ∙ sym are.count in
          ap (λ (j : ℕ). slot_of (get_or (group ++ b ∷ []) j 0) ss) here ∙ ap (λ (j : ℕ). slot_of j ss) (get_or-append_seam group b [] 0) ∙ at
          ∙ ap Some (sym (ap (λ (j : ℕ). get_or (slots ++ slot ∷ []) j 0) there ∙ get_or-append_seam slots slot [] 0))
    ]

-- seats in which all slots are as they were
slots_same : (old new : List SeatState) (group slots : List ℕ) → ((k : ℕ) → slot_of k new ≡ slot_of k old) → HasSlots old group slots Open → HasSlots new group slots Open
slots_same old new group slots same are = record { count = are.count; fit = λ k from lt. same (get_or group k 0) ∙ are.fit k from lt }

pub slots_recorded : (ss mid zs : List SeatState) (ks gs ns ms : List ℕ) (c slot : ℕ) (g : GuardState BufferState) → ((b : ℕ) → count_of (has_block b) ss ≤ 1) → IsHeld ss g → IsSome g.value.content
    → c ≡ g.value.block → slot ≡ g.number → gs ≡ with_block ks c → ms ≡ slots_with ks c ns slot → mid ≡ with_seat c (with_pin true) ss
    → IfSome g.value.content (λ bytes. zs ≡ given_back g.value.block (with_seat g.value.block (with_content bytes) mid)) → HasSlots ss ks ns Open → HasSlots zs gs ms Open
slots_recorded ss mid zs ks gs ns ms c slot g once held valid at number group added pins ends are = by_content g.value.content valid ends
  where
    b : ℕ
    b = g.value.block

    grown : HasSlots ss gs ms Open
    grown =
        subst (λ (l : List ℕ). HasSlots ss l ms Open) (sym group)
        (subst (λ (l : List ℕ). HasSlots ss (with_block ks c) l Open) (sym added)
        (slots_added ss ks ns c slot (ap (λ (j : ℕ). slot_of j ss) at ∙ held_slot ss g held ∙ ap Some (sym number)) are))

    by_content : (content : Option (List ℕ)) → IsSome content → IfSome content (λ bytes. zs ≡ given_back g.value.block (with_seat g.value.block (with_content bytes) mid)) → HasSlots zs gs ms Open
    by_content None is to = absurd (cc is)
    by_content (Some bytes) is to =
        slots_same ss zs gs ms
        (λ k. ap (λ (l : List SeatState). slot_of k l) to
        ∙ slot_back b k (with_seat b (with_content bytes) mid) (once_then b bytes)
        ∙ slot_with b k (with_content bytes) mid (λ s. refl) (λ s. refl)
        ∙ ap (λ (l : List SeatState). slot_of k l) pins
        ∙ slot_with c k (with_pin true) ss (λ s. refl) (λ s. refl))
        grown
      where
        once_then : (b : ℕ) (bytes : List ℕ) → count_of (has_block b) (with_seat b (with_content bytes) mid) ≤ 1
        once_then b bytes =
            let x = count_same (has_block b) (has_block b) (with_content bytes) mid (λ s first e. e) in
            let y = count_same (has_block b) (has_block c) (with_pin true) ss (λ s first e. e) in
            let z = ap (λ (l : List SeatState). count_of (has_block b) l) pins in
            omega (arith, x, y, z, once b)

-- and after a write of the commit
fits_then : (ss zs : List SeatState) (ks ns : List ℕ) (n m : ℕ) → n ≤ m → ((k : ℕ) → slot_of k zs ≡ slot_of k ss) → AreInSlots ss ks ns n → AreInSlots zs ks ns m
fits_then ss zs ks ns n m le same are k from lt = same (get_or ks k 0) ∙ are k (omega (arith, le, from)) lt

slots_by : (ss : List SeatState) (ks ns : List ℕ) (p : Phase) → p ≢ Open → p ≢ Halted → ((b : ℕ) → count_of (has_block b) ss ≤ 1) → HasSlots ss ks ns p
    → HasSlots (seats_after ks p ss) (group_in (next_phase (length ks) p) ks) (group_in (next_phase (length ks) p) ns) (next_phase (length ks) p)
slots_by ss ks ns Open begun runs once are = absurd (begun refl)
slots_by ss ks ns Halted begun runs once are = absurd (runs refl)
slots_by ss ks ns (Staging i) begun runs once are =
    pick (i == length ks)
    (λ t. HasSlots (if t then ss else given_back (get_or ks i 0) ss) (group_in (if t then Installing 0 else Staging (i + 1)) ks) (group_in (if t then Installing 0 else Staging (i + 1)) ns) (if t then Installing 0 else Staging (i + 1)))
    (λ _. record { count = are.count; fit = are.fit })
    (λ _. record { count = are.count; fit = fits_then ss (given_back (get_or ks i 0) ss) ks ns 0 0 (omega arith) (λ k. slot_back (get_or ks i 0) k ss (once (get_or ks i 0))) are.fit })
slots_by ss ks ns (Installing i) begun runs once are =
    pick (i == length ks)
    (λ t. HasSlots (if t then ss else given_back b (with_seat b (with_pin false) ss)) (group_in (if t then Open else Installing (i + 1)) ks) (group_in (if t then Open else Installing (i + 1)) ns) (if t then Open else Installing (i + 1)))
    (λ _. record { count = refl; fit = λ k from lt. absurd (omega (arith, lt)) })
    (λ _. record {
      count = are.count;
      fit = fits_then ss (given_back b (with_seat b (with_pin false) ss)) ks ns i (i + 1) (omega arith) (λ k. slot_back b k (with_seat b (with_pin false) ss) once_then ∙ slot_with b k (with_pin false) ss (λ s. refl) (λ s. refl)) are.fit;
    })
  where
    b : ℕ
    b = get_or ks i 0

    once_then : count_of (has_block b) (with_seat b (with_pin false) ss) ≤ 1
    once_then = let x = count_same (has_block b) (has_block b) (with_pin false) ss (λ s first e. e) in omega (arith, x, once b)

pub slots_written : (ss zs : List SeatState) (ks gs ns ms : List ℕ) (n : ℕ) (p q : Phase) → (p ≢ Open) × (p ≢ Halted) → ((b : ℕ) → count_of (has_block b) ss ≤ 1) → HasSlots ss ks ns p
    → zs ≡ seats_after ks p ss → n ≡ length ks → q ≡ next_phase n p → gs ≡ group_in q ks → ms ≡ group_in q ns → HasSlots zs gs ms q
slots_written ss zs ks gs ns ms n p q begun once are seats count next group slots =
    let to : q ≡ next_phase (length ks) p = next ∙ ap (λ (k : ℕ). next_phase k p) count in
    subst (λ (l : List SeatState). HasSlots l gs ms q) (sym seats)
    (subst (λ (l : List ℕ). HasSlots (seats_after ks p ss) l ms q) (sym group)
    (subst (λ (l : List ℕ). HasSlots (seats_after ks p ss) (group_in q ks) l q) (sym slots)
    (subst (λ (r : Phase). HasSlots (seats_after ks p ss) (group_in r ks) (group_in r ns) r) (sym to) (slots_by ss ks ns p begun.0 begun.1 once are))))

pub no_slots : (ss : List SeatState) (ks ns : List ℕ) → ks ≡ [] → ns ≡ [] → HasSlots ss ks ns Open
no_slots ss ks ns none empty = record { count = ap (λ (l : List ℕ). length l) (empty ∙ sym none); fit = λ k from lt. let long = ap (λ (l : List ℕ). length l) none in absurd (omega (arith, lt, long)) }

pub slots_begun : (ss : List SeatState) (ks ns : List ℕ) (p : Phase) → p ≡ Open → HasSlots ss ks ns p → HasSlots ss ks ns (Staging 0)
slots_begun ss ks ns p is are = let open_ = subst (λ (q : Phase). HasSlots ss ks ns q) is are in record { count = open_.count; fit = open_.fit }

pub slots_halted : (ss zs : List SeatState) (ks ns : List ℕ) (p : Phase) → HasSlots ss ks ns p → HasSlots zs ks ns Halted
slots_halted ss zs ks ns p are = record { count = are.count; fit = tt }

pub slots_open : (ss zs : List SeatState) (ks gs ns ms : List ℕ) (p : Phase) → p ≡ Open → (HasSlots ss ks ns Open → HasSlots zs gs ms Open) → HasSlots ss ks ns p → HasSlots zs gs ms p
slots_open ss zs ks gs ns ms p is then_ are = subst (λ (q : Phase). HasSlots zs gs ms q) (sym is) (then_ (subst (λ (q : Phase). HasSlots ss ks ns q) is are))
