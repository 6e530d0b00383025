-- Calls of the cache that leave the recorded blocks as they are.
use Rattle.group_log.proofs.Vocabulary.{◌≡◌, ◌≢◌, inl, inr, ℕ, ◌≤◌, List, [], ◌∷◌, get_or, Bool, true, false, not, ◌&&◌, refl, sym, ◌∙◌, ap, subst, arith, Option, Some, None, IsSome, is_some, is_none, if◌then◌else◌, cases_eq, MatchOption, option_map, find, Super, IsOutsideLog, change_first, count_of, Got, Held, Waits, get_of, get_by, get_new, guard_of, SeatState, has_block, is_free, is_pinned, seat_of, seen_in, with_seat, with_holder, without_holder, as_new, given_back, KeepsRecorded, HasRecorded, Phase, Open, Staging, Installing, Halted, DiskFits, PinsFrom, PinsFit, IsSoundLog}
use Rattle.group_log.proofs.Seats.{pick, first_of_others, count_same, count_to_end, of_another, seat_changed, seat_of_others, seat_given_back, others_given_back}

-- what a call does that is about block b
pub record Kept (b : ℕ) (old new : List SeatState) : Type 0 where
  pub apart : (k : ℕ) → k ≢ b → seat_of k old ≡ None → seat_of k new ≡ None
  pub pinned : (k : ℕ) → HasRecorded old k → HasRecorded new k
  pub few : count_of is_pinned new ≤ count_of is_pinned old

pub kept_same : (b : ℕ) (ss : List SeatState) → Kept b ss ss
kept_same b ss = record { apart = λ k ne e. e; pinned = λ k is. is; few = omega arith }

pub kept_both : (b : ℕ) (a m z : List SeatState) → Kept b a m → Kept b m z → Kept b a z
kept_both b a m z first later = record {
  apart = λ k ne e. later.apart k ne (first.apart k ne e);
  pinned = λ k is. later.pinned k (first.pinned k is);
  few = omega (arith, first.few, later.few);
}

pub recorded_map : (f : SeatState → SeatState) (o : Option SeatState) → ((s : SeatState) → KeepsRecorded s → KeepsRecorded (f s)) → MatchOption o ⊥ KeepsRecorded → MatchOption (option_map f o) ⊥ KeepsRecorded
recorded_map f None keeps is = is
recorded_map f (Some s) keeps is = keeps s is

pub recorded_of : (o n : Option SeatState) → n ≡ o → MatchOption o ⊥ KeepsRecorded → MatchOption n ⊥ KeepsRecorded
recorded_of o n e is = subst (λ (o : Option SeatState). MatchOption o ⊥ KeepsRecorded) (sym e) is

pub pinned_at : (b : ℕ) (old new : List SeatState) (f : SeatState → SeatState) → seat_of b new ≡ option_map f (seat_of b old) → ((s : SeatState) → KeepsRecorded s → KeepsRecorded (f s))
    → ((k : ℕ) → k ≢ b → seat_of k new ≡ seat_of k old) → (k : ℕ) → HasRecorded old k → HasRecorded new k
pinned_at b old new f here keeps others k is = elim (cases_eq k b) [
  | inl e ↦
      let at : HasRecorded old b = subst (λ (j : ℕ). HasRecorded old j) e is in
      subst (λ (j : ℕ). HasRecorded new j) (sym e) (recorded_of (option_map f (seat_of b old)) (seat_of b new) here (recorded_map f (seat_of b old) keeps at))
  | inr ne ↦ recorded_of (seat_of k old) (seat_of k new) (others k ne) is
]

-- a change in its place that leaves each buffer's block and pin, and leaves a valid buffer valid
pub kept_change : (b : ℕ) (f : SeatState → SeatState) (ss : List SeatState) → ((s : SeatState) → (f s).block ≡ s.block) → ((s : SeatState) → (f s).pinned ≡ s.pinned)
    → ((s : SeatState) → IsSome s.content → IsSome (f s).content) → Kept b ss (with_seat b f ss)
kept_change b f ss block pin valid = record {
  apart = λ k ne e. seat_of_others b k f ss block ne ∙ e;
  pinned = pinned_at b ss (with_seat b f ss) f (seat_changed b f ss block) (λ s is. record { pinned = pin s ∙ is.pinned; valid = valid s is.valid }) (λ k ne. seat_of_others b k f ss block ne);
  few = count_same is_pinned (has_block b) f ss (λ s first e. sym (pin s) ∙ e);
}

pub kept_back : (b : ℕ) (ss : List SeatState) → count_of (has_block b) ss ≤ 1 → Kept b ss (given_back b ss)
kept_back b ss once = record {
  apart = λ k ne e. others_given_back b k ss ne ∙ e;
  pinned = pinned_at b ss (given_back b ss) without_holder (seat_given_back b ss once) (λ s is. record { pinned = is.pinned; valid = is.valid }) (λ k ne. others_given_back b k ss ne);
  few = count_to_end is_pinned (has_block b) without_holder ss (λ s e. e);
}

-- ---- a buffer taken for another block

none_passes : {X : Type 0} (q p : X → Bool) (xs : List X) (x : X) → find q xs ≡ None → find p xs ≡ Some x → q x ≡ false
none_passes q p [] x none here = absurd (cc here)
none_passes {X} q p (y ∷ xs) x none here =
    pick (q y) (λ t. q y ≡ t → (if t then Some y else find q xs) ≡ None → q x ≡ false)
    (λ _ is some. absurd (cc some))
    (λ _ isnt rest. pick (p y) (λ t. (if t then Some y else find p xs) ≡ Some x → q x ≡ false)
    (λ _ e. let same : y ≡ x = cc e in ap q (sym same) ∙ isnt)
    (λ _ later. none_passes q p xs x rest later)
    here)
    refl none

pub first_stays : {X : Type 0} (q p : X → Bool) (f : X → X) (xs : List X) (s : X) → find q xs ≡ Some s → p s ≡ false → ((x : X) → q (f x) ≡ false) → find q (change_first p f xs) ≡ Some s
first_stays q p f [] s here isnt apart = here
first_stays {X} q p f (x ∷ xs) s here isnt apart =
    pick (p x) (λ t. p x ≡ t → find q (if t then f x ∷ xs else x ∷ change_first p f xs) ≡ Some s)
    (λ _ free. ap (λ (t : Bool). if t then Some (f x) else find q xs) (apart x)
    ∙ pick (q x) (λ t. (if t then Some x else find q xs) ≡ Some s → find q xs ≡ Some s)
    (λ _ e. let same : x ≡ s = cc e in let both : true ≡ false = sym free ∙ ap p same ∙ isnt in absurd (cc both))
    (λ _ later. later)
    here)
    (λ _ _. pick (q x) (λ t. (if t then Some x else find q xs) ≡ Some s → (if t then Some x else find q (change_first p f xs)) ≡ Some s)
    (λ _ e. e)
    (λ _ later. first_stays q p f xs s later isnt apart)
    here)
    refl

pub some_recorded : (o : Option SeatState) → MatchOption o ⊥ KeepsRecorded → (s : SeatState) × (o ≡ Some s) × KeepsRecorded s
some_recorded None is = absurd is
some_recorded (Some s) is = (s, refl, is)

pub not_free : (s : SeatState) → s.pinned ≡ true → is_free s ≡ false
not_free s e = ap (λ (t : Bool). not t && is_none s.holder) e

pub kept_new : (hart b : ℕ) (ss : List SeatState) → seat_of b ss ≡ None → Kept b ss (change_first is_free (as_new hart b) ss)
kept_new hart b ss none = record {
  apart = λ k ne e. first_of_others (has_block k) is_free (as_new hart b) ss (λ s first. (none_passes (has_block k) is_free ss s e first, of_another b k (Some b) refl ne)) ∙ e;
  pinned = λ k is.
      let found = some_recorded (seat_of k ss) is in
      let other : k ≢ b = (λ e. let both : None ≡ Some found.0 = sym none ∙ ap (λ (j : ℕ). seat_of j ss) (sym e) ∙ found.1 in absurd (cc both)) in
      recorded_of (Some found.0) (seat_of k (change_first is_free (as_new hart b) ss))
      (first_stays (has_block k) is_free (as_new hart b) ss found.0 found.1 (not_free found.0 found.2.pinned) (λ s. of_another b k (Some b) refl other)) found.2;
  few = count_same is_pinned is_free (as_new hart b) ss (λ s first e. e);
}

abbrev pair : List SeatState → Got → List SeatState × Got
pair ss r = (ss, r)

by_free : (hart b : ℕ) (old new : List SeatState) (r : Got) (o : Option SeatState) → seat_of b old ≡ None → pair new r ≡ get_new hart b old o → Kept b old new
by_free hart b old new r None none e = subst (λ (l : List SeatState). Kept b old l) (sym (ap (λ (p : List SeatState × Got). p.0) e)) (kept_same b old)
by_free hart b old new r (Some s) none e = subst (λ (l : List SeatState). Kept b old l) (sym (ap (λ (p : List SeatState × Got). p.0) e)) (kept_new hart b old none)

by_seat : (hart b : ℕ) (old new : List SeatState) (r : Got) (o : Option SeatState) → seat_of b old ≡ o → pair new r ≡ get_by hart b old o → Kept b old new
by_seat hart b old new r None none e = by_free hart b old new r (find is_free old) none e
by_seat hart b old new r (Some s) some e =
    pick (is_some s.holder) (λ t. pair new r ≡ (if t then (old, Waits) else (with_seat b (with_holder hart) old, Held (guard_of hart b s s.content))) → Kept b old new)
    (λ _ x. subst (λ (l : List SeatState). Kept b old l) (sym (ap (λ (p : List SeatState × Got). p.0) x)) (kept_same b old))
    (λ _ x. subst (λ (l : List SeatState). Kept b old l) (sym (ap (λ (p : List SeatState × Got). p.0) x)) (kept_change b (with_holder hart) old (λ s. refl) (λ s. refl) (λ s is. is)))
    e

pub kept_get : (hart b : ℕ) (old new : List SeatState) (r : Got) → pair new r ≡ get_of hart b old → Kept b old new
unfolding get_of
kept_get hart b old new r e = by_seat hart b old new r (seat_of b old) refl e

-- ---- the log after such a call

pins_from_kept : (sizes : Super) (b : ℕ) (old new : List SeatState) (group : List ℕ) (n : ℕ) → Kept b old new → IsOutsideLog sizes b → PinsFrom sizes old group n → PinsFrom sizes new group n
pins_from_kept sizes b old new group n kept out pins = record {
  apart = λ k from to. kept.apart k (λ e. elim out [ inl lt ↦ omega (arith, e, from, lt) | inr le ↦ omega (arith, e, to, le) ]) (pins.apart k from to);
  pinned = λ k from to. kept.pinned (get_or group k 0) (pins.pinned k from to);
  few = omega (arith, kept.few, pins.few);
}

pub pins_kept : (sizes : Super) (b : ℕ) (old new : List SeatState) (group : List ℕ) (p : Phase) → Kept b old new → IsOutsideLog sizes b → PinsFit sizes old group p → PinsFit sizes new group p
pins_kept sizes b old new group Open kept out pins = pins_from_kept sizes b old new group 0 kept out pins
pins_kept sizes b old new group (Staging i) kept out pins = pins_from_kept sizes b old new group 0 kept out pins
pins_kept sizes b old new group (Installing i) kept out pins = pins_from_kept sizes b old new group i kept out pins
pins_kept sizes b old new group Halted kept out pins = tt

pub disk_kept : (sizes : Super) (disk : List (List ℕ)) (see sees : ℕ → List ℕ) (group : List ℕ) (p : Phase) → ((k : ℕ) → sees k ≡ see k) → DiskFits sizes disk see group p → DiskFits sizes disk sees group p
disk_kept sizes disk see sees group Open same fits = (fits.0, λ b out none. fits.1 b out none ∙ sym (same b))
disk_kept sizes disk see sees group (Staging i) same fits =
    (fits.0, fits.1, λ b out none. fits.2 b out none ∙ sym (same b), λ k lt. fits.3 k lt ∙ sym (same (get_or group k 0)))
disk_kept sizes disk see sees group (Installing i) same fits =
    (fits.0, fits.1, λ b out none. fits.2 b out none ∙ sym (same b), λ k lt. fits.3 k lt ∙ sym (same (get_or group k 0)))
disk_kept sizes disk see sees group Halted same fits = fits

pub sound_kept : (d e : List (List ℕ)) (old new : List SeatState) (sizes : Super) (group : List ℕ) (members : List (Option ℕ)) (p : Phase) (b : ℕ)
    → IsSoundLog d old sizes group members p → Kept b old new → IsOutsideLog sizes b → e ≡ d → ((k : ℕ) → seen_in e new k ≡ seen_in d old k) → IsSoundLog e new sizes group members p
sound_kept d e old new sizes group members p b sound kept out same sees =
    subst (λ (x : List (List ℕ)). IsSoundLog x new sizes group members p) (sym same)
    (record {
      place = sound.place;
      room = sound.room;
      eight = sound.eight;
      quiet = sound.quiet;
      homes = sound.homes;
      distinct = sound.distinct;
      buffers = pins_kept sizes b old new group p kept out sound.buffers;
      blocks = disk_kept sizes d (seen_in d old) (seen_in d new) group p (λ k. ap (λ (x : List (List ℕ)). seen_in x new k) (sym same) ∙ sees k) sound.blocks;
    })
