-- What each call keeps of a log.
use Rattle.group_log.proofs.Vocabulary.{◌≡◌, ◌≢◌, ◌⊎◌, inl, inr, ℕ, ◌+◌, ◌<◌, ◌≤◌, ◌==◌, List, [], length, get_or, set, false, refl, sym, ◌∙◌, subst, arith, Option, if◌then◌else◌, eqb-true, eqb-false, Super, recovered, logged, IsOutsideLog, count_of, SeatState, has_block, is_pinned, seat_of, seen_in, with_seat, with_pin, given_back, Phase, Open, Staging, Installing, Halted, IsMember, IsUnderWay, next_phase, group_in, write_to, write_of, head_block, is_point, IsPlaced, IsHome, DiskFits, PinsFrom, PinsFit, IsQuiet, IsSoundLog, CanWrite, seats_after}
use Rattle.group_log.proofs.Basics.{member_joined, pick, count_same, count_less, seat_of_others, others_given_back, kept_back, pins_kept, some_recorded, recorded_of, not_inside, copied, headed, went_home, cleared, copied_recovered, headed_recovered, home_recovered, cleared_recovered, place_stays, homes_stay}

pub below : (i n : ℕ) → i ≤ n → (i == n) ≡ false → i < n
below i n le isnt = let ne = eqb-false i n isnt in omega (arith, le, ne)

-- a log that isn't halted and has a member is open
pub open_of : (p : Phase) (ms : List (Option ℕ)) (i : ℕ) → IsQuiet p ms → p ≢ Halted → IsMember ms i → p ≡ Open
open_of Open ms i quiet runs is = refl
open_of (Staging k) ms i quiet runs is = let a = member_joined ms i is in absurd (omega (arith, a, quiet))
open_of (Installing k) ms i quiet runs is = let a = member_joined ms i is in absurd (omega (arith, a, quiet))
open_of Halted ms i quiet runs is = absurd (runs refl)

pub can_write : (d : List (List ℕ)) (ss : List SeatState) (sizes : Super) (ks : List ℕ) (ms : List (Option ℕ)) (p : Phase) → IsSoundLog d ss sizes ks ms p → CanWrite d ss sizes ks p
can_write d ss sizes ks ms p sound = record {
  place = sound.place;
  room = omega (arith, sound.room, sound.place.some);
  few = omega (arith, sound.room);
  homes = sound.homes;
  buffers = sound.buffers;
}

pub under_way : (d : List (List ℕ)) (ss : List SeatState) (sizes : Super) (ks : List ℕ) (ms : List (Option ℕ)) (p : Phase) → IsSoundLog d ss sizes ks ms p → p ≢ Open → p ≢ Halted → IsUnderWay (length ks) p
under_way d ss sizes ks ms Open sound o h = absurd (o refl)
under_way d ss sizes ks ms (Staging i) sound o h = sound.blocks.0
under_way d ss sizes ks ms (Installing i) sound o h = sound.blocks.0
under_way d ss sizes ks ms Halted sound o h = absurd (h refl)

-- ---- one write of a commit

-- the pins after the copy home of the n-th block
pins_home : (sizes : Super) (ss : List SeatState) (ks : List ℕ) (i : ℕ) → ((k : ℕ) → k < length ks → IsOutsideLog sizes (get_or ks k 0)) → ((j k : ℕ) → j < k → k < length ks → get_or ks j 0 ≢ get_or ks k 0)
    → ((b : ℕ) → count_of (has_block b) ss ≤ 1) → i < length ks → PinsFrom sizes ss ks i → PinsFrom sizes (given_back (get_or ks i 0) (with_seat (get_or ks i 0) (with_pin false) ss)) ks (i + 1)
pins_home sizes ss ks i outside distinct once lt pins = record {
  apart = λ k from to.
      let ne : k ≢ b = (λ e. not_inside sizes b k (outside i lt) from to (sym e)) in
      others_given_back b k mid ne ∙ seat_of_others b k (with_pin false) ss (λ s. refl) ne ∙ pins.apart k from to;
  pinned = λ k from to.
      let ne : get_or ks k 0 ≢ b = (λ e. distinct i k (omega (arith, from)) to (sym e)) in
      recorded_of (seat_of (get_or ks k 0) ss) (seat_of (get_or ks k 0) (given_back b mid))
      (others_given_back b (get_or ks k 0) mid ne ∙ seat_of_others b (get_or ks k 0) (with_pin false) ss (λ s. refl) ne)
      (pins.pinned k (omega (arith, from)) to);
  few = (let found = some_recorded (seat_of b ss) (pins.pinned i (omega arith) lt) in
      let fewer = count_less is_pinned (has_block b) (with_pin false) ss found.0 found.1 found.2.pinned refl in
      let back = (kept_back b mid mid_once).few in
      omega (arith, fewer, back, pins.few));
}
  where
    b : ℕ
    b = get_or ks i 0

    mid : List SeatState
    mid = with_seat b (with_pin false) ss

    mid_once : count_of (has_block b) mid ≤ 1
    mid_once = (let a = count_same (has_block b) (has_block b) (with_pin false) ss (λ s first e. e) in omega (arith, a, once b))

module _ (d e : List (List ℕ)) (ss zs : List SeatState) (sizes : Super) (ks : List ℕ) (ms : List (Option ℕ)) (same : (b : ℕ) → IsOutsideLog sizes b → seen_in e zs b ≡ seen_in d ss b) where
  -- the log after a write that keeps its group
  with_write : (c : ℕ) (v : List ℕ) (p q : Phase) → e ≡ set d c v → c < length d → c ≢ 1 → IsSoundLog d ss sizes ks ms p → IsQuiet q ms → PinsFit sizes zs ks q → DiskFits sizes e (seen_in e zs) ks q
      → IsSoundLog e zs sizes ks ms q
  with_write c v p q is on_disk no_super sound quiet pins fits = record {
    place = place_stays sizes d e (seen_in d ss) (seen_in e zs) ks sound.place same c v is on_disk no_super;
    room = sound.room;
    eight = sound.eight;
    quiet = quiet;
    homes = λ k lt. homes_stay sizes d e (seen_in d ss) (seen_in e zs) ks sound.place same c v is on_disk no_super (get_or ks k 0) (sound.homes k lt);
    distinct = sound.distinct;
    buffers = pins;
    blocks = fits;
  }

  -- the log's first block, and the block after it for a copy
  head_on_disk : IsPlaced d sizes → sizes.logstart < length d
  head_on_disk place = omega (arith, place.some, place.within)

  no_super_head : IsPlaced d sizes → sizes.logstart ≢ 1
  no_super_head place = λ x. absurd (omega (arith, place.behind, x))

  copy_on_disk : (i : ℕ) → IsPlaced d sizes → i + 1 < sizes.nlog → sizes.logstart + 1 + i < length d
  copy_on_disk i place lt = omega (arith, place.within, lt)

  no_super_copy : (i : ℕ) → IsPlaced d sizes → sizes.logstart + 1 + i ≢ 1
  no_super_copy i place = λ x. absurd (omega (arith, place.behind, x))

  room_of : (p : Phase) → IsSoundLog d ss sizes ks ms p → length ks < sizes.nlog
  room_of p sound = (can_write d ss sizes ks ms p sound).room

  pub write_step : (p : Phase) → ((b : ℕ) → count_of (has_block b) ss ≤ 1) → IsSoundLog d ss sizes ks ms p → IsUnderWay (length ks) p
      → e ≡ set d (write_to sizes ks p) (write_of (seen_in d ss) ks p) → zs ≡ seats_after ks p ss
      → IsSoundLog e zs sizes (group_in (next_phase (length ks) p) ks) ms (next_phase (length ks) p)
  write_step Open once sound runs is seats = absurd runs
  write_step Halted once sound runs is seats = absurd runs
  write_step (Staging i) once sound runs is seats =
      pick (i == length ks)
      (λ t. (i == length ks) ≡ t → e ≡ set d (if t then sizes.logstart else sizes.logstart + 1 + i) (if t then head_block ks else seen_in d ss (get_or ks i 0)) → zs ≡ (if t then ss else given_back (get_or ks i 0) ss)
      → IsSoundLog e zs sizes (group_in (if t then Installing 0 else Staging (i + 1)) ks) ms (if t then Installing 0 else Staging (i + 1)))
      (λ _ at is seats.
      let room = room_of (Staging i) sound in
      let fits : DiskFits sizes d (seen_in d ss) ks (Staging (length ks)) = subst (λ j. DiskFits sizes d (seen_in d ss) ks (Staging j)) (eqb-true i (length ks) at) sound.blocks in
      with_write sizes.logstart (head_block ks) (Staging i) (Installing 0) is (head_on_disk sound.place) (no_super_head sound.place) sound sound.quiet
      (subst (λ (l : List SeatState). PinsFrom sizes l ks 0) (sym seats) sound.buffers)
      (headed sizes d e (seen_in d ss) (seen_in e zs) ks sound.place same room sound.homes is (omega (arith, sound.room)) fits))
      (λ _ isnt is seats.
      let room = room_of (Staging i) sound in
      let lt : i < length ks = below i (length ks) runs isnt in
      with_write (sizes.logstart + 1 + i) (seen_in d ss (get_or ks i 0)) (Staging i) (Staging (i + 1)) is (copy_on_disk i sound.place (omega (arith, lt, room))) (no_super_copy i sound.place) sound sound.quiet
      (subst (λ (l : List SeatState). PinsFrom sizes l ks 0) (sym seats)
      (pins_kept sizes (get_or ks i 0) ss (given_back (get_or ks i 0) ss) ks (Staging i) (kept_back (get_or ks i 0) ss (once (get_or ks i 0))) (sound.homes i lt).outside sound.buffers))
      (copied sizes d e (seen_in d ss) (seen_in e zs) ks sound.place same room sound.homes i lt is sound.blocks))
      refl is seats
  write_step (Installing i) once sound runs is seats =
      pick (i == length ks)
      (λ t. (i == length ks) ≡ t → e ≡ set d (if t then sizes.logstart else get_or ks i 0) (if t then head_block [] else seen_in d ss (get_or ks i 0))
      → zs ≡ (if t then ss else given_back (get_or ks i 0) (with_seat (get_or ks i 0) (with_pin false) ss))
      → IsSoundLog e zs sizes (group_in (if t then Open else Installing (i + 1)) ks) ms (if t then Open else Installing (i + 1)))
      (λ _ at is seats.
      let room = room_of (Installing i) sound in
      let fits : DiskFits sizes d (seen_in d ss) ks (Installing (length ks)) = subst (λ j. DiskFits sizes d (seen_in d ss) ks (Installing j)) (eqb-true i (length ks) at) sound.blocks in
      record {
        place = place_stays sizes d e (seen_in d ss) (seen_in e zs) ks sound.place same sizes.logstart (head_block []) is (head_on_disk sound.place) (no_super_head sound.place);
        room = omega (arith, sound.room);
        eight = sound.eight;
        quiet = tt;
        homes = λ k lt. absurd (omega (arith, lt));
        distinct = λ j k lt more. absurd (omega (arith, more));
        buffers = subst (λ (l : List SeatState). PinsFrom sizes l [] 0) (sym seats)
            (record { apart = sound.buffers.apart; pinned = λ k le lt. absurd (omega (arith, lt)); few = (let j = eqb-true i (length ks) at in omega (arith, j, sound.buffers.few)) });
        blocks = cleared sizes d e (seen_in d ss) (seen_in e zs) ks sound.place same room sound.homes is fits;
      })
      (λ _ isnt is seats.
      let room = room_of (Installing i) sound in
      let lt : i < length ks = below i (length ks) runs isnt in
      let home = sound.homes i lt in
      with_write (get_or ks i 0) (seen_in d ss (get_or ks i 0)) (Installing i) (Installing (i + 1)) is home.within home.no_super sound sound.quiet
      (subst (λ (l : List SeatState). PinsFrom sizes l ks (i + 1)) (sym seats)
      (pins_home sizes ss ks i (λ k below. (sound.homes k below).outside) sound.distinct once lt sound.buffers))
      (went_home sizes d e (seen_in d ss) (seen_in e zs) ks sound.place same room sound.homes i lt is sound.blocks))
      refl is seats

  -- the recovered disk changes when the head begins to name the group
  pub write_recovered : (p : Phase) (b : ℕ) → IsSoundLog d ss sizes ks ms p → IsUnderWay (length ks) p → e ≡ set d (write_to sizes ks p) (write_of (seen_in d ss) ks p) → IsOutsideLog sizes b
      → recovered e b ≡ (if is_point (length ks) p then seen_in d ss b else recovered d b)
  write_recovered Open b sound runs is out = absurd runs
  write_recovered Halted b sound runs is out = absurd runs
  write_recovered (Staging i) b sound runs is out =
      pick (i == length ks)
      (λ t. (i == length ks) ≡ t → e ≡ set d (if t then sizes.logstart else sizes.logstart + 1 + i) (if t then head_block ks else seen_in d ss (get_or ks i 0)) → recovered e b ≡ (if t then seen_in d ss b else recovered d b))
      (λ _ at is.
      let fits : DiskFits sizes d (seen_in d ss) ks (Staging (length ks)) = subst (λ j. DiskFits sizes d (seen_in d ss) ks (Staging j)) (eqb-true i (length ks) at) sound.blocks in
      headed_recovered sizes d e (seen_in d ss) (seen_in e zs) ks sound.place same (room_of (Staging i) sound) sound.homes b is (omega (arith, sound.room)) out fits)
      (λ _ isnt is. copied_recovered sizes d e (seen_in d ss) (seen_in e zs) ks sound.place same (room_of (Staging i) sound) sound.homes i b (below i (length ks) runs isnt) is out sound.blocks)
      refl is
  write_recovered (Installing i) b sound runs is out =
      pick (i == length ks)
      (λ t. (i == length ks) ≡ t → e ≡ set d (if t then sizes.logstart else get_or ks i 0) (if t then head_block [] else seen_in d ss (get_or ks i 0)) → recovered e b ≡ recovered d b)
      (λ _ at is.
      let fits : DiskFits sizes d (seen_in d ss) ks (Installing (length ks)) = subst (λ j. DiskFits sizes d (seen_in d ss) ks (Installing j)) (eqb-true i (length ks) at) sound.blocks in
      cleared_recovered sizes d e (seen_in d ss) (seen_in e zs) ks sound.place same (room_of (Installing i) sound) sound.homes b is out fits)
      (λ _ isnt is. home_recovered sizes d e (seen_in d ss) (seen_in e zs) ks sound.place same (room_of (Installing i) sound) sound.homes i b (below i (length ks) runs isnt) is out sound.blocks)
      refl is

  -- the head names the group afterwards, or nothing
  write_logged : (p : Phase) → IsSoundLog d ss sizes ks ms p → IsUnderWay (length ks) p → e ≡ set d (write_to sizes ks p) (write_of (seen_in d ss) ks p) → (logged e ≡ []) ⊎ (logged e ≡ ks)
  write_logged Open sound runs is = absurd runs
  write_logged Halted sound runs is = absurd runs
  write_logged (Staging i) sound runs is =
      pick (i == length ks)
      (λ t. (i == length ks) ≡ t → e ≡ set d (if t then sizes.logstart else sizes.logstart + 1 + i) (if t then head_block ks else seen_in d ss (get_or ks i 0)) → (logged e ≡ []) ⊎ (logged e ≡ ks))
      (λ _ at is.
      let fits : DiskFits sizes d (seen_in d ss) ks (Staging (length ks)) = subst (λ j. DiskFits sizes d (seen_in d ss) ks (Staging j)) (eqb-true i (length ks) at) sound.blocks in
      inr (headed sizes d e (seen_in d ss) (seen_in e zs) ks sound.place same (room_of (Staging i) sound) sound.homes is (omega (arith, sound.room)) fits).1)
      (λ _ isnt is. inl (copied sizes d e (seen_in d ss) (seen_in e zs) ks sound.place same (room_of (Staging i) sound) sound.homes i (below i (length ks) runs isnt) is sound.blocks).1)
      refl is
  write_logged (Installing i) sound runs is =
      pick (i == length ks)
      (λ t. (i == length ks) ≡ t → e ≡ set d (if t then sizes.logstart else get_or ks i 0) (if t then head_block [] else seen_in d ss (get_or ks i 0)) → (logged e ≡ []) ⊎ (logged e ≡ ks))
      (λ _ at is.
      let fits : DiskFits sizes d (seen_in d ss) ks (Installing (length ks)) = subst (λ j. DiskFits sizes d (seen_in d ss) ks (Installing j)) (eqb-true i (length ks) at) sound.blocks in
      inl (cleared sizes d e (seen_in d ss) (seen_in e zs) ks sound.place same (room_of (Installing i) sound) sound.homes is fits).0)
      (λ _ isnt is. inr (went_home sizes d e (seen_in d ss) (seen_in e zs) ks sound.place same (room_of (Installing i) sound) sound.homes i (below i (length ks) runs isnt) is sound.blocks).1)
      refl is

  logged_before : (p : Phase) → IsUnderWay (length ks) p → DiskFits sizes d (seen_in d ss) ks p → (logged d ≡ []) ⊎ (logged d ≡ ks)
  logged_before Open runs fits = absurd runs
  logged_before Halted runs fits = absurd runs
  logged_before (Staging i) runs fits = inl fits.1
  logged_before (Installing i) runs fits = inr fits.1

  -- a write that failed halts the log
  pub halted : (p : Phase) → IsSoundLog d ss sizes ks ms p → IsUnderWay (length ks) p → (e ≡ d) ⊎ (e ≡ set d (write_to sizes ks p) (write_of (seen_in d ss) ks p)) → IsSoundLog e zs sizes ks ms Halted
  halted p sound runs may = elim may [
    | inl is ↦ record {
      place = subst (λ (x : List (List ℕ)). IsPlaced x sizes) (sym is) sound.place;
      room = sound.room;
      eight = sound.eight;
      quiet = tt;
      homes = λ k lt. subst (λ (x : List (List ℕ)). IsHome x sizes (get_or ks k 0)) (sym is) (sound.homes k lt);
      distinct = sound.distinct;
      buffers = tt;
      blocks = subst (λ (x : List (List ℕ)). (logged x ≡ []) ⊎ (logged x ≡ ks)) (sym is) (logged_before p runs sound.blocks);
    }
    | inr is ↦
        let at = written_at p sound runs in
        with_write (write_to sizes ks p) (write_of (seen_in d ss) ks p) p Halted is at.0 at.1 sound tt tt (write_logged p sound runs is)
  ]
    where
      written_at : (p : Phase) → IsSoundLog d ss sizes ks ms p → IsUnderWay (length ks) p → (write_to sizes ks p < length d) × (write_to sizes ks p ≢ 1)
      written_at Open sound runs = absurd runs
      written_at Halted sound runs = absurd runs
      written_at (Staging i) sound runs =
          pick (i == length ks) (λ t. (i == length ks) ≡ t → ((if t then sizes.logstart else sizes.logstart + 1 + i) < length d) × ((if t then sizes.logstart else sizes.logstart + 1 + i) ≢ 1))
          (λ _ at. (head_on_disk sound.place, no_super_head sound.place))
          (λ _ isnt. (copy_on_disk i sound.place (let lt = below i (length ks) runs isnt in let room = room_of (Staging i) sound in omega (arith, lt, room)), no_super_copy i sound.place))
          refl
      written_at (Installing i) sound runs =
          pick (i == length ks) (λ t. (i == length ks) ≡ t → ((if t then sizes.logstart else get_or ks i 0) < length d) × ((if t then sizes.logstart else get_or ks i 0) ≢ 1))
          (λ _ at. (head_on_disk sound.place, no_super_head sound.place))
          (λ _ isnt. let home = sound.homes i (below i (length ks) runs isnt) in (home.within, home.no_super))
          refl
