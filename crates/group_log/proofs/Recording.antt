-- What a record keeps of a log.
use Rattle.group_log.proofs.Vocabulary.{◌≡◌, ◌≢◌, inl, inr, ℕ, zero, suc, ◌+◌, ◌-◌, ◌<◌, ◌≤◌, ◌==◌, ◌||◌, min, List, [], ◌∷◌, ◌++◌, length, get_or, true, false, refl, sym, ◌∙◌, ap, subst, arith, Option, Some, None, IsSome, if◌then◌else◌, cases_eq, eqb-true, eqb-false, MatchOption, option_map, Super, count_of, SeatState, has_block, is_pinned, seat_of, seen_in, with_seat, with_content, with_pin, without_holder, given_back, KeepsRecorded, HasRecorded, Open, has, with_block, rooms, HasRoom, one_more, members_with, IsHome, IsSoundLog}
use Rattle.group_log.proofs.Basics.{rooms_one_more, length-one_more, pick, count_more, count_same, seat_changed, seat_of_others, seat_given_back, others_given_back, kept_back, kept_change, some_recorded, recorded_of, not_inside}

pub length-push : (ks : List ℕ) (b : ℕ) → length (ks ++ b ∷ []) ≡ length ks + 1
length-push [] b = omega arith
length-push (k ∷ ks) b = let a = length-push ks b in omega (arith, a)

-- the place of a number in the group
pub where_is : (ks : List ℕ) (b : ℕ) → has ks b ≡ true → (k : ℕ) × (k < length ks) × (get_or ks k 0 ≡ b)
where_is [] b is = absurd (cc is)
where_is (x ∷ ks) b is =
    pick (b == x) (λ t. (b == x) ≡ t → (t || has ks b) ≡ true → (k : ℕ) × (k < suc (length ks)) × (get_or (x ∷ ks) k 0 ≡ b))
    (λ _ at _. (0, omega arith, sym (eqb-true b x at)))
    (λ _ _ later. let found = where_is ks b later in let lt : found.0 < length ks = found.1 in (suc found.0, omega (arith, lt), found.2))
    refl is

pub is_nowhere : (ks : List ℕ) (b k : ℕ) → has ks b ≡ false → k < length ks → get_or ks k 0 ≢ b
is_nowhere [] b k none lt = absurd (omega (arith, lt))
is_nowhere (x ∷ ks) b zero none lt = λ e. pick (b == x) (λ t. (b == x) ≡ t → (t || has ks b) ≡ false → ⊥) (λ _ _ f. cc f) (λ _ isnt _. eqb-false b x isnt (sym e)) refl none
is_nowhere (x ∷ ks) b (suc k) none lt = pick (b == x) (λ t. (t || has ks b) ≡ false → get_or ks k 0 ≢ b) (λ _ f. absurd (cc f)) (λ _ rest. is_nowhere ks b k rest (omega (arith, lt))) none

-- what the pushed list has
pub pushed : (P : ℕ → Type 0) (ks : List ℕ) (b : ℕ) → ((k : ℕ) → k < length ks → P (get_or ks k 0)) → P b → (k : ℕ) → k < length (ks ++ b ∷ []) → P (get_or (ks ++ b ∷ []) k 0)
pushed P [] b each last zero lt = last
pushed P [] b each last (suc k) lt = absurd (omega (arith, lt))
pushed P (x ∷ ks) b each last zero lt = each 0 (omega arith)
pushed P (x ∷ ks) b each last (suc k) lt = pushed P ks b (λ j below. each (suc j) (omega (arith, below))) last k (omega (arith, lt))

pub pushed_old : (ks : List ℕ) (b k : ℕ) → k < length ks → get_or (ks ++ b ∷ []) k 0 ≡ get_or ks k 0
pushed_old [] b k lt = absurd (omega (arith, lt))
pushed_old (x ∷ ks) b zero lt = refl
pushed_old (x ∷ ks) b (suc k) lt = pushed_old ks b k (omega (arith, lt))

pub pushed_last : (ks : List ℕ) (b : ℕ) → get_or (ks ++ b ∷ []) (length ks) 0 ≡ b
pushed_last [] b = refl
pushed_last (x ∷ ks) b = pushed_last ks b

pub each_with : (P : ℕ → Type 0) (ks : List ℕ) (b : ℕ) → ((k : ℕ) → k < length ks → P (get_or ks k 0)) → P b → (k : ℕ) → k < length (with_block ks b) → P (get_or (with_block ks b) k 0)
each_with P ks b each last = pick (has ks b) (λ t. (k : ℕ) → k < length (if t then ks else ks ++ b ∷ []) → P (get_or (if t then ks else ks ++ b ∷ []) k 0)) (λ _. each) (λ _. pushed P ks b each last)

pushed_distinct : (ks : List ℕ) (b : ℕ) → has ks b ≡ false → ((j k : ℕ) → j < k → k < length ks → get_or ks j 0 ≢ get_or ks k 0)
    → (j k : ℕ) → j < k → k < length (ks ++ b ∷ []) → get_or (ks ++ b ∷ []) j 0 ≢ get_or (ks ++ b ∷ []) k 0
pushed_distinct ks b none distinct j k lt within = elim (cases_eq k (length ks)) [
  | inl e ↦ λ same. is_nowhere ks b j none (omega (arith, lt, e)) (sym (pushed_old ks b j (omega (arith, lt, e))) ∙ same ∙ ap (λ (n : ℕ). get_or (ks ++ b ∷ []) n 0) e ∙ pushed_last ks b)
  | inr ne ↦
      let long = length-push ks b in
      let below : k < length ks = omega (arith, long, within, ne) in
      λ same. distinct j k lt below (sym (pushed_old ks b j (omega (arith, lt, below))) ∙ same ∙ pushed_old ks b k below)
]

pub distinct_with : (ks : List ℕ) (b : ℕ) → ((j k : ℕ) → j < k → k < length ks → get_or ks j 0 ≢ get_or ks k 0)
    → (j k : ℕ) → j < k → k < length (with_block ks b) → get_or (with_block ks b) j 0 ≢ get_or (with_block ks b) k 0
distinct_with ks b distinct =
    pick (has ks b) (λ t. has ks b ≡ t → (j k : ℕ) → j < k → k < length (if t then ks else ks ++ b ∷ []) → get_or (if t then ks else ks ++ b ∷ []) j 0 ≢ get_or (if t then ks else ks ++ b ∷ []) k 0)
    (λ _ _. distinct) (λ _ none. pushed_distinct ks b none distinct) refl

-- a block that isn't in the group with b is another block than b, and wasn't in the group
pub none_with : (ks : List ℕ) (b x : ℕ) → ((k : ℕ) → 0 ≤ k → k < length (with_block ks b) → get_or (with_block ks b) k 0 ≢ x) → (x ≢ b) × ((k : ℕ) → 0 ≤ k → k < length ks → get_or ks k 0 ≢ x)
none_with ks b x =
    pick (has ks b) (λ t. has ks b ≡ t → ((k : ℕ) → 0 ≤ k → k < length (if t then ks else ks ++ b ∷ []) → get_or (if t then ks else ks ++ b ∷ []) k 0 ≢ x) → (x ≢ b) × ((k : ℕ) → 0 ≤ k → k < length ks → get_or ks k 0 ≢ x))
    (λ _ is none. let found = where_is ks b is in (λ e. none found.0 (omega arith) found.1 (found.2 ∙ sym e), none))
    (λ _ _ none. let long = length-push ks b in
    (λ e. none (length ks) (omega arith) (omega (arith, long)) (pushed_last ks b ∙ sym e), λ k le lt at. none k le (omega (arith, long, lt)) (pushed_old ks b k lt ∙ at)))
    refl

-- ---- the buffers of a record

module _ (ss : List SeatState) (b : ℕ) (bytes : List ℕ) (once : (b : ℕ) → count_of (has_block b) ss ≤ 1) where
  pinned_first : List SeatState
  pinned_first = with_seat b (with_pin true) ss

  filled : List SeatState
  filled = with_seat b (with_content bytes) (with_seat b (with_pin true) ss)

  once_filled : count_of (has_block b) (with_seat b (with_content bytes) (with_seat b (with_pin true) ss)) ≤ 1
  once_filled =
      let a = count_same (has_block b) (has_block b) (with_pin true) ss (λ s first e. e) in
      let z = count_same (has_block b) (has_block b) (with_content bytes) (with_seat b (with_pin true) ss) (λ s first e. e) in
      omega (arith, a, z, once b)

  recorded_here : (o : Option SeatState) → IsSome o → MatchOption (option_map without_holder (option_map (with_content bytes) (option_map (with_pin true) o))) ⊥ KeepsRecorded
  recorded_here None is = absurd (cc is)
  recorded_here (Some s) is = record { pinned = refl; valid = refl }

  -- the recorded block's buffer is pinned
  pub pinned_now : IsSome (seat_of b ss) → HasRecorded (given_back b (with_seat b (with_content bytes) (with_seat b (with_pin true) ss))) b
  pinned_now is =
      recorded_of (option_map without_holder (option_map (with_content bytes) (option_map (with_pin true) (seat_of b ss)))) (seat_of b (given_back b (with_seat b (with_content bytes) (with_seat b (with_pin true) ss))))
      (seat_given_back b (with_seat b (with_content bytes) (with_seat b (with_pin true) ss)) once_filled
      ∙ ap (λ (o : Option SeatState). option_map without_holder o) (seat_changed b (with_content bytes) (with_seat b (with_pin true) ss) (λ s. refl) ∙ ap (λ (o : Option SeatState). option_map (with_content bytes) o) (seat_changed b (with_pin true) ss (λ s. refl))))
      (recorded_here (seat_of b ss) is)

  -- and the others stay
  pub others_stay : (k : ℕ) → k ≢ b → seat_of k (given_back b (with_seat b (with_content bytes) (with_seat b (with_pin true) ss))) ≡ seat_of k ss
  others_stay k ne =
      others_given_back b k (with_seat b (with_content bytes) (with_seat b (with_pin true) ss)) ne
      ∙ seat_of_others b k (with_content bytes) (with_seat b (with_pin true) ss) (λ s. refl) ne
      ∙ seat_of_others b k (with_pin true) ss (λ s. refl) ne

  after_pin : count_of is_pinned (given_back b (with_seat b (with_content bytes) (with_seat b (with_pin true) ss))) ≤ count_of is_pinned (with_seat b (with_pin true) ss)
  after_pin =
      let a = (kept_back b (with_seat b (with_content bytes) (with_seat b (with_pin true) ss)) once_filled).few in
      let z = (kept_change b (with_content bytes) (with_seat b (with_pin true) ss) (λ s. refl) (λ s. refl) (λ s is. refl)).few in
      omega (arith, a, z)

  pub one_pin_more : count_of is_pinned (given_back b (with_seat b (with_content bytes) (with_seat b (with_pin true) ss))) ≤ count_of is_pinned ss + 1
  one_pin_more = let a = after_pin in let z = count_more is_pinned (has_block b) (with_pin true) ss in omega (arith, a, z)

  pub no_pin_more : HasRecorded ss b → count_of is_pinned (given_back b (with_seat b (with_content bytes) (with_seat b (with_pin true) ss))) ≤ count_of is_pinned ss
  no_pin_more is =
      let found = some_recorded (seat_of b ss) is in
      let a = after_pin in
      let z = count_same is_pinned (has_block b) (with_pin true) ss (λ s first e. let both : Some s ≡ Some found.0 = sym first ∙ found.1 in let same : s ≡ found.0 = cc both in ap is_pinned same ∙ found.2.pinned) in
      omega (arith, a, z)

pub recorded_good : (d e : List (List ℕ)) (ss zs : List SeatState) (sizes : Super) (ks : List ℕ) (ms : List (Option ℕ)) (b hart : ℕ) (bytes : List ℕ)
    → ((b : ℕ) → count_of (has_block b) ss ≤ 1) → IsSoundLog d ss sizes ks ms Open → IsSome (seat_of b ss) → (has ks b ≡ false → HasRoom ms hart) → IsHome d sizes b
    → e ≡ d → zs ≡ given_back b (with_seat b (with_content bytes) (with_seat b (with_pin true) ss)) → ((k : ℕ) → k ≢ b → seen_in e zs k ≡ seen_in d ss k)
    → IsSoundLog e zs sizes (with_block ks b) (members_with ks b ms hart) Open
recorded_good d e ss zs sizes ks ms b hart bytes once sound cached has_room home same seats sees =
    subst (λ (x : List (List ℕ)). IsSoundLog x zs sizes (with_block ks b) (members_with ks b ms hart) Open) (sym same)
    (subst (λ (l : List SeatState). IsSoundLog d l sizes (with_block ks b) (members_with ks b ms hart) Open) (sym seats)
    (record {
      place = sound.place;
      room = fits;
      eight = pick (has ks b) (λ t. length (if t then ms else one_more ms hart) ≡ 8) (λ _. sound.eight) (λ _. length-one_more ms hart ∙ sound.eight);
      quiet = tt;
      homes = each_with (λ k. IsHome d sizes k) ks b sound.homes home;
      distinct = distinct_with ks b sound.distinct;
      buffers = record {
        apart = λ k from to. others_stay ss b bytes once k (λ x. not_inside sizes b k home.outside from to (sym x)) ∙ sound.buffers.apart k from to;
        pinned = λ k le. each_with (λ x. HasRecorded new x) ks b (λ j lt. still (get_or ks j 0) (sound.buffers.pinned j (omega arith) lt)) (pinned_now ss b bytes once cached) k;
        few = pins;
      };
      blocks = (sound.blocks.0, λ x out none. let other = none_with ks b x none in sound.blocks.1 x out other.1 ∙ sym (sees_new x other.0));
    }))
  where
    new : List SeatState
    new = given_back b (with_seat b (with_content bytes) (with_seat b (with_pin true) ss))

    sees_new : (k : ℕ) → k ≢ b → seen_in d new k ≡ seen_in d ss k
    sees_new k ne = ap (λ (l : List SeatState). seen_in d l k) (sym seats) ∙ ap (λ (x : List (List ℕ)). seen_in x zs k) (sym same) ∙ sees k ne

    still : (x : ℕ) → HasRecorded ss x → HasRecorded new x
    still x is = elim (cases_eq x b) [
      | inl at ↦ subst (λ (j : ℕ). HasRecorded new j) (sym at) (pinned_now ss b bytes once cached)
      | inr ne ↦ recorded_of (seat_of x ss) (seat_of x new) (others_stay ss b bytes once x ne) is
    ]

    fits : length (with_block ks b) + rooms (members_with ks b ms hart) ≤ min 30 (sizes.nlog - 1)
    fits = pick (has ks b) (λ t. has ks b ≡ t → length (if t then ks else ks ++ b ∷ []) + rooms (if t then ms else one_more ms hart) ≤ min 30 (sizes.nlog - 1))
        (λ _ _. sound.room)
        (λ _ isnt. let a = rooms_one_more ms hart (has_room isnt) in let l = length-push ks b in omega (arith, a, l, sound.room))
        refl

    pins : count_of is_pinned new + 0 ≤ length (with_block ks b)
    pins = pick (has ks b) (λ t. has ks b ≡ t → count_of is_pinned new + 0 ≤ length (if t then ks else ks ++ b ∷ []))
        (λ _ is. let found = where_is ks b is in
        let pin : HasRecorded ss b = subst (λ (j : ℕ). HasRecorded ss j) found.2 (sound.buffers.pinned found.0 (omega arith) found.1) in
        let a = no_pin_more ss b bytes once pin in omega (arith, a, sound.buffers.few))
        (λ _ _. let a = one_pin_more ss b bytes once in let l = length-push ks b in omega (arith, a, l, sound.buffers.few))
        refl
