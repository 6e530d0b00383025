-- A log with nothing recorded.
use Rattle.group_log.proofs.Vocabulary.{◌≡◌, ℕ, zero, suc, ◌+◌, List, [], replicate, refl, sym, ◌∙◌, ap, arith, Option, None, unwrap_or, option_and_then, Super, logged, recovered, recovered-empty, block_at, count_of, SeatState, is_pinned, seat_of, seen_in, unused_from, Open, IsPlaced, IsSoundLog}

none_cached : (b n count : ℕ) → seat_of b (unused_from n count) ≡ None
unfolding unused_from
none_cached b n zero = refl
none_cached b n (suc count) = none_cached b (n + 1) count

none_pinned : (n count : ℕ) → count_of is_pinned (unused_from n count) ≡ 0
unfolding unused_from
none_pinned n zero = refl
none_pinned n (suc count) = let rest = none_pinned (n + 1) count in omega (arith, rest)

pub seen_on_disk : (d : List (List ℕ)) (ss : List SeatState) (b : ℕ) → ss ≡ unused_from 0 46 → seen_in d ss b ≡ block_at d b
seen_on_disk d ss b fresh = ap (λ (o : Option SeatState). unwrap_or (option_and_then (λ (s : SeatState). s.content) o) (block_at d b)) (ap (seat_of b) fresh ∙ none_cached b 0 46)

pub fresh_good : (d : List (List ℕ)) (ss : List SeatState) (sizes : Super) → ss ≡ unused_from 0 46 → IsPlaced d sizes → logged d ≡ [] → IsSoundLog d ss sizes [] (replicate 8 None) Open
fresh_good d ss sizes fresh place empty = record {
  place = place;
  room = omega arith;
  eight = refl;
  quiet = tt;
  homes = λ k lt. absurd (omega (arith, lt));
  distinct = λ j k lt more. absurd (omega (arith, more));
  buffers = record {
    apart = λ b from to. ap (seat_of b) fresh ∙ none_cached b 0 46;
    pinned = λ k le lt. absurd (omega (arith, lt));
    few = (let none = ap (λ (l : List SeatState). count_of is_pinned l) fresh ∙ none_pinned 0 46 in omega (arith, none));
  };
  blocks = (empty, λ b out none. sym (seen_on_disk d ss b fresh));
}

pub fresh_recovered : (d : List (List ℕ)) (ss : List SeatState) (b : ℕ) → ss ≡ unused_from 0 46 → logged d ≡ [] → recovered d b ≡ seen_in d ss b
fresh_recovered d ss b fresh empty = recovered-empty d b empty ∙ sym (seen_on_disk d ss b fresh)
