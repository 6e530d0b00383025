-- What a leave keeps of a log.
use Rattle.group_log.proofs.Vocabulary.{◌≡◌, ℕ, ◌==◌, List, [], ◌∷◌, refl, ◌∙◌, arith, Option, None, slice_set, if◌then◌else◌, eqb-true, Super, SeatState, Open, Staging, Free, Commits, joined, phase_at_leave, left_at, IsSoundLog}
use Rattle.group_log.proofs.Basics.{pick, rooms_leave, length-set_member}

pub commits_none : (n : ℕ) (ks : List ℕ) → left_at n ks ≡ Commits → n ≡ 0
commits_none n [] e = absurd (cc e)
commits_none n (b ∷ ks) e = pick (n == 0) (λ t. (n == 0) ≡ t → (if t then Commits else Free) ≡ Commits → n ≡ 0) (λ _ is _. eqb-true n 0 is) (λ _ _ f. absurd (cc f)) refl e

pub commits_begins : (n : ℕ) (ks : List ℕ) → left_at n ks ≡ Commits → phase_at_leave n ks ≡ Staging 0
commits_begins n [] e = absurd (cc e)
commits_begins n (b ∷ ks) e = pick (n == 0) (λ t. (if t then Commits else Free) ≡ Commits → (if t then Staging 0 else Open) ≡ Staging 0) (λ _ _. refl) (λ _ f. absurd (cc f)) e

pub free_stays : (n : ℕ) (ks : List ℕ) → left_at n ks ≡ Free → phase_at_leave n ks ≡ Open
free_stays n [] e = refl
free_stays n (b ∷ ks) e = pick (n == 0) (λ t. (if t then Commits else Free) ≡ Free → (if t then Staging 0 else Open) ≡ Open) (λ _ f. absurd (cc f)) (λ _ _. refl) e

pub left_good : (d : List (List ℕ)) (ss : List SeatState) (sizes : Super) (ks : List ℕ) (ms : List (Option ℕ)) (i : ℕ) → IsSoundLog d ss sizes ks ms Open
    → IsSoundLog d ss sizes ks (slice_set ms i None) Open
left_good d ss sizes ks ms i sound = record {
  place = sound.place;
  room = (let a = rooms_leave ms i in omega (arith, a, sound.room));
  eight = length-set_member ms i None ∙ sound.eight;
  quiet = tt;
  homes = sound.homes;
  distinct = sound.distinct;
  buffers = sound.buffers;
  blocks = sound.blocks;
}

pub begun_good : (d : List (List ℕ)) (ss : List SeatState) (sizes : Super) (ks : List ℕ) (ms : List (Option ℕ)) (i : ℕ) → IsSoundLog d ss sizes ks ms Open → joined (slice_set ms i None) ≡ 0
    → IsSoundLog d ss sizes ks (slice_set ms i None) (Staging 0)
begun_good d ss sizes ks ms i sound none = record {
  place = sound.place;
  room = (let a = rooms_leave ms i in omega (arith, a, sound.room));
  eight = length-set_member ms i None ∙ sound.eight;
  quiet = none;
  homes = sound.homes;
  distinct = sound.distinct;
  buffers = sound.buffers;
  blocks = (omega arith, sound.blocks.0, sound.blocks.1, λ k lt. absurd (omega (arith, lt)));
}
