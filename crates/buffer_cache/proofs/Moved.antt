-- A number of the order moved to its end.
use Rattle.buffer_cache.proofs.Vocabulary.{◌≡◌, ℕ, suc, ◌+◌, ◌<◌, ◌≤◌, List, [], ◌∷◌, ◌++◌, length, get_or, set, Bool, cond, sym, ◌∙◌, ap, subst, arith, if◌then◌else◌, ◌==◌, range_with_len, append_assoc, change_to_end, count_of, is_same, first_or, IsPath, follow, IsRing}
use Rattle.buffer_cache.proofs.Basics.{pick, same_number, range_apart}
use Rattle.buffer_cache.proofs.Rings.{behind_first, count_here, count_join, last_split, ring_again, Unlinked, Linked, linked}

there_counted : (n : ℕ) (front back : List ℕ) → 1 ≤ count_of (is_same n) (front ++ n ∷ back)
there_counted n [] back =
    let one : ℕ = 1 in
    let here : cond (n == n) one 0 ≡ one = ap (λ (t : Bool). cond t one 0) (same_number n) in
    omega (arith, here)
there_counted n (m ∷ ms) back = let more = there_counted n ms back in omega (arith, more)

-- a number that is there once is moved to the end
moved_here : (n : ℕ) (front back : List ℕ) → count_of (is_same n) (front ++ n ∷ back) ≤ 1 → change_to_end (is_same n) (λ k. k) (front ++ n ∷ back) ≡ front ++ (back ++ n ∷ [])
moved_here n [] back once = ap (λ (t : Bool). if t then back ++ n ∷ [] else n ∷ change_to_end (is_same n) (λ k. k) back) (same_number n)
moved_here n (m ∷ ms) back once =
    let there = there_counted n ms back in
    pick (m == n) (λ t. cond t 1 0 + count_of (is_same n) (ms ++ n ∷ back) ≤ 1
    → (if t then (ms ++ n ∷ back) ++ m ∷ [] else m ∷ change_to_end (is_same n) (λ k. k) (ms ++ n ∷ back)) ≡ m ∷ (ms ++ (back ++ n ∷ [])))
    (λ _ two. absurd (omega (arith, two, there)))
    (λ _ one. ap (λ (l : List ℕ). m ∷ l) (moved_here n ms back (omega (arith, one))))
    once

-- after the links were changed so
pub record MovedLast (last : ℕ) (x y : List ℕ) (n : ℕ) (x1 y1 x2 y2 : List ℕ) : Type 0 where
  pub before : get_or y1 last 0 < suc last
  pub behind : get_or x1 (get_or y1 last 0) 0 < suc last
  pub ring : IsRing last x2 y2
  pub view : follow x2 last last ≡ change_to_end (is_same n) (λ k. k) (follow x last last)

pub moved_last : (last : ℕ) (x y : List ℕ) (n : ℕ) (x1 y1 x2 y2 : List ℕ) → IsRing last x y → Unlinked last x y n x1 y1 → length x1 ≡ suc last → length y1 ≡ suc last → n < last
    → x2 ≡ set (set x1 (get_or y1 last 0) n) n (get_or x1 (get_or y1 last 0) 0) → y2 ≡ set (set y1 n (get_or y1 last 0)) (get_or x1 (get_or y1 last 0) 0) n → MovedLast last x y n x1 y1 x2 y2
moved_last last x y n x1 y1 x2 y2 ring out long_x long_y lt x_is y_is = record {
  before = in_.before;
  behind = in_.behind;
  ring = again.0;
  view = again.1 ∙ append_assoc out.front out.back (n ∷ []) ∙ sym (moved_here n out.front out.back once)
      ∙ ap (λ (l : List ℕ). change_to_end (is_same n) (λ k. k) l) (sym out.was);
}
  where
    h : ℕ
    h = get_or y1 last 0

    ms : List ℕ
    ms = out.front ++ out.back

    split : (front : List ℕ) × (last ∷ out.front ++ out.back ≡ front ++ get_or y1 last 0 ∷ [])
    split = last_split x1 y1 last (out.front ++ out.back) last out.path

    in_ : Linked last x1 y1 n h split.0 [] x2 y2
    in_ = linked last x y n x1 y1 h split.0 [] x2 y2 out split.1 long_x long_y lt x_is y_is

    path : IsPath x2 y2 (last ∷ (ms ++ n ∷ [])) last
    path =
        subst (λ (l : List ℕ). IsPath x2 y2 l last) (sym (append_assoc split.0 (h ∷ []) (n ∷ [])) ∙ ap (λ (l : List ℕ). l ++ n ∷ []) (sym split.1))
        in_.path

    each : (p : ℕ → Bool) → count_of p (ms ++ n ∷ []) ≡ count_of p (range_with_len 0 last)
    each p =
        let a = count_join p (out.front ++ out.back) (n ∷ []) in
        let b = count_join p out.front out.back in
        let c = count_join p out.front (n ∷ out.back) in
        let d = ap (λ (l : List ℕ). count_of p l) out.was in
        let e = ring.each p in
        omega (arith, a, b, c, d, e)

    once : count_of (is_same n) (out.front ++ n ∷ out.back) ≤ 1
    once =
        let a = count_join (is_same n) out.front (n ∷ out.back) in
        let b = count_join (is_same n) out.front out.back in
        let c = out.absent in
        let d = count_here n [] in
        omega (arith, a, b, c, d)

    again : IsRing last x2 y2 × (follow x2 last last ≡ ms ++ n ∷ [])
    again = ring_again last x2 y2 (ms ++ n ∷ []) path each

last_of : (last n : ℕ) (ms front : List ℕ) → last ∷ ms ≡ front ++ n ∷ [] → n < last → (fs : List ℕ) × (ms ≡ fs ++ n ∷ [])
last_of last n ms [] is lt = let same : last ≡ n = ap (λ (l : List ℕ). first_or l 0) is in absurd (omega (arith, same, lt))
last_of last n ms (f ∷ fs) is lt = (fs, ap behind_first is)

-- a move of the youngest to the end changes nothing
pub youngest_stays : (last : ℕ) (x y : List ℕ) (n : ℕ) → IsRing last x y → n < last → get_or y last 0 ≡ n → follow x last last ≡ change_to_end (is_same n) (λ k. k) (follow x last last)
youngest_stays last x y n ring lt is =
    at.1 ∙ sym (moved_here n at.0 [] once) ∙ ap (λ (l : List ℕ). change_to_end (is_same n) (λ k. k) l) (sym at.1)
  where
    split : (front : List ℕ) × (last ∷ follow x last last ≡ front ++ get_or y last 0 ∷ [])
    split = last_split x y last (follow x last last) last ring.path

    at : (fs : List ℕ) × (follow x last last ≡ fs ++ n ∷ [])
    at = last_of last n (follow x last last) split.0 (split.1 ∙ ap (λ (k : ℕ). split.0 ++ k ∷ []) is) lt

    once : count_of (is_same n) (at.0 ++ n ∷ []) ≤ 1
    once =
        let a = ap (λ (l : List ℕ). count_of (is_same n) l) at.1 in
        let b = ring.each (is_same n) in
        let c = range_apart n 0 last in
        omega (arith, a, b, c)
