-- Two blocks that are put through an empty log.
use Rattle.image_tree.proofs.Vocabulary.{Version, ◌≡◌, ◌≢◌, ◌⊎◌, inl, inr, ℕ, zero, suc, ◌+◌, ◌^◌, ◌<◌, ◌≤◌, List, [], ◌∷◌, length, get_or, set, Result, Ok, Err, OnOk, OnErr, refl, sym, ◌∙◌, ap, subst, arith, All, recursion_from_All, block_at, block_at-set_same, block_at-set_other, Super, overwrite, spell_log_head, sizes_of, logged, log_head_at, recovered, IsOutsideLog, sizes_of-set, logged-set, logged-written, recovered-empty, recovered-copy, recovered-own, IsFirstCopy, IsOnce, UpToLog, IsGoodSuper, IsViewOf, IsPut, Layout, IsLayout}
use Rattle.image_tree.proofs.Logs.{names_keep, empty_keeps}

pub good_super : (v : Version) (d : List (List ℕ)) → UpToLog v d → IsGoodSuper (sizes_of d)
good_super v d good = good.0.0.1.1

apart_from : (s : Super) (b c : ℕ) → IsOutsideLog s b → s.logstart ≤ c → c < s.logstart + s.nlog → b ≢ c
apart_from s b c out from to e = elim out [ inl lt ↦ omega (arith, lt, from, e) | inr le ↦ omega (arith, le, to, e) ]

-- ---- a copy in the log

module _ (v : Version) (d e : List (List ℕ)) (c : ℕ) (block : List ℕ) (good : UpToLog v d) (none : logged d ≡ []) (low : (sizes_of d).logstart < c) (high : c ≤ (sizes_of d).logstart + 2) where
  copied_set : IsViewOf v d (set d c block) × (logged (set d c block) ≡ [])
  copied_set =
      let g = good_super v d good in
      let ne : c ≢ 1 = (λ x. let p = g.logstart in absurd (omega (arith, p, low, x))) in
      let other : c ≢ (sizes_of d).logstart = (λ x. absurd (omega (arith, low, x))) in
      let empty : logged (set d c block) ≡ [] = logged-set d c block ne other ∙ none in
      let inside : c < (sizes_of d).logstart + (sizes_of d).nlog = (let n = g.nlog in omega (arith, n, high)) in (
        record {
          sizes = sizes_of-set d c block ne;
          good = empty_keeps v d good c block ne empty;
          same = λ b out. recovered-empty (set d c block) b empty ∙ block_at-set_other d c b block (apart_from (sizes_of d) b c out (omega (arith, low)) inside) ∙ sym (recovered-empty d b none);
        },
        empty,
      )

  same_view : IsViewOf v d d
  same_view = record { sizes = refl; good = good; same = λ b out. refl }

  pub copied : (e ≡ d) ⊎ (e ≡ set d c block) → IsViewOf v d e × (logged e ≡ [])
  copied may = elim may [
    | inl is ↦ subst (λ (x : List (List ℕ)). IsViewOf v d x × (logged x ≡ [])) (sym is) (same_view, none)
    | inr is ↦ subst (λ (x : List (List ℕ)). IsViewOf v d x × (logged x ≡ [])) (sym is) copied_set
  ]

-- an empty log stays the one of the layout
pub layout_stays : (d e : List (List ℕ)) (layout : Layout) → IsLayout d layout → logged d ≡ [] → IsViewOf layout.version d e → logged e ≡ [] → IsLayout e layout
layout_stays d e layout is none view empty = record { sizes = is.sizes ∙ sym view.sizes; blocks = is.blocks ∙ none ∙ sym empty; good = view.good }

-- ---- the head that names both

all_two : (P : ℕ → Type 0) (a b : ℕ) → P a → P b → All P (a ∷ b ∷ [])
all_two P a b pa pb = λ k z lt. at k z lt
  where
    at : (k z : ℕ) → k < 2 → P (get_or (a ∷ b ∷ []) k z)
    at zero z lt = pa
    at (suc zero) z lt = pb
    at (suc (suc k)) z lt = absurd (omega (arith, lt))

two_once : (a b : ℕ) → a ≢ b → IsOnce (a ∷ b ∷ [])
two_once a b ne = record { apart = λ j k z lt below. at j k z lt below }
  where
    at : (j k z : ℕ) → j < k → k < 2 → get_or (a ∷ b ∷ []) j z ≢ get_or (a ∷ b ∷ []) k z
    at zero zero z lt below = absurd (omega (arith, lt))
    at zero (suc zero) z lt below = ne
    at zero (suc (suc k)) z lt below = absurd (omega (arith, below))
    at (suc j) zero z lt below = absurd (omega (arith, lt))
    at (suc j) (suc zero) z lt below = absurd (omega (arith, lt))
    at (suc j) (suc (suc k)) z lt below = absurd (omega (arith, below))

module _ (v : Version) (d : List (List ℕ)) (home : ℕ) (block fresh : List ℕ) (good : UpToLog v d) (none : logged d ≡ []) (low : (sizes_of d).inodestart ≤ home) (high : home < (sizes_of d).bmapstart)
    (spelled : block ≡ overwrite fresh 0 (spell_log_head ((sizes_of d).bmapstart ∷ home ∷ []))) where
  abbrev head : ℕ
  head = (sizes_of d).logstart

  abbrev written : List (List ℕ)
  written = set d head block

  abbrev both : List ℕ
  both = (sizes_of d).bmapstart ∷ home ∷ []

  no_super : head ≢ 1
  no_super x = (let g = good_super v d good in let p = g.logstart in absurd (omega (arith, p, x)))

  sizes_same : sizes_of written ≡ sizes_of d
  sizes_same = sizes_of-set d head block no_super

  on_disk : head < length d
  on_disk = (let g = good_super v d good in let w = good.0.1 in let n = g.nlog in let l = g.log in let i = g.inodes in let b = g.bitmap in omega (arith, w, n, l, i, b))

  pub names_both : logged written ≡ both
  names_both =
      let g = good_super v d good in let s = g.size in let b = g.bitmap in
      let at : log_head_at written ≡ block = ap (λ (s : Super). block_at written s.logstart) sizes_same ∙ block_at-set_same d head block on_disk in
      logged-written written both fresh (at ∙ spelled) (omega arith)
      (recursion_from_All (λ n. n < 2 ^ 32) both (all_two (λ n. n < 2 ^ 32) (sizes_of d).bmapstart home (omega (arith, s, b)) (omega (arith, s, b, high))))

  pub written_good : UpToLog v written
  written_good =
      let g = good_super v d good in let b = g.bitmap in
      names_keep v d good head block both no_super names_both (omega arith)
      (all_two (λ b. ((sizes_of d).inodestart ≤ b) × (b < (sizes_of d).size)) (sizes_of d).bmapstart home (omega (arith, low, high), omega (arith, b)) (low, omega (arith, high, b)))
      (two_once (sizes_of d).bmapstart home (λ x. absurd (omega (arith, high, x))))

  -- a block other than the head's
  others_stay : (b : ℕ) → b ≢ head → block_at written b ≡ block_at d b
  others_stay b ne = block_at-set_other d head b block ne

  first_named : IsFirstCopy (logged written) (sizes_of d).bmapstart 0
  first_named = subst (λ (l : List ℕ). IsFirstCopy l (sizes_of d).bmapstart 0) (sym names_both) (record { within = omega arith; is = refl; before = λ k lt. absurd (omega (arith, lt)) })

  second_named : IsFirstCopy (logged written) home 1
  second_named = subst (λ (l : List ℕ). IsFirstCopy l home 1) (sym names_both) (record { within = omega arith; is = refl; before = λ k lt. at k lt })
    where
      at : (k : ℕ) → k < 1 → get_or both k 0 ≢ home
      at zero lt = λ x. absurd (omega (arith, high, x))
      at (suc k) lt = absurd (omega (arith, lt))

  pub head_put : IsPut v d written home (block_at d ((sizes_of d).logstart + 1)) (block_at d ((sizes_of d).logstart + 2))
  head_put = record {
    sizes = sizes_same;
    good = written_good;
    bitmap_is =
        recovered-copy written (sizes_of d).bmapstart 0 first_named
        ∙ ap (λ (s : Super). block_at written (s.logstart + 1 + 0)) sizes_same
        ∙ others_stay ((sizes_of d).logstart + 1 + 0) (λ x. absurd (omega (arith, x)))
        ∙ ap (block_at d) (let e : (sizes_of d).logstart + 1 + 0 ≡ (sizes_of d).logstart + 1 = omega arith in e);
    inodes_are =
        recovered-copy written home 1 second_named
        ∙ ap (λ (s : Super). block_at written (s.logstart + 1 + 1)) sizes_same
        ∙ others_stay ((sizes_of d).logstart + 1 + 1) (λ x. absurd (omega (arith, x)))
        ∙ ap (block_at d) (let e : (sizes_of d).logstart + 1 + 1 ≡ (sizes_of d).logstart + 2 = omega arith in e);
    others = λ c out nb nh.
        recovered-own written c (λ k lt is. unnamed c nb nh k (subst (λ (l : List ℕ). k < length l) names_both lt) (sym (ap (λ (l : List ℕ). get_or l k 0) names_both) ∙ is))
        ∙ others_stay c (apart_from (sizes_of d) c (sizes_of d).logstart out (omega arith) (let g = good_super v d good in let n = g.nlog in omega (arith, n)))
        ∙ sym (recovered-empty d c none);
  }
    where
      unnamed : (c : ℕ) → c ≢ (sizes_of d).bmapstart → c ≢ home → (k : ℕ) → k < 2 → get_or both k 0 ≢ c
      unnamed c nb nh zero lt = λ x. nb (sym x)
      unnamed c nb nh (suc zero) lt = λ x. nh (sym x)
      unnamed c nb nh (suc (suc k)) lt = absurd (omega (arith, lt))

-- ---- one after the other

pub view_then : (v : Version) (a b c : List (List ℕ)) → IsViewOf v a b → IsViewOf v b c → IsViewOf v a c
view_then v a b c first second = record {
  sizes = second.sizes ∙ first.sizes;
  good = second.good;
  same = λ x out. second.same x (subst (λ (s : Super). IsOutsideLog s x) (sym first.sizes) out) ∙ first.same x out;
}

-- blocks after the log
pub behind_log : (v : Version) (d : List (List ℕ)) (b : ℕ) → UpToLog v d → (sizes_of d).inodestart ≤ b → IsOutsideLog (sizes_of d) b
behind_log v d b good le = inr (let g = good_super v d good in let l = g.log in omega (arith, l, le))

pub put_between : (v : Version) (a b c e : List (List ℕ)) (home : ℕ) (x y : List ℕ) → UpToLog v a → (sizes_of a).inodestart ≤ home
    → IsViewOf v a b → IsPut v b c home x y → IsViewOf v c e → IsPut v a e home x y
put_between v a b c e home x y good le first p last =
    let all : sizes_of c ≡ sizes_of a = p.sizes ∙ first.sizes in
    let out : (z : ℕ) → IsOutsideLog (sizes_of a) z → IsOutsideLog (sizes_of c) z = (λ z o. subst (λ (s : Super). IsOutsideLog s z) (sym all) o) in
    let bm : (sizes_of b).bmapstart ≡ (sizes_of a).bmapstart = ap (λ (s : Super). s.bmapstart) first.sizes in
    let low : (sizes_of a).inodestart ≤ (sizes_of a).bmapstart = (let g = good_super v a good in let i = g.inodes in omega (arith, i)) in
    record {
      sizes = last.sizes ∙ all;
      good = last.good;
      bitmap_is = last.same (sizes_of a).bmapstart (out (sizes_of a).bmapstart (behind_log v a (sizes_of a).bmapstart good low)) ∙ ap (recovered c) (sym bm) ∙ p.bitmap_is;
      inodes_are = last.same home (out home (behind_log v a home good le)) ∙ p.inodes_are;
      others = λ z o nb nh.
          last.same z (out z o)
          ∙ p.others z (subst (λ (s : Super). IsOutsideLog s z) (sym first.sizes) o) (λ q. nb (q ∙ bm)) nh
          ∙ first.same z o;
    }

-- ---- what a write leaves, whatever it answers

pub either_way : {X E : Type 0} (r : Result X E) (e d n : List (List ℕ)) → OnOk r (e ≡ n) → OnErr r ((e ≡ d) ⊎ (e ≡ n)) → (e ≡ d) ⊎ (e ≡ n)
either_way (Ok x) e d n ok err = inr ok
either_way (Err x) e d n ok err = err

pub on_ok : {X E : Type 0} (r : Result X E) (P Q : Type 0) → (P → Q) → OnOk r P → OnOk r Q
on_ok (Ok x) P Q f p = f p
on_ok (Err x) P Q f p = tt

-- the head as the code writes it
module _ (v : Version) (d e : List (List ℕ)) (s : Super) (home : ℕ) (block fresh : List ℕ) (good : UpToLog v d) (none : logged d ≡ []) (is : s ≡ sizes_of d)
    (low : s.inodestart ≤ home) (high : home < s.bmapstart) (spelled : block ≡ overwrite fresh 0 (spell_log_head (s.bmapstart ∷ home ∷ []))) where
  pub head_is : e ≡ set d s.logstart block → IsPut v d e home (block_at d (s.logstart + 1)) (block_at d (s.logstart + 2))
  head_is new =
      subst (λ (z : Super). IsPut v d e home (block_at d (z.logstart + 1)) (block_at d (z.logstart + 2))) (sym is)
      (subst (λ (x : List (List ℕ)). IsPut v d x home (block_at d ((sizes_of d).logstart + 1)) (block_at d ((sizes_of d).logstart + 2)))
      (sym (new ∙ ap (λ (z : Super). set d z.logstart block) is))
      (head_put v d home block fresh good none (subst (λ (z : Super). z.inodestart ≤ home) is low) (subst (λ (z : Super). home < z.bmapstart) is high)
      (spelled ∙ ap (λ (z : Super). overwrite fresh 0 (spell_log_head (z.bmapstart ∷ home ∷ []))) is)))

-- ---- the whole transaction

-- From the disk that a transaction begins on, through the copies, the head and the rest, if the copies are these
-- blocks.
module _ (v : Version) (a b c : List (List ℕ)) (s : Super) (home : ℕ) (x y : List ℕ) (good : UpToLog v a) (is : s ≡ sizes_of a) (low : s.inodestart ≤ home) (view : IsViewOf v a b)
    (first : block_at b (s.logstart + 1) ≡ x) (second : block_at b (s.logstart + 2) ≡ y) (put : IsPut v b c home (block_at b (s.logstart + 1)) (block_at b (s.logstart + 2))) where
  pub through : (e : List (List ℕ)) → IsViewOf v c e → IsPut v a e home x y
  through e rest =
      subst (λ (block : List ℕ). IsPut v a e home block y) first
      (subst (λ (w : List ℕ). IsPut v a e home (block_at b (s.logstart + 1)) w) second
      (put_between v a b c e home (block_at b (s.logstart + 1)) (block_at b (s.logstart + 2)) good (subst (λ (z : Super). z.inodestart ≤ home) is low) view put rest))

  pub named : IsPut v a c home x y
  named = through c (record { sizes = refl; good = put.good; same = λ z out. refl })

-- if the head's write failed
pub head_failed : (v : Version) (a b c : List (List ℕ)) (s : Super) (home : ℕ) (x y : List ℕ) → UpToLog v a → s ≡ sizes_of a → s.inodestart ≤ home → IsViewOf v a b
    → block_at b (s.logstart + 1) ≡ x → block_at b (s.logstart + 2) ≡ y → (c ≡ b) ⊎ IsPut v b c home (block_at b (s.logstart + 1)) (block_at b (s.logstart + 2))
    → IsViewOf v a c ⊎ IsPut v a c home x y
head_failed v a b c s home x y good is low view first second may = elim may [
  | inl same ↦ inl (subst (λ (z : List (List ℕ)). IsViewOf v a z) (sym same) view)
  | inr put ↦ inr (named v a b c s home x y good is low view first second put)
]

pub on_ok_any : {X E : Type 0} (r : Result X E) (P : Type 0) → P → OnOk r P
on_ok_any (Ok x) P p = p
on_ok_any (Err x) P p = tt
