-- A log's head as recovery's checks see it.
use Rattle.calls_on_blocks.proofs.Vocabulary.{magic_of, ◌≡◌, ◌≢◌, ◌⊎◌, inl, inr, ℕ, ◌<◌, ◌≤◌, List, [], length, get_or, Option, refl, sym, ◌∙◌, ap, subst, arith, All, AllPairs, get_or_default, Super, sizes_of, logged, SeatState, Phase, Open, Staging, Installing, Halted, IsHome, IsSoundLog, limit_of, IsGoodSuper, HasGoodLog, UpToLog, length-logged, LogsLeaveGoodHeads, LogsMayBegin}

module _ (d : List (List ℕ)) (ss : List SeatState) (sizes : Super) (ks : List ℕ) (ms : List (Option ℕ)) (p : Phase) (sound : IsSoundLog d ss sizes ks ms p) (good : IsGoodSuper sizes) where
  named : (q : Phase) → q ≡ p → (logged d ≡ []) ⊎ (logged d ≡ ks)
  named Open e = inl (subst (λ (x : Phase). IsSoundLog d ss sizes ks ms x) (sym e) sound).blocks.0
  named (Staging i) e = inl (subst (λ (x : Phase). IsSoundLog d ss sizes ks ms x) (sym e) sound).blocks.1
  named (Installing i) e = inr (subst (λ (x : Phase). IsSoundLog d ss sizes ks ms x) (sym e) sound).blocks.1
  named Halted e = (subst (λ (x : Phase). IsSoundLog d ss sizes ks ms x) (sym e) sound).blocks

  fits : (xs : List ℕ) → logged d ≡ xs → length xs ≤ limit_of sizes → ((k : ℕ) → k < length xs → IsHome d sizes (get_or xs k 0)) → ((j k : ℕ) → j < k → k < length xs → get_or xs j 0 ≢ get_or xs k 0) → HasGoodLog d
  fits xs is few homes apart = record {
    count = (let n = length-logged d in let m = ap (λ (l : List ℕ). length l) is in let z = ap (λ (z : Super). z.nlog) sound.place.sizes_are in omega (arith, n, m, few, z));
    room = (let n = length-logged d in let m = ap (λ (l : List ℕ). length l) is in omega (arith, n, m, few));
    within = subst (λ (l : List ℕ). All (λ b. ((sizes_of d).inodestart ≤ b) × (b < (sizes_of d).size)) l) (sym is)
        (λ k z lt. let home = homes k lt in
        let front : sizes.inodestart ≤ get_or xs k z = subst (λ (b : ℕ). sizes.inodestart ≤ b) (get_or_default xs k 0 z lt) home.front in
        let sized : get_or xs k z < sizes.size = subst (λ (b : ℕ). b < sizes.size) (get_or_default xs k 0 z lt) home.sized in
        subst (λ (s : Super). (s.inodestart ≤ get_or xs k z) × (get_or xs k z < s.size)) (sym sound.place.sizes_are) (front, sized));
    once = record {
      apart = subst (λ (l : List ℕ). AllPairs (λ x y. x ≢ y) l) (sym is)
          (λ j k z lt below e. apart j k lt below (get_or_default xs j 0 z (omega (arith, lt, below)) ∙ e ∙ sym (get_or_default xs k 0 z below)));
    };
  }

  pub good_head : UpToLog d
  good_head =
      let two : 2 ≤ length d = omega (arith, sound.place.behind, sound.place.some, sound.place.within) in
      let head : HasGoodLog d = elim (named p refl) [
        | inl e ↦ fits [] e (omega arith) (λ k lt. absurd (omega (arith, lt))) (λ j k lt below. absurd (omega (arith, below)))
        | inr e ↦ fits ks e (omega (arith, sound.room)) sound.homes sound.distinct
      ] in
      (((two, (sound.place.is_super ∙ ap (λ (z : Super). magic_of z.version) (sym sound.place.sizes_are), subst IsGoodSuper (sym sound.place.sizes_are) good)), subst (λ (s : Super). s.size ≤ length d) (sym sound.place.sizes_are) sound.place.sized), head)

pub logs_leave_good_heads : LogsLeaveGoodHeads
logs_leave_good_heads disk seats sizes group members phase sound good = good_head disk seats sizes group members phase sound good

pub logs_may_begin : LogsMayBegin
logs_may_begin disk good counted =
    let a = good.0 in let b = a.0 in
    let s = b.1.1 in
    record {
      sizes_are = refl;
      behind = s.logstart;
      some = (let n = s.nlog in omega (arith, n));
      within = omega (arith, s.log, s.inodes, s.bitmap, a.1);
      counted = counted;
      is_super = b.1.0;
      inodes = s.log;
      sized = a.1;
    }
