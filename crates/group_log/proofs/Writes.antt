-- What each write of a commit keeps on the disk, and what it does to the recovered disk.
use Rattle.group_log.proofs.Vocabulary.{◌≡◌, ◌≢◌, inl, inr, ℕ, suc, ◌+◌, ◌<◌, ◌≤◌, ◌^◌, List, [], ◌∷◌, length, get_or, set, refl, sym, ◌∙◌, ap, subst, arith, add-zero, replicate, AllByRecursion, cases_eq, length-set, Super, u32_at, sizes_of, logged, recovered, IsOutsideLog, block_at-set_same, block_at-set_other, sizes_of-set, logged-set, logged-written, recovered-empty, recovered-copy, recovered-own, first_copy, block_at, Open, Staging, Installing, head_block, IsPlaced, IsHome, DiskFits}

-- a block outside the log is none of the log's
pub not_inside : (sizes : Super) (b c : ℕ) → IsOutsideLog sizes b → sizes.logstart ≤ c → c < sizes.logstart + sizes.nlog → b ≢ c
not_inside sizes b c out from to e = elim out [ inl lt ↦ omega arith | inr le ↦ omega arith ]

pub small_numbers : (group : List ℕ) (n : ℕ) → n < 2 ^ 32 → ((k : ℕ) → k < length group → get_or group k 0 < n) → AllByRecursion (λ b. b < 2 ^ 32) group
small_numbers [] n lt each = tt
small_numbers (b ∷ group) n lt each = (let first : b < n = each 0 (omega arith) in omega (arith, first, lt), small_numbers group n lt (λ k below. each (suc k) (omega (arith, below))))

-- while the head names the group, recovery makes what is seen
pub installing_is_seen : (sizes : Super) (disk : List (List ℕ)) (see : ℕ → List ℕ) (group : List ℕ) (i b : ℕ) → sizes_of disk ≡ sizes → IsOutsideLog sizes b
    → DiskFits sizes disk see group (Installing i) → recovered disk b ≡ see b
installing_is_seen sizes disk see group i b sizes_are out fits = elim (first_copy (logged disk) b) [
  | inl f ↦
      let within : f.0 < length group = subst (λ (l : List ℕ). f.0 < length l) fits.1 f.1.within in
      let is : get_or group f.0 0 ≡ b = subst (λ (l : List ℕ). get_or l f.0 0 ≡ b) fits.1 f.1.is in
      recovered-copy disk b f.0 f.1
      ∙ ap (λ (s : Super). block_at disk (s.logstart + 1 + f.0)) sizes_are
      ∙ fits.3 f.0 within
      ∙ ap see is
  | inr none ↦
      recovered-own disk b none
      ∙ fits.2 b out (λ k le lt. subst (λ (l : List ℕ). (k : ℕ) → k < length l → get_or l k 0 ≢ b) fits.1 none k lt)
]

module _ (sizes : Super) (disk new : List (List ℕ)) (see sees : ℕ → List ℕ) (group : List ℕ) (placed : IsPlaced disk sizes) (same : (b : ℕ) → IsOutsideLog sizes b → sees b ≡ see b) where
  module _ (c : ℕ) (v : List ℕ) (is : new ≡ set disk c v) (on_disk : c < length disk) (no_super : c ≢ 1) where
    pub at_write : block_at new c ≡ v
    at_write = ap (λ (d : List (List ℕ)). block_at d c) is ∙ block_at-set_same disk c v on_disk

    pub at_others : (b : ℕ) → b ≢ c → block_at new b ≡ block_at disk b
    at_others b ne = ap (λ (d : List (List ℕ)). block_at d b) is ∙ block_at-set_other disk c b v ne

    pub sizes_stay : sizes_of new ≡ sizes
    sizes_stay = ap (λ (d : List (List ℕ)). sizes_of d) is ∙ sizes_of-set disk c v no_super ∙ placed.sizes_are

    pub length_stays : length new ≡ length disk
    length_stays = ap (λ (d : List (List ℕ)). length d) is ∙ length-set disk c v

    pub place_stays : IsPlaced new sizes
    place_stays = record {
      sizes_are = sizes_stay;
      behind = placed.behind;
      some = placed.some;
      within = (let e = length_stays in omega (arith, e, placed.within));
      counted = (let e = length_stays in omega (arith, e, placed.counted));
      is_super = ap (λ (bytes : List ℕ). u32_at bytes 0) (at_others 1 (λ e. no_super (sym e))) ∙ placed.is_super;
      inodes = placed.inodes;
      sized = (let e = length_stays in omega (arith, e, placed.sized));
    }

    pub homes_stay : (b : ℕ) → IsHome disk sizes b → IsHome new sizes b
    homes_stay b home = record { outside = home.outside; no_super = home.no_super; within = (let e = length_stays in omega (arith, e, home.within)); front = home.front; sized = home.sized }

    pub head_stays : c ≢ sizes.logstart → logged new ≡ logged disk
    head_stays ne = ap (λ (d : List (List ℕ)). logged d) is ∙ logged-set disk c v no_super (λ e. ne (e ∙ ap (λ (s : Super). s.logstart) placed.sizes_are))

    pub head_written : (ks : List ℕ) → c ≡ sizes.logstart → v ≡ head_block ks → length ks ≤ 255 → AllByRecursion (λ b. b < 2 ^ 32) ks → logged new ≡ ks
    unfolding head_block
    head_written ks at bytes short small =
        logged-written new ks (replicate 1024 0) (ap (λ (s : Super). block_at new s.logstart) sizes_stay ∙ ap (λ (b : ℕ). block_at new b) (sym at) ∙ at_write ∙ bytes) short small

  module _ (room : length group < sizes.nlog) (homes : (k : ℕ) → k < length group → IsHome disk sizes (get_or group k 0)) where
    pub copied : (i : ℕ) → i < length group → new ≡ set disk (sizes.logstart + 1 + i) (see (get_or group i 0)) → DiskFits sizes disk see group (Staging i)
        → DiskFits sizes new sees group (Staging (i + 1))
    copied i lt is fits =
        let c = sizes.logstart + 1 + i in
        let v = see (get_or group i 0) in
        let w = placed.within in
        let h = placed.behind in
        let on_disk : c < length disk = omega (arith, w, room, lt) in
        let no_super : c ≢ 1 = (λ e. absurd (omega (arith, h, e))) in (
          omega (arith, lt),
          head_stays c v is on_disk no_super (λ e. absurd (omega (arith, e))) ∙ fits.1,
          λ b out none. at_others c v is on_disk no_super b (not_inside sizes b c out (omega arith) (omega (arith, room, lt))) ∙ fits.2 b out none ∙ sym (same b out),
          λ k below. elim (cases_eq k i) [
            | inl e ↦ ap (λ j. block_at new (sizes.logstart + 1 + j)) e ∙ at_write c v is on_disk no_super ∙ ap (λ j. see (get_or group j 0)) (sym e) ∙ sym (same (get_or group k 0) (homes k (omega (arith, e, lt))).outside)
            | inr ne ↦ at_others c v is on_disk no_super (sizes.logstart + 1 + k) (λ e. ne (omega (arith, e))) ∙ fits.3 k (omega (arith, below, ne)) ∙ sym (same (get_or group k 0) (homes k (omega (arith, below, lt))).outside)
          ],
        )

    pub headed : new ≡ set disk sizes.logstart (head_block group) → length group ≤ 255 → DiskFits sizes disk see group (Staging (length group)) → DiskFits sizes new sees group (Installing 0)
    headed is short fits =
        let c = sizes.logstart in
        let v = head_block group in
        let w = placed.within in
        let h = placed.behind in
        let on_disk : c < length disk = omega (arith, w, room) in
        let no_super : c ≢ 1 = (λ e. absurd (omega (arith, h, e))) in (
          omega arith,
          head_written c v is on_disk no_super group refl refl short (small_numbers group (length disk) placed.counted (λ k lt. (homes k lt).within)),
          λ b out none. at_others c v is on_disk no_super b (not_inside sizes b c out (omega arith) (omega (arith, room))) ∙ fits.2 b out none ∙ sym (same b out),
          λ k below. at_others c v is on_disk no_super (sizes.logstart + 1 + k) (λ e. absurd (omega (arith, e))) ∙ fits.3 k below ∙ sym (same (get_or group k 0) (homes k below).outside),
        )

    pub went_home : (i : ℕ) → i < length group → new ≡ set disk (get_or group i 0) (see (get_or group i 0)) → DiskFits sizes disk see group (Installing i)
        → DiskFits sizes new sees group (Installing (i + 1))
    went_home i lt is fits =
        let c = get_or group i 0 in
        let v = see c in
        let home = homes i lt in
        let apart : (k : ℕ) → k < sizes.nlog → c ≢ sizes.logstart + k = (λ k below. not_inside sizes c (sizes.logstart + k) home.outside (omega arith) (omega (arith, below))) in (
          omega (arith, lt),
          head_stays c v is home.within home.no_super (λ e. apart 0 (omega (arith, room)) (e ∙ sym (add-zero sizes.logstart))) ∙ fits.1,
          λ b out none. elim (cases_eq b c) [
            | inl e ↦ ap (block_at new) e ∙ at_write c v is home.within home.no_super ∙ ap see (sym e) ∙ sym (same b out)
            | inr ne ↦ at_others c v is home.within home.no_super b ne
                ∙ fits.2 b out (λ k le below. elim (cases_eq k i) [
                  | inl e ↦ λ at. ne (sym at ∙ ap (λ j. get_or group j 0) e)
                  | inr more ↦ none k (omega (arith, le, more)) below
                ])
                ∙ sym (same b out)
          ],
          λ k below. at_others c v is home.within home.no_super (sizes.logstart + 1 + k) (λ e. apart (1 + k) (omega (arith, room, below)) (sym e ∙ omega arith)) ∙ fits.3 k below ∙ sym (same (get_or group k 0) (homes k below).outside),
        )

    pub cleared : new ≡ set disk sizes.logstart (head_block []) → DiskFits sizes disk see group (Installing (length group)) → DiskFits sizes new sees [] Open
    cleared is fits =
        let c = sizes.logstart in
        let v = head_block [] in
        let w = placed.within in
        let h = placed.behind in
        let on_disk : c < length disk = omega (arith, w, room) in
        let no_super : c ≢ 1 = (λ e. absurd (omega (arith, h, e))) in (
          head_written c v is on_disk no_super [] refl refl (omega arith) tt,
          λ b out none. at_others c v is on_disk no_super b (not_inside sizes b c out (omega arith) (omega (arith, room))) ∙ fits.2 b out (λ k le below. absurd (omega (arith, le, below))) ∙ sym (same b out),
        )

    -- ---- the recovered disk

    pub copied_recovered : (i b : ℕ) → i < length group → new ≡ set disk (sizes.logstart + 1 + i) (see (get_or group i 0)) → IsOutsideLog sizes b
        → DiskFits sizes disk see group (Staging i) → recovered new b ≡ recovered disk b
    copied_recovered i b lt is out fits =
        let c = sizes.logstart + 1 + i in
        let v = see (get_or group i 0) in
        let w = placed.within in
        let h = placed.behind in
        let on_disk : c < length disk = omega (arith, w, room, lt) in
        let no_super : c ≢ 1 = (λ e. absurd (omega (arith, h, e))) in
        recovered-empty new b (head_stays c v is on_disk no_super (λ e. absurd (omega (arith, e))) ∙ fits.1)
        ∙ at_others c v is on_disk no_super b (not_inside sizes b c out (omega arith) (omega (arith, room, lt)))
        ∙ sym (recovered-empty disk b fits.1)

    pub headed_recovered : (b : ℕ) → new ≡ set disk sizes.logstart (head_block group) → length group ≤ 255 → IsOutsideLog sizes b → DiskFits sizes disk see group (Staging (length group))
        → recovered new b ≡ see b
    headed_recovered b is short out fits =
        let w = placed.within in
        let h = placed.behind in
        let on_disk : sizes.logstart < length disk = omega (arith, w, room) in
        let no_super : sizes.logstart ≢ 1 = (λ e. absurd (omega (arith, h, e))) in
        installing_is_seen sizes new sees group 0 b (sizes_stay sizes.logstart (head_block group) is on_disk no_super) out (headed is short fits) ∙ same b out

    pub home_recovered : (i b : ℕ) → i < length group → new ≡ set disk (get_or group i 0) (see (get_or group i 0)) → IsOutsideLog sizes b → DiskFits sizes disk see group (Installing i)
        → recovered new b ≡ recovered disk b
    home_recovered i b lt is out fits =
        let home = homes i lt in
        installing_is_seen sizes new sees group (i + 1) b (sizes_stay (get_or group i 0) (see (get_or group i 0)) is home.within home.no_super) out (went_home i lt is fits)
        ∙ same b out
        ∙ sym (installing_is_seen sizes disk see group i b placed.sizes_are out fits)

    pub cleared_recovered : (b : ℕ) → new ≡ set disk sizes.logstart (head_block []) → IsOutsideLog sizes b → DiskFits sizes disk see group (Installing (length group))
        → recovered new b ≡ recovered disk b
    cleared_recovered b is out fits =
        let after = cleared is fits in
        recovered-empty new b after.0
        ∙ after.1 b out (λ k le lt. absurd (omega (arith, lt)))
        ∙ same b out
        ∙ sym (installing_is_seen sizes disk see group (length group) b placed.sizes_are out fits)
