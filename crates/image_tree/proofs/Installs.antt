-- Copies going home.
use Rattle.image_tree.proofs.Vocabulary.{◌≡◌, ◌≢◌, ◌⊎◌, inl, inr, ℕ, ◌+◌, ◌<◌, ◌≤◌, ◌^◌, List, [], length, get_or, set, replicate, refl, sym, ◌∙◌, ap, subst, arith, cases_eq, length-set, Super, block_at, sizes_of, log_count, log_head_at, logged, recovered, IsOutsideLog, u32_at, block_at-set_same, block_at-set_other, sizes_of-set, logged-set, logged-empty, recovered-empty, recovered-copy, recovered-own, first_copy, IsFirstCopy, Layout, IsLayout, block_len}
use Rattle.image_tree.proofs.Layouts.{length-logged}

-- the log is on the disk and has room for the blocks that it names: blocks of the disk after it, each once
pub record IsReady (d : List (List ℕ)) (sizes : Super) (ks : List ℕ) : Type 0 where
  pub sizes_are : sizes_of d ≡ sizes
  pub named : logged d ≡ ks
  pub behind : 2 ≤ sizes.logstart
  pub room : length ks < sizes.nlog
  pub within : sizes.logstart + sizes.nlog ≤ length d
  pub counted : sizes.logstart + sizes.nlog < 2 ^ 32
  pub outside : (k : ℕ) → k < length ks → sizes.logstart + sizes.nlog ≤ get_or ks k 0
  pub on_disk : (k : ℕ) → k < length ks → get_or ks k 0 < length d
  pub once : (j k : ℕ) → j < k → k < length ks → get_or ks j 0 ≢ get_or ks k 0

-- the first i of these are home: what the log has and what the disk has make f
pub record Installed (d : List (List ℕ)) (sizes : Super) (f : ℕ → List ℕ) (ks : List ℕ) (size i : ℕ) : Type 0 where
  pub sizes_are : sizes_of d ≡ sizes
  pub long : length d ≡ size
  pub head : logged d ≡ ks
  pub copies : (k : ℕ) → k < length ks → block_at d (sizes.logstart + 1 + k) ≡ f (get_or ks k 0)
  pub clean : (b : ℕ) → IsOutsideLog sizes b → ((k : ℕ) → i ≤ k → k < length ks → get_or ks k 0 ≢ b) → block_at d b ≡ f b

not_inside : (sizes : Super) (b c : ℕ) → IsOutsideLog sizes b → sizes.logstart ≤ c → c < sizes.logstart + sizes.nlog → b ≢ c
not_inside sizes b c out from to e = elim out [ inl lt ↦ omega arith | inr le ↦ omega arith ]

pub installed_first : (d : List (List ℕ)) (sizes : Super) (ks : List ℕ) → IsReady d sizes ks → Installed d sizes (recovered d) ks (length d) 0
installed_first d sizes ks ready = record {
  sizes_are = ready.sizes_are;
  long = refl;
  head = ready.named;
  copies = λ k lt.
      let named : (l : List ℕ) → l ≡ ks → IsFirstCopy l (get_or ks k 0) k = (λ l e. record {
        within = subst (λ (x : List ℕ). k < length x) (sym e) lt;
        is = ap (λ (x : List ℕ). get_or x k 0) e;
        before = λ j below same. ready.once j k below lt (sym (ap (λ (x : List ℕ). get_or x j 0) e) ∙ same);
      }) in
      sym (recovered-copy d (get_or ks k 0) k (named (logged d) ready.named) ∙ ap (λ (s : Super). block_at d (s.logstart + 1 + k)) ready.sizes_are);
  clean = λ b out none. sym (recovered-own d b (λ k lt. subst (λ (l : List ℕ). (k : ℕ) → k < length l → get_or l k 0 ≢ b) (sym ready.named) (λ k lt. none k (omega arith) lt) k lt));
}

pub installed_recovered : (d : List (List ℕ)) (sizes : Super) (f : ℕ → List ℕ) (ks : List ℕ) (size i : ℕ) → Installed d sizes f ks size i → (b : ℕ) → IsOutsideLog sizes b → recovered d b ≡ f b
installed_recovered d sizes f ks size i at b out = elim (first_copy (logged d) b) [
  | inl c ↦
      let within : c.0 < length ks = subst (λ (l : List ℕ). c.0 < length l) at.head c.1.within in
      let is : get_or ks c.0 0 ≡ b = subst (λ (l : List ℕ). get_or l c.0 0 ≡ b) at.head c.1.is in
      recovered-copy d b c.0 c.1 ∙ ap (λ (s : Super). block_at d (s.logstart + 1 + c.0)) at.sizes_are ∙ at.copies c.0 within ∙ ap f is
  | inr none ↦
      recovered-own d b none
      ∙ at.clean b out (λ k le lt. subst (λ (l : List ℕ). (k : ℕ) → k < length l → get_or l k 0 ≢ b) at.head none k lt)
]

no_numbers : (head : List ℕ) → head ≡ replicate block_len 0 → u32_at head 0 ≡ 0
unfolding u32_at
no_numbers head e = ap (λ (b : List ℕ). u32_at b 0) e

module _ (d0 : List (List ℕ)) (sizes : Super) (ks : List ℕ) (ready : IsReady d0 sizes ks) (f : ℕ → List ℕ) where
  outside_of : (k : ℕ) → k < length ks → IsOutsideLog sizes (get_or ks k 0)
  outside_of k lt = inr (ready.outside k lt)

  pub installed_next : (d e : List (List ℕ)) (i : ℕ) → i < length ks → e ≡ set d (get_or ks i 0) (block_at d (sizes.logstart + 1 + i)) → Installed d sizes f ks (length d0) i → Installed e sizes f ks (length d0) (i + 1)
  installed_next d e i lt is at =
      let c = get_or ks i 0 in
      let v = block_at d (sizes.logstart + 1 + i) in
      let far = ready.outside i lt in
      let near = ready.behind in
      let some = ready.room in
      let on_disk : c < length d = (let l = at.long in let h = ready.on_disk i lt in omega (arith, l, h)) in
      let no_super : c ≢ 1 = (λ x. absurd (omega (arith, far, near, x))) in
      let no_head : c ≢ (sizes_of d).logstart = (λ x. let y : c ≡ sizes.logstart = x ∙ ap (λ (s : Super). s.logstart) at.sizes_are in absurd (omega (arith, far, some, y))) in
      let others : (b : ℕ) → b ≢ c → block_at e b ≡ block_at d b = (λ b ne. ap (λ (x : List (List ℕ)). block_at x b) is ∙ block_at-set_other d c b v ne) in
      record {
        sizes_are = ap sizes_of is ∙ sizes_of-set d c v no_super ∙ at.sizes_are;
        long = ap (λ (x : List (List ℕ)). length x) is ∙ length-set d c v ∙ at.long;
        head = ap logged is ∙ logged-set d c v no_super no_head ∙ at.head;
        copies = λ k below. others (sizes.logstart + 1 + k) (λ x. absurd (omega (arith, far, some, below, x))) ∙ at.copies k below;
        clean = λ b out none. elim (cases_eq b c) [
          | inl x ↦ ap (block_at e) x ∙ ap (λ (y : List (List ℕ)). block_at y c) is ∙ block_at-set_same d c v on_disk ∙ at.copies i lt ∙ ap f (sym x)
          | inr ne ↦ others b ne ∙ at.clean b out (λ k le below. elim (cases_eq k i) [
            | inl x ↦ λ same. ne (sym same ∙ ap (λ (j : ℕ). get_or ks j 0) x)
            | inr more ↦ none k (omega (arith, le, more)) below
          ])
        ];
      }

  -- the disk after the head was cleared
  pub record Cleared (e : List (List ℕ)) : Type 0 where
    pub sizes_are : sizes_of e ≡ sizes
    pub empty : logged e ≡ []
    pub home : (b : ℕ) → IsOutsideLog sizes b → block_at e b ≡ f b

  pub cleared : (d e : List (List ℕ)) (i : ℕ) → length ks ≤ i → e ≡ set d sizes.logstart (replicate block_len 0) → Installed d sizes f ks (length d0) i → Cleared e
  cleared d e i le is at =
      let c = sizes.logstart in
      let near = ready.behind in
      let w = ready.within in
      let some = ready.room in
      let v : List ℕ = replicate block_len 0 in
      let on_disk : c < length d = (let l = at.long in omega (arith, l, w, some)) in
      let no_super : c ≢ 1 = (λ x. absurd (omega (arith, near, x))) in
      let sizes_are : sizes_of e ≡ sizes = ap sizes_of is ∙ sizes_of-set d c v no_super ∙ at.sizes_are in
      let head : log_head_at e ≡ v = ap (λ (s : Super). block_at e s.logstart) sizes_are ∙ ap (λ (x : List (List ℕ)). block_at x c) is ∙ block_at-set_same d c v on_disk in
      record {
        sizes_are = sizes_are;
        empty = logged-empty e (no_numbers (log_head_at e) head);
        home = λ b out. ap (λ (x : List (List ℕ)). block_at x b) is ∙ block_at-set_other d c b v (not_inside sizes b c out (omega arith) (omega (arith, some))) ∙ at.clean b out (λ k from below. absurd (omega (arith, le, from, below)));
      }

  pub cleared_recovered : (e : List (List ℕ)) → Cleared e → (b : ℕ) → IsOutsideLog sizes b → recovered e b ≡ f b
  cleared_recovered e done b out = recovered-empty e b done.empty ∙ done.home b out

  -- ---- what a write that failed may leave

  pub stopped_copy : (d e : List (List ℕ)) (i : ℕ) → i < length ks → Installed d sizes f ks (length d0) i → (e ≡ d) ⊎ (e ≡ set d (get_or ks i 0) (block_at d (sizes.logstart + 1 + i)))
      → ((b : ℕ) → IsOutsideLog sizes b → recovered e b ≡ f b) × (sizes_of e ≡ sizes)
  stopped_copy d e i lt at may = elim may [
    | inl same ↦ (λ b out. ap (λ (x : List (List ℕ)). recovered x b) same ∙ installed_recovered d sizes f ks (length d0) i at b out, ap sizes_of same ∙ at.sizes_are)
    | inr is ↦ let next = installed_next d e i lt is at in (installed_recovered e sizes f ks (length d0) (i + 1) next, next.sizes_are)
  ]

  pub stopped_clear : (d e : List (List ℕ)) (i : ℕ) → length ks ≤ i → Installed d sizes f ks (length d0) i → (e ≡ d) ⊎ (e ≡ set d sizes.logstart (replicate block_len 0))
      → ((b : ℕ) → IsOutsideLog sizes b → recovered e b ≡ f b) × (sizes_of e ≡ sizes)
  stopped_clear d e i le at may = elim may [
    | inl same ↦ (λ b out. ap (λ (x : List (List ℕ)). recovered x b) same ∙ installed_recovered d sizes f ks (length d0) i at b out, ap sizes_of same ∙ at.sizes_are)
    | inr is ↦ let done = cleared d e i le is at in (cleared_recovered e done, done.sizes_are)
  ]

-- ---- a layout that passed the checks

pub ready_of : (d : List (List ℕ)) (layout : Layout) → IsLayout d layout → IsReady d layout.sizes layout.head.blocks.items
ready_of d layout is =
    let good = is.good.0.0.1.1 in
    let size = is.good.0.1 in
    let log = is.good.1 in
    let count : length layout.head.blocks.items ≡ log_count d = ap length is.blocks ∙ length-logged d in
    let nlog : layout.sizes.nlog ≡ (sizes_of d).nlog = ap (λ (s : Super). s.nlog) is.sizes in
    let start : layout.sizes.logstart ≡ (sizes_of d).logstart = ap (λ (s : Super). s.logstart) is.sizes in
    let inside : (k : ℕ) → k < length layout.head.blocks.items → ((sizes_of d).inodestart ≤ get_or layout.head.blocks.items k 0) × (get_or layout.head.blocks.items k 0 < (sizes_of d).size) =
    (λ k lt. subst (λ (l : List ℕ). (k : ℕ) → k < length l → ((sizes_of d).inodestart ≤ get_or l k 0) × (get_or l k 0 < (sizes_of d).size)) (sym is.blocks) (λ k lt. log.within k 0 lt) k lt) in
    record {
      sizes_are = sym is.sizes;
      named = sym is.blocks;
      behind = omega (arith, good.logstart, start);
      room = omega (arith, count, log.count, good.nlog, nlog);
      within = omega (arith, good.log, good.inodes, good.bitmap, size, start, nlog);
      counted = omega (arith, good.log, good.inodes, good.bitmap, good.size, start, nlog);
      outside = λ k lt. let i = inside k lt in omega (arith, i.0, good.log, start, nlog);
      on_disk = λ k lt. let i = inside k lt in omega (arith, i.1, size);
      once = λ j k lt below. subst (λ (l : List ℕ). (j k : ℕ) → j < k → k < length l → get_or l j 0 ≢ get_or l k 0) (sym is.blocks) (λ j k lt below. log.once.apart j k 0 lt below) j k lt below;
    }
