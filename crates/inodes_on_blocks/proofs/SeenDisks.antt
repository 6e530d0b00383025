-- The disk as it is seen.
use Rattle.inodes_on_blocks.proofs.Vocabulary.{◌≡◌, ◌≢◌, ⊎_elim, ℕ, zero, suc, ◌+◌, ◌<◌, ◌≤◌, inl, inr, refl, sym, ◌∙◌, ap, subst, arith, List, [], ◌∷◌, ◌++◌, length, length-append, replicate, get_or, true, false, if◌then◌else◌, ◌⊎◌, nat_tests, All, cases_lt, get_or_past, get_or_append_left, length-replicate, All-nil, HasWholeBlocks, block_at, Super, u32_at, super_fields, log_head_at, log_count, logged, recovered, sizes_of, IsOutsideLog, logged-empty, recovered-empty, recovered-own, IsOnce, IsGoodSuper, HasGoodLog, UpToLog, IsWellFormed, tree_in, IsViewOf, once_nil, checks_see_recovered, trees_see_recovered, same_or, IsPut, is_in_log, seen_blocks, AreSeen, IsGoodSeen, AreSeenAlike, IsSeenPut, IsRecoveredSo, block_len, Version, magic_of, version_in}
use Rattle.image_tree.specs.Damage as damage
use Rattle.image_tree.specs.Trees as trees

-- ---- its blocks

-- what the seen disk has as block b
abbrev shown : Super → (ℕ → List ℕ) → ℕ → List ℕ
shown sizes see b = if is_in_log sizes b then replicate block_len 0 else see b

length_seen : (sizes : Super) (see : ℕ → List ℕ) (n : ℕ) → length (seen_blocks sizes see n) ≡ n
unfolding seen_blocks
length_seen sizes see zero = refl
length_seen sizes see (suc n) = omega (arith, length-append (seen_blocks sizes see n) (shown sizes see n ∷ []), length_seen sizes see n)

block_seen : (sizes : Super) (see : ℕ → List ℕ) (n b : ℕ) → b < n → block_at (seen_blocks sizes see n) b ≡ shown sizes see b
unfolding seen_blocks
block_seen sizes see zero b l = absurd (omega arith)
block_seen sizes see (suc n) b l = elim (same_or b n) [
  | inr ne ↦
      get_or_append_left (seen_blocks sizes see n) (shown sizes see n ∷ []) [] b (omega (arith, l, ne, length_seen sizes see n))
      ∙ block_seen sizes see n b (omega (arith, l, ne))
  | inl e ↦
      ap (block_at (seen_blocks sizes see n ++ shown sizes see n ∷ [])) e
      ∙ at_end (seen_blocks sizes see n) (shown sizes see n) n (length_seen sizes see n)
      ∙ ap (shown sizes see) (sym e)
]
  where
    at_end : (xs : List (List ℕ)) (x : List ℕ) (n : ℕ) → length xs ≡ n → block_at (xs ++ x ∷ []) n ≡ x
    at_end [] x n e = ap (block_at (x ∷ [])) (sym e)
    at_end (y ∷ xs) x zero e = absurd (omega (arith, e))
    at_end (y ∷ xs) x (suc n) e = at_end xs x n (omega (arith, e))

in_log : (sizes : Super) (b : ℕ) → sizes.logstart ≤ b → b < sizes.logstart + sizes.nlog → is_in_log sizes b ≡ true
in_log sizes b low high = grind (arith, nat_tests)

out_of_log : (sizes : Super) (b : ℕ) → IsOutsideLog sizes b → is_in_log sizes b ≡ false
out_of_log sizes b (inl low) = grind (arith, nat_tests)
out_of_log sizes b (inr high) = grind (arith, nat_tests)

-- a block is the log's or it isn't
either_side : (sizes : Super) (b : ℕ) → (is_in_log sizes b ≡ true) ⊎ IsOutsideLog sizes b
either_side sizes b =
    ⊎_elim
    (λ (l : b < sizes.logstart). inr (inl l))
    (λ (m : sizes.logstart ≤ b).
    ⊎_elim
    (λ (k : b < sizes.logstart + sizes.nlog). inl (in_log sizes b m k))
    (λ (k : sizes.logstart + sizes.nlog ≤ b). inr (inr k))
    (cases_lt b (sizes.logstart + sizes.nlog)))
    (cases_lt b sizes.logstart)

shown_log : (sizes : Super) (see : ℕ → List ℕ) (b : ℕ) → is_in_log sizes b ≡ true → shown sizes see b ≡ replicate block_len 0
shown_log sizes see b is = rw is refl

shown_out : (sizes : Super) (see : ℕ → List ℕ) (b : ℕ) → IsOutsideLog sizes b → shown sizes see b ≡ see b
shown_out sizes see b out = rw (out_of_log sizes b out) refl

shown_alike : (sizes : Super) (see now : ℕ → List ℕ) (b : ℕ) → (IsOutsideLog sizes b → now b ≡ see b) → shown sizes now b ≡ shown sizes see b
shown_alike sizes see now b same = elim (either_side sizes b) [
  | inl is ↦ shown_log sizes now b is ∙ sym (shown_log sizes see b is)
  | inr out ↦ shown_out sizes now b out ∙ same out ∙ sym (shown_out sizes see b out)
]

zeros_count : u32_at (replicate block_len 0) 0 ≡ 0
unfolding u32_at
zeros_count = refl

-- ---- it is good

module _ (sizes : Super) (see : ℕ → List ℕ) (n : ℕ) (these : AreSeen sizes see n) where
  abbrev disk : List (List ℕ)
  disk = seen_blocks sizes see n

  super_seen : block_at disk 1 ≡ see 1
  super_seen =
      let good = these.good in
      let start = good.logstart in
      let log = good.log in
      let inodes = good.inodes in
      let bitmap = good.bitmap in
      let sized = these.sized in
      block_seen sizes see n 1 (omega (arith, start, log, inodes, bitmap, sized)) ∙ shown_out sizes see 1 (inl (omega (arith, start)))

  pub seen_sizes : sizes_of disk ≡ sizes
  unfolding sizes_of
  seen_sizes = ap super_fields super_seen ∙ these.sizes_are

  version_seen : version_in disk ≡ sizes.version
  version_seen = ap (λ (s : Super). s.version) seen_sizes

  head_seen : log_head_at disk ≡ replicate block_len 0
  head_seen =
      let good = these.good in
      let nlog = good.nlog in
      let log = good.log in
      let inodes = good.inodes in
      let bitmap = good.bitmap in
      let sized = these.sized in
      ap (λ (s : Super). block_at disk s.logstart) seen_sizes
      ∙ block_seen sizes see n sizes.logstart (omega (arith, nlog, log, inodes, bitmap, sized))
      ∙ shown_log sizes see sizes.logstart (in_log sizes sizes.logstart (omega arith) (omega (arith, nlog)))

  none_counted : log_count disk ≡ 0
  none_counted = ap (λ (bytes : List ℕ). u32_at bytes 0) head_seen ∙ zeros_count

  pub none_logged : logged disk ≡ []
  none_logged = logged-empty disk none_counted

  pub seen_recovered : (b : ℕ) → recovered disk b ≡ block_at disk b
  seen_recovered b = recovered-empty disk b none_logged

  good_log : HasGoodLog disk
  good_log = record {
    count = omega (arith, none_counted);
    room = omega (arith, none_counted);
    within = subst (λ (xs : List ℕ). All (λ b. ((sizes_of disk).inodestart ≤ b) × (b < (sizes_of disk).size)) xs) (sym none_logged) (All-nil (λ b. ((sizes_of disk).inodestart ≤ b) × (b < (sizes_of disk).size)));
    once = subst IsOnce (sym none_logged) once_nil;
  }

  seen_whole : HasWholeBlocks disk
  seen_whole = λ k d l.
      let within : k < n = omega (arith, l, length_seen sizes see n) in
      ap length (any_block disk k d l ∙ block_seen sizes see n k within) ∙ whole_shown k within
    where
      any_block : (xs : List (List ℕ)) (k : ℕ) (d : List ℕ) → k < length xs → get_or xs k d ≡ block_at xs k
      any_block [] k d l = absurd (omega arith)
      any_block (x ∷ xs) zero d l = refl
      any_block (x ∷ xs) (suc k) d l = any_block xs k d (omega arith)

      whole_shown : (k : ℕ) → k < n → length (shown sizes see k) ≡ block_len
      whole_shown k within = elim (either_side sizes k) [
        | inl is ↦ ap length (shown_log sizes see k is) ∙ length-replicate {A = ℕ} block_len 0
        | inr out ↦ ap length (shown_out sizes see k out) ∙ these.whole k within out
      ]

  pub good_seen : IsGoodSeen sizes see n
  good_seen = record {
    sizes_are = seen_sizes;
    good = up_to_log;
    whole = seen_whole;
    blocks = λ b l out.
        seen_recovered b ∙ block_seen sizes see n b l ∙ shown_out sizes see b out;
  }
    where
      up_to_log : UpToLog disk
      up_to_log =
          let good = these.good in
          let log = good.log in
          let start = good.logstart in
          let inodes = good.inodes in
          let bitmap = good.bitmap in
          let sized = these.sized in
          let long = length_seen sizes see n in (
            (
              (omega (arith, long, start, log, inodes, bitmap, sized), (ap (λ (bytes : List ℕ). u32_at bytes 0) super_seen ∙ these.is_super ∙ ap magic_of (sym version_seen), subst IsGoodSuper (sym seen_sizes) these.good)),
              subst (λ (s : Super). s.size ≤ length disk) (sym seen_sizes) (omega (arith, long, sized)),
            ),
            good_log,
          )

-- ---- puts

module _ (sizes : Super) (see now : ℕ → List ℕ) (n b : ℕ) (these : AreSeen sizes see n) (put : IsSeenPut sizes see now b) where
  still_seen : AreSeen sizes now n
  still_seen =
      let super = put.others 1 (λ e. put.no_super (sym e)) in
      record {
        is_super = ap (λ (bytes : List ℕ). u32_at bytes 0) super ∙ these.is_super;
        sizes_are = ap super_fields super ∙ these.sizes_are;
        good = these.good;
        sized = these.sized;
        whole = λ c l out. elim (same_or c b) [
          | inl e ↦ ap (λ (k : ℕ). length (now k)) e ∙ put.whole
          | inr ne ↦ ap length (put.others c ne) ∙ these.whole c l out
        ];
      }

  other_shown : (c : ℕ) → c ≢ b → block_at (seen_blocks sizes now n) c ≡ block_at (seen_blocks sizes see n) c
  other_shown c ne =
      ⊎_elim
      (λ (l : c < n).
      block_seen sizes now n c l
      ∙ shown_alike sizes see now c (λ _. put.others c ne)
      ∙ sym (block_seen sizes see n c l))
      (λ (m : n ≤ c).
      get_or_past (seen_blocks sizes now n) c [] (omega (arith, m, length_seen sizes now n))
      ∙ sym (get_or_past (seen_blocks sizes see n) c [] (omega (arith, m, length_seen sizes see n))))
      (cases_lt c n)

  pub seen_put : AreSeen sizes now n × IsPut (seen_blocks sizes see n) (seen_blocks sizes now n) b
  seen_put = (
    still_seen,
    record {
      sizes = seen_sizes sizes now n still_seen ∙ sym (seen_sizes sizes see n these);
      others = λ c ne. seen_recovered sizes now n still_seen c ∙ other_shown c ne ∙ sym (seen_recovered sizes see n these c);
    },
  )

-- ---- what changes nothing

blocks_alike : (sizes : Super) (see now : ℕ → List ℕ) (n : ℕ) → AreSeenAlike sizes see now n → seen_blocks sizes now n ≡ seen_blocks sizes see n
unfolding seen_blocks
blocks_alike sizes see now zero alike = refl
blocks_alike sizes see now (suc n) alike =
    ap (λ (xs : List (List ℕ)). xs ++ shown sizes now n ∷ []) (blocks_alike sizes see now n (λ b l. alike b (omega arith)))
    ∙ ap (λ (x : List ℕ). seen_blocks sizes see n ++ x ∷ []) (shown_alike sizes see now n (alike n (omega arith)))

pub seen_stays : (sizes : Super) (see now : ℕ → List ℕ) (n : ℕ) → AreSeen sizes see n → AreSeenAlike sizes see now n
    → AreSeen sizes now n × (seen_blocks sizes now n ≡ seen_blocks sizes see n)
seen_stays sizes see now n these alike =
    let good = these.good in
    let start = good.logstart in
    let log = good.log in
    let inodes = good.inodes in
    let bitmap = good.bitmap in
    let sized = these.sized in
    let super : now 1 ≡ see 1 = alike 1 (omega (arith, start, log, inodes, bitmap, sized)) (inl (omega (arith, start))) in (
      record {
        is_super = ap (λ (bytes : List ℕ). u32_at bytes 0) super ∙ these.is_super;
        sizes_are = ap super_fields super ∙ these.sizes_are;
        good = these.good;
        sized = these.sized;
        whole = λ b l out. ap length (alike b l out) ∙ these.whole b l out;
      },
      blocks_alike sizes see now n alike,
    )

-- ---- a disk that recovery would leave so

-- past its end recovery leaves nothing, because the log names blocks of the disk
past_end : (disk : List (List ℕ)) (b : ℕ) → UpToLog disk → length disk ≤ b → recovered disk b ≡ []
past_end disk b good past =
    let sized = good.0.1 in
    recovered-own disk b (λ k l e. let within = (good.1.within k 0 l).1 in absurd (omega (arith, e, within, sized, past))) ∙ get_or_past disk b [] past

module _ (sizes : Super) (see : ℕ → List ℕ) (disk : List (List ℕ)) (these : AreSeen sizes see (length disk)) (so : IsRecoveredSo sizes see disk) where
  abbrev old : List (List ℕ)
  old = seen_blocks sizes see (length disk)

  same_recovered : (b : ℕ) → IsOutsideLog sizes b → recovered disk b ≡ recovered old b
  same_recovered b out =
      ⊎_elim
      (λ (l : b < length disk). so.blocks b l out ∙ sym ((good_seen sizes see (length disk) these).blocks b l out))
      (λ (m : length disk ≤ b).
      past_end disk b so.good m
      ∙ sym (seen_recovered sizes see (length disk) these b ∙ get_or_past old b [] (omega (arith, m, length_seen sizes see (length disk)))))
      (cases_lt b (length disk))

  same_version : version_in disk ≡ version_in old
  same_version = ap (λ (s : Super). s.version) so.sizes_are ∙ sym (version_seen sizes see (length disk) these)

  view : IsViewOf old disk
  view = record {
    sizes = so.sizes_are ∙ sym (seen_sizes sizes see (length disk) these);
    good = subst (λ (v : Version). damage.UpToLog v disk) same_version so.good;
    same = λ b out. same_recovered b (subst (λ (s : Super). IsOutsideLog s b) (seen_sizes sizes see (length disk) these) out);
  }

  view_back : IsViewOf disk old
  view_back = record {
    sizes = seen_sizes sizes see (length disk) these ∙ sym so.sizes_are;
    good = subst (λ (v : Version). damage.UpToLog v old) (sym same_version) (good_seen sizes see (length disk) these).good;
    same = λ b out. sym (same_recovered b (subst (λ (s : Super). IsOutsideLog s b) so.sizes_are out));
  }

  pub recovered_image : IsWellFormed old → IsWellFormed disk × (tree_in disk ≡ tree_in old)
  recovered_image well = (
    subst (λ (v : Version). damage.IsWellFormed v disk) (sym same_version) (checks_see_recovered (version_in old) old disk view well),
    ap (λ (v : Version). trees.tree_in v disk) same_version ∙ trees_see_recovered (version_in old) old disk view well,
  )

  pub image_seen : IsWellFormed disk → IsWellFormed old × (tree_in old ≡ tree_in disk)
  image_seen well = (
    subst (λ (v : Version). damage.IsWellFormed v old) same_version (checks_see_recovered (version_in disk) disk old view_back well),
    ap (λ (v : Version). trees.tree_in v old) (sym same_version) ∙ trees_see_recovered (version_in disk) disk old view_back well,
  )
