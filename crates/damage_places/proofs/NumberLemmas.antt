-- Lists of numbers, and their elements.
use Rattle.image_tree.proofs.Vocabulary.{All, Bool, Contains, Contains-append_left, Contains-push, Dinode, IsData, IsLayout, List, None, Some, Super, Version, [], ap, arith, cond, drop, eq-eqb, eqb, false, false≢true, filter, filter-append, filter_more, flat_map, get_or, get_or_append_left, get_or_default, inode_of, is_block, is_free, length, length-append, log_head_of, magic_of, numbers_by, numbers_of, numbers_per_block, refl, sizes_of, subst, super_fields, super_of, sym, take, take-append-drop, true, u32_at, u32s_at, ℕ, ◌+◌, ◌++◌, ◌<◌, ◌∙◌, ◌∷◌, ◌≡◌, ◌≢◌, ◌≤◌}
use Rattle.image_tree.specs.declared.disk.Layout.{Layout}
use Rattle.std.proofs.Common.{leb, le-leb}
use Rattle.fs_layout.proofs.Words.{get_or-u32s_at}
use Rattle.image_tree.proofs.NumberLists.{numbers_by_used}
use Rattle.image_tree.proofs.MarkLemmas.{kept_other}
use Rattle.image_tree.proofs.SlotNumbers.{flat_more, flat_split}
use Rattle.damage_places.specs.Places.{IsFaultOf, IsFirstAt}
use Rattle.damage_places.specs.declared.place.Check.TheVariants as checks
use Rattle.damage_places.specs.declared.place.InodeFault.TheVariants as faults

-- the first number of a block
pub first_number : (block : List ℕ) → get_or (u32s_at numbers_per_block block 0) 0 0 ≡ u32_at block 0
first_number block = get_or-u32s_at 256 block 0 0 (omega arith)

none_from : {T : Type 0} (b : Bool) (x : T) → cond b (Some x) None ≡ None → b ≡ false
none_from true x h = cc
none_from false x h = refl

-- a block that is no superblock of this version begins with another number
pub other_magic : (v : Version) (block : List ℕ) → super_of v block ≡ None → u32_at block 0 ≢ magic_of v
other_magic v block h e = false≢true (sym (none_from (eqb (u32_at block 0) (magic_of v)) (super_fields block) h) ∙ eq-eqb _ _ e)

-- a block that is no log's head names too many blocks
pub no_room : (block : List ℕ) → log_head_of block ≡ None → u32_at block 0 ≤ 255 → ⊥
no_room block h small = false≢true (sym (none_from (leb (u32_at block 0) 255) _ h) ∙ le-leb _ _ small)

-- ---- lists

pub none_of : {X : Type 0} (xs : List X) (b : X) → All (λ x. x ≢ b) xs → Contains xs b → ⊥
none_of xs b all has = all has.0 b has.1 has.2

pub contains_at : {X A : Type 0} (f : X → List A) (xs : List X) (i : ℕ) (d : X) (y : A) → i < length xs → f (get_or xs i d) ≡ y ∷ [] → Contains (flat_map f xs) y
contains_at f xs i d y h e =
    let front : Contains (flat_map f (take (i + 1) xs)) y =
    subst (λ ys. Contains ys y) (sym (flat_more f xs i d h ∙ ap (λ ys. flat_map f (take i xs) ++ ys) e)) (Contains-push (flat_map f (take i xs)) y) in
    subst (λ ys. Contains ys y) (sym (flat_split f xs (i + 1))) (Contains-append_left (flat_map f (take (i + 1) xs)) (flat_map f (drop (i + 1) xs)) y front)

-- a number that isn't 0 is kept
pub contains_filter : (xs : List ℕ) (b : ℕ) → b ≢ 0 → Contains xs b → Contains (filter is_block xs) b
contains_filter xs b ne (k, l, e) =
    let at : get_or xs k 0 ≡ b = get_or_default xs k 0 b l ∙ e in
    let kept : filter is_block (take (k + 1) xs) ≡ filter is_block (take k xs) ++ b ∷ [] =
    filter_more is_block xs k 0 l ∙ ap (λ (n : ℕ). filter is_block (take k xs) ++ filter is_block (n ∷ [])) at ∙ kept_other (filter is_block (take k xs)) b ne in
    let front : Contains (filter is_block (take (k + 1) xs)) b = subst (λ (ys : List ℕ). Contains ys b) (sym kept) (Contains-push (filter is_block (take k xs)) b) in
    let whole : filter is_block xs ≡ filter is_block (take (k + 1) xs) ++ filter is_block (drop (k + 1) xs) =
    ap (filter is_block) (sym (take-append-drop (k + 1) xs)) ∙ filter-append is_block (take (k + 1) xs) (drop (k + 1) xs) in
    subst (λ (ys : List ℕ). Contains ys b) (sym whole) (Contains-append_left _ _ b front)

-- ---- first places

first_front : (P : ℕ → Type 0) (xs ys : List ℕ) (k : ℕ) → IsFirstAt P xs k → (get_or xs k 0 ≡ get_or (xs ++ ys) k 0) × IsFirstAt P (xs ++ ys) k
first_front P xs ys k h =
    let at : (j : ℕ) → j < length xs → get_or (xs ++ ys) j 0 ≡ get_or xs j 0 = λ j l. get_or_append_left xs ys 0 j l in
    let w = h.within in (
      sym (at k w),
      record {
        within = omega (arith, length-append xs ys);
        bad = λ good. h.bad (subst P (at k w) good);
        before = λ j l. subst P (sym (at j (omega arith))) (h.before j l);
      },
    )

module _ (disk : List (List ℕ)) (layout : Layout) (i : ℕ) (d : Dinode) (h : IsLayout disk layout) (is : d ≡ inode_of disk i) (used : is_free d ≡ false) where
  here : (k : ℕ) → IsFirstAt (λ b. b ≢ 0 → IsData layout.sizes b) (numbers_of disk d) k
      → IsFaultOf layout.version disk i checks.Numbers (faults.Outside k (get_or (numbers_of disk d) k 0))
  here k first =
      let e : numbers_of disk d ≡ numbers_by disk i = sym (numbers_by_used disk i d is used) in (
        ap (λ (xs : List ℕ). get_or xs k 0) e,
        subst (λ (xs : List ℕ). IsFirstAt (λ b. b ≢ 0 → IsData (sizes_of disk) b) xs k) e
            (subst (λ (s : Super). IsFirstAt (λ b. b ≢ 0 → IsData s b) (numbers_of disk d) k) h.sizes first),
      )

  pub outside_any : (numbers : List ℕ) (k : ℕ) → numbers ≡ numbers_of disk d → IsFirstAt (λ b. b ≢ 0 → IsData layout.sizes b) numbers k
      → IsFaultOf layout.version disk i checks.Numbers (faults.Outside k (get_or numbers k 0))
  outside_any numbers k e first =
      subst (λ (xs : List ℕ). IsFaultOf layout.version disk i checks.Numbers (faults.Outside k (get_or xs k 0))) (sym e)
      (here k (subst (λ (xs : List ℕ). IsFirstAt (λ b. b ≢ 0 → IsData layout.sizes b) xs k) e first))

  pub outside_direct : (k : ℕ) → IsFirstAt (λ b. b ≢ 0 → IsData layout.sizes b) d.addrs k
      → IsFaultOf layout.version disk i checks.Numbers (faults.Outside k (get_or d.addrs k 0))
  unfolding numbers_of
  outside_direct k first =
      let front = first_front (λ b. b ≢ 0 → IsData layout.sizes b) d.addrs _ k first in
      subst (λ (n : ℕ). IsFaultOf layout.version disk i checks.Numbers (faults.Outside k n)) (sym front.0) (here k front.1)
