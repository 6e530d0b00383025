-- The tables of who names whom.
use Rattle.image_tree.proofs.Vocabulary.{Version, ◌≡◌, ◌∙◌, ap, sym, refl, subst, ℕ, zero, suc, ◌+◌, ◌-◌, ◌<◌, ◌≤◌, false, not, eqb, List, [], ◌∷◌, ◌++◌, length, get_or, filter, drop, arith, ⊎_elim, Option, None, Vec, vec_len, with_items, get_or_past, with_items_is, filter_agree, false_from_ne_true, cases_lt, Dirent, sizes_of, gathered, is_live_directory, last, slots_in, slot_numbers, number_in, up, further_in, proper_in, parent_of, Tallies, IsUpTable, Layout, IsLayout}
use Rattle.image_tree.proofs.Gathered.{gathered-more, gathered-none}
use Rattle.image_tree.proofs.Nodes.{directory_is}

slots_in_none : (v : Version) (disk : List (List ℕ)) (i : ℕ) → is_live_directory disk i ≡ false → slots_in v disk i ≡ []
unfolding slots_in
slots_in_none v disk i h = rw h refl

pub up_none : (v : Version) (disk : List (List ℕ)) (i : ℕ) → is_live_directory disk i ≡ false → up v disk i ≡ 0
up_none v disk i h = ap (λ (slots : List (Option Dirent)). number_in (get_or slots 1 None)) (slots_in_none v disk i h)

pub no_directory_zero : (disk : List (List ℕ)) → is_live_directory disk 0 ≡ false
unfolding is_live_directory
no_directory_zero disk = refl

pub up-one : (v : Version) (disk : List (List ℕ)) (before after : List ℕ) → before ≡ [] → after ≡ before ++ 0 ∷ []
    → (length after ≡ 1) × ((k : ℕ) → k < 1 → get_or after k 0 ≡ up v disk k)
up-one v disk before after none e =
    let is : after ≡ 0 ∷ [] = e ∙ ap (λ (xs : List ℕ). xs ++ 0 ∷ []) none in (
      ap length is,
      λ k l.
          let z : k ≡ 0 = omega arith in
          ap (λ (xs : List ℕ). get_or xs k 0) is ∙ ap (λ (n : ℕ). get_or (0 ∷ []) n 0) z ∙ sym (up_none v disk 0 (no_directory_zero disk)) ∙ ap (up v disk) (sym z),
    )

pub up_table_is : (disk : List (List ℕ)) (layout : Layout) (i : ℕ) (ups : List ℕ) → IsLayout disk layout → layout.sizes.ninodes ≡ i → length ups ≡ i
    → ((k : ℕ) → k < i → get_or ups k 0 ≡ up layout.version disk k) → IsUpTable layout.version disk ups
up_table_is disk layout i ups h all l says =
    let s = h.sizes in
    let n : layout.sizes.ninodes ≡ (sizes_of disk).ninodes = rw s refl in
    record {
      says = λ k.
          ⊎_elim
          (λ (p : k < i). says k p)
          (λ (p : i ≤ k).
          get_or_past ups k 0 (omega arith)
          ∙ sym (up_none layout.version disk k (false_from_ne_true (is_live_directory disk k) (λ t. let b = (directory_is disk k t).bound in absurd (omega arith)))))
          (cases_lt k i);
      length = omega arith;
    }

-- the count of one more inode's numbers
pub tallies_more : (f : ℕ → List ℕ) (table : List ℕ) (i : ℕ) (xs : List ℕ) → 1 ≤ i → xs ≡ f i → Tallies table (gathered f (i - 1) ++ xs) → Tallies table (gathered f (i + 1 - 1))
tallies_more f table i xs low is t =
    subst (Tallies table) (ap (λ (ys : List ℕ). gathered f (i - 1) ++ ys) is ∙ sym (gathered-more f i low)) t

pub tallies_none : (f : ℕ → List ℕ) (table : List ℕ) → Tallies table [] → Tallies table (gathered f 0)
tallies_none f table t = subst (Tallies table) (sym (gathered-none f)) t

-- what the slots of inode i give, as they were loaded
pub named_loaded : (v : Version) (disk now : List (List ℕ)) (i : ℕ) (shown slots : List (Option Dirent)) → now ≡ disk → shown ≡ slots → slots ≡ slots_in v now i
    → slot_numbers shown ≡ slot_numbers (slots_in v disk i)
named_loaded v disk now i shown slots same e is = ap slot_numbers (e ∙ is ∙ ap (λ (d : List (List ℕ)). slots_in v d i) same)

pub further_loaded : (v : Version) (disk now : List (List ℕ)) (i : ℕ) (rest shown slots : List (Option Dirent)) → now ≡ disk → rest ≡ drop 2 shown → shown ≡ slots
    → slots ≡ slots_in v now i → slot_numbers rest ≡ further_in v disk i
further_loaded v disk now i rest shown slots same r e is =
    ap slot_numbers (r ∙ ap (drop 2) (e ∙ is ∙ ap (λ (d : List (List ℕ)). slots_in v d i) same))

pub proper_loaded : (v : Version) (disk now : List (List ℕ)) (i : ℕ) (ups : List ℕ) (rest shown slots : List (Option Dirent)) → IsUpTable v disk ups → now ≡ disk
    → rest ≡ drop 2 shown → shown ≡ slots → slots ≡ slots_in v now i → filter (λ n. eqb (get_or ups n 0) i) (slot_numbers rest) ≡ proper_in v disk i
proper_loaded v disk now i ups rest shown slots table same r e is =
    ap (filter (λ n. eqb (get_or ups n 0) i)) (further_loaded v disk now i rest shown slots same r e is)
    ∙ filter_agree (λ n. eqb (get_or ups n 0) i) (λ n. eqb (up v disk n) i) (λ n. ap (λ (k : ℕ). eqb k i) (table.says n)) (further_in v disk i)

gathered-same : (f g : ℕ → List ℕ) (n : ℕ) → ((i : ℕ) → f i ≡ g i) → gathered f n ≡ gathered g n
unfolding gathered
gathered-same f g zero h = refl
gathered-same f g (suc n) h = ap (λ (xs : List ℕ). xs ++ f (suc n)) (gathered-same f g n h) ∙ ap (λ (xs : List ℕ). gathered g n ++ xs) (h (suc n))

pub children_are : (v : Version) (disk : List (List ℕ)) (ups shown table : List ℕ) → IsUpTable v disk ups → shown ≡ ups
    → Tallies table (gathered (λ d. filter (λ n. not (eqb n d)) (get_or shown d 0 ∷ [])) (length shown - 1)) → Tallies table (gathered (parent_of v disk) (last disk))
children_are v disk ups shown table is same t =
    let f = λ (xs : List ℕ) (d : ℕ). filter (λ n. not (eqb n d)) (get_or xs d 0 ∷ []) in
    subst (Tallies table)
    (ap (λ (xs : List ℕ). gathered (f xs) (length xs - 1)) same
    ∙ ap (λ (n : ℕ). gathered (f ups) (n - 1)) is.length
    ∙ gathered-same (f ups) (parent_of v disk) (last disk) (λ d. ap (λ (u : ℕ). filter (λ n. not (eqb n d)) (u ∷ [])) (is.says d)))
    t

-- a table that was written through a borrow of its elements
pub table_kept : {Z : Type 0} (v : Vec ℕ Z) (lent written : List ℕ) (n : ℕ) → length written ≡ length lent → length lent ≡ vec_len v → length v.items ≡ n
    → ((with_items v written).items ≡ written) × (length written ≡ n)
table_kept v lent written n e l k = (with_items_is v written (e ∙ l), e ∙ l ∙ v.ok.0 ∙ k)

pub tallies_kept : {Z : Type 0} (v : Vec ℕ Z) (written xs : List ℕ) → (with_items v written).items ≡ written → Tallies written xs → Tallies (with_items v written).items xs
tallies_kept v written xs e t = subst (λ (ys : List ℕ). Tallies ys xs) (sym e) t

pub length_kept : {Z : Type 0} (v : Vec ℕ Z) (written : List ℕ) (n : ℕ) → (with_items v written).items ≡ written → length written ≡ n → length (with_items v written).items ≡ n
length_kept v written n e l = ap length e ∙ l
