-- The tables at first, beside a world at rest.
use Rattle.inodes_on_blocks.proofs.Vocabulary.{◌≡◌, ◌≢◌, inl, inr, ℕ, zero, suc, ◌+◌, ◌<◌, ◌≤◌, ◌==◌, refl, sym, ◌∙◌, ap, arith, Option, Some, None, replicate, slice_get, same_Some, none-some, row_of, hart_count, root, Tree, any_below, one_if, sum_below, eq_self, eq_not, same_or, sum_none, sum_same, one_yes, one_no, Inode, fresh, fresh_desk, place_of, references_in, holder_in, holder_at, at_set, fresh_good, found, placed, at_rest, loaded, loaded_at, loaded_in, FreshTablesShow}
use Rattle.fs_machine.specs.declared.entries.Entry.{Entry}

there : {X : Type 0} (n k : ℕ) (x : X) → k < n → slice_get (replicate n x) k ≡ Some x
there zero k x lt = absurd (omega (arith, lt))
there (suc n) zero x lt = refl
there (suc n) (suc k) x lt = there n k x (omega (arith, lt))

same_there : {X : Type 0} (n k : ℕ) (x y : X) → slice_get (replicate n x) k ≡ Some y → y ≡ x
same_there zero k x y e = absurd (none-some y e)
same_there (suc n) zero x y e = sym (same_Some _ _ e)
same_there (suc n) (suc k) x y e = same_there n k x y e

-- ---- places

abbrev unused : Entry
unused = record { number = 1; references = 0 }

abbrev first : Entry
first = record { number = 1; references = 8 }

abbrev root_inode : Inode
root_inode = record { number = 1; content = None }

all_root : (k : ℕ) (e : Entry) → slice_get fresh.entries k ≡ Some e → e.number ≡ 1
all_root k e is = elim (at_set (replicate 50 unused) 0 k first e is) [
  | inl here ↦ ap (λ (x : Entry). x.number) here.1
  | inr other ↦ ap (λ (x : Entry). x.number) (same_there 50 k unused e other.1)
]

no_place : (n : ℕ) → n ≢ 1 → place_of n fresh.entries ≡ None
no_place n ne = at (place_of n fresh.entries) refl
  where
    at : (o : Option ℕ) → place_of n fresh.entries ≡ o → o ≡ None
    at None e = refl
    at (Some k) e = let f = found n fresh.entries k e in absurd (ne (sym f.number ∙ all_root k f.entry f.there))

root_place : place_of 1 fresh.entries ≡ Some 0
root_place = placed 1 fresh.entries 0 fresh_good.once (record { entry = first; there = refl; number = refl; referenced = omega arith })

none_held : (n m k : ℕ) → holder_at (slice_get (row_of m (replicate n root_inode)) k) ≡ None
none_held zero m k = refl
none_held (suc n) m zero = refl
none_held (suc n) m (suc k) = none_held n (m + 1) k

none_loaded : (n m k : ℕ) → loaded_at (slice_get (row_of m (replicate n root_inode)) k) ≡ None
none_loaded zero m k = refl
none_loaded (suc n) m zero = refl
none_loaded (suc n) m (suc k) = none_loaded n (m + 1) k

holder_none : (o : Option ℕ) → holder_in fresh.locks o ≡ None
holder_none None = refl
holder_none (Some k) = none_held 50 0 k

pub nothing_loaded : (n : ℕ) → loaded fresh n ≡ None
nothing_loaded n = at (place_of n fresh.entries)
  where
    at : (o : Option ℕ) → loaded_in fresh.locks o ≡ None
    at None = refl
    at (Some k) = none_loaded 50 0 k

pub nothing_locked : (n : ℕ) → holder_in fresh.locks (place_of n fresh.entries) ≡ None
nothing_locked n = holder_none (place_of n fresh.entries)

-- ---- beside the world

module _ (t : Tree) (home : (h : ℕ) → h < hart_count → t.cwd h ≡ root) where
  pub other_refs : (n : ℕ) → n ≢ 1 → (at_rest t).refs n ≡ 0
  other_refs n ne = sum_none hart_count (λ g. one_if (t.cwd g == n)) (λ g lt. one_no (t.cwd g == n) (ap (λ (d : ℕ). d == n) (home g lt) ∙ eq_not 1 n (λ e. ne (sym e))))

  root_refs : (at_rest t).refs 1 ≡ 8
  unfolding sum_below
  root_refs = sum_same hart_count (λ g. 1) (λ g. one_if (t.cwd g == 1)) (λ g lt. one_yes (t.cwd g == 1) (ap (λ (d : ℕ). d == 1) (home g lt) ∙ eq_self 1))

  counted : (n : ℕ) → (at_rest t).refs n ≡ references_in fresh.entries (place_of n fresh.entries)
  counted n = elim (same_or n 1) [
    | inl e ↦ ap (at_rest t).refs e ∙ root_refs ∙ sym (ap (λ (k : ℕ). references_in fresh.entries (place_of k fresh.entries)) e ∙ ap (references_in fresh.entries) root_place)
    | inr ne ↦ other_refs n ne ∙ sym (ap (references_in fresh.entries) (no_place n ne))
  ]

  range : root < t.ninodes → (n : ℕ) → 0 < (at_rest t).refs n → (1 ≤ n) × (n < t.ninodes)
  range some n lt = elim (same_or n 1) [
    | inl e ↦ (omega (arith, e), omega (arith, e, some))
    | inr ne ↦ absurd (let none = other_refs n ne in omega (arith, none, lt))
  ]

pub fresh_tables_show : FreshTablesShow
unfolding any_below
fresh_tables_show t home some = record {
  sound = record { inodes = fresh_good; files = refl; desks = refl };
  places = record { counts = counted t home; holders = λ n. sym (nothing_locked n); loads = λ n. refl };
  files = λ k lt. there 100 k _ lt;
  desks = λ g lt. (fresh_desk, there 8 g fresh_desk lt, record { long = refl; descriptors = λ i l. there 16 i None l; directory = sym (home g lt); hand = refl });
  lenders = λ g l e. absurd (none-some l e);
  range = range t home some;
}
