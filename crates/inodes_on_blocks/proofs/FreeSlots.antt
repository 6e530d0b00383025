-- The slot of a new name: a search finds the free slot that the node has; and the entry that is put there.
use Rattle.inodes_on_blocks.proofs.Vocabulary.{◌≡◌, ◌≢◌, ℕ, zero, suc, ◌-◌, ◌==◌, ◌<◌, ◌≤◌, nat_lt, nat_le, ◌&&◌, not, Bool, true, false, List, [], ◌∷◌, ◌++◌, length, replicate, get_or, Option, Some, None, refl, sym, ◌∙◌, ap, arith, list_all, nat_tests, Version, Found, IsFirst, Unused, Dirent, Used, IsBytes, u16_bytes, IsDirent, spell_dirent, entry_of, slots_with, Slot, Name, dot, dotdot, eq_not, all_used, IsName, IsText, name_len_of}
use Rattle.directory.specs.Slots as sought
use Rattle.fs_layout.specs.Name as names
use Rattle.image_versions.proofs.Places.{in_range}
use Rattle.std.proofs.lemmas.List.{get_or_past}
use Rattle.plain_tree.specs.Steps.{first_free, is_used}
use Rattle.inodes_on_blocks.proofs.Basics.{AreRead, append_bytes, u16s}
use Rattle.inodes_on_blocks.proofs.SlotPuts.{zero_bytes}

-- ---- slots

-- the first slot that isn't used
pub first_at : (slots : List (Option Slot)) (x : Slot) (s : ℕ) → s < length slots → is_used (get_or slots s None) ≡ false → ((q : ℕ) → q < s → is_used (get_or slots q None) ≡ true) → first_free slots x ≡ slots_with slots s (Some x)
unfolding first_free
first_at [] x s lt is used = absurd (omega (arith, lt))
first_at (None ∷ slots) x zero lt is used = refl
first_at (None ∷ slots) x (suc s) lt is used = absurd (let q : false ≡ true = used 0 (omega arith) in cc)
first_at (Some y ∷ slots) x zero lt is used = absurd (let q : true ≡ false = is in cc)
first_at (Some y ∷ slots) x (suc s) lt is used = ap (λ (ss : List (Option Slot)). Some y ∷ ss) (first_at slots x s (omega (arith, lt)) is (λ q l. used (suc q) (omega (arith, l))))

pub first_end : (slots : List (Option Slot)) (x : Slot) → ((q : ℕ) → q < length slots → is_used (get_or slots q None) ≡ true) → first_free slots x ≡ slots_with slots (length slots) (Some x)
unfolding first_free
first_end [] x used = refl
first_end (None ∷ slots) x used = absurd (let q : false ≡ true = used 0 (omega arith) in cc)
first_end (Some y ∷ slots) x used = ap (λ (ss : List (Option Slot)). Some y ∷ ss) (first_end slots x (λ q l. used (suc q) (omega (arith, l))))

pub all_are : (slots : List (Option Slot)) → ((q : ℕ) → q < length slots → is_used (get_or slots q None) ≡ true) → all_used slots ≡ true
unfolding all_used
all_are [] used = refl
all_are (s ∷ slots) used = let here : is_used s ≡ true = used 0 (omega arith) in rw here (all_are slots (λ q l. used (suc q) (omega (arith, l))))

some_isnt : (slots : List (Option Slot)) (s : ℕ) → s < length slots → is_used (get_or slots s None) ≡ false → all_used slots ≡ false
unfolding all_used
some_isnt [] s lt is = absurd (omega (arith, lt))
some_isnt (y ∷ slots) zero lt is = let here : is_used y ≡ false = is in rw here refl
some_isnt (y ∷ slots) (suc s) lt is = by (is_used y) (some_isnt slots s (omega (arith, lt)) is)
  where
    by : (b : Bool) → all_used slots ≡ false → (b && all_used slots) ≡ false
    by true e = e
    by false e = refl

-- ---- slots read after one was put

pub read_here : (slots : List (Option Slot)) (s : ℕ) (x : Option Slot) → s ≤ length slots → get_or (slots_with slots s x) s None ≡ x
read_here [] zero x le = refl
read_here [] (suc s) x le = absurd (omega (arith, le))
read_here (y ∷ slots) zero x le = refl
read_here (y ∷ slots) (suc s) x le = read_here slots s x (omega (arith, le))

pub read_other : (slots : List (Option Slot)) (s : ℕ) (x : Option Slot) (q : ℕ) → s ≤ length slots → q ≢ s → get_or (slots_with slots s x) q None ≡ get_or slots q None
read_other [] zero x zero le ne = absurd (ne refl)
read_other [] zero x (suc q) le ne = refl
read_other [] (suc s) x q le ne = absurd (omega (arith, le))
read_other (y ∷ slots) zero x zero le ne = absurd (ne refl)
read_other (y ∷ slots) zero x (suc q) le ne = refl
read_other (y ∷ slots) (suc s) x zero le ne = refl
read_other (y ∷ slots) (suc s) x (suc q) le ne = read_other slots s x q (omega (arith, le)) (λ e. ne (ap (λ (k : ℕ). suc k) e))

-- ---- what was found

free_as : (y : Option Slot) → sought.is_free (entry_of y) ≡ not (is_used y)
free_as None = refl
free_as (Some s) = refl

turned : (b : Bool) → not b ≡ false → b ≡ true
turned true e = refl
turned false e = absurd (let q : true ≡ false = e in cc)

turned_off : (b : Bool) → not b ≡ true → b ≡ false
turned_off false e = refl
turned_off true e = absurd (let q : false ≡ true = e in cc)

-- the place of a new slot
abbrev pub slot_of : List (Option Slot) → Option Found → ℕ
slot_of slots None = length slots
slot_of slots (Some f) = f.slot

module _ (slots : List (Option Slot)) (read : ℕ → Option Dirent) (are : AreRead read slots) where
  is_so : (s : ℕ) → s < length slots → sought.is_free (read s) ≡ not (is_used (get_or slots s None))
  is_so s lt = ap sought.is_free (are s lt) ∙ free_as (get_or slots s None)

  all_before : (n : ℕ) → n ≤ length slots → ((s : ℕ) → s < n → sought.is_free (read s) ≡ false) → (q : ℕ) → q < n → is_used (get_or slots q None) ≡ true
  all_before n le none q lt = turned (is_used (get_or slots q None)) (sym (is_so q (omega (arith, lt, le))) ∙ none q lt)

  pub new_slot : (o : Option Found) → IsFirst Unused read (length slots) o → (x : Slot) → first_free slots x ≡ slots_with slots (slot_of slots o) (Some x)
  new_slot None first x = first_end slots x (all_before (length slots) (omega arith) first)
  new_slot (Some f) first x =
      let lt = first.0 in first_at slots x f.slot lt (turned_off (is_used (get_or slots f.slot None)) (sym (is_so f.slot lt) ∙ first.1)) (all_before f.slot (omega (arith, lt)) first.3)

  pub slot_below : (o : Option Found) → IsFirst Unused read (length slots) o → slot_of slots o ≤ length slots
  slot_below None first = omega arith
  slot_below (Some f) first = let lt = first.0 in omega (arith, lt)

  -- it isn't used
  pub slot_unused : (o : Option Found) → IsFirst Unused read (length slots) o → is_used (get_or slots (slot_of slots o) None) ≡ false
  slot_unused None first = ap is_used (get_or_past slots (length slots) None (omega arith))
  slot_unused (Some f) first = turned_off (is_used (get_or slots f.slot None)) (sym (is_so f.slot first.0) ∙ first.1)

  -- there is none more
  pub none_left : IsFirst Unused read (length slots) None → all_used slots ≡ true
  none_left first = all_are slots (all_before (length slots) (omega arith) first)

  -- there is one, or room after them
  pub some_left : (most : ℕ) (o : Option Found) → IsFirst Unused read (length slots) o → slot_of slots o < most → ((length slots == most) && all_used slots) ≡ false
  some_left most None first lt = ap (λ (b : Bool). b && all_used slots) (eq_not (length slots) most (λ e. absurd (omega (arith, e, lt))))
  some_left most (Some f) first lt = by (length slots == most) (some_isnt slots f.slot first.0 (turned_off (is_used (get_or slots f.slot None)) (sym (is_so f.slot first.0) ∙ first.1)))
    where
      by : (b : Bool) → all_used slots ≡ false → (b && all_used slots) ≡ false
      by true e = e
      by false e = refl

-- ---- the entry

text_layout : (e : List ℕ) → IsText e → list_all names.is_name_byte e ≡ true
text_layout [] t = refl
text_layout (b ∷ bs) t =
    let low = t.0 in
    let some : (b == 0) ≡ false = eq_not b 0 (λ z. absurd (omega (arith, z, low))) in
    let apart : (b == 47) ≡ false = eq_not b 47 t.1 in
    rw (some, apart) (text_layout bs t.3)

name_layout : (version : Version) (e : Name) → IsName version e → names.is_name version e ≡ true
name_layout version e is =
    let some : nat_lt 0 (length e) ≡ true = (let z = is.some in grind (arith, nat_tests, z)) in
    let fits : nat_le (length e) (name_len_of version) ≡ true = (let z = is.fits in grind (arith, nat_tests, z)) in
    rw (some, fits) (text_layout e is.text)

-- an entry by a name that an entry can have
pub entry_is : (version : Version) (q : ℕ) (e : Name) → 1 ≤ q → q < 65536 → IsName version e → IsDirent version (Used q e)
entry_is version q e low high is = ((λ z. absurd (omega (arith, z, low))), omega (arith, high), name_layout version e is)

text_bytes : (e : List ℕ) → IsText e → IsBytes e
text_bytes [] t i = omega arith
text_bytes (b ∷ bs) t zero = t.2
text_bytes (b ∷ bs) t (suc i) = text_bytes bs t.3 i

pub entry_bytes : (version : Version) (q : ℕ) (e : Name) → IsName version e → IsBytes (spell_dirent version (Used q e))
entry_bytes version q e is =
    append_bytes (u16_bytes q) (e ++ replicate (name_len_of version - length e) 0) (u16s q)
    (append_bytes e (replicate (name_len_of version - length e) 0) (text_bytes e is.text) (zero_bytes (name_len_of version - length e)))

pub dot_name : (version : Version) → IsName version dot
dot_name version = record { some = omega arith; fits = (let wide = (in_range version).0 in omega (arith, wide)); text = (omega arith, (λ e. absurd (omega (arith, e))), omega arith, tt) }

pub dotdot_name : (version : Version) → IsName version dotdot
dotdot_name version = record { some = omega arith; fits = (let wide = (in_range version).0 in omega (arith, wide)); text = (omega arith, (λ e. absurd (omega (arith, e))), omega arith, (omega arith, (λ e. absurd (omega (arith, e))), omega arith, tt)) }
