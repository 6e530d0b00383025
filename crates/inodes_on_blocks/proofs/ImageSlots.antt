-- The slots of a directory, as the image has them and as the tree has them.
use Rattle.inodes_on_blocks.proofs.Vocabulary.{◌≡◌, ◌≢◌, ℕ, suc, ◌≤◌, inl, inr, refl, sym, ◌∙◌, ap, arith, List, [], ◌∷◌, drop, map, get_or, Option, Some, None, All, Dirent, Free, Used, Name, same_name, dot, dotdot, first_slot, IsOnce, times, slot_numbers, slot_names, number_in, IsDotDot, slot_of, Slots, up_in, count_in, either, same_is, slot_past, slot_none, slot_nil}
use Rattle.tree_laws.specs.WellFormed.{NamesOnce}
use Rattle.inodes_on_blocks.proofs.Lists.{times_nil, times_cons}

-- the slots of the image
abbrev pub Entries : Type 0
Entries = List (Option Dirent)

abbrev pub in_tree : Entries → Slots
in_tree slots = map slot_of slots

pub past_in_tree : (slots : Entries) → drop 2 (in_tree slots) ≡ in_tree (drop 2 slots)
past_in_tree [] = refl
past_in_tree (a ∷ []) = refl
past_in_tree (a ∷ b ∷ slots) = refl

-- how many slots name i
pub counts_same : (slots : Entries) (i : ℕ) → count_in (in_tree slots) i ≡ times i (slot_numbers slots)
unfolding count_in
counts_same [] i = refl
counts_same (None ∷ slots) i = omega (arith, counts_same slots i)
counts_same (Some Free ∷ slots) i = omega (arith, counts_same slots i)
counts_same (Some (Used number name) ∷ slots) i = omega (arith, counts_same slots i, times_cons i number (slot_numbers slots))

pub up_same : (slots : Entries) → up_in (in_tree slots) ≡ number_in (get_or slots 1 None)
up_same [] = refl
up_same (a ∷ []) = refl
up_same (a ∷ None ∷ slots) = refl
up_same (a ∷ Some Free ∷ slots) = refl
up_same (a ∷ Some (Used number name) ∷ slots) = refl

-- the slots past the first two name no more than all
pub further_le : (slots : Entries) (i : ℕ) → times i (slot_numbers (drop 2 slots)) ≤ times i (slot_numbers slots)
further_le [] i = omega arith
further_le (a ∷ []) i = let none = times_nil i in omega arith
further_le (a ∷ b ∷ slots) i = omega (arith, one_le a (b ∷ slots) i, one_le b slots i)
  where
    one_le : (a : Option Dirent) (slots : Entries) (i : ℕ) → times i (slot_numbers slots) ≤ times i (slot_numbers (a ∷ slots))
    one_le None slots i = omega arith
    one_le (Some Free) slots i = omega arith
    one_le (Some (Used number name)) slots i = omega (arith, times_cons i number (slot_numbers slots))

-- ---- "." and ".."

-- "." comes first and ".." next
pub dots_stand : (slots : Entries) (d : ℕ) → get_or slots 0 None ≡ Some (Used d dot) → IsDotDot (get_or slots 1 None)
    → in_tree slots ≡ Some (record { name = dot; number = d }) ∷ Some (record { name = dotdot; number = up_in (in_tree slots) }) ∷ drop 2 (in_tree slots)
dots_stand [] d first second = absurd second
dots_stand (a ∷ []) d first second = absurd second
dots_stand (a ∷ None ∷ slots) d first second = absurd second
dots_stand (a ∷ Some Free ∷ slots) d first second = absurd second
dots_stand (a ∷ Some (Used number name) ∷ slots) d first second =
    ap (λ (s : Option Dirent). slot_of s ∷ Some (record { name = name; number = number }) ∷ in_tree slots) first
    ∙ ap (λ (e : Name). Some (record { name = dot; number = d }) ∷ Some (record { name = e; number = number }) ∷ in_tree slots) second

-- ---- names

pairs_rest : (x : Name) (xs : List Name) → IsOnce (x ∷ xs) → IsOnce xs
pairs_rest x xs once = record { apart = λ i j d p q. once.apart (suc i) (suc j) d (omega arith) (omega arith) }

pairs_first : (x : Name) (xs : List Name) → IsOnce (x ∷ xs) → All (λ y. x ≢ y) xs
pairs_first x xs once = λ k d l. once.apart 0 (suc k) d (omega arith) (omega arith)

-- a name that is another one than all these isn't found
other_name : (slots : Entries) (e : Name) → All (λ y. e ≢ y) (slot_names slots) → first_slot (in_tree slots) e ≡ None
other_name [] e all = slot_nil e
other_name (None ∷ slots) e all = slot_none (in_tree slots) e ∙ other_name slots e all
other_name (Some Free ∷ slots) e all = slot_none (in_tree slots) e ∙ other_name slots e all
other_name (Some (Used number name) ∷ slots) e all =
    let rest : first_slot (in_tree slots) e ≡ None = other_name slots e (λ k d l. all (suc k) d (omega arith)) in
    elim (either (same_name name e)) [
      | inl y ↦ absurd (all 0 name (omega arith) (sym (same_is name e y)))
      | inr y ↦ slot_past (record { name = name; number = number }) (in_tree slots) e y ∙ rest
    ]

pub names_stand_once : (slots : Entries) → IsOnce (slot_names slots) → NamesOnce (in_tree slots)
unfolding NamesOnce
names_stand_once [] once = tt
names_stand_once (None ∷ slots) once = names_stand_once slots once
names_stand_once (Some Free ∷ slots) once = names_stand_once slots once
names_stand_once (Some (Used number name) ∷ slots) once = (
  other_name slots name (pairs_first name (slot_names slots) once),
  names_stand_once slots (pairs_rest name (slot_names slots) once),
)
