-- The slots of a directory can be spelled by a later version.
use Rattle.std.proofs.Common.{◌≡◌, ◌≢◌, refl, arith, Bool, true, false, ◌==◌, ◌&&◌, nat_lt, nat_le, if◌then◌else◌, ℕ, zero, suc, ◌/◌, ◌%◌, ◌≤◌, List, [], ◌∷◌, length, drop, Option, Some, None}
use Rattle.std.proofs.lemmas.Bool.Decides.{nat_tests}
use Rattle.std.proofs.lemmas.List.Elements.{All-append, All-cons, All-nil}
use Rattle.std.specs.Prelude.{All}
use Rattle.std.specs.List.{list_all}
use Rattle.image_versions.specs.declared.version.Version.{Version}
use Rattle.image_versions.specs.Versions.{dirent_len_of, dirents_per_block_of, name_len_of}
use Rattle.image_versions.proofs.Places.{longer}
use Rattle.fs_layout.specs.Bytes.{record_at, u16_at}
use Rattle.fs_layout.specs.Vocabulary.{position_or_len}
use Rattle.fs_layout.specs.Entry.{dirent_at, free_of, name_of, used_of}
use Rattle.fs_layout.specs.Name.{is_name, is_name_byte, is_zero}
use Rattle.image_tree.proofs.Nodes.{both, both_from}
use Rattle.migration.specs.Vocabulary.{Dinode, Dirent, Free, Used, IsName, slots_of}
use Rattle.migration.specs.Parts.{CanSpell}
use Rattle.migration.specs.Refusals.{IsLater}
use Rattle.image_tree.specs.Inodes.{content_block, first_slots, slot_at}

-- a name of a version is one of a later
later_name : (w v : Version) (name : List ℕ) → IsLater w v → IsName w name → IsName v name
later_name w v name later is =
    let p = both (nat_lt 0 (length name) && nat_le (length name) (name_len_of w)) (list_all is_name_byte name) is in
    let q = both (nat_lt 0 (length name)) (nat_le (length name) (name_len_of w)) p.0 in
    let more : name_len_of w ≤ name_len_of v = longer w v later in
    let old = q.1 in
    let few : nat_le (length name) (name_len_of v) ≡ true = grind (arith, nat_tests) in
    both_from _ _ (both_from _ _ q.0 few) p.1

spells_used : (v : Version) (number : ℕ) (name : List ℕ) (a b : Bool) → number ≢ 0 → (a ≡ true → IsName v name)
    → CanSpell v (if a && b then Some (Used number name) else None)
spells_used v number name true true ne is = (ne, is refl)
spells_used v number name true false ne is = tt
spells_used v number name false true ne is = tt
spells_used v number name false false ne is = tt

spells_free : (v : Version) (a : Bool) → CanSpell v (if a then Some Free else None)
spells_free v true = tt
spells_free v false = tt

spells_either : (v : Version) (n : ℕ) (x y : Option Dirent) → CanSpell v x → (n ≢ 0 → CanSpell v y) → CanSpell v (if n == 0 then x else y)
spells_either v n x y free used = pick (n == 0) refl
  where
    pick : (z : Bool) → (n == 0) ≡ z → CanSpell v (if z then x else y)
    pick true e = free
    pick false e = used (λ zero. absurd (grind (arith, nat_tests)))

spells_slot : (w v : Version) (place : ℕ) (block : List ℕ) → IsLater w v → CanSpell v (dirent_at w place block)
spells_slot w v place block later =
    let bytes : List ℕ = record_at (dirent_len_of w) place block in
    let number : ℕ = u16_at bytes 0 in
    let field : List ℕ = drop 2 bytes in
    let name : List ℕ = name_of field in
    spells_either v number (free_of field) (used_of w number field)
    (spells_free v (list_all is_zero field))
    (λ ne.
    spells_used v number name (is_name w name) (list_all is_zero (drop (position_or_len is_zero field) field)) ne (later_name w v name later))

slots_upto : (w v : Version) (disk : List (List ℕ)) (d : Dinode) (n : ℕ) → IsLater w v → All (CanSpell v) (first_slots w disk d n)
unfolding first_slots slot_at
slots_upto w v disk d zero later = All-nil (CanSpell v)
slots_upto w v disk d (suc n) later =
    All-append (CanSpell v) (first_slots w disk d n) (slot_at w disk d n ∷ []) (slots_upto w v disk d n later)
    (All-cons (CanSpell v) (slot_at w disk d n) []
    (spells_slot w v (n % dirents_per_block_of w) (content_block disk d (n / dirents_per_block_of w)) later) (All-nil (CanSpell v)))

pub spells_all : (w v : Version) (disk : List (List ℕ)) (d : Dinode) → IsLater w v → All (CanSpell v) (slots_of w disk d)
spells_all w v disk d later = slots_upto w v disk d (d.size / dirent_len_of w) later
