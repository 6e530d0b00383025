-- An entry put into a slot of a directory that a hart is changing.
use Rattle.inodes_on_blocks.proofs.Vocabulary.{◌≡◌, ◌≢◌, ℕ, zero, suc, ◌*◌, ◌/◌, ◌%◌, ◌<◌, ◌≤◌, true, false, List, [], ◌∷◌, length, replicate, Option, Some, None, refl, sym, ◌∙◌, ap, subst, arith, max, with_dirent, Dinode, Dirent, Free, overwrite, IsBytes, IsDirent, spell_dirent, recovered, length-spell_dirent, length-overwrite, largest_size, numbers_of, block_number, entry_of, IsPut, IsSlotPut, IsLaidOut, slots_with, Becomes, Slot, Directory, cleared, Name, same_name, IsFirstNamed, block_len, dirent_len_of, dirents_per_block_of, Version, version_in}
use Rattle.image_versions.proofs.Places.{in_their_blocks, inside}
use Rattle.inodes_on_blocks.specs.Puts.{slot_block, slot_byte}
use Rattle.inodes_on_blocks.proofs.LaidSlots.{slot_laid}
use Rattle.inodes_on_blocks.proofs.Basics.{overwrite_bytes}

-- ---- bytes

pub dirent_long : (version : Version) (place : ℕ) (entry : Dirent) (block : List ℕ) → place < dirents_per_block_of version → IsDirent version entry → length block ≡ block_len → length (with_dirent version place entry block) ≡ block_len
unfolding with_dirent
dirent_long version place entry block lt is long =
    let spelled = length-spell_dirent version entry is in
    let room = inside version place lt in
    length-overwrite block (spell_dirent version entry) (dirent_len_of version * place) (omega (arith, spelled, long, room)) ∙ long

pub dirent_bytes : (version : Version) (place : ℕ) (entry : Dirent) (block : List ℕ) → IsBytes block → IsBytes (spell_dirent version entry) → IsBytes (with_dirent version place entry block)
unfolding with_dirent
dirent_bytes version place entry block are spelled = overwrite_bytes block (spell_dirent version entry) (dirent_len_of version * place) are spelled

pub zero_bytes : (n : ℕ) → IsBytes (replicate n 0)
zero_bytes zero i = omega arith
zero_bytes (suc n) zero = omega arith
zero_bytes (suc n) (suc i) = zero_bytes n i

pub free_bytes : (version : Version) → IsBytes (spell_dirent version Free)
free_bytes version = zero_bytes (dirent_len_of version)

-- ---- what a put makes

-- of this version
abbrev SlotMakes : (n s count : ℕ) → List (Option Slot) → Option Slot → Dirent → Dinode → (old numbers : List ℕ) → (disk new : List (List ℕ)) → (ℕ → ℕ) → Version → Type 0
SlotMakes n s count slots slot entry d old numbers disk new owner version =
    dirent_len_of version * suc s ≤ largest_size → IsDirent version entry → block_number numbers (s / dirents_per_block_of version) ≢ 0 → recovered disk (block_number numbers (s / dirents_per_block_of version)) ≡ old
    → IsPut disk new (block_number numbers (s / dirents_per_block_of version)) → recovered new (block_number numbers (s / dirents_per_block_of version)) ≡ with_dirent version (s % dirents_per_block_of version) entry old
    → Becomes disk new owner owner n d (record d { size = max d.size (dirent_len_of version * suc s) }) (record { count = count; kind = Directory (slots_with slots s slot) })

makes_there : (n s count : ℕ) (slots : List (Option Slot)) (slot : Option Slot) (entry : Dirent) (d : Dinode) (old numbers : List ℕ) (disk new : List (List ℕ)) (owner : ℕ → ℕ) → s ≤ length slots → entry_of slot ≡ Some entry → length old ≡ block_len
    → IsLaidOut disk owner n d (record { count = count; kind = Directory slots }) → numbers_of disk d ≡ numbers → SlotMakes n s count slots slot entry d old numbers disk new owner (version_in disk)
unfolding with_dirent
makes_there n s count slots slot entry d old numbers disk new owner past same long laid names limit is some was put now =
    slot_laid disk new owner n s count slots slot entry d laid past limit same
    there
  where
    at : block_number numbers (s / dirents_per_block_of (version_in disk)) ≡ slot_block disk d s
    at = ap (λ (ns : List ℕ). block_number ns (s / dirents_per_block_of (version_in disk))) (sym names)

    there : IsSlotPut disk new d s entry
    there =
        let room = inside (version_in disk) (s % dirents_per_block_of (version_in disk)) (in_their_blocks (version_in disk) s).0 in
        record {
          some = subst (λ (k : ℕ). k ≢ 0) at some;
          block = subst (λ (k : ℕ). IsPut disk new k) at put;
          spelled = is;
          room = subst (λ (k : ℕ). slot_byte disk s ≤ length (recovered disk k)) at (let whole : length (recovered disk (block_number numbers (s / dirents_per_block_of (version_in disk)))) ≡ block_len = ap length was ∙ long in omega (arith, whole, room));
          written = subst (λ (k : ℕ). recovered new k ≡ overwrite (recovered disk k) (slot_byte disk s) (spell_dirent (version_in disk) entry)) at (now ∙ ap (λ (bytes : List ℕ). overwrite bytes (slot_byte disk s) (spell_dirent (version_in disk) entry)) (sym was));
        }

pub slot_makes : (version : Version) (n s count : ℕ) (slots : List (Option Slot)) (slot : Option Slot) (entry : Dirent) (d : Dinode) (old numbers : List ℕ) → s ≤ length slots → dirent_len_of version * suc s ≤ largest_size
    → entry_of slot ≡ Some entry → IsDirent version entry → length old ≡ block_len → block_number numbers (s / dirents_per_block_of version) ≢ 0
    → (disk new : List (List ℕ)) (owner : ℕ → ℕ) → version_in disk ≡ version → IsLaidOut disk owner n d (record { count = count; kind = Directory slots }) → numbers_of disk d ≡ numbers
    → recovered disk (block_number numbers (s / dirents_per_block_of version)) ≡ old → IsPut disk new (block_number numbers (s / dirents_per_block_of version))
    → recovered new (block_number numbers (s / dirents_per_block_of version)) ≡ with_dirent version (s % dirents_per_block_of version) entry old
    → Becomes disk new owner owner n d (record d { size = max d.size (dirent_len_of version * suc s) }) (record { count = count; kind = Directory (slots_with slots s slot) })
slot_makes version n s count slots slot entry d old numbers past limit same is long some disk new owner at laid names was put now =
    subst (SlotMakes n s count slots slot entry d old numbers disk new owner) at (makes_there n s count slots slot entry d old numbers disk new owner past same long laid names) limit is some was put now

-- ---- a name cleared

-- its slot is the first of that name
pub cleared_first : (slots : List (Option Slot)) (e : Name) (s : ℕ) → IsFirstNamed slots e s → cleared slots e ≡ slots_with slots s None
unfolding cleared
cleared_first [] e s is = absurd (let low = is.below in omega (arith, low))
cleared_first (None ∷ slots) e zero is = absurd (let z : false ≡ true = is.is in cc)
cleared_first (None ∷ slots) e (suc s) is = ap (λ (ss : List (Option Slot)). None ∷ ss) (cleared_first slots e s (record { below = let low = is.below in omega (arith, low); is = is.is; first = λ q lt. is.first (suc q) (omega (arith, lt)) }))
cleared_first (Some x ∷ slots) e zero is = let here : same_name x.name e ≡ true = is.is in rw here refl
cleared_first (Some x ∷ slots) e (suc s) is =
    let other : same_name x.name e ≡ false = is.first 0 (omega arith) in
    rw other (ap (λ (ss : List (Option Slot)). Some x ∷ ss) (cleared_first slots e s (record { below = let low = is.below in omega (arith, low); is = is.is; first = λ q lt. is.first (suc q) (omega (arith, lt)) })))
