-- Entries written as parts of a directory's content: one into its slot, and the two of a new directory at once.
use Rattle.inodes_on_blocks.proofs.Vocabulary.{◌≡◌, ◌≢◌, ℕ, suc, ◌+◌, ◌-◌, ◌*◌, ◌/◌, ◌%◌, ◌<◌, ◌≤◌, List, [], ◌∷◌, length, length-append, max, Option, Some, refl, sym, ◌∙◌, ap, subst, arith, take_all, with_dirent, Super, Version, Dirent, Used, Dinode, overwrite, IsDirent, spell_dirent, recovered, sizes_of, length-spell_dirent, overwrite-overwrite, length-overwrite, largest_size, numbers_of, block_number, entry_of, IsPut, IsLaidOut, slots_with, Becomes, Slot, Node, Directory, dot, dotdot, front_of, with_part, World, log_of, disk_of, dots, Carry, log_with, block_len, dirent_len_of, dirents_per_block_of, new_directory_size_of}
use Rattle.image_versions.proofs.Places.{in_block, in_range, in_their_blocks, inside, new_fits}
use Rattle.inodes_on_blocks.proofs.Changing.{owner_with}
use Rattle.inodes_on_blocks.proofs.FreeSlots.{dot_name, dotdot_name, entry_bytes, entry_is}
use Rattle.inodes_on_blocks.proofs.NumberPuts.{sized}
use Rattle.inodes_on_blocks.proofs.OwnPuts.{IsOwnPut}
use Rattle.inodes_on_blocks.proofs.PartSteps.{MakesPart}
use Rattle.inodes_on_blocks.proofs.Basics.{overwrite_bytes, seen_sizes}
use Rattle.inodes_on_blocks.proofs.SlotPuts.{slot_makes}

abbrev pub directory_of : ℕ → List (Option Slot) → Node
directory_of count slots = record { count = count; kind = Directory slots }

-- ---- one entry

-- of a slot all bytes are in its block
pub slot_place : (version : Version) (slot : ℕ) → (dirent_len_of version * slot % block_len ≡ dirent_len_of version * (slot % dirents_per_block_of version)) × (dirent_len_of version * slot % block_len + dirent_len_of version ≤ block_len)
    × (dirent_len_of version * slot / block_len ≡ slot / dirents_per_block_of version)
slot_place version slot =
    let at = in_their_blocks version slot in
    let byte = at.1 in
    let room = inside version (slot % dirents_per_block_of version) at.0 in
    let wide = (in_range version).2 in
    (omega (arith, byte, room, wide), omega (arith, byte, room, wide), omega (arith, byte, room, wide))

pub slot_front : (version : Version) (slot : ℕ) (bytes : List ℕ) → length bytes ≡ dirent_len_of version → front_of (dirent_len_of version * slot) bytes ≡ bytes
slot_front version slot bytes long = let room = (slot_place version slot).1 in take_all (block_len - dirent_len_of version * slot % block_len) bytes (omega (arith, long, room))

part_dirent : (version : Version) (slot : ℕ) (entry : Dirent) (old : List ℕ) → IsDirent version entry → with_part (dirent_len_of version * slot) (spell_dirent version entry) old ≡ with_dirent version (slot % dirents_per_block_of version) entry old
unfolding with_dirent
part_dirent version slot entry old is =
    ap (overwrite old (dirent_len_of version * slot % block_len)) (slot_front version slot (spell_dirent version entry) (length-spell_dirent version entry is)) ∙ ap (λ (k : ℕ). overwrite old k (spell_dirent version entry)) (slot_place version slot).0

pub entry_makes : (sizes : Super) (h n slot count : ℕ) (slots : List (Option Slot)) (x : Option Slot) (entry : Dirent) (c : Carry) (o : Option Node) → slot ≤ length slots → dirent_len_of sizes.version * suc slot ≤ largest_size → entry_of x ≡ Some entry → IsDirent sizes.version entry
    → MakesPart sizes h n (slot / dirents_per_block_of sizes.version) (dirent_len_of sizes.version * length slots) (max (dirent_len_of sizes.version * length slots) (dirent_len_of sizes.version * suc slot)) (dirent_len_of sizes.version * slot) (spell_dirent sizes.version entry) c o (directory_of count slots) (directory_of count (slots_with slots slot x))
entry_makes sizes h n slot count slots x entry c o past limit same is d b old r g at shows changing some number long are made =
    let disk = disk_of (log_of r) in
    let e = sized (dirent_len_of sizes.version * length slots) d in
    let numbers = numbers_of disk e in
    let new = disk_of (log_with h b (with_part (dirent_len_of sizes.version * slot) (spell_dirent sizes.version entry) old) r) in
    slot_makes sizes.version n slot count slots x entry e old numbers past limit same is long (λ z. some (sym number ∙ z)) disk new (owner_with h n r) (ap (λ (s : Super). s.version) (seen_sizes r g shows ∙ at)) changing.laid refl
    (ap (recovered disk) number ∙ made.was) (subst (λ (q : ℕ). IsPut disk new q) (sym number) made.put) (ap (recovered new) number ∙ made.now ∙ part_dirent sizes.version slot entry old is)

-- ---- the two of a new directory

becomes_then : (disk mid new : List (List ℕ)) (owner : ℕ → ℕ) (i : ℕ) (d e f : Dinode) (v w : Node) → Becomes disk mid owner owner i d e v → Becomes mid new owner owner i e f w → Becomes disk new owner owner i d f w
becomes_then disk mid new owner i d e f v w a b = record { laid = b.laid; numbers = b.numbers ∙ a.numbers; named = λ ns owned. b.named ns (a.named ns owned); spare = λ c is. b.spare c (a.spare c is) }

dot_is : (version : Version) (n : ℕ) → n ≢ 0 → n < 65536 → IsDirent version (Used n dot)
dot_is version n some small = entry_is version n dot (omega (arith, some)) small (dot_name version)

dotdot_is : (version : Version) (n : ℕ) → n ≢ 0 → n < 65536 → IsDirent version (Used n dotdot)
dotdot_is version n some small = entry_is version n dotdot (omega (arith, some)) small (dotdot_name version)

pub dots_long : (version : Version) (n p : ℕ) → n ≢ 0 → n < 65536 → p ≢ 0 → p < 65536 → length (dots version n p) ≡ new_directory_size_of version
dots_long version n p some small some_p small_p =
    let one = length-spell_dirent version (Used n dot) (dot_is version n some small) in
    let two = length-spell_dirent version (Used p dotdot) (dotdot_is version p some_p small_p) in
    omega (arith, one, two, length-append (spell_dirent version (Used n dot)) (spell_dirent version (Used p dotdot)))

abbrev slot_named : List ℕ → ℕ → Option Slot
slot_named e n = Some (record { name = e; number = n })

-- the first two slots of a directory are in its first block
first_places : (version : Version) (s : ℕ) → s < 2 → (s / dirents_per_block_of version ≡ 0) × (s % dirents_per_block_of version ≡ s)
first_places version s low =
    let wide = (in_range version).4 in
    let here = in_block version 0 s (omega (arith, wide, low)) in
    let same : dirents_per_block_of version * 0 + s ≡ s = omega arith in
    (ap (λ (q : ℕ). q / dirents_per_block_of version) (sym same) ∙ here.0, ap (λ (q : ℕ). q % dirents_per_block_of version) (sym same) ∙ here.1)

-- with a disk between that has the first of them
module _ (sizes : Super) (h n p count b : ℕ) (d : Dinode) (old : List ℕ) (r : World) (some_n : n ≢ 0) (small_n : n < 65536) (some_p : p ≢ 0) (small_p : p < 65536) (long : length old ≡ block_len) (some : b ≢ 0)
    (number : block_number (numbers_of (disk_of (log_of r)) (sized 0 d)) 0 ≡ b) (at : sizes_of (disk_of (log_of r)) ≡ sizes) (made : IsOwnPut h n b old (with_part 0 (dots sizes.version n p) old) r) (laid : IsLaidOut (disk_of (log_of r)) (owner_with h n r) n (sized 0 d) (directory_of count [])) where
  abbrev version : Version
  version = sizes.version

  abbrev len : ℕ
  len = dirent_len_of version

  abbrev disk : List (List ℕ)
  disk = disk_of (log_of r)

  abbrev new : List (List ℕ)
  new = disk_of (log_with h b (with_part 0 (dots version n p) old) r)

  abbrev first : List ℕ
  first = spell_dirent version (Used n dot)

  abbrev second : List ℕ
  second = spell_dirent version (Used p dotdot)

  abbrev one : List ℕ
  one = overwrite old 0 first

  abbrev numbers : List ℕ
  numbers = numbers_of disk (sized 0 d)

  long_first : length first ≡ len
  long_first = length-spell_dirent version (Used n dot) (dot_is version n some_n small_n)

  -- two entries are in a block
  fit : new_directory_size_of version ≤ block_len
  fit = (new_fits version).0

  both : with_part 0 (dots version n p) old ≡ overwrite one len second
  both =
      ap (overwrite old 0) (take_all block_len (dots version n p) (let all = dots_long version n p some_n small_n some_p small_p in omega (arith, all, fit)))
      ∙ sym (overwrite-overwrite old first second 0 (omega arith))
      ∙ ap (λ (k : ℕ). overwrite one k second) (let e : 0 + length first ≡ len = omega (arith, long_first) in e)

  place_of : (s : ℕ) → s < 2 → block_number numbers (s / dirents_per_block_of version) ≡ b
  place_of s low = ap (block_number numbers) (first_places version s low).0 ∙ number

  module _ (mid : List (List ℕ)) (put : IsPut disk mid b) (has : recovered mid b ≡ one) where
    once : Becomes disk mid (owner_with h n r) (owner_with h n r) n (sized 0 d) (sized len d)
        (directory_of count (slot_named dot n ∷ []))
    unfolding with_dirent
    once =
        let here = place_of 0 (omega arith) in
        let byte : 0 ≡ len * (0 % dirents_per_block_of version) = (let z : 0 ≡ len * 0 = omega arith in z ∙ ap (λ (q : ℕ). len * q) (sym (first_places version 0 (omega arith)).1)) in
        subst (λ (z : ℕ). Becomes disk mid (owner_with h n r) (owner_with h n r) n (sized 0 d) (sized z d) (directory_of count (slot_named dot n ∷ []))) (let z : max 0 (len * suc 0) ≡ len = omega arith in z)
        (slot_makes version n 0 count [] (slot_named dot n) (Used n dot) (sized 0 d) old numbers (omega arith) (omega (arith, fit)) refl (dot_is version n some_n small_n) long (λ z. some (sym here ∙ z)) disk mid (owner_with h n r)
        (ap (λ (s : Super). s.version) at) laid refl (ap (recovered disk) here ∙ made.was) (subst (λ (q : ℕ). IsPut disk mid q) (sym here) put)
        (ap (recovered mid) here ∙ has ∙ ap (λ (q : ℕ). overwrite old q first) byte))

    twice : Becomes mid new (owner_with h n r) (owner_with h n r) n (sized len d) (sized (new_directory_size_of version) d) (directory_of count (slot_named dot n ∷ slot_named dotdot p ∷ []))
    unfolding with_dirent
    twice =
        let over : IsPut mid new b = record { sizes = made.put.sizes ∙ sym put.sizes; others = λ q ne. made.put.others q ne ∙ sym (put.others q ne) } in
        let here = place_of 1 (omega arith) in
        let byte : len ≡ len * (1 % dirents_per_block_of version) = (let z : len ≡ len * 1 = omega arith in z ∙ ap (λ (q : ℕ). len * q) (sym (first_places version 1 (omega arith)).1)) in
        subst (λ (z : ℕ). Becomes mid new (owner_with h n r) (owner_with h n r) n (sized len d) (sized z d) (directory_of count (slot_named dot n ∷ slot_named dotdot p ∷ []))) (let z : max len (len * suc 1) ≡ new_directory_size_of version = omega arith in z)
        (slot_makes version n 1 count (slot_named dot n ∷ []) (slot_named dotdot p) (Used p dotdot) (sized len d) one numbers (omega arith) (omega (arith, fit)) refl (dotdot_is version p some_p small_p)
        (length-overwrite old first 0 (omega (arith, long, long_first, fit)) ∙ long) (λ z. some (sym here ∙ z)) mid new (owner_with h n r)
        (ap (λ (s : Super). s.version) (put.sizes ∙ at)) once.laid once.numbers
        (ap (recovered mid) here ∙ has) (subst (λ (q : ℕ). IsPut mid new q) (sym here) over) (ap (recovered new) here ∙ made.now ∙ both ∙ ap (λ (q : ℕ). overwrite one q second) byte))

    makes : Becomes disk new (owner_with h n r) (owner_with h n r) n (sized 0 d) (sized (new_directory_size_of version) d) (directory_of count (slot_named dot n ∷ slot_named dotdot p ∷ []))
    makes = becomes_then disk mid new (owner_with h n r) n (sized 0 d) (sized len d) (sized (new_directory_size_of version) d) (directory_of count (slot_named dot n ∷ [])) (directory_of count (slot_named dot n ∷ slot_named dotdot p ∷ [])) once twice

pub dots_make : (sizes : Super) (h n p count : ℕ) (c : Carry) (o : Option Node) → n ≢ 0 → n < 65536 → p ≢ 0 → p < 65536
    → MakesPart sizes h n 0 0 (new_directory_size_of sizes.version) 0 (dots sizes.version n p) c o (directory_of count [])
    (directory_of count (slot_named dot n ∷ slot_named dotdot p ∷ []))
dots_make sizes h n p count c o some_n small_n some_p small_p d b old r g at shows changing some number long are made =
    let version : Version = sizes.version in
    let first : List ℕ = spell_dirent version (Used n dot) in
    let fit = (new_fits version).0 in
    let between = made.any (overwrite old 0 first) (length-overwrite old first 0 (let one = length-spell_dirent version (Used n dot) (dot_is version n some_n small_n) in omega (arith, long, one, fit)) ∙ long)
    (overwrite_bytes old first 0 are (entry_bytes version n dot (dot_name version))) in
    makes sizes h n p count b d old r some_n small_n some_p small_p long some number (seen_sizes r g shows ∙ at) made changing.laid between.0 between.1 between.2
