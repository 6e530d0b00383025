-- A directory's slot that is put, or one more after its last.
use Rattle.inodes_on_blocks.proofs.Vocabulary.{◌≡◌, ◌≢◌, ℕ, zero, suc, ◌*◌, ◌/◌, ◌%◌, ◌<◌, ◌≤◌, inl, inr, refl, sym, ◌∙◌, ap, subst, arith, List, [], ◌∷◌, ◌++◌, length, length-append, length-take, take, drop, map, append_assoc, Option, Some, max, take_all, drop_all, take-append-le, drop-append-le, Version, Super, Dinode, Dirent, version_in, dirent_at, recovered, reads_back, others_stay, Slot, Node, Directory, numbers_of, block_number, content_block, largest_size, same_or, entry_of, IsInode, IsSlotPut, IsLaidOut, slots_with, Becomes, slot_by as slot_at, first_slots_by as first_slots, block_len, dirent_len_of, dirents_per_block_of}
use Rattle.image_versions.proofs.Places.{count_slots}
use Rattle.inodes_on_blocks.proofs.SlotPlaces.{are_places, one_grows}
use Rattle.std.proofs.Common.{length-drop}
use Rattle.std.proofs.lemmas.List.{take_at}
use Rattle.inodes_on_blocks.proofs.Basics.{length_slots, block_of, addrs_alone, block_alone}
use Rattle.inodes_on_blocks.proofs.LaidContent.{this_block, other_block, becomes}

-- ---- slots in a row

slot_is : (version : Version) (disk : List (List ℕ)) (d : Dinode) (s : ℕ)
    → slot_at version disk d s ≡ dirent_at version (s % dirents_per_block_of version) (content_block disk d (s / dirents_per_block_of version))
unfolding slot_at
slot_is version disk d s = refl

one_more : (version : Version) (disk : List (List ℕ)) (d : Dinode) (n : ℕ) → first_slots version disk d (suc n) ≡ first_slots version disk d n ++ slot_at version disk d n ∷ []
unfolding first_slots
one_more version disk d n = refl

-- the same slots of two inodes
slots_by : (version : Version) (disk new : List (List ℕ)) (d e : Dinode) (n : ℕ) → ((s : ℕ) → s < n → slot_at version new e s ≡ slot_at version disk d s) → first_slots version new e n ≡ first_slots version disk d n
unfolding first_slots
slots_by version disk new d e zero same = refl
slots_by version disk new d e (suc n) same =
    ap (λ (xs : List (Option Dirent)). xs ++ slot_at version new e n ∷ []) (slots_by version disk new d e n (λ s l. same s (omega arith)))
    ∙ ap (λ (x : Option Dirent). first_slots version disk d n ++ x ∷ []) (same n (omega arith))

-- a list with one element put, or one more after the last
abbrev with_one : {X : Type 0} → List X → ℕ → X → List X
with_one xs s x = take s xs ++ x ∷ drop (suc s) xs

map_one : (slots : List (Option Slot)) (s : ℕ) (slot : Option Slot) → map entry_of (with_one slots s slot) ≡ with_one (map entry_of slots) s (entry_of slot)
map_one [] zero slot = refl
map_one [] (suc s) slot = refl
map_one (y ∷ slots) zero slot = refl
map_one (y ∷ slots) (suc s) slot = ap (λ (xs : List (Option Dirent)). entry_of y ∷ xs) (map_one slots s slot)

length_one : (slots : List (Option Slot)) (s : ℕ) (slot : Option Slot) → s ≤ length slots → length (with_one slots s slot) ≡ max (length slots) (suc s)
length_one slots s slot l =
    omega (arith, length-append (take s slots) (slot ∷ drop (suc s) slots), length-take s slots, length-drop (suc s) slots)

module _ (version : Version) (disk new : List (List ℕ)) (d : Dinode) (s : ℕ) (x : Option Dirent) (this : slot_at version new d s ≡ x) (others : (q : ℕ) → q ≢ s → slot_at version new d q ≡ slot_at version disk d q) where
  -- the last slot
  slots_end : first_slots version new d (suc s) ≡ with_one (first_slots version disk d (suc s)) s x
  slots_end =
      one_more version new d s
      ∙ ap (λ (xs : List (Option Dirent)). xs ++ slot_at version new d s ∷ []) (slots_by version disk new d d s (λ q m. others q (λ z. absurd (omega (arith, z, m)))))
      ∙ ap (λ (y : Option Dirent). first_slots version disk d s ++ y ∷ []) this
      ∙ sym (ap (λ (xs : List (Option Dirent)). with_one xs s x) (one_more version disk d s) ∙ at_end (first_slots version disk d s) (slot_at version disk d s) (length_slots version disk d s))
    where
      at_end : (xs : List (Option Dirent)) (y : Option Dirent) → length xs ≡ s → with_one (xs ++ y ∷ []) s x ≡ xs ++ x ∷ []
      at_end xs y long =
          ap (λ (zs : List (Option Dirent)). zs ++ x ∷ drop (suc s) (xs ++ y ∷ [])) (take_at xs (y ∷ []) s long)
          ∙ ap (λ (zs : List (Option Dirent)). xs ++ x ∷ zs) (drop_all (suc s) (xs ++ y ∷ []) (omega (arith, length-append xs (y ∷ []), long)))

  -- one before it
  one_before : (xs : List (Option Dirent)) (y : Option Dirent) → s < length xs → with_one xs s x ++ y ∷ [] ≡ with_one (xs ++ y ∷ []) s x
  one_before xs y l =
      append_assoc (take s xs) (x ∷ drop (suc s) xs) (y ∷ [])
      ∙ ap (λ (zs : List (Option Dirent)). zs ++ x ∷ (drop (suc s) xs ++ y ∷ [])) (sym (take-append-le s xs (y ∷ []) (omega arith)))
      ∙ ap (λ (zs : List (Option Dirent)). take s (xs ++ y ∷ []) ++ x ∷ zs) (sym (drop-append-le (suc s) xs (y ∷ []) (omega arith)))

  slots_then : (n : ℕ) → s < n → first_slots version new d n ≡ with_one (first_slots version disk d n) s x
  slots_then zero l = absurd (omega arith)
  slots_then (suc n) l = elim (same_or s n) [
    | inl e ↦ subst (λ (m : ℕ). first_slots version new d (suc m) ≡ with_one (first_slots version disk d (suc m)) s x) e slots_end
    | inr ne ↦
        one_more version new d n
        ∙ ap (λ (xs : List (Option Dirent)). xs ++ slot_at version new d n ∷ []) (slots_then n (omega (arith, l, ne)))
        ∙ ap (λ (y : Option Dirent). with_one (first_slots version disk d n) s x ++ y ∷ []) (others n (λ e. ne (sym e)))
        ∙ one_before (first_slots version disk d n) (slot_at version disk d n) (omega (arith, l, ne, length_slots version disk d n))
        ∙ sym (ap (λ (xs : List (Option Dirent)). with_one xs s x) (one_more version disk d n))
  ]

-- ---- the directory

-- the slots of one that has this many and one more, with that one put
with_last : (xs ys : List (Option Dirent)) (s : ℕ) (x : Option Dirent) → length ys ≡ s → take s xs ≡ ys → length xs ≡ suc s → with_one xs s x ≡ with_one ys s x
with_last xs ys s x long front many =
    ap (λ (zs : List (Option Dirent)). zs ++ x ∷ drop (suc s) xs) (front ∙ sym (take_all s ys (omega (arith, long))))
    ∙ ap (λ (zs : List (Option Dirent)). take s ys ++ x ∷ zs) (drop_all (suc s) xs (omega (arith, many)) ∙ sym (drop_all (suc s) ys (omega (arith, long))))

module _ (disk new : List (List ℕ)) (owner : ℕ → ℕ) (i s count : ℕ) (slots : List (Option Slot)) (slot : Option Slot) (entry : Dirent) (d : Dinode)
    (h : IsLaidOut disk owner i d (record { count = count; kind = Directory slots })) (past : s ≤ length slots) (limit : dirent_len_of (version_in disk) * suc s ≤ largest_size)
    (same : entry_of slot ≡ Some entry) (put : IsSlotPut disk new d s entry) where
  abbrev version : Version
  version = version_in disk

  abbrev was : Node
  was = record { count = count; kind = Directory slots }

  abbrev now : Node
  now = record { count = count; kind = Directory (slots_with slots s slot) }

  abbrev e : Dinode
  e = record d { size = max d.size (dirent_len_of version * suc s) }

  abbrev b : ℕ
  b = block_number (numbers_of disk d) (s / dirents_per_block_of version)

  block_now : content_block new d (s / dirents_per_block_of version) ≡ recovered new b
  block_now = this_block disk new owner i (s / dirents_per_block_of version) d was h put.some put.block

  this_slot : slot_at version new d s ≡ Some entry
  this_slot = slot_is version new d s ∙ ap (dirent_at version (s % dirents_per_block_of version)) block_now ∙ reads_back version (recovered disk b) (recovered new b) (s % dirents_per_block_of version) entry put.room put.spelled put.written

  other_slot : (q : ℕ) → q ≢ s → slot_at version new d q ≡ slot_at version disk d q
  other_slot q ne = elim (same_or (q / dirents_per_block_of version) (s / dirents_per_block_of version)) [
    | inr apart ↦ slot_is version new d q ∙ ap (dirent_at version (q % dirents_per_block_of version)) (other_block disk new owner i (s / dirents_per_block_of version) d was h put.some put.block (q / dirents_per_block_of version) apart) ∙ sym (slot_is version disk d q)
    | inl same ↦
        slot_is version new d q
        ∙ ap (λ (k : ℕ). dirent_at version (q % dirents_per_block_of version) (content_block new d k)) same
        ∙ ap (dirent_at version (q % dirents_per_block_of version)) block_now
        ∙ others_stay version (recovered disk b) (recovered new b) (s % dirents_per_block_of version) (q % dirents_per_block_of version) entry put.room put.spelled (λ r. ne (are_places version q s same r)) put.written
        ∙ ap (dirent_at version (q % dirents_per_block_of version)) (sym (block_of disk d (s / dirents_per_block_of version)))
        ∙ ap (λ (k : ℕ). dirent_at version (q % dirents_per_block_of version) (content_block disk d k)) (sym same)
        ∙ sym (slot_is version disk d q)
  ]

  held : first_slots version disk d (length slots) ≡ map entry_of slots
  held = ap (first_slots version disk d) (sym (count_slots version (length slots)).0 ∙ ap (λ (n : ℕ). n / dirent_len_of version) (sym h.inode.size)) ∙ h.content

  grows : max d.size (dirent_len_of version * suc s) ≡ dirent_len_of version * max (length slots) (suc s)
  grows = ap (λ (n : ℕ). max n (dirent_len_of version * suc s)) h.inode.size ∙ (one_grows version (length slots) s past).0

  -- within the slots, and after them
  slots_now : first_slots version new d (max (length slots) (suc s)) ≡ with_one (map entry_of slots) s (Some entry)
  slots_now = elim (same_or s (length slots)) [
    | inr ne ↦
        let many : max (length slots) (suc s) ≡ length slots = omega (arith, past, ne) in
        ap (first_slots version new d) many
        ∙ slots_then version disk new d s (Some entry) this_slot other_slot (length slots) (omega (arith, past, ne))
        ∙ ap (λ (xs : List (Option Dirent)). with_one xs s (Some entry)) held
    | inl is ↦
        let many : max (length slots) (suc s) ≡ suc s = omega (arith, is) in
        let front : first_slots version disk d s ≡ map entry_of slots = ap (first_slots version disk d) is ∙ held in
        let long : length (first_slots version disk d s) ≡ s = length_slots version disk d s in
        ap (first_slots version new d) many
        ∙ slots_then version disk new d s (Some entry) this_slot other_slot (suc s) (omega arith)
        ∙ with_last (first_slots version disk d (suc s)) (map entry_of slots) s (Some entry) (ap length (sym front) ∙ long)
        (ap (take s) (one_more version disk d s) ∙ take_at (first_slots version disk d s) (slot_at version disk d s ∷ []) s long ∙ front) (length_slots version disk d (suc s))
  ]

  content_now : first_slots version new e (e.size / dirent_len_of version) ≡ map entry_of (slots_with slots s slot)
  content_now =
      ap (first_slots version new e) (ap (λ (n : ℕ). n / dirent_len_of version) grows ∙ (count_slots version (max (length slots) (suc s))).0)
      ∙ slots_by version new new d e (max (length slots) (suc s)) (λ q _. slot_is version new e q ∙ ap (dirent_at version (q % dirents_per_block_of version)) (block_alone new d e refl (q / dirents_per_block_of version)) ∙ sym (slot_is version new d q))
      ∙ slots_now
      ∙ ap (λ (x : Option Dirent). with_one (map entry_of slots) s x) (sym same)
      ∙ sym (map_one slots s slot)

  there : (k : ℕ) → block_len * k < max d.size (dirent_len_of version * suc s) → block_number (numbers_of disk d) k ≢ 0
  there k l = elim (same_or k (s / dirents_per_block_of version)) [
    | inl is ↦ subst (λ (n : ℕ). block_number (numbers_of disk d) n ≢ 0) (sym is) put.some
    | inr ne ↦
        let size : d.size ≡ dirent_len_of version * length slots = h.inode.size in
        h.room.there k (subst (λ (n : ℕ). block_len * k < n) (sym size) ((one_grows version (length slots) s past).1 k (subst (λ (n : ℕ). block_len * k < max n (dirent_len_of version * suc s)) size l) ne))
  ]

  pub slot_laid : Becomes disk new owner owner i d e now
  slot_laid =
      let is = h.inode in
      let many : max d.size (dirent_len_of version * suc s) ≡ dirent_len_of version * length (slots_with slots s slot) = grows ∙ ap (λ (n : ℕ). dirent_len_of version * n) (sym (length_one slots s slot past)) in
      becomes disk new owner i (s / dirents_per_block_of version) d was h put.some put.block e now refl
      (subst (λ (z : Super). IsInode z.version e now) (sym put.block.sizes) (record { kind = is.kind; count = is.count; size = many; device = tt }))
      (subst (λ (z : Super). first_slots z.version new e (e.size / dirent_len_of z.version) ≡ map entry_of (slots_with slots s slot)) (sym put.block.sizes) content_now)
      (record {
        limit = (let room = h.room.limit in omega (arith, room, limit));
        there = λ k l. subst (λ (xs : List ℕ). block_number xs k ≢ 0) (sym (addrs_alone disk d e refl)) (there k l);
      })
