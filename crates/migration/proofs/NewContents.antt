-- The content of a new node is read back: its bytes, and the slots of a directory.
use Rattle.std.proofs.Common.{◌≡◌, ◌∙◌, sym, refl, ap, subst, arith, ℕ, zero, suc, ◌+◌, ◌-◌, ◌*◌, ◌/◌, ◌%◌, ◌<◌, ◌≤◌, List, [], ◌∷◌, ◌++◌, length, take, drop, replicate, get_or, Option, Some, None}
use Rattle.std.proofs.lemmas.List.{take_all, take_at, take_more, take-take}
use Rattle.std.proofs.Math.Seq.{take-add}
use Rattle.std.specs.Prelude.{All}
use Rattle.fs_layout.specs.Widths.{block_len}
use Rattle.image_versions.specs.Versions.{dirents_per_block_of}
use Rattle.image_versions.specs.declared.version.Version.{Version}
use Rattle.image_versions.proofs.Places.{count_slots, in_their_blocks, in_their_content, inside}
use Rattle.fs_layout.specs.Entry.{IsDirent, dirent_at, dirent_of}
use Rattle.fs_layout.proofs.Entries.{dirent_of-spell, length-spell_dirent}
use Rattle.image_tree.specs.Inodes.{blocks_for, content_block, first_slots, front_blocks, slot_at}
use Rattle.mkfs.specs.Image.{padded, whole}
use Rattle.mkfs.proofs.Pieces.{AreLong, length-records, part-of-part, record-there}
use Rattle.migration.specs.Vocabulary.{Dinode, Dirent, content_of, dirent_len_of, slots_of}
use Rattle.migration.specs.Nodes.{spell_slot, spell_slots}

-- the blocks of a content, with zeros after it
abbrev pub HasContent : List (List ℕ) → Dinode → List ℕ → Type 0
HasContent disk d content = (k : ℕ) → block_len * k < length content → content_block disk d k ≡ take block_len (drop (block_len * k) (whole content))

-- ---- bytes

front-are : (disk : List (List ℕ)) (d : Dinode) (content : List ℕ) (n : ℕ) → n ≤ blocks_for (length content) → HasContent disk d content
    → front_blocks disk d n ≡ take (block_len * n) (whole content)
unfolding front_blocks
front-are disk d content zero h at = refl
front-are disk d content (suc n) h at =
    let bytes : List ℕ = whole content in
    let count : block_len * n + block_len ≡ block_len * suc n = omega arith in
    ap (λ (xs : List ℕ). xs ++ content_block disk d n) (front-are disk d content n (omega arith) at)
    ∙ ap (λ (xs : List ℕ). take (block_len * n) bytes ++ xs) (at n (omega arith))
    ∙ sym (take-add (block_len * n) block_len bytes)
    ∙ ap (λ (k : ℕ). take k bytes) count

take-whole : (bytes : List ℕ) → take (length bytes) (whole bytes) ≡ bytes
unfolding whole padded
take-whole bytes = take_at bytes (replicate (block_len * blocks_for (length bytes) - length bytes) 0) (length bytes) refl

pub content-read : (disk : List (List ℕ)) (d : Dinode) (content : List ℕ) → d.size ≡ length content → HasContent disk d content → content_of disk d ≡ content
content-read disk d content size at =
    let n : ℕ = blocks_for (length content) in
    let same : n ≤ n = omega arith in
    ap (λ (k : ℕ). take k (front_blocks disk d (blocks_for k))) size
    ∙ ap (take (length content)) (front-are disk d content n same at)
    ∙ take-take (length content) (block_len * n) (whole content) (omega arith)
    ∙ take-whole content

-- ---- slots

-- a slot that is read back: an entry that can be spelled
abbrev pub IsRead : Version → Option Dirent → Type 0
IsRead v None = ⊥
IsRead v (Some entry) = IsDirent v entry

slot-width : (v : Version) (slot : Option Dirent) → IsRead v slot → length (spell_slot v slot) ≡ dirent_len_of v
slot-width v None h = absurd h
slot-width v (Some entry) h = length-spell_dirent v entry h

slot-read : (v : Version) (slot : Option Dirent) → IsRead v slot → dirent_of v (spell_slot v slot) ≡ slot
slot-read v None h = absurd h
slot-read v (Some entry) h = dirent_of-spell v entry h

long-slots : (v : Version) (slots : List (Option Dirent)) → All (IsRead v) slots → AreLong (spell_slot v) (dirent_len_of v) slots
long-slots v slots h = λ i d l. slot-width v (get_or slots i d) (h i d l)

pub length-spelled : (v : Version) (slots : List (Option Dirent)) → All (IsRead v) slots → length (spell_slots v slots) ≡ dirent_len_of v * length slots
length-spelled v slots h = length-records (spell_slot v) (dirent_len_of v) slots (long-slots v slots h)

-- as many slots as were spelled
pub count-spelled : (v : Version) (slots : List (Option Dirent)) → All (IsRead v) slots → length (spell_slots v slots) / dirent_len_of v ≡ length slots
count-spelled v slots h = ap (λ (n : ℕ). n / dirent_len_of v) (length-spelled v slots h) ∙ (count_slots v (length slots)).0

entry-there : (v : Version) (slots : List (Option Dirent)) (s : ℕ) (rest : List ℕ) → All (IsRead v) slots → s < length slots
    → dirent_at v (s % dirents_per_block_of v) (take block_len (drop (block_len * (s / dirents_per_block_of v)) (spell_slots v slots ++ rest))) ≡ get_or slots s None
entry-there v slots s rest h l =
    let bytes : List ℕ = spell_slots v slots ++ rest in
    let width : ℕ = dirent_len_of v in
    let here : ℕ = s % dirents_per_block_of v in
    let block : ℕ = s / dirents_per_block_of v in
    let stands = in_their_blocks v s in
    ap (dirent_of v)
    (part-of-part bytes width (width * here) block_len (block_len * block) (width * s) (inside v here stands.0) (sym stands.1)
    ∙ record-there (spell_slot v) (dirent_len_of v) slots s None rest (long-slots v slots h) l)
    ∙ slot-read v (get_or slots s None) (h s None l)

slot-there : (v : Version) (disk : List (List ℕ)) (d : Dinode) (slots : List (Option Dirent)) (s : ℕ) → All (IsRead v) slots → HasContent disk d (spell_slots v slots)
    → s < length slots → slot_at v disk d s ≡ get_or slots s None
unfolding slot_at whole padded
slot-there v disk d slots s h at l =
    let content : List ℕ = spell_slots v slots in
    let rest : List ℕ = replicate (block_len * blocks_for (length content) - length content) 0 in
    let block : ℕ = s / dirents_per_block_of v in
    let below : s < length content / dirent_len_of v = subst (λ (n : ℕ). s < n) (sym (count-spelled v slots h)) l in
    let within : block_len * block < length content = (in_their_content v s (length content) below).1 in
    ap (dirent_at v (s % dirents_per_block_of v)) (at block within) ∙ entry-there v slots s rest h l

first-are : (v : Version) (disk : List (List ℕ)) (d : Dinode) (slots : List (Option Dirent)) (n : ℕ) → n ≤ length slots
    → ((s : ℕ) → s < length slots → slot_at v disk d s ≡ get_or slots s None) → first_slots v disk d n ≡ take n slots
unfolding first_slots
first-are v disk d slots zero h at = refl
first-are v disk d slots (suc n) h at =
    let count : n + 1 ≡ suc n = omega arith in
    ap (λ (xs : List (Option Dirent)). xs ++ slot_at v disk d n ∷ []) (first-are v disk d slots n (omega arith) at)
    ∙ ap (λ (x : Option Dirent). take n slots ++ x ∷ []) (at n (omega arith))
    ∙ sym (take_more slots n None (omega arith))
    ∙ ap (λ (k : ℕ). take k slots) count

pub slots-read : (v : Version) (disk : List (List ℕ)) (d : Dinode) (slots : List (Option Dirent)) → All (IsRead v) slots → HasContent disk d (spell_slots v slots)
    → d.size ≡ length (spell_slots v slots) → slots_of v disk d ≡ slots
slots-read v disk d slots h at size =
    let count : d.size / dirent_len_of v ≡ length slots = ap (λ (n : ℕ). n / dirent_len_of v) size ∙ count-spelled v slots h in
    let same : length slots ≤ length slots = omega arith in
    ap (first_slots v disk d) count
    ∙ first-are v disk d slots (length slots) same (λ s l. slot-there v disk d slots s h at l)
    ∙ take_all (length slots) slots same
