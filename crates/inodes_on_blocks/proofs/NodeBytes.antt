-- The content of an inode's node is the bytes that its blocks have.
use Rattle.inodes_on_blocks.proofs.Vocabulary.{◌≡◌, ◌≢◌, ℕ, ℤ, zero, suc, ◌+◌, ◌-◌, ◌*◌, ◌/◌, ◌%◌, ◌<◌, ◌^◌, ◌==◌, ◌&&◌, Bool, true, false, List, [], ◌∷◌, ◌++◌, length, take, drop, get_or, replicate, Option, Some, None, refl, sym, ap, subst, ◌∙◌, arith, if◌then◌else◌, list_all, position_or_len, same_Some, none-some, drop-drop, length-drop, take-take, take-append-drop, Dinode, Free, Used, record_at, u16_at, u16_bytes, IsBytes, dirent_of, free_of, used_of, name_of, is_name, is_zero, spell-dirent_of, u16_at-lt, inode_of, is_free, content_block, blocks_for, front_blocks, HoldsAt, HasContent, entry_of, size_in, Slot, Node, NodeKind, Directory, File, Device, content, entries, entry_bytes, block_there, drop_of_take, front, length-front, block_len, dirent_len_of, dirents_per_block_of, name_len_of, Version, version_in, sizes_of}
use Rattle.std.proofs.lemmas.List.{length-take}
use Rattle.image_versions.proofs.Places.{count_slots, in_their_blocks, in_their_content, inside}
use Rattle.inodes_on_blocks.proofs.Basics.{shown, take_bytes, drop_bytes}

-- ---- a slot's bytes

u16_is : (n : ℕ) → n < 2 ^ 16 → u16_bytes n ≡ n % 256 ∷ n / 256 ∷ []
unfolding u16_bytes
u16_is n lt = (let high : n / 256 % 256 ≡ n / 256 = omega (arith, lt) in λ i. n % 256 ∷ high i ∷ [])

-- the number in an entry's bytes
used_number : (version : Version) (number n : ℕ) (field name : List ℕ) → used_of version n field ≡ Some (Used number name) → number ≡ n
used_number version number n field name e = by (is_name version (name_of field) && list_all is_zero (drop (position_or_len is_zero field) field)) e
  where
    by : (b : Bool) → (if b then Some (Used n (name_of field)) else None) ≡ Some (Used number name) → number ≡ n
    by true q = let same : Used n (name_of field) ≡ Used number name = same_Some _ _ q in cc
    by false q = absurd (none-some (Used number name) q)

entry_number : (version : Version) (bytes : List ℕ) (number : ℕ) (name : List ℕ) → dirent_of version bytes ≡ Some (Used number name) → number ≡ u16_at bytes 0
entry_number version bytes number name e = by (u16_at bytes 0 == 0) e
  where
    by : (b : Bool) → (if b then free_of (drop 2 bytes) else used_of version (u16_at bytes 0) (drop 2 bytes)) ≡ Some (Used number name) → number ≡ u16_at bytes 0
    by false q = used_number version number (u16_at bytes 0) (drop 2 bytes) name q
    by true q = no (list_all is_zero (drop 2 bytes)) q
      where
        no : (c : Bool) → (if c then Some Free else None) ≡ Some (Used number name) → number ≡ u16_at bytes 0
        no true z = let same : Free ≡ Used number name = same_Some _ _ z in cc
        no false z = absurd (none-some (Used number name) z)

-- bytes that are read as a slot are that slot's
slot_bytes : (version : Version) (bytes : List ℕ) (o : Option Slot) → length bytes ≡ dirent_len_of version → IsBytes bytes → dirent_of version bytes ≡ entry_of o
    → bytes ≡ entry_bytes version o
slot_bytes version bytes None long fits e = sym (spell-dirent_of version bytes Free long fits e)
slot_bytes version bytes (Some s) long fits e =
    let number = entry_number version bytes s.number s.name e in
    let low : s.number < 2 ^ 16 = subst (λ (k : ℕ). k < 2 ^ 16) (sym number) (u16_at-lt bytes 0 fits) in
    sym (spell-dirent_of version bytes (Used s.number s.name) long fits e) ∙ ap (λ (xs : List ℕ). xs ++ (s.name ++ replicate (name_len_of version - length s.name) 0)) (u16_is s.number low)

-- the bytes of a list of slots
entries_are : (version : Version) (slots : List (Option Slot)) (xs : List ℕ) → length xs ≡ dirent_len_of version * length slots → ((s : ℕ) → s < length slots → take (dirent_len_of version) (drop (dirent_len_of version * s) xs) ≡ entry_bytes version (get_or slots s None)) → xs ≡ entries version slots
unfolding entries
entries_are version [] [] long each = refl
entries_are version [] (x ∷ xs) long each = absurd (omega (arith, long))
entries_are version (o ∷ slots) xs long each =
    let start : 0 ≡ dirent_len_of version * 0 = omega arith in
    sym (take-append-drop (dirent_len_of version) xs)
    ∙ ap (λ (ys : List ℕ). ys ++ drop (dirent_len_of version) xs) (ap (λ (k : ℕ). take (dirent_len_of version) (drop k xs)) start ∙ each 0 (omega arith))
    ∙ ap (λ (ys : List ℕ). entry_bytes version o ++ ys)
    (entries_are version slots (drop (dirent_len_of version) xs) (omega (arith, long, length-drop (dirent_len_of version) xs))
    (λ s lt.
    let next : dirent_len_of version + dirent_len_of version * s ≡ dirent_len_of version * suc s = omega arith in
    ap (take (dirent_len_of version)) (drop-drop (dirent_len_of version * s) (dirent_len_of version) xs ∙ ap (λ (k : ℕ). drop k xs) next) ∙ each (suc s) (omega (arith, lt))))

module _ (disk : List (List ℕ)) (owner : ℕ → ℕ) (i : ℕ) (v : Node) (holds : HoldsAt disk owner i (Some v)) (used : is_free (inode_of disk i) ≡ false)
    (whole : (k : ℕ) → block_len * k < (inode_of disk i).size → length (content_block disk (inode_of disk i) k) ≡ block_len)
    (fits : (k : ℕ) → block_len * k < (inode_of disk i).size → IsBytes (content_block disk (inode_of disk i) k)) where
  abbrev d : Dinode
  d = inode_of disk i

  abbrev version : Version
  version = version_in disk

  abbrev entry_len : ℕ
  entry_len = dirent_len_of (version_in disk)

  abbrev per_block : ℕ
  per_block = dirents_per_block_of (version_in disk)

  abbrev block : ℕ → List ℕ
  block k = content_block disk d k

  abbrev many : ℕ
  many = blocks_for d.size

  pub all_whole : (q : ℕ) → q < many → length (block q) ≡ block_len
  all_whole q lt = whole q (omega (arith, lt))

  fronts : (n : ℕ) → front block n ≡ front_blocks disk d n
  unfolding front front_blocks
  fronts zero = refl
  fronts (suc n) = ap (λ (xs : List ℕ). xs ++ block n) (fronts n)

  -- of a file or a directory
  pub node_bytes : ((major minor : ℤ) (size : ℕ) → v.kind ≢ Device major minor size) → take d.size (front block many) ≡ content version v.kind
  node_bytes plain = by v.kind refl
    where
      by : (k : NodeKind) → v.kind ≡ k → take d.size (front block many) ≡ content version v.kind
      by (Device major minor size) is = absurd (plain major minor size is)
      by (File bytes) is = ap (take d.size) (fronts many) ∙ subst (HasContent disk d) is holds.content ∙ ap (content version) (sym is)
      by (Directory slots) is = entries_are version slots (take d.size (front block many)) long each ∙ ap (content version) (sym is)
        where
          size : d.size ≡ entry_len * length slots
          size = holds.inode.size ∙ ap (size_in version) is

          all : length (front block many) ≡ block_len * many
          all = length-front block many all_whole many (omega arith)

          long : length (take d.size (front block many)) ≡ entry_len * length slots
          long = omega (arith, length-take d.size (front block many), all, size)

          each : (s : ℕ) → s < length slots
              → take entry_len (drop (entry_len * s) (take d.size (front block many))) ≡ entry_bytes version (get_or slots s None)
          each s lt =
              let r : ℕ = entry_len * (s % per_block) in
              let q : ℕ = s / per_block in
              let F : List ℕ = front block many in
              let lies = in_their_blocks version s in
              let room = inside version (s % per_block) lies.0 in
              let few : s < d.size / entry_len = subst (λ (n : ℕ). s < n) (sym (ap (λ (n : ℕ). n / entry_len) size ∙ (count_slots version (length slots)).0)) lt in
              let within = in_their_content version s d.size few in
              let below : block_len * q < d.size = within.1 in
              let sum : block_len * q + r ≡ entry_len * s = sym lies.1 in
              let there : record_at entry_len (s % per_block) (block q) ≡ take entry_len (drop (entry_len * s) F) =
              ap (λ (xs : List ℕ). take entry_len (drop r xs)) (sym (block_there block many all_whole many q (omega arith) (omega (arith, below))))
              ∙ ap (take entry_len) (drop_of_take r block_len (drop (block_len * q) F))
              ∙ take-take entry_len (block_len - r) (drop r (drop (block_len * q) F)) (omega (arith, room))
              ∙ ap (take entry_len) (drop-drop r (block_len * q) F ∙ ap (λ (k : ℕ). drop k F) sum) in
              ap (take entry_len) (drop_of_take (entry_len * s) d.size F) ∙ take-take entry_len (d.size - entry_len * s) (drop (entry_len * s) F) (let fits_in = within.0 in omega (arith, fits_in)) ∙ sym there
              ∙ slot_bytes version (record_at entry_len (s % per_block) (block q)) (get_or slots s None)
              (omega (arith, length-take entry_len (drop r (block q)), length-drop r (block q), whole q below, room)) (take_bytes entry_len (drop r (block q)) (drop_bytes r (block q) (fits q below))) ((shown (sizes_of disk) disk refl owner i v holds used slots is).0 s lt)
