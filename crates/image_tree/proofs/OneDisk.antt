-- Freeing leaves one disk: inodes, bits and what the other blocks show fix each byte outside the log.
use Rattle.image_tree.proofs.Vocabulary.{Version, ◌≡◌, ◌≢◌, inl, inr, ℕ, zero, suc, ◌+◌, ◌-◌, ◌*◌, ◌/◌, ◌%◌, ◌^◌, ◌<◌, ◌≤◌, ◌==◌, true, false, List, [], length, get_or, drop, refl, sym, ◌∙◌, ap, subst, arith, All, cases_eq, cases_lt, false≢true, get_or_past, Super, bit_of, dinode_at, block_len, inodes_per_block, sizes_of, recovered, logged, place_of, IsOutsideLog, inode_of, numbers_by, is_marked, UpToLog, is_orphan, HasPlace, IsFreedDisk, FreedDisksAgree}
use Rattle.image_tree.specs.Vocabulary.{HasBytes, HasWholeBlocks}
use Rattle.fs_layout.specs.Bytes.{IsBytes, record_at}
use Rattle.fs_layout.specs.Inode.{spell_dinode}
use Rattle.fs_layout.specs.Widths.{inode_len}
use Rattle.fs_layout.proofs.Inodes.{spell-dinode_of}
use Rattle.std.specs.Int.{bit_at}
use Rattle.std.proofs.lemmas.Nat.Bits.{bit_at-lt, same_from_bits_below}
use Rattle.std.proofs.lemmas.List.{ext_get_or, get_or-drop, get_or-take, length-drop, length-take-le}
use Rattle.image_tree.proofs.Contents.{pick}
use Rattle.image_tree.proofs.Layouts.{length-logged, place_below}
use Rattle.image_tree.proofs.Puts.{good_super}

-- ---- a block of bits

same_digit : (a b : ℕ) → a < 2 → b < 2 → (a == 1) ≡ (b == 1) → a ≡ b
same_digit zero zero la lb e = refl
same_digit zero (suc zero) la lb e = absurd (cc e)
same_digit (suc zero) zero la lb e = absurd (cc e)
same_digit (suc zero) (suc zero) la lb e = refl
same_digit (suc (suc a)) b la lb e = absurd (omega (arith, la))
same_digit a (suc (suc b)) la lb e = absurd (omega (arith, lb))

bit_at_place : (x : List ℕ) (i k : ℕ) → k < 8 → bit_of x (8 * i + k) ≡ (bit_at (get_or x i 0) k == 1)
bit_at_place x i k lt =
    let byte : (8 * i + k) / 8 ≡ i = omega (arith, lt) in
    let place : (8 * i + k) % 8 ≡ k = omega (arith, lt) in
    ap (λ (n : ℕ). bit_at (get_or x n 0) ((8 * i + k) % 8) == 1) byte ∙ ap (λ (n : ℕ). bit_at (get_or x i 0) n == 1) place

same_bits : (x y : List ℕ) → length x ≡ block_len → length y ≡ block_len → IsBytes x → IsBytes y → ((b : ℕ) → bit_of x b ≡ bit_of y b) → x ≡ y
same_bits x y lx ly bx by same = ext_get_or 0 x y (lx ∙ sym ly)
    (λ i lt.
    let a : get_or x i 0 < 2 ^ 8 = bx i in
    let b : get_or y i 0 < 2 ^ 8 = by i in
    same_from_bits_below 8 (get_or x i 0) (get_or y i 0) a b
    (λ k below.
    same_digit (bit_at (get_or x i 0) k) (bit_at (get_or y i 0) k) (bit_at-lt (get_or x i 0) k) (bit_at-lt (get_or y i 0) k)
    (sym (bit_at_place x i k below) ∙ same (8 * i + k) ∙ bit_at_place y i k below)))

-- ---- a block of inodes

byte_in : (x : List ℕ) (q r : ℕ) → r < inode_len → get_or (record_at inode_len q x) r 0 ≡ get_or x (inode_len * q + r) 0
byte_in x q r lt = get_or-take inode_len (drop (inode_len * q) x) r 0 lt ∙ get_or-drop (inode_len * q) x r 0

bytes_in : (x : List ℕ) (q : ℕ) → length x ≡ block_len → q < inodes_per_block → IsBytes x → length (record_at inode_len q x) ≡ inode_len → IsBytes (record_at inode_len q x)
bytes_in x q l lt are long r = elim (cases_lt r inode_len) [
  | inl low ↦ subst (λ (n : ℕ). n < 256) (sym (byte_in x q r low)) (are (inode_len * q + r))
  | inr high ↦ subst (λ (n : ℕ). n < 256) (sym (get_or_past (record_at inode_len q x) r 0 (subst (λ (n : ℕ). n ≤ r) (sym long) high))) (omega arith)
]

record_is : (x : List ℕ) (q : ℕ) → length x ≡ block_len → IsBytes x → q < inodes_per_block → record_at inode_len q x ≡ spell_dinode (dinode_at q x)
record_is x q l are lt =
    let rest = length-drop (inode_len * q) x in
    let long : length (record_at inode_len q x) ≡ inode_len = length-take-le inode_len (drop (inode_len * q) x) (omega (arith, rest, l, lt)) in
    sym (spell-dinode_of (record_at inode_len q x) long (bytes_in x q l lt are long))

same_inodes : (x y : List ℕ) → length x ≡ block_len → length y ≡ block_len → IsBytes x → IsBytes y → ((q : ℕ) → q < inodes_per_block → dinode_at q x ≡ dinode_at q y) → x ≡ y
same_inodes x y lx ly bx by same = ext_get_or 0 x y (lx ∙ sym ly)
    (λ i lt.
    let q : ℕ = i / inode_len in
    let r : ℕ = i % inode_len in
    let below : q < inodes_per_block = omega (arith, lt, lx) in
    let short : r < inode_len = omega arith in
    let at : i ≡ inode_len * q + r = omega arith in
    ap (λ (k : ℕ). get_or x k 0) at ∙ sym (byte_in x q r short)
    ∙ ap (λ (l : List ℕ). get_or l r 0) (record_is x q lx bx below ∙ ap spell_dinode (same q below) ∙ sym (record_is y q ly by below))
    ∙ byte_in y q r short ∙ ap (λ (k : ℕ). get_or y k 0) (sym at))

-- ---- a block as recovery leaves it

whole_recovered : (v : Version) (d : List (List ℕ)) (b : ℕ) → HasWholeBlocks d → UpToLog v d → b < (sizes_of d).size → length (recovered d b) ≡ block_len
unfolding recovered
whole_recovered v d b whole good lt =
    let size = good.0.1 in
    let count = good.1.count in
    let g = good_super v d good in let l = g.log in let n = g.inodes in let m = g.bitmap in let k = g.nlog in
    let copies = length-logged d in
    whole (place_of (sizes_of d).logstart (logged d) b) []
    (place_below (sizes_of d).logstart b _ (length (logged d)) (length d) (omega (arith, size, lt)) (omega (arith, size, count, copies, l, n, m, k)))

bytes_recovered : (d : List (List ℕ)) (b : ℕ) → HasBytes d → IsBytes (recovered d b)
unfolding recovered
bytes_recovered d b are = are (place_of (sizes_of d).logstart (logged d) b)

-- ---- two disks on which the same was freed

module _ (v : Version) (d : List (List ℕ)) where
  block_whole : (e : List (List ℕ)) (b : ℕ) → IsFreedDisk v d e → b < (sizes_of d).size → length (recovered e b) ≡ block_len
  block_whole e b disk lt = whole_recovered v e b disk.whole disk.good (subst (λ (s : Super). b < s.size) (sym disk.sizes) lt)

  inode_is : (e : List (List ℕ)) (k q : ℕ) → IsFreedDisk v d e → q < inodes_per_block
      → inode_of e (inodes_per_block * k + q) ≡ dinode_at q (recovered e ((sizes_of d).inodestart + k))
  unfolding inode_of
  inode_is e k q disk lt =
      let block : (inodes_per_block * k + q) / inodes_per_block ≡ k = omega (arith, lt) in
      let place : (inodes_per_block * k + q) % inodes_per_block ≡ q = omega (arith, lt) in
      ap (λ (s : Super). dinode_at ((inodes_per_block * k + q) % inodes_per_block) (recovered e (s.inodestart + (inodes_per_block * k + q) / inodes_per_block))) disk.sizes
      ∙ ap (λ (n : ℕ). dinode_at ((inodes_per_block * k + q) % inodes_per_block) (recovered e ((sizes_of d).inodestart + n))) block
      ∙ ap (λ (n : ℕ). dinode_at n (recovered e ((sizes_of d).inodestart + k))) place

  marked_is : (e : List (List ℕ)) (b : ℕ) → IsFreedDisk v d e → is_marked e b ≡ bit_of (recovered e (sizes_of d).bmapstart) b
  marked_is e b disk = ap (λ (s : Super). bit_of (recovered e s.bmapstart) b) disk.sizes

  -- a bit that stays set is of a block that none of those nodes names
  none_names : (e : List (List ℕ)) (b : ℕ) → IsFreedDisk v d e → is_marked e b ≡ true → (i : ℕ) → is_orphan d i ≡ true → All (λ c. c ≢ 0 → c ≢ b) (numbers_by d i)
  none_names e b disk set i is = λ k z lt ne same.
      false≢true (sym (disk.freed.cleared i is k z lt ne) ∙ ap (is_marked e) same ∙ set)

  set_in_both : (e o : List (List ℕ)) (b : ℕ) → IsFreedDisk v d e → IsFreedDisk v d o → is_marked e b ≡ true → is_marked o b ≡ true
  set_in_both e o b one other set =
      let none = none_names e b one set in
      other.freed.kept b none ∙ sym (one.freed.kept b none) ∙ set

  module _ (e o : List (List ℕ)) (one : IsFreedDisk v d e) (other : IsFreedDisk v d o) where
    marked_alike : (b : ℕ) → is_marked e b ≡ is_marked o b
    marked_alike b = pick (is_marked e b) (λ t. t ≡ is_marked o b) (λ set. sym (set_in_both e o b one other set))
        (λ clear. pick (is_marked o b) (λ t. false ≡ t) (λ set. absurd (false≢true (sym clear ∙ set_in_both o e b other one set))) (λ _. refl))

    inode_alike : (i : ℕ) → HasPlace (sizes_of d) i → inode_of e i ≡ inode_of o i
    inode_alike i place = pick (is_orphan d i) (λ t. is_orphan d i ≡ t → inode_of e i ≡ inode_of o i)
        (λ _ is. one.freed.nodes i is ∙ sym (other.freed.nodes i is))
        (λ _ isnt. one.freed.inodes i isnt place ∙ sym (other.freed.inodes i isnt place)) refl

    size_high : (sizes_of d).bmapstart < (sizes_of d).size
    size_high = subst (λ (s : Super). s.bmapstart < s.size) one.sizes (let g = good_super v e one.good in let m = g.bitmap in omega (arith, m))

    bitmap_alike : recovered e (sizes_of d).bmapstart ≡ recovered o (sizes_of d).bmapstart
    bitmap_alike =
        same_bits (recovered e (sizes_of d).bmapstart) (recovered o (sizes_of d).bmapstart)
        (block_whole e (sizes_of d).bmapstart one size_high) (block_whole o (sizes_of d).bmapstart other size_high)
        (bytes_recovered e (sizes_of d).bmapstart one.bytes) (bytes_recovered o (sizes_of d).bmapstart other.bytes)
        (λ b. sym (marked_is e b one) ∙ marked_alike b ∙ marked_is o b other)

    inodes_alike : (k : ℕ) → (sizes_of d).inodestart + k < (sizes_of d).bmapstart → recovered e ((sizes_of d).inodestart + k) ≡ recovered o ((sizes_of d).inodestart + k)
    inodes_alike k below =
        let b : ℕ = (sizes_of d).inodestart + k in
        let high : b < (sizes_of d).size = (let s = size_high in omega (arith, s, below)) in
        same_inodes (recovered e b) (recovered o b) (block_whole e b one high) (block_whole o b other high)
        (bytes_recovered e b one.bytes) (bytes_recovered o b other.bytes)
        (λ q lt.
        let in_block : (inodes_per_block * k + q) / inodes_per_block ≡ k = omega (arith, lt) in
        sym (inode_is e k q one lt)
        ∙ inode_alike (inodes_per_block * k + q) (subst (λ (n : ℕ). (sizes_of d).inodestart + n < (sizes_of d).bmapstart) (sym in_block) below)
        ∙ inode_is o k q other lt)

    pub blocks_alike : (b : ℕ) → IsOutsideLog (sizes_of d) b → recovered e b ≡ recovered o b
    blocks_alike b out = elim (cases_lt b (sizes_of d).inodestart) [
      | inl front ↦ one.freed.others b (out, inl front) ∙ sym (other.freed.others b (out, inl front))
      | inr past ↦ elim (cases_lt b (sizes_of d).bmapstart) [
        | inl low ↦
            let at : b ≡ (sizes_of d).inodestart + (b - (sizes_of d).inodestart) = omega (arith, past) in
            ap (recovered e) at
            ∙ inodes_alike (b - (sizes_of d).inodestart) (subst (λ (n : ℕ). n < (sizes_of d).bmapstart) at low)
            ∙ ap (recovered o) (sym at)
        | inr high ↦ elim (cases_eq b (sizes_of d).bmapstart) [
          | inl is ↦ ap (recovered e) is ∙ bitmap_alike ∙ ap (recovered o) (sym is)
          | inr ne ↦
              let behind : (sizes_of d).bmapstart < b = omega (arith, high, ne) in
              one.freed.others b (out, inr behind) ∙ sym (other.freed.others b (out, inr behind))
        ]
      ]
    ]

pub freed_disks_agree : FreedDisksAgree
freed_disks_agree v old one other first second b out = blocks_alike v old one other first second b out
