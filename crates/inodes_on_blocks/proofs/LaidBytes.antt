-- Bytes of a file that are put, within its size or from it on.
use Rattle.inodes_on_blocks.proofs.Vocabulary.{◌≡◌, ◌≢◌, ⊎_elim, ℕ, zero, suc, ◌+◌, ◌-◌, ◌*◌, ◌<◌, ◌≤◌, inl, inr, refl, sym, ◌∙◌, ap, subst, arith, List, [], ◌∷◌, ◌++◌, length, length-append, length-take, take, drop, append_assoc, max, nat_lt, if◌then◌else◌, cases_lt, take-take, take_all, drop_all, take-append-le, drop-append-le, HasWholeBlocks, Dinode, overwrite, Node, File, numbers_of, block_number, content_block, blocks_for, front_blocks, content_of, largest_size, UpToLog, same_or, IsOwned, IsBytesPut, IsLaidOut, Becomes, block_len, direct}
use Rattle.std.proofs.Common.{length-drop}
use Rattle.inodes_on_blocks.proofs.Basics.{length_front, whole_data, at_index, block_of, addrs_alone, block_alone}
use Rattle.inodes_on_blocks.proofs.LaidContent.{this_block, other_block, becomes}

-- ---- lists that are written over

over_cons : (x : ℕ) (xs bs : List ℕ) (m : ℕ) → overwrite (x ∷ xs) (suc m) bs ≡ x ∷ overwrite xs m bs
over_cons x xs bs m = let e : suc m + length bs ≡ suc (m + length bs) = omega arith in ap (λ (k : ℕ). x ∷ (take m xs ++ (bs ++ drop k (x ∷ xs)))) e

over_left : (at : ℕ) (xs ys bs : List ℕ) → at + length bs ≤ length xs → overwrite (xs ++ ys) at bs ≡ overwrite xs at bs ++ ys
over_left zero xs ys bs l = ap (λ (zs : List ℕ). bs ++ zs) (drop-append-le (0 + length bs) xs ys l) ∙ sym (append_assoc bs (drop (0 + length bs) xs) ys)
over_left (suc at) [] ys bs l = absurd (omega arith)
over_left (suc at) (x ∷ xs) ys bs l =
    over_cons x (xs ++ ys) bs at ∙ ap (λ (zs : List ℕ). x ∷ zs) (over_left at xs ys bs (omega arith)) ∙ ap (λ (zs : List ℕ). zs ++ ys) (sym (over_cons x xs bs at))

over_right : (n at : ℕ) (xs ys bs : List ℕ) → length xs ≡ n → overwrite (xs ++ ys) (n + at) bs ≡ xs ++ overwrite ys at bs
over_right n at [] ys bs e = let z : n + at ≡ at = omega (arith, e) in ap (λ (k : ℕ). overwrite ys k bs) z
over_right zero at (x ∷ xs) ys bs e = absurd (omega (arith, e))
over_right (suc n) at (x ∷ xs) ys bs e =
    let z : suc n + at ≡ suc (n + at) = omega arith in
    ap (λ (k : ℕ). overwrite (x ∷ (xs ++ ys)) k bs) z ∙ over_cons x (xs ++ ys) bs (n + at) ∙ ap (λ (zs : List ℕ). x ∷ zs) (over_right n at xs ys bs (omega (arith, e)))

take_front : (bs xs : List ℕ) (n : ℕ) → length bs ≤ n → length bs ≤ length xs → take n (bs ++ drop (length bs) xs) ≡ bs ++ drop (length bs) (take n xs)
take_front [] xs n l m = refl
take_front (b ∷ bs) [] n l m = absurd (omega arith)
take_front (b ∷ bs) (x ∷ xs) zero l m = absurd (omega arith)
take_front (b ∷ bs) (x ∷ xs) (suc n) l m = ap (λ (zs : List ℕ). b ∷ zs) (take_front bs xs n (omega arith) (omega arith))

take_over : (at n : ℕ) (xs bs : List ℕ) → at + length bs ≤ n → at + length bs ≤ length xs → take n (overwrite xs at bs) ≡ overwrite (take n xs) at bs
take_over zero n xs bs l m =
    let z : 0 + length bs ≡ length bs = omega arith in
    ap (λ (k : ℕ). take n (bs ++ drop k xs)) z ∙ take_front bs xs n (omega arith) (omega arith) ∙ ap (λ (k : ℕ). bs ++ drop k (take n xs)) (sym z)
take_over (suc at) n [] bs l m = absurd (omega arith)
take_over (suc at) zero (x ∷ xs) bs l m = absurd (omega arith)
take_over (suc at) (suc n) (x ∷ xs) bs l m =
    ap (take (suc n)) (over_cons x xs bs at) ∙ ap (λ (zs : List ℕ). x ∷ zs) (take_over at n xs bs (omega arith) (omega arith)) ∙ sym (over_cons x (take n xs) bs at)

-- ---- the blocks of a file

front_over : (disk new : List (List ℕ)) (d : Dinode) (k at : ℕ) (bs : List ℕ) → at + length bs ≤ block_len → content_block new d k ≡ overwrite (content_block disk d k) at bs
    → ((l : ℕ) → l ≢ k → content_block new d l ≡ content_block disk d l) → (n : ℕ) → ((l : ℕ) → l < n → length (content_block disk d l) ≡ block_len)
    → (k < n → front_blocks new d n ≡ overwrite (front_blocks disk d n) (block_len * k + at) bs) × (n ≤ k → front_blocks new d n ≡ front_blocks disk d n)
unfolding front_blocks
front_over disk new d k at bs fits this others zero long = (λ l. absurd (omega arith), λ _. refl)
front_over disk new d k at bs fits this others (suc n) long =
    let ih = front_over disk new d k at bs fits this others n (λ l m. long l (omega arith)) in
    let front : List ℕ = front_blocks disk d n in
    let many : length front ≡ block_len * n = length_front disk d n (λ l m. long l (omega arith)) in (
      λ l. elim (same_or k n) [
        | inr ne ↦
            ap (λ (xs : List ℕ). xs ++ content_block new d n) (ih.0 (omega (arith, l, ne)))
            ∙ ap (λ (xs : List ℕ). overwrite front (block_len * k + at) bs ++ xs) (others n (λ e. ne (sym e)))
            ∙ sym (over_left (block_len * k + at) front (content_block disk d n) bs (omega (arith, l, ne, many, fits)))
        | inl e ↦
            ap (λ (xs : List ℕ). xs ++ content_block new d n) (ih.1 (omega (arith, e)))
            ∙ ap (λ (xs : List ℕ). front ++ xs) (subst (λ (m : ℕ). content_block new d m ≡ overwrite (content_block disk d m) at bs) e this)
            ∙ sym (over_right (block_len * k) at front (content_block disk d n) bs (omega (arith, many, e)))
      ],
      λ l.
          ap (λ (xs : List ℕ). xs ++ content_block new d n) (ih.1 (omega arith))
          ∙ ap (λ (xs : List ℕ). front ++ xs) (others n (λ e. absurd (omega (arith, e, l)))),
    )

-- as many blocks of two inodes that name the same
front_by : (disk : List (List ℕ)) (d e : Dinode) → e.addrs ≡ d.addrs → (n : ℕ) → front_blocks disk e n ≡ front_blocks disk d n
unfolding front_blocks
front_by disk d e addrs zero = refl
front_by disk d e addrs (suc n) =
    ap (λ (xs : List ℕ). xs ++ content_block disk e n) (front_by disk d e addrs n) ∙ ap (λ (xs : List ℕ). front_blocks disk d n ++ xs) (block_alone disk d e addrs n)

-- fewer blocks are the front of more
fewer_blocks : (disk : List (List ℕ)) (d : Dinode) (m n : ℕ) → ((l : ℕ) → l < m + n → length (content_block disk d l) ≡ block_len) → take (block_len * m) (front_blocks disk d (m + n)) ≡ front_blocks disk d m
unfolding front_blocks
fewer_blocks disk d m zero long =
    let z : m + zero ≡ m = omega arith in
    ap (λ (k : ℕ). take (block_len * m) (front_blocks disk d k)) z ∙ take_all (block_len * m) (front_blocks disk d m) (omega (arith, length_front disk d m (λ l h. long l (omega (arith, h)))))
fewer_blocks disk d m (suc n) long =
    let z : m + suc n ≡ suc (m + n) = omega arith in
    ap (λ (k : ℕ). take (block_len * m) (front_blocks disk d k)) z
    ∙ take-append-le (block_len * m) (front_blocks disk d (m + n)) (content_block disk d (m + n)) (omega (arith, length_front disk d (m + n) (λ l h. long l (omega (arith, h)))))
    ∙ fewer_blocks disk d m n (λ l h. long l (omega (arith, h)))

length_grown : (at : ℕ) (xs ws : List ℕ) → at ≤ length xs → length (overwrite xs at ws) ≡ max (length xs) (at + length ws)
length_grown at xs ws l =
    omega (arith, length-append (take at xs) (ws ++ drop (at + length ws) xs), length-append ws (drop (at + length ws) xs), length-take at xs, length-drop (at + length ws) xs)

-- what is written over the front of a list, up to its end or past it
over_front : (whole bytes ws : List ℕ) (at size : ℕ) → bytes ≡ take size whole → size ≤ length whole → at ≤ size → at + length ws ≤ length whole
    → take (max size (at + length ws)) (overwrite whole at ws) ≡ overwrite bytes at ws
over_front whole bytes ws at size is within start fits =
    let n : ℕ = max size (at + length ws) in
    take_over at n whole ws (omega arith) fits
    ∙ ap (λ (xs : List ℕ). xs ++ (ws ++ drop (at + length ws) (take n whole))) (take-take at n whole (omega arith) ∙ sym (take-take at size whole start))
    ∙ ap (λ (xs : List ℕ). take at (take size whole) ++ (ws ++ xs)) rest
    ∙ ap (λ (xs : List ℕ). overwrite xs at ws) (sym is)
  where
    rest : drop (at + length ws) (take (max size (at + length ws)) whole) ≡ drop (at + length ws) (take size whole)
    rest =
        ⊎_elim
        (λ (l : size < at + length ws).
        drop_all (at + length ws) (take (max size (at + length ws)) whole) (omega (arith, l, length-take (max size (at + length ws)) whole))
        ∙ sym (drop_all (at + length ws) (take size whole) (omega (arith, l, length-take size whole))))
        (λ (m : at + length ws ≤ size). let same : max size (at + length ws) ≡ size = omega (arith, m) in ap (λ (n : ℕ). drop (at + length ws) (take n whole)) same)
        (cases_lt size (at + length ws))

module _ (disk new : List (List ℕ)) (owner : ℕ → ℕ) (i k at count : ℕ) (bytes written : List ℕ) (d : Dinode) (whole : HasWholeBlocks disk) (front : UpToLog disk)
    (h : IsLaidOut disk owner i d (record { count = count; kind = File bytes })) (put : IsBytesPut disk new d k at written) (start : block_len * k + at ≤ length bytes)
    (limit : block_len * k + at + length written ≤ largest_size) where
  abbrev was : Node
  was = record { count = count; kind = File bytes }

  abbrev now : Node
  now = record { count = count; kind = File (overwrite bytes (block_len * k + at) written) }

  abbrev size : ℕ
  size = max d.size (block_len * k + at + length written)

  abbrev e : Dinode
  e = record d { size = max d.size (block_len * k + at + length written) }

  there : (l : ℕ) → block_len * l < size → block_number (numbers_of disk d) l ≢ 0
  there l m = elim (same_or l k) [
    | inl is ↦ subst (λ (n : ℕ). block_number (numbers_of disk d) n ≢ 0) (sym is) put.some
    | inr ne ↦ let was_size = h.inode.size in let room = put.room in h.room.there l (omega (arith, was_size, room, m, start, ne))
  ]

  long : (l : ℕ) → l < blocks_for size → length (content_block disk d l) ≡ block_len
  long l m =
      ap length (block_of disk d l)
      ∙ whole_data disk (block_number (numbers_of disk d) l) whole front
      (at_index (IsOwned disk owner i) (numbers_of disk d) (if nat_lt l direct then l else l + 1) h.owned
      (there l (omega (arith, m)))).block

  abbrev all : List ℕ
  all = front_blocks disk d (blocks_for size)

  many : length all ≡ block_len * blocks_for size
  many = length_front disk d (blocks_for size) long

  written_over : front_blocks new d (blocks_for size) ≡ overwrite all (block_len * k + at) written
  written_over =
      let bytes_in = put.some_bytes in
      (front_over disk new d k at written put.room
      (this_block disk new owner i k d was h put.some put.block ∙ put.bytes ∙ ap (λ (xs : List ℕ). overwrite xs at written) (sym (block_of disk d k)))
      (other_block disk new owner i k d was h put.some put.block) (blocks_for size) long).0
      (omega (arith, bytes_in))

  before : bytes ≡ take d.size all
  before =
      let m : ℕ = blocks_for d.size in
      let n : ℕ = blocks_for size - blocks_for d.size in
      let split : m + n ≡ blocks_for size = omega arith in
      sym h.content
      ∙ ap (take d.size) (sym (fewer_blocks disk d m n (λ l o. long l (omega (arith, o, split)))))
      ∙ take-take d.size (block_len * m) (front_blocks disk d (m + n)) (omega arith)
      ∙ ap (λ (k : ℕ). take d.size (front_blocks disk d k)) split

  content_now : content_of new e ≡ overwrite bytes (block_len * k + at) written
  content_now =
      let was_size = h.inode.size in
      let bytes_in = put.some_bytes in
      let room = put.room in
      ap (take size) (front_by new d e refl (blocks_for size) ∙ written_over)
      ∙ over_front all bytes written (block_len * k + at) d.size before (omega (arith, many)) (omega (arith, was_size, start)) (omega (arith, many))

  pub bytes_laid : Becomes disk new owner owner i d e now
  bytes_laid =
      let is = h.inode in
      let was_size = is.size in
      becomes disk new owner i k d was h put.some put.block e now refl
      (record { kind = is.kind; count = is.count; size = omega (arith, was_size, length_grown (block_len * k + at) bytes written start); device = tt })
      content_now
      (record {
        limit = (let room = h.room.limit in omega (arith, room, limit));
        there = λ l m. subst (λ (xs : List ℕ). block_number xs l ≢ 0) (sym (addrs_alone disk d e refl)) (there l m);
      })
