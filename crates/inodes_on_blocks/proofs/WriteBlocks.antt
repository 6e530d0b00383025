-- Bytes are written into the blocks of a file that a hart is changing, one block after the other. Nothing of it is
-- seen above.
use Rattle.inodes_on_blocks.proofs.Vocabulary.{◌≡◌, ⊎_elim, ℕ, zero, suc, ◌+◌, ◌-◌, ◌*◌, ◌/◌, ◌%◌, ◌<◌, ◌≤◌, true, false, List, [], ◌++◌, length, take, drop, Option, sym, ◌∙◌, ap, subst, arith, length-append, length-take, max, min, cases_lt, take_all, take-append-drop, Dinode, Super, IsBytes, overwrite, recovered, overwrite-overwrite, largest_size, Becomes, IsBytesPut, IsPut, Node, File, hart_count, bind, Machine, Laws, P, Wp, Both, joined, Stable, Wp-more, seen_of, table_of, blocks_between, next_block, WriteResult, front_of, with_part, write_blocks, side_by_side, some_between, next_between, Spent, size, most_recorded, Inv, World, log_of, disk_of, Carry, below, Labels, labelled, Keeps, IsChanging, log_with, block_len}
use Rattle.std.proofs.Common.{length-drop}
use Rattle.inodes_on_blocks.proofs.LaidBytes.{bytes_laid}
use Rattle.inodes_on_blocks.proofs.Basics.{good_seen, HasBlocks, extra, below_laws, drop_bytes}
use Rattle.inode_machine.specs.World as above
use Rattle.inodes_on_blocks.proofs.Changing.{owner_with}
use Rattle.inodes_on_blocks.proofs.LocateSteps.{Between, Fits, locate_steps}
use Rattle.inodes_on_blocks.proofs.NumberPuts.{sized}
use Rattle.inodes_on_blocks.proofs.PartSteps.{MakesPart, s-part}
use Rattle.inodes_on_blocks.proofs.ReadParts.{many_between, none_there}

-- a file's node
abbrev pub file : ℕ → List ℕ → Node
file count bytes = record { count = count; kind = File bytes }

-- ---- one part

front_long : (at : ℕ) (bytes : List ℕ) → 0 < length bytes → (0 < length (front_of at bytes)) × (at % block_len + length (front_of at bytes) ≤ block_len) × (length (front_of at bytes) ≤ length bytes)
front_long at bytes some = let part = length-take (block_len - at % block_len) bytes in (omega (arith, part, some), omega (arith, part), omega (arith, part))

pub part_makes : (sizes : Super) (h n at z count : ℕ) (bytes cur : List ℕ) (c : Carry) (o : Option Node) → 0 < length bytes → at ≤ length cur → at + length (front_of at bytes) ≤ largest_size
    → MakesPart sizes h n (at / block_len) z (max z (at + length (front_of at bytes))) at bytes c o (file count cur) (file count (overwrite cur at (front_of at bytes)))
part_makes sizes h n at z count bytes cur c o some start limit d b old r g at_ shows changing ne number long are made =
    subst (λ (k : ℕ). Becomes disk new (owner_with h n r) (owner_with h n r) n (sized z d) (sized (max z (k + length front)) d) (file count (overwrite cur k front))) sum
    (bytes_laid disk new (owner_with h n r) n (at / block_len) (at % block_len) count cur front (sized z d) (good_seen (log_of r).sizes (seen_of (log_of r)) (length (log_of r).contents) shows.blocks.seen).whole shows.blocks.running.front changing.laid put
    (omega (arith, start)) (omega (arith, limit)))
  where
    disk : List (List ℕ)
    disk = disk_of (log_of r)

    new : List (List ℕ)
    new = disk_of (log_with h b (with_part at bytes old) r)

    front : List ℕ
    front = front_of at bytes

    sum : block_len * (at / block_len) + at % block_len ≡ at
    sum = omega arith

    put : IsBytesPut disk new (sized z d) (at / block_len) (at % block_len) front
    put = record {
      some = λ q. ne (sym number ∙ q);
      block = subst (IsPut disk new) (sym number) made.put;
      some_bytes = (front_long at bytes some).0;
      room = (front_long at bytes some).1;
      bytes = ap (recovered new) number ∙ made.now ∙ ap (λ (xs : List ℕ). overwrite xs (at % block_len) front) (sym (ap (recovered disk) number ∙ made.was));
    }

-- ---- what the parts are together

-- the first part, and k bytes after it
front_then : (at k : ℕ) (bytes : List ℕ) → front_of at bytes ++ take k (drop (length (front_of at bytes)) bytes) ≡ take (length (front_of at bytes) + k) bytes
front_then at k bytes =
    let n : ℕ = length (front_of at bytes) in
    let part = length-take (block_len - at % block_len) bytes in
    let less : n + k - n ≡ k = omega arith in
    let whole : take (n + k) (take n bytes) ≡ front_of at bytes = take_all (n + k) (take n bytes) (omega (arith, length-take n bytes)) ∙ front_is in
    ap (λ (xs : List ℕ). xs ++ take k (drop n bytes)) (sym whole) ∙ ap (λ (j : ℕ). take (n + k) (take n bytes) ++ take j (drop n bytes)) (sym less) ∙ side_by_side (n + k) n bytes
  where
    front_is : take (length (front_of at bytes)) bytes ≡ front_of at bytes
    front_is =
        let part = length-take (block_len - at % block_len) bytes in
        ⊎_elim
        (λ (lt : block_len - at % block_len < length bytes). let same : length (front_of at bytes) ≡ block_len - at % block_len = omega (arith, part, lt) in ap (λ (j : ℕ). take j bytes) same)
        (λ (le : length bytes ≤ block_len - at % block_len). take_all (length (front_of at bytes)) bytes (omega (arith, part, le)) ∙ sym (take_all (block_len - at % block_len) bytes le))
        (cases_lt (block_len - at % block_len) (length bytes))

-- how many blocks are left after it
left_between : (m at : ℕ) (bytes : List ℕ) → suc m ≡ blocks_between at (at + length bytes) → 0 < length bytes
    → m ≡ blocks_between (at + length (front_of at bytes)) (at + length (front_of at bytes) + length (drop (length (front_of at bytes)) bytes))
left_between m at bytes is some =
    ⊎_elim
    (λ (lt : length bytes < block_len - at % block_len).
    let many = many_between at (at + length bytes) (omega (arith, some)) in
    let none : m ≡ 0 = omega (arith, is, many, lt, some) in
    none ∙ sym (none_there (at + n) (at + n + length (drop n bytes)) (omega (arith, part, lt, rest))))
    (λ (le : block_len - at % block_len ≤ length bytes).
    let next : next_block at ≡ at + n = omega (arith, part, le) in
    let ends : at + length bytes ≡ at + n + length (drop n bytes) = omega (arith, part, le, rest) in
    next_between m at (at + length bytes) is (omega (arith, some)) ∙ (λ z. blocks_between (next z) (ends z)))
    (cases_lt (length bytes) (block_len - at % block_len))
  where
    n : ℕ
    n = length (front_of at bytes)

    part : length (front_of at bytes) ≡ min (block_len - at % block_len) (length bytes)
    part = length-take (block_len - at % block_len) bytes

    rest : length (drop (length (front_of at bytes)) bytes) ≡ length bytes - length (front_of at bytes)
    rest = length-drop (length (front_of at bytes)) bytes

-- what is grown by a part is so long
part_grown : (at : ℕ) (cur front : List ℕ) → at ≤ length cur → max (length cur) (at + length front) ≡ length (overwrite cur at front)
part_grown at cur front le = omega (arith, length-append (take at cur) (front ++ drop (at + length front) cur), length-append front (drop (at + length front) cur), length-take at cur, length-drop (at + length front) cur, le)

-- and nothing written leaves it
none_written : (at : ℕ) (cur : List ℕ) → overwrite cur at [] ≡ cur
none_written at cur = let same : at + 0 ≡ at = omega arith in ap (λ (k : ℕ). take at cur ++ drop k cur) same ∙ take-append-drop at cur

-- eighteen steps a block
unfoldable pub write_steps : ℕ → ℕ → ℕ
write_steps zero j = j
write_steps (suc m) j = locate_steps true (suc (suc (suc (write_steps m j))))

pub write_steps_are : (m j : ℕ) → write_steps m j ≡ 18 * m + j
unfolding write_steps
write_steps_are zero j = omega arith
write_steps_are (suc m) j = let more = write_steps_are m j in omega (arith, more)

-- ---- block after block

module _ (sizes : Super) (l : Labels) (laws : Laws (labelled sizes.version l)) (keeps : Keeps l) (h : ℕ) (lt : h < hart_count) (B : List l.Step → Type 0) where
  abbrev W : Type 0
  W = Both World above.World

  abbrev M : Machine
  M = joined (labelled sizes.version l) (below sizes)

  module _ {A : Type 0} (Q : A → List l.Step → W → Type 0) (G : List l.Step → above.World → Type 0) (stable : Stable (labelled sizes.version l) (below sizes) laws (below_laws sizes l keeps) h B G)
      (n : ℕ) (changes : (fs : List l.Step) (g : above.World) → G fs g → Inv g → IsChanging h n g) (c : Carry) (o : Option Node) (s : Spent) (bitmap : s.bitmap ≡ true) (count was : ℕ) (f : WriteResult → P M A) (j : ℕ) where
    -- of this size, with these bytes, after these blocks were recorded
    abbrev In : Dinode → ℕ → List ℕ → List ℕ → List l.Step → W → Type 0
    In d z cur bs fs v = Between sizes h n (G fs) c o (sized z d) (file count cur) (HasBlocks sizes h s bs) v

    -- how it goes on, once the first k of the bytes are written
    abbrev pub Wrote : (at z most : ℕ) → (bytes cur : List ℕ) → Type 0
    Wrote at z most bytes cur =
        (d : Dinode) (bs : List ℕ) (k : ℕ) (v : W) (fs : List l.Step) → k ≤ length bytes → In d (max z (at + k)) (overwrite cur at (take k bytes)) bs fs v → Fits was d → length bs ≤ most → Wp M h B Q (f (record { inode = d; upto = at + k })) j fs v

    -- none of them
    nothing_written : (at z most : ℕ) (bytes cur : List ℕ) → at ≤ z → Wrote at z most bytes cur → (d : Dinode) (bs : List ℕ) (v : W) (fs : List l.Step) → In d z cur bs fs v → Fits was d → length bs ≤ most → Wp M h B Q (f (record { inode = d; upto = at })) j fs v
    nothing_written at z most bytes cur le rest d bs v fs there fits few =
        let same : at + 0 ≡ at = omega arith in
        let still : z ≡ max z (at + 0) = omega (arith, le) in
        subst (λ (k : ℕ). Wp M h B Q (f (record { inode = d; upto = k })) j fs v) same
        (rest d bs 0 v fs (omega arith) (subst (λ (xs : List ℕ). In d (max z (at + 0)) xs bs fs v) (sym (none_written at cur)) (subst (λ (k : ℕ). In d k cur bs fs v) still there)) fits few)

    pub s-blocks : (m at z most : ℕ) (bytes cur : List ℕ) → m ≡ blocks_between at (at + length bytes) → IsBytes bytes → z ≡ length cur → at ≤ z → at + length bytes ≤ largest_size → size s + most + m ≤ most_recorded
        → (d : Dinode) → Fits was d → (bs : List ℕ) → length bs + extra true bs (table_of d) ≤ most → (w : W) (es : List l.Step) → In d z cur bs es w → Wrote at z (most + m) bytes cur → Wp M h B Q (bind (write_blocks m sizes at bytes d) f) (write_steps m j) es w
    unfolding write_blocks write_steps
    s-blocks zero at z most bytes cur is are long le limit small d fits bs cost w es there rest = nothing_written at z (most + 0) bytes cur le rest d bs w es there fits (omega (arith, cost))
    s-blocks (suc m) at z most bytes cur is are long le limit small d fits bs cost w es there rest =
        s-part sizes l laws keeps h lt B Q G stable n changes c o (file count cur) (file count (overwrite cur at front)) s bitmap true (at / block_len) z (max z (at + size_of)) was most (omega (arith, small)) at bytes are
        (part_makes sizes h n at z count bytes cur c o some (omega (arith, le, long)) (omega (arith, few, limit))) (write_blocks m sizes (at + size_of) later) f (write_steps m j)
        (λ e cs v fs now fits_e less.
        Wp-more M h (f (record { inode = e; upto = at })) B Q j (write_steps m j) fs v (let steps_ = write_steps_are m j in omega (arith, steps_)) (nothing_written at z (most + suc m) bytes cur le rest e cs v fs now fits_e (omega (arith, less))))
        (λ e cs v fs now fits_e less.
        s-blocks m (at + size_of) (max z (at + size_of)) (suc most) later (overwrite cur at front) (left_between m at bytes is some) (drop_bytes size_of bytes are)
        (ap (λ (k : ℕ). max k (at + size_of)) long ∙ part_grown at cur front (omega (arith, le, long))) (omega arith) (omega (arith, few, rest_is, limit)) (omega (arith, small)) e fits_e cs less v fs now
        (λ e2 ds k u gs within then_ fits_2 less_2.
        let ends : at + size_of + k ≡ at + (size_of + k) = omega arith in
        let grown_ : max (max z (at + size_of)) (at + size_of + k) ≡ max z (at + (size_of + k)) = omega arith in
        let written : overwrite (overwrite cur at front) (at + size_of) (take k later) ≡ overwrite cur at (take (size_of + k) bytes) = overwrite-overwrite cur front (take k later) at (omega (arith, le, long)) ∙ ap (overwrite cur at) (front_then at k bytes) in
        subst (λ (i : ℕ). Wp M h B Q (f (record { inode = e2; upto = i })) j gs u) (sym ends)
        (rest e2 ds (size_of + k) u gs (omega (arith, within, rest_is, few)) (subst (λ (i : ℕ). In e2 i (overwrite cur at (take (size_of + k) bytes)) ds gs u) grown_ (subst (λ (xs : List ℕ). In e2 (max (max z (at + size_of)) (at + size_of + k)) xs ds gs u) written then_)) fits_2 (omega (arith, less_2)))))
        d fits bs (omega (arith, some, few, limit)) cost w es there (λ e. absurd (let q : true ≡ false = e in cc))
      where
        front : List ℕ
        front = front_of at bytes

        size_of : ℕ
        size_of = length (front_of at bytes)

        later : List ℕ
        later = drop (length (front_of at bytes)) bytes

        some : 0 < length bytes
        some = let more = some_between m at (at + length bytes) is in omega (arith, more)

        few : length (front_of at bytes) ≤ length bytes
        few = (front_long at bytes some).2

        rest_is : length (drop (length (front_of at bytes)) bytes) ≡ length bytes - length (front_of at bytes)
        rest_is = length-drop (length (front_of at bytes)) bytes
