-- A well-formed image holds the nodes of its tree.
use Rattle.inodes_on_blocks.proofs.Vocabulary.{get_or, ◌≡◌, ◌≢◌, ◌⊎◌, ⊎_elim, ℕ, zero, suc, ◌+◌, ◌*◌, ◌/◌, ◌<◌, ◌≤◌, true, false, ℤ, pos, negsuc, inl, inr, refl, sym, ◌∙◌, ap, subst, arith, List, [], ◌∷◌, length, length-append, map, slice_index, Option, Some, None, ints, nat_lt, ◌≤ℤ◌, if◌then◌else◌, All, false≢true, eqb-true, cases_lt, nat_tests, length-map, get_or_past, All-head, All-tail, Version, Dinode, Free, Used, version_in, HasWholeBlocks, block_at, logged, recovered, sizes_of, length-logged, place_of_cases, Node, NodeKind, File, Device, tree_of, inode_of, is_number, is_positive, is_free, is_directory, is_live, is_node, is_live_directory, numbers_of, block_number, content_block, blocks_for, front_blocks, content_of, slots_of, IsData, HasGoodNumbers, HasGoodTypes, HasGoodSizes, HasGoodSlots, UpToLog, IsWellFormed, slot_of, is_file, count_of, node_of, tree_in, node_is, node_from, directory_from, numbers_by_node, either, type_in, size_in, IsDevice, IsRecord, entry_of, HasContent, HasContentOf, Holds, AreNodesOf, live_part, owner_in, first_slots_by as first_slots, slot_by as slot_at, kind_by, block_len, direct, dirent_len_of}
use Rattle.image_versions.proofs.Places.{in_range}
use Rattle.std.proofs.lemmas.List.{length-take}
use Rattle.fs_layout.specs.Recovered.{place_of}
use Rattle.image_tree.specs.Images.{kind_of}
use Rattle.inodes_on_blocks.proofs.ImageSlots.{Entries, in_tree}
use Rattle.inodes_on_blocks.proofs.Nodes.{no_node, dead_node, live_node, kind_of_directory, nodes_at, ninodes_are, slots_of_directory}
use Rattle.inodes_on_blocks.proofs.Trees.{no_raises, there_is_node}
use Rattle.inodes_on_blocks.proofs.ImageBlocks.{owns_blocks, marks_blocks}

-- ---- numbers

zero_kind : (z : ℤ) → is_number 0 z ≡ true → z ≡ pos 0
zero_kind (pos n) h = ap pos (eqb-true n 0 h)
zero_kind (negsuc n) h = absurd (false≢true h)

no_kind : (z : ℤ) → is_number 0 z ≡ false → z ≢ pos 0
no_kind z h e = false≢true (sym h ∙ ap (is_number 0) e)

-- a count that isn't above 0, and not below
zero_count : (z : ℤ) → pos 0 ≤ℤ z → is_positive z ≡ false → z ≡ pos 0
zero_count (pos n) h dead = let low : nat_lt 0 n ≡ false = dead in let is : n ≡ 0 = grind (arith, nat_tests) in ap pos is
zero_count (negsuc n) h dead = absurd h.le

some_count : (z : ℤ) → pos 0 ≤ℤ z → z ≡ pos (count_of z)
some_count (pos n) h = refl
some_count (negsuc n) h = absurd h.le

-- a type that is in use
three_kinds : (z : ℤ) → pos 0 ≤ℤ z → z ≤ℤ pos 3 → is_number 0 z ≡ false → (z ≡ pos 1) ⊎ ((z ≡ pos 2) ⊎ (z ≡ pos 3))
three_kinds (pos zero) low high used = absurd (false≢true (sym used))
three_kinds (pos (suc zero)) low high used = inl refl
three_kinds (pos (suc (suc zero))) low high used = inr (inl refl)
three_kinds (pos (suc (suc (suc zero)))) low high used = inr (inr refl)
three_kinds (pos (suc (suc (suc (suc n))))) low high used = absurd (omega (arith, ints, high))
three_kinds (negsuc n) low high used = absurd low.le

-- ---- slots

spelled_again : (slots : Entries) → All (λ slot. slot ≢ None) slots → slots ≡ map entry_of (in_tree slots)
spelled_again [] all = refl
spelled_again (None ∷ slots) all = absurd (All-head (λ slot. slot ≢ None) None slots all refl)
spelled_again (Some Free ∷ slots) all = ap (λ (es : Entries). Some Free ∷ es) (spelled_again slots (All-tail (λ slot. slot ≢ None) (Some Free) slots all))
spelled_again (Some (Used number name) ∷ slots) all =
    ap (λ (es : Entries). Some (Used number name) ∷ es) (spelled_again slots (All-tail (λ slot. slot ≢ None) (Some (Used number name)) slots all))

pub length_slots : (version : Version) (disk : List (List ℕ)) (d : Dinode) (n : ℕ) → length (first_slots version disk d n) ≡ n
unfolding first_slots
length_slots version disk d zero = refl
length_slots version disk d (suc n) = omega (arith, length-append (first_slots version disk d n) (slot_at version disk d n ∷ []), length_slots version disk d n)

-- ---- bytes

pub length_front : (disk : List (List ℕ)) (d : Dinode) (n : ℕ) → ((k : ℕ) → k < n → length (content_block disk d k) ≡ block_len) → length (front_blocks disk d n) ≡ block_len * n
unfolding front_blocks
length_front disk d zero all = refl
length_front disk d (suc n) all =
    omega (arith, length-append (front_blocks disk d n) (content_block disk d n), length_front disk d n (λ k l. all k (omega arith)), all n (omega arith))

length_content : (disk : List (List ℕ)) (d : Dinode) → ((k : ℕ) → block_len * k < d.size → length (content_block disk d k) ≡ block_len) → length (content_of disk d) ≡ d.size
length_content disk d all =
    let long : length (front_blocks disk d (blocks_for d.size)) ≡ block_len * blocks_for d.size = length_front disk d (blocks_for d.size) (λ k l. all k (omega arith)) in
    omega (arith, length-take d.size (front_blocks disk d (blocks_for d.size)), long)

-- ---- kinds

file_kind_of : (disk : List (List ℕ)) (d : Dinode) → d.kind ≡ pos 2 → kind_of disk d ≡ File (content_of disk d)
unfolding kind_by
file_kind_of disk d e =
    let no : is_directory d ≡ false = ap (is_number 1) e in
    let yes : is_file d ≡ true = ap (is_number 2) e in
    rw (no, yes) refl

device_kind_of : (disk : List (List ℕ)) (d : Dinode) → d.kind ≡ pos 3 → kind_of disk d ≡ Device d.major d.minor d.size
unfolding kind_by
device_kind_of disk d e =
    let no : is_directory d ≡ false = ap (is_number 1) e in
    let not : is_file d ≡ false = ap (is_number 2) e in
    rw (no, not) refl

-- the inode and the blocks say this kind
record Says (disk : List (List ℕ)) (d : Dinode) (k : NodeKind) : Type 0 where
  kind : d.kind ≡ pos (type_in k)
  size : d.size ≡ size_in (version_in disk) k
  device : IsDevice d k
  content : HasContent disk d k

pub at_index : (P : ℕ → Type 0) (ns : List ℕ) (k : ℕ) → All (λ b. b ≢ 0 → P b) ns → slice_index ns k ≢ 0 → P (slice_index ns k)
at_index P ns k all ne =
    ⊎_elim
    (λ (l : k < length ns). all k 0 l ne)
    (λ (m : length ns ≤ k). absurd (ne (get_or_past ns k 0 m)))
    (cases_lt k (length ns))

-- a block of the disk, its own or a copy in the log, is whole
pub whole_data : (disk : List (List ℕ)) (b : ℕ) → HasWholeBlocks disk → UpToLog disk → IsData (sizes_of disk) b → length (recovered disk b) ≡ block_len
unfolding recovered
whole_data disk b whole front block =
    let size = front.0.1 in
    let high = block.1 in
    let good = front.0.0.1.1 in
    let log = good.log in
    let inodes = good.inodes in
    let bitmap = good.bitmap in
    let nlog = good.nlog in
    let count = front.1.count in
    ⊎_elim
    (λ (own : place_of (sizes_of disk).logstart (logged disk) b ≡ b).
    ap (λ (c : ℕ). length (block_at disk c)) own ∙ whole b [] (omega (arith, size, high)))
    (λ (copy : (i : ℕ) × (i < length (logged disk)) × (get_or (logged disk) i 0 ≡ b) × (place_of (sizes_of disk).logstart (logged disk) b ≡ (sizes_of disk).logstart + 1 + i)).
    let within = copy.1 in
    ap (λ (c : ℕ). length (block_at disk c)) copy.3 ∙ whole ((sizes_of disk).logstart + 1 + copy.0) [] (omega (arith, size, within, length-logged disk, count, nlog, log, inodes, bitmap)))
    (place_of_cases (sizes_of disk).logstart (logged disk) b)

module _ (disk : List (List ℕ)) (whole : HasWholeBlocks disk) (well : IsWellFormed disk) where
  types : HasGoodTypes disk
  types = well.0.0.0.0.0.0.0.0.1

  numbers : HasGoodNumbers disk
  numbers = well.0.0.0.0.0.0.1

  sizes : HasGoodSizes disk
  sizes = well.0.0.0.1

  slots : HasGoodSlots disk
  slots = well.0.0.1

  some_inodes : 2 ≤ (sizes_of disk).ninodes
  some_inodes = well.0.0.0.0.0.0.0.0.0.0.0.1.1.few_inodes

  whole_block : (i k : ℕ) → is_node disk i ≡ true → block_len * k < (inode_of disk i).size → length (content_block disk (inode_of disk i) k) ≡ block_len
  unfolding content_block
  whole_block i k node l =
      let at = node_is disk i node in
      let own : All (λ b. b ≢ 0 → IsData (sizes_of disk) b) (numbers_of disk (inode_of disk i)) =
      subst (All (λ b. b ≢ 0 → IsData (sizes_of disk) b)) (numbers_by_node disk i at.used) (numbers i at.low at.bound) in
      whole_data disk (block_number (numbers_of disk (inode_of disk i)) k) whole well.0.0.0.0.0.0.0.0.0
      (at_index (IsData (sizes_of disk)) (numbers_of disk (inode_of disk i)) (if nat_lt k direct then k else k + 1) own ((sizes i node).named k l))

  directory_says : (i : ℕ) → is_node disk i ≡ true → is_live (inode_of disk i) ≡ true → (inode_of disk i).kind ≡ pos 1 → Says disk (inode_of disk i) (kind_of disk (inode_of disk i))
  directory_says i node live e =
      let at = node_is disk i node in
      let directory : is_directory (inode_of disk i) ≡ true = ap (is_number 1) e in
      let here : is_live_directory disk i ≡ true = directory_from disk i (record { low = at.low; bound = at.bound; directory = directory; live = live }) in
      let entries : Entries = slots_of disk (inode_of disk i) in
      let all : All (λ slot. slot ≢ None) entries = subst (All (λ slot. slot ≢ None)) (slots_of_directory disk i here) (slots i here).entries in
      let rest = ((sizes i node).fits.slots directory live).1 in
      let wide = (in_range (version_in disk)).2 in
      let many : (inode_of disk i).size ≡ dirent_len_of (version_in disk) * ((inode_of disk i).size / dirent_len_of (version_in disk)) = omega (arith, rest, wide) in
      subst (Says disk (inode_of disk i)) (sym (kind_of_directory disk (inode_of disk i) directory))
      (record {
        kind = e;
        size = many ∙ ap (λ (n : ℕ). dirent_len_of (version_in disk) * n) (sym (length-map entries slot_of ∙ length_slots (version_in disk) disk (inode_of disk i) ((inode_of disk i).size / dirent_len_of (version_in disk))));
        device = tt;
        content = spelled_again entries all;
      })

  says : (i : ℕ) → is_node disk i ≡ true → is_live (inode_of disk i) ≡ true → Says disk (inode_of disk i) (kind_of disk (inode_of disk i))
  says i node live =
      let at = node_is disk i node in
      let type = types i at.low at.bound in
      elim (three_kinds (inode_of disk i).kind type.0 type.1 at.used) [
        | inl e ↦ directory_says i node live e
        | inr (inl e) ↦
            subst (Says disk (inode_of disk i)) (sym (file_kind_of disk (inode_of disk i) e))
            (record { kind = e; size = sym (length_content disk (inode_of disk i) (λ k l. whole_block i k node l)); device = tt; content = refl })
        | inr (inr e) ↦
            subst (Says disk (inode_of disk i)) (sym (device_kind_of disk (inode_of disk i) e))
            (record { kind = e; size = refl; device = (refl, refl); content = tt })
      ]

  inode_and_content : (i : ℕ) → 1 ≤ i → i < (sizes_of disk).ninodes → IsRecord (version_in disk) (inode_of disk i) (node_of disk i) × HasContentOf disk (inode_of disk i) (node_of disk i)
  inode_and_content i low bound =
      let type = types i low bound in
      let R : Option Node → Type 0 = λ o. IsRecord (version_in disk) (inode_of disk i) o × HasContentOf disk (inode_of disk i) o in
      elim (either (is_free (inode_of disk i))) [
        | inl free ↦
            let none : is_node disk i ≡ false = no_node_free i free in
            subst R (sym (no_node disk i none))
            (record { low = type.0; high = type.1; unnamed = λ ne. absurd (ne (zero_kind (inode_of disk i).kind free)) }, tt)
        | inr used ↦
            let node : is_node disk i ≡ true = node_from disk i (record { low = low; bound = bound; used = used }) in
            let count = type.2 (no_kind (inode_of disk i).kind used) in
            elim (either (is_live (inode_of disk i))) [
              | inr dead ↦
                  subst R (sym (dead_node disk i dead))
                  (record { low = type.0; high = type.1; unnamed = λ ne. zero_count (inode_of disk i).nlink count dead }, tt)
              | inl live ↦
                  let s = says i node live in
                  subst R (sym (live_node disk i node live))
                  (record { kind = s.kind; count = some_count (inode_of disk i).nlink count; size = s.size; device = s.device }, s.content)
            ]
      ]
    where
      no_node_free : (i : ℕ) → is_free (inode_of disk i) ≡ true → is_node disk i ≡ false
      no_node_free i free = elim (either (is_node disk i)) [
        | inr y ↦ y
        | inl y ↦ absurd (false≢true (sym (node_is disk i y).used ∙ free))
      ]

  pub image_holds : Holds disk (node_of disk) (owner_in disk)
  image_holds =
      let once = well.0.0.0.0.0.1 in
      let marks = well.0.0.0.0.1 in
      record {
        front = well.0.0.0.0.0.0.0.0.0;
        range = λ i v is. let at = node_is disk i (there_is_node disk i v is) in (at.low, at.bound);
        inodes = λ i low bound.
            let both = inode_and_content i low bound in
            record {
              inode = both.0;
              content = both.1;
              room = λ used.
                  let size = sizes i (node_from disk i (record { low = low; bound = bound; used = used })) in
                  record { limit = size.fits.limit; there = size.named };
              blocks = owns_blocks disk numbers once marks i low bound;
            };
        bits = marks_blocks disk numbers once marks (omega (arith, some_inodes));
      }

pub are_nodes : (disk : List (List ℕ)) → AreNodesOf (tree_of (tree_in disk)) (sizes_of disk).ninodes (node_of disk)
are_nodes disk = record {
  numbers = ninodes_are disk;
  live = λ n. ap (λ (o : Option Node). live_part o) (nodes_at disk n);
  unraised = no_raises disk;
}
