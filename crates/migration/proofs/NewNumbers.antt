-- The blocks that the nodes of a new image name, and what they have.
use Rattle.std.proofs.Common.{◌≡◌, ◌≢◌, ◌∙◌, sym, refl, ap, subst, arith, true, false, if◌then◌else◌, ◌==◌, ◌⊎◌, inl, inr, ⊎_elim, ℕ, zero, suc, ◌+◌, ◌-◌, ◌*◌, ◌<◌, ◌≤◌, List, [], ◌++◌, length, take, drop, get_or, filter, slice_index, All}
use Rattle.std.proofs.lemmas.List.Elements.{All-nil}
use Rattle.fs_layout.specs.Widths.{block_len}
use Rattle.image_versions.specs.declared.version.Version.{Version}
use Rattle.fs_layout.specs.Bits.{bit_of}
use Rattle.fs_layout.specs.Bytes.{u32_at}
use Rattle.fs_layout.specs.Indirect.{numbers_in}
use Rattle.fs_layout.specs.Recovered.{log_count, logged, recovered}
use Rattle.fs_layout.specs.declared.superblock.Super.{Super}
use Rattle.image_tree.specs.Checks.{HasGoodLog, HasGoodNumbers, HasMarks, HasSuper, IsData, IsGoodSuper, NamesOnce, is_marked}
use Rattle.image_tree.specs.Inodes.{block_number, content_block, direct, is_block, is_free, is_number, named_by, numbers_by, numbers_of}
use Rattle.image_tree.specs.Lists.{IsOnce, gathered}
use Rattle.image_tree.proofs.Contents.{Good, numbers_same, pick, used_good}
use Rattle.image_tree.proofs.MarkLemmas.{once_nil}
use Rattle.image_tree.proofs.Nodes.{numbers_by_node}
use Rattle.image_tree.proofs.NumberLists.{numbers_by_free}
use Rattle.mkfs.specs.Image.{Node as File, blocks_of_node as blocks_of_file, inode_for as inode_of_file, whole}
use Rattle.mkfs.specs.Layout.{bitmap_start, node_blocks}
use Rattle.mkfs.proofs.FrontChecks.{has_super}
use Rattle.mkfs.proofs.ImageShows.{shows}
use Rattle.mkfs.proofs.Lengths.{Fits}
use Rattle.mkfs.proofs.NodeBlocks.{place}
use Rattle.mkfs.proofs.NodeContents.{block_number-there}
use Rattle.mkfs.proofs.NumberChecks.{has_marks, has_numbers, names_once}
use Rattle.mkfs.proofs.Places.{count-there, magic-there}
use Rattle.mkfs.proofs.Ranges.{blocks-of-range}
use Rattle.mkfs.proofs.ShownInodes.{by-place, inode-shown, numbers-shown, used-kind}
use Rattle.mkfs.proofs.ShownTrees.{Shows}
use Rattle.migration.specs.Vocabulary.{Dinode, data_start, inode_of, last, range_with_len, sizes_of}
use Rattle.migration.specs.Nodes.{Node, free_node}
use Rattle.migration.specs.Image.{inode_for}
use Rattle.migration.proofs.PlainNodes.{IsLaid, plain, plain-at, plain-count, plains, plains-are, plains-fit, plains-kinds}
use Rattle.migration.proofs.NewBlocks.{block-same, files_disk, head-same, log-none, new_disk, recovered-same, sizes-new, sizes-same}
use Rattle.migration.proofs.NewInodes.{inode-new, place_of}

-- ---- numbers depend on the addresses alone

numbers_by_addrs : (disk : List (List ℕ)) (x y : Dinode) → x.addrs ≡ y.addrs → numbers_of disk x ≡ numbers_of disk y
unfolding numbers_of
numbers_by_addrs disk x y e = ap (λ (a : List ℕ). a ++ (if slice_index a direct == 0 then [] else numbers_in (recovered disk (slice_index a direct)))) e

addrs-for : (first : ℕ) (node : Node) → (inode_for first node).addrs ≡ (inode_of_file first (plain node)).addrs
unfolding inode_for inode_of_file
addrs-for first node = refl

kind-for : (first : ℕ) (node : Node) → (inode_for first node).kind ≡ node.kind
unfolding inode_for
kind-for first node = refl

gathered-same : (f g : ℕ → List ℕ) (n : ℕ) → ((i : ℕ) → 1 ≤ i → i ≤ n → f i ≡ g i) → gathered f n ≡ gathered g n
unfolding gathered
gathered-same f g zero same = refl
gathered-same f g (suc n) same =
    ap (λ (xs : List ℕ). xs ++ f (suc n)) (gathered-same f g n (λ i low high. same i low (omega arith)))
    ∙ ap (λ (xs : List ℕ). gathered g n ++ xs) (same (suc n) (omega arith) (omega arith))

module _ (v : Version) (size ninodes : ℕ) (nodes : List Node) (h : IsLaid size ninodes nodes) where
  abbrev made : List (List ℕ)
  made = new_disk v size ninodes nodes

  abbrev of_files : List (List ℕ)
  of_files = files_disk v size ninodes nodes

  abbrev none : File
  none = plain free_node

  fits : Fits size ninodes (plains nodes)
  fits = plains-fit size ninodes nodes h

  files-shown : Shows of_files size ninodes (plains nodes)
  files-shown = shows v size ninodes (plains nodes) h.many fits (plains-are size ninodes nodes h)

  within : (j : ℕ) → j < length nodes → j < length (plains nodes)
  within j l = omega (arith, plain-count nodes, l)

  count-new : (sizes_of made).ninodes ≡ ninodes
  count-new = ap (λ (s : Super). s.ninodes) (sizes-new v size ninodes nodes h)

  -- what holds of the inode of each node of the list holds of each
  pub each-inode : (P : ℕ → Type 0) → ((j : ℕ) → j < length nodes → P (j + 1)) → (i : ℕ) → 1 ≤ i → i < (sizes_of made).ninodes → P i
  each-inode P node i low high =
      by-place P (length nodes) ninodes node (λ k past bound. absurd (omega (arith, h.count, past, bound))) i low (omega (arith, count-new, high))

  -- ---- the front

  pub super-new : HasSuper v made
  super-new =
      let files : HasSuper v of_files =
      has_super v of_files size ninodes (plains nodes) (magic-there v size ninodes (plains nodes) h.many fits) files-shown h.some h.many fits in
      (ap (λ (block : List ℕ). u32_at block 0) (block-same v size ninodes nodes h 1 (inl (omega arith))) ∙ files.0, subst IsGoodSuper (sym (sizes-same v size ninodes nodes h)) files.1)

  pub log-new : HasGoodLog made
  log-new =
      let P : ℕ → Type 0 = λ b. ((sizes_of made).inodestart ≤ b) × (b < (sizes_of made).size) in
      let empty : logged made ≡ [] = log-none v size ninodes nodes h in
      let count : log_count made ≡ 0 = ap (λ (block : List ℕ). u32_at block 0) (head-same v size ninodes nodes h) ∙ count-there v size ninodes (plains nodes) h.many fits in
      record {
        count = omega (arith, count);
        room = omega (arith, count);
        within = subst (All P) (sym empty) (All-nil P);
        once = subst IsOnce (sym empty) once_nil;
      }

  -- ---- numbers

  inode-files : (j : ℕ) (n : Node) → j < length nodes → inode_of of_files (j + 1) ≡ inode_of_file (place_of (data_start ninodes) nodes j) (plain (get_or nodes j n))
  inode-files j n l =
      inode-shown of_files size ninodes (plains nodes) j none files-shown (within j l)
      ∙ ap (inode_of_file (place_of (data_start ninodes) nodes j)) (plain-at nodes j n none l)

  used-files : (j : ℕ) → j < length nodes → is_free (inode_of of_files (j + 1)) ≡ false
  used-files j l =
      ap is_free (inode-shown of_files size ninodes (plains nodes) j none files-shown (within j l))
      ∙ used-kind (place_of (data_start ninodes) nodes j) (get_or (plains nodes) j none) (plains-kinds nodes j none (within j l))

  addrs-same : (j : ℕ) → j < length nodes → (inode_of made (j + 1)).addrs ≡ (inode_of of_files (j + 1)).addrs
  addrs-same j l =
      ap (λ (d : Dinode). d.addrs) (inode-new v size ninodes nodes j free_node h l)
      ∙ addrs-for (place_of (data_start ninodes) nodes j) (get_or nodes j free_node)
      ∙ sym (ap (λ (d : Dinode). d.addrs) (inode-files j free_node l))

  files-good : HasGoodNumbers of_files
  files-good = has_numbers of_files size ninodes (plains nodes) files-shown (plains-kinds nodes) fits

  data-shown : (b : ℕ) → (b ≡ 0) ⊎ IsData (sizes_of of_files) b → recovered made b ≡ recovered of_files b
  data-shown b is =
      let start : (sizes_of of_files).bmapstart ≡ bitmap_start ninodes = ap (λ (s : Super). s.bmapstart) files-shown.sizes in
      ⊎_elim
      (λ (e : b ≡ 0). recovered-same v size ninodes nodes h b (inl (omega (arith, e))))
      (λ (d : IsData (sizes_of of_files) b). let low = d.0 in recovered-same v size ninodes nodes h b (inr (omega (arith, start, low))))
      is

  files-count : (sizes_of of_files).ninodes ≡ ninodes
  files-count = ap (λ (s : Super). s.ninodes) files-shown.sizes

  numbers-new : (j : ℕ) → j < length nodes → numbers_of made (inode_of made (j + 1)) ≡ numbers_of of_files (inode_of of_files (j + 1))
  numbers-new j l =
      let good : Good of_files (inode_of of_files (j + 1)) =
      used_good of_files files-good (j + 1) (record { low = omega arith; high = omega (arith, files-count, h.count, l) }) (used-files j l) in
      numbers_by_addrs made (inode_of made (j + 1)) (inode_of of_files (j + 1)) (addrs-same j l) ∙ numbers_same of_files made data-shown (inode_of of_files (j + 1)) good

  by-files : (j : ℕ) → j < length nodes → is_free (inode_of made (j + 1)) ≡ false → numbers_by made (j + 1) ≡ numbers_by of_files (j + 1)
  by-files j l used = numbers_by_node made (j + 1) used ∙ numbers-new j l ∙ sym (numbers_by_node of_files (j + 1) (used-files j l))

  by-none : (j : ℕ) → is_free (inode_of made (j + 1)) ≡ true → numbers_by made (j + 1) ≡ []
  by-none j free = numbers_by_free made (j + 1) (inode_of made (j + 1)) refl free

  -- what holds of the numbers that the files name holds of those of the nodes
  All-new : (Q : ℕ → Type 0) → ((i : ℕ) → 1 ≤ i → i < (sizes_of of_files).ninodes → All Q (numbers_by of_files i))
      → (i : ℕ) → 1 ≤ i → i < (sizes_of made).ninodes → All Q (numbers_by made i)
  All-new Q files =
      each-inode (λ i. All Q (numbers_by made i)) (λ j l.
      pick (is_free (inode_of made (j + 1))) (λ t. is_free (inode_of made (j + 1)) ≡ t → All Q (numbers_by made (j + 1)))
      (λ _ free. subst (All Q) (sym (by-none j free)) (All-nil Q))
      (λ _ used. subst (All Q) (sym (by-files j l used)) (files (j + 1) (omega arith) (omega (arith, files-count, h.count, l)))) refl)

  pub good-numbers : HasGoodNumbers made
  good-numbers =
      subst (λ (s : Super). (i : ℕ) → 1 ≤ i → i < (sizes_of made).ninodes → All (λ b. b ≢ 0 → IsData s b) (numbers_by made i)) (sym (sizes-same v size ninodes nodes h))
      (All-new (λ b. b ≢ 0 → IsData (sizes_of of_files) b) files-good)

  -- ---- no block twice

  none-named : (j : ℕ) → j < length nodes → is_free (inode_of made (j + 1)) ≡ true → named_by of_files (j + 1) ≡ []
  none-named j l free =
      let node : Node = get_or nodes j free_node in
      let kind : is_number 0 node.kind ≡ true =
      sym (ap is_free (inode-new v size ninodes nodes j free_node h l) ∙ ap (is_number 0) (kind-for (place_of (data_start ninodes) nodes j) node)) ∙ free in
      let empty : node.content ≡ [] = (h.each j free_node l).none kind in
      blocks-of-range (numbers_by of_files (j + 1)) (place_of (data_start ninodes) nodes j) (blocks_of_file (get_or (plains nodes) j none)) (omega arith)
      (numbers-shown of_files size ninodes (plains nodes) j none files-shown (plains-kinds nodes) (within j l))
      ∙ ap (λ (file : File). range_with_len (place_of (data_start ninodes) nodes j) (blocks_of_file file)) (plain-at nodes j free_node none l)
      ∙ ap (λ (bytes : List ℕ). range_with_len (place_of (data_start ninodes) nodes j) (node_blocks (length bytes))) empty

  named-same : (i : ℕ) → 1 ≤ i → i < (sizes_of made).ninodes → named_by made i ≡ named_by of_files i
  named-same =
      each-inode (λ i. named_by made i ≡ named_by of_files i) (λ j l.
      pick (is_free (inode_of made (j + 1))) (λ t. is_free (inode_of made (j + 1)) ≡ t → named_by made (j + 1) ≡ named_by of_files (j + 1))
      (λ _ free. ap (filter is_block) (by-none j free) ∙ sym (none-named j l free))
      (λ _ used. ap (filter is_block) (by-files j l used)) refl)

  pub once-new : NamesOnce made
  once-new =
      let some : 2 ≤ (sizes_of made).ninodes = omega (arith, count-new, h.some) in
      let end : last made ≡ last of_files = ap (λ (s : Super). s.ninodes - 1) (sizes-same v size ninodes nodes h) in
      subst IsOnce
      (sym (gathered-same (named_by made) (named_by of_files) (last made) (λ i low high. named-same i low (omega (arith, some, high))) ∙ ap (gathered (named_by of_files)) end))
      (names_once of_files size ninodes (plains nodes) files-shown (plains-kinds nodes) fits)

  -- ---- bits

  bits-same : (b : ℕ) → is_marked made b ≡ is_marked of_files b
  bits-same b =
      ap (λ (s : Super). bit_of (recovered made s.bmapstart) b) (sizes-new v size ninodes nodes h)
      ∙ ap (λ (block : List ℕ). bit_of block b) (recovered-same v size ninodes nodes h (bitmap_start ninodes) (inr (omega arith)))
      ∙ sym (ap (λ (s : Super). bit_of (recovered of_files s.bmapstart) b) files-shown.sizes)

  pub marks-new : HasMarks made
  marks-new =
      let files : HasMarks of_files = has_marks of_files size ninodes (plains nodes) files-shown (plains-kinds nodes) fits in
      let start : (sizes_of made).bmapstart ≡ (sizes_of of_files).bmapstart = ap (λ (s : Super). s.bmapstart) (sizes-same v size ninodes nodes h) in
      record {
        front = λ b l. bits-same b ∙ files.front b (omega (arith, start, l));
        named = All-new (λ b. b ≢ 0 → is_marked made b ≡ true) (λ i low high k d l some. bits-same (get_or (numbers_by of_files i) k d) ∙ files.named i low high k d l some);
      }

  -- ---- the blocks of a content

  in-file : (j k : ℕ) (n : Node) → j < length nodes → block_len * k < length (get_or nodes j n).content → block_len * k < length (get_or (plains nodes) j none).content
  in-file j k n l below = subst (λ (file : File). block_len * k < length file.content) (sym (plain-at nodes j n none l)) below

  number-files : (j k : ℕ) (n : Node) → j < length nodes → block_len * k < length (get_or nodes j n).content
      → block_number (numbers_of of_files (inode_of of_files (j + 1))) k ≡ place_of (data_start ninodes) nodes j + place k
  number-files j k n l below =
      block_number-there v size ninodes (plains nodes) j k none h.many fits (plains-are size ninodes nodes h) (within j l) (in-file j k n l below)

  number-new : (j k : ℕ) (n : Node) → j < length nodes → block_len * k < length (get_or nodes j n).content
      → block_number (numbers_of made (inode_of made (j + 1))) k ≡ place_of (data_start ninodes) nodes j + place k
  number-new j k n l below = ap (λ (numbers : List ℕ). block_number numbers k) (numbers-new j l) ∙ number-files j k n l below

  pub named-new : (j k : ℕ) (n : Node) → j < length nodes → block_len * k < length (get_or nodes j n).content
      → block_number (numbers_of made (inode_of made (j + 1))) k ≢ 0
  named-new j k n l below e = absurd (omega (arith, number-new j k n l below, e))

  pub content-new : (j k : ℕ) (n : Node) → j < length nodes → block_len * k < length (get_or nodes j n).content
      → content_block made (inode_of made (j + 1)) k ≡ take block_len (drop (block_len * k) (whole (get_or nodes j n).content))
  unfolding content_block
  content-new j k n l below =
      let at : ℕ = place_of (data_start ninodes) nodes j + place k in
      ap (recovered made) (number-new j k n l below)
      ∙ recovered-same v size ninodes nodes h at (inr (omega arith))
      ∙ sym (ap (recovered of_files) (number-files j k n l below))
      ∙ files-shown.content j k none (within j l) (in-file j k n l below)
      ∙ ap (λ (file : File). take block_len (drop (block_len * k) (whole file.content))) (plain-at nodes j n none l)
