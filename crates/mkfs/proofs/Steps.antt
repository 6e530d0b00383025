-- Appending one part after another.
use Rattle.image_versions.specs.Shared.{addresses, direct, numbers_per_block}
use Rattle.image_versions.specs.Shared.{largest_size}
use Rattle.mkfs.proofs.Vocabulary.{Version, ◌≡◌, ℕ, ◌+◌, ◌-◌, ◌<◌, ◌≤◌, List, [], ◌∷◌, ◌++◌, length, take, drop, map, get_or, sym, subst, ap, if◌then◌else◌, is_ok, Ok, Err, Result, OnOk, ◌∙◌, arith, append_assoc, All, flat_map, range_with_len, drop_more, get_or-map, length-map, sum_by-cons, spell_dinode, spell_dirent, spell_numbers, Used, blocks_for, node_blocks, file_blocks, NewFile, contents_of, names_of, entries_from, inodes_from, data_from, file_node, inode_for, node_bytes, padded, whole}
use Rattle.mkfs.proofs.Basics.{node_bytes-large, whole-front}

-- one part more, of the remaining ones
pub one_more : (old part rest left all new : List ℕ) → new ≡ old ++ part → left ≡ part ++ rest → old ++ left ≡ all → new ++ rest ≡ all
one_more old part rest left all new n e h =
    ap (λ (xs : List ℕ). xs ++ rest) n ∙ append_assoc old part rest ∙ ap (λ (xs : List ℕ). old ++ xs) (sym e) ∙ h

pub blocks_more : (blocks part rest left all n : ℕ) → part ≡ n → left ≡ n + rest → blocks + left ≡ all → (blocks + part) + rest ≡ all
blocks_more blocks part rest left all n e f h = omega arith

-- the file at i, and those after it
files-next : (files : List NewFile) (i : ℕ) (file : NewFile) → i < length files → file ≡ get_or files i file → drop i files ≡ file ∷ drop (i + 1) files
files-next files i file l e = drop_more files i file l ∙ ap (λ (f : NewFile). f ∷ drop (i + 1) files) (sym e)

pub entries-next : (v : Version) (files : List NewFile) (i n : ℕ) (file : NewFile) → i < length files → file ≡ get_or files i file
    → flat_map (spell_dirent v) (entries_from n (names_of (drop i files)))
    ≡ spell_dirent v (Used n file.name.items) ++ flat_map (spell_dirent v) (entries_from (n + 1) (names_of (drop (i + 1) files)))
entries-next v files i n file l e = ap (λ (fs : List NewFile). flat_map (spell_dirent v) (entries_from n (names_of fs))) (files-next files i file l e)

pub inodes-next : (files : List NewFile) (i first : ℕ) (file : NewFile) → i < length files → file ≡ get_or files i file
    → flat_map spell_dinode (inodes_from first (map file_node (contents_of (drop i files))))
    ≡ spell_dinode (inode_for first (file_node file.content.items))
    ++ flat_map spell_dinode (inodes_from (first + node_blocks (length file.content.items)) (map file_node (contents_of (drop (i + 1) files))))
inodes-next files i first file l e =
    ap (λ (fs : List NewFile). flat_map spell_dinode (inodes_from first (map file_node (contents_of fs)))) (files-next files i file l e)

pub data-next : (files : List NewFile) (i first : ℕ) (file : NewFile) → i < length files → file ≡ get_or files i file
    → data_from first (map file_node (contents_of (drop i files)))
    ≡ node_bytes first file.content.items ++ data_from (first + node_blocks (length file.content.items)) (map file_node (contents_of (drop (i + 1) files)))
data-next files i first file l e = ap (λ (fs : List NewFile). data_from first (map file_node (contents_of fs))) (files-next files i file l e)

pub blocks-next : (files : List NewFile) (i : ℕ) (file : NewFile) → i < length files → file ≡ get_or files i file
    → file_blocks (contents_of (drop i files)) ≡ node_blocks (length file.content.items) + file_blocks (contents_of (drop (i + 1) files))
blocks-next files i file l e =
    ap (λ (fs : List NewFile). file_blocks (contents_of fs)) (files-next files i file l e)
    ∙ sum_by-cons (λ (content : List ℕ). node_blocks (length content)) file.content.items (contents_of (drop (i + 1) files))

-- what holds of each name or content, of one file
pub at-file : (f : NewFile → List ℕ) (P : List ℕ → Type 0) (files : List NewFile) (i : ℕ) (file : NewFile)
    → All P (map f files) → i < length files → file ≡ get_or files i file → P (f file)
at-file f P files i file h l e =
    let many : i < length (map f files) = omega (arith, length-map files f) in
    subst P (get_or-map f files i file (f file) l ∙ ap f (sym e)) (h i (f file) many)

pub name-at : (files : List NewFile) (i : ℕ) (file : NewFile) (name : List ℕ) → name ≡ file.name.items → i < length files → file ≡ get_or files i file
    → name ≡ get_or (names_of files) i []
name-at files i file name same l e = same ∙ ap (λ (f : NewFile). f.name.items) e ∙ sym (get_or-map (λ (f : NewFile). f.name.items) files i file [] l)

pub size-at : (files : List NewFile) (i : ℕ) (file : NewFile) (bytes : List ℕ) → bytes ≡ file.content.items
    → All (λ content. length content ≤ largest_size) (contents_of files) → i < length files → file ≡ get_or files i file → length bytes ≤ largest_size
size-at files i file bytes same h l e =
    subst (λ (xs : List ℕ). length xs ≤ largest_size) (sym same) (at-file (λ (f : NewFile). f.content.items) (λ content. length content ≤ largest_size) files i file h l e)

-- the parts of a node with more than twelve blocks, as they are appended
pub content-parts : (old content front rest : List ℕ) (first n : ℕ) → 12288 < length content
    → front ≡ take 12288 content → rest ≡ drop 12288 content → n ≡ blocks_for (length content)
    → ((old ++ whole front) ++ spell_numbers (padded numbers_per_block (range_with_len (first + addresses) (n - direct)))) ++ whole rest ≡ old ++ node_bytes first content
content-parts old content front rest first n h e1 e2 e3 =
    let numbers : ℕ → List ℕ = λ k. spell_numbers (padded numbers_per_block (range_with_len (first + addresses) (k - direct))) in
    let a : List ℕ = take 12288 content in
    let b : List ℕ = numbers (blocks_for (length content)) in
    let c : List ℕ = whole (drop 12288 content) in
    ap (λ (xs : List ℕ). ((old ++ xs) ++ numbers n) ++ whole rest) (ap whole e1 ∙ whole-front content (omega arith))
    ∙ ap (λ (xs : List ℕ). ((old ++ a) ++ numbers n) ++ whole xs) e2
    ∙ ap (λ (k : ℕ). ((old ++ a) ++ numbers k) ++ c) e3
    ∙ append_assoc (old ++ a) b c
    ∙ append_assoc old a (b ++ c)
    ∙ ap (λ (xs : List ℕ). old ++ xs) (sym (node_bytes-large first content h))

-- of an answer: what an append to a list that is known leaves
pub ok_items : {T E : Type 0} (r : Result T E) (new x y z : List ℕ) → new ≡ (if is_ok r then x else y) → x ≡ z → OnOk r (new ≡ z)
ok_items r new x y z h e =
    elim r as (λ q. new ≡ (if is_ok q then x else y) → OnOk q (new ≡ z)) [ Ok v ↦ λ p. p ∙ e | Err v ↦ λ _. tt ] h
