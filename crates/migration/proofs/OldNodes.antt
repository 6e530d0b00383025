-- What a well-formed image has, so that its nodes can be in a new one.
use Rattle.std.proofs.Common.{◌≡◌, ◌≢◌, ◌∙◌, sym, refl, ap, subst, arith, true, false, ◌&&◌, ⊎_elim, ℕ, zero, suc, ◌+◌, ◌*◌, ◌/◌, ◌%◌, ◌<◌, ◌≤◌, ◌^◌, List, [], ◌∷◌, length, take, drop, get_or, slice_index, Option, Some, None, FitsSigned, w16, rules, length-append}
use Rattle.std.proofs.lemmas.Bool.{cases_lt, false≢true}
use Rattle.std.proofs.lemmas.List.{get_or_append_left, get_or_at, get_or_default, get_or_past, length-take}
use Rattle.std.proofs.Math.Facts.{Fits-of_lt, sfits_to_z}
use Rattle.std.proofs.Math.Nat.{div-add-mod}
use Rattle.std.specs.Prelude.{All}
use Rattle.fs_layout.specs.Widths.{block_len, inode_len, inodes_per_block}
use Rattle.image_versions.specs.Shared.{largest_size}
use Rattle.image_versions.specs.declared.version.Version.{Version}
use Rattle.image_versions.proofs.Places.{in_range, lie_apart}
use Rattle.fs_layout.specs.Bytes.{IsBytes, i16_at, u16_at}
use Rattle.fs_layout.specs.Inode.{dinode_of}
use Rattle.fs_layout.specs.Recovered.{logged, place_of, recovered}
use Rattle.fs_layout.proofs.Numbers.{u16_at-lt}
use Rattle.fs_layout.proofs.RecoveredDisk.{length-logged, place_of_cases}
use Rattle.block_device.specs.Blocks.{block_at}
use Rattle.image_tree.specs.Checks.{HasGoodNumbers, HasGoodSizes, IsData, IsGoodSize}
use Rattle.image_tree.specs.Damage.{UpToLog}
use Rattle.image_tree.specs.Inodes.{block_number, blocks_for, content_block, front_blocks, is_free, numbers_of}
use Rattle.image_tree.specs.Links.{slot_number, slot_numbers, slots_in}
use Rattle.image_tree.proofs.Contents.{pick}
use Rattle.image_tree.proofs.Nodes.{both, directory_is, node_is, numbers_by_node}
use Rattle.image_tree.proofs.SlotNumbers.{All-at}
use Rattle.migration.specs.Vocabulary.{Dinode, Dirent, Free, HasBytes, HasWholeBlocks, IsWellFormed, Used, content_of, dirent_len_of, inode_of, is_live, is_live_directory, is_node, sizes_of, slots_of}
use Rattle.migration.specs.Nodes.{Node, free_node}
use Rattle.migration.specs.Kept.{content_as, new_node, nodes_upto}
use Rattle.migration.specs.Parts.{CanSpell}
use Rattle.migration.specs.Refusals.{IsLater}
use Rattle.migration.proofs.Contents.{node_count, slot_count}
use Rattle.migration.proofs.NewContents.{IsRead}
use Rattle.migration.proofs.PlainNodes.{IsSound}
use Rattle.migration.proofs.Spelled.{spells_all}

-- ---- the fields of its inodes

none_bytes : IsBytes []
none_bytes i = omega arith

cons_bytes : (x : ℕ) (xs : List ℕ) → x < 256 → IsBytes xs → IsBytes (x ∷ xs)
cons_bytes x xs a b zero = a
cons_bytes x xs a b (suc i) = b i

take_bytes : (n : ℕ) (xs : List ℕ) → IsBytes xs → IsBytes (take n xs)
take_bytes zero xs a = none_bytes
take_bytes (suc n) [] a = none_bytes
take_bytes (suc n) (x ∷ xs) a = cons_bytes x (take n xs) (a 0) (take_bytes n xs (λ k. a (suc k)))

drop_bytes : (n : ℕ) (xs : List ℕ) → IsBytes xs → IsBytes (drop n xs)
drop_bytes zero xs a = a
drop_bytes (suc n) [] a = none_bytes
drop_bytes (suc n) (x ∷ xs) a = drop_bytes n xs (λ k. a (suc k))

signed : (bytes : List ℕ) (at : ℕ) → IsBytes bytes → FitsSigned w16 (i16_at bytes at)
signed bytes at are = sfits_to_z {w = w16} {n = u16_at bytes at} (Fits-of_lt {w = w16} {n = u16_at bytes at} (u16_at-lt bytes at are))

-- they are numbers of their types
record HasFields (d : Dinode) : Type 0 where
  kind : FitsSigned w16 d.kind
  major : FitsSigned w16 d.major
  minor : FitsSigned w16 d.minor
  nlink : FitsSigned w16 d.nlink

has_fields : (bytes : List ℕ) → IsBytes bytes → HasFields (dinode_of bytes)
has_fields bytes are = record { kind = signed bytes 0 are; major = signed bytes 2 are; minor = signed bytes 4 are; nlink = signed bytes 6 are }

recovered_bytes : (disk : List (List ℕ)) (b : ℕ) → HasBytes disk → IsBytes (recovered disk b)
unfolding recovered
recovered_bytes disk b are = are (place_of (sizes_of disk).logstart (logged disk) b)

inode_fields : (disk : List (List ℕ)) (i : ℕ) → HasBytes disk → HasFields (inode_of disk i)
unfolding inode_of
inode_fields disk i are =
    let block : List ℕ = recovered disk ((sizes_of disk).inodestart + i / inodes_per_block) in
    has_fields (take inode_len (drop (inode_len * (i % inodes_per_block)) block)) (take_bytes inode_len (drop (inode_len * (i % inodes_per_block)) block) (drop_bytes (inode_len * (i % inodes_per_block)) block (recovered_bytes disk ((sizes_of disk).inodestart + i / inodes_per_block) are)))

-- ---- a node of the new image

pub is_new : (w v : Version) (disk : List (List ℕ)) (i : ℕ) → is_node disk i ≡ true → is_live (inode_of disk i) ≡ true
    → new_node w v disk i ≡ record { kind = (inode_of disk i).kind; major = (inode_of disk i).major; minor = (inode_of disk i).minor; nlink = (inode_of disk i).nlink; content = content_as w v disk (inode_of disk i) }
unfolding new_node
is_new w v disk i node live = rw (node, live) refl

pub is_none : (w v : Version) (disk : List (List ℕ)) (i : ℕ) → (is_node disk i && is_live (inode_of disk i)) ≡ false → new_node w v disk i ≡ free_node
unfolding new_node
is_none w v disk i not = rw not refl

free_sound : IsSound free_node
free_sound = record {
  kind = first_of (omega arith, search rules);
  major = first_of (omega arith, search rules);
  minor = first_of (omega arith, search rules);
  nlink = first_of (omega arith, search rules);
  size = omega arith;
  none = λ _. refl;
}

pub node_sound : (w v : Version) (disk : List (List ℕ)) (i : ℕ) → HasBytes disk → length (new_node w v disk i).content ≤ largest_size → IsSound (new_node w v disk i)
node_sound w v disk i are small =
    pick (is_node disk i && is_live (inode_of disk i)) (λ t. (is_node disk i && is_live (inode_of disk i)) ≡ t → IsSound (new_node w v disk i))
    (λ _ yes.
    let parts = both (is_node disk i) (is_live (inode_of disk i)) yes in
    let is = is_new w v disk i parts.0 parts.1 in
    let fields = inode_fields disk i are in
    let used : is_free (inode_of disk i) ≡ false = (node_is disk i parts.0).used in
    let size : length (content_as w v disk (inode_of disk i)) ≤ largest_size = subst (λ (node : Node). length node.content ≤ largest_size) is small in
    subst IsSound (sym is) (record {
      kind = fields.kind;
      major = fields.major;
      minor = fields.minor;
      nlink = fields.nlink;
      size = size;
      none = λ free. absurd (false≢true (sym used ∙ free));
    }))
    (λ _ gone. subst IsSound (sym (is_none w v disk i gone)) free_sound) refl

-- node i is the one at its place
pub node_at : (w v : Version) (disk : List (List ℕ)) (n j : ℕ) (d : Node) → j < n → get_or (nodes_upto w v disk n) j d ≡ new_node w v disk (j + 1)
unfolding nodes_upto
node_at w v disk zero j d l = absurd (omega arith)
node_at w v disk (suc n) j d l =
    let before : List Node = nodes_upto w v disk n in
    let long : length before ≡ n = node_count w v disk n in
    ⊎_elim
    (λ (less : j < n). get_or_append_left before (new_node w v disk (suc n) ∷ []) d j (omega (arith, long)) ∙ node_at w v disk n j d less)
    (λ (more : n ≤ j).
    let here : length before ≡ j = omega arith in
    let next : suc n ≡ j + 1 = omega arith in
    get_or_at before (new_node w v disk (suc n)) [] d j here ∙ ap (new_node w v disk) next)
    (cases_lt j n)

-- ---- the slots of a live directory

pub in_directory : (w : Version) (disk : List (List ℕ)) (i : ℕ) → is_live_directory disk i ≡ true → slots_in w disk i ≡ slots_of w disk (inode_of disk i)
unfolding slots_in
in_directory w disk i live = rw live refl

pub in_none : (w : Version) (disk : List (List ℕ)) (i : ℕ) → is_live_directory disk i ≡ false → slots_in w disk i ≡ []
unfolding slots_in
in_none w disk i not = rw not refl

readable : (v : Version) (slot : Option Dirent) → CanSpell v slot → slot ≢ None → All (λ (n : ℕ). n < 2 ^ 16) (slot_number slot) → IsRead v slot
readable v None can some small = some refl
readable v (Some Free) can some small = tt
readable v (Some (Used number name)) can some small = (can.0, small 0 0 (omega arith), can.1)

pub slots_readable : (w v : Version) (disk : List (List ℕ)) (i : ℕ) → IsWellFormed w disk → IsLater w v → is_live_directory disk i ≡ true
    → All (IsRead v) (slots_of w disk (inode_of disk i))
slots_readable w v disk i well later live =
    let slots : List (Option Dirent) = slots_of w disk (inode_of disk i) in
    let few : (sizes_of disk).ninodes ≤ 65535 = well.0.0.0.0.0.0.0.0.0.0.0.1.1.many_inodes in
    let good = well.0.0.1 i live in
    let is = in_directory w disk i live in
    let small : All (λ (n : ℕ). n < 2 ^ 16) (slot_numbers slots) =
    subst (λ (xs : List (Option Dirent)). All (λ (n : ℕ). n < 2 ^ 16) (slot_numbers xs)) is
    (λ k d l. let bound = (node_is disk (get_or (slot_numbers (slots_in w disk i)) k d) (good.nodes k d l)).bound in omega (arith, bound, few)) in
    λ k d l.
    let slot : Option Dirent = get_or slots k d in
    let some : slot ≢ None = subst (λ (xs : List (Option Dirent)). All (λ slot. slot ≢ None) xs) is good.entries k d l in
    readable v slot (spells_all w v disk (inode_of disk i) later k d l) some
    (All-at (λ (n : ℕ). n < 2 ^ 16) slot_number slots k slot l (get_or_default slots k d slot l) small)

-- it has its first two
two_of : (len q size : ℕ) → 16 ≤ len → (q < 2 → len * q + len ≤ len * 2) → len * q + 0 ≡ size → 2 * len ≤ size → 2 ≤ q
two_of len q size wide apart e two =
    ⊎_elim
    (λ (less : q < 2). let low = apart less in absurd (let p : ℕ = len * q in omega arith))
    (λ (more : 2 ≤ q). more)
    (cases_lt q 2)

pub first_two : (w : Version) (disk : List (List ℕ)) (i : ℕ) → HasGoodSizes w disk → is_live_directory disk i ≡ true → is_node disk i ≡ true
    → 2 ≤ length (slots_of w disk (inode_of disk i))
first_two w disk i sizes live node =
    let d : Dinode = inode_of disk i in
    let is = directory_is disk i live in
    let good = (sizes i node).fits.slots is.directory is.live in
    let len : ℕ = dirent_len_of w in
    let q : ℕ = d.size / len in
    let split : len * q + 0 ≡ d.size = ap (λ (r : ℕ). len * q + r) (sym good.1) ∙ div-add-mod d.size len in
    let many : 2 ≤ q = two_of len q d.size (in_range w).2 (λ less. lie_apart w q 2 less) split good.0 in
    subst (λ (n : ℕ). 2 ≤ n) (sym (slot_count w disk d q)) many

-- ---- the bytes of another node

length_front : (disk : List (List ℕ)) (d : Dinode) (n : ℕ) → ((k : ℕ) → k < n → length (content_block disk d k) ≡ block_len) → length (front_blocks disk d n) ≡ block_len * n
unfolding front_blocks
length_front disk d zero all = refl
length_front disk d (suc n) all =
    omega (arith, length-append (front_blocks disk d n) (content_block disk d n), length_front disk d n (λ k l. all k (omega arith)), all n (omega arith))

length_content : (disk : List (List ℕ)) (d : Dinode) → ((k : ℕ) → block_len * k < d.size → length (content_block disk d k) ≡ block_len) → length (content_of disk d) ≡ d.size
length_content disk d all =
    let long : length (front_blocks disk d (blocks_for d.size)) ≡ block_len * blocks_for d.size = length_front disk d (blocks_for d.size) (λ k l. all k (omega arith)) in
    omega (arith, length-take d.size (front_blocks disk d (blocks_for d.size)), long)

at_index : (P : ℕ → Type 0) (ns : List ℕ) (k : ℕ) → All (λ b. b ≢ 0 → P b) ns → slice_index ns k ≢ 0 → P (slice_index ns k)
at_index P ns k all ne =
    ⊎_elim
    (λ (l : k < length ns). all k 0 l ne)
    (λ (m : length ns ≤ k). absurd (ne (get_or_past ns k 0 m)))
    (cases_lt k (length ns))

-- a block of the disk, its own or a copy in the log, is whole
whole_data : (v : Version) (disk : List (List ℕ)) (b : ℕ) → HasWholeBlocks disk → UpToLog v disk → IsData (sizes_of disk) b → length (recovered disk b) ≡ block_len
unfolding recovered
whole_data v disk b whole front block =
    let size = front.0.1 in
    let high = block.1 in
    let good = front.0.0.1.1 in
    let log = good.log in
    let inodes = good.inodes in
    let bitmap = good.bitmap in
    let nlog = good.nlog in
    let count = front.1.count in
    ⊎_elim
    (λ (own : place_of (sizes_of disk).logstart (logged disk) b ≡ b).
    ap (λ (c : ℕ). length (block_at disk c)) own ∙ whole b [] (omega (arith, size, high)))
    (λ (copy : (i : ℕ) × (i < length (logged disk)) × (get_or (logged disk) i 0 ≡ b) × (place_of (sizes_of disk).logstart (logged disk) b ≡ (sizes_of disk).logstart + 1 + i)).
    let within = copy.1 in
    ap (λ (c : ℕ). length (block_at disk c)) copy.3 ∙ whole ((sizes_of disk).logstart + 1 + copy.0) [] (omega (arith, size, within, length-logged disk, count, nlog, log, inodes, bitmap)))
    (place_of_cases (sizes_of disk).logstart (logged disk) b)

-- a content has as many bytes as its inode says
pub content_long : (w : Version) (disk : List (List ℕ)) (i : ℕ) → HasWholeBlocks disk → IsWellFormed w disk → is_node disk i ≡ true
    → length (content_of disk (inode_of disk i)) ≡ (inode_of disk i).size
unfolding content_block
content_long w disk i whole well node =
    let d : Dinode = inode_of disk i in
    let numbers : HasGoodNumbers disk = well.0.0.0.0.0.0.1 in
    let is = node_is disk i node in
    let good : All (λ b. b ≢ 0 → IsData (sizes_of disk) b) (numbers_of disk d) =
    subst (All (λ b. b ≢ 0 → IsData (sizes_of disk) b)) (numbers_by_node disk i is.used) (numbers i is.low is.bound) in
    let size : IsGoodSize w disk d = well.0.0.0.1 i node in
    let front : UpToLog w disk = well.0.0.0.0.0.0.0.0.0 in
    length_content disk d (λ k l.
    whole_data w disk (block_number (numbers_of disk d) k) whole front
    (at_index (IsData (sizes_of disk)) (numbers_of disk d) _ good (size.named k l)))
