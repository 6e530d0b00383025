-- An inode before it is changed, and when it is put.
use Rattle.inodes_on_blocks.proofs.Vocabulary.{◌≡◌, ◌≢◌, ℕ, ◌*◌, ◌/◌, ◌<◌, ◌≤◌, true, ℤ, pos, ◌≤ℤ◌, refl, sym, ◌∙◌, ap, subst, ⊎_elim, arith, List, [], ◌∷◌, length, filter, slice_index, Some, None, All, Contains, cases_lt, get_or_past, ints, All-nil, Super, Dinode, recovered, sizes_of, Version, version_in, dirent_len_of, Node, NodeKind, Directory, File, Device, IsOnce, inode_of, is_number, is_free, is_block, numbers_of, numbers_by, block_number, content_block, IsData, UpToLog, once_nil, numbers_by_node, numbers_by_free, numbers_without, type_in, size_in, IsDevice, IsInode, IsRecord, HasContent, HasContentOf, IsOwned, NamesOwned, HoldsAt, IsInodePut, IsLaidOut, Becomes, first_slots_by, direct}
use Rattle.image_versions.proofs.Places.{count_slots, in_range}
use Rattle.inodes_on_blocks.specs.Holds.{HasRoom}
use Rattle.inodes_on_blocks.specs.Puts.{inode_block}
use Rattle.inodes_on_blocks.proofs.Held.{inode_used}
use Rattle.inodes_on_blocks.proofs.HeldFrames.{block_of, content_same, spare_kept, system_put}
use Rattle.inodes_on_blocks.proofs.HeldPuts.{before_bits, inode_is}
use Rattle.inodes_on_blocks.proofs.ImagePlaces.{once_by_places}

-- ---- before

pub laid_before : (disk : List (List ℕ)) (owner : ℕ → ℕ) (i : ℕ) (v : Node) → HoldsAt disk owner i (Some v)
    → IsLaidOut disk owner i (inode_of disk i) v × NamesOwned disk owner i (numbers_of disk (inode_of disk i))
laid_before disk owner i v h =
    let used = inode_used (version_in disk) (inode_of disk i) v h.inode in
    let same = numbers_by_node disk i used in (
      record {
        inode = h.inode;
        content = h.content;
        room = h.room used;
        owned = subst (All (λ b. b ≢ 0 → IsOwned disk owner i b)) same h.blocks.owned;
        once = subst (λ (ns : List ℕ). IsOnce (filter is_block ns)) same h.blocks.once;
      },
      subst (NamesOwned disk owner i) same h.blocks.named,
    )

-- ---- put

module _ (disk new : List (List ℕ)) (owner : ℕ → ℕ) (i : ℕ) (d : Dinode) (v : Node) (named : NamesOwned disk owner i (numbers_of disk d)) (h : IsLaidOut disk owner i d v)
    (after : IsLaidOut new owner i d v) (same : numbers_of new d ≡ numbers_of disk d) (sizes : sizes_of new ≡ sizes_of disk) (is : inode_of new i ≡ d) where
  numbers_now : numbers_by new i ≡ numbers_of new d
  numbers_now = numbers_by_node new i (ap is_free is ∙ inode_used (version_in disk) d v h.inode) ∙ ap (numbers_of new) is

  laid_held : HoldsAt new owner i (Some v)
  laid_held = record {
    inode = subst (λ (x : Dinode). IsRecord (version_in new) x (Some v)) (sym is) after.inode;
    content = subst (λ (x : Dinode). HasContentOf new x (Some v)) (sym is) after.content;
    room = λ _. subst (HasRoom new) (sym is) after.room;
    blocks = record {
      owned = subst (All (λ b. b ≢ 0 → IsOwned new owner i b)) (sym numbers_now) after.owned;
      once = subst (λ (ns : List ℕ). IsOnce (filter is_block ns)) (sym numbers_now) after.once;
      named = λ b block own. subst (λ (ns : List ℕ). Contains ns b) (sym (numbers_now ∙ same)) (named b (subst (λ (s : Super). IsData s b) sizes block) own);
    };
  }

pub node_held : (disk new : List (List ℕ)) (owner : ℕ → ℕ) (i : ℕ) (d : Dinode) (v : Node) → UpToLog disk → i < (sizes_of disk).ninodes → IsInodePut disk new i d
    → IsLaidOut disk owner i d v → NamesOwned disk owner i (numbers_of disk d) → HoldsAt new owner i (Some v)
node_held disk new owner i d v front bound put h named =
    let before = before_bits disk i front bound in
    let after = system_put disk new owner i (inode_block disk i) d v h (omega (arith, before)) put.block in
    laid_held disk new owner i d v named h after.laid after.numbers put.block.sizes (inode_is disk new i d put)

pub freed_held : (disk new : List (List ℕ)) (owner : ℕ → ℕ) (i : ℕ) (d : Dinode) → IsInodePut disk new i d → d.kind ≡ pos 0 → NamesOwned disk owner i [] → HoldsAt new owner i None
freed_held disk new owner i d put kind named =
    let is = inode_is disk new i d put in
    let free : is_free (inode_of new i) ≡ true = ap is_free is ∙ ap (is_number 0) kind in
    let none : [] ≡ numbers_by new i = sym (numbers_by_free new i (inode_of new i) refl free) in
    let zero_kind : (inode_of new i).kind ≡ pos 0 = ap (λ (x : Dinode). x.kind) is ∙ kind in
    record {
      inode = record { low = omega (arith, ints, zero_kind); high = omega (arith, ints, zero_kind); unnamed = λ ne. absurd (ne zero_kind) };
      content = tt;
      room = λ used. absurd (cc (free, used));
      blocks = record {
        owned = subst (All (λ b. b ≢ 0 → IsOwned new owner i b)) none (All-nil (λ b. b ≢ 0 → IsOwned new owner i b));
        once = subst (λ (ns : List ℕ). IsOnce (filter is_block ns)) none once_nil;
        named = λ b block own. subst (λ (ns : List ℕ). Contains ns b) none (named b (subst (λ (s : Super). IsData s b) put.block.sizes block) own);
      };
    }

-- ---- a node that goes

used_kinds : (k : NodeKind) → (pos 0 ≤ℤ pos (type_in k)) × (pos (type_in k) ≤ℤ pos 3)
used_kinds (Directory slots) = (omega (arith, ints), omega (arith, ints))
used_kinds (File bytes) = (omega (arith, ints), omega (arith, ints))
used_kinds (Device major minor size) = (omega (arith, ints), omega (arith, ints))

pub dead_goes : (disk : List (List ℕ)) (owner : ℕ → ℕ) (i : ℕ) (v : Node) → HoldsAt disk owner i (Some v) → v.count ≡ 0 → HoldsAt disk owner i None
dead_goes disk owner i v h none =
    let both = used_kinds v.kind in
    record {
      inode = record {
        low = subst (λ (z : ℤ). pos 0 ≤ℤ z) (sym h.inode.kind) both.0;
        high = subst (λ (z : ℤ). z ≤ℤ pos 3) (sym h.inode.kind) both.1;
        unnamed = λ _. h.inode.count ∙ ap pos none;
      };
      content = tt;
      room = h.room;
      blocks = h.blocks;
    }

-- ---- another count

-- what an inode names hangs on its addresses alone
pub addrs_alone : (disk : List (List ℕ)) (d e : Dinode) → e.addrs ≡ d.addrs → numbers_of disk e ≡ numbers_of disk d
unfolding numbers_of
addrs_alone disk d e addrs = rw addrs refl

pub block_alone : (disk : List (List ℕ)) (d e : Dinode) → e.addrs ≡ d.addrs → (k : ℕ) → content_block disk e k ≡ content_block disk d k
block_alone disk d e addrs k =
    block_of disk e k ∙ ap (λ (ns : List ℕ). recovered disk (block_number ns k)) (addrs_alone disk d e addrs) ∙ sym (block_of disk d k)

pub device_kept : (d e : Dinode) (k : NodeKind) → e.major ≡ d.major → e.minor ≡ d.minor → IsDevice d k → IsDevice e k
device_kept d e (Directory slots) major minor h = tt
device_kept d e (File bytes) major minor h = tt
device_kept d e (Device m n size) major minor h = (major ∙ h.0, minor ∙ h.1)

pub count_laid : (disk : List (List ℕ)) (owner : ℕ → ℕ) (i count : ℕ) (d : Dinode) (v : Node) → IsLaidOut disk owner i d v
    → Becomes disk disk owner owner i d (record d { nlink = pos count }) (record v { count = count })
count_laid disk owner i count d v h =
    let e : Dinode = record d { nlink = pos count } in
    let same = addrs_alone disk d e refl in
    let is = h.inode in
    record {
      laid = record {
        inode = record { kind = is.kind; count = refl; size = is.size; device = device_kept d e v.kind refl refl is.device };
        content = content_same disk disk d e refl refl (λ k l. block_alone disk d e refl k) v.kind h.content;
        room = record { limit = (let room = h.room in room.limit); there = λ k l. subst (λ (ns : List ℕ). block_number ns k ≢ 0) (sym same) (h.room.there k l) };
        owned = subst (All (λ b. b ≢ 0 → IsOwned disk owner i b)) (sym same) h.owned;
        once = subst (λ (ns : List ℕ). IsOnce (filter is_block ns)) (sym same) h.once;
      };
      numbers = same;
      named = λ numbers named. named;
      spare = λ b spare. spare_kept disk disk owner owner i b d e refl same spare.owned.owner_is spare;
    }

-- ---- an empty one

module _ (disk : List (List ℕ)) (owner : ℕ → ℕ) (i : ℕ) (d : Dinode) (v : Node) (is : IsInode (version_in disk) d v) (size : size_in (version_in disk) v.kind ≡ 0) (none : All (λ b. b ≡ 0) d.addrs) where
  no_number : (k : ℕ) → slice_index d.addrs k ≡ 0
  no_number k = ⊎_elim (λ (l : k < length d.addrs). none k 0 l) (λ (m : length d.addrs ≤ k). get_or_past d.addrs k 0 m) (cases_lt k (length d.addrs))

  numbers_empty : numbers_of disk d ≡ d.addrs
  numbers_empty = numbers_without disk d (no_number direct)

  content_empty : (k : NodeKind) → size_in (version_in disk) k ≡ 0 → d.size ≡ 0 → HasContent disk d k
  unfolding first_slots_by
  content_empty (Directory []) e z =
      let version : Version = version_in disk in
      let none : 0 ≡ dirent_len_of version * 0 = omega arith in
      ap (λ (n : ℕ). first_slots_by version disk d (n / dirent_len_of version)) (z ∙ none) ∙ ap (first_slots_by version disk d) (count_slots version 0).0
  content_empty (Directory (s ∷ slots)) e z = absurd (let wide = (in_range (version_in disk)).2 in omega (arith, e, wide))
  content_empty (File []) e z = rw z refl
  content_empty (File (b ∷ bytes)) e z = absurd (omega (arith, e))
  content_empty (Device major minor s) e z = tt

  pub empty_laid : IsLaidOut disk owner i d v
  empty_laid =
      let zero_size : d.size ≡ 0 = is.size ∙ size in
      record {
        inode = is;
        content = content_empty v.kind size zero_size;
        room = record { limit = omega (arith, zero_size); there = λ k l. absurd (omega (arith, zero_size, l)) };
        owned = subst (All (λ b. b ≢ 0 → IsOwned disk owner i b)) (sym numbers_empty) (λ k z l ne. absurd (ne (none k z l)));
        once = subst (λ (ns : List ℕ). IsOnce (filter is_block ns)) (sym numbers_empty) (once_by_places d.addrs (λ p q ne e. absurd (ne (no_number p))));
      }

  pub empty_named : NamesOwned disk owner i [] → NamesOwned disk owner i (numbers_of disk d)
  empty_named named b block own = absurd (let l = (named b block own).1 in omega (arith, l))
