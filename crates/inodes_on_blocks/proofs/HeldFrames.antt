-- What an inode and its blocks say stays if these do.
use Rattle.inodes_on_blocks.proofs.Vocabulary.{◌≡◌, ◌≢◌, ⊎_elim, ℕ, zero, suc, ◌+◌, ◌*◌, ◌/◌, ◌%◌, ◌<◌, ◌≤◌, false, inl, inr, refl, sym, ◌∙◌, ap, subst, arith, List, [], ◌∷◌, ◌++◌, length, take, get_or, slice_index, filter, Option, Some, None, nat_lt, if◌then◌else◌, All, Contains, cases_eq, Super, Version, Dinode, Dirent, u32s_at, dirent_at, recovered, sizes_of, version_in, Node, NodeKind, Directory, File, Device, IsOnce, inode_of, is_free, is_block, numbers_of, numbers_by, block_number, content_block, blocks_for, front_blocks, IsData, numbers_by_node, numbers_without, numbers_with, All-addrs, numbers_by_free, either, map, entry_of, IsInode, IsRecord, HasContent, HasContentOf, IsOwned, HoldsAt, NamesOwned, IsPut, IsUntouched, IsLaidOut, IsSpare, Becomes, slot_by as slot_at, first_slots_by as first_slots, block_len, direct, dirent_len_of, dirents_per_block_of, numbers_per_block}
use Rattle.image_versions.proofs.Places.{in_their_content}
use Rattle.inodes_on_blocks.specs.Holds.{HasRoom}
use Rattle.inodes_on_blocks.proofs.Held.{inode_used}
use Rattle.inodes_on_blocks.proofs.ImageNodes.{at_index}

pub block_of : (disk : List (List ℕ)) (d : Dinode) (k : ℕ) → content_block disk d k ≡ recovered disk (block_number (numbers_of disk d) k)
unfolding content_block
block_of disk d k = refl

-- ---- the same content

module _ (disk new : List (List ℕ)) (d e : Dinode) (sizes : sizes_of new ≡ sizes_of disk) (size : e.size ≡ d.size) (blocks : (k : ℕ) → block_len * k < d.size → content_block new e k ≡ content_block disk d k) where
  front_same : (n : ℕ) → n ≤ blocks_for d.size → front_blocks new e n ≡ front_blocks disk d n
  unfolding front_blocks
  front_same zero h = refl
  front_same (suc n) h =
      ap (λ (xs : List ℕ). xs ++ content_block new e n) (front_same n (omega arith)) ∙ ap (λ (xs : List ℕ). front_blocks disk d n ++ xs) (blocks n (omega arith))

  abbrev version : Version
  version = version_in disk

  slot_same : (s : ℕ) → s < d.size / dirent_len_of version → slot_at version new e s ≡ slot_at version disk d s
  unfolding slot_at
  slot_same s h = ap (dirent_at version (s % dirents_per_block_of version)) (blocks (s / dirents_per_block_of version) (in_their_content version s d.size h).1)

  slots_same : (n : ℕ) → n ≤ d.size / dirent_len_of version → first_slots version new e n ≡ first_slots version disk d n
  unfolding first_slots
  slots_same zero h = refl
  slots_same (suc n) h =
      ap (λ (xs : List (Option Dirent)). xs ++ slot_at version new e n ∷ []) (slots_same n (omega arith))
      ∙ ap (λ (x : Option Dirent). first_slots version disk d n ++ x ∷ []) (slot_same n (omega arith))

  pub content_same : (k : NodeKind) → HasContent disk d k → HasContent new e k
  content_same (Directory slots) h =
      subst (λ (s : Super). first_slots s.version new e (e.size / dirent_len_of s.version) ≡ map entry_of slots) (sym sizes)
      (ap (λ (n : ℕ). first_slots version new e (n / dirent_len_of version)) size ∙ slots_same (d.size / dirent_len_of version) (omega arith) ∙ h)
  content_same (File bytes) h =
      ap (λ (n : ℕ). take n (front_blocks new e (blocks_for n))) size ∙ ap (take d.size) (front_same (blocks_for d.size) (omega arith)) ∙ h
  content_same (Device major minor s) h = h

-- ---- the same bytes of each block that it names

abbrev pub Same : List (List ℕ) → List (List ℕ) → ℕ → Type 0
Same disk new b = recovered new b ≡ recovered disk b

module _ (disk new : List (List ℕ)) (d : Dinode) (all : All (λ b. b ≢ 0 → Same disk new b) (numbers_of disk d)) where
  pub numbers_kept : numbers_of new d ≡ numbers_of disk d
  numbers_kept =
      ⊎_elim
      (λ (e : slice_index d.addrs direct ≡ 0). numbers_without new d e ∙ sym (numbers_without disk d e))
      (λ (ne : slice_index d.addrs direct ≢ 0).
      let same = at_index (Same disk new) d.addrs direct (All-addrs (λ b. b ≢ 0 → Same disk new b) disk d all) ne in
      numbers_with new d ne ∙ ap (λ (block : List ℕ). d.addrs ++ u32s_at numbers_per_block block 0) same ∙ sym (numbers_with disk d ne))
      (cases_eq (slice_index d.addrs direct) 0)

  pub content_kept : sizes_of new ≡ sizes_of disk → ((k : ℕ) → block_len * k < d.size → block_number (numbers_of disk d) k ≢ 0) → (k : NodeKind) → HasContent disk d k → HasContent new d k
  content_kept sizes there =
      content_same disk new d d sizes refl
      (λ k l.
      block_of new d k
      ∙ ap (λ (ns : List ℕ). recovered new (block_number ns k)) numbers_kept
      ∙ at_index (Same disk new) (numbers_of disk d) (if nat_lt k direct then k else k + 1) all (there k l)
      ∙ sym (block_of disk d k))

  pub room_kept : HasRoom disk d → HasRoom new d
  room_kept h = record {
    limit = h.limit;
    there = λ k l. subst (λ (ns : List ℕ). block_number ns k ≢ 0) (sym numbers_kept) (h.there k l);
  }

-- ---- an inode that is left alone

module _ (disk new : List (List ℕ)) (owner owner' : ℕ → ℕ) (i : ℕ) (v : Option Node) (left : IsUntouched disk new owner owner' i) (h : HoldsAt disk owner i v) where
  blocks_same : All (λ b. b ≢ 0 → Same disk new b) (numbers_by disk i)
  blocks_same = λ k z l ne. let own = h.blocks.owned k z l ne in (left.blocks (get_or (numbers_by disk i) k z) own.block own.owner_is).0

  used_same : is_free (inode_of disk i) ≡ false → All (λ b. b ≢ 0 → Same disk new b) (numbers_of disk (inode_of disk i))
  used_same used = subst (All (λ b. b ≢ 0 → Same disk new b)) (numbers_by_node disk i used) blocks_same

  numbers_same : numbers_by new i ≡ numbers_by disk i
  numbers_same = elim (either (is_free (inode_of disk i))) [
    | inl free ↦ numbers_by_free new i (inode_of disk i) (sym left.inode) free ∙ sym (numbers_by_free disk i (inode_of disk i) refl free)
    | inr used ↦
        numbers_by_node new i (ap is_free left.inode ∙ used)
        ∙ ap (numbers_of new) left.inode
        ∙ numbers_kept disk new (inode_of disk i) (used_same used)
        ∙ sym (numbers_by_node disk i used)
  ]

  content_of_node : (o : Option Node) → IsRecord (version_in disk) (inode_of disk i) o → HasContentOf disk (inode_of disk i) o → HasContentOf new (inode_of disk i) o
  content_of_node None is content = tt
  content_of_node (Some node) is content =
      let used = inode_used (version_in disk) (inode_of disk i) node is in
      content_kept disk new (inode_of disk i) (used_same used) left.sizes (h.room used).there node.kind content

  pub untouched : HoldsAt new owner' i v
  untouched = record {
    inode = subst (λ (s : Super). IsRecord s.version (inode_of new i) v) (sym left.sizes) (subst (λ (x : Dinode). IsRecord (version_in disk) x v) (sym left.inode) h.inode);
    content = subst (λ (x : Dinode). HasContentOf new x v) (sym left.inode) (content_of_node v h.inode h.content);
    room = λ used.
        let was : is_free (inode_of disk i) ≡ false = ap is_free (sym left.inode) ∙ used in
        subst (HasRoom new) (sym left.inode) (room_kept disk new (inode_of disk i) (used_same was) (h.room was));
    blocks = record {
      owned =
          subst (All (λ b. b ≢ 0 → IsOwned new owner' i b)) (sym numbers_same)
          (λ k z l ne.
          let own = h.blocks.owned k z l ne in
          record {
            block = subst (λ (s : Super). IsData s (get_or (numbers_by disk i) k z)) (sym left.sizes) own.block;
            owner_is = (left.blocks (get_or (numbers_by disk i) k z) own.block own.owner_is).1;
          });
      once = subst IsOnce (ap (filter is_block) (sym numbers_same)) h.blocks.once;
      named = λ b block own.
          let was : IsData (sizes_of disk) b = subst (λ (s : Super). IsData s b) left.sizes block in
          subst (λ (ns : List ℕ). Contains ns b) (sym numbers_same) (h.blocks.named b was (left.alone b was own));
    };
  }

-- ---- an inode that is being changed

-- what it names, with the same bytes, and its own still
module _ (disk new : List (List ℕ)) (owner owner' : ℕ → ℕ) (i : ℕ) (d : Dinode) (v : Node) (sizes : sizes_of new ≡ sizes_of disk)
    (same : All (λ b. b ≢ 0 → Same disk new b) (numbers_of disk d)) (keep : All (λ b. b ≢ 0 → owner' b ≡ i) (numbers_of disk d)) (h : IsLaidOut disk owner i d v) where
  pub laid_kept : IsLaidOut new owner' i d v
  laid_kept =
      let numbers = numbers_kept disk new d same in
      record {
        inode = subst (λ (s : Super). IsInode s.version d v) (sym sizes) h.inode;
        content = content_kept disk new d same sizes h.room.there v.kind h.content;
        room = room_kept disk new d same h.room;
        owned =
            subst (All (λ c. c ≢ 0 → IsOwned new owner' i c)) (sym numbers)
            (λ k z l ne.
            let own = h.owned k z l ne in
            record { block = subst (λ (s : Super). IsData s (get_or (numbers_of disk d) k z)) (sym sizes) own.block; owner_is = keep k z l ne });
        once = subst (λ (ns : List ℕ). IsOnce (filter is_block ns)) (sym numbers) h.once;
      }

pub named_kept : (disk new : List (List ℕ)) (owner owner' : ℕ → ℕ) (i : ℕ) → sizes_of new ≡ sizes_of disk → ((b : ℕ) → IsData (sizes_of disk) b → owner' b ≡ i → owner b ≡ i)
    → (numbers : List ℕ) → NamesOwned disk owner i numbers → NamesOwned new owner' i numbers
named_kept disk new owner owner' i sizes alone numbers named b block own =
    let was : IsData (sizes_of disk) b = subst (λ (s : Super). IsData s b) sizes block in named b was (alone b was own)

pub spare_kept : (disk new : List (List ℕ)) (owner owner' : ℕ → ℕ) (i b : ℕ) (d e : Dinode) → sizes_of new ≡ sizes_of disk → numbers_of new e ≡ numbers_of disk d → owner' b ≡ i
    → IsSpare disk owner i d b → IsSpare new owner' i e b
spare_kept disk new owner owner' i b d e sizes numbers own spare = record {
  owned = record { block = subst (λ (s : Super). IsData s b) (sym sizes) spare.owned.block; owner_is = own };
  unnamed = subst (All (λ c. c ≢ b)) (sym numbers) spare.unnamed;
}

-- by a change that leaves it
pub untouched_change : (disk new : List (List ℕ)) (owner owner' : ℕ → ℕ) (i : ℕ) (d : Dinode) (v : Node) → IsUntouched disk new owner owner' i → IsLaidOut disk owner i d v
    → Becomes disk new owner owner' i d d v
untouched_change disk new owner owner' i d v left h =
    let same : All (λ b. b ≢ 0 → Same disk new b) (numbers_of disk d) =
    (λ k z l ne. let own = h.owned k z l ne in (left.blocks (get_or (numbers_of disk d) k z) own.block own.owner_is).0) in
    let keep : All (λ b. b ≢ 0 → owner' b ≡ i) (numbers_of disk d) =
    (λ k z l ne. let own = h.owned k z l ne in (left.blocks (get_or (numbers_of disk d) k z) own.block own.owner_is).1) in
    record {
      laid = laid_kept disk new owner owner' i d v left.sizes same keep h;
      numbers = numbers_kept disk new d same;
      named = named_kept disk new owner owner' i left.sizes left.alone;
      spare = λ b spare.
          spare_kept disk new owner owner' i b d d left.sizes (numbers_kept disk new d same) (left.blocks b spare.owned.block spare.owned.owner_is).1 spare;
    }

-- by a put of a block that it doesn't name
module _ (disk new : List (List ℕ)) (owner : ℕ → ℕ) (i b : ℕ) (d : Dinode) (v : Node) (h : IsLaidOut disk owner i d v)
    (apart : (k z : ℕ) → k < length (numbers_of disk d) → get_or (numbers_of disk d) k z ≢ 0 → get_or (numbers_of disk d) k z ≢ b) (put : IsPut disk new b) where
  elsewhere_bytes : All (λ c. c ≢ 0 → Same disk new c) (numbers_of disk d)
  elsewhere_bytes = λ k z l ne. put.others (get_or (numbers_of disk d) k z) (apart k z l ne)

  pub elsewhere_put : Becomes disk new owner owner i d d v
  elsewhere_put =
      let numbers = numbers_kept disk new d elsewhere_bytes in
      record {
        laid = laid_kept disk new owner owner i d v put.sizes elsewhere_bytes (λ k z l ne. (h.owned k z l ne).owner_is) h;
        numbers = numbers;
        named = named_kept disk new owner owner i put.sizes (λ c block own. own);
        spare = λ c spare. spare_kept disk new owner owner i c d d put.sizes numbers spare.owned.owner_is spare;
      }

pub spare_put : (disk new : List (List ℕ)) (owner : ℕ → ℕ) (i b : ℕ) (d : Dinode) (v : Node) → IsLaidOut disk owner i d v → IsSpare disk owner i d b → IsPut disk new b
    → Becomes disk new owner owner i d d v
spare_put disk new owner i b d v h spare put = elsewhere_put disk new owner i b d v h (λ k z l ne. spare.unnamed k z l) put

-- by a put of a block that isn't a data block
pub system_put : (disk new : List (List ℕ)) (owner : ℕ → ℕ) (i b : ℕ) (d : Dinode) (v : Node) → IsLaidOut disk owner i d v → b ≤ (sizes_of disk).bmapstart → IsPut disk new b
    → Becomes disk new owner owner i d d v
system_put disk new owner i b d v h low put =
    elsewhere_put disk new owner i b d v h (λ k z l ne e. let past = (h.owned k z l ne).block.0 in absurd (omega (arith, e, past, low))) put
