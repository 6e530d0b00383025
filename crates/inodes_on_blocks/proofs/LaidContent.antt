-- A put of a block of an inode's content changes it there alone.
use Rattle.inodes_on_blocks.proofs.Vocabulary.{◌≡◌, ◌≢◌, ⊎_elim, ℕ, sym, ◌∙◌, ap, subst, List, ◌++◌, filter, get_or, slice_index, All, cases_eq, get_or_append_left, Super, Dinode, u32s_at, recovered, version_in, Node, IsOnce, is_block, numbers_of, block_number, content_block, IsData, numbers_without, numbers_with, HasContent, IsInode, IsOwned, IsPut, IsLaidOut, Becomes, direct, numbers_per_block}
use Rattle.inodes_on_blocks.specs.Holds.{HasRoom}
use Rattle.inodes_on_blocks.proofs.Basics.{block_of, named_kept, spare_kept, addrs_alone, within, one_place, place, number_place, place_apart, place_same}

module _ (disk new : List (List ℕ)) (owner : ℕ → ℕ) (i k : ℕ) (d : Dinode) (v : Node) (h : IsLaidOut disk owner i d v) (ne : block_number (numbers_of disk d) k ≢ 0)
    (put : IsPut disk new (block_number (numbers_of disk d) k)) where
  abbrev ns : List ℕ
  ns = numbers_of disk d

  -- the block has one place among the numbers
  alone : (p : ℕ) → slice_index ns p ≡ block_number ns k → place k ≡ p
  alone p e = one_place ns (place k) p h.once (λ z. ne (number_place ns k ∙ z)) (sym (number_place ns k) ∙ sym e)

  pub numbers_stay : numbers_of new d ≡ ns
  numbers_stay =
      ⊎_elim
      (λ (e : slice_index d.addrs direct ≡ 0). numbers_without new d e ∙ sym (numbers_without disk d e))
      (λ (some : slice_index d.addrs direct ≢ 0).
      let with = numbers_with disk d some in
      let there : slice_index ns direct ≡ slice_index d.addrs direct =
      ap (λ (xs : List ℕ). slice_index xs direct) with ∙ get_or_append_left d.addrs (u32s_at numbers_per_block (recovered disk (slice_index d.addrs direct)) 0) 0 direct (within d.addrs direct some) in
      let same = put.others (slice_index d.addrs direct) (λ e. place_apart k (alone direct (there ∙ e))) in
      numbers_with new d some ∙ ap (λ (bytes : List ℕ). d.addrs ++ u32s_at numbers_per_block bytes 0) same ∙ sym with)
      (cases_eq (slice_index d.addrs direct) 0)

  pub this_block : content_block new d k ≡ recovered new (block_number ns k)
  this_block = block_of new d k ∙ ap (λ (xs : List ℕ). recovered new (block_number xs k)) numbers_stay

  pub other_block : (l : ℕ) → l ≢ k → content_block new d l ≡ content_block disk d l
  other_block l apart =
      block_of new d l
      ∙ ap (λ (xs : List ℕ). recovered new (block_number xs l)) numbers_stay
      ∙ put.others (block_number ns l) (λ e. apart (sym (place_same k l (alone (place l) (sym (number_place ns l) ∙ e)))))
      ∙ sym (block_of disk d l)

  -- with this record it is laid out, if it names the same blocks
  pub becomes : (e : Dinode) (w : Node) → e.addrs ≡ d.addrs → IsInode (version_in new) e w → HasContent new e w.kind → HasRoom disk e → Becomes disk new owner owner i d e w
  becomes e w addrs is content room =
      let same : numbers_of new e ≡ ns = addrs_alone new d e addrs ∙ numbers_stay in
      let was : numbers_of disk e ≡ ns = addrs_alone disk d e addrs in
      record {
        laid = record {
          inode = is;
          content = content;
          room = record { limit = (let r = room in r.limit); there = λ l m. subst (λ (xs : List ℕ). block_number xs l ≢ 0) (was ∙ sym same) (room.there l m) };
          owned =
              subst (All (λ b. b ≢ 0 → IsOwned new owner i b)) (sym same)
              (λ p z m some.
              let own = h.owned p z m some in
              record { block = subst (λ (s : Super). IsData s (get_or ns p z)) (sym put.sizes) own.block; owner_is = own.owner_is });
          once = subst (λ (xs : List ℕ). IsOnce (filter is_block xs)) (sym same) h.once;
        };
        numbers = same;
        named = named_kept disk new owner owner i put.sizes (λ c block own. own);
        spare = λ b spare. spare_kept disk new owner owner i b d e put.sizes same spare.owned.owner_is spare;
      }
