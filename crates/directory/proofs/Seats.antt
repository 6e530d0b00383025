-- What stays at the seat of a directory's lock, if all but the buffers and its index does.
use Rattle.directory.proofs.Vocabulary.{◌≡◌, Option, Some, None, refl, sym, ap, ◌∙◌, option_map, option_map_or, unwrap_or, GuardState, Inode, Loaded, Hand, InodePlace, no_inode, no_index, no_record, unindexed, indexed, loaded_of, record_in, beside_index}
use Rattle.fs_machine.specs.declared.hand.InodePlace.TheVariants.{One, Two}

loaded_record : (c : Option Loaded) → (unwrap_or (option_map (λ (l : Loaded). record l { index = no_index }) c) (unindexed no_record)).inode ≡ (unwrap_or c (unindexed no_record)).inode
loaded_record None = refl
loaded_record (Some l) = refl

place_record : (o : Option (GuardState Inode))
    → (loaded_of (option_map_or (λ (g : GuardState Inode). g.value) (option_map (indexed no_index) o) no_inode)).inode ≡ (loaded_of (option_map_or (λ (g : GuardState Inode). g.value) o no_inode)).inode
place_record None = refl
place_record (Some g) = loaded_record g.value.content

pub record_kept : (k : InodePlace) (before h : Hand) → beside_index k h ≡ beside_index k before → record_in k h ≡ record_in k before
record_kept k before h same = sym (beside k h) ∙ ap (record_in k) same ∙ beside k before
  where
    beside : (k : InodePlace) (h : Hand) → record_in k (beside_index k h) ≡ record_in k h
    beside One h = place_record h.one
    beside Two h = place_record h.two
