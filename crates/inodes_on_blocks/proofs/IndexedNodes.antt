-- An index stays right beside a node whose slots are as they were.
use Rattle.inodes_on_blocks.proofs.Vocabulary.{◌≡◌, inl, inr, ℕ, List, Option, Some, None, refl, sym, ◌∙◌, ap, subst, unwrap_or, none-some, Dinode, Slot, Version, Node, NodeKind, Directory, File, Device, put, same_or, put_same, put_other, all_slots, with_no_bytes, entry_of, no_record, Had, Apart, Has, Emptied, IsLoaded, record_had, IndexState, IsIndex, IsIndexOf, Loaded, index_none, index_same, no_index, slot_read, unindexed}
use Rattle.std.specs.Prelude.{slice_index_or}

-- if each slot is read as it was
pub indexed_same : (version : Version) (x : IndexState) (v w : Option Node) → ((s : ℕ) → slot_read w s ≡ slot_read v s) → IsIndexOf version x v → IsIndexOf version x w
indexed_same version x v w same is = index_same version x (slot_read v) (slot_read w) same is

-- if they are the same slots: files and devices have none
pub indexed_file : (version : Version) (x : IndexState) (v w : Option Node) → all_slots v ≡ all_slots w → IsIndexOf version x v → IsIndexOf version x w
indexed_file version x v w q is = subst (λ (slots : List (Option Slot)). IsIndex version x (λ s. entry_of (slice_index_or slots s None))) q is

-- one that has no block is right beside any node
pub indexed_none : (version : Version) (v : Option Node) → IsIndexOf version no_index v
indexed_none version v = index_none version (slot_read v)

-- after nothing is loaded of inode n any more
pub indexed_less : (version : Version) (load : ℕ → Option Loaded) (n : ℕ) (nodes : ℕ → Option Node) → ((i : ℕ) (d : Loaded) → load i ≡ Some d → IsIndexOf version d.index (nodes i)) → (i : ℕ) (d : Loaded) → put load n None i ≡ Some d → IsIndexOf version d.index (nodes i)
indexed_less version load n nodes are i d e = elim (same_or i n) [
  | inl q ↦ absurd (none-some d (sym (ap (put load n None) q ∙ put_same load n None) ∙ e))
  | inr ne ↦ are i d (sym (put_other load n None i ne) ∙ e)
]

-- that of an inode in hand, also if nothing is loaded of it
pub indexed_in : (version : Version) (o : Had) (v : Option Node) (d : Dinode) → IsLoaded version o v d → IsIndexOf version (unwrap_or (record_had o) (unindexed no_record)).index v
indexed_in version Apart v d is = absurd is
indexed_in version (Has x l) v d is = is.3
indexed_in version Emptied v d is = indexed_none version v

-- a node without its content has the slots that it had
pub emptied_slots : (v : Node) → all_slots (Some (with_no_bytes v)) ≡ all_slots (Some v)
emptied_slots v = by v.kind
  where
    by : (k : NodeKind) → all_slots (Some (with_no_bytes (record v { kind = k }))) ≡ all_slots (Some (record v { kind = k }))
    by (Directory slots) = refl
    by (File bytes) = refl
    by (Device major minor size) = refl
