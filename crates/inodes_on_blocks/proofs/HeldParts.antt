-- What a disk holds, part by part of all inodes.
use Rattle.inodes_on_blocks.proofs.Vocabulary.{◌≡◌, ◌≢◌, ℕ, ◌<◌, ◌≤◌, true, List, subst, Some, All, sizes_of, version_in, Node, IsOnce, inode_of, is_node, numbers_by, named_by, node_is, Nodes, IsRecord, HasContent, HasContentOf, IsOwned, Holds}
use Rattle.inodes_on_blocks.specs.Holds.{HasRoom}

pub record HoldsRecords (disk : List (List ℕ)) (nodes : Nodes) : Type 0 where
  pub range : (i : ℕ) (v : Node) → nodes i ≡ Some v → (1 ≤ i) × (i < (sizes_of disk).ninodes)
  pub record_of : (i : ℕ) → 1 ≤ i → i < (sizes_of disk).ninodes → IsRecord (version_in disk) (inode_of disk i) (nodes i)

pub record HoldsContents (disk : List (List ℕ)) (nodes : Nodes) : Type 0 where
  pub content : (i : ℕ) (v : Node) → nodes i ≡ Some v → HasContent disk (inode_of disk i) v.kind

pub record HaveRoom (disk : List (List ℕ)) : Type 0 where
  pub room : (i : ℕ) → is_node disk i ≡ true → HasRoom disk (inode_of disk i)

pub record OwnBlocks (disk : List (List ℕ)) (owner : ℕ → ℕ) : Type 0 where
  pub owned : (i : ℕ) → 1 ≤ i → i < (sizes_of disk).ninodes → All (λ b. b ≢ 0 → IsOwned disk owner i b) (numbers_by disk i)
  pub once : (i : ℕ) → 1 ≤ i → i < (sizes_of disk).ninodes → IsOnce (named_by disk i)

module _ (disk : List (List ℕ)) (nodes : Nodes) (owner : ℕ → ℕ) (h : Holds disk nodes owner) where
  pub holds_records : HoldsRecords disk nodes
  holds_records = record { range = h.range; record_of = λ i low bound. (h.inodes i low bound).inode }

  pub holds_contents : HoldsContents disk nodes
  holds_contents = record {
    content = λ i v is.
        let r = h.range i v is in
        subst (HasContentOf disk (inode_of disk i)) is (h.inodes i r.0 r.1).content;
  }

  pub have_room : HaveRoom disk
  have_room = record { room = λ i node. let is = node_is disk i node in (h.inodes i is.low is.bound).room is.used }

  pub own_blocks : OwnBlocks disk owner
  own_blocks = record {
    owned = λ i low bound. (h.inodes i low bound).blocks.owned;
    once = λ i low bound. (h.inodes i low bound).blocks.once;
  }
