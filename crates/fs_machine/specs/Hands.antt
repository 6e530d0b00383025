-- What is in a hart's hand, by its places, and how it goes with the state.
use Rattle.std.specs.Prelude.{◌≡◌, ℕ, List, [], ◌∷◌, drop, replicate, Option, Some, None, IfSome}
use Rattle.fs_machine.specs.Vocabulary.{option_map, option_map_or, unwrap_or, Dinode, GuardState, BufferState}
use Rattle.fs_machine.specs.InMemory.{Inode, IndexState, index_of, stands_so, with_index_of}
use Rattle.fs_machine.specs.Steps.{State}
use Rattle.fs_machine.specs.Tied.{IsOwn, IsOwnInode, bytes_of}
use Rattle.fs_machine.specs.declared.hand.Hand.{Hand}
use Rattle.fs_machine.specs.declared.hand.Place.{Place}
use Rattle.fs_machine.specs.declared.hand.Place.TheVariants.{First, Second}
use Rattle.fs_machine.specs.declared.hand.InodePlace.{InodePlace}
use Rattle.fs_machine.specs.declared.hand.InodePlace.TheVariants.{One, Two}

-- nothing
abbrev pub empty_hand : Hand
empty_hand = record {
  txn = None;
  first = None;
  second = None;
  one = None;
  two = None;
  to_one = None;
  to_two = None;
  aside = None;
  listed = [];
  numbers = replicate 16 0;
  count = 0;
}

-- its numbers to be claimed don't count
pub record HasNothing (h : Hand) : Type 0 where
  pub txn : h.txn ≡ None
  pub first : h.first ≡ None
  pub second : h.second ≡ None
  pub one : h.one ≡ None
  pub two : h.two ≡ None
  pub to_one : h.to_one ≡ None
  pub to_two : h.to_two ≡ None
  pub aside : h.aside ≡ None
  pub listed : h.listed ≡ []

abbrev pub buffer_at : Place → Hand → Option (GuardState BufferState)
buffer_at First h = h.first
buffer_at Second h = h.second

abbrev pub with_buffer : Place → Option (GuardState BufferState) → Hand → Hand
with_buffer First o h = record h { first = o }
with_buffer Second o h = record h { second = o }

abbrev pub inode_at : InodePlace → Hand → Option (GuardState Inode)
inode_at One h = h.one
inode_at Two h = h.two

abbrev pub with_inode : InodePlace → Option (GuardState Inode) → Hand → Hand
with_inode One o h = record h { one = o }
with_inode Two o h = record h { two = o }

abbrev pub reference_at : InodePlace → Hand → Option ℕ
reference_at One h = h.to_one
reference_at Two h = h.to_two

abbrev pub with_reference : InodePlace → Option ℕ → Hand → Hand
with_reference One o h = record h { to_one = o }
with_reference Two o h = record h { to_two = o }

-- the reference for which no seat was free
abbrev pub with_aside : Option ℕ → Hand → Hand
with_aside r h = record h { aside = r }

-- it is put into a seat
abbrev pub with_seated : InodePlace → Hand → Hand
with_seated k h = with_reference k h.aside (with_aside None h)

-- the references that wait for the call's end, and the first of them
abbrev pub with_listed : List ℕ → Hand → Hand
with_listed ns h = record h { listed = ns }

abbrev pub first_in : List ℕ → ℕ
first_in [] = 0
first_in (n ∷ ns) = n

abbrev pub first_listed : Hand → ℕ
first_listed h = first_in h.listed

-- it is put into a seat
abbrev pub with_first : InodePlace → Hand → Hand
with_first k h = with_reference k (Some (first_listed h)) (with_listed (drop 1 h.listed) h)

abbrev pub with_txn : Option ℕ → Hand → Hand
with_txn o h = record h { txn = o }

-- the block of the buffer at a place, and its bytes
abbrev pub block_at : Place → Hand → ℕ
block_at p h = option_map_or (λ (g : GuardState BufferState). g.value.block) (buffer_at p h) 0

abbrev pub bytes_at : Place → Hand → List ℕ
bytes_at p h = option_map_or bytes_of (buffer_at p h) []

-- what an empty seat is said to have
abbrev pub no_inode : Inode
no_inode = record { number = 0; content = None }

-- the inode at a seat
abbrev pub inode_in : InodePlace → Hand → Inode
inode_in k h = option_map_or (λ (g : GuardState Inode). g.value) (inode_at k h) no_inode

abbrev pub number_at : InodePlace → Hand → ℕ
number_at k h = unwrap_or (reference_at k h) 0

-- a guard with this record
abbrev pub recorded : Dinode → GuardState Inode → GuardState Inode
recorded d g = record g { value = stands_so d g.value }

abbrev pub with_record : InodePlace → Dinode → Hand → Hand
with_record k d h = with_inode k (option_map (recorded d) (inode_at k h)) h

-- the index of the names of the inode at a seat
abbrev pub index_at : InodePlace → Hand → IndexState
index_at k h = index_of (inode_in k h)

abbrev pub indexed : IndexState → GuardState Inode → GuardState Inode
indexed x g = record g { value = with_index_of x g.value }

abbrev pub with_index : InodePlace → IndexState → Hand → Hand
with_index k x h = with_inode k (option_map (indexed x) (inode_at k h)) h

-- a guard with these bytes
abbrev pub with_content : List ℕ → GuardState BufferState → GuardState BufferState
with_content bytes g = record g { value = record g.value { content = Some bytes } }

abbrev pub with_bytes : Place → List ℕ → Hand → Hand
with_bytes p bytes h = with_buffer p (option_map (with_content bytes) (buffer_at p h)) h

-- guards at places: each is the hart's, and no two are of one thing
pub record AreOwn {K V : Type 0} (at : K → Option (GuardState V)) (name : V → ℕ) (Own : ℕ → GuardState V → State → Type 0)
    (s : State) : Type 0 where
  pub own : (k : K) (g : GuardState V) → at k ≡ Some g → Own (name g.value) g s
  pub apart : (k l : K) (g f : GuardState V) → at k ≡ Some g → at l ≡ Some f → name g.value ≡ name f.value → k ≡ l

-- what is in hand goes with the state
pub record HandFits (hart : ℕ) (s : State) (h : Hand) : Type 0 where
  pub txn : IfSome h.txn (λ t. t ≡ hart)
  pub buffers : AreOwn (λ p. buffer_at p h) (λ v. v.block) (IsOwn hart) s
  pub inodes : AreOwn (λ k. inode_at k h) (λ v. v.number) (IsOwnInode hart) s
