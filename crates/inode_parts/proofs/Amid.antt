-- Operations that change an inode: each stays amid until it leaves what it says.
use Rattle.inode_parts.proofs.Vocabulary.{◌≡◌, ℕ, Option, Some, None, refl, sym, ap, subst, ◌∙◌, IsSome, MatchOption, option_map, GuardState, Dinode, IndexState, Inode, Hand, Place, First, Second, InodePlace, One, Two, inode_at, indexed, recorded, with_buffer, with_index, with_record, HasNoBuffer, unloaded, without_content, IsLoadedAt, beside_buffers, note_at, with_note, beside_inode, IsAmid, Changed, Reloaded, StandBeside, having, other, Note, Notes}

-- ---- beside the inode at a seat nothing changes

unloaded_set : (d : Dinode) (o : Option (GuardState Inode)) → option_map without_content (option_map (recorded d) o) ≡ option_map without_content o
unloaded_set d None = refl
unloaded_set d (Some g) = refl

-- after its record is set
pub record_beside : (k : InodePlace) (d : Dinode) (h : Hand) → beside_inode k (with_record k d h) ≡ beside_inode k h
record_beside One d h = λ i. record (beside_inode One h) { one = unloaded_set d h.one i }
record_beside Two d h = λ i. record (beside_inode Two h) { two = unloaded_set d h.two i }

-- after its index is
index_unloaded : (x : IndexState) (o : Option (GuardState Inode)) → option_map without_content (option_map (indexed x) o) ≡ option_map without_content o
index_unloaded x None = refl
index_unloaded x (Some g) = refl

index_beside : (k : InodePlace) (x : IndexState) (h : Hand) → beside_inode k (with_index k x h) ≡ beside_inode k h
index_beside One x h = λ i. record (beside_inode One h) { one = index_unloaded x h.one i }
index_beside Two x h = λ i. record (beside_inode Two h) { two = index_unloaded x h.two i }

-- when buffers change
pub buffers_beside : (k : InodePlace) (before h : Hand) → beside_buffers tt h ≡ beside_buffers tt before → beside_inode k h ≡ beside_inode k before
buffers_beside One before h same = ap (unloaded One) same
buffers_beside Two before h same = ap (unloaded Two) same

-- .. and each inode is the same
pub same_inode : (k : InodePlace) (before h : Hand) → beside_buffers tt h ≡ beside_buffers tt before → inode_at k h ≡ inode_at k before
same_inode One before h same = ap (λ (h : Hand). h.one) same
same_inode Two before h same = ap (λ (h : Hand). h.two) same

-- when one of them does
pub buffer_beside : (p : Place) (k : InodePlace) (before h : Hand) → with_buffer p None h ≡ with_buffer p None before → beside_inode k h ≡ beside_inode k before
buffer_beside First k before h same = buffers_beside k before h (ap (with_buffer Second None) same)
buffer_beside Second k before h same = buffers_beside k before h (ap (with_buffer First None) same)

-- a record that is set is there
set_there : (k : InodePlace) (d : Dinode) (h : Hand) → IsSome (inode_at k h) → IsLoadedAt k (with_record k d h)
set_there One d h there = at h.one there
  where
    at : (o : Option (GuardState Inode)) → IsSome o → MatchOption (option_map (recorded d) o) ⊥ (λ g. IsSome g.value.content)
    at None there = absurd (cc there)
    at (Some g) there = refl
set_there Two d h there = at h.two there
  where
    at : (o : Option (GuardState Inode)) → IsSome o → MatchOption (option_map (recorded d) o) ⊥ (λ g. IsSome g.value.content)
    at None there = absurd (cc there)
    at (Some g) there = refl

-- ---- it goes on

pub still_amid : (n : ℕ) (start : Hand) (k : InodePlace) (before h : Hand) → beside_inode k h ≡ beside_inode k before → IsAmid n start k before → IsAmid n start k h
still_amid n start k before h same amid = (amid.0, amid.1, same ∙ amid.2)

-- ---- what is left at the end

without_buffers : (k : InodePlace) (h : Hand) → HasNoBuffer h → beside_inode k h ≡ unloaded k h
without_buffers One h none = λ i. record (unloaded One h) { first = sym none.0 i; second = sym none.1 i }
without_buffers Two h none = λ i. record (unloaded Two h) { first = sym none.0 i; second = sym none.1 i }

noted_beside : (k : InodePlace) (x : Note) (m : Notes) → note_at (other k) (with_note k x m) ≡ note_at (other k) m
noted_beside One x m = refl
noted_beside Two x m = refl

module _ (n : ℕ) (start h : Hand) (k : InodePlace) (amid : IsAmid n start k h) (none : HasNoBuffer h) where
  pub reloads : Reloaded n start h
  reloads =
      subst (λ (k : InodePlace). unloaded k h ≡ unloaded k start) amid.0
      (sym (without_buffers k h none) ∙ amid.2 ∙ without_buffers k start amid.1)

  pub stands : (m m2 : Notes) (x : Note) → m2 ≡ with_note k x m → StandBeside n (having start m) (having h m2)
  stands m m2 x noted =
      subst (λ (k : InodePlace). note_at (other k) m2 ≡ note_at (other k) m) amid.0
      (ap (note_at (other k)) noted ∙ noted_beside k x m)

  pub leaves_changed : (m m2 : Notes) (x : Note) → m2 ≡ with_note k x m → IsLoadedAt k h → Changed n start h × StandBeside n (having start m) (having h m2)
  leaves_changed m m2 x noted there = ((reloads, subst (λ (k : InodePlace). IsLoadedAt k h) amid.0 there), stands m m2 x noted)

-- after its record is set at the end
leaves_set : (n : ℕ) (start h after : Hand) (k : InodePlace) (d : Dinode) (m m2 : Notes) (x : Note) → IsAmid n start k h → HasNoBuffer h → IsSome (inode_at k h) → after ≡ with_record k d h → m2 ≡ with_note k x m
    → Changed n start after × StandBeside n (having start m) (having after m2)
leaves_set n start h after k d m m2 x amid none there set noted =
    subst (λ (after : Hand). Changed n start after × StandBeside n (having start m) (having after m2)) (sym set)
    (leaves_changed n start (with_record k d h) k (still_amid n start k h (with_record k d h) (record_beside k d h) amid) (no_buffer k) m m2 x noted (set_there k d h there))
  where
    no_buffer : (k : InodePlace) → HasNoBuffer (with_record k d h)
    no_buffer One = none
    no_buffer Two = none

-- .. and its index before
pub leaves_both : (n : ℕ) (start h after : Hand) (k : InodePlace) (d : Dinode) (x : IndexState) (m m2 : Notes) (l : Note) → IsAmid n start k h → HasNoBuffer h → IsSome (inode_at k h) → after ≡ with_record k d (with_index k x h) → m2 ≡ with_note k l m
    → Changed n start after × StandBeside n (having start m) (having after m2)
leaves_both n start h after k d x m m2 l amid none there set noted =
    leaves_set n start (with_index k x h) after k d m m2 l (still_amid n start k h (with_index k x h) (index_beside k x h) amid) (no_buffer k) (some k there) set noted
  where
    no_buffer : (k : InodePlace) → HasNoBuffer (with_index k x h)
    no_buffer One = none
    no_buffer Two = none

    inside : (o : Option (GuardState Inode)) → IsSome o → IsSome (option_map (indexed x) o)
    inside None is = absurd (cc is)
    inside (Some g) is = refl

    some : (k : InodePlace) → IsSome (inode_at k h) → IsSome (inode_at k (with_index k x h))
    some One is = inside h.one is
    some Two is = inside h.two is
