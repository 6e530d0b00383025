-- How a program goes on, by what is in hand.
use Rattle.fs_machine.proofs.Vocabulary.{◌≡◌, ℕ, List, Option, refl, sym, subst, ap, ◌∙◌, None, BufferState, Bool, true, false, Some, Place, InodePlace, One, Two, First, Second, GuardState, Inode, Ret, bind, P, Hand, block_at, bytes_at, inode_in, reference_at, with_buffer, with_inode, with_reference, IsClaimed, Is, Goes, Fetch, Fetched, fetch_left, fetch_block, fetched_bytes, FetchEnds}
use Rattle.fs_machine.specs.Steps as steps
use Rattle.fs_machine.proofs.Going.{goes_bind, block_of}

pub fetched_goes : {B : Type 0} (f : Fetch) (before h : Hand) (answer : (o : steps.Op) → steps.Answer o) (out : Fetched) (k : ℕ → List ℕ → P B) → Goes (fetch_left f before) answer (Ret (fetched_bytes out h)) → FetchEnds f out h
    → Goes (bind (fetch_left f before) (k (fetch_block f))) answer (k (block_at out.place h) (bytes_at out.place h))
fetched_goes f before h answer out k goes ends =
    subst (λ (b : ℕ). Goes (bind (fetch_left f before) (k (fetch_block f))) answer (k b (bytes_at out.place h))) (sym (block_of out.place h out.block ends.0 ∙ ends.1))
    (goes_bind (fetch_left f before) (Ret (bytes_at out.place h)) (k (fetch_block f)) answer goes)

pub second-kept : (p : Place) (h k : Hand) → p ≡ First → with_buffer p None h ≡ with_buffer p None k → h.second ≡ k.second
second-kept First h k is e = ap (λ (h : Hand). h.second) e
second-kept Second h k is e = absurd (cc is)

-- what is in hand beside a buffer's place
pub inode-beside : (p : Place) (k : InodePlace) (o : Option (GuardState BufferState)) (h : Hand) → inode_in k (with_buffer p o h) ≡ inode_in k h
inode-beside First One o h = refl
inode-beside First Two o h = refl
inode-beside Second One o h = refl
inode-beside Second Two o h = refl

pub inode-kept : (p : Place) (k : InodePlace) (h g : Hand) → with_buffer p None h ≡ with_buffer p None g → inode_in k h ≡ inode_in k g
inode-kept p k h g e = sym (inode-beside p k None h) ∙ ap (inode_in k) e ∙ inode-beside p k None g

-- a program that goes on does so within another, whose rest is the same by what stays in hand
pub goes_with : {A B : Type 0} (p q : P A) (f g : A → P B) (answer : (o : steps.Op) → steps.Answer o) → f ≡ g → Goes p answer q → Goes (bind p f) answer (bind q g)
goes_with {A = A} {B = B} p q f g answer same goes = subst (λ (g : A → P B). Goes (bind p f) answer (bind q g)) same (goes_bind p q f answer goes)

pub goes_to : {A : Type 0} (p q r : P A) (answer : (o : steps.Op) → steps.Answer o) → Goes p answer q → q ≡ r → Goes p answer r
goes_to {A = A} p q r answer goes e = subst (λ (q : P A). Goes p answer q) e goes

-- an inode that was locked
pub inode-there : (k : InodePlace) (g : GuardState Inode) (h : Hand) → inode_in k (with_inode k (Some g) h) ≡ g.value
inode-there One g h = refl
inode-there Two g h = refl

pub first-beside : (k : InodePlace) (o : Option ℕ) (h : Hand) → (with_reference k o h).first ≡ h.first
first-beside One o h = refl
first-beside Two o h = refl

pub reference-beside : (k : InodePlace) (h : Hand) → reference_at k (with_buffer First None h) ≡ reference_at k h
reference-beside One h = refl
reference-beside Two h = refl

pub no-place : (k : InodePlace) (b : Bool) (before h : Hand) → IsClaimed First k (Is b) before h → (b ≡ true) × (h ≡ before)
no-place k true before h same = (refl, same)
no-place k false before h same = absurd same
