-- How a part goes on whose routine takes a lock.
use Rattle.inode_parts.proofs.Vocabulary.{◌≡◌, ℕ, List, Option, Some, None, refl, sym, ap, subst, ◌∙◌, IsSome, MatchOption, option_map_or, put, GuardState, Loaded, Ret, bind, Inode, loaded_of, P, Goes, inode_at, inode_in, no_inode, Hand, InodePlace, One, Two, number_in, loaded_in, IsLoadedAt, beside_lock, goes_to, goes_with, Carry, carry_in, had_of, with_note, IsAlone, locks, other, Part, beside_in, Note, Notes}
use Rattle.fs_machine.specs.Steps as steps
use Rattle.inode_parts.proofs.Sides.{held_beside, same_beside}

-- meanwhile the other seat stays
pub other_stays : (k : InodePlace) (before h : Hand) → beside_lock k h ≡ beside_lock k before → inode_at (other k) before ≡ inode_at (other k) h
other_stays One before h same = sym (ap (λ (h : Hand). h.two) same)
other_stays Two before h same = sym (ap (λ (h : Hand). h.one) same)

pub alone_none : (n : ℕ) (k : InodePlace) (h : Hand) → inode_at (other k) h ≡ None → IsAlone n k h
alone_none n k h e = ap (locks n) e

module _ {A : Type 0} (ends : Carry → A → Part) (path : List ℕ) (m : Notes) (k : InodePlace) (before h : Hand) (p : P A) (answer : (o : steps.Op) → steps.Answer o) (same : beside_lock k h ≡ beside_lock k before) where
  ends_same : ends (beside_in path m k before) ≡ ends (beside_in path m k h)
  ends_same = ap ends (same_beside path m k before h (other_stays k before h same))

  pub lock_on : (l : InodePlace) (q : P A) → l ≡ k → Goes p answer q → Goes (bind p (ends (beside_in path m k before))) answer (bind q (ends (beside_in path m l h)))
  lock_on l q at goes = goes_with p q (ends (beside_in path m k before)) (ends (beside_in path m l h)) answer (ends_same ∙ (λ i. ends (beside_in path m (sym at i) h))) goes

  pub lock_over : (a : A) (r : Part) → ends (beside_in path m k h) a ≡ r → Goes p answer (Ret a) → Goes (bind p (ends (beside_in path m k before))) answer r
  lock_over a r e goes =
      goes_to (bind p (ends (beside_in path m k before))) (ends (beside_in path m k h) a) r answer
      (goes_with p (Ret a) (ends (beside_in path m k before)) (ends (beside_in path m k h)) answer ends_same goes) e

-- ---- what is had of it then

there_loaded : (o : Option (GuardState Inode)) → MatchOption o ⊥ (λ g. IsSome g.value.content)
    → let v : Inode = option_map_or (λ (g : GuardState Inode). g.value) o no_inode in IsSome o × (v.content ≡ Some (loaded_of v))
there_loaded None is = absurd is
there_loaded (Some g) is = (refl, at g.value.content is)
  where
    at : (o : Option Loaded) → IsSome o → let v : Inode = record { number = g.value.number; content = o } in o ≡ Some (loaded_of v)
    at None is = absurd (cc is)
    at (Some l) is = refl

pub loaded_there : (k : InodePlace) (h : Hand) → IsLoadedAt k h → IsSome (inode_at k h) × ((inode_in k h).content ≡ Some (loaded_in k h))
loaded_there One h is = there_loaded h.one is
loaded_there Two h is = there_loaded h.two is

pub had_now : (path : List ℕ) (m : Notes) (k : InodePlace) (h : Hand) (l : Note) (n : ℕ) → IsLoadedAt k h → number_in k h ≡ n → IsAlone n k h
    → put (beside_in path m k h) n (had_of path l (Some (loaded_in k h))) ≡ carry_in path (with_note k l m) h
had_now path m k h l n loaded named alone =
    let there = loaded_there k h loaded in
    (λ i. put (beside_in path m k h) (sym named i) (had_of path l (sym there.1 i)))
    ∙ held_beside path m h k l there.0 (subst (λ (n : ℕ). IsAlone n k h) (sym named) alone)

-- ---- seats without a lock

pub first_seat : (k : InodePlace) (h : Hand) → k ≡ One → h.one ≡ None → h.two ≡ None → (inode_at k h ≡ None) × (inode_at (other k) h ≡ None)
first_seat k h is one two = subst (λ (k : InodePlace). (inode_at k h ≡ None) × (inode_at (other k) h ≡ None)) (sym is) (one, two)

pub other_free : (k l : InodePlace) (before h : Hand) → l ≡ k → beside_lock k h ≡ beside_lock k before → inode_at (other k) before ≡ None → inode_at (other l) h ≡ None
other_free k l before h is same free = subst (λ (l : InodePlace). inode_at (other l) h ≡ None) (sym is) (sym (other_stays k before h same) ∙ free)
