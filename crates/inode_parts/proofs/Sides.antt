-- What is in hand of one inode, and beside it what is at the other seat.
use Rattle.inode_parts.proofs.Vocabulary.{◌≡◌, ℕ, List, Bool, true, false, Option, Some, None, refl, sym, ap, subst, ◌∙◌, ◌==◌, if◌then◌else◌, IsSome, option_map_or, put, eq_is, GuardState, Inode, Hand, InodePlace, One, Two, inode_at, inode_in, no_inode, Had, Apart, carry_in, had_at, had_of, note_at, with_note, IsAlone, locks, other, beside_in, IsOf, Note, Notes}
use Rattle.inode_parts.proofs.Handing.{apart}

-- a seat whose lock, if one is there, is that of another inode
passed : (path : List ℕ) (l : Note) (n : ℕ) (o : Option (GuardState Inode)) (i : ℕ) (x : Had) → IsOf n o → (i == n) ≡ false → had_at path l o i x ≡ x
passed path l n None i x is e = refl
passed path l n (Some g) i x is e = ap (λ (b : Bool). if b then had_of path l g.value.content else x) (ap (λ (k : ℕ). i == k) is ∙ e)

module _ (path : List ℕ) (m : Notes) (h : Hand) where
  -- what is had of inode n is what it was set to, whatever a seat has of it
  pub had_beside : (k : InodePlace) (n : ℕ) (had : Had) → IsOf n (inode_at k h) → put (carry_in path m h) n had ≡ put (beside_in path m k h) n had
  unfolding put
  had_beside One n had is = λ j i. at i (i == n) refl j
    where
      at : (i : ℕ) (b : Bool) → (i == n) ≡ b → let x : Had = if b then had else carry_in path m h i in x ≡ (if b then had else beside_in path m One h i)
      at i true e = refl
      at i false e = passed path m.one n h.one i (had_at path m.two h.two i Apart) is e
  had_beside Two n had is = λ j i. at i (i == n) refl j
    where
      at : (i : ℕ) (b : Bool) → (i == n) ≡ b → let x : Had = if b then had else carry_in path m h i in x ≡ (if b then had else beside_in path m Two h i)
      at i true e = refl
      at i false e = ap (had_at path m.one h.one i) (passed path m.two n h.two i Apart is e)

  -- if a seat has no lock
  pub none_beside : (k : InodePlace) → inode_at k h ≡ None → carry_in path m h ≡ beside_in path m k h
  none_beside One e = λ j i. had_at path m.one (e j) i (had_at path m.two h.two i Apart)
  none_beside Two e = λ j i. had_at path m.one h.one i (had_at path m.two (e j) i Apart)

  -- if a seat has the lock of inode n, and what was learned of it
  pub there_beside : (k : InodePlace) (l : Note) (g : GuardState Inode) → inode_at k h ≡ Some g → IsAlone g.value.number k h
      → put (beside_in path m k h) g.value.number (had_of path l g.value.content) ≡ carry_in path (with_note k l m) h
  unfolding put
  there_beside One l g e alone = λ j i. let x : Had = had_at path l (sym e j) i (had_at path m.two h.two i Apart) in x
  there_beside Two l g e alone =
      (λ j i. at i (i == g.value.number) refl j) ∙ (λ j i. had_at path m.one h.one i (had_at path l (sym e j) i Apart))
    where
      at : (i : ℕ) (b : Bool) → (i == g.value.number) ≡ b → let x : Had = if b then had_of path l g.value.content else had_at path m.one h.one i Apart in x ≡ had_at path m.one h.one i (if b then had_of path l g.value.content else Apart)
      at i true e = sym (apart path m.one h.one i g.value.number (had_of path l g.value.content) alone e)
      at i false e = refl

-- the guard at a seat
pub guard_at : (o : Option (GuardState Inode)) → IsSome o → (g : GuardState Inode) × (o ≡ Some g)
guard_at None is = absurd (cc is)
guard_at (Some g) is = (g, refl)

pub named_in : (k : InodePlace) (h : Hand) (g : GuardState Inode) → inode_at k h ≡ Some g → inode_in k h ≡ g.value
named_in One h g e = ap (λ (o : Option (GuardState Inode)). option_map_or (λ (g : GuardState Inode). g.value) o no_inode) e
named_in Two h g e = ap (λ (o : Option (GuardState Inode)). option_map_or (λ (g : GuardState Inode). g.value) o no_inode) e

-- the same by the inode at the seat
pub held_beside : (path : List ℕ) (m : Notes) (h : Hand) (k : InodePlace) (l : Note) → IsSome (inode_at k h) → IsAlone (inode_in k h).number k h
    → put (beside_in path m k h) (inode_in k h).number (had_of path l (inode_in k h).content) ≡ carry_in path (with_note k l m) h
held_beside path m h k l there alone =
    let g = guard_at (inode_at k h) there in
    let is : inode_in k h ≡ g.0.value = named_in k h g.0 g.1 in
    (λ j. put (beside_in path m k h) (is j).number (had_of path l (is j).content))
    ∙ there_beside path m h k l g.0 g.1 (subst (λ (v : Inode). IsAlone v.number k h) is alone)

-- it depends on the other seat alone
pub same_beside : (path : List ℕ) (m : Notes) (k : InodePlace) (before h : Hand) → inode_at (other k) before ≡ inode_at (other k) h → beside_in path m k before ≡ beside_in path m k h
same_beside path m k before h e = λ j i. had_at path (note_at (other k) m) (e j) i Apart

pub alone_still : (k : InodePlace) (before h : Hand) (n : ℕ) → inode_at (other k) before ≡ inode_at (other k) h → IsAlone n k before → IsAlone n k h
alone_still k before h n e alone = subst (λ (o : Option (GuardState Inode)). locks n o ≡ false) e alone

-- the lock of inode n is that
pub lock_is_of : (n : ℕ) (o : Option (GuardState Inode)) → locks n o ≡ true → IsOf n o
lock_is_of n None e = absurd (cc e)
lock_is_of n (Some g) e = sym (eq_is n g.value.number e)
