-- What is in hand after one operation.
use Rattle.inode_parts.proofs.Vocabulary.{◌≡◌, ℕ, List, Bool, true, false, Option, Some, None, refl, sym, ap, ◌∙◌, subst, ◌==◌, if◌then◌else◌, IsSome, option_map_or, put, eq_is, GuardState, Inode, Hand, Place, First, Second, InodePlace, One, Two, inode_at, inode_in, no_inode, with_aside, with_buffer, with_inode, with_reference, with_seated, with_txn, kept_by, is_listed, Had, Apart, carry_in, had_at, had_of, with_note, IsAlone, locks, Note, Notes}

-- the locks are as they were
pub still_in : (path : List ℕ) (m : Notes) (before h : Hand) → before.one ≡ h.one → before.two ≡ h.two → carry_in path m before ≡ carry_in path m h
still_in path m before h one two = λ i n. had_at path m.one (one i) n (had_at path m.two (two i) n Apart)

pub same_in : (path : List ℕ) (m : Notes) (before h : Hand) → h ≡ before → carry_in path m before ≡ carry_in path m h
same_in path m before h e = sym (ap (carry_in path m) e)

pub beside_reference : (path : List ℕ) (m : Notes) (k : InodePlace) (r : Option ℕ) (before h : Hand) → h ≡ with_reference k r before → carry_in path m before ≡ carry_in path m h
beside_reference path m One r before h e = still_in path m before h (sym (ap (λ (h : Hand). h.one) e)) (sym (ap (λ (h : Hand). h.two) e))
beside_reference path m Two r before h e = still_in path m before h (sym (ap (λ (h : Hand). h.one) e)) (sym (ap (λ (h : Hand). h.two) e))

pub beside_aside : (path : List ℕ) (m : Notes) (r : Option ℕ) (before h : Hand) → h ≡ with_aside r before → carry_in path m before ≡ carry_in path m h
beside_aside path m r before h e = still_in path m before h (sym (ap (λ (h : Hand). h.one) e)) (sym (ap (λ (h : Hand). h.two) e))

pub beside_seated : (path : List ℕ) (m : Notes) (k : InodePlace) (before h : Hand) → h ≡ with_seated k before → carry_in path m before ≡ carry_in path m h
beside_seated path m k before h e = beside_aside path m None before (with_aside None before) refl ∙ beside_reference path m k before.aside (with_aside None before) h e

pub beside_txn : (path : List ℕ) (m : Notes) (o : Option ℕ) (before h : Hand) → h ≡ with_txn o before → carry_in path m before ≡ carry_in path m h
beside_txn path m o before h e = still_in path m before h (sym (ap (λ (h : Hand). h.one) e)) (sym (ap (λ (h : Hand). h.two) e))

pub beside_buffer : (path : List ℕ) (m : Notes) (p : Place) (before h : Hand) → with_buffer p None h ≡ with_buffer p None before → carry_in path m before ≡ carry_in path m h
beside_buffer path m First before h e = still_in path m before h (sym (ap (λ (h : Hand). h.one) e)) (sym (ap (λ (h : Hand). h.two) e))
beside_buffer path m Second before h e = still_in path m before h (sym (ap (λ (h : Hand). h.one) e)) (sym (ap (λ (h : Hand). h.two) e))

-- it has another one, or none
pub elsewhere : (path : List ℕ) (l : Note) (n : ℕ) (o : Option (GuardState Inode)) (x : Had) → locks n o ≡ false → had_at path l o n x ≡ x
elsewhere path l n None x e = refl
elsewhere path l n (Some g) x e = ap (λ (b : Bool). if b then had_of path l g.value.content else x) e

-- not at this seat, if it isn't locked there
pub apart : (path : List ℕ) (l : Note) (o : Option (GuardState Inode)) (i n : ℕ) (x : Had) → locks n o ≡ false → (i == n) ≡ true → had_at path l o i x ≡ x
apart path l o i n x alone e = elsewhere path l i o x (subst (λ (n : ℕ). locks n o ≡ false) (sym (eq_is i n e)) alone)

abbrev number_of : Option (GuardState Inode) → ℕ
number_of o = (option_map_or (λ (g : GuardState Inode). g.value) o no_inode).number

not_it : (path : List ℕ) (l : Note) (o : Option (GuardState Inode)) (i : ℕ) (x : Had) → IsSome o → (i == number_of o) ≡ false → had_at path l o i x ≡ x
not_it path l None i x has e = absurd (cc has)
not_it path l (Some g) i x has e = ap (λ (b : Bool). if b then had_of path l g.value.content else x) e

-- after a lock is given up nothing is had of its inode
pub gave : (path : List ℕ) (m : Notes) (k : InodePlace) (before : Hand) → IsSome (inode_at k before) → IsAlone (inode_in k before).number k before
    → put (carry_in path m before) (inode_in k before).number Apart ≡ carry_in path m (with_inode k None before)
unfolding put
gave path m One before has alone = λ j i. at i (i == number_of before.one) refl j
  where
    at : (i : ℕ) (b : Bool) → (i == number_of before.one) ≡ b → let x : Had = if b then Apart else carry_in path m before i in x ≡ had_at path m.two before.two i Apart
    at i true e = sym (apart path m.two before.two i (number_of before.one) Apart alone e)
    at i false e = not_it path m.one before.one i (had_at path m.two before.two i Apart) has e
gave path m Two before has alone = λ j i. at i (i == number_of before.two) refl j
  where
    at : (i : ℕ) (b : Bool) → (i == number_of before.two) ≡ b → let x : Had = if b then Apart else carry_in path m before i in x ≡ had_at path m.one before.one i Apart
    at i true e = sym (apart path m.one before.one i (number_of before.two) Apart alone e)
    at i false e = ap (had_at path m.one before.one i) (not_it path m.two before.two i Apart has e)

-- after a lock came into hand this is had of it
pub held : (path : List ℕ) (m : Notes) (k : InodePlace) (l : Note) (g : GuardState Inode) (before : Hand) → inode_at k before ≡ None → IsAlone g.value.number k before
    → put (carry_in path m before) g.value.number (had_of path l g.value.content) ≡ carry_in path (with_note k l m) (with_inode k (Some g) before)
unfolding put
held path m One l g before free alone = λ j i. let x : Had = if i == g.value.number then had_of path l g.value.content else had_at path m.one (free j) i (had_at path m.two before.two i Apart) in x
held path m Two l g before free alone = λ j i. at i (i == g.value.number) refl j
  where
    at : (i : ℕ) (b : Bool) → (i == g.value.number) ≡ b → let x : Had = if b then had_of path l g.value.content else carry_in path m before i in x ≡ had_at path m.one before.one i (if b then had_of path l g.value.content else Apart)
    at i true e = sym (apart path m.one before.one i g.value.number (had_of path l g.value.content) alone e)
    at i false e = ap (λ (o : Option (GuardState Inode)). had_at path m.one before.one i (had_at path m.two o i Apart)) free

-- a dropped reference
pub listed_so : (b : Bool) → is_listed (kept_by b) ≡ b
listed_so true = refl
listed_so false = refl
