-- What is in hand, seat by seat.
use Rattle.syscalls.proofs.Vocabulary.{◌≡◌, ◌≢◌, ℕ, List, [], Bool, true, false, Option, Some, None, refl, sym, ap, ◌∙◌, subst, ◌==◌, if◌then◌else◌, is_some, IsSome, MatchOption, option_map, Name, eq_is, eq_self, GuardState, Inode, Hand, InodePlace, One, Two, inode_at, reference_at, with_aside, with_inode, with_listed, with_reference, with_txn, IsEmpty, HasNoBuffer, unloaded, without_content, note_at, HasFound, free_seat, locks, other, refers, seat_of_lock, seat_of_reference, Note, Notes, Having, Version}

-- At a seat: nothing, or a reference to inode n. Its lock too, with the record, and also with a name that was found;
-- or without the record. Or the lock alone.
pub data Held : Type 0 where
  Nothing : Held
  Refers : ℕ → Held
  Locks : ℕ → Held
  Finds : Version → ℕ → List ℕ → Name → Held
  Freed : ℕ → Held
  Opens : ℕ → Held

abbrev pub IsLoaded : Option (GuardState Inode) → Type 0
IsLoaded o = MatchOption o ⊥ (λ g. IsSome g.value.content)

abbrev pub IsHeldAt : Held → Option ℕ → Option (GuardState Inode) → Note → Type 0
IsHeldAt Nothing r o m = (r ≡ None) × (o ≡ None)
IsHeldAt (Refers n) r o m = (r ≡ Some n) × (o ≡ None)
IsHeldAt (Locks n) r o m = (r ≡ Some n) × (locks n o ≡ true) × IsLoaded o
IsHeldAt (Finds version n path e) r o m = (r ≡ Some n) × (locks n o ≡ true) × IsLoaded o × HasFound version path e m
IsHeldAt (Freed n) r o m = (r ≡ Some n) × (locks n o ≡ true)
IsHeldAt (Opens n) r o m = (r ≡ None) × (locks n o ≡ true) × IsLoaded o

-- a reference, or none
abbrev pub seated : Option ℕ → Held
seated None = Nothing
seated (Some n) = Refers n

-- whether there is a transaction, what is listed, and to which inode a reference is aside
abbrev pub Around : Type 0
Around = Bool × List ℕ × Option ℕ

-- that at a seat and that at the other, what is around them, and no buffer
pub record HeldAt (k : InodePlace) (t : Around) (x y : Held) (h : Hand) (m : Notes) : Type 0 where
  pub here : IsHeldAt x (reference_at k h) (inode_at k h) (note_at k m)
  pub there : IsHeldAt y (reference_at (other k) h) (inode_at (other k) h) (note_at (other k) m)
  pub txn : is_some h.txn ≡ t.0
  pub listed : h.listed ≡ t.1
  pub aside : h.aside ≡ t.2
  pub buffers : HasNoBuffer h

-- at whichever seats
abbrev pub InHand : Around → Held → Held → Having → Type 0
InHand t x y s = (k : InodePlace) × HeldAt k t x y s.hand s.notes

-- it isn't the lock of inode n
abbrev pub Apart : ℕ → Held → Type 0
Apart n Nothing = Unit {0}
Apart n (Refers m) = Unit {0}
Apart n (Locks m) = n ≢ m
Apart n (Finds version m path e) = n ≢ m
Apart n (Freed m) = n ≢ m
Apart n (Opens m) = n ≢ m

-- no lock without a reference
abbrev pub IsClosed : Held → Type 0
IsClosed (Opens n) = ⊥
IsClosed x = Unit {0}

pub seated_apart : (n : ℕ) (r : Option ℕ) → Apart n (seated r)
seated_apart n None = tt
seated_apart n (Some m) = tt

pub seated_closed : (r : Option ℕ) → IsClosed (seated r)
seated_closed None = tt
seated_closed (Some m) = tt

pub seated_held : (r q : Option ℕ) (o : Option (GuardState Inode)) (m : Note) → q ≡ r → o ≡ None → IsHeldAt (seated r) q o m
seated_held None q o m is none = (is, none)
seated_held (Some n) q o m is none = (is, none)

-- ---- nothing

pub none_is : {A : Type 0} (o : Option A) → is_some o ≡ false → o ≡ None
none_is None e = refl
none_is (Some x) e = absurd (cc e)

pub empty_in : (s : Having) → IsEmpty s.hand → InHand (false, [], None) Nothing Nothing s
empty_in s e = (
  One,
  record {
    here = (ap (λ (h : Hand). h.to_one) e, ap (λ (h : Hand). h.one) e);
    there = (ap (λ (h : Hand). h.to_two) e, ap (λ (h : Hand). h.two) e);
    txn = ap (λ (h : Hand). is_some h.txn) e;
    listed = ap (λ (h : Hand). h.listed) e;
    buffers = (ap (λ (h : Hand). h.first) e, ap (λ (h : Hand). h.second) e);
    aside = ap (λ (h : Hand). h.aside) e;
  },
)

pub in_empty : (s : Having) → InHand (false, [], None) Nothing Nothing s → IsEmpty s.hand
in_empty s (One, held) = let h = s.hand in λ i. record h { txn = none_is h.txn held.txn i; aside = held.aside i; listed = held.listed i; first = held.buffers.0 i; second = held.buffers.1 i; one = held.here.1 i; two = held.there.1 i; to_one = held.here.0 i; to_two = held.there.0 i }
in_empty s (Two, held) = let h = s.hand in λ i. record h { txn = none_is h.txn held.txn i; aside = held.aside i; listed = held.listed i; first = held.buffers.0 i; second = held.buffers.1 i; one = held.there.1 i; two = held.here.1 i; to_one = held.there.0 i; to_two = held.here.0 i }

module _ (t : Around) (x y : Held) (s : Having) where
  pub swapped : InHand t x y s → InHand t y x s
  swapped (One, held) = (Two, record { here = held.there; there = held.here; txn = held.txn; listed = held.listed; buffers = held.buffers; aside = held.aside })
  swapped (Two, held) = (One, record { here = held.there; there = held.here; txn = held.txn; listed = held.listed; buffers = held.buffers; aside = held.aside })

-- ---- which seat an operation finds

-- another inode's lock
another : (n m : ℕ) (o : Option (GuardState Inode)) → locks m o ≡ true → n ≢ m → locks n o ≡ false
another n m None e ne = refl
another n m (Some g) e ne = at (n == g.value.number) refl
  where
    at : (b : Bool) → (n == g.value.number) ≡ b → (n == g.value.number) ≡ false
    at true is = absurd (ne (eq_is n g.value.number is ∙ sym (eq_is m g.value.number e)))
    at false is = is

no_lock : (n : ℕ) (o : Option (GuardState Inode)) → o ≡ None → locks n o ≡ false
no_lock n o e = ap (locks n) e

pub alone : (n : ℕ) (y : Held) (r : Option ℕ) (o : Option (GuardState Inode)) (m : Note) → Apart n y → IsHeldAt y r o m → locks n o ≡ false
alone n Nothing r o m apart held = no_lock n o held.1
alone n (Refers j) r o m apart held = no_lock n o held.1
alone n (Locks j) r o m apart held = another n j o held.1 apart
alone n (Finds version j path e) r o m apart held = another n j o held.1 apart
alone n (Freed j) r o m apart held = another n j o held.1 apart
alone n (Opens j) r o m apart held = another n j o held.1 apart

module _ (t : Around) (n : ℕ) (h : Hand) (m : Notes) where
  -- a lock
  pub lock_at : (k : InodePlace) → locks n (inode_at k h) ≡ true → locks n (inode_at (other k) h) ≡ false → k ≡ seat_of_lock n h
  lock_at One is not = sym (ap (λ (b : Bool). let k : InodePlace = if b then One else Two in k) is)
  lock_at Two is not = sym (ap (λ (b : Bool). let k : InodePlace = if b then One else Two in k) not)

  pub lock_seat : (x y : Held) (k : InodePlace) → locks n (inode_at k h) ≡ true → Apart n y → HeldAt k t x y h m → k ≡ seat_of_lock n h
  lock_seat x y k is apart held = lock_at k is (alone n y (reference_at (other k) h) (inode_at (other k) h) (note_at (other k) m) apart held.there)

  pub at_lock : (x y : Held) (k : InodePlace) → locks n (inode_at k h) ≡ true → Apart n y → HeldAt k t x y h m → HeldAt (seat_of_lock n h) t x y h m
  at_lock x y k is apart held = subst (λ (k : InodePlace). HeldAt k t x y h m) (lock_seat x y k is apart held) held

  -- a reference
  abbrev AtReference : Held → Type 0
  AtReference y = HeldAt (seat_of_reference n h) t (Refers n) y h m

  refers_is : (o : Option ℕ) → refers n o ≡ true → o ≡ Some n
  refers_is None e = absurd (cc e)
  refers_is (Some j) e = sym (ap (λ (j : ℕ). Some j) (eq_is n j e))

  pub is_first : h.to_one ≡ Some n → One ≡ seat_of_reference n h
  is_first e = sym (ap (λ (o : Option ℕ). let k : InodePlace = if refers n o then One else Two in k) e ∙ ap (λ (b : Bool). let k : InodePlace = if b then One else Two in k) (eq_self n))

  pub only_reference : (k : InodePlace) → reference_at k h ≡ Some n → reference_at (other k) h ≡ None → k ≡ seat_of_reference n h
  only_reference One e none = is_first e
  only_reference Two e none = sym (ap (λ (o : Option ℕ). let k : InodePlace = if refers n o then One else Two in k) none)

  at_first : (y : Held) → h.to_one ≡ Some n → HeldAt One t (Refers n) y h m → AtReference y
  at_first y e held = subst (λ (k : InodePlace). HeldAt k t (Refers n) y h m) (is_first e) held

  -- both seats have one
  both : (y : Held) → Apart n y → h.to_one ≡ Some n → HeldAt Two t (Refers n) y h m → HeldAt One t (Refers n) y h m
  both Nothing apart e held = absurd (let clash : Some n ≡ None = sym e ∙ held.there.0 in cc clash)
  both (Refers j) apart e held =
      let same : n ≡ j = let both : Some n ≡ Some j = sym e ∙ held.there.0 in cc both in
      record { here = (e, held.there.1); there = (held.here.0 ∙ ap (λ (j : ℕ). Some j) same, held.here.1); txn = held.txn; listed = held.listed; buffers = held.buffers; aside = held.aside }
  both (Locks j) apart e held = absurd (apart (let both : Some n ≡ Some j = sym e ∙ held.there.0 in cc both))
  both (Finds version j path x) apart e held = absurd (apart (let both : Some n ≡ Some j = sym e ∙ held.there.0 in cc both))
  both (Freed j) apart e held = absurd (apart (let both : Some n ≡ Some j = sym e ∙ held.there.0 in cc both))
  both (Opens j) apart e held = absurd (let clash : Some n ≡ None = sym e ∙ held.there.0 in cc clash)

  at_either : (y : Held) (k : InodePlace) → Apart n y → HeldAt k t (Refers n) y h m → AtReference y
  at_either y One apart held = at_first y held.here.0 held
  at_either y Two apart held = at (refers n h.to_one) refl
    where
      at : (b : Bool) → refers n h.to_one ≡ b → AtReference y
      at true is = at_first y (refers_is h.to_one is) (both y apart (refers_is h.to_one is) held)
      at false is = subst (λ (k : InodePlace). HeldAt k t (Refers n) y h m) (sym (ap (λ (b : Bool). let k : InodePlace = if b then One else Two in k) is)) held

pub at_reference : (t : Around) (n : ℕ) (y : Held) (s : Having) → Apart n y → InHand t (Refers n) y s → HeldAt (seat_of_reference n s.hand) t (Refers n) y s.hand s.notes
at_reference t n y s apart held = at_either t n s.hand s.notes y held.0 apart held.1

-- a seat without a reference
abbrev free_by : Option ℕ → InodePlace
free_by o = if is_some o then Two else One

pub at_free : (t : Around) (y : Held) (s : Having) → IsClosed y → InHand t Nothing y s → HeldAt (free_seat s.hand) t Nothing y s.hand s.notes
at_free t y s closed (One, held) = subst (λ (k : InodePlace). HeldAt k t Nothing y s.hand s.notes) (sym (ap free_by held.here.0)) held
at_free t Nothing s closed (Two, held) =
    subst (λ (k : InodePlace). HeldAt k t Nothing Nothing s.hand s.notes) (sym (ap free_by held.there.0)) (record { here = held.there; there = held.here; txn = held.txn; listed = held.listed; buffers = held.buffers; aside = held.aside })
at_free t (Refers j) s closed (Two, held) = subst (λ (k : InodePlace). HeldAt k t Nothing (Refers j) s.hand s.notes) (sym (ap free_by held.there.0)) held
at_free t (Locks j) s closed (Two, held) = subst (λ (k : InodePlace). HeldAt k t Nothing (Locks j) s.hand s.notes) (sym (ap free_by held.there.0)) held
at_free t (Finds version j path e) s closed (Two, held) = subst (λ (k : InodePlace). HeldAt k t Nothing (Finds version j path e) s.hand s.notes) (sym (ap free_by held.there.0)) held
at_free t (Freed j) s closed (Two, held) = subst (λ (k : InodePlace). HeldAt k t Nothing (Freed j) s.hand s.notes) (sym (ap free_by held.there.0)) held
at_free t (Opens j) s closed (Two, held) = absurd closed

-- none is
pub none_free : (h : Hand) (n m : ℕ) → h.to_one ≡ Some n → h.to_two ≡ Some m → reference_at (free_seat h) h ≡ None → ⊥
none_free h n m one two free =
    let gone : h.to_two ≡ None = subst (λ (k : InodePlace). reference_at k h ≡ None) (ap free_by one) free in
    let clash : Some m ≡ None = sym two ∙ gone in
    cc clash

-- ---- what changes at a seat

-- what is in hand and learned beside it
abbrev pub beside : InodePlace → Hand → Notes → Hand × Note
beside k h m = (with_reference k None (with_inode k None h), note_at (other k) m)

module _ (k : InodePlace) (h g : Hand) (m n : Notes) (noted : note_at (other k) n ≡ note_at (other k) m) where
  pub beside_reference : (r : Option ℕ) → g ≡ with_reference k r h → beside k g n ≡ beside k h m
  beside_reference r e = at k noted e
    where
      at : (k : InodePlace) → note_at (other k) n ≡ note_at (other k) m → g ≡ with_reference k r h → beside k g n ≡ beside k h m
      at One noted e = λ i. (with_reference One None (with_inode One None (e i)), noted i)
      at Two noted e = λ i. (with_reference Two None (with_inode Two None (e i)), noted i)

  pub beside_lock : (o : Option (GuardState Inode)) → g ≡ with_inode k o h → beside k g n ≡ beside k h m
  beside_lock o e = at k noted e
    where
      at : (k : InodePlace) → note_at (other k) n ≡ note_at (other k) m → g ≡ with_inode k o h → beside k g n ≡ beside k h m
      at One noted e = λ i. (with_reference One None (with_inode One None (e i)), noted i)
      at Two noted e = λ i. (with_reference Two None (with_inode Two None (e i)), noted i)

  pub beside_both : (r : Option ℕ) (o : Option (GuardState Inode)) → g ≡ with_inode k o (with_reference k r h) → beside k g n ≡ beside k h m
  beside_both r o e = at k noted e
    where
      at : (k : InodePlace) → note_at (other k) n ≡ note_at (other k) m → g ≡ with_inode k o (with_reference k r h) → beside k g n ≡ beside k h m
      at One noted e = λ i. (with_reference One None (with_inode One None (e i)), noted i)
      at Two noted e = λ i. (with_reference Two None (with_inode Two None (e i)), noted i)

  pub beside_record : unloaded k g ≡ unloaded k h → beside k g n ≡ beside k h m
  beside_record e = at k noted e
    where
      at : (k : InodePlace) → note_at (other k) n ≡ note_at (other k) m → unloaded k g ≡ unloaded k h → beside k g n ≡ beside k h m
      at One noted e = λ i. (with_reference One None (with_inode One None (e i)), noted i)
      at Two noted e = λ i. (with_reference Two None (with_inode Two None (e i)), noted i)

-- if that is the same
module _ (t : Around) (x z y : Held) (h g : Hand) (m n : Notes) where
  abbrev Aside : Type 0
  Aside = Option ℕ × Option (GuardState Inode) × Note

  pub updated : (k : InodePlace) → beside k g n ≡ beside k h m → HeldAt k t x y h m → IsHeldAt z (reference_at k g) (inode_at k g) (note_at k n) → HeldAt k t z y g n
  updated One e held new = record {
    here = new;
    there = subst (λ (p : Aside). IsHeldAt y p.0 p.1 p.2) (sym (ap (λ (p : Hand × Note). let q : Aside = (p.0.to_two, p.0.two, p.1) in q) e)) held.there;
    txn = ap (λ (p : Hand × Note). is_some p.0.txn) e ∙ held.txn;
    listed = ap (λ (p : Hand × Note). p.0.listed) e ∙ held.listed;
    buffers = (ap (λ (p : Hand × Note). p.0.first) e ∙ held.buffers.0, ap (λ (p : Hand × Note). p.0.second) e ∙ held.buffers.1);
    aside = ap (λ (p : Hand × Note). p.0.aside) e ∙ held.aside;
  }
  updated Two e held new = record {
    here = new;
    there = subst (λ (p : Aside). IsHeldAt y p.0 p.1 p.2) (sym (ap (λ (p : Hand × Note). let q : Aside = (p.0.to_one, p.0.one, p.1) in q) e)) held.there;
    txn = ap (λ (p : Hand × Note). is_some p.0.txn) e ∙ held.txn;
    listed = ap (λ (p : Hand × Note). p.0.listed) e ∙ held.listed;
    buffers = (ap (λ (p : Hand × Note). p.0.first) e ∙ held.buffers.0, ap (λ (p : Hand × Note). p.0.second) e ∙ held.buffers.1);
    aside = ap (λ (p : Hand × Note). p.0.aside) e ∙ held.aside;
  }

-- ---- what is at it then

pub reference_there : (k : InodePlace) (r : Option ℕ) (h g : Hand) → g ≡ with_reference k r h → reference_at k g ≡ r
reference_there One r h g e = ap (λ (h : Hand). h.to_one) e
reference_there Two r h g e = ap (λ (h : Hand). h.to_two) e

pub lock_kept : (k : InodePlace) (r : Option ℕ) (h g : Hand) → g ≡ with_reference k r h → inode_at k g ≡ inode_at k h
lock_kept One r h g e = ap (λ (h : Hand). h.one) e
lock_kept Two r h g e = ap (λ (h : Hand). h.two) e

pub lock_there : (k : InodePlace) (o : Option (GuardState Inode)) (h g : Hand) → g ≡ with_inode k o h → inode_at k g ≡ o
lock_there One o h g e = ap (λ (h : Hand). h.one) e
lock_there Two o h g e = ap (λ (h : Hand). h.two) e

pub reference_kept : (k : InodePlace) (o : Option (GuardState Inode)) (h g : Hand) → g ≡ with_inode k o h → reference_at k g ≡ reference_at k h
reference_kept One o h g e = ap (λ (h : Hand). h.to_one) e
reference_kept Two o h g e = ap (λ (h : Hand). h.to_two) e

pub reference_with : (k : InodePlace) (r : Option ℕ) (o : Option (GuardState Inode)) (h g : Hand) → g ≡ with_inode k o (with_reference k r h) → reference_at k g ≡ r
reference_with One r o h g e = ap (λ (h : Hand). h.to_one) e
reference_with Two r o h g e = ap (λ (h : Hand). h.to_two) e

unloaded_locks : (n : ℕ) (o : Option (GuardState Inode)) → locks n (option_map without_content o) ≡ locks n o
unloaded_locks n None = refl
unloaded_locks n (Some g) = refl

same_lock : (n : ℕ) (o p : Option (GuardState Inode)) → option_map without_content p ≡ option_map without_content o → locks n o ≡ true → locks n p ≡ true
same_lock n o p e is = sym (unloaded_locks n p) ∙ ap (locks n) e ∙ unloaded_locks n o ∙ is

pub lock_stays : (n : ℕ) (k : InodePlace) (h g : Hand) → unloaded k g ≡ unloaded k h → locks n (inode_at k h) ≡ true → locks n (inode_at k g) ≡ true
lock_stays n One h g e is = same_lock n h.one g.one (ap (λ (h : Hand). h.one) e) is
lock_stays n Two h g e is = same_lock n h.two g.two (ap (λ (h : Hand). h.two) e) is

pub reference_stays : (k : InodePlace) (h g : Hand) → unloaded k g ≡ unloaded k h → reference_at k g ≡ reference_at k h
reference_stays One h g e = ap (λ (h : Hand). h.to_one) e
reference_stays Two h g e = ap (λ (h : Hand). h.to_two) e

-- a transaction, or none
pub with_other_txn : (t : Around) (x y : Held) (h : Hand) (m : Notes) (k : InodePlace) (o : Option ℕ) → HeldAt k t x y h m → HeldAt k (is_some o, t.1, t.2) x y (with_txn o h) m
with_other_txn t x y h m One o held = record { here = held.here; there = held.there; txn = refl; listed = held.listed; buffers = held.buffers; aside = held.aside }
with_other_txn t x y h m Two o held = record { here = held.here; there = held.there; txn = refl; listed = held.listed; buffers = held.buffers; aside = held.aside }

-- another reference aside
pub with_other_aside : (t : Around) (x y : Held) (h : Hand) (m : Notes) (k : InodePlace) (r : Option ℕ) → HeldAt k t x y h m → HeldAt k (t.0, t.1, r) x y (with_aside r h) m
with_other_aside t x y h m One r held = record { here = held.here; there = held.there; txn = held.txn; listed = held.listed; buffers = held.buffers; aside = refl }
with_other_aside t x y h m Two r held = record { here = held.here; there = held.there; txn = held.txn; listed = held.listed; buffers = held.buffers; aside = refl }

-- another list
pub with_other_list : (t : Around) (x y : Held) (h : Hand) (m : Notes) (k : InodePlace) (ns : List ℕ) → HeldAt k t x y h m → HeldAt k (t.0, ns, t.2) x y (with_listed ns h) m
with_other_list t x y h m One ns held = record { here = held.here; there = held.there; txn = held.txn; listed = refl; buffers = held.buffers; aside = held.aside }
with_other_list t x y h m Two ns held = record { here = held.here; there = held.there; txn = held.txn; listed = refl; buffers = held.buffers; aside = held.aside }
