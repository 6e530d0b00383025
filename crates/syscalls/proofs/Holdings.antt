-- What each operation on whole inodes finds in hand, and leaves there.
use Rattle.syscalls.proofs.Vocabulary.{◌≡◌, ℕ, List, [], ◌∷◌, ◌++◌, Bool, true, false, Option, Some, None, sym, ap, ◌∙◌, refl, subst, ◌⊎◌, inl, inr, ◌==◌, is_some, Name, eq_self, GuardState, Inode, Hand, InodePlace, One, Two, first_in, inode_at, reference_at, with_aside, with_first, with_inode, with_listed, with_reference, with_seated, with_txn, unloaded, with_last, note_at, HasFound, HasFreeSeat, HasLock, HasReference, IsAlone, MayRefer, free_seat, locks, other, seat_of_lock, seat_of_reference, Note, Notes, MayLock, MayRelock, CameTo, Having, Joined, Leaves, Opened, ReferredOrAside, Relocked, Stand, Version}
use Rattle.std.proofs.Common.{drop}
use Rattle.inode_machine.specs.World as above
use Rattle.syscalls.proofs.Seats.{Around, Apart, Finds, Held, HeldAt, InHand, IsClosed, IsHeldAt, IsLoaded, Locks, Nothing, Opens, Refers, seated, alone, at_free, at_lock, at_reference, beside_both, beside_lock, beside_record, beside_reference, lock_at, lock_kept, lock_seat, lock_stays, lock_there, none_is, reference_kept, reference_stays, reference_there, reference_with, is_first, none_free, only_reference, seated_held, swapped, updated, with_other_aside, with_other_list, with_other_txn}

-- the same hand
pub stays : (t : Around) (x y : Held) (s u : Having) → InHand t x y s → u.hand ≡ s.hand → u.notes ≡ s.notes → InHand t x y u
stays t x y s u held e noted =
    (held.0, subst (λ (h : Hand). HeldAt held.0 t x y h u.notes) (sym e) (subst (λ (m : Notes). HeldAt held.0 t x y s.hand m) (sym noted) held.1))

-- .. with no lock, of which something was learned
pub unlearned : (t : Around) (s u : Having) → InHand t Nothing Nothing s → u.hand ≡ s.hand → InHand t Nothing Nothing u
unlearned t s u held e =
    let kept = stays t Nothing Nothing s (record { hand = u.hand; notes = s.notes }) held e refl in
    (kept.0, record { here = kept.1.here; there = kept.1.there; txn = kept.1.txn; listed = kept.1.listed; buffers = kept.1.buffers; aside = kept.1.aside })

-- a lock of inode n
lock_here : (n : ℕ) (g : GuardState Inode) → g.value.number ≡ n → locks n (Some g) ≡ true
lock_here n g e = ap (λ (k : ℕ). n == k) e ∙ eq_self n

locks_at : (n : ℕ) (k : InodePlace) (h g : Hand) → CameTo k n h g → locks n (inode_at k g) ≡ true
locks_at n k h g came = ap (locks n) (lock_there k (Some came.0) h g came.1) ∙ lock_here n came.0 came.2

loaded_at : (n : ℕ) (k : InodePlace) (h g : Hand) → CameTo k n h g → IsLoaded (inode_at k g)
loaded_at n k h g came = subst IsLoaded (sym (lock_there k (Some came.0) h g came.1)) came.3

module _ (t : Around) (y : Held) (s u : Having) where
  -- ---- a reference more

  module _ (closed : IsClosed y) (held : InHand t Nothing y s) where
    pub free_found : HasFreeSeat s.hand
    free_found = (at_free t y s closed held).here.0

    refer : (z : Held) (r : Option ℕ) → u.hand ≡ with_reference (free_seat s.hand) r s.hand → u.notes ≡ s.notes
        → IsHeldAt z (reference_at (free_seat s.hand) u.hand) (inode_at (free_seat s.hand) u.hand) (note_at (free_seat s.hand) u.notes) → InHand t z y u
    refer z r e noted new =
        let k = free_seat s.hand in
        (k, updated t Nothing z y s.hand u.hand s.notes u.notes k (beside_reference k s.hand u.hand s.notes u.notes (ap (note_at (other k)) noted) r e) (at_free t y s closed held) new)

    unlocked : (r : Option ℕ) → u.hand ≡ with_reference (free_seat s.hand) r s.hand → inode_at (free_seat s.hand) u.hand ≡ None
    unlocked r e = lock_kept (free_seat s.hand) r s.hand u.hand e ∙ (at_free t y s closed held).here.1

    pub referred : (n : ℕ) → u.hand ≡ with_reference (free_seat s.hand) (Some n) s.hand → u.notes ≡ s.notes → InHand t (Refers n) y u
    referred n e noted = refer (Refers n) (Some n) e noted (reference_there (free_seat s.hand) (Some n) s.hand u.hand e, unlocked (Some n) e)

    pub unreferred : u.hand ≡ with_reference (free_seat s.hand) None s.hand → u.notes ≡ s.notes → InHand t Nothing y u
    unreferred e noted = refer Nothing None e noted (reference_there (free_seat s.hand) None s.hand u.hand e, unlocked None e)

    -- .. to what was found: no seat but this is sought
    pub may_refer : MayRefer s.hand
    may_refer = inl free_found

    pub upped : (r : Option ℕ) → ReferredOrAside r s.hand u.hand → u.notes ≡ s.notes → InHand t (seated r) y u
    upped r e noted =
        let k = free_seat s.hand in
        let at = e.0 free_found in
        refer (seated r) r at noted (seated_held r (reference_at k u.hand) (inode_at k u.hand) (note_at k u.notes) (reference_there k r s.hand u.hand at) (unlocked r at))

  module _ (n : ℕ) (apart : Apart n y) where
    alone_at : (x : Held) (k : InodePlace) → HeldAt k t x y s.hand s.notes → IsAlone n k s.hand
    alone_at x k at = alone n y (reference_at (other k) s.hand) (inode_at (other k) s.hand) (note_at (other k) s.notes) apart at.there

    -- ---- a reference less, or its lock

    module _ (held : InHand t (Refers n) y s) where
      at : HeldAt (seat_of_reference n s.hand) t (Refers n) y s.hand s.notes
      at = at_reference t n y s apart held

      -- it is found, if no lock is there
      pub reference_found : HasReference n s.hand
      reference_found = at.here.0

      pub down_found : HasReference n s.hand × (inode_at (seat_of_reference n s.hand) s.hand ≡ None) × IsAlone n (seat_of_reference n s.hand) s.hand
      down_found = (at.here.0, at.here.1, alone_at (Refers n) (seat_of_reference n s.hand) at)

      pub take_found : MayLock n s.hand
      take_found = (at.here.0, at.here.1, alone_at (Refers n) (seat_of_reference n s.hand) at, at.buffers)

      pub dropped : u.hand ≡ with_reference (seat_of_reference n s.hand) None s.hand → Stand (seat_of_reference n s.hand) s u → InHand t Nothing y u
      dropped e noted =
          let k = seat_of_reference n s.hand in (
            k,
            updated t (Refers n) Nothing y s.hand u.hand s.notes u.notes k (beside_reference k s.hand u.hand s.notes u.notes noted None e) at
                (reference_there k None s.hand u.hand e, lock_kept k None s.hand u.hand e ∙ at.here.1),
          )

      lock_came : (z : Held) → CameTo (seat_of_reference n s.hand) n s.hand u.hand → Stand (seat_of_reference n s.hand) s u
          → IsHeldAt z (reference_at (seat_of_reference n s.hand) u.hand) (inode_at (seat_of_reference n s.hand) u.hand) (note_at (seat_of_reference n s.hand) u.notes) → InHand t z y u
      lock_came z came noted new =
          let k = seat_of_reference n s.hand in
          (k, updated t (Refers n) z y s.hand u.hand s.notes u.notes k (beside_lock k s.hand u.hand s.notes u.notes noted (Some came.0) came.1) at new)

      there : CameTo (seat_of_reference n s.hand) n s.hand u.hand → reference_at (seat_of_reference n s.hand) u.hand ≡ Some n
      there came = reference_kept (seat_of_reference n s.hand) (Some came.0) s.hand u.hand came.1 ∙ at.here.0

      pub locked : CameTo (seat_of_reference n s.hand) n s.hand u.hand → Stand (seat_of_reference n s.hand) s u → InHand t (Locks n) y u
      locked came noted =
          let k = seat_of_reference n s.hand in
          lock_came (Locks n) came noted (there came, locks_at n k s.hand u.hand came, loaded_at n k s.hand u.hand came)

      -- its lock is then at that seat
      pub locked_seat : CameTo (seat_of_reference n s.hand) n s.hand u.hand → seat_of_reference n s.hand ≡ seat_of_lock n u.hand
      locked_seat came = seat_is (seat_of_reference n s.hand) at came
        where
          other_same : (k : InodePlace) (g : GuardState Inode) → u.hand ≡ with_inode k (Some g) s.hand → inode_at (other k) u.hand ≡ inode_at (other k) s.hand
          other_same One g e = ap (λ (h : Hand). h.two) e
          other_same Two g e = ap (λ (h : Hand). h.one) e

          here : (k : InodePlace) → locks n (inode_at k u.hand) ≡ true → locks n (inode_at (other k) u.hand) ≡ false → k ≡ seat_of_lock n u.hand
          here k is not = lock_at t n u.hand u.notes k is not

          seat_is : (k : InodePlace) → HeldAt k t (Refers n) y s.hand s.notes → CameTo k n s.hand u.hand → k ≡ seat_of_lock n u.hand
          seat_is k at came = here k (locks_at n k s.hand u.hand came) (ap (locks n) (other_same k came.0 came.1) ∙ alone_at (Refers n) k at)

      -- a name was found
      pub found : (version : Version) (path : List ℕ) (e : Name) → CameTo (seat_of_reference n s.hand) n s.hand u.hand → Stand (seat_of_reference n s.hand) s u → HasFound version path e (note_at (seat_of_reference n s.hand) u.notes) → InHand t (Finds version n path e) y u
      found version path e came noted named =
          let k = seat_of_reference n s.hand in
          lock_came (Finds version n path e) came noted (there came, locks_at n k s.hand u.hand came, loaded_at n k s.hand u.hand came, named)

    -- ---- its lock given up, or kept

    module _ (x : Held) (k : InodePlace) (held : HeldAt k t x y s.hand s.notes) (is : locks n (inode_at k s.hand) ≡ true) where
      abbrev AtLock : Type 0
      AtLock = HeldAt (seat_of_lock n s.hand) t x y s.hand s.notes

      pub at_its_lock : AtLock
      at_its_lock = at_lock t n s.hand s.notes x y k is apart held

      is_there : locks n (inode_at (seat_of_lock n s.hand) s.hand) ≡ true
      is_there = subst (λ (k : InodePlace). locks n (inode_at k s.hand) ≡ true) (lock_seat t n s.hand s.notes x y k is apart held) is

      pub lock_found : HasLock n s.hand
      lock_found = (is_there, alone_at x (seat_of_lock n s.hand) at_its_lock)

      pub gave : (z : Held) → u.hand ≡ with_inode (seat_of_lock n s.hand) None s.hand → u.notes ≡ s.notes → ((o : Note) → IsHeldAt z (reference_at (seat_of_lock n s.hand) s.hand) None o) → InHand t z y u
      gave z e noted new =
          let k = seat_of_lock n s.hand in (
            k,
            updated t x z y s.hand u.hand s.notes u.notes k (beside_lock k s.hand u.hand s.notes u.notes (ap (note_at (other k)) noted) None e) at_its_lock
                (subst (λ (r : Option ℕ). IsHeldAt z r (inode_at k u.hand) (note_at k u.notes)) (sym (reference_kept k None s.hand u.hand e))
                (subst (λ (o : Option (GuardState Inode)). IsHeldAt z (reference_at k s.hand) o (note_at k u.notes)) (sym (lock_there k None s.hand u.hand e)) (new (note_at k u.notes)))),
          )

      -- if it becomes the current directory its reference is to the old one
      pub settled : (old : ℕ) → u.hand ≡ with_reference (seat_of_lock n s.hand) (Some old) (with_inode (seat_of_lock n s.hand) None s.hand) → u.notes ≡ s.notes → InHand t (Refers old) y u
      settled old e noted = (seat_of_lock n s.hand, at (seat_of_lock n s.hand) at_its_lock e)
        where
          at : (k : InodePlace) → HeldAt k t x y s.hand s.notes → u.hand ≡ with_reference k (Some old) (with_inode k None s.hand) → HeldAt k t (Refers old) y u.hand u.notes
          at One held e = updated t x (Refers old) y s.hand u.hand s.notes u.notes One (λ i. (with_reference One None (with_inode One None (e i)), note_at Two (noted i))) held (ap (λ (h : Hand). h.to_one) e, ap (λ (h : Hand). h.one) e)
          at Two held e = updated t x (Refers old) y s.hand u.hand s.notes u.notes Two (λ i. (with_reference Two None (with_inode Two None (e i)), note_at One (noted i))) held (ap (λ (h : Hand). h.to_two) e, ap (λ (h : Hand). h.two) e)

      -- what is loaded changes
      pub reloaded : (z : Held) → unloaded (seat_of_lock n s.hand) u.hand ≡ unloaded (seat_of_lock n s.hand) s.hand → Stand (seat_of_lock n s.hand) s u
          → (locks n (inode_at (seat_of_lock n s.hand) u.hand) ≡ true → IsHeldAt z (reference_at (seat_of_lock n s.hand) s.hand) (inode_at (seat_of_lock n s.hand) u.hand) (note_at (seat_of_lock n s.hand) u.notes)) → InHand t z y u
      reloaded z e noted new =
          let k = seat_of_lock n s.hand in (
            k,
            updated t x z y s.hand u.hand s.notes u.notes k (beside_record k s.hand u.hand s.notes u.notes noted e) at_its_lock
                (subst (λ (r : Option ℕ). IsHeldAt z r (inode_at k u.hand) (note_at k u.notes)) (sym (reference_stays k s.hand u.hand e)) (new (lock_stays n k s.hand u.hand e is_there))),
          )

-- ---- a lock without a reference

module _ (t : Around) (s u : Having) (held : InHand t Nothing Nothing s) where
  pub none_locked : (s.hand.one ≡ None) × (s.hand.two ≡ None)
  none_locked = at held
    where
      at : InHand t Nothing Nothing s → (s.hand.one ≡ None) × (s.hand.two ≡ None)
      at (One, held) = (held.here.1, held.there.1)
      at (Two, held) = (held.there.1, held.here.1)

  pub opened : (n : ℕ) → Opened n s.hand u.hand → InHand t (Opens n) Nothing u
  opened n (k, free, came) = (
    k,
    with_any k (updated t Nothing (Opens n) Nothing s.hand u.hand s.notes s.notes k (beside_lock k s.hand u.hand s.notes s.notes refl (Some came.0) came.1) (either k held)
        (reference_kept k (Some came.0) s.hand u.hand came.1 ∙ (either k held).here.0, locks_at n k s.hand u.hand came, loaded_at n k s.hand u.hand came)),
  )
    where
      -- of neither anything was learned
      with_any : (k : InodePlace) → HeldAt k t (Opens n) Nothing u.hand s.notes → HeldAt k t (Opens n) Nothing u.hand u.notes
      with_any k held = record { here = held.here; there = held.there; txn = held.txn; listed = held.listed; buffers = held.buffers; aside = held.aside }

      either : (k : InodePlace) → InHand t Nothing Nothing s → HeldAt k t Nothing Nothing s.hand s.notes
      either One (One, held) = held
      either One (Two, held) = record { here = held.there; there = held.here; txn = held.txn; listed = held.listed; buffers = held.buffers; aside = held.aside }
      either Two (One, held) = record { here = held.there; there = held.here; txn = held.txn; listed = held.listed; buffers = held.buffers; aside = held.aside }
      either Two (Two, held) = held

  -- an inode of a list, with its reference
  no_reference : (n : ℕ) → HasReference n s.hand → ⊥
  no_reference n has = at (seat_of_reference n s.hand) held has
    where
      at : (k : InodePlace) → InHand t Nothing Nothing s → reference_at k s.hand ≡ Some n → ⊥
      at One (One, held) has = let clash : None ≡ Some n = sym held.here.0 ∙ has in cc clash
      at One (Two, held) has = let clash : None ≡ Some n = sym held.there.0 ∙ has in cc clash
      at Two (One, held) has = let clash : None ≡ Some n = sym held.there.0 ∙ has in cc clash
      at Two (Two, held) has = let clash : None ≡ Some n = sym held.here.0 ∙ has in cc clash

  -- the first one listed
  module _ (n : ℕ) (ns : List ℕ) (first : t.1 ≡ n ∷ ns) where
    pub relocking : MayRelock n s.hand
    relocking =
        let at = at_free t Nothing s tt held in
        let k = free_seat s.hand in
        (no_reference n, (ns, held.1.listed ∙ first), at.here.0, at.here.1, alone n Nothing (reference_at (other k) s.hand) (inode_at (other k) s.hand) (note_at (other k) s.notes) tt at.there, at.buffers)

    pub relocked : Relocked n s.hand u.hand → InHand (t.0, ns, t.2) (Locks n) Nothing u
    relocked came =
        let k = free_seat s.hand in
        let rest = with_listed ns s.hand in
        let h = with_reference k (Some n) rest in
        let moved : with_first k s.hand ≡ h = ap (λ (ms : List ℕ). with_reference k (Some (first_in ms)) (with_listed (drop 1 ms) s.hand)) (held.1.listed ∙ first) in
        let to : CameTo k n h u.hand = subst (λ (h : Hand). CameTo k n h u.hand) moved came in (
          k,
          forget k (updated (t.0, ns, t.2) Nothing (Locks n) Nothing rest u.hand s.notes s.notes k (beside_both k rest u.hand s.notes s.notes refl (Some n) (Some to.0) to.1)
              (with_other_list t Nothing Nothing s.hand s.notes k ns (at_free t Nothing s tt held))
              (reference_with k (Some n) (Some to.0) rest u.hand to.1, locks_at n k h u.hand to, loaded_at n k h u.hand to)),
        )
      where
        forget : (k : InodePlace) → HeldAt k (t.0, ns, t.2) (Locks n) Nothing u.hand s.notes → HeldAt k (t.0, ns, t.2) (Locks n) Nothing u.hand u.notes
        forget k held = record { here = held.here; there = held.there; txn = held.txn; listed = held.listed; buffers = held.buffers; aside = held.aside }

-- ---- a reference gone, while its lock stays

module _ (t : Around) (n : ℕ) (s u : Having) where
  -- the lock is there as before
  stays_locked : (k : InodePlace) (y : Held) → HeldAt k t (Locks n) y s.hand s.notes → u.hand ≡ with_reference k None s.hand → u.notes ≡ s.notes → HeldAt k t (Opens n) y u.hand u.notes
  stays_locked k y held e noted =
      let lock = sym (lock_kept k None s.hand u.hand e) in
      updated t (Locks n) (Opens n) y s.hand u.hand s.notes u.notes k (beside_reference k s.hand u.hand s.notes u.notes (ap (note_at (other k)) noted) None e) held
      (reference_there k None s.hand u.hand e, subst (λ (o : Option (GuardState Inode)). locks n o ≡ true) lock held.here.1, subst IsLoaded lock held.here.2)

  module _ (held : InHand t (Locks n) Nothing s) where
    seat_found : held.0 ≡ seat_of_reference n s.hand
    seat_found = only_reference t n s.hand s.notes held.0 held.1.here.0 held.1.there.0

    pub install_found : HasReference n s.hand
    install_found = subst (λ (k : InodePlace). reference_at k s.hand ≡ Some n) seat_found held.1.here.0

    pub installed : u.hand ≡ with_reference (seat_of_reference n s.hand) None s.hand → u.notes ≡ s.notes → InHand t (Opens n) Nothing u
    installed e noted = (held.0, stays_locked held.0 Nothing held.1 (subst (λ (k : InodePlace). u.hand ≡ with_reference k None s.hand) (sym seat_found) e) noted)

  -- if there is one at each seat, that at the first goes
  module _ (held : InHand t (Refers n) (Locks n) s) where
    first_there : s.hand.to_one ≡ Some n
    first_there = at held
      where
        at : InHand t (Refers n) (Locks n) s → s.hand.to_one ≡ Some n
        at (One, held) = held.here.0
        at (Two, held) = held.there.0

    pub forget_found : HasReference n s.hand
    forget_found = subst (λ (k : InodePlace). reference_at k s.hand ≡ Some n) (is_first t n s.hand s.notes first_there) first_there

    pub forgot : u.hand ≡ with_reference (seat_of_reference n s.hand) None s.hand → u.notes ≡ s.notes → InHand t (Locks n) Nothing u ⊎ InHand t (Opens n) (Refers n) u
    forgot e noted = at held (subst (λ (k : InodePlace). u.hand ≡ with_reference k None s.hand) (sym (is_first t n s.hand s.notes first_there)) e)
      where
        at : InHand t (Refers n) (Locks n) s → u.hand ≡ with_reference One None s.hand → InHand t (Locks n) Nothing u ⊎ InHand t (Opens n) (Refers n) u
        at (One, held) e =
            let left = updated t (Refers n) Nothing (Locks n) s.hand u.hand s.notes u.notes One (beside_reference One s.hand u.hand s.notes u.notes (ap (note_at Two) noted) None e) held
            (reference_there One None s.hand u.hand e, lock_kept One None s.hand u.hand e ∙ held.here.1) in
            inl (swapped t Nothing (Locks n) u (One, left))
        at (Two, held) e =
            let turned : HeldAt One t (Locks n) (Refers n) s.hand s.notes = record { here = held.there; there = held.here; txn = held.txn; listed = held.listed; buffers = held.buffers; aside = held.aside } in
            inr (One, stays_locked One (Refers n) turned e noted)

-- ---- a reference aside, if both seats have one

module _ (t : Around) (n d : ℕ) (s u : Having) (held : InHand t (Locks d) (Refers n) s) where
  both_taken : HasFreeSeat s.hand → ⊥
  both_taken = at held
    where
      at : InHand t (Locks d) (Refers n) s → HasFreeSeat s.hand → ⊥
      at (One, held) = none_free s.hand d n held.here.0 held.there.0
      at (Two, held) = none_free s.hand n d held.there.0 held.here.0

  pub put_aside : (r : Option ℕ) → ReferredOrAside r s.hand u.hand → u.notes ≡ s.notes → InHand (t.0, t.1, r) (Locks d) (Refers n) u
  put_aside r e noted = (
    held.0,
    subst (λ (h : Hand). HeldAt held.0 (t.0, t.1, r) (Locks d) (Refers n) h u.notes) (sym (e.1 both_taken))
        (subst (λ (m : Notes). HeldAt held.0 (t.0, t.1, r) (Locks d) (Refers n) (with_aside r s.hand) m) (sym noted) (with_other_aside t (Locks d) (Refers n) s.hand s.notes held.0 r held.1)),
  )

-- ---- within a walk the last reference to a dead inode is listed, and one that is aside moves to its seat

module _ (t : Around) (n : ℕ) (y : Held) (s : Having) (apart : Apart n y) (held : InHand t (Refers n) y s) where
  replaced : (u : Having) → u.hand ≡ with_seated (seat_of_reference n s.hand) s.hand → u.notes ≡ s.notes → InHand (t.0, t.1, None) (seated t.2) y u
  replaced u e noted =
      let k = seat_of_reference n s.hand in
      let h = with_aside None s.hand in
      let at = with_other_aside t (Refers n) y s.hand s.notes k None (at_reference t n y s apart held) in (
        k,
        updated (t.0, t.1, None) (Refers n) (seated t.2) y h u.hand s.notes u.notes k (beside_reference k h u.hand s.notes u.notes (ap (note_at (other k)) noted) s.hand.aside e) at
            (seated_held t.2 (reference_at k u.hand) (inode_at k u.hand) (note_at k u.notes) (reference_there k s.hand.aside h u.hand e ∙ held.1.aside) (lock_kept k s.hand.aside h u.hand e ∙ at.here.1)),
      )

  pub walked_down : (version : Version) (u : Having) (a : Bool) → Leaves version [] (above.WalkDown n) a s u → InHand (t.0, with_last t.1 n a, None) (seated t.2) y u
  walked_down version u false e = replaced u e.0 e.1
  walked_down version u true e =
      let ms = s.hand.listed ++ n ∷ [] in
      let gone : Having = record { hand = with_seated (seat_of_reference n s.hand) s.hand; notes = u.notes } in
      let at = replaced gone refl e.1 in (
        at.0,
        subst (λ (h : Hand). HeldAt at.0 (t.0, t.1 ++ n ∷ [], None) (seated t.2) y h u.notes) (sym e.0)
            (subst (λ (ns : List ℕ). HeldAt at.0 (t.0, ns ++ n ∷ [], None) (seated t.2) y (with_listed ms gone.hand) u.notes) held.1.listed (with_other_list (t.0, t.1, None) (seated t.2) y gone.hand u.notes at.0 ms at.1)),
      )

-- ---- a transaction

pub no_txn : (ns : List ℕ) (x y : Held) (s : Having) → InHand (false, ns, None) x y s → s.hand.txn ≡ None
no_txn ns x y s held = none_is s.hand.txn held.1.txn

txn_is : (t : Around) (x y : Held) (s u : Having) (o : Option ℕ) → InHand t x y s → u.hand ≡ with_txn o s.hand → u.notes ≡ s.notes → InHand (is_some o, t.1, t.2) x y u
txn_is t x y s u o held e noted = (
  held.0,
  subst (λ (h : Hand). HeldAt held.0 (is_some o, t.1, t.2) x y h u.notes) (sym e)
      (subst (λ (m : Notes). HeldAt held.0 (is_some o, t.1, t.2) x y (with_txn o s.hand) m) (sym noted) (with_other_txn t x y s.hand s.notes held.0 o held.1)),
)

pub txn_joined : (ns : List ℕ) (x y : Held) (s u : Having) → InHand (false, ns, None) x y s → Joined s.hand u.hand → u.notes ≡ s.notes → InHand (true, ns, None) x y u
txn_joined ns x y s u held e noted = txn_is (false, ns, None) x y s u (Some e.0) held e.1 noted

pub joined : (version : Version) (ns : List ℕ) (x y : Held) (s u : Having) → InHand (false, ns, None) x y s → Leaves version [] above.Join tt s u → InHand (true, ns, None) x y u
joined version ns x y s u held e = txn_joined ns x y s u held e.0 e.1

pub left : (version : Version) (ns : List ℕ) (x y : Held) (s u : Having) → InHand (true, ns, None) x y s → Leaves version [] above.Leave tt s u → InHand (false, ns, None) x y u
left version ns x y s u held e = txn_is (true, ns, None) x y s u None held e.0 e.1
