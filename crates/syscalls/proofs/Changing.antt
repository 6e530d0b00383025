-- A name looked up, and an inode claimed or changed, with what they need in hand.
use Rattle.syscalls.proofs.Vocabulary.{◌≡◌, ◌<◌, ◌-◌, ◌^◌, ℕ, List, Bool, true, Option, Some, None, refl, sym, ap, subst, ◌⊎◌, inl, inr, arith, ◌==◌, is_some, IsSome, IfSome, Name, Reply, OpenFile, IsName, eq_is, Do, unmarked, Hand, InodePlace, One, Two, with_reference, AtName, Face, Sight, InodeType, face_or, P, drop, give_up, tail, note_at, HasFound, Having, IsCounted, Leaves, Runs, without_numbers, HasReference, free_seat, seat_of_reference, Notes, Version}
use Rattle.inode_machine.specs.World as above
use Rattle.syscalls.proofs.Basics.{Apart, Around, Finds, Held, HeldAt, InHand, Locks, Nothing, Opens, Refers, swapped, at_its_lock, forget_found, forgot, found, free_found, install_found, installed, locked, locked_seat, lock_found, referred, reloaded, stays, take_found, drop_runs, give_opened_runs, give_up_runs, beside_it, came, tail_runs, turned}
use Rattle.syscalls.proofs.Running as running

-- a count that was seen, and one less
abbrev pub Few : Face → Type 0
Few f = f.count < 2 ^ 15

pub few_or : (o : Option Face) → IfSome o Few → Few (face_or o)
few_or None few = let none : 0 < 2 ^ 15 = omega arith in none
few_or (Some f) few = few

pub less : (n : ℕ) → n < 2 ^ 15 → n - 1 < 2 ^ 15
less n few = omega arith

-- the same but for numbers to be claimed
without : (t : Around) (x y : Held) (h g : Hand) (m : Notes) (k : InodePlace) → without_numbers h ≡ without_numbers g → HeldAt k t x y g m → HeldAt k t x y h m
without t x y h g m k e held = plain k h (subst (λ (h : Hand). HeldAt k t x y h m) (sym e) (bare k held))
  where
    bare : (k : InodePlace) → HeldAt k t x y g m → HeldAt k t x y (without_numbers g) m
    bare One held = record { here = held.here; there = held.there; txn = held.txn; listed = held.listed; buffers = held.buffers; aside = held.aside }
    bare Two held = record { here = held.here; there = held.there; txn = held.txn; listed = held.listed; buffers = held.buffers; aside = held.aside }

    plain : (k : InodePlace) (h : Hand) → HeldAt k t x y (without_numbers h) m → HeldAt k t x y h m
    plain One h held = record { here = held.here; there = held.there; txn = held.txn; listed = held.listed; buffers = held.buffers; aside = held.aside }
    plain Two h held = record { here = held.here; there = held.there; txn = held.txn; listed = held.listed; buffers = held.buffers; aside = held.aside }

module _ (version : Version) (path : List ℕ) where
  abbrev R : P Reply → Having → Type 0
  R p s = running.R version path p s

  abbrev From : Around → Held → Held → P Reply → Type 0
  From t x y p = running.From version path t x y p

  -- with a name that was found there is its lock
  pub knows_less : (t : Around) (n : ℕ) (e : Name) (y : Held) (p : P Reply) → From t (Locks n) y p → From t (Finds version n path e) y p
  knows_less t n e y p on s held = on s (held.0, record { here = (held.1.here.0, held.1.here.1, held.1.here.2); there = held.1.there; txn = held.1.txn; listed = held.1.listed; buffers = held.1.buffers; aside = held.1.aside })

  -- ---- a name looked up

  module _ (ns : List ℕ) (d : ℕ) (e : Name) (m : Sight → Option above.Mark) (k : Sight → P Reply) where
    module _ (off : (a : Sight) → IsCounted a → a.found ≡ None → From (true, ns, None) (Locks d) Nothing (k a)) (on : (a : Sight) → IsCounted a → IsSome a.found → From (true, ns, None) (Finds version d path e) Nothing (k a)) where
      looked : (s u : Having) (a : Sight) → InHand (true, ns, None) (Refers d) Nothing s → Leaves version path (above.Take d (AtName e)) a s u → (o : Option ℕ) → a.found ≡ o → R (k a) u
      looked s u a held left None none =
          off a left.0.1 none u (locked (true, ns, None) Nothing s u d tt held (came version path (true, ns, None) d Nothing tt m k (AtName e) s u a held left) (beside_it version path (true, ns, None) d Nothing tt m k (AtName e) s u a held left left.1.0))
      looked s u a held left (Some n) some =
          let is : IsSome a.found = ap (λ (o : Option ℕ). is_some o) some in
          let to = came version path (true, ns, None) d Nothing tt m k (AtName e) s u a held left in
          let stand = beside_it version path (true, ns, None) d Nothing tt m k (AtName e) s u a held left left.1.0 in
          let named = subst (λ (k : InodePlace). HasFound version path e (note_at k u.notes)) (sym (locked_seat (true, ns, None) Nothing s u d tt held to)) (left.1.1 is) in
          on a left.0.1 is u (found (true, ns, None) Nothing s u d tt held version path e to stand named)

      pub looks : From (true, ns, None) (Refers d) Nothing (Do (above.Take d (AtName e)) m k)
      unfolding Runs
      looks s held = (inl (take_found (true, ns, None) Nothing s s d tt held), λ a u left. looked s u a held left a.found refl)

  -- ---- a locked inode given up at the end

  pub refuses : (ns : List ℕ) (d : ℕ) (r : Reply) → From (true, ns, None) (Locks d) Nothing (give_up d (tail ns r))
  refuses ns d r = give_up_runs version path ns d Nothing tt (tail ns r) (tail_runs version path ns r)

  -- ---- a locked inode changed

  module _ (ns : List ℕ) (n : ℕ) (y : Held) (apart : Apart n y) (m : Unit {0} → Option above.Mark) (k : Unit {0} → P Reply) (on : From (true, ns, None) (Locks n) y (k tt)) where
    pub stores : (count : ℕ) → count < 2 ^ 15 → From (true, ns, None) (Locks n) y (Do (above.Store n count) m k)
    unfolding Runs
    stores count few s held =
        let at = at_its_lock (true, ns, None) y s s n apart (Locks n) held.0 held.1 held.1.here.1 in (
          ((lock_found (true, ns, None) y s s n apart (Locks n) held.0 held.1 held.1.here.1, at.here.2, at.txn, at.buffers), few),
          λ a u e. on u (reloaded (true, ns, None) y s u n apart (Locks n) held.0 held.1 held.1.here.1 (Locks n) e.0.0 e.1 (λ is. (at.here.0, is, e.0.1))),
        )

    pub clears : (e : Name) → From (true, ns, None) (Finds version n path e) y (Do (above.Clear n e) m k)
    unfolding Runs
    clears e s held =
        let at = at_its_lock (true, ns, None) y s s n apart (Finds version n path e) held.0 held.1 held.1.here.1 in (
          ((lock_found (true, ns, None) y s s n apart (Finds version n path e) held.0 held.1 held.1.here.1, at.here.2, at.txn, at.buffers), at.here.3),
          λ a u left. on u (reloaded (true, ns, None) y s u n apart (Finds version n path e) held.0 held.1 held.1.here.1 (Locks n) left.0.0 left.1 (λ is. (at.here.0, is, left.0.1))),
        )

  module _ (ns : List ℕ) (n : ℕ) (y : Held) (apart : Apart n y) where
    pub fills : (d : ℕ) (m : Bool → Option above.Mark) (k : Bool → P Reply) → ((b : Bool) → From (true, ns, None) (Locks n) y (k b)) → From (true, ns, None) (Locks n) y (Do (above.Fill n d) m k)
    unfolding Runs
    fills d m k on s held =
        let at = at_its_lock (true, ns, None) y s s n apart (Locks n) held.0 held.1 held.1.here.1 in (
          (lock_found (true, ns, None) y s s n apart (Locks n) held.0 held.1 held.1.here.1, at.here.2, at.txn, at.buffers),
          λ a u e. on a u (reloaded (true, ns, None) y s u n apart (Locks n) held.0 held.1 held.1.here.1 (Locks n) e.0.0 e.1 (λ is. (at.here.0, is, e.0.1))),
        )

    pub enters : (e : Name) (j : ℕ) → IsName version e → (m : above.EntryResult → Option above.Mark) (k : above.EntryResult → P Reply) → ((a : above.EntryResult) → From (true, ns, None) (Locks n) y (k a))
        → From (true, ns, None) (Locks n) y (Do (above.Enter n e j) m k)
    unfolding Runs
    enters e j is m k on s held =
        let at = at_its_lock (true, ns, None) y s s n apart (Locks n) held.0 held.1 held.1.here.1 in (
          ((lock_found (true, ns, None) y s s n apart (Locks n) held.0 held.1 held.1.here.1, at.here.2, at.txn, at.buffers), is),
          λ a u e. on a u (reloaded (true, ns, None) y s u n apart (Locks n) held.0 held.1 held.1.here.1 (Locks n) e.0.0 e.1 (λ is. (at.here.0, is, e.0.1))),
        )

  -- ---- a new inode

  module _ (ns : List ℕ) (d : ℕ) where
    claimed : (s u : Having) → InHand (true, ns, None) Nothing (Locks d) s → (n : ℕ) → without_numbers u.hand ≡ without_numbers (with_reference (free_seat s.hand) (Some n) s.hand) → u.notes ≡ s.notes → InHand (true, ns, None) (Refers n) (Locks d) u
    claimed s u held n e noted =
        let now : Having = record { hand = with_reference (free_seat s.hand) (Some n) s.hand; notes = u.notes } in
        let at = referred (true, ns, None) (Locks d) s now tt held n refl noted in
        (at.0, without (true, ns, None) (Refers n) (Locks d) u.hand now.hand u.notes at.0 e at.1)

    unclaimed : (s u : Having) → InHand (true, ns, None) Nothing (Locks d) s → without_numbers u.hand ≡ without_numbers s.hand → u.notes ≡ s.notes → InHand (true, ns, None) (Locks d) Nothing u
    unclaimed s u held e noted =
        let now : Having = record { hand = s.hand; notes = u.notes } in
        let at = swapped (true, ns, None) Nothing (Locks d) now (stays (true, ns, None) Nothing (Locks d) s now held refl noted) in
        (at.0, without (true, ns, None) (Locks d) Nothing u.hand s.hand u.notes at.0 e at.1)

    module _ (m : above.ClaimResult → Option above.Mark) (k : above.ClaimResult → P Reply) (on : (n : ℕ) → From (true, ns, None) (Refers n) (Locks d) (k (above.New n)))
        (full : From (true, ns, None) (Locks d) Nothing (k above.NoInode)) (crowded : From (true, ns, None) (Locks d) Nothing (k above.NoPlace)) where
      claims_on : (inode_type : InodeType) (s u : Having) → InHand (true, ns, None) Nothing (Locks d) s → (a : above.ClaimResult) → Leaves version path (above.Claim inode_type) a s u → R (k a) u
      claims_on inode_type s u held (above.New n) e = on n u (claimed s u held n e.0 e.1)
      claims_on inode_type s u held above.NoInode e = full u (unclaimed s u held e.0 e.1)
      claims_on inode_type s u held above.NoPlace e = crowded u (unclaimed s u held e.0 e.1)

      pub claims : (inode_type : InodeType) → From (true, ns, None) (Locks d) Nothing (Do (above.Claim inode_type) m k)
      unfolding Runs
      claims inode_type s held =
          let turn = swapped (true, ns, None) (Locks d) Nothing s held in
          ((free_found (true, ns, None) (Locks d) s s tt turn, held.1.buffers, held.1.txn), λ a u e. claims_on inode_type s u turn a e)

    -- what was claimed is forgotten if it is the directory
    module _ (k : P Reply) (on : From (true, ns, None) Nothing Nothing k) where
      gives_either : (u : Having) → InHand (true, ns, None) (Locks d) Nothing u ⊎ InHand (true, ns, None) (Opens d) (Refers d) u → R (give_up d k) u
      gives_either u (inl held) = give_up_runs version path ns d Nothing tt k on u held
      gives_either u (inr held) =
          give_opened_runs version path unmarked (λ _. drop d k) (true, ns, None) d (Refers d) tt (turned version path (true, ns, None) (Refers d) Nothing (drop d k) (drop_runs version path ns d Nothing tt k on)) u held

      pub forgets_same : From (true, ns, None) (Refers d) (Locks d) (Do (above.Forget d) unmarked (λ _. give_up d k))
      unfolding Runs
      forgets_same s held = (forget_found (true, ns, None) d s s held, λ a u e. gives_either u (forgot (true, ns, None) d s u held e.0 e.1))

  pub forgets : (ns : List ℕ) (n d : ℕ) → (n == d) ≡ true → (k : P Reply) → From (true, ns, None) Nothing Nothing k → From (true, ns, None) (Refers n) (Locks d) (Do (above.Forget n) unmarked (λ _. give_up d k))
  forgets ns n d same k on = subst (λ (n : ℕ). From (true, ns, None) (Refers n) (Locks d) (Do (above.Forget n) unmarked (λ _. give_up d k))) (sym (eq_is n d same)) (forgets_same ns d k on)

  -- ---- a file opened: its reference goes to the open file

  module _ (ns : List ℕ) (n : ℕ) (m : Option ℕ → Option above.Mark) (k : Option ℕ → P Reply) (off : From (true, ns, None) (Locks n) Nothing (k None)) (on : (fd : ℕ) → From (true, ns, None) (Opens n) Nothing (k (Some fd))) where
    installs_on : (f : OpenFile) (inode_type : InodeType) → f.number ≡ n → (s u : Having) → InHand (true, ns, None) (Locks n) Nothing s → (a : Option ℕ) → Leaves version path (above.Install f inode_type) a s u → R (k a) u
    installs_on f inode_type is s u held None e = off u (stays (true, ns, None) (Locks n) Nothing s u held e.0 e.1)
    installs_on f inode_type is s u held (Some fd) e = on fd u (installed (true, ns, None) n s u held (subst (λ (n : ℕ). u.hand ≡ with_reference (seat_of_reference n s.hand) None s.hand) is e.0) e.1)

    pub installs_file : (f : OpenFile) (inode_type : InodeType) → f.number ≡ n → From (true, ns, None) (Locks n) Nothing (Do (above.Install f inode_type) m k)
    unfolding Runs
    installs_file f inode_type is s held = (subst (λ (n : ℕ). HasReference n s.hand) (sym is) (install_found (true, ns, None) n s s held), λ a u e. installs_on f inode_type is s u held a e)

  module _ (ns : List ℕ) (n : ℕ) where
    pub empties_file : (m : Unit {0} → Option above.Mark) (k : Unit {0} → P Reply) → From (true, ns, None) (Opens n) Nothing (k tt) → From (true, ns, None) (Opens n) Nothing (Do (above.Empty n) m k)
    unfolding Runs
    empties_file m k on s held =
        let at = at_its_lock (true, ns, None) Nothing s s n tt (Opens n) held.0 held.1 held.1.here.1 in (
          (lock_found (true, ns, None) Nothing s s n tt (Opens n) held.0 held.1 held.1.here.1, at.here.2, at.txn, at.buffers),
          λ a u e. on u (reloaded (true, ns, None) Nothing s u n tt (Opens n) held.0 held.1 held.1.here.1 (Opens n) e.0.0 e.1 (λ is. (at.here.0, is, e.0.1))),
        )
