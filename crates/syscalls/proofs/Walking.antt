-- A walk, and the end of a call with a list, run with what they need in hand; so does chdir.
use Rattle.syscalls.proofs.Vocabulary.{◌≡◌, ◌<◌, ◌≤◌, ℕ, suc, ◌+◌, List, [], ◌∷◌, length, length-append, Bool, true, false, Option, Some, None, refl, sym, subst, inl, inr, arith, if◌then◌else◌, Name, elements, is_absolute, NoEntry, NotDirectory, Reply, Call, Action, Do, unmarked, InodePlace, IsEmpty, AtName, AtNothing, Query, Sight, is_directory_face, Begin, in_parent, chdir_at, chdir_program, NoMemory, NotThere, P, WalkStop, done, drop, failed, free_all, free_listed, give_up, leave_directory, looks_or_quits, makes, quits_unless, say, start, start_on, stopped, tail, walk, walk_parent, walk_step, with_last, Frees, listed_places, IsCall, MayRefer, seat_of_lock, seat_of_reference, BeginsWith, CameTo, Having, IsCounted, Leaves, ReferredOrAside, Runs, Stand, IsName, Version}
use Rattle.plain_tree.specs.declared.call.Call.TheVariants as calls
use Rattle.plain_tree.specs.declared.step.Action.TheVariants as steps
use Rattle.inode_machine.specs.World as above
use Rattle.syscalls.proofs.Names.{AllNames}
use Rattle.syscalls.proofs.Seats.{Apart, Around, Held, InHand, Locks, Nothing, Refers, empty_in, seated, seated_apart, seated_closed, swapped}
use Rattle.syscalls.proofs.Holdings.{at_its_lock, found, free_found, locked, locked_seat, lock_found, may_refer, put_aside, reference_found, referred, relocked, relocking, settled, take_found, unreferred, upped, walked_down}
use Rattle.syscalls.proofs.Running as running
use Rattle.syscalls.proofs.Running.{drop_runs, free_all_runs, give_runs, give_up_runs, join_runs, leave_runs, say_ends}

-- ---- how long the list may grow

grows : (ns : List ℕ) (d : ℕ) (last : Bool) → length (with_last ns d last) ≤ length ns + 1
grows ns d false = omega arith
grows ns d true = omega (arith, length-append ns (d ∷ []))

now_room : (n rest most : ℕ) → n + suc rest ≤ most → n + 1 ≤ most
now_room n rest most room = omega (arith, room)

next_room : (n m rest most : ℕ) → n + suc rest ≤ most → m ≤ n + 1 → m + rest ≤ most
next_room n m rest most room grown = omega (arith, room, grown)

at_most : (m n most : ℕ) → m ≤ n + 1 → n + 1 ≤ most → m ≤ most
at_most m n most grown room = omega (arith, grown, room)

none_left : (n most : ℕ) → n + 0 ≤ most → n ≤ most
none_left n most room = omega (arith, room)

pub fresh : (most : ℕ) → 0 ≤ most
fresh most = omega arith

pub from_none : (n most : ℕ) → n ≤ most → 0 + n ≤ most
from_none n most few = omega (arith, few)

pub all_of : (n : ℕ) → n ≤ n
all_of n = omega arith

is_below : (n most : ℕ) → n + 1 ≤ most → most ≤ listed_places → n < listed_places
is_below n most room few = omega (arith, room, few)

module _ (version : Version) (path : List ℕ) where
  abbrev R : P Reply → Having → Type 0
  R p s = running.R version path p s

  abbrev From : Around → Held → Held → P Reply → Type 0
  From t x y p = running.From version path t x y p

  pub turned : (t : Around) (x y : Held) (p : P Reply) → From t x y p → From t y x p
  turned t x y p on s held = on s (swapped t y x s held)

  -- ---- a lock taken by a reference

  module _ (t : Around) (n : ℕ) (y : Held) (apart : Apart n y) (m : Sight → Option above.Mark) (k : Sight → P Reply) where
    pub came : (looking : Query) (s u : Having) (a : Sight) → InHand t (Refers n) y s → Leaves version path (above.Take n looking) a s u → CameTo (seat_of_reference n s.hand) n s.hand u.hand
    came looking s u a held e = e.0.0.0 (reference_found t y s s n apart held)

    pub beside_it : (looking : Query) (s u : Having) (a : Sight) (held : InHand t (Refers n) y s) → (e : Leaves version path (above.Take n looking) a s u) → (Stand (seat_of_lock n u.hand) s u) → Stand (seat_of_reference n s.hand) s u
    beside_it looking s u a held e stand = subst (λ (k : InodePlace). Stand k s u) (sym (locked_seat t y s u n apart held (came looking s u a held e))) stand

    pub take_runs : ((a : Sight) → IsCounted a → From t (Locks n) y (k a)) → From t (Refers n) y (Do (above.Take n AtNothing) m k)
    unfolding Runs
    take_runs on s held = (
      inl (take_found t y s s n apart held),
      λ a u e. on a e.0.1 u (locked t y s u n apart held (came AtNothing s u a held e) (beside_it AtNothing s u a held e e.1.0)),
    )

    pub look_runs : (e : Name) → ((a : Sight) → IsCounted a → From t (Locks n) y (k a)) → From t (Refers n) y (Do (above.Take n (AtName e)) m k)
    unfolding Runs
    look_runs name on s held = (
      inl (take_found t y s s n apart held),
      λ a u e. on a e.0.1 u (locked t y s u n apart held (came (AtName name) s u a held e) (beside_it (AtName name) s u a held e e.1.0)),
    )

  -- ---- a directory left

  module _ (d : ℕ) (y : Held) (apart : Apart d y) (ns : List ℕ) (r : Option ℕ) (room : length ns < listed_places) (k : List ℕ → P Reply) (on : (ms : List ℕ) → length ms ≤ length ns + 1 → From (true, ms, None) (seated r) y (k ms)) where
    walks_down : From (true, ns, r) (Refers d) y (Do (above.WalkDown d) unmarked (λ last. k (with_last ns d last)))
    unfolding Runs
    walks_down s held = (
      (reference_found (true, ns, r) y s s d apart held, subst (λ (ns : List ℕ). length ns < listed_places) (sym held.1.listed) room),
      λ a u e. on (with_last ns d a) (grows ns d a) u (walked_down (true, ns, r) d y s apart held version u a e),
    )

    pub leaves_directory : From (true, ns, r) (Locks d) y (leave_directory d ns k)
    leaves_directory = give_runs version path unmarked (λ _. Do (above.WalkDown d) unmarked (λ last. k (with_last ns d last))) (true, ns, r) d y apart walks_down

  -- .. for what was found in it, if a reference is kept beside the walk's, or none
  may_up : (kept : Option ℕ) (d : ℕ) (ns : List ℕ) (v : Having) → InHand (true, ns, None) (Locks d) (seated kept) v → MayRefer v.hand
  may_up None d ns v held = may_refer (true, ns, None) (Locks d) v v tt (swapped (true, ns, None) (Locks d) Nothing v held)
  may_up (Some n) d ns v held = inr held.1.aside

  leaves_up : (kept r : Option ℕ) (d : ℕ) (ns : List ℕ) → length ns < listed_places → (k : List ℕ → P Reply) → ((ms : List ℕ) → length ms ≤ length ns + 1 → From (true, ms, None) (seated r) (seated kept) (k ms))
      → (v u : Having) → InHand (true, ns, None) (Locks d) (seated kept) v → ReferredOrAside r v.hand u.hand → u.notes ≡ v.notes → R (leave_directory d ns k) u
  leaves_up None r d ns room k on v u held e noted =
      leaves_directory d (seated r) (seated_apart d r) ns None room k (λ ms grown. turned (true, ms, None) (seated r) Nothing (k ms) (on ms grown)) u
      (swapped (true, ns, None) (seated r) (Locks d) u (upped (true, ns, None) (Locks d) v u tt (swapped (true, ns, None) (Locks d) Nothing v held) r e noted))
  leaves_up (Some n) r d ns room k on v u held e noted = leaves_directory d (Refers n) tt ns r room k on u (put_aside (true, ns, None) n d v u held r e noted)

  -- ---- a walk

  module _ (kept : Option ℕ) (s : Action) (lost : WalkStop → List ℕ → P Reply) (most : ℕ) (few : most ≤ listed_places) (is_lost : (why : WalkStop) (ms : List ℕ) → length ms ≤ most → From (true, ms, None) Nothing (seated kept) (lost why ms)) where
    module _ (d : ℕ) (ns : List ℕ) (room : length ns + 1 ≤ most) where
      leaves_lost : (why : WalkStop) → From (true, ns, None) (Locks d) (seated kept) (leave_directory d ns (lost why))
      leaves_lost why = leaves_directory d (seated kept) (seated_apart d kept) ns None (is_below (length ns) most room few) (lost why) (λ ms grown. is_lost why ms (at_most (length ms) (length ns) most grown room))

      module _ (go : ℕ → List ℕ → P Reply) (goes : (j : ℕ) (ms : List ℕ) → length ms ≤ length ns + 1 → From (true, ms, None) (Refers j) (seated kept) (go j ms)) where
        ups : (j : ℕ) (v u : Having) → InHand (true, ns, None) (Locks d) (seated kept) v → (a : Bool) → Leaves version path (above.Up j) a v u → R (leave_directory d ns (if a then go j else lost NoMemory)) u
        ups j v u held true e = leaves_up kept (Some j) d ns (is_below (length ns) most room few) (go j) (goes j) v u held e.0 e.1
        ups j v u held false e = leaves_up kept None d ns (is_below (length ns) most room few) (lost NoMemory) (λ ms grown. is_lost NoMemory ms (at_most (length ms) (length ns) most grown room)) v u held e.0 e.1

        pub steps_on : (found : Option ℕ) → From (true, ns, None) (Locks d) (seated kept) (walk_step d ns go lost found)
        unfolding Runs
        steps_on None = leaves_lost NotThere
        steps_on (Some j) = λ v held. (may_up kept d ns v held, λ a u e. ups j v u held a e)

    pub walk_runs : (es : List Name) (d : ℕ) (ns : List ℕ) → length ns + length es ≤ most → (found : ℕ → List ℕ → P Reply) → ((d : ℕ) (ms : List ℕ) → length ms ≤ most → From (true, ms, None) (Refers d) (seated kept) (found d ms))
        → From (true, ns, None) (Refers d) (seated kept) (walk s d es ns found lost)
    walk_runs [] d ns room found is_found = is_found d ns (none_left (length ns) most room)
    walk_runs (e ∷ es) d ns room found is_found =
        look_runs (true, ns, None) d (seated kept) (seated_apart d kept) (looks_or_quits s) (λ a. walk_step d ns (λ j ms. walk s j es ms found lost) lost a.found) e
        (λ a counted. steps_on d ns (now_room (length ns) (length es) most room) (λ j ms. walk s j es ms found lost)
        (λ j ms grown. walk_runs es j ms (next_room (length ns) (length ms) (length es) most room grown) found is_found) a.found)

    sees : (d : ℕ) (ns : List ℕ) → length ns + 1 ≤ most → (found : List ℕ → P Reply) → From (true, ns, None) (Refers d) (seated kept) (found ns) → (b : Bool)
        → From (true, ns, None) (Locks d) (seated kept) (if b then Do (above.UnlockInode d) unmarked (λ _. found ns) else leave_directory d ns (lost NotThere))
    sees d ns room found is_found true = give_runs version path unmarked (λ _. found ns) (true, ns, None) d (seated kept) (seated_apart d kept) is_found
    sees d ns room found is_found false = leaves_lost d ns room NotThere

    -- past it there is room for what the last directory may leave
    pub walk_parent_runs : (es : List Name) (e : Name) → AllNames version (e ∷ es) → (d : ℕ) (ns : List ℕ) → length ns + suc (length es) ≤ most → (found : ℕ → Name → List ℕ → P Reply)
        → ((d : ℕ) (e : Name) (ms : List ℕ) → IsName version e → length ms + 1 ≤ most → From (true, ms, None) (Refers d) (seated kept) (found d e ms)) → From (true, ns, None) (Refers d) (seated kept) (walk_parent s d e es ns found lost)
    walk_parent_runs [] e are d ns room found is_found =
        take_runs (true, ns, None) d (seated kept) (seated_apart d kept) (λ a. quits_unless s (is_directory_face a.face)) (λ a. if is_directory_face a.face then Do (above.UnlockInode d) unmarked (λ _. found d e ns) else leave_directory d ns (lost NotThere))
        (λ a counted. sees d ns (now_room (length ns) 0 most room) (found d e) (is_found d e ns are.0 (now_room (length ns) 0 most room)) (is_directory_face a.face))
    walk_parent_runs (e' ∷ es) e are d ns room found is_found =
        look_runs (true, ns, None) d (seated kept) (seated_apart d kept) (looks_or_quits s) (λ a. walk_step d ns (λ j ms. walk_parent s j e' es ms found lost) lost a.found) e
        (λ a counted. steps_on d ns (now_room (length ns) (suc (length es)) most room) (λ j ms. walk_parent s j e' es ms found lost)
        (λ j ms grown. walk_parent_runs es e' are.1 j ms (next_room (length ns) (length ms) (suc (length es)) most room grown) found is_found) a.found)

    module _ (way : List ℕ) (go : ℕ → P Reply) (ns : List ℕ) (room : length ns ≤ most) (goes : (d : ℕ) → From (true, ns, None) (Refers d) (seated kept) (go d)) where
      starts : (v u : Having) → InHand (true, ns, None) Nothing (seated kept) v → (a : Option ℕ) → Leaves version path (above.UpStart (is_absolute way)) a v u → R (start_on go lost ns a) u
      starts v u held None e = is_lost NoMemory ns room u (unreferred (true, ns, None) (seated kept) v u (seated_closed kept) held e.0 e.1)
      starts v u held (Some d) e = goes d u (referred (true, ns, None) (seated kept) v u (seated_closed kept) held d e.0 e.1)

      pub start_runs : From (true, ns, None) Nothing (seated kept) (start s way ns go lost)
      unfolding Runs
      start_runs v held = (free_found (true, ns, None) (seated kept) v v (seated_closed kept) held, λ a u e. starts v u held a e)

  -- ---- the end of a call with a list

  -- the first inode of it comes with its reference
  relocks : (n : ℕ) (ns : List ℕ) (k : P Reply) → From (true, ns, None) (Locks n) Nothing k → From (true, n ∷ ns, None) Nothing Nothing (Do (above.Take n AtNothing) unmarked (λ _. k))
  unfolding Runs
  relocks n ns k on s held =
      let may = relocking (true, n ∷ ns, None) s s held n ns refl in
      (inr (may, refl), λ a u e. on u (relocked (true, n ∷ ns, None) s u held n ns refl (e.0.0.1 may.0)))

  frees_listed : (n : ℕ) (ns : List ℕ) (k : P Reply) → From (false, ns, None) Nothing Nothing k → From (false, n ∷ ns, None) Nothing Nothing (free_listed n k)
  frees_listed n ns k on =
      let leave : P Reply = Do above.Leave unmarked (λ _. k) in
      let freed : P Reply = Do (above.Free n) (λ _. Some (Frees n)) (λ _. Do (above.UnlockInode n) unmarked (λ _. Do (above.Forget n) unmarked (λ _. leave))) in
      join_runs version path unmarked (λ _. Do (above.Take n AtNothing) unmarked (λ _. freed)) (n ∷ ns) Nothing Nothing
      (relocks n ns freed (free_all_runs version path ns n Nothing tt leave (leave_runs version path unmarked (λ _. k) ns Nothing Nothing on)))

  frees_all : (ns : List ℕ) (k : P Reply) → From (false, [], None) Nothing Nothing k → From (false, ns, None) Nothing Nothing (free_all ns k)
  frees_all [] k on = on
  frees_all (n ∷ ns) k on = frees_listed n ns (free_all ns k) (frees_all ns k on)

  pub tail_runs : (ns : List ℕ) (r : Reply) → From (true, ns, None) Nothing Nothing (tail ns r)
  tail_runs ns r = leave_runs version path unmarked (λ _. free_all ns (say r)) ns Nothing Nothing (frees_all ns (say r) (say_ends version path r))

  -- ---- a call for which a last name is looked for

  module _ (c : Call) (s : Action) (k : ℕ → Name → List ℕ → P Reply) (most : ℕ) (few : most ≤ listed_places) (k_runs : (d : ℕ) (e : Name) (ms : List ℕ) → IsName version e → From (true, ms, None) (Refers d) Nothing (k d e ms)) where
    pub in_parent_runs : (es : List Name) → AllNames version es → length es ≤ most → From (false, [], None) Nothing Nothing (in_parent c s path k es)
    in_parent_runs [] are short = join_runs version path (λ _. makes (Begin s 0)) (λ _. tail [] (failed c NoEntry)) [] Nothing Nothing (tail_runs [] (failed c NoEntry))
    in_parent_runs (e ∷ es) are short =
        let lost : WalkStop → List ℕ → P Reply = λ why ns. tail ns (stopped c why) in
        let is_lost : (why : WalkStop) (ms : List ℕ) → length ms ≤ most → From (true, ms, None) Nothing Nothing (lost why ms) = λ why ms short. tail_runs ms (stopped c why) in
        let go : ℕ → P Reply = λ d. walk_parent s d e es [] k lost in
        join_runs version path unmarked (λ _. start s path [] go lost) [] Nothing Nothing
        (start_runs None s lost most few is_lost path go [] (fresh most)
        (λ d. walk_parent_runs None s lost most few is_lost es e are d [] (from_none (suc (length es)) most short) k (λ d e ms is room. k_runs d e ms is)))

  -- ---- chdir

  settles : (n : ℕ) (ns : List ℕ) (k : P Reply) → From (true, ns, None) Nothing Nothing k → From (true, ns, None) (Locks n) Nothing (Do (above.SetDirectory n) unmarked (λ old. drop old k))
  unfolding Runs
  settles n ns k on s held =
      let at = at_its_lock (true, ns, None) Nothing s s n tt (Locks n) held.0 held.1 held.1.here.1 in (
        (lock_found (true, ns, None) Nothing s s n tt (Locks n) held.0 held.1 held.1.here.1, at.here.0),
        λ a u e. drop_runs version path ns a Nothing tt k on u (settled (true, ns, None) Nothing s u n tt (Locks n) held.0 held.1 held.1.here.1 a e.0 e.1),
      )

  chdirs_if : (n : ℕ) (ns : List ℕ) (b : Bool) → From (true, ns, None) (Locks n) Nothing (if b then Do (above.SetDirectory n) unmarked (λ old. drop old (tail ns (done (calls.Chdir path)))) else give_up n (tail ns (failed (calls.Chdir path) NotDirectory)))
  chdirs_if n ns true = settles n ns (tail ns (done (calls.Chdir path))) (tail_runs ns (done (calls.Chdir path)))
  chdirs_if n ns false = give_up_runs version path ns n Nothing tt (tail ns (failed (calls.Chdir path) NotDirectory)) (tail_runs ns (failed (calls.Chdir path) NotDirectory))

  chdirs_at : (n : ℕ) (ns : List ℕ) → From (true, ns, None) (Refers n) Nothing (chdir_at path n ns)
  chdirs_at n ns =
      take_runs (true, ns, None) n Nothing tt unmarked (λ a. if is_directory_face a.face then Do (above.SetDirectory n) unmarked (λ old. drop old (tail ns (done (calls.Chdir path)))) else give_up n (tail ns (failed (calls.Chdir path) NotDirectory)))
      (λ a counted. chdirs_if n ns (is_directory_face a.face))

  pub chdir_runs : IsCall version (calls.Chdir path) → (s : Having) → IsEmpty s.hand → Runs version path (BeginsWith version path) (chdir_program version path) s
  chdir_runs call s empty =
      let most : ℕ = length (elements version path) in
      let lost : WalkStop → List ℕ → P Reply = λ why ns. tail ns (stopped (calls.Chdir path) why) in
      let is_lost : (why : WalkStop) (ms : List ℕ) → length ms ≤ most → From (true, ms, None) Nothing Nothing (lost why ms) = λ why ms short. tail_runs ms (stopped (calls.Chdir path) why) in
      let go : ℕ → P Reply = λ d. walk (steps.Chdir path) d (elements version path) [] (chdir_at path) lost in
      join_runs version path unmarked (λ _. start (steps.Chdir path) path [] go lost) [] Nothing Nothing
      (start_runs None (steps.Chdir path) lost most call.1 is_lost path go [] (fresh most)
      (λ d. walk_runs None (steps.Chdir path) lost most call.1 is_lost (elements version path) d [] (from_none most most (all_of most)) (chdir_at path) (λ d ms short. chdirs_at d ms)))
      s (empty_in s empty)
