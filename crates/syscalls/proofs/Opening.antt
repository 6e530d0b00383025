-- open runs with nothing in hand.
use Rattle.syscalls.proofs.Vocabulary.{◌≡◌, ◌≢◌, ◌≤◌, ℕ, List, [], ◌∷◌, length, Bool, true, false, Option, Some, None, refl, sym, ◌==◌, if◌then◌else◌, IsName, creates, Name, elements, Cause, NoEntry, Blocks, Descriptors, Directory, DiskInodes, MemInodes, OpenFiles, Reply, Do, unmarked, IsEmpty, OfFile, Sight, InodeType, face_or, is_live_face, open_refusal, create_found, create_in, empties, entered_file, file_for, installed_on, installs, make_on, make_other, make_with, mends_unless_new, open_at, open_end, open_face, open_made, open_new, open_old, open_program, opened_reply, take_descriptor, truncates, unmake, P, WalkStop, failed, full, give_up, is_there, looks_where, own_step, start, stopped, tail, walk, IsCall, BeginsWith, Having, Leaves, Runs, Version}
use Rattle.plain_tree.specs.declared.call.Call.TheVariants as calls
use Rattle.plain_tree.specs.declared.step.Action.TheVariants as steps
use Rattle.inode_machine.specs.World as above
use Rattle.syscalls.proofs.Basics.{AllNames, path_names, Around, Held, InHand, Locks, Nothing, Opens, Refers, empty_in, swapped, may_refer, stays, upped, give_opened_runs, give_up_runs, join_runs, all_of, fresh, from_none, in_parent_runs, look_runs, start_runs, tail_runs, take_runs, turned, walk_runs}
use Rattle.syscalls.proofs.Running as running
use Rattle.syscalls.proofs.Changing.{claims, empties_file, enters, forgets, installs_file, refuses, stores}
use Rattle.syscalls.proofs.Making.{one_is_few, other_number, unmakes}

module _ (version : Version) (path : List ℕ) (flags : ℕ) where
  abbrev R : P Reply → Having → Type 0
  R p s = running.R version path p s

  abbrev From : Around → Held → Held → P Reply → Type 0
  From t x y p = running.From version path t x y p

  -- ---- a descriptor for a locked inode

  module _ (n : ℕ) (ns : List ℕ) where
    ends : (fd : ℕ) → From (true, ns, None) (Opens n) Nothing (open_end path flags n ns fd)
    ends fd = give_opened_runs version path unmarked (λ _. tail ns (opened_reply path flags fd)) (true, ns, None) n Nothing tt (tail_runs version path ns (opened_reply path flags fd))

    module _ (inode_type : InodeType) (mark : ℕ → Option above.Mark) (k : ℕ → P Reply) (k_runs : (fd : ℕ) → From (true, ns, None) (Opens n) Nothing (k fd)) where
      with_slot : (there : Bool) → From (true, ns, None) (Locks n) Nothing
          (if there then Do (above.Install (file_for n flags) inode_type) (installs mark) (installed_on path flags n ns k) else give_up n (tail ns (full (calls.Open path flags) OpenFiles)))
      with_slot true = installs_file version path ns n (installs mark) (installed_on path flags n ns k) (refuses version path ns n (full (calls.Open path flags) Descriptors)) k_runs (file_for n flags) inode_type refl
      with_slot false = refuses version path ns n (full (calls.Open path flags) OpenFiles)

      takes_descriptor : From (true, ns, None) (Locks n) Nothing (take_descriptor path flags n inode_type ns mark k)
      unfolding Runs
      takes_descriptor s held = (tt, λ a u e. with_slot a u (stays (true, ns, None) (Locks n) Nothing s u held e.0 e.1))

    -- ---- what is there is opened

    empties_if : (fd : ℕ) (b : Bool) → From (true, ns, None) (Opens n) Nothing (if b then Do (above.Empty n) (λ _. own_step (steps.Truncate fd)) (λ _. open_end path flags n ns fd) else open_end path flags n ns fd)
    empties_if fd true = empties_file version path ns n (λ _. own_step (steps.Truncate fd)) (λ _. open_end path flags n ns fd) (ends fd)
    empties_if fd false = ends fd

    opens_face : (inode_type : InodeType) (o : Option Cause) → From (true, ns, None) (Locks n) Nothing (open_face path flags n ns inode_type o)
    opens_face inode_type (Some c) = refuses version path ns n (failed (calls.Open path flags) c)
    opens_face inode_type None =
        takes_descriptor inode_type (λ fd. None) (λ fd. if empties flags inode_type then Do (above.Empty n) (λ _. own_step (steps.Truncate fd)) (λ _. open_end path flags n ns fd) else open_end path flags n ns fd)
        (λ fd. empties_if fd (empties flags inode_type))

    opens_at : From (true, ns, None) (Refers n) Nothing (open_at path flags n ns)
    opens_at =
        take_runs version path (true, ns, None) n Nothing tt unmarked (λ a. open_face path flags n ns (face_or a.face).inode_type (open_refusal (flags == 0) (face_or a.face).inode_type))
        (λ a counted. opens_face (face_or a.face).inode_type (open_refusal (flags == 0) (face_or a.face).inode_type))

    opens_made : (inode_type : InodeType) → From (true, ns, None) (Locks n) Nothing (open_made path flags n inode_type ns)
    opens_made inode_type = takes_descriptor inode_type (truncates flags) (open_end path flags n ns) ends

  -- ---- a file is made

  module _ (n d : ℕ) (ns : List ℕ) (ne : n ≢ d) (inode_type : InodeType) where
    differ : d ≢ n
    differ e = ne (sym e)

    makes_on : (a : above.EntryResult) → From (true, ns, None) (Locks d) (Locks n) (make_on path flags n inode_type d ns a)
    makes_on above.InPlace =
        let rest : P Reply = open_made path flags n inode_type ns in
        give_up_runs version path ns d (Locks n) differ rest (turned version path (true, ns, None) (Locks n) Nothing rest (opens_made n ns inode_type))
    makes_on above.NoBlock = turned version path (true, ns, None) (Locks n) (Locks d) (unmake n d ns (full (calls.Open path flags) Blocks)) (unmakes version path ns n d ne (full (calls.Open path flags) Blocks))
    makes_on above.NoSlot = turned version path (true, ns, None) (Locks n) (Locks d) (unmake n d ns (full (calls.Open path flags) Directory)) (unmakes version path ns n d ne (full (calls.Open path flags) Directory))

  module _ (d : ℕ) (e : Name) (is : IsName version e) (ns : List ℕ) where
    makes_other : (n : ℕ) → n ≢ d → From (true, ns, None) (Refers n) (Locks d) (make_other path flags d e ns n)
    makes_other n ne =
        let enter : Sight → P Reply = λ a. Do (above.Enter d e n) (entered_file n) (make_on path flags n (face_or a.face).inode_type d ns) in
        take_runs version path (true, ns, None) n (Locks d) ne unmarked (λ a. Do (above.Store n 1) unmarked (λ _. enter a))
        (λ a counted. stores version path ns n (Locks d) ne unmarked (λ _. enter a)
        (turned version path (true, ns, None) (Locks d) (Locks n) (enter a) (enters version path ns d (Locks n) (λ same. ne (sym same)) e n is (entered_file n) (make_on path flags n (face_or a.face).inode_type d ns) (makes_on n d ns ne (face_or a.face).inode_type)))
        1 one_is_few)

    makes_new : (n : ℕ) (b : Bool) → (n == d) ≡ b
        → From (true, ns, None) (Refers n) (Locks d) (if b then Do (above.Forget n) unmarked (λ _. give_up d (tail ns (full (calls.Open path flags) MemInodes))) else make_other path flags d e ns n)
    makes_new n false other = makes_other n (other_number n d other)
    makes_new n true same = forgets version path ns n d same (tail ns (full (calls.Open path flags) MemInodes)) (tail_runs version path ns (full (calls.Open path flags) MemInodes))

    ups : (n : ℕ) (s u : Having) → InHand (true, ns, None) (Locks d) Nothing s → (a : Bool) → Leaves version path (above.Up n) a s u
        → R (if a then give_up d (open_at path flags n ns) else give_up d (tail ns (full (calls.Open path flags) MemInodes))) u
    ups n s u held true left =
        let rest : P Reply = open_at path flags n ns in
        give_up_runs version path ns d (Refers n) tt rest (turned version path (true, ns, None) (Refers n) Nothing rest (opens_at n ns)) u
        (swapped (true, ns, None) (Refers n) (Locks d) u (upped (true, ns, None) (Locks d) s u tt (swapped (true, ns, None) (Locks d) Nothing s held) (Some n) left.0 left.1))
    ups n s u held false left =
        refuses version path ns d (full (calls.Open path flags) MemInodes) u
        (swapped (true, ns, None) Nothing (Locks d) u (upped (true, ns, None) (Locks d) s u tt (swapped (true, ns, None) (Locks d) Nothing s held) None left.0 left.1))

    creates_found : (o : Option ℕ) → From (true, ns, None) (Locks d) Nothing (create_found path flags d e ns o)
    unfolding Runs
    creates_found None =
        claims version path ns d mends_unless_new (make_with path flags d e ns) (λ n. makes_new n (n == d) refl) (refuses version path ns d (full (calls.Open path flags) DiskInodes)) (refuses version path ns d (full (calls.Open path flags) MemInodes)) OfFile
    creates_found (Some n) = λ s held. (may_refer (true, ns, None) (Locks d) s s tt (swapped (true, ns, None) (Locks d) Nothing s held), λ a u left. ups n s u held a left)

    creates_if : (o : Option ℕ) (b : Bool) → From (true, ns, None) (Locks d) Nothing (if b then create_found path flags d e ns o else give_up d (tail ns (failed (calls.Open path flags) NoEntry)))
    creates_if o true = creates_found o
    creates_if o false = refuses version path ns d (failed (calls.Open path flags) NoEntry)

    creates_in : From (true, ns, None) (Refers d) Nothing (create_in path flags d e ns)
    creates_in =
        look_runs version path (true, ns, None) d Nothing tt (looks_where (steps.Open path flags) is_there) (λ a. if is_live_face a.face then create_found path flags d e ns a.found else give_up d (tail ns (failed (calls.Open path flags) NoEntry))) e
        (λ a counted. creates_if a.found (is_live_face a.face))

  -- ---- from an empty hand

  module _ (call : IsCall version (calls.Open path flags)) where
    abbrev most : ℕ
    most = length (elements version path)

    opens_old : From (false, [], None) Nothing Nothing (open_old version path flags)
    opens_old =
        let lost : WalkStop → List ℕ → P Reply = λ why ns. tail ns (stopped (calls.Open path flags) why) in
        let is_lost : (why : WalkStop) (ms : List ℕ) → length ms ≤ most → From (true, ms, None) Nothing Nothing (lost why ms) = λ why ms short. tail_runs version path ms (stopped (calls.Open path flags) why) in
        let go : ℕ → P Reply = λ d. walk (steps.Open path flags) d (elements version path) [] (open_at path flags) lost in
        join_runs version path unmarked (λ _. start (steps.Open path flags) path [] go lost) [] Nothing Nothing
        (start_runs version path None (steps.Open path flags) lost most call.1 is_lost path go [] (fresh most)
        (λ d. walk_runs version path None (steps.Open path flags) lost most call.1 is_lost (elements version path) d [] (from_none most most (all_of most)) (open_at path flags) (λ d ms short. opens_at d ms)))

    opens_new : (es : List Name) → AllNames version es → length es ≤ most → From (false, [], None) Nothing Nothing (open_new path flags es)
    opens_new [] are short = in_parent_runs version path (calls.Open path flags) (steps.Open path flags) (create_in path flags) most call.1 (λ d e ms is. creates_in d e is ms) [] are short
    opens_new (e ∷ es) are short = in_parent_runs version path (calls.Open path flags) (steps.Open path flags) (create_in path flags) most call.1 (λ d e ms is. creates_in d e is ms) (e ∷ es) are short

    opens : (b : Bool) → From (false, [], None) Nothing Nothing (if b then open_new path flags (elements version path) else open_old version path flags)
    opens true = opens_new (elements version path) (path_names version path call.0) (all_of most)
    opens false = opens_old

    pub open_runs : (s : Having) → IsEmpty s.hand → Runs version path (BeginsWith version path) (open_program version path flags) s
    open_runs s empty = opens (creates flags) s (empty_in s empty)
