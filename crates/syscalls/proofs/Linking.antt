-- link runs with nothing in hand: at most its file, the directory that it walks from and what was found there are
-- referred to.
use Rattle.syscalls.proofs.Vocabulary.{◌≡◌, ◌<◌, ◌≤◌, ◌+◌, ◌-◌, ◌^◌, ℕ, suc, List, [], ◌∷◌, length, Bool, true, false, Option, Some, None, refl, arith, nat_lt, if◌then◌else◌, IsName, listed_places, Name, elements, count_limit, Cause, Exists, IsDirectory, NoEntry, TooManyLinks, Blocks, Directory, Reply, Do, unmarked, IsEmpty, Begin, Face, face_or, is_directory_type, is_live_face, bump_refused, bumps_if, link_at, link_found, link_in, link_name, link_program, link_raise, lower, named_on, P, WalkStop, done, drop, failed, full, give_up, is_there, looks_where, makes, own_step, start, stopped, tail, walk, walk_parent, IsCall, BeginsWith, Having, Runs, Version}
use Rattle.plain_tree.specs.declared.call.Call.TheVariants as calls
use Rattle.plain_tree.specs.declared.step.Action.TheVariants as steps
use Rattle.inode_machine.specs.Naming as naming
use Rattle.inode_machine.specs.World as above
use Rattle.syscalls.proofs.Basics.{AllNames, path_names, Around, Held, Locks, Nothing, Refers, empty_in, drop_runs, give_runs, give_up_runs, join_runs, all_of, fresh, from_none, look_runs, start_runs, tail_runs, take_runs, turned, walk_parent_runs, walk_runs}
use Rattle.syscalls.proofs.Running as running
use Rattle.syscalls.proofs.Changing.{enters, few_or, less, refuses, stores}
use Rattle.syscalls.proofs.Making.{more}

-- what both walks may list
first_fits : (n m most : ℕ) → n + m ≤ most → n ≤ most
first_fits n m most both = omega (arith, both)

both_fit : (k n m most : ℕ) → k ≤ n → n + m ≤ most → k + m ≤ most
both_fit k n m most short both = omega (arith, short, both)

module _ (version : Version) (text old new : List ℕ) where
  abbrev From : Around → Held → Held → P Reply → Type 0
  From t x y p = running.From version text t x y p

  -- ---- the count goes down again

  module _ (n : ℕ) (r : Reply) (ns : List ℕ) where
    lowers : From (true, ns, None) (Refers n) Nothing (lower old new n r ns)
    lowers =
        let end : P Reply = give_up n (tail ns r) in
        take_runs version text (true, ns, None) n Nothing tt unmarked (λ a. Do (above.Store n ((face_or a.face).count - 1)) (λ _. own_step steps.Unbump) (λ _. end))
        (λ a counted. stores version text ns n Nothing tt (λ _. own_step steps.Unbump) (λ _. end) (refuses version text ns n r) ((face_or a.face).count - 1) (less (face_or a.face).count (few_or a.face counted)))

    lowers_kept : From (true, ns, None) Nothing (Refers n) (lower old new n r ns)
    lowers_kept = turned version text (true, ns, None) (Refers n) Nothing (lower old new n r ns) lowers

    fails : (d : ℕ) → From (true, ns, None) (Locks d) (Refers n) (give_up d (lower old new n r ns))
    fails d = give_up_runs version text ns d (Refers n) tt (lower old new n r ns) lowers_kept

  -- ---- the name is entered

  module _ (n d : ℕ) (ns : List ℕ) where
    names : (a : above.EntryResult) → From (true, ns, None) (Locks d) (Refers n) (named_on old new n d ns a)
    names above.InPlace =
        let end : P Reply = tail ns (done (calls.Link old new)) in
        give_up_runs version text ns d (Refers n) tt (drop n end) (turned version text (true, ns, None) (Refers n) Nothing (drop n end) (drop_runs version text ns n Nothing tt end (tail_runs version text ns (done (calls.Link old new)))))
    names above.NoBlock = fails n (full (calls.Link old new) Blocks) ns d
    names above.NoSlot = fails n (full (calls.Link old new) Directory) ns d

    module _ (e : Name) (is : IsName version e) where
      finds : (found : Option ℕ) → From (true, ns, None) (Locks d) (Refers n) (link_found old new n d e ns found)
      finds (Some m) = fails n (failed (calls.Link old new) Exists) ns d
      finds None = enters version text ns d (Refers n) tt e n is naming.enters (named_on old new n d ns) names

      finds_if : (found : Option ℕ) (b : Bool) → From (true, ns, None) (Locks d) (Refers n) (if b then link_found old new n d e ns found else give_up d (lower old new n (failed (calls.Link old new) NoEntry) ns))
      finds_if found true = finds found
      finds_if found false = fails n (failed (calls.Link old new) NoEntry) ns d

      links_in : From (true, ns, None) (Refers d) (Refers n) (link_in old new n d e ns)
      links_in =
          look_runs version text (true, ns, None) d (Refers n) tt (looks_where (steps.Enter new) is_there)
          (λ a. if is_live_face a.face then link_found old new n d e ns a.found else give_up d (lower old new n (failed (calls.Link old new) NoEntry) ns)) e
          (λ a counted. finds_if a.found (is_live_face a.face))

  -- ---- its directory is sought: a reference to the file is kept

  module _ (n : ℕ) (ns : List ℕ) where
    sought : (es : List Name) → AllNames version es → length ns + length es ≤ listed_places → From (true, ns, None) (Locks n) Nothing (link_name old new n ns es)
    sought [] are room =
        let end : P Reply = lower old new n (failed (calls.Link old new) NoEntry) ns in
        give_runs version text (λ _. makes (Begin (steps.Enter new) 0)) (λ _. end) (true, ns, None) n Nothing tt (lowers n (failed (calls.Link old new) NoEntry) ns)
    sought (e ∷ es) are room =
        let lost : WalkStop → List ℕ → P Reply = λ why ms. lower old new n (stopped (calls.Link old new) why) ms in
        let is_lost : (why : WalkStop) (ms : List ℕ) → length ms ≤ listed_places → From (true, ms, None) Nothing (Refers n) (lost why ms) = λ why ms short. lowers_kept n (stopped (calls.Link old new) why) ms in
        let go : ℕ → P Reply = λ d. walk_parent (steps.Enter new) d e es ns (link_in old new n) lost in
        let seek : P Reply = start (steps.Enter new) new ns go lost in
        give_runs version text unmarked (λ _. seek) (true, ns, None) n Nothing tt
        (turned version text (true, ns, None) Nothing (Refers n) seek
        (start_runs version text (Some n) (steps.Enter new) lost listed_places (all_of listed_places) is_lost new go ns (first_fits (length ns) (suc (length es)) listed_places room)
        (λ d. walk_parent_runs version text (Some n) (steps.Enter new) lost listed_places (all_of listed_places) is_lost es e are d ns room (link_in old new n) (λ d e ms is room. links_in n d ms e is))))

  -- ---- the count goes up

  room_above : (f : Face) → bump_refused f ≡ None → f.count + 1 < 2 ^ 15
  room_above f why = at (nat_lt f.count count_limit) refl why
    where
      at : (b : Bool) → nat_lt f.count count_limit ≡ b → let refused : Option Cause = if b then None else Some TooManyLinks in refused ≡ None → f.count + 1 < 2 ^ 15
      at true is why = more f.count is
      at false is why = absurd (cc why)

  module _ (are : AllNames version (elements version new)) (n : ℕ) (ns : List ℕ) (room : length ns + length (elements version new) ≤ listed_places) where
    raises : (f : Face) (o : Option Cause) → bump_refused f ≡ o → From (true, ns, None) (Locks n) Nothing (link_raise version old new n ns f o)
    raises f (Some c) why = refuses version text ns n (failed (calls.Link old new) c)
    raises f None why =
        stores version text ns n Nothing tt (λ _. own_step steps.Bump) (λ _. link_name old new n ns (elements version new)) (sought n ns (elements version new) are room) (f.count + 1) (room_above f why)

    raises_if : (f : Face) (b : Bool) → From (true, ns, None) (Locks n) Nothing (if b then give_up n (tail ns (failed (calls.Link old new) IsDirectory)) else link_raise version old new n ns f (bump_refused f))
    raises_if f true = refuses version text ns n (failed (calls.Link old new) IsDirectory)
    raises_if f false = raises f (bump_refused f) refl

    links_at : From (true, ns, None) (Refers n) Nothing (link_at version old new n ns)
    links_at =
        take_runs version text (true, ns, None) n Nothing tt (λ a. bumps_if (face_or a.face))
        (λ a. if is_directory_type (face_or a.face).inode_type then give_up n (tail ns (failed (calls.Link old new) IsDirectory)) else link_raise version old new n ns (face_or a.face) (bump_refused (face_or a.face)))
        (λ a counted. raises_if (face_or a.face) (is_directory_type (face_or a.face).inode_type))

  -- ---- from an empty hand

  pub link_runs : IsCall version (calls.Link old new) → (s : Having) → IsEmpty s.hand → Runs version text (BeginsWith version text) (link_program version old new) s
  link_runs call s empty =
      let most : ℕ = length (elements version old) in
      let few = first_fits most (length (elements version new)) listed_places call.2 in
      let lost : WalkStop → List ℕ → P Reply = λ why ns. tail ns (stopped (calls.Link old new) why) in
      let is_lost : (why : WalkStop) (ms : List ℕ) → length ms ≤ most → From (true, ms, None) Nothing Nothing (lost why ms) = λ why ms short. tail_runs version text ms (stopped (calls.Link old new) why) in
      let go : ℕ → P Reply = λ d. walk (steps.Find old) d (elements version old) [] (link_at version old new) lost in
      join_runs version text unmarked (λ _. start (steps.Find old) old [] go lost) [] Nothing Nothing
      (start_runs version text None (steps.Find old) lost most few is_lost old go [] (fresh most)
      (λ d. walk_runs version text None (steps.Find old) lost most few is_lost (elements version old) d [] (from_none most most (all_of most)) (link_at version old new)
      (λ d ms short. links_at (path_names version new call.1) d ms (both_fit (length ms) most (length (elements version new)) listed_places short call.2))))
      s (empty_in s empty)
