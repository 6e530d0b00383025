-- unlink runs with nothing in hand.
use Rattle.syscalls.proofs.Vocabulary.{◌≡◌, ◌≢◌, ◌-◌, ℕ, List, length, Bool, true, false, Option, Some, None, refl, sym, ap, ◌∙◌, inl, ◌==◌, ◌||◌, not, if◌then◌else◌, IsSome, Name, dot, dotdot, elements, same_name, DotName, NoEntry, NotEmpty, MemInodes, Reply, eq_self, Do, unmarked, IsEmpty, Look, AtEntries, Face, Sight, face_or, is_directory_type, is_live_face, always, clear_name, is_missing, lower_parent, or_missing, unlink_child, unlink_dots, unlink_found, unlink_in, unlink_named, unlink_other, unlink_program, P, done, failed, full, give_up, looks_if, looks_where, makes, tail, IsCall, BeginsWith, Having, IsCounted, Leaves, Runs, Version}
use Rattle.plain_tree.specs.declared.call.Call.TheVariants as calls
use Rattle.plain_tree.specs.declared.step.Action.TheVariants as steps
use Rattle.inode_machine.specs.World as above
use Rattle.syscalls.proofs.Basics.{path_names, Around, Finds, Held, InHand, Locks, Nothing, Refers, empty_in, swapped, locked, may_refer, take_found, upped, give_up_runs, all_of, beside_it, came, in_parent_runs, tail_runs, take_runs, turned}
use Rattle.syscalls.proofs.Running as running
use Rattle.syscalls.proofs.Changing.{Few, clears, few_or, knows_less, less, looks, refuses, stores}

module _ (version : Version) (path : List ℕ) where
  abbrev R : P Reply → Having → Type 0
  R p s = running.R version path p s

  abbrev From : Around → Held → Held → P Reply → Type 0
  From t x y p = running.From version path t x y p

  -- ---- once the name is gone

  module _ (d n : ℕ) (ns : List ℕ) (f g : Face) (few : Few f) (fewer : Few g) (ne : n ≢ d) where
    abbrev lowered : P Reply
    lowered = Do (above.Store n (g.count - 1)) unmarked (λ _. give_up n (tail ns (done (calls.Unlink path))))

    lowers : From (true, ns, None) (Locks n) Nothing lowered
    lowers = stores version path ns n Nothing tt unmarked (λ _. give_up n (tail ns (done (calls.Unlink path)))) (give_up_runs version path ns n Nothing tt (tail ns (done (calls.Unlink path))) (tail_runs version path ns (done (calls.Unlink path)))) (g.count - 1) (less g.count fewer)

    differ : d ≢ n
    differ e = ne (sym e)

    gives_parent : From (true, ns, None) (Locks d) (Locks n) (give_up d lowered)
    gives_parent = give_up_runs version path ns d (Locks n) differ lowered (turned version path (true, ns, None) (Locks n) Nothing lowered lowers)

    parent_on : (b : Bool) → From (true, ns, None) (Locks d) (Locks n) (if b then Do (above.Store d (f.count - 1)) unmarked (λ _. give_up d lowered) else give_up d lowered)
    parent_on true = stores version path ns d (Locks n) differ unmarked (λ _. give_up d lowered) gives_parent (f.count - 1) (less f.count few)
    parent_on false = gives_parent

    clears_name : (e : Name) → From (true, ns, None) (Finds version d path e) (Locks n) (clear_name path d e ns f n g)
    clears_name e = clears version path ns d (Locks n) differ (λ _. makes (Look 0)) (λ _. lower_parent d f g (give_up d lowered)) (parent_on (is_directory_type g.inode_type)) e

  -- ---- what is found

  module _ (d n : ℕ) (e : Name) (ns : List ℕ) (f : Face) (few : Few f) (ne : n ≢ d) where
    child_on : (a : Sight) → IsCounted a → (b : Bool) → From (true, ns, None) (Locks n) (Finds version d path e)
        (if b then clear_name path d e ns f n (face_or a.face) else give_up n (give_up d (tail ns (failed (calls.Unlink path) NotEmpty))))
    child_on a counted true = turned version path (true, ns, None) (Finds version d path e) (Locks n) (clear_name path d e ns f n (face_or a.face)) (clears_name d n ns f (face_or a.face) few (few_or a.face counted) ne e)
    child_on a counted false =
        let rest : P Reply = give_up d (tail ns (failed (calls.Unlink path) NotEmpty)) in
        give_up_runs version path ns n (Finds version d path e) ne rest
        (turned version path (true, ns, None) (Finds version d path e) Nothing rest (knows_less version path (true, ns, None) d e Nothing rest (refuses version path ns d (failed (calls.Unlink path) NotEmpty))))

    takes_child : From (true, ns, None) (Refers n) (Finds version d path e) (unlink_child path d e ns f n)
    unfolding Runs
    takes_child s held = (
      inl (take_found (true, ns, None) (Finds version d path e) s s n ne held),
      λ a u left. (
          let k : Sight → P Reply = λ a. if a.empty then clear_name path d e ns f n (face_or a.face) else give_up n (give_up d (tail ns (failed (calls.Unlink path) NotEmpty))) in
          let m : Sight → Option above.Mark = λ a. looks_if (not a.empty) in
          let to = came version path (true, ns, None) n (Finds version d path e) ne m k AtEntries s u a held left in
          child_on a left.0.1 a.empty u (locked (true, ns, None) (Finds version d path e) s u n ne held to (beside_it version path (true, ns, None) n (Finds version d path e) ne m k AtEntries s u a held left left.1.0))),
    )

    ups_child : (s u : Having) → InHand (true, ns, None) (Finds version d path e) Nothing s → (a : Bool) → Leaves version path (above.Up n) a s u → R (if a then unlink_child path d e ns f n else give_up d (tail ns (full (calls.Unlink path) MemInodes))) u
    ups_child s u held true left =
        takes_child u (upped (true, ns, None) (Finds version d path e) s u tt (swapped (true, ns, None) (Finds version d path e) Nothing s held) (Some n) left.0 left.1)
    ups_child s u held false left =
        let rest : P Reply = give_up d (tail ns (full (calls.Unlink path) MemInodes)) in
        knows_less version path (true, ns, None) d e Nothing rest (refuses version path ns d (full (calls.Unlink path) MemInodes)) u
        (swapped (true, ns, None) Nothing (Finds version d path e) u (upped (true, ns, None) (Finds version d path e) s u tt (swapped (true, ns, None) (Finds version d path e) Nothing s held) None left.0 left.1))

    unlinks_other : From (true, ns, None) (Finds version d path e) Nothing (unlink_other path d e ns f n)
    unfolding Runs
    unlinks_other s held = (may_refer (true, ns, None) (Finds version d path e) s s tt (swapped (true, ns, None) (Finds version d path e) Nothing s held), λ a u left. ups_child s u held a left)

  module _ (d : ℕ) (e : Name) (ns : List ℕ) where
    same_or_other : (n : ℕ) (f : Face) → Few f → (b : Bool) → (n == d) ≡ b → From (true, ns, None) (Finds version d path e) Nothing (if b then give_up d (tail ns (failed (calls.Unlink path) NoEntry)) else unlink_other path d e ns f n)
    same_or_other n f few true is = knows_less version path (true, ns, None) d e Nothing (give_up d (tail ns (failed (calls.Unlink path) NoEntry))) (refuses version path ns d (failed (calls.Unlink path) NoEntry))
    same_or_other n f few false is = unlinks_other d n e ns f few (λ same. (let clash : true ≡ false = sym (ap (λ (n : ℕ). n == d) same ∙ eq_self d) ∙ is in cc clash))

    finds : (a : Sight) → Few (face_or a.face) → (o : Option ℕ) → IsSome o → From (true, ns, None) (Finds version d path e) Nothing (unlink_found path d e ns (face_or a.face) o)
    finds a few None is = absurd (cc is)
    finds a few (Some n) is = same_or_other n (face_or a.face) few (n == d) refl

    misses : (a : Sight) (o : Option ℕ) → o ≡ None → From (true, ns, None) (Locks d) Nothing (unlink_found path d e ns (face_or a.face) o)
    misses a None is = refuses version path ns d (failed (calls.Unlink path) NoEntry)
    misses a (Some n) is = absurd (cc is)

    names : From (true, ns, None) (Refers d) Nothing (unlink_named path d e ns)
    names = looks version path ns d e (looks_where (steps.Unlink path) is_missing) (λ a. unlink_found path d e ns (face_or a.face) a.found)
        (λ a counted none. misses a a.found none) (λ a counted some. finds a (few_or a.face counted) a.found some)

    dots : From (true, ns, None) (Refers d) Nothing (unlink_dots path d ns)
    dots = take_runs version path (true, ns, None) d Nothing tt (looks_where (steps.Unlink path) always) (λ a. give_up d (tail ns (failed (calls.Unlink path) (or_missing DotName (is_live_face a.face)))))
        (λ a counted. refuses version path ns d (failed (calls.Unlink path) (or_missing DotName (is_live_face a.face))))

    either_name : (b : Bool) → From (true, ns, None) (Refers d) Nothing (if b then unlink_dots path d ns else unlink_named path d e ns)
    either_name true = dots
    either_name false = names

    unlinks_in : From (true, ns, None) (Refers d) Nothing (unlink_in path d e ns)
    unlinks_in = either_name (same_name e dot || same_name e dotdot)

  -- ---- from an empty hand

  pub unlink_runs : IsCall version (calls.Unlink path) → (s : Having) → IsEmpty s.hand → Runs version path (BeginsWith version path) (unlink_program version path) s
  unlink_runs call s empty =
      in_parent_runs version path (calls.Unlink path) (steps.Unlink path) (unlink_in path) (length (elements version path)) call.1 (λ d e ms is. unlinks_in d e ms) (elements version path) (path_names version path call.0) (all_of (length (elements version path))) s (empty_in s empty)
