-- mkdir runs with nothing in hand.
use Rattle.syscalls.proofs.Vocabulary.{◌≡◌, ◌≢◌, ◌<◌, ◌+◌, ◌^◌, ℕ, List, length, Bool, true, false, Option, Some, None, refl, sym, ap, ◌∙◌, arith, ◌==◌, nat_lt, if◌then◌else◌, nat_tests, IsName, Name, elements, count_limit, Cause, Exists, NoEntry, TooManyLinks, Blocks, Directory, DiskInodes, MemInodes, Reply, eq_self, Do, unmarked, IsEmpty, Face, OfDirectory, Sight, face_or, is_live_face, is_refused, mkdir_in, mkdir_on, mkdir_other, mkdir_program, mkdir_refused, mkdir_with, name_directory, entered_file, mends_unless_new, unmake, P, done, failed, full, give_up, looks_where, mends_if_full, tail, Orphans, IsCall, BeginsWith, Having, Runs, Version}
use Rattle.plain_tree.specs.declared.call.Call.TheVariants as calls
use Rattle.plain_tree.specs.declared.step.Action.TheVariants as steps
use Rattle.inode_machine.specs.World as above
use Rattle.syscalls.proofs.Basics.{path_names, Around, Held, Locks, Nothing, Refers, empty_in, give_up_runs, all_of, in_parent_runs, look_runs, tail_runs, take_runs, turned}
use Rattle.syscalls.proofs.Running as running
use Rattle.syscalls.proofs.Changing.{claims, enters, fills, forgets, refuses, stores}

pub one_is_few : 1 < 2 ^ 15
one_is_few = omega arith

none_is_few : 0 < 2 ^ 15
none_is_few = omega arith

-- one more than a count that isn't the highest
pub more : (n : ℕ) → nat_lt n count_limit ≡ true → n + 1 < 2 ^ 15
more n e = grind (arith, nat_tests, e)

-- another number
pub other_number : (n d : ℕ) → (n == d) ≡ false → n ≢ d
other_number n d is same = let clash : true ≡ false = sym (ap (λ (n : ℕ). n == d) same ∙ eq_self d) ∙ is in cc clash

module _ (version : Version) (path : List ℕ) where
  abbrev From : Around → Held → Held → P Reply → Type 0
  From t x y p = running.From version path t x y p

  -- ---- the new inode goes again

  module _ (ns : List ℕ) (n d : ℕ) (ne : n ≢ d) (r : Reply) where
    differ : d ≢ n
    differ e = ne (sym e)

    pub unmakes : From (true, ns, None) (Locks n) (Locks d) (unmake n d ns r)
    unmakes =
        let rest : P Reply = give_up d (tail ns r) in
        stores version path ns n (Locks d) ne (λ _. Some (Orphans n)) (λ _. give_up n rest) (give_up_runs version path ns n (Locks d) ne rest (turned version path (true, ns, None) (Locks d) Nothing rest (refuses version path ns d r))) 0 none_is_few

  -- ---- the new directory

  module _ (ns : List ℕ) (n d : ℕ) (ne : n ≢ d) (f : Face) (few : f.count + 1 < 2 ^ 15) where
    apart : d ≢ n
    apart e = ne (sym e)

    names : (a : above.EntryResult) → From (true, ns, None) (Locks d) (Locks n) (name_directory path d f n ns a)
    names above.InPlace =
        let end : P Reply = tail ns (done (calls.Mkdir path)) in
        stores version path ns d (Locks n) apart unmarked (λ _. give_up d (give_up n end))
        (give_up_runs version path ns d (Locks n) apart (give_up n end) (turned version path (true, ns, None) (Locks n) Nothing (give_up n end) (give_up_runs version path ns n Nothing tt end (tail_runs version path ns (done (calls.Mkdir path))))))
        (f.count + 1) few
    names above.NoBlock = turned version path (true, ns, None) (Locks n) (Locks d) (unmake n d ns (full (calls.Mkdir path) Blocks)) (unmakes ns n d ne (full (calls.Mkdir path) Blocks))
    names above.NoSlot = turned version path (true, ns, None) (Locks n) (Locks d) (unmake n d ns (full (calls.Mkdir path) Directory)) (unmakes ns n d ne (full (calls.Mkdir path) Directory))

    filled : (e : Name) → IsName version e → (there : Bool) → From (true, ns, None) (Locks n) (Locks d) (if there then Do (above.Enter d e n) (entered_file n) (name_directory path d f n ns) else unmake n d ns (full (calls.Mkdir path) Blocks))
    filled e is true = turned version path (true, ns, None) (Locks d) (Locks n) (Do (above.Enter d e n) (entered_file n) (name_directory path d f n ns)) (enters version path ns d (Locks n) apart e n is (entered_file n) (name_directory path d f n ns) names)
    filled e is false = unmakes ns n d ne (full (calls.Mkdir path) Blocks)

    makes_other : (e : Name) → IsName version e → From (true, ns, None) (Refers n) (Locks d) (mkdir_other path d e ns f n)
    makes_other e is =
        let on : Bool → P Reply = λ there. if there then Do (above.Enter d e n) (entered_file n) (name_directory path d f n ns) else unmake n d ns (full (calls.Mkdir path) Blocks) in
        let fill : P Reply = Do (above.Fill n d) mends_if_full on in
        take_runs version path (true, ns, None) n (Locks d) ne unmarked (λ _. Do (above.Store n 1) unmarked (λ _. fill))
        (λ a counted. stores version path ns n (Locks d) ne unmarked (λ _. fill) (fills version path ns n (Locks d) ne d mends_if_full on (filled e is)) 1 one_is_few)

  module _ (ns : List ℕ) (d : ℕ) (e : Name) (is : IsName version e) (f : Face) where
    makes_new : f.count + 1 < 2 ^ 15 → (n : ℕ) (b : Bool) → (n == d) ≡ b
        → From (true, ns, None) (Refers n) (Locks d) (if b then Do (above.Forget n) unmarked (λ _. give_up d (tail ns (full (calls.Mkdir path) MemInodes))) else mkdir_other path d e ns f n)
    makes_new few n false other = makes_other ns n d (other_number n d other) f few e is
    makes_new few n true same = forgets version path ns n d same (tail ns (full (calls.Mkdir path) MemInodes)) (tail_runs version path ns (full (calls.Mkdir path) MemInodes))

    makes_on : (o : Option Cause) → mkdir_refused None f ≡ o → From (true, ns, None) (Locks d) Nothing (mkdir_on path d e ns f o)
    makes_on (Some c) why = refuses version path ns d (failed (calls.Mkdir path) c)
    makes_on None why =
        claims version path ns d mends_unless_new (mkdir_with path d e ns f) (λ n. makes_new (room f why) n (n == d) refl) (refuses version path ns d (full (calls.Mkdir path) DiskInodes)) (refuses version path ns d (full (calls.Mkdir path) MemInodes)) OfDirectory
      where
        room : (f : Face) → mkdir_refused None f ≡ None → f.count + 1 < 2 ^ 15
        room f why = at (nat_lt f.count count_limit) refl why
          where
            at : (b : Bool) → nat_lt f.count count_limit ≡ b → let refused : Option Cause = if b then None else Some TooManyLinks in refused ≡ None → f.count + 1 < 2 ^ 15
            at true is why = more f.count is
            at false is why = absurd (cc why)

    makes_found : (o : Option ℕ) → From (true, ns, None) (Locks d) Nothing (mkdir_on path d e ns f (mkdir_refused o f))
    makes_found (Some n) = refuses version path ns d (failed (calls.Mkdir path) Exists)
    makes_found None = makes_on (mkdir_refused None f) refl

  module _ (ns : List ℕ) (d : ℕ) (e : Name) (is : IsName version e) where
    makes_if : (a : Sight) (b : Bool) → From (true, ns, None) (Locks d) Nothing (if b then mkdir_on path d e ns (face_or a.face) (mkdir_refused a.found (face_or a.face)) else give_up d (tail ns (failed (calls.Mkdir path) NoEntry)))
    makes_if a true = makes_found ns d e is (face_or a.face) a.found
    makes_if a false = refuses version path ns d (failed (calls.Mkdir path) NoEntry)

    makes_in : From (true, ns, None) (Refers d) Nothing (mkdir_in path d e ns)
    makes_in =
        look_runs version path (true, ns, None) d Nothing tt (looks_where (steps.Mkdir path) (λ a. is_refused (mkdir_refused a.found (face_or a.face))))
        (λ a. if is_live_face a.face then mkdir_on path d e ns (face_or a.face) (mkdir_refused a.found (face_or a.face)) else give_up d (tail ns (failed (calls.Mkdir path) NoEntry))) e
        (λ a counted. makes_if a (is_live_face a.face))

  -- ---- from an empty hand

  pub mkdir_runs : IsCall version (calls.Mkdir path) → (s : Having) → IsEmpty s.hand → Runs version path (BeginsWith version path) (mkdir_program version path) s
  mkdir_runs call s empty =
      in_parent_runs version path (calls.Mkdir path) (steps.Mkdir path) (mkdir_in path) (length (elements version path)) call.1 (λ d e ms is. makes_in ms d e is) (elements version path) (path_names version path call.0) (all_of (length (elements version path))) s (empty_in s empty)
