-- Inherit is right, whatever the other harts do.
use Rattle.image_versions.specs.declared.version.Version.{Version}
use Rattle.inode_machine.proofs.Vocabulary.{◌≡◌, ◌≢◌, ◌⊎◌, inl, inr, ℕ, zero, suc, ◌+◌, ◌-◌, ◌<◌, ◌≤◌, Bool, true, false, nat_lt, not, ◌==◌, List, [], ◌∷◌, Option, Some, None, refl, sym, ◌∙◌, ap, subst, arith, nat_tests, Do, Ran, unmarked, P, own, onto, Good, Safe, Wp, Begun, Ends, Reply, Inherit, next_of, reply_of, had_room, hart_count, descriptor_count, put, Hold, holds_raised, either, same_or, put_same, put_other, one_yes, Step, IsWholeCall, OwnMove, Entry, World, LoanResult, Lent, Moved, Lend, LendDirectory, Release, is_nothing, next_used, with_lent, handed, moved_in, lend_last, lend_if, released, given_of, serving, with_mark, made_by, new_id, places, lends, lend_from, lent_directory, inherit_end, inherit_program, done, limit, rest_cost, Held, Own, Rests, own_names, own_of, Has, Inv, machine, nothing, covered_calls}
use Rattle.plain_tree.specs.declared.call.Call.TheVariants as calls
use Rattle.inode_machine.proofs.Basics.{moves_to, quiet_to, s-owned, quiet, one_most, less_is, s-join, s-leave, s-drop, idle_as, unlocks_nothing, names_plain, NextUsed, next_is, next_none, next_past}
use Rattle.inode_machine.proofs.Turnings.{Server, kid, serving_child, serving_given, serving_none}
use Rattle.inode_machine.proofs.Lendings.{inherited, inherited_made, made_is, lent_world, lent_is, lends_one, all_lent, all_lent_fair, all_lent_own, all_lent_takes}
use Rattle.inode_machine.proofs.Movings.{moved_own, moved_fair, moved_owns, moved_stage, given_world, given_fair, given_owns, given_takes}
use Rattle.inode_machine.proofs.Releases.{released_fair, released_owns}

-- All descriptors below this one are on their way, and none from here on.
pub record OnTheWay (from : ℕ) (O : Own) : Type 0 where
  pub given : given_of O.desk ≡ None
  pub before : (j : ℕ) → j < from → O.desk.lent j ≡ O.desk.fds j
  pub after : (j : ℕ) → from ≤ j → j < descriptor_count → O.desk.lent j ≡ None

lower : (i j : ℕ) → (i < j) ⊎ (j ≤ i)
lower i j = elim (either (nat_lt i j)) [ inl y ↦ inl (less_is i j y) | inr y ↦ inr (less_isnt i j y) ]
  where
    less_isnt : (a b : ℕ) → nat_lt a b ≡ false → b ≤ a
    less_isnt a b e = grind (arith, nat_tests)

-- a child that has nothing yet has no descriptors
empty_child : (h c : ℕ) (v : World) (O : Own) → Inv v → own_of h v ≡ O → Server h c O → given_of O.desk ≡ None → (i : ℕ) → i < descriptor_count → (v.desks c).fds i ≡ None
empty_child h c v O inv ov srv given =
    let k = kid h c v O inv ov srv in
    (subst (λ (z : Option ℕ). Has z (v.desks c).fds (v.all.cwd c) (v.desks c).directory (v.desks h).directory) (ap (λ (o : Own). given_of o.desk) ov ∙ given) k.lends.has).0

abbrev pub lent_own : ℕ → ℕ → Own → Own
lent_own i s O = record O { desk = record (O.desk) { lent = put O.desk.lent i (Some s) } }

abbrev pub all_own : ℕ → Own → Own
all_own c O = record O { mine = record { refs = O.mine.refs; walk = None; pending = None }; desk = record (O.desk) { lent = serving c (Some 0) } }

-- A descriptor is handed on; with the last one, or if there is none, the tree's step is made.
pub s-lend : (version : Version) {A : Type 0} {h c from : ℕ} {k : LoanResult → P (machine version) A} {B : List Step → Type 0} {Q : A → List Step → World → Type 0} {n : ℕ} {es : List Step} {w : World} {O : Own}
    → own_of h w ≡ O → 0 < n → Server h c O → OnTheWay from O → from ≤ descriptor_count → (next_used from O.desk.fds ≡ None → from ≡ 0) → B (inherited c ∷ es)
    → ((l old : ℕ) (u : World) → l + 1 ≡ n → own_of h u ≡ moved_own version c old O → Safe (machine version) h B Q (k (Moved old)) l (inherited c ∷ es) u)
    → ((l i : ℕ) (u : World) → l + 1 ≡ n → own_of h u ≡ all_own c O → Safe (machine version) h B Q (k (Lent i false)) l (inherited c ∷ es) u)
    → ((l i j : ℕ) (u : World) (x : NextUsed from i O.desk.fds) → l + 1 ≡ n → next_used (i + 1) O.desk.fds ≡ Some j → own_of h u ≡ lent_own i x.slot O → Safe (machine version) h B Q (k (Lent i true)) l es u)
    → Safe (machine version) h B Q (Do (Lend c from) (lends c) k) n es w
s-lend version {A} {h} {c} {from} {k} {B} {Q} {n} {es} {w} {O} owns pos srv way le first b none last more = s-owned version owns srv.free pos (λ v inv ov.
    let kd = kid h c v O inv ov srv in (
      ((kd.below, kd.lender), ap (λ (o : Own). given_of o.desk) ov ∙ way.given, (λ i a l. ap (λ (o : Own). o.desk.lent i) ov ∙ way.after i a l), (λ q. first (ap (λ (o : Own). next_used from o.desk.fds) (sym ov) ∙ q))),
      (λ _ _. by v inv ov (next_used from (v.desks h).fds) refl),
    ))
  where
    Goes : (v : World) (z : World) (i : ℕ) (o : Option ℕ) → Type 0
    Goes v z i o = Good (machine version) LoanResult h (λ a. places version h (Lend c from) a (lends c a) v) 0 n B es v ⊥ (with_mark version h (lends c) (Ran (Lent i (not (is_nothing o))) (lend_last z h c o))) (λ l a u. Wp (machine version) h B Q (k a) l (onto (own h (places version h (Lend c from) a (lends c a) v)) es) u)

    some : (v : World) → Inv v → own_of h v ≡ O → (i : ℕ) → NextUsed from i O.desk.fds → (o : Option ℕ) → next_used (i + 1) (v.desks h).fds ≡ o → Goes v (with_lent v h i) i o
    some v inv ov i x o q = subst (λ (z : World). Goes v z i o) (sym (lent_is v h i x.slot e.0 is e.1)) (at o q)
      where
        is : (v.desks h).fds i ≡ Some x.slot
        is = ap (λ (o : Own). o.desk.fds i) ov ∙ x.is

        e : (e : Entry) × (v.files x.slot ≡ Some e)
        e = inv.tied.used h i x.slot srv.hart x.below is

        unlent : (v.desks h).lent i ≡ None
        unlent = ap (λ (o : Own). o.desk.lent i) ov ∙ way.after i x.above x.below

        at : (o : Option ℕ) → next_used (i + 1) (v.desks h).fds ≡ o → Goes v (lent_world v h i x.slot e.0) i o
        at (Some j) q =
            let y = lends_one h c i x.slot e.0 v O inv ov srv x.below is unlent e.1 in
            quiet version y.fair refl pos (λ l r. (more l i j (lent_world v h i x.slot e.0) x r (ap (λ (o : Own). next_used (i + 1) o.desk.fds) (sym ov) ∙ q) y.owned).wp)
        at None q =
            moves_to version h 0 n B Q es v (handed (lent_world v h i x.slot e.0) h c) (OwnMove (Inherit c) 0) tt (k (Lent i false)) (made_by version v.all h (new_id v) (v.harts h).walk (OwnMove (Inherit c) 0)) (inherited_made v.all h c)
            (made_is version v.all h c (new_id v) (v.harts h).walk)
            (all_lent_fair version h c i x.slot e.0 v O inv ov srv his x.below is unlent e.1 all)
            (all_lent_takes version h c i x.slot e.0 v O inv ov srv his x.below is unlent e.1 all)
            b pos
            (λ l r. (last l i (all_lent version h c i x.slot e.0 v O inv ov srv his x.below is unlent e.1 all) r (all_lent_own version h c i x.slot e.0 v O inv ov srv his x.below is unlent e.1 all)).wp)
          where
            his : (j : ℕ) → j < descriptor_count → (v.desks c).fds j ≡ None
            his = empty_child h c v O inv ov srv way.given

            all : (j : ℕ) → j < descriptor_count → put (v.desks h).lent i (Some x.slot) j ≡ (v.desks h).fds j
            all j lj = elim (same_or j i) [
              | inl s ↦ ap (put (v.desks h).lent i (Some x.slot)) s ∙ put_same (v.desks h).lent i (Some x.slot) ∙ sym is ∙ ap (v.desks h).fds (sym s)
              | inr ne ↦ put_other (v.desks h).lent i (Some x.slot) j ne ∙ ap (λ (o : Own). o.desk.lent j) ov ∙ there j lj ne ∙ ap (λ (o : Own). o.desk.fds j) (sym ov)
            ]
              where
                there : (j : ℕ) → j < descriptor_count → j ≢ i → O.desk.lent j ≡ O.desk.fds j
                there j lj ne = elim (lower j from) [
                  | inl a ↦ way.before j a
                  | inr a ↦ way.after j a lj ∙ sym (elim (lower j i) [
                    | inl d ↦ x.before j a d
                    | inr d ↦ next_none (i + 1) O.desk.fds (ap (λ (o : Own). next_used (i + 1) o.desk.fds) (sym ov) ∙ q) j (omega (arith, d, ne)) lj
                  ])
                ]

    by : (v : World) → Inv v → own_of h v ≡ O → (o : Option ℕ) → next_used from (v.desks h).fds ≡ o
        → Good (machine version) LoanResult h (λ a. places version h (Lend c from) a (lends c a) v) 0 n B es v ⊥ (with_mark version h (lends c) (lend_if h v c o)) (λ l a u. Wp (machine version) h B Q (k a) l (onto (own h (places version h (Lend c from) a (lends c a) v)) es) u)
    by v inv ov (Some i) q = some v inv ov i (next_is from i O.desk.fds le (ap (λ (o : Own). next_used from o.desk.fds) (sym ov) ∙ q)) (next_used (i + 1) (v.desks h).fds) refl
    by v inv ov None q =
        moves_to version h 0 n B Q es v (moved_in v h c) (OwnMove (Inherit c) 0) tt (k (Moved (v.desks c).directory)) (made_by version v.all h (new_id v) (v.harts h).walk (OwnMove (Inherit c) 0)) (inherited_made v.all h c)
        (made_is version v.all h c (new_id v) (v.harts h).walk)
        (given_fair version h c v O inv ov srv unlent unused his)
        (given_takes version h c v O inv ov srv unlent unused his)
        b pos
        (λ l r. (none l (v.desks c).directory (given_world version h c v O inv ov srv unlent unused his) r (given_owns version h c v O inv ov srv unlent unused his)).wp)
      where
        q0 : next_used from O.desk.fds ≡ None
        q0 = ap (λ (o : Own). next_used from o.desk.fds) (sym ov) ∙ q

        his : (j : ℕ) → j < descriptor_count → (v.desks c).fds j ≡ None
        his = empty_child h c v O inv ov srv way.given

        unused : (j : ℕ) → j < descriptor_count → (v.desks h).fds j ≡ None
        unused j lj = ap (λ (o : Own). o.desk.fds j) ov ∙ next_none from O.desk.fds q0 j (let z = first q0 in omega (arith, z)) lj

        unlent : (j : ℕ) → j < descriptor_count → (v.desks h).lent j ≡ None
        unlent j lj = ap (λ (o : Own). o.desk.lent j) ov ∙ way.after j (let z = first q0 in omega (arith, z)) lj

-- The directory is, after the last descriptor.
pub s-lend-directory : (version : Version) {A : Type 0} {h c : ℕ} {k : ℕ → P (machine version) A} {B : List Step → Type 0} {Q : A → List Step → World → Type 0} {n : ℕ} {es : List Step} {w : World} {O : Own}
    → own_of h w ≡ O → 0 < n → Server h c O → O.desk.lent ≡ serving c (Some 0) → ((l old : ℕ) (u : World) → l + 1 ≡ n → own_of h u ≡ moved_own version c old O → Safe (machine version) h B Q (k old) l es u)
    → Safe (machine version) h B Q (Do (LendDirectory c) unmarked k) n es w
s-lend-directory version {h = h} {c = c} {O = O} owns pos srv lent rest = s-owned version owns srv.free pos (λ v inv ov.
    let kd = kid h c v O inv ov srv in
    let is : (v.desks h).lent ≡ serving c (Some 0) = ap (λ (o : Own). o.desk.lent) ov ∙ lent in
    let none : (j : ℕ) → j < descriptor_count → (v.desks h).lent j ≡ None = (λ j lj. ap (λ (f : ℕ → Option ℕ). f j) is ∙ serving_none c (Some 0) j lj) in
    let at : v.all.cwd c ≡ (v.desks h).directory = subst (λ (z : Option ℕ). Has z (v.desks c).fds (v.all.cwd c) (v.desks c).directory (v.desks h).directory) (ap (λ (f : ℕ → Option ℕ). f (descriptor_count + 1)) is ∙ serving_given c (Some 0)) kd.lends.has in
    (((kd.below, kd.lender), none), (λ _ _. quiet_to version (moved_fair version h c v O inv ov srv none at) (moved_stage version h c v O inv ov srv none at) pos (λ l q. (rest l (v.desks c).directory (moved_in v h c) q (moved_owns version h c v O inv ov srv none at)).wp))))

-- The child may start again.
pub s-release : (version : Version) {A : Type 0} {h c : ℕ} {k : Unit {0} → P (machine version) A} {B : List Step → Type 0} {Q : A → List Step → World → Type 0} {n : ℕ} {es : List Step} {w : World} {O : Own}
    → own_of h w ≡ O → 0 < n → Server h c O → O.desk.lent ≡ serving c (Some 1) → ((l : ℕ) (u : World) → l + 1 ≡ n → own_of h u ≡ record O { desk = record (O.desk) { lent = nothing } } → Safe (machine version) h B Q (k tt) l es u)
    → Safe (machine version) h B Q (Do (Release c) unmarked k) n es w
s-release version {h = h} {c = c} {O = O} owns pos srv lent rest = s-owned version owns srv.free pos (λ v inv ov.
    let kd = kid h c v O inv ov srv in
    (((kd.below, kd.lender), (λ j lj. ap (λ (o : Own). o.desk.lent j) ov ∙ ap (λ (f : ℕ → Option ℕ). f j) lent ∙ serving_none c (Some 1) j lj)), (λ _ _. quiet_to version (released_fair h c v O inv ov srv lent) refl pos (λ l q. (rest l (released v h c) q (released_owns h c v O inv ov srv lent)).wp))))

-- The call.

inherit_written : (c : ℕ) → IsWholeCall (calls.Inherit c) (inherited c ∷ []) (done (calls.Inherit c))
unfolding next_of reply_of had_room
inherit_written c = (refl, record { through = refl; reply = refl; room = refl })

-- What the hart has when its call begins: as one that rests, but that it serves the child. O0: what it had.
abbrev pub begun_own : ℕ → Own → Own
begun_own c O0 = record O0 { desk = record (O0.desk) { lent = serving c None } }

module _ (version : Version) (h c : ℕ) (O0 : Own) (lt : h < hart_count) (free : O0.desk.lender ≡ None) (rests : Rests O0) (home : O0.desk.directory ≡ O0.row.cwd) where
  abbrev B : List Step → Type 0
  B = Begun (covered_calls version) (calls.Inherit c)

  abbrev Q : Reply → List Step → World → Type 0
  Q = Ends (covered_calls version) h (calls.Inherit c)

  abbrev told : List Step
  told = inherited c ∷ []

  begun : B told
  begun = ((inherit_written c).0, tt)

  empty : (j : ℕ) → O0.inodes j ≡ None
  empty j = ap (λ (f : ℕ → Option Held). f j) rests.inodes

  -- it serves the child, with these on their way and these references
  server : (L : ℕ → Option ℕ) (r : ℕ → ℕ) (joined : Bool) → L descriptor_count ≡ Some c → ((i : ℕ) → r i < 8) → Server h c (record O0 { desk = record (O0.desk) { lent = L; joined = joined; noted = None }; mine = record { refs = r; walk = None; pending = None } })
  server L r joined child few = record { hart = lt; free = free; child = child; inodes = empty; walk = refl; pending = refl; opening = rests.opening; left = rests.left; noted = refl; few = few }

  abbrev at : (ℕ → Option ℕ) → (ℕ → ℕ) → Bool → Own
  at L r joined = record O0 { desk = record (O0.desk) { lent = L; joined = joined; noted = None }; mine = record { refs = r; walk = None; pending = None } }

  -- what it has is that
  as_at : (L : ℕ → Option ℕ) → record O0 { desk = record (O0.desk) { lent = L } } ≡ at L O0.mine.refs false
  as_at L = λ z. record O0 { desk = record (O0.desk) { lent = L; joined = rests.joined z; noted = rests.noted z }; mine = record { refs = O0.mine.refs; walk = rests.walk z; pending = rests.pending z } }

  few0 : (i : ℕ) → O0.mine.refs i < 8
  few0 i = let a = rests.refs i in let b = one_most (O0.desk.directory == i) in omega (arith, a, b)

  few1 : (o i : ℕ) → put O0.mine.refs o (O0.mine.refs o + 1) i < 8
  few1 o i = elim (same_or i o) [
    | inl e ↦ (let p = ap (put O0.mine.refs o (O0.mine.refs o + 1)) e ∙ put_same O0.mine.refs o (O0.mine.refs o + 1) in let a = rests.refs o in let b = one_most (O0.desk.directory == o) in omega (arith, p, a, b))
    | inr ne ↦ (let p = put_other O0.mine.refs o (O0.mine.refs o + 1) i ne in let a = few0 i in omega (arith, p, a))
  ]

  back : (o : ℕ) → put (put O0.mine.refs o (O0.mine.refs o + 1)) o (put O0.mine.refs o (O0.mine.refs o + 1) o - 1) ≡ O0.mine.refs
  back o = λ z i. each i z
    where
      each : (i : ℕ) → put (put O0.mine.refs o (O0.mine.refs o + 1)) o (put O0.mine.refs o (O0.mine.refs o + 1) o - 1) i ≡ O0.mine.refs i
      each i = elim (same_or i o) [
        | inl e ↦ (let p = ap (put (put O0.mine.refs o (O0.mine.refs o + 1)) o (put O0.mine.refs o (O0.mine.refs o + 1) o - 1)) e ∙ put_same (put O0.mine.refs o (O0.mine.refs o + 1)) o (put O0.mine.refs o (O0.mine.refs o + 1) o - 1) in let q = put_same O0.mine.refs o (O0.mine.refs o + 1) in let r : O0.mine.refs i ≡ O0.mine.refs o = ap O0.mine.refs e in omega (arith, p, q, r))
        | inr ne ↦ put_other (put O0.mine.refs o (O0.mine.refs o + 1)) o (put O0.mine.refs o (O0.mine.refs o + 1) o - 1) i ne ∙ put_other O0.mine.refs o (O0.mine.refs o + 1) i ne
      ]

  unlocks : (i : ℕ) (x : Held) → O0.inodes i ≡ Some x → x.locked ≡ false
  unlocks = unlocks_nothing O0.inodes rests.inodes

  -- its old directory is dropped, and the child released
  ends : (o n : ℕ) (u : World) → 2000 ≤ n → own_of h u ≡ at (serving c (Some 1)) (put O0.mine.refs o (O0.mine.refs o + 1)) false → Safe (machine version) h B Q (inherit_end c o) n told u
  ends o n u few own =
      s-join version own free lt (omega (arith, few)) unlocks refl (λ l1 u1 q1 own1.
      s-drop version o own1 free lt (omega (arith, few, q1)) refl (empty o) (let p = put_same O0.mine.refs o (O0.mine.refs o + 1) in omega (arith, p)) refl refl spare (λ l2 u2 q2 own2.
      s-leave version own2 free lt (omega (arith, few, q1, q2)) unlocks refl (ap (λ (o : Option Hold). holds_raised true o) rests.hold) (λ i x is. absurd (let a = empty i in cc (a, is))) (λ l3 u3 q3 own3.
      s-release version (own3 ∙ (λ z. at (serving c (Some 1)) (back o z) false)) (omega (arith, few, q1, q2, q3)) (server (serving c (Some 1)) O0.mine.refs false (serving_child c (Some 1)) few0) refl (λ l4 u4 q4 own4. record {
        wp = (
          (λ z. inherit_written c),
          idle_as h u4 (at nothing O0.mine.refs false) own4 (record {
            inodes = rests.inodes;
            refs = rests.refs;
            walk = refl;
            pending = refl;
            hold = rests.hold;
            hand = rests.hand;
            joined = refl;
            lent = refl;
            opening = rests.opening;
            left = rests.left;
            noted = refl;
          }),
        );
      }))))
    where
      spare : (1 < put O0.mine.refs o (O0.mine.refs o + 1) o) ⊎ (own_names O0.row (at (serving c (Some 1)) (put O0.mine.refs o (O0.mine.refs o + 1)) true).desk o ≡ false)
      spare = elim (either (O0.desk.directory == o)) [
        | inl y ↦ inl (let p = put_same O0.mine.refs o (O0.mine.refs o + 1) in let a = rests.refs o in let b = one_yes (O0.desk.directory == o) y in omega (arith, p, a, b))
        | inr y ↦ inr (names_plain O0.row (at (serving c (Some 1)) (put O0.mine.refs o (O0.mine.refs o + 1)) true).desk o rests.hold rests.opening ∙ rw (sym home, y, rests.left) refl)
      ]

  directory : (n : ℕ) (u : World) → 2001 ≤ n → own_of h u ≡ at (serving c (Some 0)) O0.mine.refs false → Safe (machine version) h B Q (lent_directory c) n told u
  directory n u few own = s-lend-directory version own (omega (arith, few)) (server (serving c (Some 0)) O0.mine.refs false (serving_child c (Some 0)) few0) refl (λ l o u1 q own1. ends o l u1 (omega (arith, few, q)) own1)

  -- so many descriptors are left at most
  lends_all : (left from n : ℕ) (L : ℕ → Option ℕ) (u : World) → 2002 + left ≤ n → descriptor_count ≤ left + from → from ≤ descriptor_count → L descriptor_count ≡ Some c → OnTheWay from (at L O0.mine.refs false) → (next_used from O0.desk.fds ≡ None → from ≡ 0) → own_of h u ≡ at L O0.mine.refs false
      → Safe (machine version) h B Q (lend_from c left from) n [] u
  lends_all zero from n L u few enough le child way first owns = absurd (let a = first (next_past from O0.desk.fds (omega (arith, enough))) in omega (arith, a, enough))
  lends_all (suc left) from n L u few enough le child way first owns =
      s-lend version owns (omega (arith, few)) (server L O0.mine.refs false child few0) way le first begun
      (λ l o u1 q own1. ends o l u1 (omega (arith, few, q)) own1)
      (λ l i u1 q own1. directory l u1 (omega (arith, few, q)) own1)
      (λ l i j u1 x q more own1. lends_all left (i + 1) l (put L i (Some x.slot)) u1 (omega (arith, few, q)) (let a = x.above in omega (arith, a, enough)) (let a = x.below in omega (arith, a)) (put_other L i (Some x.slot) descriptor_count (λ e. absurd (let a = x.below in omega (arith, a, e))) ∙ child) (then_ i x) (λ e. absurd (cc (more, e))) own1)
    where
      then_ : (i : ℕ) (x : NextUsed from i O0.desk.fds) → OnTheWay (i + 1) (at (put L i (Some x.slot)) O0.mine.refs false)
      then_ i x = record {
        given = put_other L i (Some x.slot) (descriptor_count + 1) (λ e. absurd (let a = x.below in omega (arith, a, e))) ∙ way.given;
        before = λ j lj. elim (same_or j i) [
          | inl e ↦ ap (put L i (Some x.slot)) e ∙ put_same L i (Some x.slot) ∙ sym x.is ∙ ap O0.desk.fds (sym e)
          | inr ne ↦ put_other L i (Some x.slot) j ne ∙ elim (lower j from) [
            | inl a ↦ way.before j a
            | inr a ↦ way.after j a (let y = x.below in omega (arith, y, lj)) ∙ sym (x.before j a (omega (arith, lj, ne)))
          ]
        ];
        after = λ j a lj. put_other L i (Some x.slot) j (λ e. absurd (omega (arith, a, e))) ∙ way.after j (let y = x.above in omega (arith, a, y)) lj;
      }

  pub inherit_ok : (u : World) → own_of h u ≡ begun_own c O0 → Safe (machine version) h B Q (inherit_program c) (limit version (calls.Inherit c)) [] u
  inherit_ok u own = lends_all descriptor_count 0 rest_cost (serving c None) u (omega arith) (omega arith) (omega arith) (serving_child c None)
      (record { given = serving_given c None; before = λ j l. absurd (omega (arith, l)); after = λ j a l. serving_none c None j l }) (λ e. refl) (own ∙ as_at (serving c None))
