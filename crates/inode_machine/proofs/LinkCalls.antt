-- Link is right, whatever the other harts do.
use Rattle.image_versions.specs.declared.version.Version.{Version}
use Rattle.inode_machine.proofs.Vocabulary.{◌≡◌, ◌≢◌, ◌⊎◌, inl, inr, ℕ, ◌+◌, ◌*◌, ◌<◌, ◌≤◌, Bool, true, false, ◌==◌, ◌||◌, nat_lt, List, [], ◌∷◌, length, Option, Some, None, refl, sym, ◌∙◌, ap, subst, arith, if◌then◌else◌, own, onto, Fine, Safe, Wp, Begun, Ends, IsBeginning, IsDirectory, TooManyLinks, Reply, Call, Node, NodeKind, Directory, File, Device, Hold, Action, Inherit, StepAnswer, Done, Failed, Act, next_of, reply_of, had_room, first_cause, count_limit, hart_count, root, Name, Tree, put, elements, hold_names, is_absolute, is_directory, is_live, live_directory, look, settle, start_of, IsInPlace, node_at, node_or, raised, Row, key_names, row_of, settle_again, settled_row, IsThere, raised_at, either, eq_is, same_or, put_same, put_other, look_live, not_raised, live_some, well_hold, look_same, Deed, Walk, Stage, Step, MayEnd, Begin, Look, Desk, Mark, Note, World, stage_of, Take, UpStart, OfDirectory, AtNothing, face_of, face_or, is_directory_type, seen_in, type_of, type_of_kind, counted_up, is_at, with_walk, Made, acts, begun, made_by, marked, new_id, places, Held, Own, key_in, own_names, own_of, Idle, Inv, machine, ThisP as P, WalkStop, NoMemory, failed, give_up, makes, own_step, start, stopped, tail, walk, walk_step, bump_refused, bumps_if, is_refused, link_at, link_program, link_raise, limit, covered_calls, look_cost}
use Rattle.plain_tree.specs.declared.call.Call.TheVariants as calls
use Rattle.plain_tree.specs.declared.step.Action.TheVariants as steps
use Rattle.inode_machine.proofs.Basics.{AllNames, Fair, fair, fair_same, fair_then, has_inode, quiet, has_node, locked_held, my_refs, noted_type, type_there, moves_good, own_walk, stage_walk, walk_did, fails, less_is, s-join, KeepsHold, MoveFine, mends, note_of, s-take-then, one_at, listed_among, listed_beside, type_of_directory, At, Gone, Lost, On, Ready, Stays, names_stay, stays_same, s-arrive, s-walk, Finding, finding, found_world, last_made, last_takes, refused_made, start_made, start_takes, MayRest, Walked, follows_begin, follows_look, follows_lost, follows_quit, gone_at, home, joined_own, looks, may_rest, may_stay, missed, ready_at, s-lost, s-refuse, tells, walked_begun, walked_tells, HasJoined, begun_walking, written_by, Rehold, bumps, held_tree, held_world, high, low, reholds}
use Rattle.inode_machine.proofs.Beginnings.{Begun as StartsAt, root_type, s-begin, s-start}
use Rattle.inode_machine.proofs.Chdirs.{kind_directory}
use Rattle.inode_machine.proofs.Endings.{Follows}
use Rattle.inode_machine.proofs.Finds.{find_finder, find_made, find_missing, find_place, find_refused, find_refused_step, find_step, mends_held}
use Rattle.inode_machine.proofs.Raises.{Plain, bump_stopped, done_step, s-store-move}
use Rattle.inode_machine.proofs.LinkNames.{bumped, enter_follows, follows, found, more_base, names_but, names_fewer}
use Rattle.inode_machine.proofs.ChdirCalls.{type_directory}

-- What the call hears.

link_follows : (old new : List ℕ) → Follows (calls.Link old new) (steps.Find old)
unfolding next_of reply_of had_room first_cause
link_follows old new = record { first = refl; missing = record { through = refl; reply = refl; room = refl } }

abbrev not_found : List ℕ → Act
not_found old = record { step = steps.Find old; answer = Failed IsDirectory }

abbrev not_bumped : Act
not_bumped = record { step = steps.Bump; answer = Failed TooManyLinks }

link_not : (old new : List ℕ) → MayEnd (calls.Link old new) (not_found old ∷ []) (failed (calls.Link old new) IsDirectory)
unfolding next_of reply_of had_room first_cause
link_not old new = record { through = refl; reply = refl; room = refl }

link_stopped : (old new : List ℕ) → MayEnd (calls.Link old new) (found old ∷ not_bumped ∷ []) (failed (calls.Link old new) TooManyLinks)
unfolding next_of reply_of had_room first_cause
link_stopped old new = record { through = refl; reply = refl; room = refl }

bumps_next : (old new : List ℕ) → next_of (calls.Link old new) (found old ∷ []) ≡ Some steps.Bump
unfolding next_of
bumps_next old new = refl

pub link_begins : (version : Version) (old new : List ℕ) → IsBeginning (covered_calls version) (calls.Link old new) []
link_begins version old new = tt

plain_bump : Version → Plain steps.Bump
plain_bump version = record { follows = refl; path = refl; makes = λ t q. refl; inherits = λ g q. absurd cc }

-- Types.

type_is : (k : NodeKind) → is_directory_type (type_of_kind k) ≡ is_directory k
type_is (Directory slots) = refl
type_is (File bytes) = refl
type_is (Device major minor size) = refl

-- what the call has once it has its hold, which isn't raised
abbrev low_own : ℕ → Own → Own
low_own j O = record O { row = record (O.row) { hold = Some (low j) } }

module _ (version : Version) (h : ℕ) (old new : List ℕ) (w : World) (free : (w.desks h).lender ≡ None) (lt : h < hart_count) (holds : Inv w) (idle : Idle h w) (spelled : AllNames version (elements version old)) (fresh : AllNames version (elements version new)) where
  abbrev c : Call
  c = calls.Link old new

  abbrev s : Action
  s = steps.Find old

  abbrev B : List Step → Type 0
  B = Begun (covered_calls version) c

  abbrev Q : Reply → List Step → World → Type 0
  Q = Ends (covered_calls version) h c

  abbrev O0 : Own
  O0 = joined_own (own_of h w)

  abbrev base : ℕ → ℕ
  base = home (own_of h w)

  -- what is left for the new name
  abbrev K : ℕ
  K = 2600 * (length (elements version new) + 1) + 20000

  ready : Ready base O0
  ready = ready_at h w free lt holds idle

  may : MayRest O0 base
  may = may_rest h w idle

  joins : HasJoined base O0
  joins = record { ready = ready; may = may }

  -- it holds nothing again
  stays_bare : (R Lifted : Own) (o : Option Hold) → Stays R (record O0 { row = record (O0.row) { hold = o } }) → Lifted.row ≡ record (R.row) { hold = None } → Lifted.ninodes ≡ R.ninodes → Lifted.desk ≡ R.desk → Stays Lifted O0
  stays_bare R Lifted o st row size desk = record {
    row = row ∙ (λ z. record (st.row z) { hold = None }) ∙ (λ z. record (O0.row) { hold = sym idle.hold z });
    ninodes = size ∙ st.ninodes;
    fds = ap (λ (z : Desk). z.fds) desk ∙ st.fds;
    hand = ap (λ (z : Desk). z.hand) desk ∙ st.hand;
    joined = ap (λ (z : Desk). z.joined) desk ∙ st.joined;
    directory = ap (λ (z : Desk). z.directory) desk ∙ st.directory;
    lent = ap (λ (z : Desk). z.lent) desk ∙ st.lent;
    lender = ap (λ (z : Desk). z.lender) desk ∙ st.lender;
    opening = ap (λ (z : Desk). z.opening) desk ∙ st.opening;
    left = ap (λ (z : Desk). z.left) desk ∙ st.left;
  }

  -- What is done when the inode is seen: of a directory (b), or of one that may have a link more (m).
  abbrev mark : Bool → Bool → Option Mark
  mark b m = if b then None else (if is_refused (if m then None else Some TooManyLinks) then own_step steps.Bump else None)

  abbrev goes_on : ℕ → List ℕ → Node → Bool → Bool → P Reply
  goes_on j ns X b m = if b then give_up j (tail ns (failed c IsDirectory)) else link_raise version old new j ns (face_or (face_of version (Some X))) (if m then None else Some TooManyLinks)

  abbrev Seen : ℕ → List ℕ → ℕ → List Step → World → Node → Bool → Bool → Type 0
  Seen j ns n es u X b m = Fine (machine version) h (places version h (Take j AtNothing) (seen_in version j AtNothing (Some X)) (mark b m) u) 3 n B es u (marked version h (mark b m) u) (λ l. Wp (machine version) h B Q (goes_on j ns X b m) l (onto (own h (places version h (Take j AtNothing) (seen_in version j AtNothing (Some X)) (mark b m) u)) es) (marked version h (mark b m) u))

  -- What was found is a file or a device: its count is raised.
  s-file : (j : ℕ) (ns : List ℕ) (t : Option Note) (n : ℕ) (es : List Step) (u : World) (R : Own) → 971 * length ns + K ≤ n → At h j base ns None t (low_own j O0) R u → ((m : Note) → t ≡ Some m → m.number ≡ j) → Walked c (found old ∷ []) es → Safe (machine version) h B Q (link_at version old new j ns) n es u
  s-file j ns t n es u R few at number told = s-take-then version at.owns free_r lt (omega (arith, few)) at.out refers (λ v inv ov e. let a : IsThere v.all.nodes j false = inv.well.holds h (low j) lt (ap (λ (o : Own). o.row.hold) ov ∙ holds_r) in let b = a.is in cc (b, e)) tt (λ u1 x inv own1. by u1 x inv own1)
    where
      free_r : R.desk.lender ≡ None
      free_r = at.stays.lender ∙ free

      refers : 0 < R.mine.refs j
      refers = let r = at.refs j in let o = one_at j in omega (arith, r, o)

      holds_r : R.row.hold ≡ Some (low j)
      holds_r = ap (λ (r : Row). r.hold) at.stays.row

      O1 : Option Node → Own
      O1 x = record R { inodes = put R.inodes j (Some (locked_held x)) }

      isj : (x : Option Node) → (O1 x).inodes j ≡ Some (locked_held x)
      isj x = put_same R.inodes j (Some (locked_held x))

      -- it has all its links
      stopped_at : (u1 : World) (X : Node) → Inv u1 → own_of h u1 ≡ O1 (Some X) → nat_lt X.count count_limit ≡ false → Seen j ns n es u1 X false false
      stopped_at u1 X inv own1 most =
          bump_stopped version h j 3 n B Q es u1 (O1 (Some X)) X (give_up j (tail ns (failed c TooManyLinks))) own1 free_r at.stays.joined lt inv at.walk at.pending holds_r (has_node h j u1 (O1 (Some X)) (locked_held (Some X)) own1 (isj (Some X))) most
          (walked_begun version c (found old ∷ not_bumped ∷ []) (fails steps.Bump TooManyLinks ∷ es) [] (failed c TooManyLinks) written (link_stopped old new)) (omega (arith, few))
          (λ l u2 q held2. s-refuse version h c (failed c TooManyLinks) j (Some X) base ns l (fails steps.Bump TooManyLinks ∷ es) u2 M held2 free_r lt (omega (arith, few, q)) at.stays.joined
          (listed_among R M base ns at.listed (λ i. refl) (λ i p. refl) (λ i p y. names_fewer R.row R.desk i y)) at.out at.refs refl refl (λ y. ready.spare j (sym (names_stay M O0 bare j) ∙ y)) (may_stay M O0 base bare may)
          (inr (written_by c (found old ∷ not_bumped ∷ []) (fails steps.Bump TooManyLinks ∷ es) (failed c TooManyLinks) written (link_stopped old new))))
        where
          M : Own
          M = record R { row = record (R.row) { hold = None }; mine = record { refs = R.mine.refs; walk = None; pending = None } }

          bare : Stays M O0
          bare = stays_bare R M (Some (low j)) at.stays refl refl refl

          written : Walked c (found old ∷ not_bumped ∷ []) (fails steps.Bump TooManyLinks ∷ es)
          written rest r p = told (fails steps.Bump TooManyLinks ∷ rest) r (bumps_next old new, p)

      -- its count is stored
      raised_at_store : (u1 : World) (X : Node) (l : ℕ) → Inv u1 → own_of h u1 ≡ O1 (Some X) → nat_lt X.count count_limit ≡ true → l + 4 ≡ n → Safe (machine version) h B Q (link_raise version old new j ns (face_or (face_of version (Some X))) None) l es u1
      raised_at_store u1 X l inv own1 fewer q =
          s-store-move version j (X.count + 1) steps.Bump (Some (high j)) X own1 free_r lt (omega (arith, few, q)) at.stays.joined at.walk at.pending (isj (Some X)) refl refl refl refl (inl (let a = less_is X.count count_limit fewer in omega (arith, a))) (plain_bump version)
          (λ v inv2 ov. bumps version h j X v lt inv2 (ap (λ (o : Own). o.row.hold) ov ∙ holds_r) (has_node h j v (O1 (Some X)) (locked_held (Some X)) ov (isj (Some X))) fewer)
          (λ i y. let e : j ≡ i = eq_is j i y in subst (λ (z : ℕ). 0 < R.mine.refs z) e refers) (inr begins)
          (λ l2 u2 q2 held2. follows version h old new lt joins j ns l2 (done_step steps.Bump ∷ es) u2 Lifted range.0 (let z = range.1 in let a = ap (λ (o : Own). o.ninodes) own1 in let b = at.stays.ninodes in omega (arith, z, a, b)) fresh (omega (arith, few, q, q2)) held2
          (put_same (O1 (Some X)).inodes j (Some (locked_held (Some (raised X))))) refl refl refl refl refl
          (record { row = ap (λ (r : Row). record r { hold = Some (high j) }) at.stays.row; ninodes = at.stays.ninodes; fds = at.stays.fds; hand = at.stays.hand; joined = at.stays.joined; directory = at.stays.directory; lent = at.stays.lent; lender = at.stays.lender; opening = at.stays.opening; left = at.stays.left })
          (λ m y. let e = number m (sym at.noted ∙ y) in subst (λ (z : ℕ). 0 < R.mine.refs z) (sym e) refers) (λ i. let r = at.refs i in omega (arith, r))
          (listed_beside Apart base (more_base base j) ns (listed_among R Apart base ns at.listed back (λ i p. refl) (λ i p y. named i ∙ y))) written)
        where
          range : (1 ≤ j) × (j < u1.all.ninodes)
          range = inv.well.range j X (has_node h j u1 (O1 (Some X)) (locked_held (Some X)) own1 (isj (Some X)))

          Lifted : Own
          Lifted = record R { inodes = put (O1 (Some X)).inodes j (Some (locked_held (Some (raised X)))); row = record (R.row) { hold = Some (high j) }; mine = record { refs = R.mine.refs; walk = None; pending = None } }

          Apart : Own
          Apart = record Lifted { inodes = put Lifted.inodes j None }

          back : (i : ℕ) → Apart.inodes i ≡ R.inodes i
          back i = elim (same_or i j) [
            | inl e ↦ ap Apart.inodes e ∙ put_same Lifted.inodes j None ∙ sym at.out ∙ ap R.inodes (sym e)
            | inr ne ↦ put_other Lifted.inodes j None i ne ∙ put_other (O1 (Some X)).inodes j (Some (locked_held (Some (raised X)))) i ne ∙ put_other R.inodes j (Some (locked_held (Some X))) i ne
          ]

          named : (i : ℕ) → own_names Apart.row Apart.desk i ≡ own_names R.row R.desk i
          named i = λ z. (R.row.cwd == i) || (hold_names (sym holds_r z) i || (key_names (key_in R.row.keys R.desk.opening) i || is_at R.desk.left i))

          written : Walked c (found old ∷ bumped ∷ []) (done_step steps.Bump ∷ es)
          written rest r p = told (done_step steps.Bump ∷ rest) r (bumps_next old new, p)

          begins : Begun (covered_calls version) c (done_step steps.Bump ∷ es)
          begins = begun_walking version c (found old ∷ bumped ∷ []) (steps.Enter new) (done_step steps.Bump ∷ es) (enter_follows old new) written

      by_count : (u1 : World) (X : Node) → Inv u1 → own_of h u1 ≡ O1 (Some X) → (m : Bool) → nat_lt X.count count_limit ≡ m → Seen j ns n es u1 X false m
      by_count u1 X inv own1 false q = stopped_at u1 X inv own1 q
      by_count u1 X inv own1 true q = quiet version (fair_same inv) refl (omega (arith, few)) (λ l q2. (raised_at_store u1 X l inv own1 q q2).wp)

      by : (u1 : World) (x : Option Node) → Inv u1 → own_of h u1 ≡ O1 x
          → Fine (machine version) h (places version h (Take j AtNothing) (seen_in version j AtNothing x) (bumps_if (face_or (face_of version x))) u1) 3 n B es u1 (marked version h (bumps_if (face_or (face_of version x))) u1)
          (λ l. Wp (machine version) h B Q (if is_directory_type (face_or (face_of version x)).inode_type then give_up j (tail ns (failed c IsDirectory)) else link_raise version old new j ns (face_or (face_of version x)) (bump_refused (face_or (face_of version x)))) l (onto (own h (places version h (Take j AtNothing) (seen_in version j AtNothing x) (bumps_if (face_or (face_of version x))) u1)) es) (marked version h (bumps_if (face_or (face_of version x))) u1))
      by u1 None inv own1 = absurd (
          let a : IsThere u1.all.nodes j false = inv.well.holds h (low j) lt (ap (λ (o : Own). o.row.hold) own1 ∙ holds_r) in
          let b = a.is in
          let d = has_node h j u1 (O1 None) (locked_held None) own1 (isj None) in
          cc (b, d))
      by u1 (Some X) inv own1 =
          subst (λ (b : Bool). Seen j ns n es u1 X b (nat_lt X.count count_limit)) (sym (type_is X.kind ∙ plain)) (by_count u1 X inv own1 (nat_lt X.count count_limit) refl)
        where
          there : IsThere u1.all.nodes j false
          there = inv.well.holds h (low j) lt (ap (λ (o : Own). o.row.hold) own1 ∙ holds_r)

          plain : is_directory X.kind ≡ false
          plain = ap (λ (o : Option Node). is_directory (node_or o).kind) (sym (has_node h j u1 (O1 (Some X)) (locked_held (Some X)) own1 (isj (Some X))) ∙ there.is) ∙ there.inode_type

  -- What was found is a directory, and is given up.
  s-directory : (j : ℕ) (ns : List ℕ) (t : Option Note) (n : ℕ) (es : List Step) (u : World) (R : Own) → 971 * length ns + 2000 ≤ n → At h j base ns None t O0 R u → ((v : World) → Inv v → own_of h v ≡ R → v.all.nodes j ≢ None) → ((v : World) (x : Option Node) → Inv v → own_of h v ≡ record R { inodes = put R.inodes j (Some (locked_held x)) } → type_of (v.all.nodes j) ≡ Some OfDirectory) → Walked c (not_found old ∷ []) es
      → Safe (machine version) h B Q (link_at version old new j ns) n es u
  s-directory j ns t n es u R few at there typed told = s-take-then version at.owns free_r lt (omega (arith, few)) at.out refers there tt (λ u1 x inv own1. by u1 x inv own1 (inode_type_at u1 x inv own1))
    where
      free_r : R.desk.lender ≡ None
      free_r = at.stays.lender ∙ free

      refers : 0 < R.mine.refs j
      refers = let r = at.refs j in let o = one_at j in omega (arith, r, o)

      O1 : Option Node → Own
      O1 x = record R { inodes = put R.inodes j (Some (locked_held x)) }

      inode_type_at : (u1 : World) (x : Option Node) → Inv u1 → own_of h u1 ≡ O1 x → type_of x ≡ Some OfDirectory
      inode_type_at u1 x inv own1 = ap (λ (o : Option Node). type_of o) (sym (has_node h j u1 (O1 x) (locked_held x) own1 (put_same R.inodes j (Some (locked_held x))))) ∙ typed u1 x inv own1

      ends : (u1 : World) (x : Option Node) (l : ℕ) → own_of h u1 ≡ O1 x → l + 4 ≡ n → Safe (machine version) h B Q (give_up j (tail ns (failed c IsDirectory))) l es u1
      ends u1 x l own1 q = s-refuse version h c (failed c IsDirectory) j x base ns l es u1 R own1 free_r lt (omega (arith, few, q)) at.stays.joined at.listed at.out at.refs at.walk at.pending (λ y. ready.spare j (sym (names_stay R O0 at.stays j) ∙ y)) (may_stay R O0 base at.stays may)
          (inr (written_by c (not_found old ∷ []) es (failed c IsDirectory) told (link_not old new)))

      by : (u1 : World) (x : Option Node) → Inv u1 → own_of h u1 ≡ O1 x → type_of x ≡ Some OfDirectory
          → Fine (machine version) h (places version h (Take j AtNothing) (seen_in version j AtNothing x) (bumps_if (face_or (face_of version x))) u1) 3 n B es u1 (marked version h (bumps_if (face_or (face_of version x))) u1)
          (λ l. Wp (machine version) h B Q (if is_directory_type (face_or (face_of version x)).inode_type then give_up j (tail ns (failed c IsDirectory)) else link_raise version old new j ns (face_or (face_of version x)) (bump_refused (face_or (face_of version x)))) l (onto (own h (places version h (Take j AtNothing) (seen_in version j AtNothing x) (bumps_if (face_or (face_of version x))) u1)) es) (marked version h (bumps_if (face_or (face_of version x))) u1))
      by u1 None inv own1 q = absurd cc
      by u1 (Some X) inv own1 q =
          subst (λ (b : Bool). Seen j ns n es u1 X b (nat_lt X.count count_limit)) (sym (type_is X.kind ∙ kind_directory (Some X) q)) (quiet version (fair_same inv) refl (omega (arith, few)) (λ l q2. (ends u1 (Some X) l own1 q2).wp))

  -- The last element is found.

  abbrev deed_of : StepAnswer → Deed
  deed_of a = record { act = record { step = s; answer = a }; new = 0 }

  abbrev lost : WalkStop → List ℕ → P Reply
  lost why ns = tail ns (stopped c why)

  loses : (why : WalkStop) (ms : List ℕ) (l : ℕ) (es : List Step) (u : World) (R : Own) → 971 * length ms + K ≤ l → Gone h base ms O0 R u → Lost (Walked c (missed s ∷ [])) why es R → Safe (machine version) h B Q (lost why ms) l es u
  loses why ms l es u R few gone told = s-lost version h c s K base O0 lt ready may (link_follows old new) (omega arith) why ms l es u R few gone told

  place : (t : Tree) → row_of t h ≡ O0.row → IsInPlace t h s
  place t e = find_place t h old lt (ap (λ (r : Row). r.hold) e ∙ idle.hold)

  other : (g : ℕ) → s ≡ Inherit g → ⊥
  other g e = absurd cc

  act : (d : ℕ) (e : Name) (ns : List ℕ) (n : ℕ) (es : List Step) (w0 : World) (O : Own) → 2600 + 971 * length ns + K ≤ n → On version h s d e [] base ns O0 O w0 → Walked c [] es
      → (u : World) (x : Option Node) (j : ℕ) → Inv u → own_of h u ≡ record O { inodes = put O.inodes d (Some (locked_held x)) } → live_directory x ≡ true → look (λ i. x) d e ≡ Some j → MoveFine version h look_cost n B Q es u (Look 0) (walk_step d ns (link_at version old new) lost (Some j))
  act d e ns n es w0 O few on told u x j inv own1 live finds = at (is_directory (node_at u.all j).kind) refl
    where
      free_o : O.desk.lender ≡ None
      free_o = on.stays.lender ∙ free

      y : Walk
      y = record { step = s; at = d; next = e; rest = [] }

      O1 : Own
      O1 = record O { inodes = put O.inodes d (Some (locked_held x)) }

      isd : O1.inodes d ≡ Some (locked_held x)
      isd = put_same O.inodes d (Some (locked_held x))

      reached : look u.all.nodes d e ≡ Some j
      reached = look_same (λ i. x) u.all.nodes d e (has_node h d u O1 (locked_held x) own1 isd) ∙ finds

      live_j : is_live (u.all.nodes j) ≡ true
      live_j = look_live u.all d j e inv.well reached

      there : u.all.nodes j ≡ Some (node_or (u.all.nodes j))
      there = live_some (u.all.nodes j) live_j

      lives : (z : Held) → O.inodes j ≡ Some z → is_live z.node ≡ true
      lives z q = ap (λ (o : Option Node). is_live o) (sym (has_node h j u O1 z own1 (put_other O.inodes d (Some (locked_held x)) j (λ k. absurd (let m : O.inodes j ≡ None = ap O.inodes k ∙ on.out in cc (m, q))) ∙ q))) ∙ live_j

      none : O.row.hold ≡ None
      none = ap (λ (r : Row). r.hold) on.stays.row ∙ idle.hold

      unheld : u.all.holds h ≡ None
      unheld = ap (λ (o : Own). o.row.hold) own1 ∙ none

      f : Finding h j u O1
      f = finding h d j e u O1 own1 free_o lt inv on.pending (has_inode h d u O1 (locked_held x) own1 isd).0 reached

      O2 : Own
      O2 = record O1 { mine = record { refs = O.mine.refs; walk = None; pending = Some j }; desk = record (O.desk) { noted = Some (note_of u.all j) } }

      made : (m : Made) → acts version u.all h s (Some j) (Some (d, e)) 0 (new_id u) ≡ m → made_by version u.all h (new_id u) (u.harts h).walk (Look 0) ≡ m
      made m q = last_made version u.all h (u.harts h).walk y 0 (new_id u) j (ap (λ (o : Own). o.mine.walk) own1 ∙ on.walk) refl reached ∙ q

      walks_are : (u1 : World) (harts : u1.harts ≡ with_walk u.harts h None (Some j)) → (stage_of u1).walk ≡ put (λ g. (u.harts g).walk) h None
      walks_are u1 harts = (λ z. λ g. (harts z g).walk) ∙ ap (λ (m : Stage). m.walk) (stage_walk h None (Some j) u)

      names0 : (i : ℕ) → own_names O.row O.desk i ≡ true → 0 < O.mine.refs i
      names0 i q = let b = ready.spare i (sym (names_stay O O0 on.stays i) ∙ q) in let r = on.refs i in omega (arith, b, r)

      refused_at : is_directory (node_at u.all j).kind ≡ true → MoveFine version h look_cost n B Q es u (Look 0) (walk_step d ns (link_at version old new) lost (Some j))
      refused_at isa =
          moves_good version h look_cost n B Q es u u (Look 0) tt (walk_step d ns (link_at version old new) lost (Some j)) (made_by version u.all h (new_id u) (u.harts h).walk (Look 0)) (record { all = u.all; walk = None; found = Some j; opened = None; entered = None; left = None; told = Some (deed_of (Failed IsDirectory)) })
          (made _ (refused_made version u.all h s (Some j) (Some (d, e)) 0 (new_id u) IsDirectory (find_refused version u.all h j old (Some (d, e)) isa)))
          f.fair
          (last_takes version h d u (found_world h j u) O1 (locked_held x) y j (Failed IsDirectory) (new_id u) u.all (find_finder old) own1 inv on.walk refl isd live refl reached (find_refused_step version u.all h j (new_id u) old (Some (d, e)) lt unheld isa) refl (walks_are (found_world h j u) refl))
          (walked_begun version c (not_found old ∷ []) (tells (Look 0) (deed_of (Failed IsDirectory)) ∷ es) [] (failed c IsDirectory) written (link_not old new)) (omega (arith, few))
          (λ l q. (s-arrive version h s B Q (Walked c []) (Walked c (missed s ∷ [])) base O0 K lt ready lost loses (follows_look version c s (link_follows old new)) (follows_lost version c s (link_follows old new)) (follows_quit version c s (link_follows old new)) (λ t. find_missing version t h old None) (λ t. refl) place other refl
          0 d j x None ns l (tells (Look 0) (deed_of (Failed IsDirectory)) ∷ es) (found_world h j u) O O2 O0 M (link_at version old new) f.owned (omega (arith, q, few)) on.stays on.listed on.out on.refs
          (record { inodes = refl; refs = refl; walk = refl; lands = λ z p. absurd cc; pending = refl; lives = lives; names = λ i p. inr p })
          (noted_stays O2 refl refl refl) free
          (λ v inv2 ov. let m = mends h v O2 ov free_o lt inv2 (on.stays.opening ∙ ready.opening) (on.stays.left ∙ ready.left) (subst (λ (r : Row). KeepsHold r.hold) (sym on.stays.row) ready.hold) names0 in record { fair = m.fair; bad = m.bad; owned = m.owned })
          (record { stays = mended_stays; inodes = refl; refs = refl; walk = refl; pending = refl; full = refl })
          (λ ms l2 u2 R few2 at2. s-directory j ms (Some (note_of u.all j)) l2 (tells (Look 0) (deed_of (Failed IsDirectory)) ∷ es) u2 R (omega (arith, few2)) at2
          (λ v inv2 ov. type_there (v.all.nodes j) OfDirectory (noted_type h j R (note_of u.all j) at2.noted refl at2.out (let r = at2.refs j in let o = one_at j in omega (arith, r, o)) lt v inv2 ov ∙ type_directory (u.all.nodes j) isa))
          (λ v x2 inv2 ov. typed v x2 R u2 ms at2 inv2 ov) written)).wp)
        where
          written : Walked c (not_found old ∷ []) (tells (Look 0) (deed_of (Failed IsDirectory)) ∷ es)
          written = walked_tells c [] (Look 0) (deed_of (Failed IsDirectory)) es tt told

          noted_stays : (R : Own) → R.row ≡ O.row → R.desk ≡ record (O.desk) { noted = Some (note_of u.all j) } → R.ninodes ≡ O.ninodes → Stays R O0
          noted_stays R row desk size = stays_same R (record O { desk = record (O.desk) { noted = Some (note_of u.all j) } }) O0 row size desk (record { row = on.stays.row; ninodes = on.stays.ninodes; fds = on.stays.fds; hand = on.stays.hand; joined = on.stays.joined; directory = on.stays.directory; lent = on.stays.lent; lender = on.stays.lender; opening = on.stays.opening; left = on.stays.left })

          M : Own
          M = record O2 { desk = record (O2.desk) { opening = None; left = None; full = true }; mine = record { refs = O.mine.refs; walk = None; pending = None } }

          mended_stays : Stays M O0
          mended_stays = record { row = on.stays.row; ninodes = on.stays.ninodes; fds = on.stays.fds; hand = on.stays.hand; joined = on.stays.joined; directory = on.stays.directory; lent = on.stays.lent; lender = on.stays.lender; opening = sym ready.opening; left = sym ready.left }

          typed : (v : World) (x2 : Option Node) (R : Own) (u2 : World) (ms : List ℕ) → At h j base ms None (Some (note_of u.all j)) O0 R u2 → Inv v → own_of h v ≡ record R { inodes = put R.inodes j (Some (locked_held x2)) } → type_of (v.all.nodes j) ≡ Some OfDirectory
          typed v x2 R u2 ms at2 inv2 ov =
              inv2.noted h (note_of u.all j) lt (ap (λ (o : Own). o.desk.noted) ov ∙ at2.noted) (inl (let a = my_refs h v (record R { inodes = put R.inodes j (Some (locked_held x2)) }) j ov in let r = at2.refs j in let o = one_at j in omega (arith, a, r, o)))
              (ap (λ (z : Held). z.alone) (has_inode h j v (record R { inodes = put R.inodes j (Some (locked_held x2)) }) (locked_held x2) ov (put_same R.inodes j (Some (locked_held x2)))).1)
              ∙ type_directory (u.all.nodes j) isa

      goes_at : is_directory (node_at u.all j).kind ≡ false → MoveFine version h look_cost n B Q es u (Look 0) (walk_step d ns (link_at version old new) lost (Some j))
      goes_at isnt =
          moves_good version h look_cost n B Q es u u (Look 0) tt (walk_step d ns (link_at version old new) lost (Some j)) (made_by version u.all h (new_id u) (u.harts h).walk (Look 0)) (record { all = held_tree u.all u.all.nodes h (Some (low j)); walk = None; found = Some j; opened = None; entered = None; left = None; told = Some (deed_of Done) })
          (made _ (find_made version u.all h j (new_id u) old (Some (d, e)) isnt))
          (fair_then f.fair r.fair)
          (last_takes version h d u u3 O1 (locked_held x) y j Done (new_id u) (settle (held_tree u.all u.all.nodes h (Some (low j)))) (find_finder old) own1 inv on.walk refl isd live refl reached (find_step version u.all h j (new_id u) old (Some (d, e)) lt unheld isnt) (sym (settle_again (held_tree u.all u.all.nodes h (Some (low j))))) (walks_are u3 refl))
          (walked_begun version c (found old ∷ []) (tells (Look 0) (deed_of Done) ∷ es) (fails steps.Bump TooManyLinks ∷ []) (failed c TooManyLinks) written (bumps_next old new, link_stopped old new)) (omega (arith, few))
          (λ l q. (s-arrive version h s B Q (Walked c []) (Walked c (missed s ∷ [])) base O0 K lt ready lost loses (follows_look version c s (link_follows old new)) (follows_lost version c s (link_follows old new)) (follows_quit version c s (link_follows old new)) (λ t. find_missing version t h old None) (λ t. refl) place other refl
          0 d j x None ns l (tells (Look 0) (deed_of Done) ∷ es) u3 O O3 (low_own j O0) M (link_at version old new) r.owned (omega (arith, q, few)) on.stays on.listed on.out on.refs
          (record { inodes = refl; refs = refl; walk = refl; lands = λ z p. absurd cc; pending = refl; lives = lives; names = names })
          (record { row = ap (λ (z : Row). record z { hold = Some (low j) }) on.stays.row; ninodes = on.stays.ninodes; fds = on.stays.fds; hand = on.stays.hand; joined = on.stays.joined; directory = on.stays.directory; lent = on.stays.lent; lender = on.stays.lender; opening = on.stays.opening; left = on.stays.left }) free
          (λ v inv2 ov. mends_held h j v O3 ov free_o on.stays.joined lt inv2 (on.stays.opening ∙ ready.opening) (on.stays.left ∙ ready.left) refl (λ i p. names0 i (sym (names_but O.row O.desk None i none refl) ∙ p)))
          (record { stays = record { row = ap (λ (z : Row). record z { hold = None }) on.stays.row ∙ (λ z. record (O0.row) { hold = sym idle.hold z }); ninodes = on.stays.ninodes; fds = on.stays.fds; hand = on.stays.hand; joined = on.stays.joined; directory = on.stays.directory; lent = on.stays.lent; lender = on.stays.lender; opening = sym ready.opening; left = sym ready.left }; inodes = refl; refs = refl; walk = refl; pending = refl; full = refl })
          (λ ms l2 u2 R few2 at2. s-file j ms (Some (note_of u.all j)) l2 (tells (Look 0) (deed_of Done) ∷ es) u2 R (omega (arith, few2)) at2 (λ m p. let a : note_of u.all j ≡ m = some_is p in ap (λ (z : Note). z.number) (sym a)) written)).wp)
        where
          some_is : {m k : Note} → ◌≡◌ {A = Option Note} (Some m) (Some k) → m ≡ k
          some_is q = cc

          written : Walked c (found old ∷ []) (tells (Look 0) (deed_of Done) ∷ es)
          written = walked_tells c [] (Look 0) (deed_of Done) es tt told

          r : Rehold h (Some (low j)) (found_world h j u) O2
          r = reholds h (Some (low j)) (found_world h j u) O2 f.owned free_o on.stays.joined lt f.fair.inv
              (λ i q. inr (ap (λ (o : Own). o.mine.pending) f.owned ∙ ap (λ (z : ℕ). Some z) (eq_is j i q)))
              (well_hold u.all h (Some (low j)) inv.well lt (λ i. not_raised (low j) i refl) (λ i. ap (λ (z : Option Hold). raised_at z i) unheld)
              (λ q p. let a : low j ≡ q = hold_is p in subst (λ (z : Hold). IsThere u.all.nodes z.number false) a (record { node = node_or (u.all.nodes j); is = there; inode_type = isnt })))
            where
              hold_is : {m k : Hold} → ◌≡◌ {A = Option Hold} (Some m) (Some k) → m ≡ k
              hold_is q = cc

          u3 : World
          u3 = held_world u.all.nodes h (Some (low j)) (found_world h j u)

          O3 : Own
          O3 = record O2 { row = record (O.row) { hold = Some (low j) } }

          M : Own
          M = record O3 { row = record (O.row) { hold = None }; desk = record (O3.desk) { opening = None; left = None; full = true }; mine = record { refs = O.mine.refs; walk = None; pending = None } }

          names : (i : ℕ) → own_names O3.row O3.desk i ≡ true → (i ≡ j) ⊎ (own_names O.row O.desk i ≡ true)
          names i q = elim (either (j == i)) [ inl p ↦ inl (sym (eq_is j i p)) | inr p ↦ inr (sym (names_but O.row O.desk (Some (low j)) i none p) ∙ q) ]

      at : (b : Bool) → is_directory (node_at u.all j).kind ≡ b → MoveFine version h look_cost n B Q es u (Look 0) (walk_step d ns (link_at version old new) lost (Some j))
      at true q = refused_at q
      at false q = goes_at q

  -- A path without elements leads to its start, which is a directory.
  starts : (i n : ℕ) (v : World) (O : Own) (w1 : World) → 3000 ≤ n → elements version old ≡ [] → Gone h base [] O0 O w1 → Inv v → own_of h v ≡ O → StartsAt h i s base [] O v
      → Fine (machine version) h (places version h (UpStart (is_absolute old)) (Some i) (makes (Begin s 0)) v) 0 n B [] v (marked version h (makes (Begin s 0)) (counted_up h i v)) (λ l. Wp (machine version) h B Q (link_at version old new i []) l (onto (own h (places version h (UpStart (is_absolute old)) (Some i) (makes (Begin s 0)) v)) []) (marked version h (makes (Begin s 0)) (counted_up h i v)))
  starts i n v O w1 few none gone inv ov at =
      moves_good version h 0 n B Q [] v u1 (Begin s 0) tt (link_at version old new i []) (begun version v.all h s (elements version old) 0 (new_id v)) (record { all = v.all; walk = None; found = None; opened = None; entered = None; left = None; told = Some (deed_of (Failed IsDirectory)) })
      (start_made version v.all h s 0 (new_id v) none ∙ ap (λ (m : Made). record m { found = None }) (refused_made version v.all h s (Some p0) None 0 (new_id v) IsDirectory (find_refused version v.all h p0 old None isa)))
      (fair_then at.up.fair stills)
      (start_takes version h v u2 s (Failed IsDirectory) (new_id v) v.all (find_finder old) lt inv (ap (λ (o : Own). o.mine.walk) ov ∙ gone.walk) none (find_place (settle v.all) h old lt (ap (λ (r : Row). r.hold) (settled_row v.all h) ∙ unheld)) (find_refused_step version v.all h p0 (new_id v) old None lt unheld isa) refl
      (ap (λ (m : Stage). m.walk) (stage_walk h None None u1) ∙ ap (λ (m : Stage). put m.walk h None) at.up.stage))
      (walked_begun version c (not_found old ∷ []) (tells (Begin s 0) (deed_of (Failed IsDirectory)) ∷ []) [] (failed c IsDirectory) written (link_not old new)) (omega (arith, few))
      (λ l q. (s-directory i [] O.desk.noted l (tells (Begin s 0) (deed_of (Failed IsDirectory)) ∷ []) u2 O2 (omega (arith, q, few)) (record {
        owns = own2;
        stays = stays_same O2 O O0 refl refl refl gone.stays;
        noted = refl;
        walk = refl;
        pending = refl;
        refs = at.refs;
        listed = listed_among O O2 base [] gone.listed (λ j. refl) (λ j t. put_other O.mine.refs i (O.mine.refs i + 1) j (at.apart j t)) (λ j t p. p);
        out = at.out;
      }) (λ v2 inv2 ov2. type_there (v2.all.nodes i) OfDirectory (typed v2 inv2 (ap (λ (o : Own). o.row.cwd) ov2))) (λ v2 x inv2 ov2. typed v2 inv2 (ap (λ (o : Own). o.row.cwd) ov2)) written).wp)
    where
      p0 : ℕ
      p0 = start_of v.all h old

      u1 : World
      u1 = counted_up h i v

      u2 : World
      u2 = record u1 { harts = with_walk u1.harts h None None }

      O2 : Own
      O2 = record O { mine = record { refs = put O.mine.refs i (O.mine.refs i + 1); walk = None; pending = None } }

      unheld : v.all.holds h ≡ None
      unheld = ap (λ (o : Own). o.row.hold) ov ∙ ap (λ (r : Row). r.hold) gone.stays.row ∙ idle.hold

      isa : is_directory (node_at v.all p0).kind ≡ true
      isa = kind_directory (v.all.nodes p0) (ap (λ (z : ℕ). type_of (v.all.nodes z)) (sym at.start) ∙ at.inode_type)

      written : Walked c (not_found old ∷ []) (tells (Begin s 0) (deed_of (Failed IsDirectory)) ∷ [])
      written rest r p = ((link_follows old new).first, p)

      stills : Fair h u1 u2
      stills = fair at.up.fair.inv (walk_did h None None u1 (ap (λ (o : Own). o.desk.lender) at.up.owned ∙ gone.stays.lender ∙ free) lt at.up.fair.inv (ap (λ (o : Own). o.mine.pending) at.up.owned) (λ m q x. absurd cc) (λ z q. absurd cc) (λ z q. absurd cc))

      own2 : own_of h u2 ≡ O2
      own2 = own_walk h None None u1 (record O { mine = record { refs = put O.mine.refs i (O.mine.refs i + 1); walk = O.mine.walk; pending = None } }) at.up.owned

      -- the start is a directory still
      typed : (v2 : World) → Inv v2 → v2.all.cwd h ≡ O.row.cwd → type_of (v2.all.nodes i) ≡ Some OfDirectory
      typed v2 inv2 same = by_start (is_absolute old) at.start
        where
          by_start : (b : Bool) → i ≡ (if b then root else v.all.cwd h) → type_of (v2.all.nodes i) ≡ Some OfDirectory
          by_start true q = ap (λ (z : ℕ). type_of (v2.all.nodes z)) q ∙ root_type v2.all inv2.well
          by_start false q =
              let r : i ≡ v2.all.cwd h = q ∙ ap (λ (o : Own). o.row.cwd) ov ∙ sym same in
              ap (λ (z : ℕ). type_of (v2.all.nodes z)) r ∙ type_of_directory v2.all h inv2.well lt

  notes : (m : Note) → O0.desk.noted ≡ Some m → 0 < O0.mine.refs m.number
  notes m q = absurd (let a = idle.noted in cc (a, q))

  walks : (es : List Name) → elements version old ≡ es → (n : ℕ) → 2600 * length es + 1 + K ≤ n → (u : World) → own_of h u ≡ O0 → Safe (machine version) h B Q (start s old [] (λ d. walk s d es [] (link_at version old new) lost) lost) n [] u
  walks [] none n few u own = s-begin version h s B Q base O0 [] n [] u O0 (λ d. link_at version old new d []) lost lt ready (gone_at h w u idle own) (omega (arith, few)) notes (λ i v inv ov at. starts i n v O0 u (omega (arith, few)) none (gone_at h w u idle own) inv ov at)
      (λ l u2 R q g full. loses NoMemory [] l [] u2 R (omega (arith, q, few)) g full)
  walks (e ∷ r) path_is n few u own = s-start version h s B Q base O0 e r [] n [] u O0 (λ d. walk s d (e ∷ r) [] (link_at version old new) lost) lost lt ready (gone_at h w u idle own) (omega (arith, few)) refl path_is spelled place notes (follows_begin version c s (link_follows old new)).1
      (λ d l u2 R q on. s-walk version h s B Q (Walked c []) (Walked c (missed s ∷ [])) base O0 K lt ready lost loses (follows_look version c s (link_follows old new)) (follows_lost version c s (link_follows old new)) (follows_quit version c s (link_follows old new)) (λ t. find_missing version t h old None) (λ t. refl) place other refl
      r d e [] l (looks (Begin s 0) ∷ []) u2 R (link_at version old new) (omega (arith, q, few)) on (follows_begin version c s (link_follows old new)).0 (λ t q. find_missing version t h old (Some q)) act)
      (λ l u2 R q g full. loses NoMemory [] l [] u2 R (omega (arith, q, few)) g full)

  pub link_ok : Safe (machine version) h B Q (link_program version old new) (limit version c) [] w
  link_ok = s-join version refl free lt (omega arith) (λ i x q. absurd (let a = ap (λ (f : ℕ → Option Held). f i) idle.inodes in cc (a, q))) idle.joined (λ l u q own. walks (elements version old) refl l (enough l (length (elements version old)) (length (elements version new)) q) u own)
    where
      enough : (l k m : ℕ) → l + 1 ≡ 2600 * (k + 1) + 2600 * (m + 1) + 24000 → 2600 * k + 1 + (2600 * (m + 1) + 20000) ≤ l
      enough l k m q = omega (arith, q)
