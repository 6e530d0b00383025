-- Chdir is right, whatever the other harts do.
use Rattle.image_versions.specs.declared.version.Version.{Version}
use Rattle.inode_machine.proofs.Vocabulary.{◌≡◌, ◌≢◌, ◌⊎◌, inl, inr, ℕ, ◌+◌, ◌-◌, ◌*◌, ◌<◌, ◌≤◌, Bool, true, false, ◌==◌, ◌||◌, List, [], ◌∷◌, length, Option, Some, None, refl, sym, ◌∙◌, ap, subst, arith, if◌then◌else◌, Do, unmarked, own, onto, Fine, Safe, Wp, Begun, Ends, IsBeginning, NoEntry, NotDirectory, Reply, Call, Node, NodeKind, Directory, File, Device, Action, Chdir, Inherit, StepAnswer, Done, Failed, next_of, reply_of, had_room, hart_count, descriptor_count, Name, Tree, put, elements, is_absolute, is_directory, is_live, live_directory, look, settle, start_of, node_at, node_or, place_of, refusal_with, refusal_by, IsInPlace, Row, row_of, settle_again, one_if, either, eq_is, eq_not, eq_self, same_or, put_same, put_other, look_live, look_same, Deed, Walk, Move, Stage, Step, IsNext, MayEnd, begins, Begin, Look, Desk, Note, World, stage_of, UpStart, SetDirectory, OfDirectory, face_of, is_directory_face, is_directory_type, type_of, type_of_kind, counted_up, is_at, with_walk, Made, acts, begun, made_by, marked, new_id, places, Held, Own, own_names, own_of, Idle, Inv, machine, ThisP as P, WalkStop, NoMemory, done, drop, failed, give_up, makes, start, stopped, tail, walk, walk_step, chdir_at, chdir_program, limit, covered_calls, look_cost}
use Rattle.plain_tree.specs.declared.call.Call.TheVariants as calls
use Rattle.inode_machine.proofs.Basics.{AllNames, Fair, fair, fair_then, has_inode, has_node, live_typed, locked_held, my_refs, noted_type, s-take, type_there, below_is, moves_good, own_walk, stage_walk, walk_did, s-join, s-drop, KeepsHold, MoveFine, mends, note_of, times, one_at, one_else, listed_among, listed_beside, type_of_directory, At, Gone, Lost, On, Ready, Stays, names_stay, stays_same, s-arrive, s-walk, Finder, Finding, finding, found_world, last_made, last_takes, refused_made, start_made, start_takes, MayRest, Walked, back_at, face_type, follows_begin, follows_look, follows_lost, follows_quit, gone_at, home, home_is, joined_own, looks, may_rest, may_stay, missed, names_plain, ready_at, times_none, s-ends, s-lost, tells, walked_begun, walked_tells}
use Rattle.inode_machine.proofs.Beginnings.{Begun as StartsAt, s-begin, s-start}
use Rattle.inode_machine.proofs.Chdirs.{Leaving, kind_directory, chdir_made, chdir_refused_step, chdir_step, leaving, left_world, mends_left, s-settle}
use Rattle.inode_machine.proofs.Endings.{Follows, s-give-up}

-- What the call hears.

chdir_follows : (path : List ℕ) → Follows (calls.Chdir path) (Chdir path)
unfolding next_of reply_of had_room
chdir_follows path = record { first = refl; missing = record { through = refl; reply = refl; room = refl } }

chdir_done : (path : List ℕ) → MayEnd (calls.Chdir path) (record { step = Chdir path; answer = Done } ∷ []) (done (calls.Chdir path))
unfolding next_of reply_of had_room
chdir_done path = record { through = refl; reply = refl; room = refl }

chdir_not : (path : List ℕ) → MayEnd (calls.Chdir path) (record { step = Chdir path; answer = Failed NotDirectory } ∷ []) (failed (calls.Chdir path) NotDirectory)
unfolding next_of reply_of had_room
chdir_not path = record { through = refl; reply = refl; room = refl }

pub chdir_begins : (version : Version) (path : List ℕ) → IsBeginning (covered_calls version) (calls.Chdir path) []
chdir_begins version path = tt

-- What the step asks of its tree.

chdir_finder : (path : List ℕ) → Finder (Chdir path)
chdir_finder path = record { follows = refl; makes = λ t q. refl; inherits = λ g q. absurd cc }

chdir_place : (t : Tree) (h : ℕ) (path : List ℕ) → h < hart_count → IsInPlace t h (Chdir path)
unfolding place_of
chdir_place t h path lt = rw (below_is h hart_count lt) refl

chdir_missing : (version : Version) (t : Tree) (h : ℕ) (path : List ℕ) (par : Option (ℕ × Name)) → refusal_with version t h (Chdir path) None par ≡ Some NoEntry
unfolding refusal_by
chdir_missing version t h path par = refl

-- Types.

pub type_directory : (o : Option Node) → is_directory (node_or o).kind ≡ true → type_of o ≡ Some OfDirectory
type_directory None e = absurd cc
type_directory (Some v) e = at v.kind e
  where
    at : (k : NodeKind) → is_directory k ≡ true → Some (type_of_kind k) ≡ Some OfDirectory
    at (Directory slots) q = refl
    at (File bytes) q = absurd cc
    at (Device major minor size) q = absurd cc

-- what is there and is no directory shows no face of one
type_not : (version : Version) (o v : Option Node) → is_live o ≡ true → is_directory (node_or o).kind ≡ false → type_of v ≡ type_of o → is_directory_face (face_of version v) ≡ false
type_not version None v live e q = absurd cc
type_not version (Some x) v live e q = face_type version v (type_of_kind x.kind) q ∙ at x.kind e
  where
    at : (k : NodeKind) → is_directory k ≡ false → is_directory_type (type_of_kind k) ≡ false
    at (Directory slots) p = absurd cc
    at (File bytes) p = refl
    at (Device major minor size) p = refl

-- what it names then it named, or has found
names_left : (r : Row) (d : Desk) (j i : ℕ) → r.hold ≡ None → d.opening ≡ None → d.left ≡ None → own_names (record r { cwd = j }) (record d { left = Some r.cwd }) i ≡ true → (i ≡ j) ⊎ (own_names r d i ≡ true)
names_left r d j i hold opening left q = elim (either (j == i)) [
  | inl y ↦ inl (sym (eq_is j i y))
  | inr y ↦ inr (names_plain r d i hold opening ∙ (λ z. (r.cwd == i) || is_at (left z) i) ∙ old (j == i) (r.cwd == i) y (sym (names_plain (record r { cwd = j }) (record d { left = Some r.cwd }) i hold opening) ∙ q))
]
  where
    old : (a b : Bool) → a ≡ false → (a || b) ≡ true → (b || false) ≡ true
    old true b e p = absurd cc
    old false true e p = refl
    old false false e p = absurd cc

abbrev went : ℕ → Own → Own
went j O = record O { row = record (O.row) { cwd = j }; desk = record (O.desk) { left = Some (O.row.cwd) } }

module _ (version : Version) (h : ℕ) (path : List ℕ) (w : World) (free : (w.desks h).lender ≡ None) (lt : h < hart_count) (holds : Inv w) (idle : Idle h w) (spelled : AllNames version (elements version path)) where
  abbrev c : Call
  c = calls.Chdir path

  abbrev s : Action
  s = Chdir path

  abbrev B : List Step → Type 0
  B = Begun (covered_calls version) c

  abbrev Q : Reply → List Step → World → Type 0
  Q = Ends (covered_calls version) h c

  abbrev O0 : Own
  O0 = joined_own (own_of h w)

  abbrev base : ℕ → ℕ
  base = home (own_of h w)

  ready : Ready base O0
  ready = ready_at h w free lt holds idle

  may : MayRest O0 base
  may = may_rest h w idle

  -- The new directory is the hart's, and the old one is dropped.
  s-moved : (j : ℕ) (ns : List ℕ) (t : Option Note) (n : ℕ) (es : List Step) (u : World) (R : Own) → 2000 + 971 * length ns ≤ n → At h j base ns None t (went j O0) R u → Walked c (record { step = s; answer = Done } ∷ []) es
      → Safe (machine version) h B Q (chdir_at path j ns) n es u
  s-moved j ns t n es u R few at told =
      s-take version (λ o. type_of o ≡ Some OfDirectory) (λ o q. type_there o OfDirectory q) tt at.owns (at.stays.lender ∙ free) lt (omega (arith, few)) at.out (let r = at.refs j in let o = one_at j in omega (arith, r, o))
      (λ v inv ov. let q : v.all.cwd h ≡ j = ap (λ (o : Own). o.row.cwd) ov ∙ ap (λ (r : Row). r.cwd) at.stays.row in ap (λ (z : ℕ). type_of (v.all.nodes z)) (sym q) ∙ type_of_directory v.all h inv.well lt)
      (λ l1 x u1 q1 inode_type own1.
      subst (λ (b : Bool). Safe (machine version) h B Q (if b then Do (SetDirectory j) unmarked (λ old. drop old (tail ns (done c))) else give_up j (tail ns (failed c NotDirectory))) l1 es u1) (sym (face_type version x OfDirectory inode_type))
      (s-settle version own1 (at.stays.lender ∙ free) lt (omega (arith, q1, few)) (put_same R.inodes j (Some (locked_held x))) refl refl refl at.pending (ap (λ (r : Row). r.cwd) at.stays.row) spare (ap (λ (f : ℕ → Option ℕ). f descriptor_count) (at.stays.lent ∙ idle.lent)) (λ l2 u2 q2 own2.
      subst (λ (z : ℕ). Safe (machine version) h B Q (drop z (tail ns (done c))) l2 es u2) (sym (at.stays.directory))
      (s-drop version d own2 (at.stays.lender ∙ free) lt (omega (arith, q1, q2, few)) (at.stays.joined) (back_at R.inodes j (Some (locked_held x)) at.out d ∙ out_d (R.inodes d) refl) here at.pending at.walk twice (λ l3 u3 q3 own3.
      s-ends version h c (done c) (λ i. one_if (j == i)) ns l3 es u3 _ own3 (at.stays.lender ∙ free) lt (omega (arith, q1, q2, q3, few)) at.stays.joined
      (listed_beside (after x) base (λ i. one_if (j == i)) ns (listed_among R (after x) base ns at.listed (λ i. back_at R.inodes j (Some (locked_held x)) at.out i) (λ i p. put_other R.mine.refs d (R.mine.refs d - 1) i (not_d i p)) (λ i p q. fewer x i q)))
      (λ i. refs i) at.walk at.pending (record { hold = ap (λ (r : Row). r.hold) at.stays.row ∙ idle.hold; hand = at.stays.hand ∙ idle.hand; lent = at.stays.lent ∙ idle.lent; opening = at.stays.opening ∙ idle.opening; left = refl; counts = λ i. refl })
      (inr (told [] (done c) (chdir_done path))))))))
    where
      d : ℕ
      d = (w.desks h).directory

      -- the new directory's reference is one more
      spare : one_if (R.desk.directory == j) < R.mine.refs j
      spare = let r = at.refs j in let o = one_at j in let b : one_if (R.desk.directory == j) ≡ one_if (d == j) = (λ z. one_if (at.stays.directory z == j)) in omega (arith, r, o, b)

      after : Option Node → Own
      after x = record R {
        inodes = put (put R.inodes j (Some (locked_held x))) j None;
        desk = record (R.desk) { directory = j; left = None };
        mine = record { refs = put R.mine.refs d (R.mine.refs d - 1); walk = R.mine.walk; pending = R.mine.pending };
      }

      hold : R.row.hold ≡ None
      hold = ap (λ (r : Row). r.hold) at.stays.row ∙ idle.hold

      opening : R.desk.opening ≡ None
      opening = at.stays.opening ∙ idle.opening

      -- the old directory is the one that it leaves
      named : own_names R.row R.desk d ≡ true
      named = names_plain R.row R.desk d hold opening ∙ (λ z. (R.row.cwd == d) || is_at (at.stays.left z) d) ∙ (λ z. (R.row.cwd == d) || (sym (home_is h w free lt holds idle) z == d)) ∙ any_true (R.row.cwd == d) (d == d) (eq_self d)
        where
          any_true : (a b : Bool) → b ≡ true → (a || b) ≡ true
          any_true true b e = refl
          any_true false b e = e

      out_d : (o : Option Held) → R.inodes d ≡ o → R.inodes d ≡ None
      out_d None q = q
      out_d (Some x) q = absurd (let a = (at.listed.all d (at.listed.only d x q)).unnamed in let b = named in cc (a, b))

      here : 0 < R.mine.refs d
      here = let r = at.refs d in let o = one_at d in omega (arith, r, o)

      -- where it is the new one too, there are two
      twice : (1 < R.mine.refs d) ⊎ (own_names R.row (record (R.desk) { directory = j; left = None }) d ≡ false)
      twice = elim (same_or j d) [
        | inl q ↦ inl (let r = at.refs d in let o = one_at d in let p : one_if (j == d) ≡ 1 = ap (λ (z : ℕ). one_if (z == d)) q ∙ one_at d in omega (arith, r, o, p))
        | inr ne ↦ inr (names_plain R.row (record (R.desk) { directory = j; left = None }) d hold opening ∙ (λ z. ((ap (λ (r : Row). r.cwd) at.stays.row) z == d) || false) ∙ (λ z. eq_not j d ne z || false))
      ]

      not_d : (i : ℕ) → 0 < times i ns → i ≢ d
      not_d i p q = absurd (let a = (at.listed.all i p).unnamed in let b = named in let e : own_names R.row R.desk i ≡ own_names R.row R.desk d = ap (own_names R.row R.desk) q in cc (a, b, e))

      fewer : (x : Option Node) (i : ℕ) → own_names R.row R.desk i ≡ false → own_names (after x).row (after x).desk i ≡ false
      fewer x i q = names_plain R.row (record (R.desk) { directory = j; left = None }) i hold opening ∙ less (R.row.cwd == i) (is_at R.desk.left i) (sym (names_plain R.row R.desk i hold opening) ∙ q)
        where
          less : (a b : Bool) → (a || b) ≡ false → (a || false) ≡ false
          less true b e = absurd cc
          less false b e = refl

      refs : (i : ℕ) → put R.mine.refs d (R.mine.refs d - 1) i ≡ one_if (j == i) + times i ns
      refs i = let r = at.refs i in elim (same_or i d) [
        | inl q ↦ (let a : put R.mine.refs d (R.mine.refs d - 1) i ≡ R.mine.refs d - 1 = ap (put R.mine.refs d (R.mine.refs d - 1)) q ∙ put_same R.mine.refs d (R.mine.refs d - 1) in let g : R.mine.refs d ≡ R.mine.refs i = ap R.mine.refs (sym q) in let o : one_if (d == i) ≡ 1 = ap (λ (z : ℕ). one_if (d == z)) q ∙ one_at d in omega (arith, r, a, g, o))
        | inr ne ↦ (let a = put_other R.mine.refs d (R.mine.refs d - 1) i ne in let o = one_else d i ne in omega (arith, r, a, o))
      ]

  -- What was found is no directory, and is given up.
  s-not-moved : (j : ℕ) (ns : List ℕ) (x : Option Node) (n : ℕ) (es : List Step) (u : World) (R : Own) → 2000 + 971 * length ns ≤ n → At h j base ns None (Some (record { number = j; inode_type = type_of x })) O0 R u → is_live x ≡ true → is_directory (node_or x).kind ≡ false → Walked c (record { step = s; answer = Failed NotDirectory } ∷ []) es
      → Safe (machine version) h B Q (chdir_at path j ns) n es u
  s-not-moved j ns x n es u R few at live isnt told =
      s-take version (λ o. type_of o ≡ type_of x) (λ o q e. live_typed x live (sym q ∙ ap (λ (z : Option Node). type_of z) e)) tt at.owns (at.stays.lender ∙ free) lt (omega (arith, few)) at.out refers
      (λ v inv ov. noted_type h j R (record { number = j; inode_type = type_of x }) at.noted refl at.out refers lt v inv ov)
      (λ l1 y u1 q1 inode_type own1.
      subst (λ (b : Bool). Safe (machine version) h B Q (if b then Do (SetDirectory j) unmarked (λ old. drop old (tail ns (done c))) else give_up j (tail ns (failed c NotDirectory))) l1 es u1) (sym (type_not version x y live isnt inode_type))
      (s-give-up version j y base ns own1 (at.stays.lender ∙ free) lt (omega (arith, q1, few)) (at.stays.joined) at.listed at.out at.refs at.walk at.pending (λ q. ready.spare j (sym (names_stay R O0 at.stays j) ∙ q)) (λ l2 M u2 q2 own2 g.
      s-ends version h c (failed c NotDirectory) base ns l2 es u2 M own2 (ap (λ (z : Desk). z.lender) g.desk ∙ at.stays.lender ∙ free) lt (omega (arith, q1, q2, few)) (ap (λ (z : Desk). z.joined) g.desk ∙ at.stays.joined) g.listed g.refs g.walk g.pending
      (may_stay M O0 base (stays_same M R O0 g.row g.ninodes g.desk at.stays) may) (inr (told [] (failed c NotDirectory) (chdir_not path))))))
    where
      refers : 0 < R.mine.refs j
      refers = let r = at.refs j in let o = one_at j in omega (arith, r, o)

  -- The last element is found.

  abbrev deed_of : StepAnswer → Deed
  deed_of a = record { act = record { step = s; answer = a }; new = 0 }

  begun_done : (v : Move) (es : List Step) → IsNext c [] (begins v) → Walked c [] es → Walked c (record { step = s; answer = Done } ∷ []) (tells v (deed_of Done) ∷ es) × B (tells v (deed_of Done) ∷ es)
  begun_done v es next told = let a = walked_tells c [] v (deed_of Done) es next told in (a, walked_begun version c (record { step = s; answer = Done } ∷ []) (tells v (deed_of Done) ∷ es) [] (done c) a (chdir_done path))

  begun_not : (es : List Step) → Walked c [] es → Walked c (record { step = s; answer = Failed NotDirectory } ∷ []) (tells (Look 0) (deed_of (Failed NotDirectory)) ∷ es) × B (tells (Look 0) (deed_of (Failed NotDirectory)) ∷ es)
  begun_not es told = let a = walked_tells c [] (Look 0) (deed_of (Failed NotDirectory)) es tt told in (a, walked_begun version c (record { step = s; answer = Failed NotDirectory } ∷ []) (tells (Look 0) (deed_of (Failed NotDirectory)) ∷ es) [] (failed c NotDirectory) a (chdir_not path))

  abbrev lost : WalkStop → List ℕ → P Reply
  lost why ns = tail ns (stopped c why)

  loses : (why : WalkStop) (ms : List ℕ) (l : ℕ) (es : List Step) (u : World) (R : Own) → 971 * length ms + 2000 ≤ l → Gone h base ms O0 R u → Lost (Walked c (missed s ∷ [])) why es R → Safe (machine version) h B Q (lost why ms) l es u
  loses why ms l es u R few gone told = s-lost version h c s 2000 base O0 lt ready may (chdir_follows path) (omega arith) why ms l es u R few gone told

  place : (t : Tree) → row_of t h ≡ O0.row → IsInPlace t h s
  place t e = chdir_place t h path lt

  other : (g : ℕ) → s ≡ Inherit g → ⊥
  other g e = absurd cc

  act : (d : ℕ) (e : Name) (ns : List ℕ) (n : ℕ) (es : List Step) (w0 : World) (O : Own) → 2600 + 971 * length ns + 2000 ≤ n → On version h s d e [] base ns O0 O w0 → Walked c [] es
      → (u : World) (x : Option Node) (j : ℕ) → Inv u → own_of h u ≡ record O { inodes = put O.inodes d (Some (locked_held x)) } → live_directory x ≡ true → look (λ i. x) d e ≡ Some j → MoveFine version h look_cost n B Q es u (Look 0) (walk_step d ns (chdir_at path) lost (Some j))
  act d e ns n es w0 O few on told u x j inv own1 live finds = at (is_directory (node_at u.all j).kind) refl
    where
      free_o : O.desk.lender ≡ None
      free_o = on.stays.lender ∙ free

      y : Walk
      y = record { step = s; at = d; next = e; rest = [] }

      O1 : Own
      O1 = record O { inodes = put O.inodes d (Some (locked_held x)) }

      isd : O1.inodes d ≡ Some (locked_held x)
      isd = put_same O.inodes d (Some (locked_held x))

      found : look u.all.nodes d e ≡ Some j
      found = look_same (λ i. x) u.all.nodes d e (has_node h d u O1 (locked_held x) own1 isd) ∙ finds

      live_j : is_live (u.all.nodes j) ≡ true
      live_j = look_live u.all d j e inv.well found

      lives : (z : Held) → O.inodes j ≡ Some z → is_live z.node ≡ true
      lives z q = ap (λ (o : Option Node). is_live o) (sym (has_node h j u O1 z own1 (put_other O.inodes d (Some (locked_held x)) j (λ k. absurd (let m : O.inodes j ≡ None = ap O.inodes k ∙ on.out in cc (m, q))) ∙ q))) ∙ live_j

      f : Finding h j u O1
      f = finding h d j e u O1 own1 free_o lt inv on.pending (has_inode h d u O1 (locked_held x) own1 isd).0 found

      O2 : Own
      O2 = record O1 { mine = record { refs = O.mine.refs; walk = None; pending = Some j }; desk = record (O.desk) { noted = Some (note_of u.all j) } }

      made : (m : Made) → acts version u.all h s (Some j) (Some (d, e)) 0 (new_id u) ≡ m → made_by version u.all h (new_id u) (u.harts h).walk (Look 0) ≡ m
      made m q = last_made version u.all h (u.harts h).walk y 0 (new_id u) j (ap (λ (o : Own). o.mine.walk) own1 ∙ on.walk) refl found ∙ q

      steps : (u1 : World) (harts : u1.harts ≡ with_walk u.harts h None (Some j)) → (stage_of u1).walk ≡ put (λ g. (u.harts g).walk) h None
      steps u1 harts = (λ z. λ g. (harts z g).walk) ∙ ap (λ (m : Stage). m.walk) (stage_walk h None (Some j) u)

      names0 : (i : ℕ) → own_names O.row O.desk i ≡ true → 0 < O.mine.refs i
      names0 i q = let b = ready.spare i (sym (names_stay O O0 on.stays i) ∙ q) in let r = on.refs i in omega (arith, b, r)

      noted_stays : (R : Own) → R.row ≡ O.row → R.desk ≡ record (O.desk) { noted = Some (note_of u.all j) } → R.ninodes ≡ O.ninodes → Stays R O0
      noted_stays R row desk size = stays_same R (record O { desk = record (O.desk) { noted = Some (note_of u.all j) } }) O0 row size desk (record { row = on.stays.row; ninodes = on.stays.ninodes; fds = on.stays.fds; hand = on.stays.hand; joined = on.stays.joined; directory = on.stays.directory; lent = on.stays.lent; lender = on.stays.lender; opening = on.stays.opening; left = on.stays.left })

      refused_at : is_directory (node_at u.all j).kind ≡ false → MoveFine version h look_cost n B Q es u (Look 0) (walk_step d ns (chdir_at path) lost (Some j))
      refused_at isnt =
          let step = chdir_refused_step version u.all h j (new_id u) path (Some (d, e)) lt isnt in
          let b = begun_not es told in
          moves_good version h look_cost n B Q es u u (Look 0) tt (walk_step d ns (chdir_at path) lost (Some j)) (made_by version u.all h (new_id u) (u.harts h).walk (Look 0)) (record { all = u.all; walk = None; found = Some j; opened = None; entered = None; left = None; told = Some (deed_of (Failed NotDirectory)) })
          (made _ (refused_made version u.all h s (Some j) (Some (d, e)) 0 (new_id u) NotDirectory step.0))
          f.fair
          (last_takes version h d u (found_world h j u) O1 (locked_held x) y j (Failed NotDirectory) (new_id u) u.all (chdir_finder path) own1 inv on.walk refl isd live refl found step.1 refl (steps (found_world h j u) refl))
          b.1 (omega (arith, few))
          (λ l q. (s-arrive version h s B Q (Walked c []) (Walked c (missed s ∷ [])) base O0 2000 lt ready lost loses (follows_look version c s (chdir_follows path)) (follows_lost version c s (chdir_follows path)) (follows_quit version c s (chdir_follows path)) (λ t. chdir_missing version t h path None) (λ t. refl) place other refl
          0 d j x None ns l (tells (Look 0) (deed_of (Failed NotDirectory)) ∷ es) (found_world h j u) O O2 O0 M (chdir_at path) f.owned (omega (arith, q, few)) on.stays on.listed on.out on.refs
          (record { inodes = refl; refs = refl; walk = refl; lands = λ z p. absurd cc; pending = refl; lives = lives; names = λ i p. inr p })
          (noted_stays O2 refl refl refl) free
          (λ v inv2 ov. let m = mends h v O2 ov free_o lt inv2 (on.stays.opening ∙ ready.opening) (on.stays.left ∙ ready.left) (subst (λ (r : Row). KeepsHold r.hold) (sym on.stays.row) ready.hold) names0 in record { fair = m.fair; bad = m.bad; owned = m.owned })
          (record { stays = mended_stays; inodes = refl; refs = refl; walk = refl; pending = refl; full = refl })
          (λ ms l2 u2 R few2 at2. s-not-moved j ms (u.all.nodes j) l2 (tells (Look 0) (deed_of (Failed NotDirectory)) ∷ es) u2 R (omega (arith, few2)) at2 live_j isnt b.0)).wp)
        where
          M : Own
          M = record O2 { desk = record (O2.desk) { opening = None; left = None; full = true }; mine = record { refs = O.mine.refs; walk = None; pending = None } }

          mended_stays : Stays M O0
          mended_stays = record { row = on.stays.row; ninodes = on.stays.ninodes; fds = on.stays.fds; hand = on.stays.hand; joined = on.stays.joined; directory = on.stays.directory; lent = on.stays.lent; lender = on.stays.lender; opening = sym ready.opening; left = sym ready.left }

      goes_at : is_directory (node_at u.all j).kind ≡ true → MoveFine version h look_cost n B Q es u (Look 0) (walk_step d ns (chdir_at path) lost (Some j))
      goes_at isa =
          let b = begun_done (Look 0) es tt told in
          moves_good version h look_cost n B Q es u u (Look 0) tt (walk_step d ns (chdir_at path) lost (Some j)) (made_by version u.all h (new_id u) (u.harts h).walk (Look 0)) (record { all = record (u.all) { cwd = put u.all.cwd h j }; walk = None; found = Some j; opened = None; entered = None; left = Some (u.all.cwd h); told = Some (deed_of Done) })
          (made _ (chdir_made version u.all h j 0 (new_id u) path (Some (d, e)) isa))
          (fair_then f.fair g.fair)
          (last_takes version h d u (left_world h j (found_world h j u)) O1 (locked_held x) y j Done (new_id u) (settle (record (u.all) { cwd = put u.all.cwd h j })) (chdir_finder path) own1 inv on.walk refl isd live refl found (chdir_step version u.all h j (new_id u) path (Some (d, e)) lt isa) (sym (settle_again (record (u.all) { cwd = put u.all.cwd h j }))) (steps (left_world h j (found_world h j u)) refl))
          b.1 (omega (arith, few))
          (λ l q. (s-arrive version h s B Q (Walked c []) (Walked c (missed s ∷ [])) base O0 2000 lt ready lost loses (follows_look version c s (chdir_follows path)) (follows_lost version c s (chdir_follows path)) (follows_quit version c s (chdir_follows path)) (λ t. chdir_missing version t h path None) (λ t. refl) place other refl
          0 d j x None ns l (tells (Look 0) (deed_of Done) ∷ es) (left_world h j (found_world h j u)) O O3 (went j O0) M (chdir_at path) g.owned (omega (arith, q, few)) on.stays on.listed on.out on.refs
          (record { inodes = refl; refs = refl; walk = refl; lands = λ z p. absurd cc; pending = refl; lives = lives; names = names })
          (record { row = ap (λ (r : Row). record r { cwd = j }) on.stays.row; ninodes = on.stays.ninodes; fds = on.stays.fds; hand = on.stays.hand; joined = on.stays.joined; directory = on.stays.directory; lent = on.stays.lent; lender = on.stays.lender; opening = on.stays.opening; left = ap (λ (r : Row). Some r.cwd) on.stays.row }) free
          (λ v inv2 ov. mends_left version h O.row.cwd v O3 ov free_o lt inv2 (on.stays.opening ∙ ready.opening) refl (subst (λ (r : Row). KeepsHold r.hold) (sym on.stays.row) ready.hold) (λ i p. names0 i ((λ z. own_names O.row (record (O.desk) { left = (on.stays.left ∙ ready.left) z }) i) ∙ p)))
          (record { stays = record { row = on.stays.row; ninodes = on.stays.ninodes; fds = on.stays.fds; hand = on.stays.hand; joined = on.stays.joined; directory = on.stays.directory; lent = on.stays.lent; lender = on.stays.lender; opening = sym ready.opening; left = sym ready.left }; inodes = refl; refs = refl; walk = refl; pending = refl; full = refl })
          (λ ms l2 u2 R few2 at2. s-moved j ms (Some (note_of u.all j)) l2 (tells (Look 0) (deed_of Done) ∷ es) u2 R (omega (arith, few2)) at2 b.0)).wp)
        where
          inode_type : type_of (u.all.nodes j) ≡ Some OfDirectory
          inode_type = type_directory (u.all.nodes j) isa

          g : Leaving h j (found_world h j u) O2
          g = leaving version h j (found_world h j u) O2 f.owned free_o lt f.fair.inv (on.stays.left ∙ ready.left) inode_type (inr (ap (λ (o : Own). o.mine.pending) f.owned))

          O3 : Own
          O3 = record O2 { row = record (O.row) { cwd = j }; desk = record (O2.desk) { left = Some (O.row.cwd) } }

          M : Own
          M = record O3 { row = O.row; desk = record (O3.desk) { opening = None; left = None; full = true }; mine = record { refs = O.mine.refs; walk = None; pending = None } }

          names : (i : ℕ) → own_names O3.row O3.desk i ≡ true → (i ≡ j) ⊎ (own_names O.row O.desk i ≡ true)
          names i q = names_left O.row O.desk j i (ap (λ (r : Row). r.hold) on.stays.row ∙ idle.hold) (on.stays.opening ∙ ready.opening) (on.stays.left ∙ ready.left) q

      at : (b : Bool) → is_directory (node_at u.all j).kind ≡ b → MoveFine version h look_cost n B Q es u (Look 0) (walk_step d ns (chdir_at path) lost (Some j))
      at true q = goes_at q
      at false q = refused_at q

  -- A path without elements leads to its start.
  starts : (i n : ℕ) (v : World) (O : Own) (w1 : World) → 3000 ≤ n → elements version path ≡ [] → Gone h base [] O0 O w1 → Inv v → own_of h v ≡ O → StartsAt h i s base [] O v
      → Fine (machine version) h (places version h (UpStart (is_absolute path)) (Some i) (makes (Begin s 0)) v) 0 n B [] v (marked version h (makes (Begin s 0)) (counted_up h i v)) (λ l. Wp (machine version) h B Q (chdir_at path i []) l (onto (own h (places version h (UpStart (is_absolute path)) (Some i) (makes (Begin s 0)) v)) []) (marked version h (makes (Begin s 0)) (counted_up h i v)))
  starts i n v O w1 few none gone inv ov at =
      moves_good version h 0 n B Q [] v u1 (Begin s 0) tt (chdir_at path i []) (begun version v.all h s (elements version path) 0 (new_id v)) (record { all = record (v.all) { cwd = put v.all.cwd h i }; walk = None; found = None; opened = None; entered = None; left = Some (v.all.cwd h); told = Some (deed_of Done) })
      made_is
      (fair_then at.up.fair (fair_then stills g.fair))
      (start_takes version h v (left_world h i u2) s Done (new_id v) (settle (record (v.all) { cwd = put v.all.cwd h (start_of v.all h path) })) (chdir_finder path) lt inv (ap (λ (o : Own). o.mine.walk) ov ∙ gone.walk) none (chdir_place (settle v.all) h path lt) (chdir_step version v.all h (start_of v.all h path) (new_id v) path None lt isa)
      (sym (settle_again (record (v.all) { cwd = put v.all.cwd h (start_of v.all h path) })) ∙ (λ z. settle (record (v.all) { cwd = put v.all.cwd h (sym at.start z) })))
      (ap (λ (m : Stage). m.walk) (stage_walk h None None u1) ∙ ap (λ (m : Stage). put m.walk h None) at.up.stage))
      b.1 (omega (arith, few))
      (λ l q. (s-moved i [] O.desk.noted l (tells (Begin s 0) (deed_of Done) ∷ []) (left_world h i u2) (went i O2) (omega (arith, q, few)) (record {
        owns = g.owned;
        stays = record { row = ap (λ (r : Row). record r { cwd = i }) gone.stays.row; ninodes = gone.stays.ninodes; fds = gone.stays.fds; hand = gone.stays.hand; joined = gone.stays.joined; directory = gone.stays.directory; lent = gone.stays.lent; lender = gone.stays.lender; opening = gone.stays.opening; left = ap (λ (r : Row). Some r.cwd) gone.stays.row };
        noted = refl;
        walk = refl;
        pending = refl;
        refs = at.refs;
        listed = listed_among O (went i O2) base [] gone.listed (λ j. refl) (λ j t. put_other O.mine.refs i (O.mine.refs i + 1) j (at.apart j t)) (λ j t p. absurd (let z = times_none j in omega (arith, z, t)));
        out = at.out;
      }) b.0).wp)
    where
      u1 : World
      u1 = counted_up h i v

      u2 : World
      u2 = record u1 { harts = with_walk u1.harts h None None }

      O2 : Own
      O2 = record O { mine = record { refs = put O.mine.refs i (O.mine.refs i + 1); walk = None; pending = None } }

      b : Walked c (record { step = s; answer = Done } ∷ []) (tells (Begin s 0) (deed_of Done) ∷ []) × B (tells (Begin s 0) (deed_of Done) ∷ [])
      b = begun_done (Begin s 0) [] (chdir_follows path).first (λ xs r p. p)

      isa : is_directory (node_at v.all (start_of v.all h path)).kind ≡ true
      isa = kind_directory (v.all.nodes (start_of v.all h path)) (ap (λ (z : ℕ). type_of (v.all.nodes z)) (sym at.start) ∙ at.inode_type)

      made_is : begun version v.all h s (elements version path) 0 (new_id v) ≡ record { all = record (v.all) { cwd = put v.all.cwd h i }; walk = None; found = None; opened = None; entered = None; left = Some (v.all.cwd h); told = Some (deed_of Done) }
      made_is = start_made version v.all h s 0 (new_id v) none ∙ ap (λ (m : Made). record m { found = None }) (chdir_made version v.all h (start_of v.all h path) 0 (new_id v) path None isa)
          ∙ (λ z. record { all = record (v.all) { cwd = put v.all.cwd h (sym at.start z) }; walk = None; found = None; opened = None; entered = None; left = Some (v.all.cwd h); told = Some (deed_of Done) })

      stills : Fair h u1 u2
      stills = fair at.up.fair.inv (walk_did h None None u1 (ap (λ (o : Own). o.desk.lender) at.up.owned ∙ gone.stays.lender ∙ free) lt at.up.fair.inv (ap (λ (o : Own). o.mine.pending) at.up.owned) (λ m q x. absurd cc) (λ z q. absurd cc) (λ z q. absurd cc))

      own2 : own_of h u2 ≡ O2
      own2 = own_walk h None None u1 (record O { mine = record { refs = put O.mine.refs i (O.mine.refs i + 1); walk = O.mine.walk; pending = None } }) at.up.owned

      refers : 0 < (u2.harts h).refs i
      refers = let a = my_refs h u2 O2 i own2 in let p = put_same O.mine.refs i (O.mine.refs i + 1) in omega (arith, a, p)

      g : Leaving h i u2 O2
      g = leaving version h i u2 O2 own2 (gone.stays.lender ∙ free) lt stills.inv (gone.stays.left ∙ ready.left) at.inode_type (inl refers)

  notes : (m : Note) → O0.desk.noted ≡ Some m → 0 < O0.mine.refs m.number
  notes m q = absurd (let a = idle.noted in cc (a, q))

  walks : (es : List Name) → elements version path ≡ es → (n : ℕ) → 2600 * length es + 20000 ≤ n → (u : World) → own_of h u ≡ O0 → Safe (machine version) h B Q (start s path [] (λ d. walk s d es [] (chdir_at path) lost) lost) n [] u
  walks [] none n few u own = s-begin version h s B Q base O0 [] n [] u O0 (λ d. chdir_at path d []) lost lt ready (gone_at h w u idle own) (omega (arith, few)) notes (λ i v inv ov at. starts i n v O0 u (omega (arith, few)) none (gone_at h w u idle own) inv ov at)
      (λ l u2 R q g full. loses NoMemory [] l [] u2 R (omega (arith, q, few)) g full)
  walks (e ∷ r) path_is n few u own = s-start version h s B Q base O0 e r [] n [] u O0 (λ d. walk s d (e ∷ r) [] (chdir_at path) lost) lost lt ready (gone_at h w u idle own) (omega (arith, few)) refl path_is spelled place notes (follows_begin version c s (chdir_follows path)).1
      (λ d l u2 R q on. s-walk version h s B Q (Walked c []) (Walked c (missed s ∷ [])) base O0 2000 lt ready lost loses (follows_look version c s (chdir_follows path)) (follows_lost version c s (chdir_follows path)) (follows_quit version c s (chdir_follows path)) (λ t. chdir_missing version t h path None) (λ t. refl) place other refl
      r d e [] l (looks (Begin s 0) ∷ []) u2 R (chdir_at path) (omega (arith, q, few)) on (follows_begin version c s (chdir_follows path)).0 (λ t q. chdir_missing version t h path (Some q)) act)
      (λ l u2 R q g full. loses NoMemory [] l [] u2 R (omega (arith, q, few)) g full)

  pub chdir_ok : Safe (machine version) h B Q (chdir_program version path) (limit version c) [] w
  chdir_ok = s-join version refl free lt (omega arith) (λ i x q. absurd (let a = ap (λ (f : ℕ → Option Held). f i) idle.inodes in cc (a, q))) idle.joined (λ l u q own. walks (elements version path) refl l (enough l (length (elements version path)) q) u own)
    where
      enough : (l k : ℕ) → l + 1 ≡ 2600 * (k + 1) + 24000 → 2600 * k + 20000 ≤ l
      enough l k q = omega (arith, q)
