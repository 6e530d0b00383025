-- An open without CREATE, from what was found to its reply.
use Rattle.image_versions.specs.declared.version.Version.{Version}
use Rattle.inode_machine.proofs.Vocabulary.{◌≡◌, ◌≢◌, ◌⊎◌, inl, inr, ℕ, ◌+◌, ◌-◌, ◌*◌, ◌<◌, ◌≤◌, Bool, true, false, ◌&&◌, ◌==◌, ◌||◌, List, [], ◌∷◌, length, Option, Some, None, refl, sym, ◌∙◌, ap, subst, arith, if◌then◌else◌, Do, oldest_first, Safe, Begun, Ends, IsBeginning, Cause, Descriptors, OpenFiles, Reply, Call, Node, Done, Failed, Opened, Act, next_of, reply_of, had_room, hart_count, put, hold_names, empty_it, has, has_room, lowest, node_or, Key, Row, key_is, key_names, one_if, and_true, either, eq_is, or_none, same_or, put_same, put_other, Step, MayEnd, IsWholeCall, OwnMove, Desk, Note, World, Empty, is_file_type, OfDirectory, InodeType, open_refusal, type_of, is_at, Own, key_in, own_names, own_of, Idle, Inv, machine, failed, full, own_step, empties, file_for, open_at, open_end, open_face, opened_reply, covered_calls}
use Rattle.plain_tree.specs.declared.call.Call.TheVariants as calls
use Rattle.plain_tree.specs.declared.step.Action.TheVariants as steps
use Rattle.inode_machine.proofs.Basics.{locked_held, s-take, type_there, s-give, KeepsHold, mends, times, one_at, one_else, Listed, listed_among, At, Ready, MayRest, Walked, back_at, home, joined_own, names_plain, ready_at, s-ends, s-refuse, walked_begun, walked_tells, opened_row, unopened_row}
use Rattle.inode_machine.proofs.Endings.{Follows}
use Rattle.inode_machine.proofs.Unopens.{mends_opened}
use Rattle.inode_machine.proofs.Installs.{own_installed, s-install}
use Rattle.inode_machine.proofs.Slots.{s-slot, s-install-full}
use Rattle.inode_machine.proofs.Opens.{face_or_type, file_by_type}
use Rattle.inode_machine.proofs.Writings.{put_twice}
use Rattle.inode_machine.proofs.Empties.{empty_step, emptied_node, s-empty}

-- A directory opens to read alone.
writes_no_directory : (flags n : ℕ) (s : InodeType) → open_refusal (flags == 0) s ≡ None → (file_for n flags).writable ≡ true → s ≢ OfDirectory
writes_no_directory flags n s goes writes is = at (flags == 0) refl (subst (λ (z : InodeType). open_refusal (flags == 0) z ≡ None) is goes)
  where
    at : (b : Bool) → (flags == 0) ≡ b → open_refusal b OfDirectory ≡ None → ⊥
    at true e q = absurd (let a : (file_for n 0).writable ≡ true = subst (λ (z : ℕ). (file_for n z).writable ≡ true) (eq_is flags 0 e) writes in cc)
    at false e q = absurd cc

-- What the call hears.

pub open_follows : (path : List ℕ) (flags : ℕ) → Follows (calls.Open path flags) (steps.Open path flags)
unfolding next_of reply_of had_room
open_follows path flags = record { first = refl; missing = record { through = refl; reply = refl; room = refl } }

pub open_begins : (version : Version) (path : List ℕ) (flags : ℕ) → IsBeginning (covered_calls version) (calls.Open path flags) []
open_begins version path flags = tt

pub open_refused : (path : List ℕ) (flags : ℕ) (k : Cause) → MayEnd (calls.Open path flags) (record { step = steps.Open path flags; answer = Failed k } ∷ []) (failed (calls.Open path flags) k)
unfolding next_of reply_of had_room
open_refused path flags k = record { through = refl; reply = refl; room = refl }

abbrev pub opened_act : List ℕ → ℕ → ℕ → ℕ → Bool → Act
opened_act path flags fd id is_file = record { step = steps.Open path flags; answer = Opened fd id is_file }

pub open_done : (path : List ℕ) (flags fd id : ℕ) (is_file : Bool) → (has flags empty_it && is_file) ≡ false → MayEnd (calls.Open path flags) (opened_act path flags fd id is_file ∷ []) (opened_reply path flags fd)
unfolding next_of reply_of had_room
open_done path flags fd id is_file e = record { through = rw e refl; reply = refl; room = refl }

-- a file is to be emptied then
pub trunc_next : (path : List ℕ) (flags fd id : ℕ) (is_file : Bool) → (has flags empty_it && is_file) ≡ true → next_of (calls.Open path flags) (opened_act path flags fd id is_file ∷ []) ≡ Some (steps.Truncate fd)
unfolding next_of
trunc_next path flags fd id is_file e = rw e refl

pub trunc_done : (path : List ℕ) (flags fd id : ℕ) (is_file : Bool) → MayEnd (calls.Open path flags) (opened_act path flags fd id is_file ∷ record { step = steps.Truncate fd; answer = Done } ∷ []) (opened_reply path flags fd)
unfolding next_of reply_of had_room
trunc_done path flags fd id is_file = record { through = refl; reply = refl; room = refl }

pub opened_begins : (version : Version) (path : List ℕ) (flags fd id : ℕ) (is_file : Bool) (es : List Step) → Walked (calls.Open path flags) (opened_act path flags fd id is_file ∷ []) es → Begun (covered_calls version) (calls.Open path flags) es
opened_begins version path flags fd id is_file es told = by (has flags empty_it && is_file) refl
  where
    by : (b : Bool) → (has flags empty_it && is_file) ≡ b → Begun (covered_calls version) (calls.Open path flags) es
    by false e = walked_begun version (calls.Open path flags) (opened_act path flags fd id is_file ∷ []) es [] (opened_reply path flags fd) told (open_done path flags fd id is_file e)
    by true e = walked_begun version (calls.Open path flags) (opened_act path flags fd id is_file ∷ []) es (empty_step fd ∷ []) (opened_reply path flags fd) told (trunc_next path flags fd id is_file e, trunc_done path flags fd id is_file)

-- What a hart names by its directory alone.
names_home : (r : Row) (d : Desk) (i : ℕ) → r.hold ≡ None → d.opening ≡ None → d.left ≡ None → own_names r d i ≡ ((r.cwd == i) || false)
names_home r d i hold opening left = names_plain r d i hold opening ∙ (λ z. (r.cwd == i) || is_at (left z) i)

-- what it doesn't name with more it doesn't with this
names_fewer : (r r2 : Row) (d d2 : Desk) (i : ℕ) → r2.cwd ≡ r.cwd → r2.hold ≡ None → d2.opening ≡ None → d2.left ≡ None → own_names r d i ≡ false → own_names r2 d2 i ≡ false
names_fewer r r2 d d2 i cwd hold opening left q =
    names_home r2 d2 i hold opening left ∙ (λ z. (cwd z == i) || false) ∙ (λ z. (or_none (r.cwd == i) (hold_names r.hold i || (key_names (key_in r.keys d.opening) i || is_at d.left i)) q).0 z || false)

module _ (version : Version) (h : ℕ) (path : List ℕ) (flags : ℕ) (w : World) (free : (w.desks h).lender ≡ None) (lt : h < hart_count) (holds : Inv w) (idle : Idle h w) where
  abbrev c : Call
  c = calls.Open path flags

  abbrev B : List Step → Type 0
  B = Begun (covered_calls version) c

  abbrev Q : Reply → List Step → World → Type 0
  Q = Ends (covered_calls version) h c

  abbrev O0 : Own
  O0 = joined_own (own_of h w)

  abbrev base : ℕ → ℕ
  base = home (own_of h w)

  ready : Ready base O0
  ready = ready_at h w free lt holds idle

  -- its directory it refers to
  spare : (i : ℕ) → ((w.all.cwd h == i) || false) ≡ true → 0 < base i
  spare i q = ready.spare i (names_home O0.row O0.desk i idle.hold idle.opening idle.left ∙ q)

  -- What was found is of another type than is asked for, and is given up.
  pub s-open-refused : (j : ℕ) (ns : List ℕ) (t : Option Note) (inode_type : InodeType) (k : Cause) (n : ℕ) (es : List Step) (u : World) (R : Own) → 2000 + 971 * length ns ≤ n → At h j base ns None t O0 R u → ((v : World) → Inv v → own_of h v ≡ R → type_of (v.all.nodes j) ≡ Some inode_type) → open_refusal (flags == 0) inode_type ≡ Some k
      → Walked c (record { step = steps.Open path flags; answer = Failed k } ∷ []) es → Safe (machine version) h B Q (open_at path flags j ns) n es u
  s-open-refused j ns t inode_type k n es u R few at typed refusal told =
      s-take version (λ o. type_of o ≡ Some inode_type) (λ o q. type_there o inode_type q) tt at.owns (at.stays.lender ∙ free) lt (omega (arith, few)) at.out (let r = at.refs j in let o = one_at j in omega (arith, r, o)) typed
      (λ l1 x u1 q1 is own1.
      subst (λ (z : InodeType). Safe (machine version) h B Q (open_face path flags j ns z (open_refusal (flags == 0) z)) l1 es u1) (sym (face_or_type version x inode_type is))
      (subst (λ (z : Option Cause). Safe (machine version) h B Q (open_face path flags j ns inode_type z) l1 es u1) (sym refusal)
      (s-refuse version h c (failed c k) j x base ns l1 es u1 R own1 (at.stays.lender ∙ free) lt (omega (arith, q1, few)) at.stays.joined at.listed at.out at.refs at.walk at.pending (λ q. spare j (names q)) may (inr (told [] (failed c k) (open_refused path flags k))))))
    where
      hold : R.row.hold ≡ None
      hold = ap (λ (r : Row). r.hold) at.stays.row ∙ idle.hold

      names : own_names R.row R.desk j ≡ true → ((w.all.cwd h == j) || false) ≡ true
      names q = (λ z. (sym (ap (λ (r : Row). r.cwd) at.stays.row) z == j) || false) ∙ sym (names_home R.row R.desk j hold (at.stays.opening ∙ idle.opening) (at.stays.left ∙ idle.left)) ∙ q

      may : MayRest R base
      may = record { hold = hold; hand = at.stays.hand ∙ idle.hand; lent = at.stays.lent ∙ idle.lent; opening = at.stays.opening ∙ idle.opening; left = at.stays.left ∙ idle.left; counts = λ i. λ z. one_if (sym at.stays.directory z == i) }

  -- No descriptor is free, as the step found.
  pub s-open-full : (j : ℕ) (ns : List ℕ) (t : Option Note) (inode_type : InodeType) (n : ℕ) (es : List Step) (u : World) (R : Own) → 2000 + 971 * length ns ≤ n → At h j base ns None t O0 R u → ((v : World) → Inv v → own_of h v ≡ R → type_of (v.all.nodes j) ≡ Some inode_type) → open_refusal (flags == 0) inode_type ≡ None
      → has_room R.desk.fds ≡ false → Safe (machine version) h B Q (open_at path flags j ns) n es u
  s-open-full j ns t inode_type n es u R few at typed refusal room =
      s-take version (λ o. type_of o ≡ Some inode_type) (λ o q. type_there o inode_type q) tt at.owns (at.stays.lender ∙ free) lt (omega (arith, few)) at.out (let r = at.refs j in let o = one_at j in omega (arith, r, o)) typed
      (λ l1 x u1 q1 is own1.
      subst (λ (z : InodeType). Safe (machine version) h B Q (open_face path flags j ns z (open_refusal (flags == 0) z)) l1 es u1) (sym (face_or_type version x inode_type is))
      (subst (λ (z : Option Cause). Safe (machine version) h B Q (open_face path flags j ns inode_type z) l1 es u1) (sym refusal)
      (s-slot version (record (M hand0) { inodes = put R.inodes j (Some (locked_held x)) }) own1 (at.stays.lender ∙ free) lt (omega (arith, q1, few)) (at.stays.hand ∙ idle.hand) refl refl
      (λ v inv ov. let m = mends h v (record R { inodes = put R.inodes j (Some (locked_held x)) }) ov (at.stays.lender ∙ free) lt inv opening left keeps (λ i q. refers i q) in record { fair = m.fair; bad = m.bad; owned = m.owned })
      (λ l2 u2 q2 own2. s-refuse version h c (full c OpenFiles) j x base ns l2 es u2 (M hand0) own2 (at.stays.lender ∙ free) lt (omega (arith, q1, q2, few)) at.stays.joined (listed hand0) at.out at.refs refl refl (λ q. spare j (names hand0 q)) (may hand0 (at.stays.hand ∙ idle.hand)) (inl refl))
      (λ l2 s u2 q2 own2.
      s-install-full version s (file_for j flags) inode_type (record (M None) { inodes = put R.inodes j (Some (locked_held x)) }) own2 (at.stays.lender ∙ free) lt (omega (arith, q1, q2, few)) refl room refl in_hand refl
      (λ v inv ov. let m = mends h v (record R { inodes = put R.inodes j (Some (locked_held x)); desk = record (R.desk) { hand = None } }) ov (at.stays.lender ∙ free) lt inv opening left keeps (λ i q. refers i q) in record { fair = m.fair; bad = m.bad; owned = m.owned })
      (λ l3 u3 q3 own3. s-refuse version h c (full c Descriptors) j x base ns l3 es u3 (M None) own3 (at.stays.lender ∙ free) lt (omega (arith, q1, q2, q3, few)) at.stays.joined (listed None) at.out at.refs refl refl (λ q. spare j (names None q)) (may None refl) (inl refl))))))
    where
      hand0 : Option ℕ
      hand0 = R.desk.hand

      in_hand : one_if (R.desk.directory == j) < R.mine.refs j
      in_hand = let r = at.refs j in let o = one_at j in let b : one_if (R.desk.directory == j) ≡ base j = (λ z. one_if (at.stays.directory z == j)) in omega (arith, r, o, b)

      hold : R.row.hold ≡ None
      hold = ap (λ (r : Row). r.hold) at.stays.row ∙ idle.hold

      opening : R.desk.opening ≡ None
      opening = at.stays.opening ∙ idle.opening

      left : R.desk.left ≡ None
      left = at.stays.left ∙ idle.left

      keeps : KeepsHold R.row.hold
      keeps = subst KeepsHold (sym hold) tt

      refers : (i : ℕ) → own_names R.row R.desk i ≡ true → 0 < R.mine.refs i
      refers i q = let b = spare i ((λ z. (sym (ap (λ (r : Row). r.cwd) at.stays.row) z == i) || false) ∙ sym (names_home R.row R.desk i hold opening left) ∙ q) in let r = at.refs i in omega (arith, b, r)

      M : Option ℕ → Own
      M o = record R { desk = record (R.desk) { hand = o; opening = None; left = None; full = true }; mine = record { refs = R.mine.refs; walk = None; pending = None } }

      names : (o : Option ℕ) → own_names (M o).row (M o).desk j ≡ true → ((w.all.cwd h == j) || false) ≡ true
      names o q = (λ z. (sym (ap (λ (r : Row). r.cwd) at.stays.row) z == j) || false) ∙ sym (names_home (M o).row (M o).desk j hold refl refl) ∙ q

      listed : (o : Option ℕ) → Listed (M o) base ns
      listed o = listed_among R (M o) base ns at.listed (λ i. refl) (λ i p. refl) (λ i p q. names_fewer R.row R.row R.desk (M o).desk i refl hold refl refl q)

      may : (o : Option ℕ) → o ≡ None → MayRest (M o) base
      may o e = record { hold = hold; hand = e; lent = at.stays.lent ∙ idle.lent; opening = refl; left = refl; counts = λ i. λ z. one_if (sym at.stays.directory z == i) }

  abbrev went : ℕ → ℕ → Key → Own
  went fd id key = record O0 { row = opened_row O0.row fd id key; desk = record (O0.desk) { opening = Some fd } }

  -- The inode's lock is given up, and the call ends.
  s-open-end : (j fd s id : ℕ) (key : Key) (ns : List ℕ) (t : Option Note) (x : Option Node) (n : ℕ) (es : List Step) (u u0 : World) (R : Own) → 1000 + 971 * length ns ≤ n → At h j base ns None t (went fd id key) R u0 → own_of h u ≡ record (own_installed R j fd s) { inodes = put R.inodes j (Some (locked_held x)) }
      → IsWholeCall c (oldest_first es) (opened_reply path flags fd) → Safe (machine version) h B Q (open_end path flags j ns fd) n es u
  s-open-end j fd s id key ns t x n es u u0 R few at own told =
      s-give version own (at.stays.lender ∙ free) lt (omega (arith, few)) (put_same R.inodes j (Some (locked_held x))) refl refl refl at.pending (λ l u2 q own2.
      s-ends version h c (opened_reply path flags fd) base ns l es u2 _ own2 (at.stays.lender ∙ free) lt (omega (arith, few, q)) at.stays.joined
      (listed_among R (record (own_installed R j fd s) { inodes = put (put R.inodes j (Some (locked_held x))) j None }) base ns at.listed (λ i. back_at R.inodes j (Some (locked_held x)) at.out i) (λ i p. put_other R.mine.refs j (R.mine.refs j - 1) i (not_j i p)) (λ i p q. names_fewer R.row R.row R.desk (own_installed R j fd s).desk i refl hold refl left q))
      (λ i. fewer i) at.walk at.pending (record { hold = hold; hand = refl; lent = at.stays.lent ∙ idle.lent; opening = refl; left = left; counts = λ i. λ z. one_if (sym at.stays.directory z == i) }) (inr told))
    where
      hold : R.row.hold ≡ None
      hold = ap (λ (r : Row). r.hold) at.stays.row ∙ idle.hold

      left : R.desk.left ≡ None
      left = at.stays.left ∙ idle.left

      not_j : (i : ℕ) → 0 < times i ns → i ≢ j
      not_j i p q = absurd (let a = (at.listed.all i p).is in let b : R.inodes i ≡ None = ap R.inodes q ∙ at.out in cc (a, b))

      fewer : (i : ℕ) → put R.mine.refs j (R.mine.refs j - 1) i ≡ base i + times i ns
      fewer i = let r = at.refs i in elim (same_or i j) [
        | inl q ↦ (let a : put R.mine.refs j (R.mine.refs j - 1) i ≡ R.mine.refs j - 1 = ap (put R.mine.refs j (R.mine.refs j - 1)) q ∙ put_same R.mine.refs j (R.mine.refs j - 1) in let g : R.mine.refs j ≡ R.mine.refs i = ap R.mine.refs (sym q) in let o : one_if (j == i) ≡ 1 = ap (λ (z : ℕ). one_if (j == z)) q ∙ one_at j in omega (arith, r, a, g, o))
        | inr ne ↦ (let a = put_other R.mine.refs j (R.mine.refs j - 1) i ne in let o = one_else j i ne in omega (arith, r, a, o))
      ]

  -- A file is emptied, if that is asked for.
  s-open-then : (j fd s id : ℕ) (is_file : Bool) (ns : List ℕ) (t : Option Note) (inode_type : InodeType) (x : Option Node) (n : ℕ) (es : List Step) (u u0 : World) (R : Own) → 1950 + 971 * length ns ≤ n → At h j base ns None t (went fd id (key_is (file_for j flags))) R u0 → type_of x ≡ Some inode_type
      → own_of h u ≡ record (own_installed R j fd s) { inodes = put R.inodes j (Some (locked_held x)) } → is_file ≡ is_file_type inode_type → Walked c (opened_act path flags fd id is_file ∷ []) es
      → Safe (machine version) h B Q (if empties flags inode_type then Do (Empty j) (λ _. own_step (steps.Truncate fd)) (λ _. open_end path flags j ns fd) else open_end path flags j ns fd) n es u
  s-open-then j fd s id is_file ns t inode_type x n es u u0 R few at typed own kind told = by (empties flags inode_type) refl
    where
      key : Key
      key = key_is (file_for j flags)

      keyed : R.row.keys fd ≡ Some key
      keyed = ap (λ (r : Row). r.keys fd) at.stays.row ∙ put_same (own_of h w).row.keys fd (Some key)

      asked : (b : Bool) → empties flags inode_type ≡ b → (has flags empty_it && is_file) ≡ b
      asked b e = (λ z. has flags empty_it && kind z) ∙ e

      some : (o : Option Node) → type_of o ≡ Some inode_type → o ≡ Some (node_or o)
      some None q = absurd cc
      some (Some v) q = refl

      file : empties flags inode_type ≡ true → is_file_type inode_type ≡ true
      file e = (and_true (has flags empty_it) (is_file_type inode_type) e).1

      y : Node
      y = emptied_node (node_or x)

      by : (b : Bool) → empties flags inode_type ≡ b → Safe (machine version) h B Q (if empties flags inode_type then Do (Empty j) (λ _. own_step (steps.Truncate fd)) (λ _. open_end path flags j ns fd) else open_end path flags j ns fd) n es u
      by false e = subst (λ (b : Bool). Safe (machine version) h B Q (if b then Do (Empty j) (λ _. own_step (steps.Truncate fd)) (λ _. open_end path flags j ns fd) else open_end path flags j ns fd) n es u) (sym e)
          (s-open-end j fd s id key ns t x n es u u0 R (omega (arith, few)) at own (told [] (opened_reply path flags fd) (open_done path flags fd id is_file (asked false e))))
      by true e = subst (λ (b : Bool). Safe (machine version) h B Q (if b then Do (Empty j) (λ _. own_step (steps.Truncate fd)) (λ _. open_end path flags j ns fd) else open_end path flags j ns fd) n es u) (sym e)
          (s-empty version j fd key (node_or x) own (at.stays.lender ∙ free) lt (omega (arith, few)) at.stays.joined (put_same R.inodes j (Some (locked_held x)) ∙ (λ z. Some (locked_held (some x typed z)))) (file_by_type x inode_type typed ∙ file e) keyed refl at.walk at.pending
          (walked_begun version c (opened_act path flags fd id is_file ∷ record { step = steps.Truncate fd; answer = Done } ∷ []) (empty_step fd ∷ es) [] (opened_reply path flags fd) (emptied_told e) (trunc_done path flags fd id is_file))
          (λ l2 u2 q2 own2. s-open-end j fd s id key ns t (Some y) l2 (empty_step fd ∷ es) u2 u0 R (omega (arith, q2, few)) at (own2 ∙ (λ z. record (own_installed R j fd s) {
            inodes = put_twice R.inodes j (Some (locked_held x)) (Some (locked_held (Some y))) z;
            mine = record { refs = put R.mine.refs j (R.mine.refs j - 1); walk = sym at.walk z; pending = sym at.pending z };
          })) (emptied_told e [] (opened_reply path flags fd) (trunc_done path flags fd id is_file))))
        where
          emptied_told : empties flags inode_type ≡ true → Walked c (opened_act path flags fd id is_file ∷ record { step = steps.Truncate fd; answer = Done } ∷ []) (empty_step fd ∷ es)
          emptied_told e = walked_tells c (opened_act path flags fd id is_file ∷ []) (OwnMove (steps.Truncate fd) 0) (record { act = record { step = steps.Truncate fd; answer = Done }; new = 0 }) es (trunc_next path flags fd id is_file (asked true e)) told

  -- What was found is opened: a slot, a descriptor.
  pub s-opened : (j fd id : ℕ) (is_file : Bool) (ns : List ℕ) (t : Option Note) (inode_type : InodeType) (n : ℕ) (es : List Step) (u : World) (R : Own) → 2000 + 971 * length ns ≤ n → At h j base ns None t (went fd id (key_is (file_for j flags))) R u → ((v : World) → Inv v → own_of h v ≡ R → type_of (v.all.nodes j) ≡ Some inode_type) → open_refusal (flags == 0) inode_type ≡ None
      → has_room R.desk.fds ≡ true → lowest R.desk.fds ≡ fd → is_file ≡ is_file_type inode_type → Walked c (opened_act path flags fd id is_file ∷ []) es → Safe (machine version) h B Q (open_at path flags j ns) n es u
  s-opened j fd id is_file ns t inode_type n es u R few at typed refusal room low kind told =
      s-take version (λ o. type_of o ≡ Some inode_type) (λ o q. type_there o inode_type q) tt at.owns (at.stays.lender ∙ free) lt (omega (arith, few)) at.out here typed
      (λ l1 x u1 q1 is own1.
      subst (λ (z : InodeType). Safe (machine version) h B Q (open_face path flags j ns z (open_refusal (flags == 0) z)) l1 es u1) (sym (face_or_type version x inode_type is))
      (subst (λ (z : Option Cause). Safe (machine version) h B Q (open_face path flags j ns inode_type z) l1 es u1) (sym refusal)
      (s-slot version (record (M R.desk.hand) { inodes = put R.inodes j (Some (locked_held x)) }) own1 (at.stays.lender ∙ free) lt (omega (arith, q1, few)) (at.stays.hand ∙ idle.hand) refl refl
      (λ v inv ov. mends_opened h fd v (record R { inodes = put R.inodes j (Some (locked_held x)) }) ov (at.stays.lender ∙ free) lt inv at.stays.opening left (subst KeepsHold (sym hold) tt) (λ i q. refers i q))
      (λ l2 u2 q2 own2. s-refuse version h c (full c OpenFiles) j x base ns l2 es u2 (M R.desk.hand) own2 (at.stays.lender ∙ free) lt (omega (arith, q1, q2, few)) at.stays.joined listed at.out at.refs refl refl (λ q. spare j ((λ z. (sym (ap (λ (r : Row). r.cwd) at.stays.row) z == j) || false) ∙ sym (names_home (M R.desk.hand).row (M R.desk.hand).desk j hold refl refl) ∙ q)) may (inl refl))
      (λ l2 s u2 q2 own2.
      s-install version fd s (file_for j flags) inode_type own2 (at.stays.lender ∙ free) lt (omega (arith, q1, q2, few)) at.stays.opening refl room low keyed refl refl at.walk at.pending (put_same R.inodes j (Some (locked_held x))) refl is (writes_no_directory flags j inode_type refusal) here twice (λ l3 u3 q3 own3. s-open-then j fd s id is_file ns t inode_type x l3 es u3 u R (omega (arith, q1, q2, q3, few)) at is own3 kind told)))))
    where
      here : 0 < R.mine.refs j
      here = let r = at.refs j in let o = one_at j in omega (arith, r, o)

      hold : R.row.hold ≡ None
      hold = ap (λ (r : Row). r.hold) at.stays.row ∙ idle.hold

      left : R.desk.left ≡ None
      left = at.stays.left ∙ idle.left

      keyed : R.row.keys fd ≡ Some (key_is (file_for j flags))
      keyed = ap (λ (r : Row). r.keys fd) at.stays.row ∙ put_same (own_of h w).row.keys fd (Some (key_is (file_for j flags)))

      cwd_at : (i : ℕ) → own_names R.row (record (R.desk) { opening = None }) i ≡ true → ((w.all.cwd h == i) || false) ≡ true
      cwd_at i q = (λ z. (sym (ap (λ (r : Row). r.cwd) at.stays.row) z == i) || false) ∙ sym (names_home R.row (record (R.desk) { opening = None }) i hold refl left) ∙ q

      refers : (i : ℕ) → own_names R.row (record (R.desk) { opening = None }) i ≡ true → 0 < R.mine.refs i
      refers i q = let b = spare i (cwd_at i q) in let r = at.refs i in omega (arith, b, r)

      twice : (1 < R.mine.refs j) ⊎ (own_names R.row (record (R.desk) { opening = None }) j ≡ false)
      twice = elim (either (own_names R.row (record (R.desk) { opening = None }) j)) [
        | inl y ↦ inl (let b = spare j (cwd_at j y) in let r = at.refs j in let o = one_at j in omega (arith, b, r, o))
        | inr y ↦ inr y
      ]

      M : Option ℕ → Own
      M o = record R { row = unopened_row R.row fd; desk = record (R.desk) { hand = o; opening = None; left = None; full = true }; mine = record { refs = R.mine.refs; walk = None; pending = None } }

      listed : Listed (M R.desk.hand) base ns
      listed = listed_among R (M R.desk.hand) base ns at.listed (λ i. refl) (λ i p. refl) (λ i p q. names_fewer R.row (M R.desk.hand).row R.desk (M R.desk.hand).desk i refl hold refl refl q)

      may : MayRest (M R.desk.hand) base
      may = record { hold = hold; hand = at.stays.hand ∙ idle.hand; lent = at.stays.lent ∙ idle.lent; opening = refl; left = refl; counts = λ i. λ z. one_if (sym at.stays.directory z == i) }
