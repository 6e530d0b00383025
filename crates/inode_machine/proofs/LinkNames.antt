-- Link once its count is raised: the new name's directory is walked to, and the name entered; or the count is lowered again.
use Rattle.image_versions.specs.declared.version.Version.{Version}
use Rattle.inode_machine.proofs.Vocabulary.{◌≡◌, ◌≢◌, ◌⊎◌, inl, inr, ℕ, ◌+◌, ◌-◌, ◌*◌, ◌<◌, ◌≤◌, Bool, true, false, ◌==◌, ◌||◌, List, [], ◌∷◌, length, Option, Some, None, refl, sym, ◌∙◌, ap, subst, arith, if◌then◌else◌, Do, own, onto, oldest_first, Fine, Safe, Wp, Begun, Ends, Cause, NoEntry, Exists, Blocks, DirectoryFull as Directory, Reply, Node, Hold, Action, Done, Failed, Act, next_of, reply_of, had_room, first_cause, Row, key_names, lowered, path_of, Name, put, look, elements, hold_names, live_directory, hart_count, IsThere, one_if, either, same_or, put_same, put_other, one_yes, Step, MayEnd, IsWholeCall, Begin, Desk, Note, World, UnlockInode, Store, face_of, face_or, is_at, unlocked, with_entry, marked, places, Held, Own, key_in, own_names, own_of, nothing, Inv, machine, ThisP as P, WalkStop, NotThere, NoMemory, done, drop, failed, full, give_up, is_some, is_there, makes, own_step, start, stopped, tail, walk_parent, link_found, link_in, link_name, lower, covered_calls}
use Rattle.atomic_programs.specs.Logic as logic
use Rattle.plain_tree.specs.declared.call.Call.TheVariants as calls
use Rattle.plain_tree.specs.declared.step.Action.TheVariants as steps
use Rattle.inode_machine.proofs.Basics.{AllNames, has_inode, fine_after, s-owned, s-take, locked_held, locks_it, has_node, gives, one_most, s-give, s-drop, live_face, Listed, times, one_at, one_else, Lost, On, Ready, Stays, names_stay, stays_same, Walked, mended_own, told_step, Holding, HasJoined, holding_on, holding_same, holding_set, holding_to, mendable, stays_mended, unlisted, unlisted_refs, s-end, s-give-end, s-give-up, Follows, agrees_look, begun_by, begun_refused, quit_step, s-see, walking_quit, walking_told, written_by, high, unbumps}
use Rattle.inode_machine.proofs.Writings.{put_twice}
use Rattle.inode_machine.proofs.Namings.{Leads, begin_good, begin_refused, s-follow}
use Rattle.inode_machine.proofs.Raises.{Plain, done_step, s-store-move}
use Rattle.inode_machine.proofs.LinkEnters.{enter_leads, enter_place, enter_taken, s-enter-name}

-- What is written.

abbrev pub found : List ℕ → Act
found old = record { step = steps.Find old; answer = Done }

abbrev pub bumped : Act
bumped = record { step = steps.Bump; answer = Done }

abbrev pub not_entered : List ℕ → Cause → Act
not_entered new k = record { step = steps.Enter new; answer = Failed k }

abbrev pub unbumped : Act
unbumped = record { step = steps.Unbump; answer = Done }

lowers_next : (old new : List ℕ) (k : Cause) → next_of (calls.Link old new) (found old ∷ bumped ∷ not_entered new k ∷ []) ≡ Some steps.Unbump
unfolding next_of
lowers_next old new k = refl

lowered_ends : (old new : List ℕ) (k : Cause) → MayEnd (calls.Link old new) (found old ∷ bumped ∷ not_entered new k ∷ unbumped ∷ []) (failed (calls.Link old new) k)
unfolding next_of reply_of had_room first_cause
lowered_ends old new k = record { through = refl; reply = refl; room = refl }

entered_ends : (old new : List ℕ) → MayEnd (calls.Link old new) (found old ∷ bumped ∷ record { step = steps.Enter new; answer = Done } ∷ []) (done (calls.Link old new))
unfolding next_of reply_of had_room first_cause
entered_ends old new = record { through = refl; reply = refl; room = refl }

enters_next : (old new : List ℕ) → next_of (calls.Link old new) (found old ∷ bumped ∷ []) ≡ Some (steps.Enter new)
unfolding next_of
enters_next old new = refl

pub enter_follows : (old new : List ℕ) → Follows (calls.Link old new) (found old ∷ bumped ∷ []) (steps.Enter new)
enter_follows old new = record { next = enters_next old new; rest = λ k. done_step steps.Unbump ∷ []; reply = λ k. failed (calls.Link old new) k; fails = λ k. (lowers_next old new k, lowered_ends old new k) }

-- What a hart names.

-- its hold alone changes, which is of no such number
pub names_but : (r : Row) (d : Desk) (o : Option Hold) (i : ℕ) → r.hold ≡ None → hold_names o i ≡ false → own_names (record r { hold = o }) d i ≡ own_names r d i
names_but r d o i none isnt =
    (λ z. (r.cwd == i) || (isnt z || (key_names (key_in r.keys d.opening) i || is_at d.left i)))
    ∙ sym (λ z. (r.cwd == i) || (hold_names (none z) i || (key_names (key_in r.keys d.opening) i || is_at d.left i)))

-- without a hold it names less
pub names_fewer : (r : Row) (d : Desk) (i : ℕ) → own_names r d i ≡ false → own_names (record r { hold = None }) d i ≡ false
names_fewer r d i q = fewer (r.cwd == i) (hold_names r.hold i) (key_names (key_in r.keys d.opening) i || is_at d.left i) q
  where
    fewer : (a b c : Bool) → (a || (b || c)) ≡ false → (a || (false || c)) ≡ false
    fewer true b c e = absurd cc
    fewer false true c e = absurd cc
    fewer false false c e = e

-- The lock is given up, and a step that follows a path without elements refused at once.
s-give-begin : (version : Version) {A : Type 0} {h i : ℕ} {x : Held} (s : Action) {k : Unit {0} → logic.P (machine version) A} {B : List Step → Type 0} {Q : A → List Step → World → Type 0} {n : ℕ} {es : List Step} {w : World} {O : Own} (O0 : Own)
    → own_of h w ≡ O → O.desk.lender ≡ None → h < hart_count → 0 < n → O.inodes i ≡ Some x → x.locked ≡ true → x.alone ≡ false → x.disk ≡ x.node → O.mine.walk ≡ None → O.mine.pending ≡ None → O.row ≡ O0.row → Leads version h s O0 → elements version (path_of s) ≡ [] → B (begin_refused s ∷ es)
    → ((l : ℕ) (u : World) → l + 1 ≡ n → own_of h u ≡ record O { inodes = put O.inodes i None; mine = record { refs = O.mine.refs; walk = None; pending = None } } → Safe (machine version) h B Q (k tt) l (begin_refused s ∷ es) u)
    → Safe (machine version) h B Q (Do (UnlockInode i) (λ _. makes (Begin s 0)) k) n es w
s-give-begin version {A} {h} {i} {x} s {k} {B} {Q} {n} {es} {w} {O} O0 owns free lt pos isi has shared whole walks pending row leads path b rest = s-owned version owns free pos (λ v inv ov. (
  locks_it h i v O x ov isi has,
  (λ _ _.
      let a : v.alone i ≡ false = ap (λ (y : Held). y.alone) (has_inode h i v O x ov isi).1 ∙ shared in
      let g = gives version h i x O v free lt inv ov isi shared whole pending in
      subst (λ (c : Bool). Fine (machine version) h (places version h (UnlockInode i) tt (makes (Begin s 0)) v) 0 n B es v (marked version h (makes (Begin s 0)) (unlocked i v c)) (λ l. Wp (machine version) h B Q (k tt) l (onto (own h (places version h (UnlockInode i) tt (makes (Begin s 0)) v)) es) (marked version h (makes (Begin s 0)) (unlocked i v c)))) (sym a)
      (fine_after version g.fair refl (begin_good version h 0 n B Q es (unlocked i v false) (record O { inodes = put O.inodes i None }) O0 s (k tt) g.owned free lt g.fair.inv walks pending row leads path b pos rest))),
))

-- the rest of the call is right
abbrev Goes : Version → ℕ → List ℕ → List ℕ → P Reply → ℕ → List Step → World → Type 0
Goes version h old new p n es w = Safe (machine version) h (Begun (covered_calls version) (calls.Link old new)) (Ends (covered_calls version) h (calls.Link old new)) p n es w

-- the call found no room, or its name was refused
abbrev Lowers : List ℕ → List ℕ → Reply → List Step → Own → Type 0
Lowers old new r es R = (R.desk.full ≡ true) ⊎ ((k : Cause) × (r ≡ failed (calls.Link old new) k) × Walked (calls.Link old new) (found old ∷ bumped ∷ not_entered new k ∷ []) es)

-- what the call has while its hold is raised
abbrev pub high_own : ℕ → Own → Own
high_own j O = record O { row = record (O.row) { hold = Some (high j) } }

abbrev pub more_base : (ℕ → ℕ) → ℕ → ℕ → ℕ
more_base base j i = base i + one_if (j == i)

plain_unbump : Version → Plain steps.Unbump
plain_unbump version = record { follows = refl; path = refl; makes = λ t q. refl; inherits = λ g q. absurd cc }

module _ (version : Version) (h : ℕ) (old new : List ℕ) (lt : h < hart_count) {base : ℕ → ℕ} {O0 : Own} (joins : HasJoined base O0) (j : ℕ) where
  -- with its hold raised a walk may begin again
  ready_high : Ready (more_base base j) (high_own j O0)
  ready_high = record {
    free = joins.ready.free;
    joined = joins.ready.joined;
    opening = joins.ready.opening;
    left = joins.ready.left;
    hold = refl;
    spare = λ i q. elim (either (j == i)) [
      | inl y ↦ (let o = one_yes (j == i) y in omega (arith, o))
      | inr y ↦ (let b = joins.ready.spare i (sym (names_but O0.row O0.desk (Some (high j)) i joins.may.hold y) ∙ q) in omega (arith, b))
    ];
    few = λ i. let a = joins.may.counts i in let b = one_most (O0.desk.directory == i) in let c = one_most (j == i) in omega (arith, a, b, c);
  }

  -- Once its hold is gone the hart has what it began with, and a reference more.
  unholds : {ms : List ℕ} {R : Own} {E : ℕ → Option Held} {more : ℕ → ℕ} (M : Own) (less : ℕ → ℕ) → Holding (more_base base j) ms (high_own j O0) R E more → M.inodes ≡ R.inodes → M.row ≡ record (R.row) { hold = None } → M.ninodes ≡ R.ninodes → M.desk ≡ R.desk → M.mine.refs ≡ R.mine.refs → ((i : ℕ) → less i ≡ one_if (j == i) + more i) → Holding base ms O0 M E less
  unholds {ms} {R} {E} {more} M less k inodes row size desk refs counts = record {
    stays = g.stays;
    refs = λ i. let a = g.refs i in let b = counts i in omega (arith, a, b);
    all = g.all;
    once = g.once;
    has = g.has;
    only = g.only;
  }
    where
      g : Holding (more_base base j) ms O0 M E more
      g = holding_to O0 M k inodes (record {
        row = row ∙ (λ z. record (k.stays.row z) { hold = None }) ∙ (λ z. record (O0.row) { hold = sym joins.may.hold z });
        ninodes = size ∙ k.stays.ninodes;
        fds = ap (λ (z : Desk). z.fds) desk ∙ k.stays.fds;
        hand = ap (λ (z : Desk). z.hand) desk ∙ k.stays.hand;
        joined = ap (λ (z : Desk). z.joined) desk ∙ k.stays.joined;
        directory = ap (λ (z : Desk). z.directory) desk ∙ k.stays.directory;
        lent = ap (λ (z : Desk). z.lent) desk ∙ k.stays.lent;
        lender = ap (λ (z : Desk). z.lender) desk ∙ k.stays.lender;
        opening = ap (λ (z : Desk). z.opening) desk ∙ k.stays.opening;
        left = ap (λ (z : Desk). z.left) desk ∙ k.stays.left;
      }) refs (λ i t q. (λ z. own_names (row z) (desk z) i) ∙ names_fewer R.row R.desk i q)

  -- what it holds isn't listed, nor kept if nothing is but the list
  out_of : {ms : List ℕ} {R : Own} {E : ℕ → Option Held} {more : ℕ → ℕ} → Holding (more_base base j) ms (high_own j O0) R E more → E j ≡ None → (times j ms ≡ 0) × (R.inodes j ≡ None)
  out_of {ms} {R} {E} {more} k empty = (zero, go (R.inodes j) refl)
    where
      zero : times j ms ≡ 0
      zero = elim (same_or (times j ms) 0) [ inl z ↦ z | inr p ↦ absurd (let a = (k.all j (omega (arith, p))).one in let r = k.refs j in let o = one_at j in omega (arith, a, r, o, p)) ]

      go : (o : Option Held) → R.inodes j ≡ o → R.inodes j ≡ None
      go None q = q
      go (Some x) q = elim (k.only j x q) [ inl t ↦ absurd (let z = zero in omega (arith, z, t)) | inr e ↦ absurd (cc (e, empty)) ]

  -- The count is lowered, its inode given up, and the call ends.
  lowers : (r : Reply) (ms : List ℕ) (n : ℕ) (es : List Step) (u : World) (R : Own) (E : ℕ → Option Held) → 971 * length ms + 2000 ≤ n → own_of h u ≡ R → Holding (more_base base j) ms (high_own j O0) R E (λ i. 0) → ((i : ℕ) → E i ≡ None) → R.mine.walk ≡ None → R.mine.pending ≡ None → Lowers old new r es R
      → Goes version h old new (lower old new j r ms) n es u
  lowers r ms n es u R E few held k empty walk none told =
      s-take version (λ o. (X : Node) × (o ≡ Some X)) (λ o f e. let a = f.1 in cc (a, e)) tt held free lt (omega (arith, few)) (out_of k (empty j)).1 (let a = k.refs j in let o = one_at j in omega (arith, a, o))
      (λ v inv ov. let t = held_there v inv ov in (t.node, t.is)) (λ l x u1 q f held1. by l x u1 q f held1)
    where
      free : R.desk.lender ≡ None
      free = k.stays.lender ∙ joins.ready.free

      holds : R.row.hold ≡ Some (high j)
      holds = ap (λ (z : Row). z.hold) k.stays.row

      held_there : (v : World) → Inv v → own_of h v ≡ R → IsThere v.all.nodes j false
      held_there v inv ov = inv.well.holds h (high j) lt (ap (λ (o : Own). o.row.hold) ov ∙ holds)

      by : (l : ℕ) (x : Option Node) (u1 : World) → l + 4 ≡ n → ((X : Node) × (x ≡ Some X)) → own_of h u1 ≡ record R { inodes = put R.inodes j (Some (locked_held x)) } → Goes version h old new (Do (Store j ((face_or (face_of version x)).count - 1)) (λ _. own_step steps.Unbump) (λ _. give_up j (tail ms r))) l es u1
      by l None u1 q f held1 = absurd (let a = f.1 in cc)
      by l (Some X) u1 q f held1 =
          s-store-move version j (X.count - 1) steps.Unbump None X held1 free lt (omega (arith, q, few)) (k.stays.joined ∙ joins.ready.joined) walk none (put_same R.inodes j (Some (locked_held (Some X)))) refl refl refl refl (inr (omega arith)) (plain_unbump version)
          (λ v inv ov. unbumps version h j X v lt inv (ap (λ (o : Own). o.row.hold) ov ∙ holds) (has_node h j v O1 (locked_held (Some X)) ov (put_same R.inodes j (Some (locked_held (Some X)))))) (λ i p. absurd cc) begun
          (λ l2 u2 q2 held2. s-give-end version h (calls.Link old new) r ms F j l2 (done_step steps.Unbump ∷ es) u2 M lt joins held2 (omega (arith, q, q2, few)) k3 (put_same (put E j (Some (locked_held (Some X)))) j (Some L)) (record { locked = refl; shared = refl; same = refl })
          (λ i ne. put_other (put E j (Some (locked_held (Some X)))) j (Some L) i ne ∙ put_other E j (Some (locked_held (Some X))) i ne ∙ empty i) refl refl ends)
        where
          L : Held
          L = locked_held (Some (lowered X))

          O1 : Own
          O1 = record R { inodes = put R.inodes j (Some (locked_held (Some X))) }

          O2 : Own
          O2 = record O1 { inodes = put O1.inodes j (Some L) }

          M : Own
          M = record O2 { row = record (R.row) { hold = None }; mine = record { refs = R.mine.refs; walk = None; pending = None } }

          F : ℕ → Option Held
          F = put (put E j (Some (locked_held (Some X)))) j (Some L)

          zero : times j ms ≡ 0
          zero = (out_of k (empty j)).0

          k2 : Holding (more_base base j) ms (high_own j O0) O2 F (λ i. 0)
          k2 = holding_set O2 j (Some L) (λ i. 0) (holding_set O1 j (Some (locked_held (Some X))) (λ i. 0) k zero refl (stays_same O1 R (high_own j O0) refl refl refl k.stays) (λ i ne. refl) k.refs) zero refl (stays_same O2 R (high_own j O0) refl refl refl k.stays) (λ i ne. refl) k.refs

          k3 : Holding base ms O0 M F (λ i. 0 + one_if (j == i))
          k3 = unholds M (λ i. 0 + one_if (j == i)) k2 refl refl refl refl refl (λ i. omega arith)

          after : (c : Cause) → Walked (calls.Link old new) (found old ∷ bumped ∷ not_entered new c ∷ []) es → Walked (calls.Link old new) (found old ∷ bumped ∷ not_entered new c ∷ unbumped ∷ []) (done_step steps.Unbump ∷ es)
          after c w rest s p = w (done_step steps.Unbump ∷ rest) s (lowers_next old new c, p)

          begun : (R.desk.full ≡ true) ⊎ Begun (covered_calls version) (calls.Link old new) (done_step steps.Unbump ∷ es)
          begun = elim told [
            | inl p ↦ inl p
            | inr p ↦ inr (begun_by version (calls.Link old new) (found old ∷ bumped ∷ not_entered new p.0 ∷ unbumped ∷ []) (done_step steps.Unbump ∷ es) [] (failed (calls.Link old new) p.0) (after p.0 p.2) (lowered_ends old new p.0))
          ]

          ends : (R.desk.full ≡ true) ⊎ IsWholeCall (calls.Link old new) (oldest_first (done_step steps.Unbump ∷ es)) r
          ends = elim told [
            | inl p ↦ inl p
            | inr p ↦ inr (subst (λ (z : Reply). IsWholeCall (calls.Link old new) (oldest_first (done_step steps.Unbump ∷ es)) z) (sym p.1) (written_by (calls.Link old new) (found old ∷ bumped ∷ not_entered new p.0 ∷ unbumped ∷ []) (done_step steps.Unbump ∷ es) (failed (calls.Link old new) p.0) (after p.0 p.2) (lowered_ends old new p.0)))
          ]

  -- The directory alone is locked.
  abbrev at_one : ℕ → Option Node → ℕ → Option Held
  at_one d x = put nothing d (Some (locked_held x))

  empty_one : (d : ℕ) (x : Option Node) (i : ℕ) → put (at_one d x) d None i ≡ None
  empty_one d x i = elim (same_or i d) [ inl q ↦ ap (put (at_one d x) d None) q ∙ put_same (at_one d x) d None | inr ne ↦ put_other (at_one d x) d None i ne ∙ put_other nothing d (Some (locked_held x)) i ne ]

  -- It is given up, and the count lowered.
  backs : (r : Reply) (d : ℕ) (x : Option Node) (ms : List ℕ) (l : ℕ) (es : List Step) (u : World) (R : Own) → 971 * length ms + 3000 ≤ l → own_of h u ≡ R → Holding (more_base base j) ms (high_own j O0) R (at_one d x) (λ i. 0 + one_if (d == i)) → R.mine.walk ≡ None → R.mine.pending ≡ None → Lowers old new r es R
      → Goes version h old new (give_up d (lower old new j r ms)) l es u
  backs r d x ms l es u R few held k walk none told =
      s-give-up version d {more = λ i. 0} held lt ready_high (omega (arith, few)) k walk none (put_same nothing d (Some (locked_held x))) (record { locked = refl; shared = refl; same = refl })
      (λ l2 u2 M q held2 desk walk2 none2 k2. lowers r ms l2 es u2 M (put (at_one d x) d None) (omega (arith, few, q)) held2 k2 (empty_one d x) walk2 none2 (elim told [ inl p ↦ inl (ap (λ (z : Desk). z.full) desk ∙ p) | inr p ↦ inr p ]))

  -- The name is entered: its directory is given up, the inode's reference dropped, and the call ends.
  named : (d : ℕ) (x : Option Node) (ms : List ℕ) (l : ℕ) (es : List Step) (u : World) (R : Own) → 971 * length ms + 3000 ≤ l → own_of h u ≡ R → Holding base ms O0 R (at_one d x) (λ i. (0 + one_if (j == i)) + one_if (d == i)) → R.mine.walk ≡ None → R.mine.pending ≡ None → IsWholeCall (calls.Link old new) (oldest_first es) (done (calls.Link old new))
      → Goes version h old new (give_up d (drop j (tail ms (done (calls.Link old new))))) l es u
  named d x ms l es u R few held k walk none told =
      s-give-up version d {more = λ i. 0 + one_if (j == i)} held lt joins.ready (omega (arith, few)) k walk none (put_same nothing d (Some (locked_held x))) (record { locked = refl; shared = refl; same = refl })
      (λ l2 u2 M q held2 desk walk2 none2 k2. drops l2 u2 M (omega (arith, few, q)) held2 k2 walk2 none2)
    where
      drops : (l2 : ℕ) (u2 : World) (M : Own) → 971 * length ms + 2000 ≤ l2 → own_of h u2 ≡ M → Holding base ms O0 M (put (at_one d x) d None) (λ i. 0 + one_if (j == i)) → M.mine.walk ≡ None → M.mine.pending ≡ None → Goes version h old new (drop j (tail ms (done (calls.Link old new)))) l2 es u2
      drops l2 u2 M few2 held2 k2 walk2 none2 =
          s-drop version j held2 (k2.stays.lender ∙ joins.ready.free) lt (omega (arith, few2)) (k2.stays.joined ∙ joins.ready.joined) (out (M.inodes j) refl) (let a = k2.refs j in let o = one_at j in omega (arith, a, o)) none2 walk2 may
          (λ l3 u3 q3 held3. s-end version h (calls.Link old new) (done (calls.Link old new)) ms (put (at_one d x) d None) (λ i. 0) l3 es u3 M2 lt joins held3 (omega (arith, few2, q3)) k4 (empty_one d x) (λ i. refl) walk2 none2 (inr told))
        where
          zero : times j ms ≡ 0
          zero = unlisted_refs k2 j (let o = one_at j in omega (arith, o))

          out : (o : Option Held) → M.inodes j ≡ o → M.inodes j ≡ None
          out None q = q
          out (Some y) q = elim (k2.only j y q) [ inl t ↦ absurd (let z = zero in omega (arith, z, t)) | inr e ↦ absurd (let a = empty_one d x j in cc (a, e)) ]

          may : (1 < M.mine.refs j) ⊎ (own_names M.row M.desk j ≡ false)
          may = elim (either (own_names M.row M.desk j)) [ inl y ↦ inl (let a = joins.ready.spare j (sym (names_stay M O0 k2.stays j) ∙ y) in let r = k2.refs j in let o = one_at j in omega (arith, a, r, o)) | inr y ↦ inr y ]

          M2 : Own
          M2 = record M { mine = record { refs = put M.mine.refs j (M.mine.refs j - 1); walk = M.mine.walk; pending = M.mine.pending } }

          not_j : (i : ℕ) → 0 < times i ms → i ≢ j
          not_j i t q = absurd (let a : times i ms ≡ times j ms = ap (λ (z : ℕ). times z ms) q in let z = zero in omega (arith, a, z, t))

          k4 : Holding base ms O0 M2 (put (at_one d x) d None) (λ i. 0)
          k4 = record {
            stays = stays_same M2 M O0 refl refl refl k2.stays;
            refs = λ i. let r = k2.refs i in elim (same_or i j) [
              | inl q ↦ (let a : put M.mine.refs j (M.mine.refs j - 1) i ≡ M.mine.refs j - 1 = ap (put M.mine.refs j (M.mine.refs j - 1)) q ∙ put_same M.mine.refs j (M.mine.refs j - 1) in let b : M.mine.refs i ≡ M.mine.refs j = ap M.mine.refs q in let o : one_if (j == i) ≡ 1 = ap (λ (z : ℕ). one_if (j == z)) q ∙ one_at j in omega (arith, a, b, o, r))
              | inr ne ↦ (let a = put_other M.mine.refs j (M.mine.refs j - 1) i ne in let o = one_else j i ne in omega (arith, a, o, r))
            ];
            all = λ i t. let a = k2.all i t in record { node = a.node; there = a.there; is = a.is; dead = a.dead; one = put_other M.mine.refs j (M.mine.refs j - 1) i (not_j i t) ∙ a.one; unnamed = a.unnamed };
            once = k2.once;
            has = k2.has;
            only = k2.only;
          }

  some_found : (f : Option ℕ) → is_some f ≡ true → (m : ℕ) × (f ≡ Some m)
  some_found None q = absurd cc
  some_found (Some m) q = (m, refl)

  none_found : (f : Option ℕ) → is_some f ≡ false → f ≡ None
  none_found None q = refl
  none_found (Some m) q = absurd cc

  -- what the call does once the directory is seen; b: whether that has links
  abbrev by_face : ℕ → Name → List ℕ → Option Node → Bool → P Reply
  by_face d e ms x b = if b then link_found old new j d e ms (look (λ i. x) d e) else give_up d (lower old new j (failed (calls.Link old new) NoEntry) ms)

  -- The new name's directory is seen.
  sees : (d : ℕ) (e : Name) (ms : List ℕ) (n : ℕ) (fs : List Step) (w : World) (O : Own) → 1 ≤ j → j < O0.ninodes → 971 * length ms + 8000 ≤ n → On version h (steps.Enter new) d e [] (more_base base j) ms (high_own j O0) O w → Walked (calls.Link old new) (found old ∷ bumped ∷ []) fs → Goes version h old new (link_in old new j d e ms) n fs w
  sees d e ms n fs w O from below few on walking =
      s-see version (calls.Link old new) (found old ∷ bumped ∷ []) (steps.Enter new) is_there d e lt ready_high on (omega (arith, few)) on.names.0 (enter_follows old new) walking (λ t q. enter_place t h j new lt (ap (λ (r : Row). r.hold) q ∙ ap (λ (r : Row). r.hold) on.stays.row)) (λ b. refl) (λ g q. absurd cc) (λ f. refl)
      (λ x l u dead q held. subst (λ (b : Bool). Goes version h old new (by_face d e ms x b) l (quit_step (steps.Enter new) ∷ fs) u) (sym (live_face version x ∙ dead)) (refused NoEntry x l u q held (walking_quit (calls.Link old new) (found old ∷ bumped ∷ []) (steps.Enter new) fs walking)))
      (λ x live q. let z = some_found (look (λ i. x) d e) q in (
        Exists,
        (λ b a. enter_taken version b h d z.0 e new (look (λ i. x) d e) ((agrees_look b d e x O live a).1 ∙ z.1)),
        (λ l u p held.
            subst (λ (b : Bool). Goes version h old new (by_face d e ms x b) l (told_step 0 (steps.Enter new) (Failed Exists) ∷ fs) u) (sym (live_face version x ∙ live))
            (subst (λ (f : Option ℕ). Goes version h old new (link_found old new j d e ms f) l (told_step 0 (steps.Enter new) (Failed Exists) ∷ fs) u) (sym z.1) (refused Exists x l u p held (walking_told (calls.Link old new) (found old ∷ bumped ∷ []) (steps.Enter new) (Failed Exists) 0 fs walking)))),
      ))
      (λ x l u inv live q p held.
      subst (λ (b : Bool). Goes version h old new (by_face d e ms x b) l fs u) (sym (live_face version x ∙ live))
      (subst (λ (f : Option ℕ). Goes version h old new (link_found old new j d e ms f) l fs u) (sym (none_found (look (λ i. x) d e) q)) (free_name x l u live (none_found (look (λ i. x) d e) q) p held)))
    where
      free : O.desk.lender ≡ None
      free = on.stays.lender ∙ joins.ready.free

      O1 : Option Node → Own
      O1 x = record O { inodes = put O.inodes d (Some (locked_held x)) }

      k1 : (x : Option Node) (R : Own) → R.inodes ≡ put O.inodes d (Some (locked_held x)) → R.row ≡ O.row → R.ninodes ≡ O.ninodes → R.desk ≡ O.desk → R.mine.refs ≡ O.mine.refs → Holding (more_base base j) ms (high_own j O0) R (at_one d x) (λ i. 0 + one_if (d == i))
      k1 x R inodes row size desk refs =
          let k = holding_on version h (steps.Enter new) d e [] (more_base base j) ms (high_own j O0) O w on in
          holding_set R d (Some (locked_held x)) (λ i. 0 + one_if (d == i)) k (unlisted k d on.out) inodes (stays_same R O (high_own j O0) row size desk on.stays) (λ i ne. ap (λ (f : ℕ → ℕ). f i) refs) (λ i. ap (λ (f : ℕ → ℕ). f i) refs ∙ k.refs i)

      refused : (c : Cause) (x : Option Node) (l : ℕ) (u : World) {gs : List Step} → l + 1612 ≡ n → own_of h u ≡ record (O1 x) { mine = record { refs = O.mine.refs; walk = None; pending = None } } → Walked (calls.Link old new) (found old ∷ bumped ∷ not_entered new c ∷ []) gs
          → Goes version h old new (give_up d (lower old new j (failed (calls.Link old new) c) ms)) l gs u
      refused c x l u {gs} p held told = backs (failed (calls.Link old new) c) d x ms l gs u _ (omega (arith, p, few)) held (k1 x _ refl refl refl refl refl) refl refl (inr (c, refl, told))

      free_name : (x : Option Node) (l : ℕ) (u : World) → live_directory x ≡ true → look (λ i. x) d e ≡ None → l + 1612 ≡ n → own_of h u ≡ O1 x → Goes version h old new (link_found old new j d e ms None) l fs u
      free_name None l u live none p held = absurd cc
      free_name (Some X) l u live none p held =
          s-enter-name version d j X e new held free lt (omega (arith, p, few)) (on.stays.joined ∙ joins.ready.joined) on.walk on.pending (mendable ready_high k) (ap (λ (r : Row). r.hold) on.stays.row)
          (put_same O.inodes d (Some (locked_held (Some X)))) refl refl refl refl live none on.names.0 from (let s = on.stays.ninodes in omega (arith, s, below))
          (begun_by version (calls.Link old new) (found old ∷ bumped ∷ act ∷ []) (told_step 0 (steps.Enter new) Done ∷ fs) [] (done (calls.Link old new)) told (entered_ends old new))
          (λ l2 u2 q2 held2. named d (Some E) ms l2 (told_step 0 (steps.Enter new) Done ∷ fs) u2 _ (omega (arith, p, q2, few)) held2 entered refl refl
          (written_by (calls.Link old new) (found old ∷ bumped ∷ act ∷ []) (told_step 0 (steps.Enter new) Done ∷ fs) (done (calls.Link old new)) told (entered_ends old new)))
          (λ l2 u2 q2 held2. no_room (full (calls.Link old new) Blocks) l2 u2 (omega (arith, p, q2, few)) held2)
          (λ l2 u2 q2 held2. no_room (full (calls.Link old new) Directory) l2 u2 (omega (arith, p, q2, few)) held2)
        where
          act : Act
          act = record { step = steps.Enter new; answer = Done }

          E : Node
          E = with_entry e j X

          k : Holding (more_base base j) ms (high_own j O0) (O1 (Some X)) (at_one d (Some X)) (λ i. 0 + one_if (d == i))
          k = k1 (Some X) (O1 (Some X)) refl refl refl refl refl

          told : Walked (calls.Link old new) (found old ∷ bumped ∷ act ∷ []) (told_step 0 (steps.Enter new) Done ∷ fs)
          told = walking_told (calls.Link old new) (found old ∷ bumped ∷ []) (steps.Enter new) Done 0 fs walking

          no_room : (r : Reply) (l2 : ℕ) (u2 : World) → 971 * length ms + 3000 ≤ l2 → own_of h u2 ≡ mended_own (O1 (Some X)) → Goes version h old new (give_up d (lower old new j r ms)) l2 fs u2
          no_room r l2 u2 few2 held2 = backs r d (Some X) ms l2 fs u2 (mended_own (O1 (Some X))) few2 held2 (holding_same (mended_own (O1 (Some X))) k refl (stays_mended (mended_own (O1 (Some X))) ready_high k.stays refl refl refl) refl) refl refl (inl refl)

          -- with the entry, and its hold still
          O2 : Own
          O2 = record O { inodes = put O.inodes d (Some (locked_held (Some E))) }

          entered : Holding base ms O0 (record (O1 (Some X)) { inodes = put (O1 (Some X)).inodes d (Some (locked_held (Some E))); row = record (O.row) { hold = None }; mine = record { refs = O.mine.refs; walk = None; pending = None } }) (at_one d (Some E)) (λ i. (0 + one_if (j == i)) + one_if (d == i))
          entered = unholds _ (λ i. (0 + one_if (j == i)) + one_if (d == i)) (k1 (Some E) (record O { inodes = put (O1 (Some X)).inodes d (Some (locked_held (Some E))) }) again refl refl refl refl) refl refl refl refl refl (λ i. omega arith)
            where
              again : put (put O.inodes d (Some (locked_held (Some X)))) d (Some (locked_held (Some E))) ≡ put O.inodes d (Some (locked_held (Some E)))
              again = put_twice O.inodes d (Some (locked_held (Some X))) (Some (locked_held (Some E)))

  -- The count is raised: the lock is given up, and the new path followed.
  pub follows : (ns : List ℕ) (n : ℕ) (es : List Step) (w : World) (R : Own) {x : Held} → 1 ≤ j → j < O0.ninodes → AllNames version (elements version new) → 2600 * (length (elements version new) + 1) + 971 * length ns + 10000 ≤ n → own_of h w ≡ R → R.inodes j ≡ Some x → x.locked ≡ true → x.alone ≡ false → x.disk ≡ x.node → R.mine.walk ≡ None → R.mine.pending ≡ None
      → Stays R (high_own j O0) → ((m : Note) → R.desk.noted ≡ Some m → 0 < R.mine.refs m.number) → ((i : ℕ) → R.mine.refs i ≡ more_base base j i + times i ns) → Listed (record R { inodes = put R.inodes j None }) (more_base base j) ns → Walked (calls.Link old new) (found old ∷ bumped ∷ []) es
      → Goes version h old new (link_name old new j ns (elements version new)) n es w
  follows ns n es w R {x} from below fresh few held isj locked shared whole walk none stays notes refs listed walking = by_path (elements version new) refl few
    where
      free : R.desk.lender ≡ None
      free = stays.lender ∙ joins.ready.free

      leads : Leads version h (steps.Enter new) (high_own j O0)
      leads = enter_leads version h j new (high_own j O0) lt refl

      told : Walked (calls.Link old new) (found old ∷ bumped ∷ not_entered new NoEntry ∷ []) (begin_refused (steps.Enter new) ∷ es)
      told rest r p = walking (begin_refused (steps.Enter new) ∷ rest) r (enters_next old new, p)

      -- its walk has ended here
      after : (why : WalkStop) (fs : List Step) (M : Own) → Lost (Walked (calls.Link old new) (found old ∷ bumped ∷ not_entered new NoEntry ∷ [])) why fs M → Lowers old new (stopped (calls.Link old new) why) fs M
      after NotThere fs M t = inr (NoEntry, refl, t)
      after NoMemory fs M t = inl t

      by_path : (p : List Name) → elements version new ≡ p → 2600 * (length p + 1) + 971 * length ns + 10000 ≤ n → Goes version h old new (link_name old new j ns p) n es w
      by_path [] q few2 =
          s-give-begin version (steps.Enter new) (high_own j O0) held free lt (omega (arith, few2)) isj locked shared whole walk none stays.row leads q
          (begun_refused version (calls.Link old new) (found old ∷ bumped ∷ []) (steps.Enter new) NoEntry (begin_refused (steps.Enter new) ∷ es) (enter_follows old new) told)
          (λ l u q2 held2. lowers (failed (calls.Link old new) NoEntry) ns l (begin_refused (steps.Enter new) ∷ es) u _ nothing (omega (arith, few2, q2)) held2 (record {
            stays = stays_same _ R (high_own j O0) refl refl refl stays;
            refs = λ i. let r = refs i in omega (arith, r);
            all = λ i t. let a = listed.all i t in record { node = a.node; there = a.there; is = a.is; dead = a.dead; one = a.one; unnamed = a.unnamed };
            once = listed.once;
            has = λ i y e. absurd cc;
            only = λ i y e. inl (listed.only i y e);
          }) (λ i. refl) refl refl (inr (NoEntry, refl, told)))
      by_path (e ∷ r) q few2 =
          s-give version {k = λ _. start (steps.Enter new) new ns (λ d. walk_parent (steps.Enter new) d e r ns (link_in old new j) (λ why ms. lower old new j (stopped (calls.Link old new) why) ms)) (λ why ms. lower old new j (stopped (calls.Link old new) why) ms)}
          held free lt (omega (arith, few2)) isj locked shared whole none (λ l u q2 held2.
          s-follow version (calls.Link old new) (found old ∷ bumped ∷ []) (steps.Enter new) 10000 e r ns (link_in old new j) (λ why ms. lower old new j (stopped (calls.Link old new) why) ms) lt ready_high leads (enter_follows old new) walking q fresh
          (record { owns = held2; stays = stays_same (record R { inodes = put R.inodes j None }) R (high_own j O0) refl refl refl stays; walk = walk; pending = none; refs = refs; listed = listed }) notes (omega (arith, few2, q2))
          (λ d e2 ms l2 fs u2 M few3 on walking2. sees d e2 ms l2 fs u2 M from below (omega (arith, few3)) on walking2)
          (λ why ms l2 fs u2 M few3 gone lost. lowers (stopped (calls.Link old new) why) ms l2 fs u2 M nothing (omega (arith, few3)) gone.owns (record {
            stays = gone.stays;
            refs = λ i. let a = gone.refs i in omega (arith, a);
            all = gone.listed.all;
            once = gone.listed.once;
            has = λ i y t. absurd cc;
            only = λ i y t. inl (gone.listed.only i y t);
          }) (λ i. refl) gone.walk gone.pending (after why fs M lost)))
