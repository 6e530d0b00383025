-- An open that may make its file is right, whatever the other harts do: it opens a file that is there, and makes one
-- if none is.
use Rattle.image_versions.specs.declared.version.Version.{Version}
use Rattle.inode_machine.proofs.Vocabulary.{◌≡◌, ◌≢◌, ◌⊎◌, inl, inr, ℕ, ◌+◌, ◌*◌, ◌<◌, ◌≤◌, Bool, true, false, ◌==◌, nat_lt, List, [], ◌∷◌, length, Option, Some, None, refl, sym, ◌∙◌, ap, subst, arith, if◌then◌else◌, own, onto, Fine, Safe, Wp, Begun, Ends, Cause, NoEntry, Full, Descriptors, DiskInodes, MemInodes, Reply, Call, Node, Action, Opened, Failed, NoRoom, next_of, Key, Row, key_is, IsLeastUnused, creates, has_room, is_file, lowest, makes_node, node_at, node_or, open_kind, refusal_with, refusal_by, effect_by, answer_by, StepWith, Name, Tree, put, look, elements, is_live, live_directory, settle, hart_count, descriptor_count, settle_again, one_if, look_live, either, eq_not, same_or, put_same, put_other, live_some, look_same, Stage, Step, Look, GiveUpWalk, Desk, Mark, Note, World, stage_of, Take, OfFile, InodeType, AtName, face_of, seen_in, is_live_face, open_refusal, type_of, type_of_kind, with_walk, acts, marked, mended, new_id, places, Held, Own, own_names, own_of, nothing, Idle, Inv, machine, ThisP as P, failed, full, give_up, is_some, is_there, looks_if, looks_where, makes, tail, create_found, create_in, file_for, open_at, open_new, open_old, open_program, in_parent, path_cost, rest_cost, covered_calls, look_cost}
use Rattle.plain_tree.specs.declared.call.Call.TheVariants as calls
use Rattle.plain_tree.specs.declared.step.Action.TheVariants as steps
use Rattle.inode_machine.proofs.Basics.{AllNames, Fair, fair, fair_same, fair_then, has_inode, has_node, locked_held, my_refs, noted_type, quiet, s-up, one_most, own_walk, stage_walk, walk_did, lowest_same, Flagging, not_at, KeepsHold, MoveFine, live_face, mends, note_of, noting, quit_good, s-take-then, spoilt, times, one_at, one_else, listed_held, At, Mending, On, Ready, Stays, names_stay, stays_same, known_there, on_refers, Finding, finding, found_world, refused_made, Walked, home, joined_own, may_rest, ready_at, Opening, fresh_id, opened_row, opened_tree, opened_world, opening, row_back, unopened_row, claimed_held, mended_own, s-claim, act_good_to, told_step, Holding, HasJoined, holding_on, holding_same, holding_set, holding_to, mendable, stays_mended, unlisted, s-give-end, s-give-up-in, Follows, begun_refused, quit_step, walking_quit, walking_told, written_by}
use Rattle.inode_machine.proofs.Unopens.{mends_opened}
use Rattle.inode_machine.proofs.SoFar.{full_begins}
use Rattle.inode_machine.proofs.Opens.{open_place, refusal_by_type, file_by_type}
use Rattle.inode_machine.proofs.OpenEnds.{open_refused, opened_act, opened_begins, s-open-full, s-open-refused, s-opened}
use Rattle.inode_machine.proofs.Pairs.{pair_new}
use Rattle.inode_machine.proofs.Makings.{makes_file, names_opened}
use Rattle.inode_machine.proofs.Namings.{s-naming}

-- What the step asks of its tree, if the name is there.

there_kind : (version : Version) (t : Tree) (h j : ℕ) (path : List ℕ) (flags d : ℕ) (e : Name) (res : Option ℕ) → creates flags ≡ true → look t.nodes d e ≡ Some j → refusal_with version t h (steps.Open path flags) res (Some (d, e)) ≡ open_kind flags (node_at t j).kind
unfolding refusal_by
there_kind version t h j path flags d e res flag is = rw (flag, is) refl

there_makes : (t : Tree) (path : List ℕ) (flags d j : ℕ) (e : Name) → creates flags ≡ true → look t.nodes d e ≡ Some j → makes_node t (steps.Open path flags) (Some (d, e)) ≡ false
there_makes t path flags d j e flag is = rw (flag, is) refl

there_made : (version : Version) (t : Tree) (h j id : ℕ) (path : List ℕ) (flags d : ℕ) (e : Name) → creates flags ≡ true → look t.nodes d e ≡ Some j → open_kind flags (node_at t j).kind ≡ None → has_room (t.fds h) ≡ true
    → acts version t h (steps.Open path flags) (Some j) (Some (d, e)) 0 id ≡ record {
      all = opened_tree t h (lowest (t.fds h)) id j flags;
      walk = None;
      found = Some j;
      opened = Some id;
      entered = None;
      left = None;
      told = Some (record { act = record { step = steps.Open path flags; answer = Opened (lowest (t.fds h)) id (is_file (node_at t j).kind) }; new = 0 });
    }
unfolding effect_by answer_by
there_made version t h j id path flags d e flag is goes room = rw (there_kind version t h j path flags d e (Some j) flag is ∙ goes) (rw (flag, is, room) refl)

there_step : (version : Version) (t : Tree) (h j id : ℕ) (path : List ℕ) (flags d : ℕ) (e : Name) → h < hart_count → creates flags ≡ true → look t.nodes d e ≡ Some j → open_kind flags (node_at t j).kind ≡ None → has_room (t.fds h) ≡ true → IsLeastUnused t id
    → StepWith version t h (steps.Open path flags) (Some j) (Some (d, e)) (Opened (lowest (t.fds h)) id (is_file (node_at t j).kind)) 0 id (settle (opened_tree t h (lowest (t.fds h)) id j flags))
unfolding effect_by answer_by
there_step version t h j id path flags d e lt flag is goes room least = (
  there_kind version t h j path flags d e (Some j) flag is ∙ goes,
  rw (flag, is, room) refl,
  record { node = λ z. absurd (let a = there_makes t path flags d j e flag is in cc (a, z)); file = λ _. least },
  rw (flag, is, room) refl,
  open_place t h path flags lt,
)

there_full : (version : Version) (t : Tree) (h j id : ℕ) (path : List ℕ) (flags d : ℕ) (e : Name) → creates flags ≡ true → look t.nodes d e ≡ Some j → open_kind flags (node_at t j).kind ≡ None → has_room (t.fds h) ≡ false
    → acts version t h (steps.Open path flags) (Some j) (Some (d, e)) 0 id ≡ record { all = t; walk = None; found = Some j; opened = None; entered = None; left = None; told = Some (record { act = record { step = steps.Open path flags; answer = NoRoom Descriptors }; new = 0 }) }
unfolding effect_by answer_by
there_full version t h j id path flags d e flag is goes room = rw (there_kind version t h j path flags d e (Some j) flag is ∙ goes) (rw (flag, is, room) refl)

there_full_step : (version : Version) (t : Tree) (h j id : ℕ) (path : List ℕ) (flags d : ℕ) (e : Name) → h < hart_count → creates flags ≡ true → look t.nodes d e ≡ Some j → open_kind flags (node_at t j).kind ≡ None → has_room (t.fds h) ≡ false
    → StepWith version t h (steps.Open path flags) (Some j) (Some (d, e)) (NoRoom Descriptors) 0 id (settle t)
unfolding effect_by answer_by
there_full_step version t h j id path flags d e lt flag is goes room = (
  there_kind version t h j path flags d e (Some j) flag is ∙ goes,
  rw (flag, is, room) refl,
  record { node = λ z. absurd (let a = there_makes t path flags d j e flag is in cc (a, z)); file = λ q. absurd (cc (q, room)) },
  rw (flag, is, room) refl,
  open_place t h path flags lt,
)

no_parent : (version : Version) (t : Tree) (h : ℕ) (path : List ℕ) (flags : ℕ) (res : Option ℕ) → creates flags ≡ true → refusal_with version t h (steps.Open path flags) res None ≡ Some NoEntry
unfolding refusal_by
no_parent version t h path flags res flag = rw flag refl

comes_first : (path : List ℕ) (flags : ℕ) → next_of (calls.Open path flags) [] ≡ Some (steps.Open path flags)
unfolding next_of
comes_first path flags = refl

follows : (path : List ℕ) (flags : ℕ) → Follows (calls.Open path flags) [] (steps.Open path flags)
follows path flags = record { next = comes_first path flags; rest = λ k. []; reply = λ k. failed (calls.Open path flags) k; fails = λ k. open_refused path flags k }

-- an open's last step may find no descriptor free
full_begun : (version : Version) (path : List ℕ) (flags : ℕ) (es : List Step) → Walked (calls.Open path flags) [] es → Begun (covered_calls version) (calls.Open path flags) (told_step 0 (steps.Open path flags) (NoRoom Descriptors) ∷ es)
full_begun version path flags es told =
    full_begins version (calls.Open path flags) es (Look 0) (Some (record { act = record { step = steps.Open path flags; answer = Failed NoEntry }; new = 0 })) (Some (record { act = record { step = steps.Open path flags; answer = NoRoom Descriptors }; new = 0 }))
    (begun_refused version (calls.Open path flags) [] (steps.Open path flags) NoEntry (told_step 0 (steps.Open path flags) (Failed NoEntry) ∷ es) (follows path flags) (walking_told (calls.Open path flags) [] (steps.Open path flags) (Failed NoEntry) 0 es told))

module _ (version : Version) (h : ℕ) (path : List ℕ) (flags : ℕ) (w : World) (free : (w.desks h).lender ≡ None) (lt : h < hart_count) (holds : Inv w) (idle : Idle h w) (flag : creates flags ≡ true) where
  abbrev c : Call
  c = calls.Open path flags

  abbrev s : Action
  s = steps.Open path flags

  abbrev B : List Step → Type 0
  B = Begun (covered_calls version) c

  abbrev Q : Reply → List Step → World → Type 0
  Q = Ends (covered_calls version) h c

  abbrev O0 : Own
  O0 = joined_own (own_of h w)

  abbrev base : ℕ → ℕ
  base = home (own_of h w)

  ready : Ready base O0
  ready = ready_at h w free lt holds idle

  joins : HasJoined base O0
  joins = record { ready = ready; may = may_rest h w idle }

  -- the directory's lock alone
  abbrev at_one : ℕ → Option Node → ℕ → Option Held
  at_one d x = put nothing d (Some (locked_held x))

  -- What was found is referred to, and the directory given up. P0: what the call began with, or that with a descriptor
  -- more; M: what the hart has if no place is left.
  reaches : (d j : ℕ) (e : Name) (ns : List ℕ) (x : Option Node) (t : Note) (n : ℕ) (fs : List Step) (v : World) (P0 O2 M : Own) → 3000 + 971 * length ns ≤ n → own_of h v ≡ O2 → P0.desk.lender ≡ None → P0.desk.joined ≡ true → (own_names P0.row P0.desk d ≡ true → (d ≡ j) ⊎ (0 < base d))
      → Holding base ns P0 O2 (at_one d x) (λ i. 0 + one_if (d == i)) → O2.mine.walk ≡ None → O2.mine.pending ≡ Some j → O2.desk.noted ≡ Some t → times j ns ≡ 0
      → ((v2 : World) → Inv v2 → own_of h v2 ≡ O2 → Mending h v2 (mended h v2) M) → Holding base ns O0 M (at_one d x) (λ i. 0 + one_if (d == i)) → M.mine.walk ≡ None → M.mine.pending ≡ None → M.desk.full ≡ true
      → ((l : ℕ) (u : World) (R : Own) → 2000 + 971 * length ns ≤ l → R.desk ≡ O2.desk → At h j base ns None (Some t) P0 R u → Safe (machine version) h B Q (open_at path flags j ns) l fs u)
      → Safe (machine version) h B Q (create_found path flags d e ns (Some j)) n fs v
  reaches d j e ns x t n fs v P0 O2 M few held unlent joined spare k walk pend noted fresh mending k_full walk_full none_full spoiled arrives =
      s-up version held (k.stays.lender ∙ unlent) lt (omega (arith, few)) refl (inl pend) (inr pend) (λ m q r. inr pend) (let a = k.refs j in let b = ready.few j in let f = fresh in let o = one_most (d == j) in omega (arith, a, b, f, o))
      (λ l u q held2. s-give-up-in version d {O0 = P0} {more = λ i. 0 + one_if (j == i)} held2 lt unlent joined (λ y. elim (spare y) [ inl r ↦ (let o : one_if (j == d) ≡ 1 = ap (λ (z : ℕ). one_if (j == z)) r ∙ one_at j in omega (arith, o)) | inr r ↦ omega (arith, r) ]) (omega (arith, few, q)) k2 walk refl (put_same nothing d (Some (locked_held x))) (record { locked = refl; shared = refl; same = refl })
      (λ l2 u2 R q2 held3 desk walk2 none2 k3. arrives l2 u2 R (omega (arith, few, q, q2)) desk (record {
        owns = held3;
        stays = k3.stays;
        noted = ap (λ (z : Desk). z.noted) desk ∙ noted;
        walk = walk2;
        pending = none2;
        refs = λ i. (let a = k3.refs i in omega (arith, a));
        listed = record { all = k3.all; only = λ i z y. elim (k3.only i z y) [ inl a ↦ a | inr a ↦ absurd (let b = empty i in cc (a, b)) ]; once = k3.once };
        out = gone R k3 (R.inodes j) refl;
      })))
      (λ v2 inv2 ov2. let m = mending v2 inv2 ov2 in spoilt version m.fair m.bad (omega (arith, few)) (λ l q. (s-give-end version h c (full c MemInodes) ns (at_one d x) d l fs (mended h v2) M lt joins m.owned (omega (arith, few, q)) k_full (put_same nothing d (Some (locked_held x))) (record { locked = refl; shared = refl; same = refl }) (λ i ne. put_other nothing d (Some (locked_held x)) i ne) walk_full none_full (inl spoiled)).wp))
    where
      empty : (i : ℕ) → put (at_one d x) d None i ≡ None
      empty i = elim (same_or i d) [ inl r ↦ ap (put (at_one d x) d None) r ∙ put_same (at_one d x) d None | inr ne ↦ put_other (at_one d x) d None i ne ∙ put_other nothing d (Some (locked_held x)) i ne ]

      not_j : (i : ℕ) → 0 < times i ns → i ≢ j
      not_j i p r = absurd (let a : times i ns ≡ times j ns = ap (λ (z : ℕ). times z ns) r in let f = fresh in omega (arith, a, f, p))

      O4 : Own
      O4 = record O2 { mine = record { refs = put O2.mine.refs j (O2.mine.refs j + 1); walk = O2.mine.walk; pending = None } }

      more : (i : ℕ) → put O2.mine.refs j (O2.mine.refs j + 1) i ≡ base i + times i ns + ((0 + one_if (j == i)) + one_if (d == i))
      more i = let r = k.refs i in elim (same_or i j) [
        | inl q ↦ (let a : put O2.mine.refs j (O2.mine.refs j + 1) i ≡ O2.mine.refs j + 1 = ap (put O2.mine.refs j (O2.mine.refs j + 1)) q ∙ put_same O2.mine.refs j (O2.mine.refs j + 1) in let b : O2.mine.refs i ≡ O2.mine.refs j = ap O2.mine.refs q in let o : one_if (j == i) ≡ 1 = ap (λ (z : ℕ). one_if (j == z)) q ∙ one_at j in omega (arith, a, b, o, r))
        | inr ne ↦ (let a = put_other O2.mine.refs j (O2.mine.refs j + 1) i ne in let o = one_else j i ne in omega (arith, a, o, r))
      ]

      k2 : Holding base ns P0 O4 (at_one d x) (λ i. (0 + one_if (j == i)) + one_if (d == i))
      k2 = record {
        stays = stays_same O4 O2 P0 refl refl refl k.stays;
        refs = more;
        all = λ i p. let a = k.all i p in record { node = a.node; there = a.there; is = a.is; dead = a.dead; one = put_other O2.mine.refs j (O2.mine.refs j + 1) i (not_j i p) ∙ a.one; unnamed = a.unnamed };
        once = k.once;
        has = k.has;
        only = k.only;
      }

      gone : (R : Own) → Holding base ns P0 R (put (at_one d x) d None) (λ i. 0 + one_if (j == i)) → (o : Option Held) → R.inodes j ≡ o → R.inodes j ≡ None
      gone R k3 None q = q
      gone R k3 (Some z) q = elim (k3.only j z q) [ inl p ↦ absurd (let f = fresh in omega (arith, f, p)) | inr a ↦ absurd (let b = empty j in cc (a, b)) ]

  -- The name is there: at this lookup the step acts.
  act : (d : ℕ) (e : Name) (ns : List ℕ) (n : ℕ) (es : List Step) (w0 : World) (O : Own) → 6000 + 971 * length ns ≤ n → On version h s d e [] base ns O0 O w0 → Walked c [] es
      → (u : World) (x : Option Node) (j : ℕ) → Inv u → own_of h u ≡ record O { inodes = put O.inodes d (Some (locked_held x)) } → live_directory x ≡ true → look (λ i. x) d e ≡ Some j → MoveFine version h look_cost n B Q es u (Look 0) (create_found path flags d e ns (Some j))
  act d e ns n es w0 O few on told u x j inv own1 live finds = at (open_kind flags (node_at u.all j).kind) refl (has_room (u.all.fds h)) refl
    where
      free_o : O.desk.lender ≡ None
      free_o = on.stays.lender ∙ free

      O1 : Own
      O1 = record O { inodes = put O.inodes d (Some (locked_held x)) }

      isd : O1.inodes d ≡ Some (locked_held x)
      isd = put_same O.inodes d (Some (locked_held x))

      nd : u.all.nodes d ≡ x
      nd = has_node h d u O1 (locked_held x) own1 isd

      found : look u.all.nodes d e ≡ Some j
      found = look_same (λ i. x) u.all.nodes d e nd ∙ finds

      live_at : live_directory (u.all.nodes d) ≡ true
      live_at = ap (λ (o : Option Node). live_directory o) nd ∙ live

      live_j : is_live (u.all.nodes j) ≡ true
      live_j = look_live u.all d j e inv.well found

      there : u.all.nodes j ≡ Some (node_or (u.all.nodes j))
      there = live_some (u.all.nodes j) live_j

      -- what is listed is dead
      fresh : times j ns ≡ 0
      fresh = elim (same_or (times j ns) 0) [
        | inl z ↦ z
        | inr p ↦ absurd (
            let a = on.listed.all j (omega (arith, p)) in
            let ne : j ≢ d = (λ q. absurd (let m : O.inodes j ≡ None = ap O.inodes q ∙ on.out in let b = a.is in cc (m, b))) in
            let b = has_node h j u O1 (listed_held a.node) own1 (put_other O.inodes d (Some (locked_held x)) j ne ∙ a.is) in
            let f = a.dead in
            cc (b, f, live_j))
      ]

      inode_type : InodeType
      inode_type = type_of_kind (node_at u.all j).kind

      type_is : type_of (u.all.nodes j) ≡ Some inode_type
      type_is = ap (λ (o : Option Node). type_of o) there

      refusal : open_refusal (flags == 0) inode_type ≡ open_kind flags (node_at u.all j).kind
      refusal = sym (refusal_by_type (u.all.nodes j) flags inode_type type_is)

      f : Finding h j u O1
      f = finding h d j e u O1 own1 free_o lt inv on.pending (has_inode h d u O1 (locked_held x) own1 isd).0 found

      k1 : Holding base ns O0 O1 (at_one d x) (λ i. 0 + one_if (d == i))
      k1 = let k = holding_on version h s d e [] base ns O0 O w0 on in holding_set O1 d (Some (locked_held x)) (λ i. 0 + one_if (d == i)) k (unlisted k d on.out) refl (stays_same O1 O O0 refl refl refl on.stays) (λ i ne. refl) (λ i. k.refs i)

      stays_noted : (R : Own) → R.row ≡ O.row → R.ninodes ≡ O.ninodes → R.desk ≡ record (O.desk) { noted = Some (note_of u.all j) } → Stays R O0
      stays_noted R row size desk = stays_same R (record O { desk = record (O.desk) { noted = Some (note_of u.all j) } }) O0 row size desk (record { row = on.stays.row; ninodes = on.stays.ninodes; fds = on.stays.fds; hand = on.stays.hand; joined = on.stays.joined; directory = on.stays.directory; lent = on.stays.lent; lender = on.stays.lender; opening = on.stays.opening; left = on.stays.left })

      O2 : Own
      O2 = record O1 { mine = record { refs = O.mine.refs; walk = None; pending = Some j }; desk = record (O.desk) { noted = Some (note_of u.all j) } }

      k2 : Holding base ns O0 O2 (at_one d x) (λ i. 0 + one_if (d == i))
      k2 = holding_same O2 k1 refl (stays_noted O2 refl refl refl) refl

      mine : (u.harts h).walk ≡ Some (record { step = s; at = d; next = e; rest = [] })
      mine = ap (λ (o : Own). o.mine.walk) own1 ∙ on.walk

      walks_are : (stage_of (record u { harts = with_walk u.harts h None (Some j) })).walk ≡ put (λ g. (u.harts g).walk) h None
      walks_are = ap (λ (m : Stage). m.walk) (stage_walk h None (Some j) u)

      names0 : (i : ℕ) → own_names O.row O.desk i ≡ true → 0 < O.mine.refs i
      names0 i q = let b = ready.spare i (sym (names_stay O O0 on.stays i) ∙ q) in let r = on.refs i in omega (arith, b, r)

      keeps_hold : KeepsHold O.row.hold
      keeps_hold = subst (λ (r : Row). KeepsHold r.hold) (sym on.stays.row) ready.hold

      -- its type is what it was at the lookup
      typed : (P0 R : Own) (u2 : World) → At h j base ns None (Some (note_of u.all j)) P0 R u2 → (v : World) → Inv v → own_of h v ≡ R → type_of (v.all.nodes j) ≡ Some inode_type
      typed P0 R u2 at v inv2 ov = noted_type h j R (note_of u.all j) at.noted refl at.out (let r = at.refs j in let o = one_at j in omega (arith, r, o)) lt v inv2 ov ∙ type_is

      -- the table's lowest descriptor is the tree's
      low : lowest (u.all.fds h) ≡ lowest O.desk.fds
      low = lowest_same (u.desks h).fds (u.all.fds h) u.ids (λ i l. inv.tied.fds h i lt l (not_at u h i (ap (λ (o : Own). o.desk.opening) own1 ∙ on.stays.opening ∙ ready.opening))) ∙ ap (λ (o : Own). lowest o.desk.fds) own1

      -- The step changes nothing of the tree.
      same : (l : ℕ) (fs : List Step) (v : World) → 4000 + 971 * length ns ≤ l → own_of h v ≡ O2
          → ((l2 : ℕ) (u2 : World) (R : Own) → 2000 + 971 * length ns ≤ l2 → R.desk ≡ O2.desk → At h j base ns None (Some (note_of u.all j)) O0 R u2 → Safe (machine version) h B Q (open_at path flags j ns) l2 fs u2)
          → Safe (machine version) h B Q (create_found path flags d e ns (Some j)) l fs v
      same l fs v few2 held goes =
          reaches d j e ns x (note_of u.all j) l fs v O0 O2 (mended_own O2) (omega (arith, few2)) held free refl (λ q. inr (ready.spare d q)) k2 refl refl refl fresh
          (λ v2 inv2 ov2. let m = mends h v2 O2 ov2 free_o lt inv2 (on.stays.opening ∙ ready.opening) (on.stays.left ∙ ready.left) keeps_hold names0 in record { fair = m.fair; bad = m.bad; owned = m.owned })
          (holding_same (mended_own O2) k2 refl (stays_mended (mended_own O2) ready k2.stays refl refl refl) refl) refl refl refl goes

      refused_at : (k : Cause) → open_kind flags (node_at u.all j).kind ≡ Some k → MoveFine version h look_cost n B Q es u (Look 0) (create_found path flags d e ns (Some j))
      refused_at k why =
          act_good_to version h look_cost n B Q es u u s d 0 tt e (Some j) (Failed k) (record { all = u.all; walk = None; found = Some j; opened = None; entered = None; left = None; told = Some (record { act = record { step = s; answer = Failed k }; new = 0 }) }) u.all (create_found path flags d e ns (Some j)) lt inv mine live_at found (λ g q. absurd cc)
          (refused_made version u.all h s (Some j) (Some (d, e)) 0 (new_id u) k refusal_is) refl
          (refusal_is, refl, open_place u.all h path flags lt) refl (λ q. absurd (let a = there_makes u.all path flags d j e flag found in cc (a, q)))
          f.fair (λ z. record { tree = settle u.all; walk = walks_are z }) (begun_refused version c [] s k (told_step 0 s (Failed k) ∷ es) (follows path flags) written) (omega (arith, few))
          (λ l q. (same l (told_step 0 s (Failed k) ∷ es) (found_world h j u) (omega (arith, q, few)) f.owned (λ l2 u2 R few2 desk at2.
          s-open-refused version h path flags w free lt holds idle j ns (Some (note_of u.all j)) inode_type k l2 (told_step 0 s (Failed k) ∷ es) u2 R (omega (arith, few2)) at2 (typed O0 R u2 at2) (refusal ∙ why) written)).wp)
        where
          refusal_is : refusal_with version u.all h s (Some j) (Some (d, e)) ≡ Some k
          refusal_is = there_kind version u.all h j path flags d e (Some j) flag found ∙ why

          written : Walked c (record { step = s; answer = Failed k } ∷ []) (told_step 0 s (Failed k) ∷ es)
          written = walking_told c [] s (Failed k) 0 es told

      full_at : open_kind flags (node_at u.all j).kind ≡ None → has_room (u.all.fds h) ≡ false → MoveFine version h look_cost n B Q es u (Look 0) (create_found path flags d e ns (Some j))
      full_at goes room =
          act_good_to version h look_cost n B Q es u u s d 0 tt e (Some j) (NoRoom Descriptors) (record { all = u.all; walk = None; found = Some j; opened = None; entered = None; left = None; told = Some (record { act = record { step = s; answer = NoRoom Descriptors }; new = 0 }) }) (settle u.all) (create_found path flags d e ns (Some j)) lt inv mine live_at found (λ g q. absurd cc)
          (there_full version u.all h j (new_id u) path flags d e flag found goes room) refl
          (there_full_step version u.all h j (new_id u) path flags d e lt flag found goes room) (sym (settle_again u.all)) (λ q. absurd (let a = there_makes u.all path flags d j e flag found in cc (a, q)))
          f.fair (λ z. record { tree = settle u.all; walk = walks_are z }) (full_begun version path flags es told) (omega (arith, few))
          (λ l q. (same l (told_step 0 s (NoRoom Descriptors) ∷ es) (found_world h j u) (omega (arith, q, few)) f.owned (λ l2 u2 R few2 desk at2.
          s-open-full version h path flags w free lt holds idle j ns (Some (note_of u.all j)) inode_type l2 (told_step 0 s (NoRoom Descriptors) ∷ es) u2 R (omega (arith, few2)) at2 (typed O0 R u2 at2) (refusal ∙ goes)
          (ap (λ (z : Desk). has_room z.fds) desk ∙ ap (λ (z : ℕ). nat_lt z descriptor_count) (sym low) ∙ room))).wp)

      goes_at : open_kind flags (node_at u.all j).kind ≡ None → has_room (u.all.fds h) ≡ true → MoveFine version h look_cost n B Q es u (Look 0) (create_found path flags d e ns (Some j))
      goes_at goes room =
          act_good_to version h look_cost n B Q es u u s d 0 tt e (Some j) (Opened fd (new_id u) isf) (record { all = T; walk = None; found = Some j; opened = Some (new_id u); entered = None; left = None; told = Some (record { act = record { step = s; answer = Opened fd (new_id u) isf }; new = 0 }) }) (settle T) (create_found path flags d e ns (Some j)) lt inv mine live_at found (λ g q. absurd cc)
          (there_made version u.all h j (new_id u) path flags d e flag found goes room) refl
          (there_step version u.all h j (new_id u) path flags d e lt flag found goes room (fresh_id u inv).least) (sym (settle_again T)) (λ q. absurd (let a = there_makes u.all path flags d j e flag found in cc (a, q)))
          (fair_then fair_a (fair_then fair_b note.fair)) (λ z. record { tree = settle T; walk = walks_are z })
          (opened_begins version path flags fd (new_id u) isf (told_step 0 s (Opened fd (new_id u) isf) ∷ es) written) (omega (arith, few))
          (λ l q. (reaches d j e ns x (note_of u.all j) l (told_step 0 s (Opened fd (new_id u) isf) ∷ es) uc P0 O3 M3 (omega (arith, q, few)) note.owned free refl spare k3 refl refl refl fresh
          (λ v inv2 ov. mends_opened h fd v O3 ov free_o lt inv2 refl (on.stays.left ∙ ready.left) keeps_hold (λ i p. names0 i (bare i p)))
          (holding_to O0 M3 k3 refl back refl (λ i p q2. names_stay M3 O0 back i ∙ sym (names_stay O1 O0 k1.stays i) ∙ (k1.all i p).unnamed)) refl refl refl
          (λ l2 u2 R few2 desk at2. s-opened version h path flags w free lt holds idle j fd (new_id u) isf ns (Some (note_of u.all j)) inode_type l2 (told_step 0 s (Opened fd (new_id u) isf) ∷ es) u2 R (omega (arith, few2)) at2 (typed P0 R u2 at2) (refusal ∙ goes)
          (ap (λ (z : Desk). has_room z.fds) desk ∙ ap (λ (z : ℕ). nat_lt z descriptor_count) (sym low) ∙ room) (ap (λ (z : Desk). lowest z.fds) desk ∙ sym low) (file_by_type (u.all.nodes j) inode_type type_is) written)).wp)
        where
          fd : ℕ
          fd = lowest (u.all.fds h)

          isf : Bool
          isf = is_file (node_at u.all j).kind

          key : Key
          key = key_is (file_for j flags)

          T : Tree
          T = opened_tree u.all h fd (new_id u) j flags

          written : Walked c (opened_act path flags fd (new_id u) isf ∷ []) (told_step 0 s (Opened fd (new_id u) isf) ∷ es)
          written = walking_told c [] s (Opened fd (new_id u) isf) 0 es told

          -- what was noted before has the type that it had
          notes : (m : Note) → (u.desks h).noted ≡ Some m → Some j ≡ Some m.number → type_of (u.all.nodes m.number) ≡ m.inode_type
          notes m is q =
              let g : j ≡ m.number = cc in
              let r = my_refs h u O1 m.number own1 in
              let k = on.notes m (ap (λ (o : Own). o.desk.noted) (sym own1) ∙ is) in
              inv.noted h m lt is (inl (omega (arith, r, k))) (elim (either (u.alone m.number)) [ inr z ↦ z | inl z ↦ absurd (let a = (inv.alone m.number z).dead in let l : is_live (u.all.nodes m.number) ≡ true = ap (λ (i : ℕ). is_live (u.all.nodes i)) (sym g) ∙ live_j in cc (a, l)) ])

          ua : World
          ua = record u { harts = with_walk u.harts h None (Some j) }

          fair_a : Fair h u ua
          fair_a = fair inv (walk_did h None (Some j) u (ap (λ (o : Own). o.desk.lender) own1 ∙ free_o) lt inv (ap (λ (o : Own). o.mine.pending) own1 ∙ on.pending) notes (λ z q. absurd cc)
              (λ i q. let g : j ≡ i = cc in record { directory = d; name = e; keeps = (has_inode h d u O1 (locked_held x) own1 isd).0; finds = found ∙ ap (λ (z : ℕ). Some z) g }))

          Oa : Own
          Oa = record O1 { mine = record { refs = O.mine.refs; walk = None; pending = Some j } }

          own_a : own_of h ua ≡ Oa
          own_a = own_walk h None (Some j) u O1 own1

          o : Opening h fd j flags ua Oa
          o = opening h fd j flags (node_at u.all j) ua Oa own_a free_o lt fair_a.inv (on.stays.opening ∙ ready.opening) refl room there (inr (ap (λ (z : Own). z.mine.pending) own_a))

          ub : World
          ub = opened_world h fd j flags ua

          fair_b : Fair h ua ub
          fair_b = fair fair_a.inv o.did

          Ob : Own
          Ob = record Oa { row = opened_row O.row fd (new_id u) key; desk = record (O.desk) { opening = Some fd } }

          note : Flagging h ub Ob (record (ub.desks h) { noted = Some (note_of ub.all j) }) (record (Ob.desk) { noted = Some (note_of ub.all j) }) ub.clean
          note = noting h j ub Ob o.owned free_o lt fair_b.inv

          uc : World
          uc = record ub { desks = put ub.desks h (record (ub.desks h) { noted = Some (note_of ub.all j) }) }

          O3 : Own
          O3 = record Ob { desk = record (Ob.desk) { noted = Some (note_of u.all j) } }

          P0 : Own
          P0 = record O0 { row = opened_row O0.row fd (new_id u) key; desk = record (O0.desk) { opening = Some fd } }

          M3 : Own
          M3 = record O3 { row = unopened_row O3.row fd; desk = record (O3.desk) { opening = None; left = None; full = true }; mine = record { refs = O.mine.refs; walk = None; pending = None } }

          none_fd : O.row.fds fd ≡ None
          none_fd = ap (λ (z : Own). z.row.fds fd) (sym own_a) ∙ o.none

          none_key : O.row.keys fd ≡ None
          none_key = ap (λ (z : Own). z.row.keys fd) (sym own_a) ∙ o.unkeyed

          bare : (i : ℕ) → own_names O3.row (record (O3.desk) { opening = None }) i ≡ true → own_names O.row O.desk i ≡ true
          bare i p = (λ z. own_names O.row (record (O.desk) { opening = (on.stays.opening ∙ ready.opening) z }) i) ∙ p

          spare : own_names P0.row P0.desk d ≡ true → (d ≡ j) ⊎ (0 < base d)
          spare y = elim (same_or d j) [ inl q ↦ inl q | inr ne ↦ inr (ready.spare d (sym (names_opened O0.row O0.desk fd (new_id u) key d ready.opening (eq_not j d (λ q. ne (sym q)))) ∙ y)) ]

          stays3 : Stays O3 P0
          stays3 = record { row = ap (λ (r : Row). opened_row r fd (new_id u) key) on.stays.row; ninodes = on.stays.ninodes; fds = on.stays.fds; hand = on.stays.hand; joined = on.stays.joined; directory = on.stays.directory; lent = on.stays.lent; lender = on.stays.lender; opening = refl; left = on.stays.left }

          k3 : Holding base ns P0 O3 (at_one d x) (λ i. 0 + one_if (d == i))
          k3 = holding_to P0 O3 k1 refl stays3 refl (λ i p q. names_opened O.row O.desk fd (new_id u) key i (on.stays.opening ∙ ready.opening) (eq_not j i (λ r. absurd (let a : times j ns ≡ times i ns = ap (λ (z : ℕ). times z ns) r in let b = fresh in omega (arith, a, b, p)))) ∙ q)

          back : Stays M3 O0
          back = record { row = row_back O.row fd (new_id u) key none_fd none_key ∙ on.stays.row; ninodes = on.stays.ninodes; fds = on.stays.fds; hand = on.stays.hand; joined = on.stays.joined; directory = on.stays.directory; lent = on.stays.lent; lender = on.stays.lender; opening = sym ready.opening; left = sym ready.left }

      at : (o : Option Cause) → open_kind flags (node_at u.all j).kind ≡ o → (r : Bool) → has_room (u.all.fds h) ≡ r → MoveFine version h look_cost n B Q es u (Look 0) (create_found path flags d e ns (Some j))
      at (Some k) q r p = refused_at k q
      at None q true p = goes_at q p
      at None q false p = full_at q p

  -- The name isn't there: a number is claimed for it.
  makes_new : (d : ℕ) (e : Name) (ns : List ℕ) (X : Node) (n : ℕ) (fs : List Step) (u : World) (w0 : World) (O : Own) → 18000 + 971 * length ns ≤ n → On version h s d e [] base ns O0 O w0 → own_of h u ≡ record O { inodes = put O.inodes d (Some (locked_held (Some X))) } → live_directory (Some X) ≡ true → look (λ i. Some X) d e ≡ None → Walked c [] fs
      → Safe (machine version) h B Q (create_found path flags d e ns None) n fs u
  makes_new d e ns X n fs u w0 O few on held live absent told =
      s-claim version OfFile held (on.stays.lender ∙ free) lt (omega (arith, few)) on.stays.joined (mendable ready k)
      (λ l2 i u2 q2 from below out zero held2. makes_file version h path flags lt joins ns d e X i l2 fs u2 _ flag (omega (arith, q2, few)) held2
      (pair_new _ d i (claimed_held OfFile) k (put_same nothing d (Some (locked_held (Some X)))) (λ j ne. put_other nothing d (Some (locked_held (Some X))) j ne) out refl refl refl refl refl)
      (let f = k.refs i in omega (arith, f, zero)) on.walk on.pending live absent on.names.0 from below
      (λ t q r. absurd (let a = on.notes t q in let b : O.mine.refs t.number ≡ O.mine.refs i = ap O.mine.refs r in omega (arith, a, b, zero))) told)
      (λ l2 u2 q2 held2. ended DiskInodes l2 u2 (omega (arith, q2, few)) held2)
      (λ l2 u2 q2 held2. ended MemInodes l2 u2 (omega (arith, q2, few)) held2)
    where
      O1 : Own
      O1 = record O { inodes = put O.inodes d (Some (locked_held (Some X))) }

      k : Holding base ns O0 O1 (at_one d (Some X)) (λ i. 0 + one_if (d == i))
      k = let k = holding_on version h s d e [] base ns O0 O w0 on in holding_set O1 d (Some (locked_held (Some X))) (λ i. 0 + one_if (d == i)) k (unlisted k d on.out) refl (stays_same O1 O O0 refl refl refl on.stays) (λ i ne. refl) (λ i. k.refs i)

      ended : (f : Full) (l2 : ℕ) (u2 : World) → 971 * length ns + 970 < l2 → own_of h u2 ≡ mended_own O1 → Safe (machine version) h B Q (give_up d (tail ns (full c f))) l2 fs u2
      ended f l2 u2 few2 held2 =
          s-give-end version h c (full c f) ns (at_one d (Some X)) d l2 fs u2 (mended_own O1) lt joins held2 few2 (holding_same (mended_own O1) k refl (stays_mended (mended_own O1) ready k.stays refl refl refl) refl) (put_same nothing d (Some (locked_held (Some X)))) (record { locked = refl; shared = refl; same = refl }) (λ i ne. put_other nothing d (Some (locked_held (Some X))) i ne) refl refl (inl refl)

  -- The parent is seen.
  sees : (d : ℕ) (e : Name) (ns : List ℕ) (n : ℕ) (es : List Step) (w0 : World) (O : Own) → 971 * length ns + 24000 ≤ n → On version h s d e [] base ns O0 O w0 → Walked c [] es → Safe (machine version) h B Q (create_in path flags d e ns) n es w0
  sees d e ns n es w0 O few on told =
      s-take-then version on.owns (on.stays.lender ∙ free) lt (omega (arith, few)) on.out (on_refers version on) (λ v inv ov. known_there h d v O inv ov lt on.out (on_refers version on) on.known) on.names.0 (λ u x inv own1. seen u x inv own1 (live_directory x) refl (look (λ j. x) d e) refl)
    where
      Goal : World → Option Node → Option Mark → P Reply → Type 0
      Goal u x m p = Fine (machine version) h (places version h (Take d (AtName e)) (seen_in version d (AtName e) x) m u) look_cost n B es u (marked version h m u) (λ l. Wp (machine version) h B Q p l (onto (own h (places version h (Take d (AtName e)) (seen_in version d (AtName e) x) m u)) es) (marked version h m u))

      -- what is marked and done, as the directory is
      as_seen : (u : World) (x : Option Node) (a : Bool) (f : Option ℕ) → live_directory x ≡ a → look (λ j. x) d e ≡ f → Goal u x (if a then looks_if (is_some f) else makes (GiveUpWalk s)) (if a then create_found path flags d e ns f else give_up d (tail ns (failed c NoEntry)))
          → Goal u x (looks_where s is_there (seen_in version d (AtName e) x)) (if is_live_face (face_of version x) then create_found path flags d e ns (look (λ j. x) d e) else give_up d (tail ns (failed c NoEntry)))
      as_seen u x a f q r good =
          subst (λ (b : Bool). Goal u x (if b then looks_if (is_some (look (λ j. x) d e)) else makes (GiveUpWalk s)) (if b then create_found path flags d e ns (look (λ j. x) d e) else give_up d (tail ns (failed c NoEntry)))) (sym (live_face version x ∙ q))
          (subst (λ (g : Option ℕ). Goal u x (if a then looks_if (is_some g) else makes (GiveUpWalk s)) (if a then create_found path flags d e ns g else give_up d (tail ns (failed c NoEntry)))) (sym r) good)

      seen : (u : World) (x : Option Node) → Inv u → own_of h u ≡ record O { inodes = put O.inodes d (Some (locked_held x)) } → (a : Bool) → live_directory x ≡ a → (f : Option ℕ) → look (λ j. x) d e ≡ f
          → Goal u x (looks_where s is_there (seen_in version d (AtName e) x)) (if is_live_face (face_of version x) then create_found path flags d e ns (look (λ j. x) d e) else give_up d (tail ns (failed c NoEntry)))
      seen u x inv own1 false q f r = as_seen u x false f q r
          (quit_good version h look_cost n d B Q es u (record O { inodes = put O.inodes d (Some (locked_held x)) }) (locked_held x) (record { step = s; at = d; next = e; rest = [] }) (give_up d (tail ns (failed c NoEntry))) own1 (on.stays.lender ∙ free) lt inv on.walk on.pending refl (put_same O.inodes d (Some (locked_held x))) q
          (begun_refused version c [] s NoEntry (quit_step s ∷ es) (follows path flags) (walking_quit c [] s es told)) (omega (arith, few)) (λ l u2 p held2.
          s-give-end version h c (failed c NoEntry) ns (at_one d x) d l (quit_step s ∷ es) u2 _ lt joins held2 (omega (arith, few, p))
          (let k = holding_on version h s d e [] base ns O0 O w0 on in holding_set (record O { inodes = put O.inodes d (Some (locked_held x)); mine = record { refs = O.mine.refs; walk = None; pending = None } }) d (Some (locked_held x)) (λ i. 0 + one_if (d == i)) k (unlisted k d on.out) refl (stays_same _ O O0 refl refl refl on.stays) (λ i ne. refl) (λ i. k.refs i))
          (put_same nothing d (Some (locked_held x))) (record { locked = refl; shared = refl; same = refl }) (λ i ne. put_other nothing d (Some (locked_held x)) i ne) refl refl
          (inr (written_by c (record { step = s; answer = Failed NoEntry } ∷ []) (quit_step s ∷ es) (failed c NoEntry) (walking_quit c [] s es told) (open_refused path flags NoEntry)))))
      seen u x inv own1 true q (Some j) r = as_seen u x true (Some j) q r (act d e ns n es w0 O (omega (arith, few)) on told u x j inv own1 q r)
      seen u None inv own1 true q None r = absurd cc
      seen u (Some X) inv own1 true q None r = as_seen u (Some X) true None q r (quiet version (fair_same inv) refl (omega (arith, few)) (λ l p. (makes_new d e ns X l es u w0 O (omega (arith, few, p)) on own1 q r told).wp))

pub create_ok : (version : Version) (h : ℕ) (path : List ℕ) (flags : ℕ) (w : World) → Inv w → (w.desks h).lender ≡ None → h < hart_count → Idle h w → creates flags ≡ true → AllNames version (elements version path)
    → Safe (machine version) h (Begun (covered_calls version) (calls.Open path flags)) (Ends (covered_calls version) h (calls.Open path flags)) (open_program version path flags) (path_cost version path + rest_cost) [] w
create_ok version h path flags w inv free lt idle flag named =
    subst (λ (b : Bool). Safe (machine version) h (Begun (covered_calls version) (calls.Open path flags)) (Ends (covered_calls version) h (calls.Open path flags)) (if b then open_new path flags (elements version path) else open_old version path flags) (path_cost version path + rest_cost) [] w) (sym flag)
    (same_program (elements version path) refl
    (s-naming version h (calls.Open path flags) (steps.Open path flags) (create_in path flags) (path_cost version path + rest_cost) w inv free lt idle (record { follows = follows path flags; ends = open_refused path flags NoEntry })
    (record { follows = refl; missing = λ b res. no_parent version b h path flags res flag; stays = λ b. refl; place = λ t q. open_place t h path flags lt; other = λ g q. absurd cc; finds = refl }) named (omega arith)
    (λ d e ms l fs u R few _ on walking. sees version h path flags w free lt inv idle flag d e ms l fs u R few on walking)))
  where
    same_program : (p : List Name) → elements version path ≡ p
        → Safe (machine version) h (Begun (covered_calls version) (calls.Open path flags)) (Ends (covered_calls version) h (calls.Open path flags)) (in_parent (calls.Open path flags) (steps.Open path flags) path (create_in path flags) (elements version path)) (path_cost version path + rest_cost) [] w
        → Safe (machine version) h (Begun (covered_calls version) (calls.Open path flags)) (Ends (covered_calls version) h (calls.Open path flags)) (open_new path flags (elements version path)) (path_cost version path + rest_cost) [] w
    same_program [] q ok = subst (λ (es : List Name). Safe (machine version) h (Begun (covered_calls version) (calls.Open path flags)) (Ends (covered_calls version) h (calls.Open path flags)) (open_new path flags es) (path_cost version path + rest_cost) [] w) (sym q)
        (subst (λ (es : List Name). Safe (machine version) h (Begun (covered_calls version) (calls.Open path flags)) (Ends (covered_calls version) h (calls.Open path flags)) (in_parent (calls.Open path flags) (steps.Open path flags) path (create_in path flags) es) (path_cost version path + rest_cost) [] w) q ok)
    same_program (e ∷ r) q ok = subst (λ (es : List Name). Safe (machine version) h (Begun (covered_calls version) (calls.Open path flags)) (Ends (covered_calls version) h (calls.Open path flags)) (open_new path flags es) (path_cost version path + rest_cost) [] w) (sym q)
        (subst (λ (es : List Name). Safe (machine version) h (Begun (covered_calls version) (calls.Open path flags)) (Ends (covered_calls version) h (calls.Open path flags)) (in_parent (calls.Open path flags) (steps.Open path flags) path (create_in path flags) es) (path_cost version path + rest_cost) [] w) q ok)
