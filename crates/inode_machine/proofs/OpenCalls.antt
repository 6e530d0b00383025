-- An open without CREATE is right, whatever the other harts do.
use Rattle.image_versions.specs.declared.version.Version.{Version}
use Rattle.inode_machine.proofs.Vocabulary.{◌≡◌, ◌⊎◌, inl, inr, ℕ, ◌+◌, ◌*◌, ◌<◌, ◌≤◌, Bool, true, false, ◌==◌, ◌||◌, nat_lt, List, [], ◌∷◌, length, Option, Some, None, refl, sym, ◌∙◌, ap, subst, arith, if◌then◌else◌, own, onto, Fine, Safe, Wp, Begun, Ends, Cause, Descriptors, NoEntry, Reply, Call, Node, Action, StepAnswer, Failed, Opened, NoRoom, hart_count, descriptor_count, root, Name, Tree, put, elements, hold_names, is_absolute, is_live, live_directory, look, settle, start_of, creates, has_room, is_file, lowest, node_at, node_or, open_kind, IsInPlace, Key, Row, key_is, key_names, row_of, settle_again, look_live, either, eq_is, put_same, put_other, live_some, look_same, Deed, Walk, Move, Stage, Step, IsNext, begins, Begin, Look, Desk, Note, World, stage_of, UpStart, InodeType, OfDirectory, open_refusal, type_of, type_of_kind, counted_up, is_at, with_walk, Made, acts, begun, made_by, marked, new_id, places, Held, Own, key_in, own_names, own_of, Idle, Inv, machine, ThisP as P, WalkStop, NoMemory, failed, makes, start, stopped, tail, walk, walk_step, file_for, open_at, open_new, open_old, open_program, limit, covered_calls, look_cost}
use Rattle.plain_tree.specs.declared.call.Call.TheVariants as calls
use Rattle.plain_tree.specs.declared.step.Action.TheVariants as steps
use Rattle.inode_machine.proofs.Basics.{AllNames, Fair, fair, fair_then, has_inode, has_node, locked_held, my_refs, noted_type, moves_good, own_walk, stage_walk, walk_did, lowest_same, Flagging, not_at, s-join, KeepsHold, MoveFine, mends, note_of, noting, one_at, listed_among, type_of_directory, At, Gone, Lost, On, Ready, Stays, names_stay, stays_same, s-arrive, s-walk, Finding, finding, found_world, last_made, last_takes, refused_made, start_made, start_takes, MayRest, Walked, follows_begin, follows_look, follows_lost, follows_quit, gone_at, home, joined_own, looks, may_rest, missed, ready_at, s-lost, tells, times_none, walked_begun, walked_tells, Opening, fresh_id, opened_row, opened_tree, opened_world, opening, row_back, unopened_row}
use Rattle.inode_machine.proofs.Beginnings.{Begun as StartsAt, root_type, s-begin, s-start}
use Rattle.inode_machine.proofs.Unopens.{mends_opened}
use Rattle.inode_machine.proofs.SoFar.{full_begins}
use Rattle.inode_machine.proofs.Opens.{open_finder, open_full, open_full_step, open_kind_is, open_made, open_missing, open_place, open_refused_step, open_step, refusal_by_type, file_by_type}
use Rattle.inode_machine.proofs.OpenEnds.{open_follows, opened_begins, open_refused, opened_act, s-open-full, s-open-refused, s-opened}

-- what it names with a new descriptor it named, or has opened
names_opened : (r : Row) (d : Desk) (fd id : ℕ) (key : Key) (i : ℕ) → d.opening ≡ None → own_names (opened_row r fd id key) (record d { opening = Some fd }) i ≡ true → (i ≡ key.number) ⊎ (own_names r d i ≡ true)
names_opened r d fd id key i none q = elim (either (key.number == i)) [
  | inl y ↦ inl (sym (eq_is key.number i y))
  | inr y ↦ inr ((λ z. (r.cwd == i) || (hold_names r.hold i || (key_names (key_in r.keys (none z)) i || is_at d.left i)))
      ∙ sym ((λ z. (r.cwd == i) || (hold_names r.hold i || (key_names (put_same r.keys fd (Some key) z) i || is_at d.left i))) ∙ (λ z. (r.cwd == i) || (hold_names r.hold i || (y z || is_at d.left i)))) ∙ q)
]

module _ (version : Version) (h : ℕ) (path : List ℕ) (flags : ℕ) (w : World) (free : (w.desks h).lender ≡ None) (lt : h < hart_count) (holds : Inv w) (idle : Idle h w) (plain : creates flags ≡ false) (spelled : AllNames version (elements version path)) where
  abbrev c : Call
  c = calls.Open path flags

  abbrev s : Action
  s = steps.Open path flags

  abbrev B : List Step → Type 0
  B = Begun (covered_calls version) c

  abbrev Q : Reply → List Step → World → Type 0
  Q = Ends (covered_calls version) h c

  abbrev O0 : Own
  O0 = joined_own (own_of h w)

  abbrev base : ℕ → ℕ
  base = home (own_of h w)

  ready : Ready base O0
  ready = ready_at h w free lt holds idle

  may : MayRest O0 base
  may = may_rest h w idle

  abbrev deed_of : StepAnswer → Deed
  deed_of a = record { act = record { step = s; answer = a }; new = 0 }

  begun_refused : (v : Move) (k : Cause) (es : List Step) → IsNext c [] (begins v) → Walked c [] es → Walked c (record { step = s; answer = Failed k } ∷ []) (tells v (deed_of (Failed k)) ∷ es) × B (tells v (deed_of (Failed k)) ∷ es)
  begun_refused v k es next told = let a = walked_tells c [] v (deed_of (Failed k)) es next told in (a, walked_begun version c (record { step = s; answer = Failed k } ∷ []) (tells v (deed_of (Failed k)) ∷ es) [] (failed c k) a (open_refused path flags k))

  -- its last step may find no descriptor free
  full_begun : (v : Move) (es : List Step) → IsNext c [] (begins v) → Walked c [] es → B (tells v (deed_of (NoRoom Descriptors)) ∷ es)
  full_begun v es next told = full_begins version c es v (Some (deed_of (Failed NoEntry))) (Some (deed_of (NoRoom Descriptors))) (begun_refused v NoEntry es next told).1

  begun_opened : (v : Move) (fd id : ℕ) (b : Bool) (es : List Step) → IsNext c [] (begins v) → Walked c [] es → Walked c (opened_act path flags fd id b ∷ []) (tells v (deed_of (Opened fd id b)) ∷ es) × B (tells v (deed_of (Opened fd id b)) ∷ es)
  begun_opened v fd id b es next told = let a = walked_tells c [] v (deed_of (Opened fd id b)) es next told in (a, opened_begins version path flags fd id b (tells v (deed_of (Opened fd id b)) ∷ es) a)

  abbrev lost : WalkStop → List ℕ → P Reply
  lost why ns = tail ns (stopped c why)

  loses : (why : WalkStop) (ms : List ℕ) (l : ℕ) (es : List Step) (u : World) (R : Own) → 971 * length ms + 2000 ≤ l → Gone h base ms O0 R u → Lost (Walked c (missed s ∷ [])) why es R → Safe (machine version) h B Q (lost why ms) l es u
  loses why ms l es u R few gone told = s-lost version h c s 2000 base O0 lt ready may (open_follows path flags) (omega arith) why ms l es u R few gone told

  place : (t : Tree) → row_of t h ≡ O0.row → IsInPlace t h s
  place t e = open_place t h path flags lt

  other : (g : ℕ) → s ≡ steps.Inherit g → ⊥
  other g e = absurd cc

  -- the table's lowest descriptor is the tree's
  low_is : (v : World) (O : Own) → Inv v → own_of h v ≡ O → O.desk.opening ≡ None → lowest (v.all.fds h) ≡ lowest O.desk.fds
  low_is v O inv ov none = lowest_same (v.desks h).fds (v.all.fds h) v.ids (λ i l. inv.tied.fds h i lt l (not_at v h i (ap (λ (o : Own). o.desk.opening) ov ∙ none))) ∙ ap (λ (o : Own). lowest o.desk.fds) ov

  -- The last element is found.
  act : (d : ℕ) (e : Name) (ns : List ℕ) (n : ℕ) (es : List Step) (w0 : World) (O : Own) → 2600 + 971 * length ns + 2000 ≤ n → On version h s d e [] base ns O0 O w0 → Walked c [] es
      → (u : World) (x : Option Node) (j : ℕ) → Inv u → own_of h u ≡ record O { inodes = put O.inodes d (Some (locked_held x)) } → live_directory x ≡ true → look (λ i. x) d e ≡ Some j → MoveFine version h look_cost n B Q es u (Look 0) (walk_step d ns (open_at path flags) lost (Some j))
  act d e ns n es w0 O few on told u x j inv own1 live finds = at (open_kind flags (node_at u.all j).kind) refl (has_room (u.all.fds h)) refl
    where
      free_o : O.desk.lender ≡ None
      free_o = on.stays.lender ∙ free

      y : Walk
      y = record { step = s; at = d; next = e; rest = [] }

      O1 : Own
      O1 = record O { inodes = put O.inodes d (Some (locked_held x)) }

      isd : O1.inodes d ≡ Some (locked_held x)
      isd = put_same O.inodes d (Some (locked_held x))

      found : look u.all.nodes d e ≡ Some j
      found = look_same (λ i. x) u.all.nodes d e (has_node h d u O1 (locked_held x) own1 isd) ∙ finds

      live_j : is_live (u.all.nodes j) ≡ true
      live_j = look_live u.all d j e inv.well found

      lives : (z : Held) → O.inodes j ≡ Some z → is_live z.node ≡ true
      lives z q = ap (λ (o : Option Node). is_live o) (sym (has_node h j u O1 z own1 (put_other O.inodes d (Some (locked_held x)) j (λ k. absurd (let m : O.inodes j ≡ None = ap O.inodes k ∙ on.out in cc (m, q))) ∙ q))) ∙ live_j

      there : u.all.nodes j ≡ Some (node_or (u.all.nodes j))
      there = live_some (u.all.nodes j) live_j

      inode_type : InodeType
      inode_type = type_of_kind (node_at u.all j).kind

      type_is : type_of (u.all.nodes j) ≡ Some inode_type
      type_is = ap (λ (o : Option Node). type_of o) there

      refusal : open_refusal (flags == 0) inode_type ≡ open_kind flags (node_at u.all j).kind
      refusal = sym (refusal_by_type (u.all.nodes j) flags inode_type type_is)

      f : Finding h j u O1
      f = finding h d j e u O1 own1 free_o lt inv on.pending (has_inode h d u O1 (locked_held x) own1 isd).0 found

      O2 : Own
      O2 = record O1 { mine = record { refs = O.mine.refs; walk = None; pending = Some j }; desk = record (O.desk) { noted = Some (note_of u.all j) } }

      made : (m : Made) → acts version u.all h s (Some j) (Some (d, e)) 0 (new_id u) ≡ m → made_by version u.all h (new_id u) (u.harts h).walk (Look 0) ≡ m
      made m q = last_made version u.all h (u.harts h).walk y 0 (new_id u) j (ap (λ (o : Own). o.mine.walk) own1 ∙ on.walk) refl found ∙ q

      walks_are : (stage_of (record u { harts = with_walk u.harts h None (Some j) })).walk ≡ put (λ g. (u.harts g).walk) h None
      walks_are = ap (λ (m : Stage). m.walk) (stage_walk h None (Some j) u)

      names0 : (i : ℕ) → own_names O.row O.desk i ≡ true → 0 < O.mine.refs i
      names0 i q = let b = ready.spare i (sym (names_stay O O0 on.stays i) ∙ q) in let r = on.refs i in omega (arith, b, r)

      keeps_hold : KeepsHold O.row.hold
      keeps_hold = subst (λ (r : Row). KeepsHold r.hold) (sym on.stays.row) ready.hold

      -- its type is what it was at the lookup
      typed : (P0 R : Own) (ms : List ℕ) (u2 : World) → At h j base ms None (Some (note_of u.all j)) P0 R u2 → (v : World) → Inv v → own_of h v ≡ R → type_of (v.all.nodes j) ≡ Some inode_type
      typed P0 R ms u2 at v inv2 ov = noted_type h j R (note_of u.all j) at.noted refl at.out (let r = at.refs j in let o = one_at j in omega (arith, r, o)) lt v inv2 ov ∙ type_is

      noted_stays : (R : Own) → R.row ≡ O.row → R.ninodes ≡ O.ninodes → R.desk ≡ record (O.desk) { noted = Some (note_of u.all j) } → Stays R O0
      noted_stays R row size desk = stays_same R (record O { desk = record (O.desk) { noted = Some (note_of u.all j) } }) O0 row size desk (record { row = on.stays.row; ninodes = on.stays.ninodes; fds = on.stays.fds; hand = on.stays.hand; joined = on.stays.joined; directory = on.stays.directory; lent = on.stays.lent; lender = on.stays.lender; opening = on.stays.opening; left = on.stays.left })

      -- The step changes nothing of the tree.
      M : Own
      M = record O2 { desk = record (O2.desk) { opening = None; left = None; full = true }; mine = record { refs = O.mine.refs; walk = None; pending = None } }

      arrives_same : (l : ℕ) (fs : List Step) (v : World) → 980 + 971 * length ns + 2000 ≤ l → own_of h v ≡ O2
          → ((ms : List ℕ) (l2 : ℕ) (u2 : World) (R : Own) → 971 * length ms + 2000 ≤ l2 → At h j base ms None (Some (note_of u.all j)) O0 R u2 → Safe (machine version) h B Q (open_at path flags j ms) l2 fs u2)
          → Safe (machine version) h B Q (walk_step d ns (open_at path flags) lost (Some j)) l fs v
      arrives_same l fs v few2 ov goes =
          s-arrive version h s B Q (Walked c []) (Walked c (missed s ∷ [])) base O0 2000 lt ready lost loses (follows_look version c s (open_follows path flags)) (follows_lost version c s (open_follows path flags)) (follows_quit version c s (open_follows path flags)) (λ t. open_missing version t h path flags None plain) (λ t. refl) place other refl
          0 d j x None ns l fs v O O2 O0 M (open_at path flags) ov (omega (arith, few2)) on.stays on.listed on.out on.refs
          (record { inodes = refl; refs = refl; walk = refl; lands = λ z p. absurd cc; pending = refl; lives = lives; names = λ i p. inr p })
          (noted_stays O2 refl refl refl) free
          (λ v2 inv2 ov2. let m = mends h v2 O2 ov2 free_o lt inv2 (on.stays.opening ∙ ready.opening) (on.stays.left ∙ ready.left) keeps_hold names0 in record { fair = m.fair; bad = m.bad; owned = m.owned })
          (record { stays = record { row = on.stays.row; ninodes = on.stays.ninodes; fds = on.stays.fds; hand = on.stays.hand; joined = on.stays.joined; directory = on.stays.directory; lent = on.stays.lent; lender = on.stays.lender; opening = sym ready.opening; left = sym ready.left }; inodes = refl; refs = refl; walk = refl; pending = refl; full = refl })
          (λ ms l2 u2 R few3 at2. goes ms l2 u2 R (omega (arith, few3)) at2)

      refused_at : (k : Cause) → open_kind flags (node_at u.all j).kind ≡ Some k → MoveFine version h look_cost n B Q es u (Look 0) (walk_step d ns (open_at path flags) lost (Some j))
      refused_at k why =
          let b = begun_refused (Look 0) k es tt told in
          moves_good version h look_cost n B Q es u u (Look 0) tt (walk_step d ns (open_at path flags) lost (Some j)) (made_by version u.all h (new_id u) (u.harts h).walk (Look 0)) (record { all = u.all; walk = None; found = Some j; opened = None; entered = None; left = None; told = Some (deed_of (Failed k)) })
          (made _ (refused_made version u.all h s (Some j) (Some (d, e)) 0 (new_id u) k (open_kind_is version u.all h j path flags (Some (d, e)) plain ∙ why)))
          f.fair
          (last_takes version h d u (found_world h j u) O1 (locked_held x) y j (Failed k) (new_id u) u.all (open_finder path flags plain) own1 inv on.walk refl isd live refl found (open_refused_step version u.all h j (new_id u) path flags (Some (d, e)) k lt plain why) refl walks_are)
          b.1 (omega (arith, few))
          (λ l q. (arrives_same l (tells (Look 0) (deed_of (Failed k)) ∷ es) (found_world h j u) (omega (arith, q, few)) f.owned (λ ms l2 u2 R few2 at2.
          s-open-refused version h path flags w free lt holds idle j ms (Some (note_of u.all j)) inode_type k l2 (tells (Look 0) (deed_of (Failed k)) ∷ es) u2 R (omega (arith, few2)) at2 (typed O0 R ms u2 at2) (refusal ∙ why) b.0)).wp)

      full_at : open_kind flags (node_at u.all j).kind ≡ None → has_room (u.all.fds h) ≡ false → MoveFine version h look_cost n B Q es u (Look 0) (walk_step d ns (open_at path flags) lost (Some j))
      full_at goes room =
          moves_good version h look_cost n B Q es u u (Look 0) tt (walk_step d ns (open_at path flags) lost (Some j)) (made_by version u.all h (new_id u) (u.harts h).walk (Look 0)) (record { all = u.all; walk = None; found = Some j; opened = None; entered = None; left = None; told = Some (deed_of (NoRoom Descriptors)) })
          (made _ (open_full version u.all h j 0 (new_id u) path flags (Some (d, e)) plain goes room))
          f.fair
          (last_takes version h d u (found_world h j u) O1 (locked_held x) y j (NoRoom Descriptors) (new_id u) (settle u.all) (open_finder path flags plain) own1 inv on.walk refl isd live refl found (open_full_step version u.all h j (new_id u) path flags (Some (d, e)) lt plain goes room) (sym (settle_again u.all)) walks_are)
          (full_begun (Look 0) es tt told) (omega (arith, few))
          (λ l q. (arrives_same l (tells (Look 0) (deed_of (NoRoom Descriptors)) ∷ es) (found_world h j u) (omega (arith, q, few)) f.owned (λ ms l2 u2 R few2 at2.
          s-open-full version h path flags w free lt holds idle j ms (Some (note_of u.all j)) inode_type l2 (tells (Look 0) (deed_of (NoRoom Descriptors)) ∷ es) u2 R (omega (arith, few2)) at2 (typed O0 R ms u2 at2) (refusal ∙ goes)
          ((λ z. has_room (at2.stays.fds z)) ∙ sym (λ z. has_room (on.stays.fds z)) ∙ ap (λ (z : ℕ). nat_lt z descriptor_count) (sym (low_is u O1 inv own1 (on.stays.opening ∙ ready.opening))) ∙ room))).wp)

      goes_at : open_kind flags (node_at u.all j).kind ≡ None → has_room (u.all.fds h) ≡ true → MoveFine version h look_cost n B Q es u (Look 0) (walk_step d ns (open_at path flags) lost (Some j))
      goes_at goes room =
          moves_good version h look_cost n B Q es u u (Look 0) tt (walk_step d ns (open_at path flags) lost (Some j)) (made_by version u.all h (new_id u) (u.harts h).walk (Look 0)) (record { all = T; walk = None; found = Some j; opened = Some (new_id u); entered = None; left = None; told = Some (deed_of (Opened fd (new_id u) isf)) })
          (made _ (open_made version u.all h j 0 (new_id u) path flags (Some (d, e)) plain goes room))
          (fair_then fair_a (fair_then fair_b note.fair))
          (last_takes version h d u uc O1 (locked_held x) y j (Opened fd (new_id u) isf) (new_id u) (settle T) (open_finder path flags plain) own1 inv on.walk refl isd live refl found (open_step version u.all h j (new_id u) path flags (Some (d, e)) lt plain goes room (fresh_id u inv).least) (sym (settle_again T)) walks_are)
          b.1 (omega (arith, few))
          (λ l q. (s-arrive version h s B Q (Walked c []) (Walked c (missed s ∷ [])) base O0 2000 lt ready lost loses (follows_look version c s (open_follows path flags)) (follows_lost version c s (open_follows path flags)) (follows_quit version c s (open_follows path flags)) (λ t. open_missing version t h path flags None plain) (λ t. refl) place other refl
          0 d j x None ns l (tells (Look 0) (deed_of (Opened fd (new_id u) isf)) ∷ es) uc O O3 P0 M3 (open_at path flags) note.owned (omega (arith, q, few)) on.stays on.listed on.out on.refs
          (record { inodes = refl; refs = refl; walk = refl; lands = λ z p. absurd cc; pending = refl; lives = lives; names = λ i p. names_opened O.row O.desk fd (new_id u) key i (on.stays.opening ∙ ready.opening) p })
          (record { row = ap (λ (r : Row). opened_row r fd (new_id u) key) on.stays.row; ninodes = on.stays.ninodes; fds = on.stays.fds; hand = on.stays.hand; joined = on.stays.joined; directory = on.stays.directory; lent = on.stays.lent; lender = on.stays.lender; opening = refl; left = on.stays.left }) free
          (λ v inv2 ov. mends_opened h fd v O3 ov free_o lt inv2 refl (on.stays.left ∙ ready.left) keeps_hold (λ i p. names0 i (bare i p)))
          (record { stays = record { row = row_back O.row fd (new_id u) key none_fd none_key ∙ on.stays.row; ninodes = on.stays.ninodes; fds = on.stays.fds; hand = on.stays.hand; joined = on.stays.joined; directory = on.stays.directory; lent = on.stays.lent; lender = on.stays.lender; opening = sym ready.opening; left = sym ready.left }; inodes = refl; refs = refl; walk = refl; pending = refl; full = refl })
          (λ ms l2 u2 R few2 at2. s-opened version h path flags w free lt holds idle j fd (new_id u) isf ms (Some (note_of u.all j)) inode_type l2 (tells (Look 0) (deed_of (Opened fd (new_id u) isf)) ∷ es) u2 R (omega (arith, few2)) at2 (typed P0 R ms u2 at2) (refusal ∙ goes)
          ((λ z. has_room (at2.stays.fds z)) ∙ sym (λ z. has_room (on.stays.fds z)) ∙ ap (λ (z : ℕ). nat_lt z descriptor_count) (sym low) ∙ room)
          ((λ z. lowest (at2.stays.fds z)) ∙ sym (λ z. lowest (on.stays.fds z)) ∙ sym low) (file_by_type (u.all.nodes j) inode_type type_is) b.0)).wp)
        where
          fd : ℕ
          fd = lowest (u.all.fds h)

          isf : Bool
          isf = is_file (node_at u.all j).kind

          key : Key
          key = key_is (file_for j flags)

          T : Tree
          T = opened_tree u.all h fd (new_id u) j flags

          b : Walked c (opened_act path flags fd (new_id u) isf ∷ []) (tells (Look 0) (deed_of (Opened fd (new_id u) isf)) ∷ es) × B (tells (Look 0) (deed_of (Opened fd (new_id u) isf)) ∷ es)
          b = begun_opened (Look 0) fd (new_id u) isf es tt told

          low : lowest (u.all.fds h) ≡ lowest O.desk.fds
          low = low_is u O1 inv own1 (on.stays.opening ∙ ready.opening)

          -- what was noted before has the type that it had
          notes : (m : Note) → (u.desks h).noted ≡ Some m → Some j ≡ Some m.number → type_of (u.all.nodes m.number) ≡ m.inode_type
          notes m is q =
              let g : j ≡ m.number = cc in
              let r = my_refs h u O1 m.number own1 in
              let k = on.notes m (ap (λ (o : Own). o.desk.noted) (sym own1) ∙ is) in
              inv.noted h m lt is (inl (omega (arith, r, k))) (elim (either (u.alone m.number)) [ inr z ↦ z | inl z ↦ absurd (let a = (inv.alone m.number z).dead in let l : is_live (u.all.nodes m.number) ≡ true = ap (λ (i : ℕ). is_live (u.all.nodes i)) (sym g) ∙ live_j in cc (a, l)) ])

          ua : World
          ua = record u { harts = with_walk u.harts h None (Some j) }

          fair_a : Fair h u ua
          fair_a = fair inv (walk_did h None (Some j) u (ap (λ (o : Own). o.desk.lender) own1 ∙ free_o) lt inv (ap (λ (o : Own). o.mine.pending) own1 ∙ on.pending) notes (λ z q. absurd cc)
              (λ i q. let g : j ≡ i = cc in record { directory = d; name = e; keeps = (has_inode h d u O1 (locked_held x) own1 isd).0; finds = found ∙ ap (λ (z : ℕ). Some z) g }))

          Oa : Own
          Oa = record O1 { mine = record { refs = O.mine.refs; walk = None; pending = Some j } }

          own_a : own_of h ua ≡ Oa
          own_a = own_walk h None (Some j) u O1 own1

          o : Opening h fd j flags ua Oa
          o = opening h fd j flags (node_at u.all j) ua Oa own_a free_o lt fair_a.inv (on.stays.opening ∙ ready.opening) refl room there (inr (ap (λ (z : Own). z.mine.pending) own_a))

          ub : World
          ub = opened_world h fd j flags ua

          fair_b : Fair h ua ub
          fair_b = fair fair_a.inv o.did

          Ob : Own
          Ob = record Oa { row = opened_row O.row fd (new_id u) key; desk = record (O.desk) { opening = Some fd } }

          note : Flagging h ub Ob (record (ub.desks h) { noted = Some (note_of ub.all j) }) (record (Ob.desk) { noted = Some (note_of ub.all j) }) ub.clean
          note = noting h j ub Ob o.owned free_o lt fair_b.inv

          uc : World
          uc = record ub { desks = put ub.desks h (record (ub.desks h) { noted = Some (note_of ub.all j) }) }

          O3 : Own
          O3 = record Ob { desk = record (Ob.desk) { noted = Some (note_of u.all j) } }

          P0 : Own
          P0 = record O0 { row = opened_row O0.row fd (new_id u) key; desk = record (O0.desk) { opening = Some fd } }

          M3 : Own
          M3 = record O3 { row = unopened_row O3.row fd; desk = record (O3.desk) { opening = None; left = None; full = true }; mine = record { refs = O.mine.refs; walk = None; pending = None } }

          none_fd : O.row.fds fd ≡ None
          none_fd = ap (λ (z : Own). z.row.fds fd) (sym own_a) ∙ o.none

          none_key : O.row.keys fd ≡ None
          none_key = ap (λ (z : Own). z.row.keys fd) (sym own_a) ∙ o.unkeyed

          bare : (i : ℕ) → own_names O3.row (record (O3.desk) { opening = None }) i ≡ true → own_names O.row O.desk i ≡ true
          bare i p = (λ z. own_names O.row (record (O.desk) { opening = (on.stays.opening ∙ ready.opening) z }) i) ∙ p

      at : (o : Option Cause) → open_kind flags (node_at u.all j).kind ≡ o → (r : Bool) → has_room (u.all.fds h) ≡ r → MoveFine version h look_cost n B Q es u (Look 0) (walk_step d ns (open_at path flags) lost (Some j))
      at (Some k) q r p = refused_at k q
      at None q true p = goes_at q p
      at None q false p = full_at q p

  -- A path without elements leads to its start, which is a directory.
  starts : (i n : ℕ) (v : World) (O : Own) (w1 : World) → 3000 ≤ n → elements version path ≡ [] → Gone h base [] O0 O w1 → Inv v → own_of h v ≡ O → StartsAt h i s base [] O v
      → Fine (machine version) h (places version h (UpStart (is_absolute path)) (Some i) (makes (Begin s 0)) v) 0 n B [] v (marked version h (makes (Begin s 0)) (counted_up h i v)) (λ l. Wp (machine version) h B Q (open_at path flags i []) l (onto (own h (places version h (UpStart (is_absolute path)) (Some i) (makes (Begin s 0)) v)) []) (marked version h (makes (Begin s 0)) (counted_up h i v)))
  starts i n v O w1 few none gone inv ov at = by (open_kind flags (node_at v.all p0).kind) refl (has_room (v.all.fds h)) refl
    where
      p0 : ℕ
      p0 = start_of v.all h path

      u1 : World
      u1 = counted_up h i v

      u2 : World
      u2 = record u1 { harts = with_walk u1.harts h None None }

      O2 : Own
      O2 = record O { mine = record { refs = put O.mine.refs i (O.mine.refs i + 1); walk = None; pending = None } }

      type_is : type_of (v.all.nodes i) ≡ Some OfDirectory
      type_is = at.inode_type

      refusal : open_refusal (flags == 0) OfDirectory ≡ open_kind flags (node_at v.all p0).kind
      refusal = sym (refusal_by_type (v.all.nodes p0) flags OfDirectory (ap (λ (z : ℕ). type_of (v.all.nodes z)) (sym at.start) ∙ at.inode_type))

      stills : Fair h u1 u2
      stills = fair at.up.fair.inv (walk_did h None None u1 (ap (λ (o : Own). o.desk.lender) at.up.owned ∙ gone.stays.lender ∙ free) lt at.up.fair.inv (ap (λ (o : Own). o.mine.pending) at.up.owned) (λ m q x. absurd cc) (λ z q. absurd cc) (λ z q. absurd cc))

      own2 : own_of h u2 ≡ O2
      own2 = own_walk h None None u1 (record O { mine = record { refs = put O.mine.refs i (O.mine.refs i + 1); walk = O.mine.walk; pending = None } }) at.up.owned

      walks_are : (stage_of u2).walk ≡ put (λ g. (v.harts g).walk) h None
      walks_are = ap (λ (m : Stage). m.walk) (stage_walk h None None u1) ∙ ap (λ (m : Stage). put m.walk h None) at.up.stage

      made : (m : Made) → acts version v.all h s (Some p0) None 0 (new_id v) ≡ m → begun version v.all h s (elements version path) 0 (new_id v) ≡ record m { found = None }
      made m q = start_made version v.all h s 0 (new_id v) none ∙ ap (λ (z : Made). record z { found = None }) q

      -- the start is a directory still
      typed : (P0 R : Own) (v2 : World) → P0.row.cwd ≡ O0.row.cwd → R.row ≡ P0.row → Inv v2 → own_of h v2 ≡ R → type_of (v2.all.nodes i) ≡ Some OfDirectory
      typed P0 R v2 same row inv2 ov2 = by_start (is_absolute path) (at.start)
        where
          by_start : (b : Bool) → i ≡ (if b then root else v.all.cwd h) → type_of (v2.all.nodes i) ≡ Some OfDirectory
          by_start true q = ap (λ (z : ℕ). type_of (v2.all.nodes z)) q ∙ root_type v2.all inv2.well
          by_start false q =
              let r : i ≡ v2.all.cwd h = q ∙ ap (λ (o : Own). o.row.cwd) ov ∙ ap (λ (r : Row). r.cwd) gone.stays.row ∙ sym same ∙ sym (ap (λ (r : Row). r.cwd) row) ∙ sym (ap (λ (o : Own). o.row.cwd) ov2) in
              ap (λ (z : ℕ). type_of (v2.all.nodes z)) r ∙ type_of_directory v2.all h inv2.well lt

      low : lowest (v.all.fds h) ≡ lowest O.desk.fds
      low = low_is v O inv ov (gone.stays.opening ∙ ready.opening)

      same_at : (u : World) → own_of h u ≡ O2 → At h i base [] None O.desk.noted O0 O2 u
      same_at u own = record {
        owns = own;
        stays = stays_same O2 O O0 refl refl refl gone.stays;
        noted = refl;
        walk = refl;
        pending = refl;
        refs = at.refs;
        listed = listed_among O O2 base [] gone.listed (λ j. refl) (λ j t. put_other O.mine.refs i (O.mine.refs i + 1) j (at.apart j t)) (λ j t p. p);
        out = at.out;
      }

      refused_at : (k : Cause) → open_kind flags (node_at v.all p0).kind ≡ Some k
          → Fine (machine version) h (places version h (UpStart (is_absolute path)) (Some i) (makes (Begin s 0)) v) 0 n B [] v (marked version h (makes (Begin s 0)) (counted_up h i v)) (λ l. Wp (machine version) h B Q (open_at path flags i []) l (onto (own h (places version h (UpStart (is_absolute path)) (Some i) (makes (Begin s 0)) v)) []) (marked version h (makes (Begin s 0)) (counted_up h i v)))
      refused_at k why =
          let b = begun_refused (Begin s 0) k [] (open_follows path flags).first (λ xs r p. p) in
          moves_good version h 0 n B Q [] v u1 (Begin s 0) tt (open_at path flags i []) (begun version v.all h s (elements version path) 0 (new_id v)) (record { all = v.all; walk = None; found = None; opened = None; entered = None; left = None; told = Some (deed_of (Failed k)) })
          (made _ (refused_made version v.all h s (Some p0) None 0 (new_id v) k (open_kind_is version v.all h p0 path flags None plain ∙ why)))
          (fair_then at.up.fair stills)
          (start_takes version h v u2 s (Failed k) (new_id v) v.all (open_finder path flags plain) lt inv (ap (λ (o : Own). o.mine.walk) ov ∙ gone.walk) none (open_place (settle v.all) h path flags lt) (open_refused_step version v.all h p0 (new_id v) path flags None k lt plain why) refl walks_are)
          b.1 (omega (arith, few))
          (λ l q. (s-open-refused version h path flags w free lt holds idle i [] O.desk.noted OfDirectory k l (tells (Begin s 0) (deed_of (Failed k)) ∷ []) u2 O2 (omega (arith, q, few)) (same_at u2 own2) (λ v2 inv2 ov2. typed O0 O2 v2 refl gone.stays.row inv2 ov2) (refusal ∙ why) b.0).wp)

      full_at : open_kind flags (node_at v.all p0).kind ≡ None → has_room (v.all.fds h) ≡ false
          → Fine (machine version) h (places version h (UpStart (is_absolute path)) (Some i) (makes (Begin s 0)) v) 0 n B [] v (marked version h (makes (Begin s 0)) (counted_up h i v)) (λ l. Wp (machine version) h B Q (open_at path flags i []) l (onto (own h (places version h (UpStart (is_absolute path)) (Some i) (makes (Begin s 0)) v)) []) (marked version h (makes (Begin s 0)) (counted_up h i v)))
      full_at goes room =
          moves_good version h 0 n B Q [] v u1 (Begin s 0) tt (open_at path flags i []) (begun version v.all h s (elements version path) 0 (new_id v)) (record { all = v.all; walk = None; found = None; opened = None; entered = None; left = None; told = Some (deed_of (NoRoom Descriptors)) })
          (made _ (open_full version v.all h p0 0 (new_id v) path flags None plain goes room))
          (fair_then at.up.fair stills)
          (start_takes version h v u2 s (NoRoom Descriptors) (new_id v) (settle v.all) (open_finder path flags plain) lt inv (ap (λ (o : Own). o.mine.walk) ov ∙ gone.walk) none (open_place (settle v.all) h path flags lt) (open_full_step version v.all h p0 (new_id v) path flags None lt plain goes room) (sym (settle_again v.all)) walks_are)
          (full_begun (Begin s 0) [] (open_follows path flags).first (λ xs r p. p)) (omega (arith, few))
          (λ l q. (s-open-full version h path flags w free lt holds idle i [] O.desk.noted OfDirectory l (tells (Begin s 0) (deed_of (NoRoom Descriptors)) ∷ []) u2 O2 (omega (arith, q, few)) (same_at u2 own2) (λ v2 inv2 ov2. typed O0 O2 v2 refl gone.stays.row inv2 ov2) (refusal ∙ goes)
          (ap (λ (z : ℕ). nat_lt z descriptor_count) (sym low) ∙ room)).wp)

      goes_at : open_kind flags (node_at v.all p0).kind ≡ None → has_room (v.all.fds h) ≡ true
          → Fine (machine version) h (places version h (UpStart (is_absolute path)) (Some i) (makes (Begin s 0)) v) 0 n B [] v (marked version h (makes (Begin s 0)) (counted_up h i v)) (λ l. Wp (machine version) h B Q (open_at path flags i []) l (onto (own h (places version h (UpStart (is_absolute path)) (Some i) (makes (Begin s 0)) v)) []) (marked version h (makes (Begin s 0)) (counted_up h i v)))
      goes_at goes room =
          moves_good version h 0 n B Q [] v u1 (Begin s 0) tt (open_at path flags i []) (begun version v.all h s (elements version path) 0 (new_id v)) (record { all = opened_tree v.all h fd (new_id v) i flags; walk = None; found = None; opened = Some (new_id v); entered = None; left = None; told = Some (deed_of (Opened fd (new_id v) isf)) })
          (made _ (open_made version v.all h p0 0 (new_id v) path flags None plain goes room) ∙ (λ z. record { all = opened_tree v.all h fd (new_id v) (sym at.start z) flags; walk = None; found = None; opened = Some (new_id v); entered = None; left = None; told = Some (deed_of (Opened fd (new_id v) isf)) }))
          (fair_then at.up.fair (fair_then stills (fair stills.inv o.did)))
          (start_takes version h v u3 s (Opened fd (new_id v) isf) (new_id v) (settle (opened_tree v.all h fd (new_id v) p0 flags)) (open_finder path flags plain) lt inv (ap (λ (z : Own). z.mine.walk) ov ∙ gone.walk) none (open_place (settle v.all) h path flags lt) (open_step version v.all h p0 (new_id v) path flags None lt plain goes room (fresh_id v inv).least)
          (sym (settle_again (opened_tree v.all h fd (new_id v) p0 flags)) ∙ (λ z. settle (opened_tree v.all h fd (new_id v) (sym at.start z) flags))) walks_are)
          b.1 (omega (arith, few))
          (λ l q. (s-opened version h path flags w free lt holds idle i fd (new_id v) isf [] O.desk.noted OfDirectory l (tells (Begin s 0) (deed_of (Opened fd (new_id v) isf)) ∷ []) u3 O3 (omega (arith, q, few)) (record {
            owns = o.owned;
            stays = record { row = ap (λ (r : Row). opened_row r fd (new_id v) key) gone.stays.row; ninodes = gone.stays.ninodes; fds = gone.stays.fds; hand = gone.stays.hand; joined = gone.stays.joined; directory = gone.stays.directory; lent = gone.stays.lent; lender = gone.stays.lender; opening = refl; left = gone.stays.left };
            noted = refl;
            walk = refl;
            pending = refl;
            refs = at.refs;
            listed = listed_among O O3 base [] gone.listed (λ j. refl) (λ j t. put_other O.mine.refs i (O.mine.refs i + 1) j (at.apart j t)) (λ j t p. absurd (let z = times_none j in omega (arith, z, t)));
            out = at.out;
          }) (λ v2 inv2 ov2. typed (record O0 { row = opened_row O0.row fd (new_id v) key }) O3 v2 refl (ap (λ (r : Row). opened_row r fd (new_id v) key) gone.stays.row) inv2 ov2) (refusal ∙ goes)
          (ap (λ (z : ℕ). nat_lt z descriptor_count) (sym low) ∙ room) (sym low) (file_by_type (v.all.nodes p0) OfDirectory (ap (λ (z : ℕ). type_of (v.all.nodes z)) (sym at.start) ∙ at.inode_type)) b.0).wp)
        where
          fd : ℕ
          fd = lowest (v.all.fds h)

          isf : Bool
          isf = is_file (node_at v.all p0).kind

          key : Key
          key = key_is (file_for i flags)

          b : Walked c (opened_act path flags fd (new_id v) isf ∷ []) (tells (Begin s 0) (deed_of (Opened fd (new_id v) isf)) ∷ []) × B (tells (Begin s 0) (deed_of (Opened fd (new_id v) isf)) ∷ [])
          b = begun_opened (Begin s 0) fd (new_id v) isf [] (open_follows path flags).first (λ xs r p. p)

          refers : 0 < (u2.harts h).refs i
          refers = let a = my_refs h u2 O2 i own2 in let p = put_same O.mine.refs i (O.mine.refs i + 1) in omega (arith, a, p)

          there : v.all.nodes i ≡ Some (node_or (v.all.nodes i))
          there = some_there (v.all.nodes i) at.inode_type
            where
              some_there : (o : Option Node) → type_of o ≡ Some OfDirectory → o ≡ Some (node_or o)
              some_there None q = absurd cc
              some_there (Some x) q = refl

          o : Opening h fd i flags u2 O2
          o = opening h fd i flags (node_at v.all i) u2 O2 own2 (gone.stays.lender ∙ free) lt stills.inv (gone.stays.opening ∙ ready.opening) refl room there (inl refers)

          u3 : World
          u3 = opened_world h fd i flags u2

          O3 : Own
          O3 = record O2 { row = opened_row O.row fd (new_id v) key; desk = record (O.desk) { opening = Some fd } }

      by : (o : Option Cause) → open_kind flags (node_at v.all p0).kind ≡ o → (r : Bool) → has_room (v.all.fds h) ≡ r
          → Fine (machine version) h (places version h (UpStart (is_absolute path)) (Some i) (makes (Begin s 0)) v) 0 n B [] v (marked version h (makes (Begin s 0)) (counted_up h i v)) (λ l. Wp (machine version) h B Q (open_at path flags i []) l (onto (own h (places version h (UpStart (is_absolute path)) (Some i) (makes (Begin s 0)) v)) []) (marked version h (makes (Begin s 0)) (counted_up h i v)))
      by (Some k) q r p = refused_at k q
      by None q true p = goes_at q p
      by None q false p = full_at q p

  notes : (m : Note) → O0.desk.noted ≡ Some m → 0 < O0.mine.refs m.number
  notes m q = absurd (let a = idle.noted in cc (a, q))

  walks : (es : List Name) → elements version path ≡ es → (n : ℕ) → 2600 * length es + 20000 ≤ n → (u : World) → own_of h u ≡ O0 → Safe (machine version) h B Q (start s path [] (λ d. walk s d es [] (open_at path flags) lost) lost) n [] u
  walks [] none n few u own = s-begin version h s B Q base O0 [] n [] u O0 (λ d. open_at path flags d []) lost lt ready (gone_at h w u idle own) (omega (arith, few)) notes (λ i v inv ov at. starts i n v O0 u (omega (arith, few)) none (gone_at h w u idle own) inv ov at)
      (λ l u2 R q g full. loses NoMemory [] l [] u2 R (omega (arith, q, few)) g full)
  walks (e ∷ r) path_is n few u own = s-start version h s B Q base O0 e r [] n [] u O0 (λ d. walk s d (e ∷ r) [] (open_at path flags) lost) lost lt ready (gone_at h w u idle own) (omega (arith, few)) refl path_is spelled place notes (follows_begin version c s (open_follows path flags)).1
      (λ d l u2 R q on. s-walk version h s B Q (Walked c []) (Walked c (missed s ∷ [])) base O0 2000 lt ready lost loses (follows_look version c s (open_follows path flags)) (follows_lost version c s (open_follows path flags)) (follows_quit version c s (open_follows path flags)) (λ t. open_missing version t h path flags None plain) (λ t. refl) place other refl
      r d e [] l (looks (Begin s 0) ∷ []) u2 R (open_at path flags) (omega (arith, q, few)) on (follows_begin version c s (open_follows path flags)).0 (λ t q. open_missing version t h path flags (Some q) plain) act)
      (λ l u2 R q g full. loses NoMemory [] l [] u2 R (omega (arith, q, few)) g full)

  pub open_ok : Safe (machine version) h B Q (open_program version path flags) (limit version c) [] w
  open_ok = subst (λ (b : Bool). Safe (machine version) h B Q (if b then open_new path flags (elements version path) else open_old version path flags) (limit version c) [] w) (sym plain)
      (s-join version refl free lt (omega arith) (λ i x q. absurd (let a = ap (λ (f : ℕ → Option Held). f i) idle.inodes in cc (a, q))) idle.joined (λ l u q own. walks (elements version path) refl l (enough l (length (elements version path)) q) u own))
    where
      enough : (l k : ℕ) → l + 1 ≡ 2600 * (k + 1) + 24000 → 2600 * k + 20000 ≤ l
      enough l k q = omega (arith, q)
