-- A file that an open makes: from the claim of its number to the call's end.
use Rattle.image_versions.specs.declared.version.Version.{Version}
use Rattle.inode_machine.proofs.Vocabulary.{◌≡◌, ◌≢◌, ◌⊎◌, inl, inr, ℕ, ◌+◌, ◌-◌, ◌*◌, ◌<◌, ◌≤◌, Bool, true, false, ◌==◌, ◌&&◌, ◌||◌, List, [], ◌∷◌, length, Option, Some, None, refl, sym, ◌∙◌, ap, subst, arith, if◌then◌else◌, Do, unmarked, oldest_first, Safe, Begun, Ends, Full, Blocks, Descriptors, MemInodes, DirectoryFull, OpenFiles, Reply, Node, Opened, Done, NoRoom, Act, Key, Row, key_is, key_names, creates, empty_it, has, has_room, lowest, new_file, Name, put, look, hold_names, live_directory, hart_count, one_if, either, eq_not, or_none, same_or, put_same, put_other, Step, IsWholeCall, Look, OwnMove, Desk, Note, World, New, Forget, Install, OfFile, blank, is_at, with_entry, Held, Own, key_in, own_names, own_of, machine, IsName, ThisP as P, full, give_up, own_step, tail, file_for, installed_on, installs, make_other, make_with, open_end, open_made, opened_reply, truncates, unmake, covered_calls}
use Rattle.plain_tree.specs.declared.call.Call.TheVariants as calls
use Rattle.plain_tree.specs.declared.step.Action.TheVariants as steps
use Rattle.inode_machine.proofs.Basics.{locked_held, s-give, s-take-kept, KeepsHold, mends, times, one_at, one_else, Listed, Stays, names_stay, Walked, names_plain, s-ends, walked_tells, Mendable, claimed_held, mended_own, s-store, told_step, Holding, IsWhole, HasJoined, holding_same, holding_to, mendable, stays_mended, unlisted_refs, s-give-end, s-give-up-in, begun_by, walking_told, written_by, opened_row, row_back, unopened_row}
use Rattle.inode_machine.proofs.Creates.{created_inodes, s-enter-file}
use Rattle.inode_machine.proofs.Pairs.{Pair, pair_same, pair_set, pair_set_first, s-unmake}
use Rattle.inode_machine.proofs.Unopens.{mends_opened}
use Rattle.inode_machine.proofs.SoFar.{full_begins}
use Rattle.inode_machine.proofs.Installs.{own_installed, s-install}
use Rattle.inode_machine.proofs.Slots.{s-install-full, s-slot}
use Rattle.inode_machine.proofs.Empties.{empty_step}
use Rattle.inode_machine.proofs.EmptyInstalls.{s-install-empty}
use Rattle.inode_machine.proofs.OpenEnds.{open_done, opened_act, opened_begins, trunc_done, trunc_next}

-- a new descriptor names its own inode alone
pub names_opened : (r : Row) (d : Desk) (fd id : ℕ) (k : Key) (j : ℕ) → d.opening ≡ None → (k.number == j) ≡ false → own_names (opened_row r fd id k) (record d { opening = Some fd }) j ≡ own_names r d j
names_opened r d fd id k j idle ne =
    (λ z. (r.cwd == j) || (hold_names r.hold j || (key_names (put_same r.keys fd (Some k) z) j || is_at d.left j)))
    ∙ (λ z. (r.cwd == j) || (hold_names r.hold j || (ne z || is_at d.left j)))
    ∙ sym (λ z. (r.cwd == j) || (hold_names r.hold j || (key_names (key_in r.keys (idle z)) j || is_at d.left j)))

-- the rest of the call is right
abbrev Goes : Version → ℕ → List ℕ → ℕ → P Reply → ℕ → List Step → World → Type 0
Goes version h path flags p n es w = Safe (machine version) h (Begun (covered_calls version) (calls.Open path flags)) (Ends (covered_calls version) h (calls.Open path flags)) p n es w

-- what the hart's call began with, with a descriptor more in the tree
abbrev pub went_own : Own → ℕ → ℕ → ℕ → ℕ → Own
went_own O0 i flags fd id = record O0 { row = opened_row O0.row fd id (key_is (file_for i flags)); desk = record (O0.desk) { opening = Some fd } }

abbrev fresh_held : Node → Held
fresh_held y = record { disk = Some y; node = None; alone = true; locked = true }

module _ (version : Version) (h : ℕ) (path : List ℕ) (flags : ℕ) (lt : h < hart_count) {base : ℕ → ℕ} {O0 : Own} (joins : HasJoined base O0) (ns : List ℕ) where
  -- What it names without its new descriptor it named at the beginning.
  names_home : (i fd id : ℕ) (R : Own) → Stays R (went_own O0 i flags fd id) → (j : ℕ) → own_names R.row (record (R.desk) { opening = None }) j ≡ own_names O0.row O0.desk j
  names_home i fd id R s j =
      names_plain R.row (record (R.desk) { opening = None }) j (ap (λ (r : Row). r.hold) s.row ∙ joins.may.hold) refl
      ∙ (λ z. (ap (λ (r : Row). r.cwd) s.row z == j) || is_at (s.left z) j)
      ∙ sym (names_plain O0.row O0.desk j joins.may.hold joins.ready.opening)

  -- what is named by nothing then is named by nothing at the beginning
  unnamed_home : (i fd id : ℕ) (R : Own) → Stays R (went_own O0 i flags fd id) → (j : ℕ) → own_names R.row R.desk j ≡ false → own_names O0.row O0.desk j ≡ false
  unnamed_home i fd id R s j q =
      names_plain O0.row O0.desk j joins.may.hold joins.ready.opening
      ∙ (λ z. (sym (ap (λ (r : Row). r.cwd) s.row) z == j) || is_at (joins.ready.left z) j)
      ∙ (λ z. (or_none (R.row.cwd == j) (hold_names R.row.hold j || (key_names (key_in R.row.keys R.desk.opening) j || is_at R.desk.left j)) q).0 z || false)

  -- A slot and a descriptor are taken for it, its lock is given up, and the call ends.
  opens : (i fd id l : ℕ) (E : ℕ → Option Held) (es : List Step) (u : World) (R : Own) → 971 * length ns + 1000 < l → own_of h u ≡ R → Holding base ns (went_own O0 i flags fd id) R E (λ j. 0 + one_if (i == j)) → E i ≡ Some (locked_held (Some new_file)) → ((j : ℕ) → j ≢ i → E j ≡ None) → R.mine.walk ≡ None → R.mine.pending ≡ None
      → has_room R.desk.fds ≡ true → lowest R.desk.fds ≡ fd → O0.row.fds fd ≡ None → O0.row.keys fd ≡ None → Walked (calls.Open path flags) (opened_act path flags fd id true ∷ []) es → Goes version h path flags (open_made path flags i OfFile ns) l es u
  opens i fd id l E es u R few held k isi rest walk none room low nofd nokey told =
      s-slot version M held free lt (omega (arith, few)) (k.stays.hand ∙ joins.may.hand) refl refl
      (λ v inv ov. mends_opened h fd v R ov free lt inv k.stays.opening left (subst KeepsHold (sym hold) tt) (λ j q. refers j q))
      (λ l2 u2 q2 held2. s-give-end version h (calls.Open path flags) (full (calls.Open path flags) OpenFiles) ns E i l2 es u2 M lt joins held2 (omega (arith, few, q2))
      (holding_to O0 M k refl stays_back refl (λ j t q. names_stay M O0 stays_back j ∙ unnamed_home i fd id R k.stays j q)) isi (record { locked = refl; shared = refl; same = refl }) rest refl refl (inl refl))
      (λ l2 s u2 q2 held2. install (has flags empty_it) refl s l2 u2 (omega (arith, few, q2)) held2)
    where
      free : R.desk.lender ≡ None
      free = k.stays.lender ∙ joins.ready.free

      hold : R.row.hold ≡ None
      hold = ap (λ (r : Row). r.hold) k.stays.row ∙ joins.may.hold

      left : R.desk.left ≡ None
      left = k.stays.left ∙ joins.ready.left

      keyed : R.row.keys fd ≡ Some (key_is (file_for i flags))
      keyed = ap (λ (r : Row). r.keys fd) k.stays.row ∙ put_same O0.row.keys fd (Some (key_is (file_for i flags)))

      M : Own
      M = record R { row = unopened_row R.row fd; desk = record (R.desk) { opening = None; left = None; full = true }; mine = record { refs = R.mine.refs; walk = None; pending = None } }

      stays_back : Stays M O0
      stays_back = record {
        row = (λ z. unopened_row (k.stays.row z) fd) ∙ row_back O0.row fd id (key_is (file_for i flags)) nofd nokey;
        ninodes = k.stays.ninodes;
        fds = k.stays.fds;
        hand = k.stays.hand;
        joined = k.stays.joined;
        directory = k.stays.directory;
        lent = k.stays.lent;
        lender = k.stays.lender;
        opening = sym joins.ready.opening;
        left = sym joins.ready.left;
      }

      refers : (j : ℕ) → own_names R.row (record (R.desk) { opening = None }) j ≡ true → 0 < R.mine.refs j
      refers j q = let b = joins.ready.spare j (sym (names_home i fd id R k.stays j) ∙ q) in let r = k.refs j in omega (arith, b, r)

      here : 0 < R.mine.refs i
      here = let r = k.refs i in let o = one_at i in omega (arith, r, o)

      twice : (1 < R.mine.refs i) ⊎ (own_names R.row (record (R.desk) { opening = None }) i ≡ false)
      twice = elim (either (own_names R.row (record (R.desk) { opening = None }) i)) [
        | inl y ↦ inl (let b = joins.ready.spare i (sym (names_home i fd id R k.stays i) ∙ y) in let r = k.refs i in let o = one_at i in omega (arith, b, r, o))
        | inr y ↦ inr y
      ]

      not_i : (j : ℕ) → 0 < times j ns → j ≢ i
      not_i j t q = absurd (let z = unlisted_refs k i (let o = one_at i in omega (arith, o)) in let a : times j ns ≡ times i ns = ap (λ (m : ℕ). times m ns) q in omega (arith, z, a, t))

      after : ℕ → Own
      after s = record R {
        inodes = put R.inodes i None;
        mine = record { refs = put R.mine.refs i (R.mine.refs i - 1); walk = R.mine.walk; pending = R.mine.pending };
        desk = record (R.desk) { fds = put R.desk.fds fd (Some s); hand = None; opening = None };
      }

      listed : (s : ℕ) → Listed (after s) base ns
      listed s = record {
        all = λ j t. let a = k.all j t in record {
          node = a.node;
          there = a.there;
          is = put_other R.inodes i None j (not_i j t) ∙ a.is;
          dead = a.dead;
          one = put_other R.mine.refs i (R.mine.refs i - 1) j (not_i j t) ∙ a.one;
          unnamed = names_home i fd id R k.stays j ∙ unnamed_home i fd id R k.stays j a.unnamed;
        };
        only = λ j x q. elim (same_or j i) [
          | inl e ↦ absurd (let a : put R.inodes i None j ≡ None = ap (put R.inodes i None) e ∙ put_same R.inodes i None in cc (a, q))
          | inr ne ↦ elim (k.only j x (sym (put_other R.inodes i None j ne) ∙ q)) [ inl t ↦ t | inr a ↦ absurd (let b = rest j ne in cc (a, b)) ]
        ];
        once = k.once;
      }

      fewer : (j : ℕ) → put R.mine.refs i (R.mine.refs i - 1) j ≡ base j + times j ns
      fewer j = let r = k.refs j in elim (same_or j i) [
        | inl q ↦ (let a : put R.mine.refs i (R.mine.refs i - 1) j ≡ R.mine.refs i - 1 = ap (put R.mine.refs i (R.mine.refs i - 1)) q ∙ put_same R.mine.refs i (R.mine.refs i - 1) in let b : R.mine.refs j ≡ R.mine.refs i = ap R.mine.refs q in let o : one_if (i == j) ≡ 1 = ap (λ (m : ℕ). one_if (i == m)) q ∙ one_at i in omega (arith, a, b, o, r))
        | inr ne ↦ (let a = put_other R.mine.refs i (R.mine.refs i - 1) j ne in let o = one_else i j ne in omega (arith, a, o, r))
      ]

      R_in : ℕ → Own
      R_in s = record R { desk = record (R.desk) { hand = Some s } }

      -- its lock is given up, and the call ends
      ends : (s l3 : ℕ) (fs : List Step) (u3 : World) → 971 * length ns + 980 < l3 → own_of h u3 ≡ own_installed (R_in s) i fd s → IsWholeCall (calls.Open path flags) (oldest_first fs) (opened_reply path flags fd) → Goes version h path flags (open_end path flags i ns fd) l3 fs u3
      ends s l3 fs u3 few3 held3 written =
          s-give version held3 free lt (omega (arith, few3)) (k.has i (locked_held (Some new_file)) isi) refl refl refl none (λ l4 u4 q4 held4.
          s-ends version h (calls.Open path flags) (opened_reply path flags fd) base ns l4 fs u4 _ held4 free lt (omega (arith, few3, q4)) (k.stays.joined ∙ joins.ready.joined) (listed s) fewer walk none
          (record { hold = hold; hand = refl; lent = k.stays.lent ∙ joins.may.lent; opening = refl; left = left; counts = λ j. joins.may.counts j ∙ (λ z. one_if (sym k.stays.directory z == j)) }) (inr written))

      install : (b : Bool) → has flags empty_it ≡ b → (s l2 : ℕ) (u2 : World) → 971 * length ns + 985 < l2 → own_of h u2 ≡ R_in s → Goes version h path flags (Do (Install (file_for i flags) OfFile) (installs (truncates flags)) (installed_on path flags i ns (open_end path flags i ns))) l2 es u2
      install false e s l2 u2 few2 held2 =
          s-install version fd s (file_for i flags) OfFile held2 free lt (omega (arith, few2)) k.stays.opening refl room low keyed refl (λ z. if e z then own_step (steps.Truncate fd) else None) walk none (k.has i (locked_held (Some new_file)) isi) refl refl (λ y z. cc) here twice
          (λ l3 u3 q3 held3. ends s l3 es u3 (omega (arith, few2, q3)) held3 (written_by (calls.Open path flags) (opened_act path flags fd id true ∷ []) es (opened_reply path flags fd) told (open_done path flags fd id true (λ z. e z && true))))
      install true e s l2 u2 few2 held2 =
          s-install-empty version fd s (file_for i flags) OfFile new_file held2 free lt (omega (arith, few2)) k.stays.opening refl room low keyed refl (λ z. if e z then own_step (steps.Truncate fd) else None) walk none (k.has i (locked_held (Some new_file)) isi) refl refl refl here twice
          (begun_by version (calls.Open path flags) (opened_act path flags fd id true ∷ emptied ∷ []) (empty_step fd ∷ es) [] (opened_reply path flags fd) (both e) (trunc_done path flags fd id true))
          (λ l3 u3 q3 held3. ends s l3 (empty_step fd ∷ es) u3 (omega (arith, few2, q3)) held3 (written_by (calls.Open path flags) (opened_act path flags fd id true ∷ emptied ∷ []) (empty_step fd ∷ es) (opened_reply path flags fd) (both e) (trunc_done path flags fd id true)))
        where
          emptied : Act
          emptied = record { step = steps.Truncate fd; answer = Done }

          both : has flags empty_it ≡ true → Walked (calls.Open path flags) (opened_act path flags fd id true ∷ emptied ∷ []) (empty_step fd ∷ es)
          both q = walked_tells (calls.Open path flags) (opened_act path flags fd id true ∷ []) (OwnMove (steps.Truncate fd) 0) (record { act = emptied; new = 0 }) es (trunc_next path flags fd id true (λ z. q z && true)) told

  -- The hart has no descriptor left.
  lacks : (i l : ℕ) (E : ℕ → Option Held) (es : List Step) (u : World) (R : Own) → 971 * length ns + 1000 < l → own_of h u ≡ R → Holding base ns O0 R E (λ j. 0 + one_if (i == j)) → E i ≡ Some (locked_held (Some new_file)) → ((j : ℕ) → j ≢ i → E j ≡ None) → R.mine.walk ≡ None → R.mine.pending ≡ None → has_room R.desk.fds ≡ false
      → Goes version h path flags (open_made path flags i OfFile ns) l es u
  lacks i l E es u R few held k isi rest walk none room =
      s-slot version (mended_own R) held free lt (omega (arith, few)) hand refl refl
      (λ v inv ov. let m = mends h v R ov free lt inv can.opening can.left can.hold can.names in record { fair = m.fair; bad = m.bad; owned = m.owned })
      (λ l2 u2 q2 held2. ended OpenFiles (mended_own R) l2 u2 (omega (arith, few, q2)) held2 (stays_mended (mended_own R) joins.ready k.stays refl refl refl) refl refl refl refl refl)
      (λ l2 s u2 q2 held2.
      s-install-full version s (file_for i flags) OfFile (mended_own Owned2) held2 free lt (omega (arith, few, q2)) refl room refl in_hand refl
      (λ v inv ov. let m = mends h v Owned2 ov free lt inv can.opening can.left can.hold can.names in record { fair = m.fair; bad = m.bad; owned = m.owned })
      (λ l3 u3 q3 held3. ended Descriptors (mended_own Owned2) l3 u3 (omega (arith, few, q2, q3)) held3
      (record { row = k.stays.row; ninodes = k.stays.ninodes; fds = k.stays.fds; hand = sym joins.may.hand; joined = k.stays.joined; directory = k.stays.directory; lent = k.stays.lent; lender = k.stays.lender; opening = sym joins.ready.opening; left = sym joins.ready.left }) refl refl refl refl refl))
    where
      free : R.desk.lender ≡ None
      free = k.stays.lender ∙ joins.ready.free

      hand : R.desk.hand ≡ None
      hand = k.stays.hand ∙ joins.may.hand

      can : Mendable R
      can = mendable joins.ready k

      Owned2 : Own
      Owned2 = record R { desk = record (R.desk) { hand = None } }

      in_hand : one_if (R.desk.directory == i) < R.mine.refs i
      in_hand = let c = joins.may.counts i ∙ (λ z. one_if (sym k.stays.directory z == i)) in let r = k.refs i in let o = one_at i in omega (arith, c, r, o)

      ended : (f : Full) (M : Own) (l2 : ℕ) (u2 : World) → 971 * length ns + 970 < l2 → own_of h u2 ≡ M → Stays M O0 → M.inodes ≡ R.inodes → M.mine.refs ≡ R.mine.refs → M.mine.walk ≡ None → M.mine.pending ≡ None → M.desk.full ≡ true → Goes version h path flags (give_up i (tail ns (full (calls.Open path flags) f))) l2 es u2
      ended f M l2 u2 few2 held2 stays inodes refs walk2 none2 spoilt =
          s-give-end version h (calls.Open path flags) (full (calls.Open path flags) f) ns E i l2 es u2 M lt joins held2 few2 (holding_same M k inodes stays refs) isi (record { locked = refl; shared = refl; same = refl }) rest walk2 none2 (inl spoilt)

  -- The name is entered: the parent is given up first.
  named : (d i fd id l : ℕ) {x : Held} (es : List Step) (u : World) (R O : Own) → 971 * length ns + 1910 < l → own_of h u ≡ R → Pair base ns O0 O d i x (locked_held (Some new_file)) → IsWhole x → R.inodes ≡ O.inodes → R.mine.refs ≡ O.mine.refs → R.ninodes ≡ O.ninodes → R.row ≡ opened_row O.row fd id (key_is (file_for i flags)) → R.desk ≡ record (O.desk) { opening = Some fd } → R.mine.walk ≡ None → R.mine.pending ≡ None
      → has_room O.desk.fds ≡ true → lowest O.desk.fds ≡ fd → O.row.fds fd ≡ None → O.row.keys fd ≡ None → Walked (calls.Open path flags) (opened_act path flags fd id true ∷ []) es → Goes version h path flags (give_up d (open_made path flags i OfFile ns)) l es u
  named d i fd id l {x} es u R O few held p whole inodes refs ninodes row desk walk none room low nofd nokey told =
      s-give-up-in version d {O0 = went_own O0 i flags fd id} {more = λ j. 0 + one_if (i == j)} held lt joins.ready.free joins.ready.joined (λ q. let b = joins.ready.spare d (sym (names_opened O0.row O0.desk fd id (key_is (file_for i flags)) d joins.ready.opening (eq_not i d p.apart)) ∙ q) in omega (arith, b)) (omega (arith, few))
      (record { stays = k.stays; refs = λ j. (let a = k.refs j in omega (arith, a)); all = k.all; once = k.once; has = k.has; only = k.only }) walk none p.at_d whole (λ l2 u2 Owned2 q2 held2 desk2 walk2 none2 k2.
      opens i fd id l2 (put p.extra d None) es u2 Owned2 (omega (arith, few, q2)) held2 k2 (put_other p.extra d None i p.apart ∙ p.at_i)
      (λ j ni. elim (same_or j d) [ inl e ↦ ap (put p.extra d None) e ∙ put_same p.extra d None | inr nd ↦ put_other p.extra d None j nd ∙ p.others j nd ni ]) walk2 none2
      (ap (λ (z : Desk). has_room z.fds) (desk2 ∙ desk) ∙ room) (ap (λ (z : Desk). lowest z.fds) (desk2 ∙ desk) ∙ low) (ap (λ (z : Row). z.fds fd) (sym p.hold.stays.row) ∙ nofd) (ap (λ (z : Row). z.keys fd) (sym p.hold.stays.row) ∙ nokey) told)
    where
      not_i : (j : ℕ) → 0 < times j ns → i ≢ j
      not_i j t q = absurd (let z = unlisted_refs p.hold i (let o = one_at i in omega (arith, o)) in let a : times i ns ≡ times j ns = ap (λ (m : ℕ). times m ns) q in omega (arith, z, a, t))

      stays : Stays R (went_own O0 i flags fd id)
      stays = record {
        row = row ∙ (λ z. opened_row (p.hold.stays.row z) fd id (key_is (file_for i flags)));
        ninodes = ninodes ∙ p.hold.stays.ninodes;
        fds = ap (λ (z : Desk). z.fds) desk ∙ p.hold.stays.fds;
        hand = ap (λ (z : Desk). z.hand) desk ∙ p.hold.stays.hand;
        joined = ap (λ (z : Desk). z.joined) desk ∙ p.hold.stays.joined;
        directory = ap (λ (z : Desk). z.directory) desk ∙ p.hold.stays.directory;
        lent = ap (λ (z : Desk). z.lent) desk ∙ p.hold.stays.lent;
        lender = ap (λ (z : Desk). z.lender) desk ∙ p.hold.stays.lender;
        opening = ap (λ (z : Desk). z.opening) desk;
        left = ap (λ (z : Desk). z.left) desk ∙ p.hold.stays.left;
      }

      k : Holding base ns (went_own O0 i flags fd id) R p.extra (λ j. (0 + one_if (d == j)) + one_if (i == j))
      k = holding_to (went_own O0 i flags fd id) R p.hold inodes stays refs (λ j t q. (λ z. own_names (row z) (desk z) j) ∙ names_opened O.row O.desk fd id (key_is (file_for i flags)) j (p.hold.stays.opening ∙ joins.ready.opening) (eq_not i j (not_i j t)) ∙ q)

  named_full : (d i l : ℕ) {x : Held} (es : List Step) (u : World) (R : Own) → 971 * length ns + 1910 < l → own_of h u ≡ R → Pair base ns O0 R d i x (locked_held (Some new_file)) → IsWhole x → R.mine.walk ≡ None → R.mine.pending ≡ None → has_room R.desk.fds ≡ false → Goes version h path flags (give_up d (open_made path flags i OfFile ns)) l es u
  named_full d i l {x} es u R few held p whole walk none room =
      s-give-up-in version d {more = λ j. 0 + one_if (i == j)} held lt joins.ready.free joins.ready.joined (λ q. let b = joins.ready.spare d q in omega (arith, b)) (omega (arith, few))
      (record { stays = p.hold.stays; refs = λ j. (let a = p.hold.refs j in omega (arith, a)); all = p.hold.all; once = p.hold.once; has = p.hold.has; only = p.hold.only }) walk none p.at_d whole (λ l2 u2 Owned2 q2 held2 desk2 walk2 none2 k2.
      lacks i l2 (put p.extra d None) es u2 Owned2 (omega (arith, few, q2)) held2 k2 (put_other p.extra d None i p.apart ∙ p.at_i)
      (λ j ni. elim (same_or j d) [ inl e ↦ ap (put p.extra d None) e ∙ put_same p.extra d None | inr nd ↦ put_other p.extra d None j nd ∙ p.others j nd ni ]) walk2 none2 (ap (λ (z : Desk). has_room z.fds) desk2 ∙ room))

  -- A number is claimed: its lock is taken, its count stored, its name entered.
  pub makes_file : (d : ℕ) (e : Name) (X : Node) (i l : ℕ) (fs : List Step) (u : World) (R : Own) → creates flags ≡ true → 971 * length ns + 3570 < l → own_of h u ≡ R → Pair base ns O0 R d i (locked_held (Some X)) (claimed_held OfFile) → base i ≡ 0 → R.mine.walk ≡ Some (record { step = steps.Open path flags; at = d; next = e; rest = [] }) → R.mine.pending ≡ None
      → live_directory (Some X) ≡ true → look (λ j. Some X) d e ≡ None → IsName version e → 1 ≤ i → i < R.ninodes → ((t : Note) → R.desk.noted ≡ Some t → t.number ≢ i) → Walked (calls.Open path flags) [] fs → Goes version h path flags (make_with path flags d e ns (New i)) l fs u
  makes_file d e X i l fs u R flag few held p zero walk none live absent good from below notes walking =
      subst (λ (b : Bool). Goes version h path flags (if b then Do (Forget i) unmarked (λ _. give_up d (tail ns (full (calls.Open path flags) MemInodes))) else make_other path flags d e ns i) l fs u) (sym (eq_not i d p.apart))
      (s-take-kept version held free lt (omega (arith, few)) (p.hold.has i (claimed_held OfFile) p.at_i) refl (λ e. cc) tt refers (λ l1 u1 q1 held1.
      s-store version i 1 (blank OfFile) held1 free lt (omega (arith, few, q1)) joined (put_same R.inodes i (Some (fresh_held (blank OfFile)))) refl refl (inl (omega arith)) (λ l2 u2 q2 held2.
      s-enter-file version d i X e path flags held2 free lt (omega (arith, few, q1, q2)) joined walk none (mendable joins.ready p2.hold) flag refl refl refl
      (p2.hold.has d (locked_held (Some X)) p2.at_d) refl refl refl refl live absent (p2.hold.has i (fresh_held new_file) p2.at_i) refl refl refl refers good from below notes
      (λ fd id. opened_begins version path flags fd id true (told_step i (steps.Open path flags) (Opened fd id true) ∷ fs) (told fd id))
      (full_begins version (calls.Open path flags) fs (Look i) (told_step i (steps.Open path flags) (Opened 0 0 true)).told (told_step i (steps.Open path flags) (NoRoom Descriptors)).told (opened_begins version path flags 0 0 true (told_step i (steps.Open path flags) (Opened 0 0 true) ∷ fs) (told 0 0)))
      (λ l3 fd id u3 q3 room low nofd nokey held3. named d i fd id l3 (told_step i (steps.Open path flags) (Opened fd id true) ∷ fs) u3 _ Owned3 (omega (arith, few, q1, q2, q3)) held3 p3 (record { locked = refl; shared = refl; same = refl }) refl refl refl refl refl refl refl room low nofd nokey
      (told fd id))
      (λ l3 u3 q3 room held3. named_full d i l3 (told_step i (steps.Open path flags) (NoRoom Descriptors) ∷ fs) u3 Owned3 (omega (arith, few, q1, q2, q3)) held3 p3 (record { locked = refl; shared = refl; same = refl }) refl refl room)
      (λ l3 u3 q3 held3. unmade (full (calls.Open path flags) Blocks) l3 u3 (omega (arith, few, q1, q2, q3)) held3)
      (λ l3 u3 q3 held3. unmade (full (calls.Open path flags) DirectoryFull) l3 u3 (omega (arith, few, q1, q2, q3)) held3))))
    where
      free : R.desk.lender ≡ None
      free = p.hold.stays.lender ∙ joins.ready.free

      joined : R.desk.joined ≡ true
      joined = p.hold.stays.joined ∙ joins.ready.joined

      refers : 0 < R.mine.refs i
      refers = let f = p.hold.refs i in let o = one_at i in omega (arith, f, o)

      told : (fd id : ℕ) → Walked (calls.Open path flags) (opened_act path flags fd id true ∷ []) (told_step i (steps.Open path flags) (Opened fd id true) ∷ fs)
      told fd id = walking_told (calls.Open path flags) [] (steps.Open path flags) (Opened fd id true) i fs walking

      Owned1 : Own
      Owned1 = record R { inodes = put R.inodes i (Some (fresh_held (blank OfFile))) }

      Owned2 : Own
      Owned2 = record R { inodes = put Owned1.inodes i (Some (fresh_held new_file)) }

      p2 : Pair base ns O0 Owned2 d i (locked_held (Some X)) (fresh_held new_file)
      p2 = pair_set Owned2 (fresh_held new_file) (pair_set Owned1 (fresh_held (blank OfFile)) p refl refl refl refl refl) refl refl refl refl refl

      D : Held
      D = locked_held (Some (with_entry e i X))

      Owned3 : Own
      Owned3 = record Owned2 { inodes = created_inodes Owned2 d i e X (locked_held (Some X)) (fresh_held new_file); mine = record { refs = Owned2.mine.refs; walk = None; pending = None } }

      p3 : Pair base ns O0 Owned3 d i D (locked_held (Some new_file))
      p3 = pair_set Owned3 (locked_held (Some new_file)) (pair_set_first (record Owned2 { inodes = put Owned2.inodes d (Some D) }) D p2 refl refl refl refl refl) refl refl refl refl refl

      unmade : (r : Reply) (l3 : ℕ) (u3 : World) → 971 * length ns + 1890 < l3 → own_of h u3 ≡ mended_own Owned2 → Goes version h path flags (unmake i d ns r) l3 fs u3
      unmade r l3 u3 few3 held3 =
          s-unmake version h (calls.Open path flags) r new_file l3 fs u3 (mended_own Owned2) lt joins held3 few3 (pair_same (mended_own Owned2) p2 refl refl (stays_mended (mended_own Owned2) joins.ready p2.hold.stays refl refl refl)) (record { locked = refl; shared = refl; same = refl }) refl refl refl refl zero notes from below refl refl (inl refl)
