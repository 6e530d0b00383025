-- Mkdir is right, whatever the other harts do.
use Rattle.image_versions.specs.declared.version.Version.{Version}
use Rattle.inode_machine.proofs.Vocabulary.{◌≡◌, ◌≢◌, inl, inr, ℕ, ◌+◌, ◌*◌, ◌<◌, ◌≤◌, Bool, true, false, ◌==◌, nat_lt, List, [], ◌∷◌, length, Option, Some, None, refl, sym, ◌∙◌, ap, subst, arith, if◌then◌else◌, Do, unmarked, Safe, Begun, Ends, IsBeginning, Cause, NoEntry, TooManyLinks, Blocks, DiskInodes, MemInodes, DirectoryFull, Reply, Node, Mkdir, Done, Failed, hart_count, count_limit, Name, Tree, put, look, live_directory, elements, node_or, name_taken, new_directory, or_else, raised, refusal_with, refusal_by, Act, next_of, reply_of, had_room, one_if, eq_not, put_same, put_other, Step, MayEnd, Note, World, New, InPlace, Enter, Forget, OfDirectory, Face, face_of, face_or, blank, with_count, with_dots, with_entry, Held, Own, own_of, nothing, Idle, Inv, machine, IsName, ThisP as P, done, failed, full, give_up, tail, entered_file, unmake, is_refused, mkdir_in, mkdir_on, mkdir_other, mkdir_program, mkdir_refused, mkdir_with, name_directory, path_cost, rest_cost, covered_calls}
use Rattle.plain_tree.specs.declared.call.Call.TheVariants as calls
use Rattle.inode_machine.proofs.Basics.{AllNames, locked_held, live_face, Agrees, s-take-kept, one_at, On, stays_same, claimed_held, mended_own, s-claim, s-fill, s-store, told_step, Walked, joined_own, Holding, HasJoined, IsAnswerable, holding_on, holding_same, holding_set, mendable, stays_mended, unlisted, s-give-end, Follows, agrees_look, begun_by, quit_step, s-see, walking_quit, walking_told, written_by}
use Rattle.inode_machine.proofs.Tables.{less_is}
use Rattle.inode_machine.proofs.Enters.{mkdir_place, s-enter-directory}
use Rattle.inode_machine.proofs.Pairs.{Pair, pair_new, pair_same, pair_set, pair_set_first, s-end-pair, s-unmake}
use Rattle.inode_machine.proofs.Namings.{Leads, s-naming}

-- What is written.

fails_end : (path : List ℕ) (k : Cause) → MayEnd (calls.Mkdir path) (record { step = Mkdir path; answer = Failed k } ∷ []) (failed (calls.Mkdir path) k)
unfolding next_of reply_of had_room
fails_end path k = record { through = refl; reply = refl; room = refl }

done_ends : (path : List ℕ) → MayEnd (calls.Mkdir path) (record { step = Mkdir path; answer = Done } ∷ []) (done (calls.Mkdir path))
unfolding next_of reply_of had_room
done_ends path = record { through = refl; reply = refl; room = refl }

comes_first : (path : List ℕ) → next_of (calls.Mkdir path) [] ≡ Some (Mkdir path)
unfolding next_of
comes_first path = refl

follows : (path : List ℕ) → Follows (calls.Mkdir path) [] (Mkdir path)
follows path = record { next = comes_first path; rest = λ k. []; reply = λ k. failed (calls.Mkdir path) k; fails = fails_end path }

no_parent : (version : Version) (t : Tree) (h : ℕ) (path : List ℕ) (res : Option ℕ) → refusal_with version t h (Mkdir path) res None ≡ Some NoEntry
unfolding refusal_by
no_parent version t h path res = refl

leads : (version : Version) (h : ℕ) (path : List ℕ) (O0 : Own) → h < hart_count → Leads version h (Mkdir path) O0
leads version h path O0 lt = record { follows = refl; missing = λ b res. no_parent version b h path res; stays = λ b. refl; place = λ t q. mkdir_place t h path lt; other = λ g q. absurd cc; finds = refl }

-- Why it is refused.

taken_or : (f : Option ℕ) (g : Face) → or_else (name_taken f) (if nat_lt g.count count_limit then None else Some TooManyLinks) ≡ mkdir_refused f g
taken_or None g = refl
taken_or (Some n) g = refl

-- as the tree has it, so the call sees it
is_refusal : (version : Version) (t : Tree) (h : ℕ) (path : List ℕ) (res f : Option ℕ) (d : ℕ) (e : Name) (X : Node) → t.nodes d ≡ Some X → look t.nodes d e ≡ f → refusal_with version t h (Mkdir path) res (Some (d, e)) ≡ mkdir_refused f (face_or (face_of version (Some X)))
unfolding refusal_by
is_refusal version t h path res f d e X nd is = (λ z. or_else (name_taken (is z)) (if nat_lt (node_or (nd z)).count count_limit then None else Some TooManyLinks)) ∙ taken_or f (face_or (face_of version (Some X)))

refused_is : (o : Option Cause) → is_refused o ≡ true → (k : Cause) × (o ≡ Some k)
refused_is None q = absurd cc
refused_is (Some k) q = (k, refl)

refused_not : (o : Option Cause) → is_refused o ≡ false → o ≡ None
refused_not None q = refl
refused_not (Some k) q = absurd cc

-- it isn't refused if the name isn't there, and the directory may have a link more
goes_on : (f : Option ℕ) (g : Face) → mkdir_refused f g ≡ None → (f ≡ None) × (nat_lt g.count count_limit ≡ true)
goes_on (Some n) g q = absurd cc
goes_on None g q = (refl, by_count (nat_lt g.count count_limit) q)
  where
    by_count : (b : Bool) → (if b then None else Some TooManyLinks) ≡ None → b ≡ true
    by_count true q = refl
    by_count false q = absurd cc

-- the rest of the call is right
abbrev Goes : Version → ℕ → List ℕ → P Reply → ℕ → List Step → World → Type 0
Goes version h path p n es w = Safe (machine version) h (Begun (covered_calls version) (calls.Mkdir path)) (Ends (covered_calls version) h (calls.Mkdir path)) p n es w

-- what the call does once the parent is seen; b: whether that has links
abbrev by_face : Version → List ℕ → ℕ → Name → List ℕ → Option Node → Bool → P Reply
by_face version path d e ns x b = if b then mkdir_on path d e ns (face_or (face_of version x)) (mkdir_refused (look (λ j. x) d e) (face_or (face_of version x))) else give_up d (tail ns (failed (calls.Mkdir path) NoEntry))

-- a new inode of which the hart has this record
abbrev fresh_held : Node → Held
fresh_held y = record { disk = Some y; node = None; alone = true; locked = true }

module _ (version : Version) (h : ℕ) (path : List ℕ) (lt : h < hart_count) {base : ℕ → ℕ} {O0 : Own} (joins : HasJoined base O0) (d : ℕ) (e : Name) (ns : List ℕ) where
  -- the directory alone is locked
  locked_one : {w : World} {O R : Own} (x : Option Node) → On version h (Mkdir path) d e [] base ns O0 O w → R.inodes ≡ put O.inodes d (Some (locked_held x)) → R.row ≡ O.row → R.ninodes ≡ O.ninodes → R.desk ≡ O.desk → R.mine.refs ≡ O.mine.refs → Holding base ns O0 R (put nothing d (Some (locked_held x))) (λ i. 0 + one_if (d == i))
  locked_one {w} {O} {R} x on inodes row ninodes desk refs =
      let k = holding_on version h (Mkdir path) d e [] base ns O0 O w on in
      holding_set R d (Some (locked_held x)) (λ i. 0 + one_if (d == i)) k (unlisted k d on.out) inodes (stays_same R O O0 row ninodes desk on.stays) (λ i ne. ap (λ (f : ℕ → ℕ). f i) refs) (λ i. ap (λ (f : ℕ → ℕ). f i) refs ∙ k.refs i)

  -- it is given up, and the call ends
  ends_one : (r : Reply) (x : Option Node) (n : ℕ) (es : List Step) (w : World) (R : Own) → 971 * length ns + 970 < n → own_of h w ≡ R → Holding base ns O0 R (put nothing d (Some (locked_held x))) (λ i. 0 + one_if (d == i)) → R.mine.walk ≡ None → R.mine.pending ≡ None → IsAnswerable (calls.Mkdir path) r es R → Goes version h path (give_up d (tail ns r)) n es w
  ends_one r x n es w R few held k walk none told =
      s-give-end version h (calls.Mkdir path) r ns (put nothing d (Some (locked_held x))) d n es w R lt joins held few k (put_same nothing d (Some (locked_held x))) (record { locked = refl; shared = refl; same = refl }) (λ i ne. put_other nothing d (Some (locked_held x)) i ne) walk none told

  -- The name is there: the parent's count is stored, and both are given up.
  named : (X : Node) (i l : ℕ) (es : List Step) (u : World) (R : Own) → 971 * length ns + 1890 < l → own_of h u ≡ R → Pair base ns O0 R d i (record (locked_held (Some X)) { disk = Some (with_entry e i X); node = Some (raised (with_entry e i X)) }) (locked_held (Some (new_directory i d))) → nat_lt X.count count_limit ≡ true → R.mine.walk ≡ None → R.mine.pending ≡ None → IsAnswerable (calls.Mkdir path) (done (calls.Mkdir path)) es R
      → Goes version h path (name_directory path d (face_or (face_of version (Some X))) i ns InPlace) l es u
  named X i l es u R few held p room walk none told =
      s-store version d (X.count + 1) (with_entry e i X) held (p.hold.stays.lender ∙ joins.ready.free) lt (omega (arith, few)) (p.hold.stays.joined ∙ joins.ready.joined) (p.hold.has d _ p.at_d) refl refl (inl (let a = less_is X.count count_limit room in omega (arith, a))) (λ l2 u2 q2 held2.
      s-end-pair version h (calls.Mkdir path) (done (calls.Mkdir path)) l2 es u2 _ lt joins held2 (omega (arith, few, q2))
      (pair_set_first (record R { inodes = put R.inodes d (Some (locked_held (Some (raised (with_entry e i X))))) }) (locked_held (Some (raised (with_entry e i X)))) p refl refl refl refl refl)
      (record { locked = refl; shared = refl; same = refl }) (record { locked = refl; shared = refl; same = refl }) walk none told)

  -- The new directory is there, with its two entries: its name is entered.
  enters : (X : Node) (i l : ℕ) (fs : List Step) (u : World) (R : Own) → 971 * length ns + 3540 < l → own_of h u ≡ R → Pair base ns O0 R d i (locked_held (Some X)) (fresh_held (with_dots i d (with_count 1 (blank OfDirectory)))) → base i ≡ 0 → R.mine.walk ≡ Some (record { step = Mkdir path; at = d; next = e; rest = [] }) → R.mine.pending ≡ None
      → live_directory (Some X) ≡ true → look (λ j. Some X) d e ≡ None → nat_lt X.count count_limit ≡ true → IsName version e → 1 ≤ i → i < R.ninodes → ((t : Note) → R.desk.noted ≡ Some t → t.number ≢ i) → Walked (calls.Mkdir path) [] fs
      → Goes version h path (Do (Enter d e i) (entered_file i) (name_directory path d (face_or (face_of version (Some X))) i ns)) l fs u
  enters X i l fs u R few held p zero walk none live absent room good from below notes walking =
      s-enter-directory version d i X e path held (p.hold.stays.lender ∙ joins.ready.free) lt (omega (arith, few)) (p.hold.stays.joined ∙ joins.ready.joined) walk none (mendable joins.ready p.hold) refl refl refl
      (p.hold.has d (locked_held (Some X)) p.at_d) refl refl refl refl live absent room (p.hold.has i (fresh_held (with_dots i d (with_count 1 (blank OfDirectory)))) p.at_i) refl refl refl good from below notes
      (begun_by version (calls.Mkdir path) (act ∷ []) (told_step i (Mkdir path) Done ∷ fs) [] (done (calls.Mkdir path)) told (done_ends path))
      (λ l2 u2 q2 held2. named X i l2 (told_step i (Mkdir path) Done ∷ fs) u2 _ (omega (arith, few, q2)) held2
      (pair_set (record R { inodes = put (put R.inodes d (Some D)) i (Some (locked_held (Some (new_directory i d)))); mine = record { refs = R.mine.refs; walk = None; pending = None } }) (locked_held (Some (new_directory i d)))
      (pair_set_first (record R { inodes = put R.inodes d (Some D) }) D p refl refl refl refl refl) refl refl refl refl refl)
      room refl refl (inr (written_by (calls.Mkdir path) (act ∷ []) (told_step i (Mkdir path) Done ∷ fs) (done (calls.Mkdir path)) told (done_ends path))))
      (λ l2 u2 q2 held2. unmade (full (calls.Mkdir path) Blocks) l2 u2 (omega (arith, few, q2)) held2)
      (λ l2 u2 q2 held2. unmade (full (calls.Mkdir path) DirectoryFull) l2 u2 (omega (arith, few, q2)) held2)
    where
      act : Act
      act = record { step = Mkdir path; answer = Done }

      D : Held
      D = record (locked_held (Some X)) { disk = Some (with_entry e i X); node = Some (raised (with_entry e i X)) }

      told : Walked (calls.Mkdir path) (act ∷ []) (told_step i (Mkdir path) Done ∷ fs)
      told = walking_told (calls.Mkdir path) [] (Mkdir path) Done i fs walking

      unmade : (r : Reply) (l2 : ℕ) (u2 : World) → 971 * length ns + 1890 < l2 → own_of h u2 ≡ mended_own R → Goes version h path (unmake i d ns r) l2 fs u2
      unmade r l2 u2 few2 held2 =
          s-unmake version h (calls.Mkdir path) r (with_dots i d (with_count 1 (blank OfDirectory))) l2 fs u2 (mended_own R) lt joins held2 few2 (pair_same (mended_own R) p refl refl (stays_mended (mended_own R) joins.ready p.hold.stays refl refl refl)) (record { locked = refl; shared = refl; same = refl }) refl refl refl refl zero notes from below refl refl (inl refl)

  -- A number is claimed: its lock is taken, its count and its entries stored.
  makes : (X : Node) (i l : ℕ) (fs : List Step) (u : World) (R : Own) → 971 * length ns + 3570 < l → own_of h u ≡ R → Pair base ns O0 R d i (locked_held (Some X)) (claimed_held OfDirectory) → base i ≡ 0 → R.mine.walk ≡ Some (record { step = Mkdir path; at = d; next = e; rest = [] }) → R.mine.pending ≡ None
      → live_directory (Some X) ≡ true → look (λ j. Some X) d e ≡ None → nat_lt X.count count_limit ≡ true → IsName version e → 1 ≤ i → i < R.ninodes → ((t : Note) → R.desk.noted ≡ Some t → t.number ≢ i) → Walked (calls.Mkdir path) [] fs
      → Goes version h path (mkdir_with path d e ns (face_or (face_of version (Some X))) (New i)) l fs u
  makes X i l fs u R few held p zero walk none live absent room good from below notes walking =
      subst (λ (b : Bool). Goes version h path (if b then Do (Forget i) unmarked (λ _. give_up d (tail ns (full (calls.Mkdir path) MemInodes))) else mkdir_other path d e ns (face_or (face_of version (Some X))) i) l fs u) (sym (eq_not i d p.apart))
      (s-take-kept version held free lt (omega (arith, few)) (p.hold.has i (claimed_held OfDirectory) p.at_i) refl (λ e. cc) tt (let f = p.hold.refs i in let o = one_at i in omega (arith, f, o)) (λ l1 u1 q1 held1.
      s-store version i 1 (blank OfDirectory) held1 free lt (omega (arith, few, q1)) joined (put_same R.inodes i (Some (fresh_held (blank OfDirectory)))) refl refl (inl (omega arith)) (λ l2 u2 q2 held2.
      s-fill version i d (with_count 1 (blank OfDirectory)) held2 free lt (omega (arith, few, q1, q2)) joined (put_same (put R.inodes i (Some (fresh_held (blank OfDirectory)))) i (Some (fresh_held (with_count 1 (blank OfDirectory))))) refl refl refl (locked_held (Some X)) X (p2.hold.has d (locked_held (Some X)) p2.at_d) refl (mendable joins.ready p2.hold)
      (λ l3 u3 q3 held3. enters X i l3 fs u3 _ (omega (arith, few, q1, q2, q3)) held3 (pair_set _ (fresh_held (with_dots i d (with_count 1 (blank OfDirectory)))) p2 refl refl refl refl refl) zero walk none live absent room good from below notes walking)
      (λ l3 u3 q3 held3. s-unmake version h (calls.Mkdir path) (full (calls.Mkdir path) Blocks) (with_count 1 (blank OfDirectory)) l3 fs u3 _ lt joins held3 (omega (arith, few, q1, q2, q3)) (pair_same (mended_own Owned2) p2 refl refl (stays_mended (mended_own Owned2) joins.ready p2.hold.stays refl refl refl)) (record { locked = refl; shared = refl; same = refl }) refl refl refl refl zero notes from below refl refl (inl refl)))))
    where
      free : R.desk.lender ≡ None
      free = p.hold.stays.lender ∙ joins.ready.free

      joined : R.desk.joined ≡ true
      joined = p.hold.stays.joined ∙ joins.ready.joined

      Owned1 : Own
      Owned1 = record R { inodes = put R.inodes i (Some (fresh_held (blank OfDirectory))) }

      Owned2 : Own
      Owned2 = record R { inodes = put Owned1.inodes i (Some (fresh_held (with_count 1 (blank OfDirectory)))) }

      p2 : Pair base ns O0 Owned2 d i (locked_held (Some X)) (fresh_held (with_count 1 (blank OfDirectory)))
      p2 = pair_set Owned2 (fresh_held (with_count 1 (blank OfDirectory))) (pair_set Owned1 (fresh_held (blank OfDirectory)) p refl refl refl refl refl) refl refl refl refl refl

  -- The parent is seen.
  sees : (n : ℕ) (fs : List Step) (w : World) (O : Own) → 971 * length ns + 24000 ≤ n → On version h (Mkdir path) d e [] base ns O0 O w → Walked (calls.Mkdir path) [] fs → Goes version h path (mkdir_in path d e ns) n fs w
  sees n fs w O few on walking =
      s-see version (calls.Mkdir path) [] (Mkdir path) (λ a. is_refused (mkdir_refused a.found (face_or a.face))) d e lt joins.ready on (omega (arith, few)) on.names.0 (follows path) walking (λ t q. mkdir_place t h path lt) (λ b. refl) (λ g q. absurd cc) (λ f. refl)
      (λ x l u dead q held. subst (λ (b : Bool). Goes version h path (by_face version path d e ns x b) l (quit_step (Mkdir path) ∷ fs) u) (sym (live_face version x ∙ dead)) (ended NoEntry x l u q held (walking_quit (calls.Mkdir path) [] (Mkdir path) fs walking)))
      (λ x live q. let z = refused_is (mkdir_refused (look (λ j. x) d e) (face_or (face_of version x))) q in (
        z.0,
        refusal x z.0 live z.1,
        (λ l u p held.
            subst (λ (b : Bool). Goes version h path (by_face version path d e ns x b) l (told_step 0 (Mkdir path) (Failed z.0) ∷ fs) u) (sym (live_face version x ∙ live))
            (subst (λ (o : Option Cause). Goes version h path (mkdir_on path d e ns (face_or (face_of version x)) o) l (told_step 0 (Mkdir path) (Failed z.0) ∷ fs) u) (sym z.1) (ended z.0 x l u p held (walking_told (calls.Mkdir path) [] (Mkdir path) (Failed z.0) 0 fs walking)))),
      ))
      (λ x l u inv live q q2 held. subst (λ (b : Bool). Goes version h path (by_face version path d e ns x b) l fs u) (sym (live_face version x ∙ live)) (free_name x l u live (refused_not (mkdir_refused (look (λ j. x) d e) (face_or (face_of version x))) q) q2 held))
    where
      ended : (k : Cause) (x : Option Node) (l : ℕ) (u : World) {gs : List Step} → l + 1612 ≡ n → own_of h u ≡ record O { inodes = put O.inodes d (Some (locked_held x)); mine = record { refs = O.mine.refs; walk = None; pending = None } } → Walked (calls.Mkdir path) (record { step = Mkdir path; answer = Failed k } ∷ []) gs
          → Goes version h path (give_up d (tail ns (failed (calls.Mkdir path) k))) l gs u
      ended k x l u {gs} p held told = ends_one (failed (calls.Mkdir path) k) x l gs u _ (omega (arith, p, few)) held (locked_one x on refl refl refl refl refl) refl refl (inr (written_by (calls.Mkdir path) (record { step = Mkdir path; answer = Failed k } ∷ []) gs (failed (calls.Mkdir path) k) told (fails_end path k)))

      refusal : (x : Option Node) (k : Cause) → live_directory x ≡ true → mkdir_refused (look (λ j. x) d e) (face_or (face_of version x)) ≡ Some k → (b : Tree) → Agrees (record O { inodes = put O.inodes d (Some (locked_held x)) }) b → refusal_with version b h (Mkdir path) (look (λ j. x) d e) (Some (d, e)) ≡ Some k
      refusal None k live q b a = absurd cc
      refusal (Some X) k live q b a = let z = agrees_look b d e (Some X) O live a in is_refusal version b h path (look (λ j. Some X) d e) (look (λ j. Some X) d e) d e X z.0 z.1 ∙ q

      free_name : (x : Option Node) (l : ℕ) (u : World) → live_directory x ≡ true → mkdir_refused (look (λ j. x) d e) (face_or (face_of version x)) ≡ None → l + 1612 ≡ n → own_of h u ≡ record O { inodes = put O.inodes d (Some (locked_held x)) }
          → Goes version h path (mkdir_on path d e ns (face_or (face_of version x)) (mkdir_refused (look (λ j. x) d e) (face_or (face_of version x)))) l fs u
      free_name None l u live goes p held = absurd cc
      free_name (Some X) l u live goes p held =
          subst (λ (o : Option Cause). Goes version h path (mkdir_on path d e ns (face_or (face_of version (Some X))) o) l fs u) (sym goes)
          (s-claim version OfDirectory held free lt (omega (arith, p, few)) (on.stays.joined ∙ joins.ready.joined) (mendable joins.ready k)
          (λ l2 i u2 q2 from below out zero held2. makes X i l2 fs u2 _ (omega (arith, p, q2, few)) held2
          (pair_new _ d i (claimed_held OfDirectory) k (put_same nothing d (Some (locked_held (Some X)))) (λ j ne. put_other nothing d (Some (locked_held (Some X))) j ne) out refl refl refl refl refl)
          (let f = k.refs i in omega (arith, f, zero)) on.walk on.pending live (goes_on (look (λ j. Some X) d e) (face_or (face_of version (Some X))) goes).0 (goes_on (look (λ j. Some X) d e) (face_or (face_of version (Some X))) goes).1 on.names.0 from below
          (λ t q r. absurd (let a = on.notes t q in let b : O.mine.refs t.number ≡ O.mine.refs i = ap O.mine.refs r in omega (arith, a, b, zero))) walking)
          (λ l2 u2 q2 held2. ends_one (full (calls.Mkdir path) DiskInodes) (Some X) l2 fs u2 (mended_own O1) (omega (arith, p, q2, few)) held2 (holding_same (mended_own O1) k refl (stays_mended (mended_own O1) joins.ready k.stays refl refl refl) refl) refl refl (inl refl))
          (λ l2 u2 q2 held2. ends_one (full (calls.Mkdir path) MemInodes) (Some X) l2 fs u2 (mended_own O1) (omega (arith, p, q2, few)) held2 (holding_same (mended_own O1) k refl (stays_mended (mended_own O1) joins.ready k.stays refl refl refl) refl) refl refl (inl refl)))
        where
          O1 : Own
          O1 = record O { inodes = put O.inodes d (Some (locked_held (Some X))) }

          free : O.desk.lender ≡ None
          free = on.stays.lender ∙ joins.ready.free

          k : Holding base ns O0 O1 (put nothing d (Some (locked_held (Some X)))) (λ i. 0 + one_if (d == i))
          k = locked_one (Some X) on refl refl refl refl refl

pub mkdir_begins : (version : Version) (path : List ℕ) → IsBeginning (covered_calls version) (calls.Mkdir path) []
mkdir_begins version path = tt

pub mkdir_ok : (version : Version) (h : ℕ) (path : List ℕ) (w : World) → Inv w → (w.desks h).lender ≡ None → h < hart_count → Idle h w → AllNames version (elements version path) → Safe (machine version) h (Begun (covered_calls version) (calls.Mkdir path)) (Ends (covered_calls version) h (calls.Mkdir path)) (mkdir_program version path) (path_cost version path + rest_cost) [] w
mkdir_ok version h path w inv free lt idle named =
    s-naming version h (calls.Mkdir path) (Mkdir path) (mkdir_in path) (path_cost version path + rest_cost) w inv free lt idle (record { follows = follows path; ends = fails_end path NoEntry }) (leads version h path (joined_own (own_of h w)) lt) named (omega arith)
    (λ d e ms l fs u R few joins on walking. sees version h path lt joins d e ms l fs u R few on walking)
