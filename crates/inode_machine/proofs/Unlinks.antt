-- Unlink is right, whatever the other harts do.
use Rattle.inode_machine.proofs.Vocabulary.{◌≡◌, ◌≢◌, inl, inr, ℕ, ◌+◌, ◌-◌, ◌*◌, ◌<◌, ◌≤◌, Bool, true, false, ◌||◌, not, ◌==◌, List, [], ◌∷◌, length, Option, Some, None, refl, sym, ◌∙◌, ap, subst, arith, if◌then◌else◌, Do, unmarked, own, onto, Fine, Safe, Wp, Begun, Ends, IsBeginning, Cause, NoEntry, NotEmpty, DotName, MemInodes, Reply, Node, NodeKind, Directory, File, Device, Unlink, Done, Failed, hart_count, Name, Tree, put, look, same_name, dot, dotdot, is_directory, all_slots, is_live, live_directory, elements, node_or, node_at, lowered, not_empty, any_used, refusal_with, refusal_by, Act, next_of, reply_of, had_room, one_if, folders_of, links_in, raises, IsWellFormed, eq_not, same_or, put_same, put_other, or_none, live_is, look_live, look_folder, entry_found, entry_apart, look_bad, look_same, Step, MayEnd, Desk, World, Take, Store, face_of, face_or, seen_in, AtEntries, is_directory_type, is_live_face, type_of_kind, is_empty_kind, is_empty_node, with_count, without_entry, marked, places, Held, Own, own_of, nothing, Idle, Inv, machine, ThisP as P, done, failed, full, give_up, is_some, looks_if, tail, always, clear_name, is_missing, lower_parent, or_missing, unlink_child, unlink_dots, unlink_found, unlink_in, unlink_named, unlink_other, unlink_program, path_cost, rest_cost, covered_calls, look_cost}
use Rattle.std.proofs.Common.{drop}
use Rattle.image_versions.specs.declared.version.Version.{Version}
use Rattle.plain_tree.specs.declared.call.Call.TheVariants as calls
use Rattle.inode_machine.proofs.Basics.{AllNames, fair_same, quiet, locked_held, has_node, s-up, live_face, s-take-then, look_refused_good, listed_held, times, one_at, one_else, On, stays_same, few_listed, Walked, joined_own, mend_fine, mended_own, s-store, told_step, Holding, IsWhole, HasJoined, IsAnswerable, holding_on, holding_set, holding_same, mendable, stays_mended, unlisted, unlisted_refs, s-give-end, s-give-up, Follows, agrees_look, begun_by, begun_refused, s-see, walking_quit, walking_told, written_by}
use Rattle.inode_machine.proofs.Removes.{less, unlink_place, s-clear}
use Rattle.inode_machine.proofs.Namings.{Leads, s-naming}

-- What is written.

fails_end : (path : List ℕ) (k : Cause) → MayEnd (calls.Unlink path) (record { step = Unlink path; answer = Failed k } ∷ []) (failed (calls.Unlink path) k)
unfolding next_of reply_of had_room
fails_end path k = record { through = refl; reply = refl; room = refl }

done_ends : (path : List ℕ) → MayEnd (calls.Unlink path) (record { step = Unlink path; answer = Done } ∷ []) (done (calls.Unlink path))
unfolding next_of reply_of had_room
done_ends path = record { through = refl; reply = refl; room = refl }

comes_first : (path : List ℕ) → next_of (calls.Unlink path) [] ≡ Some (Unlink path)
unfolding next_of
comes_first path = refl

follows : (path : List ℕ) → Follows (calls.Unlink path) [] (Unlink path)
follows path = record { next = comes_first path; rest = λ k. []; reply = λ k. failed (calls.Unlink path) k; fails = fails_end path }

no_parent : (version : Version) (t : Tree) (h : ℕ) (path : List ℕ) (res : Option ℕ) → refusal_with version t h (Unlink path) res None ≡ Some NoEntry
unfolding refusal_by
no_parent version t h path res = refl

leads : (version : Version) (h : ℕ) (path : List ℕ) (O0 : Own) → h < hart_count → Leads version h (Unlink path) O0
leads version h path O0 lt = record { follows = refl; missing = λ b res. no_parent version b h path res; stays = λ b. refl; place = λ t q. unlink_place t h path lt; other = λ g q. absurd cc; finds = refl }

-- Why it is refused.

dot_name : (version : Version) (t : Tree) (h : ℕ) (path : List ℕ) (res : Option ℕ) (d : ℕ) (e : Name) → (same_name e dot || same_name e dotdot) ≡ true → refusal_with version t h (Unlink path) res (Some (d, e)) ≡ Some DotName
unfolding refusal_by
dot_name version t h path res d e q = rw q refl

is_absent : (version : Version) (t : Tree) (h : ℕ) (path : List ℕ) (res : Option ℕ) (d : ℕ) (e : Name) → (same_name e dot || same_name e dotdot) ≡ false → look t.nodes d e ≡ None → refusal_with version t h (Unlink path) res (Some (d, e)) ≡ Some NoEntry
unfolding refusal_by
is_absent version t h path res d e q none = rw (q, none) refl

has_entries : (version : Version) (t : Tree) (h : ℕ) (path : List ℕ) (res : Option ℕ) (d n : ℕ) (e : Name) → (same_name e dot || same_name e dotdot) ≡ false → look t.nodes d e ≡ Some n → not_empty (node_at t n).kind ≡ Some NotEmpty → refusal_with version t h (Unlink path) res (Some (d, e)) ≡ Some NotEmpty
unfolding refusal_by
has_entries version t h path res d n e q is full = rw (q, is) full

emptiness : (k : NodeKind) → not_empty k ≡ (if is_empty_kind k then None else Some NotEmpty)
emptiness (Directory slots) = by_use (any_used (drop 2 slots))
  where
    by_use : (b : Bool) → (if b then Some NotEmpty else None) ≡ (if not b then None else Some NotEmpty)
    by_use true = refl
    by_use false = refl
emptiness (File bytes) = refl
emptiness (Device major minor size) = refl

-- a name other than "." and ".." is of another inode
entry_else : (t : Tree) (d n : ℕ) (e : Name) → IsWellFormed t → live_directory (t.nodes d) ≡ true → (same_name e dot || same_name e dotdot) ≡ false → look t.nodes d e ≡ Some n → n ≢ d
entry_else t d n e k live plain is q =
    let two = or_none (same_name e dot) (same_name e dotdot) plain in
    let f = look_folder t.nodes d e (Some n) live is in
    entry_apart (folders_of t.nodes) (links_in t.nodes) (raises t.holds) t.ninodes k.depth d n (all_slots (t.nodes d)) k.forest f.0
    (entry_found (folders_of t.nodes) (links_in t.nodes) (raises t.holds) t.ninodes k.depth d n (all_slots (t.nodes d)) e k.forest f.0 two.0 two.1 f.1) (sym q)

-- what a directory that the hart keeps finds is live, so it isn't listed
pub unkept : {base : ℕ → ℕ} {ns : List ℕ} {O0 O : Own} {E : ℕ → Option Held} {more : ℕ → ℕ} (h n : ℕ) (u : World) → own_of h u ≡ O → Holding base ns O0 O E more → E n ≡ None → is_live (u.all.nodes n) ≡ true → O.inodes n ≡ None
unkept {O = O} {E = E} h n u own k out live = go (O.inodes n) refl
  where
    go : (o : Option Held) → O.inodes n ≡ o → O.inodes n ≡ None
    go None q = q
    go (Some z) q = elim (k.only n z q) [
      | inl t ↦ (let a = k.all n t in let b = has_node h n u O (listed_held a.node) own a.is in let c = a.dead in absurd (cc (b, c, live)))
      | inr e ↦ absurd (cc (e, out))
    ]

-- the rest of the call is right
abbrev Goes : Version → ℕ → List ℕ → P Reply → ℕ → List Step → World → Type 0
Goes version h path p n es w = Safe (machine version) h (Begun (covered_calls version) (calls.Unlink path)) (Ends (covered_calls version) h (calls.Unlink path)) p n es w

-- the directory d has X, and its child n has Z
abbrev both : ℕ → Node → Node → ℕ → ℕ → Option Held
both d X Z n = put (put nothing d (Some (locked_held (Some X)))) n (Some (locked_held (Some Z)))

module _ (version : Version) (h : ℕ) (path : List ℕ) (lt : h < hart_count) {base : ℕ → ℕ} {O0 : Own} (joins : HasJoined base O0) (d : ℕ) (e : Name) (ns : List ℕ) where
  -- the directory alone is locked
  locked_one : {w : World} {O R : Own} (x : Option Node) → On version h (Unlink path) d e [] base ns O0 O w → R.inodes ≡ put O.inodes d (Some (locked_held x)) → R.row ≡ O.row → R.ninodes ≡ O.ninodes → R.desk ≡ O.desk → R.mine.refs ≡ O.mine.refs → Holding base ns O0 R (put nothing d (Some (locked_held x))) (λ i. 0 + one_if (d == i))
  locked_one {w} {O} {R} x on inodes row ninodes desk refs =
      let k = holding_on version h (Unlink path) d e [] base ns O0 O w on in
      holding_set R d (Some (locked_held x)) (λ i. 0 + one_if (d == i)) k (unlisted k d on.out) inodes (stays_same R O O0 row ninodes desk on.stays) (λ i ne. ap (λ (f : ℕ → ℕ). f i) refs) (λ i. ap (λ (f : ℕ → ℕ). f i) refs ∙ k.refs i)

  else_one : (x : Option Held) (i : ℕ) → i ≢ d → put nothing d x i ≡ None
  else_one x i ne = put_other nothing d x i ne

  -- it is given up, and the call ends
  ends_one : (r : Reply) (x : Option Node) (n : ℕ) (es : List Step) (w : World) (R : Own) → 971 * length ns + 970 < n → own_of h w ≡ R → Holding base ns O0 R (put nothing d (Some (locked_held x))) (λ i. 0 + one_if (d == i)) → R.mine.walk ≡ None → R.mine.pending ≡ None → IsAnswerable (calls.Unlink path) r es R → Goes version h path (give_up d (tail ns r)) n es w
  ends_one r x n es w R few held k walk none told =
      s-give-end version h (calls.Unlink path) r ns (put nothing d (Some (locked_held x))) d n es w R lt joins held few k (put_same nothing d (Some (locked_held x))) (record { locked = refl; shared = refl; same = refl }) (λ i ne. else_one (Some (locked_held x)) i ne) walk none told

  -- "." and ".." are no names to remove
  dots : (n : ℕ) (fs : List Step) (w : World) (O : Own) → (same_name e dot || same_name e dotdot) ≡ true → 971 * length ns + 24000 ≤ n → On version h (Unlink path) d e [] base ns O0 O w → Walked (calls.Unlink path) [] fs → Goes version h path (unlink_dots path d ns) n fs w
  dots n fs w O is few on walking =
      s-see version (calls.Unlink path) [] (Unlink path) always d e lt joins.ready on (omega (arith, few)) tt (follows path) walking (λ t q. unlink_place t h path lt) (λ b. refl) (λ g q. absurd cc) (λ f. refl)
      (λ x l u dead q held. ended x false NoEntry l u (live_face version x ∙ dead) refl q held (walking_quit (calls.Unlink path) [] (Unlink path) fs walking))
      (λ x live q. (DotName, (λ b a. dot_name version b h path (look (λ j. x) d e) d e is), (λ l u q2 held. ended x true DotName l u (live_face version x ∙ live) refl q2 held (walking_told (calls.Unlink path) [] (Unlink path) (Failed DotName) 0 fs walking))))
      (λ x l u inv live q. absurd cc)
    where
      ended : (x : Option Node) (b : Bool) (k : Cause) (l : ℕ) (u : World) {gs : List Step} → is_live_face (face_of version x) ≡ b → or_missing DotName b ≡ k → l + 4 ≡ n → own_of h u ≡ record O { inodes = put O.inodes d (Some (locked_held x)); mine = record { refs = O.mine.refs; walk = None; pending = None } } → Walked (calls.Unlink path) (record { step = Unlink path; answer = Failed k } ∷ []) gs
          → Goes version h path (give_up d (tail ns (failed (calls.Unlink path) (or_missing DotName (is_live_face (face_of version x)))))) l gs u
      ended x b k l u {gs} q why p held told =
          subst (λ (y : Cause). Goes version h path (give_up d (tail ns (failed (calls.Unlink path) y))) l gs u) (sym (ap (λ (z : Bool). or_missing DotName z) q ∙ why))
          (ends_one (failed (calls.Unlink path) k) x l gs u _ (omega (arith, p, few)) held (locked_one x on refl refl refl refl refl) refl refl (inr (written_by (calls.Unlink path) (record { step = Unlink path; answer = Failed k } ∷ []) gs (failed (calls.Unlink path) k) told (fails_end path k))))

  -- The child is locked too: the directory has X, and the child Z.

  -- both are given up, the child first
  ends_both : (r : Reply) (X Z : Node) (n l : ℕ) (es : List Step) (w : World) (R : Own) → n ≢ d → 971 * length ns + 1880 < l → own_of h w ≡ R → Holding base ns O0 R (both d X Z n) (λ i. (0 + one_if (d == i)) + one_if (n == i)) → R.mine.walk ≡ None → R.mine.pending ≡ None → IsAnswerable (calls.Unlink path) r es R → Goes version h path (give_up n (give_up d (tail ns r))) l es w
  ends_both r X Z n l es w R ne few held k walk none told =
      s-give-up version n {more = λ i. 0 + one_if (d == i)} held lt joins.ready (omega (arith, few)) k walk none (put_same (put nothing d (Some (locked_held (Some X)))) n (Some (locked_held (Some Z)))) (record { locked = refl; shared = refl; same = refl }) (λ l2 u2 Owned2 q2 own2 desk walk2 none2 k2.
      s-give-end version h (calls.Unlink path) r ns (put (both d X Z n) n None) d l2 es u2 Owned2 lt joins own2 (omega (arith, few, q2)) k2
      (put_other (both d X Z n) n None d (λ q. ne (sym q)) ∙ put_other (put nothing d (Some (locked_held (Some X)))) n (Some (locked_held (Some Z))) d (λ q. ne (sym q)) ∙ put_same nothing d (Some (locked_held (Some X)))) (record { locked = refl; shared = refl; same = refl })
      (λ i nd. elim (same_or i n) [ inl q ↦ ap (put (both d X Z n) n None) q ∙ put_same (both d X Z n) n None | inr nn ↦ put_other (both d X Z n) n None i nn ∙ put_other (put nothing d (Some (locked_held (Some X)))) n (Some (locked_held (Some Z))) i nn ∙ else_one (Some (locked_held (Some X))) i nd ]) walk2 none2
      (elim told [ inl f ↦ inl (ap (λ (z : Desk). z.full) desk ∙ f) | inr a ↦ inr a ]))

  -- the counts are stored, the directory's if the name was a directory's
  lowered_end : (X Z : Node) (n l : ℕ) (es : List Step) (w : World) (R : Own) → n ≢ d → 971 * length ns + 1900 < l → own_of h w ≡ R → R.mine.walk ≡ None → R.mine.pending ≡ None → IsAnswerable (calls.Unlink path) (done (calls.Unlink path)) es R
      → Holding base ns O0 R (put (put (both d X Z n) d (Some (record (locked_held (Some X)) { disk = Some (without_entry e X); node = Some (less X Z e) }))) n (Some (record (locked_held (Some Z)) { node = Some (lowered Z) }))) (λ i. (0 + one_if (n == i)) + one_if (d == i))
      → Goes version h path (lower_parent d (face_or (face_of version (Some X))) (face_or (face_of version (Some Z))) (give_up d (Do (Store n (Z.count - 1)) unmarked (λ _. give_up n (tail ns (done (calls.Unlink path))))))) l es w
  lowered_end X Z n l es w R ne few held walk none told k = by_type (is_directory_type (type_of_kind Z.kind)) (type_is Z.kind)
    where
      F : ℕ → Option Held
      F = put (put (both d X Z n) d (Some (record (locked_held (Some X)) { disk = Some (without_entry e X); node = Some (less X Z e) }))) n (Some (record (locked_held (Some Z)) { node = Some (lowered Z) }))

      type_is : (y : NodeKind) → is_directory_type (type_of_kind y) ≡ is_directory y
      type_is (Directory slots) = refl
      type_is (File bytes) = refl
      type_is (Device major minor size) = refl

      at_d : F d ≡ Some (record (locked_held (Some X)) { disk = Some (without_entry e X); node = Some (less X Z e) })
      at_d = put_other (put (both d X Z n) d (Some (record (locked_held (Some X)) { disk = Some (without_entry e X); node = Some (less X Z e) }))) n (Some (record (locked_held (Some Z)) { node = Some (lowered Z) })) d (λ q. ne (sym q)) ∙ put_same (both d X Z n) d (Some (record (locked_held (Some X)) { disk = Some (without_entry e X); node = Some (less X Z e) }))

      at_n : F n ≡ Some (record (locked_held (Some Z)) { node = Some (lowered Z) })
      at_n = put_same (put (both d X Z n) d (Some (record (locked_held (Some X)) { disk = Some (without_entry e X); node = Some (less X Z e) }))) n (Some (record (locked_held (Some Z)) { node = Some (lowered Z) }))

      others : (i : ℕ) → i ≢ d → i ≢ n → F i ≡ None
      others i nd nn = put_other (put (both d X Z n) d (Some (record (locked_held (Some X)) { disk = Some (without_entry e X); node = Some (less X Z e) }))) n (Some (record (locked_held (Some Z)) { node = Some (lowered Z) })) i nn
          ∙ put_other (both d X Z n) d (Some (record (locked_held (Some X)) { disk = Some (without_entry e X); node = Some (less X Z e) })) i nd ∙ put_other (put nothing d (Some (locked_held (Some X)))) n (Some (locked_held (Some Z))) i nn ∙ else_one (Some (locked_held (Some X))) i nd

      -- the directory is given up, then the child's count is stored
      given : (G : ℕ → Option Held) {y : Held} (l2 : ℕ) (u : World) (Owned2 : Own) → 971 * length ns + 1890 < l2 → own_of h u ≡ Owned2 → Owned2.desk ≡ R.desk → Owned2.mine.walk ≡ None → Owned2.mine.pending ≡ None → Holding base ns O0 Owned2 G (λ i. (0 + one_if (n == i)) + one_if (d == i)) → G d ≡ Some y → IsWhole y → G n ≡ Some (record (locked_held (Some Z)) { node = Some (lowered Z) }) → ((i : ℕ) → i ≢ d → i ≢ n → G i ≡ None)
          → Goes version h path (give_up d (Do (Store n (Z.count - 1)) unmarked (λ _. give_up n (tail ns (done (calls.Unlink path)))))) l2 es u
      given G l2 u Owned2 few2 own2 desk2 walk2 none2 k2 isd whole isn rest =
          s-give-up version d {more = λ i. 0 + one_if (n == i)} own2 lt joins.ready (omega (arith, few2)) k2 walk2 none2 isd whole (λ l3 u3 Owned3 q3 own3 desk3 walk3 none3 k3.
          s-store version n (Z.count - 1) Z own3 (k3.stays.lender ∙ joins.ready.free) lt (omega (arith, few2, q3)) (k3.stays.joined ∙ joins.ready.joined) (k3.has n (record (locked_held (Some Z)) { node = Some (lowered Z) }) (put_other G d None n ne ∙ isn)) refl refl (inr (omega arith)) (λ l4 u4 q4 own4.
          s-give-end version h (calls.Unlink path) (done (calls.Unlink path)) ns (put (put G d None) n (Some (locked_held (Some (lowered Z))))) n l4 es u4 _ lt joins own4 (omega (arith, few2, q3, q4))
          (holding_set (record Owned3 { inodes = put Owned3.inodes n (Some (locked_held (Some (lowered Z)))) }) n (Some (locked_held (Some (lowered Z)))) (λ i. 0 + one_if (n == i)) k3 (unlisted_refs k3 n (let o = one_at n in omega (arith, o))) refl (stays_same _ Owned3 O0 refl refl refl k3.stays) (λ i q. refl) (λ i. k3.refs i))
          (put_same (put G d None) n (Some (locked_held (Some (lowered Z))))) (record { locked = refl; shared = refl; same = refl })
          (λ i nn. put_other (put G d None) n (Some (locked_held (Some (lowered Z)))) i nn ∙ elim (same_or i d) [ inl q ↦ ap (put G d None) q ∙ put_same G d None | inr nd ↦ put_other G d None i nd ∙ rest i nd nn ]) walk3 none3
          (elim told [ inl f ↦ inl (ap (λ (z : Desk). z.full) (desk3 ∙ desk2) ∙ f) | inr a ↦ inr a ])))

      by_type : (b : Bool) → b ≡ is_directory Z.kind → Goes version h path (if b then Do (Store d (X.count - 1)) unmarked (λ _. give_up d (Do (Store n (Z.count - 1)) unmarked (λ _. give_up n (tail ns (done (calls.Unlink path)))))) else give_up d (Do (Store n (Z.count - 1)) unmarked (λ _. give_up n (tail ns (done (calls.Unlink path)))))) l es w
      by_type false q = given F l w R (omega (arith, few)) held refl walk none k at_d (record { locked = refl; shared = refl; same = λ z. Some (record { kind = (without_entry e X).kind; count = if q z then X.count - 1 else X.count }) }) at_n others
      by_type true q =
          s-store version d (X.count - 1) (without_entry e X) held (k.stays.lender ∙ joins.ready.free) lt (omega (arith, few)) (k.stays.joined ∙ joins.ready.joined) (k.has d _ at_d) refl refl (inr (omega arith)) (λ l2 u2 q2 own2.
          given (put F d (Some (record (locked_held (Some X)) { disk = Some (with_count (X.count - 1) (without_entry e X)); node = Some (less X Z e) }))) l2 u2 _ (omega (arith, few, q2)) own2 refl walk none
          (holding_set (record R { inodes = put R.inodes d (Some (record (locked_held (Some X)) { disk = Some (with_count (X.count - 1) (without_entry e X)); node = Some (less X Z e) })) }) d (Some (record (locked_held (Some X)) { disk = Some (with_count (X.count - 1) (without_entry e X)); node = Some (less X Z e) })) (λ i. (0 + one_if (n == i)) + one_if (d == i)) k
          (unlisted_refs k d (let o = one_at d in omega (arith, o))) refl (stays_same _ R O0 refl refl refl k.stays) (λ i z. refl) (λ i. k.refs i))
          (put_same F d (Some (record (locked_held (Some X)) { disk = Some (with_count (X.count - 1) (without_entry e X)); node = Some (less X Z e) }))) (record { locked = refl; shared = refl; same = λ z. Some (record { kind = (without_entry e X).kind; count = if q z then X.count - 1 else X.count }) })
          (put_other F d (Some (record (locked_held (Some X)) { disk = Some (with_count (X.count - 1) (without_entry e X)); node = Some (less X Z e) })) n ne ∙ at_n)
          (λ i nd nn. put_other F d (Some (record (locked_held (Some X)) { disk = Some (with_count (X.count - 1) (without_entry e X)); node = Some (less X Z e) })) i nd ∙ others i nd nn))

  -- The slot is cleared, and the counts stored.
  clears : (X Z : Node) (n l : ℕ) (fs : List Step) (u : World) (R : Own) → n ≢ d → 971 * length ns + 3620 < l → own_of h u ≡ R → Holding base ns O0 R (both d X Z n) (λ i. (0 + one_if (d == i)) + one_if (n == i)) → R.mine.walk ≡ Some (record { step = Unlink path; at = d; next = e; rest = [] }) → R.mine.pending ≡ None → live_directory (Some X) ≡ true
      → look (λ j. Some X) d e ≡ Some n → (same_name e dot || same_name e dotdot) ≡ false → not_empty Z.kind ≡ None → Walked (calls.Unlink path) [] fs → Goes version h path (clear_name path d e ns (face_or (face_of version (Some X))) n (face_or (face_of version (Some Z)))) l fs u
  clears X Z n l fs u R ne few held k walk none live finds plain empty walking =
      s-clear version d n X Z e path held (k.stays.lender ∙ joins.ready.free) lt (omega (arith, few)) (k.stays.joined ∙ joins.ready.joined) walk none (k.has d (locked_held (Some X)) at_d) refl refl refl refl live (k.has n (locked_held (Some Z)) at_n) refl refl finds two.0 two.1 empty
      (begun_by version (calls.Unlink path) (act ∷ []) (told_step 0 (Unlink path) Done ∷ fs) [] (done (calls.Unlink path)) told (done_ends path))
      (λ l2 u2 q2 apart held2. lowered_end X Z n l2 (told_step 0 (Unlink path) Done ∷ fs) u2 _ ne (omega (arith, few, q2)) held2 refl refl (inr (written_by (calls.Unlink path) (act ∷ []) (told_step 0 (Unlink path) Done ∷ fs) (done (calls.Unlink path)) told (done_ends path)))
      (holding_set (record R { inodes = put (put R.inodes d D) n N; mine = record { refs = R.mine.refs; walk = None; pending = None } }) n N (λ i. (0 + one_if (n == i)) + one_if (d == i))
      (holding_set (record R { inodes = put R.inodes d D }) d D (λ i. (0 + one_if (d == i)) + one_if (n == i)) k (unlisted_refs k d (let o = one_at d in omega (arith, o))) refl (stays_same _ R O0 refl refl refl k.stays) (λ i z. refl) (λ i. k.refs i))
      (unlisted_refs k n (let o = one_at n in omega (arith, o))) refl (stays_same _ R O0 refl refl refl k.stays) (λ i z. refl) (λ i. let r = k.refs i in omega (arith, r))))
    where
      act : Act
      act = record { step = Unlink path; answer = Done }

      D : Option Held
      D = Some (record (locked_held (Some X)) { disk = Some (without_entry e X); node = Some (less X Z e) })

      N : Option Held
      N = Some (record (locked_held (Some Z)) { node = Some (lowered Z) })

      two : (same_name e dot ≡ false) × (same_name e dotdot ≡ false)
      two = or_none (same_name e dot) (same_name e dotdot) plain

      told : Walked (calls.Unlink path) (act ∷ []) (told_step 0 (Unlink path) Done ∷ fs)
      told = walking_told (calls.Unlink path) [] (Unlink path) Done 0 fs walking

      at_d : both d X Z n d ≡ Some (locked_held (Some X))
      at_d = put_other (put nothing d (Some (locked_held (Some X)))) n (Some (locked_held (Some Z))) d (λ q. ne (sym q)) ∙ put_same nothing d (Some (locked_held (Some X)))

      at_n : both d X Z n n ≡ Some (locked_held (Some Z))
      at_n = put_same (put nothing d (Some (locked_held (Some X)))) n (Some (locked_held (Some Z)))

  -- The child's lock is taken. O: what the hart has with the directory's lock alone.
  child : (X : Node) (n l : ℕ) (fs : List Step) (u : World) (O : Own) → n ≢ d → 971 * length ns + 5400 < l → Holding base ns O0 O (put nothing d (Some (locked_held (Some X)))) (λ i. 0 + one_if (d == i)) → O.inodes n ≡ None
      → own_of h u ≡ record O { mine = record { refs = put O.mine.refs n (O.mine.refs n + 1); walk = O.mine.walk; pending = None } } → O.mine.walk ≡ Some (record { step = Unlink path; at = d; next = e; rest = [] }) → live_directory (Some X) ≡ true → look (λ j. Some X) d e ≡ Some n → (same_name e dot || same_name e dotdot) ≡ false
      → Walked (calls.Unlink path) [] fs → Goes version h path (unlink_child path d e ns (face_or (face_of version (Some X))) n) l fs u
  child X n l fs u O ne few k out held walk live finds plain walking =
      s-take-then version held (k.stays.lender ∙ joins.ready.free) lt (omega (arith, few)) out (let a = put_same O.mine.refs n (O.mine.refs n + 1) in omega (arith, a)) (λ v inv ov y. found_there v inv ov y) tt (λ u2 z inv held2. there u2 z inv held2 (is_live z) refl)
    where
      found_there : (v : World) → Inv v → own_of h v ≡ record O { mine = record { refs = put O.mine.refs n (O.mine.refs n + 1); walk = O.mine.walk; pending = None } } → v.all.nodes n ≢ None
      found_there v inv ov y =
          let nd = has_node h d v (record O { mine = record { refs = put O.mine.refs n (O.mine.refs n + 1); walk = O.mine.walk; pending = None } }) (locked_held (Some X)) ov (k.has d (locked_held (Some X)) (put_same nothing d (Some (locked_held (Some X))))) in
          let l = look_live v.all d n e inv.well (look_same (λ j. Some X) v.all.nodes d e nd ∙ finds) in
          let f : is_live (v.all.nodes n) ≡ false = ap (λ (o : Option Node). is_live o) y in
          cc (l, f)

      O3 : Option Node → Own
      O3 z = record O { inodes = put O.inodes n (Some (locked_held z)); mine = record { refs = put O.mine.refs n (O.mine.refs n + 1); walk = O.mine.walk; pending = None } }

      Looked : World → Option Node → Bool → Type 0
      Looked u2 z b = Fine (machine version) h (places version h (Take n AtEntries) (seen_in version n AtEntries z) (looks_if (not b)) u2) look_cost l (Begun (covered_calls version) (calls.Unlink path)) fs u2 (marked version h (looks_if (not b)) u2)
          (λ l2. Wp (machine version) h (Begun (covered_calls version) (calls.Unlink path)) (Ends (covered_calls version) h (calls.Unlink path)) (if b then clear_name path d e ns (face_or (face_of version (Some X))) n (face_or (face_of version z)) else give_up n (give_up d (tail ns (failed (calls.Unlink path) NotEmpty)))) l2 (onto (own h (places version h (Take n AtEntries) (seen_in version n AtEntries z) (looks_if (not b)) u2)) fs) (marked version h (looks_if (not b)) u2))

      isd : (z : Option Node) → (O3 z).inodes d ≡ Some (locked_held (Some X))
      isd z = put_other O.inodes n (Some (locked_held z)) d (λ q. ne (sym q)) ∙ k.has d (locked_held (Some X)) (put_same nothing d (Some (locked_held (Some X))))

      more_refs : (i : ℕ) → put O.mine.refs n (O.mine.refs n + 1) i ≡ base i + times i ns + ((0 + one_if (d == i)) + one_if (n == i))
      more_refs i = let r = k.refs i in elim (same_or i n) [
        | inl q ↦ (let a : put O.mine.refs n (O.mine.refs n + 1) i ≡ O.mine.refs n + 1 = ap (put O.mine.refs n (O.mine.refs n + 1)) q ∙ put_same O.mine.refs n (O.mine.refs n + 1) in let b : O.mine.refs i ≡ O.mine.refs n = ap O.mine.refs q in let o : one_if (n == i) ≡ 1 = ap (λ (z : ℕ). one_if (n == z)) q ∙ one_at n in omega (arith, a, b, o, r))
        | inr nn ↦ (let a = put_other O.mine.refs n (O.mine.refs n + 1) i nn in let o = one_else n i nn in omega (arith, a, o, r))
      ]

      holds : (Z : Node) → Holding base ns O0 (O3 (Some Z)) (both d X Z n) (λ i. (0 + one_if (d == i)) + one_if (n == i))
      holds Z = holding_set (O3 (Some Z)) n (Some (locked_held (Some Z))) (λ i. (0 + one_if (d == i)) + one_if (n == i)) k (unlisted k n out) refl (stays_same _ O O0 refl refl refl k.stays) (λ i nn. put_other O.mine.refs n (O.mine.refs n + 1) i nn) more_refs

      by_entries : (u2 : World) (Z : Node) → Inv u2 → own_of h u2 ≡ O3 (Some Z) → (b : Bool) → is_empty_kind Z.kind ≡ b → Looked u2 (Some Z) b
      by_entries u2 Z inv held2 true q = quiet version (fair_same inv) refl (omega (arith, few)) (λ l2 q2. (clears X Z n l2 fs u2 (O3 (Some Z)) ne (omega (arith, few, q2)) held2 (holds Z) walk refl live finds plain (emptiness Z.kind ∙ (λ z. if q z then None else Some NotEmpty)) walking).wp)
      by_entries u2 Z inv held2 false q =
          look_refused_good version h look_cost l d (Begun (covered_calls version) (calls.Unlink path)) (Ends (covered_calls version) h (calls.Unlink path)) fs u2 (O3 (Some Z)) (locked_held (Some X)) (record { step = Unlink path; at = d; next = e; rest = [] }) (Some n) NotEmpty (Some n) (Some (d, e)) (give_up n (give_up d (tail ns (failed (calls.Unlink path) NotEmpty))))
          held2 (k.stays.lender ∙ joins.ready.free) lt inv walk refl refl (isd (Some Z)) live finds (λ b i. refl) (λ m m' t p. p)
          (λ b agrees. let nd : b.nodes d ≡ Some X = agrees d (locked_held (Some X)) (isd (Some Z)) (live_is (Some X) live) in let nn : b.nodes n ≡ Some Z = agrees n (locked_held (Some Z)) (put_same O.inodes n (Some (locked_held (Some Z)))) (child_live u2 (Some Z) inv held2) in
          has_entries version b h path (Some n) d n e plain (look_same (λ j. Some X) b.nodes d e nd ∙ finds) (ap (λ (o : Option Node). not_empty (node_or o).kind) nn ∙ emptiness Z.kind ∙ (λ z. if q z then None else Some NotEmpty)))
          (λ b. refl) (λ t p. unlink_place t h path lt) (λ g p. absurd cc) refl
          (begun_refused version (calls.Unlink path) [] (Unlink path) NotEmpty (told_step 0 (Unlink path) (Failed NotEmpty) ∷ fs) (follows path) (walking_told (calls.Unlink path) [] (Unlink path) (Failed NotEmpty) 0 fs walking)) (omega (arith, few))
          (λ l2 u3 q2 held3. ends_both (failed (calls.Unlink path) NotEmpty) X Z n l2 (told_step 0 (Unlink path) (Failed NotEmpty) ∷ fs) u3 _ ne (omega (arith, few, q2)) held3
          (holding_same (record (O3 (Some Z)) { mine = record { refs = put O.mine.refs n (O.mine.refs n + 1); walk = None; pending = None } }) (holds Z) refl (stays_same _ O O0 refl refl refl k.stays) refl) refl refl
          (inr (written_by (calls.Unlink path) (record { step = Unlink path; answer = Failed NotEmpty } ∷ []) (told_step 0 (Unlink path) (Failed NotEmpty) ∷ fs) (failed (calls.Unlink path) NotEmpty) (walking_told (calls.Unlink path) [] (Unlink path) (Failed NotEmpty) 0 fs walking) (fails_end path NotEmpty))))
        where
          child_live : (u2 : World) (z : Option Node) → Inv u2 → own_of h u2 ≡ O3 z → is_live z ≡ true
          child_live u2 z inv held2 =
              let nd = has_node h d u2 (O3 z) (locked_held (Some X)) held2 (isd z) in
              let nn = has_node h n u2 (O3 z) (locked_held z) held2 (put_same O.inodes n (Some (locked_held z))) in
              ap (λ (o : Option Node). is_live o) (sym nn) ∙ look_live u2.all d n e inv.well (look_same (λ j. Some X) u2.all.nodes d e nd ∙ finds)

      there : (u2 : World) (z : Option Node) → Inv u2 → own_of h u2 ≡ O3 z → (b : Bool) → is_live z ≡ b → Looked u2 z (is_empty_node z)
      there u2 None inv held2 b q = absurd (
          let nd = has_node h d u2 (O3 None) (locked_held (Some X)) held2 (isd None) in
          let nn = has_node h n u2 (O3 None) (locked_held None) held2 (put_same O.inodes n (Some (locked_held None))) in
          let l = look_live u2.all d n e inv.well (look_same (λ j. Some X) u2.all.nodes d e nd ∙ finds) in
          let f : is_live (u2.all.nodes n) ≡ false = ap (λ (o : Option Node). is_live o) nn in
          cc (l, f))
      there u2 (Some Z) inv held2 b q = by_entries u2 Z inv held2 (is_empty_kind Z.kind) refl

  some_found : (f : Option ℕ) → not (is_some f) ≡ false → (n : ℕ) × (f ≡ Some n)
  some_found None q = absurd cc
  some_found (Some n) q = (n, refl)

  none_found : (f : Option ℕ) → not (is_some f) ≡ true → f ≡ None
  none_found None q = refl
  none_found (Some n) q = absurd cc

  -- The name is looked up, and what it leads to is referred to.
  named : (n : ℕ) (fs : List Step) (w : World) (O : Own) → (same_name e dot || same_name e dotdot) ≡ false → 971 * length ns + 24000 ≤ n → On version h (Unlink path) d e [] base ns O0 O w → Walked (calls.Unlink path) [] fs → Goes version h path (unlink_named path d e ns) n fs w
  named n fs w O plain few on walking =
      s-see version (calls.Unlink path) [] (Unlink path) is_missing d e lt joins.ready on (omega (arith, few)) on.names.0 (follows path) walking (λ t q. unlink_place t h path lt) (λ b. refl) (λ g q. absurd cc) (λ f. refl)
      (λ x l u dead q held. missing x l u (look_bad (λ j. x) d e dead) q held (walking_quit (calls.Unlink path) [] (Unlink path) fs walking))
      (λ x live q. let none = none_found (look (λ j. x) d e) q in (NoEntry, (λ b a. is_absent version b h path (look (λ j. x) d e) d e plain ((agrees_look b d e x O live a).1 ∙ none)), (λ l u q2 held. missing x l u none q2 held (walking_told (calls.Unlink path) [] (Unlink path) (Failed NoEntry) 0 fs walking))))
      (λ x l u inv live q q2 held. let s = some_found (look (λ j. x) d e) q in there x l u s.0 inv live s.1 q2 held)
    where
      missing : (x : Option Node) (l : ℕ) (u : World) {gs : List Step} → look (λ j. x) d e ≡ None → l + 1612 ≡ n → own_of h u ≡ record O { inodes = put O.inodes d (Some (locked_held x)); mine = record { refs = O.mine.refs; walk = None; pending = None } } → Walked (calls.Unlink path) (record { step = Unlink path; answer = Failed NoEntry } ∷ []) gs
          → Goes version h path (unlink_found path d e ns (face_or (face_of version x)) (look (λ j. x) d e)) l gs u
      missing x l u {gs} none p held told =
          subst (λ (f : Option ℕ). Goes version h path (unlink_found path d e ns (face_or (face_of version x)) f) l gs u) (sym none)
          (ends_one (failed (calls.Unlink path) NoEntry) x l gs u _ (omega (arith, p, few)) held (locked_one x on refl refl refl refl refl) refl refl (inr (written_by (calls.Unlink path) (record { step = Unlink path; answer = Failed NoEntry } ∷ []) gs (failed (calls.Unlink path) NoEntry) told (fails_end path NoEntry))))

      there : (x : Option Node) (l : ℕ) (u : World) (j : ℕ) → Inv u → live_directory x ≡ true → look (λ i. x) d e ≡ Some j → l + 1612 ≡ n → own_of h u ≡ record O { inodes = put O.inodes d (Some (locked_held x)) } → Goes version h path (unlink_found path d e ns (face_or (face_of version x)) (look (λ i. x) d e)) l fs u
      there None l u j inv live is p held = absurd cc
      there (Some X) l u j inv live is p held =
          subst (λ (f : Option ℕ). Goes version h path (unlink_found path d e ns (face_or (face_of version (Some X))) f) l fs u) (sym is)
          (subst (λ (b : Bool). Goes version h path (if b then give_up d (tail ns (failed (calls.Unlink path) NoEntry)) else unlink_other path d e ns (face_or (face_of version (Some X))) j) l fs u) (sym (eq_not j d ne))
          (s-up version held free lt (omega (arith, p, few)) refl (inr (d, locked_held (Some X), e, put_same O.inodes d (Some (locked_held (Some X))), is)) (inl on.pending) (λ m q r. inl (let a = on.notes m q in let b : O.mine.refs m.number ≡ O.mine.refs j = ap O.mine.refs r in omega (arith, a, b))) (let a = on.refs j in let b = few_listed joins.ready on.listed d j in omega (arith, a, b))
          (λ l2 u2 q2 held2. child X j l2 fs u2 O1 ne (omega (arith, p, q2, few)) k out held2 on.walk live is plain walking)
          (λ v inv2 ov. mend_fine version h 0 l (Begun (covered_calls version) (calls.Unlink path)) (Ends (covered_calls version) h (calls.Unlink path)) fs v O1 (give_up d (tail ns (full (calls.Unlink path) MemInodes))) ov free lt inv2 (mendable joins.ready k) (omega (arith, p, few)) (λ l2 u2 q2 held2.
          ends_one (full (calls.Unlink path) MemInodes) (Some X) l2 fs u2 (mended_own O1) (omega (arith, p, q2, few)) held2 (holding_same (mended_own O1) k refl (stays_mended (mended_own O1) joins.ready k.stays refl refl refl) refl) refl refl (inl refl)))))
        where
          O1 : Own
          O1 = record O { inodes = put O.inodes d (Some (locked_held (Some X))) }

          free : O.desk.lender ≡ None
          free = on.stays.lender ∙ joins.ready.free

          k : Holding base ns O0 O1 (put nothing d (Some (locked_held (Some X)))) (λ i. 0 + one_if (d == i))
          k = locked_one (Some X) on refl refl refl refl refl

          nd : u.all.nodes d ≡ Some X
          nd = has_node h d u O1 (locked_held (Some X)) held (put_same O.inodes d (Some (locked_held (Some X))))

          look_is : look u.all.nodes d e ≡ Some j
          look_is = look_same (λ i. Some X) u.all.nodes d e nd ∙ is

          ne : j ≢ d
          ne = entry_else u.all d j e inv.well (ap (λ (o : Option Node). live_directory o) nd ∙ live) plain look_is

          out : O1.inodes j ≡ None
          out = unkept h j u held k (else_one (Some (locked_held (Some X))) j ne) (look_live u.all d j e inv.well look_is)

  removes : (n : ℕ) (fs : List Step) (w : World) (O : Own) → 971 * length ns + 24000 ≤ n → On version h (Unlink path) d e [] base ns O0 O w → Walked (calls.Unlink path) [] fs → Goes version h path (unlink_in path d e ns) n fs w
  removes n fs w O few on walking = by_dots (same_name e dot || same_name e dotdot) refl
    where
      by_dots : (b : Bool) → (same_name e dot || same_name e dotdot) ≡ b → Goes version h path (if b then unlink_dots path d ns else unlink_named path d e ns) n fs w
      by_dots true q = dots n fs w O q few on walking
      by_dots false q = named n fs w O q few on walking

pub unlink_begins : (version : Version) (path : List ℕ) → IsBeginning (covered_calls version) (calls.Unlink path) []
unlink_begins version path = tt

pub unlink_ok : (version : Version) (h : ℕ) (path : List ℕ) (w : World) → Inv w → (w.desks h).lender ≡ None → h < hart_count → Idle h w → AllNames version (elements version path) → Safe (machine version) h (Begun (covered_calls version) (calls.Unlink path)) (Ends (covered_calls version) h (calls.Unlink path)) (unlink_program version path) (path_cost version path + rest_cost) [] w
unlink_ok version h path w inv free lt idle named =
    s-naming version h (calls.Unlink path) (Unlink path) (unlink_in path) (path_cost version path + rest_cost) w inv free lt idle (record { follows = follows path; ends = fails_end path NoEntry }) (leads version h path (joined_own (own_of h w)) lt) named (omega arith)
    (λ d e ms l fs u R few joins on walking. removes version h path lt joins d e ms l fs u R few on walking)
