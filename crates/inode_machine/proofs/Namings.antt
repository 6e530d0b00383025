-- A call follows its path to the last name's directory, or loses its walk, or has no elements to follow.
use Rattle.image_versions.specs.declared.version.Version.{Version}
use Rattle.inode_machine.proofs.Vocabulary.{◌≡◌, inl, inr, ℕ, ◌+◌, ◌*◌, ◌<◌, ◌≤◌, true, false, List, [], ◌∷◌, ◌++◌, length, Option, Some, None, refl, sym, ◌∙◌, ap, subst, arith, Do, Safe, Begun, Ends, NoEntry, Reply, Call, Action, Inherit, Failed, hart_count, Name, Tree, elements, start_of, settle, path_of, follows_path, refusal_with, refused, IsInPlace, Act, row_of, settled_row, Stage, Step, MayEnd, fail, Begin, Look, Note, World, stage_of, Join, with_joined, with_walk, begun, found_by, new_id, Held, Own, own_of, nothing, Idle, Inv, machine, ThisP as P, WalkStop, NotThere, NoMemory, makes, failed, stopped, start, tail, walk_parent, in_parent, covered_calls}
use Rattle.atomic_programs.specs.Logic as logic
use Rattle.tree_laws.specs.Moves.{StartLeadsTo}
use Rattle.inode_machine.proofs.Basics.{AllNames, fair, s-owned, fine_after, locks_none, UnlocksAll, walk_did, own_walk, stage_walk, moves_good, s-join, flagging, MoveFine, On, Gone, Ready, Lost, s-walk-parent, Follows, walking_begun, walking_on, walking_told, walking_quit, begun_refused, begun_walking, written_by, quit_step, told_step, Walked, gone_at, home, joined_own, may_rest, ready_at, HasJoined, IsAnswerable, s-end}
use Rattle.inode_machine.proofs.Beginnings.{s-start}

-- What a step that is made at a path's last name is like.
pub record Leads (version : Version) (h : ℕ) (s : Action) (O0 : Own) : Type 0 where
  pub follows : follows_path s ≡ true
  pub missing : (b : Tree) (res : Option ℕ) → refusal_with version b h s res None ≡ Some NoEntry
  pub stays : (b : Tree) → refused b h s ≡ b
  pub place : (t : Tree) → row_of t h ≡ O0.row → IsInPlace t h s
  pub other : (g : ℕ) → s ≡ Inherit g → ⊥
  pub finds : found_by s None ≡ None

-- A walk to the last name's directory.
pub s-follow : (version : Version) {h : ℕ} (c : Call) (acts : List Act) (s : Action) {Q : Reply → List Step → World → Type 0} {base : ℕ → ℕ} {O0 : Own} (K : ℕ) (e : Name) (r : List Name) (ns : List ℕ) (found : ℕ → Name → List ℕ → P Reply) (lost : WalkStop → List ℕ → P Reply) {n : ℕ} {es : List Step} {w : World} {O : Own}
    → h < hart_count → Ready base O0 → Leads version h s O0 → Follows c acts s → Walked c acts es → elements version (path_of s) ≡ e ∷ r → AllNames version (elements version (path_of s)) → Gone h base ns O0 O w → ((m : Note) → O.desk.noted ≡ Some m → 0 < O.mine.refs m.number) → 2600 * length r + 2601 + 971 * length ns + K ≤ n
    → ((d : ℕ) (e2 : Name) (ms : List ℕ) (l : ℕ) (fs : List Step) (u : World) (R : Own) → 971 * length ms + K ≤ l → On version h s d e2 [] base ms O0 R u → Walked c acts fs → Safe (machine version) h (Begun (covered_calls version) c) Q (found d e2 ms) l fs u)
    → ((why : WalkStop) (ms : List ℕ) (l : ℕ) (fs : List Step) (u : World) (R : Own) → 971 * length ms + K ≤ l → Gone h base ms O0 R u → Lost (Walked c (acts ++ record { step = s; answer = Failed NoEntry } ∷ [])) why fs R → Safe (machine version) h (Begun (covered_calls version) c) Q (lost why ms) l fs u)
    → Safe (machine version) h (Begun (covered_calls version) c) Q (start s (path_of s) ns (λ d. walk_parent s d e r ns found lost) lost) n es w
s-follow version {h} c acts s {Q} {base} {O0} K e r ns found lost {n} {es} {w} {O} lt ready leads follows walking path named gone notes few arrives loses =
    s-start version h s (Begun (covered_calls version) c) Q base O0 e r ns n es w O (λ d. walk_parent s d e r ns found lost) lost lt ready gone (omega (arith, few)) leads.follows path named leads.place notes
    (begun_walking version c acts s (record { move = Begin s 0; told = None } ∷ es) follows (walking_begun c acts s es follows walking))
    (λ d l u R q on. s-walk-parent version h s (Begun (covered_calls version) c) Q (Walked c acts) (Walked c (acts ++ record { step = s; answer = Failed NoEntry } ∷ [])) base O0 K lt ready lost loses
    (λ fs w. (walking_on c acts fs w, begun_walking version c acts s (record { move = Look 0; told = None } ∷ fs) follows (walking_on c acts fs w)))
    (λ fs w. (walking_told c acts s (Failed NoEntry) 0 fs w, begun_refused version c acts s NoEntry (told_step 0 s (Failed NoEntry) ∷ fs) follows (walking_told c acts s (Failed NoEntry) 0 fs w)))
    (λ fs w. (walking_quit c acts s fs w, begun_refused version c acts s NoEntry (quit_step s ∷ fs) follows (walking_quit c acts s fs w)))
    (λ b. leads.missing b None) leads.stays leads.place leads.other leads.finds
    r d e ns l (record { move = Begin s 0; told = None } ∷ es) u R found (omega (arith, q, few)) on (walking_begun c acts s es follows walking) arrives)
    (λ l u R q gone2 full. loses NoMemory ns l es u R (omega (arith, q, few)) gone2 full)

-- A path without elements has no last name.

abbrev pub begin_refused : Action → Step
begin_refused s = record { move = Begin s 0; told = Some (fail s) }

pub begin_good : (version : Version) {A : Type 0} (h more n : ℕ) (B : List Step → Type 0) (Q : A → List Step → World → Type 0) (es : List Step) (v : World) (O O0 : Own) (s : Action) (p : logic.P (machine version) A)
    → own_of h v ≡ O → O.desk.lender ≡ None → h < hart_count → Inv v → O.mine.walk ≡ None → O.mine.pending ≡ None → O.row ≡ O0.row → Leads version h s O0 → elements version (path_of s) ≡ [] → B (begin_refused s ∷ es) → more < n
    → ((l : ℕ) (u : World) → l + (more + 1) ≡ n → own_of h u ≡ record O { mine = record { refs = O.mine.refs; walk = None; pending = None } } → Safe (machine version) h B Q p l (begin_refused s ∷ es) u)
    → MoveFine version h more n B Q es v (Begin s 0) p
begin_good version h more n B Q es v O O0 s p ov free lt inv walks none row leads path b pos then_ =
    moves_good version h more n B Q es v v (Begin s 0) tt p (begun version v.all h s (elements version (path_of s)) 0 (new_id v)) (record { all = v.all; walk = None; found = None; opened = None; entered = None; left = None; told = Some (fail s) })
    (ap (λ (z : List Name). begun version v.all h s z 0 (new_id v)) path ∙ rw (leads.missing v.all (Some (start_of v.all h (path_of s)))) refl)
    (fair inv (walk_did h None None v (ap (λ (o : Own). o.desk.lender) ov ∙ free) lt inv (ap (λ (o : Own). o.mine.pending) ov ∙ none) (λ m q e. absurd cc) (λ z q. absurd cc) (λ i q. absurd cc)))
    (record {
      follows = leads.follows;
      rests = ap (λ (o : Own). o.mine.walk) ov ∙ walks;
      place = place;
      begins = subst (λ (z : List Name). StartLeadsTo version (stage_of v) h s z 0 (Some (fail s)) (stage_of (record v { harts = with_walk v.harts h None None }))) (sym path) (record {
        answer = Failed NoEntry;
        id = new_id v;
        deed = refl;
        step = (leads.missing (settle v.all) (Some (start_of (settle v.all) h (path_of s))), sym (leads.stays (settle v.all)), place);
        walk = ap (λ (z : Stage). z.walk) (stage_walk h None None v);
        alone = λ ok. absurd (let r = leads.missing (settle v.all) (Some (start_of (settle v.all) h (path_of s))) in cc (r, ok));
        idle = λ g l q. absurd (leads.other g q);
      });
    })
    b pos
    (λ l q. (then_ l (record v { harts = with_walk v.harts h None None }) q (own_walk h None None v O ov)).wp)
  where
    place : IsInPlace (settle v.all) h s
    place = leads.place (settle v.all) (settled_row v.all h ∙ ap (λ (o : Own). o.row) ov ∙ row)

-- the transaction is joined, and the step refused at once
s-join-begin : (version : Version) {A : Type 0} {h : ℕ} (s : Action) {k : Unit {0} → logic.P (machine version) A} {B : List Step → Type 0} {Q : A → List Step → World → Type 0} {n : ℕ} {es : List Step} {w : World} {O : Own} (O0 : Own)
    → own_of h w ≡ O → O.desk.lender ≡ None → h < hart_count → 0 < n → UnlocksAll O → O.desk.joined ≡ false → O.mine.walk ≡ None → O.mine.pending ≡ None → O.row ≡ O0.row → Leads version h s O0 → elements version (path_of s) ≡ [] → B (begin_refused s ∷ es)
    → ((l : ℕ) (u : World) → l + 1 ≡ n → own_of h u ≡ record O { desk = record (O.desk) { joined = true }; mine = record { refs = O.mine.refs; walk = None; pending = None } } → Safe (machine version) h B Q (k tt) l (begin_refused s ∷ es) u)
    → Safe (machine version) h B Q (Do Join (λ _. makes (Begin s 0)) k) n es w
s-join-begin version {h = h} s {k} {B} {Q} {n} {es} {O = O} O0 owns free lt pos none out walks pending row leads path b rest = s-owned version owns free pos (λ v inv ov. (
  (locks_none h v O inv ov none, ap (λ (o : Own). o.desk.joined) ov ∙ out),
  (λ _ _.
      let f = flagging h v O (record (v.desks h) { joined = true }) (record (O.desk) { joined = true }) v.clean ov free lt inv (ap (λ (o : Own). record (o.desk) { joined = true }) ov)
      (record { fds = refl; hand = refl; lent = refl; opening = refl; left = refl; directory = refl }) (ap (λ (o : Own). o.desk.lender) ov ∙ free) (λ f j is. absurd cc) (λ q. refl) (λ m q r s. inv.noted h m lt q r s) (λ q. inv.tied.spoiled h q) (λ q. q) (λ q. q) in
      fine_after version f.fair refl (begin_good version h 0 n B Q es (with_joined v h true) (record O { desk = record (O.desk) { joined = true } }) O0 s (k tt) f.owned free lt f.fair.inv walks pending row leads path b pos rest)),
))

-- Calls that may end once their step has answered.
pub record EndsAfter (c : Call) (s : Action) : Type 0 where
  pub follows : Follows c [] s
  pub ends : MayEnd c (record { step = s; answer = Failed NoEntry } ∷ []) (failed c NoEntry)

-- The call ends when its walk is lost.
s-lost : (version : Version) (h : ℕ) (c : Call) (s : Action) {base : ℕ → ℕ} {O0 : Own} (why : WalkStop) (ms : List ℕ) (l : ℕ) (fs : List Step) (u : World) (R : Own) → h < hart_count → HasJoined base O0 → EndsAfter c s → 971 * length ms + 63 < l → Gone h base ms O0 R u → Lost (Walked c (record { step = s; answer = Failed NoEntry } ∷ [])) why fs R
    → Safe (machine version) h (Begun (covered_calls version) c) (Ends (covered_calls version) h c) (tail ms (stopped c why)) l fs u
s-lost version h c s {base} {O0} why ms l fs u R lt joins ends few gone lost =
    s-end version h c (stopped c why) ms nothing (λ i. 0) l fs u R lt joins gone.owns few
    (record { stays = gone.stays; refs = λ i. (let r = gone.refs i in omega (arith, r)); all = gone.listed.all; once = gone.listed.once; has = λ i x q. absurd cc; only = λ i x q. inl (gone.listed.only i x q) })
    (λ i. refl) (λ i. refl) gone.walk gone.pending (told why lost)
  where
    told : (why : WalkStop) → Lost (Walked c (record { step = s; answer = Failed NoEntry } ∷ [])) why fs R → IsAnswerable c (stopped c why) fs R
    told NotThere v = inr (written_by c (record { step = s; answer = Failed NoEntry } ∷ []) fs (failed c NoEntry) v ends.ends)
    told NoMemory f = inl f

-- A call that is made at its path's last name. k: what it does there.
pub s-naming : (version : Version) (h : ℕ) (c : Call) (s : Action) (k : ℕ → Name → List ℕ → P Reply) (n : ℕ) (w : World) → Inv w → (w.desks h).lender ≡ None → h < hart_count → Idle h w → EndsAfter c s → Leads version h s (joined_own (own_of h w)) → AllNames version (elements version (path_of s)) → 2600 * (length (elements version (path_of s)) + 1) + 24000 ≤ n
    → ((d : ℕ) (e : Name) (ms : List ℕ) (l : ℕ) (fs : List Step) (u : World) (R : Own) → 971 * length ms + 24000 ≤ l → HasJoined (home (own_of h w)) (joined_own (own_of h w)) → On version h s d e [] (home (own_of h w)) ms (joined_own (own_of h w)) R u → Walked c [] fs
    → Safe (machine version) h (Begun (covered_calls version) c) (Ends (covered_calls version) h c) (k d e ms) l fs u)
    → Safe (machine version) h (Begun (covered_calls version) c) (Ends (covered_calls version) h c) (in_parent c s (path_of s) k (elements version (path_of s))) n [] w
s-naming version h c s k n w inv free lt idle ends leads named few arrives = by_path (elements version (path_of s)) refl few
  where
    O0 : Own
    O0 = joined_own (own_of h w)

    unlocks : UnlocksAll (own_of h w)
    unlocks i x q = absurd (let a = ap (λ (f : ℕ → Option Held). f i) idle.inodes in cc (a, q))

    joins : HasJoined (home (own_of h w)) O0
    joins = record { ready = ready_at h w free lt inv idle; may = may_rest h w idle }

    by_path : (p : List Name) → elements version (path_of s) ≡ p → 2600 * (length p + 1) + 24000 ≤ n → Safe (machine version) h (Begun (covered_calls version) c) (Ends (covered_calls version) h c) (in_parent c s (path_of s) k p) n [] w
    by_path [] q few2 =
        s-join-begin version s O0 refl free lt (omega (arith, few2)) unlocks idle.joined idle.walk idle.pending refl leads q
        (begun_refused version c [] s NoEntry (begin_refused s ∷ []) ends.follows (λ rest r p. (ends.follows.next, p))) (λ l u q2 own2.
        s-lost version h c s NotThere [] l (begin_refused s ∷ []) u O0 lt joins ends (omega (arith, few2, q2)) (gone_at h w u idle (own2 ∙ (λ z. record O0 { mine = record { refs = O0.mine.refs; walk = sym idle.walk z; pending = sym idle.pending z } }))) (λ rest r p. (ends.follows.next, p)))
    by_path (e ∷ r) q few2 =
        s-join version refl free lt (omega (arith, few2)) unlocks idle.joined (λ l u q2 own2.
        s-follow version c [] s 24000 e r [] k (λ why ns. tail ns (stopped c why)) lt joins.ready leads ends.follows (λ rest r p. p) q named (gone_at h w u idle own2) (λ m p. absurd (let a = idle.noted in cc (a, p))) (omega (arith, few2, q2)) (λ d e2 ms l2 fs u2 R few3 on walking. arrives d e2 ms l2 fs u2 R few3 joins on walking)
        (λ why ms l2 fs u2 R few3 gone lost. s-lost version h c s why ms l2 fs u2 R lt joins ends (omega (arith, few3)) gone lost))
