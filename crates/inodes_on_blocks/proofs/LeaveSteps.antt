-- A transaction is left in one step, and the writes of the commit that begins with it follow in silence.
use Rattle.inodes_on_blocks.proofs.Vocabulary.{◌≡◌, ◌≢◌, inl, inr, ℕ, zero, suc, ◌+◌, ◌-◌, ◌<◌, ◌≤◌, ◌==◌, Bool, true, false, List, [], ◌∷◌, Option, Some, None, length, get_or-set_other, is_some, refl, sym, ◌∙◌, ap, subst, arith, if◌then◌else◌, slice_set, eqb-true, eqb-false, slice_get-set_other, Super, IsOutsideLog, is_held_by, AfterLeave, Commits, Phase, Open, Staging, Installing, Halted, joined_count, IsMember, IsUnderWay, next_phase, group_in, phase_at_leave, turn_is_out, seats_after, seats_at_fault, left_at, pick, under_way, put, hart_count, same_or, put_same, put_other, Ret, bind, ExecResult, Ran, Machine, Laws, P, Wp, Both, joined, Below, Lasts, Handover, holding, Silent, s-silent, Acting, s-act, acted, TablesState, lock_holder, LogPart, Outside, Passes, Fails, written, commit_if, is_open, failed, commits, commit_unless, after_leave, own_of, seen_of, Commit, IsWholeLog, After, keeps_whole, leaves_own, SameFor, same_after, shows_its_puts, Desk, Leave, is_at, marked, Inv, LocksNone, more, if_kept, is_hart, loaded, descriptor, first, lent_by, place_with, is_joined, Ghost, AreOnBlocks, World, log_of, tables_of, came_to, exec, Shows, CommitShows, if_joined, ghost_of, on_blocks, Same, Kept, Carry, Base, Stands, commit_in, below, Labels, labelled, Keeps, leave, ActsOnceAt, Loaded}
use Rattle.std.proofs.lemmas.List.{get_or-set_same}
use Rattle.inode_machine.specs.Rules as rules
use Rattle.buffer_cache.specs.Lists.{count_of}
use Rattle.group_log.specs.declared.log.AfterLeave.TheVariants.{Free}
use Rattle.fs_machine.specs.Steps as steps
use Rattle.fs_machine.specs.Premises as premises
use Rattle.inode_machine.specs.World as above
use Rattle.inode_machine.specs.Rules.{Own}
use Rattle.inodes_on_blocks.specs.ShownTables as tables
use Rattle.inodes_on_blocks.proofs.Basics.{part_same, taken_same, lenders_set, is_member, nobody_commits, commit_other, with_log, written_to, LeavesSeen, written_shows, written_same, below_laws, held_back, kept_alike, hart_is, is_here, marked_same, shows_marked, leave_keeps}

-- ---- how many writes are left

abbrev writes_left : ℕ → Phase → ℕ
writes_left n Open = 0
writes_left n (Staging i) = (n - i) + n + 2
writes_left n (Installing i) = (n - i) + 1
writes_left n Halted = 0

-- each write leaves one less
one_less : (n : ℕ) (p : Phase) → IsUnderWay n p → writes_left n (next_phase n p) + 1 ≡ writes_left n p
one_less n Open on = absurd on
one_less n (Staging i) on =
    pick (i == n) (λ t. writes_left n (if t then Installing 0 else Staging (i + 1)) + 1 ≡ (n - i) + n + 2)
    (λ is. let e = eqb-true i n is in omega (arith, e))
    (λ is. let e = eqb-false i n is in omega (arith, e, on))
one_less n (Installing i) on =
    pick (i == n) (λ t. writes_left n (if t then Open else Installing (i + 1)) + 1 ≡ (n - i) + 1)
    (λ is. let e = eqb-true i n is in omega (arith, e))
    (λ is. let e = eqb-false i n is in omega (arith, e, on))
one_less n Halted on = absurd on

some_left : (n : ℕ) (p : Phase) → p ≢ Open → p ≢ Halted → 1 ≤ writes_left n p
some_left n Open begun runs = absurd (begun refl)
some_left n (Staging i) begun runs = omega arith
some_left n (Installing i) begun runs = omega arith
some_left n Halted begun runs = absurd (runs refl)

-- a write leads on, or ends the commit
next_runs : (n : ℕ) (p : Phase) → IsUnderWay n p → next_phase n p ≢ Halted
next_runs n Open on e = on
next_runs n (Staging i) on e = pick (i == n) (λ t. (if t then Installing 0 else Staging (i + 1)) ≡ Halted → ⊥) (λ _ z. cc z) (λ _ z. cc z) e
next_runs n (Installing i) on e = pick (i == n) (λ t. (if t then Open else Installing (i + 1)) ≡ Halted → ⊥) (λ _ z. cc z) (λ _ z. cc z) e
next_runs n Halted on e = on

opens : (p : Phase) → is_open p ≡ true → p ≡ Open
opens Open e = refl
opens (Staging i) e = absurd (let q : false ≡ true = e in cc)
opens (Installing i) e = absurd (let q : false ≡ true = e in cc)
opens Halted e = absurd (let q : false ≡ true = e in cc)

goes_on : (p : Phase) → is_open p ≡ false → p ≢ Open
goes_on p e is = let q : is_open p ≡ true = ap is_open is in absurd (cc (e, q))

same_group : (p : Phase) (group : List ℕ) → p ≢ Open → p ≢ Halted → group_in p group ≡ group
same_group Open group begun runs = absurd (begun refl)
same_group (Staging i) group begun runs = refl
same_group (Installing i) group begun runs = refl
same_group Halted group begun runs = absurd (runs refl)

-- a leave begins a commit just if it says so
left_free : (j : ℕ) (group : List ℕ) → left_at j group ≡ Free → phase_at_leave j group ≡ Open
left_free j [] e = refl
left_free j (b ∷ ks) e = pick (j == 0) (λ t. (if t then Commits else Free) ≡ Free → (if t then Staging 0 else Open) ≡ Open) (λ _ z. absurd (cc z)) (λ _ z. refl) e

left_commits : (j : ℕ) (group : List ℕ) → left_at j group ≡ Commits → phase_at_leave j group ≡ Staging 0
left_commits j [] e = absurd (cc e)
left_commits j (b ∷ ks) e = pick (j == 0) (λ t. (if t then Commits else Free) ≡ Commits → (if t then Staging 0 else Open) ≡ Staging 0) (λ _ z. refl) (λ _ z. absurd (cc z)) e

leave_runs : (j : ℕ) (group : List ℕ) → phase_at_leave j group ≢ Halted
leave_runs j [] e = cc e
leave_runs j (b ∷ ks) e = pick (j == 0) (λ t. (if t then Staging 0 else Open) ≡ Halted → ⊥) (λ _ z. cc z) (λ _ z. cc z) e

-- ---- a desk that differs in what the tables don't have

pub tables_desk : (h : ℕ) (new : Desk) (t : TablesState) (w : above.World) (load : ℕ → Option Loaded) → new.fds ≡ (w.desks h).fds → new.hand ≡ (w.desks h).hand → new.directory ≡ (w.desks h).directory → new.lent ≡ (w.desks h).lent → new.lender ≡ (w.desks h).lender
    → tables.Shows t w load → tables.Shows t (record w { desks = put w.desks h new }) load
tables_desk h new t w load fds hand directory lends lender shows = record {
  sound = shows.sound;
  places = shows.places;
  files = λ k lt. shows.files k lt ∙ ap (λ (c : Bool). Some (place_with c (w.files k))) (sym (taken_same w.desks h new k (ap (λ (o : Option ℕ). is_at o k) hand)));
  desks = λ g lt. let d = shows.desks g lt in (
    d.0,
    d.1,
    record {
      long = d.2.long;
      descriptors = λ i l. d.2.descriptors i l ∙ ap (λ (o : Option ℕ). Some o) (sym (named g i));
      directory = d.2.directory ∙ sym (part_same (λ d. d.directory) w.desks h new g directory);
      hand = d.2.hand ∙ sym (part_same (λ d. d.hand) w.desks h new g hand);
    },
  );
  lenders = lenders_set w.desks h new lender shows.lenders;
  range = shows.range;
}
  where
    lent : (i : ℕ) (o : Option ℕ) → lent_by (put w.desks h new) o i ≡ lent_by w.desks o i
    lent i None = refl
    lent i (Some l) = part_same (λ d. d.lent i) w.desks h new l (ap (λ (f : ℕ → Option ℕ). f i) lends)

    named : (g i : ℕ) → descriptor (put w.desks h new) g i ≡ descriptor w.desks g i
    named g i =
        (λ z. first (part_same (λ d. d.fds i) w.desks h new g (ap (λ (f : ℕ → Option ℕ). f i) fds) z) (lent_by (put w.desks h new) (part_same (λ d. d.lender) w.desks h new g lender z) i))
        ∙ ap (first ((w.desks g).fds i)) (lent i (w.desks g).lender)

-- ---- the writes

-- a hart that commits, with at most `left` writes to make
record Committing (sizes : Super) (h left : ℕ) (r : World) (g : above.World) : Type 0 where
  commits : r.commits ≡ Some h
  new : (n : ℕ) → r.new n ≢ Some h
  begun : (log_of r).phase ≢ Open
  runs : (log_of r).phase ≢ Halted
  enough : writes_left (length (log_of r).group) (log_of r).phase ≤ left
  free : count_of (is_held_by h) (log_of r).seats ≡ 0
  taken : (b : ℕ) → r.taken b ≢ Some h
  none : (i : ℕ) → lock_holder i (tables_of r) ≢ Some h
  sizes_are : (log_of r).sizes ≡ sizes
  alone : (g.desks h).lender ≡ None

committing_then : (sizes : Super) (h left : ℕ) (v w : World) (g u : above.World) → Same h v w → Kept h g u → Committing sizes h left v g → Committing sizes h left w u
committing_then sizes h left v w g u same kept c =
    let back = held_back v.commits w.commits h (commit_in (log_of v)) (commit_in (log_of w)) (λ z. (sym same.begun z).0) c.commits in
    let phase : (log_of w).phase ≡ (log_of v).phase = ap (λ (p : Phase × List ℕ). p.0) back.1 in
    let group : (log_of w).group ≡ (log_of v).group = ap (λ (p : Phase × List ℕ). p.1) back.1 in
    record {
      commits = back.0;
      new = λ n e. c.new n (hart_is (v.new n) h (sym (λ z. (same.begun z).1 n) ∙ is_here (w.new n) h e));
      begun = λ e. c.begun (sym phase ∙ e);
      runs = λ e. c.runs (sym phase ∙ e);
      enough = subst (λ (q : Phase). writes_left (length (log_of w).group) q ≤ left) (sym phase) (subst (λ (ks : List ℕ). writes_left (length ks) (log_of v).phase ≤ left) (sym group) c.enough);
      free = same.held ∙ c.free;
      taken = λ b e. c.taken b (held_back (w.taken b) (v.taken b) h (seen_of (log_of w) b) (seen_of (log_of v) b) (same.taken b) e).0;
      none = λ i e. c.none i (same.no_more i e);
      sizes_are = same.sizes ∙ c.sizes_are;
      alone = ap (λ (o : Own). o.desk.lender) (kept.same c.alone) ∙ c.alone;
    }

module _ (sizes : Super) (l : Labels) (laws : Laws (labelled sizes.version l)) (keeps : Keeps l) (h : ℕ) (lt : h < hart_count) where
  abbrev W : Type 0
  W = Both World above.World

  abbrev M : Machine
  M = joined (labelled sizes.version l) (below sizes)

  abbrev IsSilent : {A : Type 0} → (B : List l.Step → Type 0) → W → Type 0 → ExecResult A World → (A → World → Type 0) → Type 0
  IsSilent B v wait d N = Silent (labelled sizes.version l) (below sizes) laws (below_laws sizes l keeps) h B v wait d N

  -- after a write
  record Wrote (left : ℕ) (v : W) (ended : Bool) (r : World) : Type 0 where
    shows : Shows r v.seen
    others : (g : ℕ) → g ≢ h → Same g v.real r
    goes : ended ≡ false → Committing sizes h left r v.seen
    rests : ended ≡ true → r.commits ≡ None
    free : count_of (is_held_by h) (log_of r).seats ≡ 0
    taken : (b : ℕ) → r.taken b ≢ Some h
    new : (n : ℕ) → r.new n ≢ Some h
    none : (i : ℕ) → lock_holder i (tables_of r) ≢ Some h
    sizes_are : (log_of r).sizes ≡ sizes

  -- the commit's next write, or a wait for a buffer, or the device fails
  module _ (B : List l.Step → Type 0) (left : ℕ) (v : W) (N : Bool → World → Type 0) (shows : Shows v.real v.seen) (on : Committing sizes h (suc left) v.real v.seen)
      (rest : (ended : Bool) (r : World) → Wrote left v ended r → N ended r) where
    abbrev old : LogPart
    old = log_of v.real

    abbrev next : Phase
    next = next_phase (length old.group) old.phase

    abbrev new : LogPart
    new = written_to old (written old) old.failures (seats_after old.group old.phase old.seats) (group_in next old.group) next

    abbrev wait : Type 0
    wait = turn_is_out old.seats old.group old.phase ≡ true

    way : IsUnderWay (length old.group) old.phase
    way = under_way old.contents old.seats old.sizes old.group old.members old.phase shows.whole.log on.begun on.runs

    runs_on : next ≢ Halted
    runs_on = next_runs (length old.group) old.phase way

    somebody : v.real.commits ≢ None
    somebody none = let z = sym none ∙ on.commits in cc z

    not_others : {A : Type 0} (g : ℕ) (x : A) → g ≢ h → if_kept v.real.commits g x ≡ None
    not_others {A} g x ne = ap (λ (o : Option ℕ). if_kept {A = A} o g x) on.commits ∙ commit_other g h x ne

    module _ (turn : turn_is_out old.seats old.group old.phase ≡ false) (whole : IsWholeLog new) (leaves : LeavesSeen h old new) where
      own : SameFor h old.seats (seats_after old.group old.phase old.seats)
      own = same_after h old.group old.seats shows.whole.cache.once old.phase turn

      still : is_open next ≡ false → Committing sizes h left (with_log v.real new v.real.commits) v.seen
      still e =
          let begun = goes_on next e in
          let falls = one_less (length old.group) old.phase way in
          let group : group_in next old.group ≡ old.group = same_group next old.group begun runs_on in
          let enough = on.enough in
          record {
            commits = on.commits;
            new = on.new;
            begun = begun;
            runs = runs_on;
            enough = subst (λ (ks : List ℕ). writes_left (length ks) next ≤ left) (sym group) (omega (arith, falls, enough));
            free = own.count ∙ on.free;
            taken = on.taken;
            none = on.none;
            sizes_are = on.sizes_are;
            alone = on.alone;
          }

      by_end : (ended : Bool) → is_open next ≡ ended → IsSilent B v wait (came_to h Commit v.real (Ran ended (record (v.real.state) { log = new }))) N
      by_end true e =
          let same : (g : ℕ) → g ≢ h → Same g v.real (with_log v.real new None) = λ g ne. written_same h v.real v.seen shows (written old) old.failures (seats_after old.group old.phase old.seats) (group_in next old.group) next None leaves g ne somebody (sym (not_others g (commit_in old) ne)) in
          let shown = written_shows h v.real v.seen shows (written old) old.failures (seats_after old.group old.phase old.seats) (group_in next old.group) next None leaves whole runs_on (opens next e) in (
            shown,
            same,
            rest true (with_log v.real new None) (record {
              shows = shown;
              others = same;
              goes = λ z. absurd (cc z);
              rests = λ z. refl;
              free = own.count ∙ on.free;
              taken = on.taken;
              new = on.new;
              none = on.none;
              sizes_are = on.sizes_are;
            }),
          )
      by_end false e =
          let same : (g : ℕ) → g ≢ h → Same g v.real (with_log v.real new v.real.commits) = λ g ne. written_same h v.real v.seen shows (written old) old.failures (seats_after old.group old.phase old.seats) (group_in next old.group) next v.real.commits leaves g ne somebody (not_others g (commit_in new) ne ∙ sym (not_others g (commit_in old) ne)) in
          let shown = written_shows h v.real v.seen shows (written old) old.failures (seats_after old.group old.phase old.seats) (group_in next old.group) next v.real.commits leaves whole runs_on (subst (λ (o : Option ℕ). CommitShows o next) (sym on.commits) (goes_on next e)) in (
            shown,
            same,
            rest false (with_log v.real new v.real.commits) (record {
              shows = shown;
              others = same;
              goes = λ z. still e;
              rests = λ z. absurd (cc z);
              free = own.count ∙ on.free;
              taken = on.taken;
              new = on.new;
              none = on.none;
              sizes_are = on.sizes_are;
            }),
          )

    write_silent : (x : Outside) → premises.May h Commit v.real.state → premises.Honest h Commit v.real.state x → IsSilent B v (premises.MayWait h Commit v.real.state) (exec h x Commit v.real) N
    unfolding steps.exec premises.May premises.MayWait premises.Honest
    write_silent x may honest =
        by (turn_is_out old.seats old.group old.phase) refl x (keeps_whole h x Commit v.real.state shows.whole may honest) (shows_its_puts h x Commit v.real.state shows.whole may honest)
        (λ g ne. leaves_own h g x Commit v.real.state ne shows.whole may honest)
      where
        by : (b : Bool) → turn_is_out old.seats old.group old.phase ≡ b → (x : Outside) → After (λ t. IsWholeLog t.log) (steps.in_log v.real.state (commit_if x old b))
            → After (λ t. (j : ℕ) → IsOutsideLog old.sizes j → seen_of t.log j ≡ seen_of old j) (steps.in_log v.real.state (commit_if x old b)) → ((g : ℕ) → g ≢ h → After (λ t. own_of g t.log ≡ own_of g old) (steps.in_log v.real.state (commit_if x old b)))
            → IsSilent B v wait (came_to h Commit v.real (steps.in_log v.real.state (commit_if x old b))) N
        by true e x whole alike others = e
        by false e Passes whole alike others = by_end e whole (record { alike = alike; own = others }) (is_open next) refl
        by false e (Fails after) whole alike others = (
          record { tables = shows.tables; members = shows.members },
          λ g ne. written_same h v.real v.seen shows after (failed old after).failures (seats_at_fault old.group old.phase old.seats) old.group Halted v.real.commits (record { alike = alike; own = others }) g ne somebody
              (not_others g (Halted, old.group) ne ∙ sym (not_others g (commit_in old) ne)),
        )

  -- all of them
  module _ (B : List l.Step → Type 0) (C : Unit {0} → List l.Step → above.World → Type 0) (m : Unit {0} → Option above.Mark) (lasts : Lasts (labelled sizes.version l) h B C) (c : Carry) where
    abbrev Q : Handover (Unit {0}) Carry → List l.Step → W → Type 0
    Q = Below (labelled sizes.version l) (below sizes) h C

    abbrev ends : Unit {0} → P M (Handover (Unit {0}) Carry)
    ends a = Ret (record { answer = a; carry = c })

    rests_with : (r : World) (g : above.World) → r.commits ≡ None → ((n : ℕ) → r.new n ≢ Some h) → count_of (is_held_by h) (log_of r).seats ≡ 0 → ((b : ℕ) → r.taken b ≢ Some h) → ((i : ℕ) → lock_holder i (tables_of r) ≢ Some h) → (g.desks h).lender ≡ None → Base h r g c
    rests_with r g commits new free taken none alone = record {
      free = free;
      taken = taken;
      through = record { commits = λ e. let z = sym commits ∙ e in cc z; new = new };
      inodes = λ i e. absurd (none i e);
      lent = λ some. absurd (some alone);
    }

    commit_all : (left : ℕ) (es : List l.Step) (w : W) → C tt es w.seen → Committing sizes h left w.real w.seen → Wp M h B Q (bind (commits left) ends) left es w
    unfolding premises.May
    commit_all zero es w done on = absurd (let a = some_left (length (log_of w.real).group) (log_of w.real).phase on.begun on.runs in let b = on.enough in omega (arith, a, b))
    commit_all (suc left) es w done on =
        s-silent (labelled sizes.version l) (below sizes) laws (below_laws sizes l keeps) h B Commit (λ a. bind (commit_unless (commits left) a) ends) Q (C tt) left es w (acted (labelled sizes.version l) (below sizes) laws (below_laws sizes l keeps) h B Leave m C lasts tt) done
        (λ v fs here.
        let now = committing_then sizes h (suc left) w.real v.real w.seen v.seen here.same here.kept on in
        let may : premises.May h Commit v.real.state = (lt, now.free, now.begun, now.runs) in
        (may, λ x honest. write_silent B left v (λ a u. Wp M h B Q (bind (commit_unless (commits left) a) ends) left fs (record { real = u; seen = v.seen })) here.shows now (λ ended r wrote. by v fs here.stage now (λ u next done more. commit_all left u next done more) ended r wrote) x may honest))
      where
        by : (v : W) (fs : List l.Step) → C tt fs v.seen → Committing sizes h (suc left) v.real v.seen
            → ((gs : List l.Step) (u : W) → C tt gs u.seen → Committing sizes h left u.real u.seen → Wp M h B Q (bind (commits left) ends) left gs u) → (ended : Bool) (r : World) → Wrote left v ended r
            → Wp M h B Q (bind (commit_unless (commits left) ended) ends) left fs (record { real = r; seen = v.seen })
        by v fs done now again true r wrote = (done, (rests_with r v.seen (wrote.rests refl) wrote.new wrote.free wrote.taken wrote.none now.alone, wrote.sizes_are))
        by v fs done now again false r wrote = again fs (record { real = r; seen = v.seen }) done (wrote.goes refl)

-- ---- the leave

module _ (sizes : Super) (l : Labels) (laws : Laws (labelled sizes.version l)) (keeps : Keeps l) (h : ℕ) (lt : h < hart_count) where
  -- the world above without the transaction
  abbrev left_above : above.World → above.World
  left_above g = record g { desks = put g.desks h (record (g.desks h) { joined = false; noted = None }) }

  -- the world below
  abbrev left_log : LogPart → LogPart
  left_log before = record before { members = slice_set before.members h None; phase = phase_at_leave (joined_count (slice_set before.members h None)) before.group }

  abbrev left_below : World → Option ℕ → World
  left_below r commits = with_log r (left_log (log_of r)) commits

  module _ (v : World) (g : above.World) (shows : Shows v g) (through : (n : ℕ) → v.new n ≢ Some h) (none : LocksNone h g) (member : IsMember (log_of v).members h) (commits : Option ℕ) where
    abbrev before : LogPart
    before = log_of v

    abbrev desk : Desk
    desk = record (g.desks h) { joined = false; noted = None }

    left_shows : IsWholeLog (left_log before) → CommitShows commits (left_log before).phase → Shows (left_below v commits) (left_above g)
    left_shows whole commit = record {
      whole = whole;
      runs = leave_runs (joined_count (slice_set before.members h None)) before.group;
      size = shows.size;
      tables = tables_desk h desk (tables_of v) g (loaded (tables_of v)) refl refl refl refl refl shows.tables;
      members = λ j lj. elim (same_or j h) [
        | inl q ↦ ap (λ (z : ℕ). (put g.desks h desk z).joined) q ∙ ap (λ (d : Desk). d.joined) (put_same g.desks h desk)
            ∙ sym (ap is_some (get_or-set_same before.members h None None within)) ∙ ap (is_joined (slice_set before.members h None)) (sym q)
        | inr ne ↦ ap (λ (d : Desk). d.joined) (put_other g.desks h desk j ne) ∙ shows.members j lj ∙ sym (ap is_some (get_or-set_other before.members h j None None ne))
      ];
      blocks = subst (λ (x : Ghost). AreOnBlocks before.contents before.seats before.sizes (slice_set before.members h None) x) (sym ghost)
          (leave_keeps before.contents before.seats before.sizes before.members (ghost_of v.owner v.left (on_blocks v.new g.disk) g.lock g.desks) shows.blocks h (λ i e. free (g.lock i) (none i) e));
      bytes = shows.bytes;
      taken = shows.taken;
      commit = commit;
      news = λ n k e. let is = shows.news n k e in record { low = is.low; bound = is.bound; free = is.free; unlocked = is.unlocked; kept = is.kept; joined = ap is_some (get_or-set_other before.members h k None None (λ q. through n (e ∙ ap (λ (z : ℕ). Some z) q))) ∙ is.joined; unloaded = is.unloaded };
      loads = record { seen = shows.loads.seen; dead = shows.loads.dead; typed = shows.loads.typed; indexed = shows.loads.indexed };
      offsets = shows.offsets;
    }
      where
        within : h < length before.members
        within = subst (λ (n : ℕ). h < n) (sym shows.whole.log.eight) lt

        free : (o : Option ℕ) → (o ≡ Some h → ⊥) → if_joined g.desks o ≡ Some h → ⊥
        free None ne e = cc e
        free (Some j) ne e = pick (g.desks j).joined (λ t. (if t then Some j else None) ≡ Some h → ⊥) (λ _ z. ne z) (λ _ z. cc z) e

        change : (o : Option ℕ) → (o ≡ Some h → ⊥) → if_joined (put g.desks h desk) o ≡ if_joined g.desks o
        change None ne = refl
        change (Some j) ne = ap (λ (d : Desk). if d.joined then Some j else None) (put_other g.desks h desk j (λ q. ne (ap (λ (z : ℕ). Some z) q)))

        ghost : ghost_of v.owner v.left (on_blocks v.new g.disk) g.lock (put g.desks h desk) ≡ ghost_of v.owner v.left (on_blocks v.new g.disk) g.lock g.desks
        ghost = λ z. record { nodes = on_blocks v.new g.disk; owner = v.owner; left = v.left; changing = λ i. change (g.lock i) (none i) z }

    left_same : (other : ℕ) → other ≢ h → if_kept commits other (commit_in (left_log before)) ≡ None → Same other v (left_below v commits)
    left_same other ne nothing = record {
      inodes = λ i e. kept_alike other i v (left_below v commits) e refl refl;
      no_more = λ i e. e;
      buffers = λ b. refl;
      held = refl;
      member = slice_get-set_other before.members h other None ne;
      group = λ b k m e. e;
      sizes = refl;
      taken = λ b. refl;
      begun = λ z. ((nothing ∙ sym (ap (λ (o : Option ℕ). if_kept o other (commit_in before)) (nobody_commits h v g shows member))) z, λ n. is_hart (v.new n) other);
    }

  module _ (B : List l.Step → Type 0) (C : Unit {0} → List l.Step → above.World → Type 0) (m : Unit {0} → Option above.Mark) (lasts : Lasts (labelled sizes.version l) h B C) (c : Carry) where
    module _ (v : Both World above.World) (shows : Shows v.real v.seen) (may : rules.May sizes.version h Leave v.seen) (stands : Stands sizes h v.real v.seen c) (whole : IsWholeLog (left_log (log_of v.real))) where
      abbrev kept_log : LogPart
      kept_log = log_of v.real

      abbrev phase : Phase
      phase = phase_at_leave (joined_count (slice_set kept_log.members h None)) kept_log.group

      abbrev then_ : above.World
      then_ = left_above v.seen

      abbrev marked_then : above.World
      marked_then = marked sizes.version h (m tt) (left_above v.seen)

      member : IsMember kept_log.members h
      member = is_member kept_log.members h (sym (shows.members h lt) ∙ may.1.1)

      nobody : v.real.commits ≡ None
      nobody = nobody_commits h v.real v.seen shows member

      unlocked : (i : ℕ) → lock_holder i (tables_of v.real) ≢ Some h
      unlocked i e = may.1.0 i (shows.tables.places.holders i ∙ e)

      alone : (marked_then.desks h).lender ≡ None
      alone = ((marked_same sizes.version h (m tt) then_).desks h).lender ∙ part_same (λ d. d.lender) v.seen.desks h (record (v.seen.desks h) { joined = false; noted = None }) h refl ∙ may.0

      abbrev Leads : AfterLeave → Type 0
      Leads a = Acting (labelled sizes.version l) (below sizes) laws (below_laws sizes l keeps) h B Leave m C lasts above.Room v ⊥ (came_to h steps.Leave v.real (Ran a (record (v.real.state) { log = left_log kept_log })))
          (λ a b u g. (gs : List l.Step) → Inv g → C b gs g → Wp (M sizes l laws keeps h lt) h B (Q sizes l laws keeps h lt B C m lasts c) (holding c (after_leave a)) 62 gs (record { real = u; seen = g }))

      leads : (a : AfterLeave) → (a ≡ Free → phase ≡ Open) → (a ≡ Commits → phase ≡ Staging 0) → Leads a
      leads Free opens_ begins =
          let shown = left_shows v.real v.seen shows stands.0.through.new may.1.0 member v.real.commits whole (subst (λ (o : Option ℕ). CommitShows o phase) (sym nobody) (opens_ refl)) in (
            tt,
            marked_then,
            refl,
            tt,
            (λ inv. shows_marked (left_below v.real v.real.commits) then_ marked_then (marked_same sizes.version h (m tt) then_) shown),
            (λ other ne. left_same v.real v.seen shows stands.0.through.new may.1.0 member v.real.commits other ne (ap (λ (o : Option ℕ). if_kept o other (commit_in (left_log kept_log))) nobody)),
            λ gs inv done. (done, (rests_with sizes l laws keeps h lt B C m lasts c (left_below v.real v.real.commits) marked_then nobody stands.0.through.new stands.0.free stands.0.taken unlocked alone, stands.1)),
          )
      leads Commits opens_ begins =
          let now : phase ≡ Staging 0 = begins refl in
          let shown = left_shows v.real v.seen shows stands.0.through.new may.1.0 member (Some h) whole (λ e. let z = sym now ∙ e in cc z) in
          let room = whole.log.room in (
            tt,
            marked_then,
            refl,
            tt,
            (λ inv. shows_marked (left_below v.real (Some h)) then_ marked_then (marked_same sizes.version h (m tt) then_) shown),
            (λ other ne. left_same v.real v.seen shows stands.0.through.new may.1.0 member (Some h) other ne (commit_other other h (commit_in (left_log kept_log)) ne)),
            λ gs inv done. commit_all sizes l laws keeps h lt B C m lasts c 62 gs (record { real = left_below v.real (Some h); seen = marked_then }) done (record {
              commits = refl;
              new = stands.0.through.new;
              begun = λ e. let z = sym now ∙ e in cc z;
              runs = λ e. let z = sym now ∙ e in cc z;
              enough = subst (λ (p : Phase). writes_left (length kept_log.group) p ≤ 62) (sym now) (omega (arith, room));
              free = stands.0.free;
              taken = stands.0.taken;
              none = unlocked;
              sizes_are = stands.1;
              alone = alone;
            }),
          )

  pub leave_acts : (m : Unit {0} → Option above.Mark) → ActsOnceAt sizes l h Leave m leave
  unfolding steps.exec premises.May premises.MayWait premises.Honest
  leave_acts m c B C es w lasts todo stands =
      s-act (labelled sizes.version l) (below sizes) laws (below_laws sizes l keeps) h B Leave m C lasts above.Room steps.Leave (λ a. holding c (after_leave a)) (Below (labelled sizes.version l) (below sizes) h C) (more Leave) es w todo
      (λ v fs here may.
      let now : Stands sizes h v.real v.seen c = (below_laws sizes l keeps).base h w.real v.real w.seen v.seen c here.same here.kept stands in
      let member : IsMember (log_of v.real).members h = is_member (log_of v.real).members h (sym (here.shows.members h lt) ∙ may.1.1) in
      let allowed : premises.May h steps.Leave v.real.state = (member, here.shows.runs) in (
        allowed,
        λ x t.
            leads B C m lasts c v here.shows may now (keeps_whole h x steps.Leave v.real.state here.shows.whole allowed tt) (left_at (joined_count (slice_set (log_of v.real).members h None)) (log_of v.real).group)
            (left_free (joined_count (slice_set (log_of v.real).members h None)) (log_of v.real).group) (left_commits (joined_count (slice_set (log_of v.real).members h None)) (log_of v.real).group),
      ))
