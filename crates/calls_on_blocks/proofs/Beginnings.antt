-- A stop leaves the tree after a beginning of the history.
use Rattle.inode_machine.specs.Kept as histories
use Rattle.calls_on_blocks.proofs.Vocabulary.{◌≡◌, inl, inr, ℕ, ◌+◌, ◌≤◌, false, List, [], ◌∷◌, ◌++◌, length, sym, subst, arith, append_assoc, append-nil, Version, version_in, Call, Placed, Chain, IsNamedPart, Rises, Shown, Tree, tree_of, TreeData, tree_in, IsRecoveredSo, Told, Turn, climbing, IsStartBy, Starts, Steps, Nothing, NeverClimbs, IsHart, MayStart, Apart, apart_alone, apart_calm, Marks, AgreeOutside, joined, seen_of, RisesBy, no_marks, beginning, Theory, Event, State, AllHonest, makes, next, run, Sound, sound_run, Outside, MoveMachine, IsMoving, NoneClimbs, Alone, StartsBy, climbs_at, shown_by, shows, Turns, clean_before, IsMountable, block_moves, first, RunsOn, marks_after, marks_next, log_at, LeavesABeginning, StopsLeaveABeginning, OneHartLeavesABeginning}
use Rattle.tree_laws.specs.WellFormed as trees
use Rattle.group_log.specs.CrashLaw.{Blocks}
use Rattle.calls_on_blocks.proofs.History.{moving, runs_from}
use Rattle.calls_on_blocks.proofs.Moves.{itself, log_in}
use Rattle.calls_on_blocks.proofs.Events.{next_now}
use Rattle.calls_on_blocks.proofs.Following.{Followed, followed_on, event_of}
use Rattle.calls_on_blocks.proofs.Histories.{Book, book_more, explains, first_book, leads, rises}
use Rattle.calls_on_blocks.proofs.Stops.{T, sizes, stored_respects, itself_stored, quiet_stored, first_state, first_followed, first_image, next_same}

rises_so : (lo : ℕ) (list : List Placed) → Rises lo list → RisesBy event_of lo list
unfolding Rises RisesBy
rises_so lo [] up = tt
rises_so lo (e ∷ es) up = (up.0, rises_so e.event es up.1)

-- a rule that each event obeys
abbrev AllObey : (Event Call Outside → Type 0) → List (Event Call Outside) → Type 0
AllObey OkAt [] = Unit {0}
AllObey OkAt (e ∷ es) = OkAt e × AllObey OkAt es

module _ (disk : List (List ℕ)) (failures : ℕ) (mountable : IsMountable disk) (Ok : ℕ → Call → Type 0) (apart : Apart Ok) (well : trees.IsWellFormed (tree_of (tree_in disk))) (OkAt : Event Call Outside → Type 0) where
  abbrev V : Version
  V = version_in disk

  abbrev N : MoveMachine
  N = block_moves (sizes disk failures mountable)

  abbrev L : Theory
  L = T disk failures mountable

  abbrev is_moving : IsMoving V N
  is_moving = moving (sizes disk failures mountable)

  abbrev base : TreeData
  base = tree_in disk

  abbrev BookOf : State L → List Shown → List Placed → Type 0
  BookOf s shown list = Book V N is_moving Ok apart base well s shown list

  -- the entries lead to a tree, and what has names in it is on each disk that recovery would leave so
  abbrev Image : List Placed → Blocks → Type 0
  Image list blocks =
      (t : Tree) × Chain V (tree_of base) list t × ((d : List (List ℕ)) → length d ≡ length disk → IsRecoveredSo (sizes disk failures mountable) blocks d → IsNamedPart t (tree_of (tree_in d)))

  respects : (list : List Placed) (a b : Blocks) → AgreeOutside (sizes disk failures mountable) a b → Image list a → Image list b
  respects list a b agree image = (image.0, image.1, stored_respects disk failures mountable (λ d. IsNamedPart image.0 (tree_of (tree_in d))) a b agree image.2)

  -- the book and the marks after a list of events
  record After (events : List (Event Call Outside)) (s : State L) (shown : List Shown) (m : Marks) : Type 0 where
    pub list : List Placed
    pub book : BookOf (run L events s) (shown ++ shows V N events s) list
    pub followed : Followed (sizes disk failures mountable) (length disk) Image (run L events s) list (marks_after (sizes disk failures mountable) events s m)

  module _ (starts : (e : Event Call Outside) (s t : State L) (told : Told) (x : Turns V N is_moving e (makes L e s).came t told (histories.placed V N e s)) → OkAt e → MayStart Ok x.event) where
    follow : (events : List (Event Call Outside)) (s : State L) (shown : List Shown) (list : List Placed) (m : Marks) → BookOf s shown list → Followed (sizes disk failures mountable) (length disk) Image s list m → AllHonest L events s
        → N.Clean (run L events s).world → AllObey OkAt events → After events s shown m
    follow [] s shown list m b f honest clean ok = record {
      list = list;
      book = subst (λ (z : List Shown). BookOf s z list) (sym (append-nil shown)) b;
      followed = f;
    }
    follow (e ∷ es) s shown list m b f honest clean ok =
        let t : State L = next L e s in
        let after : Sound L t = sound_run L (e ∷ []) s f.sound (honest.0, tt) in
        let more = book_more V N is_moving Ok apart base well OkAt starts e s shown list f.sound honest.0 (clean_before V N is_moving es t after honest.1 clean) (next_now (sizes disk failures mountable) e s) ok.0 b in
        let same = next_same disk failures mountable e s m f honest.0 in
        let quiet : t.stopped ≡ false → joined (log_at (sizes disk failures mountable) t).members ≡ 0 → Image (list ++ more.news) (seen_of itself (log_in (log_at (sizes disk failures mountable) t))) =
        (λ runs none. (
          (N.tree t.world).tree,
          leads V N is_moving Ok apart base well t (shown ++ shown_by e (makes L e s).came ∷ []) (list ++ more.news) more.book,
          λ d long so. (quiet_stored disk failures mountable t after runs same.0 same.1 none d long so).1,
        )) in
        let f' = followed_on (sizes disk failures mountable) (length disk) Image respects e s list more.news m f honest.0 more.now (next_now (sizes disk failures mountable) e s) quiet in
        let r = follow es t (shown ++ shown_by e (makes L e s).came ∷ []) (list ++ more.news) (marks_next (sizes disk failures mountable) e s m) more.book f' honest.1 clean ok.1 in
        record {
          list = r.list;
          book = subst (λ (z : List Shown). BookOf (run L es t) z r.list) (append_assoc shown (shown_by e (makes L e s).came ∷ []) (shows V N es t)) r.book;
          followed = r.followed;
        }

    -- how many events there were
    count : (events : List (Event Call Outside)) (s : State L) → (run L events s).now ≡ s.now + length events
    count [] s = omega arith
    count (e ∷ es) s = let a = next_now (sizes disk failures mountable) e s in let b = count es (next L e s) in omega (arith, a, b)

    beginning_left : (events : List (Event Call Outside)) → RunsOn disk failures events → AllObey OkAt events → LeavesABeginning disk failures events
    beginning_left events r ok =
        let from = runs_from disk failures events r in
        let s : State L = first_state disk failures mountable in
        let book = first_book V N is_moving Ok apart base well (first disk failures) from.tree from.idle in
        let start : Image [] (seen_of itself (log_in (log_at (sizes disk failures mountable) s))) =
        ((N.tree (first disk failures)).tree, leads V N is_moving Ok apart base well s [] [] book, λ d long so. (first_image disk failures mountable d long so).1) in
        let a = follow events s [] [] no_marks book (first_followed disk failures mountable Image respects start) r.honest r.clean ok in
        let f = a.followed in
        let stored = f.kept.stored in
        let l = log_at (sizes disk failures mountable) (run L events s) in
        let image = stored.2 in
        let b = beginning event_of stored.0 0 a.list (rises_so 0 a.list (rises V N is_moving Ok apart base well (run L events s) (shows V N events s) a.list a.book)) in
        let now = count events s in
        let past : stored.0 ≤ (run L events s).now = elim stored.1 [ inl is ↦ (let p = f.kept.order in let q = f.kept.past in omega (arith, is, p, q)) | inr is ↦ f.doubtful stored.0 is ] in
        record {
          history = record {
            list = a.list;
            explains = explains V N is_moving Ok apart base well (run L events s) (shows V N events s) a.list a.book;
            leads = leads V N is_moving Ok apart base well (run L events s) (shows V N events s) a.list a.book;
          };
          k = stored.0;
          marked = stored.1;
          past = omega (arith, past, now);
          after = f.after;
          rest = b.0;
          begins = b.1;
          tree = image.0;
          leads = image.1;
          named = image.2 l.contents f.long (itself_stored disk failures mountable l f.whole f.kept.same);
        }

all_calm : (events : List (Event Call Outside)) → NoneClimbs events → AllObey (λ e. climbs_at e ≡ false) events
all_calm [] calm = tt
all_calm (e ∷ es) calm = (calm.0, all_calm es calm.1)

pub stops_leave_a_beginning : StopsLeaveABeginning
stops_leave_a_beginning disk failures events r calm =
    beginning_left disk failures r.mountable NeverClimbs apart_calm (runs_from disk failures events r).well (λ e. climbs_at e ≡ false) (λ e s t told x ok. by x.event (x.calm ok)) events r (all_calm events calm)
  where
    by : (e : Turn) → climbing e ≡ false → MayStart NeverClimbs e
    by (Starts h c) is = is
    by (Steps h v reply) is = tt
    by Nothing is = tt

all_alone : (h : ℕ) (events : List (Event Call Outside)) → Alone h events → AllObey (StartsBy h) events
all_alone h [] alone = tt
all_alone h (e ∷ es) alone = (alone.0, all_alone h es alone.1)

pub one_hart_leaves_a_beginning : OneHartLeavesABeginning
one_hart_leaves_a_beginning disk failures h events r alone =
    beginning_left disk failures r.mountable (IsHart h) (apart_alone h) (runs_from disk failures events r).well (StartsBy h) (λ e s t told x ok. by x.event (x.alone h ok)) events r (all_alone h events alone)
  where
    by : (e : Turn) → IsStartBy h e → MayStart (IsHart h) e
    by (Starts g c) is = is
    by (Steps g v reply) is = tt
    by Nothing is = tt
