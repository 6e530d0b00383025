-- Runs that are computed: what a script of moves does, and that it is a run if each move is allowed.
use Rattle.image_versions.specs.declared.version.Version.{Version}
use Rattle.tree_laws.proofs.Vocabulary.{◌≡◌, ◌≢◌, ℕ, zero, suc, ◌+◌, ◌*◌, ◌<◌, Bool, true, false, ◌&&◌, ◌||◌, not, ◌==◌, refl, ap, subst, arith, List, [], ◌∷◌, Option, Some, None, nat_lt, if◌then◌else◌, nat_tests, Cause, Reply, Call, Action, Open, Truncate, Read, WritePart, Find, Bump, Enter, Unbump, Unlink, Mkdir, Chdir, Dup, Close, Fstat, Inherit, StepAnswer, Opened, Bytes, Status, NewFd, Done, Failed, NoRoom, OpenFile, hart_count, descriptor_count, Name, Tree, put, any_below, elements, live_directory, look, start_of, resolve, parent, settle, path_of, follows_path, makes_node, opens_one, is_nothing, place_of, IsInPlace, IsLeastUnused, MayChoose, StepWith, refusal_with, refused, effect_with, answer_with, Act, next_of, reply_of, had_room, Deed, Walk, Stage, Move, Acts, StartLeadsTo, LookupLeadsTo, walks_at, fail, after, Begin, Look, GiveUpWalk, Own, HartStanding, starts, Free, Busy, World, Event, PlaysAny, BeginsNext, stepped, Happens, Runs, Starts, Steps, Nothing}
use Rattle.tree_laws.proofs.Basics.{eq_self, eq_not, and_true, any_none}

-- a move without the step that it is for
pub data Plan : Type 0 where
  StartWalk : (new : ℕ) → Plan
  LookUp : (new : ℕ) → Plan
  GiveUp : Plan
  AtOnce : (new : ℕ) → Plan

-- a move, the deed that it hands the call, the stage after it, and whether it is allowed
pub record Played : Type 0 where
  pub move : Option Move
  pub told : Option Deed
  pub stage : Stage
  pub may : Bool

abbrev pub never : Stage → Played
never m = record { move = None; told = None; stage = m; may = false }

abbrev pub is_ok : StepAnswer → Bool
is_ok (Failed k) = false
is_ok (Opened fd id f) = true
is_ok (Bytes b) = true
is_ok (Status s) = true
is_ok (NewFd fd) = true
is_ok Done = true
is_ok (NoRoom f) = true

abbrev pub answers_to : Version → Tree → ℕ → Action → Option ℕ → Option (ℕ × Name) → ℕ → Option Cause → StepAnswer
answers_to version t h s res par id (Some k) = Failed k
answers_to version t h s res par id None = answer_with version t h s res par id

abbrev pub becomes : Version → Tree → ℕ → Action → Option ℕ → Option (ℕ × Name) → ℕ → ℕ → Option Cause → Tree
becomes version t h s res par new id (Some k) = refused t h s
becomes version t h s res par new id None = settle (effect_with version t h s res par new id)

abbrev pub answered : Version → Tree → ℕ → Action → Option ℕ → Option (ℕ × Name) → ℕ → Option Cause → Bool
answered version t h s res par id (Some k) = true
answered version t h s res par id None = is_ok (answer_with version t h s res par id)

abbrev pub is_new : Tree → ℕ → Bool
is_new t new = nat_lt 0 new && (nat_lt new t.ninodes && is_nothing (t.nodes new))

abbrev pub is_least : Tree → ℕ → Bool
is_least t id = is_nothing (t.files id) && not (any_below id (λ j. is_nothing (t.files j)))

-- the least unused of the ids from this one on
unfoldable pub first_unused : ℕ → (ℕ → Option OpenFile) → ℕ → ℕ
first_unused zero files id = id
first_unused (suc more) files id = if is_nothing (files id) then id else first_unused more files (id + 1)

abbrev pub least : Tree → ℕ
least t = first_unused (hart_count * descriptor_count) t.files 0

abbrev pub may_choose : Tree → ℕ → Action → Option (ℕ × Name) → ℕ → ℕ → Bool
may_choose t h s par new id = (not (makes_node t s par) || is_new t new) && (not (opens_one t h s) || is_least t id)

abbrev pub is_at : Option Walk → ℕ → Bool
is_at None n = false
is_at (Some w) n = w.at == n

abbrev pub is_alone : Stage → ℕ → Action → Option (ℕ × Name) → ℕ → Bool
is_alone m h s par new = not (makes_node m.tree s par) || not (any_below hart_count (λ g. not (g == h) && is_at (m.walk g) new))

abbrev pub is_idle : Stage → Action → Bool
is_idle m (Inherit g) = is_nothing (m.walk g)
is_idle m (Open path flags) = true
is_idle m (Truncate fd) = true
is_idle m (Read fd n) = true
is_idle m (WritePart fd b) = true
is_idle m (Find old) = true
is_idle m Bump = true
is_idle m (Enter new) = true
is_idle m Unbump = true
is_idle m (Unlink path) = true
is_idle m (Mkdir path) = true
is_idle m (Chdir path) = true
is_idle m (Dup fd) = true
is_idle m (Close fd) = true
is_idle m (Fstat fd) = true

abbrev pub placed : Tree → ℕ → Action → Bool
placed t h s = nat_lt h hart_count && place_of t h s

unfoldable pub acted : Version → Stage → ℕ → Action → Option ℕ → Option (ℕ × Name) → ℕ → Played
acted version m h s res par new = record {
  move = None;
  told = Some (record { act = record { step = s; answer = answers_to version m.tree h s res par (least m.tree) (refusal_with version m.tree h s res par) }; new = new });
  stage = record { tree = becomes version m.tree h s res par new (least m.tree) (refusal_with version m.tree h s res par); walk = put m.walk h None };
  may = placed m.tree h s && (answered version m.tree h s res par (least m.tree) (refusal_with version m.tree h s res par) && (may_choose m.tree h s par new (least m.tree) && (is_alone m h s par new && is_idle m s)));
}

abbrev pub gone_to : Stage → ℕ → Walk → Played
gone_to m h w = record { move = None; told = None; stage = record { tree = m.tree; walk = put m.walk h (Some w) }; may = true }

abbrev pub begun : Version → Stage → ℕ → Action → List Name → ℕ → Played
begun version m h s [] new = acted version m h s (Some (start_of m.tree h (path_of s))) None new
begun version m h s (e ∷ es) new = gone_to m h (record { step = s; at = start_of m.tree h (path_of s); next = e; rest = es })

abbrev pub looked : Version → Stage → ℕ → Walk → List Name → Option ℕ → ℕ → Played
looked version m h w [] r new = acted version m h w.step r (Some (w.at, w.next)) new
looked version m h w (e ∷ es) None new = acted version m h w.step None None new
looked version m h w (e ∷ es) (Some n) new = gone_to m h (record { step = w.step; at = n; next = e; rest = es })

-- this move, if it is allowed
abbrev pub moves : Move → Bool → Played → Played
moves v b p = record { move = Some v; told = p.told; stage = p.stage; may = b && p.may }

abbrev pub begin_with : Version → Stage → ℕ → Option Action → ℕ → Played
begin_with version m h None new = never m
begin_with version m h (Some s) new = moves (Begin s new) (follows_path s && (is_nothing (m.walk h) && placed m.tree h s)) (begun version m h s (elements version (path_of s)) new)

abbrev pub own_with : Version → Stage → ℕ → Option Action → ℕ → Played
own_with version m h None new = never m
own_with version m h (Some s) new = moves (Own s new) (not (follows_path s) && is_nothing (m.walk h)) (acted version m h s (resolve version m.tree h (path_of s)) (parent version m.tree h (path_of s)) new)

abbrev pub look_with : Version → Stage → ℕ → Option Walk → ℕ → Played
look_with version m h None new = never m
look_with version m h (Some w) new = moves (Look new) (live_directory (m.tree.nodes w.at)) (looked version m h w w.rest (look m.tree.nodes w.at w.next) new)

abbrev pub quit_with : Stage → ℕ → Option Walk → Played
quit_with m h None = never m
quit_with m h (Some w) = record { move = Some (GiveUpWalk w.step); told = Some (fail w.step); stage = record { tree = m.tree; walk = put m.walk h None }; may = not (live_directory (m.tree.nodes w.at)) }

unfoldable pub moved : Version → Stage → ℕ → Call → List Act → Option Plan → Played
moved version m h c acts None = record { move = None; told = None; stage = m; may = true }
moved version m h c acts (Some (StartWalk new)) = begin_with version m h (next_of c acts) new
moved version m h c acts (Some (LookUp new)) = look_with version m h (m.walk h) new
moved version m h c acts (Some GiveUp) = quit_with m h (m.walk h)
moved version m h c acts (Some (AtOnce new)) = own_with version m h (next_of c acts) new

-- Each allowed move is one.

nothing_is : {A : Type 0} → (o : Option A) → is_nothing o ≡ true → o ≡ None
nothing_is None h = refl
nothing_is (Some x) h = absurd cc

nothing_not : {A : Type 0} → (o : Option A) → is_nothing o ≡ false → o ≢ None
nothing_not None h e = absurd cc
nothing_not (Some x) h e = absurd cc

not_is : (b : Bool) → not b ≡ true → b ≡ false
not_is true h = absurd cc
not_is false h = refl

asked : (a b : Bool) → (not a || b) ≡ true → a ≡ true → b ≡ true
asked true b h y = h
asked false b h y = absurd cc

less_is : (a b : ℕ) → nat_lt a b ≡ true → a < b
less_is a b h = grind (arith, nat_tests)

least_is : (t : Tree) (id : ℕ) → is_least t id ≡ true → IsLeastUnused t id
least_is t id is =
    let two = and_true (is_nothing (t.files id)) (not (any_below id (λ j. is_nothing (t.files j)))) is in
    record {
      unused = nothing_is (t.files id) two.0;
      least = λ j lt. nothing_not (t.files j) (any_none id (λ k. is_nothing (t.files k)) (not_is (any_below id (λ k. is_nothing (t.files k))) two.1) j lt);
    }

chosen : (t : Tree) (h : ℕ) (s : Action) (par : Option (ℕ × Name)) (new id : ℕ) → may_choose t h s par new id ≡ true → MayChoose t h s par new id
chosen t h s par new id may =
    let two = and_true (not (makes_node t s par) || is_new t new) (not (opens_one t h s) || is_least t id) may in
    record {
      node = λ y.
          let one = and_true (nat_lt 0 new) (nat_lt new t.ninodes && is_nothing (t.nodes new)) (asked (makes_node t s par) (is_new t new) two.0 y) in
          let rest = and_true (nat_lt new t.ninodes) (is_nothing (t.nodes new)) one.1 in
          record { from = less_is 0 new one.0; below = less_is new t.ninodes rest.0; unused = nothing_is (t.nodes new) rest.1 };
      file = λ y. least_is t id (asked (opens_one t h s) (is_least t id) two.1 y);
    }

ok_step : (version : Version) (t : Tree) (h : ℕ) (s : Action) (res : Option ℕ) (par : Option (ℕ × Name)) (new id : ℕ) (a : StepAnswer) → refusal_with version t h s res par ≡ None → a ≡ answer_with version t h s res par id → is_ok a ≡ true → MayChoose t h s par new id → IsInPlace t h s → StepWith version t h s res par a new id (settle (effect_with version t h s res par new id))
ok_step version t h s res par new id (Failed k) none is ok may place = absurd cc
ok_step version t h s res par new id (Opened fd j f) none is ok may place = (none, is, may, refl, place)
ok_step version t h s res par new id (Bytes b) none is ok may place = (none, is, may, refl, place)
ok_step version t h s res par new id (Status x) none is ok may place = (none, is, may, refl, place)
ok_step version t h s res par new id (NewFd fd) none is ok may place = (none, is, may, refl, place)
ok_step version t h s res par new id Done none is ok may place = (none, is, may, refl, place)
ok_step version t h s res par new id (NoRoom f) none is ok may place = (none, is, may, refl, place)

made_step : (version : Version) (t : Tree) (h : ℕ) (s : Action) (res : Option ℕ) (par : Option (ℕ × Name)) (new id : ℕ) (r : Option Cause) → refusal_with version t h s res par ≡ r → answered version t h s res par id r ≡ true → MayChoose t h s par new id → IsInPlace t h s → StepWith version t h s res par (answers_to version t h s res par id r) new id (becomes version t h s res par new id r)
made_step version t h s res par new id (Some k) is ok may place = (is, refl, place)
made_step version t h s res par new id None is ok may place = ok_step version t h s res par new id (answer_with version t h s res par id) is refl ok may place

at_is : (o : Option Walk) (n : ℕ) → walks_at o n → is_at o n ≡ true
at_is None n w = absurd w
at_is (Some w) n q = subst (λ (z : ℕ). (w.at == z) ≡ true) q (eq_self w.at)

idle_is : (m : Stage) (s : Action) (g : ℕ) → is_idle m s ≡ true → s ≡ Inherit g → m.walk g ≡ None
idle_is m s g h e = nothing_is (m.walk g) (subst (λ (z : Action). is_idle m z ≡ true) e h)

acted_ok : (version : Version) (m : Stage) (h : ℕ) (s : Action) (res : Option ℕ) (par : Option (ℕ × Name)) (new : ℕ) → (acted version m h s res par new).may ≡ true → Acts version m h s res par new (acted version m h s res par new).told (acted version m h s res par new).stage
unfolding acted
acted_ok version m h s res par new may =
    let r : Option Cause = refusal_with version m.tree h s res par in
    let i : ℕ = least m.tree in
    let a = and_true (placed m.tree h s) (answered version m.tree h s res par i r && (may_choose m.tree h s par new i && (is_alone m h s par new && is_idle m s))) may in
    let b = and_true (answered version m.tree h s res par i r) (may_choose m.tree h s par new i && (is_alone m h s par new && is_idle m s)) a.1 in
    let c = and_true (may_choose m.tree h s par new i) (is_alone m h s par new && is_idle m s) b.1 in
    let d = and_true (is_alone m h s par new) (is_idle m s) c.1 in
    record {
      answer = answers_to version m.tree h s res par i r;
      id = i;
      deed = refl;
      step = made_step version m.tree h s res par new i r refl b.0 (chosen m.tree h s par new i c.0) a.0;
      walk = refl;
      alone = λ made y g lg ne at.
          let all : any_below hart_count (λ x. not (x == h) && is_at (m.walk x) new) ≡ false = not_is (any_below hart_count (λ x. not (x == h) && is_at (m.walk x) new)) (asked (makes_node m.tree s par) (not (any_below hart_count (λ x. not (x == h) && is_at (m.walk x) new))) d.0 y) in
          let no' : (not (g == h) && is_at (m.walk g) new) ≡ false = any_none hart_count (λ x. not (x == h) && is_at (m.walk x) new) all g lg in
          let yes' : (not (g == h) && is_at (m.walk g) new) ≡ true = both (not (g == h)) (is_at (m.walk g) new) (ap (λ (z : Bool). not z) (eq_not g h ne)) (at_is (m.walk g) new at) in
          absurd (cc (no', yes'));
      idle = λ g lg e. idle_is m s g d.1 e;
    }
  where
    both : (a b : Bool) → a ≡ true → b ≡ true → (a && b) ≡ true
    both a b p q = grind arith

begun_ok : (version : Version) (m : Stage) (h : ℕ) (s : Action) (es : List Name) (new : ℕ) → (begun version m h s es new).may ≡ true → StartLeadsTo version m h s es new (begun version m h s es new).told (begun version m h s es new).stage
begun_ok version m h s [] new may = acted_ok version m h s (Some (start_of m.tree h (path_of s))) None new may
begun_ok version m h s (e ∷ es) new may = (refl, refl)

looked_ok : (version : Version) (m : Stage) (h : ℕ) (w : Walk) (es : List Name) (r : Option ℕ) (new : ℕ) → (looked version m h w es r new).may ≡ true → LookupLeadsTo version m h w es r new (looked version m h w es r new).told (looked version m h w es r new).stage
looked_ok version m h w [] r new may = acted_ok version m h w.step r (Some (w.at, w.next)) new may
looked_ok version m h w (e ∷ es) None new may = acted_ok version m h w.step None None new may
looked_ok version m h w (e ∷ es) (Some n) new may = (refl, refl)

-- the move is one that the call may make next
abbrev pub MayPlay : Version → Stage → ℕ → Call → List Act → Played → Type 0
MayPlay version m h c acts p = BeginsNext c acts p.move × PlaysAny version m h p.move p.told p.stage

begin_ok : (version : Version) (m : Stage) (h : ℕ) (c : Call) (acts : List Act) (o : Option Action) (new : ℕ) → next_of c acts ≡ o → (begin_with version m h o new).may ≡ true → MayPlay version m h c acts (begin_with version m h o new)
begin_ok version m h c acts None new is may = absurd cc
begin_ok version m h c acts (Some s) new is may =
    let a = and_true (follows_path s && (is_nothing (m.walk h) && placed m.tree h s)) (begun version m h s (elements version (path_of s)) new).may may in
    let b = and_true (follows_path s) (is_nothing (m.walk h) && placed m.tree h s) a.0 in
    let d = and_true (is_nothing (m.walk h)) (placed m.tree h s) b.1 in
    (is, record { follows = b.0; rests = nothing_is (m.walk h) d.0; place = d.1; begins = begun_ok version m h s (elements version (path_of s)) new a.1 })

own_ok : (version : Version) (m : Stage) (h : ℕ) (c : Call) (acts : List Act) (o : Option Action) (new : ℕ) → next_of c acts ≡ o → (own_with version m h o new).may ≡ true → MayPlay version m h c acts (own_with version m h o new)
own_ok version m h c acts None new is may = absurd cc
own_ok version m h c acts (Some s) new is may =
    let p = acted version m h s (resolve version m.tree h (path_of s)) (parent version m.tree h (path_of s)) new in
    let a = and_true (not (follows_path s) && is_nothing (m.walk h)) p.may may in
    let b = and_true (not (follows_path s)) (is_nothing (m.walk h)) a.0 in
    (is, record { follows = not_is (follows_path s) b.0; rests = nothing_is (m.walk h) b.1; acts = acted_ok version m h s (resolve version m.tree h (path_of s)) (parent version m.tree h (path_of s)) new a.1 })

look_ok : (version : Version) (m : Stage) (h : ℕ) (c : Call) (acts : List Act) (o : Option Walk) (new : ℕ) → m.walk h ≡ o → (look_with version m h o new).may ≡ true → MayPlay version m h c acts (look_with version m h o new)
look_ok version m h c acts None new is may = absurd cc
look_ok version m h c acts (Some w) new is may =
    let p = looked version m h w w.rest (look m.tree.nodes w.at w.next) new in
    let a = and_true (live_directory (m.tree.nodes w.at)) p.may may in
    (tt, record { walk = w; is = is; live = a.0; looks = looked_ok version m h w w.rest (look m.tree.nodes w.at w.next) new a.1 })

quit_ok : (version : Version) (m : Stage) (h : ℕ) (c : Call) (acts : List Act) (o : Option Walk) → m.walk h ≡ o → (quit_with m h o).may ≡ true → MayPlay version m h c acts (quit_with m h o)
quit_ok version m h c acts None is may = absurd cc
quit_ok version m h c acts (Some w) is may = (tt, record { walk = w; is = is; step = refl; lost = not_is (live_directory (m.tree.nodes w.at)) may; deed = refl; stage = refl })

moved_ok : (version : Version) (m : Stage) (h : ℕ) (c : Call) (acts : List Act) (v : Option Plan) → (moved version m h c acts v).may ≡ true → MayPlay version m h c acts (moved version m h c acts v)
unfolding moved
moved_ok version m h c acts None may = (tt, (refl, refl))
moved_ok version m h c acts (Some (StartWalk new)) may = begin_ok version m h c acts (next_of c acts) new refl may
moved_ok version m h c acts (Some (LookUp new)) may = look_ok version m h c acts (m.walk h) new refl may
moved_ok version m h c acts (Some GiveUp) may = quit_ok version m h c acts (m.walk h) refl may
moved_ok version m h c acts (Some (AtOnce new)) may = own_ok version m h c acts (next_of c acts) new refl may

-- Scripts.

pub data Do : Type 0 where
  Start : (h : ℕ) → (c : Call) → Do
  Step : (h : ℕ) → (v : Option Plan) → Do
  Last : (h : ℕ) → (v : Option Plan) → Do  -- an event with which the call ends

-- an event, the world after it, and whether it may happen
pub record Shows : Type 0 where
  pub event : Event
  pub world : World
  pub may : Bool

abbrev pub is_free : HartStanding → Bool
is_free Free = true
is_free (Busy id c acts) = false

abbrev pub step_at : Version → World → ℕ → Option Plan → HartStanding → Shows
step_at version w h v Free = record { event = Nothing; world = w; may = false }
step_at version w h v (Busy id c acts) = record {
  event = Steps h (moved version w.stage h c acts v).move None;
  world = stepped w h (moved version w.stage h c acts v).told (moved version w.stage h c acts v).stage None;
  may = nat_lt h hart_count && (moved version w.stage h c acts v).may;
}

abbrev pub last_of : Call → List Act → Played → Reply
last_of c acts p = reply_of c (after p.told acts)

abbrev pub last_at : Version → World → ℕ → Option Plan → HartStanding → Shows
last_at version w h v Free = record { event = Nothing; world = w; may = false }
last_at version w h v (Busy id c acts) = record {
  event = Steps h (moved version w.stage h c acts v).move (Some (last_of c acts (moved version w.stage h c acts v)));
  world = stepped w h (moved version w.stage h c acts v).told (moved version w.stage h c acts v).stage (Some (last_of c acts (moved version w.stage h c acts v)));
  may = nat_lt h hart_count && ((moved version w.stage h c acts v).may && (is_nothing ((moved version w.stage h c acts v).stage.walk h) && (is_nothing (next_of c (after (moved version w.stage h c acts v).told acts)) && had_room (after (moved version w.stage h c acts v).told acts))));
}

unfoldable pub played : Version → World → Do → Shows
played version w (Start h c) = record { event = Starts h c; world = record { stage = w.stage; history = starts w.history h c }; may = nat_lt h hart_count && is_free (w.history.calls h) }
played version w (Step h v) = step_at version w h v (w.history.calls h)
played version w (Last h v) = last_at version w h v (w.history.calls h)

free_is : (s : HartStanding) → is_free s ≡ true → s ≡ Free
free_is Free h = refl
free_is (Busy id c acts) h = absurd cc

step_ok : (version : Version) (w : World) (h : ℕ) (v : Option Plan) (s : HartStanding) → w.history.calls h ≡ s → (step_at version w h v s).may ≡ true → Happens version w (step_at version w h v s).event (step_at version w h v s).world
step_ok version w h v Free is may = absurd cc
step_ok version w h v (Busy id c acts) is may =
    let p = moved version w.stage h c acts v in
    let a = and_true (nat_lt h hart_count) p.may may in
    let one = moved_ok version w.stage h c acts v a.1 in
    record { hart = less_is h hart_count a.0; id = id; c = c; acts = acts; busy = is; next = one.0; told = p.told; stage = p.stage; plays = one.1; reply = tt; world = refl }

last_ok : (version : Version) (w : World) (h : ℕ) (v : Option Plan) (s : HartStanding) → w.history.calls h ≡ s → (last_at version w h v s).may ≡ true → Happens version w (last_at version w h v s).event (last_at version w h v s).world
last_ok version w h v Free is may = absurd cc
last_ok version w h v (Busy id c acts) is may =
    let p = moved version w.stage h c acts v in
    let x = after p.told acts in
    let a = and_true (nat_lt h hart_count) (p.may && (is_nothing (p.stage.walk h) && (is_nothing (next_of c x) && had_room x))) may in
    let b = and_true p.may (is_nothing (p.stage.walk h) && (is_nothing (next_of c x) && had_room x)) a.1 in
    let d = and_true (is_nothing (p.stage.walk h)) (is_nothing (next_of c x) && had_room x) b.1 in
    let e = and_true (is_nothing (next_of c x)) (had_room x) d.1 in
    let one = moved_ok version w.stage h c acts v b.0 in
    record { hart = less_is h hart_count a.0; id = id; c = c; acts = acts; busy = is; next = one.0; told = p.told; stage = p.stage; plays = one.1; reply = (nothing_is (p.stage.walk h) d.0, record { through = nothing_is (next_of c x) e.0; reply = refl; room = e.1 }); world = refl }

played_ok : (version : Version) (w : World) (d : Do) → (played version w d).may ≡ true → Happens version w (played version w d).event (played version w d).world
unfolding played
played_ok version w (Start h c) may = let a = and_true (nat_lt h hart_count) (is_free (w.history.calls h)) may in record { hart = less_is h hart_count a.0; free = free_is (w.history.calls h) a.1; world = refl }
played_ok version w (Step h v) may = step_ok version w h v (w.history.calls h) refl may
played_ok version w (Last h v) may = last_ok version w h v (w.history.calls h) refl may

unfoldable pub may_all : Version → World → List Do → Bool
may_all version w [] = true
may_all version w (d ∷ ds) = (played version w d).may && may_all version (played version w d).world ds

unfoldable pub events_of : Version → World → List Do → List Event
events_of version w [] = []
events_of version w (d ∷ ds) = (played version w d).event ∷ events_of version (played version w d).world ds

unfoldable pub end_of : Version → World → List Do → World
end_of version w [] = w
end_of version w (d ∷ ds) = end_of version (played version w d).world ds

-- A script whose moves are all allowed is a run.
pub script_runs : (version : Version) (w : World) (ds : List Do) → may_all version w ds ≡ true → Runs version w (events_of version w ds) (end_of version w ds)
unfolding may_all events_of end_of Runs
script_runs version w [] may = refl
script_runs version w (d ∷ ds) may =
    let a = and_true (played version w d).may (may_all version (played version w d).world ds) may in
    ((played version w d).world, played_ok version w d a.0, script_runs version (played version w d).world ds a.1)

abbrev pub plan_of : Move → Plan
plan_of (Begin s new) = StartWalk new
plan_of (Look new) = LookUp new
plan_of (GiveUpWalk s) = GiveUp
plan_of (Own s new) = AtOnce new

abbrev pub any_plan : Option Move → Option Plan
any_plan None = None
any_plan (Some v) = Some (plan_of v)

-- the script of events
abbrev pub script_of : List Event → List Do
script_of [] = []
script_of (Starts h c ∷ es) = Start h c ∷ script_of es
script_of (Steps h v None ∷ es) = Step h (any_plan v) ∷ script_of es
script_of (Steps h v (Some r) ∷ es) = Last h (any_plan v) ∷ script_of es
script_of (Nothing ∷ es) = script_of es

-- Events that their own script gives are a run.
pub events_run : (version : Version) (w : World) (es : List Event) → may_all version w (script_of es) ≡ true → events_of version w (script_of es) ≡ es → Runs version w es (end_of version w (script_of es))
events_run version w es may same = subst (λ (z : List Event). Runs version w z (end_of version w (script_of es))) same (script_runs version w (script_of es) may)
