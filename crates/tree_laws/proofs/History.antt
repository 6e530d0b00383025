-- The whole event: the history, the other harts, and the walks that are lost. The list that is kept explains every
-- run.
use Rattle.image_versions.specs.declared.version.Version.{Version}
use Rattle.tree_laws.proofs.Vocabulary.{◌≡◌, ◌≢◌, ℕ, zero, suc, ◌+◌, ◌<◌, ◌≤◌, true, false, inl, inr, refl, sym, ◌∙◌, ap, subst, arith, List, [], ◌∷◌, ◌++◌, map, length, Option, Some, None, Reply, Call, Trace, TreeData, hart_count, Tree, tree_of, put, live_directory, Act, next_of, call_climbs, ChainBy, Rises, AllBelong, noted, trace_from, trace_of, Explains, IsWellFormed, Deed, Walk, Stage, Move, fail, after, HartStanding, History, writes, writes_any, tells, tells_any, passes, Free, Busy, World, Event, lost, lost_of, unless, falls, all_fall, moves_on, MayReply, finishes, stepped, Happens, Runs, opened, shown_of, climbing, NoneClimbs, IsStartBy, Alone, Starts, Steps, Nothing}
use Rattle.tree_laws.proofs.Basics.{same_or, put_same, put_other, BookOk, AllBelow, write_ok, tell_ok, start_ok, reply_ok, passes_ok, later_ok, explained, LeavesWalk, StepBy, walk_falls, walk_kept}
use Rattle.tree_laws.proofs.Moved.{WalkAt, MoveResult, HasMoved, no_walk, lost_dead, lost_live, any_moved}
use Rattle.tree_laws.proofs.Moved.MoveResult.{Stays, ActsThere, Went, GivesWalkUp}

-- Which calls a hart may make, so that no path of another hart's call has ".." while it makes one.
abbrev pub Apart : (ℕ → Call → Type 0) → Type 0
Apart Ok = (h g : ℕ) (c c' : Call) → g ≢ h → Ok h c → Ok g c' → call_climbs c' ≡ false

abbrev pub OwnOk : Version → (ℕ → Call → Type 0) → Tree → ℕ → HartStanding → Option Walk → Type 0
OwnOk version Ok t h Free walk = walk ≡ None
OwnOk version Ok t h (Busy id c x) walk = Ok h c × WalkAt version t h c x walk

-- What the history keeps of calls and of the trace while it is written.

pub writes_calls : (o : Option Deed) (h : ℕ) (b : History) → (writes_any o h b).calls ≡ b.calls
writes_calls None h b = refl
writes_calls (Some d) h b = at (b.calls h)
  where
    at : (s : HartStanding) → (writes s b h d).calls ≡ b.calls
    at Free = refl
    at (Busy id c x) = refl

pub writes_trace : (o : Option Deed) (h : ℕ) (b : History) → (writes_any o h b).trace ≡ b.trace
writes_trace None h b = refl
writes_trace (Some d) h b = at (b.calls h)
  where
    at : (s : HartStanding) → (writes s b h d).trace ≡ b.trace
    at Free = refl
    at (Busy id c x) = refl

pub tells_trace : (o : Option Deed) (h : ℕ) (b : History) → (tells_any o h b).trace ≡ b.trace
tells_trace None h b = refl
tells_trace (Some d) h b = at (b.calls h)
  where
    at : (s : HartStanding) → (tells s b h d).trace ≡ b.trace
    at Free = refl
    at (Busy id c x) = refl

pub tells_list : (o : Option Deed) (h : ℕ) (b : History) → (tells_any o h b).list ≡ b.list
tells_list None h b = refl
tells_list (Some d) h b = at (b.calls h)
  where
    at : (s : HartStanding) → (tells s b h d).list ≡ b.list
    at Free = refl
    at (Busy id c x) = refl

pub tells_there : (o : Option Deed) (h g : ℕ) (b : History) → g ≢ h → (tells_any o h b).calls g ≡ b.calls g
tells_there None h g b ne = refl
tells_there (Some d) h g b ne = at (b.calls h)
  where
    at : (s : HartStanding) → (tells s b h d).calls g ≡ b.calls g
    at Free = refl
    at (Busy id c x) = put_other b.calls h (Busy id c (x ++ d.act ∷ [])) g ne

pub tells_here : (o : Option Deed) (h id : ℕ) (c : Call) (x : List Act) (b : History) → b.calls h ≡ Busy id c x → (tells_any o h b).calls h ≡ Busy id c (after o x)
tells_here None h id c x b is = is
tells_here (Some d) h id c x b is = subst (λ (s : HartStanding). (tells s b h d).calls h ≡ Busy id c (x ++ d.act ∷ [])) (sym is) (put_same b.calls h (Busy id c (x ++ d.act ∷ [])))

pub falls_calls : (m m' : Stage) (n : ℕ) (b : History) → (all_fall m m' n b).calls ≡ b.calls
unfolding all_fall
falls_calls m m' zero b = refl
falls_calls m m' (suc n) b = writes_calls (falls m m' n) n (all_fall m m' n b) ∙ falls_calls m m' n b

pub falls_trace : (m m' : Stage) (n : ℕ) (b : History) → (all_fall m m' n b).trace ≡ b.trace
unfolding all_fall
falls_trace m m' zero b = refl
falls_trace m m' (suc n) b = writes_trace (falls m m' n) n (all_fall m m' n b) ∙ falls_trace m m' n b

pub own_trace : (m : Stage) (h : ℕ) (a : Option Deed) (b : History) → (tells_any a h (writes_any (unless (lost_of m h) a) h b)).trace ≡ b.trace
own_trace m h a b = tells_trace a h (writes_any (unless (lost_of m h) a) h b) ∙ writes_trace (unless (lost_of m h) a) h b

pub moves_trace : (m m' : Stage) (h : ℕ) (a : Option Deed) (b : History) → (moves_on m m' h a b).trace ≡ b.trace
moves_trace m m' h a b = falls_trace m m' hart_count (tells_any a h (writes_any (unless (lost_of m h) a) h b)) ∙ own_trace m h a b

-- In the middle of event n.

abbrev pub lately : Option Deed → List Act
lately None = []
lately (Some d) = d.act ∷ []

pub record Mid (version : Version) (base t : Tree) (late : ℕ → List Act) (n : ℕ) (b : History) : Type 0 where
  pub events : b.trace.events ≡ n
  pub ok : BookOk version base t late (n + 1) b

mid_writes : (version : Version) (base t t' : Tree) (late : ℕ → List Act) (n : ℕ) (b : History) (h id : ℕ) (c : Call) (x : List Act) (d : Deed) → Mid version base t late n b → b.calls h ≡ Busy id c x → late h ≡ [] → next_of c x ≡ Some d.act.step → StepBy version t h d t'
    → Mid version base t' (put late h (d.act ∷ [])) n (writes_any (Some d) h b)
mid_writes version base t t' late n b h id c x d k is none next step = record {
  events = ap (λ (z : Trace). z.events) (writes_trace (Some d) h b) ∙ k.events;
  ok =
      subst (λ (s : HartStanding). BookOk version base t' (put late h (d.act ∷ [])) (n + 1) (writes s b h d)) (sym is)
      (subst (λ (z : ℕ). BookOk version base t' (put late h (d.act ∷ [])) (z + 1) (writes (Busy id c x) b h d)) k.events
      (write_ok version base t t' late b h id c x d (subst (λ (z : ℕ). BookOk version base t late (z + 1) b) (sym k.events) k.ok) is none next step));
}

mid_tells : (version : Version) (base t : Tree) (late : ℕ → List Act) (n : ℕ) (b : History) (h id : ℕ) (c : Call) (x : List Act) (d : Deed) → Mid version base t late n b → b.calls h ≡ Busy id c x → late h ≡ d.act ∷ [] → Mid version base t (put late h []) n (tells_any (Some d) h b)
mid_tells version base t late n b h id c x d k is one = record {
  events = ap (λ (z : Trace). z.events) (tells_trace (Some d) h b) ∙ k.events;
  ok = subst (λ (s : HartStanding). BookOk version base t (put late h []) (n + 1) (tells s b h d)) (sym is) (tell_ok version base t late (n + 1) b h id c x d k.ok is one);
}

-- the step that is lost in the event is the next step of its call, and fails there
pub record MayFall (version : Version) (m m' : Stage) (late : ℕ → List Act) (b : History) (g : ℕ) : Type 0 where
  pub none : falls m m' g ≡ None → late g ≡ lately (lost_of m' g)
  pub some : (d : Deed) → falls m m' g ≡ Some d → (late g ≡ []) × (lost_of m' g ≡ Some d) × (id : ℕ) × (c : Call) × (x : List Act) × (b.calls g ≡ Busy id c x) × (next_of c x ≡ Some d.act.step) × StepBy version m'.tree g d m'.tree

pub record HasFallen (version : Version) (base : Tree) (m m' : Stage) (late : ℕ → List Act) (k n : ℕ) (b : History) : Type 0 where
  pub left : ℕ → List Act
  pub below : (g : ℕ) → g < n → left g ≡ lately (lost_of m' g)
  pub above : (g : ℕ) → n ≤ g → left g ≡ late g
  pub mid : Mid version base m'.tree left k (all_fall m m' n b)

one_falls : (version : Version) (base : Tree) (m m' : Stage) (late : ℕ → List Act) (k n : ℕ) (b : History) → MayFall version m m' late b n → HasFallen version base m m' late k n b → (o : Option Deed) → falls m m' n ≡ o → HasFallen version base m m' late k (suc n) b
unfolding all_fall
one_falls version base m m' late k n b may old None is = record {
  left = old.left;
  below = λ g l. elim (same_or g n) [
    | inl e ↦ subst (λ (z : ℕ). old.left z ≡ lately (lost_of m' z)) (sym e) (old.above n (omega arith) ∙ may.none is)
    | inr ne ↦ old.below g (omega (arith, l, ne))
  ];
  above = λ g l. old.above g (omega (arith, l));
  mid = subst (λ (o : Option Deed). Mid version base m'.tree old.left k (writes_any o n (all_fall m m' n b))) (sym is) old.mid;
}
one_falls version base m m' late k n b may old (Some d) is =
    let f = may.some d is in
    let calls : (all_fall m m' n b).calls n ≡ Busy f.2 f.3 f.4 = ap (λ (z : ℕ → HartStanding). z n) (falls_calls m m' n b) ∙ f.5 in
    record {
      left = put old.left n (d.act ∷ []);
      below = λ g l. elim (same_or g n) [
        | inl e ↦ subst (λ (z : ℕ). put old.left n (d.act ∷ []) z ≡ lately (lost_of m' z)) (sym e) (put_same old.left n (d.act ∷ []) ∙ ap (λ (o : Option Deed). lately o) (sym f.1))
        | inr ne ↦ put_other old.left n (d.act ∷ []) g ne ∙ old.below g (omega (arith, l, ne))
      ];
      above = λ g l. put_other old.left n (d.act ∷ []) g (omega (arith, l)) ∙ old.above g (omega (arith, l));
      mid =
          subst (λ (o : Option Deed). Mid version base m'.tree (put old.left n (d.act ∷ [])) k (writes_any o n (all_fall m m' n b))) (sym is)
          (mid_writes version base m'.tree m'.tree old.left k (all_fall m m' n b) n f.2 f.3 f.4 d old.mid calls (old.above n (omega arith) ∙ f.0) f.6 f.7);
    }

all_fallen : (version : Version) (base : Tree) (m m' : Stage) (late : ℕ → List Act) (k n : ℕ) (b : History) → Mid version base m'.tree late k b → ((g : ℕ) → g < n → MayFall version m m' late b g) → HasFallen version base m m' late k n b
unfolding all_fall
all_fallen version base m m' late k zero b mid may = record { left = late; below = λ g l. absurd (omega (arith, l)); above = λ g l. refl; mid = mid }
all_fallen version base m m' late k (suc n) b mid may = one_falls version base m m' late k n b (may n (omega arith)) (all_fallen version base m m' late k n b mid (λ g l. may g (omega (arith, l)))) (falls m m' n) refl

-- The hart's own part of the event.

unless_none : (o : Option Deed) → unless o None ≡ None
unless_none None = refl
unless_none (Some d) = refl

unless_same : (o : Option Deed) → unless o o ≡ None
unless_same None = refl
unless_same (Some d) = refl

pub record OwnPart (version : Version) (base : Tree) (m m' : Stage) (late : ℕ → List Act) (k : ℕ) (b : History) (h : ℕ) (a : Option Deed) : Type 0 where
  pub left : ℕ → List Act
  pub there : (g : ℕ) → g ≢ h → left g ≡ late g
  pub mid : Mid version base m'.tree left k (tells_any a h (writes_any (unless (lost_of m h) a) h b))
  pub may : MayFall version m m' left (tells_any a h (writes_any (unless (lost_of m h) a) h b)) h

own_part : (version : Version) (base : Tree) (m m' : Stage) (late : ℕ → List Act) (k : ℕ) (b : History) (h id : ℕ) (c : Call) (x : List Act) (a : Option Deed) → Mid version base m.tree late k b → b.calls h ≡ Busy id c x → late h ≡ lately (lost_of m h) → MoveResult version m h c x a m' → OwnPart version base m m' late k b h a
own_part version base m m' late k b h id c x a mid is mine (Stays none same) =
    subst (λ (o : Option Deed). OwnPart version base m m' late k b h o) (sym none) (subst (λ (z : Stage). OwnPart version base m z late k b h None) (sym same) (record {
      left = late;
      there = λ g ne. refl;
      mid = subst (λ (o : Option Deed). Mid version base m.tree late k (writes_any o h b)) (sym (unless_none (lost_of m h))) mid;
      may = record { none = λ e. mine; some = λ d e. absurd (let z = unless_same (lost_of m h) in cc (z, e)) };
    }))
own_part version base m m' late k b h id c x a mid is mine (ActsThere d told stood ended next step) =
    subst (λ (o : Option Deed). OwnPart version base m m' late k b h o) (sym told) (record {
      left = put left h [];
      there = λ g ne. put_other left h [] g ne ∙ put_other late h (d.act ∷ []) g ne;
      mid = subst (λ (o : Option Deed). Mid version base m'.tree (put left h []) k (tells_any (Some d) h (writes_any (unless o (Some d)) h b))) (sym stood)
          (mid_tells version base m'.tree left k (writes_any (Some d) h b) h id c x d (mid_writes version base m.tree m'.tree late k b h id c x d mid is empty next step) (ap (λ (z : ℕ → HartStanding). z h) (writes_calls (Some d) h b) ∙ is) (put_same late h (d.act ∷ [])));
      may = record {
        none = λ e. put_same left h [] ∙ ap (λ (o : Option Deed). lately o) (sym (no_walk m' h ended));
        some = λ e q. absurd (let z : falls m m' h ≡ None = ap (λ (o : Option Deed). unless o (lost_of m' h)) stood ∙ no_walk m' h ended in cc (z, q));
      };
    })
  where
    left : ℕ → List Act
    left = put late h (d.act ∷ [])

    empty : late h ≡ []
    empty = mine ∙ ap (λ (o : Option Deed). lately o) stood
own_part version base m m' late k b h id c x a mid is mine (Went w none stood at same next fails) =
    subst (λ (o : Option Deed). OwnPart version base m m' late k b h o) (sym none) (record {
      left = late;
      there = λ g ne. refl;
      mid = subst (λ (t : Tree). Mid version base t late k (writes_any (unless (lost_of m h) None) h b)) (sym same) (subst (λ (o : Option Deed). Mid version base m.tree late k (writes_any o h b)) (sym (unless_none (lost_of m h))) mid);
      may = record {
        none = λ e. empty ∙ ap (λ (o : Option Deed). lately o) (sym (sym falls_is ∙ e));
        some = λ d e. fallen d (sym falls_is ∙ e) (live_directory (m'.tree.nodes w.at)) refl;
      };
    })
  where
    empty : late h ≡ []
    empty = mine ∙ ap (λ (o : Option Deed). lately o) stood

    falls_is : falls m m' h ≡ lost_of m' h
    falls_is = ap (λ (o : Option Deed). unless o (lost_of m' h)) stood

    told : History
    told = writes_any (unless (lost_of m h) None) h b

    fallen : (d : Deed) → lost_of m' h ≡ Some d → (live : _) → live_directory (m'.tree.nodes w.at) ≡ live
        → (late h ≡ []) × (lost_of m' h ≡ Some d) × (id : ℕ) × (c : Call) × (x : List Act) × (told.calls h ≡ Busy id c x) × (next_of c x ≡ Some d.act.step) × StepBy version m'.tree h d m'.tree
    fallen d e true l = absurd (let z : lost_of m' h ≡ None = ap (λ (o : Option Walk). lost m'.tree o) at ∙ lost_live m'.tree w l in cc (z, e))
    fallen d e false l =
        let z : lost_of m' h ≡ Some (fail w.step) = ap (λ (o : Option Walk). lost m'.tree o) at ∙ lost_dead m'.tree w l in
        let q : Some (fail w.step) ≡ Some d = sym z ∙ e in
        let same : fail w.step ≡ d = cc in (
          empty,
          e,
          id,
          c,
          x,
          ap (λ (f : ℕ → HartStanding). f h) (writes_calls (unless (lost_of m h) None) h b) ∙ is,
          subst (λ (z : Deed). next_of c x ≡ Some z.act.step) same next,
          subst (λ (z : Deed). StepBy version m'.tree h z m'.tree) same (fails l),
        )
own_part version base m m' late k b h id c x a mid is mine (GivesWalkUp d told stood ended same) =
    subst (λ (o : Option Deed). OwnPart version base m m' late k b h o) (sym told) (record {
      left = put late h [];
      there = λ g ne. put_other late h [] g ne;
      mid = subst (λ (o : Option Deed). Mid version base m'.tree (put late h []) k (tells_any (Some d) h (writes_any (unless o (Some d)) h b))) (sym stood)
          (subst (λ (t : Tree). Mid version base t (put late h []) k (tells_any (Some d) h b)) (sym same) (mid_tells version base m.tree late k b h id c x d mid is (mine ∙ ap (λ (o : Option Deed). lately o) stood)));
      may = record {
        none = λ e. put_same late h [] ∙ ap (λ (o : Option Deed). lately o) (sym (no_walk m' h ended));
        some = λ e q. absurd (let z : falls m m' h ≡ None = ap (λ (o : Option Deed). unless o (lost_of m' h)) stood in cc (z, q));
      };
    })

-- The other harts.

abbrev Calm : (ℕ → Call → Type 0) → ℕ → Type 0
Calm Ok g = (c : Call) → Ok g c → call_climbs c ≡ false

-- a walk that was lost stays so, and a walk that is lost in this event fails in it
may_fall : (version : Version) (Ok : ℕ → Call → Type 0) (m m' : Stage) (late : ℕ → List Act) (b : History) (g : ℕ) (s : HartStanding) (v : Option Walk) → Calm Ok g → b.calls g ≡ s → m.walk g ≡ v → m'.walk g ≡ v → late g ≡ lately (lost_of m g) → OwnOk version Ok m.tree g s v
    → ((w : Walk) → m.walk g ≡ Some w → LeavesWalk m.tree m'.tree g w.at) → MayFall version m m' late b g
may_fall version Ok m m' late b g s None calm st old new mine own left = record {
  none = λ e. mine ∙ ap (λ (o : Option Deed). lately o) (no_walk m g old ∙ sym (no_walk m' g new));
  some = λ d e. absurd (let z : falls m m' g ≡ None = ap (λ (o : Option Deed). unless o (lost_of m' g)) (no_walk m g old) ∙ no_walk m' g new in cc (z, e));
}
may_fall version Ok m m' late b g Free (Some w) calm st old new mine own left = absurd cc
may_fall version Ok m m' late b g (Busy id c x) (Some w) calm st old new mine own left = go (live_directory (m.tree.nodes w.at)) (live_directory (m'.tree.nodes w.at)) refl refl
  where
    before : lost_of m g ≡ lost m.tree (Some w)
    before = ap (λ (o : Option Walk). lost m.tree o) old

    now : lost_of m' g ≡ lost m'.tree (Some w)
    now = ap (λ (o : Option Walk). lost m'.tree o) new

    -- nothing is lost in this event
    still : (o : Option Deed) → lost_of m g ≡ o → lost_of m' g ≡ o → MayFall version m m' late b g
    still o p q = record {
      none = λ e. mine ∙ ap (λ (o : Option Deed). lately o) (p ∙ sym q);
      some = λ d e. absurd (let z : falls m m' g ≡ None = ap (λ (r : Option Deed). unless r (lost_of m' g)) p ∙ (ap (λ (r : Option Deed). unless o r) q ∙ unless_same o) in cc (z, e));
    }

    go : (l l' : _) → live_directory (m.tree.nodes w.at) ≡ l → live_directory (m'.tree.nodes w.at) ≡ l' → MayFall version m m' late b g
    go true true p q = still None (before ∙ lost_live m.tree w p) (now ∙ lost_live m'.tree w q)
    go false false p q = still (Some (fail w.step)) (before ∙ lost_dead m.tree w p) (now ∙ lost_dead m'.tree w q)
    go false true p q = absurd (let z = (left w old).dead p in cc (z, q))
    go true false p q =
        let stood : lost_of m g ≡ None = before ∙ lost_live m.tree w p in
        let fell : lost_of m' g ≡ Some (fail w.step) = now ∙ lost_dead m'.tree w q in
        let is : falls m m' g ≡ Some (fail w.step) = ap (λ (o : Option Deed). unless o (lost_of m' g)) stood ∙ fell in
        record {
          none = λ e. absurd (cc (is, e));
          some = λ d e.
              let z : Some (fail w.step) ≡ Some d = sym is ∙ e in
              let same : fail w.step ≡ d = cc in
              subst (λ (z : Deed). (late g ≡ []) × (lost_of m' g ≡ Some z) × (id : ℕ) × (c : Call) × (x : List Act) × (b.calls g ≡ Busy id c x) × (next_of c x ≡ Some z.act.step) × StepBy version m'.tree g z m'.tree) same
              (mine ∙ ap (λ (o : Option Deed). lately o) stood, fell, id, c, x, st, own.1.next, walk_falls version m.tree m'.tree g c x w (calm c own.0) own.1 (left w old) p q);
        }

-- another hart's place after the event
own_after : (version : Version) (Ok : ℕ → Call → Type 0) (m m' : Stage) (g : ℕ) (s : HartStanding) (v : Option Walk) → Calm Ok g → m.walk g ≡ v → OwnOk version Ok m.tree g s v → ((w : Walk) → m.walk g ≡ Some w → LeavesWalk m.tree m'.tree g w.at) → OwnOk version Ok m'.tree g s v
own_after version Ok m m' g Free v calm vw own left = own
own_after version Ok m m' g (Busy id c x) None calm vw own left = own
own_after version Ok m m' g (Busy id c x) (Some w) calm vw own left = (own.0, walk_kept version m.tree m'.tree g c x w (calm c own.0) own.1 (left w vw))

-- late: what the list has of a call and the call hasn't been handed yet, which is the failing step of a lost walk
pub record Inv (version : Version) (Ok : ℕ → Call → Type 0) (base : Tree) (w : World) : Type 0 where
  pub good : IsWellFormed w.stage.tree
  pub late : ℕ → List Act
  pub lost : (g : ℕ) → g < hart_count → late g ≡ lately (lost_of w.stage g)
  pub book : BookOk version base w.stage.tree late w.history.trace.events w.history
  pub harts : (g : ℕ) → g < hart_count → OwnOk version Ok w.stage.tree g (w.history.calls g) (w.stage.walk g)

abbrev finish_calls : Option Reply → HartStanding → HartStanding
finish_calls None s = s
finish_calls (Some r) s = Free

pub finish_here : (r : Option Reply) (b : History) (h : ℕ) → (finishes r h b).calls h ≡ finish_calls r (b.calls h)
finish_here None b h = refl
finish_here (Some r) b h = put_same b.calls h Free

pub finish_there : (r : Option Reply) (b : History) (h g : ℕ) → g ≢ h → (finishes r h b).calls g ≡ b.calls g
finish_there None b h g ne = refl
finish_there (Some r) b h g ne = put_other b.calls h Free g ne

finish_ok : (version : Version) (base t : Tree) (late : ℕ → List Act) (n : ℕ) (b : History) (m : Stage) (h id : ℕ) (c : Call) (x : List Act) (r : Option Reply) → Mid version base t late n b → b.calls h ≡ Busy id c x → late h ≡ lately (lost_of m h) → MayReply m h c x r
    → BookOk version base t late (finishes r h b).trace.events (finishes r h b)
finish_ok version base t late n b m h id c x None k is mine may = passes_ok version base t late b (subst (λ (z : ℕ). BookOk version base t late (z + 1) b) (sym k.events) k.ok)
finish_ok version base t late n b m h id c x (Some r) k is mine may = reply_ok version base t late b h id c x r (subst (λ (z : ℕ). BookOk version base t late (z + 1) b) (sym k.events) k.ok) is (mine ∙ ap (λ (o : Option Deed). lately o) (no_walk m h may.0)) may.1

finish_own : (version : Version) (Ok : ℕ → Call → Type 0) (m : Stage) (h id : ℕ) (c : Call) (x : List Act) (r : Option Reply) → Ok h c → WalkAt version m.tree h c x (m.walk h) → MayReply m h c x r → OwnOk version Ok m.tree h (finish_calls r (Busy id c x)) (m.walk h)
finish_own version Ok m h id c x None ok k may = (ok, k)
finish_own version Ok m h id c x (Some r) ok k may = may.0

step_ok : (version : Version) (Ok : ℕ → Call → Type 0) (base : Tree) (w : World) (h id : ℕ) (c : Call) (x : List Act) (a : Option Deed) (m' : Stage) (r : Option Reply) → Apart Ok → h < hart_count → Inv version Ok base w → w.history.calls h ≡ Busy id c x → Ok h c → HasMoved version w.stage h c x a m' → MayReply m' h c (after a x) r
    → Inv version Ok base (stepped w h a m' r)
step_ok version Ok base w h id c x a m' r apart lt k is ok d may =
    let m = w.stage in
    let b = w.history in
    let n = b.trace.events in
    let b1 : History = writes_any (unless (lost_of m h) a) h b in
    let b2 : History = tells_any a h b1 in
    let calm : (g : ℕ) → g ≢ h → Calm Ok g = (λ g ne c' ok'. apart h g c c' ne ok ok') in
    let here : b1.calls h ≡ Busy id c x = ap (λ (f : ℕ → HartStanding). f h) (writes_calls (unless (lost_of m h) a) h b) ∙ is in
    let there : (g : ℕ) → g ≢ h → b2.calls g ≡ b.calls g = (λ g ne. tells_there a h g b1 ne ∙ ap (λ (f : ℕ → HartStanding). f g) (writes_calls (unless (lost_of m h) a) h b)) in
    let own = own_part version base m m' k.late n b h id c x a (record { events = refl; ok = later_ok version base m.tree k.late n (n + 1) b (omega arith) k.book }) is (k.lost h lt) d.way in
    let all = all_fallen version base m m' own.left n hart_count b2 own.mid (λ g l. elim (same_or g h) [
      | inl e ↦ subst (λ (z : ℕ). MayFall version m m' own.left b2 z) (sym e) own.may
      | inr e ↦ (may_fall version) Ok m m' own.left b2 g (b.calls g) (m.walk g) (calm g e) (there g e) refl (d.walks g e) (own.there g e ∙ k.lost g l) (k.harts g l) (λ v q. d.others g v l e q)
    ]) in
    let b3 : History = all_fall m m' hart_count b2 in
    let calls : (g : ℕ) → b3.calls g ≡ b2.calls g = (λ g. ap (λ (f : ℕ → HartStanding). f g) (falls_calls m m' hart_count b2)) in
    let mine : b3.calls h ≡ Busy id c (after a x) = calls h ∙ tells_here a h id c x b1 here in
    record {
      good = d.good;
      late = all.left;
      lost = all.below;
      book = finish_ok version base m'.tree all.left n b3 m' h id c (after a x) r all.mid mine (all.below h lt) may;
      harts = λ g l. elim (same_or g h) [
        | inl e ↦
            subst (λ (z : ℕ). OwnOk version Ok m'.tree z ((finishes r h b3).calls z) (m'.walk z)) (sym e)
            (subst (λ (z : HartStanding). OwnOk version Ok m'.tree h z (m'.walk h)) (sym (finish_here r b3 h ∙ ap (λ (z : HartStanding). finish_calls r z) mine)) (finish_own version Ok m' h id c (after a x) r ok d.own may))
        | inr e ↦
            subst (λ (z : Option Walk). OwnOk version Ok m'.tree g ((finishes r h b3).calls g) z) (sym (d.walks g e))
            (subst (λ (z : HartStanding). OwnOk version Ok m'.tree g z (m.walk g)) (sym (finish_there r b3 h g e ∙ (calls g ∙ there g e)))
            (own_after version Ok m m' g (b.calls g) (m.walk g) (calm g e) refl (k.harts g l) (λ v q. d.others g v l e q)))
      ];
    }

ok_of : (version : Version) (Ok : ℕ → Call → Type 0) (t : Tree) (g id : ℕ) (c : Call) (x : List Act) (s : HartStanding) (v : Option Walk) → s ≡ Busy id c x → OwnOk version Ok t g s v → Ok g c × WalkAt version t g c x v
ok_of version Ok t g id c x s v is o = subst (λ (z : HartStanding). OwnOk version Ok t g z v) is o

free_of : (version : Version) (Ok : ℕ → Call → Type 0) (t : Tree) (g : ℕ) (s : HartStanding) (v : Option Walk) → s ≡ Free → OwnOk version Ok t g s v → v ≡ None
free_of version Ok t g s v is o = subst (λ (z : HartStanding). OwnOk version Ok t g z v) is o

nothing_ok : (version : Version) (Ok : ℕ → Call → Type 0) (base : Tree) (w : World) → Inv version Ok base w → Inv version Ok base (record { stage = w.stage; history = passes w.history })
nothing_ok version Ok base w k = record {
  good = k.good;
  late = k.late;
  lost = k.lost;
  book = passes_ok version base w.stage.tree k.late w.history (later_ok version base w.stage.tree k.late w.history.trace.events (w.history.trace.events + 1) w.history (omega arith) k.book);
  harts = k.harts;
}

-- the start is one that the hart may make
abbrev pub MayStart : (ℕ → Call → Type 0) → Event → Type 0
MayStart Ok (Starts h c) = Ok h c
MayStart Ok (Steps h v r) = Unit {0}
MayStart Ok Nothing = Unit {0}

unfoldable pub AllMayStart : (ℕ → Call → Type 0) → List Event → Type 0
AllMayStart Ok [] = Unit {0}
AllMayStart Ok (e ∷ es) = MayStart Ok e × AllMayStart Ok es

pub happens_ok : (version : Version) (Ok : ℕ → Call → Type 0) (base : Tree) (w w' : World) (e : Event) → Apart Ok → MayStart Ok e → Inv version Ok base w → Happens version w e w' → Inv version Ok base w'
happens_ok version Ok base w w' Nothing apart start k o = subst (λ (z : World). Inv version Ok base z) (sym o) (nothing_ok version Ok base w k)
happens_ok version Ok base w w' (Starts h c) apart start k o = subst (λ (z : World). Inv version Ok base z) (sym o.world) (record {
  good = k.good;
  late = k.late;
  lost = k.lost;
  book = start_ok version base w.stage.tree k.late w.history h c k.book o.free (k.lost h o.hart ∙ ap (λ (z : Option Deed). lately z) (no_walk w.stage h rests));
  harts = λ g l. elim (same_or g h) [
    | inl q ↦
        subst (λ (z : ℕ). OwnOk version Ok w.stage.tree z (put w.history.calls h new z) (w.stage.walk z)) (sym q)
        (subst (λ (z : HartStanding). OwnOk version Ok w.stage.tree h z (w.stage.walk h)) (sym (put_same w.history.calls h new)) (start, subst (λ (z : Option Walk). WalkAt version w.stage.tree h c [] z) (sym rests) tt))
    | inr q ↦ subst (λ (z : HartStanding). OwnOk version Ok w.stage.tree g z (w.stage.walk g)) (sym (put_other w.history.calls h new g q)) (k.harts g l)
  ];
})
  where
    rests : w.stage.walk h ≡ None
    rests = free_of version Ok w.stage.tree h (w.history.calls h) (w.stage.walk h) o.free (k.harts h o.hart)

    new : HartStanding
    new = Busy (length w.history.trace.calls) c []
happens_ok version Ok base w w' (Steps h v r) apart start k o =
    let mine = ok_of version Ok w.stage.tree h o.id o.c o.acts (w.history.calls h) (w.stage.walk h) o.busy (k.harts h o.hart) in
    subst (λ (z : World). Inv version Ok base z) (sym o.world) (step_ok version Ok base w h o.id o.c o.acts o.told o.stage r apart o.hart k o.busy mine.0 (any_moved version w.stage o.stage h o.c o.acts v o.told k.good mine.1 o.next o.plays) o.reply)

pub run_ok : (version : Version) (Ok : ℕ → Call → Type 0) (base : Tree) (w w' : World) (es : List Event) → Apart Ok → AllMayStart Ok es → Inv version Ok base w → Runs version w es w' → Inv version Ok base w'
unfolding Runs AllMayStart
run_ok version Ok base w w' [] apart start k r = subst (λ (z : World). Inv version Ok base z) r k
run_ok version Ok base w w' (e ∷ es) apart start k r = run_ok version Ok base r.0 w' es apart start.1 (happens_ok version Ok base w r.0 e apart start.0 k r.1) r.2

-- the beginning
pub opened_ok : (version : Version) (Ok : ℕ → Call → Type 0) (t : Tree) → IsWellFormed t → Inv version Ok t (opened t)
unfolding AllBelow ChainBy Rises AllBelong
opened_ok version Ok t k = record {
  good = k;
  late = λ g. [];
  lost = λ g l. refl;
  book = record {
    rises = tt;
    below = tt;
    chain = refl;
    busy = λ h id c x q. absurd cc;
    told = λ id s q. absurd cc;
    early = λ id s q. absurd cc;
    belongs = tt;
  };
  harts = λ g l. refl;
}

-- The trace that the history has is that of the events.

finish_trace : (r : Option Reply) (b : History) (h : ℕ) (v : Option Move) → (finishes r h b).trace ≡ noted b.trace (shown_of (Steps h v r))
finish_trace None b h v = refl
finish_trace (Some r) b h v = refl

pub happens_trace : (version : Version) (w w' : World) (e : Event) → Happens version w e w' → w'.history.trace ≡ noted w.history.trace (shown_of e)
happens_trace version w w' Nothing o = ap (λ (z : World). z.history.trace) o
happens_trace version w w' (Starts h c) o = ap (λ (z : World). z.history.trace) o.world
happens_trace version w w' (Steps h v r) o =
    ap (λ (z : World). z.history.trace) o.world
    ∙ (finish_trace r (moves_on w.stage o.stage h o.told w.history) h v ∙ ap (λ (z : Trace). noted z (shown_of (Steps h v r))) (moves_trace w.stage o.stage h o.told w.history))

pub run_trace : (version : Version) (w w' : World) (es : List Event) → Runs version w es w' → w'.history.trace ≡ trace_from w.history.trace (map shown_of es)
unfolding Runs trace_from
run_trace version w w' [] r = sym (ap (λ (z : World). z.history.trace) r)
run_trace version w w' (e ∷ es) r = run_trace version r.0 w' es r.2 ∙ ap (λ (z : Trace). trace_from z (map shown_of es)) (happens_trace version w r.0 e r.1)

pub run_explained : (version : Version) (Ok : ℕ → Call → Type 0) (base : TreeData) (w : World) (es : List Event) → Apart Ok → AllMayStart Ok es → IsWellFormed (tree_of base) → Runs version (opened (tree_of base)) es w → Explains version base (trace_of (map shown_of es)) w.history.list
run_explained version Ok base w es apart start k r =
    let e = run_ok version Ok (tree_of base) (opened (tree_of base)) w es apart start (opened_ok version Ok (tree_of base) k) r in
    subst (λ (z : Trace). Explains version base z w.history.list) (run_trace version (opened (tree_of base)) w es r) (explained version base w.stage.tree e.late w.history e.book)

-- no call climbs
abbrev pub NeverClimbs : ℕ → Call → Type 0
NeverClimbs h c = call_climbs c ≡ false

start_calm : (e : Event) → climbing e ≡ false → MayStart NeverClimbs e
start_calm (Starts h c) k = k
start_calm (Steps h v r) k = tt
start_calm Nothing k = tt

pub starts_calm : (es : List Event) → NoneClimbs es → AllMayStart NeverClimbs es
unfolding NoneClimbs AllMayStart
starts_calm [] k = tt
starts_calm (e ∷ es) k = (start_calm e k.0, starts_calm es k.1)

pub apart_calm : Apart NeverClimbs
apart_calm h g c c' ne a b = b

-- one hart alone makes calls
abbrev pub IsHart : ℕ → ℕ → Call → Type 0
IsHart k h c = h ≡ k

pub start_alone : (k : ℕ) (e : Event) → IsStartBy k e → MayStart (IsHart k) e
start_alone k (Starts h c) a = a
start_alone k (Steps h v r) a = tt
start_alone k Nothing a = tt

pub starts_alone : (k : ℕ) (es : List Event) → Alone k es → AllMayStart (IsHart k) es
unfolding Alone AllMayStart
starts_alone k [] a = tt
starts_alone k (e ∷ es) a = (start_alone k e a.0, starts_alone k es a.1)

pub apart_alone : (k : ℕ) → Apart (IsHart k)
apart_alone k h g c c' ne a b = absurd (ne (b ∙ sym a))
