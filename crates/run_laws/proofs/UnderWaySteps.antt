-- An event of a run of the calls on blocks, with what is under way in each hart's call: it goes on as its operations act.
use Rattle.run_laws.proofs.Vocabulary.{◌≡◌, ℕ, Bool, true, false, Option, Some, None, List, [], ◌∷◌, refl, sym, ◌∙◌, ap, subst, inl, inr, Super, Reply, Call, Prog, Ret, Do, bind, ExecResult, Waits, Ran, Stops, Machine, own, own_one, onto, placed_with, Good, Grown, Wp, Theory, Began, Refuses, Begins, Begun, Ends, Lawful, Run, State, EventOf as Event, Start, Step, Made, WasIdle, WasStopped, WasRefused as Refused, begun, busy_in, is_called, changed, start_run, makes, next, tried, unchanged, asks, OfNext, HonestStep, IsHonest, act_places, Handover, lowered, Outside, AnswerBelow, HasInodes, Carry, handlers, layer, machine, Mark, program, nothing, block_calls, block_moves, lowered_inode_calls, whole_inodes, IsAtEnd, IsFaithful, IsOperation, Notes, AreOf, EventDoes, InFirst, LeadTo, UnderWay, at_beginning, none_ran, time_of}
use Rattle.fs_machine.specs.Steps as steps
use Rattle.inode_machine.specs.Kept as kept
use Rattle.inode_machine.specs.World as above
use Rattle.inodes_on_blocks.specs.Handlers.{Acts, P}
use Rattle.inodes_on_blocks.specs.Shown.{Shows}
use Rattle.atomic_programs.proofs.Explains as explained
use Rattle.run_laws.specs.Searches.{AnsweredStep}
use Rattle.run_laws.proofs.ActedSo.{none_is}
use Rattle.run_laws.proofs.Faithful.{faithful_shorter}
use Rattle.run_laws.proofs.FaithfulCalls.{telling}
use Rattle.run_laws.proofs.LockActs.{ActsAtOnce, W, acts_at_once}
use Rattle.run_laws.proofs.MadeBy.{idle_is, idle_places, stopped_is, stopped_places, tried_is, tried_places}
use Rattle.run_laws.proofs.ProgramsBegin.{program_begins}
use Rattle.run_laws.proofs.SameRuns.{both_same}
use Rattle.run_laws.proofs.Times.{MarkedSo}
use Rattle.run_laws.proofs.Turning.{InCall, ReadsOn, begins_in, turned}
use Rattle.run_laws.proofs.UnderWay.{Beside, InCalls, Steps, changed_beside, step_ran}

-- before its first step all of a program is left
all_left : {A : Type 0} (p : P A) (es : List AnsweredStep) (q : P A) → none_ran es ≡ true → LeadTo p es q → p ≡ q
all_left p [] q f t = t
all_left p (e ∷ es) q f t = absurd (let x : false ≡ true = f in cc)

module _ (sizes : Super) where
  abbrev L : Theory
  L = block_calls sizes

  abbrev J : Machine
  J = (lowered_inode_calls sizes).M

  abbrev O : Theory
  O = telling (lowered_inode_calls sizes) (AreOf sizes)

  module _ (lawful : Lawful (telling (lowered_inode_calls sizes) (AreOf sizes))) (inodes : HasInodes sizes) (base : (telling (lowered_inode_calls sizes) (AreOf sizes)).M.Tree) where
    -- ---- what is noted of a step that ran

    -- this is noted of it, and the blocks show the world above before it and after
    record Heard (h : ℕ) (call : Call) (done : Notes (lowered_inode_calls sizes).M) (op : steps.Op) (m : AnswerBelow op → Option Acts) (b : AnswerBelow op) (v w : W) : Type 0 where
      before : Shows v.real.blocks v.seen
      after : Shows w.real.blocks w.seen
      told : AreOf sizes call None (onto done (record { ran = (op, b); made = own h (act_places (whole_inodes sizes.version) h (m b) v.seen) } ∷ []))

    heard : (h : ℕ) (x : Outside) (t : State O) (q : Run O) (op : steps.Op) (m : AnswerBelow op → Option Acts) (k : AnswerBelow op → P (Option Reply)) (b : AnswerBelow op) (w : W) → explained.Keeps O base t → t.running h ≡ Some q → t.stopped ≡ false → q.prog ≡ Do op m k → IsHonest O (Step h x) t
        → O.M.go h x op m t.world ≡ Ran b w → Heard h q.call q.done op m b t.world w
    heard h x t q op m k b w keeps is off asks_it honest came =
        let g = keeps.going h q is in
        let wp : Wp O.M h (Begun O q.call) (Ends O h q.call) (Do op m k) g.left q.done t.world = subst (λ (p : P (Option Reply)). Wp O.M h (Begun O q.call) (Ends O h q.call) p g.left q.done t.world) asks_it (g.wp off) in
        let inv = explained.inv_of O t.stopped t.world keeps.holds off in
        let said : O.M.Honest h op t.world x =
        subst (λ (p : P (Option Reply)). OfNext (λ o v. O.M.Honest h o v x) (asks p) t.world) asks_it
        (subst (λ (o : Option (Run O)). HonestStep O h x t.world false o) is (subst (λ (z : Bool). HonestStep O h x t.world z (t.running h)) off honest)) in
        let good = (wp t.world [] (lawful.laws.same h t.world) inv).2 x said in
        let fine = subst (λ (d : ExecResult (AnswerBelow op) W). Good O.M (AnswerBelow op) h (placed_with O.M h op m t.world) (O.M.more op) g.left (Begun O q.call) q.done t.world (O.M.MayWait h op t.world) d (λ l a u. Wp O.M h (Begun O q.call) (Ends O h q.call) (k a) l (onto (own h (O.M.places h op a (m a) t.world)) q.done) u)) came good in
        record { before = inv.0.0; after = fine.inv.0.0; told = at (fine.begun tt) }
      where
        note : O.M.Step
        note = record { ran = (op, b); made = own h (act_places (whole_inodes sizes.version) h (m b) t.world.seen) }

        at : Grown (Begun O q.call) (own h ((h, note) ∷ [])) q.done → AreOf sizes q.call None (onto q.done (note ∷ []))
        at (inl e) = absurd (none_is note [] (sym (own_one h note) ∙ e))
        at (inr e) =
            let n : Begun O q.call (note ∷ q.done) = subst (λ (zs : List O.M.Step). Begun O q.call (onto zs q.done)) (own_one h note) e in
            faithful_shorter (whole_inodes sizes.version) (layer sizes) (handlers sizes) IsOperation n.1 nothing (program sizes.version q.call)
            (onto q.done (note ∷ [])) n.0 n.2

    -- ---- a step

    module _ (h : ℕ) (x : Outside) (s : State (block_calls sizes)) (t : State (telling (lowered_inode_calls sizes) (AreOf sizes))) (under : ℕ → Option UnderWay) (beside : Beside sizes s t under) (keeps : explained.Keeps (telling (lowered_inode_calls sizes) (AreOf sizes)) base t)
        (honest : IsHonest (telling (lowered_inode_calls sizes) (AreOf sizes)) (Step h x) t) where
      abbrev Does : Made (block_calls sizes) → Made (telling (lowered_inode_calls sizes) (AreOf sizes)) → Type 0
      Does m n = Steps sizes h x s t under beside m n

      both_are : (m m' : Made L) (n n' : Made O) → m ≡ m' → n ≡ n' → Does m' n' → Does m n
      both_are m m' n n' e f d = subst (λ (a : Made L). Does a n) (sym e) (subst (λ (c : Made O). Does m' c) (sym f) d)

      same_still : Beside sizes (unchanged L s) (unchanged O t) under
      same_still = record { world = beside.world; stopped = beside.stopped; calls = beside.calls }

      module _ (r : Run (block_calls sizes)) (q : Run (telling (lowered_inode_calls sizes) (AreOf sizes))) (u : UnderWay) (a : s.running h ≡ Some r) (c : t.running h ≡ Some q) (is : under h ≡ Some u) (in_ : InCall sizes q.call q.done r.prog q.prog u) (off : s.stopped ≡ false) where
        by_step : (op : steps.Op) (m : AnswerBelow op → Option Acts) (k : AnswerBelow op → P (Handover (above.Answer u.op) Carry)) → u.left ≡ Do op m k → Does (makes L (Step h x) s) (makes O (Step h x) t)
        by_step op m k e = by (L.M.go h x op m s.world) refl
          where
            here : Handover (above.Answer u.op) Carry → P Reply
            here z = lowered (machine sizes.version) (layer sizes) (handlers sizes) z.carry (u.rest z.answer)

            there : Handover (above.Answer u.op) Carry → P Reply
            there z = lowered (whole_inodes sizes.version) (layer sizes) (handlers sizes) z.carry (u.rest z.answer)

            some : Reply → P (Option Reply)
            some y = Ret (Some y)

            asks_here : r.prog ≡ Do op m (λ y. bind (k y) here)
            asks_here = in_.is_in.is ∙ ap (λ (z : P (Handover (above.Answer u.op) Carry)). bind z here) e

            asks_there : q.prog ≡ Do op m (λ y. bind (bind (k y) there) some)
            asks_there = in_.also ∙ ap (λ (z : P (Handover (above.Answer u.op) Carry)). bind (bind z there) some) e

            came_there : (d : ExecResult (AnswerBelow op) W) → L.M.go h x op m s.world ≡ d → O.M.go h x op m s.world ≡ d
            came_there d came = both_same sizes.version h m s.world.seen ((layer sizes).exec h x op s.world.real) ∙ came

            both_tried : (d : ExecResult (AnswerBelow op) W) → L.M.go h x op m s.world ≡ d
                → Does (tried L h s r op (λ y. L.M.places h op y (m y) s.world) (λ y. bind (k y) here) d) (tried O h t q op (λ y. O.M.places h op y (m y) s.world) (λ y. bind (bind (k y) there) some) d)
                → Does (makes L (Step h x) s) (makes O (Step h x) t)
            both_tried d came does =
                both_are (makes L (Step h x) s) (tried L h s r op (λ y. L.M.places h op y (m y) s.world) (λ y. bind (k y) here) d) (makes O (Step h x) t) (tried O h t q op (λ y. O.M.places h op y (m y) s.world) (λ y. bind (bind (k y) there) some) d)
                (tried_is L h s x r op m (λ y. bind (k y) here) s.world d a off asks_here refl came)
                (tried_is O h t x q op m (λ y. bind (bind (k y) there) some) s.world d c (beside.stopped ∙ off) asks_there beside.world (came_there d came)) does

            places : (d : ExecResult (AnswerBelow op) W) → L.M.go h x op m s.world ≡ d → kept.placed sizes.version (block_moves sizes) (Step h x) s ≡ kept.placed_tried (block_moves sizes) (λ y. act_places (machine sizes.version) h (m y) s.world.seen) d
            places d came = tried_places sizes.version (block_moves sizes) h x s r op m (λ y. bind (k y) here) d a off asks_here came

            at_first_step : time_of u.op ≡ InFirst → none_ran u.ran ≡ true → ActsAtOnce sizes h s.world (Do op m k)
            at_first_step i f =
                subst (λ (z : P (Handover (above.Answer u.op) Carry)). ActsAtOnce sizes h s.world z) (all_left (handlers sizes u.hand u.op u.mark) u.ran u.left f in_.is_in.leads ∙ e) (acts_at_once sizes h s.world u.op u.hand u.mark i)

            by : (d : ExecResult (AnswerBelow op) W) → L.M.go h x op m s.world ≡ d → Does (makes L (Step h x) s) (makes O (Step h x) t)
            by Waits came = both_tried Waits came (under, (refl, places Waits came), same_still)
            by (Stops w) came = both_tried (Stops w) came (under, (refl, places (Stops w) came), record { world = refl; stopped = refl; calls = beside.calls })
            by (Ran b w) came =
                let heard_t = heard h x t q op m (λ y. bind (bind (k y) there) some) b w keeps c (beside.stopped ∙ off) asks_there honest (ap (λ (z : W). O.M.go h x op m z) beside.world ∙ came_there (Ran b w) came) in
                let n : Heard h q.call q.done op m b s.world w = subst (λ (z : W). Heard h q.call q.done op m b z w) beside.world heard_t in
                both_tried (Ran b w) came
                (step_ran sizes h x s t under beside inodes r q u is in_ op m k e b w came (places (Ran b w) came)
                (turned sizes h x q.call q.done u op m k b s.world w came n.before n.after n.told (subst (MarkedSo (time_of u.op) (none_ran u.ran)) e in_.marked) at_first_step u.acted in_.is_in.acted
                (λ reply rest z. subst (λ (y : P (Handover (above.Answer u.op) Carry)). ReadsOn sizes reply u u.acted y rest) e (in_.reads reply rest z))))

        by_left : (left : P (Handover (above.Answer u.op) Carry)) → u.left ≡ left → Does (makes L (Step h x) s) (makes O (Step h x) t)
        by_left (Ret z) e = absurd (in_.is_in.goes_on (subst (λ (y : P (Handover (above.Answer u.op) Carry)). IsAtEnd y) (sym e) tt))
        by_left (Do op m k) e = by_step op m k e

      by_call : (r : Option (Run (block_calls sizes))) (q : Option (Run (telling (lowered_inode_calls sizes) (AreOf sizes)))) (u : Option UnderWay) → s.running h ≡ r → t.running h ≡ q → under h ≡ u → InCalls sizes r q u → Does (makes L (Step h x) s) (makes O (Step h x) t)
      by_call None None None a c is in_ =
          both_are (makes L (Step h x) s) (record { came = WasIdle; after = unchanged L s }) (makes O (Step h x) t) (record { came = WasIdle; after = unchanged O t }) (idle_is L h s x a) (idle_is O h t x c)
          (under, (refl, idle_places sizes.version (block_moves sizes) h x s a), same_still)
      by_call (Some r) (Some q) (Some u) a c is in_ = by s.stopped refl
        where
          by : (b : Bool) → s.stopped ≡ b → Does (makes L (Step h x) s) (makes O (Step h x) t)
          by true on =
              both_are (makes L (Step h x) s) (record { came = WasStopped; after = unchanged L s }) (makes O (Step h x) t) (record { came = WasStopped; after = unchanged O t }) (stopped_is L h s x r a on) (stopped_is O h t x q c (beside.stopped ∙ on))
              (under, (refl, stopped_places sizes.version (block_moves sizes) h x s r a on), same_still)
          by false off = by_left r q u a c is in_ off u.left refl
      by_call None None (Some u) a c is in_ = absurd in_
      by_call None (Some q) u a c is in_ = absurd in_
      by_call (Some r) None u a c is in_ = absurd in_
      by_call (Some r) (Some q) None a c is in_ = absurd in_

      pub step_goes : Does (makes L (Step h x) s) (makes O (Step h x) t)
      step_goes = by_call (s.running h) (t.running h) (under h) refl refl refl (beside.calls h)

    -- ---- a start

    module _ (h : ℕ) (call : Call) (s : State (block_calls sizes)) (t : State (telling (lowered_inode_calls sizes) (AreOf sizes))) (under : ℕ → Option UnderWay) (beside : Beside sizes s t under) where
      abbrev Did : Made (block_calls sizes) → Made (telling (lowered_inode_calls sizes) (AreOf sizes)) → Type 0
      Did m n = (now : ℕ → Option UnderWay) × EventDoes sizes (Start h call) s m under now × Beside sizes m.after n.after now

      both_did : (m m' : Made L) (n n' : Made O) → m ≡ m' → n ≡ n' → Did m' n' → Did m n
      both_did m m' n n' e f d = subst (λ (a : Made L). Did a n) (sym e) (subst (λ (c : Made O). Did m' c) (sym f) d)

      still : Beside sizes (unchanged L s) (unchanged O t) under
      still = record { world = beside.world; stopped = beside.stopped; calls = beside.calls }

      -- the same harts have calls
      busy_same : busy_in O t ≡ busy_in L s
      busy_same = λ i j. at (s.running j) (t.running j) (under j) (beside.calls j) i
        where
          at : (r : Option (Run L)) (q : Option (Run O)) (u : Option UnderWay) → InCalls sizes r q u → is_called q ≡ is_called r
          at None None None i = refl
          at (Some r) (Some q) (Some u) i = refl
          at None None (Some u) i = absurd i
          at None (Some q) u i = absurd i
          at (Some r) None u i = absurd i
          at (Some r) (Some q) None i = absurd i

      -- the call's program is at its first operation
      call_begins : (p : Prog above.Op above.Answer Mark Reply) → program sizes.version call ≡ p → (n n' : ℕ)
          → InCalls sizes
          (Some (record { call = call; start = n; prog = lowered (machine sizes.version) (layer sizes) (handlers sizes) nothing p; count = 0; done = [] }))
          (Some (record { call = call; start = n'; prog = bind (lowered (whole_inodes sizes.version) (layer sizes) (handlers sizes) nothing p) (λ a. Ret (Some a)); count = 0; done = [] })) (at_beginning sizes nothing p)
      call_begins (Ret reply) e n n' = absurd (program_begins sizes.version call (subst (λ (y : Prog above.Op above.Answer Mark Reply). IsAtEnd y) (sym e) tt))
      call_begins (Do op m k) e n n' =
          begins_in sizes inodes call [] nothing op m k
          (λ r rest z. subst (λ (y : Prog above.Op above.Answer Mark Reply). IsFaithful (whole_inodes sizes.version) (layer sizes)
          (handlers sizes) IsOperation r nothing y rest) e z)

      by_start : (d : Began L.Refusal W) → Did (begun L h call s d) (begun O h call t d)
      by_start (Refuses why) = (under, refl, still)
      by_start (Begins w) = (
        changed under h (at_beginning sizes nothing (program sizes.version call)),
        refl,
        record {
          world = refl;
          stopped = beside.stopped;
          calls = λ j. changed_beside sizes h s.running t.running under (Some _) (Some _) (at_beginning sizes nothing (program sizes.version call)) (λ i ne. beside.calls i) (call_begins (program sizes.version call) refl s.now t.now) j;
        },
      )

      by_hart : (r : Option (Run (block_calls sizes))) (q : Option (Run (telling (lowered_inode_calls sizes) (AreOf sizes)))) (u : Option UnderWay) → s.running h ≡ r → t.running h ≡ q → InCalls sizes r q u → Did (makes L (Start h call) s) (makes O (Start h call) t)
      by_hart None None None a c i =
          both_did (makes L (Start h call) s) (begun L h call s (L.start h call (busy_in L s) s.world)) (makes O (Start h call) t) (begun O h call t (L.start h call (busy_in L s) s.world)) (ap (λ (o : Option (Run L)). start_run L h call s o) a)
          (ap (λ (o : Option (Run O)). start_run O h call t o) c ∙ (λ j. begun O h call t (L.start h call (busy_same j) (beside.world j)))) (by_start (L.start h call (busy_in L s) s.world))
      by_hart (Some r) (Some q) (Some u) a c i =
          both_did (makes L (Start h call) s) (record { came = Refused L.busy; after = unchanged L s }) (makes O (Start h call) t) (record { came = Refused L.busy; after = unchanged O t }) (ap (λ (o : Option (Run L)). start_run L h call s o) a)
          (ap (λ (o : Option (Run O)). start_run O h call t o) c) (under, refl, still)
      by_hart None None (Some u) a c i = absurd i
      by_hart None (Some q) u a c i = absurd i
      by_hart (Some r) None u a c i = absurd i
      by_hart (Some r) (Some q) None a c i = absurd i

      pub start_goes : Did (makes L (Start h call) s) (makes O (Start h call) t)
      start_goes = by_hart (s.running h) (t.running h) (under h) refl refl (beside.calls h)

    -- ---- an event

    pub event_goes : (e : Event Call Outside) (s : State (block_calls sizes)) (t : State (telling (lowered_inode_calls sizes) (AreOf sizes))) (under : ℕ → Option UnderWay) → Beside sizes s t under → explained.Keeps (telling (lowered_inode_calls sizes) (AreOf sizes)) base t
        → IsHonest (telling (lowered_inode_calls sizes) (AreOf sizes)) e t → (now : ℕ → Option UnderWay) × EventDoes sizes e s (makes L e s) under now × Beside sizes (next L e s) (next O e t) now
    event_goes (Start h call) s t under beside keeps honest = start_goes h call s t under beside
    event_goes (Step h x) s t under beside keeps honest = step_goes h x s t under beside keeps honest
