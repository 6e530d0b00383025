-- Over any list of events the replies are explained by the list of steps that the run has made.
use Rattle.atomic_programs.proofs.Vocabulary.{◌≡◌, ◌≢◌, ℕ, suc, ◌<◌, ◌≤◌, ◌+◌, Option, Some, None, Bool, true, false, List, [], ◌∷◌, refl, sym, ◌∙◌, ap, subst, arith, ◌⊎◌, inl, inr, eqb-true, eqb-false, eq-eqb, ne_eqb, nat_eq, if◌then◌else◌, Ret, Do, ExecResult, Waits, Ran, Stops, asks, OfNext, Machine, P, OpWithAnswer, own, onto, oldest_first, Goes, Grown, Halts, Good, Wp, Theory, Began, Refuses, Begins, IsBeginning, Begun, Ends, Right, Lawful, Run, PlacedStep, FinishedCall, State, Event, Start, Step, DidWait, changed, is_some, start_of, placed, told, all_told, unchanged, moved, tried, step_prog, step_unless, step_run, begun, busy_in, start_run, makes, next, run, fresh, HonestStep, IsHonest, AllHonest, Sound, In, steps_of, IsOfCall, IsBlocked, Holds, IsExplained}
use Rattle.atomic_programs.proofs.Sound.{Wp-others, Grown-all}
use Rattle.atomic_programs.proofs.History.{Chained, Falling, chain_turned, rising_turned, steps_turned, in_history, In-own, steps_of-placed, steps_of-other, steps_of-none, New, In-placed, Falling-more, Falling-placed, Chained-placed, below_of}

pub changed_tells : {A : Type 0} (f : ℕ → A) (h : ℕ) (x : A) (k : ℕ) (y : A) → changed f h x k ≡ y → ((k ≡ h) × (x ≡ y)) ⊎ ((k ≢ h) × (f k ≡ y))
changed_tells {A} f h x k y = go (nat_eq k h) refl
  where
    go : (b : Bool) → nat_eq k h ≡ b → (if b then x else f k) ≡ y → ((k ≡ h) × (x ≡ y)) ⊎ ((k ≢ h) × (f k ≡ y))
    go true t e = inl (eqb-true k h t, e)
    go false t e = inr (eqb-false k h t, e)

pub changed_same : {A : Type 0} (f : ℕ → A) (h : ℕ) (x : A) (k : ℕ) → k ≡ h → changed f h x k ≡ x
changed_same f h x k e = rw (eq-eqb k h e) refl

pub changed_other : {A : Type 0} (f : ℕ → A) (h : ℕ) (x : A) (k : ℕ) → k ≢ h → changed f h x k ≡ f k
changed_other f h x k ne = rw (ne_eqb k h ne) refl

pub Some-inj : {A : Type 0} (x y : A) → Some x ≡ Some y → x ≡ y
Some-inj x y e = cc

-- a call under way is as it should be
pub record Going (L : Theory) (h : ℕ) (r : Run L) (stopped : Bool) (w : L.M.World) (list : List (PlacedStep L)) (finished : List (FinishedCall L)) (now : ℕ) : Type 0 where
  pub left : ℕ
  pub bounded : r.count + left ≤ L.limit r.call
  pub wp : stopped ≡ false → Wp L.M h (Begun L r.call) (Ends L h r.call) r.prog left r.done w
  pub first : L.M.Clean w → Begun L r.call r.done
  pub done_is : r.done ≡ steps_of L r.start list
  pub begun : r.start < now
  pub after : (e : PlacedStep L) → In e list → e.call ≡ r.start → r.start < e.number
  pub apart : (f : FinishedCall L) → In f finished → f.start ≢ r.start

pub record Over (L : Theory) (f : FinishedCall L) (world : L.M.World) (list : List (PlacedStep L)) (now : ℕ) : Type 0 where
  pub whole : L.M.Clean world → L.Written f.call (oldest_first (steps_of L f.start list)) f.reply
  pub begun : f.start < now
  pub ended : f.number < now
  pub within : (e : PlacedStep L) → In e list → e.call ≡ f.start → (f.start < e.number) × (e.number ≤ f.number)
  pub bounded : f.count ≤ L.limit f.call

pub record Keeps (L : Theory) (base : L.M.Tree) (s : State L) : Type 0 where
  pub holds : Holds L s.stopped s.world
  pub falling : Falling L s.list s.now
  pub chained : L.M.Clean s.world → Chained L base s.list (L.M.tree s.world)
  pub owned : (e : PlacedStep L) → In e s.list → IsOfCall L s e
  pub idle : (h : ℕ) → s.running h ≡ None → L.M.Idle h s.world
  pub going : (h : ℕ) (r : Run L) → s.running h ≡ Some r → Going L h r s.stopped s.world s.list s.finished s.now
  pub lone : (h k : ℕ) (r q : Run L) → s.running h ≡ Some r → s.running k ≡ Some q → r.start ≡ q.start → h ≡ k
  pub over : (f : FinishedCall L) → In f s.finished → Over L f s.world s.list s.now

pub inv_of : (L : Theory) (b : Bool) (w : L.M.World) → Holds L b w → b ≡ false → L.M.Inv w
inv_of L true w h e = cc
inv_of L false w h e = h

pub holds_of : (L : Theory) (b : Bool) (w : L.M.World) → Holds L b w → L.M.Inv w ⊎ L.M.Halted w
holds_of L true w h = inr h
holds_of L false w h = inl h

-- each entry's call began before now
pub known : (L : Theory) (base : L.M.Tree) (s : State L) → Keeps L base s → (e : PlacedStep L) → In e s.list → e.call < s.now
known L base s k e i = at (k.owned e i)
  where
    at : IsOfCall L s e → e.call < s.now
    at (inl x) = let a : (x.0).start < s.now = (k.over x.0 x.1).begun in let b : (x.0).start ≡ e.call = x.3 in omega arith
    at (inr x) = let a : (x.0).start < s.now = (k.going e.hart x.0 x.1).begun in let b : (x.0).start ≡ e.call = x.2 in omega arith

pub Going-waited : (L : Theory) (h : ℕ) (r : Run L) (b : Bool) (w : L.M.World) (list : List (PlacedStep L)) (fs : List (FinishedCall L)) (n : ℕ) → Going L h r b w list fs n → Going L h r b w list fs (suc n)
Going-waited L h r b w list fs n g =
    record { left = g.left; bounded = g.bounded; wp = g.wp; first = g.first; done_is = g.done_is; begun = omega (arith, g.begun); after = g.after; apart = g.apart }

pub Over-waited : (L : Theory) (f : FinishedCall L) (v w : L.M.World) (list : List (PlacedStep L)) (n : ℕ) → (L.M.Clean w → L.M.Clean v) → Over L f v list n → Over L f w list (suc n)
Over-waited L f v w list n clean o =
    record { whole = λ y. o.whole (clean y); begun = omega (arith, o.begun); ended = omega (arith, o.ended); within = o.within; bounded = o.bounded }

pub Keeps-unchanged : (L : Theory) (base : L.M.Tree) (s : State L) → Keeps L base s → Keeps L base (unchanged L s)
Keeps-unchanged L base s k =
    record {
      holds = k.holds;
      falling = Falling-more L s.list s.now k.falling;
      chained = k.chained;
      owned = k.owned;
      idle = k.idle;
      going = λ h r q. Going-waited L h r s.stopped s.world s.list s.finished s.now (k.going h r q);
      lone = k.lone;
      over = λ f i. Over-waited L f s.world s.world s.list s.now (λ y. y) (k.over f i);
    }

-- Ends lasts while the others place nothing
pub ends_last : (L : Theory) (laws : Lawful L) (j : ℕ) (call : L.Call) (a : L.Reply) (es xs : List L.M.Step) (x y : L.M.World) → L.M.Others j x xs y → Ends L j call a es x → Ends L j call a (onto xs es) y
ends_last L laws j call a es xs x y o e = (
  λ z. subst (λ (zs : List L.M.Step). L.Written call (oldest_first (onto zs es)) a) (sym (laws.laws.idle_none j x y xs o e.1)) (e.0 (laws.laws.clean_before j x y xs o z)),
  laws.laws.idle_stays j x y xs o e.1,
)

-- what others place for a call is a beginning of its sequence still
pub grown_of : (L : Machine) {A : Type 0} (h : ℕ) (p : P L A) (B : List L.Step → Type 0) (Q : A → List L.Step → L.World → Type 0) (n : ℕ) (es xs : List L.Step) (w v : L.World)
    → ((a : A) → Q a es w → xs ≡ []) → L.Others h w xs v → L.Inv v → Wp L h B Q p n es w → L.Clean v → Grown B xs es
grown_of L h (Ret a) B Q n es xs w v none o i g y = inl (none a g)
grown_of L h (Do op m k) B Q n es xs w v none o i g y = (g v xs o i).0 y

pub is_some-false : {A : Type 0} (x : Option A) → is_some x ≡ false → x ≡ None
is_some-false None e = refl
is_some-false (Some a) e = cc

module _ (L : Theory) (laws : Lawful L) (base : L.M.Tree) (h : ℕ) (call : L.Call) (s : State L) (u : L.M.World) (none : s.running h ≡ None) (k : Keeps L base s) (ok : Right L h call (busy_in L s) s.world u) where
  abbrev new_run : Run L
  new_run = record { call = call; start = s.now; prog = L.program call; count = 0; done = [] }

  abbrev after_start : State L
  after_start = (begun L h call s (Begins u)).after

  start_holds : (b : Bool) → Holds L b s.world → Holds L b u
  start_holds true x = ok.halted x
  start_holds false x = ok.inv x

  start_first : Going L h new_run s.stopped u s.list s.finished (suc s.now)
  start_first =
      record {
        left = L.limit call;
        bounded = omega arith;
        wp = λ q. ok.runs (ok.inv (inv_of L s.stopped s.world k.holds q));
        first = ok.none;
        done_is = sym (steps_of-none L s.now s.list (known L base s k));
        begun = omega arith;
        after = λ e i q. absurd (let b : e.call < s.now = known L base s k e i in omega arith);
        apart = λ f i q. absurd (let b : f.start < s.now = (k.over f i).begun in omega arith);
      }

  start_others : (j : ℕ) (q : Run L) → j ≢ h → s.running j ≡ Some q → Going L j q s.stopped u s.list s.finished (suc s.now)
  start_others j q ne run =
      let g = k.going j q run in
      let o = ok.kept j ne (ap is_some run) in
      record {
        left = g.left;
        bounded = g.bounded;
        wp = λ x. Wp-others L.M laws.laws j q.prog (Begun L q.call) (Ends L j q.call) g.left q.done [] s.world u (λ a e. ends_last L laws j q.call a q.done [] s.world u o e) o (g.wp x);
        first = λ y. g.first (ok.clean y);
        done_is = g.done_is;
        begun = omega (arith, g.begun);
        after = g.after;
        apart = g.apart;
      }

  start_idle : (j : ℕ) → ((j ≡ h) × (Some new_run ≡ None)) ⊎ ((j ≢ h) × (s.running j ≡ None)) → L.M.Idle j u
  start_idle j (inl p) = let q : Some new_run ≡ None = p.1 in cc
  start_idle j (inr p) = ok.rests j p.0 (ap is_some p.1)

  start_going : (j : ℕ) (r : Run L) → ((j ≡ h) × (Some new_run ≡ Some r)) ⊎ ((j ≢ h) × (s.running j ≡ Some r)) → Going L j r s.stopped u s.list s.finished (suc s.now)
  start_going j r (inl p) =
      subst (λ (x : ℕ). Going L x r s.stopped u s.list s.finished (suc s.now)) (sym p.0) (subst (λ (x : Run L). Going L h x s.stopped u s.list s.finished (suc s.now)) (Some-inj new_run r p.1) start_first)
  start_going j r (inr p) = start_others j r p.0 p.1

  start_lone : (i j : ℕ) (r q : Run L) → ((i ≡ h) × (Some new_run ≡ Some r)) ⊎ ((i ≢ h) × (s.running i ≡ Some r)) → ((j ≡ h) × (Some new_run ≡ Some q)) ⊎ ((j ≢ h) × (s.running j ≡ Some q)) → r.start ≡ q.start → i ≡ j
  start_lone i j r q (inl a) (inl b) eq = a.0 ∙ sym b.0
  start_lone i j r q (inl a) (inr b) eq =
      let x : s.now ≡ r.start = ap (λ (u : Run L). u.start) (Some-inj new_run r a.1) in
      let y : q.start < s.now = (k.going j q b.1).begun in
      absurd (omega arith)
  start_lone i j r q (inr a) (inl b) eq =
      let x : s.now ≡ q.start = ap (λ (u : Run L). u.start) (Some-inj new_run q b.1) in
      let y : r.start < s.now = (k.going i r a.1).begun in
      absurd (omega arith)
  start_lone i j r q (inr a) (inr b) eq = k.lone i j r q a.1 b.1 eq

  -- the hart had no call, so no entry is of a call of its that is under way
  start_owned : (e : PlacedStep L) → IsOfCall L s e → IsOfCall L after_start e
  start_owned e (inl x) = inl x
  start_owned e (inr x) = inr (x.0, at (nat_eq e.hart h) refl, x.2)
    where
      at : (b : Bool) → nat_eq e.hart h ≡ b → changed s.running h (Some new_run) e.hart ≡ Some x.0
      at true t = let c : None ≡ Some x.0 = sym none ∙ ap s.running (sym (eqb-true e.hart h t)) ∙ x.1 in cc
      at false t = changed_other s.running h (Some new_run) e.hart (eqb-false e.hart h t) ∙ x.1

  pub Keeps-begins : Keeps L base after_start
  Keeps-begins =
      record {
        holds = start_holds s.stopped k.holds;
        falling = Falling-more L s.list s.now k.falling;
        chained = λ y. subst (Chained L base s.list) (sym ok.tree) (k.chained (ok.clean y));
        owned = λ e i. start_owned e (k.owned e i);
        idle = λ j q. start_idle j (changed_tells s.running h (Some new_run) j None q);
        going = λ j r q. start_going j r (changed_tells s.running h (Some new_run) j (Some r) q);
        lone = λ i j r q ri qj eq. start_lone i j r q (changed_tells s.running h (Some new_run) i (Some r) ri) (changed_tells s.running h (Some new_run) j (Some q) qj) eq;
        over = λ f i. Over-waited L f s.world u s.list s.now ok.clean (k.over f i);
      }

pub Keeps-begun : (L : Theory) (laws : Lawful L) (base : L.M.Tree) (h : ℕ) (call : L.Call) (s : State L) (x : Began L.Refusal L.M.World)
    → s.running h ≡ None → L.start h call (busy_in L s) s.world ≡ x → Keeps L base s → Keeps L base (begun L h call s x).after
Keeps-begun L laws base h call s (Refuses why) none e k = Keeps-unchanged L base s k
Keeps-begun L laws base h call s (Begins u) none e k =
    Keeps-begins L laws base h call s u none k (laws.calls h call (busy_in L s) s.world u (holds_of L s.stopped s.world k.holds) (λ j q. k.idle j (is_some-false (s.running j) q)) (ap is_some none) e)

pub Keeps-start : (L : Theory) (laws : Lawful L) (base : L.M.Tree) (h : ℕ) (call : L.Call) (s : State L) (x : Option (Run L)) → s.running h ≡ x → Keeps L base s → Keeps L base (start_run L h call s x).after
Keeps-start L laws base h call s (Some r) e k = Keeps-unchanged L base s k
Keeps-start L laws base h call s None e k = Keeps-begun L laws base h call s (L.start h call (busy_in L s) s.world) e refl k

-- a step that stopped the world
pub Keeps-stops : (L : Theory) (laws : Lawful L) (base : L.M.Tree) (h : ℕ) (s : State L) (r : Run L) (w : L.M.World) → s.running h ≡ Some r → Keeps L base s → Halts L.M h s.world w
    → Keeps L base (record { world = w; stopped = true; running = s.running; list = s.list; finished = s.finished; now = suc s.now })
Keeps-stops L laws base h s r w is k st =
    record {
      holds = st.halted;
      falling = Falling-more L s.list s.now k.falling;
      chained = λ y. subst (Chained L base s.list) (sym (st.tree y)) (k.chained (st.clean y));
      owned = k.owned;
      idle = λ j e. at j e (nat_eq j h) refl;
      going = λ j q e. going2 (k.going j q e);
      lone = k.lone;
      over = λ f i. Over-waited L f s.world w s.list s.now st.clean (k.over f i);
    }
  where
    at : (j : ℕ) → s.running j ≡ None → (b : Bool) → nat_eq j h ≡ b → L.M.Idle j w
    at j e true t = let c : None ≡ Some r = sym e ∙ ap s.running (eqb-true j h t) ∙ is in cc
    at j e false t = laws.laws.idle_stays j s.world w [] (st.kept j (eqb-false j h t)) (k.idle j e)

    going2 : {j : ℕ} {q : Run L} → Going L j q s.stopped s.world s.list s.finished s.now → Going L j q true w s.list s.finished (suc s.now)
    going2 g =
        record {
          left = g.left;
          bounded = g.bounded;
          wp = λ e. (let c : true ≡ false = e in cc);
          first = λ y. g.first (st.clean y);
          done_is = g.done_is;
          begun = omega (arith, g.begun);
          after = g.after;
          apart = g.apart;
        }

-- a step of hart h, whose call is r, that places ps and leads to w
pub record Stepped (L : Theory) (h : ℕ) (s : State L) (r : Run L) (ps : List (ℕ × L.M.Step)) (w : L.M.World) : Type 0 where
  pub is : s.running h ≡ Some r
  pub goes_on : s.stopped ≡ false
  pub inv : L.M.Inv w
  pub kept : (other : ℕ) → other ≢ h → L.M.Others other s.world (own other ps) w
  pub goes : L.M.Clean w → Goes L.M (L.M.tree s.world) ps (L.M.tree w)
  pub clean : L.M.Clean w → L.M.Clean s.world
  pub begun : L.M.Clean w → Grown (Begun L r.call) (own h ps) r.done

module _ (L : Theory) (laws : Lawful L) (base : L.M.Tree) (h : ℕ) (s : State L) (r : Run L) (ps : List (ℕ × L.M.Step)) (w : L.M.World) (k : Keeps L base s) (st : Stepped L h s r ps w) where
  -- each hart that is given a step has a call under way
  pub busy : (p : ℕ × L.M.Step) → In p ps → (q : Run L) × (s.running p.0 ≡ Some q)
  busy p i = at (nat_eq p.0 h) refl (s.running p.0) refl
    where
      at : (b : Bool) → nat_eq p.0 h ≡ b → (x : Option (Run L)) → s.running p.0 ≡ x → (q : Run L) × (s.running p.0 ≡ Some q)
      at b t (Some q) e = (q, e)
      at true t None e = (r, ap s.running (eqb-true p.0 h t) ∙ st.is)
      at false t None e = absurd (In-own ps p i (laws.laws.idle_none p.0 s.world w (own p.0 ps) (st.kept p.0 (eqb-false p.0 h t)) (k.idle p.0 e)))

  -- a given step is of the call that began at q's start exactly where it is of q's hart
  pub same_call : (j : ℕ) (q : Run L) → s.running j ≡ Some q → (p : ℕ × L.M.Step) → In p ps → nat_eq (start_of L (s.running p.0)) q.start ≡ nat_eq p.0 j
  same_call j q e p i = at (busy p i) (nat_eq p.0 j) refl
    where
      at : (x : Run L) × (s.running p.0 ≡ Some x) → (b : Bool) → nat_eq p.0 j ≡ b → nat_eq (start_of L (s.running p.0)) q.start ≡ b
      at x true t = eq-eqb (start_of L (s.running p.0)) q.start (ap (start_of L) (ap s.running (eqb-true p.0 j t) ∙ e))
      at x false t = ne_eqb (start_of L (s.running p.0)) q.start (λ y. eqb-false p.0 j t (k.lone p.0 j x.0 q x.1 e (sym (ap (start_of L) x.1) ∙ y)))

  pub not_over : (f : FinishedCall L) → In f s.finished → (p : ℕ × L.M.Step) → In p ps → start_of L (s.running p.0) ≢ f.start
  not_over f i p j e = let x = busy p j in (k.going p.0 x.0 x.1).apart f i (sym e ∙ ap (start_of L) x.1)

  abbrev list2 : List (PlacedStep L)
  list2 = placed L s.now s.running ps s.list

  -- each entry, also a new one, is of a call that was under way before, or had finished
  pub owned2 : (e : PlacedStep L) → In e list2 → IsOfCall L s e
  owned2 e i = at (In-placed L s.now s.running ps s.list e i)
    where
      at : In e s.list ⊎ New L s.now s.running ps e → IsOfCall L s e
      at (inl j) = k.owned e j
      at (inr n) =
          let x = busy n.of n.one in
          inr (x.0, ap s.running n.hart ∙ x.1, sym (n.call ∙ ap (start_of L) x.1))

  pub after2 : (j : ℕ) (q : Run L) → s.running j ≡ Some q → (e : PlacedStep L) → In e list2 → e.call ≡ q.start → q.start < e.number
  after2 j q run e i eq = at (In-placed L s.now s.running ps s.list e i)
    where
      at : In e s.list ⊎ New L s.now s.running ps e → q.start < e.number
      at (inl m) = (k.going j q run).after e m eq
      at (inr n) = let b : q.start < s.now = (k.going j q run).begun in let c : e.number ≡ s.now = n.now in omega arith

  pub over2 : (f : FinishedCall L) → In f s.finished → Over L f w list2 (suc s.now)
  over2 f i =
      let o = k.over f i in
      record {
        whole = λ y. subst (λ (x : List L.M.Step). L.Written f.call (oldest_first x) f.reply) (sym (steps_of-other L s.now f.start s.running ps s.list (not_over f i))) (o.whole (st.clean y));
        begun = (let b : f.start < s.now = o.begun in omega arith);
        ended = (let b : f.number < s.now = o.ended in omega arith);
        within = λ e j eq. at e (In-placed L s.now s.running ps s.list e j) eq;
        bounded = o.bounded;
      }
    where
      at : (e : PlacedStep L) → In e s.list ⊎ New L s.now s.running ps e → e.call ≡ f.start → (f.start < e.number) × (e.number ≤ f.number)
      at e (inl j) eq = (k.over f i).within e j eq
      at e (inr n) eq = absurd (not_over f i n.of n.one (sym n.call ∙ eq))

  -- another hart's call goes on, with the steps that it was given
  pub others2 : (j : ℕ) (q : Run L) → j ≢ h → s.running j ≡ Some q → Going L j (record q { done = onto (own j ps) q.done }) s.stopped w list2 s.finished (suc s.now)
  others2 j q ne run =
      let g = k.going j q run in
      let o = st.kept j ne in
      record {
        left = g.left;
        bounded = g.bounded;
        wp = λ x. Wp-others L.M laws.laws j q.prog (Begun L q.call) (Ends L j q.call) g.left q.done (own j ps) s.world w (λ a e. ends_last L laws j q.call a q.done (own j ps) s.world w o e) o (g.wp x);
        first = λ y.
            Grown-all (Begun L q.call) (own j ps) q.done (g.first (st.clean y))
            (grown_of L.M j q.prog (Begun L q.call) (Ends L j q.call) g.left q.done (own j ps) s.world w (λ a e. laws.laws.idle_none j s.world w (own j ps) o e.1) o st.inv (g.wp st.goes_on) y);
        done_is = ap (onto (own j ps)) g.done_is ∙ sym (steps_of-placed L s.now q.start j s.running ps s.list (same_call j q run));
        begun = (let b : q.start < s.now = g.begun in omega arith);
        after = after2 j q run;
        apart = g.apart;
      }

  pub told_tells : (j : ℕ) (x : Option (Run L)) → s.running j ≡ x → (q : Run L) → told L (own j ps) x ≡ Some q → (p : Run L) × (s.running j ≡ Some p) × (record p { done = onto (own j ps) p.done } ≡ q)
  told_tells j None e q t = let y : ◌≡◌ {A = Option (Run L)} None (Some q) = t in cc
  told_tells j (Some p) e q t = (p, e, Some-inj _ q t)

  pub idle2 : (j : ℕ) → j ≢ h → (x : Option (Run L)) → s.running j ≡ x → told L (own j ps) x ≡ None → L.M.Idle j w
  idle2 j ne None e t = laws.laws.idle_stays j s.world w (own j ps) (st.kept j ne) (k.idle j e)
  idle2 j ne (Some p) e t = cc

  pub going2 : (j : ℕ) → j ≢ h → (q : Run L) → all_told L ps s.running j ≡ Some q → Going L j q s.stopped w list2 s.finished (suc s.now)
  going2 j ne q t =
      let x = told_tells j (s.running j) refl q t in
      subst (λ (u : Run L). Going L j u s.stopped w list2 s.finished (suc s.now)) x.2 (others2 j x.0 ne x.1)

  pub old_start : (j : ℕ) (q : Run L) → all_told L ps s.running j ≡ Some q → (p : Run L) × (s.running j ≡ Some p) × (p.start ≡ q.start)
  old_start j q t = let x = told_tells j (s.running j) refl q t in (x.0, x.1, ap (λ (u : Run L). u.start) x.2)

  pub lone_old : (i j : ℕ) (p q : Run L) → all_told L ps s.running i ≡ Some p → all_told L ps s.running j ≡ Some q → p.start ≡ q.start → i ≡ j
  lone_old i j p q a b e = let x = old_start i p a in let y = old_start j q b in k.lone i j x.0 y.0 x.1 y.1 (x.2 ∙ e ∙ sym y.2)

  pub lone_me : (j : ℕ) (q : Run L) → all_told L ps s.running j ≡ Some q → q.start ≡ r.start → j ≡ h
  lone_me j q b e = let y = old_start j q b in k.lone j h y.0 r y.1 st.is (y.2 ∙ e)

  -- if another hart's call was under way before, it is afterwards
  pub still_told : (new : Option (Run L)) (j : ℕ) (q : Run L) → j ≢ h → s.running j ≡ Some q → changed (all_told L ps s.running) h new j ≡ Some (record q { done = onto (own j ps) q.done })
  still_told new j q ne run = changed_other (all_told L ps s.running) h new j ne ∙ ap (told L (own j ps)) run

  pub first2 : L.M.Clean w → Begun L r.call (onto (own h ps) r.done)
  first2 y = Grown-all (Begun L r.call) (own h ps) r.done ((k.going h r st.is).first (st.clean y)) (st.begun y)

  pub done_is2 : onto (own h ps) r.done ≡ steps_of L r.start list2
  done_is2 = ap (onto (own h ps)) (k.going h r st.is).done_is ∙ sym (steps_of-placed L s.now r.start h s.running ps s.list (same_call h r st.is))

  pub holds2 : (b : Bool) → b ≡ false → Holds L b w
  holds2 true e = cc
  holds2 false e = st.inv

pub Keeps-moved : (L : Theory) (laws : Lawful L) (base : L.M.Tree) (h : ℕ) (s : State L) (r : Run L) (did : OpWithAnswer L.M) (ps : List (ℕ × L.M.Step)) (p : P L.M L.Reply) (w : L.M.World) (left : ℕ)
    → (k : Keeps L base s) → (st : Stepped L h s r ps w) → left < (k.going h r st.is).left
    → Wp L.M h (Begun L r.call) (Ends L h r.call) p left (onto (own h ps) r.done) w → Keeps L base (moved L h s r did ps p w).after
Keeps-moved L laws base h s r did ps (Do op m c) w left k st falls wp =
    record {
      holds = holds2 L laws base h s r ps w k st s.stopped st.goes_on;
      falling = Falling-placed L s.now s.running ps s.list (Falling-more L s.list s.now k.falling);
      chained = λ y. Chained-placed L base s.now s.running ps s.list (L.M.tree s.world) (L.M.tree w) (k.chained (st.clean y)) (st.goes y);
      owned = λ e i. owned3 e (owned2 L laws base h s r ps w k st e i);
      idle = λ j q. idle3 j (changed_tells (all_told L ps s.running) h (Some new) j None q);
      going = λ j q x. going3 j q (changed_tells (all_told L ps s.running) h (Some new) j (Some q) x);
      lone = λ i j q x ri qj eq. lone3 i j q x (changed_tells (all_told L ps s.running) h (Some new) i (Some q) ri) (changed_tells (all_told L ps s.running) h (Some new) j (Some x) qj) eq;
      over = over2 L laws base h s r ps w k st;
    }
  where
    old : Going L h r s.stopped s.world s.list s.finished s.now
    old = k.going h r st.is

    new : Run L
    new = record { call = r.call; start = r.start; prog = Do op m c; count = suc r.count; done = onto (own h ps) r.done }

    owned3 : (e : PlacedStep L) → IsOfCall L s e → IsOfCall L (moved L h s r did ps (Do op m c) w).after e
    owned3 e (inl x) = inl x
    owned3 e (inr x) = at (nat_eq e.hart h) refl
      where
        at : (b : Bool) → nat_eq e.hart h ≡ b → IsOfCall L (moved L h s r did ps (Do op m c) w).after e
        at true t =
            let is : x.0 ≡ r = Some-inj x.0 r (sym x.1 ∙ ap s.running (eqb-true e.hart h t) ∙ st.is) in
            inr (new, changed_same (all_told L ps s.running) h (Some new) e.hart (eqb-true e.hart h t), sym (ap (λ (u : Run L). u.start) is) ∙ x.2)
        at false t = inr (_, still_told L laws base h s r ps w k st (Some new) e.hart x.0 (eqb-false e.hart h t) x.1, x.2)

    idle3 : (j : ℕ) → ((j ≡ h) × (Some new ≡ None)) ⊎ ((j ≢ h) × (all_told L ps s.running j ≡ None)) → L.M.Idle j w
    idle3 j (inl q) = let x : Some new ≡ None = q.1 in cc
    idle3 j (inr q) = idle2 L laws base h s r ps w k st j q.0 (s.running j) refl q.1

    first : Going L h new s.stopped w (placed L s.now s.running ps s.list) s.finished (suc s.now)
    first =
        record {
          left = left;
          bounded = (let a : left < old.left = falls in let b : r.count + old.left ≤ L.limit r.call = old.bounded in omega arith);
          wp = λ x. wp;
          first = first2 L laws base h s r ps w k st;
          done_is = done_is2 L laws base h s r ps w k st;
          begun = omega (arith, old.begun);
          after = after2 L laws base h s r ps w k st h r st.is;
          apart = old.apart;
        }

    going3 : (j : ℕ) (q : Run L) → ((j ≡ h) × (Some new ≡ Some q)) ⊎ ((j ≢ h) × (all_told L ps s.running j ≡ Some q)) → Going L j q s.stopped w (placed L s.now s.running ps s.list) s.finished (suc s.now)
    going3 j q (inl x) =
        subst (λ (u : ℕ). Going L u q s.stopped w (placed L s.now s.running ps s.list) s.finished (suc s.now)) (sym x.0)
        (subst (λ (u : Run L). Going L h u s.stopped w (placed L s.now s.running ps s.list) s.finished (suc s.now)) (Some-inj new q x.1) first)
    going3 j q (inr x) = going2 L laws base h s r ps w k st j x.0 q x.1

    lone3 : (i j : ℕ) (q x : Run L) → ((i ≡ h) × (Some new ≡ Some q)) ⊎ ((i ≢ h) × (all_told L ps s.running i ≡ Some q)) → ((j ≡ h) × (Some new ≡ Some x)) ⊎ ((j ≢ h) × (all_told L ps s.running j ≡ Some x)) → q.start ≡ x.start → i ≡ j
    lone3 i j q x (inl a) (inl b) eq = a.0 ∙ sym b.0
    lone3 i j q x (inl a) (inr b) eq = a.0 ∙ sym (lone_me L laws base h s r ps w k st j x b.1 (sym eq ∙ sym (ap (λ (u : Run L). u.start) (Some-inj new q a.1))))
    lone3 i j q x (inr a) (inl b) eq = lone_me L laws base h s r ps w k st i q a.1 (eq ∙ sym (ap (λ (u : Run L). u.start) (Some-inj new x b.1))) ∙ sym b.0
    lone3 i j q x (inr a) (inr b) eq = lone_old L laws base h s r ps w k st i j q x a.1 b.1 eq
Keeps-moved L laws base h s r did ps (Ret reply) w left k st falls wp =
    record {
      holds = holds2 L laws base h s r ps w k st s.stopped st.goes_on;
      falling = Falling-placed L s.now s.running ps s.list (Falling-more L s.list s.now k.falling);
      chained = λ y. Chained-placed L base s.now s.running ps s.list (L.M.tree s.world) (L.M.tree w) (k.chained (st.clean y)) (st.goes y);
      owned = λ e i. owned3 e (owned2 L laws base h s r ps w k st e i);
      idle = λ j q. idle3 j (changed_tells (all_told L ps s.running) h None j None q);
      going = λ j q x. going3 j q (changed_tells (all_told L ps s.running) h None j (Some q) x);
      lone = λ i j q x ri qj eq. lone3 i j q x (changed_tells (all_told L ps s.running) h None i (Some q) ri) (changed_tells (all_told L ps s.running) h None j (Some x) qj) eq;
      over = λ f i. over3 f i;
    }
  where
    old : Going L h r s.stopped s.world s.list s.finished s.now
    old = k.going h r st.is

    ended : FinishedCall L
    ended = record { hart = h; call = r.call; start = r.start; number = s.now; count = suc r.count; reply = reply }

    owned3 : (e : PlacedStep L) → IsOfCall L s e → IsOfCall L (moved L h s r did ps (Ret reply) w).after e
    owned3 e (inl x) = inl (x.0, inr x.1, x.2, x.3)
    owned3 e (inr x) = at (nat_eq e.hart h) refl
      where
        at : (b : Bool) → nat_eq e.hart h ≡ b → IsOfCall L (moved L h s r did ps (Ret reply) w).after e
        at true t =
            let is : x.0 ≡ r = Some-inj x.0 r (sym x.1 ∙ ap s.running (eqb-true e.hart h t) ∙ st.is) in
            inl (ended, inl refl, sym (eqb-true e.hart h t), sym (ap (λ (u : Run L). u.start) is) ∙ x.2)
        at false t = inr (_, still_told L laws base h s r ps w k st None e.hart x.0 (eqb-false e.hart h t) x.1, x.2)

    idle3 : (j : ℕ) → ((j ≡ h) × (◌≡◌ {A = Option (Run L)} None None)) ⊎ ((j ≢ h) × (all_told L ps s.running j ≡ None)) → L.M.Idle j w
    idle3 j (inl q) = subst (λ (u : ℕ). L.M.Idle u w) (sym q.0) wp.1
    idle3 j (inr q) = idle2 L laws base h s r ps w k st j q.0 (s.running j) refl q.1

    going3 : (j : ℕ) (q : Run L) → ((j ≡ h) × (None ≡ Some q)) ⊎ ((j ≢ h) × (all_told L ps s.running j ≡ Some q)) → Going L j q s.stopped w (placed L s.now s.running ps s.list) (ended ∷ s.finished) (suc s.now)
    going3 j q (inl x) = let y : None ≡ Some q = x.1 in cc
    going3 j q (inr x) =
        let g = going2 L laws base h s r ps w k st j x.0 q x.1 in
        record { left = g.left; bounded = g.bounded; wp = g.wp; first = g.first; done_is = g.done_is; begun = g.begun; after = g.after; apart = λ f i. apart3 j q x f i g }
      where
        apart3 : (j : ℕ) (q : Run L) → (j ≢ h) × (all_told L ps s.running j ≡ Some q) → (f : FinishedCall L) → In f (ended ∷ s.finished) → Going L j q s.stopped w (placed L s.now s.running ps s.list) s.finished (suc s.now) → f.start ≢ q.start
        apart3 j q x f (inl i) g eq = x.0 (lone_me L laws base h s r ps w k st j q x.1 (sym eq ∙ ap (λ (u : FinishedCall L). u.start) i))
        apart3 j q x f (inr i) g eq = g.apart f i eq

    lone3 : (i j : ℕ) (q x : Run L) → ((i ≡ h) × (None ≡ Some q)) ⊎ ((i ≢ h) × (all_told L ps s.running i ≡ Some q)) → ((j ≡ h) × (None ≡ Some x)) ⊎ ((j ≢ h) × (all_told L ps s.running j ≡ Some x)) → q.start ≡ x.start → i ≡ j
    lone3 i j q x (inl a) b eq = let y : None ≡ Some q = a.1 in cc
    lone3 i j q x (inr a) (inl b) eq = let y : None ≡ Some x = b.1 in cc
    lone3 i j q x (inr a) (inr b) eq = lone_old L laws base h s r ps w k st i j q x a.1 b.1 eq

    within3 : (e : PlacedStep L) → In e (placed L s.now s.running ps s.list) → e.call ≡ r.start → (r.start < e.number) × (e.number ≤ s.now)
    within3 e i q = (after2 L laws base h s r ps w k st h r st.is e i q, at (In-placed L s.now s.running ps s.list e i))
      where
        at : In e s.list ⊎ New L s.now s.running ps e → e.number ≤ s.now
        at (inl j) = let c : e.number < s.now = below_of L s.list s.now k.falling e j in omega arith
        at (inr n) = let c : e.number ≡ s.now = n.now in omega arith

    done : Over L ended w (placed L s.now s.running ps s.list) (suc s.now)
    done =
        record {
          whole = λ y. subst (λ (x : List L.M.Step). L.Written r.call (oldest_first x) reply) (done_is2 L laws base h s r ps w k st) (wp.0 y);
          begun = omega (arith, old.begun);
          ended = omega arith;
          within = within3;
          bounded = (let a : left < old.left = falls in let b : r.count + old.left ≤ L.limit r.call = old.bounded in omega arith);
        }

    over3 : (f : FinishedCall L) → In f (ended ∷ s.finished) → Over L f w (placed L s.now s.running ps s.list) (suc s.now)
    over3 f (inl i) = subst (λ (u : FinishedCall L). Over L u w (placed L s.now s.running ps s.list) (suc s.now)) (sym i) done
    over3 f (inr i) = over2 L laws base h s r ps w k st f i

pub Keeps-tried : (L : Theory) (laws : Lawful L) (base : L.M.Tree) (h : ℕ) (s : State L) (r : Run L) (op : L.M.Op) (ps : L.M.Answer op → List (ℕ × L.M.Step)) (c : L.M.Answer op → P L.M L.Reply) (wait : Type 0) (x : ExecResult (L.M.Answer op) L.M.World)
    → (e : s.running h ≡ Some r) → s.stopped ≡ false → (k : Keeps L base s)
    → Good L.M (L.M.Answer op) h ps (L.M.more op) (k.going h r e).left (Begun L r.call) r.done s.world wait x (λ l a u. Wp L.M h (Begun L r.call) (Ends L h r.call) (c a) l (onto (own h (ps a)) r.done) u) → Keeps L base (tried L h s r op ps c x).after
Keeps-tried L laws base h s r op ps c wait Waits e y k g = Keeps-unchanged L base s k
Keeps-tried L laws base h s r op ps c wait (Ran a w) e y k g =
    Keeps-moved L laws base h s r (op, a) (ps a) (c a) w g.left k (record { is = e; goes_on = y; inv = g.inv; kept = g.kept; goes = g.goes; clean = g.clean; begun = g.begun }) (let b : g.left + L.M.more op < (k.going h r e).left = g.falls in omega arith) g.next
Keeps-tried L laws base h s r op ps c wait (Stops w) e y k g = Keeps-stops L laws base h s r w e k g

pub Keeps-prog : (L : Theory) (laws : Lawful L) (base : L.M.Tree) (h : ℕ) (x : L.M.Outside) (s : State L) (r : Run L) (p : P L.M L.Reply)
    → (e : s.running h ≡ Some r) → s.stopped ≡ false → (k : Keeps L base s) → OfNext (λ op v. L.M.Honest h op v x) (asks p) s.world
    → Wp L.M h (Begun L r.call) (Ends L h r.call) p (k.going h r e).left r.done s.world → Keeps L base (step_prog L h x s r p).after
Keeps-prog L laws base h x s r (Ret reply) e y k t g = Keeps-unchanged L base s k
Keeps-prog L laws base h x s r (Do op m c) e y k t g =
    Keeps-tried L laws base h s r op (λ a. L.M.places h op a (m a) s.world) c (L.M.MayWait h op s.world) (L.M.go h x op m s.world) e y k
    ((g s.world [] (laws.laws.same h s.world) (inv_of L s.stopped s.world k.holds y)).2 x t)

pub Keeps-unless : (L : Theory) (laws : Lawful L) (base : L.M.Tree) (h : ℕ) (x : L.M.Outside) (s : State L) (r : Run L) (b : Bool) → s.stopped ≡ b → s.running h ≡ Some r → HonestStep L h x s.world b (Some r) → Keeps L base s → Keeps L base (step_unless L h x s b r).after
Keeps-unless L laws base h x s r true y e t k = Keeps-unchanged L base s k
Keeps-unless L laws base h x s r false y e t k = Keeps-prog L laws base h x s r r.prog e y k t ((k.going h r e).wp y)

pub Keeps-step : (L : Theory) (laws : Lawful L) (base : L.M.Tree) (h : ℕ) (x : L.M.Outside) (s : State L) (r : Option (Run L)) → s.running h ≡ r → HonestStep L h x s.world s.stopped r → Keeps L base s → Keeps L base (step_run L h x s r).after
Keeps-step L laws base h x s None e t k = Keeps-unchanged L base s k
Keeps-step L laws base h x s (Some r) e t k = Keeps-unless L laws base h x s r s.stopped refl e t k

pub Keeps-next : (L : Theory) (laws : Lawful L) (base : L.M.Tree) (event : Event L.Call L.M.Outside) (s : State L) → IsHonest L event s → Keeps L base s → Keeps L base (next L event s)
Keeps-next L laws base (Start h call) s t k = Keeps-start L laws base h call s (s.running h) refl k
Keeps-next L laws base (Step h x) s t k = Keeps-step L laws base h x s (s.running h) refl t k

pub Keeps-run : (L : Theory) (laws : Lawful L) (base : L.M.Tree) (events : List (Event L.Call L.M.Outside)) (s : State L) → AllHonest L events s → Keeps L base s → Keeps L base (run L events s)
Keeps-run L laws base [] s t k = k
Keeps-run L laws base (e ∷ es) s t k = Keeps-run L laws base es (next L e s) t.1 (Keeps-next L laws base e s t.0 k)

pub Keeps-fresh : (L : Theory) (w : L.M.World) → L.M.Inv w → ((h : ℕ) → L.M.Idle h w) → Keeps L (L.M.tree w) (fresh L w)
Keeps-fresh L w inv idle =
    record {
      holds = inv;
      falling = tt;
      chained = λ y. refl;
      owned = λ e i. absurd i;
      idle = λ h q. idle h;
      going = λ h r q. (let x : None ≡ Some r = q in cc);
      lone = λ h k r q x y z. (let u : None ≡ Some r = x in cc);
      over = λ f i. absurd i;
    }

-- each hart's next operation may be made
pub may_make : (L : Theory) (laws : Lawful L) (base : L.M.Tree) (s : State L) → Keeps L base s → (h : ℕ) (r : Run L) → s.stopped ≡ false → s.running h ≡ Some r → OfNext (L.M.May h) (asks r.prog) s.world
may_make L laws base s k h r y e = at r.prog ((k.going h r e).wp y)
  where
    at : (p : P L.M L.Reply) → Wp L.M h (Begun L r.call) (Ends L h r.call) p (k.going h r e).left r.done s.world → OfNext (L.M.May h) (asks p) s.world
    at (Ret reply) g = tt
    at (Do op m c) g = (g s.world [] (laws.laws.same h s.world) (inv_of L s.stopped s.world k.holds y)).1

-- a step waits only when it may
module _ (L : Theory) (laws : Lawful L) (base : L.M.Tree) (s : State L) (k : Keeps L base s) (h : ℕ) (x : L.M.Outside) where
  wait_tried : (r : Run L) (op : L.M.Op) (m : L.M.Answer op → Option L.M.Mark) (c : L.M.Answer op → P L.M L.Reply) (d : ExecResult (L.M.Answer op) L.M.World)
      → s.running h ≡ Some r → r.prog ≡ Do op m c → s.stopped ≡ false → L.M.Honest h op s.world x → L.M.go h x op m s.world ≡ d
      → (tried L h s r op (λ a. L.M.places h op a (m a) s.world) c d).came ≡ DidWait → IsBlocked L h s
  wait_tried r op m c Waits e is y t none w =
      let g = k.going h r e in
      let wp : Wp L.M h (Begun L r.call) (Ends L h r.call) (Do op m c) g.left r.done s.world = subst (λ (p : P L.M L.Reply). Wp L.M h (Begun L r.call) (Ends L h r.call) p g.left r.done s.world) is (g.wp y) in
      record {
        call = r;
        op = op;
        mark = m;
        rest = c;
        is = e;
        asks = is;
        may = subst (λ (d : ExecResult (L.M.Answer op) L.M.World). Good L.M (L.M.Answer op) h (λ a. L.M.places h op a (m a) s.world) (L.M.more op) g.left (Begun L r.call) r.done s.world (L.M.MayWait h op s.world) d (λ l a u. Wp L.M h (Begun L r.call) (Ends L h r.call) (c a) l (onto (own h (L.M.places h op a (m a) s.world)) r.done) u)) none
            ((wp s.world [] (laws.laws.same h s.world) (inv_of L s.stopped s.world k.holds y)).2 x t);
      }
  wait_tried r op m c (Ran a u) e is y t none w = absurd (wait_moved (c a) w)
    where
      wait_moved : (p : P L.M L.Reply) → (moved L h s r (op, a) (L.M.places h op a (m a) s.world) p u).came ≡ DidWait → ⊥
      wait_moved (Ret reply) q = cc
      wait_moved (Do op' m' c') q = cc
  wait_tried r op m c (Stops u) e is y t none w = cc

  wait_prog : (r : Run L) (p : P L.M L.Reply) → s.running h ≡ Some r → r.prog ≡ p → s.stopped ≡ false → OfNext (λ op v. L.M.Honest h op v x) (asks p) s.world → (step_prog L h x s r p).came ≡ DidWait → IsBlocked L h s
  wait_prog r (Ret reply) e is y t w = cc
  wait_prog r (Do op m c) e is y t w = wait_tried r op m c (L.M.go h x op m s.world) e is y t refl w

  wait_unless : (r : Run L) (b : Bool) → s.running h ≡ Some r → s.stopped ≡ b → HonestStep L h x s.world b (Some r) → (step_unless L h x s b r).came ≡ DidWait → IsBlocked L h s
  wait_unless r true e y t w = cc
  wait_unless r false e y t w = wait_prog r r.prog e refl y t w

  wait_run : (r : Option (Run L)) → s.running h ≡ r → HonestStep L h x s.world s.stopped r → (step_run L h x s r).came ≡ DidWait → IsBlocked L h s
  wait_run None e t w = cc
  wait_run (Some r) e t w = wait_unless r s.stopped e refl t w

  pub may_wait : IsHonest L (Step h x) s → (makes L (Step h x) s).came ≡ DidWait → IsBlocked L h s
  may_wait t w = wait_run (s.running h) refl t w

-- all replies of a run are explained by the list that it made
pub explained_by : (L : Theory) (laws : Lawful L) (base : L.M.Tree) (s : State L) → Keeps L base s → IsExplained L base s
explained_by L laws base s k =
    record {
      rising = rising_turned L s.now s.list [] (Falling-more L s.list s.now k.falling) tt;
      chained = λ y. chain_turned L base (L.M.tree s.world) (L.M.tree s.world) s.list [] (k.chained y) refl;
      whole = λ y f i. subst (λ (x : List L.M.Step). L.Written f.call x f.reply) (sym (steps_turned L f.start s.list [])) ((k.over f i).whole y);
      begun = λ y h r e.
          let g = k.going h r e in
          subst (IsBeginning L r.call) (ap oldest_first g.done_is ∙ sym (steps_turned L r.start s.list [])) (g.first y);
      owned = λ e i. k.owned e (in_history e s.list i);
      within = λ f i e j. (k.over f i).within e (in_history e s.list j);
      after = λ h r x e j q. ((k.going h r x).after e (in_history e s.list j) q, below_of L s.list s.now k.falling e (in_history e s.list j));
      apart = k.lone;
      bounded = λ f i. (k.over f i).bounded;
      bounded_yet = λ h r e. (let g = k.going h r e in let b : r.count + g.left ≤ L.limit r.call = g.bounded in omega arith);
      waits = λ h x t w. may_wait L laws base s k h x t w;
      may = λ h r y e. may_make L laws base s k h r y e;
      idle = k.idle;
      holds = k.holds;
    }

pub sound_keeps : (L : Theory) (laws : Lawful L) (s : State L) (q : Sound L s) → Keeps L (L.M.tree q.first) s
sound_keeps L laws s q = subst (Keeps L (L.M.tree q.first)) q.is (Keeps-run L laws (L.M.tree q.first) q.events (fresh L q.first) q.honest (Keeps-fresh L q.first q.inv q.idle))

pub explains : (L : Theory) (laws : Lawful L) (w : L.M.World) (events : List (Event L.Call L.M.Outside)) → L.M.Inv w → ((h : ℕ) → L.M.Idle h w) → AllHonest L events (fresh L w) → IsExplained L (L.M.tree w) (run L events (fresh L w))
explains L laws w events inv idle honest =
    explained_by L laws (L.M.tree w) (run L events (fresh L w)) (Keeps-run L laws (L.M.tree w) events (fresh L w) honest (Keeps-fresh L w inv idle))

-- if the outside may answer anything, each list of events will do
pub all_honest : (L : Theory) → ((h : ℕ) (op : L.M.Op) (w : L.M.World) (x : L.M.Outside) → L.M.Honest h op w x) → (events : List (Event L.Call L.M.Outside)) (s : State L) → AllHonest L events s
all_honest L any [] s = tt
all_honest L any (Start h call ∷ es) s = (tt, all_honest L any es (next L (Start h call) s))
all_honest L any (Step h x ∷ es) s = (at s.stopped (s.running h), all_honest L any es (next L (Step h x) s))
  where
    of : (p : P L.M L.Reply) → OfNext (λ op v. L.M.Honest h op v x) (asks p) s.world
    of (Ret reply) = tt
    of (Do op m k) = any h op s.world x

    at : (b : Bool) (r : Option (Run L)) → HonestStep L h x s.world b r
    at true r = tt
    at false None = tt
    at false (Some r) = of r.prog
