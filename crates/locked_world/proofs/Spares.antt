-- A copy of each call that is under way is laid by: events keep that.
use Rattle.locked_world.proofs.Vocabulary.{◌≡◌, ℕ, Bool, true, false, Option, Some, None, if◌then◌else◌, nat_eq, inl, inr, refl, sym, ◌∙◌, subst, eqb_tells, Super, Reply, Call, Ret, Do, ExecResult, Waits, Ran, Stops, Refused, DidWait, DidEnd, Began, Refuses, Begins, changed, Plain, PlainMade, MayOf, plain_step, plain_unless, plain_prog, plain_tried, plain_moved, plain_start, plain_begun, Kind, Outside, P, Op, Answer, May, Refusal, SharedState, exec_shared, block_calls, block_code, HandsBack, FitsBlock, EndsWith, SpareFits}

-- In this state, if the device answers x, every block that hart h is answered fits, when it may ask.
abbrev pub AnswersFit : ℕ → Outside → SharedState → Type 0
AnswersFit h x s = (op : Op) (a : Answer op) (t : SharedState) → May h op s.state → exec_shared h x op s ≡ Ran a t → FitsBlock op a

-- what is put back in a hart's place
put_fits : (spares : ℕ → Option Call) (running : ℕ → Option (P Reply)) (h : ℕ) (p : Option (P Reply)) → ((k : ℕ) → SpareFits (spares k) (running k)) → SpareFits (spares h) p → (k : ℕ) → SpareFits (spares k) (changed running h p k)
put_fits spares running h p fits there k = by (nat_eq k h) refl
  where
    same : (i j : ℕ) → nat_eq i j ≡ true → i ≡ j
    same i j e = elim (eqb_tells i j) [
      | inl f ↦ f.1
      | inr f ↦ absurd (let q = sym e ∙ f.0 in cc (q))
    ]

    by : (b : Bool) → nat_eq k h ≡ b → SpareFits (spares k) (if b then p else running k)
    by true e = subst (λ (j : ℕ). SpareFits (spares j) p) (sym (same k h e)) there
    by false e = fits k

module _ (sizes : Super) (h : ℕ) (x : Outside) (spares : ℕ → Option Call) (p : Plain (block_calls sizes) (block_code sizes)) (fits : (k : ℕ) → SpareFits (spares k) (p.running k)) where
  abbrev Keeps : PlainMade (block_calls sizes) (block_code sizes) → Type 0
  Keeps m = (k : ℕ) → SpareFits (spares k) (m.after.running k)

  -- if a reply is given, the copy is of its call, and the hart has no call any more
  pub record Ends (reply : Reply) (after : Plain (block_calls sizes) (block_code sizes)) : Type 0 where
    pub call : Call
    pub spare : spares h ≡ Some call
    pub back : HandsBack call reply
    pub left : after.running ≡ changed p.running h None

  abbrev IfEnds : PlainMade (block_calls sizes) (block_code sizes) → Type 0
  IfEnds m = (reply : Reply) → m.came ≡ DidEnd reply → Ends reply m.after

  moved_ends : (call : Call) → spares h ≡ Some call → (kind : Kind) (t : SharedState) (q : P Reply) → EndsWith (HandsBack call) q → IfEnds (plain_moved (block_calls sizes) (block_code sizes) h p kind q t)
  moved_ends call spare kind t (Ret r) e reply is =
      let same : r ≡ reply = (let q = is in cc (q)) in
      record { call = call; spare = spare; back = subst (HandsBack call) same e; left = refl }
  moved_ends call spare kind t (Do op m k) e reply is = absurd (let q = is in cc (q))

  moved_keeps : (call : Call) → spares h ≡ Some call → (kind : Kind) (t : SharedState) (q : P Reply) → EndsWith (HandsBack call) q → Keeps (plain_moved (block_calls sizes) (block_code sizes) h p kind q t)
  moved_keeps call spare kind t (Ret r) e = put_fits spares p.running h None fits tt
  moved_keeps call spare kind t (Do op m k) e = put_fits spares p.running h (Some (Do op m k)) fits (call, spare, e)

  module _ (answers : AnswersFit h x p.shared) where
    tried_keeps : (call : Call) → spares h ≡ Some call → (op : Op) → May h op p.shared.state → (k : Answer op → P Reply) → ((a : Answer op) → FitsBlock op a → EndsWith (HandsBack call) (k a)) → (d : ExecResult (Answer op) SharedState) → exec_shared h x op p.shared ≡ d
        → Keeps (plain_tried (block_calls sizes) (block_code sizes) h p op k d)
    tried_keeps call spare op may k e Waits is = fits
    tried_keeps call spare op may k e (Ran a t) is = moved_keeps call spare ((block_code sizes).kind op a) t (k a) (e a (answers op a t may is))
    tried_keeps call spare op may k e (Stops t) is = fits

    tried_ends : (call : Call) → spares h ≡ Some call → (op : Op) → May h op p.shared.state → (k : Answer op → P Reply) → ((a : Answer op) → FitsBlock op a → EndsWith (HandsBack call) (k a)) → (d : ExecResult (Answer op) SharedState) → exec_shared h x op p.shared ≡ d
        → IfEnds (plain_tried (block_calls sizes) (block_code sizes) h p op k d)
    tried_ends call spare op may k e Waits is reply r = absurd (let q = r in cc (q))
    tried_ends call spare op may k e (Ran a t) is reply r = moved_ends call spare ((block_code sizes).kind op a) t (k a) (e a (answers op a t may is)) reply r
    tried_ends call spare op may k e (Stops t) is reply r = absurd (let q = r in cc (q))

    prog_keeps : (call : Call) → spares h ≡ Some call → (q : P Reply) → MayOf (block_calls sizes) (block_code sizes) h p.shared (Some q) → EndsWith (HandsBack call) q → Keeps (plain_prog (block_calls sizes) (block_code sizes) h x p q)
    prog_keeps call spare (Ret r) may e = fits
    prog_keeps call spare (Do op m k) may e = tried_keeps call spare op may k e (exec_shared h x op p.shared) refl

    prog_ends : (call : Call) → spares h ≡ Some call → (q : P Reply) → MayOf (block_calls sizes) (block_code sizes) h p.shared (Some q) → EndsWith (HandsBack call) q → IfEnds (plain_prog (block_calls sizes) (block_code sizes) h x p q)
    prog_ends call spare (Ret r) may e reply is = absurd (let q = is in cc (q))
    prog_ends call spare (Do op m k) may e reply is = tried_ends call spare op may k e (exec_shared h x op p.shared) refl reply is

  -- once stopped, nothing is answered
  module _ (answers : p.stopped ≡ false → AnswersFit h x p.shared) where
    unless_keeps : (b : Bool) → p.stopped ≡ b → (q : P Reply) → (p.stopped ≡ false → MayOf (block_calls sizes) (block_code sizes) h p.shared (Some q)) → SpareFits (spares h) (Some q) → Keeps (plain_unless (block_calls sizes) (block_code sizes) h x p b q)
    unless_keeps true is q may e = fits
    unless_keeps false is q may e = prog_keeps (answers is) e.0 e.1 q (may is) e.2

    unless_ends : (b : Bool) → p.stopped ≡ b → (q : P Reply) → (p.stopped ≡ false → MayOf (block_calls sizes) (block_code sizes) h p.shared (Some q)) → SpareFits (spares h) (Some q) → IfEnds (plain_unless (block_calls sizes) (block_code sizes) h x p b q)
    unless_ends true is q may e reply r = absurd (let z = r in cc (z))
    unless_ends false is q may e reply r = prog_ends (answers is) e.0 e.1 q (may is) e.2 reply r

    pub step_keeps : (o : Option (P Reply)) → p.running h ≡ o → (p.stopped ≡ false → MayOf (block_calls sizes) (block_code sizes) h p.shared o) → Keeps (plain_step (block_calls sizes) (block_code sizes) h x p o)
    step_keeps None is may = fits
    step_keeps (Some q) is may = unless_keeps p.stopped refl q may (subst (SpareFits (spares h)) is (fits h))

    pub step_ends : (o : Option (P Reply)) → p.running h ≡ o → (p.stopped ≡ false → MayOf (block_calls sizes) (block_code sizes) h p.shared o) → IfEnds (plain_step (block_calls sizes) (block_code sizes) h x p o)
    step_ends None is may reply r = absurd (let z = r in cc (z))
    step_ends (Some q) is may reply r = unless_ends p.stopped refl q may (subst (SpareFits (spares h)) is (fits h)) reply r

-- ---- a try that waits, and a refused start

module _ (sizes : Super) (h : ℕ) (x : Outside) (p : Plain (block_calls sizes) (block_code sizes)) where
  abbrev IfWaits : PlainMade (block_calls sizes) (block_code sizes) → Type 0
  IfWaits m = m.came ≡ DidWait → m.after ≡ p

  moved_waits : (kind : Kind) (t : SharedState) (q : P Reply) → IfWaits (plain_moved (block_calls sizes) (block_code sizes) h p kind q t)
  moved_waits kind t (Ret r) e = absurd (let z = e in cc (z))
  moved_waits kind t (Do op m k) e = absurd (let z = e in cc (z))

  tried_waits : (op : Op) (k : Answer op → P Reply) (d : ExecResult (Answer op) SharedState) → IfWaits (plain_tried (block_calls sizes) (block_code sizes) h p op k d)
  tried_waits op k Waits e = refl
  tried_waits op k (Ran a t) e = moved_waits ((block_code sizes).kind op a) t (k a) e
  tried_waits op k (Stops t) e = absurd (let z = e in cc (z))

  prog_waits : (q : P Reply) → IfWaits (plain_prog (block_calls sizes) (block_code sizes) h x p q)
  prog_waits (Ret r) e = absurd (let z = e in cc (z))
  prog_waits (Do op m k) e = tried_waits op k (exec_shared h x op p.shared) e

  unless_waits : (b : Bool) (q : P Reply) → IfWaits (plain_unless (block_calls sizes) (block_code sizes) h x p b q)
  unless_waits true q e = absurd (let z = e in cc (z))
  unless_waits false q e = prog_waits q e

  -- a try that waits changes nothing
  pub step_waits : (o : Option (P Reply)) → IfWaits (plain_step (block_calls sizes) (block_code sizes) h x p o)
  step_waits None e = absurd (let z = e in cc (z))
  step_waits (Some q) e = unless_waits p.stopped q e

module _ (sizes : Super) (h : ℕ) (call : Call) (p : Plain (block_calls sizes) (block_code sizes)) where
  abbrev IfRefused : PlainMade (block_calls sizes) (block_code sizes) → Type 0
  IfRefused m = (why : Refusal) → m.came ≡ Refused why → m.after ≡ p

  begun_refused : (b : Began Refusal SharedState) → IfRefused (plain_begun (block_calls sizes) (block_code sizes) h call p b)
  begun_refused (Refuses y) why e = refl
  begun_refused (Begins s) why e = absurd (let z = e in cc (z))

  -- nor does a start that is refused
  pub start_refused : (o : Option (P Reply)) → IfRefused (plain_start (block_calls sizes) (block_code sizes) h call p o)
  start_refused None why e = begun_refused ((block_code sizes).begin h call (λ j. Rattle.atomic_programs.specs.Calls.is_some (p.running j)) p.shared) why e
  start_refused (Some q) why e = refl
