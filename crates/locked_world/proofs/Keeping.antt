-- One event more, and what is kept.
use Rattle.locked_world.proofs.Vocabulary.{◌≡◌, ℕ, zero, suc, ◌+◌, ◌<◌, ◌≤◌, inl, inr, Bool, true, false, Option, Some, None, List, [], ◌∷◌, ◌++◌, length, refl, sym, ap, ◌∙◌, subst, arith, slice_set, slice_index_or, get_or, length-append, length-set, append_assoc, append-nil, nat_eq, ◌==◌, if◌then◌else◌, get_or-set_same, get_or-set_other, eqb_tells, one_more, Fuse, IsFusedCall, Super, Reply, Call, Shown, IsBegun, Replied, Other, Start, Step, OutcomeOf, Started, Refused, DidWait, DidEnd, with_answer, changed, Plain, PlainMade, Kind, Outside, CallsOnce, Refusal, block_calls, block_code, Event, Came, Outcome, StartRefused, event_of, came_of, outcome_of, all_shown, shown, shown_outcome, reason_of, WorldOf, calls_of, Makes, Answers, history_more, one_each, HandsBack, SpareFits, StoredRun, with_event, contents, failures, device_of, ComesFromImage, IsRunOf, IsKept, replied_by, replies_in, replies_of, counts, count_in, shown_in, IsUnmoved}
use Rattle.hart_core.specs.declared.events.Event.TheVariants as event
use Rattle.hart_core.specs.declared.events.Came.TheVariants as came
use Rattle.hart_core.specs.declared.outcome.Outcome.TheVariants as outcome
use Rattle.locked_world.proofs.Blocks.{answers_fit, may_here, started}
use Rattle.locked_world.proofs.Spares.{Ends, step_keeps, step_ends, step_waits, start_refused}

-- ---- lists

shown_more : (es : List Event) (cs : List Came) (e : Event) (c : Came) → length cs ≡ length es → all_shown (es ++ e ∷ []) (cs ++ c ∷ []) ≡ all_shown es cs ++ shown e c ∷ []
shown_more [] [] e c same = refl
shown_more [] (x ∷ cs) e c same = absurd (omega (arith, same))
shown_more (x ∷ es) [] e c same = absurd (omega (arith, same))
shown_more (x ∷ es) (y ∷ cs) e c same = ap (λ (z : List Shown). shown x y ∷ z) (shown_more es cs e c (omega (arith, same)))

replies_more : (h : ℕ) (ss : List Shown) (s : Shown) → replies_in h (ss ++ s ∷ []) ≡ replies_in h ss ++ replied_by h s
replies_more h [] s = append-nil (replied_by h s)
replies_more h (x ∷ ss) s = ap (λ (z : List Reply). replied_by h x ++ z) (replies_more h ss s) ∙ sym (append_assoc (replied_by h x) (replies_in h ss) (replied_by h s))

count_more : (ss : List Shown) (s : Shown) → count_in (ss ++ s ∷ []) ≡ count_in ss + counts s
count_more [] s = omega arith
count_more (x ∷ ss) s = omega (arith, count_more ss s)

if_le : (b : Bool) (r : Reply) → length (if b then r ∷ [] else []) ≤ 1
if_le true r = omega arith
if_le false r = omega arith

one_reply : (h : ℕ) (s : Shown) → length (replied_by h s) ≤ 1
one_reply h (IsBegun k call) = omega arith
one_reply h (Replied k r) = if_le (h == k) r
one_reply h Other = omega arith

-- a hart has no more replies than there are events
replies_few : (h : ℕ) (ss : List Shown) → length (replies_in h ss) ≤ length ss
replies_few h [] = omega arith
replies_few h (s ∷ ss) = omega (arith, length-append (replied_by h s) (replies_in h ss), one_reply h s, replies_few h ss)

shown_few : (es : List Event) (cs : List Came) → length (all_shown es cs) ≤ length es
shown_few [] cs = omega arith
shown_few (e ∷ es) [] = omega arith
shown_few (e ∷ es) (c ∷ cs) = omega (arith, shown_few es cs)

pub replies_below : (h : ℕ) (s : StoredRun) → length (replies_of h s) ≤ length s.events
replies_below h s = omega (arith, replies_few h (shown_in s), shown_few s.events s.outcomes)

past_none : (xs : List (Option Call)) (h : ℕ) (call : Call) → get_or xs h None ≡ Some call → h < length xs
past_none [] h call e = absurd (let q = e in cc (q))
past_none (x ∷ xs) zero call e = omega arith
past_none (x ∷ xs) (suc h) call e = let more = past_none xs h call e in omega (arith, more)

eq_same : (h : ℕ) → nat_eq h h ≡ true
eq_same h = elim (eqb_tells h h) [
  | inl e ↦ e.0
  | inr e ↦ absurd (e.1 refl)
]

changed_here : {A : Type 0} (f : ℕ → A) (h : ℕ) (x : A) → changed f h x h ≡ x
changed_here f h x = ap (λ (b : Bool). if b then x else f h) (eq_same h)

-- ---- the run

pub same_length : (s : StoredRun) (w : WorldOf Fuse) → IsRunOf s w → length s.outcomes ≡ length s.events
same_length s w run = one_each contents failures run.first.sizes run.first.harts w.harts s.events s.outcomes run.history

run_more : (s : StoredRun) (w v : WorldOf Fuse) → IsRunOf s w → (e : Event) (c : Came) (x : Outside) → v.sizes ≡ w.sizes → Answers contents failures w.sizes (with_answer (event_of e) x) w.harts
    → Makes contents failures w.sizes (with_answer (event_of e) x) w.harts (came_of c) v.harts → IsRunOf (with_event s e c) v
run_more s w v run e c x sizes honest makes = record {
  first = run.first;
  mounted = run.mounted;
  history = (
    run.history.0 ++ with_answer (event_of e) x ∷ [],
    history_more contents failures run.first.sizes run.first.harts w.harts v.harts s.events e s.outcomes c run.history.0 x run.history.1
        (subst (λ (z : Super). Answers contents failures z (with_answer (event_of e) x) w.harts) run.sizes honest)
        (subst (λ (z : Super). Makes contents failures z (with_answer (event_of e) x) w.harts (came_of c) v.harts) run.sizes makes),
  );
  sizes = sizes ∙ run.sizes;
}

abbrev AllFit : List (Option Call) → WorldOf Fuse → Type 0
AllFit spares w = (k : ℕ) → SpareFits (get_or spares k None) ((calls_of contents failures w.sizes w.harts).running k)

-- a step makes one call of the device, or none
called_on : (s : StoredRun) (old new : Fuse) → ComesFromImage s old → CallsOnce IsFusedCall old new → ComesFromImage s new
called_on s old new calls (inl same) = subst (ComesFromImage s) (sym same) calls
called_on s old new calls (inr call) = one_more calls call

-- a start makes none
uncalled : (w v : WorldOf Fuse) → v.harts.core ≡ w.harts.core → CallsOnce IsFusedCall (device_of w) (device_of v)
uncalled w v same = inl (λ i. (same i).log.cache.device)

-- one event more
kept_grow : (s : StoredRun) (total : ℕ) (w : WorldOf Fuse) (given : List ℕ) (spares : List (Option Call)) → IsKept s total w given spares
    → (e : Event) (c : Came) (x : Outside) (es : List Event) (cs : List Came) (total' : ℕ) (v : WorldOf Fuse) (given' : List ℕ) (spares' : List (Option Call))
    → es ≡ s.events ++ e ∷ [] → cs ≡ s.outcomes ++ c ∷ [] → total' ≡ total + counts (shown e c)
    → v.sizes ≡ w.sizes → Answers contents failures w.sizes (with_answer (event_of e) x) w.harts → Makes contents failures w.sizes (with_answer (event_of e) x) w.harts (came_of c) v.harts → CallsOnce IsFusedCall (device_of w) (device_of v)
    → ((h : ℕ) → h < 8 → slice_index_or given' h 0 ≡ slice_index_or given h 0 + length (replied_by h (shown e c)))
    → AllFit spares' v → length spares' ≡ 8
    → IsKept (record { image = s.image; fuse = s.fuse; events = es; outcomes = cs }) total' v given' spares'
kept_grow s total w given spares k e c x es cs total' v given' spares' p q t sizes honest makes called gave fit eight =
    let same : shown_in (with_event s e c) ≡ shown_in s ++ shown e c ∷ [] = shown_more s.events s.outcomes e c (same_length s w k.run) in
    let all : IsKept (with_event s e c) total' v given' spares' =
    record {
      run = run_more s w v k.run e c x sizes honest makes;
      calls = called_on s (device_of w) (device_of v) k.calls called;
      total_is = t ∙ ap (λ (n : ℕ). n + counts (shown e c)) k.total_is ∙ sym (count_more (shown_in s) (shown e c)) ∙ ap count_in (sym same);
      given_are = λ h lt. gave h lt ∙ ap (λ (n : ℕ). n + length (replied_by h (shown e c))) (k.given_are h lt) ∙ sym (length-append (replies_of h s) (replied_by h (shown e c))) ∙ ap length (sym (replies_more h (shown_in s) (shown e c))) ∙ ap (λ (ss : List Shown). length (replies_in h ss)) (sym same);
      eight = eight;
      spares_fit = fit;
    } in
    subst (λ (z : StoredRun). IsKept z total' v given' spares') (λ i. record { image = s.image; fuse = s.fuse; events = sym p i; outcomes = sym q i }) all

-- ---- steps

-- the copies that are laid by fit after a step
fit_step : (s : StoredRun) (w v : WorldOf Fuse) (spares : List (Option Call)) (h : ℕ) (x : Outside) (o : OutcomeOf Kind Reply Refusal) → IsRunOf s w → v.sizes ≡ w.sizes → Makes contents failures w.sizes (Step h x) w.harts o v.harts → AllFit spares w → AllFit spares v
fit_step s w v spares h x o run sizes makes fit =
    let p : Plain (block_calls w.sizes) (block_code w.sizes) = calls_of contents failures w.sizes w.harts in
    subst (λ (z : Super). (k : ℕ) → SpareFits (get_or spares k None) ((calls_of contents failures z v.harts).running k)) (sym sizes)
    (subst (λ (m : PlainMade (block_calls w.sizes) (block_code w.sizes)). (k : ℕ) → SpareFits (get_or spares k None) (m.after.running k)) makes
    (step_keeps w.sizes h x (λ k. get_or spares k None) p fit (answers_fit s w run h x) (p.running h) refl (may_here s w run h)))

-- and if it gave a reply, the hart's spare copy was of its call
ended : (s : StoredRun) (w v : WorldOf Fuse) (spares : List (Option Call)) (h : ℕ) (x : Outside) (r : Reply) → IsRunOf s w → Makes contents failures w.sizes (Step h x) w.harts (DidEnd r) v.harts → (fit : AllFit spares w)
    → Ends w.sizes h x (λ k. get_or spares k None) (calls_of contents failures w.sizes w.harts) fit r (calls_of contents failures w.sizes v.harts)
ended s w v spares h x r run makes fit =
    let p : Plain (block_calls w.sizes) (block_code w.sizes) = calls_of contents failures w.sizes w.harts in
    subst (λ (m : PlainMade (block_calls w.sizes) (block_code w.sizes)). (reply : Reply) → m.came ≡ DidEnd reply → Ends w.sizes h x (λ k. get_or spares k None) p fit reply m.after) makes
    (step_ends w.sizes h x (λ k. get_or spares k None) p fit (answers_fit s w run h x) (p.running h) refl (may_here s w run h)) r refl

-- a try that waits changes nothing
pub waits_unmoved : (w v : WorldOf Fuse) (h : ℕ) (x : Outside) → Makes contents failures w.sizes (Step h x) w.harts DidWait v.harts → IsUnmoved w v
waits_unmoved w v h x makes =
    let p : Plain (block_calls w.sizes) (block_code w.sizes) = calls_of contents failures w.sizes w.harts in
    subst (λ (m : PlainMade (block_calls w.sizes) (block_code w.sizes)). m.came ≡ DidWait → m.after ≡ p) makes (step_waits w.sizes h x p (p.running h)) refl

pub kept_waits : (s : StoredRun) (total : ℕ) (w : WorldOf Fuse) (given : List ℕ) (spares : List (Option Call)) → IsKept s total w given spares
    → (h : ℕ) (x : Outside) (v : WorldOf Fuse) → v.sizes ≡ w.sizes → Makes contents failures w.sizes (Step h x) w.harts DidWait v.harts
    → CallsOnce IsFusedCall (device_of w) (device_of v) → IsKept s total v given spares
kept_waits s total w given spares k h x v sizes makes called =
    let same : calls_of contents failures w.sizes v.harts ≡ calls_of contents failures w.sizes w.harts = waits_unmoved w v h x makes in
    record {
      run = record {
        first = k.run.first;
        mounted = k.run.mounted;
        history = (
          k.run.history.0,
          record {
            asks = k.run.history.1.asks;
            answers = k.run.history.1.answers;
            comes_to = k.run.history.1.comes_to;
            makes = k.run.history.1.makes ∙ sym (subst (λ (z : Super). calls_of contents failures z v.harts ≡ calls_of contents failures z w.harts) k.run.sizes same);
          },
        );
        sizes = sizes ∙ k.run.sizes;
      };
      calls = called_on s (device_of w) (device_of v) k.calls called;
      total_is = k.total_is;
      eight = k.eight;
      given_are = k.given_are;
      spares_fit = fit_step s w v spares h x DidWait k.run sizes makes k.spares_fit;
    }

-- a step that gave no reply
pub kept_step : (s : StoredRun) (total : ℕ) (w : WorldOf Fuse) (given : List ℕ) (spares : List (Option Call)) → IsKept s total w given spares
    → (h : ℕ) (x : Outside) (o : Outcome) (es : List Event) (cs : List Came) (v : WorldOf Fuse)
    → shown_outcome h o ≡ Other → v.sizes ≡ w.sizes → Answers contents failures w.sizes (Step h x) w.harts → Makes contents failures w.sizes (Step h x) w.harts (outcome_of o) v.harts
    → CallsOnce IsFusedCall (device_of w) (device_of v) → es ≡ s.events ++ event.Step h ∷ [] → cs ≡ s.outcomes ++ came.Stepped o ∷ []
    → IsKept (record { image = s.image; fuse = s.fuse; events = es; outcomes = cs }) total v given spares
kept_step s total w given spares k h x o es cs v none sizes honest makes called p q =
    kept_grow s total w given spares k (event.Step h) (came.Stepped o) x es cs total v given spares p q (omega (arith, ap counts none)) sizes honest makes called
    (λ j lt. omega (arith, ap (λ (z : Shown). length (replied_by j z)) none)) (fit_step s w v spares h x (outcome_of o) k.run sizes makes k.spares_fit) k.eight

reply_counts : (given : List ℕ) (h j : ℕ) (r : Reply) → h < length given → slice_index_or (slice_set given h (slice_index_or given h 0 + 1)) j 0 ≡ slice_index_or given j 0 + length (replied_by j (Replied h r))
reply_counts given h j r lt =
    elim (eqb_tells j h) [
      | inl e ↦ ap (λ (z : ℕ). slice_index_or (slice_set given h (slice_index_or given h 0 + 1)) z 0) e.1 ∙ get_or-set_same given h (slice_index_or given h 0 + 1) 0 lt ∙ ap (λ (z : ℕ). slice_index_or given z 0 + 1) (sym e.1) ∙ ap (λ (b : Bool). slice_index_or given j 0 + length (if b then r ∷ [] else [])) (sym e.0)
      | inr e ↦ get_or-set_other given h j (slice_index_or given h 0 + 1) 0 e.1 ∙ sym (ap (λ (b : Bool). slice_index_or given j 0 + length (if b then r ∷ [] else [])) e.0 ∙ omega arith)
    ]

-- what a reply is of: the hart is one of the eight, and the copy is of its call
pub record HadSpare (spares : List (Option Call)) (h : ℕ) (r : Reply) : Type 0 where
  pub below : h < length spares
  pub call : Call
  pub spare : get_or spares h None ≡ Some call
  pub back : HandsBack call r

pub had_spare : (s : StoredRun) (total : ℕ) (w : WorldOf Fuse) (given : List ℕ) (spares : List (Option Call)) → IsKept s total w given spares
    → (h : ℕ) (x : Outside) (r : Reply) (v : WorldOf Fuse) → Makes contents failures w.sizes (Step h x) w.harts (DidEnd r) v.harts → HadSpare spares h r
had_spare s total w given spares k h x r v makes =
    let e = ended s w v spares h x r k.run makes k.spares_fit in
    record { below = past_none spares h e.call e.spare; call = e.call; spare = e.spare; back = e.back }

-- a reply
pub kept_done : (s : StoredRun) (total : ℕ) (w : WorldOf Fuse) (given : List ℕ) (spares : List (Option Call)) → IsKept s total w given spares
    → (h : ℕ) (x : Outside) (r : Reply) (es : List Event) (cs : List Came) (total' : ℕ) (v : WorldOf Fuse) (spares' : List (Option Call))
    → h < length given → v.sizes ≡ w.sizes → Answers contents failures w.sizes (Step h x) w.harts → Makes contents failures w.sizes (Step h x) w.harts (DidEnd r) v.harts
    → CallsOnce IsFusedCall (device_of w) (device_of v) → es ≡ s.events ++ event.Step h ∷ [] → cs ≡ s.outcomes ++ came.Stepped (outcome.Done r) ∷ [] → total' ≡ total + 1 → spares' ≡ slice_set spares h None
    → IsKept (record { image = s.image; fuse = s.fuse; events = es; outcomes = cs }) total' v (slice_set given h (slice_index_or given h 0 + 1)) spares'
kept_done s total w given spares k h x r es cs total' v spares' lt sizes honest makes called p q t left =
    let e = ended s w v spares h x r k.run makes k.spares_fit in
    let fit : AllFit spares v = fit_step s w v spares h x (DidEnd r) k.run sizes makes k.spares_fit in
    let gone : (calls_of contents failures v.sizes v.harts).running h ≡ None =
    subst (λ (z : Super). (calls_of contents failures z v.harts).running h ≡ None) (sym sizes) (ap (λ (f : ℕ → Option _). f h) e.left ∙ changed_here (calls_of contents failures w.sizes w.harts).running h None) in
    let there : (j : ℕ) → SpareFits (get_or (slice_set spares h None) j None) ((calls_of contents failures v.sizes v.harts).running j) =
    λ j. elim (eqb_tells j h) [
      | inl f ↦ subst (λ o. SpareFits (get_or (slice_set spares h None) j None) o) (sym (ap (calls_of contents failures v.sizes v.harts).running f.1 ∙ gone)) tt
      | inr f ↦ subst (λ (o : Option Call). SpareFits o ((calls_of contents failures v.sizes v.harts).running j)) (sym (get_or-set_other spares h j None None f.1)) (fit j)
    ] in
    kept_grow s total w given spares k (event.Step h) (came.Stepped (outcome.Done r)) x es cs total' v (slice_set given h (slice_index_or given h 0 + 1)) spares' p q t sizes honest makes called
    (λ j below. reply_counts given h j r lt) (subst (λ (o : List (Option Call)). AllFit o v) (sym left) there) (ap length left ∙ length-set spares h None ∙ k.eight)

-- ---- starts

-- a call begun
pub kept_started : (s : StoredRun) (total : ℕ) (w : WorldOf Fuse) (given : List ℕ) (spares : List (Option Call)) → IsKept s total w given spares
    → (h : ℕ) (call copy : Call) (x : Outside) (es : List Event) (cs : List Came) (total' : ℕ) (v : WorldOf Fuse) (spares' : List (Option Call))
    → copy ≡ call → v.sizes ≡ w.sizes → Makes contents failures w.sizes (Start h call) w.harts Started v.harts → v.harts.core ≡ w.harts.core
    → es ≡ s.events ++ event.Start h call ∷ [] → cs ≡ s.outcomes ++ came.Started ∷ [] → total' ≡ total + 1 → spares' ≡ slice_set spares h (Some copy)
    → IsKept (record { image = s.image; fuse = s.fuse; events = es; outcomes = cs }) total' v given spares'
kept_started s total w given spares k h call copy x es cs total' v spares' same sizes makes core p q t laid =
    let b = started w.sizes h call (calls_of contents failures w.sizes w.harts) (calls_of contents failures w.sizes v.harts) makes in
    let now : (calls_of contents failures v.sizes v.harts).running ≡ changed (calls_of contents failures w.sizes w.harts).running h (Some b.prog) =
    subst (λ (z : Super). (calls_of contents failures z v.harts).running ≡ changed (calls_of contents failures w.sizes w.harts).running h (Some b.prog)) (sym sizes) b.running in
    let here : get_or (slice_set spares h (Some call)) h None ≡ Some call = get_or-set_same spares h (Some call) None (omega (arith, k.eight, b.below)) in
    let there : (j : ℕ) → SpareFits (get_or (slice_set spares h (Some call)) j None) ((calls_of contents failures v.sizes v.harts).running j) =
    λ j. elim (eqb_tells j h) [
      | inl f ↦ subst (λ (z : ℕ). SpareFits (get_or (slice_set spares h (Some call)) z None) ((calls_of contents failures v.sizes v.harts).running z)) (sym f.1)
          (subst (λ o. SpareFits (get_or (slice_set spares h (Some call)) h None) o) (sym (ap (λ (g : ℕ → Option _). g h) now ∙ changed_here (calls_of contents failures w.sizes w.harts).running h (Some b.prog))) (call, here, b.back))
      | inr f ↦ subst (λ o. SpareFits (get_or (slice_set spares h (Some call)) j None) o) (sym (ap (λ (g : ℕ → Option _). g j) now ∙ ap (λ (z : Bool). if z then Some b.prog else (calls_of contents failures w.sizes w.harts).running j) f.0))
          (subst (λ (o : Option Call). SpareFits o ((calls_of contents failures w.sizes w.harts).running j)) (sym (get_or-set_other spares h j (Some call) None f.1)) (k.spares_fit j))
    ] in
    kept_grow s total w given spares k (event.Start h call) came.Started x es cs total' v given spares' p q t sizes tt makes (uncalled w v core) (λ j lt. omega arith)
    (subst (λ (o : List (Option Call)). AllFit o v) (sym (laid ∙ ap (λ (c : Call). slice_set spares h (Some c)) same)) there) (ap length laid ∙ length-set spares h (Some copy) ∙ k.eight)

-- a call refused
pub kept_refused : (s : StoredRun) (total : ℕ) (w : WorldOf Fuse) (given : List ℕ) (spares : List (Option Call)) → IsKept s total w given spares
    → (h : ℕ) (call : Call) (why : StartRefused) (x : Outside) (es : List Event) (cs : List Came) (v : WorldOf Fuse)
    → v.sizes ≡ w.sizes → Makes contents failures w.sizes (Start h call) w.harts (Refused (reason_of why)) v.harts → v.harts.core ≡ w.harts.core
    → es ≡ s.events ++ event.Start h call ∷ [] → cs ≡ s.outcomes ++ came.Refused why ∷ []
    → IsKept (record { image = s.image; fuse = s.fuse; events = es; outcomes = cs }) total v given spares
kept_refused s total w given spares k h call why x es cs v sizes makes core p q =
    let was : Plain (block_calls w.sizes) (block_code w.sizes) = calls_of contents failures w.sizes w.harts in
    let same : calls_of contents failures w.sizes v.harts ≡ was =
    subst (λ (m : PlainMade (block_calls w.sizes) (block_code w.sizes)). (y : Refusal) → m.came ≡ Refused y → m.after ≡ was) makes (start_refused w.sizes h call was (was.running h)) (reason_of why) refl in
    kept_grow s total w given spares k (event.Start h call) (came.Refused why) x es cs total v given spares p q (omega arith) sizes tt makes (uncalled w v core) (λ j lt. omega arith)
    (subst (λ (z : Super). (j : ℕ) → SpareFits (get_or spares j None) ((calls_of contents failures z v.harts).running j)) (sym sizes)
    (subst (λ (m : Plain (block_calls w.sizes) (block_code w.sizes)). (j : ℕ) → SpareFits (get_or spares j None) (m.running j)) (sym same) k.spares_fit)) k.eight

pub begun_below : (w v : WorldOf Fuse) (h : ℕ) (call : Call) → Makes contents failures w.sizes (Start h call) w.harts Started v.harts → h < 8
begun_below w v h call makes = (started w.sizes h call (calls_of contents failures w.sizes w.harts) (calls_of contents failures w.sizes v.harts) makes).below
