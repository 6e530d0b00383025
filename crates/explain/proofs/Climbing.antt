-- The calls of a trace climb if the starts that it comes from do.
use Rattle.std.specs.Prelude.{◌+◌, ◌<◌, ◌≤◌, ◌++◌, ◌||◌, ◌&&◌, ◌==◌, min, map, length, drop, get_or, Bool, true, false, None, Some, if◌then◌else◌}
use Rattle.std.proofs.Common.{refl, sym, ap, arith, length-drop}
use Rattle.std.proofs.lemmas.List.{at_drop_more}
use Rattle.explain.proofs.Vocabulary.{◌≡◌, ◌∙◌, ℕ, List, [], ◌∷◌, Trace, TracedCall, Came, Event, any_climbs, call_climbs, trace_in}
use Rattle.plain_tree.specs.Explains.{Shown, ends_at, no_calls, noted, trace_from}
use Rattle.plain_tree.specs.Explains as shows
use Rattle.plain_tree.specs.declared.answer.Reply.{Reply}
use Rattle.tree_histories.specs.Vocabulary.{is_nothing}
use Rattle.hart_core.specs.Runs.{all_shown, shown}
use Rattle.hart_core.specs.declared.events.Event.TheVariants as event
use Rattle.hart_core.specs.declared.events.Came.TheVariants as came
use Rattle.hart_core.specs.declared.outcome.Outcome.TheVariants as outcome
use Rattle.explain.specs.Climbs.{start_climbs, starts_climb}

or_false : (a : Bool) → (a || false) ≡ a
or_false true = refl
or_false false = refl

or_assoc : (a b c : Bool) → ((a || b) || c) ≡ (a || (b || c))
or_assoc true b c = refl
or_assoc false b c = refl

-- ---- a trace goes on

any_append : (xs ys : List TracedCall) → any_climbs (xs ++ ys) ≡ (any_climbs xs || any_climbs ys)
any_append [] ys = refl
any_append (x ∷ xs) ys = ap (λ (b : Bool). call_climbs x.call || b) (any_append xs ys) ∙ sym (or_assoc (call_climbs x.call) (any_climbs xs) (any_climbs ys))

-- a call that ends is the same call
end_same : (h : ℕ) (r : Reply) (now : ℕ) (c : TracedCall) → call_climbs (ends_at h r now c).call ≡ call_climbs c.call
end_same h r now c = by ((c.hart == h) && is_nothing c.finished)
  where
    by : (b : Bool) → call_climbs (if b then record c { finished = Some (now, r) } else c).call ≡ call_climbs c.call
    by true = refl
    by false = refl

ends_same : (h : ℕ) (r : Reply) (now : ℕ) (cs : List TracedCall) → any_climbs (map (ends_at h r now) cs) ≡ any_climbs cs
ends_same h r now [] = refl
ends_same h r now (c ∷ cs) = λ i. end_same h r now c i || ends_same h r now cs i

abbrev shows_climb : Shown → Bool
shows_climb (shows.Started h call) = call_climbs call
shows_climb (shows.Replied h reply) = false
shows_climb shows.Other = false

noted_climbs : (t : Trace) (s : Shown) → any_climbs (noted t s).calls ≡ (any_climbs t.calls || shows_climb s)
noted_climbs t (shows.Started h call) =
    any_append t.calls (record { hart = h; start = t.events; call = call; finished = None } ∷ [])
    ∙ ap (λ (b : Bool). any_climbs t.calls || b) (or_false (call_climbs call))
noted_climbs t (shows.Replied h reply) = ends_same h reply t.events t.calls ∙ sym (or_false (any_climbs t.calls))
noted_climbs t shows.Other = sym (or_false (any_climbs t.calls))

-- ---- and so do the events

event_shows : (e : Event) (c : Came) → shows_climb (shown e c) ≡ start_climbs e c
event_shows (event.Start h call) came.Started = refl
event_shows (event.Start h call) (came.Refused why) = refl
event_shows (event.Start h call) (came.Stepped out) = refl
event_shows (event.Step h) came.Started = refl
event_shows (event.Step h) (came.Refused why) = refl
event_shows (event.Step h) (came.Stepped outcome.Idle) = refl
event_shows (event.Step h) (came.Stepped outcome.Waits) = refl
event_shows (event.Step h) (came.Stepped (outcome.Ran kind)) = refl
event_shows (event.Step h) (came.Stepped (outcome.Done reply)) = refl
event_shows (event.Step h) (came.Stepped (outcome.Stopped why)) = refl

from_climbs : (t : Trace) (es : List Event) (cs : List Came) → any_climbs (trace_from t (all_shown es cs)).calls ≡ (any_climbs t.calls || starts_climb es cs)
unfolding trace_from starts_climb
from_climbs t [] cs = sym (or_false (any_climbs t.calls))
from_climbs t (e ∷ es) [] = sym (or_false (any_climbs t.calls))
from_climbs t (e ∷ es) (c ∷ cs) =
    from_climbs (noted t (shown e c)) es cs
    ∙ ap (λ (b : Bool). b || starts_climb es cs) (noted_climbs t (shown e c) ∙ ap (λ (b : Bool). any_climbs t.calls || b) (event_shows e c))
    ∙ or_assoc (any_climbs t.calls) (start_climbs e c) (starts_climb es cs)

pub trace_climbs : (es : List Event) (cs : List Came) → any_climbs (trace_in es cs).calls ≡ starts_climb es cs
trace_climbs es cs = from_climbs no_calls es cs

-- ---- event by event

-- event i, and then the others
split : {X : Type 0} (xs : List X) (i : ℕ) (x : X) → i < length xs → x ≡ get_or xs i x → drop i xs ≡ x ∷ drop (i + 1) xs
split xs i x lt is = at_drop_more (λ ys. ys) xs i x lt ∙ ap (λ y. y ∷ drop (i + 1) xs) (sym is)

pub starts_more : (es : List Event) (cs : List Came) (i : ℕ) (e : Event) (c : Came) → i < length es → i < length cs → e ≡ get_or es i e → c ≡ get_or cs i c
    → starts_climb (drop i es) (drop i cs) ≡ (start_climbs e c || starts_climb (drop (i + 1) es) (drop (i + 1) cs))
unfolding starts_climb
starts_more es cs i e c lt lt' is is' j = starts_climb (split es i e lt is j) (split cs i c lt' is' j)

none_more : (es : List Event) (cs : List Came) → min (length es) (length cs) ≤ 0 → starts_climb es cs ≡ false
unfolding starts_climb
none_more [] cs le = refl
none_more (e ∷ es) [] le = refl
none_more (e ∷ es) (c ∷ cs) le = absurd (omega (arith, le))

pub starts_end : (es : List Event) (cs : List Came) (i : ℕ) → min (length es) (length cs) ≤ i → starts_climb (drop i es) (drop i cs) ≡ false
starts_end es cs i le = none_more (drop i es) (drop i cs) (omega (arith, le, length-drop i es, length-drop i cs))
