-- A run found room at each step exactly if none of its operations found none.
use Rattle.run_laws.proofs.Vocabulary.{◌≡◌, inl, inr, ℕ, Bool, true, false, ◌&&◌, not, nat_eq, if◌then◌else◌, Option, Some, None, List, [], ◌∷◌, ◌++◌, refl, sym, ◌∙◌, ap, subst, eq-eqb, Super, sizes_of, Call, put, and_true, Theory, Began, Refuses, Begins, EventOf, FinishedCall, PlacedStep, Run, Start, Started, State, begun, busy_in, fresh, makes, next, run, start_run, Chain, In, IsOfCall, history, steps_of, Both, ran_to, PartOf as P, began_to, Ret, Do, ExecResult, Waits, Ran, Stops, EventReport, IsTraced, happened, begun_both, traced, Outside, exec, marked, with_mark, program, machine, Refusal, Mark, Fills, Frees, Makes, Mends, Orphans, Spoils, first_world, first, World, shared_of, begins, block_calls, child_of, served_calls, serves, served_is, begun_here, WorldOf, IsRunFrom, RefinesWholeInodes, operations_made, operations_of, RoomIsToldByAnswers, finds_no_room, says_no_room, IsRunOf, IsStep, Operation, lowered_inode_calls, unreserved, Version}
use Rattle.inode_machine.specs.World as above
use Rattle.run_laws.proofs.CallFits.{call_fits, most_written}
use Rattle.run_laws.proofs.Fits.{AllFitUpTo}
use Rattle.run_laws.proofs.Running.{Goes, goes_on}
use Rattle.call_programs.specs.Asks.{spoils}
use Rattle.run_laws.proofs.Worlds.{worlds_refine}

-- ---- one step

pub marked_clean : (version : Version) (h : ℕ) (k : Option Mark) (w : above.World) → (marked version h k w).clean ≡ (not (spoils k) && w.clean)
marked_clean version h None w = refl
marked_clean version h (Some (Makes v)) w = refl
marked_clean version h (Some (Frees n)) w = refl
marked_clean version h (Some (Orphans n)) w = refl
marked_clean version h (Some Fills) w = refl
marked_clean version h (Some Mends) w = refl
marked_clean version h (Some (Spoils s)) w = refl

pub after_clean : (version : Version) {A : Type 0} (h : ℕ) (k : Option Mark) (before after : above.World) (a : A) (d : ExecResult A above.World) → Goes h before d → with_mark version h (λ _. k) d ≡ Ran a after
    → after.clean ≡ (not (spoils k) && before.clean)
after_clean version h k before after a Waits g e = cc
after_clean version h k before after a (Stops u) g e = absurd g
after_clean version h k before after a (Ran b w) g e =
    ap (λ (z : above.World). z.clean) (sym (ap (ran_to before) e)) ∙ marked_clean version h k w ∙ (λ i. not (spoils k) && (g i).clean)

step_clean : (version : Version) (t u : above.World) (h : ℕ) (e : Operation) → IsStep version t h e u → spoils e.mark ≡ says_no_room e.op e.answer
    → u.clean ≡ (not (finds_no_room e) && t.clean)
step_clean version t u h e s same =
    ap (λ (z : above.World). z.clean) (sym s.to)
    ∙ after_clean version h e.mark s.before s.after e.answer (exec version h s.outside e.op s.before) (goes_on version h s.outside e.op s.before) s.goes
    ∙ (λ i. not (same i) && (s.from i).clean)

-- ---- marks say what answers do

in_run : (version : Version) (most : ℕ) {A : Type 0} (p : P (machine version) A) (es : List Operation) (r : A) (x : Operation) → AllFitUpTo version most p → IsRunOf p es r → In x es → spoils x.mark ≡ says_no_room x.op x.answer
in_run version most (Ret a) [] r x f g i = absurd i
in_run version most (Ret a) (e ∷ es) r x f g i = absurd g
in_run version most (Do op m k) [] r x f g i = absurd i
in_run version most (Do op m k) (e ∷ es) r x f g (inl q) = subst (λ (z : Operation). spoils z.mark ≡ says_no_room z.op z.answer) (sym (q ∙ g.2)) (f.1 g.0)
in_run version most (Do op m k) (e ∷ es) r x f g (inr i) = in_run version most (k g.0) es r x (f.2 g.0) g.3 i

in_more : {A : Type 0} (x : A) (es rest : List A) → In x es → In x (es ++ rest)
in_more x [] rest i = absurd i
in_more x (y ∷ ys) rest (inl q) = inl q
in_more x (y ∷ ys) rest (inr i) = inr (in_more x ys rest i)

and_all : (b : Bool) → (b && true) ≡ b
and_all true = refl
and_all false = refl

moved_in : (x f c : Bool) → (x && (f && c)) ≡ ((f && x) && c)
moved_in true true c = refl
moved_in true false c = refl
moved_in false true c = refl
moved_in false false c = refl

not_none : (b : Bool) → not b ≡ true → b ≡ false
not_none true e = cc
not_none false e = refl

module _ (sizes : Super) where
  abbrev L : Theory
  L = lowered_inode_calls sizes

  in_steps : (c : ℕ) (es : List (PlacedStep (lowered_inode_calls sizes))) (e : PlacedStep (lowered_inode_calls sizes)) → In e es → e.call ≡ c → In e.step (steps_of (lowered_inode_calls sizes) c es)
  in_steps c [] e i same = absurd i
  in_steps c (y ∷ ys) e (inl q) same =
      subst (λ (b : Bool). In e.step (if b then y.step ∷ steps_of L c ys else steps_of L c ys)) (sym (eq-eqb y.call c (ap (λ (z : PlacedStep L). z.call) (sym q) ∙ same))) (inl (ap (λ (z : PlacedStep L). z.step) q))
  in_steps c (y ∷ ys) e (inr i) same = at (nat_eq y.call c) (in_steps c ys e i same)
    where
      at : (b : Bool) → In e.step (steps_of L c ys) → In e.step (if b then y.step ∷ steps_of L c ys else steps_of L c ys)
      at true later = inr later
      at false later = later

  -- ---- a chain of steps

  abbrev none_finds : List (PlacedStep (lowered_inode_calls sizes)) → Bool
  none_finds [] = true
  none_finds (e ∷ es) = not (finds_no_room e.step) && none_finds es

  chain_clean : (es : List (PlacedStep L)) (t u : above.World) → Chain L t es u → ((e : PlacedStep L) → In e es → spoils e.step.mark ≡ says_no_room e.step.op e.step.answer) → u.clean ≡ (none_finds es && t.clean)
  chain_clean [] t u c tell = ap (λ (z : above.World). z.clean) c
  chain_clean (e ∷ es) t u c tell =
      chain_clean es c.0 u c.2 (λ x i. tell x (inr i))
      ∙ ap (λ (b : Bool). none_finds es && b) (step_clean sizes.version t c.0 e.hart e.step c.1 (tell e (inl refl)))
      ∙ moved_in (none_finds es) (not (finds_no_room e.step)) t.clean

  each_finds : (es : List (PlacedStep L)) → none_finds es ≡ true → (e : PlacedStep L) → In e es → finds_no_room e.step ≡ false
  each_finds [] q e i = absurd i
  each_finds (y ∷ ys) q e (inl p) = ap (λ (z : PlacedStep L). finds_no_room z.step) p ∙ not_none (finds_no_room y.step) (and_true (not (finds_no_room y.step)) (none_finds ys) q).0
  each_finds (y ∷ ys) q e (inr i) = each_finds ys (and_true (not (finds_no_room y.step)) (none_finds ys) q).1 e i

  finds_each : (es : List (PlacedStep L)) → ((e : PlacedStep L) → In e es → finds_no_room e.step ≡ false) → none_finds es ≡ true
  finds_each [] f = refl
  finds_each (e ∷ es) f = λ i. not (f e (inl refl) i) && finds_each es (λ x j. f x (inr j)) i

  -- ---- a call that began is served

  begun_served : (h : ℕ) (call : Call) (s : State L) (b : Began Refusal (Both World above.World)) → L.start h call (busy_in L s) s.world ≡ b → (begun L h call s b).came ≡ Started → serves call ≡ true
  begun_served h call s (Refuses why) is e = cc
  begun_served h call s (Begins u) is e =
      let t : World = record (s.world.real) { children = put s.world.real.children h (child_of call) } in
      let b = begun_both (began_to s.world.seen ((served_calls sizes.version).start h call (busy_in L s) s.world.seen))
      (begins sizes h call (busy_in L s) s.world.real) u is in
      (begun_here h call (busy_in L s) (shared_of s.world.real) t u.real b.0).serves_it

  start_served : (h : ℕ) (call : Call) (s : State L) (r : Option (Run L)) → (start_run L h call s r).came ≡ Started → serves call ≡ true
  start_served h call s (Some r) e = cc
  start_served h call s None e = begun_served h call s (L.start h call (busy_in L s) s.world) refl e

  happened_served : (es : List (EventOf Call Outside)) (s : State L) (x : EventReport L) (n h : ℕ) (call : Call) → In x (happened L es s) → x ≡ record { number = n; event = Start h call; came = Started } → serves call ≡ true
  happened_served [] s x n h call i is = absurd i
  happened_served (e ∷ es) s x n h call (inl q) is =
      let same = sym q ∙ is in
      start_served h call s (s.running h) (subst (λ (z : EventOf Call Outside). (makes L z s).came ≡ Started) (ap (λ (z : EventReport L). z.event) same) (ap (λ (z : EventReport L). z.came) same))
  happened_served (e ∷ es) s x n h call (inr i) is = happened_served es (next L e s) x n h call i is

  module _ (w : Both World above.World) (events : List (EventOf Call Outside)) (base : above.World) (runs : IsRunFrom sizes (run (lowered_inode_calls sizes) events (fresh (lowered_inode_calls sizes) w)) base) where
    abbrev s : State (lowered_inode_calls sizes)
    s = run (lowered_inode_calls sizes) events (fresh (lowered_inode_calls sizes) w)

    was : IsTraced L (λ x. In x (happened L events (fresh L w))) (run L events (fresh L w))
    was = traced L w events

    finished_fits : (f : FinishedCall L) → In f s.finished → AllFitUpTo sizes.version (most_written f.call) (program sizes.version f.call)
    finished_fits f i = call_fits sizes.version f.call (served_is f.call (happened_served events (fresh L w) _ f.start f.hart f.call (was.started f i) refl))

    running_fits : (h : ℕ) (r : Run L) → s.running h ≡ Some r → AllFitUpTo sizes.version (most_written r.call) (program sizes.version r.call)
    running_fits h r i = call_fits sizes.version r.call (served_is r.call (happened_served events (fresh L w) _ r.start h r.call (was.under_way h r i) refl))

    tells : (e : PlacedStep L) → In e (operations_made sizes s) → spoils e.step.mark ≡ says_no_room e.step.op e.step.answer
    tells e i = at (runs.owned e i)
      where
        at : IsOfCall L s e → spoils e.step.mark ≡ says_no_room e.step.op e.step.answer
        at (inl x) = in_run sizes.version (most_written (x.0).call) (program sizes.version (x.0).call) (operations_of sizes s (x.0).start) (x.0).reply e.step (finished_fits x.0 x.1) (runs.whole x.0 x.1).runs (in_steps (x.0).start (operations_made sizes s) e i (sym x.3))
        at (inr x) =
            let b = runs.begun e.hart x.0 x.1 in
            in_run sizes.version (most_written (x.0).call) (program sizes.version (x.0).call) (operations_of sizes s (x.0).start ++ b.0) b.1 e.step
            (running_fits e.hart x.0 x.1) b.2.runs
            (in_more e.step (operations_of sizes s (x.0).start) b.0 (in_steps (x.0).start (operations_made sizes s) e i (sym x.2)))

    run_clean : s.world.seen.clean ≡ (none_finds (operations_made sizes s) && base.clean)
    run_clean = chain_clean (operations_made sizes s) base (unreserved s.world.seen) runs.leads tells

module _ (disk : List (List ℕ)) (failures : ℕ) (events : List (EventOf Call Outside)) (r : RefinesWholeInodes disk failures events) where
  abbrev made : List (PlacedStep (lowered_inode_calls (sizes_of disk)))
  made = operations_made (sizes_of disk) (run (lowered_inode_calls (sizes_of disk)) events (fresh (lowered_inode_calls (sizes_of disk)) (first disk failures)))

  -- the flag that the run keeps
  clean_is : (run (block_calls (sizes_of disk)) events (fresh (block_calls (sizes_of disk)) (first disk failures))).world.seen.clean ≡ none_finds (sizes_of disk) made
  clean_is = ap (λ (z : Both World above.World). z.seen.clean) (sym r.world_is) ∙ run_clean (sizes_of disk) (first disk failures) events (first_world disk) r.runs ∙ and_all (none_finds (sizes_of disk) made)

  pub room_found : (run (block_calls (sizes_of disk)) events (fresh (block_calls (sizes_of disk)) (first disk failures))).world.seen.clean ≡ true
      → (e : PlacedStep (lowered_inode_calls (sizes_of disk))) → In e made → finds_no_room e.step ≡ false
  room_found on = each_finds (sizes_of disk) made (sym clean_is ∙ on)

  pub found_room : ((e : PlacedStep (lowered_inode_calls (sizes_of disk))) → In e made → finds_no_room e.step ≡ false)
      → (run (block_calls (sizes_of disk)) events (fresh (block_calls (sizes_of disk)) (first disk failures))).world.seen.clean ≡ true
  found_room each = clean_is ∙ finds_each (sizes_of disk) made each

pub room_told : {D : Type 0} (contents : D → List (List ℕ)) (failures : D → ℕ) (w : WorldOf D) → RoomIsToldByAnswers contents failures w
room_told contents failures w device events came new history mounted is = (
  λ on. room_found disk count history r (subst Flag same on),
  λ each. subst Flag (sym same) (found_room disk count history r each),
)
  where
    disk : List (List ℕ)
    disk = contents w.harts.core.log.cache.device

    count : ℕ
    count = failures w.harts.core.log.cache.device

    same : w.sizes ≡ sizes_of disk
    same = mounted.sizes ∙ sym mounted.rests.disk.sizes

    r : RefinesWholeInodes disk count history
    r = (worlds_refine contents failures w device events came new history mounted is).0

    Flag : Super → Type 0
    Flag z = (run (block_calls z) history (fresh (block_calls z) (first disk count))).world.seen.clean ≡ true
