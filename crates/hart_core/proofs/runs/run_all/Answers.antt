use Rattle.hart_core.proofs.Lemmas.{◌≡◌, ◌∷◌, [], ◌++◌, List, length, refl, sym, ap, subst, ◌∙◌, append_assoc, append-nil, arith, rules, into_iter_items, common_steps, Super, with_answer, marks_told, Event, event_of, came_of, said_of, shared_of, HasMarks, Answers, Makes, one_each, first_marks, next_marks, NotesRun, Heard, Option, ℕ, TellsEvent, hart_of, heard_by, heard_in, notes_more, notes_none}
use Rattle.hart_core.proofs.runs.run_all.Goals as goal

nothing_left : {X : Type 0} (l : List X) → length l ≡ 0 → l ≡ []
nothing_left [] h = refl
nothing_left (x ∷ xs) h = absurd (omega arith)

pub loop-event-init : goal.loop-event-init
loop-event-init g c =
    record {
      events = sym c.into_iter-event-iterator.ensures.into_iter_gives.0;
      history = rw c.requires.empty (first_marks g.D.Device.contents g.D.Device.failures c.args.world.sizes c.args.world.harts c.no_marks-marks.result c.no_marks-marks.ensures);
      notes = rw c.requires.empty (notes_none g.D.Device.contents g.D.Device.failures g.O.Observer.Took c.args.world.sizes c.args.world.harts c.args.observer.now);
      sizes = refl;
      rest = first_of (search rules, grind (arith, common_steps));
      room = first_of (search rules, grind (arith, common_steps));
    }

pub loop-event-preserved : goal.loop-event-preserved
loop-event-preserved g c =
    let at = c.loop-event in
    let e : Event = c.in-Some.event in
    let x = said_of c.event-came.result (shared_of g.D.Device.contents g.D.Device.failures c.event-came.new.self.harts) in
    let steps : into_iter_items at.event-iterator ≡ e ∷ into_iter_items c.next.new.self = c.in-Some.ensures.steps.0 in
    record {
      events = at.invariant.events ∙ ap (λ (z : List Event). at.yielded ++ z) steps ∙ sym (append_assoc at.yielded (e ∷ []) (into_iter_items c.next.new.self));
      history =
          rw c.in-Ok.ensures.items
          (next_marks g.D.Device.contents g.D.Device.failures c.args.world.sizes c.args.world.harts at.world.harts c.event-came.new.self.harts at.yielded e at.outcomes.items c.event-came.result x at.marks c.note-marks.result c.len.result at.invariant.history
          (subst (λ (s : Super). Answers g.D.Device.contents g.D.Device.failures s (with_answer (event_of e) x) at.world.harts) at.invariant.sizes c.event-came.ensures.honest)
          (subst (λ (s : Super). Makes g.D.Device.contents g.D.Device.failures s (with_answer (event_of e) x) at.world.harts (came_of c.event-came.result) c.event-came.new.self.harts) at.invariant.sizes c.event-came.ensures.makes)
          (let longer = c.in-Ok.ensures.len in let count = c.len.ensures in omega (arith, longer, count))
          (c.note-marks.ensures ∙ (λ i. marks_told c.len.result (c.phase-before.ensures i) (c.is_at_point-at_point.ensures i) (c.phase.ensures i) at.marks)));
      notes =
          rw c.in-Ok.ensures.items
          (notes_more g.D.Device.contents g.D.Device.failures g.O.Observer.Took c.args.world.sizes c.args.world.harts c.args.observer.now at.yielded at.outcomes.items at.world.harts at.observer e c.event-came.result c.event-came.new.self.harts c.noted.new.self
          at.invariant.notes
          (record {
            makes = subst (λ (s : Super). Makes g.D.Device.contents g.D.Device.failures s (with_answer (event_of e) x) at.world.harts (came_of c.event-came.result) c.event-came.new.self.harts) at.invariant.sizes c.event-came.ensures.makes;
            answers = subst (λ (s : Super). Answers g.D.Device.contents g.D.Device.failures s (with_answer (event_of e) x) at.world.harts) at.invariant.sizes c.event-came.ensures.honest;
            heard = heard_by c.event-came.new.self (hart_of e);
            tells = subst (λ (s : Super). TellsEvent g.D.Device.contents g.D.Device.failures s e at.world.harts c.event-came.result (heard_by c.event-came.new.self (hart_of e)) c.event-came.new.self.harts) at.invariant.sizes c.event-came.ensures.tells;
            fits = c.heard_in.ensures.fits;
            took = subst (λ (o : Option Heard). g.O.Observer.Took at.observer c.event-came.result o c.noted.new.self) (c.heard_in.ensures.heard ∙ ap (λ (h : ℕ). heard_in c.event-came.result (heard_by c.event-came.new.self h)) c.hart_of-hart.ensures) c.noted.ensures;
          }));
      sizes = c.event-came.ensures.sizes ∙ at.invariant.sizes;
      rest = (let gone = c.in-Some.ensures.steps.1 in let short = ap length steps in let was_rest = at.invariant.rest in omega (arith, was_rest, gone, short));
      room = (let short = ap length steps in let room = at.invariant.room in let longer = c.in-Ok.ensures.len in let kept = c.push.ensures.capacity in omega (arith, short, room, longer, kept));
    }

-- there is room for each
pub unreachable-requires : goal.unreachable-requires
unreachable-requires g c =
    let at = c.loop-event in
    let steps : into_iter_items at.event-iterator ≡ c.in-Some.event ∷ into_iter_items c.next.new.self = c.in-Some.ensures.steps.0 in
    let short = ap length steps in
    let room = at.invariant.room in
    let full = c.in-Err.ensures.full in
    omega (arith, short, room, full)

pub returns : goal.returns
returns g c =
    let at = c.loop-event in
    let empty : into_iter_items at.event-iterator ≡ [] = nothing_left _ (sym at.invariant.rest ∙ c.in-None.ensures.steps.0) in
    let all : at.yielded ≡ c.args.events.items = sym (at.invariant.events ∙ ap (λ (z : List Event). at.yielded ++ z) empty ∙ append-nil at.yielded) in
    let history = subst (λ (z : List Event). HasMarks g.D.Device.contents g.D.Device.failures c.args.world.sizes c.args.world.harts z at.outcomes.items at.world.harts at.marks) all at.invariant.history in
    record {
      history = history;
      notes = subst (λ (z : List Event). NotesRun g.D.Device.contents g.D.Device.failures g.O.Observer.Took c.args.world.sizes c.args.world.harts c.args.observer.now z at.outcomes.items at.world.harts at.observer) all at.invariant.notes;
      each = one_each g.D.Device.contents g.D.Device.failures c.args.world.sizes c.args.world.harts at.world.harts c.args.events.items at.outcomes.items (history.0, history.1);
      sizes = at.invariant.sizes;
    }
