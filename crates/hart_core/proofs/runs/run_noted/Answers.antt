use Rattle.hart_core.proofs.Lemmas.{List, Option, ℕ, subst, sym, Event, HasMarks, NotesRun, RunLeavesABeginning, last_of, explained, leaves_a_beginning}
use Rattle.hart_core.proofs.runs.run_noted.Goals as goal

pub returns-in-Ok-with_capacity-clause-history : goal.returns-in-Ok-with_capacity-clause-history
returns-in-Ok-with_capacity-clause-history g c =
    let r = c.run_all-world.result in
    let h = subst (λ (es : List Event). HasMarks g.D.Device.contents g.D.Device.failures c.args.world.sizes c.args.world.harts es r.outcomes.items r.world.harts r.marks) c.in-Ok.ensures c.run_all-world.ensures.history in
    (h.0, h.1)

pub returns-in-Ok-with_capacity-clause-explained : goal.returns-in-Ok-with_capacity-clause-explained
returns-in-Ok-with_capacity-clause-explained g c = explained g.D.Device.contents g.D.Device.failures c.args.world c.args.events.now c.run_all-world.result.outcomes.items c.run_all-world.result.world.harts

pub returns-in-Ok-with_capacity-clause-stops : goal.returns-in-Ok-with_capacity-clause-stops
returns-in-Ok-with_capacity-clause-stops g c =
    let r = c.run_all-world.result in
    let h = subst (λ (es : List Event). HasMarks g.D.Device.contents g.D.Device.failures c.args.world.sizes c.args.world.harts es r.outcomes.items r.world.harts r.marks) c.in-Ok.ensures c.run_all-world.ensures.history in
    subst (λ (cut : Option ℕ). RunLeavesABeginning g.D.Device.contents g.D.Device.failures c.args.world c.args.events.now r.outcomes.items r.world.harts cut c.doubt_of.result) (sym c.last_of.ensures)
    (subst (λ (doubt : Option ℕ). RunLeavesABeginning g.D.Device.contents g.D.Device.failures c.args.world c.args.events.now r.outcomes.items r.world.harts (last_of r.marks.cut) doubt) (sym c.doubt_of.ensures)
    (leaves_a_beginning g.D.Device.contents g.D.Device.failures c.args.world c.args.events.now r.outcomes.items r.world.harts r.marks h))

pub returns-in-Ok-with_capacity-clause-cut : goal.returns-in-Ok-with_capacity-clause-cut
returns-in-Ok-with_capacity-clause-cut g c =
    let r = c.run_all-world.result in
    let h = subst (λ (es : List Event). HasMarks g.D.Device.contents g.D.Device.failures c.args.world.sizes c.args.world.harts es r.outcomes.items r.world.harts r.marks) c.in-Ok.ensures c.run_all-world.ensures.history in
    (r.marks, h, c.last_of.ensures, c.doubt_of.ensures)

pub returns-in-Ok-with_capacity-clause-notes : goal.returns-in-Ok-with_capacity-clause-notes
returns-in-Ok-with_capacity-clause-notes g c =
    let r = c.run_all-world.result in
    subst (λ (es : List Event). NotesRun g.D.Device.contents g.D.Device.failures g.O.Observer.Took c.args.world.sizes c.args.world.harts c.args.observer.now es r.outcomes.items r.world.harts c.run_all-world.new.observer) c.in-Ok.ensures c.run_all-world.ensures.notes
