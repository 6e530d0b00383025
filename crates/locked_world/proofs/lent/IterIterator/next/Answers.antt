use Rattle.locked_world.proofs.Lemmas.{rules, ◌∙◌, sym, ap, length, first_pair, no_pair}
use Rattle.locked_world.proofs.lent.IterIterator.next.Goals as goal

pub returns-in_err-note-clause-steps : goal.returns-in_err-note-clause-steps
returns-in_err-note-clause-steps c =
    let i = c.self.inside in
    let none = sym c.self.view_is ∙ no_pair i.notes.now i.calls.now i.replies.now c.in_err-note.ensures.cases in
    rw c.from_residual.ensures (none, none)

pub returns-clause-steps : goal.returns-clause-steps
returns-clause-steps c =
    let i = c.self.inside in
    sym c.self.view_is ∙ first_pair i.notes.now _ i.calls.now _ i.replies.now _ c.in_ok-note.note.now _ _ c.in_ok-note.ensures.cases.0 c.event_lent.ensures.event c.event_lent.ensures.left c.came_lent.ensures.came c.came_lent.ensures.left

pub returns-clause-goes : goal.returns-clause-goes
returns-clause-goes c =
    let i = c.self.inside in
    let split = sym c.self.view_is ∙ first_pair i.notes.now _ i.calls.now _ i.replies.now _ c.in_ok-note.note.now _ _ c.in_ok-note.ensures.cases.0 c.event_lent.ensures.event c.event_lent.ensures.left c.came_lent.ensures.came c.came_lent.ensures.left in
    let shorter = ap length split in search rules
