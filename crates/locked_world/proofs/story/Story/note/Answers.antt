use Rattle.locked_world.proofs.Lemmas.{ap, subst, sym, IsNoted, noted_plain, plain_event, plain_outcome}
use Rattle.locked_world.proofs.story.Story.note.Goals as goal

pub invariant_of-self : goal.invariant_of-self
invariant_of-self c =
    let i = c.self.inside in
    subst (λ ns. IsNoted ns i.calls.items i.replies.items) (sym c.push_reserved.ensures.items) (noted_plain i.notes.items i.calls.items i.replies.items _ c.self.invariant c.requires.plain.0 c.requires.plain.1)

pub returns-clause-events : goal.returns-clause-events
returns-clause-events c =
    let i = c.self.inside in
    plain_event i.notes.items _ i.calls.items i.replies.items _ c.push_reserved.ensures.items c.self.invariant c.requires.plain.0 _ (ap (λ s. s.events) c.self.view_is)

pub returns-clause-outcomes : goal.returns-clause-outcomes
returns-clause-outcomes c =
    let i = c.self.inside in
    plain_outcome i.notes.items _ i.calls.items i.replies.items _ c.push_reserved.ensures.items c.self.invariant c.requires.plain.1 _ (ap (λ s. s.outcomes) c.self.view_is)
