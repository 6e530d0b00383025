use Rattle.locked_world.proofs.Lemmas.{ap, refl, noted_start, start_event, plain_outcome, noted_here}
use Rattle.locked_world.proofs.story.Story.refused.Goals as goal

pub invariant_of-self : goal.invariant_of-self
invariant_of-self c =
    let i = c.self.inside in
    noted_here _ _ _ _ _ _ c.push_reserved.ensures.items c.push_reserved-2.ensures.items refl (noted_start i.notes.items i.calls.items i.replies.items _ c.args.call c.self.invariant refl refl)

pub returns-clause-events : goal.returns-clause-events
returns-clause-events c =
    let i = c.self.inside in
    start_event i.notes.items _ i.calls.items i.replies.items _ _ c.args.call c.push_reserved.ensures.items c.push_reserved-2.ensures.items c.self.invariant refl _ (ap (λ s. s.events) c.self.view_is)

pub returns-clause-outcomes : goal.returns-clause-outcomes
returns-clause-outcomes c =
    let i = c.self.inside in
    plain_outcome i.notes.items _ i.calls.items i.replies.items _ c.push_reserved.ensures.items c.self.invariant refl _ (ap (λ s. s.outcomes) c.self.view_is)
