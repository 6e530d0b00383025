use Rattle.locked_world.proofs.Lemmas.{ap, refl, noted_reply, plain_event, reply_outcome, noted_here}
use Rattle.locked_world.proofs.story.Story.done.Goals as goal

pub invariant_of-self : goal.invariant_of-self
invariant_of-self c =
    let i = c.self.inside in
    noted_here _ _ _ _ _ _ c.push_reserved.ensures.items refl c.push_reserved-2.ensures.items (noted_reply i.notes.items i.calls.items i.replies.items c.args.hart c.args.reply c.self.invariant)

pub returns-clause-events : goal.returns-clause-events
returns-clause-events c =
    let i = c.self.inside in
    plain_event i.notes.items _ i.calls.items i.replies.items _ c.push_reserved.ensures.items c.self.invariant refl _ (ap (λ s. s.events) c.self.view_is)

pub returns-clause-outcomes : goal.returns-clause-outcomes
returns-clause-outcomes c =
    let i = c.self.inside in
    reply_outcome i.notes.items _ i.calls.items i.replies.items _ c.args.hart _ c.push_reserved.ensures.items c.push_reserved-2.ensures.items c.self.invariant _ (ap (λ s. s.outcomes) c.self.view_is)
