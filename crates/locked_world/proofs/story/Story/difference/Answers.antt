use Rattle.locked_world.proofs.Lemmas.{◌≡◌, ◌≢◌, ◌∙◌, List, IfNone, IfSome, slice_get, sym, ap, subst, Reply, all_shown, replies_in, given_to, told_replies}
use Rattle.locked_world.proofs.story.Story.difference.Goals as goal

pub returns-clause-none : goal.returns-clause-none
returns-clause-none c =
    let i = c.self.inside in
    let h = c.args.hart in
    let same = ap (given_to h) c.deref.ensures.value ∙ sym (told_replies h i.notes.items i.calls.items i.replies.items c.self.invariant.harts) ∙ ap (λ s. replies_in h (all_shown s.events s.outcomes)) c.self.view_is in
    subst (λ (rs : List Reply). IfNone c.difference.result (c.args.replies.now ≡ rs)) same c.difference.ensures.none

pub returns-clause-some : goal.returns-clause-some
returns-clause-some c =
    let i = c.self.inside in
    let h = c.args.hart in
    let same = ap (given_to h) c.deref.ensures.value ∙ sym (told_replies h i.notes.items i.calls.items i.replies.items c.self.invariant.harts) ∙ ap (λ s. replies_in h (all_shown s.events s.outcomes)) c.self.view_is in
    subst (λ (rs : List Reply). IfSome c.difference.result (λ k. slice_get c.args.replies.now k ≢ slice_get rs k)) same c.difference.ensures.some
