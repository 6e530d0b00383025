use Rattle.locked_world.proofs.Lemmas.{◌≡◌, ◌∙◌, ap, map, Came, Event, noted_pairs, pair_events, pair_outcomes}
use Rattle.locked_world.proofs.story.Story.iter.Goals as goal

pub returns-clause-events : goal.returns-clause-events
returns-clause-events c =
    let i = c.self.inside in
    let same : c.new.result ≡ noted_pairs i.notes.items i.calls.items i.replies.items = c.new.ensures ∙ (λ j. noted_pairs (c.deref.ensures.value j) (c.deref-2.ensures.value j) (c.deref-3.ensures.value j)) in
    ap (map (λ (p : Event × Came). p.0)) same ∙ pair_events i.notes.items i.calls.items i.replies.items ∙ ap (λ s. s.events) c.self.view_is

pub returns-clause-outcomes : goal.returns-clause-outcomes
returns-clause-outcomes c =
    let i = c.self.inside in
    let same : c.new.result ≡ noted_pairs i.notes.items i.calls.items i.replies.items = c.new.ensures ∙ (λ j. noted_pairs (c.deref.ensures.value j) (c.deref-2.ensures.value j) (c.deref-3.ensures.value j)) in
    ap (map (λ (p : Event × Came). p.1)) same ∙ pair_outcomes i.notes.items i.calls.items i.replies.items ∙ ap (λ s. s.outcomes) c.self.view_is
