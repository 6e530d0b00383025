use Rattle.locked_world.proofs.Lemmas.{subst, HasOneHistory, explained_run}
use Rattle.locked_world.proofs.closed.Closed.one_list_explains_it.Goals as goal

pub returns : goal.returns
returns g c =
    let i = c.self.inside in
    subst HasOneHistory c.self.view_is (c.self.invariant, explained_run (record { image = i.image.items; fuse = i.fuse; events = i.story.events; outcomes = i.story.outcomes }))
