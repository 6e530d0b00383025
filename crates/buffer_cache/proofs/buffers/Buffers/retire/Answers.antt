use Rattle.buffer_cache.proofs.Lemmas.{◌<◌, ℕ, sym, subst, held_within}
use Rattle.buffer_cache.proofs.buffers.Buffers.retire.Goals as goal

pub returns : goal.returns
returns c guard held =
    subst (λ (n : ℕ). guard.number < n) (sym c.retire.ensures) (held_within c.self.inside.slots c.self.inside.seats.items c.self.inside.order c.args.self guard c.self.invariant.kept c.self.view_is held)
