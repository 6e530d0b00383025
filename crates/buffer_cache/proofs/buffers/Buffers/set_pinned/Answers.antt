use Rattle.buffer_cache.proofs.Lemmas.{refl, has_block, with_pin, held_at, held_cached, keeps_pinned, chained_with}
use Rattle.buffer_cache.proofs.buffers.Buffers.set_pinned.Goals as goal

pub pin_in-requires : goal.pin_in-requires
pin_in-requires c = held_at c.self.inside.seats.items c.self.inside.order c.args.self.now c.args.guard.now c.self.invariant.kept.ordered c.self.view_is c.requires.once c.requires.held

pub invariant_of-self : goal.invariant_of-self
invariant_of-self c =
    let in_ = c.self.inside in
    let b = c.args.guard.now.value.block in
    record {
      kept = (keeps_pinned in_.slots in_.seats.items in_.order c.args.self.now c.pin_in.new.seats.items b c.args.pinned c.self.invariant.kept c.self.view_is c.requires.once (held_cached c.args.self.now c.args.guard.now c.requires.held) c.pin_in.ensures).all;
      chained = chained_with in_.seats.items c.pin_in.new.seats.items in_.chains (has_block b) (with_pin c.args.pinned) (λ _. refl) c.pin_in.ensures c.self.invariant.chained;
    }

pub returns : goal.returns
returns c =
    (keeps_pinned c.self.inside.slots c.self.inside.seats.items c.self.inside.order c.args.self.now c.pin_in.new.seats.items c.args.guard.now.value.block c.args.pinned c.self.invariant.kept c.self.view_is c.requires.once (held_cached c.args.self.now c.args.guard.now c.requires.held) c.pin_in.ensures).view
