use Rattle.buffer_cache.proofs.Lemmas.{ℕ, Some, sym, ◌∙◌, ap, has_block, with_pin, place_change}
use Rattle.buffer_cache.proofs.buffers.pin_in.Goals as goal

pub returns : goal.returns
returns c =
    place_change (has_block c.args.guard.now.value.block) (with_pin c.args.pinned) c.args.seats.now.items c.number.result _ _
    (c.requires ∙ ap (λ (n : ℕ). Some n) (sym c.number.ensures))
    (ap (with_pin c.args.pinned) (sym c.index_mut-seat.ensures.value) ∙ sym c.set_pinned.ensures)
