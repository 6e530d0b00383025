use Rattle.buffer_cache.proofs.Lemmas.{◌≡◌, ℕ, List, Some, sym, ◌∙◌, ap, same_Some, IfSome_each, BufferState, has_block, with_content, place_change}
use Rattle.buffer_cache.proofs.buffers.keep_in.Goals as goal

pub returns : goal.returns
returns c =
    let place = c.requires.place ∙ ap (λ (n : ℕ). Some n) (sym c.number.ensures) in
    IfSome_each c.args.guard.now.value.content
    (λ bytes is.
    let same : c.bytes.result.now ≡ bytes = same_Some c.bytes.result.now bytes (c.bytes.ensures ∙ ap (λ (v : BufferState). v.content) c.value.ensures ∙ is) in
    place_change (has_block c.args.guard.now.value.block) (with_content bytes) c.args.seats.now.items c.number.result _ _ place
    (ap (with_content bytes) (sym c.index_mut-seat.ensures.value) ∙ ap (λ (x : List ℕ). with_content x c.index_mut-seat.result.now) (sym same) ∙ sym c.keep.ensures))
