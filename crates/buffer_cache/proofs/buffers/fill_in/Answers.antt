use Rattle.buffer_cache.proofs.Lemmas.{◌≡◌, ℕ, List, Some, sym, ◌∙◌, ap, same_Some, block_at, BufferState, has_block, with_content, place_change}
use Rattle.buffer_cache.proofs.buffers.fill_in.Goals as goal

pub read-requires-clause-unread : goal.read-requires-clause-unread
read-requires-clause-unread g c = ap (λ (v : BufferState). v.content) c.value_mut.ensures.value ∙ c.requires.unread

pub returns-clause-seats : goal.returns-clause-seats
returns-clause-seats g c =
    let gb = c.args.guard.now.value.block in
    let contents = g.D.Device.contents c.args.device.now in
    let bytes : Some c.bytes.result.now ≡ Some (block_at contents gb) = c.bytes.ensures
    ∙ ap (λ (v : BufferState). v.content) (c.value.ensures ∙ c.in_ok-read.ensures.ok)
    ∙ ap (λ (v : BufferState). Some (block_at contents v.block)) c.value_mut.ensures.value in
    place_change (has_block gb) (with_content (block_at contents gb)) c.args.seats.now.items c.number.result _ _
    (c.requires.place ∙ ap (λ (n : ℕ). Some n) (sym c.number.ensures))
    (ap (with_content (block_at contents gb)) (sym c.index_mut-seat.ensures.value)
    ∙ ap (λ (l : List ℕ). with_content l c.index_mut-seat.result.now) (sym (same_Some c.bytes.result.now (block_at contents gb) bytes))
    ∙ sym c.keep.ensures)
