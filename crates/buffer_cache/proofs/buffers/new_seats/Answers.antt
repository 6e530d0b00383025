use Rattle.buffer_cache.proofs.Lemmas.{◌∷◌, ◌++◌, [], List, ◌∙◌, ap, SeatState, unused_from, unused_push, no_unused}
use Rattle.buffer_cache.proofs.buffers.new_seats.Goals as goal

pub loop-number-init : goal.loop-number-init
loop-number-init c = c.in_ok-seats.ensures.items ∙ no_unused

pub loop-number-preserved : goal.loop-number-preserved
loop-number-preserved c =
    c.in_ok-push.ensures.items
    ∙ ap (λ (l : List SeatState). l ++ c.new.result ∷ []) c.loop-number.invariant
    ∙ ap (λ (s : SeatState). unused_from 0 c.loop-number.number ++ s ∷ []) c.new.ensures
    ∙ unused_push c.loop-number.number
