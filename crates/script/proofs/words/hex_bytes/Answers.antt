use Rattle.script.proofs.Lemmas.{rules, arith, min, length, Some, ap, sym, ◌∙◌, append-nil, option_and_then, chunks_rest, with_first, pairs_in, with_front, one_pair, no_pair, push_front}
use Rattle.script.proofs.words.hex_bytes.Goals as goal

pub returns-in_default : goal.returns-in_default
returns-in_default c =
    let came = c.in-Some.ensures.steps.1 in
    let size = ap (λ n. min n (length (chunks_rest c.loop-pair.pair-iterator))) c.loop-pair.invariant.2 in
    let read = one_pair (chunks_rest c.loop-pair.pair-iterator) c.in-Some.pair.now (chunks_rest c.next.new.self) came.0 (came.1 ∙ size) came.2 in
    sym c.loop-pair.invariant.3 ∙ ap (λ o. with_front c.loop-pair.bytes.items o) (read ∙ ap (λ o. option_and_then (λ b. with_first b (pairs_in (chunks_rest c.next.new.self))) o) (sym c.byte_of.ensures ∙ c.in_default.is))

pub loop-pair-preserved : goal.loop-pair-preserved
loop-pair-preserved c =
    let came = c.in-Some.ensures.steps.1 in
    let size = ap (λ n. min n (length (chunks_rest c.loop-pair.pair-iterator))) c.loop-pair.invariant.2 in
    let read = one_pair (chunks_rest c.loop-pair.pair-iterator) c.in-Some.pair.now (chunks_rest c.next.new.self) came.0 (came.1 ∙ size) came.2 in
    let byte = ap (λ o. option_and_then (λ b. with_first b (pairs_in (chunks_rest c.next.new.self))) o) (sym c.byte_of.ensures ∙ c.in-Some-byte_of.is) in
    let two = c.in-Some.ensures.steps.0 ∙ c.loop-pair.invariant.2 in (
      omega (arith, two),
      tt,
      two,
      ap (λ bs. with_front bs (pairs_in (chunks_rest c.next.new.self))) (search rules) ∙ sym (push_front c.loop-pair.bytes.items c.in-Some-byte_of.byte (pairs_in (chunks_rest c.next.new.self))) ∙ sym (ap (λ o. with_front c.loop-pair.bytes.items o) (read ∙ byte)) ∙ c.loop-pair.invariant.3,
    )

pub returns : goal.returns
returns c =
    sym c.loop-pair.invariant.3 ∙ ap (λ o. with_front c.loop-pair.bytes.items o) (no_pair (chunks_rest c.loop-pair.pair-iterator) c.in-None.ensures.steps.1.0) ∙ ap Some (append-nil c.loop-pair.bytes.items)
