use Rattle.console_threads.proofs.Lemmas.{arith, ◌+◌, ◌<◌, ◌≤◌, ◌∙◌, ap, sym, drop, length, min, noted_in, note_end, note_more}
use Rattle.console_threads.proofs.tell.notes_of.Goals as goal

pub loop-i-preserved : goal.loop-i-preserved
loop-i-preserved c =
    let here : c.loop-i.i < length c.args.events.now = omega arith in
    let there : c.loop-i.i < length c.args.outcomes.now = omega arith in
    ap (λ n. noted_in n (drop (c.loop-i.i + 1) c.args.events.now) (drop (c.loop-i.i + 1) c.args.outcomes.now)) c.in_ok-note_event.ensures
    ∙ note_more c.loop-i.notes c.args.events.now c.args.outcomes.now c.loop-i.i c.index-events-i.result c.index-outcomes-i.result here there c.index-events-i.is c.index-outcomes-i.is
    ∙ c.loop-i.invariant

pub returns : goal.returns
returns c =
    let all : min (length c.args.events.now) (length c.args.outcomes.now) ≤ c.loop-i.i = omega arith in
    sym (note_end c.loop-i.notes c.args.events.now c.args.outcomes.now c.loop-i.i all) ∙ c.loop-i.invariant
