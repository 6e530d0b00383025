use Rattle.locked_world.proofs.Lemmas.{rules, ◌≡◌, ◌∙◌, ◌++◌, ◌+◌, arith, drop, get_or, sym, ap, Note, noted_outcomes, told_reply, told_plain, same_at}
use Rattle.locked_world.specs.declared.note.What.TheVariants as what
use Rattle.locked_world.proofs.story.outcomes_told.Goals.{then-is_reply+in_ok-reply_told+in_ok-push, else-is_reply+in_ok-push-2}
use Rattle.locked_world.proofs.story.outcomes_told.Goals as goal

pub loop-i-preserved : goal.loop-i-preserved
loop-i-preserved c =
    let ns = c.args.notes.now in
    let gs = c.args.replies.now in
    let i = c.loop-i.i in
    let n : Note = get_or ns i (record { hart = 0; what = what.Started }) in
    let is : n ≡ get_or ns i n = same_at ns i _ _ c.loop-i-test.true in
    elim c.if-is_reply.branch [
      | then-is_reply+in_ok-reply_told+in_ok-push w ↦ rw w.place-is (rw w.outcomes-is (
        ap (λ xs. xs ++ noted_outcomes (drop (i + 1) ns) (drop (c.loop-i.place + 1) gs)) (search rules) ∙ told_reply c.loop-i.outcomes.items ns gs i c.loop-i.place n w.in_ok-reply_told.field-0 c.loop-i-test.true is (sym c.is_reply.ensures ∙ w.if-is_reply.true) (search rules) c.loop-i.invariant.0,
        omega (arith, c.loop-i.invariant.1),
      ))
      | else-is_reply+in_ok-push-2 w ↦ rw w.place-is (rw w.outcomes-is (
        ap (λ xs. xs ++ noted_outcomes (drop (i + 1) ns) (drop c.loop-i.place gs)) (search rules) ∙ told_plain c.loop-i.outcomes.items ns gs i c.loop-i.place n c.loop-i-test.true is (sym c.is_reply.ensures ∙ w.if-is_reply.false) c.loop-i.invariant.0,
        omega (arith, c.loop-i.invariant.1),
      ))
    ]
