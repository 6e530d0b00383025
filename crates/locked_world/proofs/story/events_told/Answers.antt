use Rattle.locked_world.proofs.Lemmas.{rules, ◌≡◌, ◌∙◌, ◌++◌, ◌+◌, arith, drop, get_or, sym, ap, Note, noted_events, told_start, told_step, same_at}
use Rattle.locked_world.specs.declared.note.What.TheVariants as what
use Rattle.locked_world.proofs.story.events_told.Goals.{then-is_start+in_ok-start_told+in_ok-push, else-is_start+in_ok-push-2}
use Rattle.locked_world.proofs.story.events_told.Goals as goal

pub loop-i-preserved : goal.loop-i-preserved
loop-i-preserved c =
    let ns = c.args.notes.now in
    let cs = c.args.calls.now in
    let i = c.loop-i.i in
    let n : Note = get_or ns i (record { hart = 0; what = what.Started }) in
    let is : n ≡ get_or ns i n = same_at ns i _ _ c.loop-i-test.true in
    elim c.if-is_start.branch [
      | then-is_start+in_ok-start_told+in_ok-push w ↦ rw w.place-is (rw w.events-is (
        ap (λ xs. xs ++ noted_events (drop (i + 1) ns) (drop (c.loop-i.place + 1) cs)) (search rules) ∙ told_start c.loop-i.events.items ns cs i c.loop-i.place n w.in_ok-start_told.field-0 c.loop-i-test.true is (sym c.is_start.ensures ∙ w.if-is_start.true) (search rules) c.loop-i.invariant.0,
        omega (arith, c.loop-i.invariant.1),
      ))
      | else-is_start+in_ok-push-2 w ↦ rw w.place-is (rw w.events-is (
        ap (λ xs. xs ++ noted_events (drop (i + 1) ns) (drop c.loop-i.place cs)) (search rules) ∙ told_step c.loop-i.events.items ns cs i c.loop-i.place n c.loop-i-test.true is (sym c.is_start.ensures ∙ w.if-is_start.false) c.loop-i.invariant.0,
        omega (arith, c.loop-i.invariant.1),
      ))
    ]
