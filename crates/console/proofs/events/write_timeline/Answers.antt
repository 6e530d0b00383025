use Rattle.console.proofs.Lemmas.{true, ap, ◌++◌, timeline_head, timeline_of, timeline_rows, tells_both}
use Rattle.console.proofs.events.write_timeline.Goals as goal

pub returns : goal.returns
returns g c =
    tells_both _ _ _ c.write_rows.result timeline_head (timeline_rows c.timeline.result.now) (timeline_of true c.args.notes.now) (ap (λ rows. timeline_head ++ timeline_rows rows) c.timeline.ensures)
    c.in_ok-writeln.ensures.bytes c.write_rows.ensures
