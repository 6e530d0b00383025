use Rattle.console_threads.proofs.Lemmas.{rules, end_fails, end_prints}
use Rattle.console_threads.proofs.run.print.Goals as goal

pub returns-clause-printed : goal.returns-clause-printed
returns-clause-printed g c =
    end_prints c.args.mode c.args.image.now c.args.closed.now.stored c.args.events.now c.as_slice-outcomes.result.now c.in_ok-notes.notes c.finish_on.result (g.W.Write.contents c.args.out.now) (g.W.Write.contents c.write_harts.new.out) (g.W.Write.contents c.finish_on.new.out)
    (search rules) (search rules) (search rules) c.in_ok-notes.ensures c.finish_on.ensures

pub returns-clause-unprinted : goal.returns-clause-unprinted
returns-clause-unprinted g c = end_fails c.args.mode c.args.image.now _ c.finish_on.result _ _ c.finish_on.ensures
