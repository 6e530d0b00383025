use Rattle.console_threads.proofs.Lemmas.{map, told_mounted, told_run, unasked, unasked_mounted}
use Rattle.console_threads.proofs.run.run_open.Goals as goal

pub returns-in-Err-clause-runs : goal.returns-in-Err-clause-runs
returns-in-Err-clause-runs g c = unasked (g.S.Read.remaining c.args.script) c.in-Err.fault (g.W.Write.contents c.args.out.now) c.in-Err.ensures.err

pub returns-in-Err-clause-mounted : goal.returns-in-Err-clause-mounted
returns-in-Err-clause-mounted g c = unasked_mounted (g.S.Read.remaining c.args.script) c.in-Err.fault c.in-Err.ensures.err

pub returns-clause-runs : goal.returns-clause-runs
returns-clause-runs g c =
    told_run c.args.mode c.args.image.now (g.S.Read.remaining c.args.script) (map (λ v. v.items) c.in-Ok.asked.calls) (map (λ v. v.items) c.in-Ok.asked.copies) c.tell.result (g.W.Write.contents c.args.out.now) (g.W.Write.contents c.tell.new.out)
    c.in-Ok.ensures.copies c.in-Ok.ensures.calls c.tell.ensures

pub returns-clause-mounted : goal.returns-clause-mounted
returns-clause-mounted g c = told_mounted c.args.mode c.args.image.now _ c.tell.result _ _ c.tell.ensures
