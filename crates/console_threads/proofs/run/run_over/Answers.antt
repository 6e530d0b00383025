use Rattle.console_threads.proofs.Lemmas.{rules, ◌≡◌, subst, RunsThreads, if_ok, mount_judged, run_judged, unopened}
use Rattle.console_threads.proofs.run.run_over.Goals as goal

pub returns-in-Err-clause-runs : goal.returns-in-Err-clause-runs
returns-in-Err-clause-runs g c = rw c.from.ensures (unopened (g.S.Read.remaining c.args.script) c.in-Err.fault (g.W.Write.contents c.args.out.now))

pub returns-in-Err-clause-refused : goal.returns-in-Err-clause-refused
returns-in-Err-clause-refused g c = rw c.from.ensures (mount_judged _ c.in-Err.fault c.in-Err.ensures.fault)

pub returns-clause-runs : goal.returns-clause-runs
returns-clause-runs g c =
    let same : c.as_slice.result.now ≡ c.args.image.items = search rules in
    subst (λ image. RunsThreads c.args.mode image (g.S.Read.remaining c.args.script) c.run_open.result (g.W.Write.contents c.args.out.now) (g.W.Write.contents c.run_open.new.out)) same c.run_open.ensures.runs

pub returns-clause-mounted : goal.returns-clause-mounted
returns-clause-mounted g c = if_ok c.run_open.result c.in-Ok.ensures.well

pub returns-clause-refused : goal.returns-clause-refused
returns-clause-refused g c = run_judged _ c.run_open.result c.in-Ok.ensures.well c.run_open.ensures.mounted
