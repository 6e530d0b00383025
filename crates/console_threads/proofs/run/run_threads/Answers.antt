use Rattle.console_threads.proofs.Lemmas.{rules, ◌≡◌, subst, IfErr, IfOk, blocks_of, bytes_for, IsWellFormed, JudgesRun, RunsThreads}
use Rattle.console_threads.proofs.run.run_threads.Goals as goal

pub returns-clause-runs : goal.returns-clause-runs
returns-clause-runs g c =
    let same : c.into_bytes-image.result.items ≡ bytes_for c.args.image = search rules in
    subst (λ image. RunsThreads c.args.mode image (g.S.Read.remaining c.args.script) c.run_over.result (g.W.Write.contents c.args.out.now) (g.W.Write.contents c.run_over.new.out)) same c.run_over.ensures.runs

pub returns-clause-mounted : goal.returns-clause-mounted
returns-clause-mounted g c =
    let same : c.into_bytes-image.result.items ≡ bytes_for c.args.image = search rules in
    subst (λ image. IfOk c.run_over.result (λ d. IsWellFormed (blocks_of image))) same c.run_over.ensures.mounted

pub returns-clause-refused : goal.returns-clause-refused
returns-clause-refused g c =
    let same : c.into_bytes-image.result.items ≡ bytes_for c.args.image = search rules in
    subst (λ image. IfErr c.run_over.result (JudgesRun (blocks_of image))) same c.run_over.ensures.refused
