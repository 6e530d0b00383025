use Rattle.console.proofs.Lemmas.{rules, tests, refl, ◌≡◌, Ok, Err, ℕ, List, ap, subst, blocks_of, IsWellFormed, history_at, JudgesImage, RunsReader, run_judged, image_run, image_untaken, not_taken, ran_on, refused_judged, came_calm}
use Rattle.console.proofs.run.run_script.Goals as goal

pub returns-in_err-disk-clause-refused : goal.returns-in_err-disk-clause-refused
returns-in_err-disk-clause-refused g c = let a = c.in_err-disk.ensures.memory in search (rules, tests, a)

pub returns-in_err-base-clause-runs : goal.returns-in_err-base-clause-runs
returns-in_err-base-clause-runs g c =
    let is : c.from_residual-in_err-base.result ≡ Err c.in_err-base.field-0.0 = search rules in
    image_untaken c.args.mode c.args.image (g.R.Read.remaining c.args.script) _ (g.W.Write.contents c.args.out.now) _ c.if-mode.false
    (not_taken _ c.in_err-base.field-0.0 _ (g.W.Write.contents c.args.out.now) is c.in_err-base.ensures.refused)

pub returns-in_err-base-clause-refused : goal.returns-in_err-base-clause-refused
returns-in_err-base-clause-refused g c =
    let is : c.from_residual-in_err-base.result ≡ Err c.in_err-base.field-0.0 = search rules in
    let judged : JudgesImage (blocks_of c.in_ok-disk.disk) c.in_err-base.field-0.0 = refused_judged _ c.in_err-base.field-0.0 c.in_err-base.ensures.refused in
    rw is (subst (λ (d : List ℕ). JudgesImage (blocks_of d) c.in_err-base.field-0.0) c.in_ok-disk.ensures.disk judged)

pub returns-in_err-ended-clause-runs : goal.returns-in_err-ended-clause-runs
returns-in_err-ended-clause-runs g c =
    let is : c.from_residual-in_err-ended.result ≡ Err c.in_err-ended.field-0.0 = search rules in
    let was : c.run_on-ended.result ≡ Err c.in_err-ended.field-0.0 = search rules in
    let ran = subst (λ r. RunsReader blocks_of (λ d. 0) c.args.mode (history_at blocks_of (λ d. 0) c.in_ok-base.field-0.session c.in_ok-base.field-0.base) c.in_ok-base.field-0.session (g.R.Read.remaining c.args.script) r c.run_on-ended.new.session (g.W.Write.contents c.args.out.now) (g.W.Write.contents c.run_on-ended.new.out)) was c.run_on-ended.ensures in
    image_run c.args.mode c.args.image c.in_ok-disk.disk (g.R.Read.remaining c.args.script) _ _ _ c.if-mode.false c.in_ok-disk.ensures.disk
    (ran_on c.args.mode c.in_ok-disk.disk c.in_ok-base.field-0.base c.in_ok-base.field-0.session c.run_on-ended.new.session c.in_ok-base.ensures.mounted (g.R.Read.remaining c.args.script) (Err c.in_err-ended.field-0.0) _ _ _ ran is)

pub returns-in_err-ended-clause-refused : goal.returns-in_err-ended-clause-refused
returns-in_err-ended-clause-refused g c =
    let is : c.from_residual-in_err-ended.result ≡ Err c.in_err-ended.field-0.0 = search rules in
    let was : c.run_on-ended.result ≡ Err c.in_err-ended.field-0.0 = search rules in
    let on = c.in_ok-base.ensures.mounted in
    let ran = subst (λ r. RunsReader blocks_of (λ d. 0) c.args.mode (history_at blocks_of (λ d. 0) c.in_ok-base.field-0.session c.in_ok-base.field-0.base) c.in_ok-base.field-0.session (g.R.Read.remaining c.args.script) r c.run_on-ended.new.session (g.W.Write.contents c.args.out.now) (g.W.Write.contents c.run_on-ended.new.out)) was c.run_on-ended.ensures in
    let judged : JudgesImage (blocks_of c.in_ok-disk.disk) c.in_err-ended.field-0.0 =
    run_judged blocks_of (λ d. 0) (came_calm blocks_of (λ d. 0) (λ d. refl)) (blocks_of c.in_ok-disk.disk) on.starts.well c.args.mode (history_at blocks_of (λ d. 0) c.in_ok-base.field-0.session c.in_ok-base.field-0.base) c.in_ok-base.field-0.session c.run_on-ended.new.session (g.R.Read.remaining c.args.script) c.in_err-ended.field-0.0 _ _ on.starts.mounted.rests.runs ran in
    rw is (subst (λ (d : List ℕ). JudgesImage (blocks_of d) c.in_err-ended.field-0.0) c.in_ok-disk.ensures.disk judged)

pub returns-clause-runs : goal.returns-clause-runs
returns-clause-runs g c =
    let was : c.run_on-ended.result ≡ Ok tt = search rules in
    let ran = subst (λ r. RunsReader blocks_of (λ d. 0) c.args.mode (history_at blocks_of (λ d. 0) c.in_ok-base.field-0.session c.in_ok-base.field-0.base) c.in_ok-base.field-0.session (g.R.Read.remaining c.args.script) r c.run_on-ended.new.session (g.W.Write.contents c.args.out.now) (g.W.Write.contents c.run_on-ended.new.out)) was c.run_on-ended.ensures in
    image_run c.args.mode c.args.image c.in_ok-disk.disk (g.R.Read.remaining c.args.script) _ _ _ c.if-mode.false c.in_ok-disk.ensures.disk
    (ran_on c.args.mode c.in_ok-disk.disk c.in_ok-base.field-0.base c.in_ok-base.field-0.session c.run_on-ended.new.session c.in_ok-base.ensures.mounted (g.R.Read.remaining c.args.script) (Ok tt) _ _ _ ran (ap Ok c.unmount-disk.ensures))

pub returns-clause-mounted : goal.returns-clause-mounted
returns-clause-mounted g c = subst (λ (d : List ℕ). IsWellFormed (blocks_of d)) c.in_ok-disk.ensures.disk c.in_ok-base.ensures.mounted.starts.well
