use Rattle.console.proofs.Lemmas.{rules, ◌≡◌, Err, history_from, course, failed_course, with_course}
use Rattle.console.proofs.run.run_text.Goals as goal

pub returns-in_err-planned : goal.returns-in_err-planned
returns-in_err-planned g c =
    let is : c.from_residual.result ≡ Err c.in_err-planned.field-0.0 = search rules in
    failed_course g.D.Device.contents g.D.Device.failures c.args.mode (history_from c.args.session.now.world.sizes.version c.args.base.now) _ c.args.session.now c.in_err-planned.field-0.0 c.from_residual.result _ is
    c.in_err-planned.ensures

pub returns : goal.returns
returns g c =
    with_course g.D.Device.contents g.D.Device.failures c.args.mode (history_from c.args.session.now.world.sizes.version c.args.base.now) _ (course c.in_ok-planned.planned) c.args.session.now c.run_course.new.session c.run_course.result _ _
    c.in_ok-planned.ensures c.run_course.ensures
