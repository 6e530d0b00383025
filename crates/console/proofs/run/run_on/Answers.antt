use Rattle.console.proofs.Lemmas.{rules, ◌≡◌, Err, sym, subst, history_at, history_from, RunsReader, at_is, reader_again, was_read}
use Rattle.console.proofs.Running.{unread}
use Rattle.console.proofs.run.run_on.Goals as goal

pub returns-in_err-text : goal.returns-in_err-text
returns-in_err-text g c =
    let is : c.from_residual.result ≡ Err c.in_err-text.field-0.0 = search rules in
    subst (λ r. RunsReader g.D.Device.contents g.D.Device.failures c.args.mode (history_at g.D.Device.contents g.D.Device.failures c.args.session.now c.args.base.now) c.args.session.now (g.R.Read.remaining c.args.script) r c.args.session.now (g.W.Write.contents c.args.out.now) (g.W.Write.contents c.args.out.now)) (sym is)
    (unread g.D.Device.contents g.D.Device.failures c.args.mode (history_at g.D.Device.contents g.D.Device.failures c.args.session.now c.args.base.now) c.args.session.now (g.R.Read.remaining c.args.script) c.in_err-text.field-0.0 (g.W.Write.contents c.args.out.now) c.in_err-text.ensures.unread)

pub returns : goal.returns
returns g c =
    let same : c.as_slice.result.now ≡ c.in_ok-text.text.items = search rules in
    reader_again g.D.Device.contents g.D.Device.failures c.args.mode (history_from c.args.session.now.world.sizes.version c.args.base.now) (history_at g.D.Device.contents g.D.Device.failures c.args.session.now c.args.base.now) c.args.session.now
    (λ wanted. at_is g.D.Device.contents g.D.Device.failures c.args.base.now c.args.session.now) (g.R.Read.remaining c.args.script) c.run_text.result c.run_text.new.session (g.W.Write.contents c.args.out.now) _
    (was_read g.D.Device.contents g.D.Device.failures c.args.mode (history_from c.args.session.now.world.sizes.version c.args.base.now) c.args.session.now c.run_text.new.session (g.R.Read.remaining c.args.script) c.in_ok-text.text.items c.as_slice.result.now c.run_text.result (g.W.Write.contents c.args.out.now) _ c.in_ok-text.ensures.text same c.run_text.ensures)
