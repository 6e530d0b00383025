use Rattle.console.proofs.Lemmas.{rules, ◌≡◌, Err, end_untold, input_ends, line_answered, unasked, unread}
use Rattle.console.proofs.prompt.prompt_line.Goals as goal

pub returns-in_err-ask : goal.returns-in_err-ask
returns-in_err-ask g c =
    let fails : c.from_residual.result ≡ Err c.in_err-ask.field-0.0 = search rules in
    unasked g.D.Device.contents g.D.Device.failures c.args.help.now c.args.number _ _ c.in_err-ask.field-0.0 c.from_residual.result _ _ _ _ fails c.in_err-ask.ensures.written

pub returns-in_err-read_line : goal.returns-in_err-read_line
returns-in_err-read_line g c =
    let fails : c.from_residual-in_err-read_line.result ≡ Err c.in_err-read_line.field-0.0 = search rules in
    unread g.D.Device.contents g.D.Device.failures c.args.help.now c.args.number _ _ c.in_err-read_line.field-0.0 c.from_residual-in_err-read_line.result _ _ _ _ _ _ fails c.in_ok-ask.ensures.prints c.in_err-read_line.ensures.unread

pub returns-then-branch : goal.returns-then-branch
returns-then-branch g c =
    let same : c.as_slice.result.now ≡ c.read_line.new.line.items = search rules in
    line_answered g.D.Device.contents g.D.Device.failures c.args.help.now c.args.number _ _ c.read_line.new.line.items c.as_slice.result.now c.in_ok-read_line.field-0 _ _ _ _ _ _ _ c.answer.result c.if-branch.true same c.in_ok-read_line.ensures.line c.in_ok-ask.ensures.prints c.answer.ensures

pub returns-in_err-tell : goal.returns-in_err-tell
returns-in_err-tell g c =
    let fails : c.from_residual-in_err-tell.result ≡ Err c.in_err-tell.field-0.0 = search rules in
    end_untold g.D.Device.contents g.D.Device.failures c.args.help.now c.args.number _ _ c.read_line.new.line.items c.in_ok-read_line.field-0 c.in_err-tell.field-0.0 c.from_residual-in_err-tell.result _ _ _ _ _ fails c.if-branch.false c.in_ok-read_line.ensures.line c.in_ok-ask.ensures.prints c.in_err-tell.ensures.written

pub returns : goal.returns
returns g c =
    input_ends g.D.Device.contents g.D.Device.failures c.args.help.now c.args.number _ _ c.read_line.new.line.items c.in_ok-read_line.field-0 _ _ _ _ _ c.if-branch.false c.in_ok-read_line.ensures.line c.in_ok-ask.ensures.prints c.in_ok-tell.ensures.prints
