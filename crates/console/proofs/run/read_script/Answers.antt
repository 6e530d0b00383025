use Rattle.console.proofs.Lemmas.{rules, arith, ◌<◌, ◌+◌, length, whole_text}
use Rattle.console.proofs.run.read_script.Goals as goal

pub returns-clause-text : goal.returns-clause-text
returns-clause-text g c =
    let few : length c.read_to_end.new.buf.items < c.args.longest + 1 = omega (arith, c.len.ensures, c.if-len-longest.false, c.read_to_end.new.buf.ok.0) in
    whole_text (g.R.Read.remaining c.args.script) (c.args.longest + 1) c.read_to_end.new.buf.items (search rules) few
