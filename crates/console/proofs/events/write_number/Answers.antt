use Rattle.console.proofs.Lemmas.{◌++◌, subst, OnOk, codes, styled_decimal, Appends}
use Rattle.console.proofs.events.write_number.Goals as goal

pub returns : goal.returns
returns g c =
    subst (λ f. OnOk c.write.result (Appends (g.W.Write.contents c.args.out.now) (g.W.Write.contents c.write.new.self) (styled_decimal f c.args.number ++ codes "  "))) c.laid_out.ensures c.write.ensures.bytes
