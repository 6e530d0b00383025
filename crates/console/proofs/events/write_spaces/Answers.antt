use Rattle.console.proofs.Lemmas.{subst, OnOk, Appends, spaces_are}
use Rattle.console.proofs.events.write_spaces.Goals as goal

pub returns : goal.returns
returns g c =
    subst (λ xs. OnOk c.write_all.result (Appends (g.W.Write.contents c.args.out.now) (g.W.Write.contents c.write_all.new.self) xs)) (spaces_are c.min-before.result c.args.hart c.min-before.ensures) c.write_all.ensures.bytes
