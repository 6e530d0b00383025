use Rattle.std.specs.Prelude.{nat_lt}
use Rattle.fs_machine.specs.Vocabulary.{list_any}
use Rattle.fs_machine.specs.Files.{names}
use Rattle.fs_machine.specs.declared.desk.Desk.{Desk}
use Rattle.fs_machine.proofs.Lemmas.{◌<◌, ◌∙◌, List, ap, named_any}
use Rattle.fs_machine.proofs.desk.Desks.is_named.Goals as goal

pub returns : goal.returns
returns c =
    let byte : c.args.place < 256 = c.ranges.place.fits in
    ap (nat_lt 0) (c.self.invariant.counted c.args.place byte) ∙ named_any c.args.place c.self.inside.desks ∙ ap (λ (l : List Desk). list_any (names c.args.place) l) c.self.view_is
