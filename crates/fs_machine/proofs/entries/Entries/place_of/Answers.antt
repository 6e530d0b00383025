use Rattle.std.specs.Prelude.{position}
use Rattle.fs_machine.specs.Tables.{is_for}
use Rattle.fs_machine.proofs.Lemmas.{◌∙◌, ap, arith, List, Entry, sought_used}
use Rattle.fs_machine.proofs.entries.Entries.place_of.Goals as goal

pub returns : goal.returns
returns c =
    let inside = c.self.invariant in
    let within = inside.within in
    let long = inside.places in
    c.place_in.ensures
    ∙ sought_used c.args.number c.self.inside.entries c.self.inside.used inside.free (omega (arith, within, long))
    ∙ ap (λ (l : List Entry). position (is_for c.args.number) l) c.self.view_is
