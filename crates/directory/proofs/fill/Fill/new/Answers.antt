use Rattle.directory.specs.Vocabulary.{bind, P, WriteResult}
use Rattle.directory.specs.Filling.{dots, filled_by}
use Rattle.directory.proofs.Lemmas.{ap, ◌∙◌, sym, dots_long}
use Rattle.directory.proofs.fill.Fill.new.Goals as goal

pub returns-clause-program : goal.returns-clause-program
returns-clause-program c =
    let version = c.args.sizes.now.version in
    let bytes = dots version c.args.number c.args.parent in
    λ h. ap (λ (p : P WriteResult). bind p (filled_by version))
    (c.begin.ensures.program bytes h (dots_long version c.args.number c.args.parent ∙ sym c.new_directory_size.ensures))
