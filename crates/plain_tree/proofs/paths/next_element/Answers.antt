use Rattle.plain_tree.proofs.Lemmas.{◌∙◌, sym, no_elements}
use Rattle.plain_tree.proofs.paths.next_element.Goals as goal

pub returns : goal.returns
returns c = sym c.loop-rest.invariant.0 ∙ no_elements c.args.version c.loop-rest.rest.now (sym c.is_empty.ensures ∙ c.loop-rest-test.false)
