use Rattle.explain.proofs.Lemmas.{◌∙◌, sym, so_told}
use Rattle.explain.proofs.history.explain.Goals as goal

pub returns : goal.returns
returns c =
    let played = c.in_ok-outcomes.ensures in
    so_told c.args.image.now c.args.events.now played.run c.explain_noted.result
    (c.explain_noted.ensures.owns c.args.image.now played.run (sym played.outcomes ∙ sym c.deref.ensures.value) played.keeps)
