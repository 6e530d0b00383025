use Rattle.tree_histories.proofs.Lemmas.{ap, sym, subst, ◌∙◌, replies, IsBook, KeptTree, passed, book_replies}
use Rattle.tree_histories.proofs.kept.Kept.replies.Goals as goal

pub returns-clause-book : goal.returns-clause-book
returns-clause-book c b r lt B =
    subst (λ (k : KeptTree). IsBook k (replies b c.args.hart r)) (sym (c.passes.ensures.kept ∙ ap (λ (k : KeptTree). passed k) c.put.ensures)) (book_replies c.args.self.now b c.args.hart r lt B)
