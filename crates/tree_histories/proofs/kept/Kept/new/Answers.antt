use Rattle.tree_histories.proofs.Lemmas.{◌≡◌, List, [], false, replicate, None, sym, subst, Placed, nothing_yet, hart_count, IsBook, KeptTree, book_none}
use Rattle.tree_histories.proofs.kept.Kept.new.Goals as goal

pub returns-clause-book : goal.returns-clause-book
returns-clause-book c =
    let is : c.new.result.items ≡ [] = c.new.ensures.items in
    subst (λ (xs : List Placed). let k : KeptTree = record { version = c.args.version; tree = c.args.tree; list = xs; events = 0; calls = 0; harts = replicate hart_count None; full = false } in IsBook k nothing_yet) (sym is) (book_none c.args.version c.args.tree)
