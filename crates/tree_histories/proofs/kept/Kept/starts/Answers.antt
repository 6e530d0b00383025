use Rattle.tree_histories.proofs.Lemmas.{ℕ, ap, subst, ◌∙◌, IsNewCall, KeptTree, passed, book_started, started_so}
use Rattle.tree_histories.proofs.kept.Kept.starts.Goals as goal

pub put-requires : goal.put-requires
put-requires c = (c.in_ok-standing.ensures c.args.self.now.version c.requires).5

pub returns-clause-kept : goal.returns-clause-kept
returns-clause-kept c =
    let s = c.in_ok-standing.standing in
    let new = c.in_ok-standing.ensures c.args.self.now.version c.requires in
    started_so c.args.self.now c.put.new.self c.passes.new.self c.args.hart c.args.call s (subst (λ (n : ℕ). IsNewCall c.args.self.now.version n c.args.call s) c.next_id.ensures new) c.put.ensures (c.passes.ensures.kept ∙ ap (λ (k : KeptTree). passed k) c.count_call.ensures)

pub returns-clause-book : goal.returns-clause-book
returns-clause-book c b lt calls B =
    let s = c.in_ok-standing.standing in
    let new = c.in_ok-standing.ensures c.args.self.now.version c.requires in
    let begun = started_so c.args.self.now c.put.new.self c.passes.new.self c.args.hart c.args.call s (subst (λ (n : ℕ). IsNewCall c.args.self.now.version n c.args.call s) c.next_id.ensures new) c.put.ensures (c.passes.ensures.kept ∙ ap (λ (k : KeptTree). passed k) c.count_call.ensures) in
    book_started c.args.self.now c.passes.new.self b c.args.hart c.args.call lt calls begun B
