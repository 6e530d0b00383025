use Rattle.tree_histories.proofs.Lemmas.{List, ℕ, ◌++◌, None, Option, Some, sym, subst, ap, ◌∙◌, tree_of, Node, FewSlotsIn, empty_in, face_seen, query_in, empty_nowhere, sees_so}
use Rattle.tree_histories.proofs.sees.sight.Goals as goal

pub returns-in-Some : goal.returns-in-Some
returns-in-Some c small few sought one =
    let text : List ℕ = c.args.path.now ++ c.args.second.now in
    let v : Option Node = (tree_of c.args.tree.now).nodes c.args.number in
    let is = c.in-Some.ensures in
    let face = c.face_of.ensures (subst (λ (o : Option Node). FewSlotsIn c.args.version o) is few) in
    sees_so c.args.version c.args.number text c.args.query.now v (Some c.face_of.result) c.found_in-found.result c.empty_in.result
    (face ∙ ap (λ (o : Option Node). face_seen c.args.version o) (sym is))
    (c.found_in-found.ensures c.args.version small sought one)
    (c.empty_in.ensures text ∙ ap (λ (o : Option Node). empty_in o (query_in text c.args.query.now)) (sym is))

pub returns-in-None : goal.returns-in-None
returns-in-None c small few sought one =
    let text : List ℕ = c.args.path.now ++ c.args.second.now in
    let v : Option Node = (tree_of c.args.tree.now).nodes c.args.number in
    let is = c.in-None.ensures in
    sees_so c.args.version c.args.number text c.args.query.now v None c.found_in-found.result _
    (sym (ap (λ (o : Option Node). face_seen c.args.version o) is))
    (c.found_in-found.ensures c.args.version small sought one)
    (empty_nowhere text c.args.query.now ∙ ap (λ (o : Option Node). empty_in o (query_in text c.args.query.now)) (sym is))
