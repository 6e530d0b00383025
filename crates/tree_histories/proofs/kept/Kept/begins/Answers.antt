use Rattle.tree_histories.proofs.Lemmas.{Version, None, Some, ap, subst, if◌then◌else◌, KeptTree, IsWalk, action_in, call_in, elements, is_absolute, path_of, root, only_acts, told_begun, told_start}
use Rattle.tree_histories.proofs.kept.Kept.begins.Goals as goal

pub returns-in-Some-start-clause-tells : goal.returns-in-Some-start-clause-tells
returns-in-Some-start-clause-tells c =
    let w = c.in-Some.standing.now.whole in
    let path = path_of (action_in w) in
    let walk = subst (λ (v : Version). IsWalk v (call_in w) (Some c.in-Some-start.walk) (action_in w) (if is_absolute path then root else c.directory.result) (elements v path))
    (ap (λ (k : KeptTree). k.version) c.self.view_is) c.in-Some-start.ensures in
    told_start c.args.self.now c.set_walk.new.self c.args.hart c.in-Some.standing.now c.in-Some-start.walk c.directory.result c.in-Some.ensures.call c.directory.ensures walk c.set_walk.ensures

pub returns-in_ok-action-in-None-clause-tells : goal.returns-in_ok-action-in-None-clause-tells
returns-in_ok-action-in-None-clause-tells c =
    let w = c.in-Some.standing.now.whole in
    let path = path_of (action_in w) in
    let none = subst (λ (v : Version). IsWalk v (call_in w) None (action_in w) (if is_absolute path then root else c.directory.result) (elements v path))
    (ap (λ (k : KeptTree). k.version) c.self.view_is) c.in-None.ensures in
    told_begun c.args.self.now c.acts.new.self c.args.hart c.in-Some.standing.now c.in_ok-action-in-None.action _ c.directory-in-None.result c.acts.result c.in-Some.ensures.call c.in_ok-action-in-None.ensures none c.directory-in-None.ensures
    c.start_number.result c.start_number.ensures c.acts.ensures

pub returns-in_ok-action-in-None-clause-only : goal.returns-in_ok-action-in-None-clause-only
returns-in_ok-action-in-None-clause-only c = only_acts _ _ _ c.args.self.now c.acts.new.self c.acts.result c.acts.ensures
