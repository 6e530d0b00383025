-- The step that a call's next mark is for.
use Rattle.tree_histories.proofs.Vocabulary.{◌≡◌, ℕ, List, refl, link_action, action_in, call_in, Whole, is_on_new, is_past_old, step_for}
use Rattle.plain_tree.specs.declared.call.Call.TheVariants as calls
use Rattle.whole_calls.specs.declared.link.Link.{Link}
use Rattle.whole_calls.specs.declared.link.Link.TheVariants as linking
use Rattle.whole_calls.specs.declared.whole.Whole.TheVariants as calling

link_step_is : (old new : List ℕ) (c : Link) → step_for (calls.Link old new) (is_past_old c) ≡ link_action old new c
link_step_is old new linking.Join = refl
link_step_is old new (linking.WalksOld w) = refl
link_step_is old new c = refl

pub action_is : (w : Whole) → step_for (call_in w) (is_on_new w) ≡ action_in w
action_is (calling.Link old new c) = link_step_is old new c
action_is w = refl
