use Rattle.image_tree.proofs.Lemmas.{◌∙◌, subst, sym, List, [], Bool, ℕ, Marks, marks_none, ◌≡◌}
use Rattle.image_tree.proofs.Vocabulary.{Option, Some}
use Rattle.std.specs.Option.{MatchOption}
use Rattle.damage_places.proofs.RepeatLemmas.{shared_here}
use Rattle.damage_places.proofs.once.find_shared.Goals as goal

some_found : {X : Type 0} (found : Option X) (x : X) (P : Type 0) (Q : X → Type 0) → found ≡ Some x → MatchOption found P Q → Q x
some_found found x P Q e h = subst (λ (o : Option _). MatchOption o P Q) e h

pub first_repeat-requires-clause-blank : goal.first_repeat-requires-clause-blank
first_repeat-requires-clause-blank g c =
    subst (λ (xs : List Bool). Marks xs []) (sym (c.deref_mut.ensures.value ∙ c.in_ok-seen.ensures.items_if_clones_equal (λ _ e. e))) marks_none

pub returns-clause-shared : goal.returns-clause-shared
returns-clause-shared g c =
    let disk : List (List ℕ) = g.D.Device.contents c.args.device.now in
    let r = c.in-Some.repeat in
    shared_here disk (g.D.Device.contents c.first_repeat.new.device) r.block c.in_ok-first.first r.second
    (some_found c.in_ok-repeat.repeat r _ _ c.in-Some.is c.in_ok-repeat.ensures.repeat) c.in_ok-repeat.ensures.device.contents c.in_ok-first.ensures.naming
