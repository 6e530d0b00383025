-- Whether a path climbs, element by element.
use Rattle.image_versions.specs.declared.version.Version.TheVariants.{One}
use Rattle.tree_histories.proofs.Vocabulary.{◌≡◌, ℕ, true, false, ◌||◌, List, [], ◌∷◌, refl, ap, ◌∙◌, Name, climbs, climbs_in, dotdot, elements, same_name}

climbs_at : (e : Name) (es : List Name) → climbs_in (e ∷ es) ≡ (same_name e dotdot || climbs_in es)
unfolding climbs_in
climbs_at e es = refl

pub climbs_here : (path rest after : List ℕ) (e : Name) → climbs path ≡ climbs rest → elements One rest ≡ e ∷ elements One after → same_name e dotdot ≡ true → climbs path ≡ true
climbs_here path rest after e same cut is = same ∙ ap climbs_in cut ∙ climbs_at e (elements One after) ∙ ap (λ b. b || climbs_in (elements One after)) is

pub climbs_after : (path rest after : List ℕ) (e : Name) → climbs path ≡ climbs rest → elements One rest ≡ e ∷ elements One after → same_name e dotdot ≡ false → climbs path ≡ climbs after
climbs_after path rest after e same cut is = same ∙ ap climbs_in cut ∙ climbs_at e (elements One after) ∙ ap (λ b. b || climbs_in (elements One after)) is

none_climbs : climbs_in [] ≡ false
unfolding climbs_in
none_climbs = refl

pub climbs_nowhere : (path rest : List ℕ) → climbs path ≡ climbs rest → elements One rest ≡ [] → climbs path ≡ false
climbs_nowhere path rest same cut = same ∙ ap climbs_in cut ∙ none_climbs
