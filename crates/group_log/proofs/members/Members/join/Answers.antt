use Rattle.group_log.proofs.Lemmas.{◌≡◌, ◌+◌, ◌∙◌, List, Option, ℕ, Some, None, ap, sym, subst, slice_get, joins_more}
use Rattle.group_log.proofs.members.Members.join.Goals as goal

pub invariant_of-self : goal.invariant_of-self
invariant_of-self c =
    let idle : slice_get c.self.inside.added c.args.hart ≡ Some None = subst (λ (ms : List (Option ℕ)). slice_get ms c.args.hart ≡ Some None) (sym c.self.view_is) c.requires.idle in
    ap (λ (n : ℕ). n + 1) c.self.invariant ∙ sym (joins_more c.self.inside.added c.args.hart idle)
