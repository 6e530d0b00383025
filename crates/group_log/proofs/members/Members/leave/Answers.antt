use Rattle.group_log.proofs.Lemmas.{List, Option, ℕ, sym, subst, arith, IsMember, member_joined, member_leaves}
use Rattle.group_log.proofs.members.Members.leave.Goals as goal

pub overflow_sub-self : goal.overflow_sub-self
overflow_sub-self c =
    let member = subst (λ (ms : List (Option ℕ)). IsMember ms c.args.hart) (sym c.self.view_is) c.requires.member in
    let one = member_joined c.self.inside.added c.args.hart member in
    omega (arith, one, c.self.invariant)

pub invariant_of-self : goal.invariant_of-self
invariant_of-self c =
    let member = subst (λ (ms : List (Option ℕ)). IsMember ms c.args.hart) (sym c.self.view_is) c.requires.member in
    let leaves = member_leaves c.self.inside.added c.args.hart member in
    omega (arith, leaves, c.self.invariant)
