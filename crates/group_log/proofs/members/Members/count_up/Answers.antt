use Rattle.group_log.proofs.Lemmas.{◌∙◌, List, Option, ℕ, ap, sym, subst, arith, HasRoom, one_more, one_more_at, room_below, room_some}
use Rattle.group_log.proofs.members.Members.count_up.Goals as goal

pub overflow_add-self : goal.overflow_add-self
overflow_add-self c =
    let room = subst (λ (ms : List (Option ℕ)). HasRoom ms c.args.hart) (sym c.self.view_is) c.requires.room in
    let a = room_below c.self.inside.added c.args.hart c.in-Some.added c.in-Some.is room in
    omega (arith, a)

pub returns-in-Some : goal.returns-in-Some
returns-in-Some c =
    one_more_at c.self.inside.added c.args.hart c.in-Some.added c.in-Some.is ∙ ap (λ (ms : List (Option ℕ)). one_more ms c.args.hart) c.self.view_is

pub returns-in_default : goal.returns-in_default
returns-in_default c =
    absurd (room_some c.self.inside.added c.args.hart c.in_default.is (subst (λ (ms : List (Option ℕ)). HasRoom ms c.args.hart) (sym c.self.view_is) c.requires.room))
