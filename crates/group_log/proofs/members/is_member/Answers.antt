use Rattle.group_log.proofs.Lemmas.{refl, rules, tests, member_at, member_some, none_past}
use Rattle.group_log.proofs.members.is_member.Goals as goal

pub returns-then-members-hart : goal.returns-then-members-hart
returns-then-members-hart c =
    let ms = c.args.members.now in
    (λ e. absurd (cc e), λ is. absurd (member_some ms c.args.hart (none_past ms c.args.hart (search (rules, tests))) is))

pub returns-in-Some : goal.returns-in-Some
returns-in-Some c = (λ _. member_at c.args.members.now c.args.hart _ c.in-Some.is, λ _. refl)

pub returns-in-None : goal.returns-in-None
returns-in-None c = (λ e. absurd (cc e), λ is. absurd (member_some c.args.members.now c.args.hart c.in-None.is is))
