use Rattle.group_log.proofs.Lemmas.{◌<◌, ℕ, rules, tests, arith, IsTrue, nat_lt, nat_tests, none_past, room_at, room_below, room_some}
use Rattle.group_log.proofs.members.has_room.Goals as goal

below : (k : ℕ) → IsTrue (nat_lt k 10) → k < 10
below k is = grind (arith, nat_tests, is)

is_below : (k : ℕ) → k < 10 → IsTrue (nat_lt k 10)
is_below k lt = grind (arith, nat_tests, lt)

pub returns-then-members-hart : goal.returns-then-members-hart
returns-then-members-hart c =
    let ms = c.args.members.now in
    (λ e. absurd (cc e), λ room. absurd (room_some ms c.args.hart (none_past ms c.args.hart (search (rules, tests))) room))

pub returns-in-Some : goal.returns-in-Some
returns-in-Some c =
    let ms = c.args.members.now in
    let k = c.in-Some.added in
    (λ is. room_at ms c.args.hart k c.in-Some.is (below k is), λ room. is_below k (room_below ms c.args.hart k c.in-Some.is room))

pub returns-in-None : goal.returns-in-None
returns-in-None c = (λ e. absurd (cc e), λ room. absurd (room_some c.args.members.now c.args.hart c.in-None.is room))
