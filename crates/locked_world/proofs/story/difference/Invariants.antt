use Rattle.locked_world.proofs.Lemmas.{◌≡◌, ◌≤◌, length, take, given_to}
use Rattle.locked_world.proofs.story.difference.Given as goal

abbrev pub invariant-loop-i : goal.invariant-loop-i
invariant-loop-i l = (l.seen ≤ length l.replies) × (take l.seen l.replies ≡ given_to l.hart (take l.i l.given))
