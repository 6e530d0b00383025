use Rattle.console.proofs.Lemmas.{ℕ, List, Option, drop, Appends, calls_text}
use Rattle.console.proofs.state.write_calls.Given as goal

-- whatever the lines of the harts that are left lead to is what all lines lead to
abbrev pub invariant-loop-hart : goal.invariant-loop-hart
invariant-loop-hart g l =
    (end : Option (List ℕ)) → Appends (g.W.Write.contents l.out) end (calls_text (drop l.hart-index l.harts) l.session.doing) → Appends (g.W.Write.contents l.fn.out) end (calls_text l.harts l.session.doing)
