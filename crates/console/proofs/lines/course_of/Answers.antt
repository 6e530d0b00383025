use Rattle.console.proofs.Lemmas.{sym, Ok, map-map, numbered}
use Rattle.console.proofs.lines.course_of.Goals as goal

pub returns-in-Listed : goal.returns-in-Listed
returns-in-Listed c = rw c.in-Listed.is (λ i. Ok (record { left = sym c.new.ensures i; lines = map-map (λ l. l.says) numbered c.args.lines.items i }))
