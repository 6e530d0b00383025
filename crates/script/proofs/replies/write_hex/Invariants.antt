use Rattle.script.proofs.Lemmas.{take, Appends, hex}
use Rattle.script.proofs.replies.write_hex.Given as goal

abbrev pub invariant-loop-byte : goal.invariant-loop-byte
invariant-loop-byte g l = Appends (g.W.Write.contents l.fn.out) (g.W.Write.contents l.out) (hex (take l.byte-index l.bytes))
