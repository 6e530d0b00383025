use Rattle.script.proofs.Lemmas.{◌≡◌, drop, value_after}
use Rattle.script.proofs.digits.digits_value.Given as goal

abbrev pub invariant-loop-byte : goal.invariant-loop-byte
invariant-loop-byte l = value_after l.radix l.value (drop l.byte-index l.digits) ≡ value_after l.radix 0 l.digits
