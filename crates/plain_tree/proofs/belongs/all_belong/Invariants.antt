use Rattle.plain_tree.proofs.Lemmas.{◌↔◌, drop, AllBelong}
use Rattle.plain_tree.proofs.belongs.all_belong.Given as goal

abbrev pub invariant-loop-entry : goal.invariant-loop-entry
invariant-loop-entry l = AllBelong l.trace (drop l.entry-index l.list) ↔ AllBelong l.trace l.list
