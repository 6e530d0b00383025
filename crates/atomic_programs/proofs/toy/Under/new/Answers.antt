use Rattle.atomic_programs.proofs.Lemmas.{sym, Twice, answer_to, counting, handler, lower, part_of, upper, part_begins, asks_twice}
use Rattle.atomic_programs.proofs.toy.Under.new.Goals as goal

pub returns : goal.returns
returns c = sym (part_begins upper lower handler answer_to tt (counting c.args.count.left) Twice (part_of c.begin.result) (asks_twice c.args.count.left) c.begin.ensures)
