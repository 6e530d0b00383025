use Rattle.atomic_programs.proofs.Lemmas.{WentOn, Tick, Twice, answer_to, control_of, exec, handler, kind, lower, part_of, upper, begins_next, goes_on, asks_twice}
use Rattle.atomic_programs.proofs.toy.Under.step.Goals as goal

pub returns-in-Ran : goal.returns-in-Ran
returns-in-Ran c =
    goes_on upper lower handler answer_to kind exec (part_of c.args.self.part) (control_of c.args.self.control) c.args.cell.now Tick (WentOn tt (part_of c.in-Ran.part) c.step.new.cell) c.step.ensures.asks (rw c.in-Ran.is at c.step.ensures.moves)

pub returns-in-Asks : goal.returns-in-Asks
returns-in-Asks c =
    begins_next upper lower handler answer_to kind exec (part_of c.args.self.part) (part_of c.begin-part.result) (control_of c.args.self.control) (control_of c.in-Asks.control) c.args.cell.now c.step.new.cell Tick Twice c.in-Done.heard tt tt
    c.step.ensures.asks (rw c.in-Done.is at c.step.ensures.moves) (rw c.in-Asks.is at c.next.ensures) (asks_twice c.in-Asks.control.left) c.begin-part.ensures
