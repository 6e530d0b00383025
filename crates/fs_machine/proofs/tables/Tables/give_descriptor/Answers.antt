use Rattle.fs_machine.proofs.Lemmas.{Some, with_descriptor, desks_changed}
use Rattle.fs_machine.proofs.tables.Tables.give_descriptor.Goals as goal

pub invariant_of-self : goal.invariant_of-self
invariant_of-self c = record {
  inodes = c.self.invariant.inodes;
  files = c.self.invariant.files;
  desks = desks_changed c.self.inside.desks c.set_descriptor.new.self c.args.child _ (with_descriptor c.args.fd (Some c.in-Some.place)) c.set_descriptor.ensures c.self.invariant.desks;
}
