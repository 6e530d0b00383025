use Rattle.std.specs.Prelude.{length}
use Rattle.fs_machine.specs.declared.desk.Desk.{Desk}
use Rattle.fs_machine.proofs.Lemmas.{◌∙◌, sym, ap, subst, refl, List, SlotState, row_of, Entry, Inode, fresh, IsSoundInodes, fresh_good}
use Rattle.fs_machine.proofs.tables.Tables.new.Goals as goal

pub invariant_of-result : goal.invariant_of-result
invariant_of-result c = record {
  inodes = subst (λ (es : List Entry). IsSoundInodes es c.in_ok-locks.locks) (sym c.new-2.ensures)
      (subst (λ (l : List (SlotState Inode)). IsSoundInodes fresh.entries l)
      (sym (c.in_ok-locks.ensures.row ∙ ap (λ (vs : List Inode). row_of 0 vs) c.in_ok-places.ensures)) fresh_good);
  files = refl;
  desks = ap (λ (l : List Desk). length l) c.new-3.ensures;
}
