use Rattle.fs_machine.proofs.Lemmas.{◌≡◌, ◌∙◌, sym, subst, Some, true, false, Ran, Taken, TablesState, take_place, with_hand, files_set, desks_changed, none_taken, taken_ran}
use Rattle.fs_machine.proofs.tables.Tables.take_place.Goals as goal

pub invariant_of-self : goal.invariant_of-self
invariant_of-self c = record {
  inodes = c.self.invariant.inodes;
  files = files_set c.self.inside.files c.set_place.new.files c.in-Some.place _ Taken c.set_place.ensures c.self.invariant.files;
  desks = desks_changed c.self.inside.desks c.set_hand.new.self c.args.hart _ (with_hand (Some c.in-Some.place)) c.set_hand.ensures c.self.invariant.desks;
}

pub returns-in-None-clause-ran : goal.returns-in-None-clause-ran
returns-in-None-clause-ran c =
    let t : TablesState = record { entries = c.self.inside.entries; locks = c.self.inside.locks; files = c.self.inside.files; desks = c.self.inside.desks } in
    subst (λ (v : TablesState). take_place c.args.hart v ≡ Ran false v) c.self.view_is (none_taken c.args.hart t (sym c.free_place.ensures.free ∙ c.in-None.is))

pub returns-in-Some-clause-ran : goal.returns-in-Some-clause-ran
returns-in-Some-clause-ran c =
    let t : TablesState = record { entries = c.self.inside.entries; locks = c.self.inside.locks; files = c.self.inside.files; desks = c.self.inside.desks } in
    let after : TablesState = record t { files = c.set_place.new.files; desks = c.set_hand.new.self } in
    subst (λ (v : TablesState). take_place c.args.hart v ≡ Ran true after) c.self.view_is
    (taken_ran c.args.hart t c.in-Some.place c.set_place.new.files c.set_hand.new.self (sym c.free_place.ensures.free ∙ c.in-Some.is) c.set_place.ensures c.set_hand.ensures)
