use Rattle.fs_machine.proofs.Lemmas.{◌≡◌, ◌∙◌, sym, subst, Some, Ran, TablesState, double_descriptor, with_descriptor, desks_changed, double_bad, double_full, double_gave}
use Rattle.fs_machine.specs.declared.slots.Doubled.TheVariants as doubled
use Rattle.fs_machine.proofs.tables.Tables.double.Goals as goal

pub invariant_of-self : goal.invariant_of-self
invariant_of-self c = record {
  inodes = c.self.invariant.inodes;
  files = c.self.invariant.files;
  desks = desks_changed c.self.inside.desks c.set_descriptor.new.self c.args.hart _ (with_descriptor c.in-Some-lowest.other (Some c.in-Some.place)) c.set_descriptor.ensures c.self.invariant.desks;
}

pub returns-in-None-clause-ran : goal.returns-in-None-clause-ran
returns-in-None-clause-ran c =
    let t : TablesState = record { entries = c.self.inside.entries; locks = c.self.inside.locks; files = c.self.inside.files; desks = c.self.inside.desks } in
    subst (λ (v : TablesState). double_descriptor c.args.hart c.args.fd v ≡ Ran doubled.BadDescriptor v) c.self.view_is (double_bad c.args.hart t c.args.fd (sym c.place_at.ensures.place ∙ c.in-None.is))

pub returns-in-None-lowest-clause-ran : goal.returns-in-None-lowest-clause-ran
returns-in-None-lowest-clause-ran c =
    let t : TablesState = record { entries = c.self.inside.entries; locks = c.self.inside.locks; files = c.self.inside.files; desks = c.self.inside.desks } in
    subst (λ (v : TablesState). double_descriptor c.args.hart c.args.fd v ≡ Ran doubled.Full v) c.self.view_is
    (double_full c.args.hart t c.args.fd c.in-Some.place (sym c.place_at.ensures.place ∙ c.in-Some.is) (sym c.lowest.ensures.lowest ∙ c.in-None-lowest.is))

pub returns-in-Some-lowest-clause-ran : goal.returns-in-Some-lowest-clause-ran
returns-in-Some-lowest-clause-ran c =
    let t : TablesState = record { entries = c.self.inside.entries; locks = c.self.inside.locks; files = c.self.inside.files; desks = c.self.inside.desks } in
    let after : TablesState = record t { desks = c.set_descriptor.new.self } in
    subst (λ (v : TablesState). double_descriptor c.args.hart c.args.fd v ≡ Ran (doubled.Gave c.in-Some-lowest.other) after) c.self.view_is
    (double_gave c.args.hart t c.args.fd c.in-Some.place c.in-Some-lowest.other c.set_descriptor.new.self (sym c.place_at.ensures.place ∙ c.in-Some.is) (sym c.lowest.ensures.lowest ∙ c.in-Some-lowest.is) c.set_descriptor.ensures)
