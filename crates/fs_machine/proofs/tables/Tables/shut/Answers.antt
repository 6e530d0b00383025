use Rattle.fs_machine.proofs.Lemmas.{◌≡◌, ◌∙◌, ap, sym, subst, None, Ran, Free, TablesState, shut_descriptor, with_descriptor, files_set, desks_changed, shut_bad, shut_named, shut_nothing, shut_last}
use Rattle.fs_machine.specs.declared.slots.Shut.TheVariants as shut
use Rattle.fs_machine.proofs.tables.Tables.shut.Goals as goal

pub invariant_of-self : goal.invariant_of-self
invariant_of-self c = record {
  inodes = c.self.invariant.inodes;
  files = c.self.invariant.files;
  desks = desks_changed c.self.inside.desks c.set_descriptor.new.self c.args.hart _ (with_descriptor c.args.fd None) c.set_descriptor.ensures c.self.invariant.desks;
}

pub invariant_of-self-in-None-file_at : goal.invariant_of-self-in-None-file_at
invariant_of-self-in-None-file_at c = record {
  inodes = c.self.invariant.inodes;
  files = c.self.invariant.files;
  desks = desks_changed c.self.inside.desks c.set_descriptor.new.self c.args.hart _ (with_descriptor c.args.fd None) c.set_descriptor.ensures c.self.invariant.desks;
}

pub invariant_of-self-in-Some-file_at : goal.invariant_of-self-in-Some-file_at
invariant_of-self-in-Some-file_at c = record {
  inodes = c.self.invariant.inodes;
  files = files_set c.self.inside.files c.set_place.new.files c.in-Some.place _ Free c.set_place.ensures c.self.invariant.files;
  desks = desks_changed c.self.inside.desks c.set_descriptor.new.self c.args.hart _ (with_descriptor c.args.fd None) c.set_descriptor.ensures c.self.invariant.desks;
}

pub returns-in-None-clause-ran : goal.returns-in-None-clause-ran
returns-in-None-clause-ran c =
    let t : TablesState = record { entries = c.self.inside.entries; locks = c.self.inside.locks; files = c.self.inside.files; desks = c.self.inside.desks } in
    subst (λ (v : TablesState). shut_descriptor c.args.hart c.args.fd v ≡ Ran shut.BadDescriptor v) c.self.view_is (shut_bad c.args.hart t c.args.fd (sym c.place_at.ensures.place ∙ c.in-None.is))

pub returns-then-is_named-clause-ran : goal.returns-then-is_named-clause-ran
returns-then-is_named-clause-ran c =
    let t : TablesState = record { entries = c.self.inside.entries; locks = c.self.inside.locks; files = c.self.inside.files; desks = c.self.inside.desks } in
    let after : TablesState = record t { desks = c.set_descriptor.new.self } in
    subst (λ (v : TablesState). shut_descriptor c.args.hart c.args.fd v ≡ Ran shut.Closed after) c.self.view_is
    (shut_named c.args.hart t c.args.fd c.in-Some.place c.set_descriptor.new.self (sym c.place_at.ensures.place ∙ c.in-Some.is) c.set_descriptor.ensures (sym c.is_named.ensures ∙ c.if-is_named.true))

pub returns-in-None-file_at-clause-ran : goal.returns-in-None-file_at-clause-ran
returns-in-None-file_at-clause-ran c =
    let t : TablesState = record { entries = c.self.inside.entries; locks = c.self.inside.locks; files = c.self.inside.files; desks = c.self.inside.desks } in
    let after : TablesState = record t { desks = c.set_descriptor.new.self } in
    subst (λ (v : TablesState). shut_descriptor c.args.hart c.args.fd v ≡ Ran shut.Closed after) c.self.view_is
    (shut_nothing c.args.hart t c.args.fd c.in-Some.place c.set_descriptor.new.self (sym c.place_at.ensures.place ∙ c.in-Some.is) c.set_descriptor.ensures (sym c.is_named.ensures ∙ c.if-is_named.false)
    (sym c.file_at.ensures ∙ c.in-None-file_at.is))

pub returns-in-Some-file_at-clause-ran : goal.returns-in-Some-file_at-clause-ran
returns-in-Some-file_at-clause-ran c =
    let t : TablesState = record { entries = c.self.inside.entries; locks = c.self.inside.locks; files = c.self.inside.files; desks = c.self.inside.desks } in
    let after : TablesState = record t { files = c.set_place.new.files; desks = c.set_descriptor.new.self } in
    subst (λ (v : TablesState). shut_descriptor c.args.hart c.args.fd v ≡ Ran (shut.Last c.new.result) after) c.self.view_is
    (shut_last c.args.hart t c.args.fd c.in-Some.place c.set_descriptor.new.self (sym c.place_at.ensures.place ∙ c.in-Some.is) c.set_descriptor.ensures c.in-Some-file_at.file c.set_place.new.files (sym c.is_named.ensures ∙ c.if-is_named.false)
    (sym c.file_at.ensures ∙ c.in-Some-file_at.is) c.set_place.ensures ∙ ap (λ n. Ran (shut.Last n) after) (sym c.new.ensures))
