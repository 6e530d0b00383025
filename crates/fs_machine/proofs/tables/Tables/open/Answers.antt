use Rattle.fs_machine.proofs.Lemmas.{◌≡◌, ◌∙◌, ap, sym, subst, Some, None, slice_set, Ran, Free, Open, TablesState, open_file, with_descriptor, with_hand, files_set, desks_changed, open_nowhere, open_full, open_gave}
use Rattle.fs_machine.proofs.tables.Tables.open.Goals as goal

pub invariant_of-self : goal.invariant_of-self
invariant_of-self c = record {
  inodes = c.self.invariant.inodes;
  files = files_set c.self.inside.files c.set_place.new.files c.in-Some.place _ Free c.set_place.ensures c.self.invariant.files;
  desks = desks_changed c.self.inside.desks c.set_hand.new.self c.args.hart _ (with_hand None) c.set_hand.ensures c.self.invariant.desks;
}

pub invariant_of-self-in-Some-lowest : goal.invariant_of-self-in-Some-lowest
invariant_of-self-in-Some-lowest c = record {
  inodes = c.self.invariant.inodes;
  files = files_set c.self.inside.files c.set_place-in-Some-lowest.new.files c.in-Some.place _ (Open c.opened-opened.result) c.set_place-in-Some-lowest.ensures c.self.invariant.files;
  desks = desks_changed c.set_descriptor.new.self c.set_hand-in-Some-lowest.new.self c.args.hart _ (with_hand None) c.set_hand-in-Some-lowest.ensures
      (desks_changed c.self.inside.desks c.set_descriptor.new.self c.args.hart _ (with_descriptor c.in-Some-lowest.fd (Some c.in-Some.place)) c.set_descriptor.ensures c.self.invariant.desks);
}

pub returns-in-None-clause-ran : goal.returns-in-None-clause-ran
returns-in-None-clause-ran c =
    let t : TablesState = record { entries = c.self.inside.entries; locks = c.self.inside.locks; files = c.self.inside.files; desks = c.self.inside.desks } in
    subst (λ (v : TablesState). open_file c.args.hart c.args.reference c.args.file v ≡ Ran None v) c.self.view_is (open_nowhere c.args.hart t c.args.reference c.args.file (sym c.hand_of.ensures ∙ c.in-None.is))

pub returns-in-None-lowest-clause-ran : goal.returns-in-None-lowest-clause-ran
returns-in-None-lowest-clause-ran c =
    let t : TablesState = record { entries = c.self.inside.entries; locks = c.self.inside.locks; files = c.self.inside.files; desks = c.self.inside.desks } in
    let after : TablesState = record t { files = c.set_place.new.files; desks = c.set_hand.new.self } in
    subst (λ (v : TablesState). open_file c.args.hart c.args.reference c.args.file v ≡ Ran None after) c.self.view_is
    (open_full c.args.hart t c.args.reference c.args.file c.in-Some.place c.set_place.new.files c.set_hand.new.self (sym c.hand_of.ensures ∙ c.in-Some.is) (sym c.lowest.ensures.lowest ∙ c.in-None-lowest.is) c.set_place.ensures c.set_hand.ensures)

pub returns-in-Some-lowest-clause-ran : goal.returns-in-Some-lowest-clause-ran
returns-in-Some-lowest-clause-ran c =
    let t : TablesState = record { entries = c.self.inside.entries; locks = c.self.inside.locks; files = c.self.inside.files; desks = c.self.inside.desks } in
    let after : TablesState = record t { files = c.set_place-in-Some-lowest.new.files; desks = c.set_hand-in-Some-lowest.new.self } in
    subst (λ (v : TablesState). open_file c.args.hart c.args.reference c.args.file v ≡ Ran (Some c.in-Some-lowest.fd) after) c.self.view_is
    (open_gave c.args.hart t c.args.reference c.args.file c.in-Some.place c.in-Some-lowest.fd c.set_place-in-Some-lowest.new.files c.set_descriptor.new.self c.set_hand-in-Some-lowest.new.self
    (sym c.hand_of.ensures ∙ c.in-Some.is) (sym c.lowest.ensures.lowest ∙ c.in-Some-lowest.is)
    (c.set_place-in-Some-lowest.ensures ∙ ap (λ f. slice_set t.files c.in-Some.place (Open f)) c.opened-opened.ensures) c.set_descriptor.ensures c.set_hand-in-Some-lowest.ensures)
