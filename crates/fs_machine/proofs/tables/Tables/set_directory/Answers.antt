use Rattle.fs_machine.proofs.Lemmas.{◌≡◌, ◌∙◌, ap, sym, subst, Ran, change_at, TablesState, settled, with_directory, desks_changed}
use Rattle.fs_machine.proofs.tables.Tables.set_directory.Goals as goal

pub invariant_of-self : goal.invariant_of-self
invariant_of-self c = record {
  inodes = c.self.invariant.inodes;
  files = c.self.invariant.files;
  desks = desks_changed c.self.inside.desks c.set_directory.new.self c.args.hart _ (with_directory c.end.result) c.set_directory.ensures c.self.invariant.desks;
}

pub returns-clause-ran : goal.returns-clause-ran
returns-clause-ran c =
    let t : TablesState = record { entries = c.self.inside.entries; locks = c.self.inside.locks; files = c.self.inside.files; desks = c.self.inside.desks } in
    let after : TablesState = record t { desks = c.set_directory.new.self } in
    let is : c.set_directory.new.self ≡ change_at c.args.hart (with_directory c.args.reference) t.desks = c.set_directory.ensures ∙ ap (λ n. change_at c.args.hart (with_directory n) t.desks) c.end.ensures in
    let old = c.new.ensures ∙ c.directory_at-old.ensures in
    subst (λ (v : TablesState). settled c.args.hart c.args.reference v ≡ Ran c.new.result after) c.self.view_is
    (λ i. Ran (sym old i) (record t { desks = sym is i }))
