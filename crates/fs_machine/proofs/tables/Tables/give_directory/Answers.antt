use Rattle.fs_machine.proofs.Lemmas.{◌≡◌, ◌∙◌, ap, sym, subst, List, slice_get, Ran, Entry, directory_of, with_directory, given_directory, LeavesLocked, IsSoundInodes, TablesState, place_of, found, counted_good, counted_locked, desks_changed, given_nowhere, given_there, may_count, references_of, ℕ}
use Rattle.std.specs.Prelude.{◌+◌, ◌<◌, ◌^◌}
use Rattle.fs_machine.specs.declared.slots.Given.TheVariants as given
use Rattle.fs_machine.proofs.tables.Tables.give_directory.Goals as goal

pub invariant_of-self : goal.invariant_of-self
invariant_of-self c =
    let t : TablesState = record { entries = c.self.inside.entries; locks = c.self.inside.locks; files = c.self.inside.files; desks = c.self.inside.desks } in
    let n = c.directory_at-number.result in
    let f = found n t.entries c.in-Some.place (sym c.place_of.ensures ∙ c.in-Some.is) in
    record {
      inodes = subst (λ (l : List Entry). IsSoundInodes l t.locks) (sym c.count_up.ensures) (counted_good n c.in-Some.place t.entries t.locks f c.self.invariant.inodes);
      files = c.self.invariant.files;
      desks = desks_changed c.self.inside.desks c.set_directory.new.self c.args.child _ (with_directory n) c.set_directory.ensures c.self.invariant.desks;
    }

pub count_up-requires-clause-some : goal.count_up-requires-clause-some
count_up-requires-clause-some c =
    let t : TablesState = record { entries = c.self.inside.entries; locks = c.self.inside.locks; files = c.self.inside.files; desks = c.self.inside.desks } in
    let room : references_of (directory_of (slice_get t.desks c.args.hart)) t + 1 < 2 ^ 32 = subst (λ (v : TablesState). references_of (directory_of (slice_get v.desks c.args.hart)) v + 1 < 2 ^ 32) (sym c.self.view_is) c.requires.room in
    may_count c.directory_at-number.result c.in-Some.place t (sym c.place_of.ensures ∙ c.in-Some.is) (subst (λ (n : ℕ). references_of n t + 1 < 2 ^ 32) (sym c.directory_at-number.ensures) room)

pub returns-in-None-clause-ran : goal.returns-in-None-clause-ran
returns-in-None-clause-ran c =
    let t : TablesState = record { entries = c.self.inside.entries; locks = c.self.inside.locks; files = c.self.inside.files; desks = c.self.inside.desks } in
    subst (λ (v : TablesState). given_directory c.args.hart c.args.child v (place_of (directory_of (slice_get v.desks c.args.hart)) v.entries) ≡ Ran (given.Directory c.new.result) v) c.self.view_is
    (given_nowhere c.args.hart c.args.child c.directory_at-number.result t c.directory_at-number.ensures (sym c.place_of.ensures ∙ c.in-None.is)
    ∙ ap (λ m. Ran (given.Directory m) t) (sym (c.new.ensures ∙ c.directory_at-old.ensures)))

pub returns-in-Some-clause-ran : goal.returns-in-Some-clause-ran
returns-in-Some-clause-ran c =
    let t : TablesState = record { entries = c.self.inside.entries; locks = c.self.inside.locks; files = c.self.inside.files; desks = c.self.inside.desks } in
    let after : TablesState = record t { entries = c.count_up.new.self; desks = c.set_directory.new.self } in
    subst (λ (v : TablesState). given_directory c.args.hart c.args.child v (place_of (directory_of (slice_get v.desks c.args.hart)) v.entries) ≡ Ran (given.Directory c.new-in-Some.result) after) c.self.view_is
    (given_there c.args.hart c.args.child c.directory_at-number.result t c.directory_at-number.ensures c.in-Some.place c.count_up.new.self c.set_directory.new.self
    (sym c.place_of.ensures ∙ c.in-Some.is) c.count_up.ensures c.set_directory.ensures
    ∙ ap (λ m. Ran (given.Directory m) after) (sym (c.new-in-Some.ensures ∙ c.directory_at-old.ensures)))

pub returns-in-Some-clause-others : goal.returns-in-Some-clause-others
returns-in-Some-clause-others c =
    let t : TablesState = record { entries = c.self.inside.entries; locks = c.self.inside.locks; files = c.self.inside.files; desks = c.self.inside.desks } in
    let n = c.directory_at-number.result in
    let f = found n t.entries c.in-Some.place (sym c.place_of.ensures ∙ c.in-Some.is) in
    let after : TablesState = record t { entries = c.count_up.new.self; desks = c.set_directory.new.self } in
    let counted : LeavesLocked t (record t { entries = c.count_up.new.self }) =
    subst (λ (l : List Entry). LeavesLocked t (record t { entries = l })) (sym c.count_up.ensures) (counted_locked n c.in-Some.place t f) in
    subst (λ (v : TablesState). LeavesLocked v after) c.self.view_is
    (λ g l. let k = counted g l in record { out = k.out; entry = k.entry; there = k.there; number = k.number; referenced = k.referenced })
