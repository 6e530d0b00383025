use Rattle.fs_machine.proofs.Lemmas.{◌≡◌, ◌∙◌, ◌<◌, ap, sym, subst, List, Some, None, IfSome, Ran, Entry, TablesState, place_of, references_of, holder_of, drop_freed, uncounted_at, Counts, LeavesLocked, IsSoundInodes, found, uncounted_good, uncounted_locked, last_free, freed_nowhere, freed_counted}
use Rattle.fs_machine.proofs.tables.Tables.drop_freed.Goals as goal

pub count_down-requires-clause-some : goal.count_down-requires-clause-some
count_down-requires-clause-some c =
    let f = found c.number.result c.self.inside.entries c.in-Some.place (sym c.place_of.ensures ∙ c.in-Some.is) in
    subst (λ o. IfSome o (λ (e : Entry). 0 < e.references)) (sym f.there) f.referenced

pub invariant_of-self : goal.invariant_of-self
invariant_of-self c =
    let t : TablesState = record { entries = c.self.inside.entries; locks = c.self.inside.locks; files = c.self.inside.files; desks = c.self.inside.desks } in
    let e : place_of c.args.reference t.entries ≡ Some c.in-Some.place = subst (λ n. place_of n t.entries ≡ Some c.in-Some.place) c.number.ensures (sym c.place_of.ensures ∙ c.in-Some.is) in
    let f = found c.args.reference t.entries c.in-Some.place e in
    let last : references_of c.args.reference t ≡ 1 → holder_of c.args.reference t ≡ None = subst (λ (v : TablesState). references_of c.args.reference v ≡ 1 → holder_of c.args.reference v ≡ None) (sym c.self.view_is) c.requires in
    record {
      inodes = subst (λ (l : List Entry). IsSoundInodes l t.locks) (sym c.count_down.ensures) (uncounted_good c.args.reference c.in-Some.place t.entries t.locks f (last_free c.args.reference c.in-Some.place t f e last) c.self.invariant.inodes);
      files = c.self.invariant.files;
      desks = c.self.invariant.desks;
    }

pub returns-in-None-clause-ran : goal.returns-in-None-clause-ran
returns-in-None-clause-ran c =
    let t : TablesState = record { entries = c.self.inside.entries; locks = c.self.inside.locks; files = c.self.inside.files; desks = c.self.inside.desks } in
    let e : place_of c.args.reference t.entries ≡ None = subst (λ n. place_of n t.entries ≡ None) c.number.ensures (sym c.place_of.ensures ∙ c.in-None.is) in
    subst (λ (v : TablesState). drop_freed c.args.reference v ≡ Ran Counts v) c.self.view_is (freed_nowhere c.args.reference t e)

pub returns-in-Some-clause-ran : goal.returns-in-Some-clause-ran
returns-in-Some-clause-ran c =
    let t : TablesState = record { entries = c.self.inside.entries; locks = c.self.inside.locks; files = c.self.inside.files; desks = c.self.inside.desks } in
    let e : place_of c.args.reference t.entries ≡ Some c.in-Some.place = subst (λ n. place_of n t.entries ≡ Some c.in-Some.place) c.number.ensures (sym c.place_of.ensures ∙ c.in-Some.is) in
    let after : TablesState = record t { entries = c.count_down.new.self } in
    let is : uncounted_at c.in-Some.place t ≡ after = λ i. record t { entries = sym c.count_down.ensures i } in
    subst (λ (v : TablesState). drop_freed c.args.reference v ≡ Ran Counts after) c.self.view_is
    (freed_counted c.args.reference c.in-Some.place t e ∙ ap (λ (v : TablesState). Ran Counts v) is)

pub returns-in-Some-clause-others : goal.returns-in-Some-clause-others
returns-in-Some-clause-others c =
    let t : TablesState = record { entries = c.self.inside.entries; locks = c.self.inside.locks; files = c.self.inside.files; desks = c.self.inside.desks } in
    let e : place_of c.args.reference t.entries ≡ Some c.in-Some.place = subst (λ n. place_of n t.entries ≡ Some c.in-Some.place) c.number.ensures (sym c.place_of.ensures ∙ c.in-Some.is) in
    let f = found c.args.reference t.entries c.in-Some.place e in
    let last : references_of c.args.reference t ≡ 1 → holder_of c.args.reference t ≡ None = subst (λ (v : TablesState). references_of c.args.reference v ≡ 1 → holder_of c.args.reference v ≡ None) (sym c.self.view_is) c.requires in
    let after : TablesState = record t { entries = c.count_down.new.self } in
    subst (λ (v : TablesState). LeavesLocked v after) c.self.view_is
    (subst (λ (l : List Entry). LeavesLocked t (record t { entries = l })) (sym c.count_down.ensures) (uncounted_locked c.args.reference c.in-Some.place t f (last_free c.args.reference c.in-Some.place t f e last)))
