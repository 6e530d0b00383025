use Rattle.fs_machine.proofs.Lemmas.{◌≡◌, ◌∙◌, ◌<◌, ap, sym, subst, List, Some, None, IfSome, SlotState, Ran, Entry, Inode, TablesState, place_of, references_of, holder_of, drop_walked, uncounted_at, Counts, Keeps, LeavesLocked, IsSoundInodes, found, uncounted_good, uncounted_locked, last_free, walked_nowhere, walked_counted, walked_kept}
use Rattle.fs_machine.proofs.tables.Tables.drop_walked.Goals as goal

pub count_down-requires-clause-some : goal.count_down-requires-clause-some
count_down-requires-clause-some c =
    let f = found c.number.result c.self.inside.entries c.in-Some.place (sym c.place_of.ensures ∙ c.in-Some.is) in
    subst (λ o. IfSome o (λ (e : Entry). 0 < e.references)) (sym f.there) f.referenced

pub invariant_of-self-in-Some : goal.invariant_of-self-in-Some
invariant_of-self-in-Some c =
    let t : TablesState = record { entries = c.self.inside.entries; locks = c.self.inside.locks; files = c.self.inside.files; desks = c.self.inside.desks } in
    let e : place_of c.args.reference t.entries ≡ Some c.in-Some.place = subst (λ n. place_of n t.entries ≡ Some c.in-Some.place) c.number.ensures (sym c.place_of.ensures ∙ c.in-Some.is) in
    let f = found c.args.reference t.entries c.in-Some.place e in
    let last : references_of c.args.reference t ≡ 1 → holder_of c.args.reference t ≡ None = subst (λ (v : TablesState). references_of c.args.reference v ≡ 1 → holder_of c.args.reference v ≡ None) (sym c.self.view_is) c.requires.last in
    record {
      inodes = subst (λ (l : List (SlotState Inode)). IsSoundInodes c.count_down.new.self l) (sym c.is_dying.ensures.same)
          (subst (λ (l : List Entry). IsSoundInodes l t.locks) (sym c.count_down.ensures) (uncounted_good c.args.reference c.in-Some.place t.entries t.locks f (last_free c.args.reference c.in-Some.place t f e last) c.self.invariant.inodes));
      files = c.self.invariant.files;
      desks = c.self.invariant.desks;
    }

pub returns-in-None-clause-ran : goal.returns-in-None-clause-ran
returns-in-None-clause-ran c =
    let t : TablesState = record { entries = c.self.inside.entries; locks = c.self.inside.locks; files = c.self.inside.files; desks = c.self.inside.desks } in
    let e : place_of c.args.reference t.entries ≡ None = subst (λ n. place_of n t.entries ≡ None) c.number.ensures (sym c.place_of.ensures ∙ c.in-None.is) in
    subst (λ (v : TablesState). drop_walked c.args.reference v ≡ Ran Counts v) c.self.view_is (walked_nowhere c.args.reference t e)

pub returns-then-is_dying-clause-ran : goal.returns-then-is_dying-clause-ran
returns-then-is_dying-clause-ran c =
    let t : TablesState = record { entries = c.self.inside.entries; locks = c.self.inside.locks; files = c.self.inside.files; desks = c.self.inside.desks } in
    let e : place_of c.args.reference t.entries ≡ Some c.in-Some.place = subst (λ n. place_of n t.entries ≡ Some c.in-Some.place) c.number.ensures (sym c.place_of.ensures ∙ c.in-Some.is) in
    let after : TablesState = record t { locks = c.is_dying.new.locks } in
    let is : t ≡ after = λ i. record t { locks = sym c.is_dying.ensures.same i } in
    subst (λ (v : TablesState). drop_walked c.args.reference v ≡ Ran Keeps after) c.self.view_is
    (walked_kept c.args.reference c.in-Some.place t e (sym c.if-is_dying.true ∙ c.is_dying.ensures.dying) ∙ ap (λ (v : TablesState). Ran Keeps v) is)

pub returns-else-is_dying-clause-ran : goal.returns-else-is_dying-clause-ran
returns-else-is_dying-clause-ran c =
    let t : TablesState = record { entries = c.self.inside.entries; locks = c.self.inside.locks; files = c.self.inside.files; desks = c.self.inside.desks } in
    let e : place_of c.args.reference t.entries ≡ Some c.in-Some.place = subst (λ n. place_of n t.entries ≡ Some c.in-Some.place) c.number.ensures (sym c.place_of.ensures ∙ c.in-Some.is) in
    let after : TablesState = record t { entries = c.count_down.new.self; locks = c.is_dying.new.locks } in
    let is : uncounted_at c.in-Some.place t ≡ after = λ i. record t { entries = sym c.count_down.ensures i; locks = sym c.is_dying.ensures.same i } in
    subst (λ (v : TablesState). drop_walked c.args.reference v ≡ Ran Counts after) c.self.view_is
    (walked_counted c.args.reference c.in-Some.place t e (sym c.if-is_dying.false ∙ c.is_dying.ensures.dying) ∙ ap (λ (v : TablesState). Ran Counts v) is)

pub returns-else-is_dying-clause-others : goal.returns-else-is_dying-clause-others
returns-else-is_dying-clause-others c =
    let t : TablesState = record { entries = c.self.inside.entries; locks = c.self.inside.locks; files = c.self.inside.files; desks = c.self.inside.desks } in
    let e : place_of c.args.reference t.entries ≡ Some c.in-Some.place = subst (λ n. place_of n t.entries ≡ Some c.in-Some.place) c.number.ensures (sym c.place_of.ensures ∙ c.in-Some.is) in
    let f = found c.args.reference t.entries c.in-Some.place e in
    let last : references_of c.args.reference t ≡ 1 → holder_of c.args.reference t ≡ None = subst (λ (v : TablesState). references_of c.args.reference v ≡ 1 → holder_of c.args.reference v ≡ None) (sym c.self.view_is) c.requires.last in
    let after : TablesState = record t { entries = c.count_down.new.self; locks = c.is_dying.new.locks } in
    subst (λ (v : TablesState). LeavesLocked v after) c.self.view_is
    (subst (λ (l : List (SlotState Inode)). LeavesLocked t (record t { entries = c.count_down.new.self; locks = l })) (sym c.is_dying.ensures.same)
    (subst (λ (l : List Entry). LeavesLocked t (record t { entries = l })) (sym c.count_down.ensures) (uncounted_locked c.args.reference c.in-Some.place t f (last_free c.args.reference c.in-Some.place t f e last))))
