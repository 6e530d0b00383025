use Rattle.fs_machine.proofs.Lemmas.{◌≡◌, ◌∙◌, ap, sym, subst, List, Some, None, slice_set, SlotState, Ran, Entry, Inode, TablesState, up_inode, begun_at, LeavesLocked, IsSoundInodes, found, counted_good, counted_locked, free, free_if, begun_good, begun_locked, up_counted, up_begun, up_full, may_count, references_of}
use Rattle.std.specs.Prelude.{◌+◌, ◌<◌, ◌^◌}
use Rattle.fs_machine.proofs.tables.Tables.up.Goals as goal

pub invariant_of-self : goal.invariant_of-self
invariant_of-self c =
    let t : TablesState = record { entries = c.self.inside.entries; locks = c.self.inside.locks; files = c.self.inside.files; desks = c.self.inside.desks } in
    let f = found c.args.number t.entries c.in-Some.place (sym c.place_of.ensures ∙ c.in-Some.is) in
    record {
      inodes = subst (λ (l : List Entry). IsSoundInodes l t.locks) (sym c.count_up.ensures) (counted_good c.args.number c.in-Some.place t.entries t.locks f c.self.invariant.inodes);
      files = c.self.invariant.files;
      desks = c.self.invariant.desks;
    }

pub count_up-requires-clause-some : goal.count_up-requires-clause-some
count_up-requires-clause-some c =
    let t : TablesState = record { entries = c.self.inside.entries; locks = c.self.inside.locks; files = c.self.inside.files; desks = c.self.inside.desks } in
    may_count c.args.number c.in-Some.place t (sym c.place_of.ensures ∙ c.in-Some.is) (subst (λ (v : TablesState). references_of c.args.number v + 1 < 2 ^ 32) (sym c.self.view_is) c.requires.room)

pub begin-requires-clause-free : goal.begin-requires-clause-free
begin-requires-clause-free c = free_if c.self.inside.entries c.in-Some-free_place.free (free c.self.inside.entries c.in-Some-free_place.free (sym c.free_place.ensures ∙ c.in-Some-free_place.is))

pub invariant_of-self-in-Some-free_place : goal.invariant_of-self-in-Some-free_place
invariant_of-self-in-Some-free_place c =
    let t : TablesState = record { entries = c.self.inside.entries; locks = c.self.inside.locks; files = c.self.inside.files; desks = c.self.inside.desks } in
    let k = c.in-Some-free_place.free in
    let f = free t.entries k (sym c.free_place.ensures ∙ c.in-Some-free_place.is) in
    record {
      inodes = subst (λ (l : List Entry). IsSoundInodes l c.begin.new.locks) (sym c.begin.ensures.entries)
          (subst (λ (l : List (SlotState Inode)). IsSoundInodes (slice_set t.entries k (record { number = c.args.number; references = 1 })) l) (sym c.begin.ensures.locks) (begun_good c.args.number k t.entries t.locks f (sym c.place_of.ensures ∙ c.in-None.is) c.self.invariant.inodes));
      files = c.self.invariant.files;
      desks = c.self.invariant.desks;
    }

pub returns-in-Some-clause-ran : goal.returns-in-Some-clause-ran
returns-in-Some-clause-ran c =
    let t : TablesState = record { entries = c.self.inside.entries; locks = c.self.inside.locks; files = c.self.inside.files; desks = c.self.inside.desks } in
    let after : TablesState = record t { entries = c.count_up.new.self } in
    let counted = ap (λ (l : List Entry). Ran (Some c.args.number) (record t { entries = l })) (sym c.count_up.ensures) in
    let named = ap (λ n. Ran (Some n) after) (sym c.new.ensures) in
    subst (λ (v : TablesState). up_inode c.args.number v ≡ Ran (Some c.new.result) after) c.self.view_is
    (up_counted c.args.number c.in-Some.place t (sym c.place_of.ensures ∙ c.in-Some.is) ∙ (counted ∙ named))

pub returns-in-Some-clause-others : goal.returns-in-Some-clause-others
returns-in-Some-clause-others c =
    let t : TablesState = record { entries = c.self.inside.entries; locks = c.self.inside.locks; files = c.self.inside.files; desks = c.self.inside.desks } in
    let f = found c.args.number t.entries c.in-Some.place (sym c.place_of.ensures ∙ c.in-Some.is) in
    let after : TablesState = record t { entries = c.count_up.new.self } in
    subst (λ (v : TablesState). LeavesLocked v after) c.self.view_is
    (subst (λ (l : List Entry). LeavesLocked t (record t { entries = l })) (sym c.count_up.ensures) (counted_locked c.args.number c.in-Some.place t f))

pub returns-in-None-free_place-clause-ran : goal.returns-in-None-free_place-clause-ran
returns-in-None-free_place-clause-ran c =
    let t : TablesState = record { entries = c.self.inside.entries; locks = c.self.inside.locks; files = c.self.inside.files; desks = c.self.inside.desks } in
    subst (λ (v : TablesState). up_inode c.args.number v ≡ Ran None v) c.self.view_is
    (up_full c.args.number t (sym c.place_of.ensures ∙ c.in-None.is) (sym c.free_place.ensures ∙ c.in-None-free_place.is))

pub returns-in-Some-free_place-clause-ran : goal.returns-in-Some-free_place-clause-ran
returns-in-Some-free_place-clause-ran c =
    let t : TablesState = record { entries = c.self.inside.entries; locks = c.self.inside.locks; files = c.self.inside.files; desks = c.self.inside.desks } in
    let k = c.in-Some-free_place.free in
    let after : TablesState = record t { entries = c.begin.new.entries; locks = c.begin.new.locks } in
    let is : begun_at c.args.number k t ≡ after = λ i. record t { entries = sym c.begin.ensures.entries i; locks = sym c.begin.ensures.locks i } in
    subst (λ (v : TablesState). up_inode c.args.number v ≡ Ran (Some c.new-in-Some-free_place.result) after) c.self.view_is
    (up_begun c.args.number k t (sym c.place_of.ensures ∙ c.in-None.is) (sym c.free_place.ensures ∙ c.in-Some-free_place.is)
    ∙ (ap (λ (v : TablesState). Ran (Some c.args.number) v) is ∙ ap (λ n. Ran (Some n) after) (sym c.new-in-Some-free_place.ensures)))

pub returns-in-Some-free_place-clause-others : goal.returns-in-Some-free_place-clause-others
returns-in-Some-free_place-clause-others c =
    let t : TablesState = record { entries = c.self.inside.entries; locks = c.self.inside.locks; files = c.self.inside.files; desks = c.self.inside.desks } in
    let k = c.in-Some-free_place.free in
    let f = free t.entries k (sym c.free_place.ensures ∙ c.in-Some-free_place.is) in
    let after : TablesState = record t { entries = c.begin.new.entries; locks = c.begin.new.locks } in
    let is : begun_at c.args.number k t ≡ after = λ i. record t { entries = sym c.begin.ensures.entries i; locks = sym c.begin.ensures.locks i } in
    subst (λ (v : TablesState). LeavesLocked v after) c.self.view_is
    (subst (λ (v : TablesState). LeavesLocked t v) is (begun_locked c.args.number k t f))
