use Rattle.fs_machine.proofs.Lemmas.{◌≡◌, ◌∙◌, ap, sym, subst, refl, List, Some, None, SlotState, Ran, Entry, Inode, TablesState, place_of, references_of, holder_of, drop_inode, uncounted_at, Counts, Dies, IsLocked, LeavesLocked, IsSoundInodes, found, lock_good, lock_own, lock_leaves, lock_apart, lock_had, uncounted_good, uncounted_locked, last_free, drop_counted, drop_dies}
use Rattle.fs_machine.proofs.tables.Tables.drop_reference.Goals as goal

pub invariant_of-self : goal.invariant_of-self
invariant_of-self c =
    let t : TablesState = record { entries = c.self.inside.entries; locks = c.self.inside.locks; files = c.self.inside.files; desks = c.self.inside.desks } in
    let f = found c.number.result t.entries c.in-Some.place (sym c.place_of.ensures ∙ c.in-Some.is) in
    record {
      inodes = lock_good c.args.hart c.number.result c.in-Some.place t.entries t.locks c.take_dying.new.locks (Some c.in-Some-take_dying.guard) f c.self.invariant.inodes c.in-Some-take_dying.ensures.lock;
      files = c.self.invariant.files;
      desks = c.self.invariant.desks;
    }

pub invariant_of-self-in-None-take_dying : goal.invariant_of-self-in-None-take_dying
invariant_of-self-in-None-take_dying c =
    let t : TablesState = record { entries = c.self.inside.entries; locks = c.self.inside.locks; files = c.self.inside.files; desks = c.self.inside.desks } in
    let e : place_of c.args.reference t.entries ≡ Some c.in-Some.place = subst (λ n. place_of n t.entries ≡ Some c.in-Some.place) c.number.ensures (sym c.place_of.ensures ∙ c.in-Some.is) in
    let f = found c.args.reference t.entries c.in-Some.place e in
    let last : references_of c.args.reference t ≡ 1 → holder_of c.args.reference t ≡ None = subst (λ (v : TablesState). references_of c.args.reference v ≡ 1 → holder_of c.args.reference v ≡ None) (sym c.self.view_is) c.requires.last in
    record {
      inodes = subst (λ (l : List (SlotState Inode)). IsSoundInodes c.count_down.new.self l) (sym c.in-None-take_dying.ensures.same)
          (subst (λ (l : List Entry). IsSoundInodes l t.locks) (sym c.count_down.ensures) (uncounted_good c.args.reference c.in-Some.place t.entries t.locks f (last_free c.args.reference c.in-Some.place t f e last) c.self.invariant.inodes));
      files = c.self.invariant.files;
      desks = c.self.invariant.desks;
    }

pub returns-in-Some-take_dying-clause-ran : goal.returns-in-Some-take_dying-clause-ran
returns-in-Some-take_dying-clause-ran c =
    let t : TablesState = record { entries = c.self.inside.entries; locks = c.self.inside.locks; files = c.self.inside.files; desks = c.self.inside.desks } in
    let e : place_of c.args.reference t.entries ≡ Some c.in-Some.place = subst (λ n. place_of n t.entries ≡ Some c.in-Some.place) c.number.ensures (sym c.place_of.ensures ∙ c.in-Some.is) in
    let f = found c.args.reference t.entries c.in-Some.place e in
    let had = lock_had c.args.hart c.in-Some.place t.entries t.locks c.take_dying.new.locks f.entry (Some c.in-Some-take_dying.guard) c.self.invariant.inodes f.there c.in-Some-take_dying.ensures.lock in
    let after : TablesState = record t { locks = c.take_dying.new.locks } in
    subst (λ (v : TablesState). drop_inode c.args.hart c.args.reference v ≡ Ran (Dies c.args.reference c.in-Some-take_dying.guard.value.content) after) c.self.view_is
    (drop_dies c.args.hart c.args.reference c.in-Some.place t c.take_dying.new.locks c.in-Some-take_dying.guard.value.content e c.in-Some-take_dying.ensures.dying c.in-Some-take_dying.ensures.dead had)

pub returns-in-Some-take_dying-clause-own : goal.returns-in-Some-take_dying-clause-own
returns-in-Some-take_dying-clause-own c =
    let t : TablesState = record { entries = c.self.inside.entries; locks = c.self.inside.locks; files = c.self.inside.files; desks = c.self.inside.desks } in
    let e : place_of c.args.reference t.entries ≡ Some c.in-Some.place = subst (λ n. place_of n t.entries ≡ Some c.in-Some.place) c.number.ensures (sym c.place_of.ensures ∙ c.in-Some.is) in
    let f = found c.args.reference t.entries c.in-Some.place e in
    let own = lock_own c.args.hart c.args.reference c.in-Some.place t c.take_dying.new.locks (Some c.in-Some-take_dying.guard) f c.self.invariant.inodes c.in-Some-take_dying.ensures.lock in
    (refl, own.0, own.1, own.2)

pub returns-in-Some-take_dying-clause-others : goal.returns-in-Some-take_dying-clause-others
returns-in-Some-take_dying-clause-others c g locked =
    let t : TablesState = record { entries = c.self.inside.entries; locks = c.self.inside.locks; files = c.self.inside.files; desks = c.self.inside.desks } in
    let f = found c.number.result t.entries c.in-Some.place (sym c.place_of.ensures ∙ c.in-Some.is) in
    lock_leaves c.args.hart c.in-Some.place t c.take_dying.new.locks f.entry (Some c.in-Some-take_dying.guard) c.self.invariant.inodes f.there c.in-Some-take_dying.ensures.lock g
    (subst (λ v. IsLocked g v) (sym c.self.view_is) locked)

pub returns-in-Some-take_dying-clause-apart : goal.returns-in-Some-take_dying-clause-apart
returns-in-Some-take_dying-clause-apart c g locked =
    let t : TablesState = record { entries = c.self.inside.entries; locks = c.self.inside.locks; files = c.self.inside.files; desks = c.self.inside.desks } in
    let e : place_of c.args.reference t.entries ≡ Some c.in-Some.place = subst (λ n. place_of n t.entries ≡ Some c.in-Some.place) c.number.ensures (sym c.place_of.ensures ∙ c.in-Some.is) in
    let f = found c.args.reference t.entries c.in-Some.place e in
    lock_apart c.args.hart c.args.reference c.in-Some.place t c.take_dying.new.locks (Some c.in-Some-take_dying.guard) f c.self.invariant.inodes c.in-Some-take_dying.ensures.lock g
    (subst (λ v. IsLocked g v) (sym c.self.view_is) locked)

pub returns-in-None-take_dying-clause-ran : goal.returns-in-None-take_dying-clause-ran
returns-in-None-take_dying-clause-ran c =
    let t : TablesState = record { entries = c.self.inside.entries; locks = c.self.inside.locks; files = c.self.inside.files; desks = c.self.inside.desks } in
    let e : place_of c.args.reference t.entries ≡ Some c.in-Some.place = subst (λ n. place_of n t.entries ≡ Some c.in-Some.place) c.number.ensures (sym c.place_of.ensures ∙ c.in-Some.is) in
    let after : TablesState = record t { entries = c.count_down.new.self; locks = c.take_dying.new.locks } in
    let is : uncounted_at c.in-Some.place t ≡ after = λ i. record t { entries = sym c.count_down.ensures i; locks = sym c.in-None-take_dying.ensures.same i } in
    subst (λ (v : TablesState). drop_inode c.args.hart c.args.reference v ≡ Ran Counts after) c.self.view_is
    (drop_counted c.args.hart c.args.reference c.in-Some.place t e c.in-None-take_dying.ensures.alive ∙ ap (λ (v : TablesState). Ran Counts v) is)

pub returns-in-None-take_dying-clause-others : goal.returns-in-None-take_dying-clause-others
returns-in-None-take_dying-clause-others c g locked =
    let t : TablesState = record { entries = c.self.inside.entries; locks = c.self.inside.locks; files = c.self.inside.files; desks = c.self.inside.desks } in
    let e : place_of c.args.reference t.entries ≡ Some c.in-Some.place = subst (λ n. place_of n t.entries ≡ Some c.in-Some.place) c.number.ensures (sym c.place_of.ensures ∙ c.in-Some.is) in
    let f = found c.args.reference t.entries c.in-Some.place e in
    let last : references_of c.args.reference t ≡ 1 → holder_of c.args.reference t ≡ None = subst (λ (v : TablesState). references_of c.args.reference v ≡ 1 → holder_of c.args.reference v ≡ None) (sym c.self.view_is) c.requires.last in
    let all : LeavesLocked t (record t { entries = c.count_down.new.self; locks = c.take_dying.new.locks }) =
    subst (λ (l : List (SlotState Inode)). LeavesLocked t (record t { entries = c.count_down.new.self; locks = l })) (sym c.in-None-take_dying.ensures.same)
    (subst (λ (l : List Entry). LeavesLocked t (record t { entries = l })) (sym c.count_down.ensures) (uncounted_locked c.args.reference c.in-Some.place t f (last_free c.args.reference c.in-Some.place t f e last))) in
    all g (subst (λ v. IsLocked g v) (sym c.self.view_is) locked)
