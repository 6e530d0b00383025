use Rattle.fs_machine.proofs.Lemmas.{◌≡◌, ◌≢◌, ◌∙◌, ap, refl, sym, subst, List, Option, Some, None, IfNone, IfSome, SlotState, GuardState, Inode, TablesState, place_of, IsLocked, lock_inode, locked_as, found, lock_ran, lock_waits, lock_good, lock_still, lock_own, lock_leaves, lock_apart}
use Rattle.fs_machine.proofs.tables.Tables.lock.Goals as goal

pub invariant_of-self : goal.invariant_of-self
invariant_of-self c =
    let t = c.self.inside in
    let f = found c.args.number t.entries c.in-Some.place (sym c.place_of.ensures ∙ c.in-Some.is) in
    record {
      inodes = lock_good c.args.hart c.args.number c.in-Some.place t.entries t.locks c.lock.new.self c.lock.result f c.self.invariant.inodes c.lock.ensures.gives;
      files = c.self.invariant.files;
      desks = c.self.invariant.desks;
    }

pub returns-in-None-clause-ran : goal.returns-in-None-clause-ran
returns-in-None-clause-ran c =
    let t : TablesState = record { entries = c.self.inside.entries; locks = c.self.inside.locks; files = c.self.inside.files; desks = c.self.inside.desks } in
    let e : place_of c.args.number t.entries ≡ None = sym c.place_of.ensures ∙ c.in-None.is in
    subst (λ (v : TablesState). lock_inode c.args.hart c.args.number v ≡ locked_as None v) c.self.view_is (lock_waits c.args.hart c.args.number t e)

pub returns-in-Some-clause-ran : goal.returns-in-Some-clause-ran
returns-in-Some-clause-ran c =
    let t : TablesState = record { entries = c.self.inside.entries; locks = c.self.inside.locks; files = c.self.inside.files; desks = c.self.inside.desks } in
    let after : TablesState = record t { locks = c.lock.new.self } in
    let e : place_of c.args.number t.entries ≡ Some c.in-Some.place = sym c.place_of.ensures ∙ c.in-Some.is in
    subst (λ (v : TablesState). lock_inode c.args.hart c.args.number v ≡ locked_as c.lock.result after) c.self.view_is
    (lock_ran c.args.hart c.args.number c.in-Some.place t c.lock.new.self c.lock.result e c.lock.ensures.gives)

pub returns-in-Some-clause-still : goal.returns-in-Some-clause-still
returns-in-Some-clause-still c =
    let t : TablesState = record { entries = c.self.inside.entries; locks = c.self.inside.locks; files = c.self.inside.files; desks = c.self.inside.desks } in
    let after : TablesState = record t { locks = c.lock.new.self } in
    let f = found c.args.number t.entries c.in-Some.place (sym c.place_of.ensures ∙ c.in-Some.is) in
    let same = lock_still c.args.hart c.args.number c.in-Some.place t.entries t.locks c.lock.new.self f c.self.invariant.inodes in
    let all : (r : Option (GuardState Inode)) → (r ≡ None → c.lock.new.self ≡ t.locks) → IfNone r (after ≡ c.args.self.now) =
    λ r s. elim r as (λ o. (o ≡ None → c.lock.new.self ≡ t.locks) → IfNone o (after ≡ c.args.self.now)) [
      | None ↦ λ z. ap (λ (l : List (SlotState Inode)). record t { locks = l }) (z refl) ∙ c.self.view_is
      | Some guard ↦ λ z. tt
    ] s in
    all c.lock.result (same c.lock.result c.lock.ensures.gives)

pub returns-in-Some-clause-own : goal.returns-in-Some-clause-own
returns-in-Some-clause-own c =
    let t : TablesState = record { entries = c.self.inside.entries; locks = c.self.inside.locks; files = c.self.inside.files; desks = c.self.inside.desks } in
    let f = found c.args.number t.entries c.in-Some.place (sym c.place_of.ensures ∙ c.in-Some.is) in
    (lock_own c.args.hart c.args.number c.in-Some.place t c.lock.new.self c.lock.result f c.self.invariant.inodes c.lock.ensures.gives)

pub returns-in-Some-clause-others : goal.returns-in-Some-clause-others
returns-in-Some-clause-others c g locked =
    let t : TablesState = record { entries = c.self.inside.entries; locks = c.self.inside.locks; files = c.self.inside.files; desks = c.self.inside.desks } in
    let f = found c.args.number t.entries c.in-Some.place (sym c.place_of.ensures ∙ c.in-Some.is) in
    lock_leaves c.args.hart c.in-Some.place t c.lock.new.self f.entry c.lock.result c.self.invariant.inodes f.there c.lock.ensures.gives g (subst (λ v. IsLocked g v) (sym c.self.view_is) locked)

pub returns-in-Some-clause-apart : goal.returns-in-Some-clause-apart
returns-in-Some-clause-apart c =
    let t : TablesState = record { entries = c.self.inside.entries; locks = c.self.inside.locks; files = c.self.inside.files; desks = c.self.inside.desks } in
    let f = found c.args.number t.entries c.in-Some.place (sym c.place_of.ensures ∙ c.in-Some.is) in
    subst (λ (v : TablesState). IfSome c.lock.result (λ _. (g : GuardState Inode) → IsLocked g v → g.value.number ≢ c.args.number)) c.self.view_is
    (lock_apart c.args.hart c.args.number c.in-Some.place t c.lock.new.self c.lock.result f c.self.invariant.inodes c.lock.ensures.gives)
