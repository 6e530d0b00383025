use Rattle.fs_machine.proofs.Lemmas.{◌≡◌, sym, subst, None, TablesState, IsLocked, unlock_inode, unlock_ran, unlock_good, unlock_frees, unlock_leaves}
use Rattle.fs_machine.proofs.tables.Tables.unlock.Goals as goal

pub invariant_of-self : goal.invariant_of-self
invariant_of-self c =
    let t : TablesState = record { entries = c.self.inside.entries; locks = c.self.inside.locks; files = c.self.inside.files; desks = c.self.inside.desks } in
    let l : IsLocked c.args.guard t = subst (λ v. IsLocked c.args.guard v) (sym c.self.view_is) c.requires.locked in
    record {
      inodes = unlock_good c.args.guard t c.unlock.new.self c.self.invariant.inodes l c.unlock.ensures.slots;
      files = c.self.invariant.files;
      desks = c.self.invariant.desks;
    }

pub returns-clause-ran : goal.returns-clause-ran
returns-clause-ran c =
    let t : TablesState = record { entries = c.self.inside.entries; locks = c.self.inside.locks; files = c.self.inside.files; desks = c.self.inside.desks } in
    let l : IsLocked c.args.guard t = subst (λ v. IsLocked c.args.guard v) (sym c.self.view_is) c.requires.locked in
    let after : TablesState = record t { locks = c.unlock.new.self } in
    subst (λ (v : TablesState). after ≡ unlock_inode c.args.hart c.args.guard.value None v) c.self.view_is
    (unlock_ran c.args.hart c.args.guard t c.unlock.new.self c.self.invariant.inodes l c.unlock.ensures.slots)

pub returns-clause-rest : goal.returns-clause-rest
returns-clause-rest c o ne locked =
    let t : TablesState = record { entries = c.self.inside.entries; locks = c.self.inside.locks; files = c.self.inside.files; desks = c.self.inside.desks } in
    let l : IsLocked c.args.guard t = subst (λ v. IsLocked c.args.guard v) (sym c.self.view_is) c.requires.locked in
    unlock_leaves c.args.guard t c.unlock.new.self l c.unlock.ensures.slots o ne (subst (λ v. IsLocked o v) (sym c.self.view_is) locked)

pub returns-clause-free : goal.returns-clause-free
returns-clause-free c =
    let t : TablesState = record { entries = c.self.inside.entries; locks = c.self.inside.locks; files = c.self.inside.files; desks = c.self.inside.desks } in
    let l : IsLocked c.args.guard t = subst (λ v. IsLocked c.args.guard v) (sym c.self.view_is) c.requires.locked in
    unlock_frees c.args.guard t c.unlock.new.self c.self.invariant.inodes l c.unlock.ensures.slots
