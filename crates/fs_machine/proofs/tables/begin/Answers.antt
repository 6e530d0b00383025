use Rattle.fs_machine.proofs.Lemmas.{◌∙◌, refl, sym, ap, None, Option, numbered, free_from, free_in, out_replaced, begun_locks, Inode, GuardState}
use Rattle.fs_machine.proofs.tables.begin.Goals as goal

-- a guard with this inode
abbrev given : GuardState Inode → Inode → GuardState Inode
given g v = record g { value = v }

pub unreachable-requires : goal.unreachable-requires
unreachable-requires c =
    let f = free_from c.args.entries.now c.args.place c.requires.within c.requires.free in
    free_in 0 c.args.place c.args.entries.now c.args.locks.now c.lock.new.self f c.requires.sound
    (ap (λ (r : Option (GuardState Inode)). (c.lock.new.self, r)) (sym c.in-None.is) ∙ c.lock.ensures.gives)

pub unlock-requires : goal.unlock-requires
unlock-requires c =
    let out = c.in-Some.ensures.out (numbered c.args.entries.now c.args.locks.now c.requires.sound) in
    out_replaced c.lock.new.self c.in-Some.guard (given c.in-Some.guard c.renew.new.self) c.renew.new.self refl out.2

pub returns-clause-locks : goal.returns-clause-locks
returns-clause-locks c =
    let f = free_from c.args.entries.now c.args.place c.requires.within c.requires.free in
    let out = c.in-Some.ensures.out (numbered c.args.entries.now c.args.locks.now c.requires.sound) in
    begun_locks 0 c.args.place c.args.entries.now c.args.locks.now c.lock.new.self c.unlock.new.self c.in-Some.guard (given c.in-Some.guard c.renew.new.self) (record { number = c.args.number; content = None })
    f c.requires.sound (ap (λ (r : Option (GuardState Inode)). (c.lock.new.self, r)) (sym c.in-Some.is) ∙ c.lock.ensures.gives) out.0 (ap (given c.in-Some.guard) c.renew.ensures) c.unlock.ensures.slots
