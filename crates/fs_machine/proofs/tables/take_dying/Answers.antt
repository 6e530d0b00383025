use Rattle.fs_machine.proofs.Lemmas.{◌≡◌, ◌∙◌, ℕ, get_or, sym, ap, subst, IfSome, List, Option, Some, slice_get, IsSome, slice_get-get_or, GuardState, Entry, Inode, dead_of, numbered, lock_still_at, out_alive, had_dead, had_alive, had_back, is_dead}
use Rattle.fs_machine.proofs.tables.take_dying.Goals as goal

-- the entry whose count was read
last : (es : List Entry) (k : ℕ) (e : Entry) (r : ℕ) → slice_get es k ≡ Some e → IfSome (slice_get es k) (λ (w : Entry). r ≡ w.references) → r ≡ 1 → e.references ≡ 1
last es k e r at read is = sym (subst (λ (o : Option Entry). IfSome o (λ (w : Entry). r ≡ w.references)) at read) ∙ is

pub unlock-requires : goal.unlock-requires
unlock-requires c = (c.in-Some.ensures.out (numbered c.args.entries.now c.args.locks.now c.requires.sound)).2

pub returns-in-None-clause-alive : goal.returns-in-None-clause-alive
returns-in-None-clause-alive c =
    let d : Entry = record { number = 0; references = 0 } in
    let e = get_or c.args.entries.now c.args.place d in
    let at = slice_get-get_or c.args.entries.now c.args.place d c.requires.within in
    out_alive c.args.hart c.args.place c.args.entries.now c.args.locks.now c.lock.new.self e c.requires.sound (slice_get-get_or c.args.entries.now c.args.place d c.requires.within) (last c.args.entries.now c.args.place e c.references.result at c.references.ensures c.if-references-ne-LAST_REFERENCE.false)
    (ap (λ (r : Option (GuardState Inode)). (c.lock.new.self, r)) (sym c.in-None.is) ∙ c.lock.ensures.gives)

pub returns-in-None-clause-same : goal.returns-in-None-clause-same
returns-in-None-clause-same c =
    let d : Entry = record { number = 0; references = 0 } in
    lock_still_at c.args.hart c.args.place c.args.entries.now c.args.locks.now c.lock.new.self (get_or c.args.entries.now c.args.place d) (slice_get-get_or c.args.entries.now c.args.place d c.requires.within) c.requires.sound
    c.lock.result c.lock.ensures.gives c.in-None.is

pub returns-then-is_dead-clause-dying : goal.returns-then-is_dead-clause-dying
returns-then-is_dead-clause-dying c =
    let d : Entry = record { number = 0; references = 0 } in
    let e = get_or c.args.entries.now c.args.place d in
    let at = slice_get-get_or c.args.entries.now c.args.place d c.requires.within in
    let dead : IsSome (dead_of c.in-Some.guard.value.content) = subst (λ (v : Inode). IsSome (dead_of v.content)) c.value.ensures (c.is_dead.ensures.0 c.if-is_dead.true) in
    had_dead c.args.hart c.args.place c.args.entries.now c.args.locks.now c.lock.new.self e c.requires.sound (slice_get-get_or c.args.entries.now c.args.place d c.requires.within) (last c.args.entries.now c.args.place e c.references.result at c.references.ensures c.if-references-ne-LAST_REFERENCE.false)
    c.in-Some.guard (ap (λ (r : Option (GuardState Inode)). (c.lock.new.self, r)) (sym c.in-Some.is) ∙ c.lock.ensures.gives) dead

pub returns-then-is_dead-clause-dead : goal.returns-then-is_dead-clause-dead
returns-then-is_dead-clause-dead c =
    (is_dead c.in-Some.guard.value.content (subst (λ (v : Inode). IsSome (dead_of v.content)) c.value.ensures (c.is_dead.ensures.0 c.if-is_dead.true))).1

pub returns-then-is_dead-clause-lock : goal.returns-then-is_dead-clause-lock
returns-then-is_dead-clause-lock c = ap (λ (r : Option (GuardState Inode)). (c.lock.new.self, r)) (sym c.in-Some.is) ∙ c.lock.ensures.gives

pub returns-else-is_dead-clause-alive : goal.returns-else-is_dead-clause-alive
returns-else-is_dead-clause-alive c =
    let d : Entry = record { number = 0; references = 0 } in
    let e = get_or c.args.entries.now c.args.place d in
    let at = slice_get-get_or c.args.entries.now c.args.place d c.requires.within in
    let isnt : IsSome (dead_of c.in-Some.guard.value.content) → ⊥ = λ some. let yes_ = c.is_dead.ensures.1 (subst (λ (v : Inode). IsSome (dead_of v.content)) (sym c.value.ensures) some) in let no_ = c.if-is_dead.false in absurd (cc (yes_, no_)) in
    had_alive c.args.hart c.args.place c.args.entries.now c.args.locks.now c.lock.new.self e c.requires.sound (slice_get-get_or c.args.entries.now c.args.place d c.requires.within) (last c.args.entries.now c.args.place e c.references.result at c.references.ensures c.if-references-ne-LAST_REFERENCE.false)
    c.in-Some.guard (ap (λ (r : Option (GuardState Inode)). (c.lock.new.self, r)) (sym c.in-Some.is) ∙ c.lock.ensures.gives) isnt

pub returns-else-is_dead-clause-same : goal.returns-else-is_dead-clause-same
returns-else-is_dead-clause-same c =
    let d : Entry = record { number = 0; references = 0 } in
    let e = get_or c.args.entries.now c.args.place d in
    let at = slice_get-get_or c.args.entries.now c.args.place d c.requires.within in
    had_back c.args.hart c.args.place c.args.entries.now c.args.locks.now c.lock.new.self e c.requires.sound (slice_get-get_or c.args.entries.now c.args.place d c.requires.within)
    c.in-Some.guard c.unlock.new.self (ap (λ (r : Option (GuardState Inode)). (c.lock.new.self, r)) (sym c.in-Some.is) ∙ c.lock.ensures.gives) c.unlock.ensures.slots
