use Rattle.fs_machine.proofs.Lemmas.{◌≡◌, ◌∙◌, ap, sym, get_or, Option, true, is_some, IsSome, slice_get-get_or, Loaded, Entry, had_out, had_back}
use Rattle.fs_machine.proofs.tables.is_dying.Goals as goal

pub returns-in-None-clause-dying : goal.returns-in-None-clause-dying
returns-in-None-clause-dying c = ap (λ (o : Option Loaded). is_some o) (sym c.in-None.ensures.alive)

pub unlock-requires : goal.unlock-requires
unlock-requires c = had_out 0 c.args.place c.args.entries.now c.args.locks.now c.take_dying.new.locks c.in-Some.guard c.requires.sound c.in-Some.ensures.lock

pub returns-in-Some-clause-dying : goal.returns-in-Some-clause-dying
returns-in-Some-clause-dying c =
    let yes : (o : Option Loaded) → IsSome o → true ≡ is_some o = λ o some. sym some in
    yes c.in-Some.guard.value.content c.in-Some.ensures.dead ∙ ap (λ (o : Option Loaded). is_some o) (sym c.in-Some.ensures.dying)

pub returns-in-Some-clause-same : goal.returns-in-Some-clause-same
returns-in-Some-clause-same c =
    let d : Entry = record { number = 0; references = 0 } in
    had_back 0 c.args.place c.args.entries.now c.args.locks.now c.take_dying.new.locks (get_or c.args.entries.now c.args.place d) c.requires.sound (slice_get-get_or c.args.entries.now c.args.place d c.requires.within)
    c.in-Some.guard c.unlock.new.self c.in-Some.ensures.lock c.unlock.ensures.slots
