use Rattle.std.specs.Prelude.{position}
use Rattle.fs_machine.specs.Tables.{is_unused}
use Rattle.fs_machine.proofs.Lemmas.{◌∙◌, ap, sym, arith, List, Entry, free_none, free_past, free_used}
use Rattle.fs_machine.proofs.entries.Entries.free_place.Goals as goal

pub returns-in-Some : goal.returns-in-Some
returns-in-Some c =
    let inside = c.self.invariant in
    let within = inside.within in
    let long = inside.places in
    free_used c.self.inside.entries c.self.inside.used c.in-Some.place (omega (arith, within, long)) (sym c.free_in.ensures ∙ c.in-Some.is)
    ∙ ap (λ (l : List Entry). position is_unused l) c.self.view_is

pub returns-then-self-lt-MEMORY_INODES : goal.returns-then-self-lt-MEMORY_INODES
returns-then-self-lt-MEMORY_INODES c =
    let inside = c.self.invariant in
    let long = inside.places in
    let lt = c.if-self-lt-MEMORY_INODES.true in
    free_past c.self.inside.entries c.self.inside.used inside.free (omega (arith, lt, long)) (sym c.free_in.ensures ∙ c.in-None.is)
    ∙ ap (λ (l : List Entry). position is_unused l) c.self.view_is

pub returns-else-self-lt-MEMORY_INODES : goal.returns-else-self-lt-MEMORY_INODES
returns-else-self-lt-MEMORY_INODES c =
    let inside = c.self.invariant in
    let long = inside.places in
    let ge = c.if-self-lt-MEMORY_INODES.false in
    free_none c.self.inside.entries c.self.inside.used (omega (arith, ge, long)) (sym c.free_in.ensures ∙ c.in-None.is)
    ∙ ap (λ (l : List Entry). position is_unused l) c.self.view_is
