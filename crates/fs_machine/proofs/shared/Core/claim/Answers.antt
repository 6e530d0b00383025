use Rattle.fs_machine.proofs.Lemmas.{◌∙◌, ap, sym, arith, Ran, LogPart, State, exec, NoInode, claims, claim_first, in_tables, state_of, put_back_ran, unreferenced}
use Rattle.fs_machine.proofs.shared.Core.claim.Goals as goal

pub up-requires : goal.up-requires
up-requires g c =
    let none = unreferenced c.args.self.now.tables c.args.candidates.now c.in-Some.number (sym c.first_free.ensures ∙ c.in-Some.is) in
    record { room = omega (arith, none) }

pub returns-in-None-clause-ran : goal.returns-in-None-clause-ran
unfolding exec
returns-in-None-clause-ran g c x =
    let d = g.D.Device.contents in
    let f = g.D.Device.failures in
    let old = c.args.self.now in
    let s : State = state_of d f old in
    ap (claim_first c.args.hart c.args.guard.value.block s) (sym c.first_free.ensures ∙ c.in-None.is)
    ∙ ap (λ (l : LogPart). Ran NoInode (record { log = l; tables = old.tables }))
    (put_back_ran d f c.args.hart old.log c.release.new.self c.args.guard.value.block c.release.ensures.seats c.release.ensures.rest)

pub returns-in-None-up-clause-ran : goal.returns-in-None-up-clause-ran
unfolding exec
returns-in-None-up-clause-ran g c x =
    let s : State = state_of g.D.Device.contents g.D.Device.failures c.args.self.now in
    ap (claim_first c.args.hart c.args.guard.value.block s) (sym c.first_free.ensures ∙ c.in-Some.is)
    ∙ ap (λ r. claims (in_tables s r)) c.in-None-up.ensures.ran

pub returns-in-Some-up-clause-ran : goal.returns-in-Some-up-clause-ran
unfolding exec
returns-in-Some-up-clause-ran g c x =
    let s : State = state_of g.D.Device.contents g.D.Device.failures c.args.self.now in
    ap (claim_first c.args.hart c.args.guard.value.block s) (sym c.first_free.ensures ∙ c.in-Some.is)
    ∙ ap (λ r. claims (in_tables s r)) c.in-Some-up.ensures.ran
