use Rattle.console.proofs.Lemmas.{rules, ◌≡◌, Err, ℕ, List, sym, subst, of_mount, RefusesDisk, mount_refused, mounted_on}
use Rattle.console.proofs.mount.mount_disk.Goals as goal

pub returns-in_err-base-clause-refused : goal.returns-in_err-base-clause-refused
returns-in_err-base-clause-refused c =
    let is : c.from_residual.result ≡ Err c.in_err-base.field-0.0 = search rules in
    rw is c.in_err-base.ensures.refused

pub returns-in-Ok-clause-mounted : goal.returns-in-Ok-clause-mounted
returns-in-Ok-clause-mounted c =
    mounted_on c.args.wanted c.args.disk c.base_of.new.disk c.in_ok-base.base c.in-Ok.session c.in_ok-base.ensures.blocks c.in-Ok.ensures.well c.in-Ok.ensures.rests.0 c.in-Ok.ensures.rests.1 c.in-Ok.ensures.rests.2 c.in_ok-base.ensures.tree

pub returns-in-Err-clause-refused : goal.returns-in-Err-clause-refused
returns-in-Err-clause-refused c =
    rw c.from.ensures (subst (λ (d : List (List ℕ)). RefusesDisk d (of_mount c.in-Err.fault)) c.in_ok-base.ensures.blocks
    (mount_refused _ c.in-Err.fault c.in-Err.ensures.err.judges (sym c.in-Err.ensures.err.failures_are)))
