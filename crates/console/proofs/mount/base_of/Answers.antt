use Rattle.console.proofs.Lemmas.{rules, ◌≡◌, Err, sym, blocks_of, of_mount, judged_at, mount_refused}
use Rattle.console.proofs.mount.base_of.Goals as goal

pub returns-in_err-base-clause-refused : goal.returns-in_err-base-clause-refused
returns-in_err-base-clause-refused c =
    let is : c.from_residual.result ≡ Err (of_mount c.in_err-base.field-0.0) = search rules in
    let judged = judged_at (blocks_of c.args.disk.now) _ c.in-Ok.version c.in_err-base.field-0.0 c.find_version.ensures.device.contents c.in-Ok.ensures.version c.in_err-base.ensures.judges in
    rw is (mount_refused _ c.in_err-base.field-0.0 judged (sym c.in_err-base.ensures.device.faults))
