use Rattle.locked_world.proofs.Lemmas.{◌≡◌, ◌∙◌, subst, blocks_of, Fuse, IsWellFormed, disk_of, opened, kept_opened, mounted_on, called_from}
use Rattle.locked_world.proofs.locked.Locked.new.Goals as goal

pub invariant_of-locked : goal.invariant_of-locked
invariant_of-locked g c =
    let same : c.new-2.result ≡ disk_of (opened c.args.image.items c.args.fuse) = c.new-2.ensures ∙ (λ j. record { bytes = (c.new.ensures.bytes ∙ c.in-Ok.ensures) j; left = c.args.fuse; faults = 0 }) in
    kept_opened c.args.image.items c.args.fuse c.new-3.result.events c.new-3.result.outcomes c.open-book.result.0.total c.new-2.result c.in-Ok-mount.world c.new-3.ensures.0 c.new-3.ensures.1 c.open-book.ensures.total same c.in-Ok-mount.ensures.ok.1 c.in-Ok-mount.ensures.ok.2
    c.in-Ok-mount.ensures.calls

pub returns-clause-well : goal.returns-clause-well
returns-clause-well g c =
    let same : c.new-2.result ≡ disk_of (opened c.args.image.items c.args.fuse) = c.new-2.ensures ∙ (λ j. record { bytes = (c.new.ensures.bytes ∙ c.in-Ok.ensures) j; left = c.args.fuse; faults = 0 }) in
    subst (λ (d : Fuse). IsWellFormed (blocks_of d.bytes)) same c.in-Ok-mount.ensures.ok.0

pub returns-clause-mounted : goal.returns-clause-mounted
returns-clause-mounted g c =
    let same : c.new-2.result ≡ disk_of (opened c.args.image.items c.args.fuse) = c.new-2.ensures ∙ (λ j. record { bytes = (c.new.ensures.bytes ∙ c.in-Ok.ensures) j; left = c.args.fuse; faults = 0 }) in
    mounted_on (opened c.args.image.items c.args.fuse) c.new-2.result c.in-Ok-mount.world same c.in-Ok-mount.ensures.ok.1 c.in-Ok-mount.ensures.ok.2

pub returns-clause-fuse : goal.returns-clause-fuse
returns-clause-fuse g c =
    let same : c.new-2.result ≡ disk_of (opened c.args.image.items c.args.fuse) = c.new-2.ensures ∙ (λ j. record { bytes = (c.new.ensures.bytes ∙ c.in-Ok.ensures) j; left = c.args.fuse; faults = 0 }) in
    called_from (opened c.args.image.items c.args.fuse) c.new-2.result c.in-Ok-mount.world same c.in-Ok-mount.ensures.calls
