use Rattle.std.specs.Prelude.{◌≡◌}
use Rattle.std.proofs.Common.{rules, ap, ◌∙◌}
use Rattle.fs_layout.specs.declared.superblock.Super.{Super}
use Rattle.bench.proofs.logs.recovered.Goals as goal

pub returns-clause-place : goal.returns-clause-place
returns-clause-place c =
    let found = c.in-Ok.ensures.judges in
    let super = found.0.good.0.0.1 in
    let version : c.in-Ok.layout.sizes.version ≡ c.in-Ok.layout.version = ap (λ (s : Super). s.version) found.0.sizes ∙ c.supers_tell_versions.ensures _ _ super in
    search (rules, version)
