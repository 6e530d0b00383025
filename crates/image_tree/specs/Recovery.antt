-- The answers of recovery.
use Rattle.std.specs.Prelude.{Result, Ok, Err}
use Rattle.image_tree.specs.declared.fault.MountFault.{MountFault}
use Rattle.image_tree.specs.declared.fault.MountFault.TheVariants.{Damaged, DeviceFault, NoMemory}

abbrev pub IfDamaged : MountFault → Type 0 → Type 0
IfDamaged (Damaged d) P = P
IfDamaged DeviceFault P = Unit {0}
IfDamaged NoMemory P = P

-- what holds if the image was refused, and the device did not fail
abbrev pub OnDamage : {T : Type 0} → Result T MountFault → Type 0 → Type 0
OnDamage (Ok x) P = Unit {0}
OnDamage (Err e) P = IfDamaged e P
