use Rattle.image_tree.proofs.Lemmas.{◌≡◌, recovered, length, ComesByCalls, Installed, UpToLog}
use Rattle.image_tree.proofs.recovery.install.Given as goal

abbrev pub invariant-loop-i : goal.invariant-loop-i
invariant-loop-i g l = record {
  faults : g.D.Device.failures l.device ≡ g.D.Device.failures l.fn.device;
  calls : ComesByCalls g.D.Device.Called l.fn.device l.device;
  at : Installed (g.D.Device.contents l.device) l.layout.sizes (recovered (g.D.Device.contents l.fn.device)) l.layout.head.blocks.items (length (g.D.Device.contents l.fn.device)) l.i;
  good : UpToLog l.layout.version (g.D.Device.contents l.device);
}
