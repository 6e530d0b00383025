use Rattle.image_tree.proofs.Lemmas.{◌≡◌, [], ComesByCalls, logged, IsImageOf, ReclaimedTo}
use Rattle.image_tree.proofs.freeing.reclaim.Given as goal

abbrev pub invariant-loop-i : goal.invariant-loop-i
invariant-loop-i g l = record {
  faults : g.D.Device.failures l.device ≡ g.D.Device.failures l.fn.device;
  calls : ComesByCalls g.D.Device.Called l.fn.device l.device;
  image : IsImageOf l.fn.version (g.D.Device.contents l.fn.device) (g.D.Device.contents l.device);
  empty : logged (g.D.Device.contents l.device) ≡ [];
  to : ReclaimedTo (g.D.Device.contents l.fn.device) (g.D.Device.contents l.device) l.i;
}
