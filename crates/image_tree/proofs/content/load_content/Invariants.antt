use Rattle.image_tree.proofs.Lemmas.{◌≡◌, ComesByCalls, front_blocks}
use Rattle.image_tree.proofs.content.load_content.Given as goal

abbrev pub invariant-loop-k : goal.invariant-loop-k
invariant-loop-k g l =
    (g.D.Device.contents l.device ≡ g.D.Device.contents l.fn.device) × (g.D.Device.failures l.device ≡ g.D.Device.failures l.fn.device)
    × (l.bytes.items ≡ front_blocks (g.D.Device.contents l.fn.device) l.inode l.k)
    × ComesByCalls g.D.Device.Called l.fn.device l.device
