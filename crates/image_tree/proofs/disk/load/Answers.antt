use Rattle.image_tree.proofs.Lemmas.{place_within, recovered_at}
use Rattle.image_tree.proofs.disk.load.Goals as goal

pub read-requires : goal.read-requires
read-requires g c =
    rw (c.place_in-place.ensures, c.as_slice.ensures.value)
    (place_within (g.D.Device.contents c.args.device.now) c.args.layout.now c.args.b c.requires.layout c.requires.bound)

pub returns-clause-read : goal.returns-clause-read
returns-clause-read g c =
    let e = recovered_at (g.D.Device.contents c.args.device.now) c.args.layout.now c.args.b c.requires.layout in
    rw (e, ← c.as_slice.ensures.value, ← c.place_in-place.ensures) c.read.ensures.read
