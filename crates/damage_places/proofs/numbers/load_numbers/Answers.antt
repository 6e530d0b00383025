use Rattle.image_tree.proofs.Lemmas.{refl, numbers_with, numbers_without}
use Rattle.damage_places.proofs.numbers.load_numbers.Goals as goal

pub returns-then-indirect-eq0-clause-numbers : goal.returns-then-indirect-eq0-clause-numbers
returns-then-indirect-eq0-clause-numbers g c =
    let e = numbers_without (g.D.Device.contents c.args.device.now) c.args.inode.now c.if-indirect-eq0.true in
    rw (e, c.append.ensures, c.new-numbers.ensures) refl

pub returns-clause-numbers : goal.returns-clause-numbers
returns-clause-numbers g c =
    let e = numbers_with (g.D.Device.contents c.args.device.now) c.args.inode.now c.if-indirect-eq0.false in
    rw (e, c.append-2.ensures, c.append.ensures, c.new-numbers.ensures, c.read_numbers.ensures, ← c.in_ok-load.ensures.read) refl
