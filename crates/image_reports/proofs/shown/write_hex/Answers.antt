use Rattle.std.proofs.Common.{rules, ◌∷◌, [], get_or}
use Rattle.image_reports.specs.Vocabulary.{Appends}
use Rattle.image_reports.specs.Shown.{hex}
use Rattle.image_reports.proofs.Appending.{hex_turn}
use Rattle.image_reports.proofs.shown.write_hex.Goals as goal

pub loop-byte-preserved : goal.loop-byte-preserved
loop-byte-preserved g c =
    let wrote : Appends (g.W.Write.contents c.loop-byte.out) (g.W.Write.contents c.write_all.new.self) (hex (get_or c.args.bytes.now c.loop-byte.byte-index 0 ∷ [])) = search rules in
    hex_turn (g.W.Write.contents c.args.out.now) (g.W.Write.contents c.loop-byte.out) (g.W.Write.contents c.write_all.new.self) c.args.bytes.now c.loop-byte.byte-index c.loop-byte-test.true c.loop-byte.invariant wrote
