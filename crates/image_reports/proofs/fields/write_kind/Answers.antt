use Rattle.std.proofs.Common.{rules, refl, OnOk, codes}
use Rattle.image_reports.specs.Vocabulary.{Appends}
use Rattle.image_reports.specs.Parts.{field_text}
use Rattle.image_reports.proofs.Appending.{tells_both}
use Rattle.image_reports.proofs.fields.write_kind.Goals as goal

pub returns : goal.returns
returns g c =
    let one : Appends (g.W.Write.contents c.args.out.now) (g.W.Write.contents c.write_signed.new.out) (field_text (codes "type") c.args.inode.now.kind) = search rules in
    let two : OnOk c.write_signed-2.result (Appends (g.W.Write.contents c.write_signed.new.out) (g.W.Write.contents c.write_signed-2.new.out) (field_text (codes "major") c.args.inode.now.major)) = search rules in
    tells_both (g.W.Write.contents c.args.out.now) (g.W.Write.contents c.write_signed.new.out) (g.W.Write.contents c.write_signed-2.new.out) c.write_signed-2.result (field_text (codes "type") c.args.inode.now.kind) (field_text (codes "major") c.args.inode.now.major) _ refl one two
