use Rattle.std.proofs.Common.{rules, refl, OnOk, codes}
use Rattle.image_reports.specs.Vocabulary.{Appends}
use Rattle.image_reports.specs.Parts.{field_text}
use Rattle.image_reports.proofs.Appending.{tells_both}
use Rattle.image_reports.proofs.fields.write_links.Goals as goal

pub returns : goal.returns
returns g c =
    let one : Appends (g.W.Write.contents c.args.out.now) (g.W.Write.contents c.write_signed.new.out) (field_text (codes "minor") c.args.inode.now.minor) = search rules in
    let two : OnOk c.write_signed-2.result (Appends (g.W.Write.contents c.write_signed.new.out) (g.W.Write.contents c.write_signed-2.new.out) (field_text (codes "links") c.args.inode.now.nlink)) = search rules in
    tells_both (g.W.Write.contents c.args.out.now) (g.W.Write.contents c.write_signed.new.out) (g.W.Write.contents c.write_signed-2.new.out) c.write_signed-2.result (field_text (codes "minor") c.args.inode.now.minor) (field_text (codes "links") c.args.inode.now.nlink) _ refl one two
