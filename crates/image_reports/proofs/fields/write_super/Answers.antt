use Rattle.std.proofs.Common.{rules, refl}
use Rattle.image_reports.specs.Vocabulary.{Appends, number_of}
use Rattle.image_reports.specs.Parts.{sizes_text, starts_text}
use Rattle.image_reports.proofs.Appending.{tells_both}
use Rattle.image_reports.proofs.fields.write_super.Goals as goal

pub returns : goal.returns
returns g c =
    let one : Appends (g.W.Write.contents c.args.out.now) (g.W.Write.contents c.write_sizes.new.out) (sizes_text (number_of c.args.sizes.now.version) c.args.sizes.now) = search rules in
    tells_both (g.W.Write.contents c.args.out.now) (g.W.Write.contents c.write_sizes.new.out) (g.W.Write.contents c.write_starts.new.out) c.write_starts.result (sizes_text (number_of c.args.sizes.now.version) c.args.sizes.now) (starts_text c.args.sizes.now) _ refl one c.write_starts.ensures
