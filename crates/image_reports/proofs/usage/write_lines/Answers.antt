use Rattle.std.proofs.Common.{rules, ◌++◌, refl}
use Rattle.image_reports.specs.Vocabulary.{Appends}
use Rattle.image_reports.specs.Usage.{used_text, unused_text, nodes_text, free_text}
use Rattle.image_reports.proofs.Appending.{appends_both, tells_both}
use Rattle.image_reports.proofs.usage.write_lines.Goals as goal

pub returns : goal.returns
returns g c =
    let u = c.args.usage.now in
    let one : Appends (g.W.Write.contents c.args.out.now) (g.W.Write.contents c.write_used.new.out) (used_text u) = search rules in
    let two : Appends (g.W.Write.contents c.write_used.new.out) (g.W.Write.contents c.write_unused.new.out) (unused_text u) = search rules in
    let three : Appends (g.W.Write.contents c.write_unused.new.out) (g.W.Write.contents c.write_nodes.new.out) (nodes_text u) = search rules in
    let both = appends_both (g.W.Write.contents c.args.out.now) (g.W.Write.contents c.write_used.new.out) (g.W.Write.contents c.write_unused.new.out) (used_text u) (unused_text u) one two in
    let all = appends_both (g.W.Write.contents c.args.out.now) (g.W.Write.contents c.write_unused.new.out) (g.W.Write.contents c.write_nodes.new.out) (used_text u ++ unused_text u) (nodes_text u) both three in
    tells_both (g.W.Write.contents c.args.out.now) (g.W.Write.contents c.write_nodes.new.out) (g.W.Write.contents c.write_free.new.out) c.write_free.result (used_text u ++ unused_text u ++ nodes_text u) (free_text u) _ refl all c.write_free.ensures
