use Rattle.std.proofs.Common.{rules, ◌≡◌, ◌++◌, [], ◌∷◌, reverse, length}
use Rattle.image_reports.specs.Vocabulary.{Appends, tree_of}
use Rattle.image_reports.specs.Lines.{line_of}
use Rattle.image_reports.proofs.Pending.{none_waits, reverse_pop}
use Rattle.image_reports.proofs.Walking.{walk_ended, walk_turn}
use Rattle.image_reports.proofs.walk.write_below.Goals as goal

pub returns-in_default-clause-lists : goal.returns-in_default-clause-lists
returns-in_default-clause-lists g c =
    let none : length c.loop-line.pending.items ≡ 0 = search rules in
    walk_ended c.args.version (tree_of c.args.tree.now).nodes c.args.long c.args.start (reverse c.loop-line.pending.items) (g.W.Write.contents c.args.out.now) (g.W.Write.contents c.loop-line.out)
    c.loop-line.invariant (none_waits c.loop-line.pending.items none)

pub loop-line-preserved : goal.loop-line-preserved
loop-line-preserved g c =
    let had : c.loop-line.pending.items ≡ c.pop.new.self.items ++ c.in-Some.item ∷ [] = search rules in
    let told : Appends (g.W.Write.contents c.loop-line.out) (g.W.Write.contents c.write_line.new.out) (line_of c.args.version (tree_of c.args.tree.now).nodes c.args.long c.in-Some.item) = search rules in
    walk_turn c.args.version (tree_of c.args.tree.now).nodes c.args.long c.args.start c.in-Some.item (reverse c.loop-line.pending.items) (reverse c.pop.new.self.items) (reverse c.push_below.new.pending.items)
    (g.W.Write.contents c.args.out.now) (g.W.Write.contents c.loop-line.out) (g.W.Write.contents c.write_line.new.out)
    c.loop-line.invariant (reverse_pop c.loop-line.pending.items c.pop.new.self.items c.in-Some.item had) told (search rules)
