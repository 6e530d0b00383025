use Rattle.console.proofs.Lemmas.{rules, sym, subst, ap, ◌≡◌, ◌∙◌, Err, Appends, blocks_of, of_mount, shape_of, shape_line, judged_at, judged_so}
use Rattle.console.proofs.run.check.Goals as goal

pub returns-in_err-shape-clause-refused : goal.returns-in_err-shape-clause-refused
returns-in_err-shape-clause-refused g c =
    let is : c.from_residual.result ≡ Err (of_mount c.in_err-shape.field-0.0) = search rules in
    let judged = judged_at (blocks_of c.args.disk) _ c.in-Ok.version c.in_err-shape.field-0.0 c.find_version.ensures.device.contents c.in-Ok.ensures.version c.in_err-shape.ensures.judges in
    rw is (judged_so _ c.in_err-shape.field-0.0 judged (sym c.in_err-shape.ensures.device.faults))

pub returns-clause-tells : goal.returns-clause-tells
returns-clause-tells g c =
    let told : Appends (g.W.Write.contents c.args.out.now) (g.W.Write.contents c.write_shape.new.out) (shape_line c.in_ok-shape.shape) = search rules in
    let blocks = c.find_version.ensures.device.contents in
    let is : c.in_ok-shape.shape ≡ shape_of (blocks_of c.args.disk) = c.in_ok-shape.ensures.judges.1 ∙ ap shape_of blocks in
    (c.examine.ensures.device.contents ∙ blocks, subst (λ s. Appends (g.W.Write.contents c.args.out.now) (g.W.Write.contents c.write_shape.new.out) (shape_line s)) is told)
