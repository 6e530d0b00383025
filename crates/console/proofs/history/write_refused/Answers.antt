use Rattle.console.proofs.Lemmas.{◌≡◌, ◌++◌, List, ℕ, refl, append_assoc, codes, decimal, Appends, tells_both}
use Rattle.console.proofs.history.write_refused.Goals as goal

pub returns : goal.returns
returns g c =
    let head : List ℕ = codes "history refused " ++ decimal c.args.number ++ codes " " ++ c.args.name.now in
    let whole : List ℕ = codes "history refused " ++ decimal c.args.number ++ codes " " ++ c.args.name.now ++ codes "\n" in
    let same : head ++ codes "\n" ≡ whole = simp append_assoc refl in
    let first : Appends (g.W.Write.contents c.args.out.now) (g.W.Write.contents c.write.new.self) head = simp append_assoc c.in_ok-write.ensures.bytes in
    tells_both (g.W.Write.contents c.args.out.now) (g.W.Write.contents c.write.new.self) (g.W.Write.contents c.writeln.new.self) c.writeln.result head (codes "\n") whole same first c.writeln.ensures.bytes
