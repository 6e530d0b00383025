use Rattle.script.proofs.Lemmas.{◌≡◌, ◌++◌, refl, subst, List, ℕ, append_assoc, codes, decimal, OnOk, Appends, type_number, stat_text, tells_both}
use Rattle.script.proofs.entries.write_stat.Goals as goal

pub returns : goal.returns
returns g c =
    let head : List ℕ = decimal c.args.stat.now.device ++ codes " " ++ decimal c.args.stat.now.inode in
    let rest : List ℕ = codes " " ++ decimal (type_number c.args.stat.now.kind) ++ codes " " ++ decimal c.args.stat.now.nlink ++ codes " " ++ decimal c.args.stat.now.size in
    let same : head ++ rest ≡ stat_text c.args.stat.now = simp append_assoc refl in
    let told : OnOk c.write_state.result (Appends (g.W.Write.contents c.write_inode.new.out) (g.W.Write.contents c.write_state.new.out) rest) =
    subst (λ kind. OnOk c.write_state.result (Appends (g.W.Write.contents c.write_inode.new.out) (g.W.Write.contents c.write_state.new.out) (codes " " ++ decimal kind ++ codes " " ++ decimal c.args.stat.now.nlink ++ codes " " ++ decimal c.args.stat.now.size))) c.number.ensures c.write_state.ensures in
    tells_both (g.W.Write.contents c.args.out.now) (g.W.Write.contents c.write_inode.new.out) (g.W.Write.contents c.write_state.new.out) c.write_state.result head rest (stat_text c.args.stat.now) same
    c.in_ok-write_inode.ensures told
