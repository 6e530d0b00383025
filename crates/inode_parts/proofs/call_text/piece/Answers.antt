use Rattle.inode_parts.proofs.Lemmas.{◌≡◌, ◌-◌, ◌*◌, min, length, take, drop, ◌∙◌, arith, length-drop, take_all, take_min, piece_len}
use Rattle.inode_parts.proofs.call_text.piece.Goals as goal

pub returns-clause-is : goal.returns-clause-is
returns-clause-is c =
    let text = c.args.text.now in
    let from = piece_len * c.args.index in
    let rest = drop from text in
    let all : take (length text - from) rest ≡ rest = take_all (length text - from) rest (omega (arith, length-drop from text)) in
    let few : c.min.result ≡ min piece_len (length rest) = omega (arith, length-drop from text) in
    (λ i. take (few i) (all i)) ∙ take_min piece_len rest
