use Rattle.directory.proofs.Lemmas.{ap, ◌∙◌, List, ℕ, take, dots_in_front}
use Rattle.directory.proofs.fill.dots.Goals as goal

pub returns : goal.returns
returns c =
    let width = c.dirent_len-len.ensures in
    let one : List ℕ = c.entry_bytes.result in
    let two : List ℕ = c.entry_bytes-2.result in
    dots_in_front c.args.version c.args.number c.args.parent c.dirent_len-len.result c.copy_from_slice.new.self _ c.copy_from_slice-2.new.self width
    (c.copy_from_slice.ensures.after ∙ ap (λ (n : ℕ). take n one) width ∙ c.entry_bytes.ensures)
    (c.copy_from_slice-2.ensures.after ∙ ap (λ (n : ℕ). take n two) width ∙ c.entry_bytes-2.ensures)
