use Rattle.mkfs.proofs.Lemmas.{◌≡◌, ◌++◌, List, ℕ, ap, ◌∙◌, append_assoc, flat_map, spell_dirent, Used, dot, dotdot, root_content, whole, entries_from, names_of}
use Rattle.mkfs.proofs.nodes.root_content.Goals as goal

pub returns : goal.returns
unfolding root_content
returns c =
    let a : List ℕ = spell_dirent c.args.version (Used 1 dot) in
    let b : List ℕ = spell_dirent c.args.version (Used 1 dotdot) in
    let rest : List ℕ = flat_map (spell_dirent c.args.version) (entries_from 2 (names_of c.args.files.now)) in
    let one : c.push_entry.new.content.items ≡ a = c.in_ok-push_entry.ensures ∙ ap (λ (xs : List ℕ). xs ++ a) c.new-entries.ensures.items in
    let two : c.push_entry-2.new.content.items ≡ a ++ b = c.in_ok-push_entry-2.ensures ∙ ap (λ (xs : List ℕ). xs ++ b) one in
    let all : c.push_entries.new.content.items ≡ a ++ (b ++ rest) =
    c.in_ok-push_entries.ensures ∙ ap (λ (xs : List ℕ). xs ++ rest) two ∙ append_assoc a b rest in
    c.in_ok-push_whole.ensures
    ∙ ap (λ (xs : List ℕ). xs ++ whole c.deref.result.now) c.new-content.ensures.items
    ∙ ap whole (c.deref.ensures.value ∙ all)
