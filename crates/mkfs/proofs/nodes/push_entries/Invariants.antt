use Rattle.mkfs.proofs.Lemmas.{◌≡◌, ◌+◌, ◌++◌, drop, flat_map, spell_dirent, entries_from, names_of}
use Rattle.mkfs.proofs.nodes.push_entries.Given as goal

abbrev pub invariant-loop-file : goal.invariant-loop-file
invariant-loop-file l =
    (l.number ≡ 2 + l.file-index)
    × (l.content.items ++ flat_map (spell_dirent l.version) (entries_from l.number (names_of (drop l.file-index l.files)))
    ≡ l.fn.content.items ++ flat_map (spell_dirent l.version) (entries_from 2 (names_of l.files)))
