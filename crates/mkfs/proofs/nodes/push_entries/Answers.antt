use Rattle.mkfs.proofs.Lemmas.{◌++◌, ℕ, List, ap, ◌∙◌, subst, sym, arith, IsName, spell_dirent, Used, NewFile, at-file, entries-next, one_more}
use Rattle.mkfs.proofs.nodes.push_entries.Goals as goal

pub push_entry-requires-clause-name : goal.push_entry-requires-clause-name
push_entry-requires-clause-name c =
    subst (IsName c.args.version) (sym c.as_slice.ensures.value)
    (at-file (λ (f : NewFile). f.name.items) (IsName c.args.version) c.args.files.now c.loop-file.file-index c.file-item.result c.requires.names c.loop-file-test.true c.file-item.is)

pub loop-file-preserved : goal.loop-file-preserved
loop-file-preserved c =
    let number : ℕ = c.loop-file.number in
    let old : List ℕ = c.loop-file.content.items in
    let new = c.in_ok-push_entry.ensures ∙ ap (λ (name : List ℕ). old ++ spell_dirent c.args.version (Used number name)) c.as_slice.ensures.value in (
      omega arith,
      one_more old _ _ _ _ _ new (entries-next c.args.version c.args.files.now c.loop-file.file-index number c.file-item.result c.loop-file-test.true c.file-item.is) c.loop-file.invariant.1,
    )
