use Rattle.console.proofs.Lemmas.{ℕ, List, Option, drop, Appends, entries_text}
use Rattle.console.proofs.history.write_entries.Given as goal

-- whatever the lines of the entries that are left lead to is what all lines lead to
abbrev pub invariant-loop-entry : goal.invariant-loop-entry
invariant-loop-entry g l =
    (end : Option (List ℕ)) → Appends (g.W.Write.contents l.out) end (entries_text (drop l.entry-index l.entries)) → Appends (g.W.Write.contents l.fn.out) end (entries_text l.entries)
