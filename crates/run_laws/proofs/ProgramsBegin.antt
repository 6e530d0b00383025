-- Each call's program begins with an operation.
use Rattle.run_laws.proofs.Vocabulary.{ℕ, Bool, true, false, if◌then◌else◌, List, [], ◌∷◌, Call, Action, Reply, Name, creates, elements, program, in_parent, open_new, open_old, write_program, IsAtEnd, Version}
use Rattle.plain_tree.specs.declared.call.Call.TheVariants as calls
use Rattle.inode_machine.specs.Parts.{P}

parent_begins : (c : Call) (s : Action) (path : List ℕ) (k : ℕ → Name → List ℕ → P Reply) (es : List Name) → IsAtEnd (in_parent c s path k es) → ⊥
parent_begins c s path k [] e = e
parent_begins c s path k (x ∷ es) e = e

new_begins : (path : List ℕ) (flags : ℕ) (es : List Name) → IsAtEnd (open_new path flags es) → ⊥
new_begins path flags [] e = e
new_begins path flags (x ∷ es) e = e

write_begins : (fd : ℕ) (bytes : List ℕ) → IsAtEnd (write_program fd bytes) → ⊥
write_begins fd [] e = e
write_begins fd (b ∷ bs) e = e

pub program_begins : (version : Version) (call : Call) → IsAtEnd (program version call) → ⊥
program_begins version (calls.Open path flags) e = by (creates flags) e
  where
    by : (b : Bool) → IsAtEnd (if b then open_new path flags (elements version path) else open_old version path flags) → ⊥
    by true t = new_begins path flags (elements version path) t
    by false t = t
program_begins version (calls.Read fd buffer) e = e
program_begins version (calls.Write fd bytes) e = write_begins fd bytes e
program_begins version (calls.Link old new) e = e
program_begins version (calls.Unlink path) e = parent_begins _ _ path _ (elements version path) e
program_begins version (calls.Mkdir path) e = parent_begins _ _ path _ (elements version path) e
program_begins version (calls.Chdir path) e = e
program_begins version (calls.Dup fd) e = e
program_begins version (calls.Fstat fd) e = e
program_begins version (calls.Close fd) e = e
program_begins version (calls.Inherit child) e = e
