-- Files that descriptors name, whose inodes' locks are in hand.
use Rattle.std.specs.Prelude.{◌≡◌, ℕ, List, Some, None}
use Rattle.inode_parts.specs.Vocabulary.{Ret, Do, unmarked, Inode, Hand, inode_at, nothing, Heard}
use Rattle.fs_machine.specs.Steps as steps
use Rattle.inode_parts.specs.OneSteps.{other}
use Rattle.inode_parts.specs.Parts.{Part}
use Rattle.inode_parts.specs.declared.file_bytes.LockedFile.{LockedFile}

-- no other lock is in hand
abbrev pub IsOnly : LockedFile → Hand → Type 0
IsOnly f h = inode_at (other f.seat) h ≡ None

-- In one step the lock goes back with the inode so, and the file moves to this offset. The call's text is so then,
-- and this is heard.
abbrev pub moved : LockedFile → Inode → (upto : ℕ) → List ℕ → Heard → Part
moved f v upto text x = Do (steps.Unlock v (Some (f.fd, upto))) unmarked (λ _. Ret (record { answer = (text, x); carry = nothing }))
