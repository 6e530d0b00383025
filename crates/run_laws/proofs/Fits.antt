-- What is asked of whole inodes fits: a new one is a file or a directory, and a name fits into an entry. What is
-- written is bytes, and some, and not too many. And a mark says that there was no room exactly when the answer says
-- so.
use Rattle.run_laws.proofs.Vocabulary.{◌≡◌, ◌<◌, ◌≤◌, ℕ, length, IsBytes, Ret, Do, P, Answer, Claim, Enter, WriteFile, IsMade, says_no_room, name_len_of, Version}
use Rattle.inode_machine.specs.World.{Op}
use Rattle.call_programs.specs.Asks.{spoils}

-- no more than `most` bytes are written at once
abbrev pub Fits : Version → ℕ → Op → Type 0
Fits version most (Claim inode_type) = IsMade inode_type
Fits version most (Enter d e n) = length e ≤ name_len_of version
Fits version most (WriteFile fd n offset bytes) = (0 < length bytes) × IsBytes bytes × (length bytes ≤ most)
Fits version most op = Unit {0}

-- each operation that the program makes, whatever the ones before it answer
abbrev pub AllFitUpTo : Version → ℕ → {A : Type 0} → P A → Type 0
AllFitUpTo version most (Ret a) = Unit {0}
AllFitUpTo version most (Do op m k) = Fits version most op × ((a : Answer op) → spoils (m a) ≡ says_no_room op a) × ((a : Answer op) → AllFitUpTo version most (k a))

-- .. of one that writes nothing
abbrev pub AllFit : Version → {A : Type 0} → P A → Type 0
AllFit version p = AllFitUpTo version 0 p
