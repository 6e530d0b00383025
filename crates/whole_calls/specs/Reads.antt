-- The rest of a read.
use Rattle.std.specs.Prelude.{◌≡◌, ◌≤◌, ℕ, ◌++◌, List, take, drop, length}
use Rattle.whole_calls.specs.Vocabulary.{Reply, LocksIt, P, say, read_on, read_program, count_in, reply_to, IsNamed, Ask, Heard}
use Rattle.image_versions.specs.declared.version.Version.{Version}
use Rattle.plain_tree.specs.declared.answer.Answer.TheVariants as answers
use Rattle.plain_tree.specs.declared.call.Call.TheVariants as calls
use Rattle.path_walk.specs.declared.asks.Ask.TheVariants as ask
use Rattle.whole_calls.specs.declared.reading.Read.{Read}
use Rattle.whole_calls.specs.declared.reading.Read.TheVariants as reading

abbrev pub read_of : ℕ → List ℕ → Read → P Reply
read_of fd buffer reading.Lock = read_program fd buffer
read_of fd buffer (reading.Part n offset) = read_on fd buffer (LocksIt n offset)
read_of fd buffer (reading.Says count) = say (reply_to (calls.Read fd buffer) (answers.Count count))

-- a part that is read is at the buffer's front; nothing else changes it
abbrev pub FilledFrom : List ℕ → List ℕ → Read → Heard → Type 0
FilledFrom old new reading.Lock x = new ≡ old
FilledFrom old new (reading.Part n offset) x = new ≡ take (count_in x) new ++ drop (count_in x) old
FilledFrom old new (reading.Says count) x = new ≡ old

-- if a part must be read, as much of it is asked as the buffer has room for
abbrev pub ReadAsks : Version → List ℕ → Read → Ask → Type 0
ReadAsks v buffer (reading.Part n offset) (ask.ReadFile fd m at count) = count ≡ length buffer
ReadAsks v buffer c a = IsNamed v buffer a

-- no more is read then than that
abbrev pub HasRoomIn : List ℕ → Read → Heard → Type 0
HasRoomIn buffer (reading.Part n offset) x = count_in x ≤ length buffer
HasRoomIn buffer c x = Unit {0}

abbrev pub ReadFits : List ℕ → Read → Type 0
ReadFits buffer reading.Lock = Unit {0}
ReadFits buffer (reading.Part n offset) = Unit {0}
ReadFits buffer (reading.Says count) = count ≤ length buffer
