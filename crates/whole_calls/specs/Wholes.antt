-- The rest of a call, whichever it is.
use Rattle.std.specs.Prelude.{◌≢◌, ◌≤◌, ◌<◌, ◌^◌, ◌+◌, ℕ, Bool, List, [], ◌++◌, length, All}
use Rattle.whole_calls.specs.Vocabulary.{elements, CallAnswer, Reply, Call, Action, P, stepped, IsNamed, IsNamedInTwo, Ask, Heard}
use Rattle.image_versions.specs.declared.version.Version.{Version}
use Rattle.plain_tree.specs.declared.call.Call.TheVariants as calls
use Rattle.plain_tree.specs.declared.step.Action.TheVariants as steps
use Rattle.whole_calls.specs.Calls.{Fits, chdir_of, chdir_stage, dup_of, most_listed, stat_of, unlink_of, unlink_stage}
use Rattle.whole_calls.specs.Closes.{close_of, inherit_of}
use Rattle.whole_calls.specs.Links.{LinkFits, link_action, link_of, link_stage}
use Rattle.whole_calls.specs.Makes.{mkdir_of, mkdir_stage}
use Rattle.whole_calls.specs.Opens.{open_of, open_stage}
use Rattle.whole_calls.specs.Reads.{HasRoomIn, ReadAsks, ReadFits, read_of}
use Rattle.whole_calls.specs.Writes.{WriteAsks, WriteFits, write_of}
use Rattle.whole_calls.specs.declared.whole.Whole.{Whole}
use Rattle.whole_calls.specs.declared.whole.Whole.TheVariants as whole

-- the rest of it, if its list is this
abbrev pub whole_of : Version → List ℕ → Whole → P Reply
whole_of v ns (whole.Open path flags c) = open_of v path flags ns c
whole_of v ns (whole.Read fd buf c) = read_of fd buf.items c
whole_of v ns (whole.Write fd bytes c) = write_of fd bytes c
whole_of v ns (whole.Link old new c) = link_of v old new ns c
whole_of v ns (whole.Unlink path c) = unlink_of v path ns c
whole_of v ns (whole.Mkdir path c) = mkdir_of v path ns c
whole_of v ns (whole.Chdir path c) = chdir_of v path ns c
whole_of v ns (whole.Dup fd c) = dup_of fd c
whole_of v ns (whole.Fstat fd c) = stat_of fd c
whole_of v ns (whole.Close fd c) = close_of fd c
whole_of v ns (whole.Inherit child c) = inherit_of child c

abbrev pub call_in : Whole → Call
call_in (whole.Open path flags c) = calls.Open path flags
call_in (whole.Read fd buf c) = calls.Read fd buf.items
call_in (whole.Write fd bytes c) = calls.Write fd bytes
call_in (whole.Link old new c) = calls.Link old new
call_in (whole.Unlink path c) = calls.Unlink path
call_in (whole.Mkdir path c) = calls.Mkdir path
call_in (whole.Chdir path c) = calls.Chdir path
call_in (whole.Dup fd c) = calls.Dup fd
call_in (whole.Fstat fd c) = calls.Fstat fd
call_in (whole.Close fd c) = calls.Close fd
call_in (whole.Inherit child c) = calls.Inherit child

-- the path that has its names, of two the second after the first; or its bytes
abbrev pub text_in : Whole → List ℕ
text_in (whole.Open path flags c) = path
text_in (whole.Read fd buf c) = buf.items
text_in (whole.Write fd bytes c) = bytes
text_in (whole.Link old new c) = old ++ new
text_in (whole.Unlink path c) = path
text_in (whole.Mkdir path c) = path
text_in (whole.Chdir path c) = path
text_in (whole.Dup fd c) = []
text_in (whole.Fstat fd c) = []
text_in (whole.Close fd c) = []
text_in (whole.Inherit child c) = []

-- that in two: the first, and a second path
abbrev pub second_in : Whole → List ℕ
second_in (whole.Link old new c) = new
second_in w = []

abbrev pub first_in : Whole → List ℕ
first_in (whole.Link old new c) = old
first_in w = text_in w

-- the tree step of which its next mark is
abbrev pub action_in : Whole → Action
action_in (whole.Open path flags c) = steps.Open path flags
action_in (whole.Read fd buf c) = steps.Read fd (length buf.items)
action_in (whole.Write fd bytes c) = steps.WritePart fd bytes
action_in (whole.Link old new c) = link_action old new c
action_in (whole.Unlink path c) = steps.Unlink path
action_in (whole.Mkdir path c) = steps.Mkdir path
action_in (whole.Chdir path c) = steps.Chdir path
action_in (whole.Dup fd c) = steps.Dup fd
action_in (whole.Fstat fd c) = steps.Fstat fd
action_in (whole.Close fd c) = steps.Close fd
action_in (whole.Inherit child c) = steps.Inherit child

-- stepped in its place, with its answer if it has ended
abbrev pub went_to : Version → List ℕ → Whole → CallAnswer → Bool → P Reply
went_to v ns w a ended = stepped (whole_of v ns w) (call_in w) a ended

-- no byte of it is 0
abbrev pub IsPath : List ℕ → Type 0
IsPath path = All (λ b. b ≢ 0) path

abbrev pub WholeFits : Version → List ℕ → Whole → Type 0
WholeFits v ns (whole.Open path flags c) = IsPath path × Fits v path ns (open_stage c)
WholeFits v ns (whole.Read fd buf c) = (length buf.items < 2 ^ 31) × ReadFits buf.items c
WholeFits v ns (whole.Write fd bytes c) = (length bytes < 2 ^ 31) × WriteFits bytes c
WholeFits v ns (whole.Link old new c) = IsPath old × IsPath new × LinkFits v old new ns (link_stage c)
WholeFits v ns (whole.Unlink path c) = IsPath path × Fits v path ns (unlink_stage c)
WholeFits v ns (whole.Mkdir path c) = IsPath path × Fits v path ns (mkdir_stage c)
WholeFits v ns (whole.Chdir path c) = IsPath path × Fits v path ns (chdir_stage c)
WholeFits v ns (whole.Dup fd c) = Unit {0}
WholeFits v ns (whole.Fstat fd c) = Unit {0}
WholeFits v ns (whole.Close fd c) = Unit {0}
WholeFits v ns (whole.Inherit child c) = Unit {0}

-- what it asks is in its text: a read alone asks to read, and a write to write
abbrev pub WholeAsks : Version → Whole → Ask → Type 0
WholeAsks v (whole.Read fd buf c) a = ReadAsks v buf.items c a
WholeAsks v (whole.Open path flags c) a = IsNamed v path a
WholeAsks v (whole.Write fd bytes c) a = WriteAsks v bytes a
WholeAsks v (whole.Link old new c) a = IsNamedInTwo v old new a
WholeAsks v (whole.Unlink path c) a = IsNamed v path a
WholeAsks v (whole.Mkdir path c) a = IsNamed v path a
WholeAsks v (whole.Chdir path c) a = IsNamed v path a
WholeAsks v (whole.Dup fd c) a = IsNamed v [] a
WholeAsks v (whole.Fstat fd c) a = IsNamed v [] a
WholeAsks v (whole.Close fd c) a = IsNamed v [] a
WholeAsks v (whole.Inherit child c) a = IsNamed v [] a

-- no more is read than the buffer has
abbrev pub HasRoomFor : Heard → Whole → Type 0
HasRoomFor x (whole.Open path flags c) = Unit {0}
HasRoomFor x (whole.Read fd buf c) = HasRoomIn buf.items c x
HasRoomFor x (whole.Write fd bytes c) = Unit {0}
HasRoomFor x (whole.Link old new c) = Unit {0}
HasRoomFor x (whole.Unlink path c) = Unit {0}
HasRoomFor x (whole.Mkdir path c) = Unit {0}
HasRoomFor x (whole.Chdir path c) = Unit {0}
HasRoomFor x (whole.Dup fd c) = Unit {0}
HasRoomFor x (whole.Fstat fd c) = Unit {0}
HasRoomFor x (whole.Close fd c) = Unit {0}
HasRoomFor x (whole.Inherit child c) = Unit {0}

-- what a start asks of a call
abbrev pub IsCall : Version → Call → Type 0
IsCall v (calls.Open path flags) = IsPath path × (length (elements v path) ≤ most_listed)
IsCall v (calls.Read fd buf) = length buf < 2 ^ 31
IsCall v (calls.Write fd bytes) = length bytes < 2 ^ 31
IsCall v (calls.Link old new) = IsPath old × IsPath new × (length (elements v old) + length (elements v new) ≤ most_listed)
IsCall v (calls.Unlink path) = IsPath path × (length (elements v path) ≤ most_listed)
IsCall v (calls.Mkdir path) = IsPath path × (length (elements v path) ≤ most_listed)
IsCall v (calls.Chdir path) = IsPath path × (length (elements v path) ≤ most_listed)
IsCall v (calls.Dup fd) = Unit {0}
IsCall v (calls.Fstat fd) = Unit {0}
IsCall v (calls.Close fd) = Unit {0}
IsCall v (calls.Inherit child) = Unit {0}
