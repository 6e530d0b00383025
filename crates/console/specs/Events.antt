-- The lines that are printed after a script: the last events, and the columns of the timeline.
use Rattle.std.specs.Prelude.{ℕ, ◌-◌, ◌*◌, ◌^◌, nat_lt, min, Bool, true, false, if◌then◌else◌, List, [], ◌∷◌, ◌++◌, replicate, codes, decimal}
use Rattle.console.specs.Vocabulary.{styled_decimal, format_spec, Answer, Fd, Count, Stat, IsDone, Failed, Full, cause_number, cause_name, full_number, full_name, kind_word, numbered_text, stat_text}
use Rattle.console.specs.declared.notes.Note.{Note}
use Rattle.console.specs.declared.notes.What.{What}
use Rattle.console.specs.declared.notes.What.TheVariants.{Start, Refused, Ran, Waits, Done, Stopped}
use Rattle.console.specs.Basics.{NotesOf, rows_in, start_number, stop_number, word_of}
use Rattle.console.specs.Told.{refused_text, stopped_text}

-- ---- --last

abbrev pub what_text : What → List ℕ
what_text (Start verb) = codes "start " ++ word_of verb
what_text (Refused why) = codes "refused " ++ decimal (start_number why)
what_text (Ran kind) = kind_word kind
what_text Waits = codes "waits"
what_text (Done answer) = codes "reply"
what_text (Stopped stop) = codes "stopped " ++ decimal (stop_number stop)

abbrev pub last_line : Note → List ℕ
last_line note = codes "event " ++ decimal note.number ++ codes ": " ++ decimal note.hart ++ codes " " ++ what_text note.what ++ codes "\n"

-- ---- --timeline

abbrev pub answer_cell : Answer → List ℕ
answer_cell (Fd fd) = codes "fd " ++ decimal fd
answer_cell (Count n) = decimal n
answer_cell (Stat s) = stat_text s
answer_cell IsDone = codes "ok"
answer_cell (Failed cause) = numbered_text (codes "failed") (cause_number cause) (cause_name cause)
answer_cell (Full full) = numbered_text (codes "full") (full_number full) (full_name full)

-- the text in a hart's column: a wait in brackets, a reply with its answer
abbrev pub cell : What → List ℕ
cell (Start verb) = codes "start " ++ word_of verb
cell (Refused why) = refused_text why
cell (Ran kind) = kind_word kind
cell Waits = codes "(waits)"
cell (Done answer) = codes "reply " ++ answer_cell answer
cell (Stopped stop) = stopped_text stop

-- a hart that there isn't has no column, and is named
abbrev pub hart_mark : ℕ → List ℕ
hart_mark hart = if nat_lt hart 8 then [] else codes "hart " ++ decimal hart ++ codes ": "

unfoldable pub last_text : List Note → List ℕ
last_text [] = []
last_text (note ∷ notes) = last_line note ++ last_text notes

-- the event's number, and what it is in its hart's column, eight wide; of a hart that there isn't in the last one
abbrev pub timeline_line : Note → List ℕ
timeline_line note = styled_decimal (format_spec 32 0 0 6 (2 ^ 64 - 1)) note.number ++ codes "  " ++ replicate (min (8 * note.hart) 56) 32
    ++ hart_mark note.hart ++ cell note.what ++ codes "\n"

unfoldable pub timeline_rows : List Note → List ℕ
timeline_rows [] = []
timeline_rows (note ∷ notes) = timeline_line note ++ timeline_rows notes

abbrev pub timeline_head : List ℕ
timeline_head = codes " event  hart 0  hart 1  hart 2  hart 3  hart 4  hart 5  hart 6  hart 7\n"

-- what is printed after a script
abbrev pub last_of : NotesOf → List ℕ
last_of n = last_text n.tail.events

abbrev pub timeline_of : Bool → NotesOf → List ℕ
timeline_of false n = []
timeline_of true n = timeline_head ++ timeline_rows (rows_in n.timeline)
