-- The lines that a console prints (docs/SCRIPT.md).
use Rattle.std.specs.Prelude.{ℕ, ◌+◌, ◌/◌, ◌%◌, nat_lt, if◌then◌else◌, List, [], ◌∷◌, ◌++◌, take, codes, decimal}
use Rattle.script.specs.Vocabulary.{Shape, Answer, Fd, Count, Stat, Done, Failed, Full, Reply, StatOf, Call, Open, Read, Write, Link, Unlink, Mkdir, Chdir, Dup, Fstat, Close, Inherit, cause_number, cause_name, full_number, full_name, type_number}

-- '0' to '9', 'a' to 'f'
abbrev pub hex_digit : ℕ → ℕ
hex_digit n = if nat_lt n 10 then 48 + n else 87 + n

-- two digits a byte
abbrev pub hex : List ℕ → List ℕ
hex [] = []
hex (b ∷ bs) = hex_digit (b / 16) ∷ hex_digit (b % 16) ∷ hex bs

-- after a space, if there are any
abbrev pub bytes_text : List ℕ → List ℕ
bytes_text [] = []
bytes_text (b ∷ bs) = codes " " ++ hex (b ∷ bs)

-- the bytes that a read gave
abbrev pub given_text : Call → ℕ → List ℕ
given_text (Open path flags) n = []
given_text (Read fd buffer) n = bytes_text (take n buffer)
given_text (Write fd bytes) n = []
given_text (Link old new) n = []
given_text (Unlink path) n = []
given_text (Mkdir path) n = []
given_text (Chdir path) n = []
given_text (Dup fd) n = []
given_text (Fstat fd) n = []
given_text (Close fd) n = []
given_text (Inherit child) n = []

abbrev pub numbered_text : List ℕ → ℕ → List ℕ → List ℕ
numbered_text word number name = word ++ codes " " ++ decimal number ++ codes " " ++ name

abbrev pub stat_text : StatOf → List ℕ
stat_text s = decimal s.device ++ codes " " ++ decimal s.inode ++ codes " " ++ decimal (type_number s.kind) ++ codes " " ++ decimal s.nlink
    ++ codes " " ++ decimal s.size

abbrev pub answer_text : Call → Answer → List ℕ
answer_text c (Fd fd) = codes "fd " ++ decimal fd
answer_text c (Count n) = decimal n ++ given_text c n
answer_text c (Stat s) = stat_text s
answer_text c Done = codes "ok"
answer_text c (Failed cause) = numbered_text (codes "failed") (cause_number cause) (cause_name cause)
answer_text c (Full full) = numbered_text (codes "full") (full_number full) (full_name full)

-- the hart, the call's word, what is said of it, and the line's end
abbrev pub told_line : ℕ → List ℕ → List ℕ → List ℕ
told_line hart name told = decimal hart ++ codes " " ++ name ++ codes " " ++ told ++ codes "\n"

abbrev pub reply_line : ℕ → List ℕ → Reply → List ℕ
reply_line hart name r = told_line hart name (answer_text r.call r.answer)

-- of an image that was examined and is well formed
abbrev pub shape_line : Shape → List ℕ
shape_line s =
    codes "clean live " ++ decimal s.live ++ codes " orphans " ++ decimal s.orphans ++ codes " blocks " ++ decimal s.blocks ++ codes "\n"
