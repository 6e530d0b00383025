-- The grammar of scripts, as docs/SCRIPT.md has it: which words each line has.
use Rattle.std.specs.Prelude.{◌≡◌, ◌↔◌, false, ℕ, List, [], ◌∷◌, Some, codes}
use Rattle.script.specs.Vocabulary.{Kind}
use Rattle.fs_machine.specs.declared.kind.Kind.TheVariants as kinds
use Rattle.script.specs.Words.{number_in, hart_in, bytes_in}
use Rattle.script.specs.Reading.{words_of, ends_in_return, said_in}
use Rattle.script.specs.Said.{Call, Open, Read, Write, Fill, Link, Unlink, Mkdir, Chdir, Dup, Fstat, Close, Inherit, Line, Start, Run, Step, Upto, End, All}

-- ---- words

abbrev pub IsNumber : List ℕ → ℕ → Type 0
IsNumber word n = number_in word ≡ Some n

abbrev pub IsHart : List ℕ → ℕ → Type 0
IsHart word h = hart_in word ≡ Some h

abbrev pub AreBytes : List ℕ → List ℕ → Type 0
AreBytes word bytes = bytes_in word ≡ Some bytes

-- the word of a kind of step
abbrev pub kind_word : Kind → List ℕ
kind_word kinds.Lock = codes "lock"
kind_word kinds.Unlock = codes "unlock"
kind_word kinds.Get = codes "get"
kind_word kinds.Read = codes "read"
kind_word kinds.Put = codes "put"
kind_word kinds.Join = codes "join"
kind_word kinds.Leave = codes "leave"
kind_word kinds.Commit = codes "commit"
kind_word kinds.Up = codes "up"
kind_word kinds.Down = codes "down"
kind_word kinds.Slot = codes "slot"
kind_word kinds.Reply = codes "reply"

abbrev pub IsKind : List ℕ → Kind → Type 0
IsKind word kind = word ≡ kind_word kind

-- ---- a verb and its operands

pub record HasOne {A : Type 0} (verb : List ℕ) (First : List ℕ → A → Type 0) (a : A) (line : List (List ℕ)) : Type 0 where
  pub one : List ℕ
  pub words : line ≡ verb ∷ one ∷ []
  pub first : First one a

pub record HasTwo {A B : Type 0} (verb : List ℕ) (First : List ℕ → A → Type 0) (a : A) (Second : List ℕ → B → Type 0) (b : B)
    (line : List (List ℕ)) : Type 0 where
  pub one : List ℕ
  pub two : List ℕ
  pub words : line ≡ verb ∷ one ∷ two ∷ []
  pub first : First one a
  pub second : Second two b

abbrev pub SaysCall : Call → List (List ℕ) → Type 0
SaysCall (Open path flags) ws = HasTwo (codes "open") AreBytes path IsNumber flags ws
SaysCall (Read fd count) ws = HasTwo (codes "read") IsNumber fd IsNumber count ws
SaysCall (Write fd bytes) ws = HasTwo (codes "write") IsNumber fd AreBytes bytes ws
SaysCall (Fill fd count) ws = HasTwo (codes "fill") IsNumber fd IsNumber count ws
SaysCall (Link old new) ws = HasTwo (codes "link") AreBytes old AreBytes new ws
SaysCall (Unlink path) ws = HasOne (codes "unlink") AreBytes path ws
SaysCall (Mkdir path) ws = HasOne (codes "mkdir") AreBytes path ws
SaysCall (Chdir path) ws = HasOne (codes "chdir") AreBytes path ws
SaysCall (Dup fd) ws = HasOne (codes "dup") IsNumber fd ws
SaysCall (Fstat fd) ws = HasOne (codes "fstat") IsNumber fd ws
SaysCall (Close fd) ws = HasOne (codes "close") IsNumber fd ws
SaysCall (Inherit child) ws = HasOne (codes "inherit") IsHart child ws

-- ---- a line

-- a hart, and its call
pub record HasCall (h : ℕ) (c : Call) (line : List (List ℕ)) : Type 0 where
  pub one : List ℕ
  pub rest : List (List ℕ)
  pub words : line ≡ one ∷ rest
  pub hart : IsHart one h
  pub call : SaysCall c rest

pub record HasRun (h : ℕ) (c : Call) (line : List (List ℕ)) : Type 0 where
  pub rest : List (List ℕ)
  pub words : line ≡ codes "do" ∷ rest
  pub call : HasCall h c rest

pub record HasUpto (h : ℕ) (k : Kind) (n : ℕ) (line : List (List ℕ)) : Type 0 where
  pub one : List ℕ
  pub two : List ℕ
  pub three : List ℕ
  pub words : line ≡ codes "upto" ∷ one ∷ two ∷ three ∷ []
  pub hart : IsHart one h
  pub kind : IsKind two k
  pub steps : IsNumber three n

abbrev pub SaysLine : Line → List (List ℕ) → Type 0
SaysLine (Start hart call) ws = HasCall hart call ws
SaysLine (Run hart call) ws = HasRun hart call ws
SaysLine (Step hart steps) ws = HasTwo (codes "step") IsHart hart IsNumber steps ws
SaysLine (Upto hart kind steps) ws = HasUpto hart kind steps ws
SaysLine (End hart) ws = HasOne (codes "end") IsHart hart ws
SaysLine All ws = ws ≡ codes "all" ∷ []

-- The line's words say this, and it doesn't end in a carriage return. A line with an empty word says nothing, because
-- no verb, number, kind or bytes is an empty word.
abbrev pub Says : Line → List ℕ → Type 0
Says said line = (ends_in_return line ≡ false) × SaysLine said (words_of line)

abbrev pub LinesAreRead : Type 0
LinesAreRead = (said : Line) (line : List ℕ) → Says said line ↔ (said_in line ≡ Some said)
