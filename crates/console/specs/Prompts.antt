-- What comes of lines that are typed at a prompt (docs/SCRIPT.md): each is answered before the next is read.
use Rattle.std.specs.Prelude.{◌≡◌, ◌⊎◌, ℕ, ◌+◌, ◌==◌, if◌then◌else◌, Bool, true, false, List, [], ◌∷◌, ◌++◌, replicate, Option, Some, None, IfSome, Result, Ok, Err, Vec, codes, decimal}
use Rattle.console.specs.Vocabulary.{Appends, Global, KeptTree, blocks_of, Phase, Open, Staging, Installing, Halted, Kind, Rests, Asked, Nothing, Help, State, Quit, Run, asked_in, typed_lines, kind_word, Mode}
use Rattle.console.specs.declared.doing.Doing.{Doing}
use Rattle.console.specs.declared.verb.Verb.{Verb}
use Rattle.console.specs.declared.verb.Verb.TheVariants.{Read, Write, Link, Unlink, Mkdir, Chdir, Dup, Fstat, Close, Inherit}
use Rattle.console.specs.declared.verb.Verb.TheVariants as verb
use Rattle.script.specs.Said.{Line, Start, Step, Upto, End, All}
use Rattle.script.specs.Said as lines
use Rattle.plain_tree.specs.Basics.{is_nothing}
use Rattle.console.specs.declared.fault.ConsoleFault.{ConsoleFault}
use Rattle.console.specs.declared.fault.ConsoleFault.TheVariants as faults
use Rattle.console.specs.Behaviours.{Behaviour, DoesNothing, Runs, followed_by, gives, in_case, prints, takes_memory}
use Rattle.console.specs.Commands.{RunOf, all_harts, line, state}
use Rattle.console.specs.Histories.{HistoryBeside, history_of}
use Rattle.console.specs.Basics.{bytes_for, NotesOf, no_notes, QueuedCalls, none_left, SessionOf, known_at, with_beside, doing_at, is_joined, locks_of, word_of}
use Rattle.console.specs.Runs.{EndsSo, RunsNone}
use Rattle.console.specs.Scripts.{HandsOut, TakesNoImage}

-- ---- what is printed

-- what comes before each line
abbrev pub mark : List ℕ
mark = codes "> "

-- the hart that an inherit holds
abbrev pub child_text : Verb → List ℕ
child_text verb.Open = []
child_text Read = []
child_text Write = []
child_text Link = []
child_text Unlink = []
child_text Mkdir = []
child_text Chdir = []
child_text Dup = []
child_text Fstat = []
child_text Close = []
child_text (Inherit child) = codes " " ++ decimal child

-- how far a call has come
abbrev pub step_text : Option Kind → List ℕ
step_text None = codes " started"
step_text (Some kind) = codes " after " ++ kind_word kind

-- of how many inodes it has the locks
abbrev pub locks_text : ℕ → List ℕ
locks_text n = if n == 0 then [] else if n == 1 then codes ", 1 lock" else codes ", " ++ decimal n ++ codes " locks"

abbrev pub joined_text : Bool → List ℕ
joined_text true = codes ", in a transaction"
joined_text false = []

abbrev pub waits_text : Bool → List ℕ
waits_text true = codes ", waits\n"
waits_text false = codes "\n"

-- how far a call has come, and what it has
abbrev pub progress_text : Doing → List ℕ
progress_text d = step_text d.last ++ locks_text (locks_of d) ++ joined_text (is_joined d) ++ waits_text d.waits

-- a hart that has a call: which, its last step, the locks and the transaction that it has, and whether the step that
-- was tried next waited
abbrev pub doing_text : ℕ → Option Doing → List ℕ
doing_text hart None = []
doing_text hart (Some d) = decimal hart ++ codes " " ++ word_of d.verb ++ child_text d.verb ++ progress_text d

-- of each of these harts
unfoldable pub calls_text : List ℕ → List (Option Doing) → List ℕ
calls_text [] doing = []
calls_text (hart ∷ harts) doing = doing_text hart (doing_at hart doing) ++ calls_text harts doing

-- how far the log's commit is
abbrev pub phase_text : Phase → List ℕ
phase_text Open = codes "log open\n"
phase_text (Staging copied) = codes "log commits, " ++ decimal copied ++ codes " copied into it\n"
phase_text (Installing copied) = codes "log commits, " ++ decimal copied ++ codes " copied home\n"
phase_text Halted = codes "log halted\n"

-- all of a file system on which lines are typed
abbrev pub state_text : {D : Type 0} → List ℕ → SessionOf D → List ℕ
state_text harts s = calls_text harts s.doing ++ phase_text s.world.harts.core.log.phase

-- the hart on which a line only starts a call
abbrev pub started_on : Line → Option ℕ
started_on (Start hart call) = Some hart
started_on (lines.Run hart call) = None
started_on (Step hart steps) = None
started_on (Upto hart kind steps) = None
started_on (End hart) = None
started_on All = None

-- if it has a call that was started, and has made no step
abbrev pub without_step : ℕ → Option Doing → Option ℕ
without_step hart None = None
without_step hart (Some d) = if is_nothing d.last then Some hart else None

abbrev pub stepless : Option ℕ → List (Option Doing) → Option ℕ
stepless None doing = None
stepless (Some hart) doing = without_step hart (doing_at hart doing)

-- what makes the steps of such a call
abbrev pub steps_text : ℕ → List ℕ
steps_text hart = codes "hart " ++ decimal hart ++ codes " has a call without a step: end " ++ decimal hart ++ codes " makes its steps\n"

abbrev pub hint_of : Option ℕ → List ℕ
hint_of None = []
hint_of (Some hart) = steps_text hart

-- a bad line, and why it is bad
abbrev pub bad_text : ℕ → List ℕ → List ℕ
bad_text n why = codes "line " ++ decimal n ++ codes ": bad command\n" ++ why ++ codes "\n"

-- ---- what is done

-- the next line, or the end of the input, is read, or reading fails; nothing happens
abbrev pub IsReadOrFails : Result (Unit {0}) ConsoleFault → Type 0
IsReadOrFails (Ok u) = Unit {0}
IsReadOrFails (Err (faults.Read e)) = Unit {0}
IsReadOrFails (Err faults.Memory) = Unit {0}
IsReadOrFails (Err (faults.Image f)) = ⊥
IsReadOrFails (Err (faults.Write e)) = ⊥
IsReadOrFails (Err (faults.Line n why)) = ⊥
IsReadOrFails (Err (faults.Stopped stop)) = ⊥

unfoldable pub reads : {S : Type 0} → Behaviour S (Unit {0})
reads s events text result t = DoesNothing s events text t × IsReadOrFails result

-- a line that asks for nothing that exists is reported, with why, and changes nothing
unfoldable pub tells_bad : {S : Type 0} → ℕ → Behaviour S (Unit {0})
tells_bad n s events text result t = (why : List ℕ) × prints (λ u. bad_text n why) s events text result t

-- a bad line is reported, or that isn't written, or there is no memory to say why
abbrev pub TellsBad : ℕ → Result (Unit {0}) ConsoleFault → Option (List ℕ) → Option (List ℕ) → Type 0
TellsBad n (Ok u) out out' = (why : List ℕ) × Appends out out' (bad_text n why)
TellsBad n (Err (faults.Write e)) out out' = Unit {0}
TellsBad n (Err faults.Memory) out out' = Unit {0}
TellsBad n (Err (faults.Image f)) out out' = ⊥
TellsBad n (Err (faults.Read e)) out out' = ⊥
TellsBad n (Err (faults.Line m why)) out out' = ⊥
TellsBad n (Err (faults.Stopped stop)) out out' = ⊥

-- ---- lines of a reader, of which may be known what it gives

-- this is the first line that is typed, and the others are left
abbrev pub IsFirst : Option (List ℕ) → List ℕ → Option (List ℕ) → Type 0
IsFirst old line new = IfSome old (λ bytes. (more : List ℕ) × (new ≡ Some more) × (typed_lines bytes ≡ line ∷ typed_lines more))

-- at the input's end there is no line; else the first is read
abbrev pub ReadsLine : Option (List ℕ) → Bool → List ℕ → Option (List ℕ) → Type 0
ReadsLine old false line new = IfSome old (λ bytes. typed_lines bytes ≡ [])
ReadsLine old true line new = IsFirst old line new

abbrev pub first_of : List (List ℕ) → Option (List ℕ)
first_of [] = None
first_of (line ∷ lines) = Some line

-- if more lines are read, one was
abbrev pub Follows : Result Bool ConsoleFault → Option (List ℕ) → Option (List ℕ) → Option (List ℕ) → Type 0
Follows (Ok true) old None new = ⊥
Follows (Ok true) old (Some line) new = IsFirst old line new
Follows (Ok false) old next new = Unit {0}
Follows (Err fault) old next new = Unit {0}

module _ {D : Type 0} (contents : D → List (List ℕ)) (failures : D → ℕ) where
  -- A line of a script does what it does there. If it just starts a call, on a hart whose call has made no step, it
  -- also prints what makes those steps.
  abbrev pub does_line : Line → Behaviour (RunOf D) (Unit {0})
  does_line l s = followed_by (line contents failures l) (λ u. prints (λ t. hint_of (stepless (started_on l) s.session.doing))) s

module _ {D : Type 0} (contents : D → List (List ℕ)) (failures : D → ℕ) (help : List ℕ) where
  -- What is asked is done. Its result is whether more lines are read.
  abbrev pub does : Asked → Behaviour (RunOf D) Bool
  does Nothing = gives true
  does Help = followed_by (prints (λ s. help)) (λ u. gives true)
  does State = followed_by (prints (λ s. state_text all_harts s.session)) (λ u. gives true)
  does Quit = gives false
  does (Run l) = followed_by (does_line contents failures l) (λ u. gives true)

  abbrev pub does_or_tells : ℕ → Option Asked → Behaviour (RunOf D) Bool
  does_or_tells n None = followed_by (tells_bad n) (λ u. gives true)
  does_or_tells n (Some asked) = does asked

  -- the line of this number is answered
  unfoldable pub answers : ℕ → List ℕ → Behaviour (RunOf D) Bool
  answers n line = followed_by (takes_memory {A = Unit {0}} tt) (λ u. does_or_tells n (asked_in line))

  -- the mark, and then the line of this number is read and answered; or the input's end
  abbrev pub answers_next : ℕ → Option (List ℕ) → Behaviour (RunOf D) Bool
  answers_next n None = followed_by (prints (λ s. codes "\n")) (λ u. gives false)
  answers_next n (Some line) = answers n line

  unfoldable pub prompts : ℕ → Option (List ℕ) → Behaviour (RunOf D) Bool
  prompts n next = followed_by (prints (λ s. mark)) (λ u. followed_by reads (λ v. answers_next n next))

  -- line after line, the first of number n, up to a fault, a line that ends the input, or the input's end
  unfoldable pub prompts_all : ℕ → List (List ℕ) → Behaviour (RunOf D) (Unit {0})
  prompts_all n [] = followed_by (prompts n None) (λ more. gives tt)
  prompts_all n (line ∷ lines) = followed_by (prompts n (Some line)) (λ more. in_case more (prompts_all (n + 1) lines) (gives tt))

  -- the next line of a reader is answered, or its end
  pub record PromptsLine (n : ℕ) (old new : Option (List ℕ)) (s : RunOf D) (out : Option (List ℕ)) (notes : NotesOf)
      (result : Result Bool ConsoleFault) (t : RunOf D) (out' : Option (List ℕ)) (notes' : NotesOf) : Type 0 where
    pub next : Option (List ℕ)
    pub is_next : IfSome old (λ bytes. next ≡ first_of (typed_lines bytes))
    pub follows : Follows result old next new
    pub runs : Runs (prompts n next) s out notes result t out' notes'

  -- all lines of a reader, the first of number n
  pub record PromptsAll (n : ℕ) (typed : Option (List ℕ)) (s : RunOf D) (out : Option (List ℕ)) (notes : NotesOf)
      (result : Result (Unit {0}) ConsoleFault) (t : RunOf D) (out' : Option (List ℕ)) (notes' : NotesOf) : Type 0 where
    pub lines : List (List ℕ)
    pub are_typed : IfSome typed (λ bytes. lines ≡ typed_lines bytes)
    pub runs : Runs (prompts_all n lines) s out notes result t out' notes'

  -- the lines are answered, a tree is kept beside them, and then the last events and the history are printed
  pub record PromptsLines (mode : Mode) (history : HistoryBeside) (s : SessionOf D) (typed : Option (List ℕ))
      (result : Result (Unit {0}) ConsoleFault) (t : SessionOf D) (out out' : Option (List ℕ)) : Type 0 where
    pub left : QueuedCalls
    pub ends : Result (Unit {0}) ConsoleFault
    pub between : Option (List ℕ)
    pub notes : NotesOf
    pub first : Option KeptTree
    pub kept : Option KeptTree
    pub answers : PromptsAll 1 typed (state (with_beside first s) none_left) out (no_notes mode) ends
        (state (with_beside kept t) left) between notes
    pub end : EndsSo mode (history first (known_at t kept)) notes ends between result out'

  abbrev pub PromptsReader : Mode → HistoryBeside → SessionOf D → Option (List ℕ) → Result (Unit {0}) ConsoleFault → SessionOf D
      → Option (List ℕ) → Option (List ℕ) → Type 0
  PromptsReader mode history s typed result t out out' =
      PromptsLines mode history s typed result t out out' ⊎ RunsNone contents failures s result t out out'

  -- From a file system that is mounted on this disk, in which no hart has a call, the lines make another; the disk as it is there is
  -- handed out. The history that is printed is that of this run, on the disk's bytes.
  pub record PromptsOn (mode : Mode) (bytes : List ℕ) (disk : D) (typed : Option (List ℕ)) (result : Result D ConsoleFault)
      (out out' : Option (List ℕ)) : Type 0 where
    pub first : SessionOf D
    pub last : SessionOf D
    pub ended : Result (Unit {0}) ConsoleFault
    pub rests : Rests contents failures disk first.world.harts
    pub idle : first.doing ≡ replicate 8 None
    pub runs : PromptsReader mode (history_of bytes) first typed ended last out out'
    pub hands : HandsOut last.world.harts.core.log.cache.device ended result

-- on a disk in memory, or the image isn't taken
abbrev pub PromptsImage : List ℕ → Mode → Option (Vec ℕ Global) → Option (List ℕ) → Result (List ℕ) ConsoleFault → Option (List ℕ)
    → Option (List ℕ) → Type 0
PromptsImage help mode image typed result out out' =
    PromptsOn blocks_of (λ d. 0) help mode (bytes_for image) (bytes_for image) typed result out out' ⊎ TakesNoImage result out out'
