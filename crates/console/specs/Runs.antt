-- A run of a script on a mounted file system.
use Rattle.std.specs.Prelude.{◌≡◌, ◌⊎◌, ℕ, List, ◌++◌, Option, IfSome, Result, Ok, Err}
use Rattle.console.specs.Vocabulary.{Appends, KeptTree, Stop, Mode}
use Rattle.console.specs.declared.fault.ConsoleFault.{ConsoleFault}
use Rattle.console.specs.declared.fault.ConsoleFault.TheVariants as faults
use Rattle.console.specs.Behaviours.{Runs}
use Rattle.console.specs.Commands.{lines, state}
use Rattle.console.specs.Events.{last_of, timeline_of}
use Rattle.console.specs.Histories.{History, HistoryBeside, TellsHistory, WhereSet}
use Rattle.console.specs.Basics.{CourseOf, TellsLine, script_course, NotesOf, no_notes, run_in, QueuedCalls, SessionOf, known_at, with_beside}

-- ---- after the lines

-- first the last events, then the timeline
abbrev pub end_text : Mode → NotesOf → List ℕ
end_text mode notes = last_of notes ++ timeline_of mode.timeline notes

abbrev pub IsUnwritten : Result (Unit {0}) ConsoleFault → Type 0
IsUnwritten (Err (faults.Write e)) = Unit {0}
IsUnwritten (Ok u) = ⊥
IsUnwritten (Err faults.Memory) = ⊥
IsUnwritten (Err (faults.Image f)) = ⊥
IsUnwritten (Err (faults.Read e)) = ⊥
IsUnwritten (Err (faults.Line n why)) = ⊥
IsUnwritten (Err (faults.Stopped stop)) = ⊥

-- after all else the history of the run, if it is wanted
abbrev pub TellsWanted : Mode → History → NotesOf → Option (List ℕ) → Result (Unit {0}) ConsoleFault → Option (List ℕ) → Type 0
TellsWanted mode history notes out result out' =
    WhereSet mode.explain (TellsHistory history (run_in notes.kept) result out out') ((result ≡ Ok tt) × (out' ≡ out))

-- the last events, the timeline and the history; or one of them isn't written
abbrev pub PrintsAll : Mode → History → NotesOf → Option (List ℕ) → Result (Unit {0}) ConsoleFault → Option (List ℕ) → Type 0
PrintsAll mode history notes out result out' =
    ((between : Option (List ℕ)) × Appends out between (end_text mode notes) × TellsWanted mode history notes between result out')
    ⊎ IsUnwritten result

-- that a call was stopped, if nothing worse must be reported
abbrev pub or_stopped : Stop → Result (Unit {0}) ConsoleFault → Result (Unit {0}) ConsoleFault
or_stopped stop (Ok u) = Err (faults.Stopped stop)
or_stopped stop (Err fault) = Err fault

-- All this is printed at the script's end, and if a call was stopped.
abbrev pub EndsSo : Mode → History → NotesOf → Result (Unit {0}) ConsoleFault → Option (List ℕ) → Result (Unit {0}) ConsoleFault
    → Option (List ℕ) → Type 0
EndsSo mode history notes (Ok u) out result out' = PrintsAll mode history notes out result out'
EndsSo mode history notes (Err (faults.Stopped stop)) out result out' =
    (told : Result (Unit {0}) ConsoleFault) × PrintsAll mode history notes out told out' × (result ≡ or_stopped stop told)
EndsSo mode history notes (Err faults.Memory) out result out' = result ≡ Err faults.Memory
EndsSo mode history notes (Err (faults.Write e)) out result out' = result ≡ Err (faults.Write e)
EndsSo mode history notes (Err (faults.Image f)) out result out' = result ≡ Err (faults.Image f)
EndsSo mode history notes (Err (faults.Read e)) out result out' = result ≡ Err (faults.Read e)
EndsSo mode history notes (Err (faults.Line n why)) out result out' = result ≡ Err (faults.Line n why)

-- with a bad line no line is run
abbrev pub EndsOn : ℕ → Result (Unit {0}) ConsoleFault → Type 0
EndsOn n (Ok u) = ⊥
EndsOn n (Err fault) = TellsLine n fault

-- the script wasn't read
abbrev pub FailsUnread : ConsoleFault → Type 0
FailsUnread (faults.Read e) = Unit {0}
FailsUnread faults.Memory = Unit {0}
FailsUnread (faults.Image f) = ⊥
FailsUnread (faults.Write e) = ⊥
FailsUnread (faults.Line n why) = ⊥
FailsUnread (faults.Stopped s) = ⊥

abbrev pub IsReadFault : Result (Unit {0}) ConsoleFault → Type 0
IsReadFault (Err (faults.Read e)) = Unit {0}
IsReadFault (Ok u) = ⊥
IsReadFault (Err faults.Memory) = ⊥
IsReadFault (Err (faults.Image f)) = ⊥
IsReadFault (Err (faults.Write e)) = ⊥
IsReadFault (Err (faults.Line n why)) = ⊥
IsReadFault (Err (faults.Stopped stop)) = ⊥

module _ {D : Type 0} (contents : D → List (List ℕ)) (failures : D → ℕ) where
  -- the lines are run, a tree is kept beside them, and then the last events and the history are printed
  pub record RunsLines (mode : Mode) (history : HistoryBeside) (s : SessionOf D) (course : CourseOf)
      (result : Result (Unit {0}) ConsoleFault) (t : SessionOf D) (out out' : Option (List ℕ)) : Type 0 where
    pub left : QueuedCalls
    pub ends : Result (Unit {0}) ConsoleFault
    pub between : Option (List ℕ)
    pub notes : NotesOf
    pub first : Option KeptTree
    pub kept : Option KeptTree
    pub runs : Runs (lines contents failures course.lines) (state (with_beside first s) course.left) out (no_notes mode) ends
        (state (with_beside kept t) left) between notes
    pub end : EndsSo mode (history first (known_at t kept)) notes ends between result out'

  -- nothing was done and nothing printed, for want of memory
  pub record RunsNone (s : SessionOf D) (result : Result (Unit {0}) ConsoleFault) (t : SessionOf D)
      (out out' : Option (List ℕ)) : Type 0 where
    pub memory : result ≡ Err faults.Memory
    pub same : t ≡ s
    pub silent : out' ≡ out

  abbrev pub RunsCourse : Mode → HistoryBeside → SessionOf D → CourseOf → Result (Unit {0}) ConsoleFault → SessionOf D
      → Option (List ℕ) → Option (List ℕ) → Type 0
  RunsCourse mode history s course result t out out' = RunsLines mode history s course result t out out' ⊎ RunsNone s result t out out'

  -- what a script runs, or its bad line
  abbrev pub RunsScript : Mode → HistoryBeside → SessionOf D → Result CourseOf ℕ → Result (Unit {0}) ConsoleFault → SessionOf D
      → Option (List ℕ) → Option (List ℕ) → Type 0
  RunsScript mode history s (Err n) result t out out' = EndsOn n result × (t ≡ s) × (out' ≡ out)
  RunsScript mode history s (Ok course) result t out out' = RunsCourse mode history s course result t out out'

  -- the script isn't read
  pub record Unread (s : SessionOf D) (result : Result (Unit {0}) ConsoleFault) (t : SessionOf D)
      (out out' : Option (List ℕ)) : Type 0 where
    pub fault : IsReadFault result
    pub same : t ≡ s
    pub silent : out' ≡ out

  -- a script that is read to its end from a reader, of which may be known what it gives; or that isn't
  abbrev pub RunsReader : Mode → HistoryBeside → SessionOf D → Option (List ℕ) → Result (Unit {0}) ConsoleFault → SessionOf D
      → Option (List ℕ) → Option (List ℕ) → Type 0
  RunsReader mode history s script result t out out' =
      Unread s result t out out'
      ⊎ ((text : List ℕ) × IfSome script (λ bytes. text ≡ bytes)
      × RunsScript mode history s (script_course mode.schedule text) result t out out')
