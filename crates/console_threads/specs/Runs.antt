-- A script that threads run.
use Rattle.std.specs.Prelude.{◌≡◌, ℕ, ◌-◌, ◌^◌, List, Option, Result, Ok, Err}
use Rattle.console_threads.specs.Vocabulary.{Appends, Call, StoredRun, ClosedRun, HasOneHistory, Mode, ConsoleFault, history_on, no_notes, PrintsAll}
use Rattle.console.specs.declared.fault.ConsoleFault.TheVariants as faults
use Rattle.console_threads.specs.declared.fault.ThreadsFault.{ThreadsFault}
use Rattle.console_threads.specs.declared.fault.ThreadsFault.TheVariants.{Console, Device, Strange}
use Rattle.console_threads.specs.Asked.{IsAsked, IsUnasked}
use Rattle.console_threads.specs.Started.{EachStarted}
use Rattle.console_threads.specs.Told.{harts_text, noted_in}
use Rattle.console_threads.specs.Worked.{AllAnswered, eight_harts}

-- The lines of the harts are printed, one hart after the other, and then the last events, the timeline and the history, as they are wanted.
pub record IsPrinted (mode : Mode) (image : List ℕ) (run : StoredRun) (out out' : Option (List ℕ)) : Type 0 where
  pub between : Option (List ℕ)
  pub lines : Appends out between (harts_text run.events run.outcomes eight_harts)
  pub ends : PrintsAll mode (history_on image) (noted_in (no_notes mode) run.events run.outcomes) between (Ok tt) out'

-- A run on this image leaves this disk, one that doesn't fail, and is printed. Each hart was asked to start its
-- calls, and all that were started are answered. One list of tree steps explains them, if no step found no room and
-- no path climbs.
pub record IsToldRun (mode : Mode) (image : List ℕ) (calls : List (List Call)) (disk : List ℕ) (out out' : Option (List ℕ)) : Type 0 where
  pub run : ClosedRun
  pub image_is : run.stored.image ≡ image
  pub lasts : run.stored.fuse ≡ 2 ^ 64 - 1
  pub leaves : disk ≡ run.disk
  pub started : EachStarted run.stored.events eight_harts calls
  pub answered : AllAnswered calls run.stored
  pub explained : HasOneHistory run
  pub printed : IsPrinted mode image run.stored out out'

-- memory was refused, or the output can't be written
abbrev pub IsUnprinted : ConsoleFault → Type 0
IsUnprinted faults.Memory = Unit {0}
IsUnprinted (faults.Write e) = Unit {0}
IsUnprinted (faults.Image f) = ⊥
IsUnprinted (faults.Read e) = ⊥
IsUnprinted (faults.Line n why) = ⊥
IsUnprinted (faults.Stopped stop) = ⊥

-- or nothing is printed, because the run isn't the one that the harts' replies show
abbrev pub IsUntoldRun : ThreadsFault → Option (List ℕ) → Option (List ℕ) → Type 0
IsUntoldRun (Console fault) out out' = IsUnprinted fault
IsUntoldRun Device out out' = ⊥
IsUntoldRun Strange out out' = out' ≡ out

abbrev pub TellsRun : Mode → List ℕ → List (List Call) → Result (List ℕ) ThreadsFault → Option (List ℕ) → Option (List ℕ) → Type 0
TellsRun mode image calls (Ok disk) out out' = IsToldRun mode image calls disk out out'
TellsRun mode image calls (Err fault) out out' = IsUntoldRun fault out out'

-- Why there is no run of this script. Nothing is printed unless memory was refused, or what is printed can't be
-- written.
abbrev pub IsNoRun : Option (List ℕ) → ThreadsFault → Option (List ℕ) → Option (List ℕ) → Type 0
IsNoRun script (Console faults.Memory) out out' = Unit {0}
IsNoRun script (Console (faults.Write e)) out out' = Unit {0}
IsNoRun script (Console (faults.Line n why)) out out' = IsUnasked script (faults.Line n why) × (out' ≡ out)
IsNoRun script (Console (faults.Read e)) out out' = out' ≡ out
IsNoRun script (Console (faults.Image f)) out out' = out' ≡ out
IsNoRun script (Console (faults.Stopped stop)) out out' = ⊥
IsNoRun script Device out out' = out' ≡ out
IsNoRun script Strange out out' = out' ≡ out

-- The calls that a script asks for are made on this image, and the run is printed; or there is none.
abbrev pub RunsThreads : Mode → List ℕ → Option (List ℕ) → Result (List ℕ) ThreadsFault → Option (List ℕ) → Option (List ℕ) → Type 0
RunsThreads mode image script (Ok disk) out out' =
    (calls : List (List Call)) × IsAsked script calls × IsToldRun mode image calls disk out out'
RunsThreads mode image script (Err fault) out out' = IsNoRun script fault out out'
