-- How a run by threads ends, and why there is none.
use Rattle.console_threads.proofs.Vocabulary.{◌≡◌, ℕ, List, Option, Bool, true, false, Result, Ok, Err, refl, sym, ◌∙◌, subst, inl, inr, IfErr, IfOk, OnOk, Appends, Came, Event, IsWellFormed, JudgesFault, MountFault, StoredRun, Call, Mode, ConsoleFault, IsUntold, TellsHistory, WhereSet, history_on, NotesOf, no_notes, run_in, PrintsAll, ThreadsFault, Console, Device, Strange, IsAsked, IsUnasked, IsMounted, JudgesRun, of_mount, IsNoRun, IsPrinted, IsUnprinted, IsUntoldRun, RunsThreads, TellsRun, harts_text, noted_in, eight_harts}
use Rattle.image_tree.specs.declared.fault.MountFault.TheVariants as mounts
use Rattle.console.specs.declared.fault.ConsoleFault.TheVariants as faults

-- ---- no kernel

pub unopened : (script : Option (List ℕ)) (fault : MountFault) (out : Option (List ℕ)) → IsNoRun script (of_mount fault) out out
unopened script (mounts.Damaged d) out = refl
unopened script mounts.DeviceFault out = refl
unopened script mounts.NoMemory out = tt

pub mount_judged : (disk : List (List ℕ)) (fault : MountFault) → JudgesFault disk fault → JudgesRun disk (of_mount fault)
mount_judged disk (mounts.Damaged d) judged = judged
mount_judged disk mounts.DeviceFault judged = tt
mount_judged disk mounts.NoMemory judged = tt

-- ---- no script

pub unasked : (script : Option (List ℕ)) (fault : ConsoleFault) (out : Option (List ℕ)) → IsUnasked script fault → IsNoRun script (Console fault) out out
unasked script (faults.Line n why) out is = (is, refl)
unasked script (faults.Read e) out is = refl
unasked script faults.Memory out is = tt
unasked script (faults.Image f) out is = absurd is
unasked script (faults.Write e) out is = absurd is
unasked script (faults.Stopped stop) out is = absurd is

pub unasked_mounted : (script : Option (List ℕ)) (fault : ConsoleFault) → IsUnasked script fault → IsMounted (Console fault)
unasked_mounted script (faults.Line n why) is = tt
unasked_mounted script (faults.Read e) is = tt
unasked_mounted script faults.Memory is = tt
unasked_mounted script (faults.Image f) is = absurd is
unasked_mounted script (faults.Write e) is = absurd is
unasked_mounted script (faults.Stopped stop) is = absurd is

-- ---- a run

untold : (fault : ConsoleFault) → IsUntold (Err fault) → IsUnprinted fault
untold (faults.Write e) is = tt
untold faults.Memory is = tt
untold (faults.Image f) is = absurd is
untold (faults.Read e) is = absurd is
untold (faults.Line n why) is = absurd is
untold (faults.Stopped stop) is = absurd is

-- what comes after the lines could not be printed
unended : (mode : Mode) (image : List ℕ) (notes : NotesOf) (fault : ConsoleFault) (between end : Option (List ℕ)) → PrintsAll mode (history_on image) notes between (Err fault) end → IsUnprinted fault
unended mode image notes fault between end (inl printed) = wanted mode.explain printed.2
  where
    wanted : (b : Bool) → WhereSet b (TellsHistory (history_on image) (run_in notes.kept) (Err fault) printed.0 end) ((◌≡◌ {A = Result (Unit {0}) ConsoleFault} (Err fault) (Ok tt)) × (end ≡ printed.0)) → IsUnprinted fault
    wanted false same = let e = same.0 in absurd (cc e)
    wanted true (inl told) = let e = told.ends in absurd (cc e)
    wanted true (inr un) = untold fault un
unended mode image notes (faults.Write e) between end (inr un) = tt
unended mode image notes faults.Memory between end (inr un) = absurd un
unended mode image notes (faults.Image f) between end (inr un) = absurd un
unended mode image notes (faults.Read e) between end (inr un) = absurd un
unended mode image notes (faults.Line n why) between end (inr un) = absurd un
unended mode image notes (faults.Stopped stop) between end (inr un) = absurd un

pub end_fails : (mode : Mode) (image : List ℕ) (notes : NotesOf) (result : Result (Unit {0}) ConsoleFault) (between end : Option (List ℕ)) → PrintsAll mode (history_on image) notes between result end → IfErr result IsUnprinted
end_fails mode image notes (Ok u) between end ends = tt
end_fails mode image notes (Err fault) between end ends = unended mode image notes fault between end ends

-- all is printed
pub end_prints : (mode : Mode) (image : List ℕ) (run : StoredRun) (events : List Event) (outcomes : List Came) (notes : NotesOf) (result : Result (Unit {0}) ConsoleFault) (out between end : Option (List ℕ)) → events ≡ run.events → outcomes ≡ run.outcomes
    → Appends out between (harts_text events outcomes eight_harts) → notes ≡ noted_in (no_notes mode) events outcomes → PrintsAll mode (history_on image) notes between result end → OnOk result (IsPrinted mode image run out end)
end_prints mode image run events outcomes notes (Err fault) out between end these those lines noted ends = tt
end_prints mode image run events outcomes notes (Ok u) out between end these those lines noted ends =
    record {
      between = between;
      lines = subst (λ (p : List Event × List Came). Appends out between (harts_text p.0 p.1 eight_harts)) (λ i. (these i, those i)) lines;
      ends = subst (λ n. PrintsAll mode (history_on image) n between (Ok tt) end) (noted ∙ (λ i. noted_in (no_notes mode) (these i) (those i))) ends;
    }

untold_run : (script : Option (List ℕ)) (fault : ThreadsFault) (out out' : Option (List ℕ)) → IsUntoldRun fault out out' → IsNoRun script fault out out'
untold_run script (Console faults.Memory) out out' is = tt
untold_run script (Console (faults.Write e)) out out' is = tt
untold_run script Strange out out' is = is
untold_run script Device out out' is = absurd is
untold_run script (Console (faults.Line n why)) out out' is = absurd is
untold_run script (Console (faults.Read e)) out out' is = absurd is
untold_run script (Console (faults.Image f)) out out' is = absurd is
untold_run script (Console (faults.Stopped stop)) out out' is = absurd is

-- the run of a script
pub told_run : (mode : Mode) (image : List ℕ) (script : Option (List ℕ)) (calls copies : List (List Call)) (result : Result (List ℕ) ThreadsFault) (out out' : Option (List ℕ)) → copies ≡ calls → IsAsked script calls → TellsRun mode image copies result out out' → RunsThreads mode image script result out out'
told_run mode image script calls copies (Ok disk) out out' same asked told = (copies, subst (IsAsked script) (sym same) asked, told)
told_run mode image script calls copies (Err fault) out out' same asked told = untold_run script fault out out' told

pub told_mounted : (mode : Mode) (image : List ℕ) (calls : List (List Call)) (result : Result (List ℕ) ThreadsFault) (out out' : Option (List ℕ)) → TellsRun mode image calls result out out' → IfErr result IsMounted
told_mounted mode image calls (Ok bytes) out out' told = tt
told_mounted mode image calls (Err (Console faults.Memory)) out out' told = tt
told_mounted mode image calls (Err (Console (faults.Write e))) out out' told = tt
told_mounted mode image calls (Err Strange) out out' told = tt
told_mounted mode image calls (Err Device) out out' told = tt
told_mounted mode image calls (Err (Console (faults.Line n why))) out out' told = tt
told_mounted mode image calls (Err (Console (faults.Read e))) out out' told = tt
told_mounted mode image calls (Err (Console (faults.Image f))) out out' told = absurd told
told_mounted mode image calls (Err (Console (faults.Stopped stop))) out out' told = absurd told

-- ---- on a disk that is well formed

judged : (disk : List (List ℕ)) (fault : ThreadsFault) → IsWellFormed disk → IsMounted fault → JudgesRun disk fault
judged disk (Console (faults.Image f)) well is = absurd is
judged disk (Console (faults.Stopped stop)) well is = absurd is
judged disk (Console faults.Memory) well is = tt
judged disk (Console (faults.Read e)) well is = well
judged disk (Console (faults.Write e)) well is = well
judged disk (Console (faults.Line n why)) well is = well
judged disk Device well is = tt
judged disk Strange well is = well

pub run_judged : (disk : List (List ℕ)) (result : Result (List ℕ) ThreadsFault) → IsWellFormed disk → IfErr result IsMounted → IfErr result (JudgesRun disk)
run_judged disk (Ok bytes) well is = tt
run_judged disk (Err fault) well is = judged disk fault well is

pub if_ok : {A E P : Type 0} (r : Result A E) → P → IfOk r (λ a. P)
if_ok (Ok a) holds = holds
if_ok (Err e) holds = tt
