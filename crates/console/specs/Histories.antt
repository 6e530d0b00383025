-- What is printed of a run's history, with --explain.
use Rattle.std.specs.Prelude.{◌≡◌, ◌⊎◌, ◌<◌, ◌^◌, ℕ, Bool, true, false, List, [], ◌∷◌, ◌++◌, length, Option, Some, Result, Ok, Err, codes, decimal}
use Rattle.console.specs.Vocabulary.{Appends, KeptTree, Placed, Explains, TreeData, Version, tree_in, trace_in, any_full, nothing_kept, HandsOutKept, IsMounted, IsRefusedBy, IsRefusedOf, IsRefusedSo, OwnsRun, RunOn, Event, number_of, name_of, ExplainRefused, entry_line}
use Rattle.explain.specs.declared.refused.ExplainRefused.TheVariants as refused
use Rattle.console.specs.declared.fault.ConsoleFault.{ConsoleFault}
use Rattle.console.specs.declared.fault.ConsoleFault.TheVariants as faults
use Rattle.console.specs.Basics.{KeptRun, SessionOf}

abbrev pub WhereSet : Bool → Type 0 → Type 0 → Type 0
WhereSet true this other = this
WhereSet false this other = other

-- a line an entry, in their order
unfoldable pub entries_text : List Placed → List ℕ
entries_text [] = []
entries_text (entry ∷ entries) = entry_line entry ++ entries_text entries

-- why there is none
abbrev pub why_line : ExplainRefused → List ℕ
why_line why = codes "history refused " ++ decimal (number_of why) ++ codes " " ++ name_of why ++ codes "\n"

-- which texts show the history of a run
abbrev pub History : Type 1
History = KeptRun → List ℕ → Type 0

-- .. by the tree that is kept beside it: as the run begins, and at its end
abbrev pub HistoryBeside : Type 1
HistoryBeside = Option KeptTree → Option KeptTree → History

-- want of memory is a fault, and has no line
abbrev pub HasLine : ExplainRefused → Type 0
HasLine refused.NoMemory = ⊥
HasLine (refused.Damaged d) = Unit {0}
HasLine refused.FullSeen = Unit {0}
HasLine refused.Climbs = Unit {0}

-- ---- of events and their outcomes, and of what is kept beside them at the end

-- just the list that was kept
pub record IsFound (kept : Option KeptTree) (run : KeptRun) (text : List ℕ) : Type 0 where
  pub list : List Placed
  pub hands : HandsOutKept kept run.events run.outcomes list
  pub text_is : text ≡ entries_text list

-- none is handed out, and why
pub record IsUnfound (kept : Option KeptTree) (run : KeptRun) (text : List ℕ) : Type 0 where
  pub why : ExplainRefused
  pub has_line : HasLine why
  pub refused : IsRefusedBy kept run.events run.outcomes why
  pub text_is : text ≡ why_line why

-- the run isn't longer than a list in memory can be
abbrev pub history_kept : Option KeptTree → History
history_kept kept run text = (length run.events < 2 ^ 64) × (IsFound kept run text ⊎ IsUnfound kept run text)

-- the tree is kept from this one on
abbrev pub history_from : Version → TreeData → HistoryBeside
history_from version base first kept run text = (first ≡ Some (nothing_kept version base)) × history_kept kept run text

-- if no step found no room, no reply says otherwise; and the list that was kept explains what the run showed
pub record ExplainsRun (version : Version) (base : TreeData) (kept : Option KeptTree) (run : KeptRun) : Type 0 where
  pub room : (k : KeptTree) → kept ≡ Some k → k.full ≡ false → any_full (trace_in run.events run.outcomes).calls ≡ false
  pub explains : (list : List Placed) → HandsOutKept kept run.events run.outcomes list → Explains version base (trace_in run.events run.outcomes) list

module _ {D : Type 0} (contents : D → List (List ℕ)) (failures : D → ℕ) where
  -- the file system is as a mount of a device leaves it, and this is the tree of the device's image
  pub record IsAsMounted (s : SessionOf D) (base : TreeData) : Type 0 where
    pub device : D
    pub mounted : IsMounted contents failures device s.world
    pub base_is : base ≡ tree_in (contents device)

  -- what was kept of a run that began with this file system
  abbrev pub history_at : SessionOf D → TreeData → HistoryBeside
  history_at s base first kept run text =
      history_from s.world.sizes.version base first kept run text
      × (IsAsMounted s base → ExplainsRun s.world.sizes.version base kept run)

-- ---- of events on an image

-- a list that explains what these events show on this image, the run's own
pub record IsExplained (image : List ℕ) (events : List Event) (text : List ℕ) : Type 0 where
  pub list : List Placed
  pub explains : OwnsRun image events list
  pub text_is : text ≡ entries_text list

-- no list is found, and why
pub record IsUnexplained (image : List ℕ) (events : List Event) (text : List ℕ) : Type 0 where
  pub why : ExplainRefused
  pub has_line : HasLine why
  pub refused : IsRefusedSo image events why
  pub text_is : text ≡ why_line why

abbrev pub history_on : List ℕ → History
history_on image run text = IsExplained image run.events text ⊎ IsUnexplained image run.events text

-- ---- of a run that was made on an image

module _ (image : List ℕ) (run : KeptRun) where
  -- the list of this very run
  pub record IsOwn (text : List ℕ) : Type 0 where
    pub list : List Placed
    pub owns : OwnsRun image run.events list
    pub outcomes : owns.run.outcomes ≡ run.outcomes
    pub text_is : text ≡ entries_text list

  -- it has none: why these events on this image have none, and why this very run has none
  pub record HasNoList (text : List ℕ) : Type 0 where
    pub why : ExplainRefused
    pub has_line : HasLine why
    pub refused_so : IsRefusedSo image run.events why
    pub made : RunOn image run.events
    pub outcomes : made.outcomes ≡ run.outcomes
    pub refused : IsRefusedOf image run.events made why
    pub text_is : text ≡ why_line why

abbrev pub history_of : List ℕ → HistoryBeside
history_of image _ _ run text = IsOwn image run text ⊎ HasNoList image run text

-- ---- what is printed

-- what is printed can't be written, or there is no memory for the history
abbrev pub IsUntold : Result (Unit {0}) ConsoleFault → Type 0
IsUntold (Err (faults.Write e)) = Unit {0}
IsUntold (Err faults.Memory) = Unit {0}
IsUntold (Ok u) = ⊥
IsUntold (Err (faults.Image f)) = ⊥
IsUntold (Err (faults.Read e)) = ⊥
IsUntold (Err (faults.Line n why)) = ⊥
IsUntold (Err (faults.Stopped stop)) = ⊥

-- the history of the run is printed after all else
pub record IsTold (history : History) (run : KeptRun) (result : Result (Unit {0}) ConsoleFault) (out out' : Option (List ℕ)) : Type 0 where
  pub text : List ℕ
  pub is_history : history run text
  pub ends : result ≡ Ok tt
  pub printed : Appends out out' text

abbrev pub TellsHistory : History → KeptRun → Result (Unit {0}) ConsoleFault → Option (List ℕ) → Option (List ℕ) → Type 0
TellsHistory history run result out out' = IsTold history run result out out' ⊎ IsUntold result

-- why there is none is printed, if that has a line
abbrev pub TellsWhy : ExplainRefused → Result (Unit {0}) ConsoleFault → Option (List ℕ) → Option (List ℕ) → Type 0
TellsWhy why result out out' = (HasLine why × (result ≡ Ok tt) × Appends out out' (why_line why)) ⊎ IsUntold result
