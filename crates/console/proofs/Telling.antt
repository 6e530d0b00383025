-- A history is printed, or why there is none.
use Rattle.std.specs.Prelude.{◌^◌}
use Rattle.console.proofs.Vocabulary.{◌≡◌, ◌<◌, ℕ, List, length, Option, Result, Ok, Err, refl, subst, inl, inr, OnOk, Appends, Came, Event, KeptTree, HandsOutKept, Placed, OwnsRun, IsRefusedBy, IsRefusedSo, ExplainRefused, ConsoleFault, IsWritten, HasLine, History, TellsHistory, TellsWhy, entries_text, history_kept, history_on, why_line, KeptRun}
use Rattle.explain.specs.declared.refused.ExplainRefused.TheVariants as refused
use Rattle.console.specs.declared.fault.ConsoleFault.TheVariants as faults

has_line : (why : ExplainRefused) → (why ≡ refused.NoMemory → ⊥) → HasLine why
has_line refused.NoMemory other = absurd (other refl)
has_line (refused.Damaged d) other = tt
has_line refused.FullSeen other = tt
has_line refused.Climbs other = tt

pub line_told : (why : ExplainRefused) (result : Result (Unit {0}) ConsoleFault) (out out' : Option (List ℕ)) → (why ≡ refused.NoMemory → ⊥) → IsWritten result → OnOk result (Appends out out' (why_line why)) → TellsWhy why result out out'
line_told why (Ok u) out out' other written line = inl (has_line why other, refl, line)
line_told why (Err (faults.Write e)) out out' other written line = inr tt
line_told why (Err faults.Memory) out out' other written line = absurd written
line_told why (Err (faults.Image f)) out out' other written line = absurd written
line_told why (Err (faults.Read e)) out out' other written line = absurd written
line_told why (Err (faults.Line n reason)) out out' other written line = absurd written
line_told why (Err (faults.Stopped stop)) out out' other written line = absurd written

pub why_told : (history : History) (run : KeptRun) (why : ExplainRefused) (result : Result (Unit {0}) ConsoleFault) (out out' : Option (List ℕ)) → (HasLine why → history run (why_line why)) → TellsWhy why result out out' → TellsHistory history run result out out'
why_told history run why result out out' so (inl told) = inl (record {
  text = why_line why;
  is_history = so told.0;
  ends = told.1;
  printed = told.2;
})
why_told history run why result out out' so (inr untold) = inr untold

pub list_told : (history : History) (run : KeptRun) (list : List Placed) (result : Result (Unit {0}) ConsoleFault) (out out' : Option (List ℕ)) → history run (entries_text list) → IsWritten result → OnOk result (Appends out out' (entries_text list)) → TellsHistory history run result out out'
list_told history run list (Ok u) out out' explains written lines = inl (record {
  text = entries_text list;
  is_history = explains;
  ends = refl;
  printed = lines;
})
list_told history run list (Err (faults.Write e)) out out' explains written lines = inr tt
list_told history run list (Err faults.Memory) out out' explains written lines = absurd written
list_told history run list (Err (faults.Image f)) out out' explains written lines = absurd written
list_told history run list (Err (faults.Read e)) out out' explains written lines = absurd written
list_told history run list (Err (faults.Line n reason)) out out' explains written lines = absurd written
list_told history run list (Err (faults.Stopped stop)) out out' explains written lines = absurd written

-- ---- of events and outcomes that are the run's, and of what is kept beside them

module _ (kept : Option KeptTree) (run : KeptRun) (events : List Event) (outcomes : List Came) (few : length events < 2 ^ 64) (these : events ≡ run.events) (those : outcomes ≡ run.outcomes) where
  these_few : length run.events < 2 ^ 64
  these_few = subst (λ (es : List Event). length es < 2 ^ 64) these few

  pub found : (list shown : List Placed) → list ≡ shown → HandsOutKept kept events outcomes list → history_kept kept run (entries_text shown)
  found list shown same hands =
      (these_few, inl (record { list = shown; hands = subst (λ (p : List Event × List Came × List Placed). HandsOutKept kept p.0 p.1 p.2) (λ i. (these i, those i, same i)) hands; text_is = refl }))

  pub unfound : (why : ExplainRefused) → IsRefusedBy kept events outcomes why → HasLine why → history_kept kept run (why_line why)
  unfound why so line =
      (these_few, inr (record { why = why; has_line = line; refused = subst (λ (p : List Event × List Came). IsRefusedBy kept p.0 p.1 why) (λ i. (these i, those i)) so; text_is = refl }))

-- ---- on an image, of events that are the run's

module _ (image : List ℕ) (run : KeptRun) (events : List Event) (these : events ≡ run.events) where
  pub found_on : (list shown : List Placed) → list ≡ shown → OwnsRun image events list → history_on image run (entries_text shown)
  found_on list shown same explains = inl (record {
    list = shown;
    explains = subst (λ (p : List Event × List Placed). OwnsRun image p.0 p.1) (λ i. (these i, same i)) explains;
    text_is = refl;
  })

  pub unfound_on : (why : ExplainRefused) → IsRefusedSo image events why → HasLine why → history_on image run (why_line why)
  unfound_on why so line = inr (record {
    why = why;
    has_line = line;
    refused = subst (λ (es : List Event). IsRefusedSo image es why) these so;
    text_is = refl;
  })
