-- A keeper that noted each event of a run has kept it.
use Rattle.explain.proofs.Vocabulary.{◌≡◌, ℕ, List, [], ◌∷◌, subst, ◌∙◌, Came, Event}
use Rattle.std.specs.Option.{option_map}
use Rattle.std.specs.Prelude.{◌+◌, ◌-◌, ◌^◌, ◌<◌, ◌≤◌, min, ◌++◌, length, Bool, Option, Some, None, slice_get}
use Rattle.std.proofs.Common.{refl, sym, ap, arith, append_assoc}
use Rattle.hart_core.proofs.Vocabulary.{nat_tests}
use Rattle.explain.specs.Vocabulary.{Super, Heard, Version, heard_in, HartsOf, KeptTree, NotesEvent, TreeData, ended, nothing_kept}
use Rattle.explain.specs.Keeps.{HasNoted}
use Rattle.kept_histories.specs.Keeps.{KeepsEvent, KeepsRun}
use Rattle.explain.specs.Telling.{TellsKeeper}
use Rattle.hart_core.specs.Telling.{NotesRun}
use Rattle.explain.specs.declared.keep.Telling.{Telling}

-- ---- what was noted is kept

record WasKept (o : Option KeptTree) (e : Event) (c : Came) (x : Option Heard) (k' : KeptTree) : Type 0 where
  pub kept : KeptTree
  pub is : o ≡ Some kept
  pub keeps : KeepsEvent kept e c x k'

was_kept : (o : Option KeptTree) (e : Event) (c : Came) (x : Option Heard) (k' : KeptTree) → HasNoted o e c x (Some k') → WasKept o e c x k'
was_kept None e c x k' noted = absurd noted
was_kept (Some k) e c x k' noted = record { kept = k; is = refl; keeps = noted }

at_place : (xs : List Event) (e : Event) (es : List Event) → slice_get (xs ++ e ∷ es) (length xs) ≡ Some e
at_place [] e es = refl
at_place (x ∷ xs) e es = at_place xs e es

longer : (xs : List Event) (e : Event) → length (xs ++ e ∷ []) ≡ length xs + 1
longer [] e = refl
longer (x ∷ xs) e = (let more = longer xs e in omega (arith, more))

reaches : (xs : List Event) (e : Event) (es : List Event) → length xs + 1 ≤ length (xs ++ e ∷ es)
reaches [] e es = omega arith
reaches (x ∷ xs) e es = (let more = reaches xs e es in omega (arith, more))

pub min_is : (a b : ℕ) → a ≤ b → min a b ≡ a
min_is a b le = grind (arith, nat_tests)

module _ {D : Type 0} (contents : D → List (List ℕ)) (failures : D → ℕ) (sizes : Super) where
  pub record KeptFrom (old : HartsOf D) (o : Option KeptTree) (es : List Event) (cs : List Came) (new : HartsOf D) (k' : KeptTree) : Type 0 where
    pub kept : KeptTree
    pub is : o ≡ Some kept
    pub run : KeepsRun contents failures sizes old kept es cs new k'

  -- the events in `past` were noted before
  pub noted_run : (past : List Event) (old : HartsOf D) (t : Telling) (es : List Event) (cs : List Came) (new : HartsOf D) (t' : Telling) (k' : KeptTree)
      → t.events.now ≡ past ++ es → t.place ≡ length past → length (past ++ es) < 2 ^ 64 → NotesRun contents failures TellsKeeper sizes old t es cs new t' → t'.keeper ≡ Some k'
      → KeptFrom old t.keeper es cs new k'
  noted_run past old t [] [] new t' k' events place room run is =
      record { kept = k'; is = sym (ap (λ (u : Telling). u.keeper) run.1) ∙ is; run = (run.0, refl) }
  noted_run past old t [] (c ∷ cs) new t' k' events place room run is = absurd run
  noted_run past old t (e ∷ es) [] new t' k' events place room run is = absurd run
  noted_run past old t (e ∷ es) (c ∷ cs) new t' k' events place room run is =
      let mid = run.0 in
      let amid = run.1 in
      let one : NotesEvent contents failures TellsKeeper sizes e old t c mid amid = run.2 in
      let assoc : past ++ e ∷ es ≡ (past ++ e ∷ []) ++ es = sym (append_assoc past (e ∷ []) es) in
      let within = reaches past e es in
      let next : amid.place ≡ length (past ++ e ∷ []) =
      one.took.place ∙ (λ i. min (place i + 1) (2 ^ 64 - 1)) ∙ min_is (length past + 1) (2 ^ 64 - 1) (omega (arith, within, room)) ∙ sym (longer past e) in
      let rest = noted_run (past ++ e ∷ []) mid amid es cs new t' k' (ap (λ (s : _). s.now) one.took.events ∙ events ∙ assoc) next (subst (λ (l : List Event). length l < 2 ^ 64) assoc room) run.3 is in
      let here : slice_get t.events.now t.place ≡ Some e = (λ i. slice_get (events i) (place i)) ∙ at_place past e es in
      let was = was_kept t.keeper e c (heard_in c one.heard) rest.kept (subst (λ (o : Option KeptTree). HasNoted t.keeper e c (heard_in c one.heard) o) rest.is (one.took.noted e here)) in
      record {
        kept = was.kept;
        is = was.is;
        run = (mid, rest.kept, record { makes = one.makes; answers = one.answers; heard = one.heard; tells = one.tells; fits = one.fits; took = was.keeps }, rest.run);
      }

  -- a keeper that began with this tree
  pub keeps_from : (old : HartsOf D) (t : Telling) (es : List Event) (cs : List Came) (new : HartsOf D) (t' : Telling) (k' : KeptTree)
      → t.events.now ≡ es → t.place ≡ 0 → length es < 2 ^ 64 → NotesRun contents failures TellsKeeper sizes old t es cs new t' → t'.keeper ≡ Some k'
      → (had has : Version) → had ≡ has → (base tree : TreeData) → base ≡ tree → t.keeper ≡ Some (nothing_kept had base) → KeepsRun contents failures sizes old (nothing_kept has tree) es cs new k'
  keeps_from old t es cs new t' k' events place room run is had has version base tree same first =
      let from = noted_run [] old t es cs new t' k' events place room run is in
      let began : from.kept ≡ nothing_kept had base = (let e : Some from.kept ≡ Some (nothing_kept had base) = sym from.is ∙ first in cc e) in
      subst (λ (k : KeptTree). KeepsRun contents failures sizes old k es cs new k') (began ∙ (λ i. nothing_kept (version i) (same i))) from.run

-- ---- at its end

-- who has something after the run's end has kept it before
pub record WasTold (o : Option KeptTree) (b : Bool) (k : KeptTree) : Type 0 where
  pub kept : KeptTree
  pub was : o ≡ Some kept
  pub is : k ≡ ended b kept

pub was_told : (o : Option KeptTree) (k : KeptTree) (b : Bool) → option_map (ended b) o ≡ Some k → WasTold o b k
was_told None k b e = absurd cc
was_told (Some kept) k b e = record { kept = kept; was = refl; is = (let same : Some (ended b kept) ≡ Some k = e in cc same) }
