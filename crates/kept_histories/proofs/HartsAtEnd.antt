-- What each hart has in hand goes with the state, also at the end of a run.
use Rattle.std.specs.Prelude.{◌≡◌, ℕ, zero, suc, List, [], ◌∷◌, Option, None, get_or, length, replicate}
use Rattle.calls_on_blocks.proofs.Vocabulary.{refl, sym, ◌∙◌, ap, subst}
use Rattle.fs_layout.specs.declared.superblock.Super.{Super}
use Rattle.hart_core.specs.Harts.{AreHarts, AreIdle, HartFits, HartsOf, shared_of}
use Rattle.hart_core.specs.declared.events.Came.{Came}
use Rattle.hart_core.specs.declared.events.Event.{Event as HartEvent}
use Rattle.syscalls.specs.Machines.{Running}
use Rattle.tree_histories.specs.Keeping.{KeptTree}
use Rattle.tree_laws.specs.Vocabulary.{hart_count}
use Rattle.kept_histories.specs.Keeps.{KeepsRun}
use Rattle.kept_histories.proofs.KeptLists.{none_in}

long : {A : Type 0} (n : ℕ) (a : A) → length (replicate n a) ≡ n
long zero a = refl
long (suc n) a = ap suc (long n a)

module _ {D : Type 0} (contents : D → List (List ℕ)) (failures : D → ℕ) where
  -- idle harts have nothing in hand
  pub idle_harts : (w : HartsOf D) → AreIdle w.calls → AreHarts (shared_of contents failures w) w.calls
  idle_harts w idle = record {
    long = ap length idle ∙ long {A = Option Running} hart_count None;
    fits = λ h. subst (λ (o : Option Running). HartFits (shared_of contents failures w) h o) (sym (ap (λ (z : List (Option Running)). get_or z h None) idle ∙ none_in hart_count h)) tt;
  }

  pub harts_at_end : (sizes : Super) (es : List HartEvent) (cs : List Came) (old new : HartsOf D) (k k' : KeptTree) → KeepsRun contents failures sizes old k es cs new k'
      → AreHarts (shared_of contents failures old) old.calls → AreHarts (shared_of contents failures new) new.calls
  harts_at_end sizes [] [] old new k k' r harts = subst (λ (w : HartsOf D). AreHarts (shared_of contents failures w) w.calls) (sym r.0) harts
  harts_at_end sizes [] (c ∷ cs) old new k k' r harts = absurd r
  harts_at_end sizes (e ∷ es) [] old new k k' r harts = absurd r
  harts_at_end sizes (e ∷ es) (c ∷ cs) old new k k' r harts = harts_at_end sizes es cs r.0 new r.1 k' r.3 r.2.fits
