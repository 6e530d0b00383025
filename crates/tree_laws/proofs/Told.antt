-- What calls are handed: the failing step of a lost walk when it is given up, everything else at once.
use Rattle.image_versions.specs.declared.version.Version.{Version}
use Rattle.tree_laws.proofs.Vocabulary.{◌≡◌, ℕ, ◌<◌, refl, ◌∙◌, ap, List, [], ◌∷◌, ◌++◌, append-nil, Option, Some, None, Reply, Call, hart_count, Tree, Act, acts_of, Deed, Stage, MoveStep as Step, begins, IsNext, after, MayEnd, IsPlayed, told_by, HartStanding, History, writes_any, tells_any, Busy, World, lost_of, unless, moves_on, Tells}
use Rattle.tree_laws.proofs.Basics.{list_has}
use Rattle.tree_laws.proofs.History.{Inv, lately, writes_calls, tells_here, tells_there, falls_calls, finish_here, finish_there}

with_late : (o : Option Deed) (x : List Act) → x ++ lately o ≡ after o x
with_late None x = append-nil x
with_late (Some d) x = refl

pub told_late : (version : Version) (Ok : ℕ → Call → Type 0) (base : Tree) (w : World) (h id : ℕ) (c : Call) (x : List Act) → Inv version Ok base w → h < hart_count → w.history.calls h ≡ Busy id c x → acts_of id w.history.list ≡ after (lost_of w.stage h) x
told_late version Ok base w h id c x k lt is = list_has version base w.stage.tree k.late w.history.trace.events w.history h id c x k.book is ∙ (ap (λ (z : List Act). x ++ z) (k.lost h lt) ∙ with_late (lost_of w.stage h) x)

pub played_next : (c : Call) (acts : List Act) (es rest : List Step) (e : Step) (r : Reply) → IsPlayed c acts (es ++ e ∷ rest) r → IsNext c (told_by acts es) (begins e.move)
played_next c acts [] rest e r k = k.0
played_next c acts (x ∷ es) rest e r k = played_next c (after x.told acts) es rest e r k.1

pub played_end : (c : Call) (acts : List Act) (es : List Step) (r : Reply) → IsPlayed c acts es r → MayEnd c (told_by acts es) r
played_end c acts [] r k = k
played_end c acts (x ∷ es) r k = played_end c (after x.told acts) es r k.1

pub told_more : (acts : List Act) (es : List Step) (e : Step) → told_by acts (es ++ e ∷ []) ≡ after e.told (told_by acts es)
told_more acts [] e = refl
told_more acts (x ∷ es) e = told_more (after x.told acts) es e

-- The state of the calls after a hart's event.

moved_calls : (w : World) (h : ℕ) (told : Option Deed) (m : Stage) (g : ℕ) → (moves_on w.stage m h told w.history).calls g ≡ (tells_any told h (writes_any (unless (lost_of w.stage h) told) h w.history)).calls g
moved_calls w h told m g = ap (λ (f : ℕ → HartStanding). f g) (falls_calls w.stage m hart_count (tells_any told h (writes_any (unless (lost_of w.stage h) told) h w.history)))

pub event_tells : (w : World) (h id : ℕ) (c : Call) (acts : List Act) (told : Option Deed) (m : Stage) → w.history.calls h ≡ Busy id c acts → Tells w h id c acts told m
event_tells w h id c acts told m is = record {
  goes_on = moved_calls w h told m h ∙ tells_here told h id c acts written (as_before h ∙ is);
  ends = λ r. finish_here (Some r) (moves_on w.stage m h told w.history) h;
  others = λ r g ne. finish_there r (moves_on w.stage m h told w.history) h g ne ∙ (moved_calls w h told m g ∙ (tells_there told h g written ne ∙ as_before g));
}
  where
    written : History
    written = writes_any (unless (lost_of w.stage h) told) h w.history

    as_before : (g : ℕ) → written.calls g ≡ w.history.calls g
    as_before g = ap (λ (f : ℕ → HartStanding). f g) (writes_calls (unless (lost_of w.stage h) told) h w.history)
