-- Every call over the machine of whole inodes, run on blocks.
use Rattle.atomic_programs.proofs.Vocabulary.{◌≡◌, ◌<◌, ℕ, Bool, true, false, if◌then◌else◌, Option, None, Some, List, [], ◌∷◌, refl, subst, nat_lt, ltb-true, ExecResult, Waits, Ran, Stops, exec_result_in, asks, Began, Refuses, Begins, Lawful, Event, AllHonest, run, fresh, is_some, IsExplained, Both, BeginsBoth, StartsBoth, CanBegin, AllAtomic, lowered_calls, IsCore, operations_of, noted_calls, Labels, Keeps, whole, take_if, hart_count, World, Outside, Shows, Base, blocks, handler, Calls, theory, begins_at_once, core, operation_labels}
use Rattle.atomic_programs.proofs.Basics.{operations_laws, lowered_lawful, refined, blocks_laws}
use Rattle.atomic_programs.proofs.Noted.{refined_within}
use Rattle.atomic_programs.specs.Whole as above
use Rattle.atomic_programs.specs.Blocks as low
use Rattle.atomic_programs.proofs.Handlers.{atomic}

some : (op : above.Op) → above.Answer op
some (above.Take i) = record { kind = 0; size = 0 }
some (above.Store i d) = tt
some (above.Give i) = tt
some above.Enter = tt
some above.Exit = tt
some (above.Look i k) = 0
some (above.Write i k z zs) = tt

some_below : (op : low.Op) → low.Answer op
some_below (low.Lock i) = None
some_below (low.Unlock i d) = tt
some_below (low.Get b) = None
some_below (low.Read b) = λ k. record { kind = 0; size = 0 }
some_below (low.Put b z) = tt
some_below low.Join = tt
some_below low.Leave = tt
some_below (low.PutPart i k z) = tt
some_below (low.GetPart i k) = 0

-- each operation's program has a step
steps : (M : Type 0) (hand : low.Carry) (op : above.Op) (m : above.Answer op → Option M) → is_some (asks (handler M hand op m)) ≡ true
steps M hand (above.Take i) m = refl
steps M hand (above.Store i d) m = refl
steps M hand (above.Give i) m = refl
steps M hand above.Enter m = refl
steps M hand above.Exit m = refl
steps M hand (above.Look i k) m = refl
steps M hand (above.Write i k z []) m = refl
steps M hand (above.Write i k z (y ∷ ys)) m = refl

-- no operation above stops the world
never : (h : ℕ) (op : above.Op) (v u : above.World) → above.exec h op v ≡ Stops u → ⊥
never h (above.Take i) v u e = at (v.lock i) e
  where
    at : (o : Option ℕ) → take_if h i v o ≡ Stops u → ⊥
    at None e = cc
    at (Some g) e = cc
never h (above.Store i d) v u e = cc
never h (above.Give i) v u e = cc
never h above.Enter v u e = cc
never h above.Exit v u e = cc
never h (above.Look i k) v u e = cc
never h (above.Write i k z zs) v u e = cc

same : {A S : Type 0} (x : ExecResult A S) → exec_result_in (λ (w : S). w) x ≡ x
same Waits = refl
same (Ran a w) = refl
same (Stops w) = refl

module _ (l : Labels) (c : Calls l) (lawful : Lawful (theory l c)) (keeps : Keeps l) where
  is_core : IsCore (theory l c) (core l)
  is_core =
      record {
        may = λ h op w m. m;
        honest = λ h op w x t. t;
        goes = λ h x op m w. same (above.exec h op w);
        stops = λ h x op t u e. absurd (never h op t u e);
        starts = λ h call busy w u e. cc;
        some = some;
      }

  -- a start that begins: it changes nothing, and is one of the eight harts'
  begun_same : (h : ℕ) (call : c.Call) (busy : ℕ → Bool) (r s : World) → begins_at_once l c h call busy r ≡ Begins s → (r ≡ s) × (h < hart_count)
  begun_same h call busy r s e = at (nat_lt h hart_count) refl e
    where
      at : (b : Bool) → nat_lt h hart_count ≡ b → ◌≡◌ {A = Began c.Refusal World} (if b then Begins r else Refuses c.no_hart) (Begins s) → (r ≡ s) × (h < hart_count)
      at true t e = (cc, ltb-true h hart_count t)
      at false t e = absurd cc

  starts_both : StartsBoth (theory l c) blocks (begins_at_once l c)
  starts_both h call busy r s g holds inv idle free e =
      let is : r ≡ s = (begun_same h call busy r s e).0 in
      subst (λ (z : World). BeginsBoth (theory l c) blocks h call busy r z g) is
      (record {
        above = g;
        begins = refl;
        shows = λ x. x;
        halted = λ x. x;
        kept = λ other ne b. (blocks_laws l keeps).same other r;
        rests = λ other b. (idle other b).0;
      })

  small : (h : ℕ) → CanBegin (theory l c) blocks (begins_at_once l c) h → h < hart_count
  small h can = (begun_same h can.0 can.1 can.2 can.3 can.4).1

  -- the calls on blocks, with the history that they were shown to have over whole inodes, and with the operations there
  pub calls_lawful : Lawful (lowered_calls (theory l c) blocks (handler l.Mark) (begins_at_once l c))
  calls_lawful = lowered_lawful (theory l c) blocks (handler l.Mark) (begins_at_once l c) lawful (blocks_laws l keeps) starts_both (λ h can op m. atomic l lawful.laws keeps h (small h can) op m)

  pub operations_atomic : AllAtomic (operations_of (theory l c) (core l)) blocks (handler l.Mark) (begins_at_once l c)
  operations_atomic h can op m = atomic (operation_labels l) (operations_laws (whole l) (core l) lawful.laws) (record { kept = λ h v w xs o. keeps.kept h v w o.1.0 o.1.1; idle = keeps.idle }) h (small h can) op m

  -- each run on blocks is one of whole inodes, whatever the history is
  pub calls_refined : (w : Both World above.World) → Shows w.real w.seen → l.Inv w.seen → ((h : ℕ) → Base h w.real w.seen blocks.none) → ((h : ℕ) → l.Idle h w.seen) → (events : List (Event c.Call Outside))
      → AllHonest (lowered_calls (operations_of (theory l c) (core l)) blocks (handler l.Mark) (begins_at_once l c)) events (fresh (lowered_calls (operations_of (theory l c) (core l)) blocks (handler l.Mark) (begins_at_once l c)) w)
      → IsExplained (lowered_calls (operations_of (theory l c) (core l)) blocks (handler l.Mark) (begins_at_once l c)) w.seen (run (lowered_calls (operations_of (theory l c) (core l)) blocks (handler l.Mark) (begins_at_once l c)) events (fresh (lowered_calls (operations_of (theory l c) (core l)) blocks (handler l.Mark) (begins_at_once l c)) w))
  calls_refined w shows inv base idle events honest =
      refined (theory l c) (core l) blocks (handler l.Mark) (begins_at_once l c) lawful (blocks_laws l keeps) is_core starts_both operations_atomic w events shows inv base idle honest

  -- and each operation above acts within its own program
  pub calls_within : (w : Both World above.World) → Shows w.real w.seen → l.Inv w.seen → ((h : ℕ) → Base h w.real w.seen blocks.none) → ((h : ℕ) → l.Idle h w.seen) → (events : List (Event c.Call Outside))
      → AllHonest (noted_calls (theory l c) (core l) blocks (handler l.Mark) (begins_at_once l c)) events (fresh (noted_calls (theory l c) (core l) blocks (handler l.Mark) (begins_at_once l c)) w)
      → IsExplained (noted_calls (theory l c) (core l) blocks (handler l.Mark) (begins_at_once l c)) w.seen (run (noted_calls (theory l c) (core l) blocks (handler l.Mark) (begins_at_once l c)) events (fresh (noted_calls (theory l c) (core l) blocks (handler l.Mark) (begins_at_once l c)) w))
  calls_within w shows inv base idle events honest =
      refined_within (theory l c) (core l) blocks (handler l.Mark) (begins_at_once l c) lawful (blocks_laws l keeps) is_core starts_both operations_atomic some_below (λ hand op m. steps l.Mark hand op m) w events shows inv base idle honest
