-- What is shown of calls above holds of them below, and each run below is one of whole operations above.
use Rattle.atomic_programs.proofs.Vocabulary.{◌≡◌, ◌⊎◌, ℕ, Option, Bool, false, List, [], refl, sym, ◌∙◌, ap, subst, inl, inr, ExecResult, Waits, Ran, Stops, exec_result_in, Machine, Theory, Began, Refuses, Begins, Begun, Ends, Right, Lawful, Event, AllHonest, run, fresh, IsExplained, IsCode, began_in, ActOf, both, LowerLayer, Both, joined, LowerLaws, Handlers, lowered, AtEnd, Starts, began_to, began_both, lowered_calls, BeginsBoth, StartsBoth, AllAtomic, Part, IsPart, code_part, all_below, code_below, BeginsSome, AllLift, Core, IsCore, operations, operations_of}
use Rattle.atomic_programs.proofs.Sound.{Wp-weaker}
use Rattle.atomic_programs.proofs.Explains.{ends_last, explains}
use Rattle.atomic_programs.proofs.Joined.{joined_laws, lift}
use Rattle.atomic_programs.proofs.Operations.{operations_lawful}

pub operations_below : (U : Machine) (K : Core U) (R : LowerLayer U.World) → LowerLaws U R → LowerLaws (operations U K) R
operations_below U K R below = record { same = below.same; trans = below.trans; kept = λ h g u xs o. below.kept h g u o.1.0 o.1.1; base = below.base; idle = below.idle }

-- a start below that begins the call
pub begun_both : {Refusal S G : Type 0} (g : G) (x : Began Refusal S) (u : Both S G) → began_both g x ≡ Begins u → (x ≡ Begins u.real) × (u.seen ≡ g)
begun_both g (Refuses why) u e = absurd cc
begun_both {Refusal} {S} {G} g (Begins r) u e = (ap (λ (z : Both S G). begins z.real) is, ap (λ (z : Both S G). z.seen) (sym is))
  where
    begins : S → Began Refusal S
    begins z = Begins z

    is : ◌≡◌ {A = Both S G} (record { real = r; seen = g }) u
    is = cc

module _ (T : Theory) (R : LowerLayer T.M.World) (handler : Handlers T.M R) (begin : Starts T R) (lawful : Lawful T) (below : LowerLaws T.M R) (starts : StartsBoth T R begin) where
  pub lifted_lawful : AllLift T R handler begin → Lawful (lowered_calls T R handler begin)
  lifted_lawful lifts =
      record {
        laws = joined_laws T.M R lawful.laws below;
        calls = λ h call busy w u holds idle free e.
            let b = begun_both (began_to w.seen (T.start h call busy w.seen)) (begin h call busy w.real) u e in
            right h call (busy, w.real, u.real, b.0) busy w u.real idle free (inv_of w holds) (starts h call busy w.real u.real w.seen (shows_of w holds) (inv_of w holds) idle free b.0) u.seen b.1;
      }
    where
      inv_of : (w : Both R.World T.M.World) → (R.Shows w.real w.seen × T.M.Inv w.seen) ⊎ (R.Halted w.real w.seen × T.M.Inv w.seen) → T.M.Inv w.seen
      inv_of w (inl p) = p.1
      inv_of w (inr p) = p.1

      shows_of : (w : Both R.World T.M.World) → (R.Shows w.real w.seen × T.M.Inv w.seen) ⊎ (R.Halted w.real w.seen × T.M.Inv w.seen) → R.Shows w.real w.seen ⊎ R.Halted w.real w.seen
      shows_of w (inl p) = inl p.0
      shows_of w (inr p) = inr p.0

      begun : (h : ℕ) (call : T.Call) → BeginsSome T R begin h call → (busy : ℕ → Bool) (w : Both R.World T.M.World) (s : R.World) → ((other : ℕ) → busy other ≡ false → R.Base other w.real w.seen R.none × T.M.Idle other w.seen) → busy h ≡ false → T.M.Inv w.seen
          → (b : BeginsBoth T R h call busy w.real s w.seen) → Right (lowered_calls T R handler begin) h call busy w (record { real = s; seen = b.above })
      begun h call can busy w s idle free inv b =
          let r = lawful.calls h call busy w.seen b.above (inl inv) (λ j n. (idle j n).1) free b.begins in
          record {
            inv = λ i. (b.shows i.0, r.inv i.1);
            halted = λ i. (b.halted i.0, r.inv i.1);
            kept = λ other ne c. (b.kept other ne c, r.kept other ne c);
            rests = λ other ne c. (b.rests other c, r.rests other ne c);
            tree = r.tree;
            clean = r.clean;
            none = r.none;
            runs = λ i.
                Wp-weaker (joined T.M R) h (lowered T.M R handler R.none (T.program call)) (Begun T call) (Begun (lowered_calls T R handler begin) call) (AtEnd T.M R h (Ends T h call)) (Ends (lowered_calls T R handler begin) h call) (T.limit call) [] (record { real = s; seen = b.above })
                (λ fs c. c) (λ a fs v c. (c.0.0, (below.idle h v.real v.seen c.2.0 c.1 c.0.1 c.2.1, c.0.1)))
                (lifts h call can (Begun T call) (Ends T h call)
                (λ a fs xs v y o j c. (λ z. inl (lawful.laws.idle_none h v y xs o c.1), ends_last T lawful h call a fs xs v y o c)) (T.limit call) [] (record { real = s; seen = b.above }) (record { shows = i.0; busy = busy; before = w.seen; idle = (idle h free).1; begins = b.begins }) (r.runs i.1) (b.rests h free) i.1);
          }

      right : (h : ℕ) (call : T.Call) → BeginsSome T R begin h call → (busy : ℕ → Bool) (w : Both R.World T.M.World) (s : R.World) → ((other : ℕ) → busy other ≡ false → R.Base other w.real w.seen R.none × T.M.Idle other w.seen) → busy h ≡ false → T.M.Inv w.seen
          → BeginsBoth T R h call busy w.real s w.seen → (g : T.M.World) → g ≡ began_to w.seen (T.start h call busy w.seen) → Right (lowered_calls T R handler begin) h call busy w (record { real = s; seen = g })
      right h call can busy w s idle free inv b g is =
          subst (λ (z : T.M.World). Right (lowered_calls T R handler begin) h call busy w (record { real = s; seen = z })) (sym (is ∙ ap (began_to w.seen) b.begins)) (begun h call can busy w s idle free inv b)

  pub lowered_lawful : AllAtomic T R handler begin → Lawful (lowered_calls T R handler begin)
  lowered_lawful atomic = lifted_lawful (λ h call can B Q lasts n es w from. lift T.M R handler lawful.laws h (atomic h (call, can.0, can.1, can.2, can.3)) (T.program call) R.none B Q lasts n es w tt)

-- Every run below shows a run of the machine above: whole operations one after the other. They lead from what was seen
-- of the first world to what is seen of the last one. Each call's own operations are a run of its program with its
-- reply, or the beginning of a run if the call is under way.
pub refined : (T : Theory) (K : Core T.M) (R : LowerLayer T.M.World) (handler : Handlers T.M R) (begin : Starts T R) (lawful : Lawful T) (below : LowerLaws T.M R) (core : IsCore T K) (starts : StartsBoth T R begin)
    → AllAtomic (operations_of T K) R handler begin
    → (w : Both R.World T.M.World) (events : List (Event T.Call R.Outside)) → R.Shows w.real w.seen → T.M.Inv w.seen → ((h : ℕ) → R.Base h w.real w.seen R.none) → ((h : ℕ) → T.M.Idle h w.seen)
    → AllHonest (lowered_calls (operations_of T K) R handler begin) events (fresh (lowered_calls (operations_of T K) R handler begin) w)
    → IsExplained (lowered_calls (operations_of T K) R handler begin) (K.of w.seen) (run (lowered_calls (operations_of T K) R handler begin) events (fresh (lowered_calls (operations_of T K) R handler begin) w))
refined T K R handler begin lawful below core starts atomic w events shows inv base idle honest =
    explains (lowered_calls (operations_of T K) R handler begin) (lowered_lawful (operations_of T K) R handler begin (operations_lawful T K lawful core) (operations_below T.M K R below) starts_too atomic) w events (shows, inv) (λ h. (base h, idle h)) honest
  where
    starts_too : StartsBoth (operations_of T K) R begin
    starts_too h call busy r s g holds inv idle free e =
        let b = starts h call busy r s g holds inv idle free e in
        record { above = b.above; begins = b.begins; shows = b.shows; halted = b.halted; kept = b.kept; rests = b.rests }

-- The code runs the lowered calls, whichever history is kept beside: its outcomes are those of both.
part_real : (U : Machine) {A R V : Type 0} (of : R → V) (h : ℕ) (m : A → Option (ActOf U)) (g : U.World) (d : ExecResult A R) → exec_result_in of d ≡ exec_result_in (λ (w : Both R U.World). of w.real) (both U h m g d)
part_real U of h m g Waits = refl
part_real U of h m g (Ran a r) = refl
part_real U of h m g (Stops r) = refl

pub is_code_part : (T : Theory) (R : LowerLayer T.M.World) (handler : Handlers T.M R) (begin : Starts T R) (part : Part T R) (Kind : Type 0) (kind : (op : R.Op) → R.Answer op → Kind) → IsPart T R begin part → IsCode (lowered_calls T R handler begin) (code_part T R handler begin part Kind kind)
is_code_part T R handler begin part Kind kind is =
    record {
      goes = λ h x op m w. is.goes h x op w.real ∙ part_real T.M part.of h m w.seen (R.exec h x op w.real);
      may = λ h op w y. is.may h op w.real y;
      honest = λ h op w x y. is.honest h op w.real x y;
      starts = λ h call busy w. is.starts h call busy w.real ∙ same part.of (began_to w.seen (T.start h call busy w.seen)) (begin h call busy w.real);
    }
  where
    same : {Refusal S V G : Type 0} (of : S → V) (g : G) (x : Began Refusal S) → began_in of x ≡ began_in (λ (v : Both S G). of v.real) (began_both g x)
    same of g (Refuses why) = refl
    same of g (Begins r) = refl

pub is_code_below : (T : Theory) (R : LowerLayer T.M.World) (handler : Handlers T.M R) (begin : Starts T R) (Kind : Type 0) (kind : (op : R.Op) → R.Answer op → Kind) → IsCode (lowered_calls T R handler begin) (code_below T R handler begin Kind kind)
is_code_below T R handler begin Kind kind =
    is_code_part T R handler begin (all_below T R begin) Kind kind
    (record { goes = λ h x op w. goes (R.exec h x op w); may = λ h op w y. y; honest = λ h op w x y. y; starts = λ h call busy w. starts (begin h call busy w) })
  where
    goes : {A S : Type 0} (d : ExecResult A S) → d ≡ exec_result_in (λ (w : S). w) d
    goes Waits = refl
    goes (Ran a r) = refl
    goes (Stops r) = refl

    starts : {Refusal S : Type 0} (x : Began Refusal S) → x ≡ began_in (λ (w : S). w) x
    starts (Refuses why) = refl
    starts (Begins r) = refl
