-- The calls of a layer below are right with what is noted of them, if each operation acts with the answer that its
-- program ends with.
use Rattle.run_laws.proofs.Vocabulary.{◌≡◌, ◌⊎◌, inl, inr, ◌+◌, ℕ, Bool, false, Option, Some, None, [], refl, sym, ◌∙◌, ap, subst, arith, Ret, bind, oldest_first, Wp, Theory, Began, Begins, BeginsWhole, Begun, Ends, Lawful, LowerLayer, Both, joined, LowerLaws, Handlers, Lasts, BeginsSome, IsStarted, Uses, Starts, StartsBoth, began_to, lowered_calls, Budget, Affords, AtomicWithin, whole_begins, ends_last, begun_both, Alone, Wp-weaker, Wp-more, Wp-bind, IsFaithful, Notes, stepwise}
use Rattle.run_laws.proofs.Faithful.{PlacesItself, handles, none_noted, stepwise_laws}

-- The same calls, with their notes. Each ends with Some of its reply; so what explains a call by None is of one that is under way.
abbrev pub telling : (L : Theory) → (L.Call → Option L.Reply → Notes L.M → Type 0) → Theory
telling L AreOf =
    record {
      M = stepwise L.M;
      Call = L.Call;
      Reply = Option L.Reply;
      Refusal = L.Refusal;
      start = L.start;
      busy = L.busy;
      program = λ call. bind (L.program call) (λ a. Ret (Some a));
      Written = λ call es r. AreOf call r es;
      WrittenSoFar = BeginsWhole (λ call es r. AreOf call r es);
      limit = L.limit;
    }

module _ (T : Theory) (R : LowerLayer T.M.World) (handler : Handlers T.M R) (begin : Starts T R) (IsOf : (op : T.M.Op) → (T.M.Answer op → Option T.M.Mark) → T.M.Answer op → T.M.Step → Type 0) where
  abbrev L : Theory
  L = lowered_calls T R handler begin

  abbrev pub faithful_calls : Theory
  faithful_calls = telling L (λ call r es. IsFaithful T.M R handler IsOf r R.none (T.program call) es)

  module _ (lawful : Lawful T) (below : LowerLaws T.M R) (starts : StartsBoth T R begin) (lawful_below : Lawful L) (alone : Alone T.M) (clean : (w : T.M.World) → T.M.Clean w) (itself : PlacesItself T.M IsOf)
      (b : Budget T.M) (Has : ℕ → R.World → b.Spent → Type 0) (unspent : b.Spent) (affords : (call : T.Call) → Affords T.M b unspent (T.program call))
      (none_spent : (h : ℕ) (call : T.Call) → BeginsSome T R begin h call → (w : Both R.World T.M.World) → IsStarted T R h call w → R.Base h w.real w.seen R.none → Has h w.real unspent)
      (uses : (h : ℕ) (call : T.Call) → BeginsSome T R begin h call → (w : Both R.World T.M.World) → IsStarted T R h call w → R.Base h w.real w.seen R.none → Uses T.M (AtomicWithin T.M R handler b (Has h) h) (T.program call)) where
    abbrev N : Theory
    N = faithful_calls

    inv_of : (w : Both R.World T.M.World) → (R.Shows w.real w.seen × T.M.Inv w.seen) ⊎ (R.Halted w.real w.seen × T.M.Inv w.seen) → T.M.Inv w.seen
    inv_of w (inl p) = p.1
    inv_of w (inr p) = p.1

    shows_of : (w : Both R.World T.M.World) → (R.Shows w.real w.seen × T.M.Inv w.seen) ⊎ (R.Halted w.real w.seen × T.M.Inv w.seen) → R.Shows w.real w.seen ⊎ R.Halted w.real w.seen
    shows_of w (inl p) = inl p.0
    shows_of w (inr p) = inr p.0

    abbrev begins : T.M.World → Began T.Refusal T.M.World
    begins w = Begins w

    runs : (h : ℕ) (call : T.Call) (busy : ℕ → Bool) (w u : Both R.World T.M.World) → N.M.Inv w ⊎ N.M.Halted w → ((other : ℕ) → busy other ≡ false → N.M.Idle other w) → busy h ≡ false → N.start h call busy w ≡ Begins u → N.M.Inv u
        → Wp N.M h (Begun N call) (Ends N h call) (N.program call) (T.limit call) [] u
    runs h call busy w u holds idle free e i =
        let d = begun_both (began_to w.seen (T.start h call busy w.seen)) (begin h call busy w.real) u e in
        let can : BeginsSome T R begin h call = (busy, w.real, u.real, d.0) in
        let s = starts h call busy w.real u.real w.seen (shows_of w holds) (inv_of w holds) idle free d.0 in
        let is : u.seen ≡ s.above = d.1 ∙ ap (began_to w.seen) s.begins in
        let r = lawful.calls h call busy w.seen s.above (inl (inv_of w holds)) (λ j n. (idle j n).1) free s.begins in
        let from : IsStarted T R h call u = record { shows = i.0; busy = busy; before = w.seen; idle = (idle h free).1; begins = s.begins ∙ ap begins (sym is) } in
        let base : R.Base h u.real u.seen R.none = subst (λ (g : T.M.World). R.Base h u.real g R.none) (sym is) (s.rests h free) in
        ends_told (T.limit call) u
        (handles T.M R handler IsOf alone clean itself lawful.laws below h b (Has h) (T.program call) (Begun T call) (Ends T h call) lasts (λ a es v c. c.1) (T.program call) (uses h call can u from base) unspent (affords call) R.none (T.limit call) [] [] u (none_spent h call can u from base)
        (λ end rest t. t)
        (subst (λ (g : T.M.World). Wp T.M h (Begun T call) (Ends T h call) (T.program call) (T.limit call) [] g) (sym is) (r.runs (subst T.M.Inv is i.1))) base i.1)
      where
        lasts : Lasts T.M h (Begun T call) (Ends T h call)
        lasts a fs xs v y o j c = (λ z. inl (lawful.laws.idle_none h v y xs o c.1), ends_last T lawful h call a fs xs v y o c)

        So_far : Notes (joined T.M R) → Type 0
        So_far fs = IsFaithful T.M R handler IsOf None R.none (T.program call) (oldest_first fs)

        Whole : T.Reply → Notes (joined T.M R) → Both R.World T.M.World → Type 0
        Whole a fs v = IsFaithful T.M R handler IsOf (Some a) R.none (T.program call) (oldest_first fs) × (joined T.M R).Idle h v

        ends_told : (n : ℕ) (v : Both R.World T.M.World) → Wp N.M h So_far Whole (L.program call) n [] v → Wp N.M h (Begun N call) (Ends N h call) (N.program call) n [] v
        ends_told n v g =
            Wp-more N.M h (N.program call) (Begun N call) (Ends N h call) (n + 0) n [] v (omega arith)
            (Wp-bind N.M h (L.program call) (λ a. Ret (Some a)) (Begun N call) (Ends N h call) n 0 [] v
            (Wp-weaker N.M h (L.program call) So_far (Begun N call) Whole (λ a ys y. Ends N h call (Some a) ys y) n [] v (λ ys c. whole_begins N.Written call (oldest_first ys) None c) (λ a ys y c. (λ z. c.0, c.1)) g))

    pub faithful_lawful : Lawful faithful_calls
    faithful_lawful =
        record {
          laws = stepwise_laws L.M lawful_below.laws;
          calls = λ h call busy w u holds idle free e.
              let r = lawful_below.calls h call busy w u holds idle free e in
              record {
                inv = r.inv;
                halted = r.halted;
                kept = λ other ne c. (refl, r.kept other ne c);
                rests = r.rests;
                tree = r.tree;
                clean = r.clean;
                none = λ y. ([], None, none_noted T.M R handler IsOf R.none (T.program call));
                runs = λ i. runs h call busy w u holds idle free e i;
              };
        }
