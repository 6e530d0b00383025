-- A call that is answered that there is no room has made an operation that wanted it.
use Rattle.run_laws.proofs.Vocabulary.{◌≡◌, inl, inr, ℕ, Bool, true, false, nat_eq, if◌then◌else◌, List, [], ◌∷◌, ◌++◌, Some, refl, sym, Option, ap, subst, eqb-true, Super, sizes_of, Reply, PlacedStep, fresh, run, Chain, In, steps_of, first_world, first, trace_in, WorldOf, TracedCall, All, All-cons, All-head, All-nil, All-tail, CallsFindNoneWhereThereIsNone, IsAnsweredRightly, RefinesWholeInodes, operations_made, operations_of, IsRun, RunsTo, wanted, IsStep, Operation, lowered_inode_calls, unreserved}
use Rattle.inode_machine.specs.World as above
use Rattle.run_laws.proofs.Wants.{step_wants}
use Rattle.run_laws.proofs.Worlds.{worlds_refine}

module _ (sizes : Super) where
  -- the place of a call's operation among all
  record Stands (call : ℕ) (x : Operation) (es : List (PlacedStep (lowered_inode_calls sizes))) : Type 0 where
    operation : PlacedStep (lowered_inode_calls sizes)
    before : List (PlacedStep (lowered_inode_calls sizes))
    after : List (PlacedStep (lowered_inode_calls sizes))
    is : es ≡ before ++ operation ∷ after
    own : operation.call ≡ call
    step : operation.step ≡ x

  stands : (call : ℕ) (x : Operation) (es : List (PlacedStep (lowered_inode_calls sizes)))
      → In x (steps_of (lowered_inode_calls sizes) call es) → Stands call x es
  stands call x [] i = absurd i
  stands call x (e ∷ es) i = at (nat_eq e.call call) refl i (λ j. stands call x es j)
    where
      later : Stands call x es → Stands call x (e ∷ es)
      later s = record {
        operation = s.operation;
        before = e ∷ s.before;
        after = s.after;
        is = ap (λ (z : List (PlacedStep (lowered_inode_calls sizes))). e ∷ z) s.is;
        own = s.own;
        step = s.step;
      }

      at : (b : Bool) → nat_eq e.call call ≡ b
          → In x (if b then e.step ∷ steps_of (lowered_inode_calls sizes) call es else steps_of (lowered_inode_calls sizes) call es)
          → (In x (steps_of (lowered_inode_calls sizes) call es) → Stands call x es) → Stands call x (e ∷ es)
      at true own (inl q) rest = record { operation = e; before = []; after = es; is = refl; own = eqb-true e.call call own; step = sym q }
      at true own (inr j) rest = later (rest j)
      at false own j rest = later (rest j)

  -- the world in which it is made
  reached : (t u : above.World) (es before after : List (PlacedStep (lowered_inode_calls sizes)))
      (e : PlacedStep (lowered_inode_calls sizes))
      → es ≡ before ++ e ∷ after → Chain (lowered_inode_calls sizes) t es u
      → (w : above.World) × Chain (lowered_inode_calls sizes) t before w × (v : above.World) × IsStep sizes.version w e.hart e.step v
  reached t u es before after e is c =
      at t before (subst (λ (z : List (PlacedStep (lowered_inode_calls sizes))). Chain (lowered_inode_calls sizes) t z u) is c)
    where
      at : (t : above.World) (before : List (PlacedStep (lowered_inode_calls sizes)))
          → Chain (lowered_inode_calls sizes) t (before ++ e ∷ after) u
          → (w : above.World) × Chain (lowered_inode_calls sizes) t before w × (v : above.World) × IsStep sizes.version w e.hart e.step v
      at t [] c = (t, refl, c.0, c.1)
      at t (x ∷ xs) c = let r = at c.0 xs c.2 in (r.0, (c.0, c.1, r.1), r.2, r.3)

pub both_of : {A : Type 0} (Is Has : A → Type 0) (xs : List A) → ((x : A) → Is x → Has x) → All Is xs → All Has xs
both_of Is Has [] f a = All-nil Has
both_of Is Has (x ∷ xs) f a = All-cons Has x xs (f x (All-head Is x xs a)) (both_of Is Has xs f (All-tail Is x xs a))

pub found_none : {D : Type 0} (contents : D → List (List ℕ)) (failures : D → ℕ) (w : WorldOf D)
    → CallsFindNoneWhereThereIsNone contents failures w
found_none contents failures w device events came new history mounted is =
    both_of (IsRun disk count history) (IsAnsweredRightly disk count history) (trace_in events came).calls each refines.1
  where
    disk : List (List ℕ)
    disk = contents w.harts.core.log.cache.device

    count : ℕ
    count = failures w.harts.core.log.cache.device

    refines : RefinesWholeInodes disk count history × All (IsRun disk count history) (trace_in events came).calls
    refines = worlds_refine contents failures w device events came new history mounted is

    each : (c : TracedCall) → IsRun disk count history c → IsAnsweredRightly disk count history c
    each c runs number reply room ends full =
        let sizes : Super = sizes_of disk in
        let s = run (lowered_inode_calls (sizes_of disk)) history (fresh (lowered_inode_calls (sizes_of disk)) (first disk count)) in
        let g = subst (λ (o : Option (ℕ × Reply)). RunsTo sizes.version c.call (operations_of sizes s c.start) o) ends runs in
        let x = g.wants room full in
        let t = stands sizes c.start x.0 (operations_made sizes s) x.1 in
        let r = reached sizes (first_world disk) (unreserved s.world.seen) (operations_made sizes s) t.before t.after t.operation
        t.is refines.0.runs.leads in
        let want = subst (λ (z : Operation). wanted z.op z.answer ≡ Some room) (sym t.step) x.2 in
        record {
          operation = t.operation;
          before = t.before;
          after = t.after;
          made = t.is;
          own = t.own;
          wants = want;
          world = r.0;
          leads = r.1;
          none = step_wants sizes.version r.0 r.2 t.operation.hart t.operation.step r.3 room want;
        }
