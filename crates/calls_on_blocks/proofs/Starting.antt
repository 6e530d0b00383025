-- A start below begins above too, and what an inherit reserves is reserved in both.
use Rattle.calls_on_blocks.proofs.Vocabulary.{◌≡◌, ◌≢◌, ◌⊎◌, inl, inr, ◌<◌, ◌==◌, ◌||◌, ◌&&◌, ℕ, Bool, true, false, not, nat_lt, if◌then◌else◌, Option, Some, None, refl, sym, ◌∙◌, ap, subst, arith, nat_tests, Super, Call, put, hart_count, eq_isnt, or_none, same_or, or_else, Begins, LowerLaws, BeginsBoth, StartsBoth, is_nothing, full, Idle, Inv, machine, Refusal, NoSuchHart, Busy, NotEmptyHart, NotCovered, begin_call, begin_if, begin_inherit, has_descriptor, call_wrong, serving_world, why_not, started_rests, begun_same, inherit_begins, loaded, tables_of, nothing, below_laws, SharedState, World, Reserves, layer, shared_of, serves, served_calls, fault_of, refusal_for, child_of, reserved, has_file, child_refusal, others_refusal, start_refusal, begun_by, if_hart, begin_in, begins}
use Rattle.plain_tree.specs.declared.call.Call.TheVariants as calls
use Rattle.inode_machine.specs.World as above
use Rattle.inode_machine.specs.Theory as theory
use Rattle.inodes_on_blocks.specs.ShownTables as tables
use Rattle.calls_on_blocks.proofs.Beside.{laws_beside}
use Rattle.calls_on_blocks.proofs.Operations.{history, keeps}
use Rattle.calls_on_blocks.proofs.Reserving.{part, blocks_reserved, stopped_reserved, lender_other, other_children, child_reserved, unreserved, has_none}

-- A start that begins its call, and leaves what it should. The hart is one, no call under way reserves it, the call
-- is served, and the others let it begin.
pub record BeginsHere {S : Type 0} (h : ℕ) (call : Call) (busy : ℕ → Bool) (s : SharedState) (t u : S) : Type 0 where
  pub hart : nat_lt h hart_count ≡ true
  pub free : reserved busy s.children h ≡ false
  pub serves_it : serves call ≡ true
  pub others : others_refusal h call busy s ≡ None
  pub same : t ≡ u

begun_is : {S : Type 0} (t u : S) (o : Option Refusal) → begun_by t o ≡ Begins u → (o ≡ None) × (t ≡ u)
begun_is t u None e = (refl, cc)
begun_is t u (Some why) e = absurd cc

neither : (a b : Option Refusal) → or_else a b ≡ None → (a ≡ None) × (b ≡ None)
neither None b e = (refl, e)
neither (Some why) b e = absurd cc

not_busy : (b : Bool) → (if b then Some Busy else None) ≡ None → b ≡ false
not_busy true e = absurd cc
not_busy false e = refl

-- nothing is wrong with it
serves_then : (f : Option Refusal) (b : Bool) → or_else f (if b then None else Some NotCovered) ≡ None → b ≡ true
serves_then None true e = refl
serves_then None false e = absurd cc
serves_then (Some why) b e = absurd cc

pub begun_here : {S : Type 0} (h : ℕ) (call : Call) (busy : ℕ → Bool) (s : SharedState) (t u : S) → begin_in h call busy s t ≡ Begins u → BeginsHere h call busy s t u
begun_here {S} h call busy s t u e = by (nat_lt h hart_count) refl e
  where
    by : (b : Bool) → nat_lt h hart_count ≡ b → if_hart b (begun_by t (start_refusal h call busy s)) ≡ Begins u → BeginsHere h call busy s t u
    by true q e =
        let a = begun_is t u (start_refusal h call busy s) e in
        let n = neither (if reserved busy s.children h then Some Busy else None) (or_else (refusal_for call) (others_refusal h call busy s)) a.0 in
        let m = neither (refusal_for call) (others_refusal h call busy s) n.1 in
        record { hart = q; free = not_busy (reserved busy s.children h) n.0; serves_it = serves_then (fault_of call) (serves call) m.0; others = m.1; same = a.1 }
    by false q e = absurd cc

pub below_count : (h : ℕ) → nat_lt h hart_count ≡ true → h < hart_count
below_count h e = grind (arith, nat_tests)

-- A hart that may be the child.
record MayServe (h child : ℕ) (busy : ℕ → Bool) (s : SharedState) : Type 0 where
  pub below : nat_lt child hart_count ≡ true
  pub apart : (child == h) ≡ false
  pub idle : busy child ≡ false
  pub free : reserved busy s.children child ≡ false
  pub empty : has_file child s.state.tables ≡ false

may_serve : (h child : ℕ) (busy : ℕ → Bool) (s : SharedState) → child_refusal h child busy s ≡ None → MayServe h child busy s
may_serve h child busy s e = by (nat_lt child hart_count) ((child == h) || (busy child || reserved busy s.children child)) (has_file child s.state.tables) refl refl refl e
  where
    by : (below taken full : Bool) → nat_lt child hart_count ≡ below → ((child == h) || (busy child || reserved busy s.children child)) ≡ taken → has_file child s.state.tables ≡ full
        → (if below then (if taken then Some Busy else (if full then Some NotEmptyHart else None)) else Some NoSuchHart) ≡ None → MayServe h child busy s
    by true false false q r t e =
        let a = or_none (child == h) (busy child || reserved busy s.children child) r in
        let b = or_none (busy child) (reserved busy s.children child) a.1 in
        record { below = q; apart = a.0; idle = b.0; free = b.1; empty = t }
    by true false true q r t e = absurd cc
    by true true full q r t e = absurd cc
    by false taken full q r t e = absurd cc

pub lower_laws : (sizes : Super) → LowerLaws (machine sizes.version) (layer sizes)
lower_laws sizes = laws_beside sizes (below_laws sizes (history sizes.version) (keeps sizes.version))

-- if the call itself begins above
start_begins : (h : ℕ) (call : Call) (busy : ℕ → Bool) (g u : above.World) → nat_lt h hart_count ≡ true → (g.desks h).lender ≡ None → serves call ≡ true → begin_call h call busy g ≡ Begins u → begin_if (serves call) h call busy g ≡ Begins u
start_begins h call busy g u hart free here begins =
    λ i. theory.only_if (hart i) NoSuchHart (theory.only_if (is_nothing (free i)) Busy (theory.only_if (here i) (why_not (call_wrong call)) (begins i)))

module _ (sizes : Super) (h : ℕ) (busy : ℕ → Bool) (r : World) (g : above.World) (holds : (layer sizes).Shows r g ⊎ (layer sizes).Halted r g) (inv : Inv g) (idle : (other : ℕ) → busy other ≡ false → (layer sizes).Base other r g nothing × Idle other g) (free : busy h ≡ false) where
  reserves : Reserves r.children g
  reserves = elim holds [ inl x ↦ x.1 | inr x ↦ x.1 ]

  tables_show : tables.Shows (tables_of r.blocks) g (loaded (tables_of r.blocks))
  tables_show = elim holds [ inl x ↦ x.0.tables | inr x ↦ x.0.tables ]

  rests_above : (other : ℕ) → busy other ≡ false → Idle other g
  rests_above other e = (idle other e).1

  unlent_at : (k : ℕ) → nat_lt k hart_count ≡ true → reserved busy r.children k ≡ false → (g.desks k).lender ≡ None
  unlent_at k below none = unreserved k busy r.children g (below_count k below) inv rests_above reserves none

  abbrev after : Call → World
  after call = record r { children = put r.children h (child_of call) }

  -- a call that reserves nobody
  begins_alone : (call : Call) → BeginsHere h call busy (shared_of r) (after call) (after call) → begin_call h call busy g ≡ Begins g → BeginsBoth (served_calls sizes.version) (layer sizes) h call busy r (after call) g
  begins_alone call b begins = record {
    above = g;
    begins = start_begins h call busy g g b.hart (unlent_at h b.hart b.free) b.serves_it begins;
    shows = λ x. (x.0, other_children h (child_of call) r.children g inv (rests_above h free) x.1);
    halted = λ x. (x.0, other_children h (child_of call) r.children g inv (rests_above h free) x.1);
    kept = λ other ne c. (lower_laws sizes).same other r;
    rests = λ other c. (idle other c).0;
  }

  -- inherit reserves its child
  begins_with : (child : ℕ) → BeginsHere h (calls.Inherit child) busy (shared_of r) (after (calls.Inherit child)) (after (calls.Inherit child)) → BeginsBoth (served_calls sizes.version) (layer sizes) h (calls.Inherit child) busy r (after (calls.Inherit child)) g
  begins_with child b = record {
    above = serving_world g h child;
    begins = start_begins h (calls.Inherit child) busy g (serving_world g h child) b.hart unlent b.serves_it begins;
    shows = λ x. (blocks_reserved h child g lt apart (rests_above h free) his_unlent r.blocks x.0, children_then x.1);
    halted = λ x. (stopped_reserved h child g lt apart (rests_above h free) his_unlent r.blocks x.0, children_then x.1);
    kept = λ other ne c. (lower_laws sizes).same other r;
    rests = rests;
  }
    where
      m : MayServe h child busy (shared_of r)
      m = may_serve h child busy (shared_of r) b.others

      lt : h < hart_count
      lt = below_count h b.hart

      unlent : (g.desks h).lender ≡ None
      unlent = unlent_at h b.hart b.free

      apart : child ≢ h
      apart = eq_isnt child h m.apart

      his_unlent : (g.desks child).lender ≡ None
      his_unlent = unlent_at child m.below m.free

      empty : has_descriptor (g.desks child) ≡ false
      empty = has_none child (tables_of r.blocks) g (loaded (tables_of r.blocks)) tables_show inv (below_count child m.below) his_unlent m.empty

      begins : begin_inherit h child busy g ≡ Begins (serving_world g h child)
      begins = λ i.
          theory.only_if (m.below i) NoSuchHart
          (theory.only_if (not (m.apart i) && (not (m.idle i) && is_nothing (his_unlent i))) Busy (theory.only_if (not (empty i)) NotEmptyHart (Begins (serving_world g h child))))

      children_then : Reserves r.children g → Reserves (put r.children h (Some child)) (serving_world g h child)
      children_then = child_reserved h child r.children g lt apart his_unlent inv (rests_above h free)

      rests : (other : ℕ) → busy other ≡ false → (layer sizes).Base other (after (calls.Inherit child)) (serving_world g h child) nothing
      rests other c =
          let old = (idle other c).0 in (
            record {
              free = old.0.free;
              taken = old.0.taken;
              through = old.0.through;
              inodes = λ i e. absurd ((old.0.inodes i e).loaded_is);
              lent = λ ne. elim (same_or other h) [
                | inl q ↦ absurd (ne (ap (λ (z : ℕ). ((serving_world g h child).desks z).lender) q ∙ lender_other h child g lt apart (rests_above h free) his_unlent h (λ e. apart (sym e)) ∙ unlent))
                | inr nh ↦ started_rests h child g lt (below_count child m.below) apart (rests_above h free) (rests_above child m.idle) unlent his_unlent other nh (rests_above other c)
              ];
            },
            old.1,
          )

  begins_both : (call : Call) → BeginsHere h call busy (shared_of r) (after call) (after call) → BeginsBoth (served_calls sizes.version) (layer sizes) h call busy r (after call) g
  begins_both (calls.Dup fd) b = begins_alone (calls.Dup fd) b refl
  begins_both (calls.Fstat fd) b = begins_alone (calls.Fstat fd) b refl
  begins_both (calls.Open path flags) b = begins_alone (calls.Open path flags) b refl
  begins_both (calls.Read fd buffer) b = begins_alone (calls.Read fd buffer) b refl
  begins_both (calls.Write fd bytes) b = begins_alone (calls.Write fd bytes) b refl
  begins_both (calls.Link old new) b = begins_alone (calls.Link old new) b refl
  begins_both (calls.Unlink path) b = begins_alone (calls.Unlink path) b refl
  begins_both (calls.Mkdir path) b = begins_alone (calls.Mkdir path) b refl
  begins_both (calls.Chdir path) b = begins_alone (calls.Chdir path) b refl
  begins_both (calls.Close fd) b = begins_alone (calls.Close fd) b refl
  begins_both (calls.Inherit child) b = begins_with child b

pub starts_both : (sizes : Super) → StartsBoth (served_calls sizes.version) (layer sizes) (begins sizes)
starts_both sizes h call busy r s g holds inv idle free e =
    let t : World = record r { children = put r.children h (child_of call) } in
    let b = begun_here h call busy (shared_of r) t s e in
    subst (λ (z : World). BeginsBoth (served_calls sizes.version) (layer sizes) h call busy r z g) b.same
    (begins_both sizes h busy r g holds inv idle free call (record { hart = b.hart; free = b.free; serves_it = b.serves_it; others = b.others; same = refl }))

-- a start joins nothing
pub joined_same : (h : ℕ) (call : Call) (busy : ℕ → Bool) (g u : above.World) → h < hart_count → Idle h g → begin_call h call busy g ≡ Begins u → (u.desks h).joined ≡ (g.desks h).joined
joined_same h (calls.Dup fd) busy g u lt idle e = ap (λ (z : above.World). (z.desks h).joined) (sym (begun_same g u e))
joined_same h (calls.Fstat fd) busy g u lt idle e = ap (λ (z : above.World). (z.desks h).joined) (sym (begun_same g u e))
joined_same h (calls.Open path flags) busy g u lt idle e = ap (λ (z : above.World). (z.desks h).joined) (sym (begun_same g u e))
joined_same h (calls.Read fd buffer) busy g u lt idle e = ap (λ (z : above.World). (z.desks h).joined) (sym (begun_same g u e))
joined_same h (calls.Write fd bytes) busy g u lt idle e = ap (λ (z : above.World). (z.desks h).joined) (sym (begun_same g u e))
joined_same h (calls.Link old new) busy g u lt idle e = ap (λ (z : above.World). (z.desks h).joined) (sym (begun_same g u e))
joined_same h (calls.Unlink path) busy g u lt idle e = ap (λ (z : above.World). (z.desks h).joined) (sym (begun_same g u e))
joined_same h (calls.Mkdir path) busy g u lt idle e = ap (λ (z : above.World). (z.desks h).joined) (sym (begun_same g u e))
joined_same h (calls.Chdir path) busy g u lt idle e = ap (λ (z : above.World). (z.desks h).joined) (sym (begun_same g u e))
joined_same h (calls.Close fd) busy g u lt idle e = ap (λ (z : above.World). (z.desks h).joined) (sym (begun_same g u e))
joined_same h (calls.Inherit child) busy g u lt idle e =
    let i = inherit_begins h child busy g u e in
    ap (λ (z : above.World). (z.desks h).joined) (sym i.is) ∙ part h child g lt i.apart idle i.unlent (λ d. d.joined) h refl refl
