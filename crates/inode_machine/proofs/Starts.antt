-- What a start finds that isn't refused: the hart is one, no hart serves it, and the call may begin.
use Rattle.inode_machine.proofs.Vocabulary.{◌≡◌, ◌≢◌, ℕ, ◌<◌, Bool, true, false, ◌&&◌, ◌==◌, not, nat_lt, Option, Some, None, refl, sym, ◌∙◌, ap, subst, arith, nat_tests, Began, Begins, Call, hart_count, descriptor_count, put, and_true, any_none, eq_isnt, put_same, put_other, Desk, World, stage_of, is_nothing, serving, begin_call, begin_inherit, has_descriptor, only_if, serving_world, begin_if, Refusal}
use Rattle.plain_tree.specs.declared.call.Call.TheVariants as calls

pub begun_same : (w u : World) → ◌≡◌ {A = Began Refusal World} (Begins w) (Begins u) → w ≡ u
begun_same w u e = cc

only_begins : (b : Bool) (why : Refusal) (x : Began Refusal World) (u : World) → only_if b why x ≡ Begins u → (b ≡ true) × (x ≡ Begins u)
only_begins true why x u e = (refl, e)
only_begins false why x u e = absurd cc

below : (h : ℕ) → nat_lt h hart_count ≡ true → h < hart_count
below h e = grind (arith, nat_tests)

unlent : (o : Option ℕ) → is_nothing o ≡ true → o ≡ None
unlent None e = refl
unlent (Some g) e = absurd cc

-- An inherit that begins.
pub record Inherits (h child : ℕ) (busy : ℕ → Bool) (w u : World) : Type 0 where
  pub below : child < hart_count
  pub apart : child ≢ h
  pub free : busy child ≡ false
  pub unlent : (w.desks child).lender ≡ None
  pub empty : (i : ℕ) → i < descriptor_count → (w.desks child).fds i ≡ None
  pub is : serving_world w h child ≡ u

pub inherit_begins : (h child : ℕ) (busy : ℕ → Bool) (w u : World) → begin_inherit h child busy w ≡ Begins u → Inherits h child busy w u
inherit_begins h child busy w u e =
    let a = only_begins (nat_lt child hart_count) _ _ u e in
    let b = only_begins (not (child == h) && (not (busy child) && is_nothing (w.desks child).lender)) _ _ u a.1 in
    let c = only_begins (not (has_descriptor (w.desks child))) _ _ u b.1 in
    let d = and_true (not (child == h)) (not (busy child) && is_nothing (w.desks child).lender) b.0 in
    let f = and_true (not (busy child)) (is_nothing (w.desks child).lender) d.1 in
    record {
      below = below child a.0;
      apart = eq_isnt child h (not_false (child == h) d.0);
      free = not_false (busy child) f.0;
      unlent = unlent (w.desks child).lender f.1;
      empty = λ i li. nothing_is ((w.desks child).fds i) (any_none descriptor_count (λ i. not (is_nothing ((w.desks child).fds i))) (not_false (has_descriptor (w.desks child)) c.0) i li);
      is = begun_same (serving_world w h child) u c.1;
    }
  where
    not_false : (b : Bool) → not b ≡ true → b ≡ false
    not_false true e = absurd cc
    not_false false e = refl

    nothing_is : (o : Option ℕ) → not (is_nothing o) ≡ false → o ≡ None
    nothing_is None e = refl
    nothing_is (Some k) e = absurd cc

-- the start leaves the tree, the walks, and who serves the hart
record Leaves (h : ℕ) (w u : World) : Type 0 where
  pub stage : stage_of u ≡ stage_of w
  pub lender : (u.desks h).lender ≡ (w.desks h).lender

leaves_same : (h : ℕ) (w u : World) → ◌≡◌ {A = Began Refusal World} (Begins w) (Begins u) → Leaves h w u
leaves_same h w u e = subst (λ (x : World). Leaves h w x) (begun_same w u e) (record { stage = refl; lender = refl })

begins_leaves : (h : ℕ) (call : Call) (busy : ℕ → Bool) (w u : World) → begin_call h call busy w ≡ Begins u → Leaves h w u
begins_leaves h (calls.Open path flags) busy w u e = leaves_same h w u e
begins_leaves h (calls.Read fd buffer) busy w u e = leaves_same h w u e
begins_leaves h (calls.Write fd bytes) busy w u e = leaves_same h w u e
begins_leaves h (calls.Link old new) busy w u e = leaves_same h w u e
begins_leaves h (calls.Unlink path) busy w u e = leaves_same h w u e
begins_leaves h (calls.Mkdir path) busy w u e = leaves_same h w u e
begins_leaves h (calls.Chdir path) busy w u e = leaves_same h w u e
begins_leaves h (calls.Dup fd) busy w u e = leaves_same h w u e
begins_leaves h (calls.Fstat fd) busy w u e = leaves_same h w u e
begins_leaves h (calls.Close fd) busy w u e = leaves_same h w u e
begins_leaves h (calls.Inherit child) busy w u e =
    let i = inherit_begins h child busy w u e in
    subst (λ (x : World). Leaves h w x) i.is (record {
      stage = refl;
      lender = ap (λ (d : Desk). d.lender) (put_other (put w.desks h (record (w.desks h) { lent = serving child None })) child (record (w.desks child) { lender = Some h }) h (λ q. i.apart (sym q)) ∙ put_same w.desks h (record (w.desks h) { lent = serving child None }));
    })

-- a start that isn't refused
pub record Starts (kind : Call → Bool) (h : ℕ) (call : Call) (busy : ℕ → Bool) (w u : World) : Type 0 where
  pub hart : h < hart_count
  pub unlent : (w.desks h).lender ≡ None
  pub covered : kind call ≡ true
  pub begins : begin_call h call busy w ≡ Begins u
  pub stage : stage_of u ≡ stage_of w
  pub free : (u.desks h).lender ≡ None

pub start_is : (kind : Call → Bool) (h : ℕ) (call : Call) (busy : ℕ → Bool) (w u : World) → begin_if (kind call) h call busy w ≡ Begins u → Starts kind h call busy w u
start_is kind h call busy w u e =
    let a = only_begins (nat_lt h hart_count) _ _ u e in
    let b = only_begins (is_nothing (w.desks h).lender) _ _ u a.1 in
    let c = only_begins (kind call) _ _ u b.1 in
    let l = begins_leaves h call busy w u c.1 in
    record { hart = below h a.0; unlent = unlent (w.desks h).lender b.0; covered = c.0; begins = c.1; stage = l.stage; free = l.lender ∙ unlent (w.desks h).lender b.0 }
