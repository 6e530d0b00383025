-- A start changes nothing but what it reserves.
use Rattle.run_laws.proofs.Vocabulary.{◌≡◌, ◌≢◌, ◌⊎◌, inl, inr, ℕ, ◌+◌, ◌<◌, ◌≤◌, Bool, true, false, nat_lt, if◌then◌else◌, Option, Some, None, refl, sym, ◌∙◌, ap, arith, nat_tests, Call, Tree, put, descriptor_count, put_is, put_other, Began, Begins, serving, Idle, Refusal, at_rest, begin_call, serving_world, Desk, begun_same, inherit_begins, start_is, serves, served_calls, on_the_way, unreserved, unreserved_desk, Version}
use Rattle.plain_tree.specs.declared.call.Call.TheVariants as calls
use Rattle.inode_machine.specs.World.{World}

not_at : (i k : ℕ) → i < descriptor_count → descriptor_count ≤ k → i ≢ k
not_at i k below above e = absurd (omega (arith, below, above, e))

is_below : (i n : ℕ) → nat_lt i n ≡ true → i < n
is_below i n e = grind (arith, nat_tests)

-- if a call serves a child, no descriptor is on its way yet
none_yet : (child i : ℕ) → on_the_way (serving child None) i ≡ None
none_yet child i = by (nat_lt i descriptor_count) refl
  where
    by : (b : Bool) → nat_lt i descriptor_count ≡ b → (if b then serving child None i else None) ≡ None
    by false e = refl
    by true e =
        let below = is_below i descriptor_count e in
        put_other (put (λ (k : ℕ). None) descriptor_count (Some child)) (descriptor_count + 1) None i (not_at i (descriptor_count + 1) below (omega arith))
        ∙ put_other (λ (k : ℕ). None) descriptor_count (Some child) i (not_at i descriptor_count below (omega arith))

none_at_rest : (i : ℕ) → on_the_way (λ k. None) i ≡ None
none_at_rest i = by (nat_lt i descriptor_count)
  where
    by : (b : Bool) → ◌≡◌ {A = Option ℕ} (if b then None else None) None
    by true = refl
    by false = refl

-- a world at rest has reserved nothing
pub rests_unreserved : (t : Tree) → unreserved (at_rest t) ≡ at_rest t
rests_unreserved t = λ i. record (at_rest t) { desks = λ h. record ((at_rest t).desks h) { lent = λ k. none_at_rest k i } }

module _ (h child : ℕ) (w : World) (apart : child ≢ h) (idle : Idle h w) where
  abbrev server : Desk
  server = record (w.desks h) { lent = serving child None }

  abbrev served : Desk
  served = record (w.desks child) { lender = Some h }

  none_lent : (i : ℕ) → on_the_way (serving child None) i ≡ on_the_way (w.desks h).lent i
  none_lent i = none_yet child i ∙ sym (none_at_rest i) ∙ ap (λ (f : ℕ → Option ℕ). on_the_way f i) (sym idle.lent)

  server_same : unreserved_desk server ≡ unreserved_desk (w.desks h)
  server_same = λ i. record (unreserved_desk (w.desks h)) { lent = λ k. none_lent k i }

  desk_same : (k : ℕ) → unreserved_desk (put (put w.desks h server) child served k) ≡ unreserved_desk (w.desks k)
  desk_same k = at (put_is (put w.desks h server) child served k)
    where
      there : ((k ≡ h) × (put w.desks h server k ≡ server)) ⊎ ((k ≢ h) × (put w.desks h server k ≡ w.desks k)) → unreserved_desk (put w.desks h server k) ≡ unreserved_desk (w.desks k)
      there (inl p) = ap unreserved_desk p.1 ∙ server_same ∙ ap (λ (z : ℕ). unreserved_desk (w.desks z)) (sym p.0)
      there (inr p) = ap unreserved_desk p.1

      at : ((k ≡ child) × (put (put w.desks h server) child served k ≡ served)) ⊎ ((k ≢ child) × (put (put w.desks h server) child served k ≡ put w.desks h server k)) → unreserved_desk (put (put w.desks h server) child served k) ≡ unreserved_desk (w.desks k)
      at (inl p) = ap unreserved_desk p.1 ∙ ap (λ (z : ℕ). unreserved_desk (w.desks z)) (sym p.0)
      at (inr p) = ap unreserved_desk p.1 ∙ there (put_is w.desks h server k)

  serving_same : unreserved (serving_world w h child) ≡ unreserved w
  serving_same = λ i. record (unreserved w) { desks = λ k. desk_same k i }

same_world : (w u : World) → ◌≡◌ {A = Began Refusal World} (Begins w) (Begins u) → unreserved u ≡ unreserved w
same_world w u e = ap unreserved (sym (begun_same w u e))

begins_same : (h : ℕ) (call : Call) (busy : ℕ → Bool) (w u : World) → Idle h w → begin_call h call busy w ≡ Begins u → unreserved u ≡ unreserved w
begins_same h (calls.Open path flags) busy w u idle e = same_world w u e
begins_same h (calls.Read fd buffer) busy w u idle e = same_world w u e
begins_same h (calls.Write fd bytes) busy w u idle e = same_world w u e
begins_same h (calls.Link old new) busy w u idle e = same_world w u e
begins_same h (calls.Unlink path) busy w u idle e = same_world w u e
begins_same h (calls.Mkdir path) busy w u idle e = same_world w u e
begins_same h (calls.Chdir path) busy w u idle e = same_world w u e
begins_same h (calls.Dup fd) busy w u idle e = same_world w u e
begins_same h (calls.Fstat fd) busy w u idle e = same_world w u e
begins_same h (calls.Close fd) busy w u idle e = same_world w u e
begins_same h (calls.Inherit child) busy w u idle e =
    let i = inherit_begins h child busy w u e in
    ap unreserved (sym i.is) ∙ serving_same h child w i.apart idle

pub start_same : (version : Version) (h : ℕ) (call : Call) (busy : ℕ → Bool) (w u : World) → Idle h w → (served_calls version).start h call busy w ≡ Begins u
    → unreserved u ≡ unreserved w
start_same version h call busy w u idle e = begins_same h call busy w u idle (start_is serves h call busy w u e).begins
