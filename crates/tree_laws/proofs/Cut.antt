-- The entries up to a moment are the list as it was then.
use Rattle.image_versions.specs.declared.version.Version.{Version}
use Rattle.tree_laws.proofs.Vocabulary.{◌≡◌, ℕ, zero, suc, ◌+◌, ◌<◌, ◌≤◌, true, false, refl, sym, ◌∙◌, ap, subst, arith, List, [], ◌∷◌, ◌++◌, append_assoc, append-nil, length, inl, inr, Option, Some, None, nat_lt, nat_tests, Reply, Trace, Placed, hart_count, Tree, noted, Shown, Started, Replied, Other, Deed, Stage, HartStanding, History, writes, writes_any, tells_any, entry_of, Free, Busy, World, Event, lost_of, unless, falls, all_fall, moves_on, finishes, Happens, Runs, opened, shown_of, Starts, Steps, Nothing, before}
use Rattle.tree_laws.proofs.Basics.{either, AllBelow, below_later}
use Rattle.tree_laws.proofs.History.{tells_list, falls_trace, own_trace, happens_trace}

unfoldable pub AllFrom : ℕ → List Placed → Type 0
AllFrom n [] = Unit {0}
AllFrom n (e ∷ es) = (n ≤ e.event) × AllFrom n es

pub record Grew (n : ℕ) (old new : List Placed) : Type 0 where
  pub more : List Placed
  pub is : new ≡ old ++ more
  pub later : AllFrom n more

from_append : (n : ℕ) (xs ys : List Placed) → AllFrom n xs → AllFrom n ys → AllFrom n (xs ++ ys)
unfolding AllFrom
from_append n [] ys a b = b
from_append n (x ∷ xs) ys a b = (a.0, from_append n xs ys a.1 b)

from_less : (n k : ℕ) (xs : List Placed) → n ≤ k → AllFrom k xs → AllFrom n xs
unfolding AllFrom
from_less n k [] le a = tt
from_less n k (x ∷ xs) le a = (omega (arith, a.0), from_less n k xs le a.1)

from_nil : (n : ℕ) → AllFrom n []
unfolding AllFrom
from_nil n = tt

from_one : (n : ℕ) (e : Placed) → e.event ≡ n → AllFrom n (e ∷ [])
unfolding AllFrom
from_one n e is = (omega (arith, is), tt)

grew_same : (n : ℕ) (xs : List Placed) → Grew n xs xs
grew_same n xs = record { more = []; is = sym (append-nil xs); later = from_nil n }

grew_on : (n k : ℕ) (a b c : List Placed) → n ≤ k → Grew n a b → Grew k b c → Grew n a c
grew_on n k a b c le p q = record { more = p.more ++ q.more; is = q.is ∙ (ap (λ (z : List Placed). z ++ q.more) p.is ∙ append_assoc a p.more q.more); later = from_append n p.more q.more p.later (from_less n k q.more le q.later) }

writes_grew : (a : Option Deed) (b : History) (h : ℕ) → Grew b.trace.events b.list (writes_any a h b).list
writes_grew None b h = grew_same b.trace.events b.list
writes_grew (Some d) b h = at (b.calls h)
  where
    at : (s : HartStanding) → Grew b.trace.events b.list (writes s b h d).list
    at Free = grew_same b.trace.events b.list
    at (Busy id c x) = record { more = entry_of b.trace.events id h d ∷ []; is = refl; later = from_one b.trace.events (entry_of b.trace.events id h d) refl }

falls_grew : (m m' : Stage) (n : ℕ) (b : History) → Grew b.trace.events b.list (all_fall m m' n b).list
unfolding all_fall
falls_grew m m' zero b = grew_same b.trace.events b.list
falls_grew m m' (suc n) b =
    let now : (all_fall m m' n b).trace.events ≡ b.trace.events = ap (λ (z : Trace). z.events) (falls_trace m m' n b) in
    grew_on b.trace.events (all_fall m m' n b).trace.events b.list (all_fall m m' n b).list _ (omega (arith, now)) (falls_grew m m' n b) (writes_grew (falls m m' n) (all_fall m m' n b) n)

moves_grew : (m m' : Stage) (h : ℕ) (a : Option Deed) (b : History) → Grew b.trace.events b.list (moves_on m m' h a b).list
moves_grew m m' h a b =
    let b1 : History = writes_any (unless (lost_of m h) a) h b in
    let b2 : History = tells_any a h b1 in
    let now : b2.trace.events ≡ b.trace.events = ap (λ (z : Trace). z.events) (own_trace m h a b) in
    grew_on b.trace.events b2.trace.events b.list b2.list (moves_on m m' h a b).list (omega (arith, now)) (subst (λ (z : List Placed). Grew b.trace.events b.list z) (sym (tells_list a h b1)) (writes_grew (unless (lost_of m h) a) b h)) (falls_grew m m' hart_count b2)

pub finish_list : (r : Option Reply) (b : History) (h : ℕ) → (finishes r h b).list ≡ b.list
finish_list None b h = refl
finish_list (Some r) b h = refl

pub noted_events : (t : Trace) (s : Shown) → (noted t s).events ≡ t.events + 1
noted_events t (Started h c) = refl
noted_events t (Replied h r) = refl
noted_events t Other = refl

happens_now : (version : Version) (w w' : World) (e : Event) → Happens version w e w' → w'.history.trace.events ≡ w.history.trace.events + 1
happens_now version w w' e o = ap (λ (z : Trace). z.events) (happens_trace version w w' e o) ∙ noted_events w.history.trace (shown_of e)

-- one event
event_grew : (version : Version) (w w' : World) (e : Event) → Happens version w e w' → Grew w.history.trace.events w.history.list w'.history.list
event_grew version w w' Nothing o = subst (λ (z : World). Grew w.history.trace.events w.history.list z.history.list) (sym o) (grew_same w.history.trace.events w.history.list)
event_grew version w w' (Starts h c) o = subst (λ (z : World). Grew w.history.trace.events w.history.list z.history.list) (sym o.world) (grew_same w.history.trace.events w.history.list)
event_grew version w w' (Steps h v r) o =
    subst (λ (z : World). Grew w.history.trace.events w.history.list z.history.list) (sym o.world)
    (subst (λ (z : List Placed). Grew w.history.trace.events w.history.list z) (sym (finish_list r (moves_on w.stage o.stage h o.told w.history) h)) (moves_grew w.stage o.stage h o.told w.history))

-- The list at a moment begins the list at the end; the rest has numbers from that moment on.
pub run_grew : (version : Version) (w w' : World) (es : List Event) → Runs version w es w' → Grew w.history.trace.events w.history.list w'.history.list
unfolding Runs
run_grew version w w' [] r = subst (λ (z : World). Grew w.history.trace.events w.history.list z.history.list) r (grew_same w.history.trace.events w.history.list)
run_grew version w w' (e ∷ es) r =
    let one = event_grew version w r.0 e r.1 in
    let now = happens_now version w r.0 e r.1 in
    grew_on w.history.trace.events r.0.history.trace.events w.history.list r.0.history.list w'.history.list (omega (arith, now)) one (run_grew version r.0 w' es r.2)

run_now : (version : Version) (w w' : World) (es : List Event) → Runs version w es w' → w'.history.trace.events ≡ w.history.trace.events + length es
unfolding Runs
run_now version w w' [] r = let e : w.history.trace.events ≡ w'.history.trace.events = ap (λ (z : World). z.history.trace.events) r in omega (arith, e)
run_now version w w' (e ∷ es) r = let one = happens_now version w r.0 e r.1 in let ih = run_now version r.0 w' es r.2 in omega (arith, one, ih)

below_append : (n : ℕ) (xs ys : List Placed) → AllBelow n xs → AllBelow n ys → AllBelow n (xs ++ ys)
unfolding AllBelow
below_append n [] ys a b = b
below_append n (x ∷ xs) ys a b = (a.0, below_append n xs ys a.1 b)

-- all entries of an event have its number
from_below : (n : ℕ) (xs : List Placed) → AllFrom n xs → AllBelow n xs → xs ≡ []
unfolding AllFrom AllBelow
from_below n [] a b = refl
from_below n (x ∷ xs) a b = absurd (let p = a.0 in let q = b.0 in omega (arith, p, q))

before_all : (n : ℕ) (xs : List Placed) → AllBelow n xs → before n xs ≡ xs
unfolding AllBelow
before_all n [] b = refl
before_all n (x ∷ xs) b = let t : nat_lt x.event n ≡ true = yes' x.event n b.0 in rw (t, before_all n xs b.1) refl
  where
    yes' : (a c : ℕ) → a < c → nat_lt a c ≡ true
    yes' a c h = grind (arith, nat_tests)

before_none : (n : ℕ) (xs : List Placed) → AllFrom n xs → before n xs ≡ []
unfolding AllFrom
before_none n [] b = refl
before_none n (x ∷ xs) b = let t : nat_lt x.event n ≡ false = no' x.event n b.0 in rw (t, before_none n xs b.1) refl
  where
    no' : (a c : ℕ) → c ≤ a → nat_lt a c ≡ false
    no' a c h = grind (arith, nat_tests)

before_append : (n : ℕ) (xs ys : List Placed) → before n (xs ++ ys) ≡ before n xs ++ before n ys
before_append n [] ys = refl
before_append n (x ∷ xs) ys =
    let ih = before_append n xs ys in
    elim (either (nat_lt x.event n)) [
      | inl y ↦ rw (y, ih) refl
      | inr y ↦ rw (y, ih) refl
    ]

-- Entries are below the moment.

writes_below : (a : Option Deed) (b : History) (h : ℕ) → AllBelow (b.trace.events + 1) b.list → AllBelow (b.trace.events + 1) (writes_any a h b).list
unfolding AllBelow
writes_below None b h k = k
writes_below (Some d) b h k = at (b.calls h)
  where
    at : (s : HartStanding) → AllBelow (b.trace.events + 1) (writes s b h d).list
    at Free = k
    at (Busy id c x) = below_append (b.trace.events + 1) b.list (entry_of b.trace.events id h d ∷ []) k (omega arith, tt)

falls_below : (m m' : Stage) (n : ℕ) (b : History) → AllBelow (b.trace.events + 1) b.list → AllBelow (b.trace.events + 1) (all_fall m m' n b).list
unfolding all_fall
falls_below m m' zero b k = k
falls_below m m' (suc n) b k =
    let now : (all_fall m m' n b).trace.events ≡ b.trace.events = ap (λ (z : Trace). z.events) (falls_trace m m' n b) in
    subst (λ (z : ℕ). AllBelow (z + 1) (all_fall m m' (suc n) b).list) now (writes_below (falls m m' n) (all_fall m m' n b) n (subst (λ (z : ℕ). AllBelow (z + 1) (all_fall m m' n b).list) (sym now) (falls_below m m' n b k)))

moves_below : (m m' : Stage) (h : ℕ) (a : Option Deed) (b : History) → AllBelow (b.trace.events + 1) b.list → AllBelow (b.trace.events + 1) (moves_on m m' h a b).list
moves_below m m' h a b k =
    let b1 : History = writes_any (unless (lost_of m h) a) h b in
    let b2 : History = tells_any a h b1 in
    let now : b2.trace.events ≡ b.trace.events = ap (λ (z : Trace). z.events) (own_trace m h a b) in
    let low : AllBelow (b.trace.events + 1) b2.list = subst (λ (z : List Placed). AllBelow (b.trace.events + 1) z) (sym (tells_list a h b1)) (writes_below (unless (lost_of m h) a) b h k) in
    subst (λ (z : ℕ). AllBelow (z + 1) (all_fall m m' hart_count b2).list) now (falls_below m m' hart_count b2 (subst (λ (z : ℕ). AllBelow (z + 1) b2.list) (sym now) low))

event_below : (version : Version) (w w' : World) (e : Event) → Happens version w e w' → AllBelow w.history.trace.events w.history.list → AllBelow w'.history.trace.events w'.history.list
event_below version w w' e o k = subst (λ (n : ℕ). AllBelow n w'.history.list) (sym (happens_now version w w' e o)) (go e o)
  where
    up : AllBelow (w.history.trace.events + 1) w.history.list
    up = below_later w.history.trace.events (w.history.trace.events + 1) w.history.list (omega arith) k

    go : (e : Event) → Happens version w e w' → AllBelow (w.history.trace.events + 1) w'.history.list
    go Nothing o = subst (λ (z : World). AllBelow (w.history.trace.events + 1) z.history.list) (sym o) up
    go (Starts h c) o = subst (λ (z : World). AllBelow (w.history.trace.events + 1) z.history.list) (sym o.world) up
    go (Steps h v r) o =
        subst (λ (z : World). AllBelow (w.history.trace.events + 1) z.history.list) (sym o.world)
        (subst (λ (z : List Placed). AllBelow (w.history.trace.events + 1) z) (sym (finish_list r (moves_on w.stage o.stage h o.told w.history) h)) (moves_below w.stage o.stage h o.told w.history up))

pub run_below : (version : Version) (w w' : World) (es : List Event) → Runs version w es w' → AllBelow w.history.trace.events w.history.list → AllBelow w'.history.trace.events w'.history.list
unfolding Runs
run_below version w w' [] r k = subst (λ (z : World). AllBelow z.history.trace.events z.history.list) r k
run_below version w w' (e ∷ es) r k = run_below version r.0 w' es r.2 (event_below version w r.0 e r.1 k)

nothing_below : (t : Tree) → AllBelow (opened t).history.trace.events (opened t).history.list
unfolding AllBelow
nothing_below t = tt

-- the law
pub grows : (version : Version) (t : Tree) (w w' : World) (es later : List Event) → Runs version (opened t) es w → Runs version w later w' → before (length es) w'.history.list ≡ w.history.list
grows version t w w' es later r s =
    let n : w.history.trace.events ≡ length es = (let e = run_now version (opened t) w es r in omega (arith, e)) in
    let g = run_grew version w w' later s in
    let low = run_below version (opened t) w es r (nothing_below t) in
    subst (λ (k : ℕ). before k w'.history.list ≡ w.history.list) n
    (ap (λ (z : List Placed). before w.history.trace.events z) g.is
    ∙ (before_append w.history.trace.events w.history.list g.more
    ∙ (ap (λ (z : List Placed). z ++ before w.history.trace.events g.more) (before_all w.history.trace.events w.history.list low)
    ∙ (ap (λ (z : List Placed). w.history.list ++ z) (before_none w.history.trace.events g.more g.later) ∙ append-nil w.history.list))))
