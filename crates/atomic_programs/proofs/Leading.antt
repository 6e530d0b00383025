-- The steps placed at one event lead from the sequential object before it to the one after it.
use Rattle.atomic_programs.proofs.Vocabulary.{◌≡◌, ◌≤◌, ℕ, suc, Option, Some, None, Bool, true, false, List, [], ◌∷◌, ◌++◌, length, refl, sym, ◌∙◌, ap, arith, append_assoc, nat_eq, if◌then◌else◌, Ret, Do, ExecResult, Waits, Ran, Stops, asks, OfNext, P, OpWithAnswer, own, onto, oldest_first, Goes, PlacesOne, Good, Wp, Theory, Began, Refuses, Begins, Begun, Ends, Lawful, Run, PlacedStep, State, Event, Start, Step, start_of, placed, unchanged, moved, tried, step_prog, step_unless, step_run, begun, busy_in, start_run, next, hart_of, is_some, HonestStep, IsHonest, Sound, Chain, of_hart, Leads}
use Rattle.atomic_programs.proofs.Basics.{append_nil, oldest_first_more, Keeps, inv_of, holds_of, is_some-false, sound_keeps}

-- what an event places, the oldest first
abbrev entries : (L : Theory) → ℕ → (ℕ → Option (Run L)) → List (ℕ × L.M.Step) → List (PlacedStep L)
entries L n running [] = []
entries L n running (p ∷ ps) = record { number = n; hart = p.0; call = start_of L (running p.0); step = p.1 } ∷ entries L n running ps

placed_last : (L : Theory) (n : ℕ) (running : ℕ → Option (Run L)) (ps : List (ℕ × L.M.Step)) (list : List (PlacedStep L)) → oldest_first (placed L n running ps list) ≡ oldest_first list ++ entries L n running ps
placed_last L n running [] list = sym (append_nil (oldest_first list))
placed_last L n running (p ∷ ps) list =
    let one : PlacedStep L = record { number = n; hart = p.0; call = start_of L (running p.0); step = p.1 } in
    placed_last L n running ps (one ∷ list)
    ∙ ap (λ (z : List (PlacedStep L)). z ++ entries L n running ps) (oldest_first_more one list)
    ∙ append_assoc (oldest_first list) (one ∷ []) (entries L n running ps)

chained : (L : Theory) (n : ℕ) (running : ℕ → Option (Run L)) (ps : List (ℕ × L.M.Step)) (t u : L.M.Tree) → Goes L.M t ps u → Chain L t (entries L n running ps) u
chained L n running [] t u g = g
chained L n running (p ∷ ps) t u g = (g.0, g.1, chained L n running ps g.0 u g.2)

owned : (L : Theory) (h n : ℕ) (running : ℕ → Option (Run L)) (ps : List (ℕ × L.M.Step)) → length (of_hart L h (entries L n running ps)) ≡ length (own h ps)
owned L h n running [] = refl
owned L h n running (p ∷ ps) = at (nat_eq p.0 h) (owned L h n running ps)
  where
    one : PlacedStep L
    one = record { number = n; hart = p.0; call = start_of L (running p.0); step = p.1 }

    at : (b : Bool) → length (of_hart L h (entries L n running ps)) ≡ length (own h ps)
        → length (if b then one ∷ of_hart L h (entries L n running ps) else of_hart L h (entries L n running ps)) ≡ length (if b then p.1 ∷ own h ps else own h ps)
    at true e = ap suc e
    at false e = e

module _ (L : Theory) (laws : Lawful L) (one : PlacesOne L.M) (base : L.M.Tree) (s : State L) (k : Keeps L base s) (h : ℕ) where
  -- an event that placed nothing
  led_none : (u : State L) → u.list ≡ s.list → (L.M.Clean u.world → L.M.tree u.world ≡ L.M.tree s.world) → (L.M.Clean u.world → L.M.Clean s.world) → Leads L h s u
  led_none u list tree clean =
      record { more = []; is = ap oldest_first list ∙ sym (append_nil (oldest_first s.list)); clean = clean; chained = tree; own = omega arith }

  led_unchanged : Leads L h s (unchanged L s)
  led_unchanged = led_none (unchanged L s) refl (λ y. refl) (λ y. y)

  led_placed : (u : State L) (ps : List (ℕ × L.M.Step)) → u.list ≡ placed L s.now s.running ps s.list → (L.M.Clean u.world → Goes L.M (L.M.tree s.world) ps (L.M.tree u.world)) → (L.M.Clean u.world → L.M.Clean s.world)
      → length (own h ps) ≤ 1 → Leads L h s u
  led_placed u ps list goes clean few =
      let counted : length (of_hart L h (entries L s.now s.running ps)) ≡ length (own h ps) = owned L h s.now s.running ps in
      record {
        more = entries L s.now s.running ps;
        is = ap oldest_first list ∙ placed_last L s.now s.running ps s.list;
        clean = clean;
        chained = λ y. chained L s.now s.running ps (L.M.tree s.world) (L.M.tree u.world) (goes y);
        own = omega arith;
      }

  led_moved : (r : Run L) (did : OpWithAnswer L.M) (ps : List (ℕ × L.M.Step)) (p : P L.M L.Reply) (w : L.M.World)
      → (L.M.Clean w → Goes L.M (L.M.tree s.world) ps (L.M.tree w)) → (L.M.Clean w → L.M.Clean s.world) → length (own h ps) ≤ 1 → Leads L h s (moved L h s r did ps p w).after
  led_moved r did ps (Ret reply) w goes clean few = led_placed (moved L h s r did ps (Ret reply) w).after ps refl goes clean few
  led_moved r did ps (Do op m c) w goes clean few = led_placed (moved L h s r did ps (Do op m c) w).after ps refl goes clean few

  led_tried : (r : Run L) (op : L.M.Op) (ps : L.M.Answer op → List (ℕ × L.M.Step)) (c : L.M.Answer op → P L.M L.Reply) (more n : ℕ) (B : List L.M.Step → Type 0) (es : List L.M.Step) (wait : Type 0) (N : ℕ → L.M.Answer op → L.M.World → Type 0) (x : ExecResult (L.M.Answer op) L.M.World)
      → ((a : L.M.Answer op) → length (own h (ps a)) ≤ 1) → Good L.M (L.M.Answer op) h ps more n B es s.world wait x N → Leads L h s (tried L h s r op ps c x).after
  led_tried r op ps c more n B es wait N Waits few g = led_unchanged
  led_tried r op ps c more n B es wait N (Ran a w) few g = led_moved r (op, a) (ps a) (c a) w g.goes g.clean (few a)
  led_tried r op ps c more n B es wait N (Stops w) few g = led_none (tried L h s r op ps c (Stops w)).after refl g.tree g.clean

  led_prog : (x : L.M.Outside) (r : Run L) (p : P L.M L.Reply) (left : ℕ) → s.stopped ≡ false → OfNext (λ op v. L.M.Honest h op v x) (asks p) s.world
      → Wp L.M h (Begun L r.call) (Ends L h r.call) p left r.done s.world → Leads L h s (step_prog L h x s r p).after
  led_prog x r (Ret reply) left on t g = led_unchanged
  led_prog x r (Do op m c) left on t g =
      let inv = inv_of L s.stopped s.world k.holds on in
      led_tried r op (λ a. L.M.places h op a (m a) s.world) c (L.M.more op) left (Begun L r.call) r.done (L.M.MayWait h op s.world)
      (λ l a u. Wp L.M h (Begun L r.call) (Ends L h r.call) (c a) l (onto (own h (L.M.places h op a (m a) s.world)) r.done) u) (L.M.go h x op m s.world) (λ a. one h op a (m a) s.world inv)
      ((g s.world [] (laws.laws.same h s.world) inv).2 x t)

  led_unless : (x : L.M.Outside) (r : Run L) (b : Bool) → s.stopped ≡ b → s.running h ≡ Some r → HonestStep L h x s.world b (Some r) → Leads L h s (step_unless L h x s b r).after
  led_unless x r true on e t = led_unchanged
  led_unless x r false on e t = led_prog x r r.prog (k.going h r e).left on t ((k.going h r e).wp on)

  led_step : (x : L.M.Outside) (r : Option (Run L)) → s.running h ≡ r → HonestStep L h x s.world s.stopped r → Leads L h s (step_run L h x s r).after
  led_step x None e t = led_unchanged
  led_step x (Some r) e t = led_unless x r s.stopped refl e t

  led_begun : (call : L.Call) (x : Began L.Refusal L.M.World) → s.running h ≡ None → L.start h call (busy_in L s) s.world ≡ x → Leads L h s (begun L h call s x).after
  led_begun call (Refuses why) none e = led_unchanged
  led_begun call (Begins u) none e =
      let ok = laws.calls h call (busy_in L s) s.world u (holds_of L s.stopped s.world k.holds) (λ j q. k.idle j (is_some-false (s.running j) q)) (ap is_some none) e in
      led_none (begun L h call s (Begins u)).after refl (λ y. ok.tree) ok.clean

  led_start : (call : L.Call) (x : Option (Run L)) → s.running h ≡ x → Leads L h s (start_run L h call s x).after
  led_start call (Some r) e = led_unchanged
  led_start call None e = led_begun call (L.start h call (busy_in L s) s.world) e refl

led_event : (L : Theory) (laws : Lawful L) (one : PlacesOne L.M) (base : L.M.Tree) (s : State L) (k : Keeps L base s) (e : Event L.Call L.M.Outside) → IsHonest L e s → Leads L (hart_of e) s (next L e s)
led_event L laws one base s k (Start h call) t = led_start L laws one base s k h call (s.running h) refl
led_event L laws one base s k (Step h x) t = led_step L laws one base s k h x (s.running h) refl t

-- each event of a run from a world at rest
pub leads : (L : Theory) (laws : Lawful L) → PlacesOne L.M → (s : State L) (e : Event L.Call L.M.Outside) → Sound L s → IsHonest L e s → Leads L (hart_of e) s (next L e s)
leads L laws one s e q t = led_event L laws one (L.M.tree q.first) s (sound_keeps L laws s q) e t
