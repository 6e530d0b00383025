-- If one hart alone makes calls, the list is its calls' sequences one after the other.
use Rattle.image_versions.specs.declared.version.Version.{Version}
use Rattle.tree_laws.proofs.Vocabulary.{◌≡◌, ◌≢◌, ℕ, zero, suc, ◌<◌, ◌≤◌, ◌==◌, inl, inr, refl, sym, ◌∙◌, ap, subst, arith, List, [], ◌∷◌, ◌++◌, append_assoc, append-nil, map, length, Option, Some, None, Reply, Call, Trace, TracedCall, Placed, TreeData, hart_count, Tree, tree_of, put, Act, trace_of, ends_at, IsWellFormed, Deed, Stage, HartStanding, History, writes, writes_any, tells, tells_any, entry_of, Free, Busy, World, Event, lost_of, unless, falls, all_fall, moves_on, finishes, Happens, Runs, Alone, IsStartBy, opened, shown_of, Starts, Steps, Nothing, of_call, in_turn}
use Rattle.tree_laws.proofs.Basics.{either, same_or, eq_self, eq_not, put_same, map_length, more_length}
use Rattle.tree_laws.proofs.History.{Inv, OwnOk, IsHart, apart_alone, start_alone, happens_ok, opened_ok, run_trace, writes_calls, tells_there, falls_calls}

of_append : (id : ℕ) (xs ys : List Placed) → of_call id (xs ++ ys) ≡ of_call id xs ++ of_call id ys
of_append id [] ys = refl
of_append id (x ∷ xs) ys =
    let ih = of_append id xs ys in
    elim (either (x.call == id)) [
      | inl y ↦ rw (y, ih) refl
      | inr y ↦ rw (y, ih) refl
    ]

of_here : (id : ℕ) (e : Placed) → e.call ≡ id → of_call id (e ∷ []) ≡ e ∷ []
of_here id e is = rw (is, eq_self id) refl

of_other : (id : ℕ) (e : Placed) → e.call ≢ id → of_call id (e ∷ []) ≡ []
of_other id e ne = rw (eq_not e.call id ne) refl

-- the entries of calls before this one
unfoldable pub AllKnown : ℕ → List Placed → Type 0
AllKnown n [] = Unit {0}
AllKnown n (e ∷ es) = (e.call < n) × AllKnown n es

known_more : (n : ℕ) (xs : List Placed) (e : Placed) → AllKnown n xs → e.call < n → AllKnown n (xs ++ e ∷ [])
unfolding AllKnown
known_more n [] e k lt = (lt, tt)
known_more n (x ∷ xs) e k lt = (k.0, known_more n xs e k.1 lt)

known_later : (n m : ℕ) (xs : List Placed) → n ≤ m → AllKnown n xs → AllKnown m xs
unfolding AllKnown
known_later n m [] le k = tt
known_later n m (x ∷ xs) le k = (let p = k.0 in omega (arith, p, le), known_later n m xs le k.1)

known_none : (n : ℕ) (xs : List Placed) → AllKnown n xs → of_call n xs ≡ []
unfolding AllKnown
known_none n [] k = refl
known_none n (x ∷ xs) k = let ne : x.call ≢ n = (let p = k.0 in omega (arith, p)) in rw (eq_not x.call n ne, known_none n xs k.1) refl

-- an entry of a later call changes nothing of the earlier ones
turn_before : (n : ℕ) (xs : List Placed) (e : Placed) → n ≤ e.call → in_turn n (xs ++ e ∷ []) ≡ in_turn n xs
unfolding in_turn
turn_before zero xs e le = refl
turn_before (suc n) xs e le =
    let ih = turn_before n xs e (omega arith) in
    let one : of_call n (xs ++ e ∷ []) ≡ of_call n xs = of_append n xs (e ∷ []) ∙ (ap (λ (z : List Placed). of_call n xs ++ z) (of_other n e (omega (arith, le))) ∙ append-nil (of_call n xs)) in
    ap (λ (z : List Placed). z ++ of_call n (xs ++ e ∷ [])) ih ∙ ap (λ (z : List Placed). in_turn n xs ++ z) one

-- an entry of the last call comes last
turn_more : (n : ℕ) (xs : List Placed) (e : Placed) → e.call ≡ n → in_turn (suc n) (xs ++ e ∷ []) ≡ in_turn (suc n) xs ++ e ∷ []
unfolding in_turn
turn_more n xs e is =
    let one : of_call n (xs ++ e ∷ []) ≡ of_call n xs ++ e ∷ [] = of_append n xs (e ∷ []) ∙ ap (λ (z : List Placed). of_call n xs ++ z) (of_here n e is) in
    ap (λ (z : List Placed). z ++ of_call n (xs ++ e ∷ [])) (turn_before n xs e (omega (arith, is)))
    ∙ (ap (λ (z : List Placed). in_turn n xs ++ z) one ∙ sym (append_assoc (in_turn n xs) (of_call n xs) (e ∷ [])))

turn_start : (n : ℕ) (xs : List Placed) → AllKnown n xs → in_turn (suc n) xs ≡ in_turn n xs
unfolding in_turn
turn_start n xs k = ap (λ (z : List Placed). in_turn n xs ++ z) (known_none n xs k) ∙ append-nil (in_turn n xs)

pub record Turn (k : ℕ) (b : History) : Type 0 where
  pub list : b.list ≡ in_turn (length b.trace.calls) b.list
  pub last : (id : ℕ) (c : Call) (x : List Act) → b.calls k ≡ Busy id c x → suc id ≡ length b.trace.calls
  pub known : AllKnown (length b.trace.calls) b.list

-- the other harts have no call
idle_others : (version : Version) (k : ℕ) (base : Tree) (w : World) → Inv version (IsHart k) base w → (g : ℕ) → g < hart_count → g ≢ k → w.history.calls g ≡ Free
idle_others version k base w inv g lt ne = go (w.history.calls g) refl (inv.harts g lt)
  where
    go : (s : HartStanding) → w.history.calls g ≡ s → OwnOk version (IsHart k) w.stage.tree g s (w.stage.walk g) → w.history.calls g ≡ Free
    go Free is o = is
    go (Busy id c x) is o = absurd (ne o.0)

mover_is : (version : Version) (k : ℕ) (base : Tree) (w : World) (h id : ℕ) (c : Call) (x : List Act) → Inv version (IsHart k) base w → h < hart_count → w.history.calls h ≡ Busy id c x → h ≡ k
mover_is version k base w h id c x inv lt is = (subst (λ (s : HartStanding). OwnOk version (IsHart k) w.stage.tree h s (w.stage.walk h)) is (inv.harts h lt)).0

write_turn : (k : ℕ) (b : History) (d : Deed) (s : HartStanding) → b.calls k ≡ s → Turn k b → Turn k (writes s b k d)
write_turn k b d Free is t = t
write_turn k b d (Busy id c x) is t =
    let e : Placed = entry_of b.trace.events id k d in
    let n = t.last id c x is in
    record {
      list =
          subst (λ (z : ℕ). b.list ++ e ∷ [] ≡ in_turn z (b.list ++ e ∷ [])) n
          (sym (turn_more id b.list e refl ∙ ap (λ (z : List Placed). z ++ e ∷ []) (sym (t.list ∙ ap (λ (z : ℕ). in_turn z b.list) (sym n)))));
      last = t.last;
      known = known_more (length b.trace.calls) b.list e t.known (omega (arith, n));
    }

writes_turn : (k : ℕ) (b : History) (a : Option Deed) → Turn k b → Turn k (writes_any a k b)
writes_turn k b None t = t
writes_turn k b (Some d) t = write_turn k b d (b.calls k) refl t

tell_turn : (k : ℕ) (b : History) (d : Deed) (s : HartStanding) → b.calls k ≡ s → Turn k b → Turn k (tells s b k d)
tell_turn k b d Free is t = t
tell_turn k b d (Busy id c x) is t = record {
  list = t.list;
  last = λ id' c' x' q.
      let same : Busy id c (x ++ d.act ∷ []) ≡ Busy id' c' x' = sym (put_same b.calls k (Busy id c (x ++ d.act ∷ []))) ∙ q in
      let i : id ≡ id' = cc in
      subst (λ (z : ℕ). suc z ≡ length b.trace.calls) i (t.last id c x is);
  known = t.known;
}

tells_turn : (k : ℕ) (b : History) (a : Option Deed) → Turn k b → Turn k (tells_any a k b)
tells_turn k b None t = t
tells_turn k b (Some d) t = tell_turn k b d (b.calls k) refl t

free_writes : (a : Option Deed) (b : History) (g : ℕ) → b.calls g ≡ Free → writes_any a g b ≡ b
free_writes None b g is = refl
free_writes (Some d) b g is = ap (λ (s : HartStanding). writes s b g d) is

-- no walk of another hart can be lost
falls_turn : (k : ℕ) (m m' : Stage) (n : ℕ) (b : History) → ((g : ℕ) → g < n → g ≢ k → b.calls g ≡ Free) → Turn k b → Turn k (all_fall m m' n b)
unfolding all_fall
falls_turn k m m' zero b free t = t
falls_turn k m m' (suc n) b free t =
    let ih = falls_turn k m m' n b (λ g l. free g (omega (arith, l))) t in
    elim (same_or n k) [
      | inl e ↦ subst (λ (z : ℕ). Turn k (writes_any (falls m m' n) z (all_fall m m' n b))) (sym e) (writes_turn k (all_fall m m' n b) (falls m m' n) ih)
      | inr ne ↦ subst (λ (z : History). Turn k z) (sym (free_writes (falls m m' n) (all_fall m m' n b) n (ap (λ (f : ℕ → HartStanding). f n) (falls_calls m m' n b) ∙ free n (omega arith) ne))) ih
    ]

finish_turn : (k : ℕ) (b : History) (r : Option Reply) → Turn k b → Turn k (finishes r k b)
finish_turn k b None t = record { list = t.list; last = t.last; known = t.known }
finish_turn k b (Some r) t =
    let n : length (map (ends_at k r b.trace.events) b.trace.calls) ≡ length b.trace.calls = map_length (ends_at k r b.trace.events) b.trace.calls in
    record {
      list = subst (λ (z : ℕ). b.list ≡ in_turn z b.list) (sym n) t.list;
      last = λ id c x q. absurd (let z : Free ≡ Busy id c x = sym (put_same b.calls k Free) ∙ q in cc);
      known = subst (λ (z : ℕ). AllKnown z b.list) (sym n) t.known;
    }

happens_turn : (version : Version) (k : ℕ) (base : Tree) (w w' : World) (e : Event) → Inv version (IsHart k) base w → IsStartBy k e → Happens version w e w' → Turn k w.history → Turn k w'.history
happens_turn version k base w w' Nothing inv by o t = subst (λ (z : World). Turn k z.history) (sym o) (record { list = t.list; last = t.last; known = t.known })
happens_turn version k base w w' (Starts h c) inv by o t =
    let calls = w.history.trace.calls in
    let said : TracedCall = record { hart = h; start = w.history.trace.events; call = c; finished = None } in
    let n : length (calls ++ said ∷ []) ≡ suc (length calls) = more_length calls said in
    subst (λ (z : World). Turn k z.history) (sym o.world) (record {
      list = subst (λ (z : ℕ). w.history.list ≡ in_turn z w.history.list) (sym n) (t.list ∙ sym (turn_start (length calls) w.history.list t.known));
      last = λ id c' x q.
          let same : Busy (length calls) c [] ≡ Busy id c' x = sym (subst (λ (z : ℕ). put w.history.calls h (Busy (length calls) c []) z ≡ Busy (length calls) c []) by (put_same w.history.calls h (Busy (length calls) c []))) ∙ q in
          let i : length calls ≡ id = cc in
          ap (λ (z : ℕ). suc z) (sym i) ∙ sym n;
      known = subst (λ (z : ℕ). AllKnown z w.history.list) (sym n) (known_later (length calls) (suc (length calls)) w.history.list (omega arith) t.known);
    })
happens_turn version k base w w' (Steps h v r) inv by o t =
    let mine : h ≡ k = mover_is version k base w h o.id o.c o.acts inv o.hart o.busy in
    let told : Option Deed = unless (lost_of w.stage k) o.told in
    let b1 : History = writes_any told k w.history in
    let others : (g : ℕ) → g < hart_count → g ≢ k → (tells_any o.told k b1).calls g ≡ Free = (λ g l ne. tells_there o.told k g b1 ne ∙ (ap (λ (f : ℕ → HartStanding). f g) (writes_calls told k w.history) ∙ idle_others version k base w inv g l ne)) in
    subst (λ (z : World). Turn k z.history) (sym o.world)
    (subst (λ (z : ℕ). Turn k (finishes r z (moves_on w.stage o.stage z o.told w.history))) (sym mine)
    (finish_turn k (moves_on w.stage o.stage k o.told w.history) r (falls_turn k w.stage o.stage hart_count (tells_any o.told k b1) others (tells_turn k b1 o.told (writes_turn k w.history told t)))))

run_turn : (version : Version) (k : ℕ) (base : Tree) (w w' : World) (es : List Event) → Inv version (IsHart k) base w → Alone k es → Runs version w es w' → Turn k w.history → Turn k w'.history
unfolding Runs Alone
run_turn version k base w w' [] inv by r t = subst (λ (z : World). Turn k z.history) r t
run_turn version k base w w' (e ∷ es) inv by r t =
    run_turn version k base r.0 w' es (happens_ok version (IsHart k) base w r.0 e (apart_alone k) (start_alone k e by.0) inv r.1) by.1 r.2
    (happens_turn version k base w r.0 e inv by.0 r.1 t)

nothing_turn : (k : ℕ) (t : Tree) → Turn k (opened t).history
unfolding in_turn AllKnown
nothing_turn k t = record { list = refl; last = λ id c x q. absurd cc; known = tt }

pub serial : (version : Version) (base : TreeData) (w : World) (h : ℕ) (es : List Event) → IsWellFormed (tree_of base) → Alone h es → Runs version (opened (tree_of base)) es w → w.history.list ≡ in_turn (length (trace_of (map shown_of es)).calls) w.history.list
serial version base w h es k by r =
    let t = run_turn version h (tree_of base) (opened (tree_of base)) w es (opened_ok version (IsHart h) (tree_of base) k) by r (nothing_turn h (tree_of base)) in
    subst (λ (z : Trace). w.history.list ≡ in_turn (length z.calls) w.history.list) (run_trace version (opened (tree_of base)) w es r) t.list
