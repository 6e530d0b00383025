-- What the end of the kernel says of what the harts have made.
use Rattle.console_threads.proofs.Vocabulary.{◌≡◌, ℕ, ◌+◌, ◌*◌, List, [], ◌∷◌, ◌++◌, None, All, map, length, get_or, drop, refl, ap, sym, ◌∙◌, subst, arith, sum_by, IfNone, All-nil, All-cons, All-head, All-tail, sum_by-cons, map-map, Call, StoredRun, count_of, replies_of, SeatV, Task, Worked, AllAnswered, AnswersSome, EachAnswered, EachWorked, HasMadeAll, HasWorked, eight_harts}

of_map : {X Y : Type 0} (P : Y → Type 0) (f : X → Y) (xs : List X) → All P (map f xs) → All (λ x. P (f x)) xs
of_map P f [] all = All-nil (λ x. P (f x))
of_map P f (x ∷ xs) all = All-cons (λ y. P (f y)) x xs (All-head P (f x) (map f xs) all) (of_map P f xs (All-tail P (f x) (map f xs) all))

sum_map : {X Y : Type 0} (g : Y → ℕ) (f : X → Y) (xs : List X) → sum_by g (map f xs) ≡ sum_by (λ x. g (f x)) xs
sum_map g f [] = refl
sum_map g f (x ∷ xs) = sum_by-cons g (f x) (map f xs) ∙ ap (λ n. g (f x) + n) (sum_map g f xs) ∙ sym (sum_by-cons (λ y. g (f y)) x xs)

module _ {L : _} (run : StoredRun) where
  abbrev pub IsFresh : Task L → Type 0
  IsFresh t = (t.seat.replies ≡ []) × (t.seat.count ≡ 0)

  abbrev pub IsListed : Worked L → Type 0
  IsListed w = w.seat.replies ≡ replies_of w.seat.hart run

  abbrev pub IsWhole : Worked L → Type 0
  IsWhole w = w.broke ≡ None

  one : (t : Task L) (w : Worked L) (h : ℕ) → HasWorked t w → w.broke ≡ None → t.seat.hart ≡ h → IsFresh t → IsListed w → AnswersSome t.calls.items (replies_of h run) × (w.seat.count ≡ 2 * length (replies_of h run))
  one t w h has whole hart fresh listed =
      let all : HasMadeAll t.seat t.calls.items w.seat = subst (λ b. IfNone b (HasMadeAll t.seat t.calls.items w.seat)) whole has.1 in
      let are : w.seat.replies ≡ all.replies = ap (λ (v : SeatV). v.replies) all.seat ∙ ap (λ rs. rs ++ all.replies) fresh.0 in
      let same : replies_of h run ≡ all.replies = ap (λ k. replies_of k run) (sym (has.0 ∙ hart)) ∙ sym listed ∙ are in
      let count : w.seat.count ≡ t.seat.count + 2 * length all.replies = ap (λ (v : SeatV). v.count) all.seat in
      (subst (AnswersSome t.calls.items) (sym same) all.are_of, omega (arith, count, fresh.1, ap length same))

  each : (hs : List ℕ) (ts : List (Task L)) (ws : List (Worked L)) → EachWorked ts ws → map (λ t. t.seat.hart) ts ≡ hs → All IsFresh ts → All (λ w. w.broke ≡ None) ws → All IsListed ws
      → EachAnswered run hs (map (λ t. t.calls.items) ts) × (sum_by (λ w. w.seat.count) ws ≡ sum_by (λ h. 2 * length (replies_of h run)) hs)
  each [] [] [] worked harts fresh whole listed = (tt, refl)
  each (h ∷ hs) [] ws worked harts fresh whole listed = absurd (omega (arith, ap length harts))
  each [] (t ∷ ts) ws worked harts fresh whole listed = absurd (omega (arith, ap length harts))
  each hs [] (w ∷ ws) worked harts fresh whole listed = absurd worked
  each hs (t ∷ ts) [] worked harts fresh whole listed = absurd worked
  each (h ∷ hs) (t ∷ ts) (w ∷ ws) worked harts fresh whole listed =
      let first = one t w h worked.0 (All-head IsWhole w ws whole) (ap (λ xs. get_or xs 0 h) harts) (All-head IsFresh t ts fresh) (All-head IsListed w ws listed) in
      let rest = each hs ts ws worked.1 (ap (drop 1) harts) (All-tail IsFresh t ts fresh) (All-tail IsWhole w ws whole) (All-tail IsListed w ws listed) in
      ((first.0, rest.0), sum_by-cons (λ (v : Worked L). v.seat.count) w ws ∙ (λ i. first.1 i + rest.1 i) ∙ sym (sum_by-cons (λ k. 2 * length (replies_of k run)) h hs))

  pub all_closed : (before after : List SeatV) (calls : List (List Call)) (ts : List (Task L)) (ws : List (Worked L)) → map (λ t. t.seat) ts ≡ before → map (λ t. t.calls.items) ts ≡ calls → EachWorked ts ws → map (λ w. w.seat) ws ≡ after
      → All (λ w. w.broke ≡ None) ws → map (λ (s : SeatV). s.hart) before ≡ eight_harts → All (λ (s : SeatV). (s.replies ≡ []) × (s.count ≡ 0)) before → All (λ (s : SeatV). s.replies ≡ replies_of s.hart run) after → count_of run ≡ sum_by (λ (s : SeatV). s.count) after
      → AllAnswered calls run
  all_closed before after calls ts ws seats asked worked kept whole harts fresh listed counted =
      let hs : map (λ t. t.seat.hart) ts ≡ eight_harts = sym (map-map (λ (s : SeatV). s.hart) (λ t. t.seat) ts) ∙ ap (map (λ (s : SeatV). s.hart)) seats ∙ harts in
      let all = each eight_harts ts ws worked hs (of_map (λ (s : SeatV). (s.replies ≡ []) × (s.count ≡ 0)) (λ t. t.seat) ts (subst (All (λ (s : SeatV). (s.replies ≡ []) × (s.count ≡ 0))) (sym seats) fresh)) whole
      (of_map (λ (s : SeatV). s.replies ≡ replies_of s.hart run) (λ w. w.seat) ws (subst (All (λ (s : SeatV). s.replies ≡ replies_of s.hart run)) (sym kept) listed)) in
      record {
        each = subst (EachAnswered run eight_harts) asked all.0;
        none_left = counted ∙ ap (sum_by (λ (s : SeatV). s.count)) (sym kept) ∙ sum_map (λ (s : SeatV). s.count) (λ w. w.seat) ws ∙ all.1;
      }
