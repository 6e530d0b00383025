-- What each call keeps of a history.
use Rattle.group_log.proofs.Vocabulary.{◌≡◌, ◌⊎◌, inl, inr, ℕ, ◌+◌, ◌≤◌, ◌<◌, nat_lt, Bool, true, false, cond, if◌then◌else◌, List, [], ◌∷◌, ◌++◌, Option, Some, None, refl, sym, ◌∙◌, ap, subst, arith, add-one, add-zero, zero, suc, length, AllByRecursion, lt-ltb, le-ltb, ltb-false, append-nil, filter-append, Super, Marks, AfterLeave, Free, Commits, Phase, Open, Staging, Installing, Halted, Progress, WaitsFor as Waits, Wrote, Ended, Failed, is_point, LogState, Blocks, AgreeOutside, recovered_of, seen_of, is_under_way, is_settled, is_running, IsMove, begins_at, IsCommitMove, no_marks, after_leave, after_write, before, RisesBy, IsMarked, IsKept, Span, IsApart, AreWhole, IsStory, Turns, IsSpanned}
use Rattle.group_log.proofs.Basics.{pick}
use Rattle.group_log.proofs.Moving.{never}

pub all_map : {X : Type 0} (P Q : X → Type 0) (xs : List X) → ((x : X) → P x → Q x) → AllByRecursion P xs → AllByRecursion Q xs
all_map P Q [] f h = tt
all_map P Q (x ∷ xs) f h = (f x h.0, all_map P Q xs f h.1)

pub all_join : {X : Type 0} (P : X → Type 0) (xs ys : List X) → AllByRecursion P xs → AllByRecursion P ys → AllByRecursion P (xs ++ ys)
all_join P [] ys h k = k
all_join P (x ∷ xs) ys h k = (h.0, all_join P xs ys h.1 k)

module _ {E : Type 0} (number : E → ℕ) where
  pub all_before : (n : ℕ) (list : List E) → AllByRecursion (λ e. number e < n) list → before number n list ≡ list
  all_before n [] h = refl
  all_before n (e ∷ es) h = ap (λ (t : Bool). cond t (e ∷ before number n es) (before number n es)) (lt-ltb (number e) n h.0) ∙ ap (λ (l : List E). e ∷ l) (all_before n es h.1)

  none_before : (k : ℕ) (list : List E) → AllByRecursion (λ e. k ≤ number e) list → before number k list ≡ []
  none_before k [] h = refl
  none_before k (e ∷ es) h = ap (λ (t : Bool). cond t (e ∷ before number k es) (before number k es)) (le-ltb (number e) k h.0) ∙ none_before k es h.1

  -- an event adds nothing to the entries of earlier events
  pub before_stays : (k n : ℕ) (list news : List E) → k ≤ n → AllByRecursion (λ e. number e ≡ n) news → before number k (list ++ news) ≡ before number k list
  before_stays k n list news le now =
      filter-append (λ e. nat_lt (number e) k) list news
      ∙ ap (λ (l : List E). before number k list ++ l) (none_before k news (all_map (λ e. number e ≡ n) (λ e. k ≤ number e) news (λ e is. omega (arith, is, le)) now))
      ∙ append-nil (before number k list)

  -- if the numbers never fall, the entries of the first events are a beginning of the list
  late : (k lo : ℕ) (list : List E) → k ≤ lo → RisesBy number lo list → AllByRecursion (λ e. k ≤ number e) list
  unfolding RisesBy
  late k lo [] le up = tt
  late k lo (e ∷ es) le up = let here : k ≤ number e = omega (arith, le, up.0) in (here, late k (number e) es here up.1)

  pub beginning : (k lo : ℕ) (list : List E) → RisesBy number lo list → (rest : List E) × (before number k list ++ rest ≡ list)
  unfolding RisesBy
  beginning k lo [] up = ([], refl)
  beginning k lo (e ∷ es) up =
      let more = beginning k (number e) es up.1 in
      pick (nat_lt (number e) k) (λ t. nat_lt (number e) k ≡ t → (rest : List E) × (cond t (e ∷ before number k es) (before number k es) ++ rest ≡ e ∷ es))
      (λ _ is. (more.0, ap (λ (l : List E). e ∷ l) more.1))
      (λ _ isnt.
      let none : before number k es ≡ [] = none_before k es (late k (number e) es (ltb-false (number e) k isnt) up.1) in
      (e ∷ es, ap (λ (l : List E). l ++ e ∷ es) none))
      refl

settled_runs : (p : Phase) → is_settled p ≡ true → is_running p ≡ true
settled_runs Open e = refl
settled_runs (Staging i) e = never e
settled_runs (Installing i) e = refl
settled_runs Halted e = never e

under_way_runs : (p : Phase) → is_under_way p ≡ true → is_running p ≡ true
under_way_runs Open e = never e
under_way_runs (Staging i) e = refl
under_way_runs (Installing i) e = refl
under_way_runs Halted e = never e

module _ {D E : Type 0} (contents : D → List (List ℕ)) (number : E → ℕ) (sizes : Super) (Image : List E → Blocks → Type 0)
    (respects : (list : List E) (a b : Blocks) → AgreeOutside sizes a b → Image list a → Image list b)
    (n : ℕ) (list news : List E) (l l' : LogState D) (m : Marks)
    (kept : IsKept contents number sizes Image n list l m) (now : AllByRecursion (λ e. number e ≡ n) news) where
  stays : (k : ℕ) → k ≤ n → before number k (list ++ news) ≡ before number k list
  stays k le = before_stays number k n list news le now

  later : (k : ℕ) (b : Blocks) → k ≤ n → Image (before number k list) b → Image (before number k (list ++ news)) b
  later k b le image = subst (λ (es : List E). Image es b) (sym (stays k le)) image

  numbers : AllByRecursion (λ e. number e < n + 1) (list ++ news)
  numbers = all_join (λ e. number e < n + 1) list news
      (all_map (λ e. number e < n) (λ e. number e < n + 1) list (λ e lt. omega (arith, lt)) kept.numbers)
      (all_map (λ e. number e ≡ n) (λ e. number e < n + 1) news (λ e is. omega (arith, is)) now)

  marked_past : (k : ℕ) → (m.doubt ≡ None) → IsMarked m k → k ≤ n
  marked_past k none marked = elim marked [
    | inl is ↦ omega (arith, is, kept.order, kept.past)
    | inr is ↦ absurd (cc (sym is ∙ none))
  ]

  over : (a b : Blocks) → AgreeOutside l.sizes a b → AgreeOutside sizes a b
  over a b agree = subst (λ (s : Super). AgreeOutside s a b) kept.same agree

  module _ (past : (k : ℕ) → m.doubt ≡ Some k → k ≤ n) where
    mark_past : (k : ℕ) → IsMarked m k → k ≤ n
    mark_past k marked = elim marked [ inl is ↦ omega (arith, is, kept.order, kept.past) | inr is ↦ past k is ]

    -- a call that begins no commit, and makes no write of one
    pub kept_plain : IsMove contents false false l l' → IsKept contents number sizes Image (n + 1) (list ++ news) l' m
    kept_plain move = record {
      same = move.sizes ∙ kept.same;
      numbers = numbers;
      order = kept.order;
      past = omega (arith, kept.past);
      stored = (
        kept.stored.0,
        kept.stored.1,
        respects (before number kept.stored.0 (list ++ news)) (recovered_of contents l) (recovered_of contents l') (over _ _ move.becomes)
            (later kept.stored.0 (recovered_of contents l) (mark_past kept.stored.0 kept.stored.1) kept.stored.2),
      );
      pending = λ way. respects (before number m.begun (list ++ news)) (seen_of contents l) (seen_of contents l') (over _ _ (move.still way))
          (later m.begun (seen_of contents l) kept.past (kept.pending (move.begun_before way refl)));
      settled = λ is. elim (move.settles is).1 [ inl e ↦ never e | inr e ↦ kept.settled e ];
      certain = λ is. kept.certain (move.runs is);
    }

    begun_now : IsMove contents true false l l' → m.doubt ≡ None → Image (list ++ news) (seen_of contents l') → IsKept contents number sizes Image (n + 1) (list ++ news) l' (record m { begun = n + 1 })
    begun_now move none image = record {
      same = move.sizes ∙ kept.same;
      numbers = numbers;
      order = omega (arith, kept.order, kept.past);
      past = omega arith;
      stored = (
        kept.stored.0,
        kept.stored.1,
        respects (before number kept.stored.0 (list ++ news)) (recovered_of contents l) (recovered_of contents l') (over _ _ move.becomes)
            (later kept.stored.0 (recovered_of contents l) (mark_past kept.stored.0 kept.stored.1) kept.stored.2),
      );
      pending = λ way. subst (λ (es : List E). Image es (seen_of contents l')) (sym (all_before number (n + 1) (list ++ news) numbers)) image;
      settled = λ is. never (sym (move.settles is).0);
      certain = λ is. none;
    }

    -- a leave, if the entries so far make what is seen when it begins a commit
    pub kept_leave : (r : AfterLeave) → IsMove contents (begins_at r) false l l' → m.doubt ≡ None → (begins_at r ≡ true → Image (list ++ news) (seen_of contents l'))
        → IsKept contents number sizes Image (n + 1) (list ++ news) l' (after_leave n r m)
    kept_leave Free move none image = kept_plain move
    kept_leave Commits move none image = begun_now move none (image refl)

    -- what a commit's step makes of the mark and of the stored entries
    stored_after : (stands : Bool) (k : ℕ) (m' : Marks) → IsMove contents false stands l l' → (stands ≡ true → IsMarked m' m.begun) → (stands ≡ false → (k : ℕ) → IsMarked m k → IsMarked m' k)
        → (k : ℕ) × IsMarked m' k × Image (before number k (list ++ news)) (recovered_of contents l')
    stored_after true k m' move fresh old = (
      m.begun,
      fresh refl,
      respects (before number m.begun (list ++ news)) (seen_of contents l) (recovered_of contents l') (over _ _ move.becomes)
          (later m.begun (seen_of contents l) kept.past (kept.pending (move.in_commit refl))),
    )
    stored_after false k m' move fresh old = (
      kept.stored.0,
      old refl kept.stored.0 kept.stored.1,
      respects (before number kept.stored.0 (list ++ news)) (recovered_of contents l) (recovered_of contents l') (over _ _ move.becomes)
          (later kept.stored.0 (recovered_of contents l) (mark_past kept.stored.0 kept.stored.1) kept.stored.2),
    )

    after_step : (stands : Bool) (m' : Marks) → IsMove contents false stands l l' → m'.begun ≡ m.begun → m'.cut ≤ m.begun → (is_settled l'.phase ≡ true → m'.cut ≡ m.begun) → (is_running l'.phase ≡ true → m'.doubt ≡ None)
        → (stands ≡ true → IsMarked m' m.begun) → (stands ≡ false → (k : ℕ) → IsMarked m k → IsMarked m' k) → IsKept contents number sizes Image (n + 1) (list ++ news) l' m'
    after_step stands m' move same le settled certain fresh old = record {
      same = move.sizes ∙ kept.same;
      numbers = numbers;
      order = omega (arith, same, le);
      past = omega (arith, same, kept.past);
      stored = stored_after stands 0 m' move fresh old;
      pending = λ way. subst (λ (k : ℕ). Image (before number k (list ++ news)) (seen_of contents l')) (sym same)
          (respects (before number m.begun (list ++ news)) (seen_of contents l) (seen_of contents l') (over _ _ (move.still way))
          (later m.begun (seen_of contents l) kept.past (kept.pending (move.begun_before way refl))));
      settled = λ is. settled is ∙ sym same;
      certain = certain;
    }

    made : (stands point : Bool) → stands ≡ point → IsMove contents false stands l l' → IsKept contents number sizes Image (n + 1) (list ++ news) l' (record m { cut = if point then m.begun else m.cut })
    made true true e move = after_step true (record m { cut = m.begun }) move refl (omega arith) (λ is. refl) (λ is. kept.certain (move.runs is)) (λ _. inl refl) (λ isnt. never (sym isnt))
    made true false e move = never (sym e)
    made false true e move = never e
    made false false e move = after_step false m move refl kept.order
        (λ is. elim (move.settles is).1 [ inl e ↦ never e | inr e ↦ kept.settled e ])
        (λ is. kept.certain (move.runs is)) (λ is. never is) (λ _ k marked. marked)

    failed : (stands point : Bool) → (stands ≡ true → point ≡ true) → is_running l'.phase ≡ false → m.doubt ≡ None → IsMove contents false stands l l'
        → IsKept contents number sizes Image (n + 1) (list ++ news) l' (record m { doubt = if point then Some m.begun else m.doubt })
    failed stands true may halted none move = after_step stands (record m { doubt = Some m.begun }) move refl kept.order
        (λ is. never (sym halted ∙ settled_runs l'.phase is)) (λ is. never (sym halted ∙ is))
        (λ _. inr refl) (λ _ k marked. elim marked [ inl e ↦ inl e | inr e ↦ absurd (cc (sym e ∙ none)) ])
    failed stands false may halted none move = after_step stands m move refl kept.order
        (λ is. never (sym halted ∙ settled_runs l'.phase is)) (λ is. never (sym halted ∙ is))
        (λ is. never (may is)) (λ _ k marked. marked)

    -- a step of a commit
    pub kept_write : (r : Progress) → IsCommitMove contents r l l' → m.doubt ≡ None → IsKept contents number sizes Image (n + 1) (list ++ news) l' (after_write (is_point (length l.group) l.phase) r m)
    kept_write Waits step none = kept_plain (subst (λ (t : Bool). IsMove contents false t l l') step.says step.move)
    kept_write Wrote step none = made step.stands (is_point (length l.group) l.phase) step.says step.move
    kept_write Ended step none = made step.stands (is_point (length l.group) l.phase) step.says step.move
    kept_write Failed step none = failed step.stands (is_point (length l.group) l.phase) step.says step.halts none step.move

-- ---- transactions

module _ (n : ℕ) (m : Marks) (since : ℕ → Option ℕ) (ended : List Span) (whole : AreWhole n m since ended) where
  older : AllByRecursion (λ (s : Span). s.to < n + 1) ended
  older = all_map (λ (s : Span). s.to < n) (λ (s : Span). s.to < n + 1) ended (λ s lt. omega (arith, lt)) whole.past

  -- a transaction begins in event n, or none does
  pub whole_join : (since' : ℕ → Option ℕ) → m.begun ≤ n → ((h from : ℕ) → since' h ≡ Some from → (from ≡ n) ⊎ (since h ≡ Some from)) → AreWhole (n + 1) m since' ended
  whole_join since' le joins = record {
    running = λ h from is. elim (joins h from is) [ inl e ↦ omega (arith, e, le) | inr e ↦ whole.running h from e ];
    past = older;
    at_begun = whole.at_begun;
    at_cut = whole.at_cut;
    at_doubt = whole.at_doubt;
  }

  -- one ends with it
  pub whole_leave : (hart from : ℕ) (since' : ℕ → Option ℕ) → m.cut ≤ m.begun → since hart ≡ Some from → ((h k : ℕ) → since' h ≡ Some k → since h ≡ Some k) → AreWhole (n + 1) m since' (record { from = from; to = n } ∷ ended)
  whole_leave hart from since' order was leaves = record {
    running = λ h k is. whole.running h k (leaves h k is);
    past = (omega arith, older);
    at_begun = (inr (whole.running hart from was), whole.at_begun);
    at_cut = (inr (let a = whole.running hart from was in omega (arith, a, order)), whole.at_cut);
    at_doubt = whole.at_doubt;
  }

  -- so no mark is within a transaction
  pub apart_at : (k : ℕ) → IsMarked m k → AllByRecursion (IsApart k) ended
  apart_at k marked = elim marked [
    | inl e ↦ subst (λ (j : ℕ). AllByRecursion (IsApart j) ended) (sym e) whole.at_cut
    | inr e ↦ subst (λ (j : ℕ). AllByRecursion (IsApart j) ended) (sym (whole.at_doubt k e)) whole.at_begun
  ]

-- ---- runs

module _ {D E : Type 0} (contents : D → List (List ℕ)) (number : E → ℕ) (sizes : Super) (Image : List E → Blocks → Type 0)
    (respects : (list : List E) (a b : Blocks) → AgreeOutside sizes a b → Image list a → Image list b)
    (n : ℕ) (lists : ℕ → List E) (logs : ℕ → LogState D) (marks : ℕ → Marks) (story : IsStory contents number sizes Image n lists logs marks) where
  pub record At (i : ℕ) : Type 0 where
    pub kept : IsKept contents number sizes Image i (lists i) (logs i) (marks i)
    pub doubtful : (k : ℕ) → (marks i).doubt ≡ Some k → k ≡ (marks i).begun

  first : At 0
  first = record {
    kept = record {
      same = story.same;
      numbers = subst (λ (l : List E). AllByRecursion (λ e. number e < 0) l) (sym story.empty) tt;
      order = subst (λ (m : Marks). m.cut ≤ m.begun) (sym story.unmarked) (omega arith);
      past = subst (λ (m : Marks). m.begun ≤ 0) (sym story.unmarked) (omega arith);
      stored = (0, inl (sym (ap (λ (m : Marks). m.cut) story.unmarked)), subst (λ (l : List E). Image (before number 0 l) (recovered_of contents (logs 0))) (sym story.empty) story.fresh);
      pending = λ way. never (sym (ap is_under_way story.idle) ∙ way);
      settled = λ is. ap (λ (m : Marks). m.cut) story.unmarked ∙ sym (ap (λ (m : Marks). m.begun) story.unmarked);
      certain = λ is. ap (λ (m : Marks). m.doubt) story.unmarked;
    };
    doubtful = λ k is. absurd (cc (sym is ∙ ap (λ (m : Marks). m.doubt) story.unmarked));
  }

  doubt_left : (i : ℕ) (r : AfterLeave) (m : Marks) → m.doubt ≡ None → (after_leave i r m).doubt ≡ None
  doubt_left i Free m none = none
  doubt_left i Commits m none = none

  doubt_written : (t : Bool) (r : Progress) (m : Marks) → m.doubt ≡ None → (k : ℕ) → (after_write t r m).doubt ≡ Some k → k ≡ (after_write t r m).begun
  doubt_written t Waits m none k is = absurd (cc (sym is ∙ none))
  doubt_written t Wrote m none k is = absurd (cc (sym is ∙ none))
  doubt_written t Ended m none k is = absurd (cc (sym is ∙ none))
  doubt_written true Failed m none k is = (let e : m.begun ≡ k = cc is in sym e)
  doubt_written false Failed m none k is = absurd (cc (sym is ∙ none))

  -- the state after an event, with its list and marks as the event gives them
  after : (i : ℕ) → (news : List E) → lists (i + 1) ≡ lists i ++ news → (m : Marks) → marks (i + 1) ≡ m → IsKept contents number sizes Image (i + 1) (lists i ++ news) (logs (i + 1)) m
      → ((k : ℕ) → m.doubt ≡ Some k → k ≡ m.begun) → At (i + 1)
  after i news grown m is kept doubtful = record {
    kept = subst (λ (l : List E). IsKept contents number sizes Image (i + 1) l (logs (i + 1)) (marks (i + 1))) (sym grown)
        (subst (λ (x : Marks). IsKept contents number sizes Image (i + 1) (lists i ++ news) (logs (i + 1)) x) (sym is) kept);
    doubtful = subst (λ (x : Marks). (k : ℕ) → x.doubt ≡ Some k → k ≡ x.begun) (sym is) doubtful;
  }

  one : (i : ℕ) → i < n → At i → At (i + 1)
  one i lt at =
      let grown = story.grows i lt in
      let kept = at.kept in
      let past : (k : ℕ) → (marks i).doubt ≡ Some k → k ≤ i = (λ k is. let e = at.doubtful k is in omega (arith, e, kept.past)) in
      elim (story.does i lt) [
        | inl p ↦ after i grown.0 grown.1 (marks i) p.1
            (kept_plain contents number sizes Image respects i (lists i) grown.0 (logs i) (logs (i + 1)) (marks i) kept grown.2 past p.0) at.doubtful
        | inr rest ↦ elim rest [
          | inl p ↦
              let none = kept.certain p.2 in
              after i grown.0 grown.1 (after_leave i p.0 (marks i)) p.4
              (kept_leave contents number sizes Image respects i (lists i) grown.0 (logs i) (logs (i + 1)) (marks i) kept grown.2 past p.0 p.1 none
              (λ begins. subst (λ (l : List E). Image l (seen_of contents (logs (i + 1)))) grown.1 (story.quiet (i + 1) (omega (arith, lt)) (p.1.alone begins) p.3)))
              (λ k is. absurd (cc (sym is ∙ doubt_left i p.0 (marks i) none)))
          | inr p ↦
              let none = kept.certain p.2 in
              after i grown.0 grown.1 (after_write (is_point (length (logs i).group) (logs i).phase) p.0 (marks i)) p.3
              (kept_write contents number sizes Image respects i (lists i) grown.0 (logs i) (logs (i + 1)) (marks i) kept grown.2 past p.0 p.1 none)
              (doubt_written (is_point (length (logs i).group) (logs i).phase) p.0 (marks i) none)
        ]
      ]

  pub all : (i : ℕ) → i ≤ n → At i
  all zero le = first
  all (suc i) le = subst At (add-one i) (one i (omega (arith, le)) (all i (omega (arith, le))))

  -- marks never fall
  grew_left : (i : ℕ) (r : AfterLeave) (m : Marks) → m.begun ≤ i → (m.begun ≤ (after_leave i r m).begun) × (m.cut ≤ (after_leave i r m).cut)
  grew_left i Free m le = (omega arith, omega arith)
  grew_left i Commits m le = (omega (arith, le), omega arith)

  grew_written : (t : Bool) (r : Progress) (m : Marks) → m.cut ≤ m.begun → (m.begun ≤ (after_write t r m).begun) × (m.cut ≤ (after_write t r m).cut)
  grew_written t Waits m le = (omega arith, omega arith)
  grew_written true Wrote m le = (omega arith, le)
  grew_written false Wrote m le = (omega arith, omega arith)
  grew_written true Ended m le = (omega arith, le)
  grew_written false Ended m le = (omega arith, omega arith)
  grew_written t Failed m le = (omega arith, omega arith)

  grew : (i : ℕ) → i < n → ((marks i).begun ≤ (marks (i + 1)).begun) × ((marks i).cut ≤ (marks (i + 1)).cut)
  grew i lt =
      let kept = (all i (omega (arith, lt))).kept in
      let same : (m : Marks) → marks (i + 1) ≡ m → ((marks i).begun ≤ m.begun) × ((marks i).cut ≤ m.cut) → ((marks i).begun ≤ (marks (i + 1)).begun) × ((marks i).cut ≤ (marks (i + 1)).cut) =
      (λ m is h. subst (λ (x : Marks). ((marks i).begun ≤ x.begun) × ((marks i).cut ≤ x.cut)) (sym is) h) in
      elim (story.does i lt) [
        | inl p ↦ same (marks i) p.1 (omega arith, omega arith)
        | inr rest ↦ elim rest [
          | inl p ↦ same (after_leave i p.0 (marks i)) p.4 (grew_left i p.0 (marks i) kept.past)
          | inr p ↦ same (after_write (is_point (length (logs i).group) (logs i).phase) p.0 (marks i)) p.3 (grew_written (is_point (length (logs i).group) (logs i).phase) p.0 (marks i) kept.order)
        ]
      ]

  pub risen : (i more : ℕ) → i + more ≤ n → ((marks i).begun ≤ (marks (i + more)).begun) × ((marks i).cut ≤ (marks (i + more)).cut)
  risen i zero le = subst (λ (j : ℕ). ((marks i).begun ≤ (marks j).begun) × ((marks i).cut ≤ (marks j).cut)) (sym (add-zero i)) (omega arith, omega arith)
  risen i (suc more) le =
      let before = risen i more (omega (arith, le)) in
      let step = grew (i + more) (omega (arith, le)) in
      subst (λ (j : ℕ). ((marks i).begun ≤ (marks j).begun) × ((marks i).cut ≤ (marks j).cut)) (let e : i + more + 1 ≡ i + suc more = omega arith in e)
      (omega (arith, before.0, step.0), omega (arith, before.1, step.1))

  -- Event i is a leave that began a commit. When that commit has reached a settled phase, the cut has that leave or a
  -- later one, and keeps it. So it is when its hart replies.
  pub stored_at_reply : (i later more : ℕ) → (marks (i + 1)).begun ≡ i + 1 → i + 1 + later + more ≤ n → is_settled (logs (i + 1 + later)).phase ≡ true → i < (marks (i + 1 + later + more)).cut
  stored_at_reply i later more begun le settled =
      let to = risen (i + 1) later (omega (arith, le)) in
      let on = risen (i + 1 + later) more le in
      let is = (all (i + 1 + later) (omega (arith, le))).kept.settled settled in
      omega (arith, begun, to.0, on.1, is)

module _ (n : ℕ) (m : Marks) (since : ℕ → Option ℕ) (ended : List Span) (whole : AreWhole n m since ended) where
  begins_whole : m.doubt ≡ None → ((h k : ℕ) → since h ≡ Some k → ⊥) → AreWhole n (record m { begun = n }) since ended
  begins_whole none alone = record {
    running = λ h k is. absurd (alone h k is);
    past = whole.past;
    at_begun = all_map (λ (s : Span). s.to < n) (λ (s : Span). IsApart n s) ended (λ s lt. inl lt) whole.past;
    at_cut = whole.at_cut;
    at_doubt = λ k is. absurd (cc (sym is ∙ none));
  }

  written_whole : (point : Bool) (r : Progress) → AreWhole n (after_write point r m) since ended
  written_whole point Waits = whole
  written_whole true Wrote = record { running = whole.running; past = whole.past; at_begun = whole.at_begun; at_cut = whole.at_begun; at_doubt = whole.at_doubt }
  written_whole false Wrote = whole
  written_whole true Ended = record { running = whole.running; past = whole.past; at_begun = whole.at_begun; at_cut = whole.at_begun; at_doubt = whole.at_doubt }
  written_whole false Ended = whole
  written_whole true Failed = record { running = whole.running; past = whole.past; at_begun = whole.at_begun; at_cut = whole.at_cut; at_doubt = λ k is. let e : m.begun ≡ k = cc is in sym e }
  written_whole false Failed = whole

turned : (n : ℕ) (m : Marks) (since since' : ℕ → Option ℕ) (ended ended' : List Span) → m.cut ≤ m.begun → m.begun ≤ n → AreWhole n m since ended → Turns n since since' ended ended' → AreWhole (n + 1) m since' ended'
turned n m since since' ended ended' order past whole turns = elim turns [
  | inl t ↦ subst (λ (l : List Span). AreWhole (n + 1) m since' l) (sym t.0) (whole_join n m since ended whole since' past t.1)
  | inr t ↦ subst (λ (l : List Span). AreWhole (n + 1) m since' l) (sym t.3) (whole_leave n m since ended whole t.0 t.1 since' order t.2 t.4)
]

module _ {D E : Type 0} (contents : D → List (List ℕ)) (number : E → ℕ) (sizes : Super) (Image : List E → Blocks → Type 0)
    (respects : (list : List E) (a b : Blocks) → AgreeOutside sizes a b → Image list a → Image list b)
    (n : ℕ) (lists : ℕ → List E) (logs : ℕ → LogState D) (marks : ℕ → Marks) (story : IsStory contents number sizes Image n lists logs marks)
    (since : ℕ → ℕ → Option ℕ) (ended : ℕ → List Span) (spans : IsSpanned n logs since ended) where
  next_whole : (i : ℕ) → i < n → AreWhole i (marks i) (since i) (ended i) → AreWhole (i + 1) (marks (i + 1)) (since (i + 1)) (ended (i + 1))
  next_whole i lt whole =
      let kept = (all contents number sizes Image respects n lists logs marks story i (omega (arith, lt))).kept in
      let after = turned i (marks i) (since i) (since (i + 1)) (ended i) (ended (i + 1)) kept.order kept.past whole (spans.turns i lt) in
      let as_ : (m : Marks) → marks (i + 1) ≡ m → AreWhole (i + 1) m (since (i + 1)) (ended (i + 1)) → AreWhole (i + 1) (marks (i + 1)) (since (i + 1)) (ended (i + 1)) =
      (λ m is w. subst (λ (x : Marks). AreWhole (i + 1) x (since (i + 1)) (ended (i + 1))) (sym is) w) in
      elim (story.does i lt) [
        | inl p ↦ as_ (marks i) p.1 after
        | inr rest ↦ elim rest [
          | inl p ↦ as_ (after_leave i p.0 (marks i)) p.4 (left_whole i lt p.0 (kept.certain p.2) after (λ begins h k is. let one = spans.joins (i + 1) (omega (arith, lt)) h k is in let none = p.1.alone begins in omega (arith, one, none)))
          | inr p ↦ as_ (after_write (is_point (length (logs i).group) (logs i).phase) p.0 (marks i)) p.3
              (written_whole (i + 1) (marks i) (since (i + 1)) (ended (i + 1)) after (is_point (length (logs i).group) (logs i).phase) p.0)
        ]
      ]
    where
      left_whole : (i : ℕ) → i < n → (r : AfterLeave) → (marks i).doubt ≡ None → AreWhole (i + 1) (marks i) (since (i + 1)) (ended (i + 1)) → (begins_at r ≡ true → (h k : ℕ) → since (i + 1) h ≡ Some k → ⊥)
          → AreWhole (i + 1) (after_leave i r (marks i)) (since (i + 1)) (ended (i + 1))
      left_whole i lt Free none after alone = after
      left_whole i lt Commits none after alone = begins_whole (i + 1) (marks i) (since (i + 1)) (ended (i + 1)) after none (alone refl)

  first_whole : AreWhole 0 (marks 0) (since 0) (ended 0)
  first_whole = subst (λ (m : Marks). AreWhole 0 m (since 0) (ended 0)) (sym story.unmarked) (subst (λ (l : List Span). AreWhole 0 no_marks (since 0) l) (sym spans.none)
      (record { running = λ h k is. absurd (cc (sym is ∙ spans.first h)); past = tt; at_begun = tt; at_cut = tt; at_doubt = λ k is. absurd (cc is) }))

  pub all_whole : (i : ℕ) → i ≤ n → AreWhole i (marks i) (since i) (ended i)
  all_whole zero le = first_whole
  all_whole (suc i) le = subst (λ (j : ℕ). AreWhole j (marks j) (since j) (ended j)) (add-one i) (next_whole i (omega (arith, le)) (all_whole i (omega (arith, le))))

  -- a mark is within no transaction that has ended, and those that run began after it
  pub none_in_part : (i : ℕ) → i ≤ n → (k : ℕ) → IsMarked (marks i) k → AllByRecursion (IsApart k) (ended i) × ((h from : ℕ) → since i h ≡ Some from → k ≤ from)
  none_in_part i le k marked =
      let whole = all_whole i le in
      let kept = (all contents number sizes Image respects n lists logs marks story i le).kept in (
        apart_at i (marks i) (since i) (ended i) whole k marked,
        λ h from is.
            let a = whole.running h from is in
            elim marked [ inl e ↦ omega (arith, e, a, kept.order) | inr e ↦ let b = whole.at_doubt k e in omega (arith, a, b) ],
      )
