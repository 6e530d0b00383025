-- What a stop leaves: the tree of the state after the events that a mark counts.
use Rattle.run_laws.proofs.Vocabulary.{◌≡◌, inl, inr, ℕ, zero, suc, ◌+◌, ◌≤◌, ◌<◌, false, List, [], ◌∷◌, ◌++◌, length, get_or, take, refl, sym, subst, ap, ◌∙◌, arith, add-one, take_more, take_all, Super, sizes_of, Call, Placed, IsNamedPart, tree_of, tree_in, IsRecoveredSo, Marks, AgreeOutside, joined_count as joined, seen_of, IsMarked, no_marks, before, Theory, EventOf as Event, Step, State, IsHonest, AllHonest, next, run, Sound, run-append, sound_run, Outside, Passes, block_calls, marks_after, marks_next, log_at, AreEventsOn, disk_after, marks_at, state_after, itself, log_in, next_now, Followed, followed_on, stored_respects, itself_stored, quiet_stored, first_state, first_followed, first_image, next_same}
use Rattle.group_log.specs.CrashLaw.{Blocks}
use Rattle.run_laws.proofs.Numbered.{before_numbered, entry, long_numbered, numbered}

-- ---- a list's first events

module _ (L : Theory) where
  abbrev EventIn : Type 0
  EventIn = Event L.Call L.M.Outside

  pub honest_first : (n : ℕ) (es : List (Event L.Call L.M.Outside)) (s : State L) → AllHonest L es s → AllHonest L (take n es) s
  honest_first zero es s honest = tt
  honest_first (suc n) [] s honest = tt
  honest_first (suc n) (e ∷ es) s honest = (honest.0, honest_first n es (next L e s) honest.1)

  honest_next : (n : ℕ) (es : List EventIn) (d : EventIn) (s : State L) → n < length es → AllHonest L es s
      → IsHonest L (get_or es n d) (run L (take n es) s)
  honest_next n [] d s lt honest = absurd (omega (arith, lt))
  honest_next zero (e ∷ es) d s lt honest = honest.0
  honest_next (suc n) (e ∷ es) d s lt honest = honest_next n es d (next L e s) (omega (arith, lt)) honest.1

module _ (sizes : Super) where
  marks_more : (es : List (Event Call Outside)) (e : Event Call Outside) (s : State (block_calls sizes)) (m : Marks)
      → marks_after sizes (es ++ e ∷ []) s m ≡ marks_next sizes e (run (block_calls sizes) es s) (marks_after sizes es s m)
  marks_more [] e s m = refl
  marks_more (x ∷ es) e s m = marks_more es e (next (block_calls sizes) x s) (marks_next sizes x s m)

-- ---- the disk, event by event

module _ (disk : List (List ℕ)) where
  -- the disk has what has names in the state's tree
  abbrev pub HasTreeOf : State (block_calls (sizes_of disk)) → List (List ℕ) → Type 0
  HasTreeOf s d = IsNamedPart ((block_calls (sizes_of disk)).M.tree s.world).tree (tree_of (tree_in d))

-- A mark counts the first of the events, and the disk has the tree of the state after those.
pub record Leaves (disk : List (List ℕ)) (failures : ℕ) (events : List (Event Call Outside)) : Type 0 where
  pub count : ℕ
  pub marked : IsMarked (marks_at disk failures events) count
  pub past : count ≤ length events
  pub named : HasTreeOf disk (state_after disk failures (take count events)) (disk_after disk failures events)

module _ (disk : List (List ℕ)) (failures : ℕ) (events : List (Event Call Outside)) (on : AreEventsOn disk failures events) where
  abbrev S : Super
  S = sizes_of disk

  abbrev L : Theory
  L = block_calls S

  abbrev start : State L
  start = first_state disk failures on.mountable

  -- after the first n events
  abbrev state : ℕ → State L
  state n = run L (take n events) start

  abbrev marks : ℕ → Marks
  marks n = marks_after S (take n events) start no_marks

  abbrev event : ℕ → Event Call Outside
  event n = get_or events n (Step 0 Passes)

  first_more : (n : ℕ) → n < length events → take (suc n) events ≡ take n events ++ event n ∷ []
  first_more n lt = ap (λ (k : ℕ). take k events) (sym (add-one n)) ∙ take_more events n (Step 0 Passes) lt

  state_next : (n : ℕ) → n < length events → state (suc n) ≡ next L (event n) (state n)
  state_next n lt =
      ap (λ (es : List (Event Call Outside)). run L es start) (first_more n lt)
      ∙ run-append L (take n events) (event n ∷ []) start

  marks_next_are : (n : ℕ) → n < length events → marks (suc n) ≡ marks_next S (event n) (state n) (marks n)
  marks_next_are n lt =
      ap (λ (es : List (Event Call Outside)). marks_after S es start no_marks) (first_more n lt)
      ∙ marks_more S (take n events) (event n) start no_marks

  -- each disk that recovery would leave so has the tree after the events that the list's length counts
  abbrev Image : List Placed → Blocks → Type 0
  Image list blocks = (d : List (List ℕ)) → length d ≡ length disk → IsRecoveredSo S blocks d → HasTreeOf disk (state (length list)) d

  respects : (list : List Placed) (a b : Blocks) → AgreeOutside S a b → Image list a → Image list b
  respects list a b agree image = stored_respects disk failures on.mountable (HasTreeOf disk (state (length list))) a b agree image

  abbrev Follows : State L → List Placed → Marks → Type 0
  Follows s list m = Followed S (length disk) Image s list m

  abbrev IsAt : ℕ → Type 0
  IsAt n = Follows (state n) (numbered n) (marks n) × ((state n).now ≡ n)

  one_more : (n : ℕ) → n < length events → IsAt n → IsAt (suc n)
  one_more n lt is =
      let e = event n in
      let s = state n in
      let t = next L e s in
      let honest : IsHonest L e s = honest_next L n events (Step 0 Passes) start lt on.honest in
      let f = is.0 in
      let after : Sound L t = sound_run L (e ∷ []) s f.sound (honest, tt) in
      let same = next_same disk failures on.mountable e s (marks n) f honest in
      let counts : t.now ≡ s.now + 1 = next_now S e s in
      let now : (state (suc n)).now ≡ s.now + 1 = ap (λ (u : State L). u.now) (state_next n lt) ∙ counts in
      let log = log_at S t in
      let quiet : t.stopped ≡ false → joined log.members ≡ 0 → Image (numbered (suc n)) (seen_of itself (log_in log)) =
      (λ runs none d long so.
      subst (λ (k : ℕ). HasTreeOf disk (state k) d) (sym (long_numbered (suc n)))
      (subst (λ (u : State L). HasTreeOf disk u d) (sym (state_next n lt))
      (quiet_stored disk failures on.mountable t after runs same.0 same.1 none d long so).1)) in
      let g : Follows t (numbered (suc n)) (marks_next S e s (marks n)) =
      followed_on S (length disk) Image respects e s (numbered n) (entry n ∷ []) (marks n) f honest (sym is.1, tt) counts quiet in (
        subst (λ (m : Marks). Follows (state (suc n)) (numbered (suc n)) m) (sym (marks_next_are n lt))
            (subst (λ (u : State L). Follows u (numbered (suc n)) (marks_next S e s (marks n))) (sym (state_next n lt)) g),
        (let before_it = is.1 in omega (arith, now, before_it)),
      )

  is_at : (n : ℕ) → n ≤ length events → IsAt n
  is_at zero le = (
    first_followed disk failures on.mountable Image respects (λ d long so. (first_image disk failures on.mountable d long so).1),
    refl,
  )
  is_at (suc n) le = one_more n (omega (arith, le)) (is_at n (omega (arith, le)))

  abbrev all : ℕ
  all = length events

  all_are : take all events ≡ events
  all_are = take_all all events (omega arith)

  pub left : Leaves disk failures events
  left =
      let at = is_at all (omega arith) in
      let f = at.0 in
      let now = at.1 in
      let stored = f.kept.stored in
      let k = stored.0 in
      let l = log_at S (state all) in
      let past : k ≤ all = elim stored.1 [
        | inl is ↦ (let p = f.kept.order in let q = f.kept.past in omega (arith, is, p, q, now))
        | inr is ↦ (let d = f.doubtful k is in omega (arith, d, now))
      ] in
      let so_many : length (before k (numbered all)) ≡ k = before_numbered k all ∙ omega (arith, past) in
      let image = stored.2 in
      let stands = image l.contents f.long (itself_stored disk failures on.mountable l f.whole f.kept.same) in
      let named : HasTreeOf disk (state k) l.contents = subst (λ (n : ℕ). HasTreeOf disk (state n) l.contents) so_many stands in
      record {
        count = k;
        marked = subst (λ (es : List (Event Call Outside)). IsMarked (marks_at disk failures es) k) all_are stored.1;
        past = past;
        named = subst (λ (es : List (Event Call Outside)). HasTreeOf disk (state k) (disk_after disk failures es)) all_are named;
      }
