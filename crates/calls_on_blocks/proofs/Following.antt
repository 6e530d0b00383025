-- What recovery would make of the disk, event by event, beside any book that is kept of the events.
use Rattle.calls_on_blocks.proofs.Vocabulary.{◌≡◌, inl, inr, ℕ, ◌+◌, ◌≤◌, Bool, true, false, List, [], ◌∷◌, ◌++◌, Some, None, length, refl, sym, subst, ◌∙◌, arith, AllByRecursion, Super, Call, Placed, Progress, WaitsFor as Waits, Wrote, Ended, Failed, AfterLeave, Free, Commits, Marks, AgreeOutside, joined, seen_of, IsKept, after_leave, after_write, kept_plain, kept_leave, kept_write, Theory, Event, State, IsHonest, next, Sound, sound_run, Outside, IsWholeLog, block_calls, marks_next, at_point, log_at}
use Rattle.group_log.specs.CrashLaw.{Blocks}
use Rattle.calls_on_blocks.proofs.Moves.{itself, log_in}
use Rattle.calls_on_blocks.proofs.Events.{EventGoes, event_goes}

-- the number of an entry's event
abbrev pub event_of : Placed → ℕ
event_of e = e.event

-- The state at any moment, the entries of the events so far, and the marks: a stop leaves what the entries up to a mark make.
pub record Followed (sizes : Super) (n : ℕ) (Image : List Placed → Blocks → Type 0) (s : State (block_calls sizes)) (list : List Placed) (m : Marks) : Type 0 where
  pub sound : Sound (block_calls sizes) s
  pub whole : IsWholeLog (log_at sizes s)
  pub long : length (log_at sizes s).contents ≡ n
  pub kept : IsKept itself event_of sizes Image s.now list (log_in (log_at sizes s)) m
  pub doubtful : (k : ℕ) → m.doubt ≡ Some k → k ≤ s.now
  pub after : (k : ℕ) → m.doubt ≡ Some k → m.cut ≤ k

-- the count of events rises by one
module _ (sizes : Super) (n : ℕ) (Image : List Placed → Blocks → Type 0)
    (respects : (list : List Placed) (a b : Blocks) → AgreeOutside sizes a b → Image list a → Image list b) where
  abbrev T : Theory
  T = block_calls sizes

  -- a later moment
  none_left : (k : ℕ) (r : AfterLeave) (m : Marks) → m.doubt ≡ None → (after_leave k r m).doubt ≡ None
  none_left k Free m none = none
  none_left k Commits m none = none

  module _ (e : Event Call Outside) (s : State T) (list news : List Placed) (m : Marks) (f : Followed sizes n Image s list m) (honest : IsHonest T e s)
      (now : AllByRecursion (λ p. event_of p ≡ s.now) news) (counts : (next T e s).now ≡ s.now + 1)
      (quiet : (next T e s).stopped ≡ false → joined (log_at sizes (next T e s)).members ≡ 0 → Image (list ++ news) (seen_of itself (log_in (log_at sizes (next T e s))))) where
    abbrev t : State T
    t = next T e s

    goes : EventGoes sizes s t m (marks_next sizes e s m)
    goes = event_goes sizes e s m f.sound f.whole honest

    abbrev KeptAt : ℕ → Marks → Type 0
    KeptAt k m' = IsKept itself event_of sizes Image k (list ++ news) (log_in (log_at sizes t)) m' × ((j : ℕ) → m'.doubt ≡ Some j → (j ≤ k) × (m'.cut ≤ j))

    doubt_written : (point : Bool) (r : Progress) → m.doubt ≡ None → (k : ℕ) → (after_write point r m).doubt ≡ Some k → (k ≤ s.now + 1) × ((after_write point r m).cut ≤ k)
    doubt_written point Waits none k is = absurd (cc (sym is ∙ none))
    doubt_written point Wrote none k is = absurd (cc (sym is ∙ none))
    doubt_written point Ended none k is = absurd (cc (sym is ∙ none))
    doubt_written true Failed none k is = let a : m.begun ≡ k = cc is in let b = f.kept.past in let c = f.kept.order in (omega (arith, a, b), omega (arith, a, c))
    doubt_written false Failed none k is = absurd (cc (sym is ∙ none))

    kept_on : (m' : Marks) → m' ≡ marks_next sizes e s m → KeptAt (s.now + 1) m'
    kept_on m' is = elim goes.goes [
      | inl p ↦ subst (λ (z : Marks). KeptAt (s.now + 1) z) (sym (is ∙ p.1))
          (kept_plain itself event_of sizes Image respects s.now list news (log_in (log_at sizes s)) (log_in (log_at sizes t)) m f.kept now f.doubtful p.0, λ j d. let a = f.doubtful j d in (omega (arith, a), f.after j d))
      | inr rest ↦ elim rest [
        | inl p ↦ (let none = f.kept.certain p.2 in
            subst (λ (z : Marks). KeptAt (s.now + 1) z) (sym (is ∙ p.3)) (
              kept_leave itself event_of sizes Image respects s.now list news (log_in (log_at sizes s)) (log_in (log_at sizes t)) m f.kept now f.doubtful p.0 p.1 none (λ begins. quiet p.4 (p.1.alone begins)),
              λ j d. absurd (cc (sym d ∙ none_left s.now p.0 m none)),
            ))
        | inr p ↦ (let none = f.kept.certain p.2 in
            subst (λ (z : Marks). KeptAt (s.now + 1) z) (sym (is ∙ p.3))
            (kept_write itself event_of sizes Image respects s.now list news (log_in (log_at sizes s)) (log_in (log_at sizes t)) m f.kept now f.doubtful p.0 p.1 none, doubt_written (at_point (log_at sizes s)) p.0 none))
      ]
    ]

    pub followed_on : Followed sizes n Image t (list ++ news) (marks_next sizes e s m)
    followed_on =
        let k = subst (λ (j : ℕ). KeptAt j (marks_next sizes e s m)) (sym counts) (kept_on (marks_next sizes e s m) refl) in
        record {
          sound = sound_run T (e ∷ []) s f.sound (honest, tt);
          whole = goes.whole;
          long = goes.long ∙ f.long;
          kept = k.0;
          doubtful = λ j d. (k.1 j d).0;
          after = λ j d. (k.1 j d).1;
        }
