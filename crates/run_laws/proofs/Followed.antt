-- What is under way in each hart's call, event by event.
use Rattle.run_laws.proofs.Vocabulary.{ℕ, zero, suc, Option, Some, None, List, [], ◌∷◌, ◌++◌, length, refl, subst, Super, Call, Theory, Lawful, AllHonest, EventOf as Event, Run, State, fresh, makes, next, run, Outside, HasInodes, block_calls, AreOf, lowered_inode_calls, EventDoes, Fits, GoesOnAsItActs, UnderWay}
use Rattle.atomic_programs.proofs.Explains as explained
use Rattle.run_laws.proofs.FaithfulCalls.{telling}
use Rattle.run_laws.proofs.UnderWay.{Beside, InCalls}
use Rattle.run_laws.proofs.UnderWaySteps.{event_goes}

module _ (sizes : Super) where
  abbrev L : Theory
  L = block_calls sizes

  abbrev O : Theory
  O = telling (lowered_inode_calls sizes) (AreOf sizes)

  -- these events from here on, one after the other
  abbrev pub Followed : List (Event Call Outside) → State (block_calls sizes) → (ℕ → Option UnderWay) → Type 0
  Followed [] s under = Unit {0}
  Followed (e ∷ es) s under = (now : ℕ → Option UnderWay) × EventDoes sizes e s (makes L e s) under now × ((h : ℕ) → Fits sizes ((next L e s).running h) (now h)) × Followed es (next L e s) now

  fits_in : (r : Option (Run L)) (q : Option (Run O)) (u : Option UnderWay) → InCalls sizes r q u → Fits sizes r u
  fits_in None None None i = tt
  fits_in (Some r) (Some q) (Some u) i = i.is_in
  fits_in None None (Some u) i = absurd i
  fits_in None (Some q) u i = absurd i
  fits_in (Some r) None u i = absurd i
  fits_in (Some r) (Some q) None i = absurd i

  module _ (lawful : Lawful (telling (lowered_inode_calls sizes) (AreOf sizes))) (inodes : HasInodes sizes) (base : (telling (lowered_inode_calls sizes) (AreOf sizes)).M.Tree) where
    follow : (es : List (Event Call Outside)) (s : State L) (t : State O) (under : ℕ → Option UnderWay) → Beside sizes s t under → explained.Keeps O base t → AllHonest O es t → Followed es s under
    follow [] s t under beside keeps honest = tt
    follow (e ∷ es) s t under beside keeps honest =
        let g = event_goes sizes lawful inodes base e s t under beside keeps honest.0 in (
          g.0,
          g.1,
          λ h. fits_in ((next L e s).running h) ((next O e t).running h) (g.0 h) (g.2.calls h),
          follow es (next L e s) (next O e t) g.0 g.2 (explained.Keeps-next O lawful base e t honest.0 keeps) honest.1,
        )

  -- ---- by number

  -- after this count of them
  abbrev under_at : ℕ → (es : List (Event Call Outside)) (s : State L) (under : ℕ → Option UnderWay) → Followed es s under → ℕ → Option UnderWay
  under_at zero es s under f = under
  under_at (suc n) [] s under f = under
  under_at (suc n) (e ∷ es) s under f = under_at n es (next L e s) f.0 f.3

  does_at : (es : List (Event Call Outside)) (e : Event Call Outside) (rest : List (Event Call Outside)) (s : State L) (under : ℕ → Option UnderWay) (f : Followed (es ++ e ∷ rest) s under)
      → EventDoes sizes e (run L es s) (makes L e (run L es s)) (under_at (length es) (es ++ e ∷ rest) s under f) (under_at (suc (length es)) (es ++ e ∷ rest) s under f)
  does_at [] e rest s under f = f.1
  does_at (x ∷ es) e rest s under f = does_at es e rest (next L x s) f.0 f.3

  fits_at : (es rest : List (Event Call Outside)) (s : State L) (under : ℕ → Option UnderWay) → ((h : ℕ) → Fits sizes (s.running h) (under h)) → (f : Followed (es ++ rest) s under) → (h : ℕ) → Fits sizes ((run L es s).running h) (under_at (length es) (es ++ rest) s under f h)
  fits_at [] rest s under fits f h = fits h
  fits_at (x ∷ es) rest s under fits f h = fits_at es rest (next L x s) f.0 f.2 f.3 h

  module _ (start : (block_calls sizes).M.World) (events : List (Event Call Outside)) (lawful : Lawful (telling (lowered_inode_calls sizes) (AreOf sizes))) (inodes : HasInodes sizes)
      (holds : (telling (lowered_inode_calls sizes) (AreOf sizes)).M.Inv start) (idle : (h : ℕ) → (telling (lowered_inode_calls sizes) (AreOf sizes)).M.Idle h start)
      (honest : AllHonest (telling (lowered_inode_calls sizes) (AreOf sizes)) events (fresh (telling (lowered_inode_calls sizes) (AreOf sizes)) start)) where
    abbrev none : ℕ → Option UnderWay
    none h = None

    all : Followed events (fresh L start) none
    all = follow lawful inodes (O.M.tree start) events (fresh L start) (fresh O start) none (record { world = refl; stopped = refl; calls = λ j. tt }) (explained.Keeps-fresh O start holds idle) honest

    pub goes_on_as_it_acts : GoesOnAsItActs sizes start events
    goes_on_as_it_acts = record {
      under = λ k. under_at k events (fresh L start) none all;
      none_yet = λ h. refl;
      fits = λ es rest e. subst (λ (z : List (Event Call Outside)). (f : Followed z (fresh L start) none) (h : ℕ) → Fits sizes ((run L es (fresh L start)).running h) (under_at (length es) z (fresh L start) none f h)) e
          (λ f h. fits_at es rest (fresh L start) none (λ j. tt) f h) all;
      leads_on = λ es e rest is. subst (λ (z : List (Event Call Outside)). (f : Followed z (fresh L start) none) → EventDoes sizes e (run L es (fresh L start)) (makes L e (run L es (fresh L start))) (under_at (length es) z (fresh L start) none f) (under_at (suc (length es)) z (fresh L start) none f)) is
          (λ f. does_at es e rest (fresh L start) none f) all;
    }
