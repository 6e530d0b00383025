-- Along a run each hart's call takes so, and has in hand what it takes.
use Rattle.std.specs.Prelude.{◌≡◌, ℕ, suc, Bool, true, false, List, [], ◌∷◌, ◌++◌, Option, Some, None, length}
use Rattle.calls_on_blocks.proofs.Vocabulary.{refl, sym, ◌∙◌, ap, subst, append_assoc, append-nil}
use Rattle.atomic_programs.proofs.Explains.{sound_keeps}
use Rattle.atomic_programs.proofs.Reached.{run-append, sound_fresh, sound_run}
use Rattle.atomic_programs.specs.Calls.{AllHonest, Began, Begins, Event, Refuses, Run, Sound, Start, State, Step, Theory, begun, busy_in, fresh, next, run, start_run, step_run, step_unless}
use Rattle.calls_on_blocks.proofs.Lawful.{lawful}
use Rattle.calls_on_blocks.specs.Theory.{block_calls}
use Rattle.fs_layout.specs.declared.superblock.Super.{Super}
use Rattle.plain_tree.specs.declared.call.Call.{Call}
use Rattle.run_laws.proofs.Lowered.{lowered_lawful}
use Rattle.run_laws.proofs.SameRuns.{honest_same, run_same}
use Rattle.run_laws.specs.UnderWay.{GoesOnAsItActs}
use Rattle.run_laws.specs.Vocabulary.{Outside}
use Rattle.run_laws.specs.WholeInodes.{lowered_inode_calls}
use Rattle.kept_histories.proofs.HandSteps.{InHands, event_on}
use Rattle.kept_histories.proofs.Basics.{longer}

module _ (L : Theory) where
  first_honest : (es rest : List (Event L.Call L.M.Outside)) (s : State L) → AllHonest L (es ++ rest) s → AllHonest L es s × AllHonest L rest (run L es s)
  first_honest [] rest s honest = (tt, honest)
  first_honest (e ∷ es) rest s honest = let h = first_honest es rest (next L e s) honest.1 in ((honest.0, h.0), h.1)

  -- a world that has stopped stays so
  begun_stays : (h : ℕ) (call : L.Call) (s : State L) (b : Began L.Refusal L.M.World) → (begun L h call s b).after.stopped ≡ s.stopped
  begun_stays h call s (Refuses why) = refl
  begun_stays h call s (Begins w) = refl

  start_stays : (h : ℕ) (call : L.Call) (s : State L) (o : Option (Run L)) → (start_run L h call s o).after.stopped ≡ s.stopped
  start_stays h call s None = begun_stays h call s (L.start h call (busy_in L s) s.world)
  start_stays h call s (Some r) = refl

  stays_on : (h : ℕ) (x : L.M.Outside) (s : State L) (o : Option (Run L)) → s.stopped ≡ true → (step_run L h x s o).after.stopped ≡ true
  stays_on h x s None on = on
  stays_on h x s (Some r) on = ap (λ (b : Bool). (step_unless L h x s b r).after.stopped) on ∙ on

  event_stays : (e : Event L.Call L.M.Outside) (s : State L) → s.stopped ≡ true → (next L e s).stopped ≡ true
  event_stays (Start h call) s on = start_stays h call s (s.running h) ∙ on
  event_stays (Step h x) s on = stays_on h x s (s.running h) on

  pub ran_before : (e : Event L.Call L.M.Outside) (s : State L) → (next L e s).stopped ≡ false → s.stopped ≡ false
  ran_before e s off = by s.stopped refl
    where
      by : (b : Bool) → s.stopped ≡ b → s.stopped ≡ false
      by false e = e
      by true on = absurd (let q : true ≡ false = sym (event_stays e s on) ∙ off in cc)

module _ (sizes : Super) (start : (block_calls sizes).M.World) (events : List (Event Call Outside)) (goes : GoesOnAsItActs sizes start events)
    (inv : (block_calls sizes).M.Inv start) (idle : (h : ℕ) → (block_calls sizes).M.Idle h start) (honest : AllHonest (block_calls sizes) events (fresh (block_calls sizes) start)) where
  abbrev L : Theory
  L = block_calls sizes

  abbrev I : Theory
  I = lowered_inode_calls sizes

  abbrev pub after_these : List (Event Call Outside) → State (block_calls sizes)
  after_these es = run L es (fresh L start)

  honest_here : (es rest : List (Event Call Outside)) → es ++ rest ≡ events → AllHonest L es (fresh L start) × AllHonest L rest (after_these es)
  honest_here es rest is = first_honest L es rest (fresh L start) (subst (λ (z : List (Event Call Outside)). AllHonest L z (fresh L start)) (sym is) honest)

  pub sound_here : (es rest : List (Event Call Outside)) → es ++ rest ≡ events → Sound (block_calls sizes) (after_these es)
  sound_here es rest is = sound_run L es (fresh L start) (sound_fresh L start inv idle) (honest_here es rest is).0

  sound_there : (es rest : List (Event Call Outside)) → es ++ rest ≡ events → Sound I (run I es (fresh I start))
  sound_there es rest is = sound_run I es (fresh I start) (sound_fresh I start inv idle) (honest_same sizes es (fresh L start) (fresh I start) refl (honest_here es rest is).0)

  abbrev InHandsAfter : List (Event Call Outside) → Type 0
  InHandsAfter es = (after_these es).stopped ≡ false → (h : ℕ) → InHands h (after_these es).world.seen (goes.under (length es) h)

  one_more : (es : List (Event Call Outside)) (e : Event Call Outside) (rest : List (Event Call Outside)) → es ++ e ∷ rest ≡ events → InHandsAfter es → InHandsAfter (es ++ e ∷ [])
  one_more es e rest is before =
      subst (λ (z : State L). z.stopped ≡ false → (h : ℕ) → InHands h z.world.seen (goes.under (length (es ++ e ∷ [])) h)) (sym (run-append L es (e ∷ []) (fresh L start)))
      (subst (λ (n : ℕ). (next L e (after_these es)).stopped ≡ false → (h : ℕ) → InHands h (next L e (after_these es)).world.seen (goes.under n h)) (sym (longer es e)) then_)
    where
      then_ : (next L e (after_these es)).stopped ≡ false → (h : ℕ) → InHands h (next L e (after_these es)).world.seen (goes.under (suc (length es)) h)
      then_ off =
          let on = ran_before L e (after_these es) off in
          let here = sound_here es (e ∷ rest) is in
          let there = sound_there es (e ∷ rest) is in
          event_on sizes (after_these es) (run I es (fresh I start)) (I.M.tree there.first) (sound_keeps I (lowered_lawful sizes) (run I es (fresh I start)) there)
          (run_same sizes es (fresh L start) (fresh I start) refl) on (goes.under (length es)) (goes.fits es (e ∷ rest) is) (before on)
          (L.M.tree here.first) (sound_keeps L (lawful sizes) (after_these es) here) e (honest_here es (e ∷ rest) is).1.0 (goes.under (suc (length es))) (goes.leads_on es e rest is)

  forward : (done es rest : List (Event Call Outside)) → done ++ (es ++ rest) ≡ events → InHandsAfter done → InHandsAfter (done ++ es)
  forward done [] rest is has = subst InHandsAfter (sym (append-nil done)) has
  forward done (e ∷ es) rest is has =
      subst InHandsAfter (append_assoc done (e ∷ []) es)
      (forward (done ++ e ∷ []) es rest (append_assoc done (e ∷ []) (es ++ rest) ∙ is) (one_more done e (es ++ rest) is has))

  -- So each hart's call has it in hand, as long as the device hasn't failed.
  pub in_hands : (es rest : List (Event Call Outside)) → es ++ rest ≡ events → (after_these es).stopped ≡ false → (h : ℕ) → InHands h (after_these es).world.seen (goes.under (length es) h)
  in_hands es rest is = forward [] es rest is (λ off h. subst (InHands h start.seen) (sym (goes.none_yet h)) tt)
