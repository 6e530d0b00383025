-- A sound state goes on to sound ones, and gives the code its premises.
use Rattle.atomic_programs.proofs.Vocabulary.{◌≡◌, ℕ, Option, Some, None, Bool, true, false, List, [], ◌∷◌, ◌++◌, refl, sym, ◌∙◌, ap, subst, Ret, Do, plain, asks, OfNext, P, Theory, Lawful, Run, State, Event, Start, Step, Outcome, EventOutcome, HonestStep, IsHonest, AllHonest, Sound, asked, with_answer, all_asked, makes, next, run, outcomes, fresh, IsExplained, Code, IsCode, Plain, PlainMade, plain_makes, by_kind, all_by_kind, prog_of, erase, PlainHonestStep, PlainHonest, MayOf, SoundPlain, CameTo, Shown}
use Rattle.atomic_programs.proofs.Basics.{may_make, sound_keeps, explained_by, explains, erased, erase-makes}
use Rattle.atomic_programs.proofs.Tracing.{traced}

pub run-append : (L : Theory) (es fs : List (Event L.Call L.M.Outside)) (s : State L) → run L (es ++ fs) s ≡ run L fs (run L es s)
run-append L [] fs s = refl
run-append L (e ∷ es) fs s = run-append L es fs (next L e s)

pub honest-append : (L : Theory) (es fs : List (Event L.Call L.M.Outside)) (s : State L) → AllHonest L es s → AllHonest L fs (run L es s) → AllHonest L (es ++ fs) s
honest-append L [] fs s a b = b
honest-append L (e ∷ es) fs s a b = (a.0, honest-append L es fs (next L e s) a.1 b)

outcomes-more : (L : Theory) (es : List (Event L.Call L.M.Outside)) (e : Event L.Call L.M.Outside) (s : State L) → outcomes L (es ++ e ∷ []) s ≡ outcomes L es s ++ (makes L e (run L es s)).came ∷ []
outcomes-more L [] e s = refl
outcomes-more L (x ∷ es) e s = ap (λ (z : List (EventOutcome L)). (makes L x s).came ∷ z) (outcomes-more L es e (next L x s))

by_kind-more : (L : Theory) (C : Code L) (cs : List (EventOutcome L)) (c : EventOutcome L) → all_by_kind L C (cs ++ c ∷ []) ≡ all_by_kind L C cs ++ by_kind L C c ∷ []
by_kind-more L C [] c = refl
by_kind-more L C (x ∷ cs) c = ap (λ (z : List (Outcome C.Kind L.Reply L.Refusal)). by_kind L C x ∷ z) (by_kind-more L C cs c)

asked-more : {Call Outside : Type 0} (es : List (Event Call Outside)) (e : Event Call Outside) → all_asked (es ++ e ∷ []) ≡ all_asked es ++ asked e ∷ []
asked-more [] e = refl
asked-more {Call} (x ∷ es) e = ap (λ (z : List (Event Call (Unit {0}))). asked x ∷ z) (asked-more es e)

answer_asked : {Call Outside : Type 0} (e : Event Call (Unit {0})) (x : Outside) → asked (with_answer e x) ≡ e
answer_asked (Start h call) x = refl
answer_asked (Step h u) x = refl

pub sound_run : (L : Theory) (es : List (Event L.Call L.M.Outside)) (s : State L) → Sound L s → AllHonest L es s → Sound L (run L es s)
sound_run L es s q honest =
    record {
      first = q.first;
      inv = q.inv;
      idle = q.idle;
      events = q.events ++ es;
      honest = honest-append L q.events es (fresh L q.first) q.honest (subst (AllHonest L es) (sym q.is) honest);
      is = run-append L q.events es (fresh L q.first) ∙ ap (run L es) q.is;
    }

pub sound_fresh : (L : Theory) (w : L.M.World) → L.M.Inv w → ((h : ℕ) → L.M.Idle h w) → Sound L (fresh L w)
sound_fresh L w inv idle = record { first = w; inv = inv; idle = idle; events = []; honest = tt; is = refl }

pub sound_explained : (L : Theory) (laws : Lawful L) (s : State L) (q : Sound L s) → IsExplained L (L.M.tree q.first) s
sound_explained L laws s q = explained_by L laws (L.M.tree q.first) s (sound_keeps L laws s q)

module _ (L : Theory) (C : Code L) (is : IsCode L C) where
  honest_prog : (h : ℕ) (x : L.M.Outside) (w : L.M.World) (p : P L.M L.Reply) → OfNext (λ op v. C.honest h op v x) (asks (plain p)) (C.shared w) → OfNext (λ op v. L.M.Honest h op v x) (asks p) w
  honest_prog h x w (Ret a) t = tt
  honest_prog h x w (Do op m k) t = is.honest h op w x t

  honest_step : (h : ℕ) (x : L.M.Outside) (w : L.M.World) (b : Bool) (r : Option (Run L)) → PlainHonestStep L C h x (C.shared w) b (prog_of L C r) → HonestStep L h x w b r
  honest_step h x w true r t = tt
  honest_step h x w false None t = tt
  honest_step h x w false (Some r) t = honest_prog h x w r.prog t

  -- what the code says of the outside's answer is enough
  pub honest_event : (e : Event L.Call L.M.Outside) (s : State L) → PlainHonest L C e (erase L C s) → IsHonest L e s
  honest_event (Start h call) s t = tt
  honest_event (Step h x) s t = honest_step h x s.world s.stopped (s.running h) t

  pub sound_event : (e : Event L.Call L.M.Outside) (p : Plain L C) (made : PlainMade L C) → SoundPlain L C p → PlainHonest L C e p → plain_makes L C e p ≡ made → SoundPlain L C made.after
  sound_event e p made q honest makes =
      let t : PlainHonest L C e (erase L C q.state) = subst (PlainHonest L C e) (sym q.is) honest in
      record {
        state = next L e q.state;
        sound = sound_run L (e ∷ []) q.state q.sound (honest_event e q.state t, tt);
        is = ap (λ (x : PlainMade L C). x.after) (sym (erase-makes L C is e q.state) ∙ ap (plain_makes L C e) q.is ∙ makes);
      }

  may_prog : (h : ℕ) (w : L.M.World) (p : P L.M L.Reply) → OfNext (L.M.May h) (asks p) w → OfNext (C.may h) (asks (plain p)) (C.shared w)
  may_prog h w (Ret a) t = tt
  may_prog h w (Do op m k) t = is.may h op w t

  may_run : (laws : Lawful L) (s : State L) → Sound L s → s.stopped ≡ false → (h : ℕ) (r : Option (Run L)) → s.running h ≡ r → MayOf L C h (C.shared s.world) (prog_of L C r)
  may_run laws s q on h None e = tt
  may_run laws s q on h (Some r) e = may_prog h s.world r.prog (may_make L laws (L.M.tree q.first) s (sound_keeps L laws s q) h r on e)

  -- a hart's next operation may be made, as the code asks it
  pub sound_may : (laws : Lawful L) (p : Plain L C) → SoundPlain L C p → p.stopped ≡ false → (h : ℕ) → MayOf L C h p.shared (p.running h)
  sound_may laws p q on h =
      subst (λ (x : Plain L C). MayOf L C h x.shared (x.running h)) q.is
      (may_run laws q.state q.sound (ap (λ (x : Plain L C). x.stopped) q.is ∙ on) h (q.state.running h) refl)

  -- one event more
  pub came_more : (s : State L) (asks : List (Event L.Call (Unit {0}))) (e : Event L.Call (Unit {0})) (came : List (Outcome C.Kind L.Reply L.Refusal)) (o : Outcome C.Kind L.Reply L.Refusal) (p q : Plain L C) (x : L.M.Outside)
      → CameTo L C s asks came p → PlainHonest L C (with_answer e x) p → plain_makes L C (with_answer e x) p ≡ record { came = o; after = q } → CameTo L C s (asks ++ e ∷ []) (came ++ o ∷ []) q
  came_more s asks e came o p q x c honest makes_ =
      let f : Event L.Call L.M.Outside = with_answer e x in
      let t : State L = run L c.events s in
      let made : ◌≡◌ {A = PlainMade L C} (erased L C (makes L f t)) (record { came = o; after = q }) = sym (erase-makes L C is f t) ∙ ap (plain_makes L C f) c.after ∙ makes_ in
      record {
        events = c.events ++ f ∷ [];
        are = asked-more c.events f ∙ (λ i. c.are i ++ answer_asked e x i ∷ []);
        honest = honest-append L c.events (f ∷ []) s c.honest (honest_event f t (subst (PlainHonest L C f) (sym c.after) honest), tt);
        outcomes_are = ap (all_by_kind L C) (outcomes-more L c.events f s) ∙ by_kind-more L C (outcomes L c.events s) (makes L f t).came ∙ (λ i. c.outcomes_are i ++ (made i).came ∷ []);
        after = ap (erase L C) (run-append L c.events (f ∷ []) s) ∙ (λ i. (made i).after);
      }

  pub came_none : (s : State L) (p : Plain L C) → erase L C s ≡ p → CameTo L C s [] [] p
  came_none s p e = record { events = []; are = refl; honest = tt; outcomes_are = refl; after = e }

  -- the result of a run from a world at rest is explained
  pub came_shown : (laws : Lawful L) (w : L.M.World) (asks : List (Event L.Call (Unit {0}))) (came : List (Outcome C.Kind L.Reply L.Refusal)) (p : Plain L C)
      → L.M.Inv w → ((h : ℕ) → L.M.Idle h w) → CameTo L C (fresh L w) asks came p → Shown L C w asks came p
  came_shown laws w asks came p inv idle c = record { to = c; explained = explains L laws w c.events inv idle c.honest; traced = traced L w c.events }

  -- and its world is what the code has of a sound state
  pub came_sound : (w : L.M.World) (asks : List (Event L.Call (Unit {0}))) (came : List (Outcome C.Kind L.Reply L.Refusal)) (p : Plain L C)
      → L.M.Inv w → ((h : ℕ) → L.M.Idle h w) → CameTo L C (fresh L w) asks came p → SoundPlain L C p
  came_sound w asks came p inv idle c = record { state = run L c.events (fresh L w); sound = sound_run L c.events (fresh L w) (sound_fresh L w inv idle) c.honest; is = c.after }
