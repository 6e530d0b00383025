-- In each run a transaction records at most ten different blocks.
use Rattle.run_laws.proofs.Vocabulary.{◌≡◌, ◌≢◌, ◌⊎◌, inl, inr, ◌<◌, ℕ, suc, ◌==◌, Bool, true, false, List, [], ◌∷◌, ◌++◌, Option, Some, None, if◌then◌else◌, refl, sym, ◌∙◌, ap, subst, slice_get, Super, sizes_of, Reply, Call, put, hart_count, either, eq_is, eq_self, Theory, AllHonest, Began, Begins, Refuses, EventOf, HonestStep, IsHonest, Run, Sound, Start, State, Step, all_told, begun, busy_in, changed, fresh, moved, next, start_run, step_prog, step_run, step_unless as step_of, told, tried, unchanged, Holds, IsExplained, Both, both, OpWithAnswer, PartOf as P, onto, own, began_to, Ret, Do, ExecResult, OfNext, Ran, Stops, Waits, asks, exec_result_in, Some-inj, changed_tells, begun_both, sound_explained, sound_fresh, sound_run, Outside, Own, own_of, AnswerBelow as Answer, Op, After, leaves_own, machine, Refusal, came_to, Acts, IsMountable, ShowsItsTree, mounts_show_their_trees, first, World, shared_of, begins, block_calls, child_of, served_calls, first_holds, first_idle, lawful, served_is, BeginsHere, begun_here, below_count, AllAnswer, IsHistory, WorldOf, all_honest, mountable, rests_erased, MadeStep, if_ran, step_of_call, step_of_event, step_of_program, steps_made, AreAtMostTen, JoinAndLeaveInTheLog, RecordAtMostTen, RecordInTransactions, TransactionsRecordAtMostTen, recorded_after, recorded_from, recorded_with}
use Rattle.fs_machine.specs.Premises as premises
use Rattle.fs_machine.specs.Steps as steps
use Rattle.inode_machine.specs.World as above
use Rattle.run_laws.specs.Seen.{step_unless}
use Rattle.run_laws.specs.Transactions.{recorded_in}
use Rattle.run_laws.proofs.Members.{Agrees, AgreesAfter, apart, is_in, joined_in, member_records, nobody_in, none_open, open_iff, own_agrees}
use Rattle.run_laws.proofs.Recording.{Recorded, StaysSmall}
use Rattle.run_laws.proofs.RecordingCalls.{call_small}

-- ---- after each step

-- its operation may be made when it is made
abbrev MayBeMade : MadeStep → Type 0
MayBeMade e = premises.May e.hart e.step.0 e.before

-- What is recorded is little before these steps, and after each; and each finds the log so.
abbrev IsSo : ℕ → Recorded → List MadeStep → Type 0
IsSo h o [] = AreAtMostTen o
IsSo h o (e ∷ es) = AreAtMostTen o × (Agrees h e.before.log o × MayBeMade e) × IsSo h (recorded_with h e o) es

few_then : (h : ℕ) (o : Recorded) (es fs : List MadeStep) → IsSo h o (es ++ fs) → AreAtMostTen (recorded_from h o es)
few_then h o [] [] so = so
few_then h o [] (f ∷ fs) so = so.0
few_then h o (e ∷ es) fs so = few_then h (recorded_with h e o) es fs so.2

found_then : (h : ℕ) (o : Recorded) (es fs : List MadeStep) (e : MadeStep) → IsSo h o (es ++ e ∷ fs)
    → Agrees h e.before.log (recorded_from h o es) × MayBeMade e
found_then h o [] fs e so = so.1
found_then h o (x ∷ es) fs e so = found_then h (recorded_with h x o) es fs e so.2

-- at most one step, made in this state of a world that hasn't stopped
abbrev IsOneIn : steps.State → Bool → List MadeStep → Type 0
IsOneIn st stopped [] = Unit {0}
IsOneIn st stopped (e ∷ []) = (e.before ≡ st) × (stopped ≡ false) × MayBeMade e
IsOneIn st stopped (e ∷ f ∷ es) = ⊥

so_front : (st : steps.State) (stopped : Bool) (h : ℕ) (o : Recorded) (es fs : List MadeStep) → IsOneIn st stopped es → AreAtMostTen o
    → (stopped ≡ false → Agrees h st.log o) → IsSo h (recorded_from h o es) fs → IsSo h o (es ++ fs)
so_front st stopped h o [] fs one small agrees rest = rest
so_front st stopped h o (e ∷ []) fs one small agrees rest =
    (small, (subst (λ (t : steps.State). Agrees h t.log o) (sym one.0) (agrees one.1), one.2), rest)
so_front st stopped h o (e ∷ f ∷ es) fs one small agrees rest = absurd one

module _ (sizes : Super) where
  abbrev L : Theory
  L = block_calls sizes

  abbrev Calling : Type 0
  Calling = P (block_calls sizes).M Reply

  abbrev IsSmall : Recorded → Calling → Type 0
  IsSmall o p = StaysSmall o p (λ reply u. AreAtMostTen u)

  small_now : (o : Recorded) (p : Calling) → IsSmall o p → AreAtMostTen o
  small_now o (Ret reply) small = small
  small_now o (Do op m k) small = small.0

  abbrev blocks_of : Both World above.World → steps.State
  blocks_of w = w.real.blocks.state

  ran_one : (number h : ℕ) (w : Both World above.World) (b : Bool) → b ≡ false → (op : Op) (d : ExecResult (Answer op) (Both World above.World))
      → premises.May h op (blocks_of w) → IsOneIn (blocks_of w) b (if_ran number h w op d)
  ran_one number h w b runs op Waits may = tt
  ran_one number h w b runs op (Ran a u) may = (refl, runs, may)
  ran_one number h w b runs op (Stops u) may = tt

  module _ (s : State L) (sound : Sound L s) where
    explained : IsExplained L (L.M.tree sound.first) s
    explained = sound_explained L (lawful sizes) s sound

    one_step : (e : EventOf Call Outside) → IsOneIn (blocks_of s.world) s.stopped (step_of_event sizes e s)
    one_step (Start h call) = tt
    one_step (Step h x) = of_call (s.running h) refl
      where
        of_program : s.stopped ≡ false → (p : Calling) → OfNext (L.M.May h) (asks p) s.world
            → IsOneIn (blocks_of s.world) s.stopped (step_of_program sizes h x s p)
        of_program runs (Ret reply) may = tt
        of_program runs (Do op m k) may = ran_one s.now h s.world s.stopped runs op (L.M.go h x op m s.world) may

        unless : (r : Run L) → s.running h ≡ Some r → (b : Bool) → s.stopped ≡ b → IsOneIn (blocks_of s.world) s.stopped (step_unless sizes h x s b r)
        unless r is true e = tt
        unless r is false e = of_program e r.prog (explained.may h r e is)

        of_call : (o : Option (Run L)) → s.running h ≡ o → IsOneIn (blocks_of s.world) s.stopped (step_of_call sizes h x s o)
        of_call None is = tt
        of_call (Some r) is = unless r is s.stopped refl

  -- ---- what lasts

  -- o: what each hart's transaction has recorded
  record Keeps (s : State L) (o : ℕ → Recorded) : Type 0 where
    small : (h : ℕ) → AreAtMostTen (o h)
    going : s.stopped ≡ false → (h : ℕ) (r : Run L) → s.running h ≡ Some r → IsSmall (o h) r.prog
    agrees : s.stopped ≡ false → (h : ℕ) → Agrees h (blocks_of s.world).log (o h)

  module _ (s : State L) (o : ℕ → Recorded) (keeps : Keeps s o) where
    quietly : Keeps (unchanged L s) o
    quietly = record { small = keeps.small; going = keeps.going; agrees = keeps.agrees }

    -- ---- a start

    module _ (sound : Sound L s) where
      abbrev told_all : IsExplained L (L.M.tree sound.first) s
      told_all = explained s sound

      -- a hart without a call is in no transaction
      idle_none : s.stopped ≡ false → (h : ℕ) → h < hart_count → s.running h ≡ None → o h ≡ None
      idle_none runs h lt none =
          let holds : L.M.Inv s.world = subst (λ (b : Bool). Holds L b s.world) runs told_all.holds in
          let out : is_in (slice_get (blocks_of s.world).log.members h) ≡ false =
          sym (joined_in (blocks_of s.world).log.members h) ∙ sym (holds.0.0.members h lt) ∙ (told_all.idle h none).1.joined in
          none_open (o h) (sym (keeps.agrees runs h) ∙ out)

      begins_so : (h : ℕ) (call : Call) → s.running h ≡ None → (b : Began Refusal (Both World above.World))
          → L.start h call (busy_in L s) s.world ≡ b → Keeps (begun L h call s b).after o
      begins_so h call none (Refuses why) is = quietly
      begins_so h call none (Begins u) is = record { small = keeps.small; going = going; agrees = λ runs j. subst (λ (t : steps.State). Agrees j t.log (o j)) same (keeps.agrees runs j) }
        where
          t : World
          t = record (s.world.real) { children = put s.world.real.children h (child_of call) }

          here : BeginsHere h call (busy_in L s) (shared_of s.world.real) t u.real
          here = begun_here h call (busy_in L s) (shared_of s.world.real) t u.real
              (begun_both (began_to s.world.seen ((served_calls sizes.version).start h call (busy_in L s) s.world.seen))
              (begins sizes h call (busy_in L s) s.world.real) u is).0

          same : blocks_of s.world ≡ u.real.blocks.state
          same = ap (λ (r : World). r.blocks.state) here.same

          new : Run L
          new = record { call = call; start = s.now; prog = L.program call; count = 0; done = [] }

          going : s.stopped ≡ false → (j : ℕ) (q : Run L) → changed s.running h (Some new) j ≡ Some q → IsSmall (o j) q.prog
          going runs j q e = at (changed_tells s.running h (Some new) j (Some q) e)
            where
              at : ((j ≡ h) × (Some new ≡ Some q)) ⊎ ((j ≢ h) × (s.running j ≡ Some q)) → IsSmall (o j) q.prog
              at (inr p) = keeps.going runs j q p.1
              at (inl p) =
                  subst (λ (z : Run L). IsSmall (o j) z.prog) (Some-inj new q p.1)
                  (subst (λ (z : Recorded). IsSmall z (L.program call)) (sym (ap o p.0 ∙ idle_none runs h (below_count h here.hart) none))
                  (call_small sizes call (served_is call here.serves_it)))

      starts_so : (h : ℕ) (call : Call) (r : Option (Run L)) → s.running h ≡ r → Keeps (start_run L h call s r).after o
      starts_so h call (Some r) is = quietly
      starts_so h call None is = begins_so h call is (L.start h call (busy_in L s) s.world) refl

    -- ---- a step

    abbrev Now : List MadeStep → ℕ → Recorded
    Now es h = recorded_from h (o h) es

    stopped : (w : L.M.World) → Keeps (record { world = w; stopped = true; running = s.running; list = s.list; finished = s.finished; now = suc s.now }) o
    stopped w = record {
      small = keeps.small;
      going = λ runs. absurd (let q : true ≡ false = runs in cc);
      agrees = λ runs. absurd (let q : true ≡ false = runs in cc);
    }

    module _ (h : ℕ) (r : Run L) (is : s.running h ≡ Some r) (runs : s.stopped ≡ false) (op : Op) (m : Answer op → Option Acts)
        (k : Answer op → Calling) (asked : r.prog ≡ Do op m k) (may : premises.May h op (blocks_of s.world)) (a : Answer op) (w : Both World above.World)
        (mine : Agrees h (blocks_of w).log (recorded_after op a (o h)))
        (others : (j : ℕ) → j ≢ h → slice_get (blocks_of w).log.members j ≡ slice_get (blocks_of s.world).log.members j) where
      abbrev made : MadeStep
      made = record { number = s.now; hart = h; step = (op, a); before = blocks_of s.world }

      own_now : recorded_with h made (o h) ≡ recorded_after op a (o h)
      own_now = ap (λ (b : Bool). if b then recorded_after op a (o h) else o h) (eq_self h)

      other_now : (j : ℕ) → j ≢ h → recorded_with j made (o j) ≡ o j
      other_now j ne = elim (either (h == j)) [
        | inl same ↦ absurd (ne (sym (eq_is h j same)))
        | inr apart_ ↦ ap (λ (b : Bool). if b then recorded_after op a (o j) else o j) apart_
      ]

      asks_small : IsSmall (o h) (Do op m k)
      asks_small = subst (λ (p : Calling). IsSmall (o h) p) asked (keeps.going runs h r is)

      next_small : IsSmall (recorded_with h made (o h)) (k a)
      next_small =
          subst (λ (z : Recorded). IsSmall z (k a)) (sym own_now)
          (asks_small.1 (apart h (blocks_of s.world) (o h) (keeps.agrees runs h) op may) a)

      is_or : (j : ℕ) → (j ≡ h) ⊎ (j ≢ h)
      is_or j = elim (either (h == j)) [
        | inl same ↦ inl (sym (eq_is h j same))
        | inr apart_ ↦ inr (λ e. absurd (let q : false ≡ true = sym apart_ ∙ ap (λ (z : ℕ). h == z) e ∙ eq_self h in cc))
      ]

      small_after : (j : ℕ) → AreAtMostTen (recorded_with j made (o j))
      small_after j = elim (is_or j) [
        | inl same ↦ subst (λ (z : ℕ). AreAtMostTen (recorded_with z made (o z))) (sym same) (small_now (recorded_with h made (o h)) (k a) next_small)
        | inr ne ↦ subst AreAtMostTen (sym (other_now j ne)) (keeps.small j)
      ]

      agrees_after : (j : ℕ) → Agrees j (blocks_of w).log (recorded_with j made (o j))
      agrees_after j = elim (is_or j) [
        | inl same ↦
            subst (λ (z : ℕ). Agrees z (blocks_of w).log (recorded_with z made (o z))) (sym same)
            (subst (λ (z : Recorded). Agrees h (blocks_of w).log z) (sym own_now) mine)
        | inr ne ↦
            subst (λ (z : Recorded). Agrees j (blocks_of w).log z) (sym (other_now j ne)) (ap is_in (others j ne) ∙ keeps.agrees runs j)
      ]

      told_small : (j : ℕ) → j ≢ h → (xs : List L.M.Step) (f : Option (Run L)) (q : Run L) → s.running j ≡ f → told L xs f ≡ Some q
          → IsSmall (recorded_with j made (o j)) q.prog
      told_small j ne xs None q at e = absurd (let z : ◌≡◌ {A = Option (Run L)} None (Some q) = e in cc)
      told_small j ne xs (Some g) q at e =
          subst (λ (z : Recorded). IsSmall z q.prog) (sym (other_now j ne))
          (subst (λ (z : Run L). IsSmall (o j) z.prog) (Some-inj (record g { done = onto xs g.done }) q e) (keeps.going runs j g at))

      went_on : (did : OpWithAnswer L.M) (ps : List (ℕ × L.M.Step)) (p : Calling) → k a ≡ p
          → Keeps (moved L h s r did ps p w).after (λ j. recorded_with j made (o j))
      went_on did ps (Ret reply) e = record { small = small_after; going = λ _ j q t. at j q (changed_tells (all_told L ps s.running) h None j (Some q) t); agrees = λ _. agrees_after }
        where
          at : (j : ℕ) (q : Run L) → ((j ≡ h) × (None ≡ Some q)) ⊎ ((j ≢ h) × (all_told L ps s.running j ≡ Some q)) → IsSmall (recorded_with j made (o j)) q.prog
          at j q (inl x) = absurd (let z : None ≡ Some q = x.1 in cc)
          at j q (inr x) = told_small j x.0 (own j ps) (s.running j) q refl x.1
      went_on did ps (Do op2 m2 k2) e = record { small = small_after; going = λ _ j q t. at j q (changed_tells (all_told L ps s.running) h (Some new) j (Some q) t); agrees = λ _. agrees_after }
        where
          new : Run L
          new = record { call = r.call; start = r.start; prog = Do op2 m2 k2; count = suc r.count; done = onto (own h ps) r.done }

          at : (j : ℕ) (q : Run L) → ((j ≡ h) × (Some new ≡ Some q)) ⊎ ((j ≢ h) × (all_told L ps s.running j ≡ Some q)) → IsSmall (recorded_with j made (o j)) q.prog
          at j q (inl x) =
              subst (λ (z : ℕ). IsSmall (recorded_with z made (o z)) q.prog) (sym x.0)
              (subst (λ (z : Run L). IsSmall (recorded_with h made (o h)) z.prog) (Some-inj new q x.1)
              (subst (λ (z : Calling). IsSmall (recorded_with h made (o h)) z) e next_small))
          at j q (inr x) = told_small j x.0 (own j ps) (s.running j) q refl x.1

    module _ (h : ℕ) (r : Run L) (is : s.running h ≡ Some r) (runs : s.stopped ≡ false) (op : Op) (m : Answer op → Option Acts)
        (k : Answer op → Calling) (asked : r.prog ≡ Do op m k) (may : premises.May h op (blocks_of s.world)) where
      tried_so : (ps : Answer op → List (ℕ × L.M.Step)) (d : ExecResult (Answer op) steps.State)
          → AgreesAfter h (blocks_of s.world) (o h) (keeps.agrees runs h) (λ a. recorded_after op a (o h)) d
          → ((j : ℕ) → j ≢ h → After (λ t. own_of j t.log ≡ own_of j (blocks_of s.world).log) d)
          → let went = both (machine sizes.version) h m s.world.seen (exec_result_in (λ v. record (s.world.real) { blocks = v }) (came_to h op s.world.real.blocks d)) in
          Keeps (tried L h s r op ps k went).after (λ j. recorded_from j (o j) (if_ran s.now h s.world op went))
      tried_so ps Waits mine others = quietly
      tried_so ps (Stops t) mine others = stopped _
      tried_so ps (Ran a t) mine others =
          went_on h r is runs op m k asked may a _ mine (λ j ne. ap (λ (z : Own). z.member) (others j ne)) (op, a) (ps a) (k a) refl

    module _ (sound : Sound L s) (h : ℕ) (x : Outside) where
      steps_so : (r : Run L) → s.running h ≡ Some r → s.stopped ≡ false → (p : Calling) → r.prog ≡ p
          → OfNext (λ op v. L.M.Honest h op v x) (asks p) s.world → OfNext (L.M.May h) (asks p) s.world
          → Keeps (step_prog L h x s r p).after (Now (step_of_program sizes h x s p))
      steps_so r is runs (Ret reply) asked honest may = quietly
      steps_so r is runs (Do op m k) asked honest may =
          let st : steps.State = blocks_of s.world in
          let holds : L.M.Inv s.world = subst (λ (b : Bool). Holds L b s.world) runs (told_all sound).holds in
          tried_so h r is runs op m k asked may (λ a. L.M.places h op a (m a) s.world) (steps.exec h x op st)
          (own_agrees h st (o h) (keeps.agrees runs h) x op may) (λ j ne. leaves_own h j x op st ne holds.0.0.whole may honest)

      unless_so : (r : Run L) → s.running h ≡ Some r → (b : Bool) → s.stopped ≡ b → HonestStep L h x s.world b (Some r)
          → Keeps (step_of L h x s b r).after (Now (step_unless sizes h x s b r))
      unless_so r is true e honest = quietly
      unless_so r is false e honest = steps_so r is e r.prog refl honest ((told_all sound).may h r e is)

      runs_so : (q : Option (Run L)) → s.running h ≡ q → HonestStep L h x s.world s.stopped q
          → Keeps (step_run L h x s q).after (Now (step_of_call sizes h x s q))
      runs_so None is honest = quietly
      runs_so (Some r) is honest = unless_so r is s.stopped refl honest

    -- ---- an event

    event_so : (e : EventOf Call Outside) → Sound L s → IsHonest L e s → Keeps (next L e s) (Now (step_of_event sizes e s))
    event_so (Start h call) sound honest = starts_so sound h call (s.running h) refl
    event_so (Step h x) sound honest = runs_so sound h x (s.running h) refl honest

  all_so : (es : List (EventOf Call Outside)) (s : State L) (o : ℕ → Recorded) → Sound L s → AllHonest L es s → Keeps s o → (h : ℕ)
      → IsSo h (o h) (steps_made sizes es s)
  all_so [] s o sound honest keeps h = keeps.small h
  all_so (e ∷ es) s o sound honest keeps h =
      let one = step_of_event sizes e s in
      so_front (blocks_of s.world) s.stopped h (o h) one (steps_made sizes es (next L e s)) (one_step s sound e) (keeps.small h) (λ runs. keeps.agrees runs h)
      (all_so es (next L e s) (λ j. recorded_from j (o j) one) (sound_run L (e ∷ []) s sound (honest.0, tt)) honest.1
      (event_so s o keeps e sound honest.0) h)

-- ---- on a mounted disk

module _ (disk : List (List ℕ)) (count : ℕ) (may : IsMountable disk) (history : List (EventOf Call Outside))
    (honest : AllHonest (block_calls (sizes_of disk)) history (fresh (block_calls (sizes_of disk)) (first disk count))) where
  abbrev sizes : Super
  sizes = sizes_of disk

  shows : ShowsItsTree disk count
  shows = mounts_show_their_trees disk count may

  at_first : Keeps (sizes_of disk) (fresh (block_calls (sizes_of disk)) (first disk count)) (λ h. None)
  at_first = record {
    small = λ h. tt;
    going = λ runs h r is. absurd (let z : ◌≡◌ {A = Option (Run (block_calls sizes))} None (Some r) = is in cc);
    agrees = λ runs h. nobody_in hart_count h;
  }

  abbrev made_on : List MadeStep
  made_on = steps_made (sizes_of disk) history (fresh (block_calls (sizes_of disk)) (first disk count))

  so : (h : ℕ) → IsSo h None (steps_made (sizes_of disk) history (fresh (block_calls (sizes_of disk)) (first disk count)))
  so h =
      all_so sizes history (fresh (block_calls sizes) (first disk count)) (λ j. None)
      (sound_fresh (block_calls sizes) (first disk count) (first_holds disk count shows) (first_idle disk count shows)) honest at_first h

  few_each : RecordAtMostTen made_on
  few_each h before after is = few_then h None before after (subst (IsSo h None) is (so h))

  in_log_each : JoinAndLeaveInTheLog made_on
  in_log_each h before after e is =
      open_iff h e.before.log (recorded_in h before) (found_then h None before after e (subst (IsSo h None) is (so h))).0

  within_each : RecordInTransactions made_on
  within_each before after e b bytes is records =
      let found = found_then e.hart None before after e (subst (IsSo e.hart None) is (so e.hart)) in
      (open_iff e.hart e.before.log (recorded_in e.hart before) found.0).1
      (member_records e.hart b bytes e.before (subst (λ (op : Op). premises.May e.hart op e.before) records found.1))

pub at_most_ten : {D : Type 0} (contents : D → List (List ℕ)) (failures : D → ℕ) (w : WorldOf D)
    → TransactionsRecordAtMostTen contents failures w
at_most_ten contents failures w device events came new history mounted is =
    subst (λ (z : Super). AreSo (steps_made z history (fresh (block_calls z) (first disk count)))) (sym same)
    (few_each disk count may history honest, in_log_each disk count may history honest, within_each disk count may history honest)
  where
    AreSo : List MadeStep → Type 0
    AreSo made = RecordAtMostTen made × JoinAndLeaveInTheLog made × RecordInTransactions made

    disk : List (List ℕ)
    disk = contents w.harts.core.log.cache.device

    count : ℕ
    count = failures w.harts.core.log.cache.device

    may : IsMountable disk
    may = mountable contents failures device w.harts mounted.rests

    same : w.sizes ≡ sizes_of disk
    same = mounted.sizes ∙ sym mounted.rests.disk.sizes

    here : IsHistory contents failures (sizes_of disk) w.harts events came new history
    here = subst (λ (z : Super). IsHistory contents failures z w.harts events came new history) same is

    honest : AllHonest (block_calls (sizes_of disk)) history (fresh (block_calls (sizes_of disk)) (first disk count))
    honest =
        all_honest (sizes_of disk) history (fresh (block_calls (sizes_of disk)) (first disk count))
        (subst (AllAnswer (sizes_of disk) history) (sym (rests_erased contents failures device w.harts mounted.rests)) here.answers)
