-- Each call's steps on the blocks are a run of its program; so a call that ends for want of a block or of an inode has looked everywhere.
use Rattle.run_laws.proofs.Vocabulary.{◌≡◌, ◌≢◌, ◌⊎◌, inl, inr, ◌<◌, ◌≤◌, ℕ, suc, Bool, true, false, List, [], ◌∷◌, ◌++◌, Option, Some, None, IsSome, refl, sym, ◌∙◌, ap, subst, arith, Super, Full, Blocks, DiskInodes, MemInodes, Reply, Call, Theory, Began, Begins, Refuses, EventOf, FinishedCall, Run, Start, State, Step, all_told, begun, busy_in, fresh, moved, next, run, start_run, step_prog, step_run, step_unless as step_of, told, tried, unchanged, In, Both, Handover, both, lowered, OpWithAnswer, PartOf as P, onto, own, Ret, Do, ExecResult, Ran, Stops, Waits, exec_result_in, Some-inj, changed_tells, Outside, AnswerBelow as Answer, NoInode, Op, dinode_at, place_in_memory, is_zero, inode_block, place_of, program, machine, nothing, P as Above, Acts, came_to, Carry, handlers, first, World, layer, block_calls, WorldOf, AnsweredStep, ComesTo, SawInUse, SawNone, AreItsOwn, CallsLookEverywhere, IsInUse, IsReferredTo, MadeStep, SeesNoBlock, SeesNoInode, answered, if_ran, step_of_call, step_of_event, step_of_program, steps_made}
use Rattle.plain_tree.specs.declared.answer.Answer.TheVariants as answers
use Rattle.fs_machine.specs.Steps as steps
use Rattle.fs_machine.specs.Steps.{Claim}
use Rattle.inode_machine.specs.World as above
use Rattle.run_laws.specs.Seen.{step_unless}
use Rattle.run_laws.proofs.Searches.{in_back, in_front, split}
use Rattle.run_laws.proofs.SearchEnds.{all_see, claims_find, seen_behind, seen_front}
use Rattle.run_laws.proofs.WantsCalls.{Blames, calls_blame, goes_or}

-- ---- from program to program

module _ (sizes : Super) where
  abbrev L : Theory
  L = block_calls sizes

  abbrev Calling : Type 0
  Calling = P (block_calls sizes).M Reply

  -- these steps lead from one program to the other
  abbrev Leads : Calling → List AnsweredStep → Calling → Type 0
  Leads (Ret a) [] q = Ret a ≡ q
  Leads (Ret a) (e ∷ es) q = ⊥
  Leads (Do op m k) [] q = Do op m k ≡ q
  Leads (Do op m k) (e ∷ es) q = (a : Answer op) × (e ≡ (op, a)) × Leads (k a) es q

  nothing_leads : (p : Calling) → Leads p [] p
  nothing_leads (Ret a) = refl
  nothing_leads (Do op m k) = refl

  leads_one : (p : Calling) (es : List AnsweredStep) (op : Op) (m : Answer op → Option Acts) (k : Answer op → Calling) (a : Answer op)
      → Leads p es (Do op m k) → Leads p (es ++ (op, a) ∷ []) (k a)
  leads_one (Ret b) [] op m k a l = absurd (let z : ◌≡◌ {A = Calling} (Ret b) (Do op m k) = l in cc)
  leads_one (Ret b) (x ∷ es) op m k a l = absurd l
  leads_one (Do op' m' k') [] op m k a l = subst (λ (z : Calling). Leads z ((op, a) ∷ []) (k a)) (sym l) (a, refl, nothing_leads (k a))
  leads_one (Do op' m' k') (x ∷ es) op m k a l = (l.0, l.1, leads_one (k' l.0) es op m k a l.2)

  abbrev reply_of : Reply → Calling → Reply
  reply_of r (Ret a) = a
  reply_of r (Do op m k) = r

  comes : (p : Calling) (es : List AnsweredStep) (r : Reply) → Leads p es (Ret r) → ComesTo p es r
  comes (Ret a) [] r l = ap (reply_of r) l
  comes (Ret a) (x ∷ es) r l = absurd l
  comes (Do op m k) [] r l = absurd (let z : ◌≡◌ {A = Calling} (Do op m k) (Ret r) = l in cc)
  comes (Do op m k) (x ∷ es) r l = (l.0, l.1, comes (k l.0) es r l.2)

  answered_one : (es : List MadeStep) (e : MadeStep) → answered (es ++ e ∷ []) ≡ answered es ++ e.step ∷ []
  answered_one [] e = refl
  answered_one (x ∷ es) e = ap (λ (z : List AnsweredStep). x.step ∷ z) (answered_one es e)

  in_either : {A : Type 0} (x : A) (xs ys : List A) → In x (xs ++ ys) → In x xs ⊎ In x ys
  in_either x [] ys i = inr i
  in_either x (z ∷ xs) ys (inl q) = inl (inl q)
  in_either x (z ∷ xs) ys (inr i) = elim (in_either x xs ys i) [ inl a ↦ inl (inr a) | inr b ↦ inr b ]

  -- ---- a call's own steps

  record Own (V : MadeStep → Type 0) (h start bound : ℕ) (p q : Calling) : Type 0 where
    steps : List MadeStep
    leads : Leads p (answered steps) q
    are : (e : MadeStep) → In e steps → V e × (e.hart ≡ h) × (start < e.number) × (e.number < bound)

  record Keeps (V : MadeStep → Type 0) (s : State (block_calls sizes)) : Type 0 where
    finished : (f : FinishedCall L) → In f s.finished → Own V f.hart f.start (suc f.number) (L.program f.call) (Ret f.reply)
    running : (h : ℕ) (r : Run L) → s.running h ≡ Some r → (r.start < s.now) × Own V h r.start s.now (L.program r.call) r.prog

  weaker : (V W : MadeStep → Type 0) (h start m n : ℕ) (p q : Calling) → ((e : MadeStep) → V e → W e) → m ≤ n → Own V h start m p q
      → Own W h start n p q
  weaker V W h start m n p q to le o =
      record {
        steps = o.steps;
        leads = o.leads;
        are = λ e i.
            (let a = o.are e i in let lt = a.3 in (to e a.0, a.1, a.2, omega (arith, le, lt)));
      }

  module _ (V : MadeStep → Type 0) (s : State (block_calls sizes)) (keeps : Keeps V s) where
    module _ (W : MadeStep → Type 0) (to : (e : MadeStep) → V e → W e) where
      later_run : (h : ℕ) (r : Run L) → s.running h ≡ Some r
          → (r.start < suc s.now) × Own W h r.start (suc s.now) (L.program r.call) r.prog
      later_run h r is =
          let k = keeps.running h r is in
          let lt = k.0 in
          (omega (arith, lt), weaker V W h r.start s.now (suc s.now) (L.program r.call) r.prog to (omega arith) k.1)

      later_finished : (f : FinishedCall L) → In f s.finished → Own W f.hart f.start (suc f.number) (L.program f.call) (Ret f.reply)
      later_finished f i =
          weaker V W f.hart f.start (suc f.number) (suc f.number) (L.program f.call) (Ret f.reply) to (omega arith) (keeps.finished f i)

      quietly : Keeps W (unchanged L s)
      quietly = record { finished = later_finished; running = later_run }

      stopped : (w : L.M.World) → Keeps W (record {
        world = w;
        stopped = true;
        running = s.running;
        list = s.list;
        finished =
            s.finished;
        now = suc s.now;
      })
      stopped w = record { finished = later_finished; running = later_run }

      told_run : (j : ℕ) (xs : List L.M.Step) (o : Option (Run L)) (q : Run L) → s.running j ≡ o → told L xs o ≡ Some q
          → (q.start < suc s.now) × Own W j q.start (suc s.now) (L.program q.call) q.prog
      told_run j xs None q is e = absurd (let z : ◌≡◌ {A = Option (Run L)} None (Some q) = e in cc)
      told_run j xs (Some r) q is e =
          subst (λ (z : Run L). (z.start < suc s.now) × Own W j z.start (suc s.now) (L.program z.call) z.prog)
          (Some-inj (record r { done = onto xs r.done }) q e) (later_run j r is)

    module _ (h : ℕ) (r : Run L) (is : s.running h ≡ Some r) (op : Op) (m : Answer op → Option Acts) (k : Answer op
        → Calling) (asks : r.prog ≡ Do op m k) (a : Answer op) where
      abbrev made : MadeStep
      made = record { number = s.now; hart = h; step = (op, a); before = s.world.real.blocks.state }

      abbrev W : MadeStep → Type 0
      W e = V e ⊎ In e (made ∷ [])

      more : Own W h r.start (suc s.now) (L.program r.call) (k a)
      more =
          let o = keeps.running h r is in
          let l = leads_one (L.program r.call) (answered o.1.steps) op m k a
          (subst (λ (z : Calling). Leads (L.program r.call) (answered o.1.steps) z) asks o.1.leads) in
          record {
            steps = o.1.steps ++ made ∷ [];
            leads = subst (λ (z : List AnsweredStep). Leads (L.program r.call) z (k a)) (sym (answered_one o.1.steps made)) l;
            are = λ e i. at o.0 o.1.steps o.1.are e (in_either e o.1.steps (made ∷ []) i);
          }
        where
          at : r.start < s.now → (steps : List MadeStep)
              → ((e : MadeStep) → In e steps → V e × (e.hart ≡ h) × (r.start < e.number) × (e.number < s.now)) → (e : MadeStep)
              → In e steps ⊎ In e (made ∷ []) → W e × (e.hart ≡ h) × (r.start < e.number) × (e.number < suc s.now)
          at lt steps are e (inl i) = let b = are e i in let n = b.3 in (inl b.0, b.1, b.2, omega (arith, n))
          at lt steps are e (inr (inl q)) =
              let n : e.number ≡ s.now = ap (λ (z : MadeStep). z.number) q in
              (inr (inl q), ap (λ (z : MadeStep). z.hart) q, omega (arith, n, lt), omega (arith, n))
          at lt steps are e (inr (inr i)) = absurd i

      after_moved : (did : OpWithAnswer L.M) (ps : List (ℕ × L.M.Step)) (w : L.M.World) (p : Calling) → k a ≡ p
          → Keeps W (moved L h s r did ps p w).after
      after_moved did ps w (Ret reply) e =
          record { finished = finished; running = λ j q t. at j q (changed_tells (all_told L ps s.running) h None j (Some q) t) }
        where
          new : FinishedCall L
          new = record { hart = h; call = r.call; start = r.start; number = s.now; count = suc r.count; reply = reply }

          finished : (f : FinishedCall L) → In f (new ∷ s.finished) → Own W f.hart f.start (suc f.number) (L.program f.call) (Ret f.reply)
          finished f (inl q) =
              subst (λ (z : FinishedCall L). Own W z.hart z.start (suc z.number) (L.program z.call) (Ret z.reply)) (sym q)
              (subst (λ (z : Calling). Own W h r.start (suc s.now) (L.program r.call) z) e more)
          finished f (inr i) = later_finished W (λ x v. inl v) f i

          at : (j : ℕ) (q : Run L) → ((j ≡ h) × (None ≡ Some q)) ⊎ ((j ≢ h) × (all_told L ps s.running j ≡ Some q))
              → (q.start < suc s.now) × Own W j q.start (suc s.now) (L.program q.call) q.prog
          at j q (inl x) = absurd (let z : None ≡ Some q = x.1 in cc)
          at j q (inr x) = told_run W (λ x v. inl v) j (own j ps) (s.running j) q refl x.1
      after_moved did ps w (Do op2 m2 k2) e =
          record {
            finished = later_finished W (λ x v. inl v);
            running = λ j q t. at j q
                (changed_tells (all_told L ps s.running) h (Some new) j (Some q) t);
          }
        where
          new : Run L
          new = record { call = r.call; start = r.start; prog = Do op2 m2 k2; count = suc r.count; done = onto (own h ps) r.done }

          mine : (r.start < suc s.now) × Own W h r.start (suc s.now) (L.program r.call) (Do op2 m2 k2)
          mine = let lt =
              (keeps.running h r is).0 in (
                omega (arith, lt),
                subst
                    (λ (z : Calling). Own W h r.start (suc s.now) (L.program r.call) z) e more,
              )

          at : (j : ℕ) (q : Run L) → ((j ≡ h) × (Some new ≡ Some q)) ⊎ ((j ≢ h) × (all_told L ps s.running j ≡ Some q))
              → (q.start < suc s.now) × Own W j q.start (suc s.now) (L.program q.call) q.prog
          at j q (inl x) =
              subst (λ (i : ℕ). (q.start < suc s.now) × Own W i q.start (suc s.now) (L.program q.call) q.prog) (sym x.0)
              (subst (λ (z : Run L). (z.start < suc s.now) × Own W h z.start (suc s.now) (L.program z.call) z.prog)
              (Some-inj new q x.1) mine)
          at j q (inr x) = told_run W (λ x v. inl v) j (own j ps) (s.running j) q refl x.1

    abbrev And : List MadeStep → MadeStep → Type 0
    And made e = V e ⊎ In e made

    after_tried : (h : ℕ) (r : Run L) → s.running h ≡ Some r → (op : Op) (m : Answer op → Option Acts) (k : Answer op → Calling)
        → r.prog ≡ Do op m k
        → (ps : Answer op → List (ℕ × L.M.Step)) (d : ExecResult (Answer op) L.M.World)
        → Keeps (And (if_ran s.now h s.world op d)) (tried L h s r op ps k d).after
    after_tried h r is op m k asks ps Waits = quietly (And []) (λ x v. inl v)
    after_tried h r is op m k asks ps (Ran a w) = after_moved h r is op m k asks a (op, a) (ps a) w (k a) refl
    after_tried h r is op m k asks ps (Stops w) = stopped (And []) (λ x v. inl v) w

    after_prog : (h : ℕ) (x : Outside) (r : Run L) → s.running h ≡ Some r → (p : Calling) → r.prog ≡ p
        → Keeps (And (step_of_program sizes h x s p)) (step_prog L h x s r p).after
    after_prog h x r is (Ret reply) e = quietly (And []) (λ x v. inl v)
    after_prog h x r is (Do op m k) e = after_tried h r is op m k e (λ a. L.M.places h op a (m a) s.world) (L.M.go h x op m s.world)

    after_unless : (h : ℕ) (x : Outside) (r : Run L) → s.running h ≡ Some r → (b : Bool)
        → Keeps (And (step_unless sizes h x s b r)) (step_of L h x s b r).after
    after_unless h x r is true = quietly (And []) (λ x v. inl v)
    after_unless h x r is false = after_prog h x r is r.prog refl

    after_step : (h : ℕ) (x : Outside) (o : Option (Run L)) → s.running h ≡ o
        → Keeps (And (step_of_call sizes h x s o)) (step_run L h x s o).after
    after_step h x None is = quietly (And []) (λ x v. inl v)
    after_step h x (Some r) is = after_unless h x r is s.stopped

    after_begun : (h : ℕ) (call : Call) (b : Began L.Refusal L.M.World) → Keeps (And []) (begun L h call s b).after
    after_begun h call (Refuses why) = quietly (And []) (λ x v. inl v)
    after_begun h call (Begins w) =
        record {
          finished = later_finished (And []) (λ x v. inl v);
          running = λ j q t. at j q
              (changed_tells s.running h (Some new) j (Some q) t);
        }
      where
        new : Run L
        new = record { call = call; start = s.now; prog = L.program call; count = 0; done = [] }

        at : (j : ℕ) (q : Run L) → ((j ≡ h) × (Some new ≡ Some q)) ⊎ ((j ≢ h) × (s.running j ≡ Some q))
            → (q.start < suc s.now) × Own (And []) j q.start (suc s.now) (L.program q.call) q.prog
        at j q (inl x) =
            subst (λ (z : Run L). (z.start < suc s.now) × Own (And []) j z.start (suc s.now) (L.program z.call) z.prog)
            (Some-inj new q x.1)
            (omega arith, record { steps = []; leads = nothing_leads (L.program call); are = λ e i. absurd i })
        at j q (inr x) = later_run (And []) (λ x v. inl v) j q x.1

    after_start : (h : ℕ) (call : Call) (o : Option (Run L)) → Keeps (And []) (start_run L h call s o).after
    after_start h call (Some r) = quietly (And []) (λ x v. inl v)
    after_start h call None = after_begun h call (L.start h call (busy_in L s) s.world)

    after_event : (e : EventOf Call Outside) → Keeps (And (step_of_event sizes e s)) (next L e s)
    after_event (Start h call) = after_start h call (s.running h)
    after_event (Step h x) = after_step h x (s.running h) refl

  after_run : (es : List (EventOf Call Outside)) (V : MadeStep → Type 0) (s : State (block_calls sizes)) → Keeps V s
      → Keeps (λ e. V e ⊎ In e (steps_made sizes es s)) (run L es s)
  after_run [] V s keeps = moved_to V (λ e. V e ⊎ ⊥) s (λ e v. inl v) keeps
    where
      moved_to : (V W : MadeStep → Type 0) (s : State (block_calls sizes)) → ((e : MadeStep) → V e → W e) → Keeps V s → Keeps W s
      moved_to V W s to keeps =
          record {
            finished = λ f i. weaker V W f.hart f.start (suc f.number) (suc f.number) (L.program f.call) (Ret f.reply) to
                (omega arith) (keeps.finished f i);
            running = λ h r is. (
              (keeps.running h r is).0,
              weaker V W h r.start s.now s.now (L.program r.call) r.prog to
                  (omega arith) (keeps.running h r is).1,
            );
          }
  after_run (e ∷ es) V s keeps =
      moved_to (λ x. (V x ⊎ In x (step_of_event sizes e s)) ⊎ In x (steps_made sizes es (next L e s)))
      (λ x. V x ⊎ In x (steps_made sizes (e ∷ es) s)) (run L es (next L e s)) to
      (after_run es (λ x. V x ⊎ In x (step_of_event sizes e s)) (next L e s) (after_event V s keeps e))
    where
      moved_to : (V W : MadeStep → Type 0) (s : State (block_calls sizes)) → ((e : MadeStep) → V e → W e) → Keeps V s → Keeps W s
      moved_to V W s to keeps =
          record {
            finished = λ f i. weaker V W f.hart f.start (suc f.number) (suc f.number) (L.program f.call) (Ret f.reply) to
                (omega arith) (keeps.finished f i);
            running = λ h r is. (
              (keeps.running h r is).0,
              weaker V W h r.start s.now s.now (L.program r.call) r.prog to
                  (omega arith) (keeps.running h r is).1,
            );
          }

      to : (x : MadeStep) → (V x ⊎ In x (step_of_event sizes e s)) ⊎ In x (steps_made sizes es (next L e s))
          → V x ⊎ In x (steps_made sizes (e ∷ es) s)
      to x (inl (inl v)) = inl v
      to x (inl (inr i)) = inr (in_front x (step_of_event sizes e s) (steps_made sizes es (next L e s)) i)
      to x (inr i) = inr (in_back x (step_of_event sizes e s) (steps_made sizes es (next L e s)) i)

  -- ---- the outcome of each step

  abbrev Happened : MadeStep → Type 0
  Happened e = (x : Outside) × (t : steps.State) × (steps.exec e.hart x e.step.0 e.before ≡ Ran e.step.1 t)

  ran_happened : (s : State (block_calls sizes)) (h : ℕ) (x : Outside) (op : Op) (m : Answer op
      → Option Acts) (d : ExecResult (Answer op) steps.State)
      → steps.exec h x op s.world.real.blocks.state ≡ d → (e : MadeStep)
      → In e (if_ran s.now h s.world op (both (machine sizes.version) h m s.world.seen
      (exec_result_in (λ v. record (s.world.real) { blocks = v }) (came_to h op s.world.real.blocks d)))) → Happened e
  ran_happened s h x op m Waits is e i = absurd i
  ran_happened s h x op m (Stops t) is e i = absurd i
  ran_happened s h x op m (Ran a t) is e (inl q) = subst Happened (sym q) (x, t, is)
  ran_happened s h x op m (Ran a t) is e (inr i) = absurd i

  program_happened : (s : State (block_calls sizes)) (h : ℕ) (x : Outside) (p : Calling) (e : MadeStep)
      → In e (step_of_program sizes h x s p) → Happened e
  program_happened s h x (Ret reply) e i = absurd i
  program_happened s h x (Do op m k) e i = ran_happened s h x op m (steps.exec h x op s.world.real.blocks.state) refl e i

  event_happened : (s : State (block_calls sizes)) (e : EventOf Call Outside) (x : MadeStep) → In x (step_of_event sizes e s) → Happened x
  event_happened s (Start h call) x i = absurd i
  event_happened s (Step h y) x i = at (s.running h) i
    where
      unless : (r : Run L) (b : Bool) → In x (step_unless sizes h y s b r) → Happened x
      unless r true i = absurd i
      unless r false i = program_happened s h y r.prog x i

      at : (o : Option (Run L)) → In x (step_of_call sizes h y s o) → Happened x
      at None i = absurd i
      at (Some r) i = unless r s.stopped i

  all_happened : (es : List (EventOf Call Outside)) (s : State (block_calls sizes)) (x : MadeStep) → In x (steps_made sizes es s)
      → Happened x
  all_happened [] s x i = absurd i
  all_happened (e ∷ es) s x i = elim (in_either x (step_of_event sizes e s) (steps_made sizes es (next L e s)) i) [
    | inl now ↦ event_happened s e x now
    | inr later ↦ all_happened es (next L e s) x later
  ]

  -- ---- what a call's steps have seen

  program_sees : (room : Full) (apart : MemInodes ≢ room) (p : Above Reply) (c : Carry) → Blames sizes.version room p
      → (es : List AnsweredStep) (reply : Reply)
      → ComesTo (lowered (machine sizes.version) (layer sizes) (handlers sizes) c p) es reply → reply.answer ≡ answers.Full room → SawNone sizes es room
  program_sees room apart (Ret r) c b [] reply q full = absurd (b (ap (λ (z : Reply). z.answer) q ∙ full))
  program_sees room apart (Ret r) c b (e ∷ es) reply q full = absurd q
  program_sees room apart (Do op m k) c b es reply q full =
      let next_ = λ (r : Handover (above.Answer op) Carry). lowered (machine sizes.version) (layer sizes) (handlers sizes) r.carry (k r.answer) in
      let s = split (handlers sizes c op m) next_ es reply q in
      elim (b.1 s.value.answer) [
        | inl want ↦ seen_front sizes es s.front s.back s.is room (all_see sizes c op m s.front s.value room b.0 s.first want)
        | inr later ↦ elim (goes_or sizes.version room op s.value.answer (k s.value.answer) (Blames sizes.version room (k s.value.answer)) later) [
          | inl never ↦ absurd (apart (sym never.0))
          | inr then_ ↦ seen_behind sizes es s.front s.back s.is room
              (program_sees room apart (k s.value.answer) s.value.carry then_ s.back reply s.then_ full)
        ]
      ]

  call_sees : (room : Full) (apart : MemInodes ≢ room) (call : Call) (es : List AnsweredStep) (reply : Reply)
      → ComesTo (L.program call) es reply
      → reply.answer ≡ answers.Full room → SawNone sizes es room
  call_sees room apart call es reply q full = program_sees room apart (program sizes.version call) nothing (calls_blame sizes.version room call) es reply q full

  -- the step that was so answered
  step_there : (x : AnsweredStep) (es : List MadeStep) → In x (answered es) → (e : MadeStep) × In e es × (e.step ≡ x)
  step_there x [] i = absurd i
  step_there x (e ∷ es) (inl q) = (e, inl refl, sym q)
  step_there x (e ∷ es) (inr i) = let r = step_there x es i in (r.0, inr r.1, r.2)

  is_in_use : (es : List MadeStep) (n : ℕ) → ((e : MadeStep) → In e es → Happened e) → SawInUse sizes (answered es) n → IsInUse sizes es n
  is_in_use es n each saw = record { block = saw.block; read = saw.read; used = by saw.used }
    where
      by : (is_zero (dinode_at (place_of n) saw.block).kind ≡ false) ⊎ In n saw.candidates
          → (is_zero (dinode_at (place_of n) saw.block).kind ≡ false) ⊎ IsReferredTo sizes es n
      by (inl typed) = inl typed
      by (inr among) =
          let b : ℕ = inode_block sizes.inodestart n in
          let l = step_there (Claim b saw.candidates, NoInode) es saw.claims in
          let d = each l.0 l.1 in
          inr (record {
            look = l.0;
            made = l.1;
            candidates = saw.candidates;
            claims = l.2;
            stands = stands l.0 d.0 d.1 (l.0).step l.2
                d.2;
          })
        where
          stands : (e : MadeStep) (x : Outside) (t : steps.State) (y : AnsweredStep)
              → y ≡ (Claim (inode_block sizes.inodestart n) saw.candidates, NoInode)
              → steps.exec e.hart x y.0 e.before ≡ Ran y.1 t → IsSome (place_in_memory n e.before.tables.entries)
          stands e x t y same ran =
              let at = subst (λ (z : AnsweredStep). steps.exec e.hart x z.0 e.before ≡ Ran z.1 t) same ran in
              claims_find e.hart x (inode_block sizes.inodestart n) saw.candidates e.before t at n among

  module _ (history : List (EventOf Call Outside)) (w : Both World above.World) where
    all : List MadeStep
    all = steps_made sizes history (fresh L w)

    keeps_all : Keeps (λ e. ⊥ ⊎ In e (steps_made sizes history (fresh L w))) (run L history (fresh L w))
    keeps_all =
        after_run history (λ e. ⊥) (fresh L w)
        (record { finished = λ f i. absurd i; running = λ h r is. absurd (let z : ◌≡◌ {A = Option (Run L)} None (Some r) = is in cc) })

    pub looks : (f : FinishedCall L) → In f (run L history (fresh L w)).finished
        → SeesNoBlock sizes (steps_made sizes history (fresh L w)) f × SeesNoInode sizes (steps_made sizes history (fresh L w)) f
    looks f i =
        let o = keeps_all.finished f i in
        let goes = comes (L.program f.call) (answered o.steps) f.reply o.leads in
        let own = own_of o.steps o.are in (
          λ full. (
            o.steps,
            own,
            call_sees Blocks (λ e. (let z : MemInodes ≡ Blocks = e in cc)) f.call (answered o.steps) f.reply
                goes full,
          ),
          λ full. (
            o.steps,
            own,
            λ n some below. is_in_use o.steps n (λ e j. all_happened history (fresh L w) e (own e j).0)
                (call_sees DiskInodes (λ e. (let z : MemInodes ≡ DiskInodes = e in cc)) f.call (answered o.steps) f.reply goes full n
                some below),
          ),
        )
      where
        own_of : (es : List MadeStep)
            → ((e : MadeStep) → In e es
            → (⊥ ⊎ In e (steps_made sizes history (fresh L w))) × (e.hart ≡ f.hart) × (f.start < e.number) × (e.number < suc f.number))
            → AreItsOwn sizes (steps_made sizes history (fresh L w)) f es
        own_of es are e j = let a = are e j in let lt = a.3 in (there a.0, a.1, a.2, omega (arith, lt))
          where
            there : ⊥ ⊎ In e (steps_made sizes history (fresh L w)) → In e (steps_made sizes history (fresh L w))
            there (inl v) = absurd v
            there (inr j) = j

pub look_everywhere : {D : Type 0} (contents : D → List (List ℕ)) (failures : D → ℕ) (w : WorldOf D)
    → CallsLookEverywhere contents failures w
look_everywhere contents failures w device events came new history mounted is f i =
    let now = w.harts.core.log.cache.device in
    looks w.sizes history (first (contents now) (failures now)) f i
