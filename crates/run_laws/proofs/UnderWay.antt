-- Beside a run of the calls on blocks there are what is under way in each hart's call, and the same run with its
-- notes. This is one step of both.
use Rattle.inode_machine.specs.Kept as kept
use Rattle.run_laws.proofs.Vocabulary.{◌≡◌, ◌≢◌, ℕ, Bool, true, false, nat_eq, if◌then◌else◌, Option, Some, None, is_some, List, [], ◌∷◌, ◌++◌, refl, sym, ◌∙◌, ap, subst, eqb-false, ne_eqb, Super, Reply, Prog, Ret, Do, bind, Ran, own, own_one, onto, or_else, Theory, Run, State, Made, Step, changed, told, moved, act_places, Handover, lowered, Outside, AnswerBelow, HasInodes, Carry, handlers, layer, machine, Mark, block_calls, block_moves, lowered_inode_calls, whole_inodes, IsAtEnd, IsFaithful, IsOperation, Notes, AreOf, EndsAsActed, HasActed, IsMadeBy, LeadTo, RunsAStep, StepDoes, UnderWay, at_beginning, gone_on, none_ran, is_at_end, time_of, call_outcome, step_outcome}
use Rattle.fs_machine.specs.Steps as steps
use Rattle.inode_machine.specs.World as above
use Rattle.inodes_on_blocks.specs.Handlers.{Acts, P}
use Rattle.run_laws.proofs.FaithfulCalls.{telling}
use Rattle.run_laws.proofs.LockActs.{W}
use Rattle.run_laws.proofs.MadeBy.{moved_on, went_on}
use Rattle.run_laws.proofs.Times.{MarkedSo, acted_on, bind_goes_on, goes_past, marked_on}
use Rattle.run_laws.proofs.Turning.{InCall, Turned, begins_in, begins_on, begun_at, lead_on, no_first, note_there, ReadsOn}

-- ---- tables of harts

changed_at : {A : Type 0} (Is : A → Type 0) (f : ℕ → A) (h : ℕ) (a : A) (j : ℕ) → ((j ≡ h → ⊥) → Is (f j)) → Is a → Is (changed f h a j)
changed_at Is f h a j other here = at (nat_eq j h) refl
  where
    at : (b : Bool) → nat_eq j h ≡ b → Is (if b then a else f j)
    at true e = here
    at false e = other (eqb-false j h e)

module _ (sizes : Super) where
  abbrev L : Theory
  L = block_calls sizes

  -- the same calls, with their notes
  abbrev O : Theory
  O = telling (lowered_inode_calls sizes) (AreOf sizes)

  abbrev pub InCalls : Option (Run (block_calls sizes)) → Option (Run (telling (lowered_inode_calls sizes) (AreOf sizes))) → Option UnderWay → Type 0
  InCalls None None None = Unit {0}
  InCalls (Some r) (Some q) (Some u) = InCall sizes q.call q.done r.prog q.prog u
  InCalls _ _ _ = ⊥

  pub record Beside (s : State (block_calls sizes)) (t : State (telling (lowered_inode_calls sizes) (AreOf sizes))) (under : ℕ → Option UnderWay) : Type 0 where
    pub world : t.world ≡ s.world
    pub stopped : t.stopped ≡ s.stopped
    pub calls : (j : ℕ) → InCalls (s.running j) (t.running j) (under j)

  told_beside : (xs : List L.M.Step) (a : Option (Run L)) (c : Option (Run O)) (u : Option UnderWay) → InCalls a c u → InCalls (told L xs a) (told O [] c) u
  told_beside xs None None None i = tt
  told_beside xs (Some r) (Some q) (Some u) i = i
  told_beside xs None None (Some u) i = absurd i
  told_beside xs None (Some q) u i = absurd i
  told_beside xs (Some r) None u i = absurd i
  told_beside xs (Some r) (Some q) None i = absurd i

  pub changed_beside : (h : ℕ) (f : ℕ → Option (Run L)) (g : ℕ → Option (Run O)) (under : ℕ → Option UnderWay) (a : Option (Run L)) (c : Option (Run O)) (u : Option UnderWay) → ((j : ℕ) → j ≢ h → InCalls (f j) (g j) (under j)) → InCalls a c u
      → (j : ℕ) → InCalls (changed f h a j) (changed g h c j) (changed under h u j)
  changed_beside h f g under a c u others here j = at (nat_eq j h) refl
    where
      at : (b : Bool) → nat_eq j h ≡ b → InCalls (if b then a else f j) (if b then c else g j) (if b then u else under j)
      at true e = here
      at false e = others j (eqb-false j h e)

  own_none : (j h : ℕ) (n : O.M.Step) → j ≢ h → ◌≡◌ {A = List O.M.Step} (own j ((h, n) ∷ [])) []
  own_none j h n ne = rw (ne_eqb h j (λ q. ne (sym q))) refl

  module _ (h : ℕ) (x : Outside) (s : State (block_calls sizes)) (t : State (telling (lowered_inode_calls sizes) (AreOf sizes))) (under : ℕ → Option UnderWay) (beside : Beside s t under) where
    -- what hart h's step makes of both
    abbrev pub Steps : Made (block_calls sizes) → Made (telling (lowered_inode_calls sizes) (AreOf sizes)) → Type 0
    Steps m n = (now : ℕ → Option UnderWay) × StepDoes sizes h x s m m.came under now × Beside m.after n.after now

    module _ (inodes : HasInodes sizes) (r : Run (block_calls sizes)) (q : Run (telling (lowered_inode_calls sizes) (AreOf sizes))) (u : UnderWay) (is : under h ≡ Some u) (in_ : InCall sizes q.call q.done r.prog q.prog u)
        (op : steps.Op) (m : AnswerBelow op → Option Acts) (k : AnswerBelow op → P (Handover (above.Answer u.op) Carry)) (asks : u.left ≡ Do op m k) where
      abbrev after_this : Handover (above.Answer u.op) Carry → P Reply
      after_this z = lowered (machine sizes.version) (layer sizes) (handlers sizes) z.carry (u.rest z.answer)

      abbrev after_that : Handover (above.Answer u.op) Carry → P Reply
      after_that z = lowered (whole_inodes sizes.version) (layer sizes) (handlers sizes) z.carry (u.rest z.answer)

      abbrev some : Reply → P (Option Reply)
      some a = Ret (Some a)

      module _ (b : AnswerBelow op) (w : W) where
        abbrev note : O.M.Step
        note = note_there sizes h x q.call q.done u op m k b s.world w

        -- of the other harts nothing changes
        others : (j : ℕ) → j ≢ h → InCalls (told L (own j (act_places (machine sizes.version) h (m b) s.world.seen)) (s.running j)) (told O (own j ((h, note) ∷ [])) (t.running j)) (under j)
        others j ne =
            subst (λ (zs : List O.M.Step). InCalls (told L (own j (act_places (machine sizes.version) h (m b) s.world.seen)) (s.running j)) (told O zs (t.running j)) (under j)) (sym (own_none j h note ne))
            (told_beside (own j (act_places (machine sizes.version) h (m b) s.world.seen)) (s.running j) (t.running j) (under j) (beside.calls j))

        module _ (ran : L.M.go h x op m s.world ≡ Ran b w) (places : kept.placed sizes.version (block_moves sizes) (Step h x) s ≡ act_places (machine sizes.version) h (m b) s.world.seen) (t_ : Turned sizes h x q.call q.done u op m k b s.world w u.acted) where
          abbrev acted : Option (above.Answer u.op)
          acted = or_else t_.acts u.acted

          -- the step, by what it made
          ran_so : (made : Made L) (now : ℕ → Option UnderWay) → made.after.world ≡ w → made.came ≡ step_outcome sizes u (op, b) (k b) → now ≡ changed under h (gone_on sizes u acted (op, b) (k b)) → RunsAStep sizes h x s made under now
          ran_so made now world came goes =
              record {
                under = u;
                is = is;
                op = op;
                mark = m;
                rest = k;
                asks = asks;
                answer = b;
                ran = ran ∙ ap (λ (z : W). Ran b z) (sym world);
                acts = t_.acts;
                then_ = t_.at;
                once = t_.once;
                does = subst (λ (z : W). IsMadeBy sizes.version h u t_.acts s.world.seen z.seen) (sym world) t_.made;
                places = places ∙ t_.moves;
                ends = t_.ends;
                came = came;
                goes_on = goes;
              }

          -- its own list of notes has one more
          abbrev done : Notes (lowered_inode_calls sizes).M
          done = onto (own h ((h, note) ∷ [])) q.done

          done_is : done ≡ note ∷ q.done
          done_is = ap (λ (zs : Notes (lowered_inode_calls sizes).M). onto zs q.done) (own_one h note)

          -- the program goes on
          on_in : (left : P (Handover (above.Answer u.op) Carry)) → k b ≡ left → (IsAtEnd left → ⊥) → InCall sizes q.call done (bind left after_this) (bind (bind left after_that) some) (record u { ran = u.ran ++ (op, b) ∷ []; left = left; acted = acted })
          on_in left e goes =
              record {
                is_in =
                    record {
                      is = refl;
                      leads = subst (λ (z : P (Handover (above.Answer u.op) Carry)). LeadTo (handlers sizes u.hand u.op u.mark) (u.ran ++ (op, b) ∷ []) z) e
                          (lead_on (handlers sizes u.hand u.op u.mark) u.ran op m k b (subst (LeadTo (handlers sizes u.hand u.op u.mark) u.ran) asks in_.is_in.leads));
                      goes_on = goes;
                      acted = subst (λ (z : Bool). HasActed (time_of u.op) z (is_some acted)) (sym (no_first u.ran (op, b)))
                          (acted_on (time_of u.op) (none_ran u.ran) (is_at_end (k b)) t_.acts u.acted (goes_past (k b) later) in_.is_in.acted t_.at);
                    };
                also = refl;
                marked = subst (λ (z : Bool). MarkedSo (time_of u.op) z left) (sym (no_first u.ran (op, b)))
                    (subst (λ (z : P (Handover (above.Answer u.op) Carry)). MarkedSo (time_of u.op) false z) e
                    (marked_on op m k b (time_of u.op) (none_ran u.ran) (subst (MarkedSo (time_of u.op) (none_ran u.ran)) asks in_.marked) later));
                reads = λ r rest z.
                    subst (λ (y : P (Handover (above.Answer u.op) Carry)). ReadsOn sizes r u acted y rest) e
                    (t_.reads r rest (subst (λ (zs : Notes (lowered_inode_calls sizes).M). AreOf sizes q.call r (onto zs rest)) done_is z));
              }
            where
              later : IsAtEnd (k b) → ⊥
              later = subst (λ (z : P (Handover (above.Answer u.op) Carry)). IsAtEnd z → ⊥) (sym e) goes

          -- it has ended, and the next one begins
          next_in : (z : Handover (above.Answer u.op) Carry) → k b ≡ Ret z → (next : above.Op) (mark : above.Answer next → Option Mark) (rest : above.Answer next → Prog above.Op above.Answer Mark Reply) → u.rest z.answer ≡ Do next mark rest
              → InCall sizes q.call done (lowered (machine sizes.version) (layer sizes) (handlers sizes) z.carry (Do next mark rest)) (bind (lowered (whole_inodes sizes.version) (layer sizes) (handlers sizes) z.carry (Do next mark rest)) some) (begun_at sizes z.carry next mark rest)
          next_in z e next mark rest goes =
              begins_in sizes inodes q.call done z.carry next mark rest
              (λ r more y.
              let read = t_.reads r more (subst (λ (zs : Notes (lowered_inode_calls sizes).M). AreOf sizes q.call r (onto zs more)) done_is y) in
              let at_end = subst (λ (c : P (Handover (above.Answer u.op) Carry)). ReadsOn sizes r u acted c more) e read in
              let has : acted ≡ Some z.answer = subst (EndsAsActed u acted) e t_.ends in
              let ended = subst (λ (c : Option (above.Answer u.op)). ReadsOn sizes r u c (Ret z) more) has at_end in
              subst (λ (p : Prog above.Op above.Answer Mark Reply). IsFaithful (whole_inodes sizes.version) (layer sizes)
              (handlers sizes) IsOperation r z.carry p more) goes ended.1)

          abbrev Goes_on : P Reply → P (Option Reply) → Type 0
          Goes_on p p' = Steps (moved L h s r (op, b) (act_places (machine sizes.version) h (m b) s.world.seen) p w) (moved O h t q (op, b) ((h, note) ∷ []) p' w)

          by_rest : (z : Handover (above.Answer u.op) Carry) → k b ≡ Ret z → (g : Prog above.Op above.Answer Mark Reply) → u.rest z.answer ≡ g → Goes_on (lowered (machine sizes.version) (layer sizes) (handlers sizes) z.carry g) (bind (lowered (whole_inodes sizes.version) (layer sizes) (handlers sizes) z.carry g) some)
          by_rest z e (Ret reply) goes = (
            changed under h None,
            ran_so (moved L h s r (op, b) (act_places (machine sizes.version) h (m b) s.world.seen) (Ret reply) w) (changed under h None) refl
                (sym (ap (step_outcome sizes u (op, b)) e ∙ ap (call_outcome sizes (op, b)) goes))
                (ap (λ (o : Option UnderWay). changed under h o) (sym (ap (gone_on sizes u acted (op, b)) e ∙ ap (at_beginning sizes z.carry) goes))),
            record {
              world = refl;
              stopped = beside.stopped;
              calls = λ j. changed_beside h _ _ under None None None others tt j;
            },
          )
          by_rest z e (Do next mark rest) goes =
              subst (λ (a : Made L). Steps a (moved O h t q (op, b) ((h, note) ∷ []) there w)) (sym (moved_on L h s r (op, b) (act_places (machine sizes.version) h (m b) s.world.seen) here w here_on))
              (subst (λ (c : Made O). Steps (went_on L h s r (op, b) (act_places (machine sizes.version) h (m b) s.world.seen) here w) c) (sym (moved_on O h t q (op, b) ((h, note) ∷ []) there w there_on)) (
                changed under h now,
                ran_so (went_on L h s r (op, b) (act_places (machine sizes.version) h (m b) s.world.seen) here w) (changed under h now) refl
                    (sym (ap (step_outcome sizes u (op, b)) e ∙ ap (call_outcome sizes (op, b)) goes))
                    (ap (λ (o : Option UnderWay). changed under h o) (sym (ap (gone_on sizes u acted (op, b)) e ∙ ap (at_beginning sizes z.carry) goes))),
                record {
                  world = refl;
                  stopped = beside.stopped;
                  calls = λ j. changed_beside h _ _ under (Some _) (Some _) now others (next_in z e next mark rest goes) j;
                },
              ))
            where
              here : P Reply
              here = lowered (machine sizes.version) (layer sizes) (handlers sizes) z.carry (Do next mark rest)

              there : P (Option Reply)
              there = bind (lowered (whole_inodes sizes.version) (layer sizes) (handlers sizes) z.carry (Do next mark rest)) some

              now : Option UnderWay
              now = Some (begun_at sizes z.carry next mark rest)

              starts : IsAtEnd (handlers sizes z.carry next mark) → ⊥
              starts = begins_on sizes inodes q.call q.done z.carry next mark rest

              here_on : IsAtEnd here → ⊥
              here_on =
                  bind_goes_on (handlers sizes z.carry next mark) (λ y. lowered (machine sizes.version) (layer sizes) (handlers sizes) y.carry (rest y.answer)) starts

              there_on : IsAtEnd there → ⊥
              there_on =
                  bind_goes_on (lowered (whole_inodes sizes.version) (layer sizes) (handlers sizes) z.carry (Do next mark rest)) some
                  (bind_goes_on (handlers sizes z.carry next mark)
                  (λ y. lowered (whole_inodes sizes.version) (layer sizes) (handlers sizes) y.carry (rest y.answer)) starts)

          by_left : (left : P (Handover (above.Answer u.op) Carry)) → k b ≡ left → Goes_on (bind left after_this) (bind (bind left after_that) some)
          by_left (Ret z) e = by_rest z e (u.rest z.answer) refl
          by_left (Do lop lm lk) e = (
            changed under h now,
            ran_so (went_on L h s r (op, b) (act_places (machine sizes.version) h (m b) s.world.seen) (bind (Do lop lm lk) after_this) w) (changed under h now) refl (sym (ap (step_outcome sizes u (op, b)) e))
                (ap (λ (o : Option UnderWay). changed under h o) (sym (ap (gone_on sizes u acted (op, b)) e))),
            record {
              world = refl;
              stopped = beside.stopped;
              calls = λ j. changed_beside h _ _ under (Some _) (Some _) now others (on_in (Do lop lm lk) e (λ y. y)) j;
            },
          )
            where
              now : Option UnderWay
              now = Some (record u { ran = u.ran ++ (op, b) ∷ []; left = Do lop lm lk; acted = acted })

          pub step_ran : Goes_on (bind (k b) after_this) (bind (bind (k b) after_that) some)
          step_ran = by_left (k b) refl
