-- An operation under way, and what one more step of its program makes of it, by what was noted of the call.
use Rattle.run_laws.proofs.Vocabulary.{◌≡◌, ◌⊎◌, inl, inr, ℕ, true, false, Option, Some, None, is_some, List, [], ◌∷◌, ◌++◌, refl, sym, ◌∙◌, ap, subst, Super, Reply, Call, Prog, Ret, Do, bind, Ran, Machine, own, onto, or_else, Theory, act_places, Handover, lowered, Outside, AnswerBelow, HasInodes, Carry, handlers, layer, go, machine, Mark, MoveStep, block_calls, lowered_inode_calls, whole_inodes, Operation, EndsWith, IsAtEnd, IsFaithful, IsOperation, IsUnderWay, Notes, StepNote, AreOf, EndsAsActed, HasActed, InFirst, IsInOperation, IsMadeBy, ActsThen, LeadTo, UnderWay, none_ran, is_at_end, placed_by, time_of}
use Rattle.fs_machine.specs.Steps as steps
use Rattle.inode_machine.specs.World as above
use Rattle.inodes_on_blocks.specs.Handlers.{Acts, P}
use Rattle.inodes_on_blocks.specs.Shown.{Shows}
use Rattle.run_laws.specs.Faithful.{ActsWithin}
use Rattle.run_laws.specs.Searches.{AnsweredStep}
use Rattle.run_laws.proofs.ActedSo.{head_is, none_is, none_made, one_made, sees_truly}
use Rattle.run_laws.proofs.ActsAt.{first_or_last}
use Rattle.run_laws.proofs.LockActs.{ActsAtOnce, W, seen_is}
use Rattle.run_laws.proofs.OneAnswer.{one_above, one_below}
use Rattle.run_laws.proofs.ReadOn.{ends_on, within_on}
use Rattle.run_laws.proofs.Times.{MarkedSo, acted_then, acts_then, goes_past, marked_first, marked_goes_on, never_yet, waits_then}

-- ---- steps that ran

pub lead_on : {A : Type 0} (p : P A) (es : List AnsweredStep) (op : steps.Op) (m : AnswerBelow op → Option Acts) (k : AnswerBelow op → P A) (b : AnswerBelow op) → LeadTo p es (Do op m k) → LeadTo p (es ++ (op, b) ∷ []) (k b)
lead_on {A} p [] op m k b e = subst (λ (z : P A). LeadTo z ((op, b) ∷ []) (k b)) (sym e) (b, refl, refl)
lead_on (Ret a) (e ∷ es) op m k b t = absurd t
lead_on (Do lop lm lk) (e ∷ es) op m k b t = (t.0, t.1, lead_on (lk t.0) es op m k b t.2)

pub no_first : (es : List AnsweredStep) (e : AnsweredStep) → none_ran (es ++ e ∷ []) ≡ false
no_first [] e = refl
no_first (x ∷ es) e = refl

-- ---- what an operation has acted with

-- one operation has one answer
same_operation : (op : above.Op) (m : above.Answer op → Option Mark) (a b : above.Answer op) (s t : Operation) → s ≡ t → IsOperation op m a s → IsOperation op m b t → a ≡ b
same_operation op m a b s t same one two = one_above op a b (ap (λ (o : Operation). (o.op, o.answer)) (sym one.1 ∙ same ∙ two.1))

-- ---- in a call

module _ (sizes : Super) where
  abbrev L : Theory
  L = block_calls sizes

  abbrev J : Machine
  J = (lowered_inode_calls sizes).M

  -- what is noted from here on, if the operation has acted so, or hasn't yet
  abbrev pub ReadsOn : Option Reply → (u : UnderWay) → Option (above.Answer u.op) → P (Handover (above.Answer u.op) Carry) → Notes (lowered_inode_calls sizes).M → Type 0
  ReadsOn r u None left rest = ActsWithin J {C = Carry} (IsOperation u.op u.mark) (IsUnderWay r) (λ x more. IsFaithful (whole_inodes sizes.version) (layer sizes) (handlers sizes) IsOperation r x.carry (u.rest x.answer) more) left rest
  ReadsOn r u (Some a) left rest = EndsWith J {C = Carry} (IsOperation u.op u.mark) (IsUnderWay r) (λ x more. IsFaithful (whole_inodes sizes.version) (layer sizes) (handlers sizes) IsOperation r x.carry (u.rest x.answer) more) a left rest

  -- the call's program, which ends with Some of its reply
  abbrev pub there_left : UnderWay → P (Option Reply)
  there_left u = bind (bind u.left (λ z. lowered (whole_inodes sizes.version) (layer sizes) (handlers sizes) z.carry (u.rest z.answer))) (λ a. Ret (Some a))

  pub record InCall (call : Call) (done : Notes (lowered_inode_calls sizes).M) (left : P Reply) (there : P (Option Reply)) (u : UnderWay) : Type 0 where
    pub is_in : IsInOperation sizes left u
    pub also : there ≡ there_left u
    pub marked : MarkedSo (time_of u.op) (none_ran u.ran) u.left
    pub reads : (r : Option Reply) (rest : Notes (lowered_inode_calls sizes).M) → AreOf sizes call r (onto done rest) → ReadsOn r u u.acted u.left rest

  -- ---- its beginning

  opened : {A : Type 0} (IsOf : A → Operation → Type 0) (Open : Type 0) (Then : Handover A Carry → Notes (lowered_inode_calls sizes).M → Type 0) (p : P (Handover A Carry)) → (IsAtEnd p → ⊥) → Open → ActsWithin J {C = Carry} IsOf Open Then p []
  opened IsOf Open Then (Ret a) goes t = goes tt
  opened IsOf Open Then (Do op m k) goes t = t

  abbrev pub begun_at : Carry → (op : above.Op) → (above.Answer op → Option Mark) → (above.Answer op → Prog above.Op above.Answer Mark Reply) → UnderWay
  begun_at hand op m k = record { op = op; mark = m; rest = k; hand = hand; ran = []; left = handlers sizes hand op m; acted = None }

  module _ (inodes : HasInodes sizes) (call : Call) (done : Notes (lowered_inode_calls sizes).M) (hand : Carry) (op : above.Op) (m : above.Answer op → Option Mark) (k : above.Answer op → Prog above.Op above.Answer Mark Reply) where
    first_marked : MarkedSo (time_of op) true (handlers sizes hand op m)
    first_marked = marked_first op (handlers sizes hand op m) (first_or_last sizes inodes hand op m)

    -- it has a step
    pub begins_on : IsAtEnd (handlers sizes hand op m) → ⊥
    begins_on = marked_goes_on (time_of op) (handlers sizes hand op m) first_marked

    pub begins_in : ((r : Option Reply) (rest : Notes (lowered_inode_calls sizes).M) → AreOf sizes call r (onto done rest) → IsFaithful (whole_inodes sizes.version) (layer sizes) (handlers sizes) IsOperation r hand (Do op m k) rest)
        → InCall call done (lowered (machine sizes.version) (layer sizes) (handlers sizes) hand (Do op m k)) (bind (lowered (whole_inodes sizes.version) (layer sizes) (handlers sizes) hand (Do op m k)) (λ a. Ret (Some a))) (begun_at hand op m k)
    begins_in way =
        record {
          is_in = record { is = refl; leads = refl; goes_on = begins_on; acted = never_yet (time_of op) };
          also = refl;
          marked = first_marked;
          reads = λ r rest t. at r rest (way r rest t);
        }
      where
        at : (r : Option Reply) (rest : Notes (lowered_inode_calls sizes).M) → IsFaithful (whole_inodes sizes.version) (layer sizes) (handlers sizes) IsOperation r hand (Do op m k) rest → ReadsOn r (begun_at hand op m k) None (handlers sizes hand op m) rest
        at r [] t = opened (IsOperation op m) (IsUnderWay r) (λ x more. IsFaithful (whole_inodes sizes.version) (layer sizes) (handlers sizes) IsOperation r x.carry (k x.answer) more) (handlers sizes hand op m) begins_on t
        at r (e ∷ rest) t = t

  -- ---- a step of it

  module _ (h : ℕ) (x : Outside) (call : Call) (done : Notes (lowered_inode_calls sizes).M) (u : UnderWay) (op : steps.Op) (m : AnswerBelow op → Option Acts) (k : AnswerBelow op → P (Handover (above.Answer u.op) Carry)) (b : AnswerBelow op) (v w : W) where
    abbrev pub made_there : List Operation
    made_there = own h (act_places (whole_inodes sizes.version) h (m b) v.seen)

    abbrev pub note_there : StepNote AnsweredStep Operation
    note_there = record { ran = (op, b); made = own h (act_places (whole_inodes sizes.version) h (m b) v.seen) }

    abbrev Then : Option Reply → Handover (above.Answer u.op) Carry → Notes (lowered_inode_calls sizes).M → Type 0
    Then r z more = IsFaithful (whole_inodes sizes.version) (layer sizes) (handlers sizes) IsOperation r z.carry (u.rest z.answer) more

    -- what the step did, if the operation had acted so before
    pub record Turned (acted : Option (above.Answer u.op)) : Type 0 where
      pub acts : Option (above.Answer u.op)
      pub at : ActsThen (time_of u.op) (none_ran u.ran) (is_at_end (k b)) (is_some acts)
      pub once : is_some acts ≡ true → acted ≡ None
      pub made : IsMadeBy sizes.version h u acts v.seen w.seen
      pub moves : ◌≡◌ {A = List (ℕ × MoveStep)} (act_places (machine sizes.version) h (m b) v.seen) (placed_by sizes.version h u acts v.seen)
      pub ends : EndsAsActed u (or_else acts acted) (k b)
      pub reads : (r : Option Reply) (rest : Notes (lowered_inode_calls sizes).M) → AreOf sizes call r (onto done (note_there ∷ rest)) → ReadsOn r u (or_else acts acted) (k b) rest

    module _ (ran : L.M.go h x op m v ≡ Ran b w) (before : Shows v.real.blocks v.seen) (after : Shows w.real.blocks w.seen) (told : AreOf sizes call None (onto done (note_there ∷ []))) (marked : MarkedSo (time_of u.op) (none_ran u.ran) (Do op m k))
        (first : time_of u.op ≡ InFirst → none_ran u.ran ≡ true → ActsAtOnce sizes h v (Do op m k)) where
      -- nothing was made
      quiet : ◌≡◌ {A = List Operation} made_there [] → (w.seen ≡ v.seen) × (◌≡◌ {A = List (ℕ × MoveStep)} (act_places (machine sizes.version) h (m b) v.seen) [])
      quiet none = let n = none_made sizes.version h v.seen (m b) none in (seen_is sizes.version h m v.seen ((layer sizes).exec h x op v.real) b w ran ∙ n.0, n.1)

      not_ended : (q : P (Handover (above.Answer u.op) Carry)) → (IsAtEnd q → ⊥) → EndsAsActed u None q
      not_ended (Ret z) goes = absurd (goes tt)
      not_ended (Do lop lm lk) goes = tt

      within_goes : (q : P (Handover (above.Answer u.op) Carry)) → ReadsOn None u None q [] → IsAtEnd q → ⊥
      within_goes (Ret z) t e = t
      within_goes (Do lop lm lk) t e = e

      ended : (a : above.Answer u.op) (q : P (Handover (above.Answer u.op) Carry)) → ReadsOn None u (Some a) q [] → EndsAsActed u (Some a) q
      ended a (Ret z) t = ap (λ (y : above.Answer u.op). Some y) (sym t.0)
      ended a (Do lop lm lk) t = tt

      pub turned : (acted : Option (above.Answer u.op)) → HasActed (time_of u.op) (none_ran u.ran) (is_some acted)
          → ((r : Option Reply) (rest : Notes (lowered_inode_calls sizes).M) → AreOf sizes call r (onto done rest) → ReadsOn r u acted (Do op m k) rest) → Turned acted
      turned (Some a) has reads =
          let e = ends_on J one_below {C = Carry} (IsOperation u.op u.mark) (IsUnderWay {A = Reply} None) (Then None) op m k b made_there [] a (reads None (note_there ∷ []) told) in
          let n = quiet e.0 in
          record {
            acts = None;
            at = acted_then (time_of u.op) (none_ran u.ran) (is_at_end (k b)) has;
            once = λ s. absurd (let q : false ≡ true = s in cc);
            made = n.0;
            moves = n.1;
            ends = ended a (k b) e.1;
            reads = λ r rest t. (ends_on J one_below {C = Carry} (IsOperation u.op u.mark) (IsUnderWay r) (Then r) op m k b made_there rest a (reads r (note_there ∷ rest) t)).1;
          }
      turned None has reads = by (within_on J one_below {C = Carry} (IsOperation u.op u.mark) (IsUnderWay {A = Reply} None) (Then None) op m k b made_there [] (reads None (note_there ∷ []) told))
        where
          Read : Option Reply → Notes (lowered_inode_calls sizes).M → Type 0
          Read r rest =
              ((made_there ≡ []) × ReadsOn r u None (k b) rest)
              ⊎ ((a : above.Answer u.op) × (s : Operation) × (made_there ≡ s ∷ []) × IsOperation u.op u.mark a s × (is_some (m b) ≡ true) × ReadsOn r u (Some a) (k b) rest)

          read : (r : Option Reply) (rest : Notes (lowered_inode_calls sizes).M) → AreOf sizes call r (onto done (note_there ∷ rest)) → Read r rest
          read r rest t = within_on J one_below {C = Carry} (IsOperation u.op u.mark) (IsUnderWay r) (Then r) op m k b made_there rest (reads r (note_there ∷ rest) t)

          by : Read None [] → Turned None
          by (inl p) =
              let goes = within_goes (k b) p.1 in
              let n = quiet p.0 in
              record {
                acts = None;
                at = waits_then (time_of u.op) (none_ran u.ran) (is_at_end (k b)) (λ i f. first i f x b w ran p.0 before after goes) (goes_past (k b) goes);
                once = λ s. refl;
                made = n.0;
                moves = n.1;
                ends = not_ended (k b) goes;
                reads = λ r rest t. at r rest (read r rest t);
              }
            where
              at : (r : Option Reply) (rest : Notes (lowered_inode_calls sizes).M) → Read r rest → ReadsOn r u None (k b) rest
              at r rest (inl q) = q.1
              at r rest (inr q) = absurd (none_is q.1 [] (sym q.2 ∙ p.0))
          by (inr p) =
              let o = one_made sizes.version h v.seen (m b) u.op u.mark p.0 p.1 p.2 p.3 in
              let seen = seen_is sizes.version h m v.seen ((layer sizes).exec h x op v.real) b w ran in
              let does : go sizes.version h o.0.0 u.op u.mark v.seen ≡ Ran p.0 w.seen = o.0.1 ∙ ap (λ (g : above.World). Ran p.0 g) (sym seen) in
              record {
                acts = Some p.0;
                at = acts_then op m k b (time_of u.op) (none_ran u.ran) marked p.4;
                once = λ s. refl;
                made = ((o.0.0, does), sees_truly sizes.version h o.0.0 u.op u.mark p.0 v.seen w.seen does);
                moves = o.1;
                ends = ended p.0 (k b) p.5;
                reads = λ r rest t. at r rest (read r rest t);
              }
            where
              at : (r : Option Reply) (rest : Notes (lowered_inode_calls sizes).M) → Read r rest → ReadsOn r u (Some p.0) (k b) rest
              at r rest (inl q) = absurd (none_is p.1 [] (sym p.2 ∙ q.0))
              at r rest (inr q) =
                  subst (λ (a : above.Answer u.op). ReadsOn r u (Some a) (k b) rest)
                  (same_operation u.op u.mark q.0 p.0 q.1 p.1 (head_is q.1 p.1 [] [] (sym q.2 ∙ p.2)) q.3 p.3) q.5
