use Rattle.tree_histories.proofs.Lemmas.{◌≡◌, ◌≢◌, ◌≤◌, ℕ, length, sym, ◌∙◌, ap, subst, arith, inl, inr, cases_eq, Position, IsDead, IsDeadWith, IsKept, all_dead, call_not, dead_back, dead_numbers, dead_with_back, due_on, explored_not, kept_then, left_on, numbers_on, earliest, placed_made, placed_not, taken_back, tried_bad, tried_not}
use Rattle.tree_histories.proofs.position.Position.+exploring.Goals as goal
use Rattle.tree_histories.proofs.position.Position.+exploring.Goals.{explore-else-due-first-via-then-due-first+in_ok-explore_call-2+else-branch-2, explore-else-due-first-via-else-due-first, explore-then-id-first+then-id-due+in_ok-explore_call-3+else-branch-3, explore-else-id-first, explore-else-id-first-via-then-id-first+else-id-due, explore-else-id-first-via-else-id-first, explore_numbers-then-new-preferred+in_ok-explore_step-2+in_default-2, explore_numbers-else-new-preferred}

pub explore-explore_call-requires-then-due-first : goal.explore-explore_call-requires-then-due-first
explore-explore_call-requires-then-due-first t c =
    let k = call_not c.args.version c.args.base.now c.args.trace.now c.args.self.now c.explore_call.new.self c.match-hint.first.0 c.in_ok-explore_call.field-0 c.if-branch.false c.in_ok-explore_call.ensures in
    (let h = c.decreases in let l = left_on c.args.version c.args.base.now c.args.trace.now c.args.self.now c.explore_call.new.self k.0 in omega (arith, h, l), (k.0.at, due_on c.args.version c.args.base.now c.args.trace.now c.args.self.now c.explore_call.new.self c.in-Some.due c.requires k.0 c.in-Some.ensures))

pub explore-explore_call-requires-then-id-due : goal.explore-explore_call-requires-then-id-due
explore-explore_call-requires-then-id-due t c =
    let k = c.loop-id.invariant.kept in
    (let h = c.decreases in let l = left_on c.args.version c.args.base.now c.args.trace.now c.args.self.now c.loop-id.self k in omega (arith, h, l), (k.at, due_on c.args.version c.args.base.now c.args.trace.now c.args.self.now c.loop-id.self c.in-Some.due c.requires k c.in-Some.ensures))

pub explore-loop-id-init : goal.explore-loop-id-init
explore-loop-id-init t c =
    let base = c.args.base.now in
    let trace = c.args.trace.now in
    let p = c.args.self.now in
    let k = call_not c.args.version base trace p c.explore_call.new.self c.match-hint.first.0 c.in_ok-explore_call.field-0 c.if-branch.false c.in_ok-explore_call.ensures in
    elim c.else-due-first.branch [
      | explore-else-due-first-via-then-due-first+in_ok-explore_call-2+else-branch-2 w ↦ (
          let m = call_not c.args.version base trace c.explore_call.new.self w.explore_call-then-due-first.new.self c.in-Some.due.id w.in_ok-explore_call-2.field-0 w.if-branch-2.false w.in_ok-explore_call-2.ensures in record {
            kept = subst (λ (q : Position). IsKept c.args.version base trace p q) (sym w.self-is) (kept_then c.args.version base trace p c.explore_call.new.self w.explore_call-then-due-first.new.self k.0 m.0);
            first = k.1;
            due = dead_back c.args.version base trace p c.explore_call.new.self c.in-Some.due.id k.0 m.1;
            dead = λ j lt. absurd (omega arith);
          }
          )
      | explore-else-due-first-via-else-due-first w ↦ record {
        kept = subst (λ (q : Position). IsKept c.args.version base trace p q) (sym w.self-is) k.0;
        first = k.1;
        due = subst (λ (j : ℕ). IsDead c.args.version trace p j) (sym w.if-due-first.false) k.1;
        dead = λ j lt. absurd (omega arith);
      }
    ]

pub explore-loop-id-preserved : goal.explore-loop-id-preserved
explore-loop-id-preserved t c =
    let base = c.args.base.now in
    let trace = c.args.trace.now in
    let p = c.args.self.now in
    let inv = c.loop-id.invariant in
    elim c.if-id-first.branch [
      | explore-then-id-first+then-id-due+in_ok-explore_call-3+else-branch-3 w ↦ (
          let m = call_not c.args.version base trace c.loop-id.self w.explore_call-then-id-due.new.self c.loop-id.id w.in_ok-explore_call-3.field-0 w.if-branch-3.false w.in_ok-explore_call-3.ensures in record {
            kept = subst (λ (q : Position). IsKept c.args.version base trace p q) (sym w.self-is) (kept_then c.args.version base trace p c.loop-id.self w.explore_call-then-id-due.new.self inv.kept m.0);
            first = inv.first;
            due = inv.due;
            dead = λ j lt. elim (cases_eq j c.loop-id.id) [ inl e ↦ subst (λ (i : ℕ). IsDead c.args.version trace p i) (sym e) (dead_back c.args.version base trace p c.loop-id.self c.loop-id.id inv.kept m.1) | inr ne ↦ inv.dead j (omega arith) ];
          }
          )
      | explore-else-id-first w ↦ record {
        kept = subst (λ (q : Position). IsKept c.args.version base trace p q) (sym w.self-is) inv.kept;
        first = inv.first;
        due = inv.due;
        dead = λ j lt. elim (cases_eq j c.loop-id.id) [
          | inl e ↦ elim w.else-id-first.branch [
            | explore-else-id-first-via-then-id-first+else-id-due v ↦ subst (λ (i : ℕ). IsDead c.args.version trace p i) (sym (e ∙ v.if-id-due.false)) inv.due
            | explore-else-id-first-via-else-id-first v ↦ subst (λ (i : ℕ). IsDead c.args.version trace p i) (sym (e ∙ v.if-id-first.false)) inv.first
          ]
          | inr ne ↦ inv.dead j (omega arith)
        ];
      }
    ]

pub explore-returns : goal.explore-returns
explore-returns t c = (
  c.loop-id.invariant.kept,
  all_dead c.args.version c.args.base.now c.args.trace.now c.args.self.now c.in-Some.due c.requires c.in-Some.ensures (λ id lt. c.loop-id.invariant.dead id (let h : length c.as_slice-id-end.result.now ≤ c.loop-id.id = c.loop-id-test.false in omega (arith, ap length c.as_slice-id-end.ensures))),
)

pub explore_call-explore_numbers-requires : goal.explore_call-explore_numbers-requires
explore_call-explore_numbers-requires t c =
    let k = tried_bad c.args.version c.args.base.now c.args.trace.now c.args.self.now c.explore_step.new.self c.args.id 0 c.in_ok-explore_step.field-0 c.in-BadChoice.is c.in_ok-explore_step.ensures in
    (let h = c.decreases in let l = left_on c.args.version c.args.base.now c.args.trace.now c.args.self.now c.explore_step.new.self k.0 in omega (arith, h, l), (k.0.at, (due_on c.args.version c.args.base.now c.args.trace.now c.args.self.now c.explore_step.new.self c.args.due c.requires.at k.0 c.requires.due, numbers_on c.args.version c.args.base.now c.args.trace.now c.args.self.now c.explore_step.new.self c.args.id k.0 k.1)))

pub explore_numbers-explore_step-requires-then-new-preferred : goal.explore_numbers-explore_step-requires-then-new-preferred
explore_numbers-explore_step-requires-then-new-preferred t c =
    let k = c.loop-number.invariant.kept in
    (let h = c.decreases in let l = left_on c.args.version c.args.base.now c.args.trace.now c.args.self.now c.loop-number.self k in omega (arith, h, l), (k.at, due_on c.args.version c.args.base.now c.args.trace.now c.args.self.now c.loop-number.self c.args.due c.requires.at k c.requires.due))

pub explore_numbers-loop-number-preserved : goal.explore_numbers-loop-number-preserved
explore_numbers-loop-number-preserved t c =
    let base = c.args.base.now in
    let trace = c.args.trace.now in
    let p = c.args.self.now in
    let inv = c.loop-number.invariant in
    let one : 1 ≤ c.loop-number.number = c.loop-number.auto.number in
    let some : c.loop-number.number ≢ 0 = omega arith in
    elim c.if-new-preferred.branch [
      | explore_numbers-then-new-preferred+in_ok-explore_step-2+in_default-2 w ↦ (
          let m = tried_not c.args.version base trace c.loop-number.self w.explore_step-then-new-preferred.new.self c.args.id c.loop-number.number w.in_ok-explore_step-2.field-0 w.in_default-2.not-Found some w.in_ok-explore_step-2.ensures in record {
            kept = subst (λ (q : Position). IsKept c.args.version base trace p q) (sym w.self-is) (kept_then c.args.version base trace p c.loop-number.self w.explore_step-then-new-preferred.new.self inv.kept m.0);
            dead = λ n least lt. elim (cases_eq n c.loop-number.number) [ inl e ↦ subst (λ (i : ℕ). IsDeadWith c.args.version trace p c.args.id i) (sym e) (dead_with_back c.args.version base trace p c.loop-number.self c.args.id c.loop-number.number inv.kept m.1) | inr ne ↦ inv.dead n least (omega arith) ];
          }
          )
      | explore_numbers-else-new-preferred w ↦ (
          let same : c.loop-number.number ≡ c.args.preferred = w.if-new-preferred.false in
          let wanted : c.args.preferred ≢ 0 = omega arith in
          let m = tried_not c.args.version base trace p c.explore_step.new.self c.args.id c.args.preferred c.in_ok-explore_step.field-0 c.in_default.not-Found wanted c.in_ok-explore_step.ensures in record {
            kept = subst (λ (q : Position). IsKept c.args.version base trace p q) (sym w.self-is) inv.kept;
            dead = λ n least lt. elim (cases_eq n c.loop-number.number) [ inl e ↦ subst (λ (i : ℕ). IsDeadWith c.args.version trace p c.args.id i) (sym (e ∙ same)) m.1 | inr ne ↦ inv.dead n least (omega arith) ];
          }
          )
    ]

pub explore_numbers-returns : goal.explore_numbers-returns
explore_numbers-returns t c = (
  c.loop-number.invariant.kept,
  dead_numbers c.args.version c.args.trace.now c.args.self.now c.args.id c.requires.numbered (λ n one lt. c.loop-number.invariant.dead n one (let h = c.loop-number-test.false in omega (arith, h, c.ninodes-ninodes.ensures))),
)

pub explore_step-returns-in_ok-undo-in-Made : goal.explore_step-returns-in_ok-undo-in-Made
explore_step-returns-in_ok-undo-in-Made t c =
    let base = c.args.base.now in
    let trace = c.args.trace.now in
    let p = c.args.self.now in
    let made = placed_made c.args.version base trace p c.place.new.self c.args.id c.args.new c.args.due.limit c.in_ok-place.field-0 c.in-Made.is c.in_ok-place.ensures in
    let e = explored_not c.args.version base trace c.place.new.self c.explore.new.self c.in_ok-explore-in-Made.field-0 c.if-branch.false c.in_ok-explore-in-Made.ensures in
    taken_back c.args.version base trace p c.place.new.self c.explore.new.self c.undo.new.self c.args.id c.args.new c.args.due.limit c.requires.at made (earliest p c.args.due c.requires.due) e.0 e.1 c.in_ok-undo-in-Made.ensures

pub explore_step-place-requires-clause-limit : goal.explore_step-place-requires-clause-limit
explore_step-place-requires-clause-limit t c = c.requires.due.least

pub explore_step-returns-in-Refused : goal.explore_step-returns-in-Refused
explore_step-returns-in-Refused t c =
    placed_not c.args.version c.args.base.now c.args.trace.now c.args.self.now c.place.new.self c.args.id c.args.new c.args.due.limit c.in_ok-place.field-0 c.in-Refused.is c.in_ok-place.ensures (earliest c.args.self.now c.args.due c.requires.due)
