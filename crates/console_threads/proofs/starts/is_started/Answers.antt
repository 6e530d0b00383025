use Rattle.console_threads.proofs.Lemmas.{rules, arith, ◌≡◌, ◌≢◌, ◌<◌, length, eq-eqb, eqb-true, beyond, differs, ended, passed, took}
use Rattle.console_threads.proofs.starts.is_started.Goals.{then-seen-asked-via-then-seen-asked, then-seen-asked-via-else-seen-asked+then-not-is_same, in-Some+else-seen-asked+else-not-is_same, in_default}
use Rattle.console_threads.proofs.starts.is_started.Goals as goal

pub returns-then-seen-asked : goal.returns-then-seen-asked
returns-then-seen-asked c =
    let h = c.args.hart in
    let es = c.args.events.now in
    let cs = c.args.asked.now in
    let i = c.loop-event.event-index in
    let seen = c.loop-event.seen in
    elim c.then-seen-asked.branch [
      | then-seen-asked-via-then-seen-asked w ↦ (
        λ no. absurd (cc no),
        λ same. absurd (beyond h es cs i seen c.event-item.result c.in-Some.call.now c.loop-event-test.true c.event-item.is c.in-Some.ensures w.if-seen-asked.true (c.loop-event.invariant.1.0 same)),
      )
      | then-seen-asked-via-else-seen-asked+then-not-is_same w ↦
          let other : c.in-Some.call.now ≢ w.index-asked-seen.result = λ e. absurd (search (rules, w.is_same.ensures.1 e)) in (
            λ no. absurd (cc no),
            λ same. absurd (differs h es cs i seen c.event-item.result c.in-Some.call.now w.index-asked-seen.result c.loop-event-test.true c.event-item.is c.in-Some.ensures w.if-seen-asked.false w.index-asked-seen.is other (c.loop-event.invariant.1.0 same)),
          )
    ]

pub loop-event-preserved : goal.loop-event-preserved
loop-event-preserved c =
    let h = c.args.hart in
    let es = c.args.events.now in
    let cs = c.args.asked.now in
    let i = c.loop-event.event-index in
    let seen = c.loop-event.seen in
    elim c.match-started_by.branch [
      | in-Some+else-seen-asked+else-not-is_same w ↦
          let within : seen < length cs = omega (arith, w.if-seen-asked.false) in
          let same : w.in-Some.call.now ≡ w.index-asked-seen.result = w.is_same.ensures.0 (search rules) in
          let next = took h es cs i seen c.event-item.result w.in-Some.call.now w.index-asked-seen.result c.loop-event-test.true c.event-item.is w.in-Some.ensures within w.index-asked-seen.is same in
          rw w.seen-is (omega (arith, within), (λ all. next.0 (c.loop-event.invariant.1.0 all), λ left. c.loop-event.invariant.1.1 (next.1 left)))
      | in_default w ↦
          let next = passed h es cs i seen c.event-item.result c.loop-event-test.true c.event-item.is (search rules) in
          rw w.seen-is (c.loop-event.invariant.0, (λ all. next.0 (c.loop-event.invariant.1.0 all), λ left. c.loop-event.invariant.1.1 (next.1 left)))
    ]

pub returns : goal.returns
returns c =
    let seen = c.loop-event.seen in
    let end = ended c.args.hart c.args.events.now c.args.asked.now c.loop-event.event-index seen c.loop-event-test.false c.loop-event.invariant.0 in (
      λ is. c.loop-event.invariant.1.1 (end.1 (eqb-true seen (length c.args.asked.now) is)),
      λ same. eq-eqb seen (length c.args.asked.now) (end.0 (c.loop-event.invariant.1.0 same)),
    )
