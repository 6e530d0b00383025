use Rattle.locked_world.proofs.Lemmas.{rules, ◌≡◌, ◌∙◌, ap, sym, arith, length, take_all, slice_get_past, given_to, upto, reply_stands, taken_length, took, passed, seen_at, none_some, same_some, too_many}
use Rattle.locked_world.proofs.story.difference.Goals.{then-seen-replies-via-then-seen-replies, then-seen-replies-via-else-seen-replies+then-not-is_same, in-Some+else-seen-replies+else-not-is_same, in_default}
use Rattle.locked_world.proofs.story.difference.Goals as goal

pub returns-then-seen-replies-clause-some : goal.returns-then-seen-replies-clause-some
returns-then-seen-replies-clause-some c =
    let gs = c.args.given.now in
    let rs = c.args.replies.now in
    let k = c.loop-i.seen in
    let there = reply_stands c.args.hart gs c.loop-i.i c.index-given-i.result c.in-Some.reply.now k (omega arith) c.index-given-i.is c.in-Some.ensures (taken_length rs k _ c.loop-i.invariant.0 c.loop-i.invariant.1) in
    elim c.then-seen-replies.branch [
      | then-seen-replies-via-then-seen-replies w ↦ λ same. none_some c.in-Some.reply.now (sym (slice_get_past rs k (omega (arith, w.if-seen-replies.true))) ∙ same ∙ there)
      | then-seen-replies-via-else-seen-replies+then-not-is_same w ↦ λ same. let e : w.index-replies-seen.result ≡ c.in-Some.reply.now = same_some _ _ (sym (seen_at rs k w.index-replies-seen.result (omega (arith, w.if-seen-replies.false)) w.index-replies-seen.is) ∙ same ∙ there) in absurd (search (rules, w.is_same.ensures.1 e))
    ]

pub loop-i-preserved : goal.loop-i-preserved
loop-i-preserved c =
    let gs = c.args.given.now in
    let rs = c.args.replies.now in
    let k = c.loop-i.seen in
    elim c.match-reply_for.branch [
      | in-Some+else-seen-replies+else-not-is_same w ↦ rw w.seen-is (omega (arith, w.if-seen-replies.false), took c.args.hart gs c.loop-i.i c.index-given-i.result w.in-Some.reply.now rs k w.index-replies-seen.result (omega arith) c.index-given-i.is w.in-Some.ensures (omega (arith, w.if-seen-replies.false)) w.index-replies-seen.is (w.is_same.ensures.0 (search rules)) c.loop-i.invariant.1)
      | in_default w ↦ rw w.seen-is (c.loop-i.invariant.0, c.loop-i.invariant.1 ∙ passed c.args.hart gs c.loop-i.i c.index-given-i.result (omega arith) c.index-given-i.is (search rules))
    ]

pub returns-then-seen-replies-2-clause-some : goal.returns-then-seen-replies-2-clause-some
returns-then-seen-replies-2-clause-some c =
    let gs = c.args.given.now in
    let rs = c.args.replies.now in
    let all : upto c.args.hart gs c.loop-i.i ≡ given_to c.args.hart gs = ap (given_to c.args.hart) (take_all c.loop-i.i gs (omega (arith, c.loop-i-test.false))) in
    too_many rs (given_to c.args.hart gs) c.loop-i.seen (omega (arith, c.if-seen-replies-2.true)) (sym (ap length all) ∙ taken_length rs c.loop-i.seen _ c.loop-i.invariant.0 c.loop-i.invariant.1)
