use Rattle.std.proofs.Common.{rules, ◌≡◌, ◌<◌, length}
use Rattle.image_reports.proofs.Pairs.{no_byte, none_left, one_byte, one_left}
use Rattle.image_reports.proofs.words.pairs_in.Goals as goal

pub returns-in_default : goal.returns-in_default
returns-in_default c = no_byte c.loop-rest.bytes.items c.loop-rest.rest.now c.args.digits.now c.loop-rest-test.true (search rules) c.loop-rest.invariant

pub loop-rest-preserved : goal.loop-rest-preserved
loop-rest-preserved c =
    one_byte c.loop-rest.bytes.items c.push.new.items.items c.loop-rest.rest.now c.after_pair-rest.result.now c.args.digits.now c.in-Some.byte c.loop-rest-test.true
    (search rules) (search rules) c.after_pair-rest.ensures c.loop-rest.invariant

pub returns-then-is_empty : goal.returns-then-is_empty
returns-then-is_empty c =
    let none : length c.loop-rest.rest.now ≡ 0 = search rules in
    none_left c.loop-rest.bytes.items c.loop-rest.rest.now c.args.digits.now none c.loop-rest.invariant

pub returns-else-is_empty : goal.returns-else-is_empty
returns-else-is_empty c =
    let some : 0 < length c.loop-rest.rest.now = search rules in
    one_left c.loop-rest.bytes.items c.loop-rest.rest.now c.args.digits.now c.loop-rest-test.false some c.loop-rest.invariant
