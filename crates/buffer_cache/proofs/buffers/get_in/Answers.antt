use Rattle.buffer_cache.proofs.Lemmas.{◌≡◌, List, ℕ, Option, Some, None, map, refl, sym, ◌∙◌, ap, arith, find, position, length-map, SeatState, is_free, has_block, numbered, IsFirst, has_free, first_free_in, keeps_lent, keeps_renewed, chained_lent, chained_anew}
use Rattle.buffer_cache.proofs.buffers.get_in.Goals as goal

pub unwrap-i-requires : goal.unwrap-i-requires
unwrap-i-requires c =
    has_free c.args.seats.now.items c.args.order.now is_free c.first_free.result
    (c.first_free.ensures ∙ ap (λ (l : List SeatState). find (λ n. is_free (numbered l n)) c.args.order.now) c.deref-in-None.ensures.value) c.requires.free

pub overflow_cast-i : goal.overflow_cast-i
overflow_cast-i c =
    let lt = (first_free_in c.args.seats.now.items c.args.order.now is_free c.first_free.result c.unwrap-i.result c.requires.linked.kept.ordered
    (c.first_free.ensures ∙ ap (λ (l : List SeatState). find (λ n. is_free (numbered l n)) c.args.order.now) c.deref-in-None.ensures.value) c.unwrap-i.ensures).within in
    let count = c.requires.linked.chained.count in
    omega (arith, lt, count)

pub move_to-requires : goal.move_to-requires
move_to-requires c =
    let lt = (first_free_in c.args.seats.now.items c.args.order.now is_free c.first_free.result c.unwrap-i.result c.requires.linked.kept.ordered
    (c.first_free.ensures ∙ ap (λ (l : List SeatState). find (λ n. is_free (numbered l n)) c.args.order.now) c.deref-in-None.ensures.value) c.unwrap-i.ensures).within in
    let count = c.requires.linked.chained.count in
    omega (arith, lt, count)

pub renew-requires-clause-place : goal.renew-requires-clause-place
renew-requires-clause-place c =
    (first_free_in c.args.seats.now.items c.args.order.now is_free c.first_free.result c.unwrap-i.result c.requires.linked.kept.ordered
    (c.first_free.ensures ∙ ap (λ (l : List SeatState). find (λ n. is_free (numbered l n)) c.args.order.now) c.deref-in-None.ensures.value) c.unwrap-i.ensures).within

pub renew-requires-clause-free : goal.renew-requires-clause-free
renew-requires-clause-free c =
    (first_free_in c.args.seats.now.items c.args.order.now is_free c.first_free.result c.unwrap-i.result c.requires.linked.kept.ordered
    (c.first_free.ensures ∙ ap (λ (l : List SeatState). find (λ n. is_free (numbered l n)) c.args.order.now) c.deref-in-None.ensures.value) c.unwrap-i.ensures).passes

pub returns-in-Some : goal.returns-in-Some
returns-in-Some c =
    let place : position (has_block c.args.b) c.args.seats.now.items ≡ Some c.in-Some.i = ap (position (has_block c.args.b)) (sym c.deref.ensures.value) ∙ sym c.find.ensures ∙ c.in-Some.is in
    let lent = keeps_lent c.args.seats.now.items c.args.order.now c.lend.new.seats.items c.args.hart c.args.b c.in-Some.i c.lend.result c.requires.linked.kept.ordered c.requires.once place c.lend.ensures.gives in
    record {
      gives = lent.0;
      linked = record {
        kept = record { seated = c.lend.ensures.seated; ordered = lent.1 };
        chained = chained_lent c.args.seats.now.items c.lend.new.seats.items c.args.chains.now c.args.hart c.args.b c.in-Some.i c.lend.result place c.lend.ensures.gives c.requires.linked.chained;
      };
    }

pub returns-in-None : goal.returns-in-None
returns-in-None c =
    let ss : List SeatState = c.args.seats.now.items in
    let none : position (has_block c.args.b) ss ≡ None = ap (position (has_block c.args.b)) (sym c.deref.ensures.value) ∙ sym c.find.ensures ∙ c.in-None.is in
    let found : IsFirst ss c.args.order.now is_free c.unwrap-i.result = first_free_in ss c.args.order.now is_free c.first_free.result c.unwrap-i.result c.requires.linked.kept.ordered
    (c.first_free.ensures ∙ ap (λ (l : List SeatState). find (λ n. is_free (numbered l n)) c.args.order.now) c.deref-in-None.ensures.value) c.unwrap-i.ensures in
    let renewed = keeps_renewed ss c.args.order.now c.renew.new.seats.items c.args.hart c.args.b c.unwrap-i.result c.renew.result c.requires.linked.kept.ordered none found.within found.first c.renew.ensures.seats c.renew.ensures.gives in
    let blocks : List (Option ℕ) = map (λ (s : SeatState). s.block) ss in
    record {
      gives = renewed.0;
      linked = record {
        kept = record { seated = c.renew.ensures.seated; ordered = renewed.1 };
        chained = chained_anew ss c.renew.new.seats.items c.args.chains.now c.move_to.new.self c.unwrap-i.result _ (Some c.args.b) c.requires.linked.chained c.renew.ensures.seats refl
            (c.move_to.ensures blocks (let lt = found.within in let long = length-map ss (λ (s : SeatState). s.block) in omega (arith, lt, long)) c.requires.linked.chained.grouped);
      };
    }
