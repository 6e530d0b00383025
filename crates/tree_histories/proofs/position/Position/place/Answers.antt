use Rattle.tree_histories.proofs.Lemmas.{◌≡◌, ◌<◌, ℕ, length, refl, sym, ◌∙◌, ap, subst, arith, get_or, max, slice_get_within, TreeData, tree_of, IsRefused, ApplyRefused, Chain, is_nothing, Stand, after, next_from, start, Fits, IsTimely, end_of, last_event, bad_dead, bad_numbers, no_call, no_fit, no_next, no_place, not_timely, between, end_still, gone, got, placed, read_at, retree, same_kept}
use Rattle.tree_histories.proofs.position.Position.place.Goals as goal

pub returns-in_default : goal.returns-in_default
returns-in_default c = (
  same_kept c.args.version c.args.base.now c.args.trace.now c.args.self.now c.requires.at,
  λ earliest. no_call c.args.version c.args.trace.now c.args.self.now c.args.id c.args.new (gone c.args.trace.now.calls c.as_slice.result.now c.args.id c.as_slice.ensures c.in_default.ensures.lookup.3),
)

pub returns-then-not-is_timely : goal.returns-then-not-is_timely
returns-then-not-is_timely c =
    let is = got c.args.trace.now.calls c.as_slice.result.now c.args.id c.in-Some.traced.now c.as_slice.ensures c.in-Some.ensures.lookup.3.0 c.in-Some.ensures.lookup.1 in
    let last : c.last_event.result ≡ last_event c.args.self.now.list.items = c.last_event.ensures ∙ ap last_event c.deref.ensures.value in
    let least : c.max-least.result ≡ max (last_event c.args.self.now.list.items) c.in-Some.traced.now.start = c.max-least.ensures ∙ ap (λ n. max n c.in-Some.traced.now.start) last in (
      same_kept c.args.version c.args.base.now c.args.trace.now c.args.self.now c.requires.at,
      λ earliest. not_timely c.args.version c.args.base.now c.args.trace.now c.args.self.now c.args.id c.args.new c.max-least.result earliest.due c.in-Some.traced.now c.requires.at earliest.is is (between (last_event c.args.self.now.list.items) c.in-Some.traced.now.start c.max-least.result least) (λ w. (let y = c.is_timely.ensures.1 (subst (λ (n : ℕ). IsTimely c.in-Some.traced.now.finished c.max-least.result n c.args.trace.now.events) earliest.at w) in let n = c.if-not-is_timely.true in cc)),
    )

pub returns-in_default-2 : goal.returns-in_default-2
returns-in_default-2 c =
    let is = got c.args.trace.now.calls c.as_slice.result.now c.args.id c.in-Some.traced.now c.as_slice.ensures c.in-Some.ensures.lookup.3.0 c.in-Some.ensures.lookup.1 in
    let lt : c.args.id < length c.args.trace.now.calls = slice_get_within c.args.trace.now.calls c.args.id c.in-Some.traced.now is in
    let stand : c.index-stand.result.now ≡ get_or c.args.self.now.stands.items c.args.id start = read_at c.args.self.now.stands.items c.args.id c.index-stand.result.now start (omega (arith, c.requires.at.stands)) c.index-stand.ensures in
    let none = ap (λ (s : Stand). next_from c.in-Some.traced.now.call s) (sym stand) ∙ (sym c.in_ok-action.ensures.next ∙ c.in_default-2.is) in (
      same_kept c.args.version c.args.base.now c.args.trace.now c.args.self.now c.requires.at,
      λ earliest. no_next c.args.version c.args.base.now c.args.trace.now c.args.self.now c.args.id c.args.new c.in-Some.traced.now c.requires.at is none,
    )

pub returns-then-not-is_in_place : goal.returns-then-not-is_in_place
returns-then-not-is_in_place c =
    let is = got c.args.trace.now.calls c.as_slice.result.now c.args.id c.in-Some.traced.now c.as_slice.ensures c.in-Some.ensures.lookup.3.0 c.in-Some.ensures.lookup.1 in
    let lt : c.args.id < length c.args.trace.now.calls = slice_get_within c.args.trace.now.calls c.args.id c.in-Some.traced.now is in
    let stand : c.index-stand.result.now ≡ get_or c.args.self.now.stands.items c.args.id start = read_at c.args.self.now.stands.items c.args.id c.index-stand.result.now start (omega (arith, c.requires.at.stands)) c.index-stand.ensures in
    let next = ap (λ (s : Stand). next_from c.in-Some.traced.now.call s) (sym stand) ∙ (sym c.in_ok-action.ensures.next ∙ c.in-Some-2.is) in (
      same_kept c.args.version c.args.base.now c.args.trace.now c.args.self.now c.requires.at,
      λ earliest. no_place c.args.version c.args.base.now c.args.trace.now c.args.self.now c.args.id c.args.new c.in-Some.traced.now c.in-Some-2.action c.requires.at is next (λ w. (let y = c.is_in_place.ensures.1 w in let n = c.if-not-is_in_place.true in cc)),
    )

pub returns-in-Err-BadChoice : goal.returns-in-Err-BadChoice
returns-in-Err-BadChoice c =
    let is = got c.args.trace.now.calls c.as_slice.result.now c.args.id c.in-Some.traced.now c.as_slice.ensures c.in-Some.ensures.lookup.3.0 c.in-Some.ensures.lookup.1 in
    let lt : c.args.id < length c.args.trace.now.calls = slice_get_within c.args.trace.now.calls c.args.id c.in-Some.traced.now is in
    let stand : c.index-stand.result.now ≡ get_or c.args.self.now.stands.items c.args.id start = read_at c.args.self.now.stands.items c.args.id c.index-stand.result.now start (omega (arith, c.requires.at.stands)) c.index-stand.ensures in
    let next = ap (λ (s : Stand). next_from c.in-Some.traced.now.call s) (sym stand) ∙ (sym c.in_ok-action.ensures.next ∙ c.in-Some-2.is) in
    let bad = subst (λ (x : ApplyRefused). IsRefused c.args.version c.args.self.now.tree (record { hart = c.in-Some.traced.now.hart; new = c.args.new; action = c.in-Some-2.action }) x c.apply.new.self) c.in-Err-BadChoice.field-0-is c.in-Err-BadChoice.ensures in (
      retree c.args.version c.args.base.now c.args.trace.now c.args.self.now _ c.requires.at refl refl refl (subst (λ (d : TreeData). Chain c.args.version (tree_of c.args.base.now) c.args.self.now.list.items (tree_of d)) (sym bad.1) c.requires.at.chain),
      bad_numbers c.args.version c.args.base.now c.args.trace.now c.args.self.now c.args.id c.args.new c.in-Some.traced.now c.in-Some-2.action c.requires.at is next bad.0,
      bad_dead c.args.version c.args.base.now c.args.trace.now c.args.self.now c.args.id c.args.new c.in-Some.traced.now c.in-Some-2.action c.requires.at is next bad.0,
    )

pub returns-then-not-fits : goal.returns-then-not-fits
returns-then-not-fits c =
    let is = got c.args.trace.now.calls c.as_slice.result.now c.args.id c.in-Some.traced.now c.as_slice.ensures c.in-Some.ensures.lookup.3.0 c.in-Some.ensures.lookup.1 in
    let lt : c.args.id < length c.args.trace.now.calls = slice_get_within c.args.trace.now.calls c.args.id c.in-Some.traced.now is in
    let stand : c.index-stand.result.now ≡ get_or c.args.self.now.stands.items c.args.id start = read_at c.args.self.now.stands.items c.args.id c.index-stand.result.now start (omega (arith, c.requires.at.stands)) c.index-stand.ensures in
    let next = ap (λ (s : Stand). next_from c.in-Some.traced.now.call s) (sym stand) ∙ (sym c.in_ok-action.ensures.next ∙ c.in-Some-2.is) in
    let place = c.is_in_place.ensures.0 c.if-not-is_in_place.false in
    let later = c.after-then.ensures ∙ ap (λ (s : Stand). after s c.in-Ok.answer) stand in (
      retree c.args.version c.args.base.now c.args.trace.now c.args.self.now _ c.requires.at refl refl refl (subst (λ l. Chain c.args.version (tree_of c.args.base.now) l (tree_of c.in_ok-self.field-0)) c.deref-then-not-fits.ensures.value c.in_ok-self.ensures),
      λ earliest. no_fit c.args.version c.args.base.now c.args.trace.now c.args.self.now c.args.id c.args.new c.in-Some.traced.now c.in-Some-2.action c.in-Ok.answer (tree_of c.apply.new.self) c.after-then.result c.requires.at is next place c.in-Ok.ensures later (λ w. (let y = c.fits.ensures.1 (subst (λ (s : Stand). Fits c.in-Some.traced.now.finished c.in-Some.traced.now.call s c.after-then.result c.in-Ok.answer) (sym stand) w) in let n = c.if-not-fits.true in cc)),
    )

pub note_end-requires : goal.note_end-requires
note_end-requires c =
    let is = got c.args.trace.now.calls c.as_slice.result.now c.args.id c.in-Some.traced.now c.as_slice.ensures c.in-Some.ensures.lookup.3.0 c.in-Some.ensures.lookup.1 in
    let lt : c.args.id < length c.args.trace.now.calls = slice_get_within c.args.trace.now.calls c.args.id c.in-Some.traced.now is in
    let stand : c.index-stand.result.now ≡ get_or c.args.self.now.stands.items c.args.id start = read_at c.args.self.now.stands.items c.args.id c.index-stand.result.now start (omega (arith, c.requires.at.stands)) c.index-stand.ensures in
    let next = ap (λ (s : Stand). next_from c.in-Some.traced.now.call s) (sym stand) ∙ (sym c.in_ok-action.ensures.next ∙ c.in-Some-2.is) in record {
      within = omega (arith, c.requires.at.ends);
      end = end_still c.args.version c.args.base.now c.args.trace.now c.args.self.now c.args.id c.in-Some.traced.now c.in-Some-2.action c.requires.at is next;
    }

pub returns : goal.returns
returns c =
    let is = got c.args.trace.now.calls c.as_slice.result.now c.args.id c.in-Some.traced.now c.as_slice.ensures c.in-Some.ensures.lookup.3.0 c.in-Some.ensures.lookup.1 in
    let lt : c.args.id < length c.args.trace.now.calls = slice_get_within c.args.trace.now.calls c.args.id c.in-Some.traced.now is in
    let last : c.last_event.result ≡ last_event c.args.self.now.list.items = c.last_event.ensures ∙ ap last_event c.deref.ensures.value in
    let least : c.max-least.result ≡ max (last_event c.args.self.now.list.items) c.in-Some.traced.now.start = c.max-least.ensures ∙ ap (λ n. max n c.in-Some.traced.now.start) last in
    let stand : c.index-stand.result.now ≡ get_or c.args.self.now.stands.items c.args.id start = read_at c.args.self.now.stands.items c.args.id c.index-stand.result.now start (omega (arith, c.requires.at.stands)) c.index-stand.ensures in
    let next = ap (λ (s : Stand). next_from c.in-Some.traced.now.call s) (sym stand) ∙ (sym c.in_ok-action.ensures.next ∙ c.in-Some-2.is) in
    let place = c.is_in_place.ensures.0 c.if-not-is_in_place.false in
    let later = c.after-then.ensures ∙ ap (λ (s : Stand). after s c.in-Ok.answer) stand in
    placed c.args.version c.args.base.now c.args.trace.now c.args.self.now c.args.id c.args.new c.args.wish c.event_for-event.result c.in-Some.traced.now c.args.limit c.in-Some-2.action c.in-Ok.answer (tree_of c.apply.new.self) c.after-then.result (end_of c.in-Some.traced.now (is_nothing (next_from c.in-Some.traced.now.call c.after-then.result))) _ (record {
      at = c.requires.at;
      is = is;
      below = c.requires.limit;
      low = omega (arith, c.event_for-event.ensures.least, least);
      started = omega (arith, c.event_for-event.ensures.least, least);
      least = λ none. between (last_event c.args.self.now.list.items) c.in-Some.traced.now.start c.event_for-event.result (c.event_for-event.ensures.unwished none ∙ least);
      timely = c.event_for-event.ensures.timely;
      next = next;
      place = place;
      made = c.in-Ok.ensures;
      stand = later;
      fits = subst (λ (s : Stand). Fits c.in-Some.traced.now.finished c.in-Some.traced.now.call s c.after-then.result c.in-Ok.answer) stand (c.fits.ensures.0 c.if-not-fits.false);
      end = refl;
      tree = refl;
      list = c.in_ok-push.ensures.items;
      stands = refl;
      ends = c.note_end.ensures;
    })
