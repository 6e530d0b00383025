use Rattle.directory.proofs.Lemmas.{◌≡◌, ◌≢◌, ◌∙◌, ◌+◌, ◌++◌, ◌∷◌, [], ℕ, List, IndexState, IndexedSlot, refl, sym, ap, arith, append_assoc, length, length-append, append-nil, used_in, raise_full, raise_whole, slot, used_free, used_one}
use Rattle.directory.proofs.index.raise.Goals as goal
use Rattle.directory.proofs.index.raise.Goals.{then-number_at-ne0+else-slots-eq-INDEXED_SLOTS, else-number_at-ne0}

pub loop-place-init : goal.loop-place-init
unfolding used_in
loop-place-init c = record {
  had = ap length c.slots-had.ensures.slots;
  blocks = refl;
  slots = sym (append-nil c.args.index.now.slots);
  few = omega (arith, c.slots-had.ensures.few, ap length c.slots-had.ensures.slots);
}

pub returns-then-slots-eq-INDEXED_SLOTS : goal.returns-then-slots-eq-INDEXED_SLOTS
returns-then-slots-eq-INDEXED_SLOTS c =
    let before = c.loop-place.invariant in
    let full : length c.loop-place.index.slots ≡ 64 = ap length (sym c.slots.ensures.slots) ∙ c.if-slots-eq-INDEXED_SLOTS.true in
    let p : ℕ = c.loop-place.place in
    c.truncate.ensures
    ∙ rw (before.blocks, before.had)
    (raise_full c.args.version c.args.k c.args.block.now c.args.index.now c.loop-place.index.slots c.args.count p c.loop-place-test.true (λ z. c.if-number_at-ne0.true (c.number_at.ensures ∙ z)) before.slots full)

pub loop-place-preserved : goal.loop-place-preserved
loop-place-preserved c =
    let before = c.loop-place.invariant in
    let k : ℕ = c.args.k in
    let p : ℕ = c.loop-place.place in
    let block : List ℕ = c.args.block.now in
    let had : List IndexedSlot = c.args.index.now.slots in
    elim c.if-number_at-ne0.branch [
      | then-number_at-ne0+else-slots-eq-INDEXED_SLOTS w ↦
          let now : c.if-number_at-ne0.index ≡ record { blocks = c.loop-place.index.blocks; slots = c.loop-place.index.slots ++ slot c.args.version k block p ∷ [] } =
          w.index-is ∙ w.push.ensures ∙ ap (λ (e : IndexedSlot). let x : IndexState = record { blocks = c.loop-place.index.blocks; slots = c.loop-place.index.slots ++ e ∷ [] } in x) w.slot_at.ensures in
          let room : length c.loop-place.index.slots ≢ 64 = λ e. w.if-slots-eq-INDEXED_SLOTS.false (ap length w.slots.ensures.slots ∙ e) in
          let one : used_in c.args.version k (p + 1) block ≡ used_in c.args.version k p block ++ slot c.args.version k block p ∷ [] = used_one c.args.version k block p (λ z. w.if-number_at-ne0.true (c.number_at.ensures ∙ z)) in
          record {
            had = before.had;
            blocks = ap (λ (x : IndexState). x.blocks) now ∙ before.blocks;
            slots = ap (λ (x : IndexState). x.slots) now ∙ ap (λ es. es ++ slot c.args.version k block p ∷ []) before.slots ∙ append_assoc had (used_in c.args.version k p block) (slot c.args.version k block p ∷ [])
                ∙ ap (λ es. had ++ es) (sym one);
            few = omega (arith, ap (λ (x : IndexState). length x.slots) now, length-append c.loop-place.index.slots (slot c.args.version k block p ∷ []), before.few);
          }
      | else-number_at-ne0 w ↦
          let same : used_in c.args.version k (p + 1) block ≡ used_in c.args.version k p block = used_free c.args.version k block p (sym c.number_at.ensures ∙ w.if-number_at-ne0.false) in
          record {
            had = before.had;
            blocks = ap (λ (x : IndexState). x.blocks) w.index-is ∙ before.blocks;
            slots = ap (λ (x : IndexState). x.slots) w.index-is ∙ before.slots ∙ ap (λ es. had ++ es) (sym same);
            few = omega (arith, ap (λ (x : IndexState). length x.slots) w.index-is, before.few);
          }
    ]

pub returns : goal.returns
returns c =
    let at_end = c.loop-place.invariant in
    let k : ℕ = c.args.k in
    let block : List ℕ = c.args.block.now in
    let end : c.loop-place.place ≡ c.args.count = omega arith in
    let next : c.args.index.now.blocks ≡ k = sym c.blocks-2.ensures ∙ c.if-blocks-k.false in
    let slots : c.loop-place.index.slots ≡ c.args.index.now.slots ++ used_in c.args.version k c.args.count block = at_end.slots ∙ ap (λ (p : ℕ). c.args.index.now.slots ++ used_in c.args.version k p block) end in
    c.set_blocks.ensures ∙ raise_whole c.args.version k block c.args.index.now c.loop-place.index.slots c.args.count next slots at_end.few
