use Rattle.image_tree.proofs.Lemmas.{◌≡◌, ◌⊎◌, ◌∙◌, inr, ap, sym, subst, refl, ℕ, List, [], ◌∷◌, ◌+◌, ◌<◌, ◌≤◌, length, get_or, set, replicate, arith, Result, Ok, Err, OnOk, OnErr, eqb-true, no_call, calls_after, Super, block_at, logged, recovered, sizes_of, IsOutsideLog, recovered-empty, Layout, IsLayout, Installed, ready_of, installed_first, installed_next, stopped_copy, stopped_clear, cleared, copy_good, clear_good, block_len}
use Rattle.image_tree.proofs.recovery.install.Goals as goal

nothing_logged : (d : List (List ℕ)) (layout : Layout) → IsLayout d layout → length layout.head.blocks.items ≡ 0 → logged d ≡ []
nothing_logged d layout is none = sym is.blocks ∙ no_items layout.head.blocks.items none
  where
    no_items : (xs : List ℕ) → length xs ≡ 0 → xs ≡ []
    no_items [] e = refl
    no_items (x ∷ xs) e = absurd (omega (arith, e))

pub returns-then-is_empty-clause-home : goal.returns-then-is_empty-clause-home
returns-then-is_empty-clause-home g c =
    let d = g.D.Device.contents c.args.device.now in
    let none : length c.as_slice-blocks.result.now ≡ 0 = eqb-true (length c.as_slice-blocks.result.now) 0 (sym c.is_empty.ensures ∙ c.if-is_empty.true) in
    let empty : logged d ≡ [] = nothing_logged d c.args.layout.now c.requires (ap (λ (l : List ℕ). length l) (sym c.as_slice-blocks.ensures.value) ∙ none) in
    λ b out. sym (recovered-empty d b empty)

pub loop-i-init : goal.loop-i-init
loop-i-init g c =
    let layout = c.args.layout.now in
    let d = g.D.Device.contents c.args.device.now in
    record { faults = refl; calls = no_call _; at = installed_first d layout.sizes layout.head.blocks.items (ready_of d layout c.requires); good = c.requires.good }

pub copy-requires-clause-from : goal.copy-requires-clause-from
copy-requires-clause-from g c =
    let layout = c.args.layout.now in
    let ready = ready_of (g.D.Device.contents c.args.device.now) layout c.requires in
    let long : length c.as_slice-blocks.result.now ≡ length layout.head.blocks.items = ap (λ (l : List ℕ). length l) c.as_slice-blocks.ensures.value in
    omega (arith, ready.within, ready.room, c.loop-i.invariant.at.long, c.loop-i-test.true, long)

module _ (d0 d e : List (List ℕ)) (layout : Layout) (is : IsLayout d0 layout) (blocks : List ℕ) (same : blocks ≡ layout.head.blocks.items) (i : ℕ)
    (at : Installed d layout.sizes (recovered d0) layout.head.blocks.items (length d0) i) where
  ks : List ℕ
  ks = layout.head.blocks.items

  named : i < length blocks → i < length layout.head.blocks.items
  named lt = subst (λ (l : List ℕ). i < length l) same lt

  out_of : (b : ℕ) → IsOutsideLog (sizes_of d0) b → IsOutsideLog layout.sizes b
  out_of b out = subst (λ (s : Super). IsOutsideLog s b) (sym is.sizes) out

  after_copy : i < length blocks → e ≡ set d (get_or blocks i 0) (block_at d (layout.sizes.logstart + 1 + i)) → Installed e layout.sizes (recovered d0) layout.head.blocks.items (length d0) (i + 1)
  after_copy lt new =
      installed_next d0 layout.sizes layout.head.blocks.items (ready_of d0 layout is) (recovered d0) d e i (named lt)
      (new ∙ ap (λ (l : List ℕ). set d (get_or l i 0) (block_at d (layout.sizes.logstart + 1 + i))) same) at

  fault_in_copy : i < length blocks → (e ≡ d) ⊎ (e ≡ set d (get_or blocks i 0) (block_at d (layout.sizes.logstart + 1 + i)))
      → ((b : ℕ) → IsOutsideLog (sizes_of d0) b → recovered e b ≡ recovered d0 b) × (sizes_of e ≡ sizes_of d0)
  fault_in_copy lt may =
      let moved : (e ≡ d) ⊎ (e ≡ set d (get_or layout.head.blocks.items i 0) (block_at d (layout.sizes.logstart + 1 + i))) = subst (λ (l : List ℕ). (e ≡ d) ⊎ (e ≡ set d (get_or l i 0) (block_at d (layout.sizes.logstart + 1 + i)))) same may in
      let kept = stopped_copy d0 layout.sizes layout.head.blocks.items (ready_of d0 layout is) (recovered d0) d e i (named lt) at moved in
      (λ b out. kept.0 b (out_of b out), kept.1 ∙ is.sizes)

  past : length blocks ≤ i → length layout.head.blocks.items ≤ i
  past le = subst (λ (l : List ℕ). length l ≤ i) same le

  after_clear : length blocks ≤ i → (e ≡ d) ⊎ (e ≡ set d layout.sizes.logstart (replicate block_len 0)) → ((b : ℕ) → IsOutsideLog (sizes_of d0) b → recovered e b ≡ recovered d0 b) × (sizes_of e ≡ sizes_of d0)
  after_clear le may =
      let kept = stopped_clear d0 layout.sizes layout.head.blocks.items (ready_of d0 layout is) (recovered d0) d e i (past le) at may in
      (λ b out. kept.0 b (out_of b out), kept.1 ∙ is.sizes)

  all_clear : length blocks ≤ i → e ≡ set d layout.sizes.logstart (replicate block_len 0) → logged e ≡ []
  all_clear le new = (cleared d0 layout.sizes layout.head.blocks.items (ready_of d0 layout is) (recovered d0) d e i (past le) new at).empty

  all_home : length blocks ≤ i → e ≡ set d layout.sizes.logstart (replicate block_len 0) → (b : ℕ) → IsOutsideLog (sizes_of d0) b → block_at e b ≡ recovered d0 b
  all_home le new b out = (cleared d0 layout.sizes layout.head.blocks.items (ready_of d0 layout is) (recovered d0) d e i (past le) new at).home b (out_of b out)

either_way : {T E : Type 0} (r : Result T E) (e d : List (List ℕ)) (c : ℕ) (v w : List ℕ) → v ≡ w → OnOk r (e ≡ set d c v) → OnErr r ((e ≡ d) ⊎ (e ≡ set d c v)) → (e ≡ d) ⊎ (e ≡ set d c w)
either_way (Ok x) e d c v w same ok err = inr (ok ∙ ap (λ (b : List ℕ). set d c b) same)
either_way (Err x) e d c v w same ok err = subst (λ (b : List ℕ). (e ≡ d) ⊎ (e ≡ set d c b)) same err

on_ok : {T E : Type 0} (r : Result T E) (P Q : Type 0) → (P → Q) → OnOk r P → OnOk r Q
on_ok (Ok x) P Q f p = f p
on_ok (Err x) P Q f p = tt

pub loop-i-preserved : goal.loop-i-preserved
loop-i-preserved g c = record {
  faults = c.in_ok-copy.ensures.faults ∙ c.loop-i.invariant.faults;
  calls = calls_after c.loop-i.invariant.calls c.in_ok-copy.ensures.calls;
  at = after_copy (g.D.Device.contents c.args.device.now) (g.D.Device.contents c.loop-i.device) (g.D.Device.contents c.copy.new.device) c.args.layout.now c.requires c.as_slice-blocks.result.now c.as_slice-blocks.ensures.value c.loop-i.i
      c.loop-i.invariant.at c.loop-i-test.true c.in_ok-copy.ensures.ok;
  good = copy_good c.args.layout.now.version (g.D.Device.contents c.loop-i.device) (g.D.Device.contents c.copy.new.device) c.args.layout.now.sizes (recovered (g.D.Device.contents c.args.device.now)) c.args.layout.now.head.blocks.items (length (g.D.Device.contents c.args.device.now)) c.loop-i.i
      c.loop-i.invariant.at c.loop-i.invariant.good c.as_slice-blocks.result.now _ c.as_slice-blocks.ensures.value c.loop-i-test.true (inr c.in_ok-copy.ensures.ok);
}

pub returns-in_err-copy-clause-good : goal.returns-in_err-copy-clause-good
returns-in_err-copy-clause-good g c =
    copy_good c.args.layout.now.version (g.D.Device.contents c.loop-i.device) (g.D.Device.contents c.copy.new.device) c.args.layout.now.sizes (recovered (g.D.Device.contents c.args.device.now)) c.args.layout.now.head.blocks.items (length (g.D.Device.contents c.args.device.now)) c.loop-i.i
    c.loop-i.invariant.at c.loop-i.invariant.good c.as_slice-blocks.result.now _ c.as_slice-blocks.ensures.value c.loop-i-test.true c.in_err-copy.ensures.err

pub returns-clause-good : goal.returns-clause-good
returns-clause-good g c =
    let d = g.D.Device.contents c.loop-i.device in
    let e = g.D.Device.contents c.write.new.self in
    clear_good c.args.layout.now.version d e c.args.layout.now.sizes (recovered (g.D.Device.contents c.args.device.now)) c.args.layout.now.head.blocks.items (length (g.D.Device.contents c.args.device.now)) c.loop-i.i
    c.loop-i.invariant.at c.loop-i.invariant.good (either_way c.write.result e d c.args.layout.now.sizes.logstart c.zeros.result (replicate block_len 0) c.zeros.ensures c.write.ensures.ok c.write.ensures.err)

pub returns-in_err-copy-clause-kept : goal.returns-in_err-copy-clause-kept
returns-in_err-copy-clause-kept g c =
    (fault_in_copy (g.D.Device.contents c.args.device.now) (g.D.Device.contents c.loop-i.device) (g.D.Device.contents c.copy.new.device) c.args.layout.now c.requires c.as_slice-blocks.result.now c.as_slice-blocks.ensures.value c.loop-i.i
    c.loop-i.invariant.at c.loop-i-test.true c.in_err-copy.ensures.err).0

pub returns-in_err-copy-clause-sizes : goal.returns-in_err-copy-clause-sizes
returns-in_err-copy-clause-sizes g c =
    (fault_in_copy (g.D.Device.contents c.args.device.now) (g.D.Device.contents c.loop-i.device) (g.D.Device.contents c.copy.new.device) c.args.layout.now c.requires c.as_slice-blocks.result.now c.as_slice-blocks.ensures.value c.loop-i.i
    c.loop-i.invariant.at c.loop-i-test.true c.in_err-copy.ensures.err).1

pub returns-clause-kept : goal.returns-clause-kept
returns-clause-kept g c =
    let d = g.D.Device.contents c.loop-i.device in
    let e = g.D.Device.contents c.write.new.self in
    (after_clear (g.D.Device.contents c.args.device.now) d e c.args.layout.now c.requires c.as_slice-blocks.result.now c.as_slice-blocks.ensures.value c.loop-i.i
    c.loop-i.invariant.at c.loop-i-test.false (either_way c.write.result e d c.args.layout.now.sizes.logstart c.zeros.result (replicate block_len 0) c.zeros.ensures c.write.ensures.ok c.write.ensures.err)).0

pub returns-clause-sizes : goal.returns-clause-sizes
returns-clause-sizes g c =
    let d = g.D.Device.contents c.loop-i.device in
    let e = g.D.Device.contents c.write.new.self in
    (after_clear (g.D.Device.contents c.args.device.now) d e c.args.layout.now c.requires c.as_slice-blocks.result.now c.as_slice-blocks.ensures.value c.loop-i.i
    c.loop-i.invariant.at c.loop-i-test.false (either_way c.write.result e d c.args.layout.now.sizes.logstart c.zeros.result (replicate block_len 0) c.zeros.ensures c.write.ensures.ok c.write.ensures.err)).1

pub returns-clause-cleared : goal.returns-clause-cleared
returns-clause-cleared g c =
    let d = g.D.Device.contents c.loop-i.device in
    let e = g.D.Device.contents c.write.new.self in
    on_ok c.write.result (e ≡ set d c.args.layout.now.sizes.logstart c.zeros.result) (logged e ≡ [])
    (λ new. all_clear (g.D.Device.contents c.args.device.now) d e c.args.layout.now c.requires c.as_slice-blocks.result.now c.as_slice-blocks.ensures.value c.loop-i.i
    c.loop-i.invariant.at c.loop-i-test.false (new ∙ ap (λ (b : List ℕ). set d c.args.layout.now.sizes.logstart b) c.zeros.ensures))
    c.write.ensures.ok
