use Rattle.directory.proofs.Lemmas.{sym, ap, ◌∙◌, ◌≡◌, ◌&&◌, arith, nat_lt, false, get_or, no_slot, IndexedSlot, Some, and_left, and_right, le-ltb, dirent_of, is_named, on_disk, first_slot, List, ℕ, that_goes, that_here}
use Rattle.directory.proofs.index.first_named.Goals as goal
use Rattle.directory.proofs.index.first_named.Goals.{else-slot-count-via-then-slot-count+else-has_name, else-slot-count-via-else-slot-count}

pub returns-then-has_name-clause-found : goal.returns-then-has_name-clause-found
returns-then-has_name-clause-found c =
    let v = c.args.version in
    let name = c.args.name.now in
    let at = get_or c.args.slots.now c.loop-slot.slot-index no_slot in
    let is = c.has_name.ensures name c.requires (λ i. omega (arith, c.type_inv.name i)) c.words_of-words.ensures
    ∙ ap (λ (bytes : List ℕ). is_named name (dirent_of v bytes)) (first_slot v at.bytes) in
    ap Some c.found_as.ensures
    ∙ sym (c.loop-slot.invariant ∙ that_here c.args.slots.now c.loop-slot.slot-index (λ e. is_named name (dirent_of v (on_disk v e.bytes))) c.args.count c.loop-slot-test.true c.if-slot-count.true (sym is ∙ c.if-has_name.true))

pub loop-slot-preserved : goal.loop-slot-preserved
loop-slot-preserved c =
    let v = c.args.version in
    let name = c.args.name.now in
    let test = λ (e : IndexedSlot). is_named name (dirent_of v (on_disk v e.bytes)) in
    let at = get_or c.args.slots.now c.loop-slot.slot-index no_slot in
    let no : (nat_lt at.place c.args.count && test at) ≡ false =
    elim c.else-slot-count.branch [
      | else-slot-count-via-then-slot-count+else-has_name w ↦
          let is = w.has_name.ensures name c.requires (λ i. omega (arith, c.type_inv.name i)) c.words_of-words.ensures
          ∙ ap (λ (bytes : List ℕ). is_named name (dirent_of v bytes)) (first_slot v at.bytes) in
          and_right (nat_lt at.place c.args.count) (test at) (sym is ∙ w.if-has_name.false)
      | else-slot-count-via-else-slot-count w ↦ and_left (nat_lt at.place c.args.count) (test at) (le-ltb at.place c.args.count w.if-slot-count.false)
    ] in
    c.loop-slot.invariant ∙ that_goes c.args.slots.now c.loop-slot.slot-index test c.args.count c.loop-slot-test.true no
