use Rattle.directory.proofs.Lemmas.{◌≡◌, ◌∙◌, ◌≤◌, ◌*◌, sym, ap, subst, List, IndexedSlot, min, arith, length, take, take_all, dirent_of, is_named, on_disk, first_gap, first_of, first_that, free_below, slots_known, slot_count}
use Rattle.directory.proofs.index.first_of.Goals as goal

pub returns-in-Name-clause-found : goal.returns-in-Name-clause-found
unfolding first_of
returns-in-Name-clause-found c =
    rw c.in-Name.is (c.first_named.ensures.found ∙ (λ i. first_that (λ e. is_named c.in-Name.name.now (dirent_of c.args.version (on_disk c.args.version e.bytes))) (c.slot_count-count.ensures i) (c.slots.ensures.slots i)))

pub returns-in-Free-clause-found : goal.returns-in-Free-clause-found
unfolding first_of
returns-in-Free-clause-found c =
    let slots : List IndexedSlot = c.args.index.now.slots in
    let product : c.dirents_per_block.result * c.blocks-blocks.result ≡ slots_known c.args.version c.args.index.now =
    λ i. c.dirents_per_block.ensures i * c.blocks-blocks.ensures i in
    let limit : c.min.result ≡ min (slots_known c.args.version c.args.index.now) (slot_count c.args.version c.args.inode.now) = omega (arith, product) in
    let few : length slots ≤ 64 = subst (λ (es : List IndexedSlot). length es ≤ 64) c.slots-in-Free.ensures.slots c.slots-in-Free.ensures.few in
    let gap : c.first_gap.result ≡ first_gap 0 (take 64 slots) = c.first_gap.ensures.gap ∙ ap (first_gap 0) (c.slots-in-Free.ensures.slots ∙ sym (take_all 64 slots few)) in
    rw c.in-Free.is (c.free_below.ensures.free ∙ (λ i. free_below (limit i) (gap i)))
