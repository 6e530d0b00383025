use Rattle.image_tree.proofs.Lemmas.{◌≢◌, ◌∙◌, sym, subst, ℕ, List, ap, All, IsData, sizes_of, numbers_by_free, numbers_by_used, All-nil, numbers_of}
use Rattle.damage_places.specs.Places.{IsFaultOf}
use Rattle.damage_places.specs.declared.place.Check.TheVariants as checks
use Rattle.damage_places.specs.declared.place.InodeFault.{InodeFault}
use Rattle.damage_places.proofs.NumberLemmas.{outside_any, outside_direct}
use Rattle.damage_places.proofs.numbers.outside_fault.Goals as goal

pub returns-then-is_free-clause-fault : goal.returns-then-is_free-clause-fault
returns-then-is_free-clause-fault g c =
    let disk : List (List ℕ) = g.D.Device.contents c.args.device.now in
    let e = numbers_by_free disk c.args.i c.in_ok-inode.inode c.in_ok-inode.ensures.inode (sym c.is_free.ensures ∙ c.if-is_free.true) in
    subst (All (λ b. b ≢ 0 → IsData (sizes_of disk) b)) (sym e) (All-nil _)

pub returns-in-Some-clause-fault : goal.returns-in-Some-clause-fault
returns-in-Some-clause-fault g c =
    let disk : List (List ℕ) = g.D.Device.contents c.args.device.now in
    subst (λ (f : InodeFault). IsFaultOf c.args.layout.now.version disk c.args.i checks.Numbers f) (sym c.outside.ensures)
    (outside_direct disk c.args.layout.now c.args.i c.in_ok-inode.inode c.requires.layout c.in_ok-inode.ensures.inode (sym c.is_free.ensures ∙ c.if-is_free.false)
    c.in-Some.place c.in-Some.ensures)

pub returns-in-Some-first_outside-clause-fault : goal.returns-in-Some-first_outside-clause-fault
returns-in-Some-first_outside-clause-fault g c =
    let disk : List (List ℕ) = g.D.Device.contents c.args.device.now in
    subst (λ (f : InodeFault). IsFaultOf c.args.layout.now.version disk c.args.i checks.Numbers f) (sym c.outside-in-Some-first_outside.ensures)
    (outside_any disk c.args.layout.now c.args.i c.in_ok-inode.inode c.requires.layout c.in_ok-inode.ensures.inode (sym c.is_free.ensures ∙ c.if-is_free.false)
    c.as_slice-numbers.result.now c.in-Some-first_outside.place
    (c.as_slice-numbers.ensures.value ∙ c.in_ok-numbers.ensures.numbers ∙ ap (λ (d : List (List ℕ)). numbers_of d c.in_ok-inode.inode) c.in_ok-inode.ensures.device.contents)
    c.in-Some-first_outside.ensures)

pub returns-in-None-clause-fault : goal.returns-in-None-clause-fault
returns-in-None-clause-fault g c =
    let disk : List (List ℕ) = g.D.Device.contents c.args.device.now in
    let e = numbers_by_used disk c.args.i c.in_ok-inode.inode c.in_ok-inode.ensures.inode (sym c.is_free.ensures ∙ c.if-is_free.false) in
    let n = c.in_ok-numbers.ensures.numbers in
    let v = c.as_slice-numbers.ensures.value in
    let same = c.load_inode.ensures.device.contents in
    rw (e, ← c.requires.layout.sizes, ← same, ← n, ← v) c.in-None.ensures
