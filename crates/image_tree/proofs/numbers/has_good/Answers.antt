use Rattle.image_tree.proofs.Lemmas.{◌≢◌, sym, subst, ℕ, List, ◌∙◌, All, IsData, sizes_of, iff_false, held, refuted, numbers_by_free, numbers_by_used, All-addrs, All-nil}
use Rattle.image_tree.proofs.numbers.has_good.Goals as goal

pub returns-then-is_free-clause-good : goal.returns-then-is_free-clause-good
returns-then-is_free-clause-good g c =
    let disk : List (List ℕ) = g.D.Device.contents c.args.device.now in
    let e = numbers_by_free disk c.args.i c.in_ok-inode.inode c.in_ok-inode.ensures.inode (sym c.is_free.ensures ∙ c.if-is_free.true) in
    held _ (subst (All (λ b. b ≢ 0 → IsData (sizes_of disk) b)) (sym e) (All-nil _))

pub returns-then-not-are_good-clause-good : goal.returns-then-not-are_good-clause-good
returns-then-not-are_good-clause-good g c =
    refuted _ (λ h.
    let disk : List (List ℕ) = g.D.Device.contents c.args.device.now in
    let e = numbers_by_used disk c.args.i c.in_ok-inode.inode c.in_ok-inode.ensures.inode (sym c.is_free.ensures ∙ c.if-is_free.false) in
    let P : ℕ → Type 0 = λ b. b ≢ 0 → IsData (sizes_of disk) b in
    let front : All P c.in_ok-inode.inode.addrs = All-addrs P disk c.in_ok-inode.inode (subst (All P) e h) in
    iff_false c.are_good.ensures c.if-not-are_good.true (rw c.requires.layout.sizes front))

pub returns-clause-good : goal.returns-clause-good
returns-clause-good g c =
    let disk : List (List ℕ) = g.D.Device.contents c.args.device.now in
    let e = numbers_by_used disk c.args.i c.in_ok-inode.inode c.in_ok-inode.ensures.inode (sym c.is_free.ensures ∙ c.if-is_free.false) in
    let n = c.in_ok-numbers.ensures.numbers in
    let v = c.as_slice.ensures.value in
    let same = c.load_inode.ensures.device.contents in
    rw (e, ← c.requires.layout.sizes, ← same, ← n, ← v) c.are_good-2.ensures
