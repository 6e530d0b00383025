use Rattle.image_tree.proofs.Lemmas.{◌≢◌, ◌∙◌, sym, subst, ℕ, arith, List, All, IsData, sizes_of, numbers_by, numbers_of, numbers_by_free, numbers_by_used, twelfth_within, small_numbers, All-addrs, in_order}
use Rattle.image_tree.proofs.numbers.numbers_at.Goals as goal

pub returns-then-is_free-clause-numbers : goal.returns-then-is_free-clause-numbers
returns-then-is_free-clause-numbers g c =
    let disk : List (List ℕ) = g.D.Device.contents c.args.device.now in
    c.new.ensures ∙ sym (numbers_by_free disk c.args.i c.in_ok-inode.inode c.in_ok-inode.ensures.inode (sym c.is_free.ensures ∙ c.if-is_free.true))

pub load_numbers-requires-clause-bound : goal.load_numbers-requires-clause-bound
load_numbers-requires-clause-bound g c =
    let disk : List (List ℕ) = g.D.Device.contents c.args.device.now in
    let P : ℕ → Type 0 = λ b. b ≢ 0 → IsData (sizes_of disk) b in
    let e = numbers_by_used disk c.args.i c.in_ok-inode.inode c.in_ok-inode.ensures.inode (sym c.is_free.ensures ∙ c.if-is_free.false) in
    let size = in_order disk c.args.layout.now c.requires.layout in
    let all : All P (numbers_of disk c.in_ok-inode.inode) = subst (All P) e (c.requires.good c.args.i c.requires.low (rw (← c.requires.layout.sizes) c.requires.bound)) in
    rw c.load_inode.ensures.device.contents (twelfth_within disk c.args.layout.now c.in_ok-inode.inode c.requires.layout (omega arith) (All-addrs P disk c.in_ok-inode.inode all))

pub returns-clause-numbers : goal.returns-clause-numbers
returns-clause-numbers g c =
    let disk : List (List ℕ) = g.D.Device.contents c.args.device.now in
    let e = numbers_by_used disk c.args.i c.in_ok-inode.inode c.in_ok-inode.ensures.inode (sym c.is_free.ensures ∙ c.if-is_free.false) in
    rw (e, ← c.load_inode.ensures.device.contents) c.in_ok-numbers.ensures.numbers

pub returns-clause-small : goal.returns-clause-small
returns-clause-small g c =
    let disk : List (List ℕ) = g.D.Device.contents c.args.device.now in
    let P : ℕ → Type 0 = λ b. b ≢ 0 → IsData (sizes_of disk) b in
    let is = returns-clause-numbers g c in
    let all : All P (numbers_by disk c.args.i) = c.requires.good c.args.i c.requires.low (rw (← c.requires.layout.sizes) c.requires.bound) in
    rw is (small_numbers disk (numbers_by disk c.args.i) c.requires.layout.good.0.0.1.1.size all)
