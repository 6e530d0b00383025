use Rattle.inode_table.proofs.Lemmas.{◌≡◌, ℕ, ◌+◌, ◌*◌, ◌<◌, ◌≤◌, List, [], ◌∷◌, ◌++◌, length, take, set, Bool, true, false, cond, refl, ap, sym, ◌∙◌, arith, add-one, take-suc-set, append-nil, length-set, inodes_per_block, is_free_in, free_among}
use Rattle.inode_table.proofs.new_inode.free_numbers.Goals as goal
use Rattle.inode_table.proofs.new_inode.free_numbers.Goals.{then-is_free, else-is_free}

pub loop-k-init : goal.loop-k-init
unfolding free_among
loop-k-init c = record { room = refl; few = omega arith; among = refl }

-- one inode more
free_more : (ninodes first : ℕ) (block : List ℕ) (k : ℕ) (free : Bool) → is_free_in ninodes block (first + k) ≡ free
    → free_among ninodes first block (k + 1) ≡ free_among ninodes first block k ++ cond free ((first + k) ∷ []) []
unfolding free_among
free_more ninodes first block k free e = rw add-one (ap (λ (b : Bool). free_among ninodes first block k ++ cond b ((first + k) ∷ []) []) e)

pub loop-k-preserved : goal.loop-k-preserved
loop-k-preserved c =
    let first : ℕ = inodes_per_block * c.args.before in
    let block : List ℕ = c.args.block.now in
    elim c.if-is_free.branch as
    (λ _. record { room : length c.if-is_free.numbers ≡ inodes_per_block; few : c.if-is_free.count ≤ c.loop-k.k + 1; among : take c.if-is_free.count c.if-is_free.numbers ≡ free_among c.args.ninodes first block (c.loop-k.k + 1) }) [
      | then-is_free w ↦
          let more = free_more c.args.ninodes first block c.loop-k.k true (sym c.is_free.ensures ∙ w.if-is_free.true) in
          let number : ℕ = first + c.loop-k.k in
          let lt : c.loop-k.count < length c.loop-k.numbers = omega (arith, c.loop-k.invariant.few, c.loop-k.invariant.room, c.loop-k-test.true) in
          rw (w.numbers-is, w.count-is) (record {
            room = length-set c.loop-k.numbers c.loop-k.count (first + c.loop-k.k) ∙ c.loop-k.invariant.room;
            few = omega (arith, c.loop-k.invariant.few);
            among = ap (λ (n : ℕ). take n (set c.loop-k.numbers c.loop-k.count number)) (add-one c.loop-k.count)
                ∙ (take-suc-set c.loop-k.numbers c.loop-k.count number lt ∙ (ap (λ (xs : List ℕ). xs ++ number ∷ []) c.loop-k.invariant.among ∙ sym more));
          })
      | else-is_free w ↦
          let more = free_more c.args.ninodes first block c.loop-k.k false (sym c.is_free.ensures ∙ w.if-is_free.false) in
          rw (w.numbers-is, w.count-is) (record { room = c.loop-k.invariant.room; few = omega (arith, c.loop-k.invariant.few); among = c.loop-k.invariant.among ∙ (sym (append-nil _) ∙ sym more) })
    ]

pub returns : goal.returns
returns c =
    let last : c.loop-k.k ≡ inodes_per_block = omega arith in
    record { count = omega (arith, last, c.loop-k.invariant.few); numbers = c.loop-k.invariant.among ∙ ap (free_among c.args.ninodes (inodes_per_block * c.args.before) c.args.block.now) last }
