use Rattle.image_tree.proofs.Lemmas.{◌≡◌, ◌∙◌, ℕ, ◌^◌, ap, arith, length, subst, IsJumpTable, jumps_first, jumps_more, reach_told}
use Rattle.image_tree.proofs.one_tree.reach_root.Goals as goal

pub loop-doubling-init : goal.loop-doubling-init
loop-doubling-init c = jumps_first c.args.ups.now c.in_ok-jumps.jumps.items c.requires.none c.in_ok-jumps.ensures

pub loop-doubling-preserved : goal.loop-doubling-preserved
loop-doubling-preserved c =
    jumps_more c.args.ups.now c.loop-doubling.jumps.items c.as_slice.result.now c.in_ok-jumps-2.jumps.items c.loop-doubling._doubling c.requires.none
    c.loop-doubling.invariant c.as_slice.ensures.value c.in_ok-jumps-2.ensures

pub end_at_root-requires : goal.end_at_root-requires
end_at_root-requires c = ap length c.as_slice-2.ensures.value ∙ c.loop-doubling.invariant.length

pub returns : goal.returns
returns c =
    let end : c.loop-doubling._doubling ≡ 16 = omega arith in
    reach_told c.args.ups.now c.loop-doubling.jumps.items c.as_slice-2.result.now c.end_at_root.result c.requires.root
    (λ i. let f = (c.type_inv.ups i).fits in omega arith) c.requires.size c.as_slice-2.ensures.value
    (subst (λ (k : ℕ). IsJumpTable c.args.ups.now (2 ^ k) c.loop-doubling.jumps.items) end c.loop-doubling.invariant) c.end_at_root.ensures
