use Rattle.fs_layout.proofs.Lemmas.{recursion_from_All, All-from_get_or, ◌≡◌, ◌<◌, ◌+◌, ◌*◌, ◌^◌, length, take, arith, sym, ap, ◌∙◌, get_or, List, ℕ, ◌++◌, ◌∷◌, [], take_more, length-take-le, append-nil, flat_map-append, flat_map, overwrite, u32_bytes, then_overwrite, length-u32s_bytes}
use Rattle.fs_layout.proofs.bytes.put_u32s.Goals as goal

pub loop-i-preserved : goal.loop-i-preserved
loop-i-preserved c =
    let done : List ℕ = take c.loop-i.i c.args.from.now in
    let many : length done ≡ c.loop-i.i = length-take-le c.loop-i.i c.args.from.now (omega arith) in
    let place : c.args.at + 4 * c.loop-i.i ≡ c.args.at + length (flat_map u32_bytes done) = omega (arith, length-u32s_bytes done) in
    let next : ℕ = get_or c.args.from.now c.loop-i.i 0 in
    let step = then_overwrite c.args.bytes.now c.loop-i.bytes c.put_u32.new.bytes (flat_map u32_bytes done) (u32_bytes next) c.args.at (c.args.at + 4 * c.loop-i.i) c.loop-i.invariant c.put_u32.ensures place (omega arith) in
    let one : flat_map u32_bytes (next ∷ []) ≡ u32_bytes next = append-nil (u32_bytes next) in
    let more : flat_map u32_bytes (take (c.loop-i.i + 1) c.args.from.now) ≡ flat_map u32_bytes done ++ u32_bytes next =
    ap (flat_map u32_bytes) (take_more c.args.from.now c.loop-i.i 0 (omega arith)) ∙ flat_map-append u32_bytes done (next ∷ []) ∙ ap (λ (xs : List ℕ). flat_map u32_bytes done ++ xs) one in
    step ∙ ap (overwrite c.args.bytes.now c.args.at) (sym more)

pub returns-clause-fits : goal.returns-clause-fits
returns-clause-fits c = recursion_from_All (λ n. n < 2 ^ 32) c.args.from.now (All-from_get_or (λ n. n < 2 ^ 32) c.args.from.now 0 (λ i h. omega (arith, c.type_inv.from i)))
