use Rattle.fs_layout.specs.Widths.{block_len}
use Rattle.mkfs.proofs.Lemmas.{Version, dirent_len_of, mul-zero, overwrite, replicate, ◌*◌, ◌≡◌, ◌++◌, ◌<◌, ◌^◌, List, ℕ, Some, subst, ap, ◌∙◌, take, arith, SomeIff, Used, IsName, spell_dirent, IsDirent, length-spell_dirent, padded, overwrite-zeros, take-padded, ok_items}
use Rattle.mkfs.proofs.parts.push_entry.Goals as goal

pub returns : goal.returns
returns c =
    let v : Version = c.args.version in
    let name : List ℕ = c.args.name.now in
    let number : ℕ = c.args.number in
    let known : SomeIff (Some c.unwrap-name.result) (IsName v name) name = subst (λ o. SomeIff o (IsName v name) name) c.unwrap-name.ensures c.new.ensures in
    let small : number < 2 ^ 16 = omega arith in
    let good : IsDirent v (Used number name) = (c.requires.number, small, c.requires.name) in
    let zeros : List ℕ = replicate block_len 0 in
    let entry : List ℕ = spell_dirent v (Used number c.unwrap-name.result) in
    let first : dirent_len_of v * 0 ≡ 0 = mul-zero (dirent_len_of v) in
    let bytes = c.write_dirent.ensures.bytes ∙ ap (λ (at : ℕ). overwrite zeros at entry) first ∙ overwrite-zeros block_len (spell_dirent v (Used number c.unwrap-name.result)) in
    ok_items c.extend_from_slice.result _ _ _ _ c.extend_from_slice.ensures.items
    (ap (λ (xs : List ℕ). c.args.content.now.items ++ xs)
    (ap (λ (n : ℕ). take n c.write_dirent.new.block) c.dirent_len.ensures
    ∙ ap (take (dirent_len_of v)) bytes
    ∙ ap (λ (n : List ℕ). take (dirent_len_of v) (padded block_len (spell_dirent v (Used number n)))) known.1
    ∙ take-padded block_len (dirent_len_of v) (spell_dirent v (Used number name)) (length-spell_dirent v (Used number name) good)))
