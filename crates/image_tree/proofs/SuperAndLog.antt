-- What a superblock and a log's head that were read say.
use Rattle.image_tree.proofs.Vocabulary.{Version, magic_of, ◌≡◌, ℕ, ◌≤◌, Bool, true, false, cond, eqb, leb, List, Some, None, refl, sym, ap, ◌∙◌, arith, eqb-true, nat_tests, Super, LogHead, unwrap_or, version_of_magic, One, Option, length, ◌<◌, [], get_or_past, u32_at, u32s_at, super_of, super_fields, log_head_of, block_at, sizes_of, logged, log_count, HasGoodLog}
use Rattle.image_tree.specs.Versions.{SupersTellVersions}
use Rattle.fs_layout.specs.Recovered.{version_in}
use Rattle.image_versions.proofs.Places.{magics_tell}

pub some_from : {T : Type 0} (b : Bool) (x y : T) → cond b (Some x) None ≡ Some y → (b ≡ true) × (x ≡ y)
some_from true x y h = (refl, let e = h in cc)
some_from false x y h = cc

none_from : {T : Type 0} (b : Bool) (x : T) → cond b (Some x) None ≡ None → b ≡ false
none_from true x h = cc
none_from false x h = refl

pub super_is : (v : Version) (disk : List (List ℕ)) (block : List ℕ) (s : Super) → block ≡ block_at disk 1 → super_of v block ≡ Some s
    → (u32_at (block_at disk 1) 0 ≡ magic_of v) × (s ≡ sizes_of disk)
unfolding sizes_of
super_is v disk block s e h =
    let f = some_from (eqb (u32_at block 0) (magic_of v)) (super_fields block) s h in
    (ap (λ (b : List ℕ). u32_at b 0) (sym e) ∙ eqb-true (u32_at block 0) (magic_of v) f.0, sym f.1 ∙ ap super_fields e)

pub head_is : (disk : List (List ℕ)) (block : List ℕ) (h : LogHead) → block ≡ block_at disk (sizes_of disk).logstart → log_head_of block ≡ Some h
    → (log_count disk ≤ 255) × (h.blocks.items ≡ logged disk)
unfolding logged
head_is disk block h e is =
    let f = some_from (leb (u32_at block 0) 255) _ h is in
    let small : u32_at block 0 ≤ 255 = let t = f.0 in grind (arith, nat_tests) in
    (rw (← e) small, sym (ap (λ (x : LogHead). x.blocks.items) f.1) ∙ ap (λ (b : List ℕ). u32s_at (u32_at b 0) b 4) e)

pub no_head : (disk : List (List ℕ)) (block : List ℕ) → block ≡ block_at disk (sizes_of disk).logstart → log_head_of block ≡ None → HasGoodLog disk → ⊥
no_head disk block e is good =
    let f = none_from (leb (u32_at block 0) 255) _ is in
    let small : u32_at block 0 ≤ 255 = rw e good.room in
    absurd (grind (arith, nat_tests))

-- the magic number of a superblock of this version is that of the version
pub supers_tell : SupersTellVersions
unfolding sizes_of
supers_tell v disk super = ap (λ (m : ℕ). unwrap_or (version_of_magic m) One) super.0 ∙ ap (λ (w : Option Version). unwrap_or w One) (magics_tell v)

-- a disk without a superblock is of version 1
pub short_is_one : (disk : List (List ℕ)) → length disk < 2 → One ≡ version_in disk
unfolding u32_at sizes_of
short_is_one disk short = sym (ap (λ (block : List ℕ). unwrap_or (version_of_magic (u32_at block 0)) One) (get_or_past disk 1 [] (omega arith)))
