-- An inode and its 64 bytes determine each other.
use Rattle.fs_layout.proofs.Vocabulary.{◌≡◌, ℕ, ◌+◌, ◌*◌, ◌^◌, ◌<◌, ◌≤◌, List, [], ◌++◌, length, drop, refl, sym, ap, ◌∙◌, arith, append_assoc, length-append, FitsSigned, ℤ, pos, negsuc, append-nil, to_z-of_z, of_z-to_z, w16, cast_signed, cast_unsigned, flat_map, Dinode, overwrite, u16_bytes, u32_bytes, i16_bytes, u16_at, u32_at, i16_at, u32s_at, IsBytes, spell_dinode, dinode_of, dinode_at, IsDinode}
use Rattle.fs_layout.proofs.Overwrites.{then_overwrite}
use Rattle.fs_layout.proofs.Numbers.{length-u16_bytes, length-u32_bytes, length-u32s_bytes, u16_at-part, u32_at-part, u32s_at-part, u16_at-behind, u32_at-behind, u32s_at-behind, u16_at-bytes, u32_at-bytes, u32s_at-bytes, u16_bytes-at, u32_bytes-at, u32s_bytes-at, u16_at-lt}

pub length-spell_dinode : (d : Dinode) → length d.addrs ≡ 13 → length (spell_dinode d) ≡ 64
length-spell_dinode d h =
    simp (length-append, length-u16_bytes, length-u32_bytes, length-u32s_bytes) (omega arith)

-- the bits of a signed number are as many as its type has
of_z_lt : (z : ℤ) → FitsSigned w16 z → cast_unsigned w16 z < 2 ^ 16
of_z_lt (pos n) h = let f = h.sfits in omega arith
of_z_lt (negsuc n) h = omega arith

-- a signed number in two bytes
i16_at-bytes : (z : ℤ) (rest : List ℕ) → FitsSigned w16 z → i16_at (i16_bytes z ++ rest) 0 ≡ z
i16_at-bytes z rest h = ap (cast_signed w16) (u16_at-bytes (cast_unsigned w16 z) rest (of_z_lt z h)) ∙ to_z-of_z w16 z h

pub dinode_of-spell : (d : Dinode) → IsDinode d → dinode_of (spell_dinode d) ≡ d
dinode_of-spell d h =
    let r5 : List ℕ = flat_map u32_bytes d.addrs ++ [] in
    let r4 : List ℕ = u32_bytes d.size ++ r5 in
    let r3 : List ℕ = i16_bytes d.nlink ++ r4 in
    let r2 : List ℕ = i16_bytes d.minor ++ r3 in
    let r1 : List ℕ = i16_bytes d.major ++ r2 in
    let r0 : List ℕ = i16_bytes d.kind ++ r1 in
    let regroup : spell_dinode d ≡ r0 = simp (append_assoc, append-nil) in
    let b0 = length-u16_bytes (cast_unsigned w16 d.kind) in
    let b1 = length-u16_bytes (cast_unsigned w16 d.major) in
    let b2 = length-u16_bytes (cast_unsigned w16 d.minor) in
    let b3 = length-u16_bytes (cast_unsigned w16 d.nlink) in
    let b4 = length-u32_bytes d.size in
    let kind : i16_at r0 0 ≡ d.kind = i16_at-bytes d.kind r1 h.kind in
    let major : i16_at r0 2 ≡ d.major = ap (cast_signed w16) (u16_at-behind (i16_bytes d.kind) r1 2 0 b0) ∙ i16_at-bytes d.major r2 h.major in
    let minor : i16_at r0 4 ≡ d.minor =
    ap (cast_signed w16) (u16_at-behind (i16_bytes d.kind) r1 2 2 b0 ∙ u16_at-behind (i16_bytes d.major) r2 2 0 b1) ∙ i16_at-bytes d.minor r3 h.minor in
    let nlink : i16_at r0 6 ≡ d.nlink =
    ap (cast_signed w16) (u16_at-behind (i16_bytes d.kind) r1 2 4 b0 ∙ u16_at-behind (i16_bytes d.major) r2 2 2 b1 ∙ u16_at-behind (i16_bytes d.minor) r3 2 0 b2)
    ∙ i16_at-bytes d.nlink r4 h.nlink in
    let size : u32_at r0 8 ≡ d.size =
    u32_at-behind (i16_bytes d.kind) r1 2 6 b0 ∙ u32_at-behind (i16_bytes d.major) r2 2 4 b1 ∙ u32_at-behind (i16_bytes d.minor) r3 2 2 b2
    ∙ u32_at-behind (i16_bytes d.nlink) r4 2 0 b3 ∙ u32_at-bytes d.size r5 h.size in
    let addrs : u32s_at 13 r0 12 ≡ d.addrs =
    u32s_at-behind 13 (i16_bytes d.kind) r1 2 10 b0 ∙ u32s_at-behind 13 (i16_bytes d.major) r2 2 8 b1 ∙ u32s_at-behind 13 (i16_bytes d.minor) r3 2 6 b2
    ∙ u32s_at-behind 13 (i16_bytes d.nlink) r4 2 4 b3 ∙ u32s_at-behind 13 (u32_bytes d.size) r5 4 0 b4
    ∙ ap (λ (n : ℕ). u32s_at n r5 0) (sym h.thirteen) ∙ u32s_at-bytes d.addrs [] h.addrs in
    ap dinode_of regroup ∙ rw (kind, major, minor, nlink, size, addrs) refl

pub spell-dinode_of : (bytes : List ℕ) → length bytes ≡ 64 → IsBytes bytes → spell_dinode (dinode_of bytes) ≡ bytes
spell-dinode_of bytes l fits =
    let back : (k : ℕ) → k + 2 ≤ 64 → i16_bytes (i16_at bytes k) ++ drop (k + 2) bytes ≡ drop k bytes =
    (λ k h. ap (λ (n : ℕ). u16_bytes n ++ drop (k + 2) bytes) (of_z-to_z w16 (u16_at bytes k) (u16_at-lt bytes k fits)) ∙ u16_bytes-at bytes k (omega arith) fits) in
    let last = u32s_bytes-at 13 bytes 12 (omega arith) fits in
    let size = u32_bytes-at bytes 8 (omega arith) fits in
    simp append_assoc (rw (last, size, back 6 (omega arith), back 4 (omega arith), back 2 (omega arith), back 0 (omega arith)) refl)

-- what the six writes of an inode leave
pub wrote : (b0 b1 b2 b3 b4 b5 b6 : List ℕ) (d : Dinode) (at : ℕ) → at ≤ length b0
    → b1 ≡ overwrite b0 at (i16_bytes d.kind)
    → b2 ≡ overwrite b1 (at + 2) (i16_bytes d.major)
    → b3 ≡ overwrite b2 (at + 4) (i16_bytes d.minor)
    → b4 ≡ overwrite b3 (at + 6) (i16_bytes d.nlink)
    → b5 ≡ overwrite b4 (at + 8) (u32_bytes d.size)
    → b6 ≡ overwrite b5 (at + 12) (flat_map u32_bytes d.addrs)
    → b6 ≡ overwrite b0 at (spell_dinode d)
wrote b0 b1 b2 b3 b4 b5 b6 d at h e1 e2 e3 e4 e5 e6 =
    let l0 = length-u16_bytes (cast_unsigned w16 d.kind) in
    let l1 = length-u16_bytes (cast_unsigned w16 d.major) in
    let l2 = length-u16_bytes (cast_unsigned w16 d.minor) in
    let l3 = length-u16_bytes (cast_unsigned w16 d.nlink) in
    let l4 = length-u32_bytes d.size in
    let x2 = then_overwrite b0 b1 b2 _ _ at (at + 2) e1 e2 (omega arith) h in
    let x3 = then_overwrite b0 b2 b3 _ _ at (at + 4) x2 e3 (simp length-append (omega arith)) h in
    let x4 = then_overwrite b0 b3 b4 _ _ at (at + 6) x3 e4 (simp length-append (omega arith)) h in
    let x5 = then_overwrite b0 b4 b5 _ _ at (at + 8) x4 e5 (simp length-append (omega arith)) h in
    then_overwrite b0 b5 b6 _ _ at (at + 12) x5 e6 (simp length-append (omega arith)) h

-- the fields at a place of a block make the inode at that place
pub dinode_at_is : (block : List ℕ) (place at : ℕ) (d : Dinode) → at ≡ 64 * place
    → d.kind ≡ i16_at block at
    → d.major ≡ i16_at block (at + 2)
    → d.minor ≡ i16_at block (at + 4)
    → d.nlink ≡ i16_at block (at + 6)
    → d.size ≡ u32_at block (at + 8)
    → d.addrs ≡ u32s_at 13 block (at + 12)
    → d ≡ dinode_at place block
dinode_at_is block place at d e e1 e2 e3 e4 e5 e6 =
    let at0 : at ≡ at + 0 = omega arith in
    let f1 = e1 ∙ ap (i16_at block) at0 ∙ ap (cast_signed w16) (sym (u16_at-part block at 64 0 (omega arith))) in
    let f2 = e2 ∙ ap (cast_signed w16) (sym (u16_at-part block at 64 2 (omega arith))) in
    let f3 = e3 ∙ ap (cast_signed w16) (sym (u16_at-part block at 64 4 (omega arith))) in
    let f4 = e4 ∙ ap (cast_signed w16) (sym (u16_at-part block at 64 6 (omega arith))) in
    let f5 = e5 ∙ sym (u32_at-part block at 64 8 (omega arith)) in
    let f6 = e6 ∙ sym (u32s_at-part 13 block at 64 12 (omega arith)) in
    rw (f1, f2, f3, f4, f5, f6, e) refl
