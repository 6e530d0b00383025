-- An inode as it is in a block, and in one that it was stored in.
use Rattle.inodes_on_blocks.proofs.Vocabulary.{◌≡◌, ◌⊎◌, inl, inr, ℕ, zero, suc, pos, ◌+◌, ◌*◌, ◌^◌, ◌<◌, ◌≤◌, List, [], ◌∷◌, ◌++◌, length, take, drop, ◌∙◌, subst, arith, w16, FitsSigned, flat_map, AllByRecursion, byte_at, cast_unsigned, Fits-of_lt, sfits_to_z, Dinode, overwrite, u16_bytes, u32_bytes, i16_bytes, u16_at, i16_at, u32s_at, IsBytes, spell_dinode, dinode_of, dinode_at, IsDinode, length-spell_dinode, u16_at-lt, u32_at-lt, length-u32s_at, length-overwrite, with_dinode, addresses, block_len, inode_len}
use Rattle.inode_table.specs.Programs.{place_of}

-- ---- bytes

pub append_bytes : (xs ys : List ℕ) → IsBytes xs → IsBytes ys → IsBytes (xs ++ ys)
append_bytes [] ys a b i = b i
append_bytes (x ∷ xs) ys a b zero = a 0
append_bytes (x ∷ xs) ys a b (suc i) = append_bytes xs ys (λ k. a (suc k)) b i

none_bytes : IsBytes []
none_bytes i = omega arith

cons_bytes : (x : ℕ) (xs : List ℕ) → x < 256 → IsBytes xs → IsBytes (x ∷ xs)
cons_bytes x xs a b zero = a
cons_bytes x xs a b (suc i) = b i

pub take_bytes : (n : ℕ) (xs : List ℕ) → IsBytes xs → IsBytes (take n xs)
take_bytes zero xs a = none_bytes
take_bytes (suc n) [] a = none_bytes
take_bytes (suc n) (x ∷ xs) a = cons_bytes x (take n xs) (a 0) (take_bytes n xs (λ k. a (suc k)))

pub drop_bytes : (n : ℕ) (xs : List ℕ) → IsBytes xs → IsBytes (drop n xs)
drop_bytes zero xs a = a
drop_bytes (suc n) [] a = none_bytes
drop_bytes (suc n) (x ∷ xs) a = drop_bytes n xs (λ k. a (suc k))

pub overwrite_bytes : (block bytes : List ℕ) (at : ℕ) → IsBytes block → IsBytes bytes → IsBytes (overwrite block at bytes)
overwrite_bytes block bytes at a b =
    append_bytes (take at block) (bytes ++ drop (at + length bytes) block) (take_bytes at block a) (append_bytes bytes (drop (at + length bytes) block) b (drop_bytes (at + length bytes) block a))

byte_small : (i n : ℕ) → byte_at i n < 256
byte_small zero n = omega arith
byte_small (suc i) n = omega arith

pub u16s : (n : ℕ) → IsBytes (u16_bytes n)
unfolding u16_bytes
u16s n = cons_bytes (byte_at 0 n) (byte_at 1 n ∷ []) (byte_small 0 n) (cons_bytes (byte_at 1 n) [] (byte_small 1 n) none_bytes)

pub u32s : (n : ℕ) → IsBytes (u32_bytes n)
unfolding u32_bytes
u32s n =
    cons_bytes (byte_at 0 n) (byte_at 1 n ∷ byte_at 2 n ∷ byte_at 3 n ∷ []) (byte_small 0 n)
    (cons_bytes (byte_at 1 n) (byte_at 2 n ∷ byte_at 3 n ∷ []) (byte_small 1 n)
    (cons_bytes (byte_at 2 n) (byte_at 3 n ∷ []) (byte_small 2 n) (cons_bytes (byte_at 3 n) [] (byte_small 3 n) none_bytes)))

all_u32s : (ns : List ℕ) → IsBytes (flat_map u32_bytes ns)
all_u32s [] = none_bytes
all_u32s (n ∷ ns) = append_bytes (u32_bytes n) (flat_map u32_bytes ns) (u32s n) (all_u32s ns)

spelled_bytes : (d : Dinode) → IsBytes (spell_dinode d)
spelled_bytes d =
    let typed = i16_bytes d.kind in
    let major = typed ++ i16_bytes d.major in
    let minor = major ++ i16_bytes d.minor in
    let linked = minor ++ i16_bytes d.nlink in
    let sized = linked ++ u32_bytes d.size in
    append_bytes sized (flat_map u32_bytes d.addrs)
    (append_bytes linked (u32_bytes d.size)
    (append_bytes minor (i16_bytes d.nlink)
    (append_bytes major (i16_bytes d.minor)
    (append_bytes typed (i16_bytes d.major) (u16s (cast_unsigned w16 d.kind)) (u16s (cast_unsigned w16 d.major)))
    (u16s (cast_unsigned w16 d.minor)))
    (u16s (cast_unsigned w16 d.nlink)))
    (u32s d.size))
    (all_u32s d.addrs)

-- ---- a record

-- a number that is read from a block of bytes is one
u32s_small : (n : ℕ) (bytes : List ℕ) (at : ℕ) → IsBytes bytes → AllByRecursion (λ b. b < 2 ^ 32) (u32s_at n bytes at)
unfolding u32s_at
u32s_small zero bytes at are = tt
u32s_small (suc n) bytes at are = (u32_at-lt bytes at are, u32s_small n bytes (at + 4) are)

signed : (bytes : List ℕ) (at : ℕ) → IsBytes bytes → FitsSigned w16 (i16_at bytes at)
signed bytes at are = sfits_to_z {w = w16} {n = u16_at bytes at} (Fits-of_lt {w = w16} {n = u16_at bytes at} (u16_at-lt bytes at are))

dinode_is : (bytes : List ℕ) → IsBytes bytes → IsDinode (dinode_of bytes)
dinode_is bytes are = record {
  kind = signed bytes 0 are;
  major = signed bytes 2 are;
  minor = signed bytes 4 are;
  nlink = signed bytes 6 are;
  size = u32_at-lt bytes 8 are;
  thirteen = length-u32s_at addresses bytes 12;
  addrs = u32s_small addresses bytes 12 are;
}

pub placed_dinode : (q : ℕ) (block : List ℕ) → IsBytes block → IsDinode (dinode_at q block)
placed_dinode q block are = dinode_is (take inode_len (drop (inode_len * q) block))
    (take_bytes inode_len (drop (inode_len * q) block) (drop_bytes (inode_len * q) block are))

-- with a count that a node may have
pub count_fits : (d : Dinode) (count old : ℕ) → d.nlink ≡ pos old → IsDinode d → (count ≤ 32767) ⊎ (count ≤ old) → IsDinode (record d { nlink = pos count })
count_fits d count old is fits some = record {
  kind = fits.kind;
  major = fits.major;
  minor = fits.minor;
  nlink = small (elim some [ inl le ↦ le | inr le ↦ (let w : FitsSigned w16 (pos old) = subst (λ z. FitsSigned w16 z) is fits.nlink in below count old le w) ]);
  size = fits.size;
  thirteen = fits.thirteen;
  addrs = fits.addrs;
}
  where
    below : (a b : ℕ) → a ≤ b → FitsSigned w16 (pos b) → a ≤ 32767
    below a b le w = omega (arith, le, w)

    small : count ≤ 32767 → FitsSigned w16 (pos count)
    small le = omega (arith, le)

-- ---- a block with a record

pub stored_long : (n : ℕ) (d : Dinode) (block : List ℕ) → IsDinode d → length block ≡ block_len
    → length (with_dinode n d block) ≡ block_len
unfolding with_dinode
stored_long n d block is long =
    let spelled = length-spell_dinode d is.thirteen in length-overwrite block (spell_dinode d) (inode_len * place_of n) (omega (arith, spelled, long)) ∙ long

pub stored_bytes : (n : ℕ) (d : Dinode) (block : List ℕ) → IsBytes block → IsBytes (with_dinode n d block)
unfolding with_dinode
stored_bytes n d block are = overwrite_bytes block (spell_dinode d) (inode_len * place_of n) are (spelled_bytes d)
