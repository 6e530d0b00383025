-- An inode names a block that was taken for it: in the record that will be put, or in the indirect block.
use Rattle.inodes_on_blocks.proofs.Vocabulary.{◌≡◌, ◌≢◌, ℕ, zero, suc, ◌+◌, ◌-◌, ◌*◌, ◌^◌, ◌<◌, ◌≤◌, nat_lt, Bool, true, false, List, [], ◌∷◌, ◌++◌, length, length-set, Option, sym, ◌∙◌, ap, subst, arith, get_or-set_same, if◌then◌else◌, refl, slice_index, slice_set, AllByRecursion, nat_tests, get_or_append_left, get_or-append_right, Dinode, IsBytes, u32_bytes, numbers_in, IsDinode, recovered, length-u32_bytes, length-u32s_at, length-overwrite, u32s_at-write, numbers_of, block_number, indirect_numbers, numbers_with, NamesOwned, IsLaidOut, Node, zeros, with_address, World, log_of, disk_of, world_with, Carry, Shows, addresses, block_len, direct, numbers_per_block}
use Rattle.inodes_on_blocks.proofs.LaidNumbers.{direct_named, table_named, number_named}
use Rattle.inode_data.specs.Writing.{with_number}
use Rattle.inode_machine.specs.World as above
use Rattle.inodes_on_blocks.proofs.Changing.{owner_with, Changing, others_put}
use Rattle.inodes_on_blocks.proofs.Basics.{through_put, overwrite_bytes, u32s}
use Rattle.inodes_on_blocks.proofs.OwnPuts.{IsOwnPut}
use Rattle.inodes_on_blocks.proofs.Taking.{HasSpare}

-- ---- records

-- with another size
abbrev pub sized : ℕ → Dinode → Dinode
sized z d = record d { size = z }

set_small : (xs : List ℕ) (k x : ℕ) → x < 2 ^ 32 → AllByRecursion (λ b. b < 2 ^ 32) xs → AllByRecursion (λ b. b < 2 ^ 32) (slice_set xs k x)
set_small [] k x small all = all
set_small (y ∷ ys) zero x small all = (small, all.1)
set_small (y ∷ ys) (suc k) x small all = (all.0, set_small ys k x small all.1)

pub addressed_fits : (i b : ℕ) (d : Dinode) → b < 2 ^ 32 → IsDinode d → IsDinode (with_address i b d)
addressed_fits i b d small fits = record {
  kind = fits.kind;
  major = fits.major;
  minor = fits.minor;
  nlink = fits.nlink;
  size = fits.size;
  thirteen = length-set d.addrs i b ∙ fits.thirteen;
  addrs = set_small d.addrs i b small fits.addrs;
}

-- ---- the place of a block's number

near : (k : ℕ) → k < direct → nat_lt k direct ≡ true
near k lt = grind (arith, nat_tests)

far : (k : ℕ) → direct ≤ k → nat_lt k direct ≡ false
far k le = grind (arith, nat_tests)

pub direct_place : (disk : List (List ℕ)) (d : Dinode) (k : ℕ) → length d.addrs ≡ addresses → k < direct → block_number (numbers_of disk d) k ≡ slice_index d.addrs k
unfolding numbers_of
direct_place disk d k long lt =
    ap (λ (t : Bool). slice_index (d.addrs ++ indirect_numbers disk d) (if t then k else k + 1)) (near k lt)
    ∙ get_or_append_left d.addrs (indirect_numbers disk d) 0 k (omega (arith, lt, long))

-- in the indirect block
pub listed_place : (disk : List (List ℕ)) (d : Dinode) (i : ℕ) → length d.addrs ≡ addresses → slice_index d.addrs direct ≢ 0 → slice_index (numbers_of disk d) (addresses + i) ≡ slice_index (numbers_in (recovered disk (slice_index d.addrs direct))) i
listed_place disk d i long some =
    ap (λ (ns : List ℕ). slice_index ns (addresses + i)) (numbers_with disk d some)
    ∙ get_or-append_right d.addrs (numbers_in (recovered disk (slice_index d.addrs direct))) addresses (addresses + i) 0 long (omega arith)
    ∙ ap (slice_index (numbers_in (recovered disk (slice_index d.addrs direct))))
    (let e : addresses + i - addresses ≡ i = omega arith in e)

pub far_index : (ns : List ℕ) (k : ℕ) → direct ≤ k → block_number ns k ≡ slice_index ns (addresses + (k - direct))
far_index ns k le = ap (λ (t : Bool). slice_index ns (if t then k else k + 1)) (far k le) ∙ ap (slice_index ns) (let e : k + 1 ≡ addresses + (k - direct) = omega (arith, le) in e)

pub far_place : (disk : List (List ℕ)) (d : Dinode) (k : ℕ) → length d.addrs ≡ addresses → slice_index d.addrs direct ≢ 0 → direct ≤ k
    → block_number (numbers_of disk d) k ≡ slice_index (numbers_in (recovered disk (slice_index d.addrs direct))) (k - direct)
far_place disk d k long some le = far_index (numbers_of disk d) k le ∙ listed_place disk d (k - direct) long some

-- ---- the bytes of an indirect block

pub number_long : (i b : ℕ) (bytes : List ℕ) → i < numbers_per_block → length bytes ≡ block_len
    → length (with_number i b bytes) ≡ block_len
number_long i b bytes lt long = length-overwrite bytes (u32_bytes b) (4 * i) (omega (arith, lt, long, length-u32_bytes b)) ∙ long

pub number_bytes : (i b : ℕ) (bytes : List ℕ) → IsBytes bytes → IsBytes (with_number i b bytes)
number_bytes i b bytes are = overwrite_bytes bytes (u32_bytes b) (4 * i) are (u32s b)

-- ---- the inode

module _ (h n b : ℕ) (c : Carry) (o : Option Node) (d : Dinode) (x : Node) (r : World) (g : above.World) (is : HasSpare h n b c o d x r g) (long : length d.addrs ≡ addresses) where
  abbrev disk : List (List ℕ)
  disk = disk_of (log_of r)

  -- among its own numbers
  pub direct_then : (i : ℕ) → i < direct → slice_index d.addrs i ≡ 0 → Changing h n c o (with_address i b d) x r g × (block_number (numbers_of disk (with_address i b d)) i ≡ b)
  direct_then i lt free =
      let names = direct_named disk (owner_with h n r) n i b d x is.laid lt (omega (arith, lt, long)) free is.spare in (
        record { others = is.others; lock = is.lock; keeps = is.keeps; was = is.was; through = is.through; lent = is.lent; laid = names.laid; named = names.named is.named },
        direct_place disk (with_address i b d) i (length-set d.addrs i b ∙ long) lt ∙ get_or-set_same d.addrs i b 0 (omega (arith, lt, long)),
      )

  -- as that of the indirect block, which is zeros
  pub table_then : slice_index d.addrs direct ≡ 0 → recovered disk b ≡ zeros → Changing h n c o (with_address direct b d) x r g
  unfolding zeros
  table_then free none =
      let names = table_named disk (owner_with h n r) n b d x is.laid (omega (arith, long)) free is.spare none in
      record { others = is.others; lock = is.lock; keeps = is.keeps; was = is.was; through = is.through; lent = is.lent; laid = names.laid; named = names.named is.named }

  -- and in the indirect block, when that is put
  module _ (shows : Shows r g) (i : ℕ) (bytes : List ℕ) (some : slice_index d.addrs direct ≢ 0) (lt : i < numbers_per_block) (whole : length bytes ≡ block_len) (small : b < 2 ^ 32) (free : slice_index (numbers_in bytes) i ≡ 0)
      (made : IsOwnPut h n (slice_index d.addrs direct) bytes (with_number i b bytes) r) where
    abbrev then_ : World
    then_ = world_with h (slice_index d.addrs direct) (with_number i b bytes) r

    abbrev new : List (List ℕ)
    new = disk_of (log_of then_)

    written : numbers_in (recovered new (slice_index d.addrs direct))
        ≡ slice_set (numbers_in (recovered disk (slice_index d.addrs direct))) i b
    written = ap numbers_in made.now ∙ u32s_at-write numbers_per_block bytes i b lt (omega (arith, whole)) small ∙ ap (λ (z : List ℕ). slice_set (numbers_in z) i b) (sym made.was)

    pub number_then : Changing h n c o d x then_ g × (slice_index (numbers_of new d) (addresses + i) ≡ b)
    number_then =
        let unset : slice_index (numbers_of disk d) (addresses + i) ≡ 0 = listed_place disk d i long some ∙ ap (λ (z : List ℕ). slice_index (numbers_in z) i) made.was ∙ free in
        let names = number_named disk new (owner_with h n r) n i b d x is.laid long lt unset is.spare (record { some = some; block = made.put; numbers = written }) in (
          record {
            others = others_put h n (slice_index d.addrs direct) (with_number i b bytes) r g shows made.leaves c is.others;
            lock = is.lock;
            keeps = is.keeps;
            was = is.was;
            through = through_put h r then_ (log_of then_) refl refl is.through;
            lent = is.lent;
            laid = subst (λ (f : ℕ → ℕ). IsLaidOut new f n d x) (sym made.owners) names.laid;
            named = subst (λ (f : ℕ → ℕ). NamesOwned new f n (numbers_of new d)) (sym made.owners) (names.named is.named);
          },
          listed_place new d i long some ∙ ap (λ (ns : List ℕ). slice_index ns i) written
              ∙ get_or-set_same (numbers_in (recovered disk (slice_index d.addrs direct))) i b 0 (omega (arith, lt, length-u32s_at numbers_per_block (recovered disk (slice_index d.addrs direct)) 0)),
        )
