-- The bits of the bitmap as it is seen, and of one that is put.
use Rattle.inodes_on_blocks.proofs.Vocabulary.{◌≡◌, ℕ, ◌*◌, ◌<◌, ◌==◌, Bool, true, false, List, length, inr, sym, ◌∙◌, ap, subst, arith, if◌then◌else◌, Super, bit_of, recovered, sizes_of, IsOutsideLog, with_bit, without_bit, sets_one, clears_one, is_marked, IsPut, IsBitPut, LogPart, seen_of, World, log_of, disk_of, CanPut, log_with, MarksAreBits, BitmapsPutBits, Shows, block_len}
use Rattle.inodes_on_blocks.proofs.SeenDisks.{good_seen}
use Rattle.inode_machine.specs.World as above
use Rattle.inodes_on_blocks.proofs.Recorded.{disk_put, good_then, put_bytes}

module _ (r : World) (g : above.World) (shows : Shows r g) where
  abbrev l : LogPart
  l = log_of r

  -- the bitmap's block
  abbrev at : ℕ
  at = l.sizes.bmapstart

  here : sizes_of (disk_of l) ≡ l.sizes
  here = (good_seen l.sizes (seen_of l) (length l.contents) shows.blocks.seen).sizes_are

  within : at < length l.contents
  within = let bitmap = shows.blocks.seen.good.bitmap in let all = shows.blocks.seen.sized in omega (arith, bitmap, all)

  outside : IsOutsideLog l.sizes at
  outside = let log = shows.blocks.seen.good.log in let inodes = shows.blocks.seen.good.inodes in inr (omega (arith, log, inodes))

  pub marked_bit : (c : ℕ) → is_marked (disk_of l) c ≡ bit_of (seen_of l at) c
  marked_bit c =
      ap (λ (s : Super). bit_of (recovered (disk_of l) s.bmapstart) c) here
      ∙ ap (λ (block : List ℕ). bit_of block c) ((good_seen l.sizes (seen_of l) (length l.contents) shows.blocks.seen).blocks at within outside)

  long : length (seen_of l at) ≡ block_len
  long = shows.blocks.seen.whole at within outside

  module _ (h b : ℕ) (bytes : List ℕ) (value : Bool) (can : CanPut h at bytes l) (changes : (c : ℕ) → bit_of bytes c ≡ (if c == b then value else bit_of (seen_of l at) c)) where
    bit_put : IsBitPut (disk_of l) (disk_of (log_with h at bytes r)) b value
    bit_put = record {
      block = subst (λ (s : Super). IsPut (disk_of l) (disk_of (log_with h at bytes r)) s.bmapstart) (sym here) (disk_put h at bytes r.state shows.whole shows.blocks.seen can);
      bits = λ c.
          ap (λ (s : Super). bit_of (recovered (disk_of (log_with h at bytes r)) s.bmapstart) c) (good_then h at bytes r.state shows.whole shows.blocks.seen can).sizes_are
          ∙ ap (λ (block : List ℕ). bit_of block c) (put_bytes h at bytes r.state shows.whole shows.blocks.seen can)
          ∙ changes c
          ∙ ap (λ (t : Bool). if c == b then value else t) (sym (marked_bit c));
    }

pub marks_are_bits : MarksAreBits
marks_are_bits r g shows c = marked_bit r g shows c

pub bitmaps_put_bits : BitmapsPutBits
bitmaps_put_bits h b r g shows lt =
    let bytes = seen_of (log_of r) (log_of r).sizes.bmapstart in
    let size = shows.blocks.seen.good.size in
    let all = long r g shows in
    let small : b < 8 * length bytes = omega (arith, lt, size, all) in (
      λ can. bit_put r g shows h b (with_bit b bytes) true can (λ c. sets_one bytes b c small),
      λ can. bit_put r g shows h b (without_bit b bytes) false can (λ c. clears_one bytes b c small),
    )
