-- Blocks taken and given back: programs over what all harts share. Nothing is marked in them.
use Rattle.std.specs.Prelude.{ℕ, List, Option, Some, None}
use Rattle.bitmap_alloc.specs.Vocabulary.{Prog, Ret, Do, bind, unmarked, Op, Answer, Put, fetch}
use Rattle.bitmap_alloc.specs.First.{first_clear_below}
use Rattle.bitmap_alloc.specs.Bytes.{marked_by, without_bit, zeros}

-- a block's buffer is given back with zeros, whatever it held
abbrev pub give_zeros : {M : Type 0} → ℕ → List ℕ → Prog Op Answer M (Option ℕ)
give_zeros b old = Do (Put b (Some zeros)) unmarked (λ _. Ret (Some b))

-- a block is filled with zeros
abbrev pub zero_block : {M : Type 0} → ℕ → Prog Op Answer M (Option ℕ)
zero_block b = bind (fetch b) (give_zeros b)

-- the block that was found is filled with zeros, if one was
abbrev pub zero_found : {M : Type 0} → Option ℕ → Prog Op Answer M (Option ℕ)
zero_found None = Ret None
zero_found (Some b) = zero_block b

-- the bitmap is given back with its first clear bit set, or as it was if none is clear
abbrev pub take_first : {M : Type 0} → (at size : ℕ) → List ℕ → Prog Op Answer M (Option ℕ)
take_first at size bitmap =
    let found = first_clear_below size bitmap in
    Do (Put at (marked_by bitmap found)) unmarked (λ _. zero_found found)

-- The first clear bit below the disk's size is found, and set when the bitmap's buffer is given back. Then the block
-- is filled with zeros. None if no bit is clear there.
abbrev pub take_block : {M : Type 0} → (at size : ℕ) → Prog Op Answer M (Option ℕ)
take_block at size = bind (fetch at) (take_first at size)

-- the bitmap is given back with this bit clear
abbrev pub clear_bit : {M : Type 0} → (at b : ℕ) → List ℕ → Prog Op Answer M (Unit {0})
clear_bit at b bitmap = Do (Put at (Some (without_bit b bitmap))) unmarked (λ _. Ret tt)

-- a block is given back
abbrev pub free_block : {M : Type 0} → (at b : ℕ) → Prog Op Answer M (Unit {0})
free_block at b = bind (fetch at) (clear_bit at b)
