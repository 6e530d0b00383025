-- The bytes of a content, as its blocks have them: what is read part by part, and what a node's content is.
use Rattle.inodes_on_blocks.proofs.Vocabulary.{◌≡◌, ⊎_elim, ℕ, zero, suc, ◌+◌, ◌-◌, ◌*◌, ◌/◌, ◌<◌, ◌≤◌, List, [], ◌++◌, length, take, drop, refl, sym, ap, ◌∙◌, arith, append_assoc, length-append, min, cases_lt, append-nil, take_all, drop_all, length-drop, take-take, overwrite, FilledMemory, filled_with, next_block, blocks_between, part_of, drop_of_take, front, part_then, none_between, some_between, next_between, block_len}
use Rattle.std.proofs.lemmas.List.{length-take}
use Rattle.inodes_on_blocks.proofs.ContentReads.{filled_from}

-- what is written at a list's end
over_end : (xs ys : List ℕ) (n : ℕ) → n ≡ length xs → overwrite xs n ys ≡ xs ++ ys
over_end xs ys n e =
    ap (λ (zs : List ℕ). zs ++ (ys ++ drop (n + length ys) xs)) (take_all n xs (omega (arith, e)))
    ∙ ap (λ (zs : List ℕ). xs ++ zs) (ap (λ (zs : List ℕ). ys ++ zs) (drop_all (n + length ys) xs (omega (arith, e))) ∙ append-nil ys)

-- memory that begins with nothing
abbrev pub with_bytes : List ℕ → FilledMemory
with_bytes bytes = record { count = length bytes; bytes = bytes }

filled_is : (m : FilledMemory) (part : List ℕ) → m ≡ with_bytes m.bytes → filled_with m part ≡ with_bytes (m.bytes ++ part)
filled_is m part e =
    let count : m.count ≡ length m.bytes = ap (λ (f : FilledMemory). f.count) e in
    let sum : m.count + length part ≡ length (m.bytes ++ part) = omega (arith, count, length-append m.bytes part) in
    λ i. record { count = sum i; bytes = over_end m.bytes part m.count count i }

module _ (content : ℕ → List ℕ) (k : ℕ) (whole : (q : ℕ) → q < k → length (content q) ≡ block_len) where
  -- the parts of the blocks between two offsets, after what is there
  pub read_all : (n from upto : ℕ) (m : FilledMemory) → m ≡ with_bytes m.bytes → n ≡ blocks_between from upto → upto ≤ block_len * k → filled_from content n from upto m ≡ with_bytes (m.bytes ++ drop from (take upto (front content k)))
  unfolding filled_from
  read_all zero from upto m e n within =
      let le : upto ≤ from = none_between from upto n in
      let gone : drop from (take upto (front content k)) ≡ [] = drop_all from _ (omega (arith, le, length-take upto (front content k))) in
      e ∙ ap with_bytes (sym (append-nil m.bytes) ∙ ap (λ (xs : List ℕ). m.bytes ++ xs) (sym gone))
  read_all (suc n) from upto m e is within =
      let lt : from < upto = some_between n from upto is in
      let part : List ℕ = part_of from upto (content (from / block_len)) in
      let all : List ℕ = front content k in
      let here = filled_is m part e in
      ap (filled_from content n (next_block from) upto) here
      ∙ read_all n (next_block from) upto (with_bytes (m.bytes ++ part)) refl (next_between n from upto is lt) within
      ∙ ap with_bytes (append_assoc m.bytes part (drop (next_block from) (take upto all)) ∙ ap (λ (xs : List ℕ). m.bytes ++ xs) (part_then content k whole from upto (omega (arith, lt, within))))

-- up to a size, and n bytes
pub up_to : (offset n size : ℕ) (xs : List ℕ) → drop offset (take (min (offset + n) size) xs) ≡ take n (drop offset (take size xs))
up_to offset n size xs =
    ⊎_elim
    (λ (lt : offset + n < size).
    let least : min (offset + n) size ≡ offset + n = omega (arith, lt) in
    let many : offset + n - offset ≡ n = omega arith in
    ap (λ (k : ℕ). drop offset (take k xs)) least ∙ ap (drop offset) (sym (take-take (offset + n) size xs (omega (arith, lt)))) ∙ drop_of_take offset (offset + n) (take size xs) ∙ ap (λ (k : ℕ). take k (drop offset (take size xs))) many)
    (λ (le : size ≤ offset + n).
    let least : min (offset + n) size ≡ size = omega (arith, le) in
    ap (λ (k : ℕ). drop offset (take k xs)) least ∙ sym (take_all n (drop offset (take size xs)) (omega (arith, le, length-drop offset (take size xs), length-take size xs))))
    (cases_lt (offset + n) size)
