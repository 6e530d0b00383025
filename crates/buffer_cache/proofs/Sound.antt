-- What each call keeps of a sound cache, and of what is seen.
use Rattle.buffer_cache.proofs.Vocabulary.{IsSome, is_none, is_some, ◌&&◌, ◌≡◌, ◌≢◌, ◌⊎◌, inl, inr, ℕ, zero, suc, ◌+◌, ◌<◌, ◌≤◌, List, [], ◌∷◌, ◌++◌, length, Bool, true, false, cond, ◌==◌, refl, sym, ◌∙◌, ap, subst, arith, Option, Some, None, if◌then◌else◌, slice_set, IfSome, option_map, option_and_then, unwrap_or, cases_eq, same_Some, none-some, find, block_at, block_at-set_same, block_at-set_other, change_first, count_of, is_unused, is_settled, UnusedFirst, SeatState, is_number, has_block, is_held_by, is_pinned, is_free, seat_of, kept, seen_in, with_seat, given_back, with_holder, without_holder, with_content, with_pin, as_new, unused_from, unused, AllClean, IsCleanSeat, IsBelow, HoldersBelow, IsSound}
use Rattle.buffer_cache.proofs.Basics.{count_push, pick, none_counted, count_same, count_more, count_to_end, length-change_first, length-change_to_end, equal, equals, seat_has, is_block}

-- facts of each seat, after a change of one
holders_change : (n : ℕ) (p : SeatState → Bool) (f : SeatState → SeatState) (ss : List SeatState) → ((s : SeatState) → IsBelow n s.holder → IsBelow n (f s).holder) → HoldersBelow n ss → HoldersBelow n (change_first p f ss)
holders_change n p f [] new old = tt
holders_change n p f (s ∷ ss) new old =
    pick (p s) (λ t. HoldersBelow n (if t then f s ∷ ss else s ∷ change_first p f ss)) (λ _. (new s old.0, old.1)) (λ _. (old.0, holders_change n p f ss new old.1))

clean_change : (disk : List (List ℕ)) (p : SeatState → Bool) (f : SeatState → SeatState) (ss : List SeatState)
    → ((s : SeatState) → find p ss ≡ Some s → IsCleanSeat disk s → IsCleanSeat disk (f s)) → AllClean disk ss → AllClean disk (change_first p f ss)
clean_change disk p f [] new old = tt
clean_change disk p f (s ∷ ss) new old =
    pick (p s) (λ t. ((x : SeatState) → (if t then Some s else find p ss) ≡ Some x → IsCleanSeat disk x → IsCleanSeat disk (f x)) → AllClean disk (if t then f s ∷ ss else s ∷ change_first p f ss))
    (λ _ k. (k s refl old.0, old.1)) (λ _ k. (old.0, clean_change disk p f ss k old.1)) new

holders_push : (n : ℕ) (ss : List SeatState) (x : SeatState) → HoldersBelow n ss → IsBelow n x.holder → HoldersBelow n (ss ++ x ∷ [])
holders_push n [] x old new = (new, tt)
holders_push n (s ∷ ss) x old new = (old.0, holders_push n ss x old.1 new)

holders_back : (n b : ℕ) (ss : List SeatState) → HoldersBelow n ss → HoldersBelow n (given_back b ss)
holders_back n b [] old = tt
holders_back n b (s ∷ ss) old =
    pick (has_block b s) (λ t. HoldersBelow n (if t then ss ++ without_holder s ∷ [] else s ∷ given_back b ss)) (λ _. holders_push n ss (without_holder s) old.1 tt) (λ _. (old.0, holders_back n b ss old.1))

clean_push : (disk : List (List ℕ)) (ss : List SeatState) (x : SeatState) → AllClean disk ss → IsCleanSeat disk x → AllClean disk (ss ++ x ∷ [])
clean_push disk [] x old new = (new, tt)
clean_push disk (s ∷ ss) x old new = (old.0, clean_push disk ss x old.1 new)

clean_back : (disk : List (List ℕ)) (b : ℕ) (ss : List SeatState) → AllClean disk ss → AllClean disk (given_back b ss)
clean_back disk b [] old = tt
clean_back disk b (s ∷ ss) old =
    pick (has_block b s) (λ t. AllClean disk (if t then ss ++ without_holder s ∷ [] else s ∷ given_back b ss)) (λ _. clean_push disk ss (without_holder s) old.1 old.0) (λ _. (old.0, clean_back disk b ss old.1))

pub clean_at : (disk : List (List ℕ)) (p : SeatState → Bool) (ss : List SeatState) (s : SeatState) → AllClean disk ss → find p ss ≡ Some s → IsCleanSeat disk s
clean_at disk p [] s clean e = absurd (none-some s e)
clean_at disk p (x ∷ ss) s clean e =
    pick (p x) (λ t. (if t then Some x else find p ss) ≡ Some s → IsCleanSeat disk s) (λ _ here. subst (λ u. IsCleanSeat disk u) (same_Some x s here) clean.0) (λ _ here. clean_at disk p ss s clean.1 here) e

-- the unused stay in front
unused_change : (p : SeatState → Bool) (f : SeatState → SeatState) (ss : List SeatState) → ((s : SeatState) → find p ss ≡ Some s → is_settled (f s) ≡ true → is_settled s ≡ true)
    → ((s : SeatState) → find p ss ≡ Some s → is_unused (f s) ≡ true → (is_unused s ≡ true) × (is_free (f s) ≡ true)) → UnusedFirst ss → UnusedFirst (change_first p f ss)
unused_change p f [] settles uses old = tt
unused_change p f (s ∷ ss) settles uses old =
    pick (p s) (λ t. ((x : SeatState) → (if t then Some s else find p ss) ≡ Some x → is_settled (f x) ≡ true → is_settled x ≡ true)
    → ((x : SeatState) → (if t then Some s else find p ss) ≡ Some x → is_unused (f x) ≡ true → (is_unused x ≡ true) × (is_free (f x) ≡ true)) → UnusedFirst (if t then f s ∷ ss else s ∷ change_first p f ss))
    (λ _ settle uses_it. (λ is. old.0 (settle s refl is), λ is. (uses_it s refl is).1, old.2))
    (λ _ settle uses_it. (
      λ is. let a = count_same is_unused p f ss (λ x e u. (uses_it x e u).0) in let b = old.0 is in omega (arith, a, b),
      old.1,
      unused_change p f ss settle uses_it old.2,
    ))
    settles uses

unused_push : (ss : List SeatState) (x : SeatState) → is_unused x ≡ false → UnusedFirst ss → UnusedFirst (ss ++ x ∷ [])
unused_push [] x used old = (λ _. refl, λ is. let clash : false ≡ true = sym used ∙ is in absurd (cc clash), tt)
unused_push (s ∷ ss) x used old = (
  λ is.
      let a = count_push is_unused ss x in
      let b = old.0 is in
      let none : ℕ = 0 in
      let c : cond (is_unused x) 1 none ≡ none = ap (λ (t : Bool). cond t 1 none) used in
      omega (arith, a, b, c),
  old.1,
  unused_push ss x used old.2,
)

block_used : (b : ℕ) (o : Option ℕ) → is_number b o ≡ true → is_none o ≡ false
block_used b None e = absurd (cc e)
block_used b (Some k) e = refl

unused_back : (b : ℕ) (ss : List SeatState) → UnusedFirst ss → UnusedFirst (given_back b ss)
unused_back b [] old = tt
unused_back b (s ∷ ss) old =
    pick (has_block b s) (λ t. has_block b s ≡ t → UnusedFirst (if t then ss ++ without_holder s ∷ [] else s ∷ given_back b ss))
    (λ _ has. unused_push ss (without_holder s) (block_used b s.block has) old.2)
    (λ _ _. (
      λ is. let a = count_to_end is_unused (has_block b) without_holder ss (λ x u. u) in let c = old.0 is in omega (arith, a, c),
      old.1,
      unused_back b ss old.2,
    ))
    refl

-- a seat that has a block was used
seat_used : (b : ℕ) (ss : List SeatState) (s : SeatState) → seat_of b ss ≡ Some s → is_unused s ≡ false
seat_used b ss s e = ap (λ (o : Option ℕ). is_none o) (seat_has b ss s e)

unused_with : (b : ℕ) (f : SeatState → SeatState) (ss : List SeatState) → ((s : SeatState) → (f s).block ≡ s.block) → ((s : SeatState) → is_settled (f s) ≡ true → is_settled s ≡ true) → UnusedFirst ss → UnusedFirst (with_seat b f ss)
unused_with b f ss same settles old =
    unused_change (has_block b) f ss (λ s _. settles s)
    (λ s e is. let clash : false ≡ true = sym (seat_used b ss s e) ∙ ap (λ (o : Option ℕ). is_none o) (sym (same s)) ∙ is in absurd (cc clash)) old

never : (t : Bool) → (t && false) ≡ true → ⊥
never true e = cc e
never false e = cc e

-- a holder more
held_more : (p : SeatState → Bool) (f : SeatState → SeatState) (ss : List SeatState) (hart : ℕ) → ((s : SeatState) → (f s).holder ≡ Some hart) → count_of (is_held_by hart) ss ≤ 1 → ((h : ℕ) → count_of (is_held_by h) ss ≤ 2)
    → (h : ℕ) → count_of (is_held_by h) (change_first p f ss) ≤ 2
held_more p f ss hart holds one two h = elim (cases_eq hart h) [
  | inl same ↦ (let a = count_more (is_held_by h) p f ss in let b : count_of (is_held_by h) ss ≤ 1 = subst (λ (j : ℕ). count_of (is_held_by j) ss ≤ 1) same one in omega (arith, a, b))
  | inr other ↦ (let a = count_same (is_held_by h) p f ss (λ s _ e. absurd (other (equal hart h (ap (is_number h) (sym (holds s)) ∙ e)))) in omega (arith, a, two h))
]

pub sound_lent : (disk : List (List ℕ)) (ss : List SeatState) (b hart : ℕ) → hart < 8 → count_of (is_held_by hart) ss ≤ 1 → IsSound disk ss → IsSound disk (with_seat b (with_holder hart) ss)
sound_lent disk ss b hart lt one sound = record {
  count = length-change_first (has_block b) (with_holder hart) ss ∙ sound.count;
  few_pinned = (let a = count_same is_pinned (has_block b) (with_holder hart) ss (λ s _ e. e) in omega (arith, a, sound.few_pinned));
  few_out = held_more (has_block b) (with_holder hart) ss hart (λ _. refl) one sound.few_out;
  harts = holders_change 8 (has_block b) (with_holder hart) ss (λ s _. lt) sound.harts;
  once = λ k. (let a = count_same (has_block k) (has_block b) (with_holder hart) ss (λ s _ e. e) in omega (arith, a, sound.once k));
  clean = clean_change disk (has_block b) (with_holder hart) ss (λ s _ old. old) sound.clean;
  unused = unused_with b (with_holder hart) ss (λ _. refl) (λ s is. absurd (never (is_some s.block) is)) sound.unused;
}

pub sound_new : (disk : List (List ℕ)) (ss : List SeatState) (b hart : ℕ) → hart < 8 → count_of (is_held_by hart) ss ≤ 1 → seat_of b ss ≡ None → IsSound disk ss → IsSound disk (change_first is_free (as_new hart b) ss)
sound_new disk ss b hart lt one none sound = record {
  count = length-change_first is_free (as_new hart b) ss ∙ sound.count;
  few_pinned = (let a = count_same is_pinned is_free (as_new hart b) ss (λ s _ e. e) in omega (arith, a, sound.few_pinned));
  few_out = held_more is_free (as_new hart b) ss hart (λ _. refl) one sound.few_out;
  harts = holders_change 8 is_free (as_new hart b) ss (λ s _. lt) sound.harts;
  once = λ k. elim (cases_eq b k) [
    | inl same ↦ (let a = count_more (has_block k) is_free (as_new hart b) ss in let c : count_of (has_block k) ss ≡ 0 = subst (λ (j : ℕ). count_of (has_block j) ss ≡ 0) same (none_counted (has_block b) ss none) in omega (arith, a, c))
    | inr other ↦ (let a = count_same (has_block k) is_free (as_new hart b) ss (λ s _ e. absurd (other (equal b k e))) in omega (arith, a, sound.once k))
  ];
  clean = clean_change disk is_free (as_new hart b) ss (λ s _ old k bytes is unpinned valid. absurd (none-some bytes valid)) sound.clean;
  unused = unused_change is_free (as_new hart b) ss (λ s _ is. absurd (cc is)) (λ s _ is. absurd (cc is)) sound.unused;
}

pub sound_back : (disk : List (List ℕ)) (ss : List SeatState) (b : ℕ) → IsSound disk ss → IsSound disk (given_back b ss)
sound_back disk ss b sound = record {
  count = length-change_to_end (has_block b) without_holder ss ∙ sound.count;
  few_pinned = (let a = count_to_end is_pinned (has_block b) without_holder ss (λ s e. e) in omega (arith, a, sound.few_pinned));
  few_out = λ h. (let a = count_to_end (is_held_by h) (has_block b) without_holder ss (λ s e. absurd (cc e)) in omega (arith, a, sound.few_out h));
  harts = holders_back 8 b ss sound.harts;
  once = λ k. (let a = count_to_end (has_block k) (has_block b) without_holder ss (λ s e. e) in omega (arith, a, sound.once k));
  clean = clean_back disk b ss sound.clean;
  unused = unused_back b ss sound.unused;
}

-- new bytes, of a seat that is pinned or has the disk's
pub sound_content : (disk : List (List ℕ)) (ss : List SeatState) (b : ℕ) (bytes : List ℕ) → ((s : SeatState) → seat_of b ss ≡ Some s → s.pinned ≡ false → bytes ≡ block_at disk b) → IsSound disk ss → IsSound disk (with_seat b (with_content bytes) ss)
sound_content disk ss b bytes new sound = record {
  count = length-change_first (has_block b) (with_content bytes) ss ∙ sound.count;
  few_pinned = (let a = count_same is_pinned (has_block b) (with_content bytes) ss (λ s _ e. e) in omega (arith, a, sound.few_pinned));
  few_out = λ h. (let a = count_same (is_held_by h) (has_block b) (with_content bytes) ss (λ s _ e. e) in omega (arith, a, sound.few_out h));
  harts = holders_change 8 (has_block b) (with_content bytes) ss (λ s old. old) sound.harts;
  once = λ k. (let a = count_same (has_block k) (has_block b) (with_content bytes) ss (λ s _ e. e) in omega (arith, a, sound.once k));
  clean = clean_change disk (has_block b) (with_content bytes) ss
      (λ s e old k bytes_k is unpinned valid.
      let same : b ≡ k = same_Some b k (sym (seat_has b ss s e) ∙ is) in
      sym (same_Some bytes bytes_k valid) ∙ new s e unpinned ∙ ap (block_at disk) same) sound.clean;
  unused = unused_with b (with_content bytes) ss (λ _. refl) (λ s is. is) sound.unused;
}

-- a block whose bytes are kept has no buffer more
pub once_content : (ss new : List SeatState) (b : ℕ) (o : Option (List ℕ)) → IsSome o → count_of (has_block b) ss ≤ 1 → IfSome o (λ bytes. new ≡ with_seat b (with_content bytes) ss) → count_of (has_block b) new ≤ 1
once_content ss new b None some once is = absurd (cc some)
once_content ss new b (Some bytes) some once is =
    let same = count_same (has_block b) (has_block b) (with_content bytes) ss (λ s _ e. e) in
    let at : count_of (has_block b) new ≡ count_of (has_block b) (with_seat b (with_content bytes) ss) = ap (count_of (has_block b)) is in
    omega (arith, same, at, once)

pinned_bit : (ss : List SeatState) (b : ℕ) → (option_map is_pinned (seat_of b ss) ≡ Some true) ⊎ (count_of is_pinned ss < 30) → count_of is_pinned ss ≤ 30 → count_of is_pinned (with_seat b (with_pin true) ss) ≤ 30
pinned_bit ss b (inl is) few =
    let a = count_same is_pinned (has_block b) (with_pin true) ss
    (λ s e _. let at : Some s.pinned ≡ Some true = ap (λ (o : Option SeatState). option_map is_pinned o) (sym e) ∙ is in same_Some s.pinned true at) in
    omega (arith, a, few)
pinned_bit ss b (inr lt) few = let a = count_more is_pinned (has_block b) (with_pin true) ss in omega (arith, a, lt)

pub sound_pin : (disk : List (List ℕ)) (ss : List SeatState) (b : ℕ) → (option_map is_pinned (seat_of b ss) ≡ Some true) ⊎ (count_of is_pinned ss < 30) → IsSound disk ss → IsSound disk (with_seat b (with_pin true) ss)
sound_pin disk ss b room sound = record {
  count = length-change_first (has_block b) (with_pin true) ss ∙ sound.count;
  few_pinned = pinned_bit ss b room sound.few_pinned;
  few_out = λ h. (let a = count_same (is_held_by h) (has_block b) (with_pin true) ss (λ s _ e. e) in omega (arith, a, sound.few_out h));
  harts = holders_change 8 (has_block b) (with_pin true) ss (λ s old. old) sound.harts;
  once = λ k. (let a = count_same (has_block k) (has_block b) (with_pin true) ss (λ s _ e. e) in omega (arith, a, sound.once k));
  clean = clean_change disk (has_block b) (with_pin true) ss (λ s _ old k bytes is unpinned valid. absurd (cc unpinned)) sound.clean;
  unused = unused_with b (with_pin true) ss (λ _. refl) (λ s is. is) sound.unused;
}

pub sound_unpin : (disk : List (List ℕ)) (ss : List SeatState) (b : ℕ) → block_at disk b ≡ seen_in disk ss b → IsSound disk ss → IsSound disk (with_seat b (with_pin false) ss)
sound_unpin disk ss b home sound = record {
  count = length-change_first (has_block b) (with_pin false) ss ∙ sound.count;
  few_pinned = (let a = count_same is_pinned (has_block b) (with_pin false) ss (λ s _ e. absurd (cc e)) in omega (arith, a, sound.few_pinned));
  few_out = λ h. (let a = count_same (is_held_by h) (has_block b) (with_pin false) ss (λ s _ e. e) in omega (arith, a, sound.few_out h));
  harts = holders_change 8 (has_block b) (with_pin false) ss (λ s old. old) sound.harts;
  once = λ k. (let a = count_same (has_block k) (has_block b) (with_pin false) ss (λ s _ e. e) in omega (arith, a, sound.once k));
  clean = clean_change disk (has_block b) (with_pin false) ss
      (λ s e old k bytes is unpinned valid.
      let same : b ≡ k = same_Some b k (sym (seat_has b ss s e) ∙ is) in
      let here : seen_in disk ss b ≡ bytes = ap (λ (o : Option SeatState). unwrap_or (option_and_then (λ (x : SeatState). x.content) o) (block_at disk b)) e ∙ ap (λ (o : Option (List ℕ)). unwrap_or o (block_at disk b)) valid in
      sym here ∙ sym home ∙ ap (block_at disk) same) sound.clean;
  unused = unused_with b (with_pin false) ss (λ _. refl) (λ s is. is) sound.unused;
}

-- a write of a block that no seat has
different : (b k : ℕ) (o : Option ℕ) → is_number b o ≡ false → o ≡ Some k → k ≢ b
different b k o isnt is same = let clash : false ≡ true = sym isnt ∙ ap (is_number b) is ∙ ap (λ (n : ℕ). n == b) same ∙ equals b in cc clash

clean_past : (disk : List (List ℕ)) (b : ℕ) (bytes : List ℕ) (s : SeatState) → has_block b s ≡ false → IsCleanSeat disk s → IsCleanSeat (slice_set disk b bytes) s
clean_past disk b bytes s isnt old k bytes_k is unpinned valid = old k bytes_k is unpinned valid ∙ sym (block_at-set_other disk b k bytes (different b k s.block isnt is))

not_counted : (t : Bool) (k : ℕ) → cond t 1 0 + k ≡ 0 → t ≡ false
not_counted true k e = absurd (omega (arith, e))
not_counted false k e = refl

clean_none : (disk : List (List ℕ)) (b : ℕ) (bytes : List ℕ) (ss : List SeatState) → count_of (has_block b) ss ≡ 0 → AllClean disk ss → AllClean (slice_set disk b bytes) ss
clean_none disk b bytes [] none old = tt
clean_none disk b bytes (s ∷ ss) none old = (clean_past disk b bytes s (not_counted (has_block b s) _ none) old.0, clean_none disk b bytes ss (omega (arith, none)) old.1)

pub sound_uncached : (disk : List (List ℕ)) (ss : List SeatState) (b : ℕ) (bytes : List ℕ) → seat_of b ss ≡ None → IsSound disk ss → IsSound (slice_set disk b bytes) ss
sound_uncached disk ss b bytes none sound = record {
  count = sound.count;
  few_pinned = sound.few_pinned;
  few_out = sound.few_out;
  harts = sound.harts;
  once = sound.once;
  clean = clean_none disk b bytes ss (none_counted (has_block b) ss none) sound.clean;
  unused = sound.unused;
}

pub seen_past : (disk : List (List ℕ)) (ss : List SeatState) (b k : ℕ) (bytes : List ℕ) → k ≢ b → seen_in (slice_set disk b bytes) ss k ≡ seen_in disk ss k
seen_past disk ss b k bytes ne = ap (unwrap_or (kept k ss)) (block_at-set_other disk b k bytes ne)

-- a write of the bytes that are kept
clean_home : (disk : List (List ℕ)) (b : ℕ) (bytes : List ℕ) (ss : List SeatState) → b < length disk → count_of (has_block b) ss ≤ 1 → kept b ss ≡ Some bytes → AllClean disk ss → AllClean (slice_set disk b bytes) ss
clean_home disk b bytes [] within once is old = tt
clean_home disk b bytes (s ∷ ss) within once is old =
    pick (has_block b s) (λ t. has_block b s ≡ t → cond t 1 0 + count_of (has_block b) ss ≤ 1 → option_and_then (λ (x : SeatState). x.content) (if t then Some s else seat_of b ss) ≡ Some bytes → IsCleanSeat (slice_set disk b bytes) s × AllClean (slice_set disk b bytes) ss)
    (λ _ has le here. (
      λ k bytes_k is_k _ valid.
          let same : b ≡ k = same_Some b k (sym (is_block b s.block has) ∙ is_k) in
          same_Some bytes_k bytes (sym valid ∙ here) ∙ sym (block_at-set_same disk b bytes within) ∙ ap (block_at (slice_set disk b bytes)) same,
      clean_none disk b bytes ss (omega (arith, le)) old.1,
    ))
    (λ _ isnt le here. (clean_past disk b bytes s isnt old.0, clean_home disk b bytes ss within (omega (arith, le)) here old.1))
    refl once is

pub sound_home : (disk : List (List ℕ)) (ss : List SeatState) (b : ℕ) (bytes : List ℕ) → b < length disk → kept b ss ≡ Some bytes → IsSound disk ss → IsSound (slice_set disk b bytes) ss
sound_home disk ss b bytes within is sound = record {
  count = sound.count;
  few_pinned = sound.few_pinned;
  few_out = sound.few_out;
  harts = sound.harts;
  once = sound.once;
  clean = clean_home disk b bytes ss within (sound.once b) is sound.clean;
  unused = sound.unused;
}

pub seen_home : (disk : List (List ℕ)) (ss : List SeatState) (b k : ℕ) (bytes : List ℕ) → kept b ss ≡ Some bytes → seen_in (slice_set disk b bytes) ss k ≡ seen_in disk ss k
seen_home disk ss b k bytes is = elim (cases_eq k b) [
  | inl same ↦
      let here : kept k ss ≡ Some bytes = ap (λ (j : ℕ). kept j ss) same ∙ is in
      ap (λ (o : Option (List ℕ)). unwrap_or o (block_at (slice_set disk b bytes) k)) here ∙ sym (ap (λ (o : Option (List ℕ)). unwrap_or o (block_at disk k)) here)
  | inr ne ↦ seen_past disk ss b k bytes ne
]

-- a cache with nothing in it
count_unused : (p : SeatState → Bool) (n count : ℕ) → ((k : ℕ) → p (unused k) ≡ false) → count_of p (unused_from n count) ≡ 0
unfolding unused_from
count_unused p n zero none = refl
count_unused p n (suc count) none =
    let more = count_unused p (n + 1) count none in
    let zero_ : ℕ = 0 in
    let a : cond (p (unused n)) 1 zero_ ≡ zero_ = ap (λ (t : Bool). cond t 1 zero_) (none n) in
    omega (arith, more, a)

length-unused_from : (n count : ℕ) → length (unused_from n count) ≡ count
unfolding unused_from
length-unused_from n zero = refl
length-unused_from n (suc count) = ap suc (length-unused_from (n + 1) count)

holders_unused : (m n count : ℕ) → HoldersBelow m (unused_from n count)
unfolding unused_from
holders_unused m n zero = tt
holders_unused m n (suc count) = (tt, holders_unused m (n + 1) count)

clean_unused : (disk : List (List ℕ)) (n count : ℕ) → AllClean disk (unused_from n count)
unfolding unused_from
clean_unused disk n zero = tt
clean_unused disk n (suc count) = (λ k bytes is _ _. absurd (none-some k is), clean_unused disk (n + 1) count)

unused_unused : (n count : ℕ) → UnusedFirst (unused_from n count)
unfolding unused_from
unused_unused n zero = tt
unused_unused n (suc count) = (λ is. absurd (cc is), λ _. refl, unused_unused (n + 1) count)

pub sound_unused : (disk : List (List ℕ)) → IsSound disk (unused_from 0 46)
sound_unused disk = record {
  count = length-unused_from 0 46;
  few_pinned = (let a = count_unused is_pinned 0 46 (λ _. refl) in omega (arith, a));
  few_out = λ h. (let a = count_unused (is_held_by h) 0 46 (λ _. refl) in omega (arith, a));
  harts = holders_unused 8 0 46;
  once = λ b. (let a = count_unused (has_block b) 0 46 (λ _. refl) in omega (arith, a));
  clean = clean_unused disk 0 46;
  unused = unused_unused 0 46;
}
