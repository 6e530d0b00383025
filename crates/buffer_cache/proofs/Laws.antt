-- What each call keeps, in the words of its contract.
use Rattle.buffer_cache.proofs.Vocabulary.{◌∷◌, is_some, cond, ◌≡◌, ◌≢◌, ◌⊎◌, inl, inr, ℕ, ◌<◌, ◌≤◌, List, [], length, Bool, true, false, ◌==◌, refl, sym, ◌∙◌, ap, subst, arith, Option, Some, None, IsSome, is_none, not, ◌&&◌, if◌then◌else◌, slice_set, ◌↔◌, IfSome, Result, Ok, Err, OnOk, OnErr, MatchOption, option_map, option_and_then, unwrap_or, cases_eq, nat_tests, same_Some, none-some, find, GuardState, IfSome_each, block_at, block_at-set_same, BufferState, change_first, count_of, is_any, is_unused, is_settled, UnusedFirst, is_number, SeatState, has_block, without_holder, Passes, Keeps, IsPinned, IsRecorded, is_recorded, is_held_by, is_pinned, is_free, seat_of, holder_of, kept, seen_in, with_seat, given_back, with_holder, with_content, with_pin, as_new, IsGuardOf, IsHeld, KeepsHeld, KeepsOthers, IsSound, get_of, get_by, get_new, guard_of, IfHeld, Got, Held, Waits}
use Rattle.buffer_cache.proofs.Basics.{pick, held_seat, held_unread, seat_back_here, seat_with_other, seat_with_here, seat_back_other, seat_new_here, seat_new_other, new_seen, kept_with, kept_back, some_free}
use Rattle.buffer_cache.proofs.Sound.{sound_lent, sound_new, sound_back, sound_content}

pub held_by : (ss : List SeatState) (g : GuardState BufferState) (s : SeatState) → seat_of g.value.block ss ≡ Some s → IsGuardOf g s → IsHeld ss g
held_by ss g s e is = subst (λ (o : Option SeatState). MatchOption o ⊥ (IsGuardOf g)) (sym e) is

-- a guard whose seat is as it was is held as before
pub held_same : (old new : List SeatState) (g : GuardState BufferState) → seat_of g.value.block new ≡ seat_of g.value.block old → IsHeld old g → IsHeld new g
held_same old new g e held = subst (λ (o : Option SeatState). MatchOption o ⊥ (IsGuardOf g)) (sym e) held

content_in : (ss : List SeatState) (b : ℕ) (s : SeatState) → seat_of b ss ≡ Some s → kept b ss ≡ s.content
content_in ss b s e = ap (λ (o : Option SeatState). option_and_then (λ (x : SeatState). x.content) o) e

seen_as : (disk : List (List ℕ)) (ss : List SeatState) (b : ℕ) (o : Option (List ℕ)) → kept b ss ≡ o → seen_in disk ss b ≡ unwrap_or o (block_at disk b)
seen_as disk ss b o e = ap (λ (w : Option (List ℕ)). unwrap_or w (block_at disk b)) e

taken : (t : SeatState) (h : ℕ) → t.holder ≡ Some h → is_free t ≡ false
taken t h e = ap (λ (o : Option ℕ). not t.pinned && is_none o) e ∙ never t.pinned
  where
    never : (p : Bool) → (not p && false) ≡ false
    never true = refl
    never false = refl

-- a test that a change of one seat leaves
keeps_with : (p : SeatState → Bool) (b : ℕ) (f : SeatState → SeatState) (ss : List SeatState) → ((s : SeatState) → (f s).block ≡ s.block) → ((s : SeatState) → p s ≡ true → p (f s) ≡ true) → Keeps p ss (with_seat b f ss)
keeps_with p b f ss same stays k passes = elim (cases_eq b k) [
  | inl is ↦
      let here : Passes p b ss = subst (λ (j : ℕ). Passes p j ss) (sym is) passes in
      let seat_then : seat_of b (with_seat b f ss) ≡ option_map f (seat_of b ss) = seat_with_here b f ss same in
      subst (λ (j : ℕ). Passes p j (with_seat b f ss)) is (ap (λ (o : Option SeatState). option_map p o) seat_then ∙ mapped (seat_of b ss) here)
  | inr ne ↦ ap (λ (o : Option SeatState). option_map p o) (seat_with_other b k f ss same ne) ∙ passes
]
  where
    mapped : (o : Option SeatState) → option_map p o ≡ Some true → option_map p (option_map f o) ≡ Some true
    mapped None e = absurd (none-some true e)
    mapped (Some s) e = ap (λ (t : Bool). Some t) (stays s (same_Some (p s) true e))

keeps_back : (p : SeatState → Bool) (b : ℕ) (ss : List SeatState) → count_of (has_block b) ss ≤ 1 → ((s : SeatState) → p s ≡ true → p (without_holder s) ≡ true) → Keeps p ss (given_back b ss)
keeps_back p b ss once stays k passes = elim (cases_eq b k) [
  | inl is ↦
      let here : Passes p b ss = subst (λ (j : ℕ). Passes p j ss) (sym is) passes in
      subst (λ (j : ℕ). Passes p j (given_back b ss)) is (ap (λ (o : Option SeatState). option_map p o) (seat_back_here b ss once) ∙ mapped (seat_of b ss) here)
  | inr ne ↦ ap (λ (o : Option SeatState). option_map p o) (seat_back_other b k ss ne) ∙ passes
]
  where
    mapped : (o : Option SeatState) → option_map p o ≡ Some true → option_map p (option_map without_holder o) ≡ Some true
    mapped None e = absurd (none-some true e)
    mapped (Some s) e = ap (λ (t : Bool). Some t) (stays s (same_Some (p s) true e))

keeps_new : (p : SeatState → Bool) (hart b : ℕ) (ss : List SeatState) → ((s : SeatState) → p s ≡ true → s.pinned ≡ true) → seat_of b ss ≡ None → Keeps p ss (change_first is_free (as_new hart b) ss)
keeps_new p hart b ss pinned none k passes = by_seat (seat_of k ss) refl passes
  where
    by_seat : (o : Option SeatState) → seat_of k ss ≡ o → option_map p o ≡ Some true → Passes p k (change_first is_free (as_new hart b) ss)
    by_seat None e f = absurd (none-some true f)
    by_seat (Some s) e f = elim (cases_eq b k) [
      | inl is ↦ absurd (none-some s (sym none ∙ ap (λ (j : ℕ). seat_of j ss) is ∙ e))
      | inr ne ↦
          let passing : p s ≡ true = same_Some (p s) true f in
          let not_free : is_free s ≡ false = ap (λ (t : Bool). not t && is_none s.holder) (pinned s passing) in
          ap (λ (o : Option SeatState). option_map p o) (seat_new_other hart b k ss s ne e not_free) ∙ f
    ]

recorded_pinned : (s : SeatState) → is_recorded s ≡ true → s.pinned ≡ true
recorded_pinned s e = first s.pinned (is_some s.content) e
  where
    first : (a b : Bool) → (a && b) ≡ true → a ≡ true
    first true b e = refl
    first false b e = absurd (cc e)

recorded_then : (s : SeatState) (bytes : List ℕ) → is_recorded s ≡ true → is_recorded (with_content bytes s) ≡ true
recorded_then s bytes e = ap (λ (t : Bool). t && true) (recorded_pinned s e)

-- as long as one was never used, such a one is taken
taken_unused : (ss : List SeatState) (s : SeatState) → UnusedFirst ss → find is_free ss ≡ Some s → 0 < count_of is_unused ss → s.block ≡ None
taken_unused [] s old e some = absurd (none-some s e)
taken_unused (x ∷ xs) s old e some =
    pick (is_free x) (λ t. is_free x ≡ t → (if t then Some x else find is_free xs) ≡ Some s → s.block ≡ None)
    (λ _ free here. subst (λ (u : SeatState). u.block ≡ None) (same_Some x s here) (by_block x.block refl free))
    (λ _ taken_ here. taken_unused xs s old.2 here (more (is_unused x) refl taken_))
    refl e
  where
    free_in : (p : Bool) (h : Option ℕ) → (not p && is_none h) ≡ true → is_none h ≡ true
    free_in true h f = absurd (cc f)
    free_in false h f = f

    by_block : (o : Option ℕ) → x.block ≡ o → is_free x ≡ true → x.block ≡ None
    by_block None at free = at
    by_block (Some k) at free =
        let settled : is_settled x ≡ true = ap (λ (o : Option ℕ). is_some o && is_none x.holder) at ∙ free_in x.pinned x.holder free in
        let none = old.0 settled in
        let used : is_unused x ≡ false = ap (λ (o : Option ℕ). is_none o) at in
        let zero_ : ℕ = 0 in
        let a : cond (is_unused x) 1 zero_ ≡ zero_ = ap (λ (t : Bool). cond t 1 zero_) used in
        absurd (omega (arith, some, none, a))

    more : (t : Bool) → is_unused x ≡ t → is_free x ≡ false → 0 < count_of is_unused xs
    more true is taken_ = let clash : false ≡ true = sym taken_ ∙ old.1 is in absurd (cc clash)
    more false is taken_ =
        let zero_ : ℕ = 0 in
        let a : cond (is_unused x) 1 zero_ ≡ zero_ = ap (λ (t : Bool). cond t 1 zero_) is in
        omega (arith, some, a)

new_unused : (hart b k : ℕ) (ss : List SeatState) (s : SeatState) → find is_free ss ≡ Some s → s.block ≡ None → Passes is_any k ss → Passes is_any k (change_first is_free (as_new hart b) ss)
new_unused hart b k [] s e unused_ there = absurd (none-some s e)
new_unused hart b k (x ∷ xs) s e unused_ there =
    pick (is_free x) (λ t. (if t then Some x else find is_free xs) ≡ Some s → option_map is_any (seat_of k (if t then as_new hart b x ∷ xs else x ∷ change_first is_free (as_new hart b) xs)) ≡ Some true)
    (λ _ here.
    let blank : x.block ≡ None = ap (λ (u : SeatState). u.block) (same_Some x s here) ∙ unused_ in
    let isnt : has_block k x ≡ false = ap (λ (o : Option ℕ). is_number k o) blank in
    let rest : Passes is_any k xs = ap (λ (t : Bool). option_map is_any (if t then Some x else seat_of k xs)) (sym isnt) ∙ there in
    pick (b == k) (λ t. option_map is_any (if t then Some (as_new hart b x) else seat_of k xs) ≡ Some true) (λ _. refl) (λ _. rest))
    (λ _ here.
    pick (has_block k x) (λ t. option_map is_any (if t then Some x else seat_of k xs) ≡ Some true → option_map is_any (if t then Some x else seat_of k (change_first is_free (as_new hart b) xs)) ≡ Some true)
    (λ _ _. refl)
    (λ _ rest. new_unused hart b k xs s here unused_ rest)
    there)
    e

pub record GetLaws (disk : List (List ℕ)) (hart b : ℕ) (old : List SeatState) (r : List SeatState × Got) : Type 0 where
  pub sound : IsSound disk r.0
  pub waits : (r.1 ≡ Waits) ↔ IsSome (holder_of b old)
  pub held : IfHeld r.1 (λ guard. (guard.hart ≡ hart) × (guard.value.block ≡ b) × IsHeld r.0 guard)
  pub bytes : IfHeld r.1 (λ guard. IfSome guard.value.content (λ bytes. bytes ≡ seen_in disk old b))
  pub others : KeepsHeld old r.0
  pub pins : Keeps is_pinned old r.0
  pub recorded : Keeps is_recorded old r.0
  pub unused : 0 < count_of is_unused old → Keeps is_any old r.0
  pub seen : (k : ℕ) → seen_in disk r.0 k ≡ seen_in disk old k

pub get_laws : (disk : List (List ℕ)) (hart b : ℕ) (ss : List SeatState) → hart < 8 → count_of (is_held_by hart) ss ≤ 1 → IsSound disk ss → GetLaws disk hart b ss (get_of hart b ss)
unfolding get_of
get_laws disk hart b ss lt one sound = by_seat (seat_of b ss) refl
  where
    free : IsSome (find is_free ss)
    free = some_free ss hart lt sound.count sound.few_pinned sound.few_out sound.harts one

    by_free : seat_of b ss ≡ None → (o : Option SeatState) → find is_free ss ≡ o → GetLaws disk hart b ss (get_new hart b ss o)
    by_free none None e = let isnt : IsSome {T = SeatState} None = subst (λ (o : Option SeatState). IsSome o) e free in absurd (cc isnt)
    by_free none (Some s) e = record {
      sound = sound_new disk ss b hart lt one none sound;
      waits = (
        λ is. absurd (cc is),
        λ out. let isnt : IsSome {T = ℕ} None = subst (λ (o : Option SeatState). IsSome (option_and_then (λ (x : SeatState). x.holder) o)) none out in absurd (cc isnt),
      );
      held = (refl, refl, held_by (change_first is_free (as_new hart b) ss) (guard_of hart b s None) (as_new hart b s) (seat_new_here hart b ss s none e) (record { number = refl; holder = refl; valid = refl }));
      bytes = tt;
      others = λ g held. elim (cases_eq b g.value.block) [
        | inl same ↦ absurd (subst (λ (o : Option SeatState). MatchOption o ⊥ (IsGuardOf g)) (ap (λ (k : ℕ). seat_of k ss) (sym same) ∙ none) held)
        | inr ne ↦
            let at = held_seat ss g held in
            held_by (change_first is_free (as_new hart b) ss) g at.0 (seat_new_other hart b g.value.block ss at.0 ne at.1 (taken at.0 g.hart at.2.holder)) at.2
      ];
      pins = keeps_new is_pinned hart b ss (λ s e. e) none;
      recorded = keeps_new is_recorded hart b ss recorded_pinned none;
      unused = λ some k. new_unused hart b k ss s e (taken_unused ss s sound.unused e some);
      seen = λ k. new_seen disk k hart b ss none (sound.once k) sound.clean;
    }

    by_holder : (s : SeatState) → seat_of b ss ≡ Some s → (h : Option ℕ) → s.holder ≡ h → GetLaws disk hart b ss (if is_some h then (ss, Waits) else (with_seat b (with_holder hart) ss, Held (guard_of hart b s s.content)))
    by_holder s e (Some other) out = record {
      sound = sound;
      waits = (λ _. subst (λ (o : Option ℕ). IsSome o) (sym (ap (λ (o : Option SeatState). option_and_then (λ (x : SeatState). x.holder) o) e ∙ out)) refl, λ _. refl);
      held = tt;
      bytes = tt;
      others = λ g held. held;
      pins = λ k passes. passes;
      recorded = λ k passes. passes;
      unused = λ _ k passes. passes;
      seen = λ k. refl;
    }
    by_holder s e None none =
        let seat_then : seat_of b (with_seat b (with_holder hart) ss) ≡ Some (with_holder hart s) = seat_with_here b (with_holder hart) ss (λ _. refl) ∙ ap (λ (o : Option SeatState). option_map (with_holder hart) o) e in
        record {
          sound = sound_lent disk ss b hart lt one sound;
          waits = (
            λ is. absurd (cc is),
            λ out. let isnt : IsSome {T = ℕ} None = subst (λ (o : Option ℕ). IsSome o) (ap (λ (o : Option SeatState). option_and_then (λ (x : SeatState). x.holder) o) e ∙ none) out in absurd (cc isnt),
          );
          held = (refl, refl, held_by (with_seat b (with_holder hart) ss) (guard_of hart b s s.content) (with_holder hart s) seat_then (record { number = refl; holder = refl; valid = refl }));
          bytes = IfSome_each s.content (λ bytes is. sym (seen_as disk ss b (Some bytes) (content_in ss b s e ∙ is)));
          others = λ g held. elim (cases_eq b g.value.block) [
            | inl same ↦
                let at = held_seat ss g held in
                let is_s : at.0 ≡ s = same_Some at.0 s (sym at.1 ∙ ap (λ (k : ℕ). seat_of k ss) (sym same) ∙ e) in
                absurd (none-some g.hart (sym none ∙ ap (λ (x : SeatState). x.holder) (sym is_s) ∙ at.2.holder))
            | inr ne ↦ held_same ss (with_seat b (with_holder hart) ss) g (seat_with_other b g.value.block (with_holder hart) ss (λ _. refl) ne) held
          ];
          pins = keeps_with is_pinned b (with_holder hart) ss (λ _. refl) (λ s e. e);
          recorded = keeps_with is_recorded b (with_holder hart) ss (λ _. refl) (λ s e. e);
          unused = λ _. keeps_with is_any b (with_holder hart) ss (λ _. refl) (λ s e. e);
          seen = λ k. ap (λ (o : Option (List ℕ)). unwrap_or o (block_at disk k)) (kept_with b k (with_holder hart) ss (λ _. refl) (λ _. refl));
        }

    by_seat : (o : Option SeatState) → seat_of b ss ≡ o → GetLaws disk hart b ss (get_by hart b ss o)
    by_seat None none = by_free none (find is_free ss) refl
    by_seat (Some s) e = by_holder s e s.holder refl

-- a filled buffer
pub record FillLaws (disk : List (List ℕ)) (b : ℕ) (old new : List SeatState) (g : GuardState BufferState) : Type 0 where
  pub sound : IsSound disk new
  pub held : IsHeld new g
  pub bytes : IfSome g.value.content (λ bytes. bytes ≡ seen_in disk new g.value.block)
  pub others : KeepsOthers b old new
  pub pins : Keeps is_pinned old new
  pub recorded : Keeps is_recorded old new
  pub seen : (k : ℕ) → seen_in disk new k ≡ seen_in disk old k

others_with : (b : ℕ) (f : SeatState → SeatState) (ss : List SeatState) → ((s : SeatState) → (f s).block ≡ s.block) → KeepsOthers b ss (with_seat b f ss)
others_with b f ss same g ne held = held_same ss (with_seat b f ss) g (seat_with_other b g.value.block f ss same (λ e. ne (sym e))) held

-- a held buffer's bytes, changed
content_then : (ss : List SeatState) (b : ℕ) (bytes : List ℕ) (s : SeatState) → seat_of b ss ≡ Some s → seat_of b (with_seat b (with_content bytes) ss) ≡ Some (with_content bytes s)
content_then ss b bytes s e = seat_with_here b (with_content bytes) ss (λ _. refl) ∙ ap (λ (o : Option SeatState). option_map (with_content bytes) o) e

-- what is seen after it
seen_content : (disk : List (List ℕ)) (ss : List SeatState) (b k : ℕ) (bytes : List ℕ) (s : SeatState) → seat_of b ss ≡ Some s → seen_in disk (with_seat b (with_content bytes) ss) k ≡ (if k == b then bytes else seen_in disk ss k)
seen_content disk ss b k bytes s e =
    pick (k == b) (λ t. (k == b) ≡ t → seen_in disk (with_seat b (with_content bytes) ss) k ≡ (if t then bytes else seen_in disk ss k))
    (λ _ is.
    let same : k ≡ b = equal k b is in
    let here : seen_in disk (with_seat b (with_content bytes) ss) b ≡ bytes = seen_as disk (with_seat b (with_content bytes) ss) b (Some bytes) (content_in (with_seat b (with_content bytes) ss) b (with_content bytes s) (content_then ss b bytes s e)) in
    subst (λ (j : ℕ). seen_in disk (with_seat b (with_content bytes) ss) j ≡ bytes) (sym same) here)
    (λ _ isnt.
    ap (λ (o : Option SeatState). unwrap_or (option_and_then (λ (x : SeatState). x.content) o) (block_at disk k))
    (seat_with_other b k (with_content bytes) ss (λ _. refl) (other k b isnt)))
    refl
  where
    equal : (i n : ℕ) → (i == n) ≡ true → i ≡ n
    equal i n e = grind (arith, nat_tests)

    other : (i n : ℕ) → (i == n) ≡ false → n ≢ i
    other i n e = grind (arith, nat_tests)

pub fill_laws : (disk : List (List ℕ)) (ss : List SeatState) (g : GuardState BufferState) → IsHeld ss g → g.value.content ≡ None → IsSound disk ss
    → (let bytes = block_at disk g.value.block in FillLaws disk g.value.block ss (with_seat g.value.block (with_content bytes) ss) (record { number = g.number; hart = g.hart; value = record { block = g.value.block; content = Some bytes } }))
fill_laws disk ss g held unread sound =
    let b = g.value.block in
    let bytes = block_at disk b in
    let at = held_seat ss g held in
    let s = at.0 in
    let none : s.content ≡ None = held_unread ss g s at.1 held unread in
    let before : seen_in disk ss b ≡ bytes = seen_as disk ss b None (content_in ss b s at.1 ∙ none) in
    record {
      sound = sound_content disk ss b bytes (λ _ _ _. refl) sound;
      held = held_by (with_seat b (with_content bytes) ss) _ (with_content bytes s) (content_then ss b bytes s at.1) (record { number = at.2.number; holder = at.2.holder; valid = refl });
      bytes = sym (seen_as disk (with_seat b (with_content bytes) ss) b (Some bytes) (content_in (with_seat b (with_content bytes) ss) b (with_content bytes s) (content_then ss b bytes s at.1)));
      others = others_with b (with_content bytes) ss (λ _. refl);
      pins = keeps_with is_pinned b (with_content bytes) ss (λ _. refl) (λ t e. e);
      recorded = keeps_with is_recorded b (with_content bytes) ss (λ _. refl) (λ t e. recorded_then t bytes e);
      seen = λ k. seen_content disk ss b k bytes s at.1
          ∙ pick (k == b) (λ t. (k == b) ≡ t → (if t then bytes else seen_in disk ss k) ≡ seen_in disk ss k)
          (λ _ is. sym before ∙ ap (seen_in disk ss) (sym (equal k b is)))
          (λ _ _. refl)
          refl;
    }
  where
    equal : (i n : ℕ) → (i == n) ≡ true → i ≡ n
    equal i n e = grind (arith, nat_tests)

-- a giving back
pub record BackLaws (disk : List (List ℕ)) (b : ℕ) (old new : List SeatState) : Type 0 where
  pub sound : IsSound disk new
  pub others : KeepsOthers b old new
  pub pins : Keeps is_pinned old new
  pub recorded : Keeps is_recorded old new
  pub seen : (k : ℕ) → seen_in disk new k ≡ seen_in disk old k

pub back_laws : (disk : List (List ℕ)) (ss : List SeatState) (b : ℕ) → IsSound disk ss → BackLaws disk b ss (given_back b ss)
back_laws disk ss b sound = record {
  sound = sound_back disk ss b sound;
  others = λ g ne held. held_same ss (given_back b ss) g (seat_back_other b g.value.block ss (λ e. ne (sym e))) held;
  pins = keeps_back is_pinned b ss (sound.once b) (λ s e. e);
  recorded = keeps_back is_recorded b ss (sound.once b) (λ s e. e);
  seen = λ k. ap (λ (o : Option (List ℕ)). unwrap_or o (block_at disk k)) (kept_back b k ss (sound.once b));
}

-- a guard with the bytes that are seen has the bytes that are kept
pub unchanged_kept : (disk : List (List ℕ)) (ss : List SeatState) (g : GuardState BufferState) → IsHeld ss g → IfSome g.value.content (λ bytes. bytes ≡ seen_in disk ss g.value.block) → g.value.content ≡ kept g.value.block ss
unchanged_kept disk ss g held same =
    let at = held_seat ss g held in
    let is = content_in ss g.value.block at.0 at.1 in
    both g.value.content at.0.content at.2.valid same (seen_as disk ss g.value.block at.0.content is) ∙ sym is
  where
    both : (o c : Option (List ℕ)) → is_some c ≡ is_some o → IfSome o (λ bytes. bytes ≡ seen_in disk ss g.value.block) → seen_in disk ss g.value.block ≡ unwrap_or c (block_at disk g.value.block) → o ≡ c
    both None None v s e = refl
    both None (Some x) v s e = absurd (cc v)
    both (Some x) None v s e = absurd (cc v)
    both (Some x) (Some y) v s e = ap (λ (w : List ℕ). Some w) (s ∙ e)

-- a giving back with changed bytes
pub record ChangeLaws (disk : List (List ℕ)) (bytes : List ℕ) (g : GuardState BufferState) (old middle new : List SeatState) : Type 0 where
  pub held : IsHeld middle g
  pub kept_then : g.value.content ≡ kept g.value.block middle
  pub sound : IsSound disk new
  pub others : KeepsOthers g.value.block old new
  pub pins : Keeps is_pinned old new
  pub recorded : Keeps is_recorded old new
  pub block : IsRecorded g.value.block new
  pub seen : (k : ℕ) → seen_in disk new k ≡ (if k == g.value.block then bytes else seen_in disk old k)

pub change_laws : (disk : List (List ℕ)) (ss : List SeatState) (g : GuardState BufferState) (bytes : List ℕ) → IsHeld ss g → g.value.content ≡ Some bytes → IsPinned g.value.block ss → IsSound disk ss
    → (let middle = with_seat g.value.block (with_content bytes) ss in ChangeLaws disk bytes g ss middle (given_back g.value.block middle))
change_laws disk ss g bytes held is pinned sound =
    let b = g.value.block in
    let middle = with_seat b (with_content bytes) ss in
    let at = held_seat ss g held in
    let s = at.0 in
    let sound_then : IsSound disk middle = sound_content disk ss b bytes
    (λ t e unpinned. let clash : Some false ≡ Some true = ap (λ (p : Bool). Some p) (sym unpinned) ∙ ap (λ (o : Option SeatState). option_map is_pinned o) (sym e) ∙ pinned in absurd (cc clash)) sound in
    let back = back_laws disk middle b sound_then in
    record {
      held = held_by middle g (with_content bytes s) (content_then ss b bytes s at.1) (record { number = at.2.number; holder = at.2.holder; valid = ap (λ (o : Option (List ℕ)). is_some o) (sym is) });
      kept_then = is ∙ sym (content_in middle b (with_content bytes s) (content_then ss b bytes s at.1));
      sound = back.sound;
      others = λ h ne h_held. back.others h ne (others_with b (with_content bytes) ss (λ _. refl) h ne h_held);
      pins = λ k passes. back.pins k (keeps_with is_pinned b (with_content bytes) ss (λ _. refl) (λ t e. e) k passes);
      recorded = λ k passes. back.recorded k (keeps_with is_recorded b (with_content bytes) ss (λ _. refl) (λ t e. recorded_then t bytes e) k passes);
      block = back.recorded b (ap (λ (o : Option SeatState). option_map is_recorded o) (content_then ss b bytes s at.1)
          ∙ ap (λ (t : Bool). Some (t && true)) (same_Some s.pinned true (ap (λ (o : Option SeatState). option_map is_pinned o) (sym at.1) ∙ pinned)));
      seen = λ k. back.seen k ∙ seen_content disk ss b k bytes s at.1;
    }

-- a pin, set or taken away
pub pin_keeps : (ss : List SeatState) (b : ℕ) (pinned : Bool) → KeepsHeld ss (with_seat b (with_pin pinned) ss)
pin_keeps ss b pinned g held = elim (cases_eq b g.value.block) [
  | inl same ↦
      let at = held_seat ss g held in
      let e : seat_of b ss ≡ Some at.0 = ap (λ (k : ℕ). seat_of k ss) same ∙ at.1 in
      let then_seat : seat_of b (with_seat b (with_pin pinned) ss) ≡ Some (with_pin pinned at.0) = seat_with_here b (with_pin pinned) ss (λ _. refl) ∙ ap (λ (o : Option SeatState). option_map (with_pin pinned) o) e in
      held_by (with_seat b (with_pin pinned) ss) g (with_pin pinned at.0) (ap (λ (k : ℕ). seat_of k (with_seat b (with_pin pinned) ss)) (sym same) ∙ then_seat)
      (record { number = at.2.number; holder = at.2.holder; valid = at.2.valid })
  | inr ne ↦ held_same ss (with_seat b (with_pin pinned) ss) g (seat_with_other b g.value.block (with_pin pinned) ss (λ _. refl) ne) held
]

pub pin_seen : (disk : List (List ℕ)) (ss : List SeatState) (b : ℕ) (pinned : Bool) (k : ℕ) → seen_in disk (with_seat b (with_pin pinned) ss) k ≡ seen_in disk ss k
pin_seen disk ss b pinned k = ap (λ (o : Option (List ℕ)). unwrap_or o (block_at disk k)) (kept_with b k (with_pin pinned) ss (λ _. refl) (λ _. refl))

-- the same by the result of a call, or by what the guard has
pub fill_either : {E : Type 0} (r : Result Unit E) (disk : List (List ℕ)) (ss new : List SeatState) (g g_new : GuardState BufferState) → IsHeld ss g → g.value.content ≡ None → IsSound disk ss
    → OnOk r (g_new ≡ record { number = g.number; hart = g.hart; value = record { block = g.value.block; content = Some (block_at disk g.value.block) } })
    → OnOk r (new ≡ with_seat g.value.block (with_content (block_at disk g.value.block)) ss)
    → OnErr r ((g_new ≡ g) × (new ≡ ss))
    → FillLaws disk g.value.block ss new g_new
fill_either (Ok u) disk ss new g g_new held unread sound filled seats err =
    let laws = fill_laws disk ss g held unread sound in
    rw (filled, seats) laws
fill_either (Err e) disk ss new g g_new held unread sound filled seats err =
    rw (err.0, err.1) (record { sound = sound; held = held; bytes = subst (λ (o : Option (List ℕ)). IfSome o (λ bytes. bytes ≡ seen_in disk ss g.value.block)) (sym unread) tt; others = λ h _ h_held. h_held; pins = λ _ passes. passes; recorded = λ _ passes. passes; seen = λ _. refl })

pub change_some : (disk : List (List ℕ)) (ss middle : List SeatState) (g : GuardState BufferState) → IsHeld ss g → IsSome g.value.content → IsPinned g.value.block ss → IsSound disk ss
    → IfSome g.value.content (λ bytes. middle ≡ with_seat g.value.block (with_content bytes) ss)
    → ChangeLaws disk (unwrap_or g.value.content []) g ss middle (given_back g.value.block middle)
change_some disk ss middle g held valid pinned sound is = by_content g.value.content refl valid is
  where
    by_content : (o : Option (List ℕ)) → g.value.content ≡ o → IsSome o → IfSome o (λ bytes. middle ≡ with_seat g.value.block (with_content bytes) ss) → ChangeLaws disk (unwrap_or o []) g ss middle (given_back g.value.block middle)
    by_content None e some m = absurd (cc some)
    by_content (Some bytes) e some m = subst (λ (l : List SeatState). ChangeLaws disk bytes g ss l (given_back g.value.block l)) (sym m) (change_laws disk ss g bytes held e pinned sound)

pub written_either : {T E X : Type 0} (r : Result T E) (old set_ new : X) → OnOk r (new ≡ set_) → OnErr r ((new ≡ old) ⊎ (new ≡ set_)) → (new ≡ old) ⊎ (new ≡ set_)
written_either (Ok x) old set_ new ok err = inr ok
written_either (Err e) old set_ new ok err = err

-- the bytes of a guard that has what is seen
pub home_bytes : (disk : List (List ℕ)) (ss : List SeatState) (g : GuardState BufferState) (bytes : List ℕ) → IsHeld ss g → IfSome g.value.content (λ x. x ≡ seen_in disk ss g.value.block) → Some bytes ≡ g.value.content
    → (kept g.value.block ss ≡ Some bytes) × (bytes ≡ seen_in disk ss g.value.block)
home_bytes disk ss g bytes held same is =
    let keeps : kept g.value.block ss ≡ Some bytes = sym (unchanged_kept disk ss g held same) ∙ sym is in
    (keeps, sym (seen_as disk ss g.value.block (Some bytes) keeps))

pub written_ok : {T E X : Type 0} (r : Result T E) (new x y : X) → OnOk r (new ≡ x) → x ≡ y → OnOk r (new ≡ y)
written_ok (Ok t) new x y ok e = ok ∙ e
written_ok (Err f) new x y ok e = ok

pub written_err : {T E X : Type 0} (r : Result T E) (new old old_too x y : X) → OnErr r ((new ≡ old) ⊎ (new ≡ x)) → old ≡ old_too → x ≡ y → OnErr r ((new ≡ old_too) ⊎ (new ≡ y))
written_err (Ok t) new old old_too x y err f e = err
written_err (Err t) new old old_too x y (inl is) f e = inl (is ∙ f)
written_err (Err t) new old old_too x y (inr is) f e = inr (is ∙ e)

-- after a write of the kept bytes the block on the disk is as it is seen
pub home_then : {T E : Type 0} (r : Result T E) (disk new : List (List ℕ)) (ss : List SeatState) (b : ℕ) (bytes : List ℕ) → b < length disk → kept b ss ≡ Some bytes → OnOk r (new ≡ slice_set disk b bytes)
    → OnOk r (block_at new b ≡ seen_in new ss b)
home_then (Ok t) disk new ss b bytes within keeps is = ap (λ (d : List (List ℕ)). block_at d b) is ∙ block_at-set_same disk b bytes within ∙ sym (seen_as new ss b (Some bytes) keeps)
home_then (Err e) disk new ss b bytes within keeps is = is

pub pin_pins : (ss : List SeatState) (b : ℕ) → Keeps is_pinned ss (with_seat b (with_pin true) ss)
pin_pins ss b = keeps_with is_pinned b (with_pin true) ss (λ _. refl) (λ _ _. refl)

pub pin_recorded : (ss : List SeatState) (b : ℕ) → Keeps is_recorded ss (with_seat b (with_pin true) ss)
pin_recorded ss b = keeps_with is_recorded b (with_pin true) ss (λ _. refl) valid_then
  where
    valid_then : (s : SeatState) → is_recorded s ≡ true → is_some s.content ≡ true
    valid_then s e = second s.pinned (is_some s.content) e
      where
        second : (a b : Bool) → (a && b) ≡ true → b ≡ true
        second true b e = e
        second false b e = absurd (cc e)

pub pin_block : (ss : List SeatState) (b : ℕ) → IsSome (seat_of b ss) → IsPinned b (with_seat b (with_pin true) ss)
pin_block ss b cached = ap (λ (o : Option SeatState). option_map is_pinned o) (seat_with_here b (with_pin true) ss (λ _. refl)) ∙ mapped (seat_of b ss) cached
  where
    mapped : (o : Option SeatState) → IsSome o → option_map is_pinned (option_map (with_pin true) o) ≡ Some true
    mapped None e = absurd (cc e)
    mapped (Some s) e = refl

pub unpin_others : (p : SeatState → Bool) (ss : List SeatState) (b k : ℕ) → k ≢ b → Passes p k ss → Passes p k (with_seat b (with_pin false) ss)
unpin_others p ss b k ne passes = ap (λ (o : Option SeatState). option_map p o) (seat_with_other b k (with_pin false) ss (λ _. refl) (λ e. ne (sym e))) ∙ passes
