-- A record, with its parts as the calls give them.
use Rattle.group_log.proofs.Vocabulary.{◌≡◌, ◌≢◌, ◌⊎◌, inl, inr, ℕ, ◌<◌, ◌≤◌, ◌==◌, List, [], length, Bool, true, false, refl, sym, ◌∙◌, ap, subst, arith, Option, Some, None, IsSome, if◌then◌else◌, ne_eqb, IfSome, option_map, unwrap_or, GuardState, Super, BufferState, count_of, SeatState, has_block, is_pinned, seat_of, seen_in, with_seat, with_content, with_pin, given_back, IsHeld, HasRecorded, Open, has, with_block, HasRoom, members_with, IsHome, IsSoundLog}
use Rattle.group_log.proofs.Basics.{rooms_one_more, pick, seat_changed, held_cached, some_recorded}
use Rattle.group_log.proofs.Recording.{where_is, recorded_good}

pub room_to_add : (d : List (List ℕ)) (ss : List SeatState) (sizes : Super) (ks : List ℕ) (ms : List (Option ℕ)) (b hart : ℕ) → IsSoundLog d ss sizes ks ms Open → HasRoom ms hart → length ks < 30
room_to_add d ss sizes ks ms b hart sound has_room = let a = rooms_one_more ms hart has_room in omega (arith, a, sound.room)

pub room_to_pin : (d : List (List ℕ)) (ss : List SeatState) (sizes : Super) (ks : List ℕ) (ms : List (Option ℕ)) (b hart : ℕ) → IsSoundLog d ss sizes ks ms Open → (has ks b ≡ false → HasRoom ms hart)
    → (option_map is_pinned (seat_of b ss) ≡ Some true) ⊎ (count_of is_pinned ss < 30)
room_to_pin d ss sizes ks ms b hart sound has_room =
    pick (has ks b) (λ t. has ks b ≡ t → (option_map is_pinned (seat_of b ss) ≡ Some true) ⊎ (count_of is_pinned ss < 30))
    (λ _ is.
    let found = where_is ks b is in
    let pin : HasRecorded ss b = subst (λ (j : ℕ). HasRecorded ss j) found.2 (sound.buffers.pinned found.0 (omega arith) found.1) in
    let seat = some_recorded (seat_of b ss) pin in
    inl (ap (λ (o : Option SeatState). option_map is_pinned o) seat.1 ∙ ap Some seat.2.pinned))
    (λ _ isnt. let a = room_to_add d ss sizes ks ms b hart sound (has_room isnt) in inr (omega (arith, a, sound.buffers.few)))
    refl

pinned_there : (o : Option SeatState) → IsSome o → option_map is_pinned (option_map (with_pin true) o) ≡ Some true
pinned_there None is = absurd (cc is)
pinned_there (Some s) is = refl

pub pinned_by_pin : (b c : ℕ) (ss mid : List SeatState) (g : GuardState BufferState) → g.value.block ≡ b → c ≡ b → IsHeld ss g → mid ≡ with_seat c (with_pin true) ss → option_map is_pinned (seat_of b mid) ≡ Some true
pinned_by_pin b c ss mid g at same held is =
    ap (λ (l : List SeatState). option_map is_pinned (seat_of b l)) (is ∙ ap (λ (k : ℕ). with_seat k (with_pin true) ss) same)
    ∙ ap (λ (o : Option SeatState). option_map is_pinned o) (seat_changed b (with_pin true) ss (λ s. refl))
    ∙ pinned_there (seat_of b ss) (subst (λ (k : ℕ). IsSome (seat_of k ss)) at (held_cached ss g held))

pub recorded_all : (d m e : List (List ℕ)) (ss mid zs : List SeatState) (sizes : Super) (ks gs : List ℕ) (ms ns : List (Option ℕ)) (c hart name : ℕ) (g : GuardState BufferState)
    → ((b : ℕ) → count_of (has_block b) ss ≤ 1) → IsSoundLog d ss sizes ks ms Open → IsHeld ss g → IsSome g.value.content → (has ks g.value.block ≡ false → HasRoom ms hart) → IsHome d sizes g.value.block
    → c ≡ g.value.block → name ≡ hart → gs ≡ with_block ks c → ns ≡ members_with ks c ms name
    → m ≡ d → mid ≡ with_seat c (with_pin true) ss → ((k : ℕ) → seen_in m mid k ≡ seen_in d ss k)
    → e ≡ m → IfSome g.value.content (λ bytes. zs ≡ given_back g.value.block (with_seat g.value.block (with_content bytes) mid))
    → ((k : ℕ) → seen_in e zs k ≡ (if k == g.value.block then unwrap_or g.value.content [] else seen_in m mid k))
    → IsSoundLog e zs sizes gs ns Open
recorded_all d m e ss mid zs sizes ks gs ms ns c hart name g once sound held valid has_room home at same group members first pins sees_first later ends sees =
    subst (λ (l : List ℕ). IsSoundLog e zs sizes l ns Open) (sym (group ∙ ap (λ (k : ℕ). with_block ks k) at))
    (subst (λ (l : List (Option ℕ)). IsSoundLog e zs sizes (with_block ks b) l Open) (sym (members ∙ ap (λ (k : ℕ). members_with ks k ms name) at ∙ ap (λ (h : ℕ). members_with ks b ms h) same))
    (by_content g.value.content valid ends))
  where
    b : ℕ
    b = g.value.block

    others : (k : ℕ) → k ≢ b → seen_in e zs k ≡ seen_in d ss k
    others k ne = sees k ∙ ap (λ (t : Bool). if t then unwrap_or g.value.content [] else seen_in m mid k) (ne_eqb k b ne) ∙ sees_first k

    by_content : (content : Option (List ℕ)) → IsSome content → IfSome content (λ bytes. zs ≡ given_back g.value.block (with_seat g.value.block (with_content bytes) mid))
        → IsSoundLog e zs sizes (with_block ks g.value.block) (members_with ks g.value.block ms hart) Open
    by_content None is ends = absurd (cc is)
    by_content (Some bytes) is ends =
        recorded_good d e ss zs sizes ks ms g.value.block hart bytes once sound (held_cached ss g held) has_room home (later ∙ first)
        (ends ∙ ap (λ (l : List SeatState). given_back g.value.block (with_seat g.value.block (with_content bytes) l)) (pins ∙ ap (λ (k : ℕ). with_seat k (with_pin true) ss) at))
        others
