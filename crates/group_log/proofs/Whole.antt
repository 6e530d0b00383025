-- Every call of the log keeps the log and its cache sound.
use Rattle.group_log.proofs.Vocabulary.{◌≡◌, ◌≢◌, ◌⊎◌, inl, inr, ℕ, ◌+◌, ◌*◌, ◌<◌, ◌≤◌, ◌==◌, Bool, true, false, List, [], ◌∷◌, Option, Some, None, length, refl, sym, subst, ap, ◌∙◌, arith, if◌then◌else◌, slice_get, slice_set, slice_index, IsSome, is_some, unwrap_or, MatchOption, option_and_then, eqb-true, nat_tests, Super, IsOutsideLog, block_at, GuardState, BufferState, count_of, get_of, SeatState, seat_of, holder_of, is_held_by, kept, IsGuardOf, seen_in, with_seat, with_content, with_pin, given_back, IsHeld, IsSound, Got, block_at-set_same, sound_pin, sound_unpin, sound_uncached, sound_home, seen_past, seen_home, GetLaws, get_laws, fill_laws, back_laws, change_laws, pin_keeps, pin_seen, Phase, Open, Staging, Installing, Halted, joined, has, with_block, members_with, HasRoom, IsMember, IsUnderWay, write_to, write_of, next_phase, group_in, phase_at_leave, head_block, IsSoundLog, IsHome, PinsFrom, limit_of, seats_after, seats_at_fault, join_waits, HasRecorded, IsWhole, LeadsToWhole, CallsKeepWhole, written}
use Rattle.group_log.proofs.Basics.{rooms_le, rooms_join, length-set_member, pick, kept_get, kept_back, kept_change, sound_kept, some_recorded, held_cached}
use Rattle.group_log.proofs.Steps.{below, open_of, can_write, under_way}
use Rattle.group_log.proofs.Recording.{recorded_good}
use Rattle.group_log.proofs.Recorded.{room_to_pin, pinned_by_pin}
use Rattle.group_log.proofs.Leaving.{left_good, begun_good}
use Rattle.group_log.proofs.Committed.{failed_good, done_good}

-- a disk and seats, after which all blocks outside the log are seen as before
pub record Stands (d : List (List ℕ)) (ss : List SeatState) (sizes : Super) (e : List (List ℕ)) (zs : List SeatState) : Type 0 where
  pub sound : IsSound e zs
  pub seen : (b : ℕ) → IsOutsideLog sizes b → seen_in e zs b ≡ seen_in d ss b

back_stands : (d e : List (List ℕ)) (ss zs : List SeatState) (sizes : Super) (b : ℕ) → Stands d ss sizes e zs → Stands d ss sizes e (given_back b zs)
back_stands d e ss zs sizes b st =
    let laws = back_laws e zs b st.sound in
    record { sound = laws.sound; seen = λ k out. laws.seen k ∙ st.seen k out }

-- a write into the log
log_stands : (d : List (List ℕ)) (ss : List SeatState) (sizes : Super) (ks : List ℕ) (n at : ℕ) (bytes : List ℕ) → IsSound d ss → PinsFrom sizes ss ks n
    → sizes.logstart ≤ at → at < sizes.logstart + sizes.nlog → Stands d ss sizes (slice_set d at bytes) ss
log_stands d ss sizes ks n at bytes sound pins from to = record {
  sound = sound_uncached d ss at bytes (pins.apart at from to) sound;
  seen = λ b out. seen_past d ss at b bytes (λ e. elim out [ inl lt ↦ omega (arith, e, from, lt) | inr le ↦ omega (arith, e, to, le) ]);
}

kept_bytes : (d : List (List ℕ)) (ss : List SeatState) (b : ℕ) → HasRecorded ss b → kept b ss ≡ Some (seen_in d ss b)
kept_bytes d ss b pin =
    let at = some_recorded (seat_of b ss) pin in
    let is : kept b ss ≡ at.0.content = ap (option_and_then (λ (s : SeatState). s.content)) at.1 in
    is ∙ some at.0.content at.2.valid ∙ ap (λ (o : Option (List ℕ)). Some (unwrap_or o (block_at d b))) (sym is)
  where
    some : (o : Option (List ℕ)) → IsSome o → o ≡ Some (unwrap_or o (block_at d b))
    some None v = absurd (cc v)
    some (Some x) v = refl

-- a write home
home_stands : (d : List (List ℕ)) (ss : List SeatState) (sizes : Super) (b : ℕ) → IsSound d ss → HasRecorded ss b → b < length d → Stands d ss sizes (slice_set d b (seen_in d ss b)) ss
home_stands d ss sizes b sound pin within = record {
  sound = sound_home d ss b (seen_in d ss b) within (kept_bytes d ss b pin) sound;
  seen = λ k out. seen_home d ss b k (seen_in d ss b) (kept_bytes d ss b pin);
}

module _ (d : List (List ℕ)) (ss : List SeatState) (sizes : Super) (ks : List ℕ) (ms : List (Option ℕ)) where
  -- the commit's next write, before its buffer is given back
  pub write_stands : (p : Phase) → IsSound d ss → IsSoundLog d ss sizes ks ms p → IsUnderWay (length ks) p → Stands d ss sizes (slice_set d (write_to sizes ks p) (write_of (seen_in d ss) ks p)) ss
  write_stands Open sound log on = absurd on
  write_stands (Staging i) sound log on =
      let w = can_write d ss sizes ks ms (Staging i) log in
      pick (i == length ks) (λ t. (i == length ks) ≡ t → Stands d ss sizes (slice_set d (if t then sizes.logstart else sizes.logstart + 1 + i) (if t then head_block ks else seen_in d ss (slice_index ks i))) ss)
      (λ _ is. log_stands d ss sizes ks 0 sizes.logstart (head_block ks) sound log.buffers (omega arith) (omega (arith, log.place.some)))
      (λ _ isnt. let lt = below i (length ks) on isnt in log_stands d ss sizes ks 0 (sizes.logstart + 1 + i) (seen_in d ss (slice_index ks i)) sound log.buffers (omega arith) (omega (arith, lt, w.room)))
      refl
  write_stands (Installing i) sound log on =
      pick (i == length ks) (λ t. (i == length ks) ≡ t → Stands d ss sizes (slice_set d (if t then sizes.logstart else slice_index ks i) (if t then head_block [] else seen_in d ss (slice_index ks i))) ss)
      (λ _ is. log_stands d ss sizes ks i sizes.logstart (head_block []) sound log.buffers (omega arith) (omega (arith, log.place.some)))
      (λ _ isnt. let lt = below i (length ks) on isnt in let home = log.homes i lt in home_stands d ss sizes (slice_index ks i) sound (log.buffers.pinned i (omega arith) lt) home.within)
      refl
  write_stands Halted sound log on = absurd on

  pub fault_stands : (p : Phase) (e : List (List ℕ)) → Stands d ss sizes e ss → Stands d ss sizes e (seats_at_fault ks p ss)
  fault_stands Open e st = st
  fault_stands (Staging i) e st = pick (i == length ks) (λ t. Stands d ss sizes e (if t then ss else given_back (slice_index ks i) ss)) (λ _. st) (λ _. back_stands d e ss ss sizes (slice_index ks i) st)
  fault_stands (Installing i) e st = pick (i == length ks) (λ t. Stands d ss sizes e (if t then ss else given_back (slice_index ks i) ss)) (λ _. st) (λ _. back_stands d e ss ss sizes (slice_index ks i) st)
  fault_stands Halted e st = st

  pub after_stands : (p : Phase) → IsSound d ss → IsSoundLog d ss sizes ks ms p → IsUnderWay (length ks) p
      → Stands d ss sizes (slice_set d (write_to sizes ks p) (write_of (seen_in d ss) ks p)) (seats_after ks p ss)
  after_stands Open sound log on = absurd on
  after_stands (Staging i) sound log on =
      let e = slice_set d (write_to sizes ks (Staging i)) (write_of (seen_in d ss) ks (Staging i)) in
      let st = write_stands (Staging i) sound log on in
      pick (i == length ks) (λ t. Stands d ss sizes e (if t then ss else given_back (slice_index ks i) ss)) (λ _. st) (λ _. back_stands d e ss ss sizes (slice_index ks i) st)
  after_stands (Installing i) sound log on =
      pick (i == length ks)
      (λ t. (i == length ks) ≡ t → Stands d ss sizes (slice_set d (if t then sizes.logstart else slice_index ks i) (if t then head_block [] else seen_in d ss (slice_index ks i)))
      (if t then ss else given_back (slice_index ks i) (with_seat (slice_index ks i) (with_pin false) ss)))
      (λ _ is. log_stands d ss sizes ks i sizes.logstart (head_block []) sound log.buffers (omega arith) (omega (arith, log.place.some)))
      (λ _ isnt.
      let b = slice_index ks i in
      let e = slice_set d b (seen_in d ss b) in
      let lt = below i (length ks) on isnt in
      let home = log.homes i lt in
      let pin : HasRecorded ss b = log.buffers.pinned i (omega arith) lt in
      let st : Stands d ss sizes e ss = home_stands d ss sizes b sound pin home.within in
      let there : block_at e b ≡ seen_in e ss b = block_at-set_same d b (seen_in d ss b) home.within ∙ sym (seen_home d ss b b (seen_in d ss b) (kept_bytes d ss b pin)) in
      let un : Stands d ss sizes e (with_seat b (with_pin false) ss) = record { sound = sound_unpin e ss b there st.sound; seen = λ k out. pin_seen e ss b false k ∙ st.seen k out } in
      back_stands d e ss (with_seat b (with_pin false) ss) sizes b un)
      refl
  after_stands Halted sound log on = absurd on

pub eqb-isnt : (i n : ℕ) → i ≢ n → (i == n) ≡ false
eqb-isnt i n ne = grind (arith, nat_tests)

-- the guard of a buffer that is out
abbrev pub guard_in : ℕ → ℕ → SeatState → Option (List ℕ) → GuardState BufferState
guard_in h b s content = record { number = s.number; hart = h; value = record { block = b; content = content } }

pub seat_in : (h b : ℕ) (ss : List SeatState) (o : Option SeatState) → seat_of b ss ≡ o → holder_of b ss ≡ Some h
    → (s : SeatState) × (seat_of b ss ≡ Some s) × ((content : Option (List ℕ)) → is_some s.content ≡ is_some content → IsHeld ss (guard_in h b s content))
seat_in h b ss None at out =
    let clash : None ≡ Some h = sym (ap (option_and_then (λ (s : SeatState). s.holder)) at) ∙ out in absurd (cc clash)
seat_in h b ss (Some s) at out =
    let is : s.holder ≡ Some h = sym (ap (option_and_then (λ (s : SeatState). s.holder)) at) ∙ out in
    (s, at, λ content valid. subst (λ o. MatchOption o ⊥ (IsGuardOf (guard_in h b s content))) (sym at) (record { number = refl; holder = is; valid = valid }))

pub kept_in : (b : ℕ) (ss : List SeatState) (s : SeatState) → seat_of b ss ≡ Some s → kept b ss ≡ s.content
kept_in b ss s at = ap (option_and_then (λ (s : SeatState). s.content)) at

module _ (d : List (List ℕ)) (ss : List SeatState) (sizes : Super) (ks : List ℕ) (ms : List (Option ℕ)) where
  joined_good : (p : Phase) (h : ℕ) → IsSoundLog d ss sizes ks ms p → join_waits p (length ks) (joined ms) (limit_of sizes) ≡ false → slice_get ms h ≡ Some None
      → IsSoundLog d ss sizes ks (slice_set ms h (Some 0)) p
  joined_good Open h log e idle =
      let most = rooms_le ms in
      let more = rooms_join ms h idle in
      let fits : length ks + (joined ms + 1) * 10 ≤ limit_of sizes = grind (arith, nat_tests) in
      record {
        place = log.place;
        room = omega (arith, most, more, fits);
        eight = length-set_member ms h (Some 0) ∙ log.eight;
        quiet = tt;
        homes = log.homes;
        distinct = log.distinct;
        buffers = log.buffers;
        blocks = log.blocks;
      }
  joined_good (Staging i) h log e idle = absurd (cc e)
  joined_good (Installing i) h log e idle = absurd (cc e)
  joined_good Halted h log e idle = absurd (cc e)

left_whole : (d : List (List ℕ)) (ss : List SeatState) (sizes : Super) (ks : List ℕ) (ms : List (Option ℕ)) (h : ℕ) → IsSoundLog d ss sizes ks ms Open
    → IsSoundLog d ss sizes ks (slice_set ms h None) (phase_at_leave (joined (slice_set ms h None)) ks)
left_whole d ss sizes [] ms h log = left_good d ss sizes [] ms h log
left_whole d ss sizes (b ∷ ks) ms h log =
    pick (joined (slice_set ms h None) == 0)
    (λ t. (joined (slice_set ms h None) == 0) ≡ t → IsSoundLog d ss sizes (b ∷ ks) (slice_set ms h None) (if t then Staging 0 else Open))
    (λ _ is. begun_good d ss sizes (b ∷ ks) ms h log (eqb-true (joined (slice_set ms h None)) 0 is))
    (λ _ _. left_good d ss sizes (b ∷ ks) ms h log)
    refl

module _ (d : List (List ℕ)) (ss : List SeatState) (sizes : Super) (ks : List ℕ) (ms : List (Option ℕ)) (p : Phase) (whole : IsWhole d ss sizes ks ms p) where
  get_whole : (h b : ℕ) → h < 8 → count_of (is_held_by h) ss ≤ 1 → IsOutsideLog sizes b → (zs : List SeatState) (r : Got) → (zs, r) ≡ get_of h b ss → IsWhole d zs sizes ks ms p
  get_whole h b lt few out zs r e =
      let laws = subst (λ (x : List SeatState × Got). GetLaws d h b ss x) (sym e) (get_laws d h b ss lt few whole.cache) in
      record { cache = laws.sound; log = sound_kept d d ss zs sizes ks ms p b whole.log (kept_get h b ss zs r e) out refl laws.seen }

  fill_whole : (h b : ℕ) → holder_of b ss ≡ Some h → kept b ss ≡ None → IsOutsideLog sizes b → IsWhole d (with_seat b (with_content (block_at d b)) ss) sizes ks ms p
  fill_whole h b out unread outside =
      let at = seat_in h b ss (seat_of b ss) refl out in
      let none : at.0.content ≡ None = sym (kept_in b ss at.0 at.1) ∙ unread in
      let laws = fill_laws d ss (guard_in h b at.0 None) (at.2 None (ap is_some none)) refl whole.cache in
      let zs = with_seat b (with_content (block_at d b)) ss in
      record {
        cache = laws.sound;
        log = sound_kept d d ss zs sizes ks ms p b whole.log (kept_change b (with_content (block_at d b)) ss (λ t. refl) (λ t. refl) (λ t is. refl)) outside refl laws.seen;
      }

  back_whole : (b : ℕ) → IsOutsideLog sizes b → IsWhole d (given_back b ss) sizes ks ms p
  back_whole b outside =
      let laws = back_laws d ss b whole.cache in
      record { cache = laws.sound; log = sound_kept d d ss (given_back b ss) sizes ks ms p b whole.log (kept_back b ss (whole.cache.once b)) outside refl laws.seen }

  record_whole : (holder h b : ℕ) (bytes : List ℕ) → holder_of b ss ≡ Some holder → IsSome (kept b ss) → p ≡ Open → IsHome d sizes b → (has ks b ≡ false → HasRoom ms h)
      → IsWhole d (given_back b (with_seat b (with_content bytes) (with_seat b (with_pin true) ss))) sizes (with_block ks b) (members_with ks b ms h) p
  record_whole holder h b bytes out valid opens home room =
      let log : IsSoundLog d ss sizes ks ms Open = subst (λ (q : Phase). IsSoundLog d ss sizes ks ms q) opens whole.log in
      let at = seat_in holder b ss (seat_of b ss) refl out in
      let g = guard_in holder b at.0 (Some bytes) in
      let held : IsHeld ss g = at.2 (Some bytes) (subst (λ o. is_some o ≡ true) (kept_in b ss at.0 at.1) valid) in
      let mid = with_seat b (with_pin true) ss in
      let pinned = pinned_by_pin b b ss mid g refl refl held refl in
      let laws = change_laws d mid g bytes (pin_keeps ss b true g held) refl pinned (sound_pin d ss b (room_to_pin d ss sizes ks ms b h log room) whole.cache) in
      let zs = given_back b (with_seat b (with_content bytes) mid) in
      let sees : (k : ℕ) → k ≢ b → seen_in d zs k ≡ seen_in d ss k =
      λ k ne. laws.seen k ∙ ap (λ (t : Bool). if t then bytes else seen_in d mid k) (eqb-isnt k b ne) ∙ pin_seen d ss b true k in
      record {
        cache = laws.sound;
        log = subst (λ (q : Phase). IsSoundLog d zs sizes (with_block ks b) (members_with ks b ms h) q) (sym opens)
            (recorded_good d d ss zs sizes ks ms b h bytes whole.cache.once log (held_cached ss g held) room home refl refl sees);
      }

  commit_whole : p ≢ Open → p ≢ Halted → IsWhole (written d ss sizes ks p) (seats_after ks p ss) sizes (group_in (next_phase (length ks) p) ks) ms (next_phase (length ks) p)
  commit_whole begun runs =
      let on = under_way d ss sizes ks ms p whole.log begun runs in
      let end = after_stands d ss sizes ks ms p whole.cache whole.log on in
      record {
        cache = end.sound;
        log = done_good d (written d ss sizes ks p) ss (seats_after ks p ss) sizes ks ks ms p whole.log (begun, runs) refl
            (group_in (next_phase (length ks) p) ks) (next_phase (length ks) p) (length ks) whole.cache.once refl refl end.seen refl refl refl;
      }

  fault_whole : p ≢ Open → p ≢ Halted → (e : List (List ℕ)) → (e ≡ d) ⊎ (e ≡ written d ss sizes ks p) → IsWhole e (seats_at_fault ks p ss) sizes ks ms Halted
  fault_whole begun runs e may =
      let on = under_way d ss sizes ks ms p whole.log begun runs in
      let st : Stands d ss sizes e ss = elim may [
        | inl is ↦ subst (λ (z : List (List ℕ)). Stands d ss sizes z ss) (sym is) (record { sound = whole.cache; seen = λ b out. refl })
        | inr is ↦ subst (λ (z : List (List ℕ)). Stands d ss sizes z ss) (sym is) (write_stands d ss sizes ks ms p whole.cache whole.log on)
      ] in
      let end = fault_stands d ss sizes ks ms p e st in
      record {
        cache = end.sound;
        log = failed_good d e ss (seats_at_fault ks p ss) sizes ks ks ms p whole.log (begun, runs) refl may end.seen;
      }

  opens : (h : ℕ) → IsMember ms h → p ≢ Halted → p ≡ Open
  opens h member runs = open_of p ms h whole.log.quiet runs member

  leads : LeadsToWhole d ss sizes ks ms p
  leads = record {
    join = λ h idle free. record { cache = whole.cache; log = joined_good d ss sizes ks ms p h whole.log free idle };
    leave = λ h member runs. record {
      cache = whole.cache;
      log = left_whole d ss sizes ks ms h (subst (λ (q : Phase). IsSoundLog d ss sizes ks ms q) (opens h member runs) whole.log);
    };
    get = λ h b lt few out. get_whole h b lt few out (get_of h b ss).0 (get_of h b ss).1 refl;
    fill = fill_whole;
    release = back_whole;
    put = λ holder h b bytes out valid member runs home room. record_whole holder h b bytes out valid (opens h member runs) home room;
    commit = commit_whole;
    fault = fault_whole;
  }

pub calls_keep_whole : CallsKeepWhole
calls_keep_whole disk seats sizes group members phase whole = leads disk seats sizes group members phase whole
