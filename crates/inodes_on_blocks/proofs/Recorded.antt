-- What a recorded put makes of the buffers in a hart's own hand, of the transactions, and of what is seen.
use Rattle.inodes_on_blocks.proofs.Vocabulary.{◌≡◌, ◌≢◌, ℕ, zero, suc, true, List, [], ◌∷◌, length, Option, Some, None, refl, sym, ◌∙◌, ap, subst, inl, inr, option_map, option_and_then, IsBytes, recovered, SeatState, holder_of, has_block, is_held_by, with_seat, with_content, with_pin, given_back, seat_of, has, one_more, members_with, seat_changed, seat_of_others, seat_in, either, same_or, eq_self, eq_not, IsPut, AreSeen, IsSeenPut, IsGoodSeen, LogPart, put_block, Passes, own_of, mine_of, seen_of, State, Put, IsWholeLog, keeps_whole, leaves_own, count_first, put_shows, is_joined, disk_of, AreBytes, CanPut}
use Rattle.inodes_on_blocks.proofs.SeenDisks.{seen_put, good_seen}
use Rattle.fs_machine.specs.Premises as premises
use Rattle.fs_machine.specs.Steps as steps
use Rattle.inodes_on_blocks.proofs.Committing.{is_member}
use Rattle.inodes_on_blocks.proofs.Hands.{GivenBack, back_hand, read_hand}

-- ---- the hand

pub put_hand : (h b : ℕ) (bytes : List ℕ) (ss : List SeatState) → holder_of b ss ≡ Some h → GivenBack h b ss (given_back b (with_seat b (with_content bytes) (with_seat b (with_pin true) ss)))
put_hand h b bytes ss out =
    let mid = with_seat b (with_pin true) ss in
    let s = seat_in h b ss (seat_of b ss) refl out in
    let at : seat_of b mid ≡ Some (with_pin true s.0) = seat_changed b (with_pin true) ss (λ x. refl) ∙ ap (option_map (with_pin true)) s.1 in
    let filled = read_hand h b bytes mid (held mid (with_pin true s.0) at ∙ sym (held ss s.0 s.1) ∙ out) in
    let back = back_hand h b (with_seat b (with_content bytes) mid) filled.holder in
    record {
      count = sym (count_first (is_held_by h) (has_block b) (with_pin true) ss (λ x e. refl)) ∙ sym filled.count ∙ back.count;
      others = λ k ne. back.others k ne ∙ filled.others k ne ∙ ap (mine_of h) (seat_of_others b k (with_pin true) ss (λ x. refl) ne);
    }
  where
    held : (zs : List SeatState) (s : SeatState) → seat_of b zs ≡ Some s → holder_of b zs ≡ s.holder
    held zs s e = ap (λ (o : Option SeatState). option_and_then (λ (x : SeatState). x.holder) o) e

-- ---- transactions

one_more_joined : (ms : List (Option ℕ)) (h g : ℕ) → is_joined (one_more ms h) g ≡ is_joined ms g
one_more_joined [] h g = refl
one_more_joined (None ∷ ms) zero g = refl
one_more_joined (Some k ∷ ms) zero zero = refl
one_more_joined (Some k ∷ ms) zero (suc g) = refl
one_more_joined (None ∷ ms) (suc h) zero = refl
one_more_joined (Some k ∷ ms) (suc h) zero = refl
one_more_joined (None ∷ ms) (suc h) (suc g) = one_more_joined ms h g
one_more_joined (Some k ∷ ms) (suc h) (suc g) = one_more_joined ms h g

pub members_joined : (group : List ℕ) (b : ℕ) (ms : List (Option ℕ)) (h g : ℕ) → is_joined (members_with group b ms h) g ≡ is_joined ms g
members_joined group b ms h g = elim (either (has group b)) [
  | inl there ↦ rw there refl
  | inr fresh ↦ rw fresh (one_more_joined ms h g)
]

-- ---- what is seen

module _ (h b : ℕ) (bytes : List ℕ) (s : State) (whole : IsWholeLog s.log) (seen : AreSeen s.log.sizes (seen_of s.log) (length s.log.contents)) (can : CanPut h b bytes s.log) where
  abbrev now : LogPart
  now = put_block h b (Some bytes) s.log

  pub may_put : premises.May h (Put b (Some bytes)) s
  unfolding premises.May
  may_put = (can.holder, can.home.outside, (can.valid, is_member s.log.members h can.joined, can.runs, can.home, can.room))

  pub whole_put : IsWholeLog now
  unfolding steps.exec premises.Honest
  whole_put = keeps_whole h Passes (Put b (Some bytes)) s whole may_put tt

  pub own_put : (g : ℕ) → g ≢ h → own_of g now ≡ own_of g s.log
  unfolding steps.exec premises.Honest
  own_put g ne = leaves_own h g Passes (Put b (Some bytes)) s ne whole may_put tt

  pub seen_put_here : seen_of now b ≡ bytes
  unfolding premises.May
  seen_put_here = put_shows h s whole b (Some bytes) may_put b ∙ (rw (eq_self b) refl)

  pub seen_put_other : (c : ℕ) → c ≢ b → seen_of now c ≡ seen_of s.log c
  unfolding premises.May
  seen_put_other c ne = put_shows h s whole b (Some bytes) may_put c ∙ (rw (eq_not c b ne) refl)

  pub is_seen_put : IsSeenPut s.log.sizes (seen_of s.log) (seen_of now) b
  is_seen_put = record { no_super = can.home.no_super; outside = can.home.outside; whole = ap length seen_put_here ∙ can.long; others = seen_put_other }

  pub seen_then : AreSeen s.log.sizes (seen_of now) (length s.log.contents)
  seen_then = (seen_put s.log.sizes (seen_of s.log) (seen_of now) (length s.log.contents) b seen is_seen_put).0

  pub disk_put : IsPut (disk_of s.log) (disk_of now) b
  disk_put = (seen_put s.log.sizes (seen_of s.log) (seen_of now) (length s.log.contents) b seen is_seen_put).1

  pub good_then : IsGoodSeen s.log.sizes (seen_of now) (length s.log.contents)
  good_then = good_seen s.log.sizes (seen_of now) (length s.log.contents) seen_then

  -- the block's bytes on the seen disk
  pub put_bytes : recovered (disk_of now) b ≡ bytes
  put_bytes = good_then.blocks b can.home.within can.home.outside ∙ seen_put_here

  pub old_bytes : recovered (disk_of s.log) b ≡ seen_of s.log b
  old_bytes = (good_seen s.log.sizes (seen_of s.log) (length s.log.contents) seen).blocks b can.home.within can.home.outside

  pub bytes_then : AreBytes s.log → AreBytes now
  bytes_then are c within outside = elim (same_or c b) [
    | inl e ↦ subst IsBytes (sym (ap (seen_of now) e ∙ seen_put_here)) can.are
    | inr ne ↦ subst IsBytes (sym (seen_put_other c ne)) (are c within outside)
  ]
