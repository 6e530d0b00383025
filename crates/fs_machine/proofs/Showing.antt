-- What each operation makes of the blocks as they are seen.
use Rattle.fs_machine.proofs.Vocabulary.{◌≡◌, ◌≢◌, inl, inr, ℕ, ◌<◌, ◌≤◌, ◌==◌, Bool, true, false, List, Option, Some, None, length, refl, sym, subst, ap, ◌∙◌, if◌then◌else◌, IsSome, is_some, IsOutsideLog, count_of, get_of, hart_count, SeatState, seat_of, holder_of, is_held_by, kept, seen_in, with_seat, with_pin, IsHeld, Got, sound_pin, GetLaws, get_laws, fill_laws, back_laws, change_laws, pin_keeps, pin_seen, joined, has, HasRoom, IsMember, IsSoundLog, limit_of, turn_is_out, join_waits, Phase, Open, Halted, room_to_pin, pinned_by_pin, open_of, under_way, Stands, write_stands, fault_stands, after_stands, guard_in, seat_in, kept_in, ExecResult, Waits, Ran, Stops, OpenFile, Refused, TablesState, file_named, refusal_of, lock_inode, lock_file, settle_inode, up_inode, first_free, take_place, open_file, double_descriptor, shut_descriptor, give_next, LogPart, Outside, Passes, Fails, join_if, got_by, read_block, put_block, commit_if, written, LeavesIt, LeavesOne, State, Join, JoinToWrite, Leave, Get, Read, Put, Commit, Lock, LockFile, LockOpen, Unlock, SetDirectory, Up, Claim, Down, CheckFile, TakePlace, TakeDescriptor, Double, Close, GiveDescriptor, Reply, exec, in_log, in_tables, joins, join_unless, lock_open, claims, claim_first, up_whom, drop_which, May, Honest, MayPut, seen_of, seen_with, ShowsItsPuts, IsWholeLog, After}
use Rattle.buffer_cache.specs.declared.got.Got.TheVariants as got
use Rattle.fs_machine.specs.declared.files.Want.TheVariants as want

module _ (h : ℕ) (s : State) (whole : IsWholeLog s.log) where
  abbrev l : LogPart
  l = s.log

  abbrev Still : {A : Type 0} → ExecResult A State → Type 0
  Still d = After (λ (t : State). (k : ℕ) → IsOutsideLog l.sizes k → seen_of t.log k ≡ seen_of l k) d

  tables_show : {A : Type 0} (d : ExecResult A TablesState) → Still (in_tables s d)
  tables_show Waits = tt
  tables_show (Ran a t) = λ k out. refl
  tables_show (Stops t) = λ k out. refl

  join_shows : (b : Bool) → Still (in_log s (join_if h l b))
  join_shows true = tt
  join_shows false = λ k out. refl

  joins_show : (f : OpenFile) (b : Bool) → Still (joins f (in_log s (join_if h l b)))
  joins_show f true = tt
  joins_show f false = λ k out. refl

  unless_shows : (f : Option OpenFile) (why : Option Refused) → Still (join_unless h s f why)
  unless_shows None (Some why) = λ k out. refl
  unless_shows (Some f) (Some why) = λ k out. refl
  unless_shows None None = tt
  unless_shows (Some f) None = joins_show f (join_waits l.phase (length l.group) (joined l.members) (limit_of l.sizes))

  get_shows : (b : ℕ) → h < hart_count → count_of (is_held_by h) l.seats ≤ 1 → (r : List SeatState × Got) → r ≡ get_of h b l.seats → Still (in_log s (got_by l r))
  get_shows b lt few (zs, got.Held guard) e =
      let laws : GetLaws l.contents h b l.seats (zs, got.Held guard) = subst (λ (r : List SeatState × Got). GetLaws l.contents h b l.seats r) (sym e) (get_laws l.contents h b l.seats lt few whole.cache) in
      λ k out. laws.seen k
  get_shows b lt few (zs, got.Waits) e = tt

  read_shows : (b : ℕ) (x : Outside) → holder_of b l.seats ≡ Some h → kept b l.seats ≡ None → LeavesIt l.contents x → Still (in_log s (read_block b x l))
  read_shows b Passes out unread honest =
      let at = seat_in h b l.seats (seat_of b l.seats) refl out in
      let none : at.0.content ≡ None = sym (kept_in b l.seats at.0 at.1) ∙ unread in
      let laws = fill_laws l.contents l.seats (guard_in h b at.0 None) (at.2 None (ap is_some none)) refl whole.cache in
      λ k outside. laws.seen k
  read_shows b (Fails after) out unread honest = λ k outside. ap (λ (d : List (List ℕ)). seen_in d l.seats k) honest

  recorded_shows : (b : ℕ) (bytes : List ℕ) → holder_of b l.seats ≡ Some h → IsSome (kept b l.seats) → IsMember l.members h → l.phase ≢ Halted → (has l.group b ≡ false → HasRoom l.members h)
      → (k : ℕ) → seen_of (put_block h b (Some bytes) l) k ≡ (if k == b then bytes else seen_of l k)
  recorded_shows b bytes out valid member runs room k =
      let opens : l.phase ≡ Open = open_of l.phase l.members h whole.log.quiet runs member in
      let log : IsSoundLog l.contents l.seats l.sizes l.group l.members Open = subst (λ (q : Phase). IsSoundLog l.contents l.seats l.sizes l.group l.members q) opens whole.log in
      let at = seat_in h b l.seats (seat_of b l.seats) refl out in
      let g = guard_in h b at.0 (Some bytes) in
      let held : IsHeld l.seats g = at.2 (Some bytes) (subst (λ o. is_some o ≡ true) (kept_in b l.seats at.0 at.1) valid) in
      let mid = with_seat b (with_pin true) l.seats in
      let pinned = pinned_by_pin b b l.seats mid g refl refl held refl in
      let laws = change_laws l.contents mid g bytes (pin_keeps l.seats b true g held) refl pinned (sound_pin l.contents l.seats b (room_to_pin l.contents l.seats l.sizes l.group l.members b h log room) whole.cache) in
      laws.seen k ∙ ap (λ (v : List ℕ). if k == b then bytes else v) (pin_seen l.contents l.seats b true k)

  pub put_shows : (b : ℕ) (change : Option (List ℕ)) → MayPut h b change l → (k : ℕ) → seen_of (put_block h b change l) k ≡ seen_with b change (seen_of l) k
  put_shows b None may k = (back_laws l.contents l.seats b whole.cache).seen k
  put_shows b (Some bytes) may k = recorded_shows b bytes may.0 may.2.0 may.2.1 may.2.2 may.2.4 k

  claims_show : (d : ExecResult (Option ℕ) TablesState) → Still (claims (in_tables s d))
  claims_show Waits = tt
  claims_show (Ran None t) = λ k out. refl
  claims_show (Ran (Some n) t) = λ k out. refl
  claims_show (Stops t) = λ k out. refl

  claim_shows : (b : ℕ) → (first : Option ℕ) → Still (claim_first h b s first)
  claim_shows b None = λ k out. (back_laws l.contents l.seats b whole.cache).seen k
  claim_shows b (Some n) = claims_show (up_inode n s.tables)

  commit_shows : (x : Outside) → LeavesOne l.contents (written l) x → l.phase ≢ Open → l.phase ≢ Halted → (out : Bool) → Still (in_log s (commit_if x l out))
  commit_shows x honest begun runs true = tt
  commit_shows Passes honest begun runs false =
      let on = under_way l.contents l.seats l.sizes l.group l.members l.phase whole.log begun runs in
      (after_stands l.contents l.seats l.sizes l.group l.members l.phase whole.cache whole.log on).seen
  commit_shows (Fails after) honest begun runs false =
      let on = under_way l.contents l.seats l.sizes l.group l.members l.phase whole.log begun runs in
      let st : Stands l.contents l.seats l.sizes after l.seats = elim honest [
        | inl is ↦ subst (λ (z : List (List ℕ)). Stands l.contents l.seats l.sizes z l.seats) (sym is) (record { sound = whole.cache; seen = λ b out. refl })
        | inr is ↦ subst (λ (z : List (List ℕ)). Stands l.contents l.seats l.sizes z l.seats) (sym is) (write_stands l.contents l.seats l.sizes l.group l.members l.phase whole.cache whole.log on)
      ] in
      (fault_stands l.contents l.seats l.sizes l.group l.members l.phase after st).seen

pub shows_its_puts : ShowsItsPuts
unfolding exec May Honest
shows_its_puts h x Join s whole may honest = join_shows h s whole (join_waits s.log.phase (length s.log.group) (joined s.log.members) (limit_of s.log.sizes))
shows_its_puts h x (JoinToWrite fd) s whole may honest = unless_shows h s whole (file_named h fd s.tables) (refusal_of want.Write (file_named h fd s.tables))
shows_its_puts h x Leave s whole may honest = λ k out. refl
shows_its_puts h x (Get b) s whole may honest = get_shows h s whole b may.0 may.1 (get_of h b s.log.seats) refl
shows_its_puts h x (Read b) s whole may honest = read_shows h s whole b x may.0 may.2 honest
shows_its_puts h x (Put b change) s whole may honest = λ k out. put_shows h s whole b change may k
shows_its_puts h x Commit s whole may honest = commit_shows h s whole x honest may.2 may.3 (turn_is_out s.log.seats s.log.group s.log.phase)
shows_its_puts h x (Lock n) s whole may honest = tables_show h s whole (lock_inode h n s.tables)
shows_its_puts h x (LockFile w fd) s whole may honest = tables_show h s whole (lock_file h w fd s.tables)
shows_its_puts h x (LockOpen fd) s whole may honest = tables_show h s whole (lock_open h s.tables (file_named h fd s.tables))
shows_its_puts h x (Unlock v moved) s whole may honest = λ k out. refl
shows_its_puts h x (SetDirectory v) s whole may honest = tables_show h s whole (settle_inode h v s.tables)
shows_its_puts h x (Up whom) s whole may honest = tables_show h s whole (up_whom h whom s.tables)
shows_its_puts h x (Claim b candidates) s whole may honest = claim_shows h s whole b (first_free s.tables.entries candidates)
shows_its_puts h x (Down drop) s whole may honest = tables_show h s whole (drop_which h drop s.tables)
shows_its_puts h x (CheckFile w fd) s whole may honest = λ k out. refl
shows_its_puts h x TakePlace s whole may honest = tables_show h s whole (take_place h s.tables)
shows_its_puts h x (TakeDescriptor n file) s whole may honest = tables_show h s whole (open_file h n file s.tables)
shows_its_puts h x (Double fd) s whole may honest = tables_show h s whole (double_descriptor h fd s.tables)
shows_its_puts h x (Close fd) s whole may honest = tables_show h s whole (shut_descriptor h fd s.tables)
shows_its_puts h x (GiveDescriptor child from) s whole may honest = tables_show h s whole (give_next h child from s.tables)
shows_its_puts h x Reply s whole may honest = λ k out. refl
