-- What each call of the log makes is what its operation makes.
use Rattle.fs_machine.proofs.Vocabulary.{◌≡◌, ◌≢◌, ℕ, Bool, true, false, List, [], Option, Some, None, Result, Ok, Err, length, refl, sym, subst, ap, ◌∙◌, ◌↔◌, ◌⊎◌, slice_set, IsTrue, IsNone, IsSome, IfSome, OnOk, OnErr, unwrap_or, faults_after, GuardState, BufferState, get_of, IfHeld, IsHeld, seen, with_seat, with_content, with_pin, given_back, Got, AfterLeave, Phase, Open, Staging, Installing, Halted, Progress, joined, with_block, members_with, write_to, write_of, next_phase, group_in, phase_at_leave, LogState, limit_of, turn_is_out, seats_after, seats_at_fault, join_waits, left_at, progress_at, faults_at, IfMade, IfFailed, waits_same, Ran, Stops, TablesState, Core, part_of, Passes, Fails, join_if, got_by, with_seats, commit_if, is_open, join_log, leave_log, get_block, read_block, put_block, commit_log, LeavesIt, LeavesOne, written, IsOutsideLog, bytes_of, IsOwn, joined_as, got_as, IfGotNone, read_as, committed_as, said_read, said_written}
use Rattle.block_device.specs.Blocks.{block_at}
use Rattle.buffer_cache.specs.declared.got.Got.TheVariants as got
use Rattle.group_log.specs.declared.commit.Progress.TheVariants as progress

untrue : (b : Bool) → (b ≡ true → true ≡ false) → b ≡ false
untrue true f = f refl
untrue false f = refl

module _ {D : Type 0} (c : D → List (List ℕ)) (f : D → ℕ) (h : ℕ) (old new : LogState D) where
  pub join_ran : (r : Option ℕ) → IsNone r ↔ IsTrue (join_waits old.phase (length old.group) (joined old.members) (limit_of old.sizes))
      → IfSome r (λ txn. (txn ≡ h) × (new ≡ record old { members = slice_set old.members h (Some 0) }))
      → join_log h (part_of c f old) ≡ joined_as r (part_of c f new)
  join_ran None w joins = ap (join_if h (part_of c f old)) (w.0 refl)
  join_ran (Some t) w joins = ap (join_if h (part_of c f old)) (untrue _ w.1) ∙ ap (λ l. Ran tt (part_of c f l)) (sym joins.1)

  pub leave_ran : (txn : ℕ) (r : AfterLeave) → txn ≡ h
      → new ≡ record old { members = slice_set old.members txn None; phase = phase_at_leave (joined (slice_set old.members txn None)) old.group }
      → r ≡ left_at (joined (slice_set old.members txn None)) old.group
      → leave_log h (part_of c f old) ≡ Ran r (part_of c f new)
  leave_ran txn r own leaves left =
      subst (λ k. leave_log k (part_of c f old) ≡ Ran r (part_of c f new)) own (λ i. Ran (sym left i) (part_of c f (sym leaves i)))

  pub get_ran : (b : ℕ) (r : Got) → (new.cache.seats, r) ≡ get_of h b old.cache.seats
      → new ≡ record old { cache = record old.cache { seats = new.cache.seats } }
      → get_block h b (part_of c f old) ≡ got_as r (part_of c f new)
  get_ran b r gives rest = ap (got_by (part_of c f old)) (sym gives) ∙ at r
    where
      at : (r : Got) → got_by (part_of c f old) (new.cache.seats, r) ≡ got_as r (part_of c f new)
      at (got.Held guard) = ap (λ l. Ran guard.value.content (part_of c f l)) (sym rest)
      at got.Waits = refl

  pub put_back_ran : (b : ℕ) → new.cache.seats ≡ given_back b old.cache.seats
      → new ≡ record old { cache = record old.cache { seats = new.cache.seats } }
      → put_block h b None (part_of c f old) ≡ part_of c f new
  put_back_ran b seats rest =
      ap (λ z. with_seats (part_of c f old) z) (sym seats) ∙ ap (λ l. part_of c f l) (sym rest)

  pub put_changed_ran : (b : ℕ) (o : Option (List ℕ)) (txn : ℕ) → IsSome o → txn ≡ h
      → IfSome o (λ bytes. new ≡ record old {
        cache = record old.cache { seats = given_back b (with_seat b (with_content bytes) (with_seat b (with_pin true) old.cache.seats)) };
        group = with_block old.group b;
        members = members_with old.group b old.members txn;
      })
      → put_block h b (Some (unwrap_or o [])) (part_of c f old) ≡ part_of c f new
  put_changed_ran b None txn some own records = cc
  put_changed_ran b (Some bytes) txn some own records =
      ap (λ k. put_block k b (Some bytes) (part_of c f old)) (sym own) ∙ ap (λ l. part_of c f l) (sym records)

  pub read_ran : {T E : Type 0} (b : ℕ) (guard guard' : GuardState BufferState) (r : Result T E)
      → OnOk r (guard' ≡ record guard { value = record { block = guard.value.block; content = Some (block_at (c old.cache.device) b) } })
      → OnOk r (new.cache.seats ≡ with_seat b (with_content (block_at (c old.cache.device) b)) old.cache.seats)
      → OnErr r ((guard' ≡ guard) × (new.cache.seats ≡ old.cache.seats))
      → c new.cache.device ≡ c old.cache.device
      → f new.cache.device ≡ faults_after r (f old.cache.device)
      → new ≡ record old { cache = new.cache }
      → read_block b (said_read r (c new.cache.device)) (part_of c f old) ≡ read_as r guard' (part_of c f new)
  read_ran b guard guard' (Ok _) filled seats err contents faults rest =
      (λ i. Ran (bytes_of (sym filled i)) (record { contents = sym contents i; failures = sym faults i; seats = sym seats i; sizes = old.sizes; group = old.group; members = old.members; phase = old.phase }))
      ∙ ap (λ l. Ran (bytes_of guard') (part_of c f l)) (sym rest)
  read_ran b guard guard' (Err _) filled seats err contents faults rest =
      (λ i. Stops (record { contents = c new.cache.device; failures = sym faults i; seats = sym err.1 i; sizes = old.sizes; group = old.group; members = old.members; phase = old.phase }))
      ∙ ap (λ l. Stops (part_of c f l)) (sym rest)

pub read_honest : {T E : Type 0} (old new : List (List ℕ)) (r : Result T E) → new ≡ old → LeavesIt old (said_read r new)
read_honest old new (Ok _) e = tt
read_honest old new (Err _) e = e

-- if a get waits nothing changes
pub get_still : {D : Type 0} (h b : ℕ) (old new : LogState D) (t : TablesState) (r : Got) → (new.cache.seats, r) ≡ get_of h b old.cache.seats
    → new ≡ record old { cache = record old.cache { seats = new.cache.seats } } → IfGotNone r (◌≡◌ {A = Core D} (record { log = new; tables = t }) (record { log = old; tables = t }))
get_still h b old new t (got.Held guard) gives rest = tt
get_still {D} h b old new t got.Waits gives rest =
    ap (λ (l : LogState D). record { log = l; tables = t }) (rest ∙ ap (λ z. record old { cache = record old.cache { seats = z } }) (waits_same h b old.cache.seats new.cache.seats got.Waits gives refl))

-- a guard that was got
pub get_own : {D : Type 0} (c : D → List (List ℕ)) (f : D → ℕ) (h b : ℕ) (old new : LogState D) (t : TablesState) (r : Got) → IsOutsideLog old.sizes b
    → IfHeld r (λ guard. (guard.hart ≡ h) × (guard.value.block ≡ b) × IsHeld new.cache.seats guard)
    → IfHeld r (λ guard. IfSome guard.value.content (λ bytes. bytes ≡ seen c old.cache b))
    → new ≡ record old { cache = record old.cache { seats = new.cache.seats } }
    → ((k : ℕ) → seen c new.cache k ≡ seen c old.cache k)
    → IfHeld r (λ guard. IsOwn h b guard (record { log = part_of c f new; tables = t }))
get_own {D} c f h b old new t (got.Held guard) out held bytes rest sees = record {
  hand = held.0;
  block = held.1;
  tied = record {
    held = held.2;
    bytes = subst (λ v. IfSome guard.value.content (λ x. x ≡ v)) (sym (sees b) ∙ ap (seen c new.cache) (sym held.1)) bytes;
    outside = subst (λ k. IsOutsideLog new.sizes k) (sym held.1) (subst (λ (l : LogState D). IsOutsideLog l.sizes b) (sym rest) out);
  };
}
get_own {D} c f h b old new t got.Waits out held bytes rest sees = tt

-- the commit
module _ {D : Type 0} (c : D → List (List ℕ)) (f : D → ℕ) (h : ℕ) (old new : LogState D) where
  wrote_open : (p : Phase) → progress.Wrote ≡ progress_at p → is_open p ≡ false
  wrote_open Open e = cc
  wrote_open (Staging i) e = refl
  wrote_open (Installing i) e = refl
  wrote_open Halted e = refl

  ended_open : (p : Phase) → progress.Ended ≡ progress_at p → is_open p ≡ true
  ended_open Open e = refl
  ended_open (Staging i) e = cc
  ended_open (Installing i) e = cc
  ended_open Halted e = cc

  not_out : (r : Progress) → r ≢ progress.Waits → (r ≡ progress.Waits) ↔ IsTrue (turn_is_out old.cache.seats old.group old.phase) → turn_is_out old.cache.seats old.group old.phase ≡ false
  not_out r ne w = isnt (turn_is_out old.cache.seats old.group old.phase) (λ e. ne (w.1 e))
    where
      isnt : (b : Bool) → (b ≡ true → ⊥) → b ≡ false
      isnt true g = absurd (g refl)
      isnt false g = refl

  -- a write that was made
  made : (b : Bool) → turn_is_out old.cache.seats old.group old.phase ≡ false
      → c new.cache.device ≡ slice_set (c old.cache.device) (write_to old.sizes old.group old.phase) (write_of (seen c old.cache) old.group old.phase)
      → f new.cache.device ≡ f old.cache.device
      → new.phase ≡ next_phase (length old.group) old.phase
      → new.group ≡ group_in new.phase old.group
      → is_open new.phase ≡ b
      → new.cache.seats ≡ seats_after old.group old.phase old.cache.seats
      → new.members ≡ old.members
      → new.sizes ≡ old.sizes
      → commit_if Passes (part_of c f old) (turn_is_out old.cache.seats old.group old.phase) ≡ Ran b (part_of c f new)
  made b turn write faults phase group begun seats members sizes =
      ap (commit_if Passes (part_of c f old)) turn
      ∙ (λ i. Ran ((sym (ap is_open phase) ∙ begun) i) (record {
        contents = sym write i;
        failures = sym faults i;
        seats = sym seats i;
        sizes = sym sizes i;
        group = (ap (λ p. group_in p old.group) (sym phase) ∙ sym group) i;
        members = sym members i;
        phase = sym phase i;
      }))

  pub commit_ran : (r : Progress)
      → (r ≡ progress.Waits) ↔ IsTrue (turn_is_out old.cache.seats old.group old.phase)
      → IfMade r (c new.cache.device ≡ slice_set (c old.cache.device) (write_to old.sizes old.group old.phase) (write_of (seen c old.cache) old.group old.phase))
      → IfMade r (new.phase ≡ next_phase (length old.group) old.phase)
      → IfMade r (new.group ≡ group_in new.phase old.group)
      → IfMade r (r ≡ progress_at new.phase)
      → IfMade r (new.cache.seats ≡ seats_after old.group old.phase old.cache.seats)
      → IfFailed r (new.phase ≡ Halted)
      → IfFailed r (new.group ≡ old.group)
      → IfFailed r (new.cache.seats ≡ seats_at_fault old.group old.phase old.cache.seats)
      → f new.cache.device ≡ faults_at r (f old.cache.device)
      → new.members ≡ old.members
      → new.sizes ≡ old.sizes
      → commit_log (said_written r (c new.cache.device)) (part_of c f old) ≡ committed_as r (part_of c f new)
  commit_ran progress.Waits w write phase group ended seats halted stays left faults members sizes =
      ap (commit_if Passes (part_of c f old)) (w.0 refl)
  commit_ran progress.Wrote w write phase group ended seats halted stays left faults members sizes =
      made false (not_out progress.Wrote (λ e. cc) w) write faults phase group (wrote_open new.phase ended) seats members sizes
  commit_ran progress.Ended w write phase group ended seats halted stays left faults members sizes =
      made true (not_out progress.Ended (λ e. cc) w) write faults phase group (ended_open new.phase ended) seats members sizes
  commit_ran progress.Failed w write phase group ended seats halted stays left faults members sizes =
      ap (commit_if (Fails (c new.cache.device)) (part_of c f old)) (not_out progress.Failed (λ e. cc) w)
      ∙ (λ i. Stops (record {
        contents = c new.cache.device;
        failures = sym faults i;
        seats = sym left i;
        sizes = sym sizes i;
        group = sym stays i;
        members = sym members i;
        phase = sym halted i;
      }))

  pub commit_honest : (r : Progress)
      → IfFailed r ((c new.cache.device ≡ c old.cache.device) ⊎ (c new.cache.device ≡ slice_set (c old.cache.device) (write_to old.sizes old.group old.phase) (write_of (seen c old.cache) old.group old.phase)))
      → LeavesOne (c old.cache.device) (written (part_of c f old)) (said_written r (c new.cache.device))
  commit_honest progress.Waits torn = tt
  commit_honest progress.Wrote torn = tt
  commit_honest progress.Ended torn = tt
  commit_honest progress.Failed torn = torn
