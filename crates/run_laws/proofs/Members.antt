-- A hart's steps open and end its transaction just as the log has it for a member.
use Rattle.run_laws.proofs.Vocabulary.{◌≡◌, ℕ, zero, suc, Bool, true, false, List, [], ◌∷◌, length, is_some, Option, Some, None, refl, sym, ◌∙◌, ap, ◌↔◌, IsSome, if◌then◌else◌, replicate, slice_get, slice_set, option_map, get_of, SeatState, Got, IsMember, has, joined_count, one_more, with_block, limit_of, turn_is_out, join_waits, ExecResult, Waits, Ran, Stops, RefusedState as Refused, TablesState, file_named, refusal_of, lock_inode, lock_file, settle_inode, up_inode, first_free, take_place, open_file, double_descriptor, shut_descriptor, give_next, LogPart, Outside, Passes, Fails, join_if, got_by, read_block, commit_if, Op, in_log, in_tables, joins, join_unless, lock_open, claims, claim_first, up_whom, drop_which, is_joined, has_members, member_at, after_join, recorded_after}
use Rattle.buffer_cache.specs.declared.got.Got.TheVariants as got
use Rattle.fs_machine.specs.declared.files.OpenFile.{OpenFile}
use Rattle.fs_machine.specs.declared.files.Want.TheVariants as want
use Rattle.fs_machine.specs.Premises as premises
use Rattle.fs_machine.specs.Steps as steps
use Rattle.fs_machine.specs.Steps.{State}
use Rattle.run_laws.proofs.Recording.{JoinsApart, Recorded}

-- ---- the log's members

abbrev pub is_in : Option (Option ℕ) → Bool
is_in None = false
is_in (Some None) = false
is_in (Some (Some k)) = true

pub nobody_in : (n h : ℕ) → is_in (slice_get (replicate n None) h) ≡ false
nobody_in zero h = refl
nobody_in (suc n) zero = refl
nobody_in (suc n) (suc h) = nobody_in n h

pub joined_in : (ms : List (Option ℕ)) (h : ℕ) → is_joined ms h ≡ is_in (slice_get ms h)
joined_in [] h = refl
joined_in (None ∷ ms) zero = refl
joined_in (Some k ∷ ms) zero = refl
joined_in (m ∷ ms) (suc h) = joined_in ms h

set_in : (ms : List (Option ℕ)) (h : ℕ) → slice_get ms h ≡ Some None → is_in (slice_get (slice_set ms h (Some 0)) h) ≡ true
set_in [] h e = absurd (let q : ◌≡◌ {A = Option (Option ℕ)} None (Some None) = e in cc)
set_in (m ∷ ms) zero e = refl
set_in (m ∷ ms) (suc h) e = set_in ms h e

unset_in : (ms : List (Option ℕ)) (h : ℕ) → is_in (slice_get (slice_set ms h None) h) ≡ false
unset_in [] h = refl
unset_in (m ∷ ms) zero = refl
unset_in (m ∷ ms) (suc h) = unset_in ms h

one_more_in : (ms : List (Option ℕ)) (h : ℕ) → is_in (slice_get (one_more ms h) h) ≡ is_in (slice_get ms h)
one_more_in [] h = refl
one_more_in (None ∷ ms) zero = refl
one_more_in (Some k ∷ ms) zero = refl
one_more_in (None ∷ ms) (suc h) = one_more_in ms h
one_more_in (Some k ∷ ms) (suc h) = one_more_in ms h

-- ---- and the steps

-- the hart is in a transaction by the log exactly if it is by its steps
abbrev pub Agrees : ℕ → LogPart → Recorded → Type 0
Agrees h l o = is_in (slice_get l.members h) ≡ is_some o

pub none_open : (o : Recorded) → is_some o ≡ false → o ≡ None
none_open None e = refl
none_open (Some blocks) e = absurd (let q : true ≡ false = e in cc)

-- in other words
pub open_iff : (h : ℕ) (l : LogPart) (o : Recorded) → Agrees h l o → IsSome o ↔ IsMember l.members h
open_iff h l None out = (
  λ some. absurd (let q : false ≡ true = some in cc),
  λ member. absurd (
      let at = member_at l.members h member in
      let q : true ≡ false = sym (ap is_in at.1) ∙ out in
      cc),
)
open_iff h l (Some blocks) inside = (λ some. by (slice_get l.members h) refl inside, λ member. refl)
  where
    by : (m : Option (Option ℕ)) → slice_get l.members h ≡ m → is_in m ≡ true → IsMember l.members h
    by None e q = absurd (let z : false ≡ true = q in cc)
    by (Some None) e q = absurd (let z : false ≡ true = q in cc)
    by (Some (Some k)) e q = has_members l.members h k e

mapped : (f : List ℕ → List ℕ) (o : Recorded) → is_some (option_map f o) ≡ is_some o
mapped f None = refl
mapped f (Some blocks) = refl

module _ (h : ℕ) (st : State) (o : Recorded) (was : Agrees h st.log o) where
  -- so it is after a step, if that ran
  abbrev pub AgreesAfter : {A : Type 0} → (A → Recorded) → ExecResult A State → Type 0
  AgreesAfter f Waits = Unit {0}
  AgreesAfter f (Ran a t) = Agrees h t.log (f a)
  AgreesAfter f (Stops t) = Unit {0}

  abbrev Same : {A : Type 0} → ExecResult A State → Type 0
  Same d = AgreesAfter (λ a. o) d

  tables_same : {A : Type 0} (d : ExecResult A TablesState) → Same (in_tables st d)
  tables_same Waits = tt
  tables_same (Ran a t) = was
  tables_same (Stops t) = tt

  opened : slice_get st.log.members h ≡ Some None → (b : Bool) → AgreesAfter (λ (a : Unit {0}). Some []) (in_log st (join_if h st.log b))
  opened out true = tt
  opened out false = set_in st.log.members h out

  opened_for : slice_get st.log.members h ≡ Some None → (f : OpenFile) (b : Bool) → AgreesAfter (λ a. after_join a o) (joins f (in_log st (join_if h st.log b)))
  opened_for out f true = tt
  opened_for out f false = set_in st.log.members h out

  opened_unless : slice_get st.log.members h ≡ Some None → (f : Option OpenFile) (why : Option Refused) → AgreesAfter (λ a. after_join a o) (join_unless h st f why)
  opened_unless out None (Some why) = was
  opened_unless out (Some f) (Some why) = was
  opened_unless out None None = tt
  opened_unless out (Some f) None = opened_for out f (join_waits st.log.phase (length st.log.group) (joined_count st.log.members) (limit_of st.log.sizes))

  get_same : (x : List SeatState × Got) → Same (in_log st (got_by st.log x))
  get_same (zs, got.Held guard) = was
  get_same (zs, got.Waits) = tt

  read_same : (b : ℕ) (x : Outside) → Same (in_log st (read_block b x st.log))
  read_same b Passes = was
  read_same b (Fails after) = tt

  put_same : (b : ℕ) → is_in (slice_get (if has st.log.group b then st.log.members else one_more st.log.members h) h) ≡ is_some (option_map (λ blocks. with_block blocks b) o)
  put_same b = by (has st.log.group b) ∙ was ∙ sym (mapped (λ blocks. with_block blocks b) o)
    where
      by : (there : Bool) → is_in (slice_get (if there then st.log.members else one_more st.log.members h) h) ≡ is_in (slice_get st.log.members h)
      by true = refl
      by false = one_more_in st.log.members h

  claims_same : (d : ExecResult (Option ℕ) TablesState) → Same (claims (in_tables st d))
  claims_same Waits = tt
  claims_same (Ran None t) = was
  claims_same (Ran (Some m) t) = was
  claims_same (Stops t) = tt

  claim_same : (b : ℕ) (first : Option ℕ) → Same (claim_first h b st first)
  claim_same b None = was
  claim_same b (Some n) = claims_same (up_inode n st.tables)

  commit_same : (x : Outside) (b : Bool) → Same (in_log st (commit_if x st.log b))
  commit_same x true = tt
  commit_same Passes false = was
  commit_same (Fails after) false = tt

  pub own_agrees : (x : Outside) (op : Op) → premises.May h op st → AgreesAfter (λ a. recorded_after op a o) (steps.exec h x op st)
  unfolding steps.exec premises.May
  own_agrees x steps.Join may = opened may.1 (join_waits st.log.phase (length st.log.group) (joined_count st.log.members) (limit_of st.log.sizes))
  own_agrees x (steps.JoinToWrite fd) may = opened_unless may.1 (file_named h fd st.tables) (refusal_of want.Write (file_named h fd st.tables))
  own_agrees x steps.Leave may = unset_in st.log.members h
  own_agrees x (steps.Get b) may = get_same (get_of h b st.log.seats)
  own_agrees x (steps.Read b) may = read_same b x
  own_agrees x (steps.Put b None) may = was
  own_agrees x (steps.Put b (Some bytes)) may = put_same b
  own_agrees x steps.Commit may = commit_same x (turn_is_out st.log.seats st.log.group st.log.phase)
  own_agrees x (steps.Lock n) may = tables_same (lock_inode h n st.tables)
  own_agrees x (steps.LockFile w fd) may = tables_same (lock_file h w fd st.tables)
  own_agrees x (steps.LockOpen fd) may = tables_same (lock_open h st.tables (file_named h fd st.tables))
  own_agrees x (steps.Unlock v moved) may = was
  own_agrees x (steps.SetDirectory v) may = tables_same (settle_inode h v st.tables)
  own_agrees x (steps.Up whom) may = tables_same (up_whom h whom st.tables)
  own_agrees x (steps.Claim b candidates) may = claim_same b (first_free st.tables.entries candidates)
  own_agrees x (steps.Down drop) may = tables_same (drop_which h drop st.tables)
  own_agrees x (steps.CheckFile w fd) may = was
  own_agrees x steps.TakePlace may = tables_same (take_place h st.tables)
  own_agrees x (steps.TakeDescriptor n file) may = tables_same (open_file h n file st.tables)
  own_agrees x (steps.Double fd) may = tables_same (double_descriptor h fd st.tables)
  own_agrees x (steps.Close fd) may = tables_same (shut_descriptor h fd st.tables)
  own_agrees x (steps.GiveDescriptor child start) may = tables_same (give_next h child start st.tables)
  own_agrees x steps.Reply may = was

  -- a hart that joins is in none
  pub apart : (op : Op) → premises.May h op st → JoinsApart op o
  unfolding premises.May
  apart steps.Join may = none_open o (sym was ∙ ap is_in may.1)
  apart (steps.JoinToWrite fd) may = none_open o (sym was ∙ ap is_in may.1)
  apart op may = tt

-- and one that records a block is in one
pub member_records : (h b : ℕ) (bytes : List ℕ) (st : State) → premises.May h (steps.Put b (Some bytes)) st → IsMember st.log.members h
unfolding premises.May
member_records h b bytes st may = may.2.1
