-- What an operation on whole inodes is below, if it is one operation.
use Rattle.inode_parts.proofs.Vocabulary.{◌≡◌, ◌≢◌, ℕ, zero, suc, List, [], ◌++◌, Bool, true, false, Option, Some, None, refl, sym, ap, ◌∙◌, subst, inl, inr, append-nil, if◌then◌else◌, is_some, IsSome, MatchOption, option_map_or, unwrap_or, put, eq_is, Prog, Ret, Do, bind, plain, unmarked, GuardState, Loaded, Super, Inode, Given, AfterLeave, Commits, holding, P, after_leave, commit_unless, commits, most_writes, Hand, InodePlace, One, Two, inode_at, inode_in, no_inode, number_at, reference_at, new_file, Acts, joining_to, lent_to, with_dying, is_listed, is_dying, Carry, Had, Apart, record_had, joined_in, loan_in, op_in, Ask, Element, BeginsWith, carry_in, had_at, had_of, IsPart, Part, one, Begins, HasReference, IsAlone, MayRefer, StepReady, free_seat, joining_heard, loan_heard, locks, seat_of_lock, seat_of_reference, still, having, ends_with, is_short, part_for, part_left, PartReady, one_or_leave, PartTold, FillsAs, Note, Notes, OneStep, Version}
use Rattle.fs_machine.specs.declared.slots.Given.TheVariants as given
use Rattle.group_log.specs.declared.log.AfterLeave.TheVariants.{Free}
use Rattle.fs_machine.specs.Steps as steps
use Rattle.inode_machine.specs.World as above
use Rattle.path_walk.specs.declared.asks.Ask.TheVariants as ask
use Rattle.path_walk.specs.declared.asks.Query.{Query}
use Rattle.path_walk.specs.declared.asks.InodeType.{InodeType}
use Rattle.path_walk.specs.declared.asks.Heard.TheVariants as heard
use Rattle.inode_parts.specs.declared.note.Note.TheVariants as note
use Rattle.inode_parts.specs.declared.one_step.OneStep.TheVariants as step
use Rattle.inode_parts.specs.declared.part.InodePart.TheVariants as part

joins_so : (a : steps.JoinResult) → joining_to a ≡ joined_in (joining_heard a)
joins_so (steps.RefusesJoin why) = refl
joins_so (steps.Joins n) = refl

lends_so : (a : Given) → lent_to a ≡ loan_in (loan_heard a)
lends_so (given.Descriptor fd more) = refl
lends_so (given.Directory n) = refl

-- ---- the record that a lock goes back with

record_of_had : (path : List ℕ) (l : Note) (o : Option Loaded) → record_had (had_of path l o) ≡ o
record_of_had path note.Nothing None = refl
record_of_had path note.Nothing (Some d) = refl
record_of_had path (note.Finds e s) None = refl
record_of_had path (note.Finds e s) (Some d) = refl
record_of_had path (note.Opened fd offset) None = refl
record_of_had path (note.Opened fd offset) (Some d) = refl
record_of_had path note.Freed None = refl
record_of_had path note.Freed (Some d) = refl

-- this seat has the lock
here : (path : List ℕ) (l : Note) (n : ℕ) (o : Option (GuardState Inode)) (x : Had) → locks n o ≡ true
    → let v : Inode = record { number = n; content = record_had (had_at path l o n x) } in v ≡ option_map_or (λ (g : GuardState Inode). g.value) o no_inode
here path l n None x e = absurd (cc e)
here path l n (Some g) x e =
    λ i. record { number = eq_is n g.value.number e i; content = (ap (λ (b : Bool). record_had (if b then had_of path l g.value.content else x)) e ∙ record_of_had path l g.value.content) i }

-- it has another one, or none
elsewhere : (path : List ℕ) (l : Note) (n : ℕ) (o : Option (GuardState Inode)) (x : Had) → locks n o ≡ false → had_at path l o n x ≡ x
elsewhere path l n None x e = refl
elsewhere path l n (Some g) x e = ap (λ (b : Bool). if b then had_of path l g.value.content else x) e

pub lock_is : (path : List ℕ) (m : Notes) (n : ℕ) (h : Hand) → locks n (inode_at (seat_of_lock n h) h) ≡ true
    → let v : Inode = record { number = n; content = record_had (carry_in path m h n) } in v ≡ inode_in (seat_of_lock n h) h
lock_is path m n h e = at (locks n h.one) refl e
  where
    at : (b : Bool) → locks n h.one ≡ b → let k : InodePlace = if b then One else Two in locks n (inode_at k h) ≡ true
        → let v : Inode = record { number = n; content = record_had (carry_in path m h n) } in v ≡ inode_in k h
    at true is e = here path m.one n h.one (had_at path m.two h.two n Apart) e
    at false is e = ap (λ (x : Had). let v : Inode = record { number = n; content = record_had x } in v) (elsewhere path m.one n h.one (had_at path m.two h.two n Apart) is) ∙ here path m.two n h.two Apart e

reference_is : (n : ℕ) (h : Hand) → HasReference n h → number_at (seat_of_reference n h) h ≡ n
reference_is n h has = ap (λ (o : Option ℕ). unwrap_or o 0) has

-- a transaction is left
module _ (path : List ℕ) (m : Notes) (h : Hand) where
  abbrev Same : {M : Type 0} → Prog steps.Op steps.Answer M (Unit {0}) → P (Unit {0}) → Type 0
  Same p q = plain (holding (carry_in path m h) p) ≡ bind (bind q (ends_with path m h)) (λ r. Ret (record { answer = tt; carry = r.carry }))

  commits_unless : (n : ℕ) → Same {M = Acts} (commits n) (commits n) → (done : Bool) → Same {M = Acts} (commit_unless (commits n) done) (commit_unless (commits n) done)
  commits_unless n e true = refl
  commits_unless n e false = e

  commits_so : (n : ℕ) → Same {M = Acts} (commits n) (commits n)
  commits_so zero = refl
  commits_so (suc n) = λ i. Do steps.Commit unmarked (λ done. commits_unless n (commits_so n) done i)

  leaves_so : (left : AfterLeave) → Same {M = Acts} (after_leave left) (after_leave left)
  leaves_so Free = refl
  leaves_so Commits = commits_so most_writes

module _ (sizes : Super) (path : List ℕ) (m : Notes) (h : Hand) where
  up_is_part : (n : ℕ) (b : Bool) → IsPart sizes (carry_in path m h) (above.Up n) (part_left path m (part.One (if b then step.UpAside n else step.Up (free_seat h) n)) h)
  up_is_part n true = λ mark. refl
  up_is_part n false = λ mark. refl

  pub is_part : (op : above.Op) → Begins op h → IsPart sizes (carry_in path m h) op (part_left path m (part_for op h) h)
  is_part (above.UnlockInode n) has =
      let c : Carry = carry_in path m h in
      subst (λ (v : Inode). IsPart sizes c (above.UnlockInode n) (one path (steps.Unlock v None) (λ a. heard.WasDone) (λ a. put c v.number Apart))) (lock_is path m n h has.0) (λ mark. refl)
  is_part (above.SetDirectory n) has =
      let c : Carry = carry_in path m h in
      subst (λ (v : Inode). IsPart sizes c (above.SetDirectory n) (one path (steps.SetDirectory v) heard.Old (λ a. put c v.number Apart))) (lock_is path m n h has.0.0) (λ mark. refl)
  is_part (above.UpStart true) has = λ mark. refl
  is_part (above.UpStart false) has = λ mark. refl
  is_part (above.Up n) has = up_is_part n (is_some (reference_at (free_seat h) h))
  is_part (above.WalkDown n) has =
      let c : Carry = carry_in path m h in
      subst (λ (k : ℕ). IsPart sizes c (above.WalkDown n) (one path (steps.Down (steps.Walked k)) (λ a. heard.Is (is_listed a)) (λ a. c))) (sym (reference_is n h has.0)) (λ mark. refl)
  is_part (above.Down n) has =
      let c : Carry = carry_in path m h in
      subst (λ (k : ℕ). IsPart sizes c (above.Down n) (one path (steps.Down (steps.Held k)) (λ a. heard.Is (is_dying a)) (with_dying k c))) (sym (reference_is n h has.0)) (λ mark. refl)
  is_part (above.Forget n) has =
      let c : Carry = carry_in path m h in
      subst (λ (k : ℕ). IsPart sizes c (above.Forget n) (one path (steps.Down (steps.Freed k)) (λ a. heard.WasDone) (λ a. c))) (sym (reference_is n h has)) (λ mark. refl)
  is_part (above.Slot) has = λ mark. refl
  is_part (above.Install f inode_type) has =
      let c : Carry = carry_in path m h in
      subst (λ (k : ℕ). IsPart sizes c (above.Install f inode_type) (still path (steps.TakeDescriptor k (new_file f inode_type)) heard.Start c)) (sym (reference_is f.number h has)) (λ mark. refl)
  is_part (above.CheckFile fd) has = λ mark. refl
  is_part (above.JoinFile fd) has = λ mark i. Do (steps.JoinToWrite fd) unmarked (λ a. Ret (record { answer = joins_so a i; carry = carry_in path m h }))
  is_part (above.Double fd) has = λ mark. refl
  is_part (above.Shut fd) has = λ mark. refl
  is_part (above.Lend child from) has = λ mark i. Do (steps.GiveDescriptor child from) unmarked (λ a. Ret (record { answer = lends_so a i; carry = carry_in path m h }))
  is_part (above.LendDirectory child) has = λ mark. refl
  is_part (above.Release child) has = λ mark. refl
  is_part above.Join has = λ mark. refl
  is_part above.Say has = λ mark. refl
  is_part above.Leave has = λ mark i. Do steps.Leave unmarked (λ left. leaves_so path m h left i)
  is_part op has = absurd has

-- ---- what is asked

-- any ask but one to read fills nothing
pub other_fills : (text : List ℕ) (a : Ask) (q : Part) → ((fd n offset count : ℕ) → a ≢ ask.ReadFile fd n offset count) → FillsAs a text q
other_fills text (ask.ReadFile fd n offset count) q other = absurd (other fd n offset count refl)
other_fills text a q other = tt

-- what is short begins with what it asks, and fills nothing
pub short_so : (v : Version) (path : List ℕ) (m : Notes) (a : Ask) (h : Hand) → is_short a ≡ true → BeginsWith v path (op_in path a) (having h m) → Begins (op_in path a) h
short_so v path m (ask.Store n count) h short has = absurd (cc short)
short_so v path m (ask.Empty n) h short has = absurd (cc short)
short_so v path m (ask.Enter d e n) h short has = absurd (cc short)
short_so v path m (ask.Clear d e) h short has = absurd (cc short)
short_so v path m (ask.Fill n d) h short has = absurd (cc short)
short_so v path m (ask.Free n) h short has = absurd (cc short)
short_so v path m (ask.Claim inode_type) h short has = absurd (cc short)
short_so v path m (ask.LockOpen fd n) h short has = absurd (cc short)
short_so v path m (ask.LockFile fd) h short has = absurd (cc short)
short_so v path m (ask.StatFile fd) h short has = absurd (cc short)
short_so v path m (ask.Take n query) h short has = absurd (cc short)
short_so v path m (ask.ReadFile fd n offset count) h short has = absurd (cc short)
short_so v path m (ask.WriteFile fd n offset index) h short has = absurd (cc short)
short_so v path m a h short has = has

pub short_fills : (text : List ℕ) (a : Ask) (q : Part) → is_short a ≡ true → FillsAs a text q
short_fills text (ask.ReadFile fd n offset count) q short = absurd (cc short)
short_fills text a q short = tt

-- any ask but the longer ones is one operation below, or leaves a transaction
pub short_begins : (v : Version) (path : List ℕ) (m : Notes) (a : Ask) (h : Hand) → BeginsWith v path (op_in path a) (having h m)
    → ((n count : ℕ) → a ≢ ask.Store n count)
    → ((n : ℕ) → a ≢ ask.Empty n)
    → ((d : ℕ) (e : Element) (n : ℕ) → a ≢ ask.Enter d e n)
    → ((d : ℕ) (e : Element) → a ≢ ask.Clear d e)
    → ((n d : ℕ) → a ≢ ask.Fill n d)
    → ((n : ℕ) → a ≢ ask.Free n)
    → ((s : InodeType) → a ≢ ask.Claim s)
    → ((fd n : ℕ) → a ≢ ask.LockOpen fd n)
    → ((fd : ℕ) → a ≢ ask.LockFile fd)
    → ((fd : ℕ) → a ≢ ask.StatFile fd)
    → ((n : ℕ) (q : Query) → a ≢ ask.Take n q)
    → ((fd n offset count : ℕ) → a ≢ ask.ReadFile fd n offset count)
    → ((fd n offset i : ℕ) → a ≢ ask.WriteFile fd n offset i)
    → Begins (op_in path a) h
short_begins v path m (ask.Store n count) h has store empty enter clear fill free claim opened locked told taken reads writes = absurd (store n count refl)
short_begins v path m (ask.Empty n) h has store empty enter clear fill free claim opened locked told taken reads writes = absurd (empty n refl)
short_begins v path m (ask.Enter d e n) h has store empty enter clear fill free claim opened locked told taken reads writes = absurd (enter d e n refl)
short_begins v path m (ask.Clear d e) h has store empty enter clear fill free claim opened locked told taken reads writes = absurd (clear d e refl)
short_begins v path m (ask.Fill n d) h has store empty enter clear fill free claim opened locked told taken reads writes = absurd (fill n d refl)
short_begins v path m (ask.Free n) h has store empty enter clear fill free claim opened locked told taken reads writes = absurd (free n refl)
short_begins v path m (ask.Claim s) h has store empty enter clear fill free claim opened locked told taken reads writes = absurd (claim s refl)
short_begins v path m (ask.LockOpen fd n) h has store empty enter clear fill free claim opened locked told taken reads writes = absurd (opened fd n refl)
short_begins v path m (ask.LockFile fd) h has store empty enter clear fill free claim opened locked told taken reads writes = absurd (locked fd refl)
short_begins v path m (ask.StatFile fd) h has store empty enter clear fill free claim opened locked told taken reads writes = absurd (told fd refl)
short_begins v path m (ask.Take n q) h has store empty enter clear fill free claim opened locked told taken reads writes = absurd (taken n q refl)
short_begins v path m (ask.ReadFile fd n offset count) h has store empty enter clear fill free claim opened locked told taken reads writes = absurd (reads fd n offset count refl)
short_begins v path m (ask.WriteFile fd n offset i) h has store empty enter clear fill free claim opened locked told taken reads writes = absurd (writes fd n offset i refl)
short_begins v path m a h has store empty enter clear fill free claim opened locked told taken reads writes = has

-- none of these has a name to seek
pub told_for : (path second : List ℕ) (o : Option OneStep) → PartTold path second (one_or_leave o)
told_for path second None = tt
told_for path second (Some s) = tt

-- ---- it is ready

pub locked_there : (n : ℕ) (o : Option (GuardState Inode)) → locks n o ≡ true → IsSome o × (n ≡ (option_map_or (λ (g : GuardState Inode). g.value) o no_inode).number)
locked_there n None e = absurd (cc e)
locked_there n (Some g) e = (refl, eq_is n g.value.number e)

pub gives_ready : (n : ℕ) (k : InodePlace) (h : Hand) → locks n (inode_at k h) ≡ true → IsAlone n k h → IsSome (inode_at k h) × IsAlone (inode_in k h).number k h
gives_ready n k h e alone = ((locked_there n (inode_at k h) e).0, subst (λ (n : ℕ). IsAlone n k h) (locked_there n (inode_at k h) e).1 alone)

some_reference : (n : ℕ) (k : InodePlace) (h : Hand) → reference_at k h ≡ Some n → IsSome (reference_at k h)
some_reference n k h e = ap (λ (o : Option ℕ). is_some o) e

settles_there : (n : ℕ) (o : Option (GuardState Inode)) (r : Option ℕ) → locks n o ≡ true → r ≡ Some n → MatchOption o ⊥ (λ g. r ≡ Some g.value.number)
settles_there n None r e is = absurd (cc e)
settles_there n (Some g) r e is = is ∙ ap (λ (n : ℕ). Some n) (eq_is n g.value.number e)

up_ready : (n : ℕ) (h : Hand) (o : Option ℕ) → reference_at (free_seat h) h ≡ o → MayRefer h → StepReady (if is_some o then step.UpAside n else step.Up (free_seat h) n) h
up_ready n h None is may = is
up_ready n h (Some j) is (inl free) = absurd (let clash : None ≡ Some j = sym free ∙ is in cc clash)
up_ready n h (Some j) is (inr none) = none

pub is_ready : (op : above.Op) (h : Hand) → Begins op h → PartReady (part_for op h) h
is_ready (above.UnlockInode n) h has = gives_ready n (seat_of_lock n h) h has.0 has.1
is_ready (above.SetDirectory n) h has =
    (settles_there n (inode_at (seat_of_lock n h) h) (reference_at (seat_of_lock n h) h) has.0.0 has.1, (gives_ready n (seat_of_lock n h) h has.0.0 has.0.1).1)
is_ready (above.UpStart true) h has = has
is_ready (above.UpStart false) h has = has
is_ready (above.Up n) h has = up_ready n h (reference_at (free_seat h) h) refl has
is_ready (above.WalkDown n) h has = (some_reference n (seat_of_reference n h) h has.0, has.1)
is_ready (above.Down n) h has =
    (some_reference n (seat_of_reference n h) h has.0, has.1, subst (λ (k : ℕ). IsAlone k (seat_of_reference n h) h) (sym (reference_is n h has.0)) has.2)
is_ready (above.Forget n) h has = some_reference n (seat_of_reference n h) h has
is_ready above.Slot h has = tt
is_ready (above.Install f inode_type) h has = some_reference f.number (seat_of_reference f.number h) h has
is_ready (above.CheckFile fd) h has = tt
is_ready (above.JoinFile fd) h has = has
is_ready (above.Double fd) h has = tt
is_ready (above.Shut fd) h has = has
is_ready (above.Lend child from) h has = has
is_ready (above.LendDirectory child) h has = has
is_ready (above.Release child) h has = tt
is_ready above.Join h has = has
is_ready above.Leave h has = has
is_ready above.Say h has = tt
is_ready op h has = absurd has

-- ---- its text

-- there is no second one after it
pub alone : (path second : List ℕ) → second ≡ [] → path ≡ path ++ second
alone path second none = sym (append-nil path) ∙ ap (λ (second : List ℕ). path ++ second) (sym none)
