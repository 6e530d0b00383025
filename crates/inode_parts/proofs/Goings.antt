-- How operations on whole inodes that are one operation below go on.
use Rattle.inode_parts.proofs.Vocabulary.{◌≡◌, ℕ, List, Bool, true, false, Option, Some, None, refl, sym, ap, ◌∙◌, subst, IsSome, is_some, if◌then◌else◌, MatchOption, put, Cause, descriptor_count, root, Ret, GuardState, Loaded, Inode, NewFile, Goes, inode_at, inode_in, number_at, reference_at, with_inode, with_seated, with_txn, IsAfter, IsHanded, IsJoined, IsKept, IsLent, IsOpened, answer_in, doubled_by, given_by, joined_by, number_by, refused_by, shut_by, yes_in, Hand, InodePlace, One, Two, Answer, cause_if, doubled_to, is_listed, old_directory, shut_to, Heard, Joined, Loan, carry_in, handed, had_of, with_note, IsAlone, StepReady, joining_heard, loan_heard, step_left, still, finish_left, Finish, goes_with, ends_with, part_left, Notes}
use Rattle.fs_machine.specs.declared.files.Want.TheVariants as want
use Rattle.fs_machine.specs.Steps as steps
use Rattle.fs_machine.specs.declared.op.Answer.TheVariants as answers
use Rattle.fs_machine.specs.declared.op.Op.TheVariants as ops
use Rattle.inodes_on_blocks.specs.Handlers as handlers
use Rattle.path_walk.specs.declared.asks.Heard.TheVariants as heard
use Rattle.inode_parts.specs.declared.part.InodePart.TheVariants as part
use Rattle.inode_parts.specs.declared.note.Note.TheVariants as note
use Rattle.inode_parts.specs.declared.one_step.OneStep.TheVariants as step
use Rattle.inode_parts.proofs.Basics.{beside_aside, beside_reference, beside_seated, beside_txn, gave, held, listed_so, same_in}

there : (P : GuardState Inode → Type 0) (o : Option (GuardState Inode)) → MatchOption o ⊥ P → IsSome o
there P None is = absurd is
there P (Some g) is = refl

nothing_more : (path : List ℕ) (o : Option Loaded) → handlers.had_of o ≡ had_of path note.Nothing o
nothing_more path None = refl
nothing_more path (Some l) = refl

came_in : (k : InodePlace) (g : GuardState Inode) (before : Hand) → inode_in k (with_inode k (Some g) before) ≡ g.value
came_in One g before = refl
came_in Two g before = refl

module _ (path : List ℕ) (m : Notes) (before h : Hand) where
  -- one that leaves the locks as they are
  still_goes : (lop : steps.Op) (heard : steps.Answer lop → Heard) (answer : (o : steps.Op) → steps.Answer o) (x : Heard) → heard (answer lop) ≡ x → carry_in path m before ≡ carry_in path m h
      → Goes (still path lop heard (carry_in path m before)) answer (Ret (handed path m x h))
  still_goes lop heard answer x e f = λ i. Ret (record { answer = (path, e i); carry = f i })

  kept_in : (k : InodePlace) (a : Answer) → IsKept k a before h → carry_in path m before ≡ carry_in path m h
  kept_in k (answers.Is true) e = beside_seated path m k before (with_seated k before) refl ∙ sym (ap (carry_in path m) e)
  kept_in k (answers.Is false) e = beside_seated path m k before h e
  kept_in k answers.Nothing e = beside_seated path m k before h e
  kept_in k (answers.Refused why) e = beside_seated path m k before h e
  kept_in k (answers.Number n) e = beside_seated path m k before h e
  kept_in k (answers.File f) e = beside_seated path m k before h e
  kept_in k (answers.Doubled d) e = beside_seated path m k before h e
  kept_in k (answers.Given fd more) e = beside_seated path m k before h e

  opened_in : (k : InodePlace) (a : Answer) → IsOpened k a before h → carry_in path m before ≡ carry_in path m h
  opened_in k (answers.Is b) e = same_in path m before h e
  opened_in k answers.Nothing e = same_in path m before h e
  opened_in k (answers.Refused why) e = same_in path m before h e
  opened_in k (answers.Number n) e = beside_reference path m k None before h e
  opened_in k (answers.File f) e = same_in path m before h e
  opened_in k (answers.Doubled d) e = same_in path m before h e
  opened_in k (answers.Given fd more) e = same_in path m before h e

  joined_in : (a : Answer) → IsJoined a before h → carry_in path m before ≡ carry_in path m h
  joined_in (answers.Is b) e = same_in path m before h e
  joined_in answers.Nothing e = same_in path m before h e
  joined_in (answers.Refused why) e = same_in path m before h e
  joined_in (answers.Number n) e = beside_txn path m (Some e.0) before h e.1
  joined_in (answers.File f) e = same_in path m before h e
  joined_in (answers.Doubled d) e = same_in path m before h e
  joined_in (answers.Given fd more) e = same_in path m before h e

  handed_in : (k : InodePlace) (a : Answer) → IsHanded k a before h → carry_in path m before ≡ carry_in path m h
  handed_in k (answers.Is true) e = beside_reference path m k (Some e.0) before h e.1
  handed_in k (answers.Is false) e = same_in path m before h e
  handed_in k answers.Nothing e = same_in path m before h e
  handed_in k (answers.Refused why) e = same_in path m before h e
  handed_in k (answers.Number n) e = same_in path m before h e
  handed_in k (answers.File f) e = same_in path m before h e
  handed_in k (answers.Doubled d) e = same_in path m before h e
  handed_in k (answers.Given fd more) e = same_in path m before h e

  lent_in : (k : InodePlace) (from : ℕ) (a : Answer) → IsLent k from a before h → carry_in path m before ≡ carry_in path m h
  lent_in k from (answers.Is true) e = beside_reference path m k (Some e.0) before h e.1
  lent_in k from (answers.Is false) e = absurd e
  lent_in k from answers.Nothing e = absurd e
  lent_in k from (answers.Refused why) e = absurd e
  lent_in k from (answers.Number n) e = absurd e
  lent_in k from (answers.File f) e = absurd e
  lent_in k from (answers.Doubled d) e = absurd e
  lent_in k from (answers.Given fd more) e = same_in path m before h e.1

  module _ (k : InodePlace) (a : Answer) where
    pub give_goes : StepReady (step.UnlockInode k) before → IsAfter (ops.Unlock k) before a h → Goes (step_left path m (step.UnlockInode k) before) (answer_in (ops.Unlock k) a h) (Ret (handed path m heard.WasDone h))
    give_goes ready after = λ i. Ret (record { answer = (path, heard.WasDone); carry = (gave path m k before ready.0 ready.1 ∙ sym (ap (carry_in path m) after)) i })

    pub settle_goes : (x : ℕ) → x ≡ number_at k h → StepReady (step.SetDirectory k) before → IsAfter (ops.SetDirectory k) before a h → Goes (step_left path m (step.SetDirectory k) before) (answer_in (ops.SetDirectory k) a h) (Ret (handed path m (heard.Old x) h))
    unfolding answer_in
    settle_goes x e ready after =
        λ i. Ret (record { answer = (path, heard.Old (sym e i)); carry = (gave path m k before (there (λ g. reference_at k before ≡ Some g.value.number) (inode_at k before) ready.0) ready.1 ∙ beside_reference path m k (Some after.0) (with_inode k None before) h after.1) i })

    pub root_goes : (x : Option ℕ) → x ≡ reference_at k h → IsAfter (ops.Up k root) before a h → Goes (step_left path m (step.UpRoot k) before) (answer_in (ops.Up k root) a h) (Ret (handed path m (heard.Start x) h))
    unfolding answer_in
    root_goes x e after = still_goes (steps.Up (steps.Number root)) heard.Start (answer_in (ops.Up k root) a h) (heard.Start x) (ap heard.Start (sym e)) (beside_reference path m k after.0 before h after.1)

    pub directory_goes : (x : Option ℕ) → x ≡ reference_at k h → IsAfter (ops.UpDirectory k) before a h → Goes (step_left path m (step.UpDirectory k) before) (answer_in (ops.UpDirectory k) a h) (Ret (handed path m (heard.Start x) h))
    unfolding answer_in
    directory_goes x e after = still_goes (steps.Up steps.Directory) heard.Start (answer_in (ops.UpDirectory k) a h) (heard.Start x) (ap heard.Start (sym e)) (beside_reference path m k after.0 before h after.1)

    pub up_goes : (n : ℕ) (x : Bool) → x ≡ is_some (reference_at k h) → IsAfter (ops.Up k n) before a h → Goes (step_left path m (step.Up k n) before) (answer_in (ops.Up k n) a h) (Ret (handed path m (heard.Is x) h))
    unfolding answer_in
    up_goes n x e after = still_goes (steps.Up (steps.Number n)) (λ a. heard.Is (is_some a)) (answer_in (ops.Up k n) a h) (heard.Is x) (ap heard.Is (sym e)) (beside_reference path m k after.0 before h after.1)

    pub walked_goes : (x : Bool) → x ≡ yes_in a → IsAfter (ops.DownWalked k) before a h → Goes (step_left path m (step.WalkDown k) before) (answer_in (ops.DownWalked k) a h) (Ret (handed path m (heard.Is x) h))
    unfolding answer_in
    walked_goes x e after =
        still_goes (steps.Down (steps.Walked (number_at k before))) (λ a. heard.Is (is_listed a)) (answer_in (ops.DownWalked k) a h) (heard.Is x) (ap heard.Is (listed_so (yes_in a) ∙ sym e)) (kept_in k a after)

    pub installed_goes : (file : NewFile) (x : Option ℕ) → x ≡ number_by a → IsAfter (ops.TakeDescriptor k file) before a h → Goes (step_left path m (step.Install k file) before) (answer_in (ops.TakeDescriptor k file) a h) (Ret (handed path m (heard.Start x) h))
    unfolding answer_in
    installed_goes file x e after = still_goes (steps.TakeDescriptor (number_at k before) file) heard.Start (answer_in (ops.TakeDescriptor k file) a h) (heard.Start x) (ap heard.Start (sym e)) (opened_in k a after)

    pub shut_goes : (fd n : ℕ) (x : Option (Option ℕ)) → n ≡ number_at k h → x ≡ shut_to (shut_by a n) → IsAfter (ops.Close k fd) before a h → Goes (step_left path m (step.Shut k fd) before) (answer_in (ops.Close k fd) a h) (Ret (handed path m (heard.Shut x) h))
    unfolding answer_in
    shut_goes fd n x named e after =
        still_goes (steps.Close fd) (λ a. heard.Shut (shut_to a)) (answer_in (ops.Close k fd) a h) (heard.Shut x) (ap heard.Shut (ap (λ (n : ℕ). shut_to (shut_by a n)) (sym named) ∙ sym e)) (handed_in k a after)

    pub lent_goes : (child from n : ℕ) (x : Loan) → n ≡ number_at k h → heard.Loan x ≡ loan_heard (given_by a n) → IsAfter (ops.GiveTo k child from) before a h
        → Goes (step_left path m (step.Lend k child from) before) (answer_in (ops.GiveTo k child from) a h) (Ret (handed path m (heard.Loan x) h))
    unfolding answer_in
    lent_goes child from n x named e after =
        still_goes (steps.GiveDescriptor child from) loan_heard (answer_in (ops.GiveTo k child from) a h) (heard.Loan x) (ap (λ (n : ℕ). loan_heard (given_by a n)) (sym named) ∙ sym e) (lent_in k from a after)

    pub moved_goes : (child n x : ℕ) → n ≡ number_at k h → x ≡ old_directory (given_by a n) → IsAfter (ops.GiveTo k child descriptor_count) before a h
        → Goes (step_left path m (step.LendDirectory k child) before) (answer_in (ops.GiveTo k child descriptor_count) a h) (Ret (handed path m (heard.Old x) h))
    unfolding answer_in
    moved_goes child n x named e after =
        still_goes (steps.GiveDescriptor child descriptor_count) (λ a. heard.Old (old_directory a)) (answer_in (ops.GiveTo k child descriptor_count) a h) (heard.Old x) (ap heard.Old (ap (λ (n : ℕ). old_directory (given_by a n)) (sym named) ∙ sym e)) (lent_in k descriptor_count a after)

  module _ (a : Answer) where
    pub aside_goes : (n : ℕ) (x : Bool) → x ≡ is_some h.aside → IsAfter (ops.UpAside n) before a h → Goes (step_left path m (step.UpAside n) before) (answer_in (ops.UpAside n) a h) (Ret (handed path m (heard.Is x) h))
    unfolding answer_in
    aside_goes n x e after = still_goes (steps.Up (steps.Number n)) (λ a. heard.Is (is_some a)) (answer_in (ops.UpAside n) a h) (heard.Is x) (ap heard.Is (sym e)) (beside_aside path m after.0 before h after.1)

    pub slot_goes : (x : Bool) → x ≡ yes_in a → IsAfter ops.TakePlace before a h → Goes (step_left path m step.Slot before) (answer_in ops.TakePlace a h) (Ret (handed path m (heard.Is x) h))
    unfolding answer_in
    slot_goes x e after = still_goes steps.TakePlace heard.Is (answer_in ops.TakePlace a h) (heard.Is x) (ap heard.Is (sym e)) (same_in path m before h after)

    pub checked_goes : (fd : ℕ) (x : Option Cause) → x ≡ cause_if (refused_by a) → IsAfter (ops.CheckFile want.Write fd) before a h → Goes (step_left path m (step.CheckFile fd) before) (answer_in (ops.CheckFile want.Write fd) a h) (Ret (handed path m (heard.Checked x) h))
    unfolding answer_in
    checked_goes fd x e after = still_goes (steps.CheckFile want.Write fd) (λ a. heard.Checked (cause_if a)) (answer_in (ops.CheckFile want.Write fd) a h) (heard.Checked x) (ap heard.Checked (sym e)) (same_in path m before h after)

    pub joined_goes : (fd : ℕ) (x : Joined) → heard.Joined x ≡ joining_heard (joined_by a) → IsAfter (ops.JoinToWrite fd) before a h → Goes (step_left path m (step.JoinFile fd) before) (answer_in (ops.JoinToWrite fd) a h) (Ret (handed path m (heard.Joined x) h))
    unfolding answer_in
    joined_goes fd x e after = still_goes (steps.JoinToWrite fd) joining_heard (answer_in (ops.JoinToWrite fd) a h) (heard.Joined x) (sym e) (joined_in a after)

    pub doubled_goes : (fd : ℕ) (x : Option (Option ℕ)) → x ≡ doubled_to (doubled_by a) → IsAfter (ops.Double fd) before a h → Goes (step_left path m (step.Double fd) before) (answer_in (ops.Double fd) a h) (Ret (handed path m (heard.Doubled x) h))
    unfolding answer_in
    doubled_goes fd x e after = still_goes (steps.Double fd) (λ a. heard.Doubled (doubled_to a)) (answer_in (ops.Double fd) a h) (heard.Doubled x) (ap heard.Doubled (sym e)) (same_in path m before h after)

-- a lock comes in place of the last reference
module _ (path : List ℕ) (m : Notes) (k : InodePlace) (before h : Hand) where
  dies_in : (g : GuardState Inode) → h ≡ with_inode k (Some g) before → g.value.number ≡ number_at k before → inode_at k before ≡ None → IsAlone (number_at k before) k before
      → put (carry_in path m before) (number_at k before) (handlers.had_of (inode_in k h).content) ≡ carry_in path (with_note k note.Nothing m) h
  dies_in g e named free alone =
      (λ i. put (carry_in path m before) (sym named i) ((ap (λ (h : Hand). handlers.had_of (inode_in k h).content) e ∙ ap (λ (v : Inode). handlers.had_of v.content) (came_in k g before) ∙ nothing_more path g.value.content) i))
      ∙ held path m k note.Nothing g before free (subst (λ (n : ℕ). IsAlone n k before) (sym named) alone)
      ∙ sym (ap (carry_in path (with_note k note.Nothing m)) e)

  pub down_goes : (a : Answer) (x : Bool) (m2 : Notes) → x ≡ yes_in a → m2 ≡ (if yes_in a then with_note k note.Nothing m else m) → StepReady (step.Down k) before → IsAfter (ops.Down k) before a h
      → Goes (step_left path m (step.Down k) before) (answer_in (ops.Down k) a h) (Ret (handed path m2 (heard.Is x) h))
  unfolding answer_in
  down_goes (answers.Is true) x m2 e n ready after =
      λ i. Ret (record { answer = (path, heard.Is (sym e i)); carry = (dies_in after.0 after.1 after.2 ready.1 ready.2 ∙ ap (λ (m : Notes). carry_in path m h) (sym n)) i })
  down_goes (answers.Is false) x m2 e n ready after =
      λ i. Ret (record { answer = (path, heard.Is (sym e i)); carry = (beside_reference path m k None before h after ∙ ap (λ (m : Notes). carry_in path m h) (sym n)) i })
  down_goes answers.Nothing x m2 e n ready after = absurd after
  down_goes (answers.Refused why) x m2 e n ready after = absurd after
  down_goes (answers.Number j) x m2 e n ready after = absurd after
  down_goes (answers.File f) x m2 e n ready after = absurd after
  down_goes (answers.Doubled d) x m2 e n ready after = absurd after
  down_goes (answers.Given fd more) x m2 e n ready after = absurd after

-- a transaction's end goes on
pub leave_on : (path : List ℕ) (m : Notes) (before h : Hand) (f g : Finish) (answer : (o : steps.Op) → steps.Answer o) → with_txn None h ≡ with_txn None before → Goes (finish_left f before) answer (finish_left g h)
    → Goes (part_left path m (part.Leave f) before) answer (part_left path m (part.Leave g) h)
leave_on path m before h f g answer same goes =
    let kept : carry_in path m before ≡ carry_in path m h = sym (ap (carry_in path m) same) in
    goes_with (finish_left f before) (finish_left g h) (ends_with path m before) (ends_with path m h) answer (λ i u. Ret (record { answer = (path, heard.WasDone); carry = kept i })) goes
