-- A transaction is joined for the inode that a descriptor names, in one step, if that may be written.
use Rattle.inode_machine.specs.Rules as rules
use Rattle.inodes_on_blocks.proofs.Vocabulary.{◌≡◌, ℕ, ◌<◌, Bool, true, false, length, Option, Some, None, refl, sym, ◌∙◌, ap, subst, option_map, same_Some, joined_count as joined, limit_of, join_waits, hart_count, Cause, Ran, Laws, Both, Refused, file_named, refusal_of, join_if, IsWholeLog, After, keeps_whole, Entry, JoinResult, NotJoined, Joined, JoinFile, write_refused, join_at, Inv, loaded, file_of, refused_as, World, log_of, tables_of, came_to, Shows, Carry, Base, Labels, labelled, Keeps, cause_of, joining_to, join_file, ActsOnceAt, Super}
use Rattle.plain_tree.specs.declared.answer.Cause.TheVariants as causes
use Rattle.fs_machine.specs.declared.files.OpenFile.{OpenFile}
use Rattle.fs_machine.specs.declared.files.Refused.TheVariants as refused_variants
use Rattle.fs_machine.specs.declared.files.Want.TheVariants as want
use Rattle.fs_machine.specs.Steps as steps
use Rattle.fs_machine.specs.Premises as premises
use Rattle.inode_machine.specs.World as above
use Rattle.inode_machine.specs.Exec as above_exec
use Rattle.inode_machine.specs.Exec.{entry_of}
use Rattle.inodes_on_blocks.proofs.Basics.{descriptors_name_files, Came, CameTo, one_step}
use Rattle.inodes_on_blocks.proofs.JoinSteps.{alone, join_came}
use Rattle.inodes_on_blocks.proofs.SlotSteps.{all_same, came_quiet, runs_here, same_back}

module _ (sizes : Super) (l : Labels) (laws : Laws (labelled sizes.version l)) (keeps : Keeps l) (h : ℕ) (lt : h < hart_count) where
  abbrev W : Type 0
  W = Both World above.World

  module _ (fd : ℕ) (v : W) (c : Carry) (shows : Shows v.real v.seen) (base : Base h v.real v.seen c) (may : rules.May sizes.version h (JoinFile fd) v.seen) where
    abbrev Waiting : Bool
    Waiting = join_waits (log_of v.real).phase (length (log_of v.real).group) (joined (log_of v.real).members) (limit_of (log_of v.real).sizes)

    abbrev Leads : Option OpenFile → Option Refused → Type 0
    Leads f why = CameTo sizes l laws keeps h (JoinFile fd) v (Waiting ≡ true) (came_to h (steps.JoinToWrite fd) v.real (steps.join_unless h v.real.state f why)) joining_to (λ a. c)

    refused : (why : Refused) (k : Cause) → cause_of why ≡ k → above_exec.exec sizes.version h above.Room (JoinFile fd) v.seen ≡ Ran (NotJoined k) v.seen → Came sizes l laws keeps h (JoinFile fd) v (NotJoined (cause_of why)) v.real c
    refused why k e ran = came_quiet sizes l laws keeps h lt (JoinFile fd) v (NotJoined (cause_of why)) (tables_of v.real) v.seen c shows base may.0 (ran ∙ ap (λ (z : Cause). Ran (NotJoined z) v.seen) (sym e)) shows.tables (all_same h v.seen)

    abbrev LeadsOn : Entry → Bool → Type 0
    LeadsOn e b = CameTo sizes l laws keeps h (JoinFile fd) v (Waiting ≡ true) (came_to h (steps.JoinToWrite fd) v.real (steps.joins (file_of e) (steps.in_log v.real.state (join_if h (log_of v.real) b)))) joining_to (λ a. c)

    goes_on : (e : Entry) → above_exec.exec sizes.version h above.Room (JoinFile fd) v.seen ≡ Ran (Joined e.file.number) (above_exec.with_joined v.seen h true) → (b : Bool) → Waiting ≡ b
        → After (λ t. IsWholeLog t.log) (steps.in_log v.real.state (join_if h (log_of v.real) b)) → LeadsOn e b
    goes_on e ran true is whole = is
    goes_on e ran false is whole = join_came sizes l laws keeps h lt (JoinFile fd) (Joined e.file.number) v c ran shows base may.0 may.1.0 whole

    by_refusal : (e : Entry) → entry_of v.seen h fd ≡ Some e → (o : Option Cause) → write_refused (Some e) ≡ o → ((b : Bool) → Waiting ≡ b → After (λ t. IsWholeLog t.log) (steps.in_log v.real.state (join_if h (log_of v.real) b)))
        → Leads (Some (file_of e)) (option_map refused_as o)
    by_refusal e is (Some k) why whole =
        refused (refused_as k) k (same_Some _ _ (same_back sizes l laws keeps h lt (Some k) (Some e) why))
        (ap (λ (x : Option Entry). join_at h v.seen x (write_refused x)) is ∙ ap (join_at h v.seen (Some e)) why)
    by_refusal e is None why whole =
        goes_on e (ap (λ (x : Option Entry). join_at h v.seen x (write_refused x)) is ∙ ap (join_at h v.seen (Some e)) why) Waiting refl (whole Waiting refl)

    by_entry : (o : Option Entry) → entry_of v.seen h fd ≡ o → ((b : Bool) → Waiting ≡ b → After (λ t. IsWholeLog t.log) (steps.in_log v.real.state (join_if h (log_of v.real) b)))
        → Leads (option_map file_of o) (option_map refused_as (write_refused o))
    by_entry None is whole = refused refused_variants.BadDescriptor causes.BadDescriptor refl (ap (λ (x : Option Entry). join_at h v.seen x (write_refused x)) is)
    by_entry (Some e) is whole = by_refusal e is (write_refused (Some e)) refl whole

  pub join_file_acts : (fd : ℕ) (m : JoinResult → Option above.Mark) → ActsOnceAt sizes l h (JoinFile fd) m (join_file fd)
  unfolding steps.exec premises.May premises.MayWait premises.Honest
  join_file_acts fd m =
      one_step sizes l laws keeps h (JoinFile fd) m (λ c. steps.JoinToWrite fd) (λ c. joining_to) (λ c a. c) (λ v. tt)
      (λ v c shows inv base may. ((lt, alone sizes l laws keeps h lt v shows may.1.1), λ x t. by v c shows inv base may (keeps_whole h x steps.Join v.real.state shows.whole (lt, alone sizes l laws keeps h lt v shows may.1.1) tt)))
    where
      by : (v : W) (c : Carry) → Shows v.real v.seen → Inv v.seen → Base h v.real v.seen c → rules.May sizes.version h (JoinFile fd) v.seen
          → After (λ t. IsWholeLog t.log) (steps.in_log v.real.state (join_if h (log_of v.real) (join_waits (log_of v.real).phase (length (log_of v.real).group) (joined (log_of v.real).members) (limit_of (log_of v.real).sizes))))
          → CameTo sizes l laws keeps h (JoinFile fd) v (join_waits (log_of v.real).phase (length (log_of v.real).group) (joined (log_of v.real).members) (limit_of (log_of v.real).sizes) ≡ true)
          (came_to h (steps.JoinToWrite fd) v.real (steps.join_unless h v.real.state (file_named h fd (tables_of v.real)) (refusal_of want.Write (file_named h fd (tables_of v.real))))) joining_to (λ a. c)
      by v c shows inv base may whole =
          let e = descriptors_name_files h fd (tables_of v.real) v.seen (loaded (tables_of v.real)) shows.tables inv (runs_here sizes l laws keeps h lt v may.0) in
          subst (λ (f : Option OpenFile). Leads fd v c shows base may f (refusal_of want.Write (file_named h fd (tables_of v.real)))) (sym e.0)
          (subst (λ (o : Option Refused). Leads fd v c shows base may (option_map file_of (entry_of v.seen h fd)) o) (sym e.2)
          (by_entry fd v c shows base may (entry_of v.seen h fd) refl (λ b is. subst (λ (z : Bool). After (λ t. IsWholeLog t.log) (steps.in_log v.real.state (join_if h (log_of v.real) z))) is whole)))
