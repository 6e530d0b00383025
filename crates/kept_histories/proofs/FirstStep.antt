-- When an operation takes an inode's lock, its program may go on after the first step. Then the settled tree has the
-- inode as the world above has it on its disk.
use Rattle.std.specs.Prelude.{◌≡◌, ◌⊎◌, ◌*◌, ◌^◌, ◌<◌, ◌≤◌, ◌&&◌, ◌==◌, nat_lt, ℕ, Bool, true, false, if◌then◌else◌, IsSome, length, Option, Some, None}
use Rattle.std.specs.Option.{option_map}
use Rattle.inodes_on_blocks.proofs.Vocabulary.{refl, sym, ◌∙◌, ap, subst, inl, inr, arith, nat_tests, none-some, and_true, load_unless, Named, search, largest_size}
use Rattle.atomic_programs.specs.Joined.{Both, Handover, both}
use Rattle.atomic_programs.specs.Prog.{ExecResult, Waits, Ran, Stops, Ret, Do, bind, exec_result_in}
use Rattle.calls_on_blocks.specs.Layer.{World}
use Rattle.calls_on_blocks.specs.Theory.{block_calls}
use Rattle.fs_layout.specs.declared.inode.Dinode.{Dinode}
use Rattle.fs_layout.specs.declared.superblock.Super.{Super}
use Rattle.fs_machine.specs.InMemory.{Loaded}
use Rattle.fs_machine.specs.Inodes as inodes
use Rattle.fs_machine.specs.Inodes.{LockedState, Locks, Refuses, lock_file, lock_inode, is_positive, refusal_of}
use Rattle.fs_machine.specs.LogPart.{Outside}
use Rattle.fs_machine.specs.Premises as premises
use Rattle.fs_machine.specs.Steps as steps
use Rattle.fs_machine.specs.Tables.{TablesState, file_named}
use Rattle.fs_machine.specs.declared.files.OpenFile.{OpenFile}
use Rattle.fs_machine.specs.declared.files.Refused.{Refused}
use Rattle.fs_machine.specs.declared.files.Want.TheVariants as want
use Rattle.inode_machine.proofs.Vocabulary.{settle_alive, settle_or}
use Rattle.inode_machine.specs.Exec.{entry_of, is_dead, read_refused}
use Rattle.inode_machine.specs.Inodes.{Query, Sight, AtNothing, AtName, AtEntries}
use Rattle.inode_machine.specs.Rules.{Inv}
use Rattle.inode_machine.specs.Rules.{machine}
use Rattle.inode_machine.specs.World as above
use Rattle.inode_machine.specs.World.Op.{LockFile, Take}
use Rattle.inodes_on_blocks.proofs.Basics.{by_lock, descriptors_name_files, live_is, place_there, unkept_old, unlocked_holds}
use Rattle.inodes_on_blocks.proofs.StatSteps.{in_use}
use Rattle.inodes_on_blocks.specs.Below.{came_to, disk_of, inode_in, log_of, tables_of}
use Rattle.fs_machine.specs.Steps.{in_tables}
use Rattle.inodes_on_blocks.specs.Handlers.{Acts, P, acts}
use Rattle.inodes_on_blocks.specs.Holds.{HoldsAt, size_in}
use Rattle.inodes_on_blocks.specs.Lowering.{Carry}
use Rattle.inodes_on_blocks.specs.Files.{file_locked}
use Rattle.inodes_on_blocks.specs.Programs.{handlers}
use Rattle.inodes_on_blocks.specs.Reading.{learned, looked, number_found, seen_record}
use Rattle.inodes_on_blocks.specs.Shown.{Shows}
use Rattle.inodes_on_blocks.specs.ShownTables.{loaded, refused_as}
use Rattle.plain_tree.specs.Tree.{Tree, is_directory, is_live, live_directory, settle}
use Rattle.plain_tree.specs.declared.answer.Cause.{Cause}
use Rattle.plain_tree.specs.declared.node.Node.{Node}
use Rattle.plain_tree.specs.declared.node.NodeKind.{NodeKind}
use Rattle.plain_tree.specs.declared.node.NodeKind.TheVariants.{Directory, File, Device}
use Rattle.inode_machine.specs.Vocabulary.{hart_count}
use Rattle.tree_histories.specs.Sights.{FewSlots, FewSlotsIn}
use Rattle.kept_histories.proofs.Controls.{at_end}
use Rattle.inodes_on_blocks.specs.Vocabulary.{Searched, is_directory as is_directory_record}
use Rattle.fs_layout.specs.Recovered.{sizes_of, version_in}
use Rattle.image_versions.proofs.Places.{in_range}
use Rattle.image_versions.specs.Versions.{dirent_len_of}
use Rattle.image_versions.specs.declared.version.Version.{Version}
use Rattle.std.proofs.lemmas.Nat.{mul-le}

abbrev pub W : Type 0
W = Both World above.World

-- the program's first step ran, and the program isn't at its end: then it is so
abbrev pub GoesOn : Super → ℕ → W → Type 0 → {A : Type 0} → P A → Type 0
GoesOn sizes h w Goal (Ret a) = Unit {0}
GoesOn sizes h w Goal (Do op m k) =
    (x : Outside) (b : steps.Answer op) (u : W) → (block_calls sizes).M.May h op w → (block_calls sizes).M.go h x op m w ≡ Ran b u
    → at_end (k b) ≡ false → Goal

-- the settled tree has inode n as the world above has it on disk
pub record ShownAlike (version : Version) (t : Tree) (w : above.World) (n : ℕ) : Type 0 where
  pub same : t.nodes n ≡ w.disk n
  pub below : n < t.ninodes
  pub few : FewSlotsIn version (t.nodes n)

-- a record is that of a directory with links
abbrev live_record : Dinode → Bool
live_record d = is_directory_record d && is_positive d.nlink

-- ---- tables

never_ran : {A S : Type 0} (a : A) (s : S) → ◌≡◌ {A = ExecResult A S} Waits (Ran a s) → ⊥
never_ran a s e = (let q : Waits ≡ Ran a s = e in cc)

same_answer : {A S : Type 0} (a b : A) (s t : S) → ◌≡◌ {A = ExecResult A S} (Ran a s) (Ran b t) → a ≡ b
same_answer a b s t e = cc

-- a step of the tables ran there
on_tables : (version : Version) (h : ℕ) (op : steps.Op) (m : steps.Answer op → Option Acts) (w : W) (d : ExecResult (steps.Answer op) TablesState) (b : steps.Answer op)
    (u : W)
    → both (machine version) h m w.seen (exec_result_in (λ v. record (w.real) { blocks = v }) (came_to h op w.real.blocks (in_tables w.real.blocks.state d))) ≡ Ran b u → (t : TablesState) × (d ≡ Ran b t)
on_tables version h op m w Waits b u e = absurd (never_ran b u e)
on_tables version h op m w (Stops t) b u e = absurd (let q : Stops _ ≡ Ran b u = e in cc)
on_tables version h op m w (Ran a t) b u e = (t, ap (λ (z : steps.Answer op). Ran z t) (same_answer a b _ u e))

-- ---- an inode that is looked at

-- a directory's slots are few in each version, if they take no more than a content has in one
few_slots : (d v : Version) (n size : ℕ) → size ≡ dirent_len_of d * n → size ≤ largest_size → dirent_len_of v * n < 2 ^ 64
few_slots d v n size is limit =
    let least = mul-le 16 n (dirent_len_of d) n (in_range d).2 (omega arith) in
    let most = mul-le (dirent_len_of v) n 32 n (in_range v).3 (omega arith) in
    omega (arith, is, limit, least, most)

module _ (sizes : Super) (h n : ℕ) (w : W) (lt : h < hart_count) (shows : Shows w.real.blocks w.seen) (inv : Inv w.seen) (shared : w.seen.alone n ≡ false) where
  abbrev t : TablesState
  t = tables_of w.real.blocks

  -- the version that the disk says
  abbrev here : Version
  here = version_in (disk_of (log_of w.real.blocks))

  abbrev goal : Type 0
  goal = ShownAlike sizes.version (settle w.seen.all) w.seen n

  -- if nobody has its lock, nobody keeps it
  unkept : w.seen.lock n ≡ None → w.seen.keeper n ≡ None
  unkept free = by (w.seen.keeper n) refl
    where
      by : (o : Option ℕ) → w.seen.keeper n ≡ o → w.seen.keeper n ≡ None
      by None e = e
      by (Some g) e = elim (inv.held n g e) [
        | inl mine ↦ absurd (none-some g (sym free ∙ mine))
        | inr lone ↦ absurd (let q : true ≡ false = sym lone ∙ shared in cc)
      ]

  module _ (free : w.seen.lock n ≡ None) (some : 0 < w.seen.refs n) where
    whole : w.seen.disk n ≡ w.seen.all.nodes n
    whole = inv.whole n (unkept free)

    holds : HoldsAt (disk_of (log_of w.real.blocks)) w.real.blocks.owner n (w.seen.disk n)
    holds = let range = shows.tables.range n some in unlocked_holds h lt w.real.blocks w.seen shows n free (unkept_old w.real.blocks w.seen shows n (unkept free)) range.0 range.1

    abbrev Stays : Type 0
    Stays = (w.seen.disk n ≡ None) ⊎ (is_live (w.seen.disk n) ≡ true)

    few : (o : Option Node) → HoldsAt (disk_of (log_of w.real.blocks)) w.real.blocks.owner n o → FewSlotsIn sizes.version o
    few None held = tt
    few (Some v) held = by v.kind held.inode.size
      where
        limit : (inode_in (log_of w.real.blocks) n).size ≤ largest_size
        limit = (held.room (in_use here (inode_in (log_of w.real.blocks) n) v held.inode)).limit

        by : (k : NodeKind) → (inode_in (log_of w.real.blocks) n).size ≡ size_in here k → FewSlots sizes.version k
        by (Directory slots) e = few_slots here sizes.version (length slots) (inode_in (log_of w.real.blocks) n).size e limit
        by (File bytes) e = tt
        by (Device major minor size) e = tt

    alike : Stays → goal
    unfolding settle
    alike stays = record { same = same; below = (shows.tables.range n some).1; few = subst (FewSlotsIn sizes.version) (sym same) (few (w.seen.disk n) holds) }
      where
        none : w.seen.disk n ≡ None → (settle w.seen.all).nodes n ≡ w.seen.all.nodes n
        none e = elim (settle_or w.seen.all n) [
          | inl q ↦ q
          | inr q ↦ q.0 ∙ sym e ∙ whole
        ]

        same : (settle w.seen.all).nodes n ≡ w.seen.disk n
        same = elim stays [
          | inl e ↦ none e ∙ sym whole
          | inr e ↦ settle_alive w.seen.all n (ap is_live (sym whole) ∙ e) ∙ sym whole
        ]

    -- it isn't loaded
    unloaded : loaded t n ≡ None → Stays
    unloaded none = by (w.seen.disk n) refl
      where
        by : (o : Option Node) → w.seen.disk n ≡ o → Stays
        by None e = inl e
        by (Some v) e = count (v.count == 0) refl
          where
            count : (b : Bool) → (v.count == 0) ≡ b → Stays
            count true q = absurd (let l : IsSome (loaded t n) = shows.loads.dead n some free (unkept free) (ap is_dead e ∙ q) in let k : IsSome {T = Loaded} None = subst (λ (o : Option Loaded). IsSome o) none l in cc k)
            count false q = inr (ap is_live e ∙ grind (arith, nat_tests, q))

    -- it is, and its record is that of a live directory
    seen_alive : (l : Loaded) → loaded t n ≡ Some l → live_record l.inode ≡ true → Stays
    seen_alive l is live = by (w.seen.disk n) refl holds
      where
        by : (o : Option Node) → w.seen.disk n ≡ o → HoldsAt (disk_of (log_of w.real.blocks)) w.real.blocks.owner n o → Stays
        by None e held = inl e
        by (Some v) e held =
            let used = in_use here (inode_in (log_of w.real.blocks) n) v held.inode in
            let same : live_directory (Some v) ≡ true = sym (live_is (sizes_of (disk_of (log_of w.real.blocks))) (disk_of (log_of w.real.blocks)) refl w.real.blocks.owner n v held used) ∙ ap live_record (sym (shows.loads.seen n l is)) ∙ live in
            inr (ap is_live e ∙ (and_true (nat_lt 0 v.count) (is_directory v.kind) same).0)

  -- what is loaded, and that the program goes on
  goes_on : (looking : Query) (c : Carry) (free : w.seen.lock n ≡ None) (some : 0 < w.seen.refs n) → (looking ≡ AtEntries → is_live (w.seen.all.nodes n) ≡ true)
      → (o : Option Loaded) → loaded t n ≡ o → at_end (bind (load_unless {M = Acts} sizes.inodestart n o) (looked sizes.version looking c n)) ≡ false → Stays free some
  goes_on looking c free some live None e on = unloaded free some e
  goes_on AtNothing c free some live (Some l) e on = absurd (let q : true ≡ false = on in cc)
  goes_on AtEntries c free some live (Some l) e on = inr (ap is_live (whole free some) ∙ live refl)
  goes_on (AtName name) c free some live (Some l) e on = by (live_record l.inode) refl
    where
      none : P Searched
      none = Ret (record { found = None; index = l.index })

      then_ : Searched → P (Handover Sight Carry)
      then_ o = seen_record c n (record l { index = o.index }) (learned name o.found) (number_found o.found) true

      by : (b : Bool) → live_record l.inode ≡ b → Stays free some
      by true q = seen_alive free some l e q
      by false q = absurd (let z : true ≡ false = sym (ap (λ (b : Bool). at_end (bind (if b then search sizes.version (Named name) l else none) then_)) q) ∙ on in cc)

  pub take_goes : (looking : Query) (c : Carry) (m : Sight → Option above.Mark) → (looking ≡ AtEntries → is_live (w.seen.all.nodes n) ≡ true) → GoesOn sizes h w goal (handlers sizes c (Take n looking) m)
  unfolding premises.May steps.exec
  take_goes looking c m live = λ x b u may ran on.
      let some : 0 < w.seen.refs n = subst (λ (k : ℕ). 0 < k) (sym (shows.tables.places.counts n)) may.0 in
      let p = place_there n t w.seen (loaded t) shows.tables some in
      let r = on_tables sizes.version h (steps.Lock n) (λ _. acts (Take n looking) above.Room m) w (lock_inode h n t) b u ran in
      by_lock h n p.0 t w.seen (loaded t) shows.tables p.1 goal
      (λ waits g out. absurd (never_ran b r.0 (sym waits ∙ r.1)))
      (λ z had free after.
      let is : loaded t n ≡ b = same_answer (loaded t n) b z r.0 (sym had ∙ r.1) in
      alike free some (goes_on looking c free some live (loaded t n) refl (subst (λ (o : Option Loaded). at_end (bind (load_unless {M = Acts} sizes.inodestart n o) (looked sizes.version looking c n)) ≡ false) (sym is) on)))

-- ---- an open file

module _ (sizes : Super) (h fd : ℕ) (w : W) (lt : h < hart_count) (free : (w.seen.desks h).lender ≡ None) (shows : Shows w.real.blocks w.seen) (inv : Inv w.seen) where
  abbrev now : TablesState
  now = tables_of w.real.blocks

  -- it may be read
  readable : (o : Option Cause) → option_map refused_as o ≡ None → o ≡ None
  readable None e = refl
  readable (Some k) e = absurd (let q : Some (refused_as k) ≡ None = e in cc)

  refuses : (f : Option OpenFile) (why : Option Refused) (b : LockedState) (z : TablesState) (c : Carry) → inodes.lock_unless h now f why ≡ Ran b z → at_end (file_locked sizes fd c b) ≡ false → why ≡ None
  refuses f None b z c e on = refl
  refuses f (Some r) b z c e on = absurd (let q : true ≡ false = ap (λ (y : LockedState). at_end (file_locked sizes fd c y)) (same_answer (Refuses r) b now z e) ∙ on in cc)

  pub file_goes : (c : Carry) (m : above.LockResult → Option above.Mark) → GoesOn sizes h w (read_refused (entry_of w.seen h fd) ≡ None) (handlers sizes c (LockFile fd) m)
  unfolding premises.May steps.exec lock_file
  file_goes c m = λ x b u may ran on.
      let r = on_tables sizes.version h (steps.LockFile want.Read fd) (λ _. acts (LockFile fd) above.Room m) w (lock_file h want.Read fd now) b u ran in
      let none = refuses (file_named h fd now) (refusal_of want.Read (file_named h fd now)) b r.0 c r.1 on in
      let names = descriptors_name_files h fd now w.seen (loaded now) shows.tables inv (record { below = lt; free = free }) in
      readable (read_refused (entry_of w.seen h fd)) (sym names.1 ∙ none)
