-- The operation that a call asks next: a claim and a leave are marked for no move, and a read alone asks to read.
use Rattle.std.specs.Prelude.{◌⊎◌, ℕ, Bool, true, false, List, [], ◌∷◌, Option, Some, None, if◌then◌else◌}
use Rattle.calls_on_blocks.proofs.Vocabulary.{inl, inr}
use Rattle.atomic_programs.specs.Prog.{Ret, Do}
use Rattle.inode_machine.specs.Naming.{in_parent, link_name, mkdir_in, unlink_in as unlink_whole}
use Rattle.inode_machine.specs.Opening.{mends_unless_new, open_new}
use Rattle.inode_machine.specs.Opening.{open_old}
use Rattle.inode_machine.specs.Parts as programs
use Rattle.inode_machine.specs.World as above
use Rattle.inode_machine.specs.World.Mark.{Makes}
use Rattle.inode_machine.specs.World.Op.{Claim, Leave, ReadFile}
use Rattle.inode_parts.specs.Calls.{IsReading}
use Rattle.path_walk.specs.Walks.{After, walk_of}
use Rattle.path_walk.specs.declared.walk.Goal.{Goal}
use Rattle.path_walk.specs.declared.walk.Walk.{Walk}
use Rattle.path_walk.specs.declared.walk.Walk.TheVariants as walking
use Rattle.plain_tree.specs.declared.answer.Reply.{Reply}
use Rattle.plain_tree.specs.declared.call.Call.{Call}
use Rattle.plain_tree.specs.declared.step.Action.{Action}
use Rattle.path_walk.specs.declared.walk.Goal.TheVariants as goal
use Rattle.plain_tree.specs.declared.call.Call.TheVariants as calls
use Rattle.plain_tree.specs.declared.step.Action.TheVariants as steps
use Rattle.plain_tree.specs.Steps.{creates}
use Rattle.whole_calls.specs.Calls.{chdir_after, chdir_of, dup_of, stat_of, unlink_after, unlink_of}
use Rattle.whole_calls.specs.Closes.{close_of, inherit_of}
use Rattle.whole_calls.specs.Ends.{dropping_of, ending_of, freeing_of}
use Rattle.whole_calls.specs.Links.{link_of, new_after, old_after}
use Rattle.whole_calls.specs.Makes.{mkdir_after, mkdir_of}
use Rattle.whole_calls.specs.Opens.{open_after, open_goal, open_of}
use Rattle.whole_calls.specs.Wholes.{whole_of}
use Rattle.whole_calls.specs.Writes.{write_of}
use Rattle.whole_calls.specs.declared.chdir.Chdir.{Chdir}
use Rattle.whole_calls.specs.declared.chdir.Chdir.TheVariants as chdir
use Rattle.whole_calls.specs.declared.close.Close.{Close}
use Rattle.whole_calls.specs.declared.close.Close.TheVariants as closing
use Rattle.whole_calls.specs.declared.close.Inherit.{Inherit}
use Rattle.whole_calls.specs.declared.close.Inherit.TheVariants as inheriting
use Rattle.whole_calls.specs.declared.descriptors.Dup.{Dup}
use Rattle.whole_calls.specs.declared.descriptors.Dup.TheVariants as dup
use Rattle.whole_calls.specs.declared.descriptors.Fstat.{Fstat}
use Rattle.whole_calls.specs.declared.descriptors.Fstat.TheVariants as fstat
use Rattle.whole_calls.specs.declared.dropping.Dropping.{Dropping}
use Rattle.whole_calls.specs.declared.dropping.Dropping.TheVariants as dropping
use Rattle.whole_calls.specs.declared.ending.Ending.{Ending}
use Rattle.whole_calls.specs.declared.ending.Ending.TheVariants as ending
use Rattle.whole_calls.specs.declared.ending.Freeing.{Freeing}
use Rattle.whole_calls.specs.declared.ending.Freeing.TheVariants as freeing
use Rattle.whole_calls.specs.declared.link.Link.{Link}
use Rattle.whole_calls.specs.declared.link.Link.TheVariants as linking
use Rattle.whole_calls.specs.declared.mkdir.Mkdir.{Mkdir}
use Rattle.whole_calls.specs.declared.mkdir.Mkdir.TheVariants as making
use Rattle.whole_calls.specs.declared.opens.Open.{Open}
use Rattle.whole_calls.specs.declared.opens.Open.TheVariants as opening
use Rattle.whole_calls.specs.declared.reading.Read.TheVariants as reading
use Rattle.whole_calls.specs.declared.unlink.Unlink.{Unlink}
use Rattle.whole_calls.specs.declared.unlink.Unlink.TheVariants as unlink
use Rattle.whole_calls.specs.declared.whole.Whole.{Whole}
use Rattle.whole_calls.specs.declared.whole.Whole.TheVariants as whole
use Rattle.whole_calls.specs.declared.writing.Write.{Write}
use Rattle.plain_tree.specs.Tree.{elements}
use Rattle.whole_calls.specs.declared.writing.Write.TheVariants as writing
use Rattle.image_versions.specs.declared.version.Version.{Version}

-- a mark for which no move is made
abbrev pub MakesNone : Option above.Mark → Type 0
MakesNone None = Unit {0}
MakesNone (Some (Makes v)) = ⊥
MakesNone (Some m) = Unit {0}

abbrev pub IsFineOp : (op : above.Op) → (above.Answer op → Option above.Mark) → Type 0
IsFineOp (ReadFile fd n offset count) m = ⊥
IsFineOp Leave m = (a : Unit {0}) → MakesNone (m a)
IsFineOp (Claim inode_type) m = (a : above.ClaimResult) → MakesNone (m a)
IsFineOp op m = Unit {0}

abbrev pub IsFine : programs.P Reply → Type 0
IsFine (Ret r) = Unit {0}
IsFine (Do op m k) = IsFineOp op m

-- ---- each call, wherever it is

fine_walk : (version : Version) (s : Action) (path : List ℕ) (after : After) (to : Goal) (ns : List ℕ) (w : Walk) → IsFine (walk_of version s path after to ns w)
fine_walk version s path after to ns walking.Start = tt
fine_walk version s path after to ns (walking.Look d e) = tt
fine_walk version s path after to ns (walking.See d e) = tt
fine_walk version s path after to ns (walking.Up d j rest) = tt
fine_walk version s path after to ns (walking.UnlockInode d then_) = tt
fine_walk version s path after to ns (walking.Down d then_) = tt
fine_walk version s path after to ns (walking.Leave d e) = tt

fine_dropping : (k : programs.P Reply) (d : Dropping) → IsFine (dropping_of k d)
fine_dropping k (dropping.UnlockInode n) = tt
fine_dropping k (dropping.Down n) = tt
fine_dropping k (dropping.Free n) = tt
fine_dropping k (dropping.GiveFreed n) = tt
fine_dropping k (dropping.Forget n) = tt

fine_freeing : (k : programs.P Reply) (f : Freeing) → IsFine (freeing_of k f)
fine_freeing k (freeing.Join n) = tt
fine_freeing k (freeing.Take n) = tt
fine_freeing k (freeing.Frees d) = fine_dropping _ d
fine_freeing k freeing.Leave = λ a. tt

fine_ending : (call : Call) (ns : List ℕ) (e : Ending) → IsFine (ending_of call ns e)
fine_ending call ns (ending.GivesTwo d n a) = fine_dropping _ d
fine_ending call ns (ending.Gives d a) = fine_dropping _ d
fine_ending call ns (ending.Leaves a) = λ b. tt
fine_ending call ns (ending.Frees f a) = fine_freeing _ f
fine_ending call ns (ending.Says a) = tt

fine_parent : (call : Call) (s : Action) (path : List ℕ) (k : ℕ → List ℕ → List ℕ → programs.P Reply) (es : List (List ℕ)) → IsFine (in_parent call s path k es)
fine_parent call s path k [] = tt
fine_parent call s path k (e ∷ es) = tt

fine_new : (path : List ℕ) (flags : ℕ) (es : List (List ℕ)) → IsFine (open_new path flags es)
fine_new path flags [] = tt
fine_new path flags (e ∷ es) = tt

fine_open : (version : Version) (path : List ℕ) (flags : ℕ) (ns : List ℕ) (c : Open) → IsFine (open_of version path flags ns c)
fine_open version path flags ns opening.Join = by (creates flags)
  where
    by : (b : Bool) → IsFine (if b then open_new path flags (elements version path) else open_old version path flags)
    by true = fine_new path flags (elements version path)
    by false = tt
fine_open version path flags ns (opening.Walks w) = fine_walk version (steps.Open path flags) path (open_after path flags) (open_goal flags) ns w
fine_open version path flags ns (opening.GiveParent d n) = fine_dropping _ d
fine_open version path flags ns (opening.Claim d e) = claims
  where
    claims : (a : above.ClaimResult) → MakesNone (mends_unless_new a)
    claims (above.New n) = tt
    claims above.NoInode = tt
    claims above.NoPlace = tt
fine_open version path flags ns (opening.GiveEntered d n inode_type) = fine_dropping _ d
fine_open version path flags ns (opening.Ends e) = fine_ending _ ns e
fine_open version path flags ns c = tt

fine_mkdir : (version : Version) (path ns : List ℕ) (c : Mkdir) → IsFine (mkdir_of version path ns c)
fine_mkdir version path ns making.Join = fine_parent (calls.Mkdir path) (steps.Mkdir path) path (mkdir_in path) (elements version path)
fine_mkdir version path ns (making.Walks w) = fine_walk version (steps.Mkdir path) path (mkdir_after path) goal.Parent ns w
fine_mkdir version path ns (making.Claim d e f) = claims
  where
    claims : (a : above.ClaimResult) → MakesNone (mends_unless_new a)
    claims (above.New n) = tt
    claims above.NoInode = tt
    claims above.NoPlace = tt
fine_mkdir version path ns (making.Ends e) = fine_ending _ ns e
fine_mkdir version path ns c = tt

fine_chdir : (version : Version) (path ns : List ℕ) (c : Chdir) → IsFine (chdir_of version path ns c)
fine_chdir version path ns (chdir.Walks w) = fine_walk version (steps.Chdir path) path (chdir_after path) goal.Inside ns w
fine_chdir version path ns (chdir.Ends e) = fine_ending _ ns e
fine_chdir version path ns c = tt

fine_unlink : (version : Version) (path ns : List ℕ) (c : Unlink) → IsFine (unlink_of version path ns c)
fine_unlink version path ns unlink.Join = fine_parent (calls.Unlink path) (steps.Unlink path) path (unlink_whole path) (elements version path)
fine_unlink version path ns (unlink.Walks w) = fine_walk version (steps.Unlink path) path (unlink_after path) goal.Parent ns w
fine_unlink version path ns (unlink.GiveParent d n g) = fine_dropping _ d
fine_unlink version path ns (unlink.Ends e) = fine_ending _ ns e
fine_unlink version path ns c = tt

fine_named : (old new : List ℕ) (n : ℕ) (ns : List ℕ) (es : List (List ℕ)) → IsFine (link_name old new n ns es)
fine_named old new n ns [] = tt
fine_named old new n ns (e ∷ es) = tt

fine_link : (version : Version) (old new ns : List ℕ) (c : Link) → IsFine (link_of version old new ns c)
fine_link version old new ns (linking.WalksOld w) = fine_walk version (steps.Find old) old (old_after version old new) goal.Inside ns w
fine_link version old new ns (linking.UnlockInode n) = fine_named old new n ns (elements version new)
fine_link version old new ns (linking.WalksNew w n) = fine_walk version (steps.Enter new) new (new_after old new n) goal.Parent ns w
fine_link version old new ns (linking.GiveNamed d n) = fine_dropping _ d
fine_link version old new ns (linking.GiveFailed d n a) = fine_dropping _ d
fine_link version old new ns (linking.Ends e) = fine_ending _ ns e
fine_link version old new ns c = tt

fine_write : (fd : ℕ) (bytes : List ℕ) (c : Write) → IsFine (write_of fd bytes c)
fine_write fd bytes (writing.Leave p w) = λ a. tt
fine_write fd bytes c = tt

fine_close : (fd : ℕ) (c : Close) → IsFine (close_of fd c)
fine_close fd (closing.Drops d) = fine_dropping _ d
fine_close fd closing.Leave = λ a. tt
fine_close fd c = tt

fine_inherit : (child : ℕ) (c : Inherit) → IsFine (inherit_of child c)
fine_inherit child (inheriting.Drops d) = fine_dropping _ d
fine_inherit child inheriting.Leave = λ a. tt
fine_inherit child c = tt

fine_dup : (fd : ℕ) (c : Dup) → IsFine (dup_of fd c)
fine_dup fd dup.Double = tt
fine_dup fd (dup.Says a) = tt

fine_stat : (fd : ℕ) (c : Fstat) → IsFine (stat_of fd c)
fine_stat fd fstat.Look = tt
fine_stat fd (fstat.UnlockInode n a) = tt
fine_stat fd (fstat.Says a) = tt

pub reads_or_fine : (version : Version) (ns : List ℕ) (w : Whole) → IsReading w ⊎ IsFine (whole_of version ns w)
reads_or_fine version ns (whole.Open path flags c) = inr (fine_open version path flags ns c)
reads_or_fine version ns (whole.Read fd buf reading.Lock) = inr tt
reads_or_fine version ns (whole.Read fd buf (reading.Part n offset)) = inl tt
reads_or_fine version ns (whole.Read fd buf (reading.Says count)) = inr tt
reads_or_fine version ns (whole.Write fd bytes c) = inr (fine_write fd bytes c)
reads_or_fine version ns (whole.Link old new c) = inr (fine_link version old new ns c)
reads_or_fine version ns (whole.Unlink path c) = inr (fine_unlink version path ns c)
reads_or_fine version ns (whole.Mkdir path c) = inr (fine_mkdir version path ns c)
reads_or_fine version ns (whole.Chdir path c) = inr (fine_chdir version path ns c)
reads_or_fine version ns (whole.Dup fd c) = inr (fine_dup fd c)
reads_or_fine version ns (whole.Fstat fd c) = inr (fine_stat fd c)
reads_or_fine version ns (whole.Close fd c) = inr (fine_close fd c)
reads_or_fine version ns (whole.Inherit child c) = inr (fine_inherit child c)
