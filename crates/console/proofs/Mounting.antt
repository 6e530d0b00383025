-- A disk in memory is mounted, and what is run on it; or it isn't mounted.
use Rattle.console.proofs.Vocabulary.{◌≡◌, ℕ, arith, Bool, true, false, List, [], Option, None, Result, Err, replicate, refl, sym, ap, ◌∙◌, subst, inl, inr, Vec, Global, blocks_of, sizes_of, buffer_count, hart_count, unused_from, IsPlaced, IsWellFormed, JudgesFault, fault_count_of, tree_in, MountFault, TreeData, IsSettled, HartsOf, never, KeptTree, Mode, ConsoleFault, of_mount, WhereSet, history_at, history_of, JudgesImage, RefusesDisk, bytes_for, KeptRun, PromptsImage, PromptsOn, PromptsReader, RunsReader, HandsOut, IsMountedOn, IsUntaken, RunsImage, RunsOn, TakesNoImage, SessionOf, known_at}
use Rattle.console.proofs.Vocabulary.{Version, version_in}
use Rattle.image_tree.specs.Damage.{JudgesFault as JudgesFaultAt}
use Rattle.group_log.specs.declared.phase.Phase.TheVariants.{Open}
use Rattle.image_tree.specs.declared.fault.MountFault.TheVariants as mounts
use Rattle.hart_core.specs.Mounting.{Rests}
use Rattle.console.specs.declared.fault.ConsoleFault.TheVariants as faults
use Rattle.console.proofs.Keeping.{history_is, prompts_again, reader_again}
use Rattle.console.proofs.Noting.{IsRun}

-- ---- a disk that isn't mounted

-- what is judged at the version that was found is judged of the disk
pub judged_at : (disk after : List (List ℕ)) (v : Version) (fault : MountFault) → after ≡ disk → v ≡ version_in disk → JudgesFaultAt v after fault → JudgesFault disk fault
judged_at disk after v fault kept found judges =
    subst (λ (d : List (List ℕ)). JudgesFaultAt (version_in d) d fault) kept
    (subst (λ (w : Version). JudgesFaultAt w after fault) (found ∙ ap version_in (sym kept)) judges)

pub mount_refused : (disk : List (List ℕ)) (fault : MountFault) → JudgesFault disk fault → fault_count_of fault 0 ≡ 0 → RefusesDisk disk (of_mount fault)
mount_refused disk (mounts.Damaged d) judged none = judged
mount_refused disk mounts.DeviceFault judged none = let bad : 1 ≡ 0 = none in absurd (omega (arith, bad))
mount_refused disk mounts.NoMemory judged none = tt

-- of one that is only examined
pub judged_so : (disk : List (List ℕ)) (fault : MountFault) → JudgesFault disk fault → fault_count_of fault 0 ≡ 0 → JudgesImage disk (of_mount fault)
judged_so disk (mounts.Damaged d) judged none = judged
judged_so disk mounts.DeviceFault judged none = let bad : 1 ≡ 0 = none in absurd (omega (arith, bad))
judged_so disk mounts.NoMemory judged none = tt

pub refused_judged : (disk : List (List ℕ)) (fault : ConsoleFault) → RefusesDisk disk fault → JudgesImage disk fault
refused_judged disk (faults.Image (mounts.Damaged d)) refuses = refuses
refused_judged disk (faults.Image mounts.DeviceFault) refuses = absurd refuses
refused_judged disk (faults.Image mounts.NoMemory) refuses = absurd refuses
refused_judged disk (faults.Read e) refuses = absurd refuses
refused_judged disk (faults.Write e) refuses = absurd refuses
refused_judged disk (faults.Line n why) refuses = absurd refuses
refused_judged disk (faults.Stopped stop) refuses = absurd refuses
refused_judged disk faults.Memory refuses = tt

untaken : (A : Type 0) (disk : List (List ℕ)) (fault : ConsoleFault) → RefusesDisk disk fault → IsUntaken {A = A} (Err fault)
untaken A disk (faults.Image f) refuses = tt
untaken A disk faults.Memory refuses = tt
untaken A disk (faults.Read e) refuses = absurd refuses
untaken A disk (faults.Write e) refuses = absurd refuses
untaken A disk (faults.Line n why) refuses = absurd refuses
untaken A disk (faults.Stopped stop) refuses = absurd refuses

-- nothing is printed then
pub not_taken : {A : Type 0} (disk : List (List ℕ)) (fault : ConsoleFault) (result : Result A ConsoleFault) (out : Option (List ℕ)) → result ≡ Err fault → RefusesDisk disk fault → TakesNoImage result out out
not_taken {A} disk fault result out is refuses = record { untaken = subst (λ (r : Result A ConsoleFault). IsUntaken r) (sym is) (untaken A disk fault refuses); silent = refl }

-- ---- a disk that is mounted, of these blocks

rests_on : (old new : List ℕ) (w : HartsOf (List ℕ)) → blocks_of old ≡ blocks_of new → Rests blocks_of never old w → Rests blocks_of never new w
rests_on old new w same rests = record {
  disk = subst (λ (b : List (List ℕ)). IsSettled b (blocks_of w.core.log.cache.device)) same rests.disk;
  whole = rests.whole;
  bytes = rests.bytes;
  placed = subst (λ (b : List (List ℕ)). IsPlaced (blocks_of w.core.log.cache.device) (sizes_of b)) same rests.placed;
  failures_are = rests.failures_are;
  log = subst
      (λ (b : List (List ℕ)). w.core.log ≡ record {
        cache = record { device = w.core.log.cache.device; seats = unused_from 0 buffer_count };
        sizes = sizes_of b;
        group = [];
        members = replicate hart_count None;
        phase = Open;
      })
      same rests.log;
  tables = rests.tables;
  runs = rests.runs;
  children = rests.children;
  idle = rests.idle;
}

pub mounted_on : (wanted : Bool) (bytes device : List ℕ) (base : TreeData) (s : SessionOf (List ℕ)) → blocks_of device ≡ blocks_of bytes → IsWellFormed (blocks_of device) → Rests blocks_of never device s.world.harts → s.world.sizes ≡ sizes_of (blocks_of device)
    → s.doing ≡ replicate 8 None → WhereSet wanted (base ≡ tree_in (blocks_of bytes)) (Unit {0}) → IsMountedOn wanted bytes base s
mounted_on wanted bytes device base s same well rests sizes idle is = record {
  starts = record {
    well = subst (λ (b : List (List ℕ)). IsWellFormed b) same well;
    mounted = record { rests = rests_on device bytes s.world.harts same rests; sizes = sizes ∙ ap (λ (b : List (List ℕ)). sizes_of b) same };
  };
  idle = idle;
  base_is = is;
}

-- ---- what is run on it

-- the tree is the image's if a history is wanted
wanted_base : (b : Bool) (base tree : TreeData) → b ≡ true → WhereSet b (base ≡ tree) (Unit {0}) → base ≡ tree
wanted_base true base tree is same = same
wanted_base false base tree is same = absurd (cc is)

unset : (b : Bool) (this other : Type 0) → b ≡ false → other → WhereSet b this other
unset true this other is holds = absurd (cc is)
unset false this other is holds = holds

module _ (mode : Mode) (bytes : List ℕ) (base : TreeData) (first last : SessionOf (List ℕ)) (on : IsMountedOn mode.explain bytes base first) where
  tells : mode.explain ≡ true → (begun kept : Option KeptTree) (run : KeptRun) (t : SessionOf (List ℕ)) → IsRun blocks_of never first.world.sizes first.world.harts begun run t.world.harts kept → (text : List ℕ) → history_at blocks_of never first base begun (known_at t kept) run text
      → history_of bytes begun (known_at t kept) run text
  tells is = history_is bytes base first on.starts (wanted_base mode.explain base (tree_in (blocks_of bytes)) is on.base_is)

  pub ran_on : (script : Option (List ℕ)) (ended : Result (Unit {0}) ConsoleFault) (result : Result (List ℕ) ConsoleFault) (out out' : Option (List ℕ)) → RunsReader blocks_of never mode (history_at blocks_of never first base) first script ended last out out'
      → HandsOut last.world.harts.core.log.cache.device ended result → RunsOn blocks_of never mode bytes bytes script result out out'
  ran_on script ended result out out' runs hands = record {
    first = first;
    last = last;
    ended = ended;
    rests = on.starts.mounted.rests;
    idle = on.idle;
    runs = reader_again blocks_of never mode (history_at blocks_of never first base) (history_of bytes) first tells script ended last out out' runs;
    hands = hands;
  }

  pub prompted_on : (help : List ℕ) (typed : Option (List ℕ)) (ended : Result (Unit {0}) ConsoleFault) (result : Result (List ℕ) ConsoleFault) (out out' : Option (List ℕ)) → PromptsReader blocks_of never help mode (history_at blocks_of never first base) first typed ended last out out'
      → HandsOut last.world.harts.core.log.cache.device ended result → PromptsOn blocks_of never help mode bytes bytes typed result out out'
  prompted_on help typed ended result out out' prompts hands = record {
    first = first;
    last = last;
    ended = ended;
    rests = on.starts.mounted.rests;
    idle = on.idle;
    runs = prompts_again blocks_of never mode (history_at blocks_of never first base) (history_of bytes) first tells help typed ended last out out' prompts;
    hands = hands;
  }

-- ---- on the image that is given, or a fresh one

pub image_run : (mode : Mode) (image : Option (Vec ℕ Global)) (bytes : List ℕ) (script : Option (List ℕ)) (result : Result (List ℕ) ConsoleFault) (out out' : Option (List ℕ)) → mode.check ≡ false → bytes ≡ bytes_for image
    → RunsOn blocks_of never mode bytes bytes script result out out' → RunsImage mode image script result out out'
image_run mode image bytes script result out out' unchecked is runs =
    unset mode.check _ _ unchecked (inl (subst (λ (b : List ℕ). RunsOn blocks_of never mode b b script result out out') is runs))

pub image_untaken : (mode : Mode) (image : Option (Vec ℕ Global)) (script : Option (List ℕ)) (result : Result (List ℕ) ConsoleFault) (out out' : Option (List ℕ)) → mode.check ≡ false → TakesNoImage result out out' → RunsImage mode image script result out out'
image_untaken mode image script result out out' unchecked none = unset mode.check _ _ unchecked (inr none)

pub image_prompted : (help : List ℕ) (mode : Mode) (image : Option (Vec ℕ Global)) (bytes : List ℕ) (typed : Option (List ℕ)) (result : Result (List ℕ) ConsoleFault) (out out' : Option (List ℕ)) → bytes ≡ bytes_for image
    → PromptsOn blocks_of never help mode bytes bytes typed result out out' → PromptsImage help mode image typed result out out'
image_prompted help mode image bytes typed result out out' is prompts =
    inl (subst (λ (b : List ℕ). PromptsOn blocks_of never help mode b b typed result out out') is prompts)
