-- Any two runs of the same events on one image agree, as long as the device doesn't fail.
use Rattle.run_laws.proofs.Vocabulary.{◌≡◌, inl, inr, ℕ, ◌+◌, ◌<◌, ◌≤◌, List, [], ◌∷◌, length, map, HartsOf, refl, sym, ◌∙◌, ap, subst, arith, cases_lt, None, replicate, Super, Version, sizes_of, tree_of, TreeData, at_rest, Reply, Call, EventOf, State, AllHonest, Sound, fresh, outcomes, run, Plain, OutcomeOf, Started, WasRefused as Refused, WasIdle, DidWait, DidRun, DidEnd, DidStop, WasStopped, all_by_kind, erase, plain_outcomes, plain_run, erase-outcomes, erase-run, Outside, Refusal, History, nothing_yet, history_of, block_moves, first, block_calls, block_code, is_code, served_calls, Event, AllAnswer, IsHistory, outcomes_of, WorldOf, calls_of, mountable, rests_erased, all_honest, first_sound, version_in}
use Rattle.block_device.specs.Blocks.{HasWholeBlocks, block_at}
use Rattle.block_device.specs.BlockLaws.{length-block_at}
use Rattle.buffer_cache.specs.Limits.{buffer_count, hart_count}
use Rattle.buffer_cache.specs.Seats.{unused_from}
use Rattle.std.proofs.lemmas.List.{get_or_past}
use Rattle.fs_layout.proofs.RecoveredDisk.{recovered-empty}
use Rattle.fs_layout.specs.Recovered.{IsOutsideLog}
use Rattle.fs_machine.specs.Fresh as tables
use Rattle.fs_machine.specs.Steps as steps
use Rattle.fs_machine.specs.declared.kind.Kind.{Kind}
use Rattle.group_log.specs.declared.phase.Phase.TheVariants.{Open}
use Rattle.hart_core.specs.Events.{came_of}
use Rattle.hart_core.specs.Mounting.{IsSettled}
use Rattle.hart_core.specs.declared.events.Came.{Came}
use Rattle.hart_core.specs.declared.events.Came.TheVariants as came
use Rattle.hart_core.specs.declared.outcome.Outcome.TheVariants as outcome
use Rattle.hart_core.specs.declared.outcome.Stop.TheVariants as stop
use Rattle.hart_core.specs.declared.starts.StartRefused.{StartRefused}
use Rattle.hart_core.specs.declared.starts.StartRefused.TheVariants as start
use Rattle.image_tree.proofs.OneDisk.{freed_disks_agree}
use Rattle.image_tree.specs.Damage as damage
use Rattle.image_tree.specs.Freeing.{IsFreedDisk}
use Rattle.inode_machine.specs.Theory as refusals
use Rattle.inode_machine.specs.World as above
use Rattle.inodes_on_blocks.specs.Mounted.{first_world, mounted, resting_state}
use Rattle.run_laws.proofs.AlikeLogs.{AgreeApart, state_over}
use Rattle.run_laws.proofs.AlikeRuns.{Alike, RunsAlike, runs_alike}
use Rattle.run_laws.specs.Agreeing.{IsRunOn, RunsAgree, RunsOnOneImageAgree}

-- ---- outcomes in the words of the calls say which they are

reason_back : Refusal → StartRefused
reason_back refusals.NoSuchHart = start.NoSuchHart
reason_back refusals.Busy = start.Busy
reason_back refusals.PathTooLong = start.PathTooLong
reason_back refusals.ZeroInPath = start.ZeroInPath
reason_back refusals.TooLong = start.TooLong
reason_back refusals.NotEmptyHart = start.NotEmptyHart
reason_back refusals.NotCovered = start.Busy

came_back : OutcomeOf Kind Reply Refusal → Came
came_back Started = came.Started
came_back (Refused why) = came.Refused (reason_back why)
came_back WasIdle = came.Stepped outcome.Idle
came_back DidWait = came.Stepped outcome.Waits
came_back (DidRun kind) = came.Stepped (outcome.Ran kind)
came_back (DidEnd reply) = came.Stepped (outcome.Done reply)
came_back DidStop = came.Stepped (outcome.Stopped stop.DeviceFault)
came_back WasStopped = came.Stepped (outcome.Stopped stop.Halted)

back_is : (c : Came) → came_back (came_of c) ≡ c
unfolding came_back reason_back
back_is came.Started = refl
back_is (came.Refused start.Busy) = refl
back_is (came.Refused start.PathTooLong) = refl
back_is (came.Refused start.ZeroInPath) = refl
back_is (came.Refused start.TooLong) = refl
back_is (came.Refused start.NoSuchHart) = refl
back_is (came.Refused start.NotEmptyHart) = refl
back_is (came.Stepped outcome.Idle) = refl
back_is (came.Stepped outcome.Waits) = refl
back_is (came.Stepped (outcome.Ran kind)) = refl
back_is (came.Stepped (outcome.Done reply)) = refl
back_is (came.Stepped (outcome.Stopped stop.DeviceFault)) = refl
back_is (came.Stepped (outcome.Stopped stop.Halted)) = refl

all_back : (cs : List Came) → map came_back (outcomes_of cs) ≡ cs
all_back [] = refl
all_back (c ∷ cs) = λ i. back_is c i ∷ all_back cs i

-- ---- disks of whole blocks that agree outside the log are as long

longer : (sizes : Super) (one other : List (List ℕ)) → HasWholeBlocks other → sizes.logstart + sizes.nlog ≤ length one
    → ((b : ℕ) → IsOutsideLog sizes b → block_at other b ≡ block_at one b) → length one < length other → ⊥
longer sizes one other whole within same lt =
    let at : length (block_at other (length one)) ≡ 1024 = length-block_at other (length one) whole lt in
    let past : block_at one (length one) ≡ [] = get_or_past one (length one) [] (omega arith) in
    let none : length (block_at other (length one)) ≡ 0 = ap (λ (bytes : List ℕ). length bytes) (same (length one) (inr within) ∙ past) in
    omega (arith, at, none)

as_long : (sizes : Super) (one other : List (List ℕ)) → HasWholeBlocks one → HasWholeBlocks other
    → sizes.logstart + sizes.nlog ≤ length one → sizes.logstart + sizes.nlog ≤ length other
    → ((b : ℕ) → IsOutsideLog sizes b → block_at other b ≡ block_at one b) → length other ≡ length one
as_long sizes one other first_whole whole first_within within same = elim (cases_lt (length one) (length other)) [
  | inl lt ↦ absurd (longer sizes one other whole first_within same lt)
  | inr le ↦ elim (cases_lt (length other) (length one)) [
    | inl lt ↦ absurd (longer sizes other one first_whole within (λ b out. sym (same b out)) lt)
    | inr ge ↦ omega (arith, le, ge)
  ]
]

-- ---- a run on an image

module _ {D : Type 0} (contents : D → List (List ℕ)) (failures : D → ℕ) (image : List (List ℕ)) where
  abbrev disk_of : WorldOf D → List (List ℕ)
  disk_of w = contents w.harts.core.log.cache.device

  abbrev count_of : WorldOf D → ℕ
  count_of w = failures w.harts.core.log.cache.device

  abbrev start_of : (sizes : Super) → WorldOf D → State (block_calls sizes)
  start_of sizes w = fresh (block_calls sizes) (first (disk_of w) (count_of w))

  -- a run in the theory, at these sizes
  record RunAt (sizes : Super) (w : WorldOf D) (cs : List Came) (history : List (EventOf Call Outside)) (new : HartsOf D) : Type 0 where
    pub honest : AllHonest (block_calls sizes) history (start_of sizes w)
    pub sound : Sound (block_calls sizes) (start_of sizes w)
    pub came_is : all_by_kind (block_calls sizes) (block_code sizes) (outcomes (block_calls sizes) history (start_of sizes w)) ≡ outcomes_of cs
    pub ends : erase (block_calls sizes) (block_code sizes) (run (block_calls sizes) history (start_of sizes w)) ≡ calls_of contents failures sizes new

  module _ (w : WorldOf D) (events : List Event) (cs : List Came) (history : List (EventOf Call Outside)) (on : IsRunOn contents failures image w events cs history) where
    settled : IsSettled image (disk_of w)
    settled = subst (λ (z : List (List ℕ)). IsSettled z (disk_of w)) on.blocks on.mounted.rests.disk

    sizes_are : w.sizes ≡ sizes_of image
    sizes_are = on.mounted.sizes ∙ ap sizes_of on.blocks

    freed : IsFreedDisk (version_in image) image (disk_of w)
    freed = record {
      sizes = settled.sizes;
      good = subst (λ (v : Version). damage.UpToLog v (disk_of w)) (ap (λ (z : Super). z.version) settled.sizes) settled.well.0.0.0.0.0.0.0.0.0;
      whole = on.mounted.rests.whole;
      bytes = on.mounted.rests.bytes;
      freed = settled.freed;
    }

    within : (sizes_of image).logstart + (sizes_of image).nlog ≤ length (disk_of w)
    within = subst (λ (z : Super). z.logstart + z.nlog ≤ length (disk_of w)) (ap sizes_of on.blocks) on.mounted.rests.placed.within

    run_at : (sizes : Super) → sizes ≡ w.sizes → RunAt sizes w cs history on.new
    run_at sizes same =
        let here : sizes ≡ sizes_of (disk_of w) = same ∙ sizes_are ∙ sym settled.sizes in
        let is = subst (λ (z : Super). IsHistory contents failures z w.harts events cs on.new history) (sym same) on.is in
        let begins_so : erase (block_calls sizes) (block_code sizes) (start_of sizes w) ≡ calls_of contents failures sizes w.harts =
        subst (λ (z : Super). erase (block_calls z) (block_code z) (start_of z w) ≡ calls_of contents failures z w.harts) (sym here)
        (rests_erased contents failures on.device w.harts on.mounted.rests) in
        record {
          honest = all_honest sizes history (start_of sizes w) (subst (AllAnswer sizes history) (sym begins_so) is.answers);
          sound =
              subst (λ (z : Super). Sound (block_calls z) (start_of z w)) (sym here)
              (first_sound (disk_of w) (count_of w) (mountable contents failures on.device w.harts on.mounted.rests));
          came_is =
              sym (erase-outcomes (block_calls sizes) (block_code sizes) (is_code sizes) history (start_of sizes w))
              ∙ ap (plain_outcomes (block_calls sizes) (block_code sizes) history) begins_so ∙ is.comes_to;
          ends =
              sym (erase-run (block_calls sizes) (block_code sizes) (is_code sizes) history (start_of sizes w))
              ∙ ap (plain_run (block_calls sizes) (block_code sizes) history) begins_so ∙ is.makes;
        }

  -- ---- two of them

  module _ (w v : WorldOf D) (events : List Event) (cs ds : List Came) (one two : List (EventOf Call Outside))
      (on : IsRunOn contents failures image w events cs one) (by : IsRunOn contents failures image v events ds two) where
    one_sizes : sizes_of (disk_of w) ≡ sizes_of (disk_of v)
    one_sizes = (settled w events cs one on).sizes ∙ sym (settled v events ds two by).sizes

    same_blocks : (b : ℕ) → IsOutsideLog (sizes_of image) b → block_at (disk_of v) b ≡ block_at (disk_of w) b
    same_blocks b out =
        sym (recovered-empty (disk_of v) b (settled v events ds two by).empty)
        ∙ sym (freed_disks_agree (version_in image) image (disk_of w) (disk_of v) (freed w events cs one on) (freed v events ds two by) b out)
        ∙ recovered-empty (disk_of w) b (settled w events cs one on).empty

    disks_agree : AgreeApart (sizes_of (disk_of w)) (disk_of w) (disk_of v)
    disks_agree = subst (λ (z : Super). AgreeApart z (disk_of w) (disk_of v)) (sym (settled w events cs one on).sizes) (record {
      long =
          as_long (sizes_of image) (disk_of w) (disk_of v) on.mounted.rests.whole by.mounted.rests.whole
          (within w events cs one on) (within v events ds two by) same_blocks;
      same = same_blocks;
    })

    states_are : state_over (disk_of v) (count_of v) (resting_state (disk_of w) (count_of w)) ≡ resting_state (disk_of v) (count_of v)
    states_are = λ i. record {
      log = record {
        contents = disk_of v;
        failures = count_of v;
        seats = unused_from 0 buffer_count;
        sizes = one_sizes i;
        group = [];
        members = replicate hart_count None;
        phase = Open;
      };
      tables = tables.fresh;
    }

    one_world : first_world (disk_of w) ≡ first_world (disk_of v)
    one_world = ap (λ (tree : TreeData). at_rest (tree_of tree)) ((settled w events cs one on).tree ∙ sym (settled v events ds two by).tree)

    alike_at_first : (sizes : Super) → Alike sizes (start_of sizes w) (start_of sizes v)
    alike_at_first sizes = (
      record { blocks = mounted (disk_of v) (count_of v); children = λ h. None },
      record { children = refl; states = record { disk = disk_of v; count = count_of v; is = states_are; agree = disks_agree } },
      ap
          (λ (g : above.World).
          fresh (block_calls sizes) (record { real = record { blocks = mounted (disk_of v) (count_of v); children = λ h. None }; seen = g })) one_world,
    )

    same_sizes : w.sizes ≡ v.sizes
    same_sizes = sizes_are w events cs one on ∙ sym (sizes_are v events ds two by)

    abbrev Programs : Type 0
    Programs = Plain (block_calls w.sizes) (block_code w.sizes)

    first_run : RunAt w.sizes w cs one on.new
    first_run = run_at w events cs one on w.sizes refl

    other_run : RunAt w.sizes v ds two by.new
    other_run = run_at v events ds two by w.sizes same_sizes

    runs : RunsAlike w.sizes one two (start_of w.sizes w) (start_of w.sizes v) nothing_yet
    runs =
        runs_alike w.sizes one two (start_of w.sizes w) (start_of w.sizes v) nothing_yet first_run.sound first_run.honest (alike_at_first w.sizes)
        (on.is.asks ∙ sym by.is.asks)
        (ap (λ (p : Programs). p.shared.state.log.failures) first_run.ends ∙ on.unfailed)
        (ap (λ (p : Programs). p.shared.state.log.failures) other_run.ends ∙ by.unfailed)

    came_same : outcomes_of cs ≡ outcomes_of ds
    came_same = sym first_run.came_is ∙ ap (all_by_kind (block_calls w.sizes) (block_code w.sizes)) runs.came ∙ other_run.came_is

    -- the blocks of the second run's end
    last_is : runs.ends.1.states.disk ≡ contents by.new.core.log.cache.device
    last_is =
        ap (λ (z : steps.State). z.log.contents) runs.ends.1.states.is
        ∙ ap (λ (z : State (block_calls w.sizes)). z.world.real.blocks.state.log.contents) runs.ends.2
        ∙ ap (λ (p : Programs). p.shared.state.log.contents) other_run.ends

    ends_agree : (b : ℕ) → IsOutsideLog on.new.core.log.sizes b
        → block_at (contents by.new.core.log.cache.device) b ≡ block_at (contents on.new.core.log.cache.device) b
    ends_agree b out =
        ap (λ (d : List (List ℕ)). block_at d b) (sym last_is)
        ∙ runs.ends.1.states.agree.same b (subst (λ (z : Super). IsOutsideLog z b) (sym (ap (λ (p : Programs). p.shared.state.log.sizes) first_run.ends)) out)
        ∙ ap (λ (p : Programs). block_at p.shared.state.log.contents b) first_run.ends

    they_agree : RunsAgree contents failures w v cs ds one two on.new by.new
    they_agree = record {
      outcomes = sym (all_back cs) ∙ ap (map came_back) came_same ∙ all_back ds;
      lists = ap (λ (b : History). b.list) runs.list ∙ ap (λ (z : Super). history_of z.version (block_moves z) (first (disk_of v) (count_of v)) two) same_sizes;
      room = λ clean.
          subst (λ (z : Super). (block_calls z).M.Clean (run (block_calls z) two (start_of z v)).world) same_sizes
          (subst (served_calls w.sizes.version).M.Clean (ap (λ (z : State (block_calls w.sizes)). z.world.seen) runs.ends.2) clean);
      blocks = ends_agree;
    }

pub runs_on_one_image_agree : {D : Type 0} (contents : D → List (List ℕ)) (failures : D → ℕ) (w v : WorldOf D) → RunsOnOneImageAgree contents failures w v
runs_on_one_image_agree contents failures w v image events cs ds one two on by = they_agree contents failures image w v events cs ds one two on by
