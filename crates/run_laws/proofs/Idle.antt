-- A hart without a call has begun nothing; and if no hart has one, nothing remains of any call.
use Rattle.run_laws.proofs.Vocabulary.{◌≡◌, ◌≢◌, ℕ, Bool, true, false, if◌then◌else◌, List, Option, Some, None, get_or, sym, ◌∙◌, ap, subst, Super, sizes_of, Call, eq_self, Theory, AllHonest, EventOf, State, fresh, run, Holds, IsExplained, program_at, Code, Plain, erase, plain_run, erase-run, explains, Outside, Running, running_of, Held, Idle, Inv, if_kept, view, Shows, loaded, IsMountable, ShowsItsTree, mounts_show_their_trees, quiet_worlds_are_images, first, block_calls, block_code, first_holds, first_idle, is_code, lawful, HartsOf, AllAnswer, IsHistory, WorldOf, calls_of, all_honest, mountable, rests_erased, nones, CountsReferences, HasBegunNothing, IdleHartsAreThrough, IdleHartsHaveBegunNothing, NothingIsLeft}
use Rattle.fs_machine.specs.Steps as steps
use Rattle.inode_machine.specs.World as above
use Rattle.hart_core.specs.Harts.{shared_of}
use Rattle.run_laws.proofs.IdleCounts.{all_counted, no_place_taken, none_more}
use Rattle.run_laws.proofs.IdleRuns.{idle_runs}
use Rattle.hart_core.proofs.Keeping.{none_of}

abbrev Calls : Type 0
Calls = List (Option Running)

-- ---- one hart

keeps_none : (h : ℕ) (o : Option ℕ) (x : Held) → if_kept o h x ≡ None → o ≢ Some h
keeps_none h o x none is = absurd (
    let kept : Some x ≡ if_kept (Some h) h x = ap (λ (b : Bool). if b then Some x else None) (sym (eq_self h)) in
    let e : Some x ≡ None = kept ∙ ap (λ (p : Option ℕ). if_kept p h x) (sym is) ∙ none in
    cc)

begun_nothing : (h : ℕ) (w : above.World) → Idle h w → HasBegunNothing h w
begun_nothing h w rests = record {
  link = rests.hold;
  references = rests.refs;
  inodes = λ n. keeps_none h (w.keeper n) (view w h n) (ap (λ (f : ℕ → Option Held). f n) rests.inodes);
  place = rests.hand;
}

-- ---- the states to which the events of a mounted disk lead

module _ {D : Type 0} (contents : D → List (List ℕ)) (failures : D → ℕ) (disk : List (List ℕ)) (count : ℕ) (may : IsMountable disk) where
  abbrev L : Theory
  L = block_calls (sizes_of disk)

  abbrev C : Code (block_calls (sizes_of disk))
  C = block_code (sizes_of disk)

  abbrev start : State (block_calls (sizes_of disk))
  start = fresh L (first disk count)

  module _ (history : List (EventOf Call Outside)) (honest : AllHonest L history start) (new : HartsOf D) where
    abbrev s : State (block_calls (sizes_of disk))
    s = run L history start

    abbrev seen : above.World
    seen = s.world.seen

    abbrev t : steps.State
    t = s.world.real.blocks.state

    shows : ShowsItsTree disk count
    shows = mounts_show_their_trees disk count may

    told : IsExplained L (L.M.tree (first disk count)) s
    told =
        explains L (lawful (sizes_of disk)) (first disk count) history (first_holds disk count shows) (first_idle disk count shows) honest

    -- also once a failure of the device has stopped the harts
    held : (b : Bool) → Holds L b s.world → Shows t.tables seen (loaded t.tables) × Inv seen
    held true h = (h.0.0.tables, h.1)
    held false h = (h.0.0.tables, h.1)

    known : Shows t.tables seen (loaded t.tables) × Inv seen
    known = held s.stopped told.holds

    counts : CountsReferences t.tables seen
    counts n = all_counted n t.tables seen (loaded t.tables) known.0 known.1

    -- ---- if no hart has a call

    module _ (none : (h : ℕ) → s.running h ≡ None) where
      rests : (h : ℕ) → Idle h seen
      rests h = (told.idle h (none h)).1

      runs : s.stopped ≡ false
      runs = idle_runs L history (first disk count) none

      holds : L.M.Inv s.world
      holds = subst (λ (b : Bool). Holds L b s.world) runs told.holds

      nothing_left : NothingIsLeft t
      nothing_left =
          let image = quiet_worlds_are_images s.world.real.blocks seen holds.0.0 holds.1 (λ h below. (rests h).joined) in
          record {
            references = λ n. none_more n t.tables seen (loaded t.tables) known.0 known.1 (λ h below. (rests h).refs n);
            places = no_place_taken t.tables seen (loaded t.tables) known.0 (λ h. (rests h).hand);
            image = record { well = image.0.well_formed; recovered = image.1 };
          }

    -- ---- of the harts that the code has

    module _ (is : erase L C s ≡ calls_of contents failures (sizes_of disk) new) where
      same : ◌≡◌ {A = steps.State} t (shared_of contents failures new)
      same = ap (λ (p : Plain L C). p.shared.state) is

      no_call : (h : ℕ) → get_or new.calls h None ≡ None → s.running h ≡ None
      no_call h e = none_of L C (s.running h) (ap (λ (p : Plain L C). p.running h) is ∙ ap (program_at running_of) e)

      through : IdleHartsAreThrough contents failures new seen
      through = record {
        shown = subst (λ (x : steps.State). Shows x.tables seen (loaded x.tables)) same known.0;
        counts = subst (λ (x : steps.State). CountsReferences x.tables seen) same counts;
        few = λ h n below. (known.1.refers h below).few n;
        idle = λ h e. begun_nothing h seen (told.idle h (no_call h e)).1;
        all = λ idle.
            let none : (h : ℕ) → s.running h ≡ None = λ h. no_call h (ap (λ (calls : Calls). get_or calls h None) idle ∙ nones 8 h) in
            (sym (ap (λ (p : Plain L C). p.stopped) is) ∙ runs none, subst NothingIsLeft same (nothing_left none));
      }

pub idle_harts_have_begun_nothing : {D : Type 0} (contents : D → List (List ℕ)) (failures : D → ℕ) (w : WorldOf D)
    → IdleHartsHaveBegunNothing contents failures w
idle_harts_have_begun_nothing contents failures w device events came new history mounted is =
    subst (λ (z : Super). Through (run (block_calls z) history (fresh (block_calls z) (first disk count))).world.seen) (sym same)
    (through contents failures disk count (mountable contents failures device w.harts mounted.rests) history
    (all_honest sizes history (fresh (block_calls sizes) (first disk count)) (subst (AllAnswer sizes history) (sym begins) here.answers))
    new
    (sym (erase-run (block_calls sizes) (block_code sizes) (is_code sizes) history (fresh (block_calls sizes) (first disk count)))
    ∙ ap (plain_run (block_calls sizes) (block_code sizes) history) begins ∙ here.makes))
  where
    Through : above.World → Type 0
    Through = IdleHartsAreThrough contents failures new

    disk : List (List ℕ)
    disk = contents w.harts.core.log.cache.device

    count : ℕ
    count = failures w.harts.core.log.cache.device

    sizes : Super
    sizes = sizes_of disk

    same : w.sizes ≡ sizes_of disk
    same = mounted.sizes ∙ sym mounted.rests.disk.sizes

    here : IsHistory contents failures sizes w.harts events came new history
    here = subst (λ (z : Super). IsHistory contents failures z w.harts events came new history) same is

    begins : erase (block_calls sizes) (block_code sizes) (fresh (block_calls sizes) (first disk count))
        ≡ calls_of contents failures sizes w.harts
    begins = rests_erased contents failures device w.harts mounted.rests
