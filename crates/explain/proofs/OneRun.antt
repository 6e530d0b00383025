-- Any two runs of the same events on one image in memory agree, so that what is said of one holds of each.
use Rattle.std.specs.Prelude.{◌≡◌, ◌⊎◌, ℕ, true, false, List}
use Rattle.std.proofs.Common.{refl}
use Rattle.explain.proofs.Vocabulary.{inl, inr, subst, ◌∙◌, any_climbs, blocks_of, Came, Event, Explains, Placed, RunOn, never, trace_in, tree_in}
use Rattle.explain.proofs.Running.{none_climbs}
use Rattle.explain.specs.Explained.{EachFoundRoom, FindsNoRoom, HasClimbed, IsOneOf, NeverFoundRoom, OwnsRun}
use Rattle.explain.specs.OneRun.{Agree, AnyRunsAgree, HoldsOfEach, ListsAreOfEachRun, RefusalsAreOfEachRun}
use Rattle.explain.specs.Vocabulary.{Call, EventOf, Outside, any_full, version_in}
use Rattle.run_laws.proofs.Agreeing.{runs_on_one_image_agree}
use Rattle.run_laws.proofs.OneList.{runs_have_one_list}
use Rattle.run_laws.specs.Agreeing.{IsRunOn, RunsAgree}

module _ (image : List ℕ) (events : List Event) where
  abbrev run_on : (r : RunOn image events) (a : List (EventOf Call Outside)) → IsOneOf image events r a
      → IsRunOn blocks_of never (blocks_of image) r.world events r.outcomes a
  run_on r a is = record { device = image; blocks = refl; mounted = r.starts.mounted; new = r.new; is = is; unfailed = refl }

  agree : (one other : RunOn image events) → Agree image events one other
  agree one other = record {
    outcomes = (both one.history.0 other.history.0 one.history.1 other.history.1).outcomes;
    lists = λ a b is by. (both a b is by).lists;
    room = λ a b is by. (both a b is by).room;
  }
    where
      both : (a b : List (EventOf Call Outside)) → IsOneOf image events one a → IsOneOf image events other b
          → RunsAgree blocks_of never one.world other.world one.outcomes other.outcomes a b one.new other.new
      both a b is by =
          runs_on_one_image_agree blocks_of never one.world other.world (blocks_of image) events one.outcomes other.outcomes a b (run_on one a is) (run_on other b by)

  -- each of its steps found room, if each of another's did
  each_found : (one other : RunOn image events) → EachFoundRoom image events one → EachFoundRoom image events other
  each_found one other room b by = (agree one other).room one.history.0 b one.history.1 by (room one.history.0 one.history.1)

  never_found : (one other : RunOn image events) → NeverFoundRoom image events one → NeverFoundRoom image events other
  never_found one other none b by room = none one.history.0 one.history.1 ((agree other one).room b one.history.0 by one.history.1 room)

  owned_by_each : (list : List Placed) → HoldsOfEach image events (OwnsRun image events list) (λ o. o.run)
  owned_by_each list owns run = (
    record {
      run = run;
      room = room;
      flat = flat;
      explains = subst (λ (cs : List Came). Explains (version_in (blocks_of image)) (tree_in (blocks_of image)) (trace_in events cs) list) same owns.explains;
      own = λ b by. owns.own owns.run.history.0 owns.run.history.1 ∙ (agree owns.run run).lists owns.run.history.0 b owns.run.history.1 by;
      stops = λ b by k le.
          runs_have_one_list blocks_of never run.world image events run.outcomes run.new b run.starts.mounted by (room b by)
          (inl (none_climbs (trace_in events run.outcomes).calls flat)) k le;
    },
    refl,
  )
    where
      same : owns.run.outcomes ≡ run.outcomes
      same = (agree owns.run run).outcomes

      room : EachFoundRoom image events run
      room = each_found owns.run run owns.room

      flat : any_climbs (trace_in events run.outcomes).calls ≡ false
      flat = subst (λ (cs : List Came). any_climbs (trace_in events cs).calls ≡ false) same owns.flat

  no_room_in_each : HoldsOfEach image events (FindsNoRoom image events) (λ o. o.run)
  no_room_in_each finds run = (record { run = run; full = never_found finds.run run finds.full }, refl)

  climbs_in_each : HoldsOfEach image events (HasClimbed image events) (λ o. o.run)
  climbs_in_each has run = (
    record {
      run = run;
      room = each_found has.run run has.room;
      told = subst (λ (cs : List Came). any_full (trace_in events cs).calls ≡ false) (agree has.run run).outcomes has.told;
      climbs = subst (λ (cs : List Came). any_climbs (trace_in events cs).calls ≡ true) (agree has.run run).outcomes has.climbs;
    },
    refl,
  )

pub any_runs_agree : AnyRunsAgree
any_runs_agree image events one other = agree image events one other

pub lists_are_of_each_run : ListsAreOfEachRun
lists_are_of_each_run image events list owns run = owned_by_each image events list owns run

pub refusals_are_of_each_run : RefusalsAreOfEachRun
refusals_are_of_each_run image events = (no_room_in_each image events, climbs_in_each image events)
