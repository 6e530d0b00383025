-- What a world keeps at each event, and what a stop leaves of it.
use Rattle.hart_core.proofs.Vocabulary.{◌≡◌, ◌∙◌, AreEventsOn, disk_after, sizes_stay, ℕ, List, [], ◌∷◌, ◌++◌, sym, ap, subst, Super, sizes_of, IsWellFormed, Reply, Call, EventOf as Event, OutcomeOf as Outcome, Sound, fresh, run, with_answer, Plain, SoundPlain, CameTo, came_more, sound_run, Kind, Outside, Refusal, first, block_calls, block_code, is_code, first_sound, stops_leave_images, HartsOf, Answers, IsWorld, Makes, calls_of}

module _ {D : Type 0} (contents : D → List (List ℕ)) (failures : D → ℕ) (sizes : Super) (w : HartsOf D) (is : IsWorld contents failures sizes w) where
  -- what it has of a sound state of the calls
  pub world_sound : SoundPlain (block_calls sizes) (block_code sizes) (calls_of contents failures sizes w)
  world_sound = record {
    state = run (block_calls sizes) is.events.events (fresh (block_calls sizes) (first is.disk is.count));
    sound =
        sound_run (block_calls sizes) is.events.events (fresh (block_calls sizes) (first is.disk is.count))
        (subst (λ (z : Super). Sound (block_calls z) (fresh (block_calls z) (first is.disk is.count))) (sym is.sizes_are) (first_sound is.disk is.count is.mountable)) is.events.honest;
    is = is.events.after;
  }

  -- one event more
  pub world_more : (e : Event Call (Unit {0})) (x : Outside) (o : Outcome Kind Reply Refusal) (new : HartsOf D) → Answers contents failures sizes (with_answer e x) w → Makes contents failures sizes (with_answer e x) w o new → IsWorld contents failures sizes new
  world_more e x o new honest makes = record {
    disk = is.disk;
    count = is.count;
    mountable = is.mountable;
    sizes_are = is.sizes_are;
    asks = is.asks ++ e ∷ [];
    came = is.came ++ o ∷ [];
    events =
        came_more (block_calls sizes) (block_code sizes) (is_code sizes) (fresh (block_calls sizes) (first is.disk is.count)) is.asks e is.came o (calls_of contents failures sizes w) (calls_of contents failures sizes new) x is.events honest makes;
    sized = is.sized;
  }

  abbrev mounted : Super
  mounted = sizes_of is.disk

  came : CameTo (block_calls mounted) (block_code mounted) (fresh (block_calls mounted) (first is.disk is.count)) is.asks is.came (calls_of contents failures mounted w)
  came = subst (λ (z : Super). CameTo (block_calls z) (block_code z) (fresh (block_calls z) (first is.disk is.count)) is.asks is.came (calls_of contents failures z w)) is.sizes_are is.events

  on : AreEventsOn is.disk is.count came.events
  on = record { mountable = is.mountable; honest = came.honest }

  same_disk : disk_after is.disk is.count came.events ≡ contents w.core.log.cache.device
  same_disk = ap (λ (p : Plain (block_calls mounted) (block_code mounted)). p.shared.state.log.contents) came.after

  -- the disk as it is
  pub world_left : IsWellFormed (contents w.core.log.cache.device)
  world_left = subst IsWellFormed same_disk (stops_leave_images is.disk is.count came.events on)

  -- has the world's sizes, and so its version
  pub same_sizes : sizes_of (contents w.core.log.cache.device) ≡ sizes
  same_sizes = ap sizes_of (sym same_disk) ∙ sizes_stay is.disk is.count came.events on ∙ sym is.sizes_are
