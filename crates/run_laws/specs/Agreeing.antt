-- The image and the events fix a run, as long as the device doesn't fail: its outcomes, its list, and its disk outside the log.
use Rattle.std.specs.Prelude.{◌≡◌, ℕ, List}
use Rattle.block_device.specs.Blocks.{block_at}
use Rattle.fs_layout.specs.Recovered.{IsOutsideLog}
use Rattle.run_laws.specs.Vocabulary.{Call, EventOf, Outside, Came, Event, HartsOf, FoundRoom, IsHistory, IsMounted, WorldOf}
use Rattle.run_laws.specs.OneList.{list_of}

module _ {D : Type 0} (contents : D → List (List ℕ)) (failures : D → ℕ) where
  -- This history is one of a run of these events, with these outcomes. The world is as the mount of a device with this
  -- image left it. At the run's end the device has failed at no call.
  pub record IsRunOn (image : List (List ℕ)) (w : WorldOf D) (events : List Event) (came : List Came)
      (history : List (EventOf Call Outside)) : Type 0 where
    pub device : D
    pub blocks : contents device ≡ image
    pub mounted : IsMounted contents failures device w
    pub new : HartsOf D
    pub is : IsHistory contents failures w.sizes w.harts events came new history
    pub unfailed : failures new.core.log.cache.device ≡ 0

  -- Two runs have the same outcomes, and the same list of tree steps. If each step of the first found room, each of the
  -- second did. Their ends have the same blocks outside the log.
  pub record RunsAgree (w v : WorldOf D) (came other : List Came) (one two : List (EventOf Call Outside)) (end last : HartsOf D) : Type 0 where
    pub outcomes : came ≡ other
    pub lists : list_of contents failures w one ≡ list_of contents failures v two
    pub room : FoundRoom contents failures w one → FoundRoom contents failures v two
    pub blocks : (b : ℕ) → IsOutsideLog end.core.log.sizes b
        → block_at (contents last.core.log.cache.device) b ≡ block_at (contents end.core.log.cache.device) b

  -- Any two runs of the same events on one image agree.
  abbrev pub RunsOnOneImageAgree : WorldOf D → WorldOf D → Type 0
  RunsOnOneImageAgree w v =
      (image : List (List ℕ)) (events : List Event) (came other : List Came) (one two : List (EventOf Call Outside))
      → (on : IsRunOn image w events came one) (by : IsRunOn image v events other two) → RunsAgree w v came other one two on.new by.new
