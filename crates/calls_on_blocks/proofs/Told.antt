-- The marks of a run, by the phase to which its events take the commit.
use Rattle.calls_on_blocks.proofs.Vocabulary.{◌≡◌, List, [], ◌∷◌, refl, ap, ◌∙◌, Super, sizes_of, Call, Marks, no_marks, Event, State, AllHonest, fresh, next, Sound, sound_run, Outside, IsWholeLog, mounts_show_their_trees, first, block_calls, marks_after, marks_next, noted, log_at, told_between, MarksAreTold}
use Rattle.calls_on_blocks.proofs.Events.{event_goes}
use Rattle.calls_on_blocks.proofs.Stops.{first_sound}

module _ (sizes : Super) where
  marks_are_told : (es : List (Event Call Outside)) (s : State (block_calls sizes)) (m : Marks) → Sound (block_calls sizes) s → IsWholeLog (log_at sizes s) → AllHonest (block_calls sizes) es s → noted (block_calls sizes) (told_between sizes) es s m ≡ marks_after sizes es s m
  marks_are_told [] s m sound whole honest = refl
  marks_are_told (e ∷ es) s m sound whole honest =
      let g = event_goes sizes e s m sound whole honest.0 in
      ap (λ (z : Marks). noted (block_calls sizes) (told_between sizes) es (next (block_calls sizes) e s) z) g.told
      ∙ marks_are_told es (next (block_calls sizes) e s) (marks_next sizes e s m) (sound_run (block_calls sizes) (e ∷ []) s sound (honest.0, tt)) g.whole honest.1

pub marks_of_mounts : MarksAreTold
marks_of_mounts disk failures events on =
    marks_are_told (sizes_of disk) events (fresh (block_calls (sizes_of disk)) (first disk failures)) no_marks (first_sound disk failures on.mountable) (mounts_show_their_trees disk failures on.mountable).shows.whole on.honest
