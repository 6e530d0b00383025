-- What holds at each place of a run of a mounted disk in which no step found no room.
use Rattle.std.specs.Prelude.{◌≡◌, ℕ, true, List, [], ◌∷◌, ◌++◌, None}
use Rattle.calls_on_blocks.proofs.Vocabulary.{sym, subst, AllHonest, IsMoving, RunsFrom}
use Rattle.calls_on_blocks.proofs.History.{makes_moves, moving, runs_from}
use Rattle.atomic_programs.proofs.Explains.{sound_keeps}
use Rattle.atomic_programs.proofs.Reached.{run-append, sound_fresh, sound_run}
use Rattle.atomic_programs.specs.Calls.{Event, Sound, State, Theory, fresh, next, run}
use Rattle.calls_on_blocks.specs.History.{RunsOn, block_moves, first}
use Rattle.calls_on_blocks.specs.Theory.{block_calls}
use Rattle.run_laws.specs.Vocabulary.{sizes_of}
use Rattle.fs_layout.specs.declared.superblock.Super.{Super}
use Rattle.image_tree.specs.Images.{tree_in}
use Rattle.inode_machine.proofs.Kept.{clean_before}
use Rattle.inode_machine.specs.Making.{MakesItsMoves}
use Rattle.inode_machine.specs.MoveCalls.{MoveMachine}
use Rattle.plain_tree.specs.declared.call.Call.{Call}
use Rattle.run_laws.specs.Vocabulary.{Outside}
use Rattle.fs_layout.specs.Recovered.{version_in}

-- answers that the device may give, in the first events and in the rest
pub honest_parts : (L : Theory) (es rest : List (Event L.Call L.M.Outside)) (s : State L) → AllHonest L (es ++ rest) s → AllHonest L es s × AllHonest L rest (run L es s)
honest_parts L [] rest s honest = (tt, honest)
honest_parts L (e ∷ es) rest s honest = let parts = honest_parts L es rest (next L e s) honest.1 in ((honest.0, parts.0), parts.1)

module _ (disk : List (List ℕ)) (count : ℕ) where
  abbrev sizes : Super
  sizes = sizes_of disk

  abbrev L : Theory
  L = block_calls (sizes_of disk)

  abbrev N : MoveMachine
  N = block_moves (sizes_of disk)

  abbrev start : State (block_calls (sizes_of disk))
  start = fresh (block_calls (sizes_of disk)) (first disk count)

  -- the state after these events
  abbrev pub so_far : List (Event Call Outside) → State (block_calls (sizes_of disk))
  so_far es = run (block_calls (sizes_of disk)) es (fresh (block_calls (sizes_of disk)) (first disk count))

  module _ (events : List (Event Call Outside)) (runs : RunsOn disk count events) where
    begins : RunsFrom (version_in disk) N (tree_in disk) (first disk count) events
    begins = runs_from disk count events runs

    module _ (es rest : List (Event Call Outside)) (is : es ++ rest ≡ events) where
      honest : AllHonest L es start × AllHonest L rest (so_far es)
      honest = honest_parts L es rest start (subst (λ (z : List (Event Call Outside)). AllHonest L z start) (sym is) runs.honest)

      pub sound_at : Sound (block_calls (sizes_of disk)) (so_far es)
      sound_at = sound_run L es start (sound_fresh L (first disk count) begins.holds begins.idle) honest.0

      -- no step so far has found no room
      pub clean_at : (so_far es).world.seen.clean ≡ true
      clean_at =
          clean_before (version_in disk) N (moving sizes) rest (so_far es) sound_at honest.1
          (subst (λ (z : State L). z.world.seen.clean ≡ true) (run-append L es rest start)
          (subst (λ (z : List (Event Call Outside)). (run L z start).world.seen.clean ≡ true) (sym is) runs.clean))

      -- a hart that has no call doesn't walk
      pub idle_at : (g : ℕ) → (so_far es).running g ≡ None → ((block_moves (sizes_of disk)).tree (so_far es).world).walk g ≡ None
      idle_at g none = let m : IsMoving (version_in disk) N = moving sizes in m.rests g (so_far es).world ((sound_keeps L m.lawful (so_far es) sound_at).idle g none)

    -- each event makes its moves as code makes them
    pub moves_at : (es : List (Event Call Outside)) (e : Event Call Outside) (rest : List (Event Call Outside)) → es ++ e ∷ rest ≡ events → MakesItsMoves (version_in disk) (block_moves (sizes_of disk)) e (so_far es)
    moves_at es e rest is = makes_moves disk count es rest e (subst (RunsOn disk count) (sym is) runs)
