-- Each event of a run makes what it places as code makes it.
use Rattle.image_versions.specs.declared.version.Version.{Version}
use Rattle.inode_machine.proofs.Vocabulary.{◌≡◌, ℕ, ◌<◌, ◌≤◌, ◌^◌, List, [], ◌∷◌, ◌++◌, sym, subst, Call, TreeData, tree_of, hart_count, settle, Stage, Step as MoveStep, opened, Theory, Event, State, AllHonest, fresh, next, run, MoveMachine, IsMoving, TakesMove, RunsFrom, theory_of, nothing_yet, placed, sound_fresh, sound_keeps, sound_run, Sound}
use Rattle.inode_machine.proofs.Follows.{AllFollow, opened_follows}
use Rattle.inode_machine.proofs.Kept.{Places, Turned, Turns, clean_before, event_turns, turned}
use Rattle.inode_machine.proofs.MadeMoves.{plays_so}
use Rattle.inode_machine.proofs.MayMoves.{HasId, plays_id, plays_may}
use Rattle.inode_machine.proofs.Ranges.{run_range}
use Rattle.inode_machine.specs.Making.{IsMade, MakesPlaced, RunsMakeMoves, hart_of}
use Rattle.atomic_programs.proofs.Reached.{run-append}
use Rattle.atomic_programs.specs.Calls.{makes}

honest_before : (L : Theory) (es later : List (Event L.Call L.M.Outside)) (s : State L) → AllHonest L (es ++ later) s → AllHonest L es s × AllHonest L later (run L es s)
honest_before L [] later s h = (tt, h)
honest_before L (e ∷ es) later s h = let x = honest_before L es later (next L e s) h.1 in ((h.0, x.0), x.1)

-- a move that is taken
made : (version : Version) (m m' : Stage) (h : ℕ) (e : MoveStep) → h < hart_count → settle m.tree ≡ m.tree → AllFollow m → m.tree.ninodes ≤ 2 ^ 16 → TakesMove version m h e m' → IsMade version m h e m'
made version m m' h e hart settled follow few takes =
    let x : HasId version m h e.move = plays_id version m m' h e.told e.move takes.0 in
    record {
      may = record { hart = hart; settled = settled; move = plays_may version m m' h e.told e.move few takes.1 takes.0 };
      id = x.id;
      least = x.least;
      stage = λ id least. (plays_so version m h settled e.move id e.told m' (follow h) takes.0 least).stage;
      told = λ id least. (plays_so version m h settled e.move id e.told m' (follow h) takes.0 least).tells;
    }

module _ (version : Version) (N : MoveMachine) (moving : IsMoving version N) where
  abbrev L : Theory
  L = theory_of version N

  places_made : (h : ℕ) (m m' : Stage) (ps : List (ℕ × MoveStep)) → settle m.tree ≡ m.tree → AllFollow m → m.tree.ninodes ≤ 2 ^ 16 → Places version N moving h m ps m' → MakesPlaced version h m ps m'
  places_made h m m' [] settled follow few x = x
  places_made h m m' (p ∷ ps) settled follow few x = (x.0, x.1, made version m m' h p.1 x.2 settled follow few x.3)

  first : (base : TreeData) (w : N.World) (es later : List (Event Call N.Outside)) → RunsFrom version N base w (es ++ later) → RunsFrom version N base w es
  first base w es later r =
      let honest = honest_before L es later (fresh L w) r.honest in
      record {
        holds = r.holds;
        idle = r.idle;
        tree = r.tree;
        well = r.well;
        honest = honest.0;
        clean = clean_before version N moving later (run L es (fresh L w)) (sound_run L es (fresh L w) (sound_fresh L w r.holds r.idle) honest.0) honest.1
            (subst (λ (s : State L). N.Clean s.world) (run-append L es later (fresh L w)) r.clean);
      }

  pub run_moves : RunsMakeMoves version N
  run_moves base w before later e r few =
      subst (λ (m : Stage). MakesPlaced version (hart_of e) m (placed version N e s) (N.tree (next L e s).world)) x.beside.stage
      (places_made (hart_of e) x.end.stage (N.tree (next L e s).world) (placed version N e s)
      (subst (λ (m : Stage). settle m.tree ≡ m.tree) (sym x.beside.stage) (moving.settled s.world))
      (opened_follows version (tree_of base) x.end x.more x.runs)
      (subst (λ (n : ℕ). n ≤ 2 ^ 16) (sym (run_range version (opened (tree_of base)) x.end x.more x.runs)) few)
      turn.places)
    where
      s : State L
      s = run L before (fresh L w)

      x : Turned version N moving (tree_of base) before (fresh L w) nothing_yet []
      x = turned version N moving base w before (first base w before (e ∷ later) r)

      sound : Sound L s
      sound = sound_run L before (fresh L w) (sound_fresh L w r.holds r.idle) (honest_before L before (e ∷ later) (fresh L w) r.honest).0

      rest : AllHonest L (e ∷ later) s
      rest = (honest_before L before (e ∷ later) (fresh L w) r.honest).1

      clean : N.Clean (next L e s).world
      clean = clean_before version N moving later (next L e s) (sound_run L (e ∷ []) s sound (rest.0, tt)) rest.1 (subst (λ (z : State L). N.Clean z.world) (run-append L before (e ∷ later) (fresh L w)) r.clean)

      turn : Turns version N moving e (makes L e s).came (next L e s) x.end (placed version N e s)
      turn = event_turns version N moving (N.tree sound.first) e s x.end (sound_keeps L moving.lawful s sound) x.beside rest.0 clean
