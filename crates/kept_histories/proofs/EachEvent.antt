-- What is known of each event of a run, before one looks at the keeper.
use Rattle.std.specs.Prelude.{◌≡◌, ℕ, suc, true, false, List, [], ◌∷◌, Option, None}
use Rattle.atomic_programs.specs.Calls.{Event, Made, State, makes, next}
use Rattle.calls_on_blocks.specs.History.{block_moves}
use Rattle.calls_on_blocks.specs.Theory.{block_calls}
use Rattle.fs_layout.specs.declared.superblock.Super.{Super}
use Rattle.fs_machine.specs.LogPart.{Passes}
use Rattle.inode_machine.specs.Making.{MakesItsMoves}
use Rattle.plain_tree.specs.Tree.{Tree}
use Rattle.plain_tree.specs.declared.call.Call.{Call}
use Rattle.run_laws.specs.UnderWay.{EventDoes, RunsAStep, UnderWay}
use Rattle.run_laws.specs.Vocabulary.{Outside, or_else}
use Rattle.kept_histories.proofs.Found.{AllFound}
use Rattle.kept_histories.proofs.StepMarks.{SeesAlike}

module _ (sizes : Super) where
  -- what the settled tree shows of an inode whose lock is taken has the mark of the answer
  abbrev pub AllSee : State (block_calls sizes) → (was now : ℕ → Option UnderWay) → Type 0
  AllSee s was now =
      (h : ℕ) (made : Made (block_calls sizes)) (r : RunsAStep sizes h Passes s made was now) → s.stopped ≡ false → (t : Tree) → t ≡ ((block_moves sizes).tree s.world).tree
      → SeesAlike sizes.version r.under t s.world.seen (r.rest r.answer) (or_else r.acts r.under.acted)

  -- The operations under way go on as they act, each of which found room; moves are made as code makes them; and idle harts don't walk.
  pub record Known (f : Event Call Outside) (s : State (block_calls sizes)) (was now : ℕ → Option UnderWay) : Type 0 where
    pub does : EventDoes sizes f s (makes (block_calls sizes) f s) was now
    pub moves : MakesItsMoves sizes.version (block_moves sizes) f s
    pub rests : (g : ℕ) → now g ≡ None → ((block_moves sizes).tree (next (block_calls sizes) f s).world).walk g ≡ None
    pub clean : (next (block_calls sizes) f s).world.seen.clean ≡ true
    pub found : AllFound was
    pub sees : AllSee s was now

  -- of these events, the first of which is the nth
  abbrev pub AllKnown : (ℕ → ℕ → Option UnderWay) → ℕ → List (Event Call Outside) → State (block_calls sizes) → Type 0
  AllKnown under n [] s = Unit {0}
  AllKnown under n (f ∷ fs) s = Known f s (under n) (under (suc n)) × AllKnown under (suc n) fs (next (block_calls sizes) f s)
