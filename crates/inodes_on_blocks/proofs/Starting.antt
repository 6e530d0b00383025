-- What a hart knows when its program takes its first step.
use Rattle.inodes_on_blocks.proofs.Vocabulary.{ℕ, ◌<◌, List, [], Super, hart_count, Ret, Do, Machine, Laws, P, Wp, onto, Both, joined, Stable, Here, World, below, Labels, labelled, Keeps}
use Rattle.inode_machine.specs.World as above
use Rattle.inodes_on_blocks.proofs.Layer.{below_laws}

module _ (sizes : Super) (l : Labels) (laws : Laws (labelled sizes.version l)) (keeps : Keeps l) (h : ℕ) (lt : h < hart_count) (B : List l.Step → Type 0) where
  abbrev W : Type 0
  W = Both World above.World

  abbrev M : Machine
  M = joined (labelled sizes.version l) (below sizes)

  -- a program that takes a step
  abbrev pub TakesStep : {A : Type 0} → P M A → Type 0
  TakesStep (Ret a) = ⊥
  TakesStep (Do op m k) = Unit {0}

  -- It may be shown from the world in which it takes that step.
  pub s-here : {A : Type 0} (p : P M A) (Q : A → List l.Step → W → Type 0) (G : List l.Step → above.World → Type 0) → Stable (labelled sizes.version l) (below sizes) laws (below_laws sizes l keeps) h B G → TakesStep p → (n : ℕ) (es : List l.Step) (w : W) → G es w.seen
      → ((v : W) (fs : List l.Step) → Here (labelled sizes.version l) (below sizes) laws (below_laws sizes l keeps) h B G w v fs → Wp M h B Q p n fs v) → Wp M h B Q p n es w
  s-here (Ret a) Q G stable step n es w stage rule = absurd step
  s-here (Do op m k) Q G stable step n es w stage rule =
      λ v xs o i.
      let next = stable es xs w.seen v.seen o.1 i.1 stage in
      let there = rule v (onto xs es) (record { same = o.0; kept = keeps h w.seen v.seen xs o.1; shows = i.0; inv = i.1; stage = next.1 }) v [] ((below_laws sizes l keeps).same h v.real, laws.same h v.seen) i in
      (next.0, there.1, there.2, there.3)
