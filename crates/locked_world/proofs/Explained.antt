-- The run of a locked world has one history.
use Rattle.locked_world.proofs.Vocabulary.{ap, subst, tree_in, trace_in, Super, Version, IsExplained, WorldOf, explained, Fuse, StoredRun, IsRunOf, OneListExplains, contents, failures, disk_of}

pub explained_run : (s : StoredRun) (w : WorldOf Fuse) (run : IsRunOf s w) → OneListExplains s w run
explained_run s w run room calm =
    subst (λ (v : Version). IsExplained v (tree_in (contents (disk_of s))) (trace_in s.events s.outcomes)) (ap (λ (z : Super). z.version) run.mounted.sizes)
    (explained contents failures run.first s.events s.outcomes w.harts (disk_of s) run.history.0 run.mounted run.history.1 room calm)
