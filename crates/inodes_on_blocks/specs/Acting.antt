-- An operation's program below acts at one moment, alone of all operations' programs.
use Rattle.std.specs.Prelude.{◌≡◌, ℕ, suc, ◌<◌, List, [], ◌∷◌, Option}
use Rattle.inodes_on_blocks.specs.Vocabulary.{Super, Version, hart_count, Machine, Wp, once, Both, joined, Below, Lasts, more}
use Rattle.inode_machine.specs.World as above
use Rattle.inodes_on_blocks.specs.Below.{World}
use Rattle.inodes_on_blocks.specs.Lowering.{Carry, Kept, Stands, below, Labels, labelled}
use Rattle.inodes_on_blocks.specs.Handlers.{Handler}

-- whatever the operation alone is shown to do above, under any history, this program does below, on a disk of these
-- sizes
abbrev pub ActsOnceAt : Super → (l : Labels) → ℕ → (op : above.Op) → (above.Answer op → Option above.Mark) → Handler op → Type 1
ActsOnceAt sizes l h op m p =
    (c : Carry) (B : List l.Step → Type 0) (C : above.Answer op → List l.Step → above.World → Type 0) (es : List l.Step)
    (w : Both World above.World)
    → Lasts (labelled sizes.version l) h B C → Wp (labelled sizes.version l) h B C (once op m) (suc (more op)) es w.seen
    → Stands sizes h w.real w.seen c
    → Wp (joined (labelled sizes.version l) (below sizes)) h B
    (Below (labelled sizes.version l) (below sizes) h C) (p c m) (suc (more op)) es w

-- ---- the same with the history that is the operations themselves

abbrev pub Done : Type 0
Done = (op : above.Op) × above.Answer op

abbrev pub alone : Labels
alone =
    record {
      Step = Done;
      Tree = Unit {0};
      places = λ h op a m w. (h, (op, a)) ∷ [];
      tree = λ w. tt;
      Takes = λ t h s u. Unit {0};
      Others = λ h v xs w. (xs ≡ []) × Kept h v w;
      Clean = λ w. Unit {0};
    }

abbrev pub whole : Version → Machine
whole version = labelled version alone

-- this operation was done, once, and nothing else
abbrev pub IsDone : (op : above.Op) → List Done → Type 0
IsDone op es = (a : above.Answer op) × (es ≡ (op, a) ∷ [])

abbrev pub Answers : (op : above.Op) → above.Answer op → List Done → above.World → Type 0
Answers op a es w = es ≡ (op, a) ∷ []

-- If the operation alone may be made and keeps what always holds, its program below does it. It does it once,
-- whatever the other harts do, with the answer that the operation itself gives. Each of its steps may be made, and
-- after it the hart has no more than its locks' records.
abbrev pub DoesItAt : Super → (op : above.Op) → Handler op → Type 0
DoesItAt sizes op p =
    (h : ℕ) (m : above.Answer op → Option above.Mark) (c : Carry) (w : Both World above.World) → h < hart_count
    → Wp (whole sizes.version) h (IsDone op) (Answers op) (once op m) (suc (more op)) [] w.seen → Stands sizes h w.real w.seen c
    → Wp (joined (whole sizes.version) (below sizes)) h (IsDone op)
    (Below (whole sizes.version) (below sizes) h (Answers op)) (p c m) (suc (more op)) [] w

abbrev pub DoesIt : (op : above.Op) → Handler op → Type 0
DoesIt op p = (sizes : Super) → DoesItAt sizes op p
