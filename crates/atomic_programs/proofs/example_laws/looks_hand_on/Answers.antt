use Rattle.atomic_programs.proofs.Lemmas.{◌≡◌, Option, Some, None, List, [], ◌∷◌, refl, sym, ◌∙◌, ap, subst, Ret, Do, bind, unmarked, Machine, P, OpWithAnswer, IsRun, Handover, lowered, put, Dinode, Give, whole, Block, Lock, Unlock, Get, Read, Put, Carry, blocks, read_or, look_back, load_or, with_record, labels, blocks_below}
use Rattle.atomic_programs.specs.Blocks.{handler}
use Rattle.atomic_programs.specs.Swap.{Step}
use Rattle.atomic_programs.proofs.example_laws.looks_hand_on.Goals as goal

-- a run goes on by the answer in it
runs_on : (L : Machine) {A : Type 0} (op : L.Op) (k : L.Answer op → P L A) (said : OpWithAnswer L → L.Answer op) → ((a : L.Answer op) → said (op, a) ≡ a) → (a : L.Answer op) (es : List (OpWithAnswer L)) (r : A)
    → IsRun L (Do op unmarked k) ((op, a) ∷ es) r → IsRun L (k a) es r
runs_on L op k said is a es r run = subst (λ (b : L.Answer op). IsRun L (k b) es r) (sym (is run.0) ∙ ap said (sym run.1) ∙ is a) run.2

-- what a lock, a get and a read answered, and with what an inode was unlocked
abbrev lock_said : OpWithAnswer blocks_below → Option Dinode
lock_said (Lock i, a) = a
lock_said (op, a) = None

abbrev get_said : OpWithAnswer blocks_below → Option Block
get_said (Get b, a) = a
get_said (op, a) = None

abbrev read_said : Block → OpWithAnswer blocks_below → Block
read_said z (Read b, a) = a
read_said z (op, a) = z

abbrev unlocked_with : Dinode → OpWithAnswer blocks_below → Dinode
unlocked_with d (Unlock i e, a) = e
unlocked_with d (op, a) = d

-- the rest of the program after it loads the record
abbrev loads : P blocks_below Dinode → P blocks_below Dinode
loads p = bind (bind p (λ d. Ret (with_record Step blocks.none 17 d))) gives
  where
    gives : Handover Dinode Carry → P blocks_below Dinode
    gives r = lowered (whole labels) blocks (handler Step) r.carry (Do (Give 17) unmarked (λ _. Ret r.answer))

pub returns : goal.returns
unfolding put
returns c =
    record {
      runs = λ z. (None, refl, (None, refl, (z, refl, (tt, refl, (tt, refl, refl)))));
      in_memory = λ d. (Some d, refl, (tt, refl, refl));
      alone = λ z d o run.
          let last : List (OpWithAnswer blocks_below) = (Put 1 None, tt) ∷ (Unlock 17 d, tt) ∷ [] in
          let locked = runs_on blocks_below (Lock 17) (λ a. loads (load_or Step 17 a)) lock_said (λ a. refl) None ((Get 1, None) ∷ (Read 1, z) ∷ last) o run in
          let got = runs_on blocks_below (Get 1) (λ b. loads (bind (read_or Step 1 b) (look_back Step 17))) get_said (λ a. refl) None ((Read 1, z) ∷ last) o locked in
          let read = runs_on blocks_below (Read 1) (λ y. loads (look_back Step 17 y)) (read_said z) (λ a. refl) z last o got in
          (ap (unlocked_with d) read.2.1, sym read.2.2);
    }
