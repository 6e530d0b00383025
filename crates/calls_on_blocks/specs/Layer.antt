-- The machine below as a layer under the calls: beside the blocks it has whom each hart's call reserves.
use Rattle.std.specs.Prelude.{◌≡◌, ◌<◌, ℕ, Option, Some}
use Rattle.calls_on_blocks.specs.Vocabulary.{Super, hart_count, ExecResult, exec_result_in, LowerLayer, Outside, Op, Answer, Blocks, exec_blocks, below}
use Rattle.fs_machine.specs.Steps as steps
use Rattle.inode_machine.specs.World as above

-- what all harts share; and of each hart the child that the call reserves which it began last
pub record SharedState : Type 0 where
  pub state : steps.State
  pub children : ℕ → Option ℕ

-- the same, with what the proof keeps beside the blocks
pub record World : Type 0 where
  pub blocks : Blocks
  pub children : ℕ → Option ℕ

abbrev pub shared_of : World → SharedState
shared_of w = record { state = w.blocks.state; children = w.children }

-- an operation leaves the children as they are
abbrev pub exec_shared : ℕ → Outside → (op : Op) → SharedState → ExecResult (Answer op) SharedState
exec_shared h x op s = exec_result_in (λ t. record s { state = t }) (steps.exec h x op s.state)

abbrev pub exec : ℕ → Outside → (op : Op) → World → ExecResult (Answer op) World
exec h x op w = exec_result_in (λ v. record w { blocks = v }) (exec_blocks h x op w.blocks)

-- a hart that gets another one's descriptors is that one's child
abbrev pub Reserves : (ℕ → Option ℕ) → above.World → Type 0
Reserves children w = (g c : ℕ) → g < hart_count → (w.desks g).lender ≡ Some c → children c ≡ Some g

abbrev pub layer : Super → LowerLayer above.World
layer sizes =
    let R = below sizes in
    record {
      Op = Op;
      Answer = Answer;
      World = World;
      Outside = Outside;
      Honest = λ h op w x. R.Honest h op w.blocks x;
      May = λ h op w. R.May h op w.blocks;
      exec = exec;
      MayWait = λ h op w. R.MayWait h op w.blocks;
      Shows = λ r w. R.Shows r.blocks w × Reserves r.children w;
      Halted = λ r w. R.Halted r.blocks w × Reserves r.children w;
      Same = λ h v w. R.Same h v.blocks w.blocks;
      Kept = R.Kept;
      Carry = R.Carry;
      none = R.none;
      Base = λ h r w c. R.Base h r.blocks w c;
    }
