-- What a step of a call says: how the part of its operation goes on, and what the call hears at its end.
use Rattle.std.specs.Prelude.{◌≡◌, Bool, true, false, Option, Some, None}
use Rattle.inode_parts.specs.Vocabulary.{Reply, reply_to, call_in, Ret, Goes, Handover, Hand, Super, Carry, HasRoomFor, text_in, whole_of, Heard}
use Rattle.fs_machine.specs.Steps as steps
use Rattle.inode_machine.specs.Parts as programs
use Rattle.inode_machine.specs.World as above
use Rattle.path_walk.specs.Asks.{asks}
use Rattle.inode_parts.specs.Basics.{Message, Part, hears_in}
use Rattle.inode_parts.specs.Parts.{IsPart}
use Rattle.inode_parts.specs.Calls.{IsReading, whole_with}
use Rattle.inode_parts.specs.FileReads.{FillsFrom}
use Rattle.inode_parts.specs.InodeParts.{part_left}
use Rattle.inode_parts.specs.declared.lowered.Lowered.{Lowered}
use Rattle.inode_parts.specs.declared.part.InodePart.{InodePart}
use Rattle.inode_parts.specs.declared.part.InodePart.TheVariants as part
use Rattle.inode_table.specs.declared.new_inode.NewInode.{NewInode}
use Rattle.inode_table.specs.declared.new_inode.NewInode.TheVariants as new

-- the rest of the part that is under way
abbrev pub part_of : Lowered → Hand → Part
part_of l h = part_left (text_in l.call) l.notes l.part h

-- The call's next operation is asked, and its part begins, with this in hand.
pub record AsksNext (sizes : Super) (c : Carry) (p : programs.P Reply) (l : Lowered) (h : Hand) : Type 0 where
  pub left : p ≡ whole_of sizes.version l.list l.call
  pub op : above.Op
  pub asked : asks (whole_of sizes.version l.list l.call) ≡ Some op
  pub part : IsPart sizes c op (part_of l h)
  pub fills : IsReading l.call → FillsFrom (text_in l.call) (part_of l h)

-- .. or the call has ended
abbrev pub AsksOrEnds : Super → Carry → programs.P Reply → Option (Unit {0}) → Lowered → Hand → Type 0
AsksOrEnds sizes c p None l h = AsksNext sizes c p l h
AsksOrEnds sizes c p (Some end) l h = p ≡ Ret (reply_to (call_in l.call) l.says)

-- The part goes on by this answer. What has room in the call's buffer after the step has room there before it.
pub record PartGoesOn (l : Lowered) (h : Hand) (answer : (o : steps.Op) → steps.Answer o) (k : Lowered) (g : Hand) : Type 0 where
  pub goes : Goes (part_of l h) answer (part_of k g)
  pub call : whole_with l.sizes.version k.list k.call ≡ whole_with l.sizes.version l.list l.call
  pub room : (x : Heard) → HasRoomFor x k.call → HasRoomFor x l.call

-- The part ends by this answer, and the call goes on by what it hears, which has room in the call's buffer.
pub record PartEnds (l : Lowered) (h : Hand) (answer : (o : steps.Op) → steps.Answer o) (out : Option (Unit {0})) (k : Lowered) (g : Hand)
    : Type 0 where
  pub ends : Handover Message Carry
  pub goes : Goes (part_of l h) answer (Ret ends)
  pub heard : ends.answer.1 ≡ k.heard
  pub call : AsksOrEnds l.sizes ends.carry (hears_in l.sizes (whole_with l.sizes.version l.list l.call ends.answer.0) ends.answer) out k g
  pub room : HasRoomFor k.heard l.call

abbrev pub GoesOrEnds : Lowered → Hand → ((o : steps.Op) → steps.Answer o) → Option (Unit {0}) → Bool → Lowered → Hand → Type 0
GoesOrEnds l h answer None false k g = PartGoesOn l h answer k g
GoesOrEnds l h answer (Some end) false k g = ⊥
GoesOrEnds l h answer out true k g = PartEnds l h answer out k g

pub record LoweredTells (l : Lowered) (h : Hand) (answer : (o : steps.Op) → steps.Answer o) (out : Option (Unit {0})) (k : Lowered)
    (g : Hand) : Type 0 where
  pub sizes : k.sizes ≡ l.sizes
  pub goes : GoesOrEnds l h answer out k.ended k g

-- a call that begins asks its first operation
abbrev pub BeginsAsking : Super → Carry → programs.P Reply → Lowered → Hand → Type 0
BeginsAsking sizes c p l h = (l.sizes ≡ sizes) × AsksNext sizes c p l h

-- ---- what must still be said

-- it gives back the block that it looked through, because no place in memory was left for an inode
abbrev pub gives_back : NewInode → Bool
gives_back (new.Fetching seat looking fetch) = false
gives_back (new.Look seat looking) = false
gives_back (new.Record seat looking number) = false
gives_back (new.GiveBack seat looking) = true

abbrev pub finds_no_place : InodePart → Bool
finds_no_place (part.Claim p) = gives_back p.claim
finds_no_place p = false

-- The call claims an inode, and no place in memory was left for one: its next step says so.
abbrev pub lacks_place : Lowered → Bool
lacks_place l = finds_no_place l.part
