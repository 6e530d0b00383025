-- The calls on whole inodes, run on the blocks, are right with that history too.
use Rattle.run_laws.proofs.Vocabulary.{◌≡◌, ◌<◌, ◌∙◌, ℕ, [], subst, arith, Super, Call, put, hart_count, Lawful, Both, LowerLaws, AllLift, IsStarted, StartsBoth, lift_within, lifted_lawful, unspent, program, transactions_are_small, start_is, log_of, nothing, HasInodes, handlers, HasSpent, recorded_blocks, affords, none_spent, World, layer, shared_of, begins, child_of, serves, served_is, begun_here, below_count, joined_same, lower_laws, starts_both, inode_calls, lowered_inode_calls, operations, whole_inodes}
use Rattle.inode_machine.specs.World as above
use Rattle.inodes_on_blocks.specs.Below.{World as Blocks}
use Rattle.inodes_on_blocks.specs.Shown.{Shows}
use Rattle.run_laws.proofs.CallFits.{call_fits, most_written}
use Rattle.run_laws.proofs.Operations.{all_within}
use Rattle.run_laws.proofs.Whole.{whole_lawful, whole_laws}

pub whole_lower_laws : (sizes : Super) → LowerLaws (whole_inodes sizes.version) (layer sizes)
whole_lower_laws sizes = let b = lower_laws sizes in record { same = b.same; trans = b.trans; kept = λ h g u xs o. b.kept h g u [] o.1; base = b.base; idle = b.idle }

pub whole_starts_both : (sizes : Super) → StartsBoth (inode_calls sizes.version) (layer sizes) (begins sizes)
whole_starts_both sizes h call busy r s g holds inv idle free e =
    let b = starts_both sizes h call busy r s g holds inv idle free e in
    record { above = b.above; begins = b.begins; shows = b.shows; halted = b.halted; kept = b.kept; rests = b.rests }

-- a call begins in no transaction, so that nothing is spent
pub none_yet : (sizes : Super) (h : ℕ) (call : Call) (w : Both World above.World) → h < hart_count → (log_of w.real.blocks).sizes ≡ sizes → IsStarted (inode_calls sizes.version) (layer sizes) h call w → HasSpent sizes h unspent w.real.blocks
none_yet sizes h call w lt at from =
    none_spent sizes h w.real.blocks w.seen lt from.shows.0 (joined_same h call from.busy from.before w.seen lt from.idle (start_is serves h call from.busy from.before w.seen from.begins).begins ∙ from.idle.joined) at

-- the disk is one with inodes, as its blocks show
pub has_inodes : (sizes : Super) (r : Blocks) (w : above.World) → Shows r w → (log_of r).sizes ≡ sizes → HasInodes sizes
has_inodes sizes r w shows at =
    let some = shows.blocks.seen.good.few_inodes in
    let few = shows.blocks.seen.good.many_inodes in
    subst HasInodes at (record { some = omega (arith, some); few = omega (arith, few) })

-- no call's transactions spend more than they may
all_lift : (sizes : Super) → AllLift (inode_calls sizes.version) (layer sizes) (handlers sizes) (begins sizes)
all_lift sizes h call can B Q lasts n es w from todo base inv =
    let t : World = record (can.1) { children = put can.1.children h (child_of call) } in
    let b = begun_here h call can.0 (shared_of can.1) t can.2 can.3 in
    let lt = below_count h b.hart in
    lift_within (whole_inodes sizes.version) (layer sizes) (handlers sizes) (whole_laws sizes.version) h (recorded_blocks sizes.version (operations sizes.version))
    (λ r s. HasSpent sizes h s r.blocks) (program sizes.version call)
    (all_within sizes h lt (has_inodes sizes w.real.blocks w.seen from.shows.0 base.1) (most_written call) (program sizes.version call) (call_fits sizes.version call (served_is call b.serves_it))) unspent
    (affords sizes.version (operations sizes.version) (program sizes.version call) unspent (transactions_are_small sizes.version call)) nothing B Q lasts n es w
    (none_yet sizes h call w lt base.1 from) todo base inv

pub lowered_lawful : (sizes : Super) → Lawful (lowered_inode_calls sizes)
lowered_lawful sizes = lifted_lawful (inode_calls sizes.version) (layer sizes) (handlers sizes) (begins sizes) (whole_lawful sizes.version) (whole_lower_laws sizes) (whole_starts_both sizes) (all_lift sizes)
