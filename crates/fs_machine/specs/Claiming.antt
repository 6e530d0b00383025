-- The meaning of a claim.
use Rattle.fs_machine.specs.Vocabulary.{GuardState, BufferState, ExecResult, Ran}
use Rattle.fs_machine.specs.Steps.{ClaimResult as ClaimedState, Claims, NoPlace as HasNoPlace, NoInode as HasNoInode}
use Rattle.fs_machine.specs.declared.inodes.Claim.{Claim}
use Rattle.fs_machine.specs.declared.inodes.Claim.TheVariants.{Claimed, NoPlace, NoInode}

abbrev pub claimed_as : {S : Type 0} → Claim → S → ExecResult ClaimedState S
claimed_as (Claimed n guard) s = Ran (Claims n) s
claimed_as (NoPlace guard) s = Ran HasNoPlace s
claimed_as NoInode s = Ran HasNoInode s

-- what holds of the buffer, if it is kept
abbrev pub IfKept : Claim → (GuardState BufferState → Type 0) → Type 0
IfKept (Claimed n guard) P = P guard
IfKept (NoPlace guard) P = P guard
IfKept NoInode P = Unit {0}
