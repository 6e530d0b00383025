use Rattle.inode_parts.proofs.Lemmas.{ℕ, Option, ap, ◌∙◌, is_some, give_goes, settle_goes, root_goes, directory_goes, up_goes, aside_goes, walked_goes, down_goes, slot_goes, installed_goes, checked_goes, joined_goes, doubled_goes, shut_goes, lent_goes, moved_goes}
use Rattle.inode_parts.proofs.one_step.OneStep.next.Goals as goal

pub returns-in-UnlockInode-clause-goes : goal.returns-in-UnlockInode-clause-goes
returns-in-UnlockInode-clause-goes c = λ path before. rw c.in-UnlockInode.is (λ ready after. give_goes path c.args.notes.now before c.args.hand.now c.in-UnlockInode.field-0 c.args.answer.now ready after)

pub returns-in-SetDirectory-clause-goes : goal.returns-in-SetDirectory-clause-goes
returns-in-SetDirectory-clause-goes c = λ path before. rw c.in-SetDirectory.is (λ ready after. settle_goes path c.args.notes.now before c.args.hand.now c.in-SetDirectory.seat c.args.answer.now c.known_number.result c.known_number.ensures ready after)

pub returns-in-UpRoot-clause-goes : goal.returns-in-UpRoot-clause-goes
returns-in-UpRoot-clause-goes c = λ path before. rw c.in-UpRoot.is (λ ready after. root_goes path c.args.notes.now before c.args.hand.now c.in-UpRoot.seat c.args.answer.now c.number_to.result c.number_to.ensures after)

pub returns-in-UpDirectory-clause-goes : goal.returns-in-UpDirectory-clause-goes
returns-in-UpDirectory-clause-goes c = λ path before. rw c.in-UpDirectory.is (λ ready after. directory_goes path c.args.notes.now before c.args.hand.now c.in-UpDirectory.seat c.args.answer.now c.number_to-in-UpDirectory.result c.number_to-in-UpDirectory.ensures after)

pub returns-in-Up-clause-goes : goal.returns-in-Up-clause-goes
returns-in-Up-clause-goes c = λ path before. rw c.in-Up.is (λ ready after. up_goes path c.args.notes.now before c.args.hand.now c.in-Up.seat c.args.answer.now c.in-Up.field-1 c.is_some.result (c.is_some.ensures ∙ ap (λ (o : Option ℕ). is_some o) c.number_to-in-Up.ensures) after)

pub returns-in-UpAside-clause-goes : goal.returns-in-UpAside-clause-goes
returns-in-UpAside-clause-goes c = λ path before. rw c.in-UpAside.is (λ ready after. aside_goes path c.args.notes.now before c.args.hand.now c.args.answer.now c.in-UpAside.field-0 c.is_some-in-UpAside.result c.is_some-in-UpAside.ensures after)

pub returns-in-WalkDown-clause-goes : goal.returns-in-WalkDown-clause-goes
returns-in-WalkDown-clause-goes c = λ path before. rw c.in-WalkDown.is (λ ready after. walked_goes path c.args.notes.now before c.args.hand.now c.in-WalkDown.field-0 c.args.answer.now c.yes.result c.yes.ensures after)

pub returns-in-Install-clause-goes : goal.returns-in-Install-clause-goes
returns-in-Install-clause-goes c = λ path before. rw c.in-Install.is (λ ready after. installed_goes path c.args.notes.now before c.args.hand.now c.in-Install.field-0 c.args.answer.now c.in-Install.field-1 c.number_in.result c.number_in.ensures after)

pub returns-in-Shut-clause-goes : goal.returns-in-Shut-clause-goes
returns-in-Shut-clause-goes c = λ path before. rw c.in-Shut.is (λ ready after. shut_goes path c.args.notes.now before c.args.hand.now c.in-Shut.seat c.args.answer.now c.in-Shut.field-1 c.known_number-in-Shut.result c.shut_in.result c.known_number-in-Shut.ensures c.shut_in.ensures after)

pub returns-in-Lend-clause-goes : goal.returns-in-Lend-clause-goes
returns-in-Lend-clause-goes c = λ path before. rw c.in-Lend.is (λ ready after. lent_goes path c.args.notes.now before c.args.hand.now c.in-Lend.seat c.args.answer.now c.in-Lend.field-1 c.in-Lend.field-2 c.known_number-in-Lend.result c.loan_in.result c.known_number-in-Lend.ensures c.loan_in.ensures after)

pub returns-in-LendDirectory-clause-goes : goal.returns-in-LendDirectory-clause-goes
returns-in-LendDirectory-clause-goes c = λ path before. rw c.in-LendDirectory.is (λ ready after. moved_goes path c.args.notes.now before c.args.hand.now c.in-LendDirectory.seat c.args.answer.now c.in-LendDirectory.field-1 c.known_number-in-LendDirectory.result c.old_in.result c.known_number-in-LendDirectory.ensures c.old_in.ensures after)

pub returns-in-Slot-clause-goes : goal.returns-in-Slot-clause-goes
returns-in-Slot-clause-goes c = λ path before. rw c.in-Slot.is (λ ready after. slot_goes path c.args.notes.now before c.args.hand.now c.args.answer.now c.yes-in-Slot.result c.yes-in-Slot.ensures after)

pub returns-in-CheckFile-clause-goes : goal.returns-in-CheckFile-clause-goes
returns-in-CheckFile-clause-goes c = λ path before. rw c.in-CheckFile.is (λ ready after. checked_goes path c.args.notes.now before c.args.hand.now c.args.answer.now c.in-CheckFile.field-0 c.checked_in.result c.checked_in.ensures after)

pub returns-in-JoinFile-clause-goes : goal.returns-in-JoinFile-clause-goes
returns-in-JoinFile-clause-goes c = λ path before. rw c.in-JoinFile.is (λ ready after. joined_goes path c.args.notes.now before c.args.hand.now c.args.answer.now c.in-JoinFile.field-0 c.joined_in.result c.joined_in.ensures after)

pub returns-in-Double-clause-goes : goal.returns-in-Double-clause-goes
returns-in-Double-clause-goes c = λ path before. rw c.in-Double.is (λ ready after. doubled_goes path c.args.notes.now before c.args.hand.now c.args.answer.now c.in-Double.field-0 c.doubled_in.result c.doubled_in.ensures after)

pub returns-in-Down-clause-goes : goal.returns-in-Down-clause-goes
returns-in-Down-clause-goes c = λ path before. rw c.in-Down.is (λ ready after. down_goes path c.args.notes.now c.in-Down.seat before c.args.hand.now c.args.answer.now c.dies.result c.dies.new.notes c.dies.ensures.is c.dies.ensures.notes ready after)

pub returns-in-Down-clause-notes : goal.returns-in-Down-clause-notes
returns-in-Down-clause-notes c = rw c.in-Down.is c.dies.ensures.notes
