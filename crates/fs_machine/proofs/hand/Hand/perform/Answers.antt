use Rattle.fs_machine.proofs.hand.Hand.perform.Goals as goal

pub returns-in-Join : goal.returns-in-Join
returns-in-Join g c = rw c.in-Join.is (c.join.ensures c.args.told.now)

pub returns-in-Get : goal.returns-in-Get
returns-in-Get g c = rw c.in-Get.is (c.get.ensures c.args.told.now)

pub returns-in-Read : goal.returns-in-Read
returns-in-Read g c = rw c.in-Read.is (c.read.ensures c.args.told.now)

pub returns-in-Give : goal.returns-in-Give
returns-in-Give g c = rw c.in-Give.is (c.give.ensures c.args.told.now)

pub returns-in-Record : goal.returns-in-Record
returns-in-Record g c = rw c.in-Record.is (c.record.ensures c.args.told.now)

pub returns-in-Lock : goal.returns-in-Lock
returns-in-Lock g c = rw c.in-Lock.is (c.lock.ensures c.args.told.now)

pub returns-in-Unlock : goal.returns-in-Unlock
returns-in-Unlock g c = rw c.in-Unlock.is (c.unlock.ensures c.args.told.now)

pub returns-in-Up : goal.returns-in-Up
returns-in-Up g c = rw c.in-Up.is (c.up.ensures c.args.told.now)

pub returns-in-UpAside : goal.returns-in-UpAside
returns-in-UpAside g c = rw c.in-UpAside.is (c.up_aside.ensures c.args.told.now)

pub returns-in-UnlockMoving : goal.returns-in-UnlockMoving
returns-in-UnlockMoving g c = rw c.in-UnlockMoving.is (c.unlock_moving.ensures c.args.told.now)

pub returns-in-SetDirectory : goal.returns-in-SetDirectory
returns-in-SetDirectory g c = rw c.in-SetDirectory.is (c.settle.ensures c.args.told.now)

pub returns-in-UpDirectory : goal.returns-in-UpDirectory
returns-in-UpDirectory g c = rw c.in-UpDirectory.is (c.up_directory.ensures c.args.told.now)

pub returns-in-LockListed : goal.returns-in-LockListed
returns-in-LockListed g c = rw c.in-LockListed.is (c.lock_listed.ensures c.args.told.now)

pub returns-in-DownFreed : goal.returns-in-DownFreed
returns-in-DownFreed g c = rw c.in-DownFreed.is (c.down_freed.ensures c.args.told.now)

pub returns-in-Reply : goal.returns-in-Reply
returns-in-Reply g c = rw c.in-Reply.is (c.reply.ensures c.args.told.now)
