use Rattle.sleep_lock.proofs.Lemmas.{◌≡◌, List, sym, subst, Option, slice_set, SlotState, GuardState, lock_of, LockLaws, lock_gives, lock_laws, IfSome_each}
use Rattle.sleep_lock.proofs.row.Slots.lock.Goals as goal

pub returns : goal.returns
returns g c =
    let old : List (SlotState g.row.T.Denot) = c.args.self.now in
    let new : List (SlotState g.row.T.Denot) × Option (GuardState g.row.T.Denot) = (slice_set old c.args.number c.try_take.new.self, c.try_take.result) in
    let gives : new ≡ lock_of old c.args.number c.args.hart =
    rw (c.try_take.ensures.guard, c.try_take.ensures.slot) (lock_gives _ _ _ c.at.result.now c.at.ensures.value) in
    let laws : LockLaws c.args.number c.args.hart old new = subst (LockLaws c.args.number c.args.hart old) (sym gives) (lock_laws old c.args.number c.args.hart) in
    record {
      gives = gives;
      others = laws.others;
      numbered = laws.numbered;
      count = laws.length_same;
      out = λ numbered. IfSome_each c.try_take.result (λ guard is. laws.out numbered guard is);
    }
