-- A step of a control: its program's next operation.
use Rattle.fs_machine.proofs.Vocabulary.{◌≡◌, ℕ, Option, Some, None, refl, sym, ap, ◌∙◌, subst, option_map, Ret, Do, asks, advance, OfNext, WentOn, StillWaits, Broke, Waits, Ran, Stops, GuardState, Inode, Kind, Outside, State, exec, kind_of, P, IsOwn, IsLocked, IsOut, IfSome, slice_get, First, Second, Hand, Place, InodePlace, One, Two, Op, Record, UnlockMoving, UpAside, UpDirectory, DownWalked, LockListed, DownFreed, GiveTo, Answer, HandFits, buffer_at, with_buffer, inode_at, op_in, Prepared, IsAfter, Goes, bare, without_record}
use Rattle.fs_machine.specs.Steps as steps
use Rattle.fs_machine.specs.declared.op.Op.TheVariants.{Join, JoinToWrite, Leave, Commit, Get, Read, Give, Lock, LockFile, LockOpen, Unlock, SetDirectory, Up, Down, CheckFile, TakePlace, TakeDescriptor, Double, Close, Claim, Reply}
use Rattle.fs_machine.specs.Hands.{with_content}
use Rattle.fs_machine.proofs.Fits.{buffer-again, stay}

-- ---- the program's step

module _ {A : Type 0} (hart : ℕ) (x : Outside) (old : State) (o : steps.Op) where
  pub ran-step : (p q : P A) (new : State) (kind : Kind) (answer : (o : steps.Op) → steps.Answer o) → asks p ≡ Some o → Goes p answer q → exec hart x o old ≡ Ran (answer o) new → kind_of o (answer o) ≡ kind
      → advance kind_of (exec hart x) p old ≡ WentOn kind q new
  ran-step (Ret a) q new kind answer is goes did same = absurd goes
  ran-step (Do u m k) q new kind answer is goes did same =
      let e : u ≡ o = cc is in
      let did_u : exec hart x u old ≡ Ran (answer u) new = subst (λ (v : steps.Op). exec hart x v old ≡ Ran (answer v) new) (sym e) did in
      let same_u : kind_of u (answer u) ≡ kind = subst (λ (v : steps.Op). kind_of v (answer v) ≡ kind) (sym e) same in
      rw did_u (rw (same_u, goes) refl)

  -- the operation that it asks for is this one
  pub ran-asked : (p : P A) (new : State) (answer : (o : steps.Op) → steps.Answer o) → asks p ≡ Some o → exec hart x o old ≡ Ran (answer o) new
      → (u : steps.Op) → asks p ≡ Some u → exec hart x u old ≡ Ran (answer u) new
  ran-asked p new answer is did u same = subst (λ (v : steps.Op). exec hart x v old ≡ Ran (answer v) new) (cc (sym is ∙ same)) did

  pub waits-step : (p : P A) → asks p ≡ Some o → exec hart x o old ≡ Waits → advance kind_of (exec hart x) p old ≡ StillWaits
  waits-step (Ret a) is did = absurd (cc is)
  waits-step (Do u m k) is did =
      let e : u ≡ o = cc is in
      let did_u : exec hart x u old ≡ Waits = subst (λ (v : steps.Op). exec hart x v old ≡ Waits) (sym e) did in
      rw did_u refl

  pub stops-step : (p : P A) (new : State) → asks p ≡ Some o → exec hart x o old ≡ Stops new → advance kind_of (exec hart x) p old ≡ Broke new
  stops-step (Ret a) new is did = absurd (cc is)
  stops-step (Do u m k) new is did =
      let e : u ≡ o = cc is in
      let did_u : exec hart x u old ≡ Stops new = subst (λ (v : steps.Op). exec hart x v old ≡ Stops new) (sym e) did in
      rw did_u refl

pub of-next : {A : Type 0} (Premise : steps.Op → State → Type 0) (p : P A) (o : steps.Op) (s : State) → asks p ≡ Some o → Premise o s → OfNext Premise (asks p) s
of-next Premise p o s is holds = subst (λ (n : Option steps.Op). OfNext Premise n s) (sym is) holds

-- ---- what was prepared

pub after-prepared : (op : Op) (before h k : Hand) (a : Answer) → Prepared op before h → IsAfter op h a k → IsAfter op before a k
after-prepared Join before h k a same after = subst (λ (b : Hand). IsAfter Join b a k) same after
after-prepared Leave before h k a same after = subst (λ (b : Hand). IsAfter Leave b a k) same after
after-prepared Commit before h k a same after = subst (λ (b : Hand). IsAfter Commit b a k) same after
after-prepared (Get p b) before h k a same after = subst (λ (c : Hand). IsAfter (Get p b) c a k) same after
after-prepared (Read p) before h k a same after = subst (λ (b : Hand). IsAfter (Read p) b a k) same after
after-prepared (Give p) before h k a same after = subst (λ (b : Hand). IsAfter (Give p) b a k) same after
after-prepared (Record p) before h k a same after = after ∙ ap (with_buffer p None) same.1.1 ∙ buffer-again p None (option_map (with_content same.1.0) (buffer_at p before)) before
after-prepared (Lock s) before h k a same after = subst (λ (b : Hand). IsAfter (Lock s) b a k) same after
after-prepared (Unlock s) before h k a same after = subst (λ (b : Hand). IsAfter (Unlock s) b a k) same after
after-prepared (Up s n) before h k a same after = subst (λ (b : Hand). IsAfter (Up s n) b a k) same after
after-prepared (UpAside n) before h k a same after = subst (λ (b : Hand). IsAfter (UpAside n) b a k) same after
after-prepared (Down s) before h k a same after = subst (λ (b : Hand). IsAfter (Down s) b a k) same after
after-prepared (JoinToWrite fd) before h k' a same after = subst (λ (b : Hand). IsAfter (JoinToWrite fd) b a k') same after
after-prepared (LockFile k w fd) before h k' a same after = subst (λ (b : Hand). IsAfter (LockFile k w fd) b a k') same after
after-prepared (LockOpen k fd) before h k' a same after = subst (λ (b : Hand). IsAfter (LockOpen k fd) b a k') same after
after-prepared (UnlockMoving k fd offset) before h k' a same after = subst (λ (b : Hand). IsAfter (UnlockMoving k fd offset) b a k') same after
after-prepared (SetDirectory k) before h k' a same after = subst (λ (b : Hand). IsAfter (SetDirectory k) b a k') same after
after-prepared (UpDirectory k) before h k' a same after = subst (λ (b : Hand). IsAfter (UpDirectory k) b a k') same after
after-prepared (DownWalked k) before h k' a same after = subst (λ (b : Hand). IsAfter (DownWalked k) b a k') same after
after-prepared (LockListed k) before h k' a same after = subst (λ (b : Hand). IsAfter (LockListed k) b a k') same after
after-prepared (DownFreed k) before h k' a same after = subst (λ (b : Hand). IsAfter (DownFreed k) b a k') same after
after-prepared (CheckFile w fd) before h k' a same after = subst (λ (b : Hand). IsAfter (CheckFile w fd) b a k') same after
after-prepared TakePlace before h k' a same after = subst (λ (b : Hand). IsAfter TakePlace b a k') same after
after-prepared (TakeDescriptor k file) before h k' a same after = subst (λ (b : Hand). IsAfter (TakeDescriptor k file) b a k') same after
after-prepared (Double fd) before h k' a same after = subst (λ (b : Hand). IsAfter (Double fd) b a k') same after
after-prepared (Close k fd) before h k' a same after = subst (λ (b : Hand). IsAfter (Close k fd) b a k') same after
after-prepared (GiveTo k child from) before h k' a same after = subst (λ (b : Hand). IsAfter (GiveTo k child from) b a k') same after
after-prepared (Claim p k') before h k a same after = subst (λ (b : Hand). IsAfter (Claim p k') b a k) same after
after-prepared Reply before h k a same after = subst (λ (b : Hand). IsAfter Reply b a k) same after

-- a record is always made
pub prepared-waits : (op : Op) (hart : ℕ) (x : Outside) (s : State) (before h : Hand) → Prepared op before h → exec hart x (op_in h op) s ≡ Waits → h ≡ before
unfolding exec
prepared-waits Join hart x s before h same did = same
prepared-waits Leave hart x s before h same did = same
prepared-waits Commit hart x s before h same did = same
prepared-waits (Get p b) hart x s before h same did = same
prepared-waits (Read p) hart x s before h same did = same
prepared-waits (Give p) hart x s before h same did = same
prepared-waits (Record p) hart x s before h same did = absurd (cc did)
prepared-waits (Lock k) hart x s before h same did = same
prepared-waits (Unlock k) hart x s before h same did = same
prepared-waits (Up k n) hart x s before h same did = same
prepared-waits (UpAside n) hart x s before h same did = same
prepared-waits (Down k) hart x s before h same did = same
prepared-waits (JoinToWrite fd) hart x s before h same did = same
prepared-waits (LockFile k w fd) hart x s before h same did = same
prepared-waits (LockOpen k fd) hart x s before h same did = same
prepared-waits (UnlockMoving k fd offset) hart x s before h same did = same
prepared-waits (SetDirectory k) hart x s before h same did = same
prepared-waits (UpDirectory k) hart x s before h same did = same
prepared-waits (DownWalked k) hart x s before h same did = same
prepared-waits (LockListed k) hart x s before h same did = same
prepared-waits (DownFreed k) hart x s before h same did = same
prepared-waits (CheckFile w fd) hart x s before h same did = same
prepared-waits TakePlace hart x s before h same did = same
prepared-waits (TakeDescriptor k file) hart x s before h same did = same
prepared-waits (Double fd) hart x s before h same did = same
prepared-waits (Close k fd) hart x s before h same did = same
prepared-waits (GiveTo k child from) hart x s before h same did = same
prepared-waits (Claim p k) hart x s before h same did = same
prepared-waits Reply hart x s before h same did = same

pub prepared-stops : (op : Op) (hart : ℕ) (x : Outside) (s t : State) (before h : Hand) → Prepared op before h → exec hart x (op_in h op) s ≡ Stops t → h ≡ before
unfolding exec
prepared-stops Join hart x s t before h same did = same
prepared-stops Leave hart x s t before h same did = same
prepared-stops Commit hart x s t before h same did = same
prepared-stops (Get p b) hart x s t before h same did = same
prepared-stops (Read p) hart x s t before h same did = same
prepared-stops (Give p) hart x s t before h same did = same
prepared-stops (Record p) hart x s t before h same did = absurd (cc did)
prepared-stops (Lock k) hart x s t before h same did = same
prepared-stops (Unlock k) hart x s t before h same did = same
prepared-stops (Up k n) hart x s t before h same did = same
prepared-stops (UpAside n) hart x s t before h same did = same
prepared-stops (Down k) hart x s t before h same did = same
prepared-stops (JoinToWrite fd) hart x s t before h same did = same
prepared-stops (LockFile k w fd) hart x s t before h same did = same
prepared-stops (LockOpen k fd) hart x s t before h same did = same
prepared-stops (UnlockMoving k fd offset) hart x s t before h same did = same
prepared-stops (SetDirectory k) hart x s t before h same did = same
prepared-stops (UpDirectory k) hart x s t before h same did = same
prepared-stops (DownWalked k) hart x s t before h same did = same
prepared-stops (LockListed k) hart x s t before h same did = same
prepared-stops (DownFreed k) hart x s t before h same did = same
prepared-stops (CheckFile w fd) hart x s t before h same did = same
prepared-stops TakePlace hart x s t before h same did = same
prepared-stops (TakeDescriptor k file) hart x s t before h same did = same
prepared-stops (Double fd) hart x s t before h same did = same
prepared-stops (Close k fd) hart x s t before h same did = same
prepared-stops (GiveTo k child from) hart x s t before h same did = same
prepared-stops (Claim p k) hart x s t before h same did = same
prepared-stops Reply hart x s t before h same did = same

-- ---- records that change in hand

record Stripped (g : GuardState Inode) (o : Option (GuardState Inode)) : Type 0 where
  pub guard : GuardState Inode
  pub there : o ≡ Some guard
  pub same : without_record g ≡ without_record guard

stripped : (g : GuardState Inode) (o : Option (GuardState Inode)) → option_map without_record o ≡ Some (without_record g) → Stripped g o
stripped g None e = absurd (cc e)
stripped g (Some f) e = (let same : without_record f ≡ without_record g = cc e in record { guard = f; there = refl; same = sym same })

bare-inode : (k : InodePlace) (h : Hand) → inode_at k (bare h) ≡ option_map without_record (inode_at k h)
bare-inode One h = refl
bare-inode Two h = refl

bare-buffer : (p : Place) (h : Hand) → buffer_at p (bare h) ≡ buffer_at p h
bare-buffer First h = refl
bare-buffer Second h = refl

pub bare-fits : (hart : ℕ) (s : State) (old new : Hand) → bare new ≡ bare old → HandFits hart s old → HandFits hart s new
unfolding IsOut
bare-fits hart s old new e f = record {
  txn = subst (λ (t : Option ℕ). IfSome t (λ k. k ≡ hart)) (sym (ap (λ (h : Hand). h.txn) e)) f.txn;
  buffers = stay (λ v. v.block) (IsOwn hart) (λ p. buffer_at p old) (λ p. buffer_at p new) s s f.buffers (λ p. sym (bare-buffer p new) ∙ ap (buffer_at p) e ∙ bare-buffer p old) (λ _ _ own. own);
  inodes = record {
    own = λ k g is. (
        let a = was k g is in
        let own = f.inodes.own k a.guard a.there in
        record {
          hand = ap (λ (g : GuardState Inode). g.hart) a.same ∙ own.hand;
          number = refl;
          locked = renewed g a.guard s a.same own.locked;
        });
    apart = λ k l g j is-g is-j named. (
        let a = was k g is-g in
        let b = was l j is-j in
        f.inodes.apart k l a.guard b.guard a.there b.there (sym (ap (λ (g : GuardState Inode). g.value.number) a.same) ∙ named ∙ ap (λ (g : GuardState Inode). g.value.number) b.same));
  };
}
  where
    was : (k : InodePlace) (g : GuardState Inode) → inode_at k new ≡ Some g → Stripped g (inode_at k old)
    was k g is = stripped g (inode_at k old) (sym (bare-inode k old) ∙ sym (ap (inode_at k) e) ∙ bare-inode k new ∙ ap (option_map without_record) is)

    renewed : (g j : GuardState Inode) (s : State) → without_record g ≡ without_record j → IsLocked j s.tables → IsLocked g s.tables
    renewed g j s same l = record {
      out = subst (λ (b : GuardState Inode). IsOut s.tables.locks b) (sym same) l.out;
      entry = l.entry;
      there = subst (λ (n : ℕ). slice_get s.tables.entries n ≡ Some l.entry) (sym (ap (λ (g : GuardState Inode). g.number) same)) l.there;
      number = l.number ∙ sym (ap (λ (g : GuardState Inode). g.value.number) same);
      referenced = l.referenced;
    }
