-- If each step of a run found room, no reply says that there is none.
use Rattle.std.specs.Prelude.{◌++◌, true, false, Option, Some, None}
use Rattle.std.proofs.Common.{refl, sym}
use Rattle.std.proofs.lemmas.Bool.{or_from}
use Rattle.explain.proofs.Vocabulary.{◌≡◌, ◌∙◌, ℕ, List, [], ◌∷◌, inl, inr, subst, All, TracedCall, Came, Event, WorldOf, trace_in}
use Rattle.hart_core.proofs.Vocabulary.{All-head, All-tail}
use Rattle.atomic_programs.specs.Explained.{In}
use Rattle.run_laws.proofs.Vocabulary.{wanted}
use Rattle.explain.specs.Vocabulary.{Call, EventOf, FoundRoom, HartsOf, IsHistory, IsMounted, Outside, any_full}
use Rattle.inode_machine.specs.World as above
use Rattle.inode_machine.specs.Basics.{Answer, Op}
use Rattle.inode_machine.specs.Rooms.{says_no_room}
use Rattle.plain_tree.specs.declared.answer.Answer.{Answer as TreeAnswer}
use Rattle.plain_tree.specs.declared.answer.Answer.TheVariants as answers
use Rattle.plain_tree.specs.declared.answer.Reply.{Reply}
use Rattle.run_laws.proofs.Answered.{found_none}
use Rattle.run_laws.proofs.RoomRuns.{room_told}
use Rattle.run_laws.specs.Answered.{IsAnsweredRightly}
use Rattle.run_laws.specs.Rooms.{AllFindRoom}
use Rattle.tree_histories.specs.Told.{is_full_answer, is_full_reply, is_full_reply_in}

-- an operation whose answer doesn't say that there is no room has wanted none
none_wanted : (op : Op) (a : Answer op) → says_no_room op a ≡ false → wanted op a ≡ None
none_wanted (above.UpStart absolute) None e = absurd cc
none_wanted (above.UpStart absolute) (Some n) e = refl
none_wanted (above.Up n) true e = refl
none_wanted (above.Up n) false e = absurd cc
none_wanted (above.Claim inode_type) (above.New n) e = refl
none_wanted (above.Claim inode_type) above.NoInode e = absurd cc
none_wanted (above.Claim inode_type) above.NoPlace e = absurd cc
none_wanted (above.Fill n d) true e = refl
none_wanted (above.Fill n d) false e = absurd cc
none_wanted (above.Enter d name n) above.InPlace e = refl
none_wanted (above.Enter d name n) above.NoBlock e = absurd cc
none_wanted (above.Enter d name n) above.NoSlot e = absurd cc
none_wanted above.Slot true e = refl
none_wanted above.Slot false e = absurd cc
none_wanted (above.Install f inode_type) None e = absurd cc
none_wanted (above.Install f inode_type) (Some fd) e = refl
none_wanted (above.WriteFile fd n offset bytes) above.Whole e = refl
none_wanted (above.WriteFile fd n offset bytes) (above.Refused why) e = refl
none_wanted (above.WriteFile fd n offset bytes) (above.Short k) e = absurd cc
none_wanted (above.Double fd) None e = refl
none_wanted (above.Double fd) (Some None) e = absurd cc
none_wanted (above.Double fd) (Some (Some other)) e = refl
none_wanted (above.Take n query) a e = refl
none_wanted (above.UnlockInode n) a e = refl
none_wanted (above.WalkDown n) a e = refl
none_wanted (above.Down n) a e = refl
none_wanted (above.Free n) a e = refl
none_wanted (above.Forget n) a e = refl
none_wanted (above.Store n count) a e = refl
none_wanted (above.Clear d name) a e = refl
none_wanted (above.Empty n) a e = refl
none_wanted (above.StatFile fd) a e = refl
none_wanted (above.LockFile fd) a e = refl
none_wanted (above.ReadFile fd n offset count) a e = refl
none_wanted (above.CheckFile fd) a e = refl
none_wanted (above.JoinFile fd) a e = refl
none_wanted (above.LockOpen fd count) a e = refl
none_wanted (above.Shut fd) a e = refl
none_wanted (above.SetDirectory n) a e = refl
none_wanted (above.Lend fd count) a e = refl
none_wanted (above.LendDirectory child) a e = refl
none_wanted (above.Release child) a e = refl
none_wanted above.Join a e = refl
none_wanted above.Leave a e = refl
none_wanted above.Say a e = refl

in_middle : {A : Type 0} (xs : List A) (x : A) (ys : List A) → In x (xs ++ x ∷ ys)
in_middle [] x ys = inl refl
in_middle (y ∷ xs) x ys = inr (in_middle xs x ys)

module _ {D : Type 0} (contents : D → List (List ℕ)) (failures : D → ℕ) (w : WorldOf D) (device : D) (events : List Event) (came : List Came) (new : HartsOf D) (history : List (EventOf Call Outside)) where
  abbrev disk : List (List ℕ)
  disk = contents w.harts.core.log.cache.device

  abbrev count : ℕ
  count = failures w.harts.core.log.cache.device

  -- a call that is answered so isn't of a run in which each operation finds room
  answered : AllFindRoom disk count history → (c : TracedCall) → IsAnsweredRightly disk count history c → is_full_reply c ≡ false
  answered each c right = by c.finished refl
    where
      by_answer : (number : ℕ) (r : Reply) → c.finished ≡ Some (number, r) → (a : TreeAnswer) → r.answer ≡ a → is_full_answer a ≡ false
      by_answer number r is (answers.Full room) full =
          let f = right number r room is full in
          let found = each f.operation (subst (λ l. In f.operation l) (sym f.made) (in_middle f.before f.operation f.after)) in
          let none : Some room ≡ None = sym f.wants ∙ none_wanted f.operation.step.op f.operation.step.answer found in
          absurd (cc none)
      by_answer number r is (answers.Fd fd) full = refl
      by_answer number r is (answers.Count n) full = refl
      by_answer number r is (answers.Stat stat) full = refl
      by_answer number r is answers.Done full = refl
      by_answer number r is (answers.Failed why) full = refl

      by : (o : Option (ℕ × Reply)) → c.finished ≡ o → is_full_reply_in o ≡ false
      by None is = refl
      by (Some f) is = by_answer f.0 f.1 is f.1.answer refl

  all_answered : AllFindRoom disk count history → (cs : List TracedCall) → All (IsAnsweredRightly disk count history) cs → any_full cs ≡ false
  all_answered each [] right = refl
  all_answered each (c ∷ cs) right =
      or_from (is_full_reply c) (any_full cs)
      (answered each c (All-head (IsAnsweredRightly disk count history) c cs right))
      (all_answered each cs (All-tail (IsAnsweredRightly disk count history) c cs right))

  pub none_full : IsMounted contents failures device w → IsHistory contents failures w.sizes w.harts events came new history → FoundRoom contents failures w history
      → any_full (trace_in events came).calls ≡ false
  none_full mounted is room =
      all_answered ((room_told contents failures w device events came new history mounted is).0 room) (trace_in events came).calls
      (found_none contents failures w device events came new history mounted is)
