-- What harts make of their calls.
use Rattle.std.specs.Prelude.{◌≡◌, ◌⊎◌, ℕ, ◌+◌, ◌*◌, List, [], ◌∷◌, ◌++◌, IfNone, length, sum_by}
use Rattle.console_threads.specs.Vocabulary.{Reply, Call, HandsBack, StoredRun, count_of, replies_of, SeatV}
use Rattle.console_threads.specs.declared.work.Task.{Task}
use Rattle.console_threads.specs.declared.work.Worked.{Worked}

-- Each of these replies is of a call of its own, in the order of the calls: it hands that call back. A call may have none.
unfoldable pub AnswersSome : List Call → List Reply → Type 0
AnswersSome [] [] = Unit {0}
AnswersSome [] (reply ∷ replies) = ⊥
AnswersSome (call ∷ calls) [] = Unit {0}
AnswersSome (call ∷ calls) (reply ∷ replies) = (HandsBack call reply × AnswersSome calls replies) ⊎ AnswersSome calls (reply ∷ replies)

-- the seat has one reply more, of this call
pub record HasReply (s : SeatV) (call : Call) (t : SeatV) : Type 0 where
  pub reply : Reply
  pub is_of : HandsBack call reply
  pub seat : t ≡ record { hart = s.hart; replies = s.replies ++ reply ∷ []; count = s.count + 2 }

-- or it is as it was, if the start was refused
abbrev pub HasMade : SeatV → Call → SeatV → Type 0
HasMade s call t = (t ≡ s) ⊎ HasReply s call t

-- The seat has these replies more, of these calls. Its count has two more for each: the start, and the reply.
pub record HasMadeAll (s : SeatV) (calls : List Call) (t : SeatV) : Type 0 where
  pub replies : List Reply
  pub are_of : AnswersSome calls replies
  pub seat : t ≡ record { hart = s.hart; replies = s.replies ++ replies; count = s.count + 2 * length replies }

-- of a hart's work, if it reached its end
abbrev pub HasWorked : {L : _} → Task L → Worked L → Type 0
HasWorked task worked = (worked.seat.hart ≡ task.seat.hart) × IfNone worked.broke (HasMadeAll task.seat task.calls.items worked.seat)

abbrev pub EachWorked : {L : _} → List (Task L) → List (Worked L) → Type 0
EachWorked [] [] = Unit {0}
EachWorked [] (worked ∷ more) = ⊥
EachWorked (task ∷ tasks) [] = ⊥
EachWorked (task ∷ tasks) (worked ∷ more) = HasWorked task worked × EachWorked tasks more

-- ---- in the list of a run that has ended

abbrev pub eight_harts : List ℕ
eight_harts = 0 ∷ 1 ∷ 2 ∷ 3 ∷ 4 ∷ 5 ∷ 6 ∷ 7 ∷ []

-- the replies of each of these harts are of its calls, in their order
abbrev pub EachAnswered : StoredRun → List ℕ → List (List Call) → Type 0
EachAnswered run [] [] = Unit {0}
EachAnswered run [] (calls ∷ more) = ⊥
EachAnswered run (hart ∷ harts) [] = ⊥
EachAnswered run (hart ∷ harts) (calls ∷ more) = AnswersSome calls (replies_of hart run) × EachAnswered run harts more

-- of these calls of the eight harts, and the started calls and the answered ones are equal in number
pub record AllAnswered (calls : List (List Call)) (run : StoredRun) : Type 0 where
  pub each : EachAnswered run eight_harts calls
  pub none_left : count_of run ≡ sum_by (λ hart. 2 * length (replies_of hart run)) eight_harts
