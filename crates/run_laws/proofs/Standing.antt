-- A call that found no room leaves what stays with its reply.
use Rattle.run_laws.proofs.Vocabulary.{◌≡◌, inr, ℕ, false, List, [], Option, None, subst, Super, sizes_of, Full, Reply, Call, TracedCall, fresh, run, program, first, trace_in, WorldOf, changes_of, operations_of, CallsWithoutRoomTakeBack, LeavesThat, Stands, IsRunOfCall, Operation, lowered_inode_calls, IsRun, RunsTo, Version, version_in}
use Rattle.plain_tree.specs.declared.answer.Answer.TheVariants as answers
use Rattle.run_laws.proofs.Answered.{both_of}
use Rattle.run_laws.proofs.Leaving.{calls_leave, run_leaves}
use Rattle.run_laws.proofs.Worlds.{worlds_refine}

call_leaves : (version : Version) (call : Call) (es : List Operation) (reply : Reply) (room : Full) → IsRunOfCall version call es reply
    → reply.answer ≡ answers.Full room → Stands room call (changes_of es)
call_leaves version call es reply room g full =
    run_leaves version call (program version call) None false [] es reply room (calls_leave version call) g.runs full (inr (g.wants room full))

pub take_back : {D : Type 0} (contents : D → List (List ℕ)) (failures : D → ℕ) (w : WorldOf D)
    → CallsWithoutRoomTakeBack contents failures w
take_back contents failures w device events came new history mounted is =
    both_of (IsRun disk count history) (LeavesThat disk count history) (trace_in events came).calls each
    (worlds_refine contents failures w device events came new history mounted is).1
  where
    disk : List (List ℕ)
    disk = contents w.harts.core.log.cache.device

    count : ℕ
    count = failures w.harts.core.log.cache.device

    each : (c : TracedCall) → IsRun disk count history c → LeavesThat disk count history c
    each c runs number reply room ends full =
        let sizes : Super = sizes_of disk in
        let s = run (lowered_inode_calls (sizes_of disk)) history (fresh (lowered_inode_calls (sizes_of disk)) (first disk count)) in
        let es : List Operation = operations_of sizes s c.start in
        call_leaves (version_in disk) c.call es reply room (subst (λ (o : Option (ℕ × Reply)). RunsTo (version_in disk) c.call es o) ends runs) full
