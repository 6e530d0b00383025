-- The kernel may be shared by threads, and a seat may go to another one. Each part has its own proof, because a
-- search through all that is under the lock would be too long.
use mathlib.Core.List.{List, [], ◌∷◌}
use denote.RattleType.{RattleType}
use denote.Param.Send.{IsSend, IsSync, view_send, sendable}
use denote.Param.SendFields.{as_row_send, declared_send, declared_sync, FieldsHave}
use denote.Struct.Field.{row_field}
use denote.Struct.Tuple.{TupleAt, parts, type_at}
use Rattle.hart_runner.proofs.Vocabulary.{crosses, LedgerGhosts, DeviceGhosts}
use Rattle.std.proofs.sync.Mutex.TheSendSync as mutex
use Rattle.std.proofs.sync.Condvar.TheSendSync as condvar
use Rattle.std.proofs.sync.ledger.Book.TheSendSync as book
use Rattle.block_device.proofs.fused.Fused.TheSendSync as fused
use Rattle.buffer_cache.proofs.buffer.Buffer.TheSendSync as buffer
use Rattle.buffer_cache.specs.contracts.cache.Cache as cache
use Rattle.group_log.specs.contracts.log.Log as log
use Rattle.fs_machine.proofs.entries.Inode.TheSendSync as inode
use Rattle.plain_tree.proofs.answer.Reply.TheSendSync as reply
use Rattle.plain_tree.proofs.call.Call.TheSendSync as call
use Rattle.path_walk.proofs.asks.Heard.TheSendSync as heard
use Rattle.syscalls.proofs.place.CallPlace.TheSendSync as place
use Rattle.hart_core.specs.contracts.world.World as world
use Rattle.locked_world.proofs.locked.Share.TheSendSync as share
use Rattle.locked_world.proofs.story.Story.TheSendSync as story
use Rattle.locked_world.specs.contracts.locked.Locked as locked
use Rattle.hart_runner.specs.contracts.kernel.Inside as inside
use Rattle.hart_runner.specs.contracts.kernel.Kernel as kernel
use Rattle.hart_runner.specs.contracts.kernel.Seat as seat
use Rattle.hart_runner.specs.contracts.kernel.Seat.TheInside as held

cache_send : (D : RattleType) (g : DeviceGhosts D.Denot) → IsSend D → IsSend (cache.the_row D g)
cache_send D g s = search (buffer.the_send, sendable, crosses) depth 60 fits 20000

log_send : (D : RattleType) (g : DeviceGhosts D.Denot) → IsSend D → IsSend (log.the_row D g)
log_send D g s = search (cache_send, sendable, crosses) depth 60 fits 20000

world_send : (D : RattleType) (g : DeviceGhosts D.Denot) → IsSend D → IsSend (world.the_row D g)
world_send D g s = search (place.the_send, log_send, inode.the_send, reply.the_send, heard.the_send, sendable, crosses) depth 60 fits 20000

pub locked_send : (L : RattleType) (g : LedgerGhosts L.Denot) → IsSend (locked.the_row L g)
locked_send L g = search (world_send, story.the_send, book.the_send, call.the_send, fused.the_send, sendable, crosses) depth 60 fits 20000

inside_send : (L : RattleType) (g : LedgerGhosts L.Denot) → IsSend (inside.the_row L g)
inside_send L g = declared_send (inside.the_type L g) (search (locked_send, sendable, crosses) depth 60 fits 20000)

pub kernel_sync : (L G : RattleType) (g : LedgerGhosts L.Denot) → IsSync G → IsSync (kernel.the_row L G g)
kernel_sync L G g s = declared_sync (kernel.the_type L G g) (search (inside_send, mutex.the_sync, condvar.the_sync, sendable, crosses) depth 60 fits 20000)

pub seat_send : (L : RattleType) (g : LedgerGhosts L.Denot) → IsSend L → IsSend (seat.the_row L g)
seat_send L g s = view_send _ _ _ _ _ (declared_send (held.the_type L g) (search (share.the_send, reply.the_send, sendable, crosses) depth 60 fits 20000))

-- ---- tuples and closures of any count of parts

abbrev EachSend : List RattleType → Type 0
EachSend [] = Unit {0}
EachSend (T ∷ Ts) = IsSend T × EachSend Ts

each_part : (Ts : List RattleType) → EachSend Ts → FieldsHave IsSend (parts Ts)
each_part [] s = tt
each_part (T ∷ Ts) s = (as_row_send (row_field T) s.0, each_part Ts s.1)

captures_send : (ν : _) (Ts : List RattleType) → EachSend Ts → IsSend (TupleAt ν Ts)
captures_send ν Ts s = declared_send (type_at ν Ts) (each_part Ts s)

pub two_send : (ν : _) (R S : RattleType) → IsSend R → IsSend S → IsSend (TupleAt ν (R ∷ S ∷ []))
two_send ν R S r s = captures_send ν (R ∷ S ∷ []) (r, (s, tt))

pub three_send : (ν : _) (R S T : RattleType) → IsSend R → IsSend S → IsSend T → IsSend (TupleAt ν (R ∷ S ∷ T ∷ []))
three_send ν R S T r s t = captures_send ν (R ∷ S ∷ T ∷ []) (r, (s, (t, tt)))

pub four_send : (ν : _) (R S T U : RattleType) → IsSend R → IsSend S → IsSend T → IsSend U → IsSend (TupleAt ν (R ∷ S ∷ T ∷ U ∷ []))
four_send ν R S T U r s t u = captures_send ν (R ∷ S ∷ T ∷ U ∷ []) (r, (s, (t, (u, tt))))

pub five_send : (ν : _) (R S T U V : RattleType) → IsSend R → IsSend S → IsSend T → IsSend U → IsSend V → IsSend (TupleAt ν (R ∷ S ∷ T ∷ U ∷ V ∷ []))
five_send ν R S T U V r s t u v = captures_send ν (R ∷ S ∷ T ∷ U ∷ V ∷ []) (r, (s, (t, (u, (v, tt)))))

pub six_send : (ν : _) (R S T U V W : RattleType) → IsSend R → IsSend S → IsSend T → IsSend U → IsSend V → IsSend W → IsSend (TupleAt ν (R ∷ S ∷ T ∷ U ∷ V ∷ W ∷ []))
six_send ν R S T U V W r s t u v w = captures_send ν (R ∷ S ∷ T ∷ U ∷ V ∷ W ∷ []) (r, (s, (t, (u, (v, (w, tt))))))

pub seven_send : (ν : _) (R S T U V W X : RattleType) → IsSend R → IsSend S → IsSend T → IsSend U → IsSend V → IsSend W → IsSend X → IsSend (TupleAt ν (R ∷ S ∷ T ∷ U ∷ V ∷ W ∷ X ∷ []))
seven_send ν R S T U V W X r s t u v w x = captures_send ν (R ∷ S ∷ T ∷ U ∷ V ∷ W ∷ X ∷ []) (r, (s, (t, (u, (v, (w, (x, tt)))))))
