-- When a call's program ends, the reply hands the call back: of all calls but read.
use Rattle.locked_world.proofs.Vocabulary.{◌≡◌, [], Version, Bool, true, false, Reply, Call, Prog, Ret, Do, bind, plain, Machine, PartOf, LowerLayer, Handlers, lowered, Above as P, program}
use Rattle.plain_tree.specs.declared.call.Call.TheVariants as calls
use Rattle.call_programs.specs.Asks.{AsksSo, Before, HandsBack, after, fresh, holding}
use Rattle.call_programs.proofs.Calls.{calls_ask}

-- wherever the program ends
abbrev pub Leaves : {Op : Type 0} {Answer : Op → Type 0} {M A : Type 0} → (A → Type 0) → Prog Op Answer M A → Type 0
Leaves Is (Ret a) = Is a
Leaves {Answer = Answer} Is (Do op m k) = (a : Answer op) → Leaves Is (k a)

pub leaves_bind : {Op : Type 0} {Answer : Op → Type 0} {M A B : Type 0} (Is : B → Type 0) (p : Prog Op Answer M A) (f : A → Prog Op Answer M B) → ((a : A) → Leaves Is (f a)) → Leaves Is (bind p f)
leaves_bind Is (Ret a) f e = e a
leaves_bind Is (Do op m k) f e = λ a. leaves_bind Is (k a) f e

pub leaves_plain : {Op : Type 0} {Answer : Op → Type 0} {M A : Type 0} (Is : A → Type 0) (p : Prog Op Answer M A) → Leaves Is p → Leaves Is (plain p)
leaves_plain Is (Ret a) e = e
leaves_plain Is (Do op m k) e = λ a. leaves_plain Is (k a) (e a)

-- what ends so above ends so below
pub leaves_lowered : (U : Machine) (R : LowerLayer U.World) (handler : Handlers U R) {A : Type 0} (Is : A → Type 0) (c : R.Carry) (p : PartOf U A) → Leaves Is p → Leaves Is (lowered U R handler c p)
leaves_lowered U R handler Is c (Ret a) e = e
leaves_lowered U R handler Is c (Do op m k) e = leaves_bind Is (handler c op m) (λ r. lowered U R handler r.carry (k r.answer)) (λ r. leaves_lowered U R handler Is r.carry (k r.answer) (e r.answer))

-- the reply is of this call
abbrev pub OfCall : Call → Reply → Type 0
OfCall call reply = reply.call ≡ call

abbrev pub is_read : Call → Bool
is_read (calls.Open path flags) = false
is_read (calls.Read fd buffer) = true
is_read (calls.Write fd bytes) = false
is_read (calls.Link old new) = false
is_read (calls.Unlink path) = false
is_read (calls.Mkdir path) = false
is_read (calls.Chdir path) = false
is_read (calls.Dup fd) = false
is_read (calls.Fstat fd) = false
is_read (calls.Close fd) = false
is_read (calls.Inherit child) = false

of_call : (call : Call) → is_read call ≡ false → (reply : Reply) → HandsBack call reply.call → OfCall call reply
of_call (calls.Read fd buffer) e reply is = absurd (let q = e in cc (q))
of_call call e reply is = is

ends : (v : Version) (call : Call) → is_read call ≡ false → (s : Before) (p : P Reply) → AsksSo v call s p → Leaves (OfCall call) p
ends v call e s (Ret r) so = of_call call e r so.0
ends v call e s (Do op m k) so = λ a. ends v call e (after v call s op m k so.0 a) (k a) (so.1 a)

pub program_ends : (v : Version) (call : Call) → is_read call ≡ false → Leaves (OfCall call) (program v call)
program_ends v call e = ends v call e (holding [] fresh []) (program v call) (calls_ask v call)
