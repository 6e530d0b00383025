-- Write is right, whatever the other harts do, in any number of pieces.
use Rattle.inode_machine.proofs.Vocabulary.{◌≡◌, inl, inr, ℕ, zero, suc, ◌+◌, ◌-◌, ◌*◌, ◌/◌, ◌<◌, ◌≤◌, Bool, true, false, ◌==◌, nat_lt, List, [], ◌∷◌, ◌++◌, length, Option, Some, None, refl, sym, ◌∙◌, ap, subst, arith, length-append, if◌then◌else◌, nat_tests, length-take, P, onto, oldest_first, Safe, Begun, Ends, onto_is, Cause, BadDescriptor, Reply, WritePart, StepAnswer, Opened, Bytes, Status, NewFd, Done, Failed, NoRoom, hart_count, piece_len, put, Act, cause_of, last_cause, first_cause, had_room, counted, next_of, next_piece, reply_of, piece, piece_count, le-div_iff_mul-le, add-one, Hold, holds_raised, Do, unmarked, either, eq_isnt, same_or, put_same, Leave, Step, IsPlayed, IsWholeCall, World, Held, KeepsFiles, Own, Rests, own_of, nothing, Idle, machine, failed, write_reply, write_piece, write_from, write_program, piece_cost, descriptor_calls}
use Rattle.inode_machine.proofs.SoFar.{played_so_far, whole_so_far}
use Rattle.std.proofs.Common.{drop}
use Rattle.image_versions.specs.declared.version.Version.{Version}
use Rattle.plain_tree.specs.declared.call.Call.TheVariants as calls
use Rattle.inode_machine.proofs.Basics.{given_is, idle_as, unlocks_nothing, locked_held, below_is, fails, s-join-from, s-leave-from, s-say}
use Rattle.inode_machine.proofs.Writings.{wrote_step, IsWritable, OpensFile, file_same, file_stays, s-check-file, s-join-file, s-lock-open, s-write-file}

-- Lists of acts that grow at their end.

last_more : (xs : List Act) (a : Act) → last_cause (xs ++ a ∷ []) ≡ cause_of a.answer
unfolding last_cause
last_more [] a = refl
last_more (x ∷ []) a = refl
last_more (x ∷ y ∷ ys) a = last_more (y ∷ ys) a

first_more : (xs : List Act) (a : Act) → first_cause xs ≡ None → first_cause (xs ++ a ∷ []) ≡ cause_of a.answer
unfolding first_cause
first_more [] a e = same (cause_of a.answer)
  where
    same : (o : Option Cause) → ◌≡◌ {A = Option Cause} (elim o [ Some k ↦ Some k | None ↦ None ]) o
    same None = refl
    same (Some k) = refl
first_more (x ∷ xs) a e = go (cause_of x.answer) e (λ r. first_more xs a r)
  where
    go : (o : Option Cause) → ◌≡◌ {A = Option Cause} (elim o [ Some k ↦ Some k | None ↦ first_cause xs ]) None → (first_cause xs ≡ None → first_cause (xs ++ a ∷ []) ≡ cause_of a.answer) → ◌≡◌ {A = Option Cause} (elim o [ Some k ↦ Some k | None ↦ first_cause (xs ++ a ∷ []) ]) (cause_of a.answer)
    go None q rest = rest q
    go (Some k) q rest = absurd cc

room_more : (xs : List Act) (a : Act) → had_room xs ≡ true → had_room (a ∷ []) ≡ true → had_room (xs ++ a ∷ []) ≡ true
unfolding had_room
room_more [] a e q = q
room_more (x ∷ xs) a e q = go x.answer e (λ r. room_more xs a r q)
  where
    go : (s : StepAnswer) → ◌≡◌ {A = Bool} (elim s [ NoRoom f ↦ false | _ ↦ had_room xs ]) true → (had_room xs ≡ true → had_room (xs ++ a ∷ []) ≡ true) → ◌≡◌ {A = Bool} (elim s [ NoRoom f ↦ false | _ ↦ had_room (xs ++ a ∷ []) ]) true
    go (Opened fd id f) r rest = rest r
    go (Bytes b) r rest = rest r
    go (Status s) r rest = rest r
    go (NewFd fd) r rest = rest r
    go Done r rest = rest r
    go (Failed k) r rest = rest r
    go (NoRoom f) r rest = absurd cc

-- The first pieces, written: their acts, and their steps with the newest first.

abbrev pub done_acts : ℕ → List ℕ → ℕ → List Act
done_acts fd bytes zero = []
done_acts fd bytes (suc i) = done_acts fd bytes i ++ record { step = WritePart fd (piece bytes i); answer = Done } ∷ []

abbrev pub wrote_steps : ℕ → List ℕ → ℕ → List Step
wrote_steps fd bytes zero = []
wrote_steps fd bytes (suc i) = wrote_step fd (piece bytes i) ∷ wrote_steps fd bytes i

done_last : (fd : ℕ) (bytes : List ℕ) (i : ℕ) → last_cause (done_acts fd bytes i) ≡ None
unfolding last_cause
done_last fd bytes zero = refl
done_last fd bytes (suc i) = last_more (done_acts fd bytes i) (record { step = WritePart fd (piece bytes i); answer = Done })

done_first : (fd : ℕ) (bytes : List ℕ) (i : ℕ) → first_cause (done_acts fd bytes i) ≡ None
unfolding first_cause
done_first fd bytes zero = refl
done_first fd bytes (suc i) = first_more (done_acts fd bytes i) (record { step = WritePart fd (piece bytes i); answer = Done }) (done_first fd bytes i)

done_room : (fd : ℕ) (bytes : List ℕ) (i : ℕ) → had_room (done_acts fd bytes i) ≡ true
unfolding had_room
done_room fd bytes zero = refl
done_room fd bytes (suc i) = room_more (done_acts fd bytes i) (record { step = WritePart fd (piece bytes i); answer = Done }) (done_room fd bytes i) refl

done_length : (fd : ℕ) (bytes : List ℕ) (i : ℕ) → length (done_acts fd bytes i) ≡ i
done_length fd bytes zero = refl
done_length fd bytes (suc i) =
    let a = length-append (done_acts fd bytes i) (record { step = WritePart fd (piece bytes i); answer = Done } ∷ []) in
    let b = done_length fd bytes i in
    let c : length {A = Act} (record { step = WritePart fd (piece bytes i); answer = Done } ∷ []) ≡ 1 = refl in
    omega (arith, a, b, c)

not_below : (n : ℕ) → nat_lt n n ≡ false
not_below n = grind (arith, nat_tests)

next_done : (fd : ℕ) (bytes : List ℕ) (i : ℕ) → i < piece_count bytes → next_of (calls.Write fd bytes) (done_acts fd bytes i) ≡ Some (WritePart fd (piece bytes i))
unfolding next_of
next_done fd bytes i lt =
    (λ r. next_piece fd bytes (done_acts fd bytes i) (done_last fd bytes i r))
    ∙ (λ r. if nat_lt (done_length fd bytes i r) (piece_count bytes) then Some (WritePart fd (piece bytes (done_length fd bytes i r))) else None)
    ∙ (λ r. if below_is i (piece_count bytes) lt r then Some (WritePart fd (piece bytes i)) else None)

none_done : (fd : ℕ) (bytes : List ℕ) (i : ℕ) → i ≡ piece_count bytes → next_of (calls.Write fd bytes) (done_acts fd bytes i) ≡ None
unfolding next_of
none_done fd bytes i e =
    (λ r. next_piece fd bytes (done_acts fd bytes i) (done_last fd bytes i r))
    ∙ (λ r. if nat_lt (done_length fd bytes i r) (piece_count bytes) then Some (WritePart fd (piece bytes (length (done_acts fd bytes i)))) else None)
    ∙ (λ r. if nat_lt (e r) (piece_count bytes) then Some (WritePart fd (piece bytes (length (done_acts fd bytes i)))) else None)
    ∙ (λ r. if not_below (piece_count bytes) r then Some (WritePart fd (piece bytes (length (done_acts fd bytes i)))) else None)

-- what follows the first pieces ends the call
played : (fd : ℕ) (bytes : List ℕ) (i : ℕ) (rest : List Step) (r : Reply) → i ≤ piece_count bytes → IsPlayed (calls.Write fd bytes) (done_acts fd bytes i) rest r → IsPlayed (calls.Write fd bytes) [] (onto (wrote_steps fd bytes i) rest) r
played fd bytes zero rest r le p = p
played fd bytes (suc i) rest r le p = played fd bytes i (wrote_step fd (piece bytes i) ∷ rest) r (omega (arith, le)) (next_done fd bytes i (omega (arith, le)), p)

whole_written : (fd : ℕ) (bytes : List ℕ) (i : ℕ) → i ≡ piece_count bytes → IsWholeCall (calls.Write fd bytes) (oldest_first (wrote_steps fd bytes i)) (write_reply fd bytes)
unfolding reply_of
whole_written fd bytes i e = played fd bytes i [] (write_reply fd bytes) (omega (arith, e)) (record {
  through = none_done fd bytes i e;
  reply = sym (λ r. record { answer = counted (done_first fd bytes i r) (length bytes); call = calls.Write fd bytes });
  room = done_room fd bytes i;
})

fails_played : (fd : ℕ) (bytes : List ℕ) (i : ℕ) (c : Cause) → i < piece_count bytes → IsPlayed (calls.Write fd bytes) (done_acts fd bytes i) (fails (WritePart fd (piece bytes i)) c ∷ []) (failed (calls.Write fd bytes) c)
unfolding next_of reply_of had_room
fails_played fd bytes i c lt = (
  next_done fd bytes i lt,
  record {
    through = λ r. next_piece fd bytes (done_acts fd bytes i ++ act ∷ []) (last_more (done_acts fd bytes i) act r);
    reply = sym (λ r. record { answer = counted (first_more (done_acts fd bytes i) act (done_first fd bytes i) r) (length bytes); call = calls.Write fd bytes });
    room = room_more (done_acts fd bytes i) act (done_room fd bytes i) refl;
  },
)
  where
    act : Act
    act = record { step = WritePart fd (piece bytes i); answer = Failed c }

failed_written : (fd : ℕ) (bytes : List ℕ) (i : ℕ) (c : Cause) → i < piece_count bytes → IsWholeCall (calls.Write fd bytes) (oldest_first (fails (WritePart fd (piece bytes i)) c ∷ wrote_steps fd bytes i)) (failed (calls.Write fd bytes) c)
failed_written fd bytes i c lt = played fd bytes i (fails (WritePart fd (piece bytes i)) c ∷ []) (failed (calls.Write fd bytes) c) (omega (arith, lt)) (fails_played fd bytes i c lt)

-- a whole list begins a call
pub begun_whole : (version : Version) (fd : ℕ) (bytes : List ℕ) (es : List Step) (r : Reply) → IsWholeCall (calls.Write fd bytes) (oldest_first es) r → Begun (descriptor_calls version) (calls.Write fd bytes) es
begun_whole version fd bytes es r w = whole_so_far (calls.Write fd bytes) [] (oldest_first es) r w

begun_failed : (version : Version) (fd : ℕ) (bytes : List ℕ) (i : ℕ) (c : Cause) → i < piece_count bytes → Begun (descriptor_calls version) (calls.Write fd bytes) (fails (WritePart fd (piece bytes i)) c ∷ wrote_steps fd bytes i)
begun_failed version fd bytes i c lt = begun_whole version fd bytes (fails (WritePart fd (piece bytes i)) c ∷ wrote_steps fd bytes i) (failed (calls.Write fd bytes) c) (failed_written fd bytes i c lt)

begun_wrote : (version : Version) (fd : ℕ) (bytes : List ℕ) (i : ℕ) → i < piece_count bytes → Begun (descriptor_calls version) (calls.Write fd bytes) (wrote_steps fd bytes (suc i))
begun_wrote version fd bytes i lt = elim (same_or (suc i) (piece_count bytes)) [
  | inl e ↦ (begun_whole version) fd bytes (wrote_steps fd bytes (suc i)) (write_reply fd bytes) (whole_written fd bytes (suc i) e)
  | inr ne ↦
      let less : suc i < piece_count bytes = omega (arith, lt, ne) in
      let rest : List Step = fails (WritePart fd (piece bytes (suc i))) BadDescriptor ∷ [] in
      let p = played fd bytes (suc i) rest (failed (calls.Write fd bytes) BadDescriptor) (omega (arith, less)) (fails_played fd bytes (suc i) BadDescriptor less) in
      played_so_far (calls.Write fd bytes) [] (oldest_first (wrote_steps fd bytes (suc i))) rest (failed (calls.Write fd bytes) BadDescriptor) (subst (λ (z : List Step). IsWholeCall (calls.Write fd bytes) z (failed (calls.Write fd bytes) BadDescriptor)) (onto_is (wrote_steps fd bytes (suc i)) rest) p)
]

-- What the hart has between two pieces.

abbrev pub unjoined : Own → Own
unjoined O = record O { desk = record (O.desk) { joined = false; noted = None } }

abbrev pub given : Own → Own
given O = record O { inodes = nothing; mine = record { refs = O.mine.refs; walk = None; pending = None } }

abbrev pub again : Own → Own
again O = record (unjoined (given O)) { desk = record (O.desk) { joined = true; noted = None } }

rests_again : (O : Own) → Rests (unjoined O) → Rests (unjoined (given O))
rests_again O r = record { inodes = refl; refs = r.refs; walk = refl; pending = refl; hold = r.hold; hand = r.hand; joined = refl; lent = r.lent; opening = r.opening; left = r.left; noted = refl }

abbrev pub filled : Own → Own
filled O = record O { desk = record (O.desk) { full = true } }

rests_filled : (O : Own) → Rests (unjoined O) → Rests (unjoined (given (filled O)))
rests_filled O r = record { inodes = refl; refs = r.refs; walk = refl; pending = refl; hold = r.hold; hand = r.hand; joined = refl; lent = r.lent; opening = r.opening; left = r.left; noted = refl }

-- a resting hart that has joined
abbrev pub joins : Own → Own
joins O = record O { desk = record (O.desk) { joined = true } }

rests_joins : (O : Own) → Rests O → Rests (unjoined (joins O))
rests_joins O r = record { inodes = r.inodes; refs = r.refs; walk = r.walk; pending = r.pending; hold = r.hold; hand = r.hand; joined = refl; lent = r.lent; opening = r.opening; left = r.left; noted = refl }

rests_still : (O : Own) → Rests O → Rests (record O { mine = record { refs = O.mine.refs; walk = None; pending = None } })
rests_still O r = record { inodes = r.inodes; refs = r.refs; walk = refl; pending = refl; hold = r.hold; hand = r.hand; joined = r.joined; lent = r.lent; opening = r.opening; left = r.left; noted = r.noted }

-- once the inode is given up the transaction is left
s-leaves : (version : Version) {A : Type 0} {h : ℕ} (O : Own) (i : ℕ) (x : Option Held) {p : P (machine version) A} {B : List Step → Type 0} {Q : A → List Step → World → Type 0} {n : ℕ} {es : List Step} {w : World}
    → own_of h w ≡ record O { inodes = put (put O.inodes i x) i None; mine = record { refs = O.mine.refs; walk = None; pending = None } } → O.desk.lender ≡ None → h < hart_count → 62 < n → O.inodes ≡ nothing → O.desk.joined ≡ true → O.row.hold ≡ None
    → ((l : ℕ) (v u : World) → l + 63 ≡ n → KeepsFiles h w v → u.files ≡ v.files → own_of h u ≡ unjoined (given O) → Safe (machine version) h B Q p l es u)
    → Safe (machine version) h B Q (Do Leave unmarked (λ _. p)) n es w
s-leaves version O i x own free lt pos empty joined none rest =
    s-leave-from version (own ∙ (λ r. record O { inodes = given_is O.inodes i x empty r; mine = record { refs = O.mine.refs; walk = None; pending = None } })) free lt pos (unlocks_nothing nothing refl) joined (ap (λ (o : Option Hold). holds_raised true o) none)
    (λ j y is. absurd (let a : ◌≡◌ {A = Option Held} None (Some y) = is in cc)) rest

piece_short : (bytes : List ℕ) (i : ℕ) → length (piece bytes i) ≤ piece_len
piece_short bytes i = let a = length-take piece_len (drop (piece_len * i) bytes) in omega (arith, a)

-- One piece: the call ends with it, or goes on.
s-piece : (version : Version) {h : ℕ} (fd n : ℕ) (bytes : List ℕ) (i : ℕ) (O : Own) {more : P (machine version) Reply} {N : ℕ} {w : World}
    → own_of h w ≡ O → O.desk.lender ≡ None → h < hart_count → 165 < N → O.desk.joined ≡ true → Rests (unjoined O) → (key : IsWritable O fd n) → OpensFile w key.opened.slot → i < piece_count bytes
    → ((l : ℕ) (u : World) → l + 165 ≡ N → OpensFile u key.opened.slot → own_of h u ≡ unjoined (given O) → Safe (machine version) h (Begun (descriptor_calls version) (calls.Write fd bytes)) (Ends (descriptor_calls version) h (calls.Write fd bytes)) more l (wrote_steps fd bytes (suc i)) u)
    → Safe (machine version) h (Begun (descriptor_calls version) (calls.Write fd bytes)) (Ends (descriptor_calls version) h (calls.Write fd bytes)) (write_piece fd n bytes i more) N (wrote_steps fd bytes i) w
s-piece version {h} fd n bytes i O own free lt pos joined rests key file below rest =
    s-lock-open version fd n own free lt (omega (arith, pos)) rests.opening (λ j. ap (λ (f : ℕ → Option Held). f j) rests.inodes) key file (λ l0 offset x u0 q0 stands file0 own0.
    s-write-file version fd n offset (piece bytes i) x own0 free lt (omega (arith, pos, q0)) rests.walk rests.pending rests.opening (put_same O.inodes n (Some (locked_held (Some x)))) joined
    (record { opened = record { slot = key.opened.slot; below = key.opened.below; is = key.opened.is; key = key.opened.key; at = key.opened.at; number = key.opened.number }; writable = key.writable }) (record { entry = stands.entry; at = stands.at; number = stands.number; offset_is = stands.offset_is }) file0 (piece_short bytes i) (λ c. begun_failed version fd bytes i c below) (begun_wrote version fd bytes i below)
    (λ l c u q own2. s-leaves version O n (Some (locked_held (Some x))) own2 free lt (omega (arith, pos, q0, q)) rests.inodes joined rests.hold (λ l2 v2 u2 q2 keeps2 same2 own3.
    s-say version own3 free lt (omega (arith, pos, q0, q, q2)) (unlocks_nothing nothing refl) refl (λ l3 u3 q3 _ own4. record { wp = (λ _. failed_written fd bytes i c below, idle_as h u3 _ own4 (rests_again O rests)) })))
    (λ l j u q dirty own2. s-leaves version (filled O) n (Some (locked_held (Some x))) own2 free lt (omega (arith, pos, q0, q)) rests.inodes joined rests.hold (λ l2 v2 u2 q2 keeps2 same2 own3.
    s-say version own3 free lt (omega (arith, pos, q0, q, q2)) (unlocks_nothing nothing refl) refl (λ l3 u3 q3 spoilt own4. record { wp = (λ c. absurd (let a = spoilt refl in cc (a, c)), idle_as h u3 _ own4 (rests_filled O rests)) })))
    (λ l u q file1 own2. s-leaves version O n (Some (locked_held (Some x))) own2 free lt (omega (arith, pos, q0, q)) rests.inodes joined rests.hold (λ l2 v2 u2 q2 keeps2 same2 own3.
    rest l2 u2 (omega (arith, q0, q, q2)) (file_same key.opened.slot v2 u2 same2 (file_stays h fd key.opened.slot u v2 lt key.opened.below (ap (λ (o : Own). o.desk.fds fd) own2 ∙ key.opened.is) keeps2 file1)) own3)))

-- The pieces from one on.
from_ok : (version : Version) (h fd n : ℕ) (bytes : List ℕ) (left i N : ℕ) (O : Own) (w : World) → own_of h w ≡ O → O.desk.lender ≡ None → h < hart_count → O.desk.joined ≡ true → Rests (unjoined O) → (key : IsWritable O fd n) → OpensFile w key.opened.slot → i + left + 1 ≡ piece_count bytes → 200 * left + 200 ≤ N
    → Safe (machine version) h (Begun (descriptor_calls version) (calls.Write fd bytes)) (Ends (descriptor_calls version) h (calls.Write fd bytes)) (write_from fd n bytes left i) N (wrote_steps fd bytes i) w
from_ok version h fd n bytes zero i N O w own free lt joined rests key file count enough =
    s-piece version fd n bytes i O own free lt (omega (arith, enough)) joined rests key file (omega (arith, count)) (λ l u q file2 own2.
    s-say version own2 free lt (omega (arith, enough, q)) (unlocks_nothing nothing refl) refl (λ l2 u2 q2 _ own3. record { wp = (λ _. whole_written fd bytes (suc i) (omega (arith, count)), idle_as h u2 _ own3 (rests_again O rests)) }))
from_ok version h fd n bytes (suc left) i N O w own free lt joined rests key file count enough =
    s-piece version fd n bytes i O own free lt (omega (arith, enough)) joined rests key file (omega (arith, count)) (λ l u q file2 own2.
    s-join-from version own2 free lt (omega (arith, enough, q)) (unlocks_nothing nothing refl) refl (λ l2 v2 u2 q2 keeps2 same2 own3.
    subst (λ (k : ℕ). Safe (machine version) h (Begun (descriptor_calls version) (calls.Write fd bytes)) (Ends (descriptor_calls version) h (calls.Write fd bytes)) (write_from fd n bytes left (i + 1)) l2 (wrote_steps fd bytes k) u2) (add-one i)
    (from_ok version h fd n bytes left (i + 1) l2 (again O) u2 own3 free lt refl (rests_again O rests) (record { opened = record { slot = key.opened.slot; below = key.opened.below; is = key.opened.is; key = key.opened.key; at = key.opened.at; number = key.opened.number }; writable = key.writable })
    (file_same key.opened.slot v2 u2 same2 (file_stays h fd key.opened.slot u v2 lt key.opened.below (ap (λ (o : Own). o.desk.fds fd) own2 ∙ key.opened.is) keeps2 file2)) (omega (arith, count)) (omega (arith, enough, q, q2)))))

some_pieces : (bytes : List ℕ) → 0 < piece_count bytes
some_pieces bytes = go (length bytes)
  where
    go : (n : ℕ) → 0 < (if n == 0 then 1 else (n + (3072 - 1)) / 3072)
    go n = elim (either (n == 0)) [
      | inl y ↦ rw y (omega arith)
      | inr y ↦ rw y (let ne = eq_isnt n 0 y in let a : 1 ≤ (n + (3072 - 1)) / 3072 = (le-div_iff_mul-le {k = 3072} {x = 1} {y = n + (3072 - 1)} (omega arith)).1 (omega (arith, ne)) in omega (arith, a))
    ]

enough_left : (count l n : ℕ) → 0 < count → l + 1 ≡ n → n ≡ 200 * (count + 1) → 200 * (count - 1) + 200 ≤ l
enough_left count l n pos q e = omega (arith, pos, q, e)

pub write_ok : (version : Version) (h fd : ℕ) (bytes : List ℕ) (w : World) → (w.desks h).lender ≡ None → h < hart_count → Idle h w → Safe (machine version) h (Begun (descriptor_calls version) (calls.Write fd bytes)) (Ends (descriptor_calls version) h (calls.Write fd bytes)) (write_program fd bytes) (piece_cost * (piece_count bytes + 1)) [] w
write_ok version h fd [] w free lt idle =
    s-check-file version fd refl free lt (omega arith) idle.walk idle.pending idle.opening (λ c. begun_failed version fd [] 0 c (some_pieces [])) (begun_wrote version fd [] 0 (some_pieces []))
    (λ l c u q own. record { wp = (λ _. failed_written fd [] 0 c (some_pieces []), idle_as h u _ own (rests_still (own_of h w) idle)) })
    (λ l u q own. record { wp = (λ _. whole_written fd [] 1 refl, idle_as h u _ own (rests_still (own_of h w) idle)) })
write_ok version h fd (b ∷ bs) w free lt idle =
    let some = some_pieces (b ∷ bs) in
    s-join-file version fd (piece (b ∷ bs) 0) refl free lt (omega (arith, some)) idle.walk idle.pending idle.opening (unlocks_nothing (own_of h w).inodes idle.inodes) idle.joined (λ c. begun_failed version fd (b ∷ bs) 0 c some)
    (λ l c u q own. record { wp = (λ _. failed_written fd (b ∷ bs) 0 c some, idle_as h u _ own (rests_still (own_of h w) idle)) })
    (λ l i u q key file own.
    from_ok version h fd i (b ∷ bs) (piece_count (b ∷ bs) - 1) 0 l (joins (own_of h w)) u own free lt refl (rests_joins (own_of h w) idle) (record { opened = record { slot = key.opened.slot; below = key.opened.below; is = key.opened.is; key = key.opened.key; at = key.opened.at; number = key.opened.number }; writable = key.writable }) file
    (omega (arith, some)) (enough_left (piece_count (b ∷ bs)) l _ some q refl))
