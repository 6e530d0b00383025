-- The calls on descriptors are right, whatever the other harts do.
use Rattle.image_versions.specs.declared.version.Version.{Version}
use Rattle.inode_machine.proofs.Vocabulary.{◌≡◌, inl, inr, ℕ, ◌+◌, ◌-◌, ◌<◌, ◌≤◌, Bool, true, false, nat_lt, not, ◌==◌, List, [], ◌∷◌, ◌++◌, length, Option, Some, None, refl, sym, ◌∙◌, ap, subst, arith, nat_tests, Safe, Laws, Began, Begins, Begun, Ends, IsBeginning, Right, Lawful, Cause, BadDescriptor, Call, Node, hart_count, put, next_of, reply_of, had_room, Row, Hold, holds_raised, one_if, put_same, put_other, same_or, IsWholeCall, Desk, World, stage_of, face_or, face_of, Held, Own, Others, Rests, own_of, Idle, Inv, machine, asked_limit, dup_program, close_program, stat_program, stat_reply, read_program, read_reply, program, limit, rest_cost, descriptor_calls, calls_that, on_descriptors, begin_call, Refusal}
use Rattle.plain_tree.specs.declared.answer.Answer.TheVariants as answers
use Rattle.plain_tree.specs.declared.call.Call.TheVariants as calls
use Rattle.plain_tree.specs.declared.step.Action.TheVariants as steps
use Rattle.inode_machine.specs.Parts as parts
use Rattle.inode_machine.proofs.Basics.{locked_held, s-give, one_most, fails, dupped, s-double, s-join, s-leave, s-say, SameRow, SameDesk, begun_same, start_is, files_then, given_is, idle_as, unlocks_nothing, s-drop}
use Rattle.inode_machine.proofs.Closes.{shut_step, s-shut}
use Rattle.inode_machine.proofs.Stats.{stat_step, stat_face, s-stat-file}
use Rattle.inode_machine.proofs.Readings.{read_step, s-lock-file, s-read-file}
use Rattle.inode_machine.proofs.WriteCalls.{write_ok}

-- The machine's laws.

pub laws : (version : Version) → Laws (machine version)
laws version =
    record {
      same = λ h w. record { none = refl; same = λ f. refl; opens = λ f i k e below li is at. (e, at, refl, (λ keeps. refl)); rests = λ i. i; clean = λ c. c };
      trans = λ h u v w xs ys o p. record {
        none = (λ i. o.none i ++ p.none i);
        same = λ f. p.same (ap (λ (z : Own). z.desk.lender) (o.same f) ∙ f) ∙ o.same f;
        opens = λ f. files_then h u v w (o.same f) (o.opens f) (p.opens (ap (λ (z : Own). z.desk.lender) (o.same f) ∙ f));
        rests = λ i. p.rests (o.rests i);
        clean = λ c. o.clean (p.clean c);
      };
      idle_none = λ h v w xs o i. o.none;
      idle_stays = λ h v w xs o i. o.rests i;
      clean_before = λ h v w xs o. o.clean;
    }

-- What a hart has at a call's end.

abbrev pub ended : Own → Row → Desk → Own
ended O r d = record O { row = r; desk = d; mine = record { refs = O.mine.refs; walk = None; pending = None } }

pub rests_as : (O : Own) (r : Row) (d : Desk) → Rests O → r.hold ≡ O.row.hold → d.directory ≡ O.desk.directory → d.hand ≡ O.desk.hand → d.joined ≡ O.desk.joined → d.lent ≡ O.desk.lent → d.opening ≡ O.desk.opening → d.left ≡ O.desk.left → d.noted ≡ O.desk.noted → Rests (ended O r d)
rests_as O r d i hold directory hand joined lent opening left noted = record {
  inodes = i.inodes;
  refs = λ n. i.refs n ∙ (λ z. one_if (sym directory z == n));
  walk = refl;
  pending = refl;
  hold = hold ∙ i.hold;
  hand = hand ∙ i.hand;
  joined = joined ∙ i.joined;
  lent = lent ∙ i.lent;
  opening = opening ∙ i.opening;
  left = left ∙ i.left;
  noted = noted ∙ i.noted;
}

rests_same : (O : Own) (r : Row) (d : Desk) → Rests O → SameRow r O.row → SameDesk d O.desk → Rests (ended O r d)
rests_same O r d i row desk = rests_as O r d i row.hold desk.directory desk.hand desk.joined desk.lent desk.opening desk.left desk.noted

-- Dup.

dup_failed : (fd : ℕ) → IsWholeCall (calls.Dup fd) (fails (steps.Dup fd) BadDescriptor ∷ []) (parts.failed (calls.Dup fd) BadDescriptor)
unfolding next_of reply_of had_room
dup_failed fd = (refl, record { through = refl; reply = refl; room = refl })

dup_written : (fd f : ℕ) → IsWholeCall (calls.Dup fd) (dupped fd f ∷ []) (record { answer = answers.Fd f; call = calls.Dup fd })
unfolding next_of reply_of had_room
dup_written fd f = (refl, record { through = refl; reply = refl; room = refl })

pub dup_ok : (version : Version) (h fd : ℕ) (w : World) → (w.desks h).lender ≡ None → h < hart_count → Idle h w → Safe (machine version) h (Begun (descriptor_calls version) (calls.Dup fd)) (Ends (descriptor_calls version) h (calls.Dup fd)) (dup_program fd) rest_cost [] w
dup_ok version h fd w free lt idle =
    s-double version fd refl free lt (omega arith) idle.walk idle.pending idle.opening ((dup_failed fd).0, tt) (λ f. ((dup_written fd f).0, tt))
    (λ l u q own. record { wp = (λ c. dup_failed fd, idle_as h u _ own (rests_as (own_of h w) (own_of h w).row (own_of h w).desk idle refl refl refl refl refl refl refl refl)) })
    (λ l u q bad own. s-say version own free lt (omega (arith, q)) (unlocks_nothing (own_of h w).inodes idle.inodes) idle.joined
    (λ l2 u2 q2 spoilt own2. record { wp = (λ c. absurd (let a = spoilt refl in cc (a, c)), idle_as h u2 _ own2 (record { inodes = idle.inodes; refs = idle.refs; walk = idle.walk; pending = idle.pending; hold = idle.hold; hand = idle.hand; joined = idle.joined; lent = idle.lent; opening = idle.opening; left = idle.left; noted = idle.noted })) }))
    (λ l f r d u q row desk own. s-say version own (desk.lender ∙ free) lt (omega (arith, q)) (unlocks_nothing (own_of h w).inodes idle.inodes) (desk.joined ∙ idle.joined)
    (λ l2 u2 q2 _ own2. record { wp = (λ c. dup_written fd f, idle_as h u2 _ own2 (rests_same (own_of h w) r d idle row desk)) }))

-- Close.

close_failed : (fd : ℕ) → IsWholeCall (calls.Close fd) (fails (steps.Close fd) BadDescriptor ∷ []) (parts.failed (calls.Close fd) BadDescriptor)
unfolding next_of reply_of had_room
close_failed fd = (refl, record { through = refl; reply = refl; room = refl })

close_written : (fd : ℕ) → IsWholeCall (calls.Close fd) (shut_step fd ∷ []) (parts.done (calls.Close fd))
unfolding next_of reply_of had_room
close_written fd = (refl, record { through = refl; reply = refl; room = refl })

-- one up and one down
refs_back : (r : ℕ → ℕ) (m : ℕ) → put (put r m (r m + 1)) m (put r m (r m + 1) m - 1) ≡ r
refs_back r m = λ z n. each n z
  where
    each : (n : ℕ) → put (put r m (r m + 1)) m (put r m (r m + 1) m - 1) n ≡ r n
    each n = elim (same_or n m) [
      | inl q ↦ ap (put (put r m (r m + 1)) m (put r m (r m + 1) m - 1)) q ∙ put_same (put r m (r m + 1)) m (put r m (r m + 1) m - 1) ∙ (let a = put_same r m (r m + 1) in let b : put r m (r m + 1) m - 1 ≡ r m = omega (arith, a) in b) ∙ ap r (sym q)
      | inr ne ↦ put_other (put r m (r m + 1)) m (put r m (r m + 1) m - 1) n ne ∙ put_other r m (r m + 1) n ne
    ]

pub close_ok : (version : Version) (h fd : ℕ) (w : World) → (w.desks h).lender ≡ None → h < hart_count → Idle h w → Safe (machine version) h (Begun (descriptor_calls version) (calls.Close fd)) (Ends (descriptor_calls version) h (calls.Close fd)) (close_program fd) rest_cost [] w
close_ok version h fd w free lt idle =
    s-shut version fd refl free lt (omega arith) idle.walk idle.pending idle.opening (λ j. ap (λ (f : ℕ → Option Held). f j) idle.inodes) idle.noted idle.lent (λ j. let r = idle.refs j in let o = one_most ((w.desks h).directory == j) in omega (arith, r, o)) ((close_failed fd).0, tt) ((close_written fd).0, tt)
    (λ l u q own. record { wp = (λ c. close_failed fd, idle_as h u _ own (rests_as (own_of h w) (own_of h w).row (own_of h w).desk idle refl refl refl refl refl refl refl refl)) })
    (λ l r d u q row desk own. s-say version own (desk.lender ∙ free) lt (omega (arith, q)) none (desk.joined ∙ idle.joined)
    (λ l2 u2 q2 _ own2. record { wp = (λ c. close_written fd, idle_as h u2 _ own2 (rests_same (own_of h w) r d idle row desk)) }))
    (λ l n r d u q row desk named own.
    let more : put (w.harts h).refs n ((w.harts h).refs n + 1) n ≡ (w.harts h).refs n + 1 = put_same (w.harts h).refs n ((w.harts h).refs n + 1) in
    let unlent : d.lender ≡ None = desk.lender ∙ free in
    s-join version own unlent lt (omega (arith, q)) none (desk.joined ∙ idle.joined) (λ l2 u2 q2 own2.
    s-drop version n own2 unlent lt (omega (arith, q, q2)) refl (ap (λ (f : ℕ → Option Held). f n) idle.inodes) (omega (arith, more)) refl refl (elim named [ inl p ↦ inl (omega (arith, more, p)) | inr p ↦ inr p ]) (λ l3 u3 q3 own3.
    s-leave version own3 unlent lt (omega (arith, q, q2, q3)) none refl (ap (λ (o : Option Hold). holds_raised true o) (row.hold ∙ idle.hold)) (λ i x is. absurd (let a = ap (λ (f : ℕ → Option Held). f i) idle.inodes in cc (a, is))) (λ l4 u4 q4 own4.
    s-say version own4 unlent lt (omega (arith, q, q2, q3, q4)) none refl (λ l5 u5 q5 _ own5.
    record {
      wp = (
        λ c. close_written fd,
        idle_as h u5 _ own5 (subst (λ (f : ℕ → ℕ). Rests (record (own_of h w) { row = r; desk = record d { joined = false; noted = None }; mine = record { refs = f; walk = None; pending = None } })) (sym (refs_back (w.harts h).refs n))
            (rests_as (own_of h w) r (record d { joined = false; noted = None }) idle row.hold desk.directory desk.hand (sym idle.joined) desk.lent desk.opening desk.left (sym idle.noted))),
      );
    })))))
  where
    none : (i : ℕ) (x : Held) → (own_of h w).inodes i ≡ Some x → x.locked ≡ false
    none = unlocks_nothing (own_of h w).inodes idle.inodes

-- Fstat.

stat_failed : (fd : ℕ) → IsWholeCall (calls.Fstat fd) (fails (steps.Fstat fd) BadDescriptor ∷ []) (parts.failed (calls.Fstat fd) BadDescriptor)
unfolding next_of reply_of had_room
stat_failed fd = (refl, record { through = refl; reply = refl; room = refl })

stat_written : (version : Version) (fd i : ℕ) (v : Node) → IsWholeCall (calls.Fstat fd) (stat_step version fd i v ∷ []) (stat_reply fd i (face_or (face_of version (Some v))))
unfolding next_of reply_of had_room
stat_written version fd i v = (refl, record { through = refl; reply = λ j. record { answer = answers.Stat (stat_face version i v j); call = calls.Fstat fd }; room = refl })

pub stat_ok : (version : Version) (h fd : ℕ) (w : World) → (w.desks h).lender ≡ None → h < hart_count → Idle h w → Safe (machine version) h (Begun (descriptor_calls version) (calls.Fstat fd)) (Ends (descriptor_calls version) h (calls.Fstat fd)) (stat_program fd) rest_cost [] w
stat_ok version h fd w free lt idle =
    s-stat-file version fd refl free lt (omega arith) idle.walk idle.pending idle.opening (λ j. ap (λ (f : ℕ → Option Held). f j) idle.inodes) ((stat_failed fd).0, tt) (λ i v. ((stat_written version fd i v).0, tt))
    (λ l u q own. record { wp = (λ c. stat_failed fd, idle_as h u _ own (rests_as (own_of h w) (own_of h w).row (own_of h w).desk idle refl refl refl refl refl refl refl refl)) })
    (λ l i v u q own.
    s-give version own free lt (omega (arith, q)) (put_same (own_of h w).inodes i (Some (locked_held (Some v)))) refl refl refl refl (λ l2 u2 q2 own2.
    s-say version own2 free lt (omega (arith, q, q2)) (unlocks_nothing _ (given_is (own_of h w).inodes i (Some (locked_held (Some v))) idle.inodes)) idle.joined (λ l3 u3 q3 _ own3.
    record {
      wp = (
        λ c. stat_written version fd i v,
        idle_as h u3 _ own3 (subst (λ (f : ℕ → Option Held). Rests (record (own_of h w) { inodes = f; mine = record { refs = (own_of h w).mine.refs; walk = None; pending = None } })) (idle.inodes ∙ sym (given_is (own_of h w).inodes i (Some (locked_held (Some v))) idle.inodes))
            (rests_as (own_of h w) (own_of h w).row (own_of h w).desk idle refl refl refl refl refl refl refl refl)),
      );
    })))

-- Read.

read_failed : (fd : ℕ) (buffer : List ℕ) (c : Cause) → IsWholeCall (calls.Read fd buffer) (fails (steps.Read fd (length buffer)) c ∷ []) (parts.failed (calls.Read fd buffer) c)
unfolding next_of reply_of had_room
read_failed fd buffer c = (refl, record { through = refl; reply = refl; room = refl })

read_written : (fd : ℕ) (buffer b : List ℕ) → IsWholeCall (calls.Read fd buffer) (read_step fd (length buffer) b ∷ []) (read_reply fd buffer b)
unfolding next_of reply_of had_room
read_written fd buffer b = (refl, record { through = refl; reply = refl; room = refl })

pub read_ok : (version : Version) (h fd : ℕ) (buffer : List ℕ) (w : World) → (w.desks h).lender ≡ None → h < hart_count → Idle h w → length buffer ≤ asked_limit → Safe (machine version) h (Begun (descriptor_calls version) (calls.Read fd buffer)) (Ends (descriptor_calls version) h (calls.Read fd buffer)) (read_program fd buffer) rest_cost [] w
read_ok version h fd buffer w free lt idle asked =
    s-lock-file version fd (length buffer) refl free lt (omega arith) idle.walk idle.pending idle.opening (λ j. ap (λ (f : ℕ → Option Held). f j) idle.inodes) (λ c. ((read_failed fd buffer c).0, tt))
    (λ l c u q own. record { wp = (λ y. read_failed fd buffer c, idle_as h u _ own (rests_as (own_of h w) (own_of h w).row (own_of h w).desk idle refl refl refl refl refl refl refl refl)) })
    (λ l i offset x u q key stands own.
    s-read-file version fd i offset (length buffer) x own free lt (omega (arith, q)) asked idle.walk idle.pending idle.opening (put_same (own_of h w).inodes i (Some (locked_held x)))
    (record { opened = record { slot = key.opened.slot; below = key.opened.below; is = key.opened.is; key = key.opened.key; at = key.opened.at; number = key.opened.number }; readable = key.readable; read = key.read }) (record { entry = stands.entry; at = stands.at; number = stands.number; offset_is = stands.offset_is }) (λ b. ((read_written fd buffer b).0, tt))
    (λ l2 b u2 q2 own2.
    s-say version own2 free lt (omega (arith, q, q2)) (unlocks_nothing _ (given_is (own_of h w).inodes i (Some (locked_held x)) idle.inodes)) idle.joined (λ l3 u3 q3 _ own3.
    record {
      wp = (
        λ c. read_written fd buffer b,
        idle_as h u3 _ own3 (subst (λ (f : ℕ → Option Held). Rests (record (own_of h w) { inodes = f; mine = record { refs = (own_of h w).mine.refs; walk = None; pending = None } })) (idle.inodes ∙ sym (given_is (own_of h w).inodes i (Some (locked_held x)) idle.inodes))
            (rests_as (own_of h w) (own_of h w).row (own_of h w).desk idle refl refl refl refl refl refl refl refl)),
      );
    })))

-- A start that changes nothing.
pub right : (version : Version) (kind : Call → Bool) (h : ℕ) (call : Call) (busy : ℕ → Bool) (w u : World) → ((other : ℕ) → busy other ≡ false → Idle other w) → busy h ≡ false → ◌≡◌ {A = Began Refusal World} (Begins w) (Begins u)
    → IsBeginning (calls_that version kind) call [] → (Inv u → Idle h u → Safe (machine version) h (Begun (calls_that version kind) call) (Ends (calls_that version kind) h call) (program version call) (limit version call) [] u) → Right (calls_that version kind) h call busy w u
right version kind h call busy w u idle free begins first runs =
    let is = begun_same w u begins in
    record {
      inv = λ i. subst Inv is i;
      halted = λ i. subst Inv is i;
      kept = λ other ne b. subst (λ (x : World). Others other w [] x) is (record { none = refl; same = λ f. refl; opens = λ f i k e below li is at. (e, at, refl, (λ keeps. refl)); rests = λ i. i; clean = λ c. c });
      rests = λ other ne b. subst (λ (x : World). Idle other x) is (idle other b);
      tree = ap stage_of (sym is);
      clean = λ c. ap (λ (x : World). x.clean) is ∙ c;
      none = λ c. first;
      runs = λ i. (runs i (subst (λ (x : World). Idle h x) is (idle h free))).wp;
    }

-- Each call of some is right.
abbrev pub IsRight : Version → (Call → Bool) → (Call → Bool) → Type 0
IsRight version kind these = (h : ℕ) (call : Call) (busy : ℕ → Bool) (w u : World) → h < hart_count → these call ≡ true → (u.desks h).lender ≡ None → ((other : ℕ) → busy other ≡ false → Idle other w) → busy h ≡ false → begin_call h call busy w ≡ Begins u → Right (calls_that version kind) h call busy w u

-- if each call of the kind is right, all of them are
pub lawful_that : (version : Version) (kind : Call → Bool) → IsRight version kind kind → Lawful (calls_that version kind)
lawful_that version kind calls = record {
  laws = laws version;
  calls = λ h call busy w u holds idle free e. let s = start_is kind h call busy w u e in calls h call busy w u s.hart s.covered s.free idle free s.begins;
}

asks_within : (n : ℕ) → not (nat_lt asked_limit n) ≡ true → n ≤ asked_limit
asks_within n q = grind (arith, nat_tests)

pub descriptors_right : (version : Version) (kind : Call → Bool) → IsRight version kind on_descriptors
descriptors_right version kind h (calls.Dup fd) busy w u lt here out idle free is = right version kind h (calls.Dup fd) busy w u idle free is tt (λ _ i. dup_ok version h fd u out lt i)
descriptors_right version kind h (calls.Close fd) busy w u lt here out idle free is = right version kind h (calls.Close fd) busy w u idle free is tt (λ _ i. close_ok version h fd u out lt i)
descriptors_right version kind h (calls.Fstat fd) busy w u lt here out idle free is = right version kind h (calls.Fstat fd) busy w u idle free is tt (λ _ i. stat_ok version h fd u out lt i)
descriptors_right version kind h (calls.Read fd buffer) busy w u lt here out idle free is = right version kind h (calls.Read fd buffer) busy w u idle free is tt (λ _ i. read_ok version h fd buffer u out lt i (asks_within (length buffer) here))
descriptors_right version kind h (calls.Open path flags) busy w u lt here out idle free is = absurd cc
descriptors_right version kind h (calls.Write fd bytes) busy w u lt here out idle free is = right version kind h (calls.Write fd bytes) busy w u idle free is tt (λ _ i. write_ok version h fd bytes u out lt i)
descriptors_right version kind h (calls.Link old new) busy w u lt here out idle free is = absurd cc
descriptors_right version kind h (calls.Unlink path) busy w u lt here out idle free is = absurd cc
descriptors_right version kind h (calls.Mkdir path) busy w u lt here out idle free is = absurd cc
descriptors_right version kind h (calls.Chdir path) busy w u lt here out idle free is = absurd cc
descriptors_right version kind h (calls.Inherit child) busy w u lt here out idle free is = absurd cc
