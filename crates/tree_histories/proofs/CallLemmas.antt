-- What a list has of one call, with one step more or one less.
use Rattle.tree_histories.proofs.Vocabulary.{◌≡◌, ◌≢◌, ℕ, ◌+◌, ◌-◌, ◌/◌, ◌<◌, nat_lt, true, false, List, [], ◌∷◌, ◌++◌, length, ◌==◌, refl, sym, ◌∙◌, ap, subst, append_assoc, inl, inr, arith, Option, Some, None, if◌then◌else◌, cases_Bool, nat_tests, Reply, Call, Write, Link, Action, StepAnswer, Opened, Bytes, Status, NewFd, Done, Failed, NoRoom, TracedCall, is_nothing, is_full, Act, Follows, IsWhole, first_cause, had_room, last_cause, linked, next_of, piece_count, reply_of, IsWritten, Stand, after, is_told, next_from, reply_at, stand_from, stand_of, start, AgreesWith, Fits, IsOfCall, end_of, knows}
use Rattle.plain_tree.specs.Calls.{counted}
use Rattle.tree_histories.proofs.StandLemmas.{equal_is, equal_not, next_is, stand_cause, stand_count, stand_push}
pub use Rattle.plain_tree.proofs.ProgressLemmas.{follows_push, follows_at}

pub nothing_is : {A : Type 0} (o : Option A) → is_nothing o ≡ true → o ≡ None
nothing_is None e = refl
nothing_is (Some x) e = absurd cc

pub follows_front : (c : Call) (before acts rest : List Act) → Follows c before (acts ++ rest) → Follows c before acts
unfolding Follows
follows_front c before [] rest f = tt
follows_front c before (b ∷ bs) rest f = (f.0, follows_front c (before ++ b ∷ []) bs rest f.1)

pub some_not : {A : Type 0} (o : Option A) (x : A) → o ≡ None → o ≡ Some x → ⊥
some_not o x e f = cc

-- if nothing comes next, nothing follows
pub follows_end : (c : Call) (acts rest : List Act) → Follows c [] (acts ++ rest) → next_of c acts ≡ None → rest ≡ []
follows_end c acts [] f n = refl
follows_end c acts (a ∷ rest) f n = absurd (some_not (next_of c acts) a.step n (follows_at c [] acts a rest f))

pub nothing_was : {A : Type 0} (o : Option A) → o ≡ None → is_nothing o ≡ true
nothing_was None e = refl
nothing_was (Some x) e = absurd cc

-- Room.

room_at : (b : Act) (bs : List Act) → had_room (b ∷ bs) ≡ (if is_full b.answer then false else had_room bs)
unfolding had_room
room_at b bs = go b.step b.answer where
  go : (s : Action) (x : StepAnswer) → had_room (record { step = s; answer = x } ∷ bs) ≡ (if is_full x then false else had_room bs)
  go s (NoRoom f) = refl
  go s (Opened fd id f) = refl
  go s (Bytes b) = refl
  go s (Status t) = refl
  go s (NewFd fd) = refl
  go s Done = refl
  go s (Failed k) = refl

room_both : (b : Act) (bs : List Act) → had_room (b ∷ bs) ≡ true → (is_full b.answer ≡ false) × (had_room bs ≡ true)
room_both b bs h = elim (cases_Bool (is_full b.answer)) [
  | inl y ↦ absurd (let x : (if is_full b.answer then false else had_room bs) ≡ true = sym (room_at b bs) ∙ h in let z = rw y at x in cc)
  | inr y ↦ (let x : (if is_full b.answer then false else had_room bs) ≡ true = sym (room_at b bs) ∙ h in (y, rw y at x))
]

room_cons : (b : Act) (bs : List Act) → is_full b.answer ≡ false → had_room bs ≡ true → had_room (b ∷ bs) ≡ true
room_cons b bs f h = room_at b bs ∙ rw f h

room_nil : had_room [] ≡ true
unfolding had_room
room_nil = refl

pub room_front : (acts rest : List Act) → had_room (acts ++ rest) ≡ true → had_room acts ≡ true
room_front [] rest h = room_nil
room_front (b ∷ bs) rest h = let x : (is_full b.answer ≡ false) × (had_room (bs ++ rest) ≡ true) = room_both b (bs ++ rest) h in room_cons b bs x.0 (room_front bs rest x.1)

pub room_push : (acts : List Act) (a : Act) → had_room acts ≡ true → is_full a.answer ≡ false → had_room (acts ++ a ∷ []) ≡ true
room_push [] a h f = room_cons a [] f room_nil
room_push (b ∷ bs) a h f = let x : (is_full b.answer ≡ false) × (had_room bs ≡ true) = room_both b bs h in room_cons b (bs ++ a ∷ []) x.0 (room_push bs a x.1 f)

pub room_of : (acts : List Act) (a : Act) (rest : List Act) → had_room (acts ++ a ∷ rest) ≡ true → is_full a.answer ≡ false
room_of [] a rest h = (room_both a rest h).0
room_of (b ∷ bs) a rest h = room_of bs a rest (room_both b (bs ++ a ∷ rest) h).1

-- Replies.

cause_of_stand : (s : Stand) (acts : List Act) → s ≡ stand_of acts → first_cause acts ≡ s.cause
cause_of_stand s acts e = sym (ap (λ (x : Stand). x.cause) e ∙ stand_cause start acts)

told_next : (c : Call) (s : Stand) (acts : List Act) → s ≡ stand_of acts → is_nothing (next_from c s) ≡ is_nothing (next_of c acts)
told_next c s acts e = ap (λ (x : Stand). is_nothing (next_from c x)) e ∙ ap is_nothing (sym (next_is c acts))

-- the reply that is known after the step
pub reply_push : (c : Call) (acts : List Act) (a : Act) (s s' : Stand) (r : Reply) → s ≡ stand_of acts → s' ≡ stand_of (acts ++ a ∷ []) → (knows c acts ≡ true → r ≡ reply_of c acts)
    → (is_told c s s' ≡ true → r ≡ reply_at c s'.cause a.answer) → knows c (acts ++ a ∷ []) ≡ true → r ≡ reply_of c (acts ++ a ∷ [])
unfolding reply_of stand_from
reply_push (Write fd bytes) acts a s s' r e e' old told k =
    told (told_next (Write fd bytes) s' (acts ++ a ∷ []) e' ∙ k) ∙ ap (λ x. let y : Reply = record { answer = counted x (length bytes); call = Write fd bytes } in y) (sym (cause_of_stand s' (acts ++ a ∷ []) e'))
reply_push (Link p q) acts a s s' r e e' old told k =
    told (told_next (Link p q) s' (acts ++ a ∷ []) e' ∙ k) ∙ ap (λ x. let y : Reply = record { answer = linked x; call = Link p q } in y) (sym (cause_of_stand s' (acts ++ a ∷ []) e'))
reply_push c [] a s s' r e e' old told k = told (equal_is s.count 0 (ap (λ (x : Stand). x.count) e))
reply_push c (b ∷ bs) a s s' r e e' old told k = old refl

none_acted : (s : Stand) (b : Act) (bs : List Act) → s ≡ stand_of (b ∷ bs) → (s.count == 0) ≡ true → ⊥
none_acted s b bs e y =
    let n : (stand_of (b ∷ bs)).count ≡ 0 + length (b ∷ bs) = stand_count start (b ∷ bs) in
    let m : s.count ≡ (stand_of (b ∷ bs)).count = ap (λ (x : Stand). x.count) e in
    let z : s.count ≢ 0 = omega arith in
    let f : (s.count == 0) ≡ false = equal_not s.count 0 z in
    cc

-- A reply that is whole was known with the step.
pub reply_told : (c : Call) (acts : List Act) (a : Act) (rest : List Act) (s s' : Stand) (r : Reply) → s ≡ stand_of acts → s' ≡ stand_of (acts ++ a ∷ []) → IsWhole c (acts ++ a ∷ rest) r
    → is_told c s s' ≡ true → r ≡ reply_at c s'.cause a.answer
unfolding reply_of
reply_told (Write fd bytes) acts a rest s s' r e e' w t =
    let f : Follows (Write fd bytes) [] ((acts ++ a ∷ []) ++ rest) = subst (λ x. Follows (Write fd bytes) [] x) (sym (append_assoc acts (a ∷ []) rest)) w.0 in
    let n : next_of (Write fd bytes) (acts ++ a ∷ []) ≡ None = nothing_is (next_of (Write fd bytes) (acts ++ a ∷ [])) (sym (told_next (Write fd bytes) s' (acts ++ a ∷ []) e') ∙ t) in
    let z : rest ≡ [] = follows_end (Write fd bytes) (acts ++ a ∷ []) rest f n in
    w.2 ∙ ap (λ x. let y : Reply = record { answer = counted x (length bytes); call = Write fd bytes } in y) (ap (λ x. first_cause (acts ++ a ∷ x)) z ∙ cause_of_stand s' (acts ++ a ∷ []) e')
reply_told (Link p q) acts a rest s s' r e e' w t =
    let f : Follows (Link p q) [] ((acts ++ a ∷ []) ++ rest) = subst (λ x. Follows (Link p q) [] x) (sym (append_assoc acts (a ∷ []) rest)) w.0 in
    let n : next_of (Link p q) (acts ++ a ∷ []) ≡ None = nothing_is (next_of (Link p q) (acts ++ a ∷ [])) (sym (told_next (Link p q) s' (acts ++ a ∷ []) e') ∙ t) in
    let z : rest ≡ [] = follows_end (Link p q) (acts ++ a ∷ []) rest f n in
    w.2 ∙ ap (λ x. let y : Reply = record { answer = linked x; call = Link p q } in y) (ap (λ x. first_cause (acts ++ a ∷ x)) z ∙ cause_of_stand s' (acts ++ a ∷ []) e')
reply_told c [] a rest s s' r e e' w t = w.2
reply_told c (b ∷ bs) a rest s s' r e e' w t = absurd (none_acted s b bs e t)

-- the reply that is known before the last step
reply_front : (c : Call) (acts : List Act) (a : Act) (r : Reply) → Follows c [] (acts ++ a ∷ []) → (knows c (acts ++ a ∷ []) ≡ true → r ≡ reply_of c (acts ++ a ∷ [])) → knows c acts ≡ true → r ≡ reply_of c acts
unfolding reply_of
reply_front (Write fd bytes) acts a r f new k = absurd (some_not (next_of (Write fd bytes) acts) a.step (nothing_is (next_of (Write fd bytes) acts) k) (follows_at (Write fd bytes) [] acts a [] f))
reply_front (Link p q) acts a r f new k = absurd (some_not (next_of (Link p q) acts) a.step (nothing_is (next_of (Link p q) acts) k) (follows_at (Link p q) [] acts a [] f))
reply_front c [] a r f new k = absurd cc
reply_front c (b ∷ bs) a r f new k = new refl

-- if nothing comes next the reply is known
pub through_knows : (c : Call) (acts : List Act) → next_of c acts ≡ None → knows c acts ≡ true
unfolding next_of
through_knows (Write fd bytes) acts n = nothing_was (next_of (Write fd bytes) acts) n
through_knows (Link p q) acts n = nothing_was (next_of (Link p q) acts) n
through_knows c [] n = absurd cc
through_knows c (b ∷ bs) n = refl

-- The whole of a call.

agrees_push : (f : Option (ℕ × Reply)) (c : Call) (acts : List Act) (a : Act) (s s' : Stand) → s ≡ stand_of acts → s' ≡ stand_of (acts ++ a ∷ []) → AgreesWith f c acts → Fits f c s s' a.answer → AgreesWith f c (acts ++ a ∷ [])
agrees_push None c acts a s s' e e' old fit = tt
agrees_push (Some r) c acts a s s' e e' old fit = record { reply = reply_push c acts a s s' r.1 e e' old.reply fit.1; room = room_push acts a old.room fit.0 }

agrees_front : (f : Option (ℕ × Reply)) (c : Call) (acts : List Act) (a : Act) → Follows c [] (acts ++ a ∷ []) → AgreesWith f c (acts ++ a ∷ []) → AgreesWith f c acts
agrees_front None c acts a w new = tt
agrees_front (Some r) c acts a w new = record { reply = reply_front c acts a r.1 w new.reply; room = room_front acts (a ∷ []) new.room }

pub call_push : (c : TracedCall) (acts : List Act) (a : Act) (s s' : Stand) (e e' : Option ℕ) → IsOfCall c acts s e → next_from c.call s ≡ Some a.step → s' ≡ after s a.answer → e' ≡ end_of c (is_nothing (next_from c.call s')) → Fits c.finished c.call s s' a.answer → IsOfCall c (acts ++ a ∷ []) s' e'
call_push c acts a s s' e e' is next later end fit =
    let stands : s' ≡ stand_of (acts ++ a ∷ []) = later ∙ (ap (λ (x : Stand). after x a.answer) is.stand ∙ sym (stand_push start acts a)) in record {
      stand = stands;
      end = end ∙ ap (λ b. end_of c b) (told_next c.call s' (acts ++ a ∷ []) stands);
      follows = follows_push c.call [] acts a is.follows (next_is c.call acts ∙ (ap (λ (x : Stand). next_from c.call x) (sym is.stand) ∙ next));
      agrees = agrees_push c.finished c.call acts a s s' is.stand stands is.agrees fit;
    }

pub call_front : (c : TracedCall) (acts : List Act) (a : Act) (s s' : Stand) (e e' : Option ℕ) → IsOfCall c (acts ++ a ∷ []) s e → s' ≡ stand_of acts → e' ≡ end_of c (is_nothing (next_from c.call s')) → IsOfCall c acts s' e'
call_front c acts a s s' e e' is stands end = record {
  stand = stands;
  end = end ∙ ap (λ b. end_of c b) (told_next c.call s' acts stands);
  follows = follows_front c.call [] acts (a ∷ []) is.follows;
  agrees = agrees_front c.finished c.call acts a is.follows is.agrees;
}

some_piece : (bytes : List ℕ) → nat_lt 0 (piece_count bytes) ≡ true
some_piece bytes = elim (cases_Bool (length bytes == 0)) [
  | inl y ↦ rw y refl
  | inr y ↦ (let n : 0 < length bytes = grind (arith, nat_tests) in let m : 0 < (length bytes + (3072 - 1)) / 3072 = omega arith in rw y (grind (arith, nat_tests)))
]

starts_writing : (fd : ℕ) (bytes : List ℕ) → is_nothing (next_of (Write fd bytes) []) ≡ false
unfolding next_of last_cause
starts_writing fd bytes = rw (some_piece bytes) refl

starts_unknown : (c : Call) → knows c [] ≡ true → ⊥
unfolding next_of
starts_unknown (Write fd bytes) k = (let f : is_nothing (next_of (Write fd bytes) []) ≡ false = starts_writing fd bytes in let z : true ≡ false = sym k ∙ f in cc)
starts_unknown (Link p q) k = absurd cc
starts_unknown c k = absurd cc

agrees_start : (f : Option (ℕ × Reply)) (c : Call) → AgreesWith f c []
agrees_start None c = tt
agrees_start (Some r) c = record { reply = λ k. absurd (starts_unknown c k); room = room_nil }

follows_start : (c : Call) → Follows c [] []
unfolding Follows
follows_start c = tt

stand_start : start ≡ stand_of []
unfolding stand_from
stand_start = refl

pub call_start : (c : TracedCall) (e : Option ℕ) → e ≡ end_of c (is_nothing (next_from c.call start)) → IsOfCall c [] start e
call_start c e end = record {
  stand = stand_start;
  end = end ∙ ap (λ b. end_of c b) (told_next c.call start [] stand_start);
  follows = follows_start c.call;
  agrees = agrees_start c.finished c.call;
}

-- A call whose sequence goes on with this step, to what it is to be: the step comes next, and its answer fits.
pub written_next : (f : Option (ℕ × Reply)) (c : Call) (acts : List Act) (a : Act) (rest : List Act) → IsWritten c (acts ++ a ∷ rest) f → next_of c acts ≡ Some a.step
written_next None c acts a rest w = follows_at c [] acts a rest w
written_next (Some r) c acts a rest w = follows_at c [] acts a rest w.0

pub written_fits : (f : Option (ℕ × Reply)) (c : Call) (acts : List Act) (a : Act) (rest : List Act) (s s' : Stand) → s ≡ stand_of acts → s' ≡ after s a.answer → IsWritten c (acts ++ a ∷ rest) f → Fits f c s s' a.answer
written_fits None c acts a rest s s' e e' w = tt
written_fits (Some r) c acts a rest s s' e e' w = (room_of acts a rest w.3, reply_told c acts a rest s s' r.1 e (e' ∙ (ap (λ (x : Stand). after x a.answer) e ∙ sym (stand_push start acts a))) w)

-- a call that is as it must be, if nothing must come
pub written_end : (c : TracedCall) (acts : List Act) (s : Stand) → IsOfCall c acts s None → IsWritten c.call acts c.finished
written_end c acts s is = go c.finished is.end is.agrees where
  go : (f : Option (ℕ × Reply)) → None ≡ end_of (record c { finished = f }) (is_nothing (next_of c.call acts)) → AgreesWith f c.call acts → IsWritten c.call acts f
  go None e g = is.follows
  go (Some r) e g = elim (cases_Bool (is_nothing (next_of c.call acts))) [
    | inl y ↦ (let n : next_of c.call acts ≡ None = nothing_is (next_of c.call acts) y in (is.follows, n, g.reply (through_knows c.call acts n), g.room))
    | inr y ↦ absurd (let z = rw y at e in cc)
  ]
