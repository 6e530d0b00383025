-- What a program's operations have changed when it ends for want of room: of a run of it, and of each call's program.
use Rattle.run_laws.proofs.Vocabulary.{◌≡◌, ◌⊎◌, inl, inr, ℕ, Bool, true, false, if◌then◌else◌, List, [], ◌∷◌, ◌++◌, Option, Some, None, refl, sym, ◌∙◌, ap, subst, append_assoc, append-nil, Full, Reply, Call, eq_self, In, Ret, Do, P, program, Answer, Mark, New, Free, Claim, Frees, Change, Freed, Sighting, by_free, changed_by, changes_after, seen_by, Stands, wanted, HasWanted, IsRunOf, Operation, Version}
use Rattle.plain_tree.specs.declared.answer.Answer.TheVariants as answers
use Rattle.inode_machine.specs.World.{Op}
use Rattle.call_programs.specs.Asks.{Asks, AsksSo, Because, Before, Excused, Lacks, Nothing, Wants, after, changed_after, excused, fresh, holding, or_still, wants_after, wants_back, with_more}
use Rattle.call_programs.proofs.Calls.{calls_ask}

-- ---- what comes after an operation

kind_is : (kind room : Full) → answers.Full kind ≡ answers.Full room → kind ≡ room
kind_is kind room e = cc

never_so : false ≡ true → ⊥
never_so e = cc

-- whether some operation has found no room
abbrev pub or_wanted : Option Full → Bool → Bool
or_wanted None found_none = found_none
or_wanted (Some room) found_none = true

-- an inode is freed, and goes from the tree with that
none_freed : (cs : List Change) (n : ℕ) → cs ≡ with_more cs (by_free n (Some (Frees n)))
none_freed cs n = ap (λ (c : Bool). with_more cs (if c then [] else Freed n ∷ [])) (sym (eq_self n))

joined : (cs ds es : List Change) → with_more cs ds ++ es ≡ cs ++ (ds ++ es)
joined cs [] es = refl
joined cs (d ∷ ds) es = append_assoc cs (d ∷ ds) es

wanted_stays : (o : Option Full) (b : Bool) → b ≡ true → or_wanted o b ≡ true
wanted_stays None b t = t
wanted_stays (Some room) b t = refl

-- an operation has wanted the room so far, or one of those that are left has
wanted_later : (op : Op) (a : Answer op) (b : Bool) (e : Operation) (es : List Operation) (room : Full)
    → ((x : Operation) → x ≡ e → wanted x.op x.answer ≡ Some room → wanted op a ≡ Some room)
    → (b ≡ true) ⊎ HasWanted (e ∷ es) room → (or_wanted (wanted op a) b ≡ true) ⊎ HasWanted es room
wanted_later op a b e es room own (inl t) = inl (wanted_stays (wanted op a) b t)
wanted_later op a b e es room own (inr w) = at w.0 w.1 w.2
  where
    at : (x : Operation) → In x (e ∷ es) → wanted x.op x.answer ≡ Some room → (or_wanted (wanted op a) b ≡ true) ⊎ HasWanted es room
    at x (inl q) want = inl (ap (λ (o : Option Full). or_wanted o b) (own x q want))
    at x (inr i) want = inr (x, i, want)

-- ---- what is wanting

abbrev lacks : Wants → Bool
lacks Nothing = false
lacks (Lacks room) = true
lacks Excused = false

excused_so : (w : Wants) → lacks (excused w) ≡ lacks w
excused_so Nothing = refl
excused_so (Lacks room) = refl
excused_so Excused = refl

back_so : {A : Type 0} (w : Wants) (back : A ⊎ Unit {0}) → lacks (wants_back w back) ≡ lacks w
back_so w (inl back) = excused_so w
back_so w (inr other) = refl

still_so : (o : Option Full) (w : Wants) → lacks (or_still o w) ≡ or_wanted o (lacks w)
still_so None w = refl
still_so (Some room) w = refl

module _ (version : Version) (call : Call) where
  -- what stays with the reply, if some operation has found no room
  abbrev pub Ends : Bool → List Change → Reply → Type 0
  Ends found_none cs r = found_none ≡ true → (room : Full) → r.answer ≡ answers.Full room → Stands room call cs

  -- After these changes the program ends with what stays, whatever its operations answer; the operation just before
  -- it has seen this.
  abbrev pub LeavesFrom : Option Sighting → Bool → List Change → P Reply → Type 0
  LeavesFrom seen b cs (Ret r) = Ends b cs r
  LeavesFrom seen b cs (Do op m k) =
      (a : Answer op) → LeavesFrom (seen_by op a) (or_wanted (wanted op a) b) (with_more cs (changed_by seen op a (m a))) (k a)

  abbrev pub Leaves : Bool → List Change → P Reply → Type 0
  Leaves b cs p = LeavesFrom None b cs p

  -- so does a run of it
  pub run_leaves : (p : P Reply) (seen : Option Sighting) (b : Bool) (cs : List Change) (es : List Operation) (r : Reply) (room : Full)
      → LeavesFrom seen b cs p → IsRunOf p es r → r.answer ≡ answers.Full room → (b ≡ true) ⊎ HasWanted es room
      → Stands room call (cs ++ changes_after seen es)
  run_leaves (Ret a) seen b cs [] r room l g full (inl t) =
      subst (λ (z : List Change). Stands room call z) (sym (append-nil cs)) (l t room (ap (λ (z : Reply). z.answer) g ∙ full))
  run_leaves (Ret a) seen b cs [] r room l g full (inr w) = absurd w.1
  run_leaves (Ret a) seen b cs (e ∷ es) r room l g full some = absurd g
  run_leaves (Do op m k) seen b cs [] r room l g full some = absurd g
  run_leaves (Do op m k) seen b cs (e ∷ es) r room l g full some =
      let a : Answer op = g.0 in
      let own : (x : Operation) → x ≡ e → wanted x.op x.answer ≡ Some room → wanted op a ≡ Some room =
      λ x q want. subst (λ (z : Operation). wanted z.op z.answer ≡ Some room) (q ∙ g.2) want in
      let ds : List Change = changed_by seen op a (m a) in
      let rest = run_leaves (k a) (seen_by op a) (or_wanted (wanted op a) b) (with_more cs ds) es r room (l a) g.3 full
      (wanted_later op a b e es room own some) in
      subst
      (λ (z : Operation). Stands room call (cs ++ (changed_by seen z.op z.answer z.mark ++ changes_after (seen_by z.op z.answer) es)))
      (sym g.2)
      (subst (λ (z : List Change). Stands room call z) (joined cs ds (changes_after (seen_by op a) es)) rest)

  -- ---- from what a program asks for

  ends_so : (w : Wants) (cs : List Change) (r : Reply) → Because call w cs r.answer → Ends (lacks w) cs r
  ends_so Nothing cs r is t room e = absurd (never_so t)
  ends_so Excused cs r is t room e = absurd (never_so t)
  ends_so (Lacks kind) cs r is t room e = (let so : Because call (Lacks kind) cs (answers.Full room) = subst (λ z. Because call (Lacks kind) cs z) e is in so.1)

  wants_so : (s : Before) (op : Op) (m : Answer op → Option Mark) (k : Answer op → P Reply) (is : Asks version call s op m k) (a : Answer op)
      → lacks (wants_after version call s op m k is a) ≡ or_wanted (wanted op a) (lacks s.wants)
  wants_so s (Claim inode_type) m k is (New n) = back_so s.wants (is.1.2 n)
  wants_so s (Claim inode_type) m k is a = still_so (wanted (Claim inode_type) a) s.wants
  wants_so s op m k is a = still_so (wanted op a) s.wants

  changed_so : (s : Before) (op : Op) (m : Answer op → Option Mark) (k : Answer op → P Reply) → Asks version call s op m k → (a : Answer op)
      → changed_after version call s op m a ≡ with_more s.changed (changed_by s.seen op a (m a))
  changed_so s (Free n) m k is a = subst (λ (z : Unit {0} → Option Mark). s.changed ≡ with_more s.changed (by_free n (z a))) (sym is.1.1) (none_freed s.changed n)
  changed_so s op m k is a = refl

  leaves : (s : Before) (p : P Reply) → AsksSo version call s p → LeavesFrom s.seen (lacks s.wants) s.changed p
  leaves s (Ret r) so = ends_so s.wants s.changed r so.1
  leaves s (Do op m k) so =
      λ a. subst (λ (z : Bool). LeavesFrom (seen_by op a) z (with_more s.changed (changed_by s.seen op a (m a))) (k a)) (wants_so s op m k so.0 a)
      (subst (λ (z : List Change). LeavesFrom (seen_by op a) (lacks (wants_after version call s op m k so.0 a)) z (k a)) (changed_so s op m k so.0 a)
      (leaves (after version call s op m k so.0 a) (k a) (so.1 a)))

  pub calls_leave : Leaves false [] (program version call)
  calls_leave = leaves (holding [] fresh []) (program version call) (calls_ask version call)
