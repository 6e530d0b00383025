-- What operations on whole inodes that are one operation below leave in hand.
use Rattle.inode_parts.proofs.Vocabulary.{arith, ◌≡◌, ℕ, List, [], ◌∷◌, ◌++◌, Bool, true, false, Option, Some, None, refl, sym, ap, ◌∙◌, subst, IfSome, is_some, if◌then◌else◌, MatchOption, unwrap_or, descriptor_count, Ret, Do, Inode, Goes, inode_in, number_at, reference_at, with_inode, with_listed, with_reference, with_seated, IsAfter, IsDown, IsHanded, IsJoined, IsKept, IsLent, IsOpened, answer_in, dropped_by, given_by, joined_by, kept_by, number_by, shut_by, yes_in, Hand, InodePlace, One, Two, Answer, is_dying, is_listed, old_directory, shut_to, answer_to, bool_in, joined_in, loan_in, shut_in, start_in, Heard, handed, note_at, with_note, Having, Leaves, LeavesDown, LeavesInstall, LeavesJoinFile, LeavesLend, LeavesShut, LeavesUp, LeavesWalkDown, ReferredOrAside, part_for, having, Begins, HasFreeSeat, free_seat, joining_heard, loan_heard, other, seat_of_lock, seat_of_reference, step_asked, step_for, step_left, step_notes, Part, OneAmid, UnderWay, Notes, OneStep, Version}
use Rattle.fs_machine.specs.declared.op.Answer.TheVariants as answers
use Rattle.inode_machine.specs.World as above
use Rattle.path_walk.specs.Asks.{number_in}
use Rattle.path_walk.specs.declared.asks.Heard.TheVariants as heard
use Rattle.inode_parts.specs.declared.note.Note.TheVariants as note
use Rattle.inode_parts.specs.declared.one_step.OneStep.TheVariants as step

-- it begins so
pub under_way : (v : Version) (path : List ℕ) (op : above.Op) (h : Hand) (m : Notes) → Begins op h → UnderWay v path op (having h m) (part_for op h) (having h m)
under_way v path (above.UnlockInode n) h m has = (has, refl, refl)
under_way v path (above.SetDirectory n) h m has = (has, refl, refl)
under_way v path (above.UpStart absolute) h m has = (has, refl, refl)
under_way v path (above.Up n) h m has = (has, refl, refl)
under_way v path (above.WalkDown n) h m has = (has, refl, refl)
under_way v path (above.Down n) h m has = (has, refl, refl)
under_way v path (above.Forget n) h m has = (has, refl, refl)
under_way v path above.Slot h m has = (has, refl, refl)
under_way v path (above.Install f inode_type) h m has = (has, refl, refl)
under_way v path (above.CheckFile fd) h m has = (has, refl, refl)
under_way v path (above.JoinFile fd) h m has = (has, refl, refl)
under_way v path (above.Double fd) h m has = (has, refl, refl)
under_way v path (above.Shut fd) h m has = (has, refl, refl)
under_way v path (above.Lend child from) h m has = (has, refl, refl)
under_way v path (above.LendDirectory child) h m has = (has, refl, refl)
under_way v path (above.Release child) h m has = (has, refl, refl)
under_way v path above.Join h m has = (has, refl, refl)
under_way v path above.Leave h m has = (refl, refl)
under_way v path above.Say h m has = (has, refl, refl)
under_way v path op h m has = absurd has

-- ---- what is at a seat then

abbrev referred : InodePlace → Option ℕ → Hand → Hand → Type 0
referred k r g h = h ≡ with_reference k r g

reference_came : (k : InodePlace) (r : Option ℕ) (g h : Hand) → referred k r g h → reference_at k h ≡ r
reference_came One r g h e = ap (λ (h : Hand). h.to_one) e
reference_came Two r g h e = ap (λ (h : Hand). h.to_two) e

number_came : (k : InodePlace) (n : ℕ) (g h : Hand) → referred k (Some n) g h → number_at k h ≡ n
number_came k n g h e = ap (λ (o : Option ℕ). unwrap_or o 0) (reference_came k (Some n) g h e)

-- by its number, which is answered
by_number : (k : InodePlace) (n : ℕ) (g h : Hand) → referred k (Some n) g h → referred k (Some (number_at k h)) g h
by_number k n g h e = e ∙ ap (λ (n : ℕ). with_reference k (Some n) g) (sym (number_came k n g h e))

noted_beside : (k : InodePlace) (b : Bool) (m : Notes) → note_at (other k) (if b then with_note k note.Nothing m else m) ≡ note_at (other k) m
noted_beside One true m = refl
noted_beside Two true m = refl
noted_beside k false m = refl

-- ---- by the answer below

module _ (before h : Hand) (a : Answer) where
  ups : (n : ℕ) (r : Option ℕ) → ReferredOrAside r before h → IfSome r (λ j. j ≡ n) → LeavesUp n (is_some r) before h
  ups n None e is = e
  ups n (Some j) e is = subst (λ (j : ℕ). ReferredOrAside (Some j) before h) is e

  downs : (n : ℕ) (v : Inode) (a : Answer) → number_at (seat_of_reference n before) before ≡ n → IsDown (seat_of_reference n before) a before h → LeavesDown n (is_dying (dropped_by (yes_in a) v)) before h
  downs n v (answers.Is true) named e = (e.0, e.1, e.2 ∙ named, e.3)
  downs n v (answers.Is false) named e = e
  downs n v answers.Nothing named e = absurd e
  downs n v (answers.Refused why) named e = absurd e
  downs n v (answers.Number j) named e = absurd e
  downs n v (answers.File f) named e = absurd e
  downs n v (answers.Doubled d) named e = absurd e
  downs n v (answers.Given fd more) named e = absurd e

  walks : (n : ℕ) (a : Answer) → number_at (seat_of_reference n before) before ≡ n → IsKept (seat_of_reference n before) a before h → LeavesWalkDown n (is_listed (kept_by (yes_in a))) before h
  walks n (answers.Is true) named e = e ∙ ap (λ (n2 : ℕ). with_listed (before.listed ++ n2 ∷ []) (with_seated (seat_of_reference n before) before)) named
  walks n (answers.Is false) named e = e
  walks n answers.Nothing named e = e
  walks n (answers.Refused why) named e = e
  walks n (answers.Number j) named e = e
  walks n (answers.File f) named e = e
  walks n (answers.Doubled d) named e = e
  walks n (answers.Given fd more) named e = e

  installs : (n : ℕ) (a : Answer) → IsOpened (seat_of_reference n before) a before h → LeavesInstall n (number_by a) before h
  installs n (answers.Is b) e = e
  installs n answers.Nothing e = e
  installs n (answers.Refused why) e = e
  installs n (answers.Number j) e = e
  installs n (answers.File f) e = e
  installs n (answers.Doubled d) e = e
  installs n (answers.Given fd more) e = e

  joins : (a : Answer) → IsJoined a before h → LeavesJoinFile (joined_in (joining_heard (joined_by a))) before h
  joins (answers.Is b) e = e
  joins answers.Nothing e = e
  joins (answers.Refused why) e = e
  joins (answers.Number j) e = e
  joins (answers.File f) e = e
  joins (answers.Doubled d) e = e
  joins (answers.Given fd more) e = e

  shuts : (a : Answer) → IsHanded (free_seat before) a before h → LeavesShut (shut_to (shut_by a (number_at (free_seat before) h))) before h
  shuts (answers.Is true) e = by_number (free_seat before) e.0 before h e.1
  shuts (answers.Is false) e = e
  shuts answers.Nothing e = e
  shuts (answers.Refused why) e = e
  shuts (answers.Number j) e = e
  shuts (answers.File f) e = e
  shuts (answers.Doubled d) e = e
  shuts (answers.Given fd more) e = e

  lends : (from : ℕ) (a : Answer) → IsLent (free_seat before) from a before h → LeavesLend (loan_in (loan_heard (given_by a (number_at (free_seat before) h)))) before h
  lends from (answers.Is true) e = by_number (free_seat before) e.0 before h e.1
  lends from (answers.Is false) e = absurd e
  lends from answers.Nothing e = absurd e
  lends from (answers.Refused why) e = absurd e
  lends from (answers.Number j) e = absurd e
  lends from (answers.File f) e = absurd e
  lends from (answers.Doubled d) e = absurd e
  lends from (answers.Given fd more) e = e.1

  -- past the last descriptor none is given
  moves : (a : Answer) → IsLent (free_seat before) descriptor_count a before h → referred (free_seat before) (Some (old_directory (given_by a (number_at (free_seat before) h)))) before h
  moves (answers.Is true) e = by_number (free_seat before) e.0 before h e.1
  moves (answers.Is false) e = absurd e
  moves answers.Nothing e = absurd e
  moves (answers.Refused why) e = absurd e
  moves (answers.Number j) e = absurd e
  moves (answers.File f) e = absurd e
  moves (answers.Doubled d) e = absurd e
  moves (answers.Given fd more) e = absurd (omega (arith, e.0))

-- ---- by the operation

-- what was heard at the end of a part
heard_of : Part → Heard
heard_of (Ret r) = r.answer.1
heard_of (Do o m k) = heard.WasDone

module _ (version : Version) (path : List ℕ) (m m2 : Notes) (before h : Hand) (a : Answer) (x : Heard) where
  -- this step had this result
  abbrev Came : OneStep → Type 0
  Came s = IsAfter (step_asked s) before a h × Goes (step_left path m s before) (answer_in (step_asked s) a h) (Ret (handed path m2 x h)) × (m2 ≡ step_notes s (yes_in a) m)

  -- at a seat, or aside
  leaves_up : (n : ℕ) (o : Option ℕ) → reference_at (free_seat before) before ≡ o → Came (if is_some o then step.UpAside n else step.Up (free_seat before) n) → Leaves version path (above.Up n) (answer_to [] (above.Up n) x) (having before m) (having h m2)
  unfolding answer_in heard_of
  leaves_up n None free came =
      let there = ap (λ (r : Option ℕ). is_some r) (sym (reference_came (free_seat before) came.0.0 before h came.0.1)) ∙ ap (λ (q : Part). bool_in (heard_of q)) came.1 in
      (subst (λ (b : Bool). LeavesUp n b before h) there (ups before h a n came.0.0 ((λ (may : HasFreeSeat before). came.0.1), (λ (full : HasFreeSeat before → ⊥). absurd (full free))) came.0.2), came.2)
  leaves_up n (Some j) taken came =
      let there = ap (λ (h : Hand). is_some h.aside) (sym came.0.1) ∙ ap (λ (q : Part). bool_in (heard_of q)) came.1 in
      let clash : HasFreeSeat before → ⊥ = λ free. (let both : None ≡ Some j = sym free ∙ taken in cc both) in
      (subst (λ (b : Bool). LeavesUp n b before h) there (ups before h a n came.0.0 ((λ (free : HasFreeSeat before). absurd (clash free)), (λ (full : HasFreeSeat before → ⊥). came.0.1)) came.0.2), came.2)

  leaves_by : (op : above.Op) → Begins op before → MatchOption (step_for op before) ⊥ Came → Leaves version path op (answer_to [] op x) (having before m) (having h m2)
  unfolding answer_in heard_of
  leaves_by (above.UnlockInode n) has came = (came.0, came.2)
  leaves_by (above.SetDirectory n) has came =
      let k = seat_of_lock n before in
      let g = with_inode k None before in
      (subst (λ (x : Heard). h ≡ with_reference k (Some (number_in x)) g) (ap heard_of came.1) (by_number k came.0.0 g h came.0.1), came.2)
  leaves_by (above.UpStart true) has came =
      let k = free_seat before in
      (came.0.1 ∙ ap (λ (r : Option ℕ). with_reference k r before) (sym (reference_came k came.0.0 before h came.0.1) ∙ ap (λ (q : Part). start_in (heard_of q)) came.1), came.2)
  leaves_by (above.UpStart false) has came =
      let k = free_seat before in
      (came.0.1 ∙ ap (λ (r : Option ℕ). with_reference k r before) (sym (reference_came k came.0.0 before h came.0.1) ∙ ap (λ (q : Part). start_in (heard_of q)) came.1), came.2)
  leaves_by (above.Up n) has came = leaves_up n (reference_at (free_seat before) before) refl came
  leaves_by (above.WalkDown n) has came =
      let named = ap (λ (o : Option ℕ). unwrap_or o 0) has.0 in
      (subst (λ (b : Bool). LeavesWalkDown n b before h) (ap (λ (q : Part). bool_in (heard_of q)) came.1) (walks before h a n a named came.0), came.2)
  leaves_by (above.Down n) has came =
      let k = seat_of_reference n before in
      let named = ap (λ (o : Option ℕ). unwrap_or o 0) has.0 in (
        subst (λ (b : Bool). LeavesDown n b before h) (ap (λ (q : Part). bool_in (heard_of q)) came.1) (downs before h a n (inode_in k h) a named came.0),
        ap (note_at (other k)) came.2 ∙ noted_beside k (yes_in a) m,
      )
  leaves_by (above.Forget n) has came = (came.0, came.2)
  leaves_by above.Slot has came = (came.0, came.2)
  leaves_by (above.Install f inode_type) has came =
      (subst (λ (o : Option ℕ). LeavesInstall f.number o before h) (ap (λ (q : Part). start_in (heard_of q)) came.1) (installs before h a f.number a came.0), came.2)
  leaves_by (above.CheckFile fd) has came = (came.0, came.2)
  leaves_by (above.JoinFile fd) has came =
      (subst (λ (x : Heard). LeavesJoinFile (joined_in x) before h) (ap heard_of came.1) (joins before h a a came.0), came.2)
  leaves_by (above.Double fd) has came = (came.0, came.2)
  leaves_by (above.Shut fd) has came =
      (subst (λ (x : Heard). LeavesShut (shut_in x) before h) (ap heard_of came.1) (shuts before h a a came.0), came.2)
  leaves_by (above.Lend child from) has came =
      (subst (λ (x : Heard). LeavesLend (loan_in x) before h) (ap heard_of came.1) (lends before h a from a came.0), came.2)
  leaves_by (above.LendDirectory child) has came =
      (subst (λ (x : Heard). referred (free_seat before) (Some (number_in x)) before h) (ap heard_of came.1) (moves before h a a came.0), came.2)
  leaves_by (above.Release child) has came = (came.0, came.2)
  leaves_by above.Join has came = (came.0, came.2)
  leaves_by above.Say has came = (came.0, came.2)
  leaves_by op has came = absurd came

  -- as its step did
  pub step_leaves : (op : above.Op) (s : OneStep) (start : Having) → OneAmid op start s (having before m) → IsAfter (step_asked s) before a h → Goes (step_left path m s before) (answer_in (step_asked s) a h) (Ret (handed path m2 x h))
      → m2 ≡ step_notes s (yes_in a) m → Leaves version path op (answer_to [] op x) start (having h m2)
  step_leaves op s start amid after goes noted =
      let came : Came s = (after, goes, noted) in
      let begun : (start : Having) → having before m ≡ start → Begins op start.hand → step_for op start.hand ≡ Some s → Leaves version path op (answer_to [] op x) start (having h m2) = λ start e.
      subst (λ (start : Having). Begins op start.hand → step_for op start.hand ≡ Some s → Leaves version path op (answer_to [] op x) start (having h m2)) e
      (λ has is. leaves_by op has (subst (λ (o : Option OneStep). MatchOption o ⊥ Came) (sym is) came)) in
      begun start amid.2 amid.0 amid.1
