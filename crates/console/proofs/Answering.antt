-- Lines that are typed, answered part by part.
use Rattle.console.proofs.Vocabulary.{◌≡◌, ℕ, ◌+◌, List, [], ◌∷◌, Bool, true, false, Option, Some, None, IfSome, Result, Ok, Err, refl, ap, sym, ◌∙◌, subst, OnOk, codes, Appends, append_known, Asked, Run, asked_in, typed_lines, Line, ConsoleFault, Behaviour, IsWritten, Runs, followed_by, gives, in_case, prints, takes_memory, RunOf, line, NotesOf, FailsUnread, Follows, IsFirst, PromptsAll, PromptsLine, ReadsLine, TellsBad, answers, answers_next, bad_text, does, does_or_tells, first_of, mark, prompts, prompts_all, reads, tells_bad}
use Rattle.console.specs.Prompts.{does_line, hint_of, started_on, stepless}
use Rattle.console.specs.declared.fault.ConsoleFault.TheVariants as faults
use Rattle.console.proofs.Behaving.{ends_in_fault, gives_at_once, goes_on as then, has_memory, printed_so, told_nothing}

-- ---- parts

module _ {S : Type 0} where
  pub told_then : {A : Type 0} (words : S → List ℕ) (a : A) (s : S) (out end : Option (List ℕ)) (n : NotesOf) → Appends out end (words s) → Runs (followed_by (prints words) (λ u. gives a)) s out n (Ok a) s end n
  told_then words a s out end n told = then (prints words) (λ u. gives a) tt s s s out end end n n n (Ok a) (printed_so words s out end n (Ok tt) tt told) (gives_at_once a s end n)

  pub untold : {B : Type 0} (words : S → List ℕ) (second : Unit {0} → Behaviour S B) (fault : ConsoleFault) (r : Result B ConsoleFault) (s : S) (out end : Option (List ℕ)) (n : NotesOf) → r ≡ Err fault → IsWritten (Err fault)
      → Runs (followed_by (prints words) second) s out n r s end n
  untold words second fault r s out end n is written =
      subst (λ x. Runs (followed_by (prints words) second) s out n x s end n) (sym is)
      (ends_in_fault (prints words) second fault s s out end n n (printed_so words s out end n (Err fault) written tt))

  pub short : {A B : Type 0} (a : A) (second : A → Behaviour S B) (s : S) (out end : Option (List ℕ)) (n m : NotesOf) → Runs (followed_by (takes_memory a) second) s out n (Err faults.Memory) s end m
  unfolding takes_memory
  short a second s out end n m =
      ends_in_fault (takes_memory a) second faults.Memory s s out end n m
      (record { events = []; text = []; does = (record { events_are = refl; text_is = refl; same = refl }, tt); told = tt })

  was_read : (s : S) (out : Option (List ℕ)) (n : NotesOf) → Runs reads s out n (Ok tt) s out n
  unfolding reads
  was_read s out n = record { events = []; text = []; does = (record { events_are = refl; text_is = refl; same = refl }, tt); told = told_nothing out n }

  wasnt_read : (fault : ConsoleFault) (s : S) (out end : Option (List ℕ)) (n m : NotesOf) → FailsUnread fault → Runs reads s out n (Err fault) s end m
  unfolding reads
  wasnt_read (faults.Read e) s out end n m fails = record { events = []; text = []; does = (record { events_are = refl; text_is = refl; same = refl }, tt); told = tt }
  wasnt_read faults.Memory s out end n m fails = record { events = []; text = []; does = (record { events_are = refl; text_is = refl; same = refl }, tt); told = tt }
  wasnt_read (faults.Image f) s out end n m fails = absurd fails
  wasnt_read (faults.Write e) s out end n m fails = absurd fails
  wasnt_read (faults.Line k why) s out end n m fails = absurd fails
  wasnt_read (faults.Stopped stop) s out end n m fails = absurd fails

  told_bad : (k : ℕ) (why : List ℕ) (s : S) (out end : Option (List ℕ)) (n : NotesOf) → Appends out end (bad_text k why) → Runs (tells_bad k) s out n (Ok tt) s end n
  unfolding tells_bad
  told_bad k why s out end n told =
      let p = printed_so (λ u. bad_text k why) s out end n (Ok tt) tt told in
      record { events = p.events; text = p.text; does = (why, p.does); told = p.told }

  untold_bad : (k : ℕ) (fault : ConsoleFault) (s : S) (out end : Option (List ℕ)) (n : NotesOf) → IsWritten (Err fault) → Runs (tells_bad k) s out n (Err fault) s end n
  unfolding tells_bad
  untold_bad k fault s out end n written =
      let p = printed_so (λ u. bad_text k []) s out end n (Err fault) written tt in
      record { events = p.events; text = p.text; does = ([], p.does); told = p.told }

pub bad_told : (k : ℕ) (why : List ℕ) (r : Result (Unit {0}) ConsoleFault) (out out' : Option (List ℕ)) → IsWritten r → OnOk r (Appends out out' (bad_text k why)) → TellsBad k r out out'
bad_told k why (Ok u) out out' written told = (why, told)
bad_told k why (Err (faults.Write e)) out out' written told = tt
bad_told k why (Err faults.Memory) out out' written told = tt
bad_told k why (Err (faults.Image f)) out out' written told = absurd written
bad_told k why (Err (faults.Read e)) out out' written told = absurd written
bad_told k why (Err (faults.Line n reason)) out out' written told = absurd written
bad_told k why (Err (faults.Stopped stop)) out out' written told = absurd written

-- ---- the first of the lines that are typed

any_next : (typed : Option (List ℕ)) → (next : Option (List ℕ)) × IfSome typed (λ bytes. next ≡ first_of (typed_lines bytes))
any_next None = (None, tt)
any_next (Some bytes) = (first_of (typed_lines bytes), refl)

none_next : (typed new : Option (List ℕ)) → ReadsLine typed false [] new → IfSome typed (λ bytes. None ≡ first_of (typed_lines bytes))
none_next None new is = tt
none_next (Some bytes) new is = sym (ap first_of is)

line_next : (typed new : Option (List ℕ)) (line : List ℕ) → IsFirst typed line new → IfSome typed (λ bytes. Some line ≡ first_of (typed_lines bytes))
line_next None new line is = tt
line_next (Some bytes) new line is = sym (ap first_of is.2)

follows_so : (r : Result Bool ConsoleFault) (typed new : Option (List ℕ)) (line : List ℕ) → IsFirst typed line new → Follows r typed (Some line) new
follows_so (Ok true) typed new line is = is
follows_so (Ok false) typed new line is = tt
follows_so (Err fault) typed new line is = tt

no_lines : (lines : List (List ℕ)) → None ≡ first_of lines → [] ≡ lines
no_lines [] is = refl
no_lines (line ∷ lines) is = cc

first_line : (line : List ℕ) (lines : List (List ℕ)) → Some line ≡ first_of lines → (more : List (List ℕ)) × (line ∷ more ≡ lines)
first_line line [] is = ([], cc)
first_line line (other ∷ lines) is = (lines, let same : line ≡ other = cc in ap (λ l. l ∷ lines) same)

-- all lines, if the first is known
all_none : (typed : Option (List ℕ)) → IfSome typed (λ bytes. None ≡ first_of (typed_lines bytes)) → IfSome typed (λ bytes. [] ≡ typed_lines bytes)
all_none None is = tt
all_none (Some bytes) is = no_lines (typed_lines bytes) is

all_from : (typed : Option (List ℕ)) (line : List ℕ) → IfSome typed (λ bytes. Some line ≡ first_of (typed_lines bytes)) → (more : List (List ℕ)) × IfSome typed (λ bytes. line ∷ more ≡ typed_lines bytes)
all_from None line is = ([], tt)
all_from (Some bytes) line is = first_line line (typed_lines bytes) is

all_with : (typed new : Option (List ℕ)) (line : List ℕ) (lines : List (List ℕ)) → IsFirst typed line new → IfSome new (λ bytes. lines ≡ typed_lines bytes) → IfSome typed (λ bytes. line ∷ lines ≡ typed_lines bytes)
all_with None new line lines first rest = tt
all_with (Some bytes) new line lines first rest =
    let more : lines ≡ typed_lines first.0 = subst (λ x. IfSome x (λ bytes. lines ≡ typed_lines bytes)) first.1 rest in
    ap (λ ls. line ∷ ls) more ∙ sym first.2

has_appended : (out : Option (List ℕ)) (text : List ℕ) → Appends out (append_known out text) text
has_appended None text = tt
has_appended (Some bytes) text = refl

module _ {D : Type 0} (contents : D → List (List ℕ)) (failures : D → ℕ) where
  -- ---- a line of a script

  with_hint : (l : Line) (s t : RunOf D) (out end : Option (List ℕ)) (n m : NotesOf) (r : Result (Unit {0}) ConsoleFault)
      → Runs (followed_by (line contents failures l) (λ u. prints (λ v. hint_of (stepless (started_on l) s.session.doing)))) s out n r t end m → Runs (does_line contents failures l) s out n r t end m
  with_hint l s t out end n m r runs = record { events = runs.events; text = runs.text; does = runs.does; told = runs.told }

  pub line_hinted : (l : Line) (hart : Option ℕ) (r : Result (Unit {0}) ConsoleFault) (s t : RunOf D) (out mid end : Option (List ℕ)) (n m : NotesOf) → hart ≡ stepless (started_on l) s.session.doing
      → Runs (line contents failures l) s out n (Ok tt) t mid m → IsWritten r → OnOk r (Appends mid end (hint_of hart)) → Runs (does_line contents failures l) s out n r t end m
  line_hinted l hart r s t out mid end n m is runs written told =
      with_hint l s t out end n m r
      (then (line contents failures l) (λ u. prints (λ v. hint_of (stepless (started_on l) s.session.doing))) tt s t t out mid end n m m r runs
      (printed_so (λ v. hint_of (stepless (started_on l) s.session.doing)) t mid end m r written (subst (λ h. OnOk r (Appends mid end (hint_of h))) is told)))

  pub line_unhinted : (l : Line) (fault : ConsoleFault) (r : Result (Unit {0}) ConsoleFault) (s t : RunOf D) (out end : Option (List ℕ)) (n m : NotesOf) → r ≡ Err fault → Runs (line contents failures l) s out n (Err fault) t end m
      → Runs (does_line contents failures l) s out n r t end m
  line_unhinted l fault r s t out end n m is runs =
      subst (λ x. Runs (does_line contents failures l) s out n x t end m) (sym is)
      (with_hint l s t out end n m (Err fault) (ends_in_fault (line contents failures l) (λ u. prints (λ v. hint_of (stepless (started_on l) s.session.doing))) fault s t out end n m runs))

module _ {D : Type 0} (contents : D → List (List ℕ)) (failures : D → ℕ) (help : List ℕ) where
  -- ---- what is asked

  pub done_as : (asked want : Asked) (s t : RunOf D) (out end : Option (List ℕ)) (n l : NotesOf) (r : Result Bool ConsoleFault) → asked ≡ want → Runs (does contents failures help want) s out n r t end l → Runs (does contents failures help asked) s out n r t end l
  done_as asked want s t out end n l r is runs = subst (λ a. Runs (does contents failures help a) s out n r t end l) (sym is) runs

  pub ran : (l : Line) (s t : RunOf D) (out end : Option (List ℕ)) (n m : NotesOf) → Runs (does_line contents failures l) s out n (Ok tt) t end m → Runs (does contents failures help (Run l)) s out n (Ok true) t end m
  ran l s t out end n m runs = then (does_line contents failures l) (λ u. gives true) tt s t t out end end n m m (Ok true) runs (gives_at_once true t end m)

  pub ran_to_fault : (l : Line) (fault : ConsoleFault) (r : Result Bool ConsoleFault) (s t : RunOf D) (out end : Option (List ℕ)) (n m : NotesOf) → r ≡ Err fault → Runs (does_line contents failures l) s out n (Err fault) t end m
      → Runs (does contents failures help (Run l)) s out n r t end m
  ran_to_fault l fault r s t out end n m is runs = subst (λ x. Runs (does contents failures help (Run l)) s out n x t end m) (sym is) (ends_in_fault (does_line contents failures l) (λ u. gives true) fault s t out end n m runs)

  -- ---- a line

  answered_as : (k : ℕ) (typed : List ℕ) (asked : Option Asked) (s t : RunOf D) (out end : Option (List ℕ)) (n l : NotesOf) (r : Result Bool ConsoleFault) → asked_in typed ≡ asked
      → Runs (does_or_tells contents failures help k asked) s out n r t end l → Runs (answers contents failures help k typed) s out n r t end l
  unfolding answers
  answered_as k typed asked s t out end n l r is runs =
      then (takes_memory {A = Unit {0}} tt) (λ u. does_or_tells contents failures help k (asked_in typed)) tt s s t out out end n n l r (has_memory {A = Unit {0}} tt tt s out n refl)
      (subst (λ a. Runs (does_or_tells contents failures help k a) s out n r t end l) (sym is) runs)

  pub answered : (k : ℕ) (typed : List ℕ) (asked : Asked) (s t : RunOf D) (out end : Option (List ℕ)) (n l : NotesOf) (r : Result Bool ConsoleFault) → asked_in typed ≡ Some asked
      → Runs (does contents failures help asked) s out n r t end l → Runs (answers contents failures help k typed) s out n r t end l
  answered k typed asked s t out end n l r is runs = answered_as k typed (Some asked) s t out end n l r is runs

  pub no_memory_to_answer : (k : ℕ) (typed : List ℕ) (s : RunOf D) (out end : Option (List ℕ)) (n l : NotesOf) → Runs (answers contents failures help k typed) s out n (Err faults.Memory) s end l
  unfolding answers
  no_memory_to_answer k typed s out end n l = short {A = Unit {0}} tt (λ u. does_or_tells contents failures help k (asked_in typed)) s out end n l

  pub bad_answered : (k m : ℕ) (typed : List ℕ) (s : RunOf D) (out end : Option (List ℕ)) (n : NotesOf) → m ≡ k → asked_in typed ≡ None → TellsBad m (Ok tt) out end → Runs (answers contents failures help k typed) s out n (Ok true) s end n
  bad_answered k m typed s out end n same is told =
      let text : Appends out end (bad_text k told.0) = subst (λ x. Appends out end (bad_text x told.0)) same told.1 in
      answered_as k typed None s s out end n n (Ok true) is (then (tells_bad k) (λ u. gives true) tt s s s out end end n n n (Ok true) (told_bad k told.0 s out end n text) (gives_at_once true s end n))

  pub bad_unanswered : (k m : ℕ) (typed : List ℕ) (fault : ConsoleFault) (r : Result Bool ConsoleFault) (s : RunOf D) (out end : Option (List ℕ)) (n : NotesOf) → r ≡ Err fault → asked_in typed ≡ None → TellsBad m (Err fault) out end
      → Runs (answers contents failures help k typed) s out n r s end n
  bad_unanswered k m typed fault r s out end n fails is told = subst (λ x. Runs (answers contents failures help k typed) s out n x s end n) (sym fails) (by fault told)
    where
      by : (fault : ConsoleFault) → TellsBad m (Err fault) out end → Runs (answers contents failures help k typed) s out n (Err fault) s end n
      by (faults.Write e) told = answered_as k typed None s s out end n n (Err (faults.Write e)) is (ends_in_fault (tells_bad k) (λ u. gives true) (faults.Write e) s s out end n n (untold_bad k (faults.Write e) s out end n tt))
      by faults.Memory told = no_memory_to_answer k typed s out end n n
      by (faults.Image f) told = absurd told
      by (faults.Read e) told = absurd told
      by (faults.Line j why) told = absurd told
      by (faults.Stopped stop) told = absurd told

  -- ---- the next line

  asked_for : (k : ℕ) (next : Option (List ℕ)) (s t : RunOf D) (out mid end : Option (List ℕ)) (n l : NotesOf) (r : Result Bool ConsoleFault) → Appends out mid mark → Runs (followed_by reads (λ v. answers_next contents failures help k next)) s mid n r t end l
      → Runs (prompts contents failures help k next) s out n r t end l
  unfolding prompts
  asked_for k next s t out mid end n l r asks runs =
      then (prints (λ u. mark)) (λ u. followed_by reads (λ v. answers_next contents failures help k next)) tt s s t out mid end n n l r (printed_so (λ u. mark) s out mid n (Ok tt) tt asks) runs

  pub unasked : (k : ℕ) (typed new : Option (List ℕ)) (fault : ConsoleFault) (r : Result Bool ConsoleFault) (s : RunOf D) (out end : Option (List ℕ)) (n : NotesOf) → r ≡ Err fault → IsWritten (Err fault)
      → PromptsLine contents failures help k typed new s out n r s end n
  unfolding prompts
  unasked k typed new fault r s out end n is written =
      let next = any_next typed in
      record {
        next = next.0;
        is_next = next.1;
        follows = subst (λ x. Follows x typed next.0 new) (sym is) tt;
        runs = untold (λ u. mark) (λ u. followed_by reads (λ v. answers_next contents failures help k next.0)) fault r s out end n is written;
      }

  pub unread : (k : ℕ) (typed new : Option (List ℕ)) (fault : ConsoleFault) (r : Result Bool ConsoleFault) (s : RunOf D) (out mid end : Option (List ℕ)) (n l : NotesOf) → r ≡ Err fault → Appends out mid mark → FailsUnread fault
      → PromptsLine contents failures help k typed new s out n r s end l
  unread k typed new fault r s out mid end n l is asks fails =
      let next = any_next typed in
      record {
        next = next.0;
        is_next = next.1;
        follows = subst (λ x. Follows x typed next.0 new) (sym is) tt;
        runs = subst (λ x. Runs (prompts contents failures help k next.0) s out n x s end l) (sym is)
            (asked_for k next.0 s s out mid end n l (Err fault) asks (ends_in_fault reads (λ v. answers_next contents failures help k next.0) fault s s mid end n l (wasnt_read fault s mid end n l fails)));
      }

  at_end : (k : ℕ) (s : RunOf D) (out mid end : Option (List ℕ)) (n : NotesOf) (r : Result Bool ConsoleFault) → Appends out mid mark → Runs (answers_next contents failures help k None) s mid n r s end n → Runs (prompts contents failures help k None) s out n r s end n
  at_end k s out mid end n r asks runs = asked_for k None s s out mid end n n r asks (then reads (λ v. answers_next contents failures help k None) tt s s s mid mid end n n n r (was_read s mid n) runs)

  pub input_ends : (k : ℕ) (typed new : Option (List ℕ)) (line : List ℕ) (more : Bool) (s : RunOf D) (out mid end : Option (List ℕ)) (n : NotesOf) → more ≡ false → ReadsLine typed more line new → Appends out mid mark → Appends mid end (codes "\n")
      → PromptsLine contents failures help k typed new s out n (Ok false) s end n
  input_ends k typed new line more s out mid end n is read asks told = record {
    next = None;
    is_next = none_next typed new (subst (λ b. ReadsLine typed b line new) is read);
    follows = tt;
    runs = at_end k s out mid end n (Ok false) asks (told_then (λ u. codes "\n") false s mid end n told);
  }

  pub end_untold : (k : ℕ) (typed new : Option (List ℕ)) (line : List ℕ) (more : Bool) (fault : ConsoleFault) (r : Result Bool ConsoleFault) (s : RunOf D) (out mid end : Option (List ℕ)) (n : NotesOf) → r ≡ Err fault → more ≡ false → ReadsLine typed more line new → Appends out mid mark
      → IsWritten (Err fault) → PromptsLine contents failures help k typed new s out n r s end n
  end_untold k typed new line more fault r s out mid end n fails is read asks written = record {
    next = None;
    is_next = none_next typed new (subst (λ b. ReadsLine typed b line new) is read);
    follows = subst (λ x. Follows x typed None new) (sym fails) tt;
    runs = at_end k s out mid end n r asks (untold (λ u. codes "\n") (λ u. gives false) fault r s mid end n fails written);
  }

  pub line_answered : (k : ℕ) (typed new : Option (List ℕ)) (line slice : List ℕ) (more : Bool) (s t : RunOf D) (out mid end : Option (List ℕ)) (n l : NotesOf) (r : Result Bool ConsoleFault) → more ≡ true → slice ≡ line → ReadsLine typed more line new → Appends out mid mark
      → Runs (answers contents failures help k slice) s mid n r t end l → PromptsLine contents failures help k typed new s out n r t end l
  line_answered k typed new line slice more s t out mid end n l r is same read asks runs =
      let first : IsFirst typed line new = subst (λ b. ReadsLine typed b line new) is read in
      record {
        next = Some line;
        is_next = line_next typed new line first;
        follows = follows_so r typed new line first;
        runs = asked_for k (Some line) s t out mid end n l r asks
            (then reads (λ v. answers_next contents failures help k (Some line)) tt s s t mid mid end n n l r (was_read s mid n) (subst (λ x. Runs (answers contents failures help k x) s mid n r t end l) same runs));
      }

  -- ---- all lines

  pub one_line_more : (k : ℕ) (typed new : Option (List ℕ)) (more : Bool) (s u t : RunOf D) (out mid end : Option (List ℕ)) (n m l : NotesOf) (r : Result (Unit {0}) ConsoleFault) → more ≡ true → PromptsLine contents failures help k typed new s out n (Ok more) u mid m
      → PromptsAll contents failures help (k + 1) new u mid m r t end l → PromptsAll contents failures help k typed s out n r t end l
  unfolding prompts_all
  one_line_more k typed new more s u t out mid end n m l r is one rest =
      by one.next (subst (λ b. Follows (Ok b) typed one.next new) is one.follows) (subst (λ b. Runs (prompts contents failures help k one.next) s out n (Ok b) u mid m) is one.runs)
    where
      by : (next : Option (List ℕ)) → Follows (Ok true) typed next new → Runs (prompts contents failures help k next) s out n (Ok true) u mid m → PromptsAll contents failures help k typed s out n r t end l
      by None follows runs = absurd follows
      by (Some line) follows runs = record {
        lines = line ∷ rest.lines;
        are_typed = all_with typed new line rest.lines follows rest.are_typed;
        runs = then (prompts contents failures help k (Some line)) (λ more. in_case more (prompts_all contents failures help (k + 1) rest.lines) (gives tt)) true s u t out mid end n m l r runs rest.runs;
      }

  pub no_line_more : (k : ℕ) (typed new : Option (List ℕ)) (more : Bool) (s t : RunOf D) (out end : Option (List ℕ)) (n l : NotesOf) → more ≡ false → PromptsLine contents failures help k typed new s out n (Ok more) t end l → PromptsAll contents failures help k typed s out n (Ok tt) t end l
  unfolding prompts_all
  no_line_more k typed new more s t out end n l is one = by one.next one.is_next (subst (λ b. Runs (prompts contents failures help k one.next) s out n (Ok b) t end l) is one.runs)
    where
      by : (next : Option (List ℕ)) → IfSome typed (λ bytes. next ≡ first_of (typed_lines bytes)) → Runs (prompts contents failures help k next) s out n (Ok false) t end l → PromptsAll contents failures help k typed s out n (Ok tt) t end l
      by None is runs = record {
        lines = [];
        are_typed = all_none typed is;
        runs = then (prompts contents failures help k None) (λ more. gives tt) false s t t out end end n l l (Ok tt) runs (gives_at_once {A = Unit {0}} tt t end l);
      }
      by (Some line) is runs =
          let all = all_from typed line is in
          record {
            lines = line ∷ all.0;
            are_typed = all.1;
            runs = then (prompts contents failures help k (Some line)) (λ more. in_case more (prompts_all contents failures help (k + 1) all.0) (gives tt)) false s t t out end end n l l (Ok tt) runs (gives_at_once {A = Unit {0}} tt t end l);
          }

  pub ends_all : (k : ℕ) (typed : Option (List ℕ)) (next : Option (List ℕ)) (fault : ConsoleFault) (r : Result (Unit {0}) ConsoleFault) (s t : RunOf D) (out end : Option (List ℕ)) (n l : NotesOf) → r ≡ Err fault → IfSome typed (λ bytes. next ≡ first_of (typed_lines bytes))
      → Runs (prompts contents failures help k next) s out n (Err fault) t end l → PromptsAll contents failures help k typed s out n r t end l
  unfolding prompts_all
  ends_all k typed None fault r s t out end n l fails is runs = record {
    lines = [];
    are_typed = all_none typed is;
    runs = subst (λ x. Runs (followed_by (prompts contents failures help k None) (λ more. gives tt)) s out n x t end l) (sym fails) (ends_in_fault (prompts contents failures help k None) (λ more. gives tt) fault s t out end n l runs);
  }
  ends_all k typed (Some line) fault r s t out end n l fails is runs =
      let all = all_from typed line is in
      let rest : Bool → Behaviour (RunOf D) (Unit {0}) = λ more. in_case more (prompts_all contents failures help (k + 1) all.0) (gives tt) in
      record {
        lines = line ∷ all.0;
        are_typed = all.1;
        runs = subst (λ x. Runs (followed_by (prompts contents failures help k (Some line)) rest) s out n x t end l) (sym fails) (ends_in_fault (prompts contents failures help k (Some line)) rest fault s t out end n l runs);
      }

  -- there is no number for a further line
  pub too_many_lines : (k : ℕ) (typed : Option (List ℕ)) (s : RunOf D) (out : Option (List ℕ)) (n : NotesOf) → PromptsAll contents failures help k typed s out n (Err faults.Memory) s out n
  too_many_lines k typed s out n =
      let one = unread k typed None faults.Memory (Err faults.Memory) s out (append_known out mark) out n n refl (has_appended out mark) tt in
      ends_all k typed one.next faults.Memory (Err faults.Memory) s s out out n n refl one.is_next one.runs
