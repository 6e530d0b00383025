-- What the marks of a machine over a log say of a stop: the history kept beside it is that of the events' numbers.
use Rattle.group_log.proofs.Vocabulary.{◌≡◌, inl, inr, ℕ, zero, suc, ◌+◌, ◌≤◌, ◌<◌, true, List, [], ◌∷◌, ◌++◌, length, Option, Some, refl, sym, ◌∙◌, ap, subst, arith, add-one, length-append, AllByRecursion, cases_eq, Super, Marks, Blocks, AgreeOutside, LogState, recovered_of, seen_of, is_settled, before, IsMarked, IsStory, Span, IsApart, IsSpanned, IsMarkedRun, IsMarkedStop, MarksTellStops, CutsHaveReplies, NoneIsMarkedInPart}
use Rattle.group_log.proofs.Stories.{all_map, all_join, all_before, before_stays, all, stored_at_reply, none_in_part}

-- the numbers below n, in order
abbrev upto : ℕ → List ℕ
upto zero = []
upto (suc n) = upto n ++ n ∷ []

abbrev itself : ℕ → ℕ
itself e = e

length_upto : (n : ℕ) → length (upto n) ≡ n
length_upto zero = refl
length_upto (suc n) = let rest = length_upto n in let both = length-append (upto n) (n ∷ []) in omega (arith, rest, both)

all_below : (n : ℕ) → AllByRecursion (λ e. e < n) (upto n)
all_below zero = tt
all_below (suc n) =
    let last : n < suc n = omega arith in
    all_join (λ e. e < suc n) (upto n) (n ∷ []) (all_map (λ e. e < n) (λ e. e < suc n) (upto n) (λ e lt. omega (arith, lt)) (all_below n)) (last, tt)

before_upto : (k n : ℕ) → k ≤ n → before itself k (upto n) ≡ upto k
before_upto k zero le = let none : k ≡ 0 = omega (arith, le) in sym (ap upto none)
before_upto k (suc n) le = elim (cases_eq k (suc n)) [
  | inl is ↦ subst (λ (j : ℕ). before itself j (upto (suc n)) ≡ upto j) (sym is) (all_before itself (suc n) (upto (suc n)) (all_below (suc n)))
  | inr isnt ↦ let lt : k ≤ n = omega (arith, le, isnt) in before_stays itself k n (upto n) (n ∷ []) lt (refl, tt) ∙ before_upto k n lt
]

module _ {D : Type 0} (contents : D → List (List ℕ)) (n : ℕ) (logs : ℕ → LogState D) (marks : ℕ → Marks) (run : IsMarkedRun contents n logs marks) where
  sizes : Super
  sizes = (logs 0).sizes

  -- the blocks are those that were seen after as many events as there are entries
  abbrev WasSeen : List ℕ → Blocks → Type 0
  WasSeen list blocks = AgreeOutside (logs 0).sizes (seen_of contents (logs (length list))) blocks

  respects : (list : List ℕ) (a b : Blocks) → AgreeOutside (logs 0).sizes a b → WasSeen list a → WasSeen list b
  respects list a b agree image = λ k out. agree k out ∙ image k out

  story : IsStory contents itself (logs 0).sizes WasSeen n upto logs marks
  story = record {
    same = refl;
    idle = run.idle;
    empty = refl;
    unmarked = run.unmarked;
    fresh = run.fresh;
    does = run.does;
    grows = λ i lt. (i ∷ [], ap upto (add-one i), (refl, tt));
    quiet = λ i le none runs. subst (λ (j : ℕ). AgreeOutside (logs 0).sizes (seen_of contents (logs j)) (seen_of contents (logs i))) (sym (length_upto i)) (λ b out. refl);
  }

  stop : (i : ℕ) → i ≤ n → IsMarkedStop contents logs i (marks i)
  stop i le =
      let at = all contents itself (logs 0).sizes WasSeen respects n upto logs marks story i le in
      let stored = at.kept.stored in
      let past : stored.0 ≤ i = elim stored.1 [
        | inl e ↦ omega (arith, e, at.kept.order, at.kept.past)
        | inr e ↦ let is = at.doubtful stored.0 e in omega (arith, is, at.kept.past)
      ] in
      record {
        k = stored.0;
        marked = stored.1;
        past = past;
        seen = subst (λ (j : ℕ). AgreeOutside (logs 0).sizes (seen_of contents (logs j)) (recovered_of contents (logs i)))
            (ap (λ (l : List ℕ). length l) (before_upto stored.0 i past) ∙ length_upto stored.0) stored.2;
        certain = λ runs. elim stored.1 [ inl e ↦ e | inr e ↦ absurd (cc (sym e ∙ at.kept.certain runs)) ];
      }

  replied : (i later more : ℕ) → (marks (i + 1)).begun ≡ i + 1 → i + 1 + later + more ≤ n → is_settled (logs (i + 1 + later)).phase ≡ true → i < (marks (i + 1 + later + more)).cut
  replied = stored_at_reply contents itself (logs 0).sizes WasSeen respects n upto logs marks story

  whole : (since : ℕ → ℕ → Option ℕ) (ended : ℕ → List Span) → IsSpanned n logs since ended → (i : ℕ) → i ≤ n → (k : ℕ) → IsMarked (marks i) k
      → AllByRecursion (IsApart k) (ended i) × ((h from : ℕ) → since i h ≡ Some from → k ≤ from)
  whole since ended spans = none_in_part contents itself (logs 0).sizes WasSeen respects n upto logs marks story since ended spans

pub marks_tell_stops : {D : Type 0} (contents : D → List (List ℕ)) → MarksTellStops contents
marks_tell_stops contents n logs marks run = stop contents n logs marks run

pub cuts_have_replies : {D : Type 0} (contents : D → List (List ℕ)) → CutsHaveReplies contents
cuts_have_replies contents n logs marks run = replied contents n logs marks run

pub none_is_marked_in_part : {D : Type 0} (contents : D → List (List ℕ)) → NoneIsMarkedInPart contents
none_is_marked_in_part contents n logs marks since ended run spans = whole contents n logs marks run since ended spans
