-- Queues of calls.
use Rattle.console.proofs.Vocabulary.{◌≡◌, ℕ, ◌+◌, ◌-◌, ◌<◌, ◌≤◌, List, [], ◌∷◌, ◌++◌, length, drop, get_or, set, map, Option, Some, None, Result, Ok, Err, ap, sym, ◌∙◌, arith, length-drop, option_map, option_to_list, at_drop_all, at_drop_more, drop-map, map-append, map-set, get_or-map, get_or_past, nil_from_length, length-map, map-set_same, ScriptLine, line_said, numbered, Memory, FailsTo, QueuedCalls, TakesNext, left_to, or_line, queued, started_in, with_last, with_start}
use Rattle.script.specs.Said as said

-- the list is empty if its first was sought in vain
none_there : {X : Type 0} (xs ys : List X) → xs ≡ ys → ys ≡ drop 1 xs → xs ≡ []
none_there xs ys same rest =
    let long : length xs ≡ length xs - 1 = ap length (same ∙ rest) ∙ length-drop 1 xs in
    nil_from_length xs (omega (arith, long))

module _ {X T : Type 0} (says : X → said.Call) (items : T → List X) (queues : List T) (hart : ℕ) where
  abbrev said_in : T → List said.Call
  said_in q = map says (items q)

  pub taken : (d is : T) (r : Option X) → hart < length queues → items (get_or queues hart d) ≡ option_to_list r ++ items is → items is ≡ drop 1 (items (get_or queues hart d))
      → TakesNext hart (map (λ q. map says (items q)) queues) (option_map says r) (map (λ q. map says (items q)) (set queues hart is))
  taken d is None lt same rest =
      let none : items (get_or queues hart d) ≡ [] = none_there (items (get_or queues hart d)) (items is) same rest in (
        get_or-map said_in queues hart d [] lt ∙ ap (map says) none,
        map-set_same said_in queues hart is d (ap (map says) (sym same)),
      )
  taken d is (Some x) lt same rest = (
    map says (items is),
    get_or-map said_in queues hart d [] lt ∙ ap (map says) same,
    map-set said_in queues hart is,
  )

  pub put_last : (d is : T) (x : X) → hart < length queues → items is ≡ items (get_or queues hart d) ++ x ∷ [] → map (λ q. map says (items q)) (set queues hart is) ≡ with_last hart (says x) (map (λ q. map says (items q)) queues)
  put_last d is x lt same =
      map-set said_in queues hart is
      ∙ ap (λ l. set (map said_in queues) hart l) (ap (map says) same ∙ map-append says (items (get_or queues hart d)) (x ∷ []) ∙ ap (λ l. l ++ says x ∷ []) (sym (get_or-map said_in queues hart d [] lt)))

  pub none_past : length queues ≤ hart → left_to hart (map (λ q. map says (items q)) queues) ≡ []
  none_past le = get_or_past (map (λ q. map says (items q)) queues) hart [] (omega (arith, length-map queues (λ q. map says (items q))))

-- ---- lines that are queued

-- line i of the lines, the first of those that are left
one_line : (left : QueuedCalls) (lines : List ScriptLine) (i : ℕ) (line : ScriptLine) → i < length lines → line ≡ get_or lines i line
    → queued left (map numbered (drop i lines)) ≡ or_line line.number (λ more. queued more (map numbered (drop (i + 1) lines))) (with_start left (started_in (line_said line.command)))
unfolding queued
one_line left lines i line lt is =
    at_drop_more (λ ls. queued left (map numbered ls)) lines i line lt
    ∙ ap (λ x. or_line x.number (λ more. queued more (map numbered (drop (i + 1) lines))) (with_start left (started_in (line_said x.command)))) (sym is)

pub one_queued : (left after : QueuedCalls) (lines : List ScriptLine) (i j : ℕ) (line : ScriptLine) (hart : ℕ) (call : said.Call) → i < length lines → line ≡ get_or lines i line → j ≡ i + 1
    → Some (hart, call) ≡ started_in (line_said line.command) → after ≡ with_last hart call left → queued after (map numbered (drop j lines)) ≡ queued left (map numbered (drop i lines))
one_queued left after lines i j line hart call lt is next says new =
    ap (λ k. queued after (map numbered (drop k lines))) next
    ∙ ap (λ l. queued l (map numbered (drop (i + 1) lines))) new
    ∙ ap (λ o. or_line line.number (λ more. queued more (map numbered (drop (i + 1) lines))) (with_start left o)) says
    ∙ sym (one_line left lines i line lt is)

pub not_queued : (left : QueuedCalls) (lines : List ScriptLine) (i : ℕ) (line : ScriptLine) → i < length lines → line ≡ get_or lines i line → None ≡ started_in (line_said line.command) → queued left (map numbered (drop i lines)) ≡ Err line.number
not_queued left lines i line lt is says =
    one_line left lines i line lt is ∙ ap (λ o. or_line line.number (λ more. queued more (map numbered (drop (i + 1) lines))) (with_start left o)) (sym says)

pub all_queued : (left : QueuedCalls) (lines : List ScriptLine) (i : ℕ) → length lines ≤ i → queued left (map numbered (drop i lines)) ≡ Ok left
unfolding queued
all_queued left lines i le = at_drop_all (λ ls. queued left (map numbered ls)) lines i le

pub memory_fails : {A : Type 0} (wanted : Result A ℕ) → FailsTo Memory wanted
memory_fails (Ok a) = tt
memory_fails (Err n) = tt

-- item i, the first of those that are left
pub split_at : {X Y : Type 0} (f : X → Y) (xs : List X) (i j : ℕ) (x : X) → i < length xs → x ≡ get_or xs i x → j ≡ i + 1 → drop i (map f xs) ≡ f x ∷ drop j (map f xs)
split_at f xs i j x lt is next =
    drop-map f i xs
    ∙ ap (map f) (at_drop_more (λ ys. ys) xs i x lt ∙ ap (λ y. y ∷ drop (i + 1) xs) (sym is))
    ∙ ap (λ ys. f x ∷ ys) (sym (drop-map f (i + 1) xs) ∙ ap (λ k. drop k (map f xs)) (sym next))
