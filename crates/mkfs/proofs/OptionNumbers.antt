-- A parse of the command line gives its numbers.
use Rattle.mkfs.proofs.Vocabulary.{◌≡◌, ◌∙◌, ◌<◌, ◌≤◌, ◌==◌, ◌&&◌, ℕ, Bool, true, false, true≢false, not, cond, zero, suc, refl, sym, ap, subst, arith, inl, inr, List, [], ◌∷◌, map, length, drop, Some, None, codes, option_map, ⊤, find, pos, slice_get, unwrap_or, Err, IfOk, IsErrAnd, Ok, Result, Bor, All, Any, list_any, slice_index_or, bytes_eq, IsNumeral, digits_value, starts_with_minus, without_leading_plus, ne_eqb, ints, All-get_or, Any-from_list_any, bytes_eq-Decides, digit_from_value, BuildsOrBreaks, BuildsTo, is_broken, Entry, EntryPasses, HasId, HasIn, IsParsed, MayBeEmpty, PassesArg, WantsDefault, args_of, groups_of, parser_of, parser_of_value, unwrap_or_range, without_minus, found_of, has_subcommand, matched_of, one_text, App, app_of, built, is_buildable, Accepts, IsSignedIn, reading_of, Rule, Text, action_of, is_empty, rule_of, texts, Count, Set, Arg, Command, out-Command, WithoutMinus, ValueParser, Signed, Error, ArgMatches, Found, MatchedArg, entry_by_id, is_false, is_nil, both, list_any-map, HasNumber, HasVersion, mkfs_line, number_in}
use Rattle.image_versions.proofs.Places.{between}

-- ---- the text of a number

without_minus-cond : (t : Text) → without_minus t ≡ cond (starts_with_minus t) (drop 1 t) t
without_minus-cond [] = refl
without_minus-cond (x ∷ xs) = go (x == 45)
  where
    go : (b : Bool) → unwrap_or (cond b (Some xs) None) (x ∷ xs) ≡ cond b xs (x ∷ xs)
    go true = refl
    go false = refl

no_plus : (ds : Text) → IsNumeral 10 ds → without_leading_plus ds ≡ ds
no_plus [] h = refl
no_plus (d ∷ ds) h =
    let plus : (d == 43) ≡ false = ne_eqb _ _ (λ e. omega (arith, digit_from_value d h.1.0)) in
    ap (λ (b : Bool). drop (cond b 1 0) (d ∷ ds)) plus

-- a number between these
abbrev IsNumber : ℕ → ℕ → Text → Type 0
IsNumber least greatest t = IsNumeral 10 (without_leading_plus t) × (least ≤ number_in t) × (number_in t ≤ greatest)

-- a text that passed the parser of such a number is such a number's, except for its minus
number_text : (least greatest : ℕ) (t : Text) → IsSignedIn (pos least) (pos greatest) t → IsNumber least greatest (without_minus t)
number_text least greatest t passed = subst (IsNumber least greatest) (sym (without_minus-cond t)) (go (starts_with_minus t) refl)
  where
    go : (b : Bool) → starts_with_minus t ≡ b → IsNumber least greatest (cond (starts_with_minus t) (drop 1 t) t)
    go true minus =
        let low = rw minus at passed.2 in
        let high = rw minus at passed.3 in
        let numeral : IsNumeral 10 (drop 1 t) = rw minus at passed.0 in
        let same = no_plus (drop 1 t) numeral in
        let large : least ≤ digits_value 10 (drop 1 t) = omega (arith, ints) in
        let small : digits_value 10 (drop 1 t) ≤ greatest = omega (arith, ints) in
        rw (minus, same) (numeral, large, small)
    go false minus =
        let low = rw minus at passed.2 in
        let high = rw minus at passed.3 in
        let numeral : IsNumeral 10 (without_leading_plus t) = rw minus at passed.0 in
        let large : least ≤ number_in t = omega (arith, ints) in
        let small : number_in t ≤ greatest = omega (arith, ints) in
        rw minus (numeral, large, small)

-- ---- the rules of an option with a number

-- a number between these, of which each use has one value
abbrev pub IsNumberRule : ℕ → ℕ → Rule → Type 0
IsNumberRule least greatest r = (parser_of_value r.parser ≡ Signed (pos least) (pos greatest)) × (action_of r ≡ Set)
    × ((unwrap_or_range r.range).start_inclusive ≡ 1) × (r.is_simple ≡ true)

-- each argument with this id is one
abbrev pub HasNumberRules : ℕ → ℕ → Text → List Rule → Type 0
HasNumberRules least greatest id [] = ⊤
HasNumberRules least greatest id (r ∷ rs) = (bytes_eq r.id id ≡ true → IsNumberRule least greatest r) × HasNumberRules least greatest id rs

-- the argument has this id and a default
abbrev pub is_default_of : Text → Rule → Bool
is_default_of id r = bytes_eq r.id id && (not (is_empty r.defaults) && r.is_simple)

-- the rule of an argument with this id
rule_at : (least greatest : ℕ) (xs : List Arg) (id : Text) → HasNumberRules least greatest id (map rule_of xs) → (i : ℕ) (a : Arg) → i < length xs
    → slice_index_or xs i a ≡ a → bytes_eq a.id.now id ≡ true → IsNumberRule least greatest (rule_of a)
rule_at least greatest [] id h i a lt at same = absurd (omega arith)
rule_at least greatest (x ∷ xs) id h zero a lt at same =
    subst (λ (w : Arg). bytes_eq w.id.now id ≡ true → IsNumberRule least greatest (rule_of w)) at h.0 same
rule_at least greatest (x ∷ xs) id h (suc n) a lt at same = rule_at least greatest xs id h.1 n a (omega arith) at same

-- an argument with these rules needs a value
not_empty : (least greatest : ℕ) (a : Arg) → IsNumberRule least greatest (rule_of a) → MayBeEmpty a → ⊥
not_empty least greatest a h (inl none) = let one = h.2 in omega arith
not_empty least greatest a h (inr some) =
    let bad = rw some at h.3 in
    grind arith

-- ---- the entry of an option with a number

-- an id that an entry has finds one
found_entry : (xs : List Entry) (id : Text) → HasIn xs id
    → (x : MatchedArg) × (option_map (λ e. e.1) (find (λ e. bytes_eq e.0.now id) xs) ≡ Some x)
found_entry [] id h = let lt = h.1 in absurd (omega arith)
found_entry (x ∷ xs) id h = go (bytes_eq x.0.now id) refl h (found_entry xs id)
  where
    later : bytes_eq x.0.now id ≡ false → HasIn (x ∷ xs) id → HasIn xs id
    later other (zero, lt, key) = absurd (true≢false (sym (key x) ∙ other))
    later other (suc n, lt, key) = (n, omega arith, key)

    go : (b : Bool) → bytes_eq x.0.now id ≡ b → HasIn (x ∷ xs) id
        → (HasIn xs id → (y : MatchedArg) × (option_map (λ e. e.1) (find (λ e. bytes_eq e.0.now id) xs) ≡ Some y))
        → (y : MatchedArg) × (option_map (λ e. e.1) (find (λ e. bytes_eq e.0.now id) (x ∷ xs)) ≡ Some y)
    go true is h rest = (x.1, rw is refl)
    go false is h rest = let found = rest (later is h) in (found.0, rw is found.1)

not_nil : (xs : List (Bor Text)) → not (is_empty (texts xs)) ≡ true → 0 < length xs
not_nil [] e = absurd (true≢false (sym e))
not_nil (x ∷ xs) e = omega arith

-- an option with a default has an entry
default_entry : (c : Command) (f : Found) (s : Bool) (id : Text) → IsParsed c f s
    → list_any (is_default_of id) (map rule_of (args_of c)) ≡ true → HasId f id
default_entry c f s id parsed some =
    let has : (i : ℕ) × (a : Arg) × (i < length (args_of c)) × (slice_index_or (args_of c) i a ≡ a) × (is_default_of id (rule_of a) ≡ true) =
    Any-from_list_any (λ a. is_default_of id (rule_of a)) (args_of c) (list_any-map (is_default_of id) rule_of (args_of c) ∙ some) in
    let a = has.1 in
    let parts = both _ _ has.4 in
    let rest = both _ _ parts.1 in
    let wants : WantsDefault a = (is_nil _ (both _ _ (both _ _ rest.1).1).0, not_nil _ rest.0) in
    let there : HasId f a.id.now = subst (λ (w : Arg). HasId f w.id.now) has.3 (parsed.defaults has.0 a has.2 (subst WantsDefault (sym has.3) wants)) in
    subst (λ (w : Text). HasId f w) ((bytes_eq-Decides _ _).0 parts.0) there

-- the first of some values
first_value : (P : Bor Text → Type 0) (vs : List (Bor Text)) → All P vs → 0 < length vs → (v : Bor Text) × (slice_get vs 0 ≡ Some v) × P v
first_value P [] h lt = absurd (omega arith)
first_value P (v ∷ vs) h lt = (v, refl, All-get_or P (v ∷ vs) 0 v (omega arith) h)

text_read : (f : Found) (id : Text) (x : MatchedArg) (v : Bor Text) → matched_of f id ≡ Some x → slice_get x.vals.items 0 ≡ Some v
    → x.reading ≡ WithoutMinus → one_text f id ≡ Some (without_minus v.now)
text_read f id x v found first read = rw (found, first, read) refl

-- what is known of a built command's option with a number
module _ (c : Command) (id : Text) (least greatest : ℕ) (no_groups : groups_of c ≡ []) (named : id ≡ [] → ⊥)
    (numbers : HasNumberRules least greatest id (map rule_of (args_of c))) where
  number_rule_of : (w : Text) → w ≡ id → (Q : Arg → Type 0) → Any (λ a. (bytes_eq a.id.now w ≡ true) × Q a) (args_of c)
      → (a : Arg) × IsNumberRule least greatest (rule_of a) × Q a
  number_rule_of w key Q any =
      (any.1, rule_at least greatest (args_of c) id numbers any.0 any.1 any.2 any.3 (rw key at any.4.0), any.4.1)

  no_group : (e : Entry) → e.0.now ≡ id → EntryPasses c e → e.1.is_group ≡ true → ⊥
  no_group e key pass g = elim (pass.3 g) [
    | inl empty ↦ named (sym key ∙ empty)
    | inr lots ↦
        let bad : 0 < 0 = rw no_groups at lots in
        absurd (omega arith)
  ]

  has_value : (e : Entry) → e.0.now ≡ id → EntryPasses c e → 0 < length e.1.vals.items
  has_value e key pass = elim pass.1 [
    | inl h ↦ absurd (no_group e key pass h.0)
    | inr (inl v) ↦ v
    | inr (inr (inl h)) ↦
        let a = number_rule_of e.0.now key (λ a. unwrap_or a.action Set ≡ Count) h.1 in
        let bad : Set ≡ Count = sym a.1.1 ∙ a.2 in
        absurd cc
    | inr (inr (inr h)) ↦
        let a = number_rule_of e.0.now key MayBeEmpty h in
        absurd (not_empty least greatest a.0 a.1 a.2)
  ]

  is_read : (e : Entry) → e.0.now ≡ id → EntryPasses c e → e.1.reading ≡ WithoutMinus
  is_read e key pass = elim pass.4 [
    | inl g ↦ absurd (no_group e key pass g)
    | inr h ↦
        let a = number_rule_of e.0.now key (λ a. reading_of (parser_of a) ≡ e.1.reading) h in
        sym a.2 ∙ ap reading_of a.1.0
  ]

  value_number : (w : Text) → w ≡ id → (t : Text) → PassesArg c w t → IsNumber least greatest (without_minus t)
  value_number w key t pass =
      let a = number_rule_of w key (λ a. Accepts a.ignore_case (parser_of a) t) pass in
      number_text least greatest t (subst (λ (q : ValueParser). Accepts a.0.ignore_case q t) a.1.0 a.2)

  entry_number : (f : Found) (e : Entry) → matched_of f id ≡ Some e.1 → e.0.now ≡ id → EntryPasses c e
      → (t : Text) × (one_text f id ≡ Some t) × IsNumber least greatest t
  entry_number f e found key pass =
      let all : All (λ v. PassesArg c e.0.now v.now) e.1.vals.items = elim pass.0 [
        | inl g ↦ absurd (no_group e key pass g)
        | inr vals ↦ vals
      ] in
      let first = first_value (λ v. PassesArg c e.0.now v.now) e.1.vals.items all (has_value e key pass) in
      (without_minus first.0.now, text_read f id e.1 first.0 found first.1 (is_read e key pass), value_number e.0.now key first.0.now first.2)

  -- a parse with an entry of it gives a number
  parsed_number : (f : Found) (s : Bool) → IsParsed c f s → HasId f id → (t : Text) × (one_text f id ≡ Some t) × IsNumber least greatest t
  parsed_number f s parsed has =
      let found = found_entry f.entries.items id has in
      let e = entry_by_id (EntryPasses c) f.entries.items id found.0 parsed.values found.1 in
      entry_number f e.0 (found.1 ∙ ap (λ (x : MatchedArg). Some x) (sym e.1)) ((bytes_eq-Decides _ _).0 e.2) e.3

-- ---- the parse of the command line

-- a command as it is before or after it is built, with this option of a number between these
pub record GivesNumber (id : Text) (least greatest : ℕ) (a : App) : Type 0 where
  pub plain : a.top.is_plain ≡ true
  pub numbers : HasNumberRules least greatest id a.top.rules
  pub default : list_any (is_default_of id) a.top.rules ≡ true

-- the first value of this option is the text of such a number
abbrev HasNumberIn : ArgMatches → Text → ℕ → ℕ → Type 0
HasNumberIn m id least greatest = (t : Text) × (one_text (found_of m) id ≡ Some t) × IsNumber least greatest t

-- a parse by such a command gives the number
number_given : (c : Command) (m : ArgMatches) (id : Text) (least greatest : ℕ) → (id ≡ [] → ⊥) → GivesNumber id least greatest (app_of c)
    → IsParsed c (found_of m) (has_subcommand m) → HasNumberIn m id least greatest
number_given c m id least greatest named gives parsed =
    let groups : groups_of c ≡ [] = is_nil _ (both _ _ gives.plain).0 in
    parsed_number c id least greatest groups named gives.numbers (found_of m) (has_subcommand m) parsed
    (default_entry c (found_of m) (has_subcommand m) id parsed gives.default)

-- the same of a command that was built, which has no global argument
number_parsed : (c : Command) (m : ArgMatches) (id : Text) (least greatest : ℕ) → (id ≡ [] → ⊥) → GivesNumber id least greatest (app_of c)
    → ((out-Command c).has_globals ≡ false → IsParsed c (found_of m) (has_subcommand m)) → HasNumberIn m id least greatest
number_parsed c m id least greatest named gives parsed =
    let locals : (out-Command c).has_globals ≡ false = is_false _ (both _ _ (both _ _ (both _ _ gives.plain).1).1).0 in
    number_given c m id least greatest named gives (parsed locals)

-- a rule with another id makes no demand
differs : {A : Type 0} (b : Bool) → b ≡ false → b ≡ true → A
differs b f t = absurd (true≢false (sym t ∙ f))

-- what the command line is known for: its three options with numbers
record GivesNumbers (a : App) : Type 0 where
  pub size : GivesNumber (codes "size") 0 4294967295 a
  pub inodes : GivesNumber (codes "inodes") 0 4294967295 a
  pub version : GivesNumber (codes "version") 1 2 a

before : GivesNumbers mkfs_line
before = record {
  size = record {
    plain = refl;
    numbers = (differs _ refl, ((λ _. (refl, refl, refl, refl)), (differs _ refl, (differs _ refl, (differs _ refl, (differs _ refl, (differs _ refl, (differs _ refl, tt))))))));
    default = refl;
  };
  inodes = record {
    plain = refl;
    numbers = (differs _ refl, (differs _ refl, ((λ _. (refl, refl, refl, refl)), (differs _ refl, (differs _ refl, (differs _ refl, (differs _ refl, (differs _ refl, tt))))))));
    default = refl;
  };
  version = record {
    plain = refl;
    numbers = (differs _ refl, (differs _ refl, (differs _ refl, ((λ _. (refl, refl, refl, refl)), (differs _ refl, (differs _ refl, (differs _ refl, (differs _ refl, tt))))))));
    default = refl;
  };
}

after : GivesNumbers (built mkfs_line)
after = record {
  size = record {
    plain = refl;
    numbers = (differs _ refl, ((λ _. (refl, refl, refl, refl)), (differs _ refl, (differs _ refl, (differs _ refl, (differs _ refl, (differs _ refl, (differs _ refl, (differs _ refl, tt)))))))));
    default = refl;
  };
  inodes = record {
    plain = refl;
    numbers = (differs _ refl, (differs _ refl, ((λ _. (refl, refl, refl, refl)), (differs _ refl, (differs _ refl, (differs _ refl, (differs _ refl, (differs _ refl, (differs _ refl, tt)))))))));
    default = refl;
  };
  version = record {
    plain = refl;
    numbers = (differs _ refl, (differs _ refl, (differs _ refl, ((λ _. (refl, refl, refl, refl)), (differs _ refl, (differs _ refl, (differs _ refl, (differs _ refl, (differs _ refl, tt)))))))));
    default = refl;
  };
}

abbrev HasAll : ArgMatches → Type 0
HasAll m = HasNumber m (codes "size") × HasNumber m (codes "inodes") × HasVersion m

-- an id with a first letter is not empty
named : (x : ℕ) (xs : Text) → x ∷ xs ≡ [] → ⊥
named x xs e = cc

u32_number : (m : ArgMatches) (id : Text) → HasNumberIn m id 0 4294967295 → HasNumber m id
u32_number m id h = record { text = h.0; there = h.1; numeral = h.2.0; fits = let most = h.2.2 in omega arith }

version_number : (m : ArgMatches) → HasNumberIn m (codes "version") 1 2 → HasVersion m
version_number m h =
    let is = between (number_in h.0) h.2.1 h.2.2 in
    record {
      number = record { text = h.0; there = h.1; numeral = h.2.0; fits = let most = h.2.2 in omega arith };
      version = is.0;
      known = is.1;
    }

-- a parse by the command line's command gives the numbers
pub all_given : (old new : Command) (r : Result ArgMatches Error) (Q : ArgMatches → Type 0) (P : Error → Type 0) → app_of old ≡ mkfs_line
    → IfOk r (λ m. BuildsTo old new × ((out-Command new).has_globals ≡ false → IsParsed new (found_of m) (has_subcommand m)) × Q m)
    → BuildsOrBreaks old new → (is_broken new ≡ true → IsErrAnd r P) → IfOk r HasAll
all_given old new (Err e) Q P line ok whole fails = tt
all_given old new (Ok m) Q P line ok whole fails = elim whole [
  | inl broken ↦ absurd (fails broken)
  | inr h ↦ elim h.2 [
    | inl same ↦ with_app (same ∙ line) before
    | inr built_so ↦ with_app (built_so (ap is_buildable line) ∙ ap built line) after
  ]
]
  where
    with_app : {a : App} → app_of new ≡ a → GivesNumbers a → HasAll m
    with_app is gives =
        let here : GivesNumbers (app_of new) = subst GivesNumbers (sym is) gives in (
          u32_number m (codes "size") (number_parsed new m (codes "size") 0 4294967295 (named _ _) here.size ok.1),
          u32_number m (codes "inodes") (number_parsed new m (codes "inodes") 0 4294967295 (named _ _) here.inodes ok.1),
          version_number m (number_parsed new m (codes "version") 1 2 (named _ _) here.version ok.1),
        )
