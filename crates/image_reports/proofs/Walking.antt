-- The listing that a walk has begun, with the items that wait.
use Rattle.std.proofs.Common.{◌≡◌, ℕ, Bool, List, [], ◌∷◌, ◌++◌, Option, refl, ap, sym, ◌∙◌, subst, append_assoc}
use Rattle.image_reports.specs.Vocabulary.{Appends, Node, Version}
use Rattle.image_reports.specs.Lines.{line_of}
use Rattle.image_reports.specs.Listing.{Listed, Lists, OneListing, ended, item_first, below}
use Rattle.image_reports.specs.declared.item.Item.{Item}
use Rattle.image_reports.proofs.Appending.{appends_both, appends_nothing}

-- a listing whose first item this is
record First (v : Version) (nodes : ℕ → Option Node) (long : Bool) (item : Item) (items : List Item) (text : List ℕ) : Type 0 where
  pub inside : List ℕ
  pub after : List ℕ
  pub lists_inside : Lists v nodes long (below nodes item) inside
  pub lists_after : Lists v nodes long items after
  pub whole : text ≡ line_of v nodes long item ++ inside ++ after

abbrev Seen : Version → (ℕ → Option Node) → Bool → List Item → List ℕ → Type 0
Seen v nodes long [] text = text ≡ []
Seen v nodes long (item ∷ items) text = First v nodes long item items text

seen : (v : Version) (nodes : ℕ → Option Node) (long : Bool) {items : List Item} {text : List ℕ} → Lists v nodes long items text
    → Seen v nodes long items text
seen v nodes long ended = refl
seen v nodes long (item_first item items inside after i a) = record { inside = inside; after = after; lists_inside = i; lists_after = a; whole = refl }

one_listing_of : (v : Version) (nodes : ℕ → Option Node) (long : Bool) {items : List Item} {text : List ℕ} (other : List ℕ)
    → Lists v nodes long items text → Lists v nodes long items other → text ≡ other
one_listing_of v nodes long other ended given = sym (seen v nodes long given)
one_listing_of v nodes long other (item_first item items inside after i a) given =
    let w : First v nodes long item items other = seen v nodes long given in
    let line : List ℕ = line_of v nodes long item in
    ap (λ l. line ++ l ++ after) (one_listing_of v nodes long w.inside i w.lists_inside)
    ∙ ap (λ l. line ++ w.inside ++ l) (one_listing_of v nodes long w.after a w.lists_after) ∙ sym w.whole

pub one_listing : OneListing
one_listing v nodes long items text other first second = one_listing_of v nodes long other first second

-- a listing of some items and then of others
record Halves (v : Version) (nodes : ℕ → Option Node) (long : Bool) (xs ys : List Item) (text : List ℕ) : Type 0 where
  pub first : List ℕ
  pub second : List ℕ
  pub lists_first : Lists v nodes long xs first
  pub lists_second : Lists v nodes long ys second
  pub whole : text ≡ first ++ second

halves : (v : Version) (nodes : ℕ → Option Node) (long : Bool) (xs ys : List Item) (text : List ℕ) → Lists v nodes long (xs ++ ys) text
    → Halves v nodes long xs ys text
halves v nodes long [] ys text given = record { first = []; second = text; lists_first = ended; lists_second = given; whole = refl }
halves v nodes long (x ∷ xs) ys text given =
    let w : First v nodes long x (xs ++ ys) text = seen v nodes long given in
    let h : Halves v nodes long xs ys w.after = halves v nodes long xs ys w.after w.lists_after in
    let line : List ℕ = line_of v nodes long x in
    record {
      first = line ++ w.inside ++ h.first;
      second = h.second;
      lists_first = item_first x xs w.inside h.first w.lists_inside h.lists_first;
      lists_second = h.lists_second;
      whole = w.whole ∙ ap (λ l. line ++ w.inside ++ l) h.whole ∙ sym (append_assoc (line ++ w.inside) h.first h.second);
    }

-- what was printed goes on as the listing from the start if the items that wait are listed, the last one first
pub record Walked (v : Version) (nodes : ℕ → Option Node) (long : Bool) (start : Item) (waiting : List Item)
    (out out' : Option (List ℕ)) : Type 0 where
  pub printed : List ℕ
  pub appended : Appends out out' printed
  pub goes_on : (text : List ℕ) → Lists v nodes long waiting text → Lists v nodes long (start ∷ []) (printed ++ text)

pub walk_begun : (v : Version) (nodes : ℕ → Option Node) (long : Bool) (start : Item) (waiting : List Item) (out : Option (List ℕ))
    → waiting ≡ start ∷ [] → Walked v nodes long start waiting out out
walk_begun v nodes long start waiting out only = record {
  printed = [];
  appended = appends_nothing out;
  goes_on = λ text given. subst (λ items. Lists v nodes long items text) only given;
}

pub walk_turn : (v : Version) (nodes : ℕ → Option Node) (long : Bool) (start item : Item) (waiting rest more : List Item)
    (out now next : Option (List ℕ))
    → Walked v nodes long start waiting out now → waiting ≡ item ∷ rest → Appends now next (line_of v nodes long item)
    → more ≡ below nodes item ++ rest → Walked v nodes long start more out next
walk_turn v nodes long start item waiting rest more out now next walked top told pushed =
    let line : List ℕ = line_of v nodes long item in
    record {
      printed = walked.printed ++ line;
      appended = appends_both out now next walked.printed line walked.appended told;
      goes_on = λ text given.
          let h : Halves v nodes long (below nodes item) rest text =
          halves v nodes long (below nodes item) rest text (subst (λ items. Lists v nodes long items text) pushed given) in
          let first : Lists v nodes long (item ∷ rest) (line ++ h.first ++ h.second) =
          item_first item rest h.first h.second h.lists_first h.lists_second in
          let whole : Lists v nodes long (start ∷ []) (walked.printed ++ (line ++ h.first ++ h.second)) =
          walked.goes_on _ (subst (λ items. Lists v nodes long items (line ++ h.first ++ h.second)) (sym top) first) in
          let same : line ++ h.first ++ h.second ≡ line ++ text = append_assoc line h.first h.second ∙ ap (λ l. line ++ l) (sym h.whole) in
          subst (λ l. Lists v nodes long (start ∷ []) l) (ap (λ l. walked.printed ++ l) same ∙ sym (append_assoc walked.printed line text)) whole;
    }

pub walk_ended : (v : Version) (nodes : ℕ → Option Node) (long : Bool) (start : Item) (waiting : List Item) (out out' : Option (List ℕ))
    → Walked v nodes long start waiting out out' → waiting ≡ [] → Listed v nodes long start out out'
walk_ended v nodes long start waiting out out' walked none = record {
  text = walked.printed ++ [];
  lists = walked.goes_on [] (subst (λ items. Lists v nodes long items []) (sym none) ended);
  printed = appends_both out out' out' walked.printed [] walked.appended (appends_nothing out');
}
