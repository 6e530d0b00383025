-- A row of items whose last comes first.
use Rattle.std.proofs.Common.{◌≡◌, ℕ, ◌+◌, ◌<◌, List, [], ◌∷◌, ◌++◌, length, get_or, drop, reverse, Option, None, refl, ap, sym, ◌∙◌, append_assoc, add-one, arith}
use Rattle.std.proofs.Math.Seq.{drop-cons}
use Rattle.std.proofs.lemmas.List.{reverse-append}
use Rattle.image_reports.specs.Vocabulary.{Slot, flat_map}
use Rattle.image_reports.specs.Listing.{named_at}
use Rattle.image_reports.specs.declared.item.Item.{Item}

-- one more on top
pub reverse_push : (items : List Item) (item : Item) → reverse (items ++ item ∷ []) ≡ item ∷ reverse items
reverse_push items item = reverse-append items (item ∷ [])

-- what slot `end` names is put on top of what the later ones name
pub push_turn : (path : List ℕ) (slots : List (Option Slot)) (end : ℕ) (before now more : List Item) → end < length slots
    → reverse now ≡ flat_map (named_at path) (drop (end + 1) slots) ++ before
    → reverse more ≡ named_at path (get_or slots end None) ++ reverse now
    → reverse more ≡ flat_map (named_at path) (drop end slots) ++ before
push_turn path slots end before now more lt had pushed =
    let front : flat_map (named_at path) (drop end slots) ≡ named_at path (get_or slots end None) ++ flat_map (named_at path) (drop (end + 1) slots) =
    rw add-one (ap (flat_map (named_at path)) (drop-cons slots end None lt)) in
    pushed ∙ ap (λ l. named_at path (get_or slots end None) ++ l) had
    ∙ sym (append_assoc (named_at path (get_or slots end None)) (flat_map (named_at path) (drop (end + 1) slots)) before)
    ∙ ap (λ l. l ++ before) (sym front)

-- the last one is taken off
pub reverse_pop : (items rest : List Item) (item : Item) → items ≡ rest ++ item ∷ [] → reverse items ≡ item ∷ reverse rest
reverse_pop items rest item was = ap reverse was ∙ reverse_push rest item

pub none_waits : (items : List Item) → length items ≡ 0 → reverse items ≡ []
none_waits [] none = refl
none_waits (item ∷ items) none = absurd (omega (arith, none))
