use Rattle.image_tree.proofs.Lemmas.{List, None, [], ap, get_or, length, push_once, sym, subst, take, ℕ, ◌++◌, ◌<◌, ◌∙◌, ◌∷◌, ◌≡◌, IsOnce}
use Rattle.image_tree.proofs.Vocabulary.{Dirent, Option, Some, Used, get_or_default}
use Rattle.image_tree.proofs.SlotNumbers.{flat_more}
use Rattle.image_tree.specs.Links.{slot_name, slot_names}
use Rattle.damage_places.proofs.NumberLemmas.{none_of}
use Rattle.damage_places.proofs.PlaceLemmas.{first_none}
use Rattle.damage_places.proofs.names.repeat_at.Goals as goal

named : (slots : List (Option Dirent)) (s number : ℕ) (x : Option Dirent) (d : Dirent) (name : List ℕ) → s < length slots → x ≡ get_or slots s x → x ≡ Some d → d ≡ Used number name
    → slot_name (get_or slots s None) ≡ name ∷ []
named slots s number x d name l is e f = ap slot_name (get_or_default slots s None x l ∙ sym is ∙ e ∙ ap (λ (y : Dirent). Some y) f)

pub returns-in_default-first_named : goal.returns-in_default-first_named
returns-in_default-first_named c =
    let slots : List (Option Dirent) = c.args.slots.now in
    let xs = slot_names (take c.args.s slots) in
    let n : List ℕ = c.as_bytes.result.now in
    let own = named slots c.args.s c.in-Some-Used.field-0-0 c.index-slots-s.result c.in-Some-Used.field-0 c.in-Some-Used.name c.requires.within c.index-slots-s.is c.in-Some-Used.is cc in
    let is : slot_name (get_or slots c.args.s None) ≡ n ∷ [] = own ∙ ap (λ (y : List ℕ). y ∷ []) (sym c.as_bytes.ensures.value) in
    let all = first_none c.first_named.result _ _ c.in_default-first_named.is c.first_named.ensures in
    subst IsOnce (sym (flat_more slot_name slots c.args.s None c.requires.within ∙ ap (λ (ys : List (List ℕ)). xs ++ ys) is))
    (push_once xs n c.requires.before (none_of xs n all))
