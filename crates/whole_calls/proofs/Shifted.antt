-- Two paths, one after the other, as one text.
use Rattle.whole_calls.proofs.Vocabulary.{◌≡◌, ℕ, ◌+◌, ◌-◌, ◌≤◌, List, ◌++◌, length, take, drop, refl, sym, subst, ap, ◌∙◌, inl, inr, arith, length-append, length-drop, append-nil, drop-append-le, take-append-le, drop-append-add, Name, AtName, Take, op_in, IsNamed, IsNamedInTwo, OnlySeeks, name_in, shifted, IsElement, IsInOne, IsName, first_in, second_in, text_in, Ask, Element, Whole}
use Rattle.image_versions.specs.declared.version.Version.{Version}
use Rattle.path_walk.specs.declared.asks.Ask.TheVariants as ask
use Rattle.path_walk.specs.declared.asks.Query.TheVariants as query
use Rattle.whole_calls.specs.declared.whole.Whole.TheVariants as whole

module _ (front path : List ℕ) (e : Element) where
  -- an element of the first
  pub name_front : e.start ≤ e.end → e.end ≤ length front → name_in (front ++ path) e ≡ name_in front e
  name_front ordered within =
      ap (take (e.end - e.start)) (drop-append-le e.start front path (omega arith))
      ∙ take-append-le (e.end - e.start) (drop e.start front) path (omega (arith, length-drop e.start front))

  pub element_front : (v : Version) → IsElement v front e → IsElement v (front ++ path) e
  element_front v is = record {
    ordered = is.ordered;
    within = omega (arith, is.within, length-append front path);
    rest = omega (arith, is.rest, length-append front path);
    name = subst (IsName v) (sym (name_front is.ordered is.within)) is.name;
  }

  -- one of the second
  pub name_shifted : name_in (front ++ path) (shifted (length front) e) ≡ name_in path e
  name_shifted =
      let many : length front + e.end - (length front + e.start) ≡ e.end - e.start = omega arith in
      ap (λ (n : ℕ). take n (drop (length front + e.start) (front ++ path))) many ∙ ap (take (e.end - e.start)) (drop-append-add front path e.start)

  pub element_shifted : (v : Version) → IsElement v path e → IsElement v (front ++ path) (shifted (length front) e)
  element_shifted v is = record {
    ordered = omega (arith, is.ordered);
    within = omega (arith, is.within, length-append front path);
    rest = omega (arith, is.rest, length-append front path);
    name = subst (IsName v) (sym name_shifted) is.name;
  }

  pub shifted_in_one : IsInOne front (shifted (length front) e)
  shifted_in_one = inr (omega arith)

-- ---- what is asked in the first

module _ (front path : List ℕ) where
  pub op_front : (v : Version) (a : Ask) → OnlySeeks a → IsNamed v front a → op_in (front ++ path) a ≡ op_in front a
  op_front v (ask.Take n (query.Name e)) seeks named = ap (λ (name : Name). Take n (AtName name)) (name_front front path e named.ordered named.within)
  op_front v (ask.Enter d e n) seeks named = absurd seeks
  op_front v (ask.Clear d e) seeks named = absurd seeks
  op_front v (ask.WriteFile fd n offset i) seeks named = absurd named
  op_front v a seeks named = refl

  pub named_front : (v : Version) (a : Ask) → IsNamed v front a → IsNamedInTwo v front path a
  named_front v (ask.Take n query.Nothing) named = (tt, tt)
  named_front v (ask.Take n (query.Name e)) named = (element_front front path e v named, inl named.within)
  named_front v (ask.Take n query.Entries) named = (tt, tt)
  named_front v (ask.Enter d e n) named = (element_front front path e v named, inl named.within)
  named_front v (ask.ReadFile fd n offset count) named = absurd named
  named_front v (ask.WriteFile fd n offset i) named = absurd named
  named_front v a named = (tt, tt)

-- ---- a call's text

pub in_two : (w : Whole) → first_in w ++ second_in w ≡ text_in w
in_two (whole.Link old new c) = refl
in_two (whole.Open path flags c) = append-nil path
in_two (whole.Read fd buf c) = append-nil buf.items
in_two (whole.Write fd bytes c) = append-nil bytes
in_two (whole.Unlink path c) = append-nil path
in_two (whole.Mkdir path c) = append-nil path
in_two (whole.Chdir path c) = append-nil path
in_two w = refl
