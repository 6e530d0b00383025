-- Slots: what entering and clearing a name do to the others.
use Rattle.tree_laws.proofs.Vocabulary.{◌≡◌, ℕ, ◌+◌, true, false, ◌==◌, inl, inr, refl, sym, ◌∙◌, subst, arith, [], ◌∷◌, Some, None, Slot, Name, same_name, dot, dotdot, first_slot, first_free, cleared, any_used, is_used, Slots, NamesOnce, count_in, one_if}
use Rattle.tree_laws.proofs.Maps.{either, eq_self, eq_is, and_true, or_none}
use Rattle.tree_laws.proofs.Sums.{count_cleared, one_yes}

pub same_is : (a b : Name) → same_name a b ≡ true → a ≡ b
unfolding same_name
same_is [] [] h = refl
same_is [] (y ∷ ys) h = absurd cc
same_is (x ∷ xs) [] h = absurd cc
same_is (x ∷ xs) (y ∷ ys) h =
    let two = and_true (x == y) (same_name xs ys) h in
    let head : x ≡ y = eq_is x y two.0 in
    let tail : xs ≡ ys = same_is xs ys two.1 in
    cc

pub same_self : (a : Name) → same_name a a ≡ true
unfolding same_name
same_self [] = refl
same_self (x ∷ xs) = rw (eq_self x) (same_self xs)

pub flip_name : (a b : Name) → same_name a b ≡ false → same_name b a ≡ false
flip_name a b h = elim (either (same_name b a)) [
  | inr z ↦ z
  | inl z ↦ absurd (let q : b ≡ a = same_is b a z in let w : same_name a b ≡ true = subst (λ (x : Name). same_name x b ≡ true) q (subst (λ (x : Name). same_name b x ≡ true) (sym q) z) in cc (w, h))
]

pub slot_here : (s : Slot) (ss : Slots) (e : Name) → same_name s.name e ≡ true → first_slot (Some s ∷ ss) e ≡ Some s.number
unfolding first_slot
slot_here s ss e h = rw h refl

pub slot_past : (s : Slot) (ss : Slots) (e : Name) → same_name s.name e ≡ false → first_slot (Some s ∷ ss) e ≡ first_slot ss e
unfolding first_slot
slot_past s ss e h = rw h refl

pub slot_none : (ss : Slots) (e : Name) → first_slot (None ∷ ss) e ≡ first_slot ss e
unfolding first_slot
slot_none ss e = refl

pub slot_nil : (e : Name) → first_slot [] e ≡ None
unfolding first_slot
slot_nil e = refl

pub free_nil : (s : Slot) → first_free [] s ≡ Some s ∷ []
unfolding first_free
free_nil s = refl

-- a name that is entered hides no other
pub entered_other : (ss : Slots) (s : Slot) (e : Name) → same_name s.name e ≡ false → first_slot (first_free ss s) e ≡ first_slot ss e
unfolding first_free
entered_other [] s e ne = slot_past s [] e ne
entered_other (None ∷ ss) s e ne = slot_past s ss e ne ∙ sym (slot_none ss e)
entered_other (Some s' ∷ ss) s e ne =
    let ih = entered_other ss s e ne in
    elim (either (same_name s'.name e)) [
      | inl y ↦ slot_here s' (first_free ss s) e y ∙ sym (slot_here s' ss e y)
      | inr y ↦ slot_past s' (first_free ss s) e y ∙ (ih ∙ sym (slot_past s' ss e y))
    ]

-- the name is found afterwards if it wasn't found before
pub entered_here : (ss : Slots) (s : Slot) → first_slot ss s.name ≡ None → first_slot (first_free ss s) s.name ≡ Some s.number
unfolding first_free
entered_here [] s none = slot_here s [] s.name (same_self s.name)
entered_here (None ∷ ss) s none = slot_here s ss s.name (same_self s.name)
entered_here (Some s' ∷ ss) s none =
    let ih = entered_here ss s in
    elim (either (same_name s'.name s.name)) [
      | inl y ↦ absurd (let w : first_slot (Some s' ∷ ss) s.name ≡ Some s'.number = slot_here s' ss s.name y in cc (w, none))
      | inr y ↦ slot_past s' (first_free ss s) s.name y ∙ ih (sym (slot_past s' ss s.name y) ∙ none)
    ]

pub entered_once : (ss : Slots) (s : Slot) → first_slot ss s.name ≡ None → NamesOnce ss → NamesOnce (first_free ss s)
unfolding NamesOnce first_free
entered_once [] s none o = (slot_nil s.name, tt)
entered_once (None ∷ ss) s none o = (sym (slot_none ss s.name) ∙ none, o)
entered_once (Some s' ∷ ss) s none o =
    let ih = entered_once ss s in
    elim (either (same_name s'.name s.name)) [
      | inl y ↦ absurd (let w : first_slot (Some s' ∷ ss) s.name ≡ Some s'.number = slot_here s' ss s.name y in cc (w, none))
      | inr y ↦ (entered_other ss s s'.name (flip_name s'.name s.name y) ∙ o.0, ih (sym (slot_past s' ss s.name y) ∙ none) o.1)
    ]

-- a cleared slot hides no other
pub cleared_other : (ss : Slots) (e a : Name) → same_name a e ≡ false → first_slot (cleared ss e) a ≡ first_slot ss a
unfolding cleared
cleared_other [] e a ne = refl
cleared_other (None ∷ ss) e a ne = slot_none (cleared ss e) a ∙ (cleared_other ss e a ne ∙ sym (slot_none ss a))
cleared_other (Some s ∷ ss) e a ne =
    let ih = cleared_other ss e a ne in
    elim (either (same_name s.name e)) [
      | inl y ↦ rw y (slot_none ss a ∙ sym (slot_past s ss a (subst (λ (z : Name). same_name z a ≡ false) (sym (same_is s.name e y)) (flip_name a e ne))))
      | inr y ↦ rw y (elim (either (same_name s.name a)) [
        | inl z ↦ slot_here s (cleared ss e) a z ∙ sym (slot_here s ss a z)
        | inr z ↦ slot_past s (cleared ss e) a z ∙ (ih ∙ sym (slot_past s ss a z))
      ])
    ]

-- if each name is there once, the cleared one is gone
pub cleared_gone : (ss : Slots) (e : Name) → NamesOnce ss → first_slot (cleared ss e) e ≡ None
unfolding NamesOnce cleared
cleared_gone [] e o = slot_nil e
cleared_gone (None ∷ ss) e o = slot_none (cleared ss e) e ∙ cleared_gone ss e o
cleared_gone (Some s ∷ ss) e o =
    let ih = cleared_gone ss e in
    elim (either (same_name s.name e)) [
      | inl y ↦ rw y (slot_none ss e ∙ subst (λ (z : Name). first_slot ss z ≡ None) (same_is s.name e y) o.0)
      | inr y ↦ rw y (slot_past s (cleared ss e) e y ∙ ih o.1)
    ]

cleared_less : (ss : Slots) (e a : Name) → first_slot ss a ≡ None → first_slot (cleared ss e) a ≡ None
unfolding cleared
cleared_less [] e a h = h
cleared_less (None ∷ ss) e a h = slot_none (cleared ss e) a ∙ cleared_less ss e a (sym (slot_none ss a) ∙ h)
cleared_less (Some s ∷ ss) e a h =
    let ih = cleared_less ss e a in
    elim (either (same_name s.name a)) [
      | inl z ↦ absurd (let w : first_slot (Some s ∷ ss) a ≡ Some s.number = slot_here s ss a z in cc (w, h))
      | inr z ↦ elim (either (same_name s.name e)) [
        | inl y ↦ rw y (slot_none ss a ∙ (sym (slot_past s ss a z) ∙ h))
        | inr y ↦ rw y (slot_past s (cleared ss e) a z ∙ ih (sym (slot_past s ss a z) ∙ h))
      ]
    ]

pub cleared_once : (ss : Slots) (e : Name) → NamesOnce ss → NamesOnce (cleared ss e)
unfolding NamesOnce cleared
cleared_once [] e o = tt
cleared_once (None ∷ ss) e o = cleared_once ss e o
cleared_once (Some s ∷ ss) e o =
    let ih = cleared_once ss e o.1 in
    elim (either (same_name s.name e)) [
      | inl y ↦ rw y o.1
      | inr y ↦ rw y (cleared_less ss e s.name o.0, ih)
    ]

-- "." and ".." come first

abbrev pub Dots : ℕ → ℕ → Slots → Slots
Dots d up rest = Some (record { name = dot; number = d }) ∷ Some (record { name = dotdot; number = up }) ∷ rest

pub entered_dots : (d up : ℕ) (rest : Slots) (s : Slot) → first_free (Dots d up rest) s ≡ Dots d up (first_free rest s)
unfolding first_free
entered_dots d up rest s = refl

pub cleared_dots : (d up : ℕ) (rest : Slots) (e : Name) → same_name e dot ≡ false → same_name e dotdot ≡ false → cleared (Dots d up rest) e ≡ Dots d up (cleared rest e)
unfolding cleared
cleared_dots d up rest e a b = rw (flip_name e dot a, flip_name e dotdot b) refl

pub first_dots : (d up : ℕ) (rest : Slots) (e : Name) → same_name e dot ≡ false → same_name e dotdot ≡ false → first_slot (Dots d up rest) e ≡ first_slot rest e
first_dots d up rest e a b =
    slot_past (record { name = dot; number = d }) (Some (record { name = dotdot; number = up }) ∷ rest) e (flip_name e dot a)
    ∙ slot_past (record { name = dotdot; number = up }) rest e (flip_name e dotdot b)

pub first_dot : (d up : ℕ) (rest : Slots) (e : Name) → same_name e dot ≡ true → first_slot (Dots d up rest) e ≡ Some d
first_dot d up rest e a = slot_here (record { name = dot; number = d }) (Some (record { name = dotdot; number = up }) ∷ rest) e (subst (λ (z : Name). same_name dot z ≡ true) (sym (same_is e dot a)) (same_self dot))

pub dots_differ : same_name dot dotdot ≡ false
unfolding same_name
dots_differ = refl

pub first_dotdot : (d up : ℕ) (rest : Slots) (e : Name) → same_name e dotdot ≡ true → first_slot (Dots d up rest) e ≡ Some up
first_dotdot d up rest e a =
    let is : e ≡ dotdot = same_is e dotdot a in
    subst (λ (z : Name). first_slot (Dots d up rest) z ≡ Some up) (sym is)
    (slot_past (record { name = dot; number = d }) (Some (record { name = dotdot; number = up }) ∷ rest) dotdot dots_differ
    ∙ slot_here (record { name = dotdot; number = up }) rest dotdot (same_self dotdot))

-- nothing is found in unused slots
pub first_unused : (ss : Slots) (e : Name) → any_used ss ≡ false → first_slot ss e ≡ None
unfolding any_used
first_unused [] e h = slot_nil e
first_unused (None ∷ ss) e h = slot_none ss e ∙ first_unused ss e (or_none (is_used None) (any_used ss) h).1
first_unused (Some s ∷ ss) e h = absurd (let b : true ≡ false = (or_none (is_used (Some s)) (any_used ss) h).0 in cc)

-- what is found is named
pub first_counts : (ss : Slots) (e : Name) (k : ℕ) → first_slot ss e ≡ Some k → (j : ℕ) × (count_in ss k ≡ 1 + j)
first_counts ss e k h =
    let c : count_in (cleared ss e) k + one_if (k == k) ≡ count_in ss k = count_cleared ss e k k h in
    let o : one_if (k == k) ≡ 1 = one_yes (k == k) (eq_self k) in
    (count_in (cleared ss e) k, omega (arith, c, o))

pub dots_once : (d up : ℕ) → NamesOnce (Dots d up [])
unfolding NamesOnce
dots_once d up = (slot_past (record { name = dotdot; number = up }) [] dot (flip_name dot dotdot dots_differ) ∙ slot_nil dot, (slot_nil dotdot, tt))
