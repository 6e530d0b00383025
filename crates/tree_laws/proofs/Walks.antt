-- Paths without "..": what settling, and what a removal, do to them.
use Rattle.tree_laws.proofs.Vocabulary.{◌≡◌, ◌≢◌, ℕ, Bool, true, false, ◌||◌, ◌⊎◌, inl, inr, refl, sym, ◌∙◌, subst, arith, List, [], ◌∷◌, ◌++◌, Option, Some, None, Node, Name, Tree, same_name, dotdot, first_slot, live_directory, is_live, all_slots, look, follow, parent_from, parent_of, climbs_in, settle, is_named}
use Rattle.tree_laws.proofs.Maps.{either, same_or, and_true, or_none}

abbrev Nodes : Type 0
Nodes = ℕ → Option Node

-- live directories are as they were
pub record KeepsDirectories (ns ns' : Nodes) : Type 0 where
  pub kept : (d : ℕ) → live_directory (ns d) ≡ true → ns' d ≡ ns d

pub look_bad : (ns : Nodes) (d : ℕ) (e : Name) → live_directory (ns d) ≡ false → look ns d e ≡ None
unfolding look
look_bad ns d e h = rw h refl

pub look_in : (ns : Nodes) (d : ℕ) (e : Name) → live_directory (ns d) ≡ true → look ns d e ≡ first_slot (all_slots (ns d)) e
unfolding look
look_in ns d e h = rw h refl

pub look_good : (ns : Nodes) (d : ℕ) (e : Name) (n : ℕ) → look ns d e ≡ Some n → live_directory (ns d) ≡ true
look_good ns d e n h = elim (either (live_directory (ns d))) [
  | inl y ↦ y
  | inr y ↦ let none : look ns d e ≡ None = look_bad ns d e y in absurd (cc (h, none))
]

pub look_same : (ns ns' : Nodes) (d : ℕ) (e : Name) → ns' d ≡ ns d → look ns' d e ≡ look ns d e
unfolding look
look_same ns ns' d e h = rw h refl

live_is_kept : (v : Option Node) → live_directory v ≡ true → is_live v ≡ true
live_is_kept None h = absurd cc
live_is_kept (Some v) h = (and_true _ _ h).0

or_true : (a b : Bool) → a ≡ true → (a || b) ≡ true
or_true a b h = grind arith

settled_at : (t : Tree) (n : ℕ) → is_live (t.nodes n) ≡ true → (settle t).nodes n ≡ t.nodes n
unfolding settle
settled_at t n h = rw (or_true (is_live (t.nodes n)) (is_named t n) h) refl

-- settling keeps the live directories, so each path leads to the same node as before
pub settle_keeps : (t : Tree) → KeepsDirectories t.nodes (settle t).nodes
settle_keeps t = record { kept = λ d h. settled_at t d (live_is_kept (t.nodes d) h) }

pub follow_step : (ns : Nodes) (s y : ℕ) (a : Name) (w : List Name) → look ns s a ≡ Some y → follow ns s (a ∷ w) ≡ follow ns y w
unfolding follow
follow_step ns s y a w h = rw h refl

pub follow_stop : (ns : Nodes) (s : ℕ) (a : Name) (w : List Name) → look ns s a ≡ None → follow ns s (a ∷ w) ≡ None
unfolding follow
follow_stop ns s a w h = rw h refl

pub follow_end : (ns : Nodes) (s : ℕ) → follow ns s [] ≡ Some s
unfolding follow
follow_end ns s = refl

pub first_found : (ns : Nodes) (s x : ℕ) (a : Name) (w : List Name) → follow ns s (a ∷ w) ≡ Some x → (y : ℕ) × (look ns s a ≡ Some y) × (follow ns y w ≡ Some x)
first_found ns s x a w h = go (look ns s a) refl
  where
    go : (r : Option ℕ) → look ns s a ≡ r → (y : ℕ) × (look ns s a ≡ Some y) × (follow ns y w ≡ Some x)
    go None is = let none : follow ns s (a ∷ w) ≡ None = follow_stop ns s a w is in absurd (cc (h, none))
    go (Some y) is = (y, is, sym (follow_step ns s y a w is) ∙ h)

pub keeps_paths : (ns ns' : Nodes) (s x : ℕ) (w : List Name) → KeepsDirectories ns ns' → follow ns s w ≡ Some x → follow ns' s w ≡ Some x
keeps_paths ns ns' s x [] k h = follow_end ns' s ∙ (sym (follow_end ns s) ∙ h)
keeps_paths ns ns' s x (a ∷ w) k h =
    let f = first_found ns s x a w h in
    follow_step ns' s f.0 a w (look_same ns ns' s a (k.kept s (look_good ns s a f.0 f.1)) ∙ f.1) ∙ keeps_paths ns ns' f.0 x w k f.2

-- The slot e of d names n, which is no live directory afterwards. From n itself the names other than ".." lead nowhere else.
pub record Removes (ns ns' : Nodes) (d : ℕ) (e : Name) (n : ℕ) : Type 0 where
  pub good : live_directory (ns d) ≡ true
  pub found : look ns d e ≡ Some n
  pub stays : (a : Name) (y : ℕ) → same_name a dotdot ≡ false → look ns n a ≡ Some y → y ≡ n
  pub gone : live_directory (ns' n) ≡ false
  pub cleared_there : look ns' d e ≡ None
  pub rest : (s : ℕ) (a : Name) → s ≢ n → ((s ≡ d) × (same_name a e ≡ true) → ⊥) → look ns' s a ≡ look ns s a
  pub alike : (a : Name) → same_name a e ≡ true → a ≡ e

-- a path without ".." can't leave n
pub stuck : (ns ns' : Nodes) (d n x : ℕ) (e : Name) (w : List Name) → Removes ns ns' d e n → climbs_in w ≡ false → follow ns n w ≡ Some x → x ≡ n
unfolding climbs_in
stuck ns ns' d n x e [] r c h = let q : follow ns n [] ≡ Some n = follow_end ns n in cc (h, q)
stuck ns ns' d n x e (a ∷ w) r c h =
    let two = or_none (same_name a dotdot) (climbs_in w) c in
    let f = first_found ns n x a w h in
    let same : f.0 ≡ n = r.stays a f.0 two.0 f.1 in
    stuck ns ns' d n x e w r two.1 (subst (λ (z : ℕ). follow ns z w ≡ Some x) same f.2)

-- A path without ".." leads to the same node as before, or it led to what was removed and leads nowhere.
pub after_removal : (ns ns' : Nodes) (d n s x : ℕ) (e : Name) (w : List Name) → Removes ns ns' d e n → climbs_in w ≡ false → follow ns s w ≡ Some x
    → (follow ns' s w ≡ Some x) ⊎ ((x ≡ n) × (follow ns' s w ≡ None))
unfolding climbs_in
after_removal ns ns' d n s x e [] r c h = inl (follow_end ns' s ∙ (sym (follow_end ns s) ∙ h))
after_removal ns ns' d n s x e (a ∷ w) r c h =
    let two = or_none (same_name a dotdot) (climbs_in w) c in
    let f = first_found ns s x a w h in
    let ih = after_removal ns ns' d n f.0 x e w r two.1 f.2 in
    elim (same_or s n) [
      | inl sn ↦
          let there : x ≡ n = stuck ns ns' d n x e (a ∷ w) r c (subst (λ (z : ℕ). follow ns z (a ∷ w) ≡ Some x) sn h) in
          inr (there, subst (λ (z : ℕ). follow ns' z (a ∷ w) ≡ None) (sym sn) (follow_stop ns' n a w (look_bad ns' n a r.gone)))
      | inr sn ↦ elim (same_or s d) [
        | inr sd ↦ on f ih (r.rest s a sn (λ q. sd q.0))
        | inl sd ↦ elim (either (same_name a e)) [
          | inr ae ↦ on f ih (r.rest s a sn (λ q. let t : same_name a e ≡ true = q.1 in absurd (cc (t, ae))))
          | inl ae ↦
              let here : look ns s a ≡ Some n = subst (λ (z : ℕ). look ns z a ≡ Some n) (sym sd) (subst (λ (z : Name). look ns d z ≡ Some n) (sym (r.alike a ae)) r.found) in
              let same : f.0 ≡ n = (let g : look ns s a ≡ Some f.0 = f.1 in cc (g, here)) in
              let there : x ≡ n = stuck ns ns' d n x e w r two.1 (subst (λ (z : ℕ). follow ns z w ≡ Some x) same f.2) in
              inr (there, follow_stop ns' s a w (subst (λ (z : ℕ). look ns' z a ≡ None) (sym sd) (subst (λ (z : Name). look ns' d z ≡ None) (sym (r.alike a ae)) r.cleared_there)))
        ]
      ]
    ]
  where
    on : (f : (y : ℕ) × (look ns s a ≡ Some y) × (follow ns y w ≡ Some x)) → ((follow ns' f.0 w ≡ Some x) ⊎ ((x ≡ n) × (follow ns' f.0 w ≡ None))) → look ns' s a ≡ look ns s a
        → (follow ns' s (a ∷ w) ≡ Some x) ⊎ ((x ≡ n) × (follow ns' s (a ∷ w) ≡ None))
    on f ih same =
        let step : follow ns' s (a ∷ w) ≡ follow ns' f.0 w = follow_step ns' s f.0 a w (same ∙ f.1) in
        elim ih [ inl p ↦ inl (step ∙ p) | inr p ↦ inr (p.0, step ∙ p.1) ]

pub follow_on : (ns : Nodes) (s d : ℕ) (done w : List Name) → follow ns s done ≡ Some d → follow ns s (done ++ w) ≡ follow ns d w
follow_on ns s d [] w h =
    let same : s ≡ d = (let r : follow ns s [] ≡ Some s = follow_end ns s in cc (h, r)) in rw same refl
follow_on ns s d (a ∷ done) w h =
    let f = first_found ns s d a done h in
    follow_step ns s f.0 a (done ++ w) f.1 ∙ follow_on ns f.0 d done w f.2

pub follow_off : (ns : Nodes) (s : ℕ) (done w : List Name) → follow ns s done ≡ None → follow ns s (done ++ w) ≡ None
follow_off ns s [] w h = let r : follow ns s [] ≡ Some s = follow_end ns s in absurd (cc (h, r))
follow_off ns s (a ∷ done) w h = go (look ns s a) refl (λ y. follow_off ns y done w)
  where
    go : (r : Option ℕ) → look ns s a ≡ r → ((y : ℕ) → follow ns y done ≡ None → follow ns y (done ++ w) ≡ None) → follow ns s (a ∷ (done ++ w)) ≡ None
    go None is ih = follow_stop ns s a (done ++ w) is
    go (Some y) is ih = follow_step ns s y a (done ++ w) is ∙ ih y (sym (follow_step ns s y a done is) ∙ h)

pub parent_step : (ns : Nodes) (s y : ℕ) (a e : Name) (w : List Name) → look ns s a ≡ Some y → parent_from ns s a (e ∷ w) ≡ parent_from ns y e w
unfolding parent_from
parent_step ns s y a e w h = rw h refl

pub parent_stop : (ns : Nodes) (s : ℕ) (a e : Name) (w : List Name) → look ns s a ≡ None → parent_from ns s a (e ∷ w) ≡ None
unfolding parent_from
parent_stop ns s a e w h = rw h refl

pub parent_here : (ns : Nodes) (d : ℕ) (e : Name) → live_directory (ns d) ≡ true → parent_from ns d e [] ≡ Some (d, e)
unfolding parent_from
parent_here ns d e h = rw h refl

pub parent_bad : (ns : Nodes) (d : ℕ) (e : Name) (w : List Name) → live_directory (ns d) ≡ false → parent_from ns d e w ≡ None
unfolding parent_from
parent_bad ns d e [] h = rw h refl
parent_bad ns d e (a ∷ w) h = rw (look_bad ns d e h) refl

parent_cons : (ns : Nodes) (s : ℕ) (a : Name) (w : List Name) → parent_of ns s (a ∷ w) ≡ parent_from ns s a w
unfolding parent_of
parent_cons ns s a w = refl

parent_next : (ns : Nodes) (s y : ℕ) (a e : Name) (done w : List Name) → look ns s a ≡ Some y → parent_of ns s (a ∷ (done ++ e ∷ w)) ≡ parent_of ns y (done ++ e ∷ w)
unfolding parent_of
parent_next ns s y a e [] w h = parent_step ns s y a e w h
parent_next ns s y a e (b ∷ done) w h = parent_step ns s y a b (done ++ e ∷ w) h

parent_none : (ns : Nodes) (s : ℕ) (a e : Name) (done w : List Name) → look ns s a ≡ None → parent_of ns s (a ∷ (done ++ e ∷ w)) ≡ None
unfolding parent_of
parent_none ns s a e [] w h = parent_stop ns s a e w h
parent_none ns s a e (b ∷ done) w h = parent_stop ns s a b (done ++ e ∷ w) h

pub parent_on : (ns : Nodes) (s d : ℕ) (e : Name) (done w : List Name) → follow ns s done ≡ Some d → parent_of ns s (done ++ e ∷ w) ≡ parent_from ns d e w
parent_on ns s d e [] w h =
    let same : s ≡ d = (let r : follow ns s [] ≡ Some s = follow_end ns s in cc (h, r)) in rw same (parent_cons ns d e w)
parent_on ns s d e (a ∷ done) w h =
    let f = first_found ns s d a done h in
    parent_next ns s f.0 a e done w f.1 ∙ parent_on ns f.0 d e done w f.2

pub parent_off : (ns : Nodes) (s : ℕ) (e : Name) (done w : List Name) → follow ns s done ≡ None → parent_of ns s (done ++ e ∷ w) ≡ None
parent_off ns s e [] w h = let r : follow ns s [] ≡ Some s = follow_end ns s in absurd (cc (h, r))
parent_off ns s e (a ∷ done) w h = go (look ns s a) refl (λ y. parent_off ns y e done w)
  where
    go : (r : Option ℕ) → look ns s a ≡ r → ((y : ℕ) → follow ns y done ≡ None → parent_of ns y (done ++ e ∷ w) ≡ None) → parent_of ns s (a ∷ (done ++ e ∷ w)) ≡ None
    go None is ih = parent_none ns s a e done w is
    go (Some y) is ih = parent_next ns s y a e done w is ∙ ih y (sym (follow_step ns s y a done is) ∙ h)

pub climbs_front : (xs ys : List Name) → climbs_in (xs ++ ys) ≡ false → climbs_in xs ≡ false
unfolding climbs_in
climbs_front [] ys h = refl
climbs_front (x ∷ xs) ys h = let two = or_none (same_name x dotdot) (climbs_in (xs ++ ys)) h in rw (two.0) (climbs_front xs ys two.1)

pub follow_one : (ns : Nodes) (d : ℕ) (e : Name) (r : Option ℕ) → look ns d e ≡ r → follow ns d (e ∷ []) ≡ r
follow_one ns d e None h = follow_stop ns d e [] h
follow_one ns d e (Some n) h = follow_step ns d n e [] h ∙ follow_end ns n

pub parent_nil : (ns : Nodes) (s : ℕ) → parent_of ns s [] ≡ None
unfolding parent_of
parent_nil ns s = refl
