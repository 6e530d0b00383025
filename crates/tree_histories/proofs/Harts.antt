-- One hart's call in what is kept is put, and what is then seen of all.
use Rattle.tree_histories.proofs.Vocabulary.{Version, AllFit, StandsFit, subst, ◌≡◌, ◌≢◌, ◌⊎◌, inl, inr, ℕ, ◌<◌, ◌≤◌, arith, List, length, length-set, cases_eq, SameCalls, get_or, Option, Some, None, refl, sym, ◌∙◌, ap, option_map, get_or-eq_default, cases_lt, put, tree_of, TreeData, put_back, set_put, Deed, Stage, call_in, Walk, KeptTree, Under, hart_in, stage_of, walk_under, walking, with_hart, with_walk, written, written_by, walk_of}
use Rattle.std.proofs.Common.{get_or-set_other, get_or-set_same}
use Rattle.std.proofs.Math.ListN.{set}
use Rattle.tree_laws.specs.Moves as moves
use Rattle.plain_tree.proofs.TreeLemmas.{set_twice}

-- a call that was taken out is put back, changed or not
pub put_twice : (k : KeptTree) (h : ℕ) (o p : Option Under) → with_hart (with_hart k h o) h p ≡ with_hart k h p
put_twice k h o p = ap (λ (xs : List (Option Under)). record k { harts = xs }) (set_twice k.harts h o p)

pub put_back_changed : (k : KeptTree) (h : ℕ) (f : Under → Under) (u : Under) (k1 k2 : KeptTree) → hart_in k h ≡ Some u → k1 ≡ with_hart k h None
    → k2 ≡ with_hart k1 h (Some (f u)) → k2 ≡ with_hart k h (option_map f (hart_in k h))
put_back_changed k h f u k1 k2 is a b =
    b ∙ (ap (λ (x : KeptTree). with_hart x h (Some (f u))) a ∙ (put_twice k h None (Some (f u)) ∙ ap (λ (o : Option Under). with_hart k h (option_map f o)) (sym is)))

-- a hart that has a call is one of them
pub is_hart : (k : KeptTree) (h : ℕ) (u : Under) → hart_in k h ≡ Some u → h < length k.harts
is_hart k h u is = elim (cases_lt h (length k.harts)) [
  | inl lt ↦ lt
  | inr le ↦ absurd (let q : None ≡ Some u = sym (get_or-eq_default k.harts None le) ∙ is in cc)
]

pub same_hart : (k : KeptTree) (h : ℕ) (o : Option Under) (g : ℕ) → g ≡ h → h < length k.harts → hart_in (with_hart k h o) g ≡ o
same_hart k h o g e lt = ap (λ (j : ℕ). get_or (set k.harts h o) j None) e ∙ get_or-set_same k.harts h o None lt

pub other_hart : (k : KeptTree) (h : ℕ) (o : Option Under) (g : ℕ) → g ≢ h → hart_in (with_hart k h o) g ≡ hart_in k g
other_hart k h o g ne = get_or-set_other k.harts h g o None ne

-- all calls under way fit when one is put that does
pub put_fits : (version : Version) (harts : List (Option Under)) (h : ℕ) (o : Option Under) → AllFit version harts → StandsFit version o → AllFit version (set harts h o)
put_fits version harts h o all fits g = elim (cases_eq g h) [
  | inl e ↦ here e (cases_lt h (length harts))
  | inr ne ↦ subst (λ (p : Option Under). StandsFit version p) (sym (get_or-set_other harts h g o None ne)) (all g)
]
  where
    here : g ≡ h → (h < length harts) ⊎ (length harts ≤ h) → StandsFit version (get_or (set harts h o) g None)
    here e (inl lt) =
        subst (λ (p : Option Under). StandsFit version p) (sym (ap (λ (j : ℕ). get_or (set harts h o) j None) e ∙ get_or-set_same harts h o None lt)) fits
    here e (inr le) =
        let same = length-set harts h o in
        subst (λ (p : Option Under). StandsFit version p) (sym (get_or-eq_default (set harts h o) None (omega (arith, e, le, same)))) tt

-- a walk changes no call
pub same_calls : (k : KeptTree) (h : ℕ) (w : Option Walk) → SameCalls k (with_walk k h w)
same_calls k h w g = elim (cases_eq g h) [
  | inl e ↦ here e (cases_lt h (length k.harts))
  | inr ne ↦ ap (option_map (walking None)) (other_hart k h (option_map (walking w) (hart_in k h)) g ne)
]
  where
    twice : (o : Option Under) → option_map (walking None) (option_map (walking w) o) ≡ option_map (walking None) o
    twice None = refl
    twice (Some u) = refl

    here : g ≡ h → (h < length k.harts) ⊎ (length k.harts ≤ h) → option_map (walking None) (hart_in (with_walk k h w) g) ≡ option_map (walking None) (hart_in k g)
    here e (inl lt) =
        ap (option_map (walking None)) (same_hart k h (option_map (walking w) (hart_in k h)) g e lt)
        ∙ (twice (hart_in k h) ∙ ap (λ (j : ℕ). option_map (walking None) (hart_in k j)) (sym e))
    here e (inr le) =
        let same = length-set k.harts h (option_map (walking w) (hart_in k h)) in
        ap (option_map (walking None))
        (get_or-eq_default (set k.harts h (option_map (walking w) (hart_in k h))) None (omega (arith, e, le, same)) ∙ sym (get_or-eq_default k.harts None (omega (arith, e, le))))

-- ---- the stage

pub stage_put : (k : KeptTree) (h : ℕ) (o : Option Under) → h < length k.harts
    → stage_of (with_hart k h o) ≡ record { tree = tree_of k.tree; walk = put (stage_of k).walk h (walk_under k.version o) }
stage_put k h o lt =
    ap (λ (f : ℕ → Option moves.Walk). let m : Stage = record { tree = tree_of k.tree; walk = f } in m)
    (set_put {A = Option Under} {B = Option moves.Walk} (λ x. walk_under k.version x) k.harts h o None lt)

-- the hart's walk is this one, and the tree that one
pub stage_walk : (k : KeptTree) (h : ℕ) (w : Option Walk) (u : Under) (t : TreeData) → hart_in k h ≡ Some u
    → stage_of (record (with_walk k h w) { tree = t }) ≡ record { tree = tree_of t; walk = put (stage_of k).walk h (option_map (walk_of k.version (call_in u.whole)) w) }
stage_walk k h w u t is =
    ap (λ (o : Option Under). stage_of (record (with_hart k h (option_map (walking w) o)) { tree = t })) is
    ∙ ap (λ (m : Stage). let n : Stage = record { tree = tree_of t; walk = m.walk } in n) (stage_put k h (Some (walking w u)) (is_hart k h u is))

-- the hart's walk is as it was
pub walk_same : (k : KeptTree) (h : ℕ) (w : Option moves.Walk) → w ≡ (stage_of k).walk h → put (stage_of k).walk h w ≡ (stage_of k).walk
walk_same k h w is = put_back (stage_of k).walk h w is

-- an entry more leaves the stage
pub stage_written : (k : KeptTree) (h : ℕ) (d : Deed) → stage_of (written k h d) ≡ stage_of k
stage_written k h d = go (hart_in k h)
  where
    go : (o : Option Under) → stage_of (written_by k h d o) ≡ stage_of k
    go None = refl
    go (Some u) = refl
