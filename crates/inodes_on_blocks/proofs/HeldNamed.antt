-- The live nodes of a tree are its named part.
use Rattle.inodes_on_blocks.proofs.Vocabulary.{◌≡◌, ℕ, zero, suc, ◌<◌, ◌≤◌, true, false, inl, inr, refl, sym, ◌∙◌, ap, subst, ⊎_elim, List, [], ◌∷◌, replicate, get_or, Option, Some, None, cases_lt, get_or-replicate, get_or_past, Node, Hart, hart_count, root, Name, Tree, tree_of, resting, live_directory, all_slots, first_slot, look, follow, and_then, IsReached, IsNamedPart, fresh_hart, tree_in, raises, either, everywhere, live_is, look_live, reached, Nodes, live_part}
use Rattle.plain_tree.specs.Tree.{file_in, is_live}
use Rattle.tree_laws.specs.WellFormed.{IsWellFormed}
use Rattle.inodes_on_blocks.proofs.Held.{some_or, live_whole, live_none}

-- ---- what live parts find

look_on : (ns : Nodes) (d : ℕ) (e : Name) → live_directory (ns d) ≡ true → look ns d e ≡ first_slot (all_slots (ns d)) e
unfolding look
look_on ns d e h = rw h refl

look_off : (ns : Nodes) (d : ℕ) (e : Name) → live_directory (ns d) ≡ false → look ns d e ≡ None
unfolding look
look_off ns d e h = rw h refl

module _ (ns ms : Nodes) (same : (n : ℕ) → ms n ≡ live_part (ns n)) where
  look_same : (d : ℕ) (e : Name) → look ms d e ≡ look ns d e
  look_same d e = elim (either (live_directory (ns d))) [
    | inl y ↦
        let whole : ms d ≡ ns d = same d ∙ live_whole (ns d) (live_is (ns d) y) in
        look_on ms d e (ap (λ (o : Option Node). live_directory o) whole ∙ y)
        ∙ ap (λ (o : Option Node). first_slot (all_slots o) e) whole
        ∙ sym (look_on ns d e y)
    | inr y ↦ look_off ms d e (dead d y) ∙ sym (look_off ns d e y)
  ]
    where
      dead : (d : ℕ) → live_directory (ns d) ≡ false → live_directory (ms d) ≡ false
      dead d y = elim (either (is_live (ns d))) [
        | inl live ↦ ap (λ (o : Option Node). live_directory o) (same d ∙ live_whole (ns d) live) ∙ y
        | inr not ↦ ap (λ (o : Option Node). live_directory o) (same d ∙ live_none (ns d) not)
      ]

  follow_same : (es : List Name) (d : ℕ) → follow ms d es ≡ follow ns d es
  unfolding follow
  follow_same [] d = refl
  follow_same (e ∷ es) d =
      ap (λ (o : Option ℕ). and_then o (λ n. follow ms n es)) (look_same d e)
      ∙ ap (λ (g : ℕ → Option ℕ). and_then (look ns d e) g) (everywhere (λ n. follow ms n es) (λ n. follow ns n es) (follow_same es))

-- ---- what is reached is live

then_found : (o : Option ℕ) (g : ℕ → Option ℕ) (m : ℕ) → o ≡ Some m → and_then o g ≡ g m
then_found o g m h = ap (λ (x : Option ℕ). and_then x g) h

follow_live : (t : Tree) → IsWellFormed t → (es : List Name) (d n : ℕ) → is_live (t.nodes d) ≡ true → follow t.nodes d es ≡ Some n → is_live (t.nodes n) ≡ true
unfolding follow
follow_live t well [] d n live h = let same : d ≡ n = cc in subst (λ (k : ℕ). is_live (t.nodes k) ≡ true) same live
follow_live t well (e ∷ es) d n live h = elim (some_or (look t.nodes d e)) [
  | inl none ↦ absurd (let q : None ≡ Some n = sym (ap (λ (x : Option ℕ). and_then x (λ k. follow t.nodes k es)) none) ∙ h in cc)
  | inr some ↦
      follow_live t well es some.0 n (look_live t d some.0 e well some.1)
      (sym (then_found (look t.nodes d e) (λ k. follow t.nodes k es) some.0 some.1) ∙ h)
]

root_is_live : (t : Tree) → IsWellFormed t → is_live (t.nodes root) ≡ true
root_is_live t well = elim (either (live_directory (t.nodes root))) [
  | inl y ↦ live_is (t.nodes root) y
  | inr y ↦ absurd (well.forest.rooted (rw y refl))
]

pub reached_live : (t : Tree) (n : ℕ) → IsWellFormed t → IsReached t n → is_live (t.nodes n) ≡ true
reached_live t n well r = follow_live t well r.0 root n (root_is_live t well) r.1

-- ---- the named part

-- nothing is open, and all harts are in the root
pub record IsAtRest (t : Tree) : Type 0 where
  pub files : (id : ℕ) → t.files id ≡ None
  pub fds : (h i : ℕ) → t.fds h i ≡ None
  pub holds : (h : ℕ) → t.holds h ≡ None
  pub cwd : (h : ℕ) → t.cwd h ≡ root

pub named_part : (t u : Tree) → IsWellFormed t → ((n : ℕ) → raises t.holds n ≡ 0) → u.ninodes ≡ t.ninodes → ((n : ℕ) → u.nodes n ≡ live_part (t.nodes n)) → IsAtRest u → IsNamedPart t u
named_part t u well unraised numbers same rest = record {
  ninodes = numbers;
  reached = λ n r. same n ∙ live_whole (t.nodes n) (reached_live t n well r);
  others = λ n not. same n ∙ elim (either (is_live (t.nodes n))) [
    | inl y ↦ absurd (not (reached t n well y (unraised n)))
    | inr y ↦ live_none (t.nodes n) y
  ];
  files = rest.files;
  fds = rest.fds;
  holds = rest.holds;
  cwd = rest.cwd;
}

-- ---- an image's tree is at rest

same_all : {X : Type 0} (x : X) (n i : ℕ) → get_or (replicate n x) i x ≡ x
same_all x zero i = refl
same_all x (suc n) zero = refl
same_all x (suc n) (suc i) = same_all x n i

hart_or : (P : Hart → Type 0) → P fresh_hart → P resting → (h : ℕ) → P (get_or (replicate hart_count fresh_hart) h resting)
hart_or P fresh rest h =
    ⊎_elim
    (λ (l : h < hart_count). subst P (sym (get_or-replicate hart_count h fresh_hart resting l)) fresh)
    (λ (m : hart_count ≤ h). subst P (sym (get_or_past (replicate hart_count fresh_hart) h resting m)) rest)
    (cases_lt h hart_count)

pub image_at_rest : (disk : List (List ℕ)) → IsAtRest (tree_of (tree_in disk))
unfolding file_in
image_at_rest disk = record {
  files = λ id. refl;
  fds = λ h i. hart_or (λ (x : Hart). get_or x.descriptors i None ≡ None) (same_all None 16 i) refl h;
  holds = λ h. hart_or (λ (x : Hart). x.hold ≡ None) refl refl h;
  cwd = λ h. hart_or (λ (x : Hart). x.directory ≡ root) refl refl h;
}
