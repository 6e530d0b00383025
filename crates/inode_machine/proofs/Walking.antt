-- A move: what it leaves of the world, and its step of the tree.
use Rattle.image_versions.specs.declared.version.Version.{Version}
use Rattle.inode_machine.proofs.Vocabulary.{◌≡◌, ◌⊎◌, inl, inr, ℕ, zero, suc, ◌+◌, ◌<◌, List, [], ◌∷◌, Option, Some, None, refl, sym, ◌∙◌, ap, subst, arith, true, P, own, onto, Fine, Wp, hart_count, put, settle, row_of, eq_self, put_same, put_other, sum_same, Walk, Step, Move, Look, PlaysStep, IsOfRange, Mine, World, stage_of, Note, Made, with_made, with_walk, Own, file_tables_of, own_of, Found, IsReferredTo, Inv, machine, own_names, type_of}
use Rattle.inode_machine.proofs.Frame.{file_tables_same, put_elim, is_put, HartStep, Fair, refers_on}
use Rattle.inode_machine.proofs.Rules.{FairTo, acted_to, fair_to}

-- A hart's walk, and what it found, change.
pub after_walk : ℕ → Option Walk → Option ℕ → World → World
after_walk h k p v = record v { harts = with_walk v.harts h k p }

mine_walk : ℕ → Option Walk → Option ℕ → World → Mine
mine_walk h k p v = record { refs = (v.harts h).refs; walk = k; pending = p }

pub refs_walk : (harts : ℕ → Mine) (h : ℕ) (k : Option Walk) (p : Option ℕ) (g j : ℕ) → (with_walk harts h k p g).refs j ≡ (harts g).refs j
refs_walk harts h k p g j = put_elim harts h (record { refs = (harts h).refs; walk = k; pending = p }) g (λ m. m.refs j ≡ (harts g).refs j) (λ e. ap (λ (z : ℕ). (harts z).refs j) (sym e)) (λ q. refl)

pub walk_named_did : (h : ℕ) (k : Option Walk) (p : Option ℕ) (v : World) → (v.desks h).lender ≡ None → h < hart_count → Inv v → ((j : ℕ) → own_names (row_of v.all h) (v.desks h) j ≡ true → 0 < (v.harts h).refs j) → ((m : Note) → (v.desks h).noted ≡ Some m → p ≡ Some m.number → type_of (v.all.nodes m.number) ≡ m.inode_type) → ((x : Walk) → k ≡ Some x → (0 < (v.harts h).refs x.at) ⊎ (p ≡ Some x.at))
    → ((i : ℕ) → p ≡ Some i → Found v.keeper v.all.nodes h i) → HartStep h v (record v { harts = with_walk v.harts h k p })
walk_named_did h k p v free lt inv names notes lands finds =
    record {
      hart = lt;
      inodes = λ j. inl (record { lock = refl; keeper = refl; disk = refl; node = refl; alone = refl });
      mine = λ g ne. put_other v.harts h new g ne;
      rows = λ g ne. refl;
      size = refl;
      ids = inv.ids;
      file_tables = file_tables_same h (file_tables_of v) inv.tied;
      free = free;
      raised = inv.raised h lt;
      quiet = λ j is f. inv.quiet j h is f;
      inode_type = λ j. inl refl;
      inode_types = inv.inode_types;
      noted = λ m is r s. elim r [
        | inl a ↦ inv.noted h m lt is (inl (let e = refs_walk v.harts h k p h m.number in omega (arith, e, a))) s
        | inr a ↦ notes m is (sym (ap (λ (x : Mine). x.pending) (put_same v.harts h new)) ∙ a)
      ];
      directory = inv.directory h lt;
      refers = refers_on (v.harts h) (with_walk v.harts h k p h) (v.desks h) (v.desks h) (λ j. refs_walk v.harts h k p h j) refl (inv.refers h lt);
      well = inv.well;
      counts = λ j. inv.counts j ∙ ap (λ (z : ℕ). v.slots j + z) (sym (sum_same hart_count (λ g. (v.harts g).refs j) (λ g. (with_walk v.harts h k p g).refs j) (λ g l. refs_walk v.harts h k p g j)));
      alone = λ j is. let a = inv.alone j is in record { hart = a.hart; kept = a.kept; dead = a.dead; counts = a.counts ∙ sym (refs_walk v.harts h k p a.hart j) };
      kept = λ j is. pin j (inv.kept j h is).1;
      held = λ j is. inv.held j h is;
      named = λ j is. inl (grow j (names j is));
      pending = λ j is. finds j (sym (ap (λ (m : Mine). m.pending) (put_same v.harts h new)) ∙ is);
      walks = λ x is. elim (lands x (sym (ap (λ (m : Mine). m.walk) (put_same v.harts h new)) ∙ is)) [
        | inl a ↦ inl (grow x.at a)
        | inr a ↦ inr (ap (λ (m : Mine). m.pending) (put_same v.harts h new) ∙ a)
      ];
    }
  where
    new : Mine
    new = record { refs = (v.harts h).refs; walk = k; pending = p }

    grow : (j : ℕ) → 0 < (v.harts h).refs j → 0 < (with_walk v.harts h k p h).refs j
    grow j a = let r = refs_walk v.harts h k p h j in omega (arith, r, a)

    pin : (j : ℕ) → IsReferredTo v.desks v.files v.harts h j → IsReferredTo v.desks v.files (with_walk v.harts h k p) h j
    pin j (inl a) = inl a
    pin j (inr a) = inr (grow j a)

-- the same, if nothing that was found is left to be counted up
pub walk_did : (h : ℕ) (k : Option Walk) (p : Option ℕ) (v : World) → (v.desks h).lender ≡ None → h < hart_count → Inv v → (v.harts h).pending ≡ None → ((m : Note) → (v.desks h).noted ≡ Some m → p ≡ Some m.number → type_of (v.all.nodes m.number) ≡ m.inode_type) → ((x : Walk) → k ≡ Some x → (0 < (v.harts h).refs x.at) ⊎ (p ≡ Some x.at))
    → ((i : ℕ) → p ≡ Some i → Found v.keeper v.all.nodes h i) → HartStep h v (record v { harts = with_walk v.harts h k p })
walk_did h k p v free lt inv none notes lands finds = walk_named_did h k p v free lt inv (λ j is. elim (inv.named h j lt free is) [ inl a ↦ a | inr a ↦ absurd (cc (a, none)) ]) notes lands finds

pub stage_walk : (h : ℕ) (k : Option Walk) (p : Option ℕ) (v : World) → stage_of (record v { harts = with_walk v.harts h k p }) ≡ record { tree = settle v.all; walk = put (λ g. (v.harts g).walk) h k }
stage_walk h k p v = λ r. record {
  tree = settle v.all;
  walk = is_put (λ g. (v.harts g).walk) (λ g. (with_walk v.harts h k p g).walk) h k (ap (λ (m : Mine). m.walk) (put_same v.harts h new)) (λ g ne. ap (λ (m : Mine). m.walk) (put_other v.harts h new g ne)) r;
}
  where
    new : Mine
    new = record { refs = (v.harts h).refs; walk = k; pending = p }

pub own_walk : (h : ℕ) (k : Option Walk) (p : Option ℕ) (v : World) (O : Own) → own_of h v ≡ O → own_of h (record v { harts = with_walk v.harts h k p }) ≡ record O { mine = record { refs = O.mine.refs; walk = k; pending = p } }
own_walk h k p v O ov = λ z. record {
  inodes = ap (λ (o : Own). o.inodes) ov z;
  mine = (put_same v.harts h (record { refs = (v.harts h).refs; walk = k; pending = p }) ∙ ap (λ (o : Own). record { refs = o.mine.refs; walk = k; pending = p }) ov) z;
  row = ap (λ (o : Own). o.row) ov z;
  ninodes = ap (λ (o : Own). o.ninodes) ov z;
  desk = ap (λ (o : Own). o.desk) ov z;
}

-- a number below the tree's is of its range, also after that has settled
pub of_range : (v : World) (n : ℕ) → n < v.all.ninodes → IsOfRange (stage_of v) (Look n)
unfolding settle
of_range v zero below = tt
of_range v (suc n) below = below

-- The move as the machine makes it is this one.
pub moves_to : (version : Version) {A : Type 0} (h more n : ℕ) (B : List Step → Type 0) (Q : A → List Step → World → Type 0) (es : List Step) (v u : World) (mv : Move) (range : IsOfRange (stage_of v) mv) (p : P (machine version) A) (made x : Made)
    → made ≡ x → FairTo h v (with_made h x u) → PlaysStep version (stage_of v) h (record { move = mv; told = x.told }) (stage_of (with_made h x u)) → B (record { move = mv; told = x.told } ∷ es) → more < n
    → ((l : ℕ) → l + (more + 1) ≡ n → Wp (machine version) h B Q p l (record { move = mv; told = x.told } ∷ es) (with_made h x u))
    → Fine (machine version) h ((h, record { move = mv; told = made.told }) ∷ []) more n B es v (with_made h made u) (λ l. Wp (machine version) h B Q p l (onto (own h ((h, record { move = mv; told = made.told }) ∷ [])) es) (with_made h made u))
moves_to version {A} h more n B Q es v u mv range p made x is f takes b pos next =
    subst (λ (z : Made). Fine (machine version) h ((h, record { move = mv; told = z.told }) ∷ []) more n B es v (with_made h z u) (λ l. Wp (machine version) h B Q p l (onto (own h ((h, record { move = mv; told = z.told }) ∷ [])) es) (with_made h z u))) (sym is)
    (acted_to version f (takes, range) b pos (λ l q. rw (eq_self h) (next l q)))

pub moves_good : (version : Version) {A : Type 0} (h more n : ℕ) (B : List Step → Type 0) (Q : A → List Step → World → Type 0) (es : List Step) (v u : World) (mv : Move) (range : IsOfRange (stage_of v) mv) (p : P (machine version) A) (made x : Made)
    → made ≡ x → Fair h v (with_made h x u) → PlaysStep version (stage_of v) h (record { move = mv; told = x.told }) (stage_of (with_made h x u)) → B (record { move = mv; told = x.told } ∷ es) → more < n
    → ((l : ℕ) → l + (more + 1) ≡ n → Wp (machine version) h B Q p l (record { move = mv; told = x.told } ∷ es) (with_made h x u))
    → Fine (machine version) h ((h, record { move = mv; told = made.told }) ∷ []) more n B es v (with_made h made u) (λ l. Wp (machine version) h B Q p l (onto (own h ((h, record { move = mv; told = made.told }) ∷ [])) es) (with_made h made u))
moves_good version h more n B Q es v u mv range p made x is f takes b pos next = moves_to version h more n B Q es v u mv range p made x is (fair_to f) takes b pos next
