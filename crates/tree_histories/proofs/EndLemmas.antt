-- What can still come after a list.
use Rattle.tree_histories.proofs.Vocabulary.{Version, ◌≡◌, ◌≢◌, ℕ, ◌≤◌, true, List, [], ◌∷◌, ◌++◌, refl, sym, ◌∙◌, ap, subst, append_assoc, inl, inr, arith, Option, Some, None, slice_get, append-nil, cases_Bool, cases_eq, Reply, Placed, Trace, TracedCall, Tree, Step, is_nothing, Act, next_of, Leads, AllBelong, Belongs, Chain, IsInTime, IsWritten, Rises, act_of, acts_of, Stand, CanEnd, IsOfCall, end_of}
use Rattle.tree_histories.proofs.StandLemmas.{acts_none, acts_other, acts_own, push_other, push_own}
use Rattle.plain_tree.proofs.CheckLemmas.{rises_more, belong_more}

chain_more : (version : Version) (t u : Tree) (e : Placed) (es : List Placed) → Chain version t (e ∷ es) u → (mid : Tree) × Step version t e.step e.answer mid × Chain version mid es u
unfolding Chain
chain_more version t u e es h = h

-- The first entry of a rest.
pub record First (version : Version) (trace : Trace) (t : Tree) (list : List Placed) (lo : ℕ) (x : Placed) (rest : List Placed) : Type 0 where
  pub low : lo ≤ x.event
  pub belongs : Belongs trace x
  pub mid : Tree
  pub step : Step version t x.step x.answer mid
  pub later : CanEnd version trace mid (list ++ x ∷ []) x.event rest

moved : (list rest : List Placed) (x : Placed) (id : ℕ) → acts_of id list ++ acts_of id (x ∷ rest) ≡ acts_of id (list ++ x ∷ []) ++ acts_of id rest
moved list rest x id = elim (cases_eq x.call id) [
  | inl e ↦ rw (acts_own id x rest e, push_own id list x e) (sym (append_assoc (acts_of id list) (act_of x ∷ []) (acts_of id rest)))
  | inr ne ↦ rw (acts_other id x rest ne, push_other id list x ne) refl
]

pub first : (version : Version) (trace : Trace) (t : Tree) (list : List Placed) (lo : ℕ) (x : Placed) (rest : List Placed) → CanEnd version trace t list lo (x ∷ rest) → First version trace t list lo x rest
first version trace t list lo x rest can =
    let rise : (lo ≤ x.event) × Rises x.event rest = rises_more lo x rest can.rises in
    let belong : Belongs trace x × AllBelong trace rest = belong_more trace x rest can.belongs in
    let lead : (mid : Tree) × Step version t x.step x.answer mid × Chain version mid rest can.leads.0 = chain_more version t can.leads.0 x rest can.leads.1 in record {
      low = rise.0;
      belongs = belong.0;
      mid = lead.0;
      step = lead.1;
      later = record {
        rises = rise.1;
        leads = (can.leads.0, lead.2);
        written = λ id c is. subst (λ acts. IsWritten c.call acts c.finished) (moved list rest x id) (can.written id c is);
        belongs = belong.1;
      };
    }

same_push : (list : List Placed) (x y : Placed) (id : ℕ) → x.call ≡ y.call → act_of x ≡ act_of y → acts_of id (list ++ x ∷ []) ≡ acts_of id (list ++ y ∷ [])
same_push list x y id c a = elim (cases_eq x.call id) [
  | inl e ↦ push_own id list x e ∙ (ap (λ z. acts_of id list ++ z ∷ []) a ∙ sym (push_own id list y (sym c ∙ e)))
  | inr ne ↦ push_other id list x ne ∙ sym (push_other id list y (λ e. ne (c ∙ e)))
]

-- the same after another entry that acts alike
pub can_swap : (version : Version) (trace : Trace) (t u : Tree) (list : List Placed) (x y : Placed) (lo : ℕ) (rest : List Placed) → x.call ≡ y.call → act_of x ≡ act_of y → t ≡ u → CanEnd version trace t (list ++ x ∷ []) lo rest → CanEnd version trace u (list ++ y ∷ []) lo rest
can_swap version trace t u list x y lo rest c a e can = record {
  rises = can.rises;
  leads = subst (λ (v : Tree). Leads version v rest) e can.leads;
  written = λ id d is. subst (λ acts. IsWritten d.call (acts ++ acts_of id rest) d.finished) (same_push list x y id c a) (can.written id d is);
  belongs = can.belongs;
}

-- what of a call follows
pub first_written : (version : Version) (trace : Trace) (t : Tree) (list : List Placed) (lo : ℕ) (x : Placed) (rest : List Placed) (c : TracedCall) → slice_get trace.calls x.call ≡ Some c → CanEnd version trace t list lo (x ∷ rest) → IsWritten c.call (acts_of x.call list ++ act_of x ∷ acts_of x.call rest) c.finished
first_written version trace t list lo x rest c is can = subst (λ acts. IsWritten c.call (acts_of x.call list ++ acts) c.finished) (acts_own x.call x rest refl) (can.written x.call c is)

-- if the rest has something of a finished call, it begins by the call's end
comes_by : (trace : Trace) (lo : ℕ) (rest : List Placed) (id : ℕ) (c : TracedCall) (r : ℕ × Reply) → slice_get trace.calls id ≡ Some c → c.finished ≡ Some r → Rises lo rest → AllBelong trace rest → acts_of id rest ≢ [] → lo ≤ r.0
comes_by trace lo [] id c r is fin rise belong some = absurd (some (acts_none id))
comes_by trace lo (x ∷ rest) id c r is fin rise belong some = elim (cases_eq x.call id) [
  | inl e ↦ (
      let b : Belongs trace x = (belong_more trace x rest belong).0 in
      let same : Some b.traced ≡ Some c = sym b.is ∙ (ap (λ k. slice_get trace.calls k) e ∙ is) in
      let one : b.traced ≡ c = cc in
      let until : IsInTime trace.events x.event (Some r) = subst (λ f. IsInTime trace.events x.event f) (ap (λ (d : TracedCall). d.finished) one ∙ fin) b.before_return in
      let low : lo ≤ x.event = (rises_more lo x rest rise).0 in
      omega arith
      )
  | inr ne ↦ (
      let low : (lo ≤ x.event) × Rises x.event rest = rises_more lo x rest rise in
      let later : x.event ≤ r.0 = comes_by trace x.event rest id c r is fin low.1 (belong_more trace x rest belong).1 (λ z. some (acts_other id x rest ne ∙ z)) in
      omega (arith, low.0)
      )
]

-- a call that has to go on does
goes_on : (c : TracedCall) (acts more : List Act) (s : Stand) (e : ℕ) → IsOfCall c acts s (Some e) → IsWritten c.call (acts ++ more) c.finished → (r : ℕ × Reply) × (c.finished ≡ Some r) × (r.0 ≡ e) × (more ≢ [])
goes_on c acts more s e is w = go c.finished refl is.end w where
  go : (f : Option (ℕ × Reply)) → c.finished ≡ f → Some e ≡ end_of (record c { finished = f }) (is_nothing (next_of c.call acts)) → IsWritten c.call (acts ++ more) f → (r : ℕ × Reply) × (c.finished ≡ Some r) × (r.0 ≡ e) × (more ≢ [])
  go None fin end w = elim (cases_Bool (is_nothing (next_of c.call acts))) [
    | inl y ↦ absurd (let z = rw y at end in cc)
    | inr y ↦ absurd (let z = rw y at end in cc)
  ]
  go (Some r) fin end w = elim (cases_Bool (is_nothing (next_of c.call acts))) [
    | inl y ↦ absurd (let z = rw y at end in cc)
    | inr y ↦ (
        let z : Some e ≡ Some r.0 = rw y at end in
        let k : r.0 ≡ e = cc in (
          r,
          fin,
          k,
          λ m. (
              let n : next_of c.call acts ≡ None = subst (λ x. next_of c.call x ≡ None) (ap (λ x. acts ++ x) m ∙ append-nil acts) w.1 in
              let q : is_nothing (next_of c.call acts) ≡ true = ap is_nothing n in
              cc
              ),
        )
        )
  ]

-- A rest begins by the end of each call that has to go on.
pub begins_by : (version : Version) (trace : Trace) (t : Tree) (list : List Placed) (lo : ℕ) (rest : List Placed) (id : ℕ) (c : TracedCall) (s : Stand) (e : ℕ) → slice_get trace.calls id ≡ Some c → IsOfCall c (acts_of id list) s (Some e) → CanEnd version trace t list lo rest → lo ≤ e
begins_by version trace t list lo rest id c s e at is can =
    let g = goes_on c (acts_of id list) (acts_of id rest) s e is (can.written id c at) in
    let le : lo ≤ g.0.0 = comes_by trace lo rest id c g.0 at g.1 can.rises can.belongs g.3 in
    omega (arith, g.2)

-- If a call must go on, something must come.
pub not_nothing : (version : Version) (trace : Trace) (t : Tree) (list : List Placed) (lo : ℕ) (id : ℕ) (c : TracedCall) (s : Stand) (e : ℕ) → slice_get trace.calls id ≡ Some c → IsOfCall c (acts_of id list) s (Some e) → CanEnd version trace t list lo [] → ⊥
not_nothing version trace t list lo id c s e at is can = (goes_on c (acts_of id list) (acts_of id []) s e is (can.written id c at)).3 (acts_none id)
