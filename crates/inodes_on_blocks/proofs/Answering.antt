-- An operation below that acts or not, by what it answers and by what comes from outside.
use Rattle.inodes_on_blocks.proofs.Vocabulary.{◌≡◌, ◌≢◌, ◌⊎◌, inl, inr, ℕ, suc, List, Option, Some, None, [], ◌∷◌, refl, sym, subst, arith, Do, ExecResult, Ran, Machine, Laws, P, Fine, Goes, Good, Wp, onto, own, placed_with, ActOf, Both, both, joined, Lasts, LowerLayer, LowerLaws, act_places, placed_at, ran_to, seen_after, Here, ToAct, may_act, s-step, to_act}

goes_below : (U : Machine) (R : LowerLayer U.World) (t : U.Tree) (ps : List (ℕ × U.Step)) (u : U.Tree) → Goes U t ps u → Goes (joined U R) t ps u
goes_below U R t [] u g = g
goes_below U R t (p ∷ ps) u g = (g.0, g.1, goes_below U R g.0 ps u g.2)

module _ (U : Machine) (R : LowerLayer U.World) (above : Laws U) (below : LowerLaws U R) (h : ℕ) (B : List U.Step → Type 0) (op : U.Op) (m : U.Answer op → Option U.Mark) (C : U.Answer op → List U.Step → U.World → Type 0) (lasts : Lasts U h B C) where
  abbrev W : Type 0
  W = Both R.World U.World

  abbrev Todo : List U.Step → U.World → Type 0
  Todo = ToAct U R above below h B op m C lasts

  -- it acts at this answer from outside
  abbrev acts : U.Outside → Option (ActOf U)
  acts y = Some (record { op = op; outside = y; mark = m })

  -- If it ran: the world above stays, or goes on as the operation alone does; the program goes on as N says.
  abbrev pub Answered : W → R.World → List U.Step → Option (ActOf U) → (List U.Step → R.World → U.World → Type 0) → Type 0
  Answered v r fs mark N =
      ((mark ≡ None) × R.Shows r v.seen × ((g : ℕ) → g ≢ h → R.Same g v.real r) × N fs r v.seen)
      ⊎ ((y : U.Outside) × (b : U.Answer op) × (g : U.World) × (mark ≡ acts y) × (U.go h y op m v.seen ≡ Ran b g) × U.Honest h op v.seen y × (U.Inv g → R.Shows r g) × ((other : ℕ) → other ≢ h → R.Same other v.real r) × ((gs : List U.Step) → U.Inv g → C b gs g → N gs r g))

  module _ {A : Type 0} (Q : A → List U.Step → W → Type 0) (n : ℕ) (v : W) (fs : List U.Step) (here : Todo fs v.seen) (inv : U.Inv v.seen) (r : R.World) (p : P (joined U R) A) where
    -- what must be shown of it, by its mark
    abbrev IsFine : Option (ActOf U) → Type 0
    IsFine t = Fine (joined U R) h (act_places U h t v.seen) 0 (suc n) B fs v (record { real = r; seen = seen_after U h t v.seen }) (λ l. Wp (joined U R) h B Q p l (onto (own h (act_places U h t v.seen)) fs) (record { real = r; seen = seen_after U h t v.seen }))

    silent : R.Shows r v.seen → ((g : ℕ) → g ≢ h → R.Same g v.real r) → Wp (joined U R) h B Q p n fs (record { real = r; seen = v.seen }) → IsFine None
    silent shows others next = record {
      inv = (shows, inv);
      kept = λ other ne. (others other ne, above.same other v.seen);
      goes = λ y. refl;
      clean = λ y. y;
      begun = λ y. inl refl;
      left = n;
      falls = omega arith;
      next = next;
    }

    -- by what the operation alone does
    acting : (y : U.Outside) (b : U.Answer op) (g : U.World) (d : ExecResult (U.Answer op) U.World) → d ≡ Ran b g → Fine U h (U.places h op b (m b) v.seen) (U.more op) (suc (U.more op)) B fs v.seen g (λ l. C b (onto (own h (U.places h op b (m b) v.seen)) fs) g)
        → (U.Inv g → R.Shows r g) → ((other : ℕ) → other ≢ h → R.Same other v.real r) → ((gs : List U.Step) → U.Inv g → C b gs g → Wp (joined U R) h B Q p n gs (record { real = r; seen = g }))
        → Fine (joined U R) h (placed_at (placed_with U h op m v.seen) d) 0 (suc n) B fs v (record { real = r; seen = ran_to v.seen d }) (λ l. Wp (joined U R) h B Q p l (onto (own h (placed_at (placed_with U h op m v.seen) d)) fs) (record { real = r; seen = ran_to v.seen d }))
    acting y b g d is f shows others next =
        subst (λ (z : ExecResult (U.Answer op) U.World). Fine (joined U R) h (placed_at (placed_with U h op m v.seen) z) 0 (suc n) B fs v (record { real = r; seen = ran_to v.seen z }) (λ l. Wp (joined U R) h B Q p l (onto (own h (placed_at (placed_with U h op m v.seen) z)) fs) (record { real = r; seen = ran_to v.seen z })))
        (sym is)
        (record {
          inv = (shows f.inv, f.inv);
          kept = λ other ne. (others other ne, f.kept other ne);
          goes = λ y. goes_below U R (U.tree v.seen) (U.places h op b (m b) v.seen) (U.tree g) (f.goes y);
          clean = f.clean;
          begun = f.begun;
          left = n;
          falls = omega arith;
          next = next (onto (own h (U.places h op b (m b) v.seen)) fs) f.inv f.next;
        })

    fine : (mark : Option (ActOf U)) → Answered v r fs mark (λ gs u g. Wp (joined U R) h B Q p n gs (record { real = u; seen = g })) → IsFine mark
    fine mark (inl s) = subst (λ (t : Option (ActOf U)). IsFine t) (sym s.0) (silent s.1 s.2 s.3)
    fine mark (inr a) =
        let y = a.0 in
        let b = a.1 in
        let g = a.2 in
        let ran : U.go h y op m v.seen ≡ Ran b g = a.4 in
        let alone = subst (λ (z : ExecResult (U.Answer op) U.World). Good U (U.Answer op) h (placed_with U h op m v.seen) (U.more op) (suc (U.more op)) B fs v.seen (U.MayWait h op v.seen) z (λ l c u. C c (onto (own h (U.places h op c (m c) v.seen)) fs) u)) ran ((here v.seen [] (above.same h v.seen) inv).2 y a.5) in
        subst (λ (t : Option (ActOf U)). IsFine t) (sym a.3) (acting y b g (U.go h y op m v.seen) ran alone a.6 a.7 a.8)

  -- an operation below that runs, whatever others did before it
  pub s-answered : {A : Type 0} (lop : R.Op) (mk : R.Answer lop → Option (ActOf U)) (k : R.Answer lop → P (joined U R) A) (Q : A → List U.Step → W → Type 0) (n : ℕ) (es : List U.Step) (w : W) → Todo es w.seen
      → ((v : W) (fs : List U.Step) → Here U R above below h B Todo w v fs → U.May h op v.seen
      → R.May h lop v.real × ((x : R.Outside) → R.Honest h lop v.real x
      → (a : R.Answer lop) × (r : R.World) × (R.exec h x lop v.real ≡ Ran a r) × Answered v r fs (mk a) (λ gs u g. Wp (joined U R) h B Q (k a) n gs (record { real = u; seen = g }))))
      → Wp (joined U R) h B Q (Do lop mk k) (suc n) es w
  s-answered lop mk k Q n es w todo rule =
      s-step U R above below h B lop mk k Q Todo n es w (to_act U R above below h B op m C lasts) todo
      (λ v fs here.
      let q = rule v fs here (may_act U R above below h B op m C lasts fs v.seen here.stage here.inv) in (
        q.0,
        λ x t.
            let z = q.1 x t in
            subst (λ (d : ExecResult (R.Answer lop) R.World). Good (joined U R) (R.Answer lop) h (placed_with (joined U R) h lop mk v) 0 (suc n) B fs v (R.MayWait h lop v.real) (both U h mk v.seen d) (λ l a u. Wp (joined U R) h B Q (k a) l (onto (own h (placed_with (joined U R) h lop mk v a)) fs) u)) (sym z.2)
            (fine Q n v fs here.stage here.inv z.1 (k z.0) (mk z.0) z.3),
      ))
