-- What the steps of a program make of something that its hart has, beside all that is shown of the program.
use Rattle.atomic_programs.proofs.Vocabulary.{◌≡◌, ℕ, List, refl, Ret, Do, bind, ExecResult, Waits, Ran, Stops, Machine, P, own, onto, placed_with, Good, Wp, Tracks}

module _ (L : Machine) (h : ℕ) {S : Type 0} (Has : L.World → S → Type 0) where
  -- the same if the program begins with more
  pub tracks_from : {A : Type 0} (p : P L A) (s t u : S) → ((w : L.World) → Has w s → Has w t) → Tracks L h Has t p u → Tracks L h Has s p u
  tracks_from (Ret a) s t u less tracks = λ w has. tracks w (less w has)
  tracks_from (Do op m k) s t u less tracks = λ a. let step = tracks a in (step.0, (λ x v w inv may honest e has. step.1 x v w inv may honest e (less v has)), step.2)

  pub tracks_bind : {A B : Type 0} (p : P L A) (k : A → P L B) (s t u : S) → Tracks L h Has s p t → ((a : A) → Tracks L h Has t (k a) u) → Tracks L h Has s (bind p k) u
  tracks_bind (Ret a) k s t u tracks then_ = tracks_from (k a) s t u tracks (then_ a)
  tracks_bind (Do op m j) k s t u tracks then_ = λ a. let step = tracks a in (step.0, step.1, tracks_bind (j a) k step.0 t u step.2 then_)

  module _ (stays : (v w : L.World) (xs : List L.Step) (s : S) → L.Others h v xs w → Has v s → Has w s) (B : List L.Step → Type 0) where
    -- what it has at the end
    pub Wp-tracks : {A : Type 0} (p : P L A) (Q : A → List L.Step → L.World → Type 0) (s t : S) (n : ℕ) (es : List L.Step) (w : L.World) → Tracks L h Has s p t → Wp L h B Q p n es w → Has w s
        → Wp L h B (λ a fs u. Q a fs u × Has u t) p n es w
    Wp-tracks (Ret a) Q s t n es w tracks g has = (g, tracks w has)
    Wp-tracks {A} (Do op m k) Q s t n es w tracks g has =
        λ v xs o i. (
          (g v xs o i).0,
          (g v xs o i).1,
          λ x honest.
              step v (onto xs es) (L.go h x op m v)
              (λ a u e l fs q. let led = tracks a in Wp-tracks (k a) Q led.0 t l fs u led.2 q (led.1 x v u i (g v xs o i).1 honest e (stays w v xs s o has)))
              ((g v xs o i).2 x honest),
          (g v xs o i).3,
        )
      where
        Then : L.Answer op → ℕ → List L.Step → L.World → Type 0
        Then a l fs u = Wp L h B (λ b gs y. Q b gs y × Has y t) (k a) l fs u

        step : (v : L.World) (fs : List L.Step) (d : ExecResult (L.Answer op) L.World) → ((a : L.Answer op) (u : L.World) → d ≡ Ran a u → (l : ℕ) (gs : List L.Step) → Wp L h B Q (k a) l gs u → Then a l gs u)
            → Good L (L.Answer op) h (placed_with L h op m v) (L.more op) n B fs v (L.MayWait h op v) d (λ l a u. Wp L h B Q (k a) l (onto (own h (L.places h op a (m a) v)) fs) u)
            → Good L (L.Answer op) h (placed_with L h op m v) (L.more op) n B fs v (L.MayWait h op v) d (λ l a u. Then a l (onto (own h (L.places h op a (m a) v)) fs) u)
        step v fs Waits led q = q
        step v fs (Ran a u) led q =
            record {
              inv = q.inv;
              kept = q.kept;
              goes = q.goes;
              clean = q.clean;
              begun = q.begun;
              left = q.left;
              falls = q.falls;
              next = led a u refl q.left (onto (own h (L.places h op a (m a) v)) fs) q.next;
            }
        step v fs (Stops u) led q = q
