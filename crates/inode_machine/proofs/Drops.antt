-- A reference is dropped, and its inode freed if it was the last one.
use Rattle.image_versions.specs.declared.version.Version.{Version}
use Rattle.inode_machine.proofs.Vocabulary.{◌≡◌, ◌⊎◌, inl, inr, ℕ, ◌+◌, ◌-◌, ◌<◌, ◌≤◌, true, false, List, Some, None, sym, ◌∙◌, ap, arith, Safe, hart_count, put, same_or, put_same, put_other, Step, World, ThisP, drop, Own, own_names, own_of, machine}
use Rattle.inode_machine.proofs.Counting.{s-down}
use Rattle.inode_machine.proofs.Freeing.{s-free-all}

gone_back : {A : Type 0} (f : ℕ → A) (i : ℕ) (a b c y : A) → f i ≡ y → put (put (put (put f i a) i b) i c) i y ≡ f
gone_back {A} f i a b c y is = λ r n. each n r
  where
    each : (n : ℕ) → put (put (put (put f i a) i b) i c) i y n ≡ f n
    each n = elim (same_or n i) [
      | inl q ↦ ap (put (put (put (put f i a) i b) i c) i y) q ∙ put_same (put (put (put f i a) i b) i c) i y ∙ sym is ∙ ap f (sym q)
      | inr ne ↦ put_other (put (put (put f i a) i b) i c) i y n ne ∙ put_other (put (put f i a) i b) i c n ne ∙ put_other (put f i a) i b n ne ∙ put_other f i a n ne
    ]

pub s-drop : (version : Version) {A : Type 0} {h : ℕ} (i : ℕ) {k : ThisP A} {B : List Step → Type 0} {Q : A → List Step → World → Type 0} {n : ℕ} {es : List Step} {w : World} {O : Own}
    → own_of h w ≡ O → O.desk.lender ≡ None → h < hart_count → 903 < n → O.desk.joined ≡ true → O.inodes i ≡ None → 0 < O.mine.refs i → O.mine.pending ≡ None → O.mine.walk ≡ None → ((1 < O.mine.refs i) ⊎ (own_names O.row O.desk i ≡ false))
    → ((l : ℕ) (u : World) → n ≤ l + 904 → own_of h u ≡ record O { mine = record { refs = put O.mine.refs i (O.mine.refs i - 1); walk = O.mine.walk; pending = O.mine.pending } } → Safe (machine version) h B Q k l es u)
    → Safe (machine version) h B Q (drop i k) n es w
s-drop version i {O = O} owns free lt few joined out refers none still may rest =
    s-down version owns free lt (omega arith) out refers none (elim may [ inl m ↦ inl m | inr m ↦ inr (m, λ y is. absurd (cc (is, still))) ])
    (λ l s u q dead there one own1. s-free-all version s own1 free lt (omega (arith, q, few)) joined (put_same O.inodes i (Some (record { disk = s; node = s; alone = true; locked = true }))) there dead one none (elim may [ inl m ↦ absurd (omega (arith, m, one)) | inr m ↦ m ]) still
    (λ l2 u2 q2 own2. rest l2 u2 (omega (arith, q, q2)) (own2 ∙ (λ r. record O {
      inodes = gone_back O.inodes i (Some (record { disk = s; node = s; alone = true; locked = true })) (Some (record { disk = None; node = None; alone = true; locked = true })) (Some (record { disk = None; node = None; alone = true; locked = false })) None out r;
      mine = record { refs = put O.mine.refs i (O.mine.refs i - 1); walk = O.mine.walk; pending = O.mine.pending };
    }))))
    (λ l u q own1. rest l u (omega (arith, q)) own1)
