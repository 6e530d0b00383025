-- Which branch of a choice gave its value.
use Rattle.fs_layout.proofs.Vocabulary.{◌≡◌, Bool, true, false, cond, ◌⊎◌, inl, inr, refl}

pub which_branch : {X : Type 0} (b : Bool) (x y z : X) → cond b x y ≡ z → ((b ≡ true) × (x ≡ z)) ⊎ ((b ≡ false) × (y ≡ z))
which_branch true x y z h = inl (refl, h)
which_branch false x y z h = inr (refl, h)
