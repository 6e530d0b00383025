-- What a resting hart has.
use Rattle.inode_machine.proofs.Vocabulary.{◌≡◌, ℕ, false, Option, Some, None, refl, sym, ◌∙◌, ap, subst, put, put_other, World, Held, Own, Rests, own_of, nothing, Idle}
use Rattle.inode_machine.proofs.Frame.{is_put}

pub idle_as : (h : ℕ) (u : World) (O : Own) → own_of h u ≡ O → Rests O → Idle h u
idle_as h u O e r = subst (λ (o : Own). Rests o) (sym e) r

-- it has no lock
pub unlocks_nothing : (I : ℕ → Option Held) → I ≡ nothing → (i : ℕ) (x : Held) → I i ≡ Some x → x.locked ≡ false
unlocks_nothing I e i x is = absurd (let a : I i ≡ None = ap (λ (f : ℕ → Option Held). f i) e in cc (a, is))

-- nor has it once an inode was taken and given
pub given_is : (I : ℕ → Option Held) (i : ℕ) (x : Option Held) → I ≡ nothing → put (put I i x) i None ≡ nothing
given_is I i x e = sym (is_put (put I i x) nothing i None refl (λ n ne. sym (put_other I i x n ne ∙ ap (λ (f : ℕ → Option Held). f n) e)))
