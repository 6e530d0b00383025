-- A group that has one block more, and a hart in a transaction.
use Rattle.inodes_on_blocks.proofs.Vocabulary.{◌≡◌, ℕ, zero, suc, ◌==◌, ◌||◌, Bool, true, false, List, [], ◌∷◌, ◌++◌, Option, Some, None, refl, ap, if◌then◌else◌, slice_get, eq_self, has, with_block, IsMember, pick}

pub has_more : (ks : List ℕ) (b c : ℕ) → has ks c ≡ true → has (ks ++ b ∷ []) c ≡ true
has_more [] b c e = absurd (let q : false ≡ true = e in cc)
has_more (k ∷ ks) b c e = pick (c == k) (λ t. (t || has ks c) ≡ true → (t || has (ks ++ b ∷ []) c) ≡ true) (λ _ _. refl) (λ _ z. has_more ks b c z) e

pub has_last : (ks : List ℕ) (b : ℕ) → has (ks ++ b ∷ []) b ≡ true
has_last [] b = ap (λ (t : Bool). t || false) (eq_self b)
has_last (k ∷ ks) b = pick (b == k) (λ t. (t || has (ks ++ b ∷ []) b) ≡ true) (λ _. refl) (λ _. has_last ks b)

-- after a block was recorded it has what it had
pub put_grows : (ks : List ℕ) (b c : ℕ) → has ks c ≡ true → has (with_block ks b) c ≡ true
put_grows ks b c e = pick (has ks b) (λ t. has (if t then ks else ks ++ b ∷ []) c ≡ true) (λ _. e) (λ _. has_more ks b c e)

pub has_members : (members : List (Option ℕ)) (h k : ℕ) → slice_get members h ≡ Some (Some k) → IsMember members h
has_members [] h k e = absurd (cc e)
has_members (None ∷ ms) zero k e = absurd (cc e)
has_members (Some j ∷ ms) zero k e = tt
has_members (None ∷ ms) (suc h) k e = has_members ms h k e
has_members (Some j ∷ ms) (suc h) k e = has_members ms h k e

pub member_at : (members : List (Option ℕ)) (h : ℕ) → IsMember members h → (k : ℕ) × (slice_get members h ≡ Some (Some k))
member_at [] h m = absurd m
member_at (None ∷ ms) zero m = absurd m
member_at (Some k ∷ ms) zero m = (k, refl)
member_at (None ∷ ms) (suc h) m = member_at ms h m
member_at (Some k ∷ ms) (suc h) m = member_at ms h m
