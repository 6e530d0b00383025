-- What is loaded of an inode, as it is in hand.
use Rattle.inode_table.proofs.Vocabulary.{◌≡◌, ℕ, Option, refl, None, option_map, option_map_or, MatchOption, IsLoadedAt, Dinode, false, Some, IsSome, is_some, InodePlace, One, Two, GuardState, Inode, Loaded, stands_so, with_inode_of, load, load_unless, P, Hand, inode_at, inode_in, no_inode, record_of, recorded, with_record}

recorded_to : (d : Dinode) (o : Option (GuardState Inode)) → IsSome o → option_map_or (λ (g : GuardState Inode). g.value) (option_map (recorded d) o) no_inode ≡ stands_so d (option_map_or (λ (g : GuardState Inode). g.value) o no_inode)
recorded_to d None some = absurd (cc some)
recorded_to d (Some g) some = refl

-- a record that was set
pub recorded-in : (k : InodePlace) (d : Dinode) (h : Hand) → IsSome (inode_at k h) → inode_in k (with_record k d h) ≡ stands_so d (inode_in k h)
recorded-in One d h there = recorded_to d h.one there
recorded-in Two d h there = recorded_to d h.two there

pub stands : (d : Dinode) (v : Inode) → record_of (stands_so d v) ≡ d
stands d v = at v.content
  where
    at : (o : Option Loaded) → (with_inode_of d o).inode ≡ d
    at None = refl
    at (Some l) = refl

pub loaded-there : (k : InodePlace) (h : Hand) → IsLoadedAt k h → IsSome (inode_at k h)
loaded-there One h there = at h.one there
  where
    at : (o : Option (GuardState Inode)) → MatchOption o ⊥ (λ g. IsSome g.value.content) → IsSome o
    at None there = absurd there
    at (Some g) there = refl
loaded-there Two h there = at h.two there
  where
    at : (o : Option (GuardState Inode)) → MatchOption o ⊥ (λ g. IsSome g.value.content) → IsSome o
    at None there = absurd there
    at (Some g) there = refl

pub not-loaded : (i n : ℕ) (o : Option Loaded) → is_some o ≡ false → let p : P Loaded = load_unless i n o in p ≡ load i n
not-loaded i n None e = refl
not-loaded i n (Some d) e = absurd (cc e)
