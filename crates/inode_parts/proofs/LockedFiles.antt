-- A file's lock given up: nothing is had then.
use Rattle.inode_parts.proofs.Vocabulary.{◌≡◌, ℕ, Bool, true, false, List, Option, None, refl, sym, ap, subst, ◌∙◌, ◌==◌, if◌then◌else◌, IsSome, MatchOption, option_map_or, put, GuardState, Inode, Hand, InodePlace, One, Two, inode_at, inode_in, no_inode, with_inode, HasNoBuffer, IsLoadedAt, beside_buffers, Had, Apart, nothing, carry_in, had_at, note_at, beside_inode, IsAmid, Unlocked, locks, other, beside_in, Notes}
use Rattle.inode_parts.proofs.Basics.{same_inode, had_beside, lock_is_of}

-- ---- what is had

put_apart : (n : ℕ) → put nothing n Apart ≡ nothing
unfolding put
put_apart n = λ j i. at (i == n) j
  where
    at : (b : Bool) → let x : Had = if b then Apart else Apart in x ≡ Apart
    at true = refl
    at false = refl

module _ (path : List ℕ) (m : Notes) (k : InodePlace) (h : Hand) (only : inode_at (other k) h ≡ None) where
  none_beside : beside_in path m k h ≡ nothing
  none_beside = λ j i. had_at path (note_at (other k) m) (only j) i Apart

  -- the only inode's lock was given up
  pub gone : (n : ℕ) → locks n (inode_at k h) ≡ true → put (carry_in path m h) n Apart ≡ nothing
  gone n has = had_beside path m h k n Apart (lock_is_of n (inode_at k h) has) ∙ (λ i. put (none_beside i) n Apart) ∙ put_apart n

-- .. and isn't there
pub gone_then : (path : List ℕ) (m : Notes) (k : InodePlace) (before h : Hand) → inode_at (other k) before ≡ None → h ≡ with_inode k None before → nothing ≡ carry_in path m h
gone_then path m One before h only after = (λ j i. had_at path m.two (sym only j) i Apart) ∙ ap (carry_in path m) (sym after)
gone_then path m Two before h only after = (λ j i. had_at path m.one (sym only j) i Apart) ∙ ap (carry_in path m) (sym after)

-- ---- what is in hand

pub inode_still : (k : InodePlace) (before h : Hand) → beside_buffers tt h ≡ beside_buffers tt before → inode_in k before ≡ inode_in k h
inode_still k before h same = ap (λ (o : Option (GuardState Inode)). option_map_or (λ (g : GuardState Inode). g.value) o no_inode) (sym (same_inode k before h same))

pub other_still : (k : InodePlace) (before h : Hand) → beside_buffers tt h ≡ beside_buffers tt before → inode_at (other k) before ≡ None → inode_at (other k) h ≡ None
other_still k before h same only = same_inode (other k) before h same ∙ only

pub loaded_still : (k : InodePlace) (before h : Hand) → beside_buffers tt h ≡ beside_buffers tt before → IsLoadedAt k before → IsLoadedAt k h
loaded_still k before h same loaded = subst (λ (o : Option (GuardState Inode)). MatchOption o ⊥ (λ g. IsSome g.value.content)) (sym (same_inode k before h same)) loaded

-- amid an operation the lock goes
pub unlocked : (n : ℕ) (start : Hand) (k : InodePlace) (before h : Hand) → IsAmid n start k before → HasNoBuffer before → h ≡ with_inode k None before → Unlocked n start h
unlocked n start k before h amid none after = subst (λ (k : InodePlace). h ≡ with_inode k None start) amid.0 (after ∙ at k amid.2)
  where
    at : (k : InodePlace) → beside_inode k before ≡ beside_inode k start → with_inode k None before ≡ with_inode k None start
    at One same = λ i. record (same i) { one = None; first = (none.0 ∙ sym amid.1.0) i; second = (none.1 ∙ sym amid.1.1) i }
    at Two same = λ i. record (same i) { two = None; first = (none.0 ∙ sym amid.1.0) i; second = (none.1 ∙ sym amid.1.1) i }
