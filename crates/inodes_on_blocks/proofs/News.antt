-- New inodes, which a hart has claimed and not put yet: how long they are so, and which inodes are none.
use Rattle.inodes_on_blocks.proofs.Vocabulary.{◌≡◌, inl, inr, ℕ, ◌<◌, Bool, true, false, List, Option, Some, None, refl, sym, ◌∙◌, ap, subst, if◌then◌else◌, none-some, Super, is_free, Node, put, same_or, put_same, put_other, LogPart, is_joined, World, inode_in, untyped, IsNew, on_blocks, unless_new, Shows, Loaded}
use Rattle.inode_machine.specs.World as above

-- no inode is new by a put
pub untyped_less : (l : LogPart) (was : ℕ → Option ℕ) (n k : ℕ) → untyped l was n ≡ Some k → was n ≡ Some k
untyped_less l was n k e = at (is_free (inode_in l n)) e
  where
    at : (b : Bool) → (if b then was n else None) ≡ Some k → was n ≡ Some k
    at true q = q
    at false q = absurd (none-some k q)

-- a new one is so still if its record is as it was
pub new_alike : (n k : ℕ) (l m : LogPart) (lock keeper : ℕ → Option ℕ) (load : ℕ → Option Loaded) → m.sizes ≡ l.sizes → m.members ≡ l.members → inode_in m n ≡ inode_in l n → IsNew n k l lock keeper load → IsNew n k m lock keeper load
new_alike n k l m lock keeper load sizes members same is = record {
  low = is.low;
  bound = subst (λ (s : Super). n < s.ninodes) (sym sizes) is.bound;
  free = ap is_free same ∙ is.free;
  unlocked = is.unlocked;
  kept = is.kept;
  joined = subst (λ (ms : List (Option ℕ)). is_joined ms k ≡ true) (sym members) is.joined;
  unloaded = is.unloaded;
}

-- and if nobody has taken its lock, and its hart keeps it
pub new_kept : (n k : ℕ) (l : LogPart) (lock keeper lock' keeper' : ℕ → Option ℕ) (load load' : ℕ → Option Loaded) → lock' n ≡ None → keeper' n ≡ Some k → load' n ≡ None → IsNew n k l lock keeper load → IsNew n k l lock' keeper' load'
new_kept n k l lock keeper lock' keeper' load load' free keeps none is = record { low = is.low; bound = is.bound; free = is.free; unlocked = free; kept = keeps; joined = is.joined; unloaded = none }

module _ (r : World) (g : above.World) (shows : Shows r g) (n : ℕ) where
  -- one that isn't claimed by any hart is none
  pub none_new : ((k : ℕ) → r.new n ≡ Some k → ⊥) → r.new n ≡ None
  none_new not = at (r.new n) refl
    where
      at : (o : Option ℕ) → r.new n ≡ o → o ≡ None
      at None e = refl
      at (Some k) e = absurd (not k e)

  -- nor is one whose lock a hart has
  pub locked_old : (h : ℕ) → g.lock n ≡ Some h → r.new n ≡ None
  locked_old h mine = none_new (λ k e. none-some h (sym (shows.news n k e).unlocked ∙ mine))

  -- or that nobody keeps
  pub unkept_old : g.keeper n ≡ None → r.new n ≡ None
  unkept_old none = none_new (λ k e. none-some k (sym none ∙ (shows.news n k e).kept))

  -- or that a hart keeps which has no new one
  pub kept_old : (h : ℕ) → ((m : ℕ) → r.new m ≡ Some h → ⊥) → g.keeper n ≡ Some h → r.new n ≡ None
  kept_old h through mine = none_new (λ k e. through n (e ∙ sym (shows.news n k e).kept ∙ mine))

-- an inode that isn't new has its node on the blocks
pub old_node : (new : ℕ → Option ℕ) (nodes : ℕ → Option Node) (n : ℕ) → new n ≡ None → on_blocks new nodes n ≡ nodes n
old_node new nodes n e = ap (λ (o : Option ℕ). unless_new o (nodes n)) e

-- and so if its node changes
pub put_node : (new : ℕ → Option ℕ) (nodes : ℕ → Option Node) (n : ℕ) (v : Option Node) → new n ≡ None → on_blocks new (put nodes n v) ≡ put (on_blocks new nodes) n v
put_node new nodes n v e = λ z m. each m z
  where
    each : (m : ℕ) → on_blocks new (put nodes n v) m ≡ put (on_blocks new nodes) n v m
    each m = elim (same_or m n) [
      | inl q ↦ ap (on_blocks new (put nodes n v)) q ∙ old_node new (put nodes n v) n e ∙ put_same nodes n v ∙ sym (put_same (on_blocks new nodes) n v) ∙ ap (put (on_blocks new nodes) n v) (sym q)
      | inr ne ↦ ap (λ (o : Option Node). unless_new (new m) o) (put_other nodes n v m ne) ∙ sym (put_other (on_blocks new nodes) n v m ne)
    ]
