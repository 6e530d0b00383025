-- What is in a place.
use Rattle.syscalls.proofs.Vocabulary.{◌≡◌, ℕ, Bool, true, false, Option, Some, None, refl, sym, ap, subst, IsSome, GuardState, BufferState, Inode, State, emptied, IsEmpty, Hand, Place, First, Second, InodePlace, One, Two, HandFits, HasNothing, buffer_at, inode_at, Running, call_at}

-- a call is under way just if the place is busy
pub busy_on : (b : Bool) (m : Running) (o : Option Running) → call_at b m ≡ o → IsSome o → b ≡ true
busy_on true m o e is = refl
busy_on false m o e is = absurd (let none : IsSome {T = Running} None = subst (IsSome {T = Running}) (sym e) is in cc none)

pub busy_is : (b : Bool) (m : Running) (o : Option Running) → call_at b m ≡ o → IsSome o → o ≡ Some m
busy_is true m o e is = sym e
busy_is false m o e is = absurd (let none : IsSome {T = Running} None = subst (IsSome {T = Running}) (sym e) is in cc none)

pub idle_is : (b : Bool) (m : Running) (o : Option Running) → call_at b m ≡ o → o ≡ None → b ≡ false
idle_is false m o e none = refl
idle_is true m o e none = absurd (cc (e, none))

-- nothing in hand goes with any state
no_buffer : (h : Hand) (p : Place) (g : GuardState BufferState) → buffer_at p (emptied h) ≡ Some g → ⊥
no_buffer h First g e = cc e
no_buffer h Second g e = cc e

no_inode : (h : Hand) (k : InodePlace) (g : GuardState Inode) → inode_at k (emptied h) ≡ Some g → ⊥
no_inode h One g e = cc e
no_inode h Two g e = cc e

empty_fits : (hart : ℕ) (s : State) (h : Hand) → HandFits hart s (emptied h)
empty_fits hart s h = record {
  txn = tt;
  buffers = record { own = λ p g e. absurd (no_buffer h p g e); apart = λ p q g f e d same. absurd (no_buffer h p g e) };
  inodes = record { own = λ k g e. absurd (no_inode h k g e); apart = λ k l g f e d same. absurd (no_inode h k g e) };
}

pub nothing_fits : (hart : ℕ) (s : State) (h : Hand) → IsEmpty h → HandFits hart s h
nothing_fits hart s h empty = subst (HandFits hart s) (sym empty) (empty_fits hart s h)

-- .. and is what ends
pub has_nothing : (h : Hand) → IsEmpty h → HasNothing h
has_nothing h empty = record {
  txn = ap (λ (k : Hand). k.txn) empty;
  first = ap (λ (k : Hand). k.first) empty;
  second = ap (λ (k : Hand). k.second) empty;
  one = ap (λ (k : Hand). k.one) empty;
  two = ap (λ (k : Hand). k.two) empty;
  to_one = ap (λ (k : Hand). k.to_one) empty;
  to_two = ap (λ (k : Hand). k.to_two) empty;
  aside = ap (λ (k : Hand). k.aside) empty;
  listed = ap (λ (k : Hand). k.listed) empty;
}
