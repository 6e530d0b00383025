-- In which step of its program an operation acts, by which of them are marked.
use Rattle.run_laws.proofs.Vocabulary.{◌≡◌, ◌⊎◌, inl, inr, Bool, true, false, Option, Some, None, is_some, refl, sym, ◌∙◌, Prog, Ret, Do, bind, or_else, Handover, Claim, LockFile, LockOpen, StatFile, Take, IsAtEnd, MarksLast, MarksNone, MarksOne, ActsAt, MarksFirst, ActingTime, HasActed, InFirst, InLast, InOne, ActsThen, is_at_end, time_of}
use Rattle.fs_machine.specs.Steps as steps
use Rattle.inode_machine.specs.World as above
use Rattle.inode_machine.specs.World.Op.{Leave}
use Rattle.inodes_on_blocks.specs.Handlers.{Acts, P}
use Rattle.inodes_on_blocks.specs.Lowering.{Carry}

-- ---- programs

pub bind_goes_on : {Op : Type 0} {Answer : Op → Type 0} {M A B : Type 0} (p : Prog Op Answer M A) (f : A → Prog Op Answer M B) → (IsAtEnd p → ⊥) → IsAtEnd (bind p f) → ⊥
bind_goes_on (Ret a) f goes e = goes tt
bind_goes_on (Do op m k) f goes e = e

ends_last : {A : Type 0} (p : P A) → IsAtEnd p → is_at_end p ≡ true
ends_last (Ret a) e = refl
ends_last (Do op m k) e = absurd e

pub goes_past : {A : Type 0} (p : P A) → (IsAtEnd p → ⊥) → is_at_end p ≡ false
goes_past (Ret a) goes = absurd (goes tt)
goes_past (Do op m k) goes = refl

no_mark : {M : Type 0} (o : Option M) → is_some o ≡ true → o ≡ None → ⊥
no_mark None s n = cc
no_mark (Some x) s n = cc

-- ---- marks

-- the rest of a program has these marks, if no step of it ran yet, or if some did
abbrev pub MarkedSo : ActingTime → Bool → {Op : Type 0} {Answer : Op → Type 0} {M A : Type 0} → Prog Op Answer M A → Type 0
MarkedSo InFirst true p = MarksFirst p
MarkedSo InFirst false p = MarksNone p
MarkedSo InLast first p = MarksLast p
MarkedSo InOne true p = MarksOne p
MarkedSo InOne false p = Unit {0}

pub marked_first : (op : above.Op) (p : P (Handover (above.Answer op) Carry)) → ActsAt op p → MarkedSo (time_of op) true p
marked_first (Take n looking) p t = t
marked_first (StatFile fd) p t = t
marked_first (LockFile fd) p t = t
marked_first (LockOpen fd n) p t = t
marked_first Leave p t = t
marked_first (Claim inode_type) p t = t
marked_first op p t = t

-- a program of which a step is marked has one
pub marked_goes_on : (time : ActingTime) {A : Type 0} (p : P A) → MarkedSo time true p → IsAtEnd p → ⊥
marked_goes_on InFirst (Ret a) t e = t
marked_goes_on InLast (Ret a) t e = t
marked_goes_on InOne (Ret a) t e = t
marked_goes_on time (Do op m k) t e = e

module _ {A : Type 0} (op : steps.Op) (m : steps.Answer op → Option Acts) (k : steps.Answer op → P A) (b : steps.Answer op) where
  -- after one step more
  pub marked_on : (time : ActingTime) (first : Bool) → MarkedSo time first (Do op m k) → (IsAtEnd (k b) → ⊥) → MarkedSo time false (k b)
  marked_on InFirst true t goes = (t b).1
  marked_on InFirst false t goes = (t b).1
  marked_on InLast true t goes = at (t b)
    where
      at : ((is_some (m b) ≡ true) × IsAtEnd (k b)) ⊎ ((m b ≡ None) × MarksLast (k b)) → MarksLast (k b)
      at (inl e) = absurd (goes e.1)
      at (inr l) = l.1
  marked_on InLast false t goes = at (t b)
    where
      at : ((is_some (m b) ≡ true) × IsAtEnd (k b)) ⊎ ((m b ≡ None) × MarksLast (k b)) → MarksLast (k b)
      at (inl e) = absurd (goes e.1)
      at (inr l) = l.1
  marked_on InOne first t goes = tt

  -- it acts in this step
  last_then : MarksLast (Do op m k) → is_some (m b) ≡ true → true ≡ is_at_end (k b)
  last_then t s = at (t b)
    where
      at : ((is_some (m b) ≡ true) × IsAtEnd (k b)) ⊎ ((m b ≡ None) × MarksLast (k b)) → true ≡ is_at_end (k b)
      at (inl e) = sym (ends_last (k b) e.1)
      at (inr l) = absurd (no_mark (m b) s l.0)

  pub acts_then : (time : ActingTime) (first : Bool) → MarkedSo time first (Do op m k) → is_some (m b) ≡ true → ActsThen time first (is_at_end (k b)) true
  acts_then InFirst true t s = refl
  acts_then InFirst false t s = absurd (no_mark (m b) s (t b).0)
  acts_then InLast true t s = last_then t s
  acts_then InLast false t s = last_then t s
  acts_then InOne first t s = tt

-- It doesn't, because it has done so; or in a step that isn't the first of one that acts there, if the program goes
-- on after it.

pub acted_then : (time : ActingTime) (first last : Bool) → HasActed time first true → ActsThen time first last false
acted_then InFirst true last h = absurd (let e : true ≡ false = h in cc)
acted_then InFirst false last h = refl
acted_then InLast first last h = absurd (let e : true ≡ false = h in cc)
acted_then InOne first last h = tt

pub waits_then : (time : ActingTime) (first last : Bool) → (time ≡ InFirst → first ≡ true → ⊥) → last ≡ false → ActsThen time first last false
waits_then InFirst true last isnt e = absurd (isnt refl refl)
waits_then InFirst false last isnt e = refl
waits_then InLast first last isnt e = sym e
waits_then InOne first last isnt e = tt

-- ---- whether it has acted

pub never_yet : (time : ActingTime) → HasActed time true false
never_yet InFirst = refl
never_yet InLast = refl
never_yet InOne = tt

-- after one step more, if the program goes on after it
pub acted_on : {A : Type 0} (time : ActingTime) (first last : Bool) (acts acted : Option A) → last ≡ false → HasActed time first (is_some acted) → ActsThen time first last (is_some acts)
    → HasActed time false (is_some (or_else acts acted))
acted_on InFirst first last (Some a) acted e h t = refl
acted_on InFirst true last None acted e h t = absurd (let q : false ≡ true = t in cc)
acted_on InFirst false last None acted e h t = h
acted_on InLast first last (Some a) acted e h t = absurd (let q : true ≡ false = t ∙ e in cc)
acted_on InLast first last None acted e h t = h
acted_on InOne first last acts acted e h t = tt
