-- A call's program ends for want of a room only if one of its operations wanted it, or a claim gave it an inode that
-- it had locked. And each name that it enters fits.
use Rattle.run_laws.proofs.Vocabulary.{◌≡◌, ◌≢◌, ◌⊎◌, inl, inr, ℕ, List, [], Option, Some, None, refl, ap, subst, Change, Full, Blocks, Descriptors, Directory, DiskInodes, MemInodes, OpenFiles, Reply, Call, Ret, Do, P, program, Answer, Mark, New, Claim, Enter, NameFits, wanted, Version}
use Rattle.plain_tree.specs.declared.answer.Answer.{Answer as ReplyAnswer}
use Rattle.plain_tree.specs.declared.answer.Answer.TheVariants as answers
use Rattle.inode_machine.specs.World.{Op}
use Rattle.call_programs.specs.Asks.{Asks, AsksSo, Because, Before, Excused, GivesBack, Lacks, May, Nothing, Wants, after, fresh, holding, or_still, wants_after, wants_back}
use Rattle.call_programs.proofs.Calls.{calls_ask}
use Rattle.run_laws.proofs.Running.{none_claimed, some_answer}

-- ---- kinds of room

same_kind : (kind room : Full) → (kind ≡ room) ⊎ (kind ≢ room)
same_kind MemInodes MemInodes = inl refl
same_kind MemInodes OpenFiles = inr (λ e. (let z : MemInodes ≡ OpenFiles = e in cc))
same_kind MemInodes Descriptors = inr (λ e. (let z : MemInodes ≡ Descriptors = e in cc))
same_kind MemInodes Blocks = inr (λ e. (let z : MemInodes ≡ Blocks = e in cc))
same_kind MemInodes DiskInodes = inr (λ e. (let z : MemInodes ≡ DiskInodes = e in cc))
same_kind MemInodes Directory = inr (λ e. (let z : MemInodes ≡ Directory = e in cc))
same_kind OpenFiles MemInodes = inr (λ e. (let z : OpenFiles ≡ MemInodes = e in cc))
same_kind OpenFiles OpenFiles = inl refl
same_kind OpenFiles Descriptors = inr (λ e. (let z : OpenFiles ≡ Descriptors = e in cc))
same_kind OpenFiles Blocks = inr (λ e. (let z : OpenFiles ≡ Blocks = e in cc))
same_kind OpenFiles DiskInodes = inr (λ e. (let z : OpenFiles ≡ DiskInodes = e in cc))
same_kind OpenFiles Directory = inr (λ e. (let z : OpenFiles ≡ Directory = e in cc))
same_kind Descriptors MemInodes = inr (λ e. (let z : Descriptors ≡ MemInodes = e in cc))
same_kind Descriptors OpenFiles = inr (λ e. (let z : Descriptors ≡ OpenFiles = e in cc))
same_kind Descriptors Descriptors = inl refl
same_kind Descriptors Blocks = inr (λ e. (let z : Descriptors ≡ Blocks = e in cc))
same_kind Descriptors DiskInodes = inr (λ e. (let z : Descriptors ≡ DiskInodes = e in cc))
same_kind Descriptors Directory = inr (λ e. (let z : Descriptors ≡ Directory = e in cc))
same_kind Blocks MemInodes = inr (λ e. (let z : Blocks ≡ MemInodes = e in cc))
same_kind Blocks OpenFiles = inr (λ e. (let z : Blocks ≡ OpenFiles = e in cc))
same_kind Blocks Descriptors = inr (λ e. (let z : Blocks ≡ Descriptors = e in cc))
same_kind Blocks Blocks = inl refl
same_kind Blocks DiskInodes = inr (λ e. (let z : Blocks ≡ DiskInodes = e in cc))
same_kind Blocks Directory = inr (λ e. (let z : Blocks ≡ Directory = e in cc))
same_kind DiskInodes MemInodes = inr (λ e. (let z : DiskInodes ≡ MemInodes = e in cc))
same_kind DiskInodes OpenFiles = inr (λ e. (let z : DiskInodes ≡ OpenFiles = e in cc))
same_kind DiskInodes Descriptors = inr (λ e. (let z : DiskInodes ≡ Descriptors = e in cc))
same_kind DiskInodes Blocks = inr (λ e. (let z : DiskInodes ≡ Blocks = e in cc))
same_kind DiskInodes DiskInodes = inl refl
same_kind DiskInodes Directory = inr (λ e. (let z : DiskInodes ≡ Directory = e in cc))
same_kind Directory MemInodes = inr (λ e. (let z : Directory ≡ MemInodes = e in cc))
same_kind Directory OpenFiles = inr (λ e. (let z : Directory ≡ OpenFiles = e in cc))
same_kind Directory Descriptors = inr (λ e. (let z : Directory ≡ Descriptors = e in cc))
same_kind Directory Blocks = inr (λ e. (let z : Directory ≡ Blocks = e in cc))
same_kind Directory DiskInodes = inr (λ e. (let z : Directory ≡ DiskInodes = e in cc))
same_kind Directory Directory = inl refl

module _ (version : Version) (room : Full) where
  abbrev Not : Reply → Type 0
  Not r = r.answer ≢ answers.Full room

  -- After this answer the program does so; or a claim gave it an inode that it had locked, and it ends for want of a place in memory.
  abbrev pub Goes : (op : Op) → Answer op → P Reply → Type 0 → Type 0
  Goes (Claim inode_type) (New n) p does = ((room ≡ MemInodes) × GivesBack n p) ⊎ does
  Goes op a p does = does

  -- whatever else its operations answer, it ends for want of this room only if one of them wanted it
  abbrev pub Blames : P Reply → Type 0
  Blames (Ret r) = Not r
  Blames (Do op m k) = NameFits version op × ((a : Answer op) → (wanted op a ≡ Some room) ⊎ Goes op a (k a) (Blames (k a)))

  pub goes_or : (op : Op) (a : Answer op) (p : P Reply) (does : Type 0) → Goes op a p does
      → ((room ≡ MemInodes) × (n : ℕ) × GivesBack n p × (a ≢ some_answer op)) ⊎ does
  goes_or (Claim inode_type) (New n) p does (inl x) = inl (x.0, n, x.1, none_claimed inode_type n)
  goes_or (Claim inode_type) (New n) p does (inr then_) = inr then_
  goes_or op a p does then_ = inr then_

  -- ---- from what a program asks for

  -- what is wanting isn't this room
  abbrev Spares : Wants → Type 0
  Spares Nothing = Unit {0}
  Spares (Lacks kind) = kind ≢ room
  Spares Excused = room ≢ MemInodes

  wanted_or : (o : Option Full) (w : Wants) (does : Type 0) → Spares w → (Spares (or_still o w) → does) → (o ≡ Some room) ⊎ does
  wanted_or None w does ne later = inr (later ne)
  wanted_or (Some kind) w does ne later = by (same_kind kind room)
    where
      by : (kind ≡ room) ⊎ (kind ≢ room) → (Some kind ≡ Some room) ⊎ does
      by (inl same) = inl (ap (λ (z : Full). Some z) same)
      by (inr other) = inr (later other)

  module _ (call : Call) where
    not_so : (w : Wants) (cs : List Change) (answer : ReplyAnswer) → Because call w cs answer → Spares w → answer ≢ answers.Full room
    not_so Nothing cs answer is ne e = subst (λ z. Because call Nothing cs z) e is
    not_so (Lacks kind) cs answer is ne e = (let so : Because call (Lacks kind) cs (answers.Full room) = subst (λ z. Because call (Lacks kind) cs z) e is in ne so.0)
    not_so Excused cs answer is ne e = ne (subst (λ z. Because call Excused cs z) e is)

    fits : (s : Before) (op : Op) (m : Answer op → Option Mark) (k : Answer op → P Reply) → May version call s op m k → NameFits version op
    fits s (Enter d name n) m k may = may.0
    fits s op m k may = tt

    -- a claim gave it an inode that it had locked, or not
    own : (n : ℕ) (p : P Reply) (w : Wants) → Spares w → (back : GivesBack n p ⊎ Unit {0}) → (room ≡ MemInodes) ⊎ (room ≢ MemInodes) → (Spares (wants_back w back) → Blames p)
        → ((room ≡ MemInodes) × GivesBack n p) ⊎ Blames p
    own n p w ne (inl back) (inl same) later = inl (same, back)
    own n p Nothing ne (inl back) (inr other) later = inr (later other)
    own n p (Lacks kind) ne (inl back) (inr other) later = inr (later ne)
    own n p Excused ne (inl back) (inr other) later = inr (later ne)
    own n p w ne (inr none) same later = inr (later ne)

    goes : (s : Before) (op : Op) (m : Answer op → Option Mark) (k : Answer op → P Reply) (is : Asks version call s op m k) (a : Answer op) → Spares s.wants
        → (Spares (wants_after version call s op m k is a) → Blames (k a)) → (wanted op a ≡ Some room) ⊎ Goes op a (k a) (Blames (k a))
    goes s (Claim inode_type) m k is (New n) ne later = inr (own n (k (New n)) s.wants ne (is.1.2 n) (same_kind room MemInodes) later)
    goes s (Claim inode_type) m k is a ne later = wanted_or (wanted (Claim inode_type) a) s.wants (Blames (k a)) ne later
    goes s op m k is a ne later = wanted_or (wanted op a) s.wants (Blames (k a)) ne later

    blames : (s : Before) (p : P Reply) → AsksSo version call s p → Spares s.wants → Blames p
    blames s (Ret r) so ne = not_so s.wants s.changed r.answer so.1 ne
    blames s (Do op m k) so ne = (fits s op m k so.0.1, λ a. goes s op m k so.0 a ne (λ later. blames (after version call s op m k so.0 a) (k a) (so.1 a) later))

  pub calls_blame : (call : Call) → Blames (program version call)
  calls_blame call = blames call (holding [] fresh []) (program version call) (calls_ask version call) tt
