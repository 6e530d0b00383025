-- How a call over whole inodes goes on below.
use Rattle.inode_parts.proofs.Vocabulary.{◌≡◌, ℕ, List, Some, refl, sym, ap, ◌∙◌, subst, Reply, Super, Ret, Do, part_begins, P, Hand, Goes, goes_bind, IsEmpty, machine, Op, Carry, below, nothing, handlers, asks, hears, Heard, with_text, carry_in, handed, answer_by, hears_in, IsPart, Part, lowered, with_part, Notes}
use Rattle.atomic_programs.specs.Prog as progs
use Rattle.fs_machine.specs.Steps as steps
use Rattle.inode_machine.specs.Parts as above

same_asks : (p : above.P Reply) → progs.asks p ≡ asks p
same_asks (Ret r) = refl
same_asks (Do op m k) = refl

pub same_hears : (sizes : Super) (text : List ℕ) (p : above.P Reply) (x : Heard) → hears text p x ≡ hears_in sizes p (text, x)
same_hears sizes text (Ret r) x = refl
same_hears sizes text (Do op m k) x = refl

-- the part's operation is the next one
pub asks_with : (sizes : Super) (q : Part) (p : List ℕ → above.P Reply) (op : steps.Op) → progs.asks q ≡ Some op → progs.asks (with_text sizes q p) ≡ Some op
asks_with sizes (Ret r) p op e = absurd (cc e)
asks_with sizes (Do o m k) p op e = e

-- it goes on within the call
pub goes_within : (sizes : Super) (q r : Part) (p : List ℕ → above.P Reply) (answer : (o : steps.Op) → steps.Answer o) → Goes q answer r → Goes (with_text sizes q p) answer (with_text sizes r p)
goes_within sizes q r p answer went = goes_bind q r (λ end. lowered sizes end.carry (hears_in sizes (p end.answer.0) end.answer)) answer went

-- a hart with nothing in hand
pub nothing_in : (path : List ℕ) (m : Notes) (h : Hand) → IsEmpty h → carry_in path m h ≡ nothing
nothing_in path m h e = ap (carry_in path m) e

module _ (sizes : Super) (path : List ℕ) (m : Notes) (h : Hand) where
  abbrev c : Carry
  c = carry_in path m h

  -- a call begins, or goes on with its next operation
  pub begins_so : (p : above.P Reply) (op : Op) (q : Part) → asks p ≡ Some op → IsPart sizes c op q → lowered sizes c p ≡ with_part sizes q p
  begins_so p op q e is = part_begins (machine sizes.version) (below sizes) (handlers sizes) answer_by c p op q (same_asks p ∙ e) is

  module _ (q : Part) (p : List ℕ → above.P Reply) (x : Heard) (answer : (o : steps.Op) → steps.Answer o) (went : Goes q answer (Ret (handed path m x h))) where
    heard_so : (p' : above.P Reply) → hears path (p path) x ≡ p' → Goes (with_text sizes q p) answer (lowered sizes c p')
    heard_so p' e =
        subst (λ (p' : above.P Reply). Goes (with_text sizes q p) answer (lowered sizes c p')) (sym (same_hears sizes path (p path) x) ∙ e)
        (goes_bind q (Ret (handed path m x h)) (λ r. lowered sizes r.carry (hears_in sizes (p r.answer.0) r.answer)) answer went)

    -- the next one's text is handed over in its turn
    pub asks_on : (p' : above.P Reply) (op : Op) (next : Part) (then_ : List ℕ → above.P Reply) → hears path (p path) x ≡ p' → asks p' ≡ Some op → IsPart sizes c op next → with_part sizes next p' ≡ with_text sizes next then_
        → Goes (with_text sizes q p) answer (with_text sizes next then_)
    asks_on p' op next then_ e asked is same = subst (λ (r : P Reply). Goes (with_text sizes q p) answer r) (begins_so p' op next asked is ∙ same) (heard_so p' e)

    pub ends_on : (r : Reply) → hears path (p path) x ≡ Ret r → Goes (with_text sizes q p) answer (Ret r)
    ends_on r e = heard_so (Ret r) e

-- a call with its first part is its program below
pub new_is : (sizes : Super) (path : List ℕ) (m : Notes) (h : Hand) (p q : above.P Reply) (op : Op) (first : Part) → IsEmpty h → p ≡ q → asks p ≡ Some op → IsPart sizes (carry_in path m h) op first → with_part sizes first p ≡ lowered sizes nothing q
new_is sizes path m h p q op first empty same e is =
    sym (begins_so sizes path m h p op first e is) ∙ (λ i. lowered sizes (nothing_in path m h empty i) (same i))
