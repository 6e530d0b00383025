-- A new inode: the operation is its part.
use Rattle.inode_parts.proofs.Vocabulary.{◌≡◌, ℕ, ℤ, zero, suc, ◌+◌, List, Option, Some, None, refl, sym, ap, ◌∙◌, subst, w16, cast_signed, cast_unsigned, Super, Ret, Do, bind, plain, unmarked, Handover, bind-assoc, fetch, free_in, inode_blocks, look_in, make_in, new_from, new_inode, Made, Goes, reference_at, with_reference, Hand, InodePlace, One, Two, beside_new, new_left, new_value, NewInode, goes_to, goes_with, OfDevice, OfDirectory, OfFile, InodeType, Claim, kind_of, Carry, claim_at, claim_from, claim_in, claimed_in, claimed_of, Claimed, Heard, carry_in, handed, claim_ends, claimed_by, without_numbers, LeavesClaim, HasFreeSeat, free_seat, IsPart, Notes}
use Rattle.fs_machine.specs.Machines as code
use Rattle.fs_machine.specs.Steps as steps
use Rattle.inode_table.specs.Making as making
use Rattle.inode_table.specs.declared.new_inode.Made.TheVariants as searched
use Rattle.inode_machine.specs.World as above
use Rattle.path_walk.specs.declared.asks.Heard.TheVariants as heard
use Rattle.inode_parts.proofs.Basics.{still_in, plain_fetch}
use Rattle.inode_parts.proofs.Afterwards.{then_plain}

-- what is answered above
abbrev answers : Carry → Made → code.P (Handover above.ClaimResult Carry)
answers c a = Ret (record { answer = claimed_of (claimed_by a); carry = c })

-- n blocks looked through
plain_claim : (n : ℕ) (sizes : Super) (inode_type : InodeType) (c : Carry) (m : above.ClaimResult → Option above.Mark) (q : ℕ) → plain (claim_from n sizes inode_type c m q) ≡ bind (new_from n (kind_of inode_type) sizes q) (answers c)
unfolding claim_from new_from
plain_claim zero sizes inode_type c m q = refl
plain_claim (suc n) sizes inode_type c m q =
    let b = sizes.inodestart + q in
    then_plain (fetch b) (fetch b) (claim_at (claim_from n sizes inode_type c m (q + 1)) sizes inode_type c m n q b) (λ bytes. bind (look_in (new_from n (kind_of inode_type) sizes (q + 1)) (kind_of inode_type) sizes.ninodes q b bytes) (answers c)) (plain_fetch b)
    (λ bytes i. Do (steps.Claim b (free_in sizes.ninodes q bytes)) unmarked (λ a. looked bytes (plain_claim n sizes inode_type c m (q + 1)) a i))
    ∙ sym (bind-assoc (fetch b) (look_in (new_from n (kind_of inode_type) sizes (q + 1)) (kind_of inode_type) sizes.ninodes q b) (answers c))
  where
    looked : (bytes : List ℕ) → plain (claim_from n sizes inode_type c m (q + 1)) ≡ bind (new_from n (kind_of inode_type) sizes (q + 1)) (answers c) → (a : steps.ClaimResult)
        → plain (claim_in (claim_from n sizes inode_type c m (q + 1)) (kind_of inode_type) (sizes.inodestart + q) bytes c a) ≡ bind (make_in (new_from n (kind_of inode_type) sizes (q + 1)) (kind_of inode_type) (sizes.inodestart + q) bytes a) (answers c)
    looked bytes rest (steps.Claims i) = refl
    looked bytes rest steps.NoPlace = refl
    looked bytes rest steps.NoInode = rest

-- a type's number passes as it is
pub kind_passes : (sizes : Super) (inode_type : InodeType) (k : ℤ) → k ≡ kind_of inode_type → let p : code.P Made = new_inode (cast_signed w16 (cast_unsigned w16 k)) sizes in p ≡ new_inode (kind_of inode_type) sizes
kind_passes sizes inode_type k e = ap (λ (k : ℤ). let p : code.P Made = new_inode (cast_signed w16 (cast_unsigned w16 k)) sizes in p) e ∙ by inode_type
  where
    by : (s : InodeType) → let p : code.P Made = new_inode (cast_signed w16 (cast_unsigned w16 (kind_of s))) sizes in p ≡ new_inode (kind_of s) sizes
    by OfDirectory = refl
    by OfFile = refl
    by (OfDevice major) = refl

pub claim_is_part : (sizes : Super) (inode_type : InodeType) (path : List ℕ) (m : Notes) (h : Hand) (r : NewInode) → new_left r h ≡ new_inode (kind_of inode_type) sizes → IsPart sizes (carry_in path m h) (Claim inode_type) (bind (new_left r h) (claim_ends path (carry_in path m h)))
claim_is_part sizes inode_type path m h r program =
    let c : Carry = carry_in path m h in
    subst (λ (p : code.P Made). IsPart sizes c (Claim inode_type) (bind p (claim_ends path c))) (sym program)
    (λ mark. plain_claim (inode_blocks sizes.ninodes) sizes inode_type c mark 0 ∙ sym (bind-assoc (new_inode (kind_of inode_type) sizes) (claim_ends path c) (λ r. Ret (record { answer = claimed_in r.answer.1; carry = r.carry }))))

-- ---- how it goes on

module _ (path : List ℕ) (m : Notes) (k : InodePlace) (before h : Hand) (p : code.P Made) (answer : (o : steps.Op) → steps.Answer o) (same : beside_new k h ≡ beside_new k before) where
  -- the locks stay
  stays : carry_in path m before ≡ carry_in path m h
  stays = still_in path m before h (sym (one k same)) (sym (two k same))
    where
      one : (k : InodePlace) → beside_new k h ≡ beside_new k before → h.one ≡ before.one
      one One e = ap (λ (h : Hand). h.one) e
      one Two e = ap (λ (h : Hand). h.one) e

      two : (k : InodePlace) → beside_new k h ≡ beside_new k before → h.two ≡ before.two
      two One e = ap (λ (h : Hand). h.two) e
      two Two e = ap (λ (h : Hand). h.two) e

  ends_same : claim_ends path (carry_in path m before) ≡ claim_ends path (carry_in path m h)
  ends_same = ap (claim_ends path) stays

  pub claim_on : (q : code.P Made) → Goes p answer q → Goes (bind p (claim_ends path (carry_in path m before))) answer (bind q (claim_ends path (carry_in path m h)))
  claim_on q goes = goes_with p q (claim_ends path (carry_in path m before)) (claim_ends path (carry_in path m h)) answer ends_same goes

  pub claim_over : (a : Made) (x : Heard) → x ≡ heard.Claimed (claimed_by a) → Goes p answer (Ret a) → Goes (bind p (claim_ends path (carry_in path m before))) answer (Ret (handed path m x h))
  claim_over a x e goes =
      goes_to (bind p (claim_ends path (carry_in path m before))) (claim_ends path (carry_in path m h) a) (Ret (handed path m x h)) answer
      (goes_with p (Ret a) (claim_ends path (carry_in path m before)) (claim_ends path (carry_in path m h)) answer ends_same goes) (λ i. Ret (record { answer = (path, sym e i); carry = carry_in path m h }))

-- ---- what it leaves

reference_put : (k : InodePlace) (start h : Hand) → start.first ≡ None → h.first ≡ None → beside_new k h ≡ beside_new k start → without_numbers h ≡ without_numbers (with_reference k (reference_at k h) start)
reference_put One start h empty over same = λ i. record (same i) { first = (over ∙ sym empty) i; to_one = h.to_one }
reference_put Two start h empty over same = λ i. record (same i) { first = (over ∙ sym empty) i; to_two = h.to_two }

as_it_was : (k : InodePlace) (h : Hand) → with_reference k (reference_at k h) h ≡ h
as_it_was One h = refl
as_it_was Two h = refl

module _ (k : InodePlace) (start h : Hand) (at : k ≡ free_seat start) (free : HasFreeSeat start) (empty : start.first ≡ None) (over : h.first ≡ None) (same : beside_new k h ≡ beside_new k start) where
  put_so : (r : Option ℕ) → reference_at k h ≡ r → without_numbers h ≡ without_numbers (with_reference (free_seat start) r start)
  put_so r there = reference_put k start h empty over same ∙ (λ i. without_numbers (with_reference (at i) (there i) start))

  none_so : reference_at k h ≡ None → without_numbers h ≡ without_numbers start
  none_so there = put_so None there ∙ ap (λ (o : Option ℕ). without_numbers (with_reference (free_seat start) o start)) (sym free) ∙ ap without_numbers (as_it_was (free_seat start) start)

  left_so : (out : Made) → reference_at k h ≡ making.claimed_of out → LeavesClaim (claimed_of (claimed_by (new_value out h))) start h
  left_so (searched.Inode n) there = put_so (Some n) there
  left_so searched.NoPlace there = none_so there
  left_so searched.NoInode there = none_so there

  pub claim_leaves : (out : Made) (x : Claimed) → reference_at k h ≡ making.claimed_of out → x ≡ claimed_by (new_value out h) → LeavesClaim (claimed_of x) start h
  claim_leaves out x there e = subst (λ (x : Claimed). LeavesClaim (claimed_of x) start h) (sym e) (left_so out there)
