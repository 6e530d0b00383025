-- What is known of a transaction by what its call may have spent gives room for each block of that, and lasts.
use Rattle.inodes_on_blocks.proofs.Vocabulary.{◌≡◌, inl, inr, ℕ, ◌<◌, ◌≤◌, ◌||◌, true, Bool, List, [], ◌∷◌, refl, sym, ◌∙◌, ap, subst, if◌then◌else◌, Super, eq_self, pick, inode_block, Spent, size, with_number, with_inode as with_record, with_bitmap, with_contents, most_recorded, Accounts, IsSpent, LeavesGroup, World, log_of, KeepsRoom, SameBut, Same, HasSpent}
use Rattle.inode_machine.specs.Budget as budget
use Rattle.inodes_on_blocks.proofs.Accounts.{transactions_have_room, spent_put, other_put}
use Rattle.inodes_on_blocks.proofs.Committing.{is_member}
use Rattle.inodes_on_blocks.proofs.Groups.{member_at}

pub left : (h : ℕ) (v w : World) → Same h v w → LeavesGroup h (log_of v) (log_of w)
left h v w same = record { member = same.member; sizes = same.sizes; group = λ c m e. let at = member_at (log_of v).members h m in same.group c at.0 at.1 e }

pub left_but : (h k : ℕ) (v w : World) → SameBut h k v w → LeavesGroup h (log_of v) (log_of w)
left_but h k v w same = record { member = same.member; sizes = same.sizes; group = λ c m e. let at = member_at (log_of v).members h m in same.group c at.0 at.1 e }

-- the others leave it so
pub spent_stays : (sizes : Super) (h : ℕ) (s : Spent) (v w : World) → Same h v w → HasSpent sizes h s v → HasSpent sizes h s w
spent_stays sizes h s v w same known = (same.sizes ∙ known.0, (transactions_have_room h (log_of v)).lasts (log_of w) s (left h v w same) known.1)

-- a block that may be spent, as often as wanted
pub spent_gives : (sizes : Super) (h b : ℕ) (s : Spent) → IsSpent sizes s b → size s ≤ most_recorded → KeepsRoom h b (HasSpent sizes h s) (HasSpent sizes h s)
spent_gives sizes h b s spent few = record {
  gives = record {
    lasts = λ v w same known. spent_stays sizes h s v w same known;
    fetched = λ k v w same known. (same.sizes ∙ known.0, (transactions_have_room h (log_of v)).lasts (log_of w) s (left_but h k v w same) known.1);
    room = λ v known joined. ((transactions_have_room h (log_of v)).said b [] s (is_member (log_of v).members h joined) known.1 few (here v known.0)).0;
  };
  put = λ bytes r known. (known.0, spent_put h (log_of r) b bytes s known.1 (here r known.0));
}
  where
    here : (v : World) → (log_of v).sizes ≡ sizes → IsSpent (log_of v).sizes s b
    here v at = subst (λ (z : Super). IsSpent z s b) (sym at) spent

-- any other block, which is one content more
pub other_spends : (sizes : Super) (h b : ℕ) (s : Spent) → size s < most_recorded → KeepsRoom h b (HasSpent sizes h s) (HasSpent sizes h (with_contents 1 s))
other_spends sizes h b s few = record {
  gives = record {
    lasts = λ v w same known. spent_stays sizes h s v w same known;
    fetched = λ k v w same known. (same.sizes ∙ known.0, (transactions_have_room h (log_of v)).lasts (log_of w) s (left_but h k v w same) known.1);
    room = λ v known joined. ((transactions_have_room h (log_of v)).other b [] s (is_member (log_of v).members h joined) known.1 few).0;
  };
  put = λ bytes r known. (known.0, other_put h (log_of r) b bytes s known.1);
}

-- ---- what an operation on an inode spends

pub has_number : (ks : List ℕ) (n : ℕ) → budget.has (with_number ks n) n ≡ true
has_number ks n = pick (budget.has ks n) (λ t. budget.has (if t then ks else n ∷ ks) n ≡ true) (λ e. e) (λ _. ap (λ (t : Bool). t || budget.has ks n) (eq_self n))

-- the inode's block
pub record_spent : (sizes : Super) (n : ℕ) (s : Spent) → IsSpent sizes (with_record n s) (inode_block sizes.inodestart n)
record_spent sizes n s = inl (n, has_number s.records n, refl)

-- and the bitmap
pub bitmap_spent : (sizes : Super) (n : ℕ) (s : Spent) → IsSpent sizes (with_record n (with_bitmap s)) sizes.bmapstart
bitmap_spent sizes n s = inr (refl, refl)

-- what was spent before is no more
pub record_more : (h n : ℕ) (s : Spent) (w : World) → Accounts h (log_of w) s → Accounts h (log_of w) (with_record n s)
record_more h n s w known = (transactions_have_room h (log_of w)).record_more n s known

pub both_more : (h n : ℕ) (s : Spent) (w : World) → Accounts h (log_of w) s → Accounts h (log_of w) (with_record n (with_bitmap s))
both_more h n s w known = record_more h n (with_bitmap s) w ((transactions_have_room h (log_of w)).bitmap_more s known)
