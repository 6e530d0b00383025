-- Room of a transaction beside blocks that it has recorded, however often: each of them counts once.
use Rattle.inodes_on_blocks.proofs.Vocabulary.{◌≡◌, ◌⊎◌, inl, inr, ℕ, suc, ◌+◌, ◌<◌, ◌≤◌, ◌==◌, ◌||◌, ◌&&◌, not, ◌≢◌, Bool, true, false, List, [], ◌∷◌, ◌++◌, length, Option, Some, refl, sym, ◌∙◌, ap, subst, arith, if◌then◌else◌, slice_get, Super, eq_is, eq_not, has, with_block, one_more, pick, Spent, size, with_number, with_contents, most_recorded, LogPart, put_block, used, Accounts, IsSpent, LeavesGroup, World, log_of, KeepsRoom, world_with, HasSpent}
use Rattle.inode_machine.specs.Budget as budget
use Rattle.inodes_on_blocks.proofs.Accounts.{one_more_at, transactions_have_room}
use Rattle.inodes_on_blocks.proofs.Committing.{is_member}
use Rattle.inodes_on_blocks.proofs.Groups.{has_last, has_members, member_at, put_grows}
use Rattle.inodes_on_blocks.proofs.SpentRoom.{has_number, left, left_but, spent_gives, other_spends}

-- each of these blocks is in the group, while the hart is in its transaction
abbrev pub AreIn : ℕ → List ℕ → LogPart → Type 0
AreIn h bs l = (b m : ℕ) → slice_get l.members h ≡ Some (Some m) → budget.has bs b ≡ true → has l.group b ≡ true

-- no more was spent than s and these blocks, which the group has
abbrev pub HasBlocks : Super → ℕ → Spent → List ℕ → World → Type 0
HasBlocks sizes h s bs w = HasSpent sizes h (with_contents (length bs) s) w × AreIn h bs (log_of w)

-- ---- lists

number_has : (bs : List ℕ) (b c : ℕ) → budget.has (with_number bs b) c ≡ true → (c ≡ b) ⊎ (budget.has bs c ≡ true)
number_has bs b c e =
    pick (budget.has bs b) (λ t. budget.has (if t then bs else b ∷ bs) c ≡ true → (c ≡ b) ⊎ (budget.has bs c ≡ true)) (λ _ z. inr z)
    (λ _ z. pick (c == b) (λ t. (c == b) ≡ t → (t || budget.has bs c) ≡ true → (c ≡ b) ⊎ (budget.has bs c ≡ true)) (λ is _ _. inl (eq_is c b is)) (λ _ _ y. inr y) refl z) e

block_there : (ks : List ℕ) (b : ℕ) → has (with_block ks b) b ≡ true
block_there ks b = pick (has ks b) (λ t. has (if t then ks else ks ++ b ∷ []) b ≡ true) (λ e. e) (λ _. has_last ks b)

-- who is in a transaction after a put was in it before
member_before : (ms : List (Option ℕ)) (h m : ℕ) (there : Bool) → slice_get (if there then ms else one_more ms h) h ≡ Some (Some m) → (j : ℕ) × (slice_get ms h ≡ Some (Some j))
member_before ms h m true e = (m, e)
member_before ms h m false e = let at = one_more_at ms h m e in (at.0, at.1)

-- ---- blocks in the group

in_then : (h : ℕ) (bs : List ℕ) (l m : LogPart) → LeavesGroup h l m → AreIn h bs l → AreIn h bs m
in_then h bs l m leaves all b k e has_ = let was = sym leaves.member ∙ e in leaves.group b (has_members l.members h k was) (all b k was has_)

in_put : (h b : ℕ) (bytes bs : List ℕ) (l : LogPart) → AreIn h bs l → AreIn h bs (put_block h b (Some bytes) l)
in_put h b bytes bs l all c m e has_ = let was = member_before l.members h m (has l.group b) e in put_grows l.group b c (all c was.0 was.1 has_)

in_more : (h b : ℕ) (bytes bs : List ℕ) (l : LogPart) → AreIn h bs l → AreIn h (with_number bs b) (put_block h b (Some bytes) l)
in_more h b bytes bs l all c m e has_ = elim (number_has bs b c has_) [
  | inl is ↦ ap (has (with_block l.group b)) is ∙ block_there l.group b
  | inr old ↦ in_put h b bytes bs l all c m e old
]

-- one of them is put again
again_put : (h b : ℕ) (bytes bs : List ℕ) (l : LogPart) (s : Spent) → AreIn h bs l → budget.has bs b ≡ true → Accounts h l s → Accounts h (put_block h b (Some bytes) l) s
again_put h b bytes bs l s all there accounts = by (has l.group b) refl
  where
    by : (t : Bool) → has l.group b ≡ t → (k : ℕ) → slice_get (if t then l.members else one_more l.members h) h ≡ Some (Some k) → k ≤ used (record l { group = if t then l.group else l.group ++ b ∷ [] }) s
    by true is k e = accounts k e
    by false is k e = let at = one_more_at l.members h k e in absurd (let q : false ≡ true = sym is ∙ all b at.0 at.1 there in cc)

-- ---- room

-- a block that s names, as often as wanted
pub named_room : (sizes : Super) (h b : ℕ) (s : Spent) (bs : List ℕ) → IsSpent sizes s b → size s + length bs ≤ most_recorded → KeepsRoom h b (HasBlocks sizes h s bs) (HasBlocks sizes h s bs)
named_room sizes h b s bs spent few =
    let keeps = spent_gives sizes h b (with_contents (length bs) s) spent (omega (arith, few)) in
    record {
      gives = record {
        lasts = λ v w same known. (keeps.gives.lasts v w same known.0, in_then h bs (log_of v) (log_of w) (left h v w same) known.1);
        fetched = λ k v w same known. (keeps.gives.fetched k v w same known.0, in_then h bs (log_of v) (log_of w) (left_but h k v w same) known.1);
        room = λ v known joined. keeps.gives.room v known.0 joined;
      };
      put = λ bytes r known. (keeps.put bytes r known.0, in_put h b bytes bs (log_of r) known.1);
    }

-- any other block, which is one of them then
pub block_room : (sizes : Super) (h b : ℕ) (s : Spent) (bs : List ℕ) → (budget.has bs b ≡ false → size s + length bs < most_recorded) → KeepsRoom h b (HasBlocks sizes h s bs) (HasBlocks sizes h s (with_number bs b))
block_room sizes h b s bs few = by (budget.has bs b) refl
  where
    by : (t : Bool) → budget.has bs b ≡ t → KeepsRoom h b (HasBlocks sizes h s bs) (HasBlocks sizes h s (if t then bs else b ∷ bs))
    by true is =
        record {
          gives = record {
            lasts = λ v w same known. (spent_then v w (left h v w same) known.0, in_then h bs (log_of v) (log_of w) (left h v w same) known.1);
            fetched = λ k v w same known. (spent_then v w (left_but h k v w same) known.0, in_then h bs (log_of v) (log_of w) (left_but h k v w same) known.1);
            room = λ v known joined out. absurd (let at = member_at (log_of v).members h (is_member (log_of v).members h joined) in let q : false ≡ true = sym out ∙ known.1 b at.0 at.1 is in cc);
          };
          put = λ bytes r known. ((known.0.0, again_put h b bytes bs (log_of r) (with_contents (length bs) s) known.1 is known.0.1), in_put h b bytes bs (log_of r) known.1);
        }
      where
        spent_then : (v w : World) → LeavesGroup h (log_of v) (log_of w) → HasSpent sizes h (with_contents (length bs) s) v → HasSpent sizes h (with_contents (length bs) s) w
        spent_then v w leaves known = (leaves.sizes ∙ known.0, (transactions_have_room h (log_of v)).lasts (log_of w) (with_contents (length bs) s) leaves known.1)
    by false isnt =
        let keeps = other_spends sizes h b (with_contents (length bs) s) (let room = few isnt in omega (arith, room)) in
        record {
          gives = record {
            lasts = λ v w same known. (keeps.gives.lasts v w same known.0, in_then h bs (log_of v) (log_of w) (left h v w same) known.1);
            fetched = λ k v w same known. (keeps.gives.fetched k v w same known.0, in_then h bs (log_of v) (log_of w) (left_but h k v w same) known.1);
            room = λ v known joined. keeps.gives.room v known.0 joined;
          };
          put = λ bytes r known. (
            subst (λ (q : Spent). HasSpent sizes h q (world_with h b bytes r)) one (keeps.put bytes r known.0),
            subst (λ (t : Bool). AreIn h (if t then bs else b ∷ bs) (log_of (world_with h b bytes r))) isnt (in_more h b bytes bs (log_of r) known.1),
          );
        }
      where
        one : with_contents 1 (with_contents (length bs) s) ≡ with_contents (suc (length bs)) s
        one = let sum : s.contents + length bs + 1 ≡ s.contents + suc (length bs) = omega arith in λ i. record s { contents = sum i }

-- ---- how many blocks

abbrev pub one_of : Bool → ℕ
one_of true = 1
one_of false = 0

-- one for the indirect block, if the content may reach it and it isn't among these
abbrev pub extra : Bool → List ℕ → ℕ → ℕ
extra far bs t = one_of (far && not (not (t == 0) && budget.has bs t))

pub extra_none : (bs : List ℕ) → extra true bs 0 ≡ 1
extra_none bs = refl

pub extra_there : (far : Bool) (bs : List ℕ) (t : ℕ) → t ≢ 0 → budget.has bs t ≡ true → extra far bs t ≡ 0
extra_there far bs t some has_ = rw (eq_not t 0 some, has_) (by far)
  where
    by : (v : Bool) → one_of (v && false) ≡ 0
    by true = refl
    by false = refl

pub extra_missing : (bs : List ℕ) (t : ℕ) → budget.has bs t ≡ false → extra true bs t ≡ 1
extra_missing bs t none = rw none (by (t == 0))
  where
    by : (v : Bool) → one_of (not (not v && false)) ≡ 1
    by true = refl
    by false = refl

pub number_more : (bs : List ℕ) (b : ℕ) → length (with_number bs b) ≤ suc (length bs)
number_more bs b = pick (budget.has bs b) (λ t. length (if t then bs else b ∷ bs) ≤ suc (length bs)) (λ _. omega arith) (λ _. omega arith)

pub number_new : (bs : List ℕ) (b : ℕ) → budget.has bs b ≡ false → length (with_number bs b) ≡ suc (length bs)
number_new bs b e = ap (λ (t : Bool). length (if t then bs else b ∷ bs)) e

pub number_again : (bs : List ℕ) (b : ℕ) → budget.has bs b ≡ true → with_number bs b ≡ bs
number_again bs b e = ap (λ (t : Bool). if t then bs else b ∷ bs) e

-- what is there stays
pub number_stays : (bs : List ℕ) (b c : ℕ) → budget.has bs c ≡ true → budget.has (with_number bs b) c ≡ true
number_stays bs b c e = pick (budget.has bs b) (λ t. budget.has (if t then bs else b ∷ bs) c ≡ true) (λ _. e) (λ _. pick (c == b) (λ t. (t || budget.has bs c) ≡ true) (λ _. refl) (λ _. e))

pub number_before : (bs : List ℕ) (b c : ℕ) → budget.has (with_number bs b) c ≡ false → budget.has bs c ≡ false
number_before bs b c e = pick (budget.has bs c) (λ t. budget.has bs c ≡ t → t ≡ false) (λ _ is. let q : true ≡ false = sym (number_stays bs b c is) ∙ e in cc) (λ _ _. refl) refl

extra_less : (far : Bool) (bs : List ℕ) (b t : ℕ) → extra far (with_number bs b) t ≤ extra far bs t
extra_less false bs b t = omega arith
extra_less true bs b t = pick (t == 0) (λ z. one_of (not (not z && budget.has (with_number bs b) t)) ≤ one_of (not (not z && budget.has bs t))) (λ _. let e : 1 ≤ 1 = omega arith in e)
    (λ _. by (budget.has bs t) refl (budget.has (with_number bs b) t) refl)
  where
    by : (v : Bool) → budget.has bs t ≡ v → (w : Bool) → budget.has (with_number bs b) t ≡ w → one_of (not w) ≤ one_of (not v)
    by true is true now = let e : 0 ≤ 0 = omega arith in e
    by false isnt true now = let e : 0 ≤ 1 = omega arith in e
    by false isnt false now = let e : 1 ≤ 1 = omega arith in e
    by true is false now = absurd (let q : true ≡ false = sym (number_stays bs b t is) ∙ now in cc)

-- one block more
pub cost_more : (far : Bool) (bs : List ℕ) (b t : ℕ) → length (with_number bs b) + extra far (with_number bs b) t ≤ suc (length bs + extra far bs t)
cost_more far bs b t = let a = number_more bs b in let c = extra_less far bs b t in omega (arith, a, c)

-- and the indirect block with its number
pub cost_both : (bs : List ℕ) (b t : ℕ) → t ≢ 0 → length (with_number (with_number bs b) t) + extra true (with_number (with_number bs b) t) t ≤ suc (length bs + extra true bs t)
cost_both bs b t some =
    let there = extra_there true (with_number (with_number bs b) t) t some (has_number (with_number bs b) t) in
    pick (budget.has bs t) (λ v. budget.has bs t ≡ v → length (with_number (with_number bs b) t) + extra true (with_number (with_number bs b) t) t ≤ suc (length bs + extra true bs t))
    (λ _ is.
    let same : length (with_number (with_number bs b) t) ≡ length (with_number bs b) = ap (λ (ks : List ℕ). length ks) (number_again (with_number bs b) t (number_stays bs b t is)) in
    let a = number_more bs b in
    omega (arith, there, same, a))
    (λ _ isnt. let one = extra_missing bs t isnt in let a = number_more bs b in let c = number_more (with_number bs b) t in omega (arith, there, one, a, c))
    refl

-- ---- the beginning and the end

pub blocks_start : (sizes : Super) (h : ℕ) (s : Spent) (w : World) → HasSpent sizes h s w → HasBlocks sizes h s [] w
blocks_start sizes h s w known = ((known.0, λ k e. let few = known.1 k e in omega (arith, few)), λ b m e there. absurd (let q : false ≡ true = there in cc))

pub blocks_end : (sizes : Super) (h : ℕ) (s : Spent) (bs : List ℕ) (most : ℕ) (w : World) → length bs ≤ most → HasBlocks sizes h s bs w → HasSpent sizes h (with_contents most s) w
blocks_end sizes h s bs most w fits known = (known.0.0, λ k e. let few = known.0.1 k e in omega (arith, few, fits))
