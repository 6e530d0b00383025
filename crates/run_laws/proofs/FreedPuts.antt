-- The last step of a freeing puts the inode's record without a type.
use Rattle.run_laws.proofs.Vocabulary.{◌≡◌, ℕ, ◌==◌, Bool, true, false, if◌then◌else◌, List, [], ◌∷◌, ◌++◌, take, Option, Some, refl, sym, ◌∙◌, ap, append_assoc, Dinode, Super, Handover, Carry, bind, fetch, Put, table_of, direct, inode_block, record_in, AnsweredStep, ComesTo, HasRead}
use Rattle.bitmap_alloc.specs.Programs.{free_block}
use Rattle.inode_data.specs.Freeing.{free_in_table, free_indirect, free_numbers, free_table, freed, without_content}
use Rattle.inode_machine.specs.World as above
use Rattle.inode_machine.specs.World.Op.{Free}
use Rattle.inode_table.specs.Programs.{store, with_dinode}
use Rattle.inodes_on_blocks.specs.Emptying.{give_content}
use Rattle.inodes_on_blocks.specs.Handlers.{P}
use Rattle.inodes_on_blocks.specs.Lowering.{Emptied}
use Rattle.inodes_on_blocks.specs.Storing.{put_record}
use Rattle.fs_layout.specs.Indirect.{numbers_in}
use Rattle.run_laws.specs.Unlinked.{FreesPutNoType, PutsNoType}
use Rattle.run_laws.proofs.Searches.{fetched, read_back, split}

-- ---- what goes before

-- after some of these steps the others are that program's, which ends so
record Behind {A : Type 0} (after : P A) (es : List AnsweredStep) (r : A) : Type 0 where
  front : List AnsweredStep
  back : List AnsweredStep
  is : es ≡ front ++ back
  goes : ComesTo after back r

at_once : {A : Type 0} (after : P A) (es : List AnsweredStep) (r : A) → ComesTo after es r → Behind after es r
at_once after es r c = record { front = []; back = es; is = refl; goes = c }

later : {A : Type 0} (after : P A) (es xs ys : List AnsweredStep) (r : A) → es ≡ xs ++ ys → Behind after ys r → Behind after es r
later after es xs ys r is b = record {
  front = xs ++ b.front;
  back = b.back;
  is = is ∙ ap (λ (z : List AnsweredStep). xs ++ z) b.is ∙ sym (append_assoc xs b.front b.back);
  goes = b.goes;
}

module _ {A : Type 0} (bitmap : ℕ) (r : A) where
  numbers_behind : (bs : List ℕ) (after : P A) (es : List AnsweredStep) → ComesTo (free_numbers bitmap bs after) es r → Behind after es r
  numbers_behind [] after es c = at_once after es r c
  numbers_behind (b ∷ bs) after es c = at (b == 0) (λ ys q. numbers_behind bs after ys q) c
    where
      at : (z : Bool) → ((ys : List AnsweredStep) → ComesTo (free_numbers bitmap bs after) ys r → Behind after ys r)
          → ComesTo (if z then free_numbers bitmap bs after else bind (free_block bitmap b) (λ _. free_numbers bitmap bs after)) es r
          → Behind after es r
      at true rest q = rest es q
      at false rest q =
          let s = split (free_block bitmap b) (λ _. free_numbers bitmap bs after) es r q in
          later after es s.front s.back r s.is (rest s.back s.then_)

  table_behind : (table : ℕ) (after : P A) (es : List AnsweredStep) → ComesTo (free_table bitmap table after) es r → Behind after es r
  table_behind table after [] c = absurd c
  table_behind table after (e ∷ es) c =
      let s = split (free_block bitmap table) (λ _. after) es r c.2 in
      later after (e ∷ es) (e ∷ []) es r refl (later after es s.front s.back r s.is (at_once after s.back r s.then_))

  indirect_behind : (table : ℕ) (after : P A) (es : List AnsweredStep) → ComesTo (free_indirect bitmap table after) es r → Behind after es r
  indirect_behind table after es c = at (table == 0) c
    where
      at : (z : Bool) → ComesTo (if z then after else bind (fetch table) (free_in_table bitmap table after)) es r → Behind after es r
      at true q = at_once after es r q
      at false q =
          let s = split (fetch table) (free_in_table bitmap table after) es r q in
          let b = numbers_behind (numbers_in s.value) (free_table bitmap table after) s.back s.then_ in
          later after es s.front s.back r s.is (later after s.back b.front b.back r b.is (table_behind table after b.back b.goes))

content_behind : {A : Type 0} (sizes : Super) (d : Dinode) (after : P A) (es : List AnsweredStep) (r : A)
    → ComesTo (give_content sizes d after) es r → Behind after es r
content_behind sizes d after es r c =
    let b = numbers_behind sizes.bmapstart r (take direct d.addrs) (free_indirect sizes.bmapstart (table_of d) after) es c in
    later after es b.front b.back r b.is (indirect_behind sizes.bmapstart r (table_of d) after b.back b.goes)

-- ---- the record

puts_last : (sizes : Super) (n : ℕ) (d : Dinode) (m : Unit {0} → Option above.Mark) (c : Carry) (block : List ℕ) (es : List AnsweredStep)
    (r : Handover (Unit {0}) Carry)
    → ComesTo (put_record (Free n) m tt (inode_block sizes.inodestart n) n d Emptied c block) es r
    → es ≡ (Put (inode_block sizes.inodestart n) (Some (with_dinode n d block)), tt) ∷ []
puts_last sizes n d m c block [] r q = absurd q
puts_last sizes n d m c block (y ∷ x ∷ ys) r q = absurd q.2
puts_last sizes n d m c block (y ∷ []) r q = ap (λ (z : AnsweredStep). z ∷ []) q.1

pub frees_put : FreesPutNoType
frees_put sizes c n m es r q =
    let b = content_behind sizes (record_in c n) (bind (store sizes.inodestart n d) (λ _. last)) es r q in
    let s = split (store sizes.inodestart n d) (λ _. last) b.back r b.goes in
    let t = split (fetch at) (put_record (Free n) m tt at n (freed d) Emptied c) s.back r s.then_ in
    ends es b.front b.back s.front s.back t.front t.back t.value b.is s.is t.is (fetched at t.front t.value t.first)
    (puts_last sizes n (freed d) m c t.value t.back r t.then_)
  where
    d : Dinode
    d = without_content (record_in c n)

    at : ℕ
    at = inode_block sizes.inodestart n

    last : P (Handover (Unit {0}) Carry)
    last = bind (fetch at) (put_record (Free n) m tt at n (freed d) Emptied c)

    ends : (es us vs xs ys ws zs : List AnsweredStep) (block : List ℕ) → es ≡ us ++ vs → vs ≡ xs ++ ys → ys ≡ ws ++ zs → HasRead ws at block
        → zs ≡ (Put at (Some (with_dinode n (freed d) block)), tt) ∷ [] → PutsNoType sizes es n
    ends es us vs xs ys ws zs block is_es is_vs is_ys read put = record {
      front = us ++ (xs ++ ws);
      block = block;
      read = read_back (us ++ (xs ++ ws)) us (xs ++ ws) at block refl (read_back (xs ++ ws) xs ws at block refl read);
      inode = freed d;
      free = refl;
      is =
          is_es ∙ ap (λ (l : List AnsweredStep). us ++ l)
          (is_vs ∙ ap (λ (l : List AnsweredStep). xs ++ l) (is_ys ∙ ap (λ (l : List AnsweredStep). ws ++ l) put)
          ∙ sym (append_assoc xs ws ((Put at (Some (with_dinode n (freed d) block)), tt) ∷ [])))
          ∙ sym (append_assoc us (xs ++ ws) ((Put at (Some (with_dinode n (freed d) block)), tt) ∷ []));
    }
