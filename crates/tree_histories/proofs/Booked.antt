-- The list that code keeps goes on as the theory's history does.
use Rattle.tree_histories.proofs.Vocabulary.{Version, ◌≡◌, inl, inr, ℕ, zero, suc, ◌-◌, ◌^◌, ◌<◌, List, [], ◌∷◌, ◌++◌, map, map_push, replicate, get_or, length, Option, Some, None, refl, sym, ◌∙◌, ap, subst, arith, cases_eq, length_push, length-set, Reply, Call, Placed, ends_at, put, TreeData, hart_count, put_same, put_other, Deed, History, HartStanding, entry_of, replies, starts, tells, tells_any, writes, writes_any, Free, Busy, map_length, nothing_yet, IsBook, StandsAs, capped_entry, HasStarted, KeptTree, Under, capped, counted, hart_in, nothing_kept, passed, with_hart, written, written_by}
use Rattle.tree_histories.proofs.Harts.{other_hart, same_hart}

no_hart : (n g : ℕ) → get_or (replicate n (let o : Option Under = None in o)) g None ≡ None
no_hart zero g = refl
no_hart (suc n) zero = refl
no_hart (suc n) (suc g) = no_hart n g

stands_free : (o : Option Under) (s : HartStanding) → o ≡ None → StandsAs o s
stands_free o s is = subst (λ (x : Option Under). StandsAs x s) (sym is) tt

-- nothing is kept beside nothing yet
pub book_none : (version : Version) (t : TreeData) → IsBook (nothing_kept version t) nothing_yet
book_none version t = record {
  harts = refl;
  list = refl;
  events = refl;
  calls = refl;
  stands = λ g gt. stands_free (hart_in (nothing_kept version t) g) Free (no_hart hart_count g);
}

-- ---- an event passes, a call starts, one replies

pub book_replies : (k : KeptTree) (b : History) (h : ℕ) (r : Reply) → h < hart_count → IsBook k b → IsBook (passed (with_hart k h None)) (replies b h r)
book_replies k b h r lt B = record {
  harts = length-set k.harts h None ∙ B.harts;
  list = B.list;
  events = let e = B.events in omega arith;
  calls = B.calls ∙ sym (map_length (ends_at h r b.trace.events) b.trace.calls);
  stands = λ g gt. elim (cases_eq g h) [
    | inl e ↦ stands_free (hart_in (with_hart k h None) g) (put b.calls h Free g) (same_hart k h None g e in_range)
    | inr ne ↦ subst (λ (o : Option Under). StandsAs o (put b.calls h Free g)) (sym (other_hart k h None g ne))
        (subst (λ (s : HartStanding). StandsAs (hart_in k g) s) (sym (put_other b.calls h Free g ne)) (B.stands g gt))
  ];
}
  where
    in_range : h < length k.harts
    in_range = let e = B.harts in omega arith

-- the new call has a place of its own
module _ (k : KeptTree) (b : History) (h : ℕ) (c : Call) (u : Under) (lt : h < hart_count) (calls : k.calls < 2 ^ 64 - 1) (B : IsBook k b) (id : u.id ≡ k.calls) where
  in_range : h < length k.harts
  in_range = let e = B.harts in omega arith

  stands_at : (g : ℕ) → g < hart_count → StandsAs (hart_in (with_hart k h (Some u)) g) (put b.calls h (Busy (length b.trace.calls) c []) g)
  stands_at g gt = elim (cases_eq g h) [
    | inl e ↦ subst (λ (o : Option Under). StandsAs o (put b.calls h (Busy (length b.trace.calls) c []) g)) (sym (same_hart k h (Some u) g e in_range))
        (subst (λ (s : HartStanding). StandsAs (Some u) s) (sym (ap (put b.calls h (Busy (length b.trace.calls) c [])) e ∙ put_same b.calls h (Busy (length b.trace.calls) c [])))
        (id ∙ B.calls))
    | inr ne ↦ subst (λ (o : Option Under). StandsAs o (put b.calls h (Busy (length b.trace.calls) c []) g)) (sym (other_hart k h (Some u) g ne))
        (subst (λ (s : HartStanding). StandsAs (hart_in k g) s) (sym (put_other b.calls h (Busy (length b.trace.calls) c []) g ne)) (B.stands g gt))
  ]

  pub book_starts : IsBook (passed (record (with_hart k h (Some u)) { calls = counted k.calls })) (starts b h c)
  book_starts = record {
    harts = length-set k.harts h (Some u) ∙ B.harts;
    list = B.list;
    events = let e = B.events in omega arith;
    calls = let e = B.calls in let n = length_push b.trace.calls (record { hart = h; start = b.trace.events; call = c; finished = None }) in omega arith;
    stands = stands_at;
  }

pub book_started : (k k' : KeptTree) (b : History) (h : ℕ) (c : Call) → h < hart_count → k.calls < 2 ^ 64 - 1 → HasStarted k h c k'
    → IsBook k b → IsBook k' (starts b h c)
book_started k k' b h c lt calls s B =
    subst (λ (x : KeptTree). IsBook x (starts b h c)) (sym s.kept) (book_starts k b h c s.under lt calls B s.fresh.0)

-- ---- an entry is written

module _ (k : KeptTree) (b : History) (h : ℕ) (d : Deed) (u : Under) (lt : h < hart_count) (B : IsBook k b) (is : hart_in k h ≡ Some u) where
  list_now : (id : ℕ) → u.id ≡ id → k.list ++ entry_of k.events u.id h d ∷ [] ≡ map capped_entry (b.list ++ entry_of b.trace.events id h d ∷ [])
  list_now id same =
      ap (λ (xs : List Placed). xs ++ entry_of k.events u.id h d ∷ []) B.list
      ∙ (ap (λ (n : ℕ). map capped_entry b.list ++ entry_of n u.id h d ∷ []) B.events
      ∙ (ap (λ (n : ℕ). map capped_entry b.list ++ entry_of (capped b.trace.events) n h d ∷ []) same
      ∙ sym (map_push capped_entry b.list (entry_of b.trace.events id h d))))

  book_by : (s : HartStanding) → StandsAs (Some u) s → IsBook (written_by k h d (Some u)) (writes s b h d)
  book_by Free x = absurd x
  book_by (Busy id c told) x = record { harts = B.harts; list = list_now id x; events = B.events; calls = B.calls; stands = B.stands }

  pub book_writes : IsBook (written_by k h d (Some u)) (writes (b.calls h) b h d)
  book_writes = book_by (b.calls h) (subst (λ (o : Option Under). StandsAs o (b.calls h)) is (B.stands h lt))

-- the history's entry is written in code, if the hart has a call there
pub book_written : (k : KeptTree) (b : History) (h : ℕ) (d : Deed) (u : Under) → h < hart_count → hart_in k h ≡ Some u → IsBook k b → IsBook (written k h d) (writes_any (Some d) h b)
book_written k b h d u lt is B =
    subst (λ (o : Option Under). IsBook (written_by k h d o) (writes_any (Some d) h b)) (sym is) (book_writes k b h d u lt B is)

-- what is reported to a call is no entry
tells_by : (k : KeptTree) (b : History) (h : ℕ) (d : Deed) (s : HartStanding) → b.calls h ≡ s → h < hart_count → IsBook k b → IsBook k (tells s b h d)
tells_by k b h d Free q lt B = B
tells_by k b h d (Busy id c told) q lt B = record {
  harts = B.harts;
  list = B.list;
  events = B.events;
  calls = B.calls;
  stands = λ g gt. elim (cases_eq g h) [
    | inl e ↦ subst (λ (s : HartStanding). StandsAs (hart_in k g) s) (sym (ap (put b.calls h (Busy id c (told ++ d.act ∷ []))) e ∙ put_same b.calls h (Busy id c (told ++ d.act ∷ []))))
        (told_more (hart_in k g) (subst (λ (s : HartStanding). StandsAs (hart_in k g) s) (ap b.calls e ∙ q) (B.stands g gt)))
    | inr ne ↦ subst (λ (s : HartStanding). StandsAs (hart_in k g) s) (sym (put_other b.calls h (Busy id c (told ++ d.act ∷ [])) g ne)) (B.stands g gt)
  ];
}
  where
    told_more : (o : Option Under) → StandsAs o (Busy id c told) → StandsAs o (Busy id c (told ++ d.act ∷ []))
    told_more None x = tt
    told_more (Some u) x = x

pub book_tells : (k : KeptTree) (b : History) (h : ℕ) (o : Option Deed) → h < hart_count → IsBook k b → IsBook k (tells_any o h b)
book_tells k b h None lt B = B
book_tells k b h (Some d) lt B = tells_by k b h d (b.calls h) refl lt B
