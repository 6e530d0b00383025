-- The replies to a row of calls, one call after the other.
use Rattle.console_threads.proofs.Vocabulary.{◌≡◌, ◌+◌, ◌*◌, List, [], ◌∷◌, ◌++◌, length, ap, sym, ◌∙◌, arith, append_assoc, append-nil, length-append, inl, inr, Reply, Call, HandsBack, SeatV, AnswersSome, HasMade, HasMadeAll}

-- a call without a reply
unanswered : (calls : List Call) (call : Call) (replies : List Reply) → AnswersSome calls replies → AnswersSome (calls ++ call ∷ []) replies
unfolding AnswersSome
unanswered [] call [] are = tt
unanswered [] call (r ∷ rs) are = absurd are
unanswered (c ∷ cs) call [] are = tt
unanswered (c ∷ cs) call (r ∷ rs) (inl are) = inl (are.0, unanswered cs call rs are.1)
unanswered (c ∷ cs) call (r ∷ rs) (inr are) = inr (unanswered cs call (r ∷ rs) are)

none : (calls : List Call) → AnswersSome calls []
unfolding AnswersSome
none [] = tt
none (c ∷ cs) = tt

-- a call with its reply
answered : (calls : List Call) (call : Call) (replies : List Reply) (reply : Reply) → AnswersSome calls replies → HandsBack call reply → AnswersSome (calls ++ call ∷ []) (replies ++ reply ∷ [])
unfolding AnswersSome
answered [] call [] reply are is = inl (is, tt)
answered [] call (r ∷ rs) reply are is = absurd are
answered (c ∷ cs) call [] reply are is = inr (answered cs call [] reply (none cs) is)
answered (c ∷ cs) call (r ∷ rs) reply (inl are) is = inl (are.0, answered cs call rs reply are.1 is)
answered (c ∷ cs) call (r ∷ rs) reply (inr are) is = inr (answered cs call (r ∷ rs) reply are is)

-- no call yet
pub none_made : (s : SeatV) → HasMadeAll s [] s
unfolding AnswersSome
none_made s =
    let count : s.count ≡ s.count + 2 * 0 = omega arith in
    record { replies = []; are_of = tt; seat = λ i. record { hart = s.hart; replies = sym (append-nil s.replies) i; count = count i } }

-- and then one more
pub one_made : (s t u : SeatV) (calls : List Call) (call : Call) → HasMadeAll s calls t → HasMade t call u → HasMadeAll s (calls ++ call ∷ []) u
one_made s t u calls call all (inl same) = record { replies = all.replies; are_of = unanswered calls call all.replies all.are_of; seat = same ∙ all.seat }
one_made s t u calls call all (inr one) =
    let rs : List Reply = all.replies in
    let count : (s.count + 2 * length rs) + 2 ≡ s.count + 2 * length (rs ++ one.reply ∷ []) = omega (arith, length-append rs (one.reply ∷ [])) in
    let grown : record { hart = t.hart; replies = t.replies ++ one.reply ∷ []; count = t.count + 2 } ≡ record { hart = s.hart; replies = (s.replies ++ rs) ++ one.reply ∷ []; count = (s.count + 2 * length rs) + 2 } =
    ap (λ (v : SeatV). record { hart = v.hart; replies = v.replies ++ one.reply ∷ []; count = v.count + 2 }) all.seat in
    record {
      replies = rs ++ one.reply ∷ [];
      are_of = answered calls call rs one.reply all.are_of one.is_of;
      seat = one.seat ∙ grown ∙ (λ i. record { hart = s.hart; replies = append_assoc s.replies rs (one.reply ∷ []) i; count = count i });
    }
