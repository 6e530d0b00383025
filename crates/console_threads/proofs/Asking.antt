-- The calls of each hart, from its lines.
use Rattle.console_threads.proofs.Vocabulary.{◌≡◌, ◌-◌, List, [], ◌∷◌, ◌++◌, length, drop, map, refl, ap, sym, ◌∙◌, arith, append_assoc, length-drop, nil_from_length, map-map, Call, CallLine, call_said, called}

-- one line more
pub call_more : (calls all : List Call) (call : Call) (line : CallLine) (lines rest : List CallLine) → call ≡ called (call_said line) → lines ≡ line ∷ rest → calls ++ map (λ l. called (call_said l)) lines ≡ all → (calls ++ call ∷ []) ++ map (λ l. called (call_said l)) rest ≡ all
call_more calls all call line lines rest is split whole =
    append_assoc calls (call ∷ []) (map (λ l. called (call_said l)) rest)
    ∙ (λ i. calls ++ is i ∷ map (λ l. called (call_said l)) rest)
    ∙ ap (λ ls. calls ++ map (λ l. called (call_said l)) ls) (sym split)
    ∙ whole

-- the list is empty if its first was sought in vain
pub none_there : {X : Type 0} (xs ys : List X) → xs ≡ ys → ys ≡ drop 1 xs → xs ≡ []
none_there xs ys same rest =
    let long : length xs ≡ length xs - 1 = ap length (same ∙ rest) ∙ length-drop 1 xs in
    nil_from_length xs (omega (arith, long))

-- the calls of queues are those of what the queues say
pub queues_called : {T : Type 0} (items : T → List CallLine) (queues : List T) → map (λ q. map (λ line. called (call_said line)) (items q)) queues ≡ map (λ queue. map called queue) (map (λ q. map call_said (items q)) queues)
queues_called items [] = refl
queues_called items (q ∷ qs) = λ i. sym (map-map called call_said (items q)) i ∷ queues_called items qs i
