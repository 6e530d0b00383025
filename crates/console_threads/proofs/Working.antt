-- The work of each of eight harts.
use Rattle.console_threads.proofs.Vocabulary.{◌≡◌, ◌∷◌, [], List, Option, Some, None, length, slice_index_or, ap, sym, ◌∙◌, subst, IfNone, Call, eight, SeatV, Broke, Task, Worked, EachWorked, HasMadeAll, HasWorked}

pub each_of_eight : {L : _} (ts : List (Task L)) → length ts ≡ 8 → (a b c d e f g h : Task L) → a ≡ slice_index_or ts 0 a → b ≡ slice_index_or ts 1 b → c ≡ slice_index_or ts 2 c → d ≡ slice_index_or ts 3 d → e ≡ slice_index_or ts 4 e → f ≡ slice_index_or ts 5 f → g ≡ slice_index_or ts 6 g → h ≡ slice_index_or ts 7 h
    → (s t u v w x y z : Worked L) → HasWorked a s → HasWorked b t → HasWorked c u → HasWorked d v → HasWorked e w → HasWorked f x → HasWorked g y → HasWorked h z → EachWorked ts (s ∷ t ∷ u ∷ v ∷ w ∷ x ∷ y ∷ z ∷ [])
each_of_eight ts n a b c d e f g h p q r p' q' r' p'' q'' s t u v w x y z one two three four five six seven last =
    subst (λ all. EachWorked all (s ∷ t ∷ u ∷ v ∷ w ∷ x ∷ y ∷ z ∷ [])) (sym (eight ts n a b c d e f g h p q r p' q' r' p'' q'')) (one, (two, (three, (four, (five, (six, (seven, (last, tt))))))))

-- a hart that reached the end of its calls
pub whole : {L : _} (task : Task L) (made : List Call) (s : SeatV) → made ≡ task.calls.items → HasMadeAll task.seat made s → HasWorked task (record { seat = s; broke = None })
whole task made s same all = (ap (λ (v : SeatV). v.hart) all.seat, subst (λ calls. HasMadeAll task.seat calls s) same all)

-- and one that didn't
pub broken : {L : _} (task : Task L) (worked : Worked L) (made : List Call) (s : SeatV) (b : Broke) → HasMadeAll task.seat made s → worked.seat.hart ≡ s.hart → worked.broke ≡ Some b → HasWorked task worked
broken task worked made s b all hart is = (hart ∙ ap (λ (v : SeatV). v.hart) all.seat, subst (λ o. IfNone o (HasMadeAll task.seat task.calls.items worked.seat)) (sym is) tt)

pub if_none : {A P : Type 0} (o : Option A) → o ≡ None → IfNone o P → P
if_none {A} {P} o is holds = subst (λ x. IfNone x P) is holds
