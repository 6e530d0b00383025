-- One note more, and what notes say.
use Rattle.locked_world.proofs.Vocabulary.{◌≡◌, ℕ, zero, suc, ◌+◌, ◌<◌, ◌≤◌, Bool, true, false, if◌then◌else◌, ◌==◌, Option, Some, None, List, [], ◌∷◌, ◌++◌, length, map, drop, get_or, refl, sym, ap, ◌∙◌, subst, arith, append-nil, append_assoc, length-append, slice_get, Reply, Call, Event, Came, Given, Note, What, all_shown, shown, replied_by, replies_in, past, each, takers, is_start, is_reply, starts, replies, event_at, came_at, event_noted, came_noted, noted_events, noted_outcomes, noted_pairs, answered, IsNoted, given_to}
use Rattle.locked_world.specs.declared.note.What.TheVariants as what
use Rattle.locked_world.specs.Stories.{first}

-- ---- a row, some of which take the next one

module _ {A X B : Type 0} (takes : A → Bool) (one : A → Option X → B) where
  one_step : (t : Bool) (b : A) (rest : List A) (xs : List X) (a : A) (ys : List X) → (if t then 1 else 0) + takers takes rest ≡ length xs
      → ((zs : List X) → takers takes rest ≡ length zs → each takes one (rest ++ a ∷ []) (zs ++ ys) ≡ each takes one rest zs ++ one a (first (takes a) ys) ∷ [])
      → one b (first t (xs ++ ys)) ∷ each takes one (rest ++ a ∷ []) (past t (xs ++ ys)) ≡ (one b (first t xs) ∷ each takes one rest (past t xs)) ++ one a (first (takes a) ys) ∷ []
  one_step false b rest xs a ys n ih = ap (λ (z : List B). one b None ∷ z) (ih xs (omega (arith, n)))
  one_step true b rest [] a ys n ih = absurd (omega (arith, n))
  one_step true b rest (x ∷ xs) a ys n ih = ap (λ (z : List B). one b (Some x) ∷ z) (ih xs (omega (arith, n)))

  -- one more, which may take one of those that are left
  pub each_more : (as' : List A) (xs : List X) (a : A) (ys : List X) → takers takes as' ≡ length xs → each takes one (as' ++ a ∷ []) (xs ++ ys) ≡ each takes one as' xs ++ one a (first (takes a) ys) ∷ []
  each_more [] [] a ys n = refl
  each_more [] (x ∷ xs) a ys n = absurd (omega (arith, n))
  each_more (b ∷ rest) xs a ys n = one_step (takes b) b rest xs a ys n (λ zs m. each_more rest zs a ys m)

  pub each_alone : (as' : List A) (xs : List X) (a : A) → takers takes as' ≡ length xs → takes a ≡ false → each takes one (as' ++ a ∷ []) xs ≡ each takes one as' xs ++ one a None ∷ []
  each_alone as' xs a n none =
      ap (each takes one (as' ++ a ∷ [])) (sym (append-nil xs)) ∙ each_more as' xs a [] n ∙ ap (λ (t : Bool). each takes one as' xs ++ one a (first t []) ∷ []) none

  pub each_length : (as' : List A) (xs : List X) → length (each takes one as' xs) ≡ length as'
  each_length [] xs = refl
  each_length (a ∷ rest) xs = ap suc (each_length rest (past (takes a) xs))

takers_more : {A : Type 0} (takes : A → Bool) (as' : List A) (a : A) → takers takes (as' ++ a ∷ []) ≡ takers takes as' + (if takes a then 1 else 0)
takers_more takes [] a = omega arith
takers_more takes (b ∷ rest) a = omega (arith, takers_more takes rest a)

-- ---- more notes

answered_if : (t : Bool) (h : ℕ) (xs ys : List ℕ) → (if t then h ∷ (xs ++ ys) else xs ++ ys) ≡ (if t then h ∷ xs else xs) ++ ys
answered_if true h xs ys = refl
answered_if false h xs ys = refl

answered_more : (ns : List Note) (n : Note) → answered (ns ++ n ∷ []) ≡ answered ns ++ (if is_reply n.what then n.hart ∷ [] else [])
answered_more [] n = refl
answered_more (m ∷ ns) n =
    ap (λ (z : List ℕ). if is_reply m.what then m.hart ∷ z else z) (answered_more ns n) ∙ answered_if (is_reply m.what) m.hart (answered ns) (if is_reply n.what then n.hart ∷ [] else [])

map_more : (gs : List Given) (g : Given) → map (λ (g : Given). g.hart) (gs ++ g ∷ []) ≡ map (λ (g : Given). g.hart) gs ++ g.hart ∷ []
map_more [] g = refl
map_more (x ∷ gs) g = ap (λ (z : List ℕ). x.hart ∷ z) (map_more gs g)

pub nothing_noted : IsNoted [] [] []
nothing_noted = record { calls = refl; given = refl; harts = refl }

-- a note that takes neither a call nor a reply
pub noted_plain : (ns : List Note) (cs : List Call) (gs : List Given) (n : Note) → IsNoted ns cs gs → is_start n.what ≡ false → is_reply n.what ≡ false → IsNoted (ns ++ n ∷ []) cs gs
noted_plain ns cs gs n w s r = record {
  calls = takers_more starts ns n ∙ ap (λ (t : Bool). takers starts ns + (if t then 1 else 0)) s ∙ omega (arith, w.calls);
  given = takers_more replies ns n ∙ ap (λ (t : Bool). takers replies ns + (if t then 1 else 0)) r ∙ omega (arith, w.given);
  harts = answered_more ns n ∙ ap (λ (t : Bool). answered ns ++ (if t then n.hart ∷ [] else [])) r ∙ append-nil (answered ns) ∙ w.harts;
}

pub noted_start : (ns : List Note) (cs : List Call) (gs : List Given) (n : Note) (c : Call) → IsNoted ns cs gs → is_start n.what ≡ true → is_reply n.what ≡ false → IsNoted (ns ++ n ∷ []) (cs ++ c ∷ []) gs
noted_start ns cs gs n c w s r = record {
  calls = takers_more starts ns n ∙ ap (λ (t : Bool). takers starts ns + (if t then 1 else 0)) s ∙ omega (arith, w.calls, length-append cs (c ∷ []));
  given = takers_more replies ns n ∙ ap (λ (t : Bool). takers replies ns + (if t then 1 else 0)) r ∙ omega (arith, w.given);
  harts = answered_more ns n ∙ ap (λ (t : Bool). answered ns ++ (if t then n.hart ∷ [] else [])) r ∙ append-nil (answered ns) ∙ w.harts;
}

pub noted_reply : (ns : List Note) (cs : List Call) (gs : List Given) (h : ℕ) (r : Reply) → IsNoted ns cs gs → IsNoted (ns ++ record { hart = h; what = what.Done } ∷ []) cs (gs ++ record { hart = h; reply = r } ∷ [])
noted_reply ns cs gs h r w =
    let n : Note = record { hart = h; what = what.Done } in
    let g : Given = record { hart = h; reply = r } in
    record {
      calls = takers_more starts ns n ∙ omega (arith, w.calls);
      given = takers_more replies ns n ∙ omega (arith, w.given, length-append gs (g ∷ []));
      harts = answered_more ns n ∙ ap (λ (z : List ℕ). z ++ h ∷ []) w.harts ∙ sym (map_more gs g);
    }

pub noted_here : (ns ns' : List Note) (cs cs' : List Call) (gs gs' : List Given) → ns' ≡ ns → cs' ≡ cs → gs' ≡ gs → IsNoted ns cs gs → IsNoted ns' cs' gs'
noted_here ns ns' cs cs' gs gs' p q r w =
    subst (λ (z : List Note). IsNoted z cs' gs') (sym p) (subst (λ (z : List Call). IsNoted ns z gs') (sym q) (subst (λ (z : List Given). IsNoted ns cs z) (sym r) w))

-- ---- replies

-- what the first note shows, of the rest
module _ (h : ℕ) (k : ℕ) where
  no_reply : (w : What) (call : Option Call) → is_reply w ≡ false → replied_by h (shown (event_at k call) (came_at w None)) ≡ []
  no_reply what.Started None r = refl
  no_reply what.Started (Some call) r = refl
  no_reply (what.Refused why) None r = refl
  no_reply (what.Refused why) (Some call) r = refl
  no_reply what.Idle None r = refl
  no_reply what.Idle (Some call) r = refl
  no_reply (what.Ran kind) None r = refl
  no_reply (what.Ran kind) (Some call) r = refl
  no_reply what.Done call r = absurd (let q = r in cc (q))
  no_reply (what.Stopped why) None r = refl
  no_reply (what.Stopped why) (Some call) r = refl

shown_step : (h k : ℕ) (w : What) (cs : List Call) (gs : List Given) (harts : List ℕ) (rest : List Given → List Reply)
    → (if is_reply w then k ∷ harts else harts) ≡ map (λ (g : Given). g.hart) gs
    → ((zs : List Given) → harts ≡ map (λ (g : Given). g.hart) zs → rest zs ≡ given_to h zs)
    → replied_by h (shown (event_at k (first (is_start w) cs)) (came_at w (first (is_reply w) gs))) ++ rest (past (is_reply w) gs) ≡ given_to h gs
shown_step h k what.Started cs gs harts rest e ih = ap (λ (z : List Reply). z ++ rest gs) (no_reply h k what.Started (first true cs) refl) ∙ ih gs e
shown_step h k (what.Refused why) cs gs harts rest e ih = ap (λ (z : List Reply). z ++ rest gs) (no_reply h k (what.Refused why) (first true cs) refl) ∙ ih gs e
shown_step h k what.Idle cs gs harts rest e ih = ih gs e
shown_step h k (what.Ran kind) cs gs harts rest e ih = ih gs e
shown_step h k (what.Stopped why) cs gs harts rest e ih = ih gs e
shown_step h k what.Done cs [] harts rest e ih = absurd (let q = e in cc (q))
shown_step h k what.Done cs (g ∷ gs) harts rest e ih =
    let here : k ≡ g.hart = (let q = e in cc (q)) in
    let there : harts ≡ map (λ (g : Given). g.hart) gs = (let q = e in cc (q)) in
    (λ j. (if h == here j then g.reply ∷ [] else []) ++ ih gs there j)

-- the replies in the notes are those that are kept
pub told_replies : (h : ℕ) (ns : List Note) (cs : List Call) (gs : List Given) → answered ns ≡ map (λ (g : Given). g.hart) gs → replies_in h (all_shown (noted_events ns cs) (noted_outcomes ns gs)) ≡ given_to h gs
told_replies h [] cs [] e = refl
told_replies h [] cs (g ∷ gs) e = absurd (omega (arith, ap length e))
told_replies h (n ∷ ns) cs gs e =
    shown_step h n.hart n.what cs gs (answered ns) (λ zs. replies_in h (all_shown (noted_events ns (past (starts n) cs)) (noted_outcomes ns zs))) e (λ zs m. told_replies h ns (past (starts n) cs) zs m)

-- ---- what one note more says

module _ (ns ns' : List Note) (cs : List Call) (gs : List Given) (n : Note) where
  pub plain_event : ns' ≡ ns ++ n ∷ [] → IsNoted ns cs gs → is_start n.what ≡ false → (es : List Event) → noted_events ns cs ≡ es → noted_events ns' cs ≡ es ++ event_at n.hart None ∷ []
  plain_event p w s es e = ap (λ (z : List Note). noted_events z cs) p ∙ each_alone starts event_noted ns cs n w.calls s ∙ ap (λ (z : List Event). z ++ event_at n.hart None ∷ []) e

  pub plain_outcome : ns' ≡ ns ++ n ∷ [] → IsNoted ns cs gs → is_reply n.what ≡ false → (os : List Came) → noted_outcomes ns gs ≡ os → noted_outcomes ns' gs ≡ os ++ came_at n.what None ∷ []
  plain_outcome p w r os e = ap (λ (z : List Note). noted_outcomes z gs) p ∙ each_alone replies came_noted ns gs n w.given r ∙ ap (λ (z : List Came). z ++ came_at n.what None ∷ []) e

  pub start_event : (cs' : List Call) (c : Call) → ns' ≡ ns ++ n ∷ [] → cs' ≡ cs ++ c ∷ [] → IsNoted ns cs gs → is_start n.what ≡ true → (es : List Event) → noted_events ns cs ≡ es → noted_events ns' cs' ≡ es ++ event_at n.hart (Some c) ∷ []
  start_event cs' c p q w s es e =
      (λ j. noted_events (p j) (q j)) ∙ each_more starts event_noted ns cs n (c ∷ []) w.calls ∙ ap (λ (t : Bool). noted_events ns cs ++ event_at n.hart (first t (c ∷ [])) ∷ []) s ∙ ap (λ (z : List Event). z ++ event_at n.hart (Some c) ∷ []) e

pub reply_outcome : (ns ns' : List Note) (cs : List Call) (gs gs' : List Given) (h : ℕ) (g : Given) → ns' ≡ ns ++ record { hart = h; what = what.Done } ∷ [] → gs' ≡ gs ++ g ∷ [] → IsNoted ns cs gs → (os : List Came) → noted_outcomes ns gs ≡ os
    → noted_outcomes ns' gs' ≡ os ++ came_at what.Done (Some g) ∷ []
reply_outcome ns ns' cs gs gs' h g p q w os e =
    (λ j. noted_outcomes (p j) (q j)) ∙ each_more replies came_noted ns gs (record { hart = h; what = what.Done }) (g ∷ []) w.given ∙ ap (λ (z : List Came). z ++ came_at what.Done (Some g) ∷ []) e

-- there are as many events as notes
pub events_count : (ns : List Note) (cs : List Call) → length (noted_events ns cs) ≡ length ns
events_count ns cs = each_length starts event_noted ns cs

-- ---- going through the notes

past_suc : {X : Type 0} (k : ℕ) (xs : List X) → past true (drop k xs) ≡ drop (suc k) xs
past_suc zero [] = refl
past_suc zero (x ∷ xs) = refl
past_suc (suc k) [] = refl
past_suc (suc k) (x ∷ xs) = past_suc k xs

pub past_drop : {X : Type 0} (k : ℕ) (xs : List X) → past true (drop k xs) ≡ drop (k + 1) xs
past_drop k xs = let e : suc k ≡ k + 1 = omega arith in past_suc k xs ∙ ap (λ (z : ℕ). drop z xs) e

pub first_drop : {X : Type 0} (k : ℕ) (xs : List X) → first true (drop k xs) ≡ slice_get xs k
first_drop zero [] = refl
first_drop zero (x ∷ xs) = refl
first_drop (suc k) [] = refl
first_drop (suc k) (x ∷ xs) = first_drop k xs

drop_cons : {X : Type 0} (i : ℕ) (xs : List X) (x : X) → i < length xs → x ≡ get_or xs i x → drop i xs ≡ x ∷ drop (suc i) xs
drop_cons zero [] x lt is = absurd (omega (arith, lt))
drop_cons zero (y ∷ xs) x lt is = ap (λ z. z ∷ xs) (sym is)
drop_cons (suc i) [] x lt is = absurd (omega (arith, lt))
drop_cons (suc i) (y ∷ xs) x lt is = drop_cons i xs x (omega (arith, lt)) is

drop_none : {X : Type 0} (i : ℕ) (xs : List X) → length xs ≤ i → drop i xs ≡ []
drop_none zero [] le = refl
drop_none zero (x ∷ xs) le = absurd (omega (arith, le))
drop_none (suc i) [] le = refl
drop_none (suc i) (x ∷ xs) le = drop_none i xs (omega (arith, le))

is_done : (w : What) → is_reply w ≡ true → w ≡ what.Done
is_done what.Started r = absurd (let q = r in cc (q))
is_done (what.Refused why) r = absurd (let q = r in cc (q))
is_done what.Idle r = absurd (let q = r in cc (q))
is_done (what.Ran kind) r = absurd (let q = r in cc (q))
is_done what.Done r = refl
is_done (what.Stopped why) r = absurd (let q = r in cc (q))

drop_step : {X : Type 0} (i : ℕ) (xs : List X) (x : X) → i < length xs → x ≡ get_or xs i x → drop i xs ≡ x ∷ drop (i + 1) xs
drop_step i xs x lt is = let e : suc i ≡ i + 1 = omega arith in drop_cons i xs x lt is ∙ ap (λ (z : ℕ). x ∷ drop z xs) e

-- one more event than those before place i, if the calls from place k on are still to come
pub told_start : (es : List Event) (ns : List Note) (cs : List Call) (i k : ℕ) (n : Note) (e : Event) → i < length ns → n ≡ get_or ns i n → starts n ≡ true → e ≡ event_at n.hart (slice_get cs k)
    → es ++ noted_events (drop i ns) (drop k cs) ≡ noted_events ns cs → (es ++ e ∷ []) ++ noted_events (drop (i + 1) ns) (drop (k + 1) cs) ≡ noted_events ns cs
told_start es ns cs i k n e lt is s here so_far =
    append_assoc es (e ∷ []) _
    ∙ (λ j. es ++ (here ∙ ap (event_at n.hart) (sym (first_drop k cs)) ∙ ap (λ (t : Bool). event_at n.hart (first t (drop k cs))) (sym s)) j ∷ noted_events (drop (i + 1) ns) ((sym (past_drop k cs) ∙ ap (λ (t : Bool). past t (drop k cs)) (sym s)) j))
    ∙ ap (λ (z : List Note). es ++ noted_events z (drop k cs)) (sym (drop_step i ns n lt is))
    ∙ so_far

pub told_step : (es : List Event) (ns : List Note) (cs : List Call) (i k : ℕ) (n : Note) → i < length ns → n ≡ get_or ns i n → starts n ≡ false
    → es ++ noted_events (drop i ns) (drop k cs) ≡ noted_events ns cs → (es ++ event_at n.hart None ∷ []) ++ noted_events (drop (i + 1) ns) (drop k cs) ≡ noted_events ns cs
told_step es ns cs i k n lt is s so_far =
    append_assoc es (event_at n.hart None ∷ []) _
    ∙ ap (λ (t : Bool). es ++ event_at n.hart (first t (drop k cs)) ∷ noted_events (drop (i + 1) ns) (past t (drop k cs))) (sym s)
    ∙ ap (λ (z : List Note). es ++ noted_events z (drop k cs)) (sym (drop_step i ns n lt is))
    ∙ so_far

-- at the end nothing is left
pub told_all : (es : List Event) (ns : List Note) (cs xs : List Call) (i : ℕ) → length ns ≤ i → es ++ noted_events (drop i ns) xs ≡ noted_events ns cs → es ≡ noted_events ns cs
told_all es ns cs xs i le so_far = sym (append-nil es) ∙ ap (λ (z : List Note). es ++ noted_events z xs) (sym (drop_none i ns le)) ∙ so_far

-- the same of their outcomes
pub told_reply : (os : List Came) (ns : List Note) (gs : List Given) (i k : ℕ) (n : Note) (o : Came) → i < length ns → n ≡ get_or ns i n → replies n ≡ true → o ≡ came_at what.Done (slice_get gs k)
    → os ++ noted_outcomes (drop i ns) (drop k gs) ≡ noted_outcomes ns gs → (os ++ o ∷ []) ++ noted_outcomes (drop (i + 1) ns) (drop (k + 1) gs) ≡ noted_outcomes ns gs
told_reply os ns gs i k n o lt is r here so_far =
    append_assoc os (o ∷ []) _
    ∙ (λ j. os ++ (here ∙ ap (λ (w : What). came_at w (slice_get gs k)) (sym (is_done n.what r)) ∙ ap (came_at n.what) (sym (first_drop k gs)) ∙ ap (λ (t : Bool). came_at n.what (first t (drop k gs))) (sym r)) j ∷ noted_outcomes (drop (i + 1) ns) ((sym (past_drop k gs) ∙ ap (λ (t : Bool). past t (drop k gs)) (sym r)) j))
    ∙ ap (λ (z : List Note). os ++ noted_outcomes z (drop k gs)) (sym (drop_step i ns n lt is))
    ∙ so_far

pub told_plain : (os : List Came) (ns : List Note) (gs : List Given) (i k : ℕ) (n : Note) → i < length ns → n ≡ get_or ns i n → replies n ≡ false
    → os ++ noted_outcomes (drop i ns) (drop k gs) ≡ noted_outcomes ns gs → (os ++ came_at n.what None ∷ []) ++ noted_outcomes (drop (i + 1) ns) (drop k gs) ≡ noted_outcomes ns gs
told_plain os ns gs i k n lt is r so_far =
    append_assoc os (came_at n.what None ∷ []) _
    ∙ ap (λ (t : Bool). os ++ came_at n.what (first t (drop k gs)) ∷ noted_outcomes (drop (i + 1) ns) (past t (drop k gs))) (sym r)
    ∙ ap (λ (z : List Note). os ++ noted_outcomes z (drop k gs)) (sym (drop_step i ns n lt is))
    ∙ so_far

pub told_outcomes : (os : List Came) (ns : List Note) (gs xs : List Given) (i : ℕ) → length ns ≤ i → os ++ noted_outcomes (drop i ns) xs ≡ noted_outcomes ns gs → os ≡ noted_outcomes ns gs
told_outcomes os ns gs xs i le so_far = sym (append-nil os) ∙ ap (λ (z : List Note). os ++ noted_outcomes z xs) (sym (drop_none i ns le)) ∙ so_far

pub same_at : {X : Type 0} (xs : List X) (i : ℕ) (d e : X) → i < length xs → get_or xs i d ≡ get_or xs i e
same_at [] i d e lt = absurd (omega (arith, lt))
same_at (x ∷ xs) zero d e lt = refl
same_at (x ∷ xs) (suc i) d e lt = same_at xs i d e (omega (arith, lt))

-- ---- pairs

-- their first parts are the events
pub pair_events : (ns : List Note) (cs : List Call) (gs : List Given) → map (λ (p : Event × Came). p.0) (noted_pairs ns cs gs) ≡ noted_events ns cs
pair_events [] cs gs = refl
pair_events (n ∷ ns) cs gs = ap (λ (z : List Event). event_noted n (first (starts n) cs) ∷ z) (pair_events ns (past (starts n) cs) (past (replies n) gs))

-- their second parts are the outcomes of these
pub pair_outcomes : (ns : List Note) (cs : List Call) (gs : List Given) → map (λ (p : Event × Came). p.1) (noted_pairs ns cs gs) ≡ noted_outcomes ns gs
pair_outcomes [] cs gs = refl
pair_outcomes (n ∷ ns) cs gs = ap (λ (z : List Came). came_noted n (first (replies n) gs) ∷ z) (pair_outcomes ns (past (starts n) cs) (past (replies n) gs))

-- the first pair, and those that are left
pub first_pair : (all ns : List Note) (cs cs' : List Call) (gs gs' : List Given) (n : Note) (e : Event) (c : Came) → all ≡ n ∷ ns → e ≡ event_noted n (first (starts n) cs) → cs' ≡ past (starts n) cs → c ≡ came_noted n (first (replies n) gs)
    → gs' ≡ past (replies n) gs → noted_pairs all cs gs ≡ (e, c) ∷ noted_pairs ns cs' gs'
first_pair all ns cs cs' gs gs' n e c split event calls came given =
    ap (λ (z : List Note). noted_pairs z cs gs) split ∙ sym (λ j. (event j, came j) ∷ noted_pairs ns (calls j) (given j))

-- of no note there is none
pub no_pair : (ns : List Note) (cs : List Call) (gs : List Given) → length ns ≡ 0 → noted_pairs ns cs gs ≡ []
no_pair [] cs gs e = refl
no_pair (n ∷ ns) cs gs e = absurd (omega (arith, e))
