-- The history, for all calls: what starting, writing, reporting and replying keep true. Nothing here knows the moves,
-- or what a tree step does.
use Rattle.image_versions.specs.declared.version.Version.{Version}
use Rattle.tree_laws.proofs.Vocabulary.{◌≡◌, ◌≢◌, ℕ, ◌+◌, ◌<◌, ◌≤◌, Bool, true, ◌&&◌, ◌==◌, inl, inr, refl, sym, ◌∙◌, ap, subst, arith, List, [], ◌∷◌, ◌++◌, append_assoc, append-nil, length, Option, Some, None, slice_get, Reply, Call, Trace, TracedCall, Placed, TreeData, Tree, tree_of, put, Step, is_nothing, Act, next_of, Follows, IsWhole, noted, ends_at, Chain, ChainBy, act_in, acts_of, IsWritten, IsInTime, Belongs, Rises, AllBelong, Explains, Started, Replied, Deed, MayEnd, HartStanding, History, writes, tells, entry_of, starts, replies, passes, Free, Busy}
use Rattle.tree_laws.proofs.Maps.{either, eq_self, eq_not, eq_is, same_or, put_same, put_other, put_is, and_true}
use Rattle.tree_laws.proofs.Lists.{get_left, get_last, get_more, get_past, get_map, map_get}

-- late: for each hart, what the list has of its call but the call hasn't been handed yet
abbrev pub IsAccountedFor : (ℕ → List Act) → History → ℕ → TracedCall → Option (ℕ × Reply) → Type 0
IsAccountedFor late b id s None = (x : List Act) × (b.calls s.hart ≡ Busy id s.call x) × (acts_of id b.list ≡ x ++ late s.hart) × Follows s.call [] (x ++ late s.hart)
IsAccountedFor late b id s (Some r) = IsWhole s.call (acts_of id b.list) r.1

unfoldable pub AllBelow : ℕ → List Placed → Type 0
AllBelow now [] = Unit {0}
AllBelow now (e ∷ es) = (e.event < now) × AllBelow now es

-- now: the number of the event at hand, or the next one after something acted at it
pub record BookOk (version : Version) (base t : Tree) (late : ℕ → List Act) (now : ℕ) (b : History) : Type 0 where
  pub rises : Rises 0 b.list
  pub below : AllBelow now b.list
  pub chain : Chain version base b.list t
  pub busy : (h id : ℕ) (c : Call) (x : List Act) → b.calls h ≡ Busy id c x → (start : ℕ) × (slice_get b.trace.calls id ≡ Some (record { hart = h; start = start; call = c; finished = None }))
  pub told : (id : ℕ) (s : TracedCall) → slice_get b.trace.calls id ≡ Some s → IsAccountedFor late b id s s.finished
  pub early : (id : ℕ) (s : TracedCall) → slice_get b.trace.calls id ≡ Some s → s.start < now
  pub belongs : AllBelong (record b.trace { events = now }) b.list

rises_more : (lo n : ℕ) (xs : List Placed) (e : Placed) → Rises lo xs → AllBelow (n + 1) xs → lo ≤ n → e.event ≡ n → Rises lo (xs ++ e ∷ [])
unfolding Rises AllBelow
rises_more lo n [] e r b le is = (omega arith, tt)
rises_more lo n (x ∷ xs) e r b le is = (r.0, rises_more x.event n xs e r.1 b.1 (omega (arith, b.0)) is)

below_more : (now : ℕ) (xs : List Placed) (e : Placed) → AllBelow now xs → e.event < now → AllBelow now (xs ++ e ∷ [])
unfolding AllBelow
below_more now [] e b lt = (lt, tt)
below_more now (x ∷ xs) e b lt = (b.0, below_more now xs e b.1 lt)

pub below_later : (now later : ℕ) (xs : List Placed) → now ≤ later → AllBelow now xs → AllBelow later xs
unfolding AllBelow
below_later now later [] le b = tt
below_later now later (x ∷ xs) le b = (omega (arith, b.0), below_later now later xs le b.1)

chain_more : (version : Version) (base t t' : Tree) (xs : List Placed) (e : Placed) → Chain version base xs t → Step version t e.step e.answer t' → Chain version base (xs ++ e ∷ []) t'
unfolding ChainBy
chain_more version base t t' [] e c s = (t', subst (λ (z : Tree). Step version z e.step e.answer t') (sym c) s, refl)
chain_more version base t t' (x ∷ xs) e c s = (c.0, c.1, chain_more version c.0 t t' xs e c.2 s)

acts_more : (id : ℕ) (xs : List Placed) (e : Placed) → e.call ≡ id → acts_of id (xs ++ e ∷ []) ≡ acts_of id xs ++ act_in e ∷ []
unfolding acts_of
acts_more id [] e is = rw (is, eq_self id) refl
acts_more id (x ∷ xs) e is =
    let ih = acts_more id xs e is in
    elim (either (x.call == id)) [
      | inl y ↦ rw (y, ih) refl
      | inr n ↦ rw (n, ih) refl
    ]

pub acts_same : (id : ℕ) (xs : List Placed) (e : Placed) → e.call ≢ id → acts_of id (xs ++ e ∷ []) ≡ acts_of id xs
unfolding acts_of
acts_same id [] e ne = rw (eq_not e.call id ne) refl
acts_same id (x ∷ xs) e ne =
    let ih = acts_same id xs e ne in
    elim (either (x.call == id)) [
      | inl y ↦ rw (y, ih) refl
      | inr n ↦ rw (n, ih) refl
    ]

belong_more : (t : Trace) (xs : List Placed) (e : Placed) → AllBelong t xs → Belongs t e → AllBelong t (xs ++ e ∷ [])
unfolding AllBelong
belong_more t [] e all one = (one, tt)
belong_more t (x ∷ xs) e all one = (all.0, belong_more t xs e all.1 one)

belong_map : (t t' : Trace) (later : ℕ) (xs : List Placed) → AllBelow later xs → ((e : Placed) → e.event < later → Belongs t e → Belongs t' e) → AllBelong t xs → AllBelong t' xs
unfolding AllBelong AllBelow
belong_map t t' later [] b f all = tt
belong_map t t' later (x ∷ xs) b f all = (f x b.0 all.0, belong_map t t' later xs b.1 f all.1)

no_acts : (t : Trace) (id : ℕ) (xs : List Placed) → slice_get t.calls id ≡ None → AllBelong t xs → acts_of id xs ≡ []
unfolding AllBelong acts_of
no_acts t id [] none all = refl
no_acts t id (x ∷ xs) none all =
    let ne : x.call ≢ id = (λ q. let is : slice_get t.calls x.call ≡ Some all.0.traced = all.0.is in let no' : slice_get t.calls x.call ≡ None = subst (λ (z : ℕ). slice_get t.calls z ≡ None) (sym q) none in absurd (cc (is, no'))) in
    rw (eq_not x.call id ne) (no_acts t id xs none all.1)

in_time : (now later n : ℕ) (r : Option (ℕ × Reply)) → now ≤ later → IsInTime now n r → IsInTime later n r
in_time now later n None le h = omega arith
in_time now later n (Some r) le h = h

follows_none : (c : Call) (before : List Act) → Follows c before []
unfolding Follows
follows_none c before = tt

-- one more step of the written sequence
follows_more : (c : Call) (before x : List Act) (a : Act) → Follows c before x → next_of c (before ++ x) ≡ Some a.step → Follows c before (x ++ a ∷ [])
unfolding Follows
follows_more c before [] a f is = (subst (λ (z : List Act). next_of c z ≡ Some a.step) (append-nil before) is, tt)
follows_more c before (y ∷ ys) a f is = (f.0, follows_more c (before ++ y ∷ []) ys a f.1 (subst (λ (z : List Act). next_of c z ≡ Some a.step) (sym (append_assoc before (y ∷ []) ys)) is))

pub later_ok : (version : Version) (base t : Tree) (late : ℕ → List Act) (now later : ℕ) (b : History) → now ≤ later → BookOk version base t late now b → BookOk version base t late later b
later_ok version base t late now later b le k =
    let low : AllBelow later b.list = below_later now later b.list le k.below in
    record {
      rises = k.rises;
      below = low;
      chain = k.chain;
      busy = k.busy;
      told = k.told;
      early = λ id s is. let e = k.early id s is in omega (arith, e);
      belongs = belong_map (record b.trace { events = now }) (record b.trace { events = later }) later b.list low (λ e lt o. record { traced = o.traced; is = o.is; hart = o.hart; after_start = o.after_start; before_return = in_time now later e.event o.traced.finished le o.before_return }) k.belongs;
    }

same_id : (id id' : ℕ) (c c' : Call) (x x' : List Act) (s : HartStanding) → s ≡ Busy id c x → s ≡ Busy id' c' x' → id ≡ id'
same_id id id' c c' x x' s p q = cc

same_acts : (id id' : ℕ) (c c' : Call) (x x' : List Act) (s : HartStanding) → s ≡ Busy id c x → s ≡ Busy id' c' x' → x ≡ x'
same_acts id id' c c' x x' s p q = cc

same_call : (id id' : ℕ) (c c' : Call) (x x' : List Act) (s : HartStanding) → s ≡ Busy id c x → s ≡ Busy id' c' x' → c ≡ c'
same_call id id' c c' x x' s p q = cc

same_some : {A : Type 0} (a b : A) (o : Option A) → o ≡ Some a → o ≡ Some b → a ≡ b
same_some a b o p q = cc

abbrev pub going : ℕ → ℕ → Call → TracedCall
going h start c = record { hart = h; start = start; call = c; finished = None }

-- the call's next step is written
pub write_ok : (version : Version) (base t t' : Tree) (late : ℕ → List Act) (b : History) (h id : ℕ) (c : Call) (x : List Act) (d : Deed) → BookOk version base t late (b.trace.events + 1) b → b.calls h ≡ Busy id c x → late h ≡ [] → next_of c x ≡ Some d.act.step → Step version t (record { hart = h; new = d.new; action = d.act.step }) d.act.answer t'
    → BookOk version base t' (put late h (d.act ∷ [])) (b.trace.events + 1) (writes (Busy id c x) b h d)
write_ok version base t t' late b h id c x d k is none next step =
    let n : ℕ = b.trace.events in
    let e : Placed = entry_of n id h d in
    let said = k.busy h id c x is in
    let early = k.early id (going h said.0 c) said.1 in
    record {
      rises = rises_more 0 n b.list e k.rises k.below (omega arith) refl;
      below = below_more (n + 1) b.list e k.below (omega arith);
      chain = chain_more version base t t' b.list e k.chain step;
      busy = k.busy;
      told = λ id' s q. elim (same_or id' id) [
        | inl w ↦
            let this : going h said.0 c ≡ s = same_some (going h said.0 c) s (slice_get b.trace.calls id) said.1 (subst (λ (z : ℕ). slice_get b.trace.calls z ≡ Some s) w q) in
            subst (λ (z : TracedCall). IsAccountedFor late' written id' z z.finished) this
            (subst (λ (z : ℕ). IsAccountedFor late' written z (going h said.0 c) None) (sym w)
            (one_more said.0 (k.told id (going h said.0 c) said.1)))
        | inr w ↦ others id' s (λ p. w (sym p)) s.finished (k.told id' s q)
      ];
      early = k.early;
      belongs = belong_more (record b.trace { events = n + 1 }) b.list e k.belongs (record { traced = going h said.0 c; is = said.1; hart = refl; after_start = omega (arith, early); before_return = omega arith });
    }
  where
    late' : ℕ → List Act
    late' = put late h (d.act ∷ [])

    written : History
    written = writes (Busy id c x) b h d

    one_more : (start : ℕ) → IsAccountedFor late b id (going h start c) None → IsAccountedFor late' written id (going h start c) None
    one_more start w =
        let same : w.0 ≡ x = same_acts id id c c w.0 x (b.calls h) w.1 is in
        let all : w.0 ++ late h ≡ w.0 = ap (λ (z : List Act). w.0 ++ z) none ∙ append-nil w.0 in
        let here : late' h ≡ d.act ∷ [] = put_same late h (d.act ∷ []) in (
          w.0,
          w.1,
          acts_more id b.list (entry_of b.trace.events id h d) refl ∙ (ap (λ (z : List Act). z ++ d.act ∷ []) (w.2 ∙ all) ∙ ap (λ (z : List Act). w.0 ++ z) (sym here)),
          subst (λ (z : List Act). Follows c [] (w.0 ++ z)) (sym here) (follows_more c [] w.0 d.act (subst (λ (z : List Act). Follows c [] z) all w.3) (ap (λ (z : List Act). next_of c z) same ∙ next)),
        )

    others : (id' : ℕ) (s : TracedCall) → id ≢ id' → (r : Option (ℕ × Reply)) → IsAccountedFor late b id' s r → IsAccountedFor late' written id' s r
    others id' s ne None w =
        let other : s.hart ≢ h = (λ q. let p : b.calls h ≡ Busy id' s.call w.0 = subst (λ (z : ℕ). b.calls z ≡ Busy id' s.call w.0) q w.1 in ne (same_id id id' c s.call x w.0 (b.calls h) is p)) in
        let there : late' s.hart ≡ late s.hart = put_other late h (d.act ∷ []) s.hart other in
        (w.0, w.1, acts_same id' b.list (entry_of b.trace.events id h d) ne ∙ (w.2 ∙ ap (λ (z : List Act). w.0 ++ z) (sym there)), subst (λ (z : List Act). Follows s.call [] (w.0 ++ z)) (sym there) w.3)
    others id' s ne (Some r) w = subst (λ (z : List Act). IsWhole s.call z r.1) (sym (acts_same id' b.list (entry_of b.trace.events id h d) ne)) w

-- the call is handed what the list has
pub tell_ok : (version : Version) (base t : Tree) (late : ℕ → List Act) (now : ℕ) (b : History) (h id : ℕ) (c : Call) (x : List Act) (d : Deed) → BookOk version base t late now b → b.calls h ≡ Busy id c x → late h ≡ d.act ∷ []
    → BookOk version base t (put late h []) now (tells (Busy id c x) b h d)
tell_ok version base t late now b h id c x d k is one =
    let said = k.busy h id c x is in
    record {
      rises = k.rises;
      below = k.below;
      chain = k.chain;
      busy = λ g id' c' x' q. elim (put_is b.calls h (Busy id c (x ++ d.act ∷ [])) g) [
        | inl w ↦
            let same : Busy id c (x ++ d.act ∷ []) ≡ Busy id' c' x' = sym w.1 ∙ q in
            let i : id ≡ id' = cc in
            let j : c ≡ c' = cc in (
              said.0,
              subst (λ (z : ℕ). slice_get b.trace.calls z ≡ Some (going g said.0 c')) i (subst (λ (z : Call). slice_get b.trace.calls id ≡ Some (going g said.0 z)) j (subst (λ (z : ℕ). slice_get b.trace.calls id ≡ Some (going z said.0 c)) (sym w.0) said.1)),
            )
        | inr w ↦ k.busy g id' c' x' (sym w.1 ∙ q)
      ];
      told = λ id' s q. told_at id' s s.finished (k.told id' s q);
      early = k.early;
      belongs = k.belongs;
    }
  where
    late' : ℕ → List Act
    late' = put late h []

    all : List Act
    all = x ++ d.act ∷ []

    same_all : (y : List Act) → y ≡ x → y ++ late h ≡ all ++ late' h
    same_all y e = ap (λ (z : List Act). z ++ late h) e ∙ (ap (λ (z : List Act). x ++ z) one ∙ (sym (append-nil all) ∙ ap (λ (z : List Act). all ++ z) (sym (put_same late h []))))

    -- this call
    here : (id' : ℕ) (s : TracedCall) → s.hart ≡ h → IsAccountedFor late b id' s None → IsAccountedFor late' (tells (Busy id c x) b h d) id' s None
    here id' s p w =
        let st : b.calls h ≡ Busy id' s.call w.0 = subst (λ (z : ℕ). b.calls z ≡ Busy id' s.call w.0) p w.1 in
        let xs : w.0 ≡ x = same_acts id' id s.call c w.0 x (b.calls h) st is in
        let i : id ≡ id' = same_id id id' c s.call x w.0 (b.calls h) is st in
        let j : c ≡ s.call = same_call id id' c s.call x w.0 (b.calls h) is st in
        let ends : w.0 ++ late s.hart ≡ all ++ late' s.hart = ap (λ (z : ℕ). w.0 ++ late z) p ∙ (same_all w.0 xs ∙ ap (λ (z : ℕ). all ++ late' z) (sym p)) in (
          all,
          ap (λ (z : ℕ). put b.calls h (Busy id c all) z) p ∙ (put_same b.calls h (Busy id c all) ∙ (ap (λ (z : ℕ). Busy z c all) i ∙ ap (λ (z : Call). Busy id' z all) j)),
          w.2 ∙ ends,
          subst (λ (z : List Act). Follows s.call [] z) ends w.3,
        )

    told_at : (id' : ℕ) (s : TracedCall) (r : Option (ℕ × Reply)) → IsAccountedFor late b id' s r → IsAccountedFor late' (tells (Busy id c x) b h d) id' s r
    told_at id' s (Some r) w = w
    told_at id' s None w = elim (same_or s.hart h) [
      | inl p ↦ here id' s p w
      | inr ne ↦
          let there : late' s.hart ≡ late s.hart = put_other late h [] s.hart ne in
          (w.0, put_other b.calls h (Busy id c all) s.hart ne ∙ w.1, w.2 ∙ ap (λ (z : List Act). w.0 ++ z) (sym there), subst (λ (z : List Act). Follows s.call [] (w.0 ++ z)) (sym there) w.3)
    ]

-- what the list has of a call under way
pub list_has : (version : Version) (base t : Tree) (late : ℕ → List Act) (now : ℕ) (b : History) (h id : ℕ) (c : Call) (x : List Act) → BookOk version base t late now b → b.calls h ≡ Busy id c x → acts_of id b.list ≡ x ++ late h
list_has version base t late now b h id c x k is =
    let said = k.busy h id c x is in
    let w = k.told id (going h said.0 c) said.1 in
    w.2 ∙ ap (λ (z : List Act). z ++ late h) (same_acts id id c c w.0 x (b.calls h) w.1 is)

-- a call starts
pub start_ok : (version : Version) (base t : Tree) (late : ℕ → List Act) (b : History) (h : ℕ) (c : Call) → BookOk version base t late b.trace.events b → b.calls h ≡ Free → late h ≡ [] → BookOk version base t late (b.trace.events + 1) (starts b h c)
start_ok version base t late b h c k free none =
    let n : ℕ = b.trace.events in
    let i : ℕ = length b.trace.calls in
    let said : TracedCall = going h n c in
    let low : AllBelow (n + 1) b.list = below_later n (n + 1) b.list (omega arith) k.below in
    record {
      rises = k.rises;
      below = low;
      chain = k.chain;
      busy = λ g id c' x q. elim (put_is b.calls h (Busy i c []) g) [
        | inl w ↦
            let same : Busy i c [] ≡ Busy id c' x = sym w.1 ∙ q in
            let a : i ≡ id = cc in
            let j : c ≡ c' = cc in (
              n,
              subst (λ (z : ℕ). slice_get (b.trace.calls ++ said ∷ []) z ≡ Some (going g n c')) a
                  (get_last b.trace.calls said ∙ subst (λ (z : Call). Some said ≡ Some (going g n z)) j (subst (λ (z : ℕ). Some said ≡ Some (going z n c)) (sym w.0) refl)),
            )
        | inr w ↦ let old = k.busy g id c' x (sym w.1 ∙ q) in (old.0, get_left b.trace.calls (said ∷ []) id (going g old.0 c') old.1)
      ];
      told = λ id s q. elim (get_more b.trace.calls said id s q) [
        | inr w ↦
            subst (λ (z : TracedCall). IsAccountedFor late (starts b h c) id z z.finished) w.1
            (subst (λ (z : ℕ). IsAccountedFor late (starts b h c) z said None) (sym w.0)
            ([], put_same b.calls h (Busy i c []), no_acts (record b.trace { events = n }) i b.list (get_past b.trace.calls) k.belongs ∙ sym none, nothing_follows))
        | inl w ↦ others id s s.finished (k.told id s w)
      ];
      early = λ id s q. elim (get_more b.trace.calls said id s q) [
        | inr w ↦ subst (λ (z : TracedCall). z.start < n + 1) w.1 (omega arith)
        | inl w ↦ let e = k.early id s w in omega (arith, e)
      ];
      belongs = belong_map (record b.trace { events = n }) (record (noted b.trace (Started h c)) { events = n + 1 }) (n + 1) b.list low (λ e lt o. record {
        traced = o.traced;
        is = get_left b.trace.calls (said ∷ []) e.call o.traced o.is;
        hart = o.hart;
        after_start = o.after_start;
        before_return = in_time n (n + 1) e.event o.traced.finished (omega arith) o.before_return;
      }) k.belongs;
    }
  where
    nothing_follows : Follows c [] (late h)
    nothing_follows = subst (λ (z : List Act). Follows c [] z) (sym none) (follows_none c [])

    others : (id : ℕ) (s : TracedCall) (r : Option (ℕ × Reply)) → IsAccountedFor late b id s r → IsAccountedFor late (starts b h c) id s r
    others id s None w =
        let other : s.hart ≢ h = (λ q. let p : b.calls h ≡ Busy id s.call w.0 = subst (λ (z : ℕ). b.calls z ≡ Busy id s.call w.0) q w.1 in absurd (cc (p, free))) in
        (w.0, put_other b.calls h (Busy (length b.trace.calls) c []) s.hart other ∙ w.1, w.2, w.3)
    others id s (Some r) w = w

-- what a reply makes of a call
data Ends (h : ℕ) (r : Reply) (now : ℕ) (v : TracedCall) : Type 0 where
  Now : v.hart ≡ h → v.finished ≡ None → ends_at h r now v ≡ record v { finished = Some (now, r) } → Ends h r now v
  Not : (v.finished ≡ None → v.hart ≢ h) → ends_at h r now v ≡ v → Ends h r now v

no_end : (o : Option (ℕ × Reply)) → is_nothing o ≡ true → o ≡ None
no_end None h = refl
no_end (Some r) h = absurd cc

ends_is : (h : ℕ) (r : Reply) (now : ℕ) (v : TracedCall) → Ends h r now v
ends_is h r now v = elim (either ((v.hart == h) && is_nothing v.finished)) [
  | inl y ↦ let two = and_true (v.hart == h) (is_nothing v.finished) y in Now (eq_is v.hart h two.0) (no_end v.finished two.1) (rw y refl)
  | inr y ↦ Not (λ f q. absurd (let z : ((v.hart == h) && is_nothing v.finished) ≡ true = both (v.hart == h) (is_nothing v.finished) (subst (λ (x : ℕ). (v.hart == x) ≡ true) q (eq_self v.hart)) (ap (λ (o : Option (ℕ × Reply)). is_nothing o) f) in cc (z, y))) (rw y refl)
]
  where
    both : (a b : Bool) → a ≡ true → b ≡ true → (a && b) ≡ true
    both a b p q = grind arith

-- a call replies
pub reply_ok : (version : Version) (base t : Tree) (late : ℕ → List Act) (b : History) (h id : ℕ) (c : Call) (x : List Act) (r : Reply) → BookOk version base t late (b.trace.events + 1) b → b.calls h ≡ Busy id c x → late h ≡ [] → MayEnd c x r → BookOk version base t late (b.trace.events + 1) (replies b h r)
reply_ok version base t late b h id c x r k is none may =
    let n : ℕ = b.trace.events in
    record {
      rises = k.rises;
      below = k.below;
      chain = k.chain;
      busy = λ g id' c' x' q. elim (put_is b.calls h Free g) [
        | inl w ↦ absurd (let z : Free ≡ Busy id' c' x' = sym w.1 ∙ q in cc)
        | inr w ↦
            let old = k.busy g id' c' x' (sym w.1 ∙ q) in
            (old.0, map_get (ends_at h r n) b.trace.calls id' (going g old.0 c') old.1 ∙ ap (λ (z : TracedCall). Some z) (kept_going (going g old.0 c') w.0 (ends_is h r n (going g old.0 c'))))
      ];
      told = λ id' s q.
          let v = get_map (ends_at h r n) b.trace.calls id' s q in
          subst (λ (z : TracedCall). IsAccountedFor late (replies b h r) id' z z.finished) (sym v.2) (told_at id' v.0 (ends_is h r n v.0) (k.told id' v.0 v.1));
      early = λ id' s q.
          let v = get_map (ends_at h r n) b.trace.calls id' s q in
          subst (λ (z : TracedCall). z.start < n + 1) (sym v.2) (early_at v.0 (ends_is h r n v.0) (k.early id' v.0 v.1));
      belongs = belong_map (record b.trace { events = n + 1 }) (record (noted b.trace (Replied h r)) { events = n + 1 }) (n + 1) b.list k.below (λ e lt o. belongs_at e lt o (ends_is h r n o.traced)) k.belongs;
    }
  where
    kept_going : (v : TracedCall) → v.hart ≢ h → Ends h r b.trace.events v → ends_at h r b.trace.events v ≡ v
    kept_going v ne (Now p f e) = absurd (ne p)
    kept_going v ne (Not p e) = e

    early_at : (v : TracedCall) → Ends h r b.trace.events v → v.start < b.trace.events + 1 → (ends_at h r b.trace.events v).start < b.trace.events + 1
    early_at v (Now p f e) lt = subst (λ (z : TracedCall). z.start < b.trace.events + 1) (sym e) lt
    early_at v (Not p e) lt = subst (λ (z : TracedCall). z.start < b.trace.events + 1) (sym e) lt

    whole : (id' : ℕ) (v : TracedCall) → v.hart ≡ h → IsAccountedFor late b id' v None → IsWhole v.call (acts_of id' b.list) r
    whole id' v p w =
        let st : b.calls h ≡ Busy id' v.call w.0 = subst (λ (z : ℕ). b.calls z ≡ Busy id' v.call w.0) p w.1 in
        let cs : c ≡ v.call = same_call id id' c v.call x w.0 (b.calls h) is st in
        let xs : x ≡ w.0 = same_acts id id' c v.call x w.0 (b.calls h) is st in
        let all : w.0 ++ late v.hart ≡ w.0 = ap (λ (z : ℕ). w.0 ++ late z) p ∙ (ap (λ (z : List Act). w.0 ++ z) none ∙ append-nil w.0) in
        let ends : MayEnd v.call w.0 r = subst (λ (z : List Act). MayEnd v.call z r) xs (subst (λ (z : Call). MayEnd z x r) cs may) in
        subst (λ (z : List Act). IsWhole v.call z r) (sym (w.2 ∙ all))
        (subst (λ (z : List Act). Follows v.call [] z) all w.3, ends.through, ends.reply, ends.room)

    told_at : (id' : ℕ) (v : TracedCall) → Ends h r b.trace.events v → IsAccountedFor late b id' v v.finished → IsAccountedFor late (replies b h r) id' (ends_at h r b.trace.events v) (ends_at h r b.trace.events v).finished
    told_at id' v (Now p f e) w = subst (λ (z : TracedCall). IsAccountedFor late (replies b h r) id' z z.finished) (sym e) (whole id' v p (subst (λ (o : Option (ℕ × Reply)). IsAccountedFor late b id' v o) f w))
    told_at id' v (Not p e) w = subst (λ (z : TracedCall). IsAccountedFor late (replies b h r) id' z z.finished) (sym e) (go v.finished refl w)
      where
        go : (o : Option (ℕ × Reply)) → v.finished ≡ o → IsAccountedFor late b id' v o → IsAccountedFor late (replies b h r) id' v o
        go None f q = (q.0, put_other b.calls h Free v.hart (p f) ∙ q.1, q.2, q.3)
        go (Some s) f q = q

    belongs_at : (e : Placed) → e.event < b.trace.events + 1 → (o : Belongs (record b.trace { events = b.trace.events + 1 }) e) → Ends h r b.trace.events o.traced → Belongs (record (noted b.trace (Replied h r)) { events = b.trace.events + 1 }) e
    belongs_at e lt o (Now p f q) = record {
      traced = record o.traced { finished = Some (b.trace.events, r) };
      is = map_get (ends_at h r b.trace.events) b.trace.calls e.call o.traced o.is ∙ ap (λ (z : TracedCall). Some z) q;
      hart = o.hart;
      after_start = o.after_start;
      before_return = omega (arith, lt);
    }
    belongs_at e lt o (Not p q) = record {
      traced = o.traced;
      is = map_get (ends_at h r b.trace.events) b.trace.calls e.call o.traced o.is ∙ ap (λ (z : TracedCall). Some z) q;
      hart = o.hart;
      after_start = o.after_start;
      before_return = o.before_return;
    }

-- an event that neither starts nor replies
pub passes_ok : (version : Version) (base t : Tree) (late : ℕ → List Act) (b : History) → BookOk version base t late (b.trace.events + 1) b → BookOk version base t late (b.trace.events + 1) (passes b)
passes_ok version base t late b k = record { rises = k.rises; below = k.below; chain = k.chain; busy = k.busy; told = k.told; early = k.early; belongs = k.belongs }

-- The kept list explains the trace.
pub explained : (version : Version) (base : TreeData) (t : Tree) (late : ℕ → List Act) (b : History) → BookOk version (tree_of base) t late b.trace.events b → Explains version base b.trace b.list
explained version base t late b k = record {
  rises = k.rises;
  end = t;
  chain = k.chain;
  written = λ id s is. written_at id s s.finished (k.told id s is);
  belongs = k.belongs;
}
  where
    written_at : (id : ℕ) (s : TracedCall) (r : Option (ℕ × Reply)) → IsAccountedFor late b id s r → IsWritten s.call (acts_of id b.list) r
    written_at id s None w = subst (λ (z : List Act). Follows s.call [] z) (sym w.2) w.3
    written_at id s (Some r) w = w
