-- Calls that follow a path to its last name: what their walks write, and what is seen at the name's directory.
use Rattle.image_versions.specs.declared.version.Version.{Version}
use Rattle.inode_machine.proofs.Vocabulary.{◌≡◌, ℕ, ◌+◌, ◌<◌, Bool, true, false, List, [], ◌∷◌, ◌++◌, Option, Some, None, refl, sym, ◌∙◌, subst, if◌then◌else◌, Do, P, own, onto, oldest_first, Fine, Safe, Wp, Begun, onto_is, Cause, NoEntry, Reply, Call, Node, Action, Inherit, StepAnswer, Failed, hart_count, Name, Tree, put, look, live_directory, refusal_with, refused, IsInPlace, Act, next_of, row_of, put_same, live_is, look_same, Walk, Step, MayEnd, IsPlayed, IsWholeCall, fail, Begin, Look, GiveUpWalk, World, Mark, Take, Query, Sight, seen_in, found_by, marked, places, Own, own_of, Inv, looking_cost, machine, Sought, looks_if, looks_where, makes, covered_calls}
use Rattle.inode_machine.proofs.Frame.{fair_same}
use Rattle.inode_machine.proofs.Rules.{quiet, locked_held}
use Rattle.inode_machine.proofs.SoFar.{played_so_far}
use Rattle.inode_machine.proofs.Looks.{live_face, s-take-then, quit_good, look_refused_good, Agrees}
use Rattle.inode_machine.proofs.Walks.{On, Ready, known_there, on_refers}
use Rattle.inode_machine.proofs.Acting.{told_step}
use Rattle.inode_machine.proofs.Endings.{Walked}

pub begun_by : (version : Version) (c : Call) (acts : List Act) (es rest : List Step) (r : Reply) → Walked c acts es → IsPlayed c acts rest r → Begun (covered_calls version) c es
begun_by version c acts es rest r w p = played_so_far c [] (oldest_first es) rest r (subst (λ (z : List Step). IsPlayed c [] z r) (onto_is es rest) (w rest r p))

pub written_by : (c : Call) (acts : List Act) (es : List Step) (r : Reply) → Walked c acts es → MayEnd c acts r → IsWholeCall c (oldest_first es) r
written_by c acts es r w m = w [] r m

-- The step that comes next in the call, and how the call may go on where it is refused.
pub record Follows (c : Call) (acts : List Act) (s : Action) : Type 0 where
  pub next : next_of c acts ≡ Some s
  pub rest : Cause → List Step
  pub reply : Cause → Reply
  pub fails : (k : Cause) → IsPlayed c (acts ++ record { step = s; answer = Failed k } ∷ []) (rest k) (reply k)

-- the walk begins
pub walking_begun : (c : Call) (acts : List Act) (s : Action) (es : List Step) → Follows c acts s → Walked c acts es → Walked c acts (record { move = Begin s 0; told = None } ∷ es)
walking_begun c acts s es f w rest r p = w (record { move = Begin s 0; told = None } ∷ rest) r (f.next, p)

pub walking_on : (c : Call) (acts : List Act) (es : List Step) → Walked c acts es → Walked c acts (record { move = Look 0; told = None } ∷ es)
walking_on c acts es w rest r p = w (record { move = Look 0; told = None } ∷ rest) r (tt, p)

-- its step has answered
pub walking_told : (c : Call) (acts : List Act) (s : Action) (a : StepAnswer) (new : ℕ) (es : List Step) → Walked c acts es → Walked c (acts ++ record { step = s; answer = a } ∷ []) (told_step new s a ∷ es)
walking_told c acts s a new es w rest r p = w (told_step new s a ∷ rest) r (tt, p)

abbrev pub quit_step : Action → Step
quit_step s = record { move = GiveUpWalk s; told = Some (fail s) }

pub walking_quit : (c : Call) (acts : List Act) (s : Action) (es : List Step) → Walked c acts es → Walked c (acts ++ record { step = s; answer = Failed NoEntry } ∷ []) (quit_step s ∷ es)
walking_quit c acts s es w rest r p = w (quit_step s ∷ rest) r (tt, p)

-- the steps so far begin the call
pub begun_refused : (version : Version) (c : Call) (acts : List Act) (s : Action) (k : Cause) (es : List Step) → Follows c acts s → Walked c (acts ++ record { step = s; answer = Failed k } ∷ []) es → Begun (covered_calls version) c es
begun_refused version c acts s k es f w = begun_by version c (acts ++ record { step = s; answer = Failed k } ∷ []) es (f.rest k) (f.reply k) w (f.fails k)

pub begun_walking : (version : Version) (c : Call) (acts : List Act) (s : Action) (es : List Step) → Follows c acts s → Walked c acts es → Begun (covered_calls version) c es
begun_walking version c acts s es f w = begun_by version c acts es (told_step 0 s (Failed NoEntry) ∷ f.rest NoEntry) (f.reply NoEntry) w (tt, f.fails NoEntry)

-- what a tree that agrees with the hart finds in a directory that the hart keeps
pub agrees_look : (b : Tree) (d : ℕ) (e : Name) (x : Option Node) (O : Own) → live_directory x ≡ true → Agrees (record O { inodes = put O.inodes d (Some (locked_held x)) }) b → (b.nodes d ≡ x) × (look b.nodes d e ≡ look (λ j. x) d e)
agrees_look b d e x O live agrees = let q = agrees d (locked_held x) (put_same O.inodes d (Some (locked_held x))) (live_is x live) in (q, look_same (λ j. x) b.nodes d e q)

-- The lock of the last name's directory is taken, and what is seen decides. Its walk is lost if the directory has no
-- links, its step is refused, or nothing is decided yet.
pub s-see : (version : Version) {h : ℕ} (c : Call) (acts : List Act) (s : Action) {looking : Query} (refuses : Sight → Bool) {k : Sight → P (machine version) Reply} {Q : Reply → List Step → World → Type 0} {base : ℕ → ℕ} {O0 : Own} (d : ℕ) (e : Name) {ns : List ℕ} {n : ℕ} {es : List Step} {w : World} {O : Own}
    → h < hart_count → Ready base O0 → On version h s d e [] base ns O0 O w → looking_cost looking < n → Sought version looking → Follows c acts s → Walked c acts es
    → ((t : Tree) → row_of t h ≡ O.row → IsInPlace t h s) → ((b : Tree) → refused b h s ≡ b) → ((g : ℕ) → s ≡ Inherit g → ⊥) → ((f : Option ℕ) → found_by s f ≡ None)
    → ((x : Option Node) (l : ℕ) (u : World) → live_directory x ≡ false → l + (looking_cost looking + 1) ≡ n → own_of h u ≡ record O { inodes = put O.inodes d (Some (locked_held x)); mine = record { refs = O.mine.refs; walk = None; pending = None } }
    → Safe (machine version) h (Begun (covered_calls version) c) Q (k (seen_in version d looking x)) l (quit_step s ∷ es) u)
    → ((x : Option Node) → live_directory x ≡ true → refuses (seen_in version d looking x) ≡ true → (why : Cause) × ((b : Tree) → Agrees (record O { inodes = put O.inodes d (Some (locked_held x)) }) b → refusal_with version b h s (look (λ j. x) d e) (Some (d, e)) ≡ Some why)
    × ((l : ℕ) (u : World) → l + (looking_cost looking + 1) ≡ n → own_of h u ≡ record O { inodes = put O.inodes d (Some (locked_held x)); mine = record { refs = O.mine.refs; walk = None; pending = None } }
    → Safe (machine version) h (Begun (covered_calls version) c) Q (k (seen_in version d looking x)) l (told_step 0 s (Failed why) ∷ es) u))
    → ((x : Option Node) (l : ℕ) (u : World) → Inv u → live_directory x ≡ true → refuses (seen_in version d looking x) ≡ false → l + (looking_cost looking + 1) ≡ n → own_of h u ≡ record O { inodes = put O.inodes d (Some (locked_held x)) }
    → Safe (machine version) h (Begun (covered_calls version) c) Q (k (seen_in version d looking x)) l es u)
    → Safe (machine version) h (Begun (covered_calls version) c) Q (Do (Take d looking) (looks_where s refuses) k) n es w
s-see version {h} c acts s {looking} refuses {k} {Q} {base} {O0} d e {ns} {n} {es} {w} {O} lt ready on pos sought follows walking place still other found dead refd goes =
    s-take-then version on.owns free lt pos on.out (on_refers version on) (λ v inv ov. known_there h d v O inv ov lt on.out (on_refers version on) on.known) sought (λ u x inv own1. seen u x inv own1 (live_directory x) refl (refuses (seen_in version d looking x)) refl)
  where
    free : O.desk.lender ≡ None
    free = on.stays.lender ∙ ready.free

    y : Walk
    y = record { step = s; at = d; next = e; rest = [] }

    Goal : World → Option Node → Option Mark → Type 0
    Goal u x m = Fine (machine version) h (places version h (Take d looking) (seen_in version d looking x) m u) (looking_cost looking) n (Begun (covered_calls version) c) es u (marked version h m u) (λ l. Wp (machine version) h (Begun (covered_calls version) c) Q (k (seen_in version d looking x)) l (onto (own h (places version h (Take d looking) (seen_in version d looking x) m u)) es) (marked version h m u))

    mark_is : (x : Option Node) (a b : Bool) → live_directory x ≡ a → refuses (seen_in version d looking x) ≡ b → looks_where s refuses (seen_in version d looking x) ≡ (if a then looks_if b else makes (GiveUpWalk s))
    mark_is x a b q r = λ z. if (live_face version x ∙ q) z then looks_if (r z) else makes (GiveUpWalk s)

    seen : (u : World) (x : Option Node) → Inv u → own_of h u ≡ record O { inodes = put O.inodes d (Some (locked_held x)) } → (a : Bool) → live_directory x ≡ a → (b : Bool) → refuses (seen_in version d looking x) ≡ b → Goal u x (looks_where s refuses (seen_in version d looking x))
    seen u x inv own1 false q b r = subst (λ (m : Option Mark). Goal u x m) (sym (mark_is x false b q r))
        (quit_good version h (looking_cost looking) n d (Begun (covered_calls version) c) Q es u (record O { inodes = put O.inodes d (Some (locked_held x)) }) (locked_held x) y (k (seen_in version d looking x)) own1 free lt inv on.walk on.pending refl (put_same O.inodes d (Some (locked_held x))) q
        (begun_refused version c acts s NoEntry (quit_step s ∷ es) follows (walking_quit c acts s es walking)) pos (λ l u2 p own2. dead x l u2 q p own2))
    seen u x inv own1 true q true r = subst (λ (m : Option Mark). Goal u x m) (sym (mark_is x true true q r)) (
        let z = refd x q r in
        look_refused_good version h (looking_cost looking) n d (Begun (covered_calls version) c) Q es u (record O { inodes = put O.inodes d (Some (locked_held x)) }) (locked_held x) y (look (λ j. x) d e) z.0 (look (λ j. x) d e) (Some (d, e)) (k (seen_in version d looking x)) own1 free lt inv on.walk on.pending refl (put_same O.inodes d (Some (locked_held x))) q refl
        (λ b i. refl) (λ m m' t p. p) z.1 still (λ t p. place t p) other (found (look (λ j. x) d e))
        (begun_refused version c acts s z.0 (told_step 0 s (Failed z.0) ∷ es) follows (walking_told c acts s (Failed z.0) 0 es walking)) pos z.2)
    seen u x inv own1 true q false r = subst (λ (m : Option Mark). Goal u x m) (sym (mark_is x true false q r)) (quiet version (fair_same inv) refl pos (λ l p. (goes x l u inv q r p own1).wp))
