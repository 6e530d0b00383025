-- What the harts' programs are answered in a run, and what they end with.
use Rattle.locked_world.proofs.Vocabulary.{◌≡◌, ◌≢◌, ℕ, ◌<◌, Bool, false, List, [], ◌∷◌, Option, Some, None, refl, sym, ◌∙◌, ap, subst, Super, sizes_of, Fuse, Halted, Reply, Call, put, Prog, Ret, Do, plain, Theory, fresh_state, EventOf as Event, Start, Started, Began, Refuses, Begins, changed, is_some, Plain, PlainMade, SoundPlain, MayOf, plain_makes, plain_start, plain_begun, plain_run, inv_of, sound_keeps, sound_fresh, sound_event, sound_may, LogPart, Outside, P, State, exec, IsWholeLog, program, Refusal, Shows, mounts_show_their_trees, first, SharedState, layer, handlers, served_calls, child_of, begin_in, block_calls, block_code, first_holds, first_idle, is_code, lawful, begun_here, below_count, HartsOf, shared_of, Rests, AllAnswer, WorldOf, calls_of, mountable, rests_erased, HandsBack, EndsWith, StoredRun, IsRunOf, contents, failures, disk_of}
use Rattle.plain_tree.specs.declared.call.Call.TheVariants as calls
use Rattle.locked_world.proofs.Endings.{Leaves, OfCall, is_read, leaves_plain, leaves_lowered, program_ends}
use Rattle.locked_world.proofs.Fitting.{SeesWhole, op_fits, ran_in}
use Rattle.locked_world.proofs.ReadCalls.{read_hands_back}
use Rattle.locked_world.proofs.Spares.{AnswersFit}

-- a mounted world is what the code has of a sound state
rests_first : (d : Fuse) (w : HartsOf Fuse) (rests : Rests contents failures d w) (s : Super) → s ≡ sizes_of (contents w.core.log.cache.device) → SoundPlain (block_calls s) (block_code s) (calls_of contents failures s w)
rests_first d w rests s e =
    let disk : List (List ℕ) = contents w.core.log.cache.device in
    let count : ℕ = failures w.core.log.cache.device in
    let shows = mounts_show_their_trees disk count (mountable contents failures d w rests) in
    subst (λ (z : Super). SoundPlain (block_calls z) (block_code z) (calls_of contents failures z w)) (sym e)
    (record {
      state = fresh_state (block_calls (sizes_of disk)) (first disk count);
      sound = sound_fresh (block_calls (sizes_of disk)) (first disk count) (first_holds disk count shows) (first_idle disk count shows);
      is = rests_erased contents failures d w rests;
    })

-- events keep a state that the code has of a sound one
sound_over : (sizes : Super) (es : List (Event Call Outside)) (p : Plain (block_calls sizes) (block_code sizes)) → SoundPlain (block_calls sizes) (block_code sizes) p → AllAnswer sizes es p → SoundPlain (block_calls sizes) (block_code sizes) (plain_run (block_calls sizes) (block_code sizes) es p)
sound_over sizes [] p s a = s
sound_over sizes (e ∷ es) p s a =
    sound_over sizes es (plain_makes (block_calls sizes) (block_code sizes) e p).after (sound_event (block_calls sizes) (block_code sizes) (is_code sizes) e p (plain_makes (block_calls sizes) (block_code sizes) e p) s a.0 refl) a.1

-- the world of a run is what the code has of a sound state
pub sound_here : (s : StoredRun) (w : WorldOf Fuse) → IsRunOf s w → SoundPlain (block_calls w.sizes) (block_code w.sizes) (calls_of contents failures w.sizes w.harts)
sound_here s w run =
    let rests = run.mounted.rests in
    let sizes : Super = run.first.sizes in
    let same : sizes ≡ sizes_of (contents run.first.harts.core.log.cache.device) = run.mounted.sizes ∙ sym rests.disk.sizes in
    let mounted : SoundPlain (block_calls sizes) (block_code sizes) (calls_of contents failures sizes run.first.harts) = rests_first (disk_of s) run.first.harts rests sizes same in
    let last : SoundPlain (block_calls sizes) (block_code sizes) (calls_of contents failures sizes w.harts) =
    subst (SoundPlain (block_calls sizes) (block_code sizes)) run.history.1.makes (sound_over sizes run.history.0 (calls_of contents failures sizes run.first.harts) mounted run.history.1.answers) in
    subst (λ (z : Super). SoundPlain (block_calls z) (block_code z) (calls_of contents failures z w.harts)) (sym run.sizes) last

-- and the operation that a hart's call makes next may be made
pub may_here : (s : StoredRun) (w : WorldOf Fuse) → IsRunOf s w → (h : ℕ) → w.harts.stopped ≡ false
    → MayOf (block_calls w.sizes) (block_code w.sizes) h (calls_of contents failures w.sizes w.harts).shared ((calls_of contents failures w.sizes w.harts).running h)
may_here s w run h on = sound_may (block_calls w.sizes) (block_code w.sizes) (is_code w.sizes) (lawful w.sizes) (calls_of contents failures w.sizes w.harts) (sound_here s w run) on h

-- ---- what blocks are answered

-- the log of a run's world, unless a failure has stopped it
pub record HasLog (l : LogPart) : Type 0 where
  pub whole : IsWholeLog l
  pub runs : l.phase ≢ Halted
  pub long : SeesWhole l

has_log : (s : StoredRun) (w : WorldOf Fuse) → IsRunOf s w → w.harts.stopped ≡ false → HasLog (shared_of contents failures w.harts).log
has_log s w run on =
    let L : Theory = block_calls w.sizes in
    let q : SoundPlain L (block_code w.sizes) (calls_of contents failures w.sizes w.harts) = sound_here s w run in
    let is : q.state.stopped ≡ false = ap (λ (p : Plain L (block_code w.sizes)). p.stopped) q.is ∙ on in
    let shows : Shows q.state.world.real.blocks q.state.world.seen = (inv_of L q.state.stopped q.state.world (sound_keeps L (lawful w.sizes) q.state q.sound).holds is).0.0 in
    let same : q.state.world.real.blocks.state.log ≡ (shared_of contents failures w.harts).log = ap (λ (p : Plain L (block_code w.sizes)). p.shared.state.log) q.is in
    subst HasLog same (record { whole = shows.whole; runs = shows.runs; long = shows.blocks.seen.whole })

-- in the world of a run every block that a hart is answered fits
pub answers_fit : (s : StoredRun) (w : WorldOf Fuse) → IsRunOf s w → (h : ℕ) (x : Outside) → w.harts.stopped ≡ false → AnswersFit h x (calls_of contents failures w.sizes w.harts).shared
answers_fit s w run h x on op a t may e =
    let log = has_log s w run on in
    let state : State = shared_of contents failures w.harts in
    let ran = ran_in (λ (u : State). record (calls_of contents failures w.sizes w.harts).shared { state = u }) (exec h x op state) a t e in
    op_fits state log.whole log.runs log.long h x op a ran.0 may ran.1

-- ---- what programs end with

ends_of : {A : Type 0} (Is : A → Type 0) (p : P A) → Leaves Is p → EndsWith Is p
ends_of Is (Ret a) e = e
ends_of Is (Do op m k) e = λ a fits. ends_of Is (k a) (e a)

leaves_more : {Op : Type 0} {Answer : Op → Type 0} {M A : Type 0} (Is Was : A → Type 0) → ((a : A) → Was a → Is a) → (p : Prog Op Answer M A) → Leaves Was p → Leaves Is p
leaves_more Is Was f (Ret a) e = f a e
leaves_more Is Was f (Do op m k) e = λ a. leaves_more Is Was f (k a) (e a)

-- a reply with the call itself hands it back, if it isn't a read
handed : (call : Call) → is_read call ≡ false → (reply : Reply) → OfCall call reply → HandsBack call reply
handed (calls.Read fd buffer) e reply is = absurd (let q = e in cc (q))
handed call e reply is = is

other_hands_back : (sizes : Super) (call : Call) → is_read call ≡ false → EndsWith (HandsBack call) (plain ((block_calls sizes).program call))
other_hands_back sizes call e =
    let asked = program sizes.version call in
    let above : Leaves (HandsBack call) asked = leaves_more (HandsBack call) (OfCall call) (handed call e) asked (program_ends sizes.version call e) in
    ends_of (HandsBack call) (plain ((block_calls sizes).program call)) (leaves_plain (HandsBack call) ((block_calls sizes).program call) (leaves_lowered (served_calls sizes.version).M (layer sizes) (handlers sizes) (HandsBack call) (layer sizes).none asked above))

-- every call's program on the blocks hands the call back
hands_back : (sizes : Super) (call : Call) → EndsWith (HandsBack call) (plain ((block_calls sizes).program call))
hands_back sizes (calls.Open path flags) = other_hands_back sizes (calls.Open path flags) refl
hands_back sizes (calls.Read fd buffer) = read_hands_back sizes fd buffer (layer sizes).none
hands_back sizes (calls.Write fd bytes) = other_hands_back sizes (calls.Write fd bytes) refl
hands_back sizes (calls.Link old new) = other_hands_back sizes (calls.Link old new) refl
hands_back sizes (calls.Unlink path) = other_hands_back sizes (calls.Unlink path) refl
hands_back sizes (calls.Mkdir path) = other_hands_back sizes (calls.Mkdir path) refl
hands_back sizes (calls.Chdir path) = other_hands_back sizes (calls.Chdir path) refl
hands_back sizes (calls.Dup fd) = other_hands_back sizes (calls.Dup fd) refl
hands_back sizes (calls.Fstat fd) = other_hands_back sizes (calls.Fstat fd) refl
hands_back sizes (calls.Close fd) = other_hands_back sizes (calls.Close fd) refl
hands_back sizes (calls.Inherit child) = other_hands_back sizes (calls.Inherit child) refl

-- ---- starts

-- a start that began its call
pub record Begun (sizes : Super) (h : ℕ) (call : Call) (p t : Plain (block_calls sizes) (block_code sizes)) : Type 0 where
  pub below : h < 8
  pub prog : P Reply
  pub running : t.running ≡ changed p.running h (Some prog)
  pub back : EndsWith (HandsBack call) prog

pub started : (sizes : Super) (h : ℕ) (call : Call) (p t : Plain (block_calls sizes) (block_code sizes)) → ◌≡◌ {A = PlainMade (block_calls sizes) (block_code sizes)} (plain_makes (block_calls sizes) (block_code sizes) (Start h call) p) (record { came = Started; after = t })
    → Begun sizes h call p t
started sizes h call p t = of (p.running h)
  where
    busy : ℕ → Bool
    busy j = is_some (p.running j)

    left : SharedState
    left = record p.shared { children = put p.shared.children h (child_of call) }

    of_begun : (b : Began Refusal SharedState) → begin_in h call busy p.shared left ≡ b → ◌≡◌ {A = PlainMade (block_calls sizes) (block_code sizes)} (plain_begun (block_calls sizes) (block_code sizes) h call p b) (record { came = Started; after = t }) → Begun sizes h call p t
    of_begun (Refuses why) is e = absurd (let z = ap (λ (m : PlainMade (block_calls sizes) (block_code sizes)). m.came) e in cc (z))
    of_begun (Begins u) is e = record {
      below = below_count h (begun_here h call busy p.shared left u is).hart;
      prog = plain ((block_calls sizes).program call);
      running = sym (ap (λ (m : PlainMade (block_calls sizes) (block_code sizes)). m.after.running) e);
      back = hands_back sizes call;
    }

    of : (o : Option (P Reply)) → ◌≡◌ {A = PlainMade (block_calls sizes) (block_code sizes)} (plain_start (block_calls sizes) (block_code sizes) h call p o) (record { came = Started; after = t }) → Begun sizes h call p t
    of None e = of_begun (begin_in h call busy p.shared left) refl e
    of (Some z) e = absurd (let y = ap (λ (m : PlainMade (block_calls sizes) (block_code sizes)). m.came) e in cc (y))
