-- The calls on whole inodes are right, with the history that is their own operations.
use Rattle.run_laws.proofs.Vocabulary.{◌≡◌, ◌≢◌, ℕ, Option, List, [], ◌∷◌, ◌++◌, refl, sym, ◌∙◌, ap, subst, inl, inr, ne_eqb, Full, Reply, Call, Ret, Do, ExecResult, Waits, Ran, Stops, PartOf as P, own, onto, oldest_first, placed_with, Good, Wp, Laws, Begun, Ends, Lawful, onto_rest, own_one, Wp-weaker, MoveStep, exec, go, marked, places, with_mark, limit, program, Honest, Idle, Inv, May, MayWait, Others, machine, more, Answer, Mark, laws, served_calls, served_lawful, keeps, IsRunOf, IsRunOfCall, Operation, inode_calls, operations, told_by, unreserved, whole_inodes, Version}
use Rattle.inode_machine.specs.World.{Op, Outside, World}
use Rattle.inodes_on_blocks.specs.Lowering.{Keeps}
use Rattle.run_laws.proofs.Blamed.{IsBlamed, begun_wanted, blamed_on, ends_wanted, some_run}
use Rattle.run_laws.proofs.Reserved.{start_same}
use Rattle.run_laws.proofs.Running.{never_stops}
use Rattle.run_laws.proofs.WantsCalls.{calls_blame}

pub whole_laws : (version : Version) → Laws (whole_inodes version)
whole_laws version =
    record {
      same = λ h w. (refl, (laws version).same h w);
      trans = λ h u v w xs ys a b. (rw (a.0, b.0) refl, (laws version).trans h u v w [] [] a.1 b.1);
      idle_none = λ h v w xs o i. o.0;
      idle_stays = λ h v w xs o i. (laws version).idle_stays h v w [] o.1 i;
      clean_before = λ h v w xs o y. tt;
    }

pub keeps_whole : (version : Version) → Keeps (operations version)
keeps_whole version h v w xs o = keeps version h v w [] o.1

abbrev did : Version → ℕ → World → (op : Op) → (Answer op → Option Mark) → Answer op → Operation
did version h v op m a = record { op = op; answer = a; mark = m a; told = told_by version h (m a) v }

-- an operation's mark counts at its answer alone
abbrev pub answer_or : {A S : Type 0} → A → ExecResult A S → A
answer_or a Waits = a
answer_or a (Ran b s) = b
answer_or a (Stops s) = a

pub mark_there : (version : Version) {A : Type 0} (h : ℕ) (m : A → Option Mark) (a : A) (u : World) (d : ExecResult A World) → with_mark version h m d ≡ Ran a u
    → with_mark version h (λ _. m a) d ≡ Ran a u
mark_there version h m a u Waits e = e
mark_there version {A} h m a u (Ran b w) e = let same : b ≡ a = ap (answer_or a) e in ap (λ (z : A). Ran b (marked version h (m z) w)) (sym same) ∙ e
mark_there version h m a u (Stops w) e = e

own_none : (g h : ℕ) (e : Operation) → g ≢ h → own g ((h, e) ∷ []) ≡ []
own_none g h e ne = rw (ne_eqb h g (λ q. ne (sym q))) refl

module _ (version : Version) (call : Call) where
  -- after these operations, the newest first, p is the rest of the call's program
  record OnWay (p : P (machine version) Reply) (fs : List Operation) : Type 0 where
    runs : (rest : List Operation) (r : Reply) → IsRunOf p rest r → IsRunOf (program version call) (onto fs rest) r
    blamed : (room : Full) → IsBlamed version room p fs

  abbrev RunBegun : List Operation → Type 0
  RunBegun fs = (rest : List Operation) × (r : Reply) × IsRunOfCall version call (oldest_first fs ++ rest) r

  abbrev RunEnds : ℕ → Reply → List Operation → World → Type 0
  RunEnds h r fs w = IsRunOfCall version call (oldest_first fs) r × Idle h w

  begun_run : (p : P (machine version) Reply) (fs : List Operation) → OnWay p fs → RunBegun fs
  begun_run p fs way =
      let x = some_run p in (
        x.0,
        x.1,
        subst (λ (zs : List Operation). IsRunOfCall version call zs x.1) (onto_rest fs [] x.0)
            (record { runs = way.runs x.0 x.1 x.2; wants = λ room full. begun_wanted version room p fs (way.blamed room) full }),
      )

  begins : OnWay (program version call) []
  begins = record { runs = λ rest r is. is; blamed = λ room. inr (calls_blame version room call) }

  -- whatever else is shown of a program, it makes its own operations one after the other
  follows : (h : ℕ) (B : List MoveStep → Type 0) (Q : Reply → List MoveStep → World → Type 0) → ((a : Reply) (es : List MoveStep) (w : World) → Q a es w → Idle h w)
      → (p : P (machine version) Reply) (n : ℕ) (es : List MoveStep) (w : World) (fs : List Operation) → OnWay p fs → Wp (machine version) h B Q p n es w → Wp (whole_inodes version) h RunBegun (RunEnds h) p n fs w
  follows h B Q idle (Ret a) n es w fs way g =
      (record { runs = way.runs [] a refl; wants = λ room full. ends_wanted version room fs a (way.blamed room) full }, idle a es w g)
  follows h B Q idle (Do op m k) n es w fs way g =
      λ v xs o i. let q = g v [] o.1 i in (
        λ y. inl o.0,
        q.1,
        λ x t. subst (λ (zs : List Operation). Good (whole_inodes version) (Answer op) h (placed_with (whole_inodes version) h op m v) (more op) n RunBegun (onto zs fs) v (MayWait h op v) (go version h x op m v) (λ l a u. Wp (whole_inodes version) h RunBegun (RunEnds h) (k a) l (onto (own h ((h, did version h v op m a) ∷ [])) (onto zs fs)) u)) (sym o.0)
            (made v x i q.1 t (λ a l gs u on then_. follows h B Q idle (k a) l gs u (did version h v op m a ∷ fs) on then_) (go version h x op m v) refl (q.2 x t)),
        q.3,
      )
    where
      on : (v : World) (a : Answer op) (l : ℕ) (gs : List MoveStep) (u : World) → Inv u → Wp (machine version) h B Q (k a) l gs u
          → OnWay (k a) (did version h v op m a ∷ fs)
      on v a l gs u inv then_ =
          record {
            runs = λ rest r is. way.runs (did version h v op m a ∷ rest) r (a, told_by version h (m a) v, refl, is);
            blamed = λ room. blamed_on version room h B Q fs (did version h v op m a) m k l gs u (way.blamed room) inv then_;
          }

      made : (v : World) (x : Outside) → Inv v → May version h op v → Honest h op v x
          → ((a : Answer op) (l : ℕ) (gs : List MoveStep) (u : World) → OnWay (k a) (did version h v op m a ∷ fs) → Wp (machine version) h B Q (k a) l gs u
          → Wp (whole_inodes version) h RunBegun (RunEnds h) (k a) l (did version h v op m a ∷ fs) u)
          → (d : ExecResult (Answer op) World) → go version h x op m v ≡ d
          → Good (machine version) (Answer op) h (placed_with (machine version) h op m v) (more op) n B es v (MayWait h op v) d (λ l a u. Wp (machine version) h B Q (k a) l (onto (own h (places version h op a (m a) v)) es) u)
          → Good (whole_inodes version) (Answer op) h (placed_with (whole_inodes version) h op m v) (more op) n RunBegun fs v (MayWait h op v) d (λ l a u. Wp (whole_inodes version) h RunBegun (RunEnds h) (k a) l (onto (own h ((h, did version h v op m a) ∷ [])) fs) u)
      made v x holds allowed said next Waits is f = f
      made v x holds allowed said next (Ran a u) is f =
          let later = on v a f.left (onto (own h (places version h op a (m a) v)) es) u f.inv f.next in
          record {
            inv = f.inv;
            kept = λ other ne. (
              own_none other h (did version h v op m a) ne,
              subst (λ (zs : List MoveStep). Others other v zs u) (f.kept other ne).none
                  (f.kept other ne),
            );
            goes = λ y. (unreserved u, record { before = v; after = u; outside = x; from = refl; to = refl; may = allowed; honest = said; goes = mark_there version h m a u (exec version h x op v) is; holds = holds; keeps = f.inv; tells = refl }, refl);
            clean = λ y. tt;
            begun = λ y. inr (subst (λ (zs : List Operation). RunBegun (onto zs fs)) (sym (own_one {A = Operation} h (did version h v op m a))) (begun_run (k a) (did version h v op m a ∷ fs) later));
            left = f.left;
            falls = f.falls;
            next = subst (λ (zs : List Operation). Wp (whole_inodes version) h RunBegun (RunEnds h) (k a) f.left (onto zs fs) u) (sym (own_one {A = Operation} h (did version h v op m a))) (next a f.left (onto (own h (places version h op a (m a) v)) es) u later f.next);
          }
      made v x holds allowed said next (Stops u) is f = absurd (never_stops version h x op m v u is)

pub whole_lawful : (version : Version) → Lawful (inode_calls version)
whole_lawful version =
    record {
      laws = whole_laws version;
      calls = λ h call busy w u holds idle free e.
          let r = (served_lawful version).calls h call busy w u holds idle free e in
          record {
            inv = r.inv;
            halted = r.halted;
            kept = λ other ne b. (refl, r.kept other ne b);
            rests = r.rests;
            tree = start_same version h call busy w u (idle h free) e;
            clean = λ y. y;
            none = λ y. begun_run version call (program version call) [] (begins version call);
            runs = λ i.
                Wp-weaker (whole_inodes version) h (program version call) (RunBegun version call) (Begun (inode_calls version) call) (RunEnds version call h)
                (Ends (inode_calls version) h call) (limit version call) [] u
                (λ fs b. b) (λ a fs v e. (λ y. e.0, e.1))
                (follows version call h (Begun (served_calls version) call) (Ends (served_calls version) h call) (λ a es v e. e.1) (program version call)
                (limit version call) [] u [] (begins version call) (r.runs i));
          };
    }
