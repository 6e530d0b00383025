-- It is as lawful, and its code as right.
use Rattle.atomic_programs.proofs.Vocabulary.{◌≡◌, ℕ, List, [], refl, ◌∙◌, Prog, Ret, Do, bind, ExecResult, Waits, Ran, Stops, Machine, P, Good, Laws, Wp, onto, own, Handlers, LowerLayer, lowered, Theory, Begun, Ends, Lawful, Code, IsCode, carrying, handlers_with_marks, keeping, keeping_code, lower_with_marks, with_marks}
use Rattle.std.specs.Prelude.{is_some}

module _ (M : Machine) where
  laws_kept : Laws M → Laws (with_marks M)
  laws_kept l = record { same = l.same; trans = l.trans; idle_none = l.idle_none; idle_stays = l.idle_stays; clean_before = l.clean_before }

  wp_kept : {A : Type 0} (h : ℕ) (B : List M.Step → Type 0) (Q : A → List M.Step → M.World → Type 0) (p : P M A) (n : ℕ) (es : List M.Step) (w : M.World) → Wp M h B Q p n es w → Wp (with_marks M) h B Q (carrying p) n es w
  wp_kept h B Q (Ret a) n es w g = g
  wp_kept h B Q (Do op m k) n es w g =
      λ v xs others inv. (
        (g v xs others inv).0,
        (g v xs others inv).1,
        (λ x honest. good (λ a l fs u next. wp_kept h B Q (k a) l fs u next) v (onto xs es) (M.go h x op m v) ((g v xs others inv).2 x honest)),
        (g v xs others inv).3,
      )
    where
      good : ((a : M.Answer op) (l : ℕ) (fs : List M.Step) (u : M.World) → Wp M h B Q (k a) l fs u → Wp (with_marks M) h B Q (carrying (k a)) l fs u)
          → (v : M.World) (fs : List M.Step) (d : ExecResult (M.Answer op) M.World)
          → Good M (M.Answer op) h (λ a. M.places h op a (m a) v) (M.more op) n B fs v (M.MayWait h op v) d (λ l a u. Wp M h B Q (k a) l (onto (own h (M.places h op a (m a) v)) fs) u)
          → Good (with_marks M) (M.Answer op) h (λ a. M.places h op a (m a) v) (M.more op) n B fs v (M.MayWait h op v) d (λ l a u. Wp (with_marks M) h B Q (carrying (k a)) l (onto (own h (M.places h op a (m a) v)) fs) u)
      good each v fs Waits f = f
      good each v fs (Ran a u) f = record { inv = f.inv; kept = f.kept; goes = f.goes; clean = f.clean; begun = f.begun; left = f.left; falls = f.falls; next = each a f.left (onto (own h (M.places h op a (m a) v)) fs) u f.next }
      good each v fs (Stops u) f = record { halted = f.halted; kept = f.kept; tree = f.tree; clean = f.clean }

pub lawful_kept : (L : Theory) → Lawful L → Lawful (keeping L)
lawful_kept L l = record {
  laws = laws_kept L.M l.laws;
  calls = λ h call busy w u holds idle free begins. let r = l.calls h call busy w u holds idle free begins in record {
    inv = r.inv;
    halted = r.halted;
    kept = r.kept;
    rests = r.rests;
    tree = r.tree;
    clean = r.clean;
    none = r.none;
    runs = λ inv. wp_kept L.M h (Begun L call) (Ends L h call) (L.program call) (L.limit call) [] u (r.runs inv);
  };
}

pub code_kept : (L : Theory) (C : Code L) → IsCode L C → IsCode (keeping L) (keeping_code L C)
code_kept L C c = record {
  goes = λ h x o m w. c.goes h x o.0 m w;
  may = λ h o w. c.may h o.0 w;
  honest = λ h o w x. c.honest h o.0 w x;
  starts = c.starts;
}

-- ---- the lowered calls

pub carrying_bind : {Op : Type 0} {Answer : Op → Type 0} {M A B : Type 0} (p : Prog Op Answer M A) (f : A → Prog Op Answer M B) → carrying (bind p f) ≡ bind (carrying p) (λ a. carrying (f a))
carrying_bind (Ret a) f = refl
carrying_bind (Do op m k) f = λ i. Do (op, λ x. is_some (m x)) m (λ x. carrying_bind (k x) f i)

-- what gives the marks of a lowered call is given by its handlers
pub lowered_so : (U : Machine) (R : LowerLayer U.World) (handler : Handlers U R) {A : Type 0} (c : R.Carry) (p : P U A) → carrying (lowered U R handler c p) ≡ lowered U (lower_with_marks R) (handlers_with_marks U R handler) c p
lowered_so U R handler c (Ret a) = refl
lowered_so U R handler {A} c (Do op m k) =
    carrying_bind (handler c op m) (λ r. lowered U R handler r.carry (k r.answer))
    ∙ (λ i. bind (carrying (handler c op m)) (λ r. lowered_so U R handler r.carry (k r.answer) i))
