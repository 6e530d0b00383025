-- How a call that runs below goes on from one operation to the next.
use Rattle.inode_parts.proofs.Vocabulary.{◌≡◌, ℕ, List, [], ◌++◌, Some, refl, sym, ap, ◌∙◌, subst, arith, Reply, Call, Ret, Do, IsEmpty, program, answer_to, asks, hears, op_in, IsNamed, IsNamedInTwo, in_two, named_front, WholeAsks, WholeFits, call_in, second_in, text_in, whole_of, Ask, Heard, Whole, BeginsWith, FillsOrStays, IsOnWay, RunsByParts, path_of, AskStands, Having, Leaves, Runs, AskTold, UnderWay, InodePart, Version}
use Rattle.inode_machine.specs.Parts as programs
use Rattle.inode_machine.specs.World as above
use Rattle.whole_calls.specs.Wholes.{first_in}
use Rattle.path_walk.specs.declared.asks.Ask.TheVariants as ask
use Rattle.path_walk.specs.declared.asks.Query.TheVariants as query
use Rattle.whole_calls.specs.declared.reading.Read.TheVariants as reading
use Rattle.whole_calls.specs.declared.whole.Whole.TheVariants as whole
use Rattle.inode_parts.proofs.Texts.{heard_runs}

-- ---- the path that has its names

text_is : (w : Whole) → text_in w ≡ path_of (call_in w)
text_is (whole.Open path flags c) = refl
text_is (whole.Read fd buf c) = refl
text_is (whole.Write fd bytes c) = refl
text_is (whole.Link old new c) = refl
text_is (whole.Unlink path c) = refl
text_is (whole.Mkdir path c) = refl
text_is (whole.Chdir path c) = refl
text_is (whole.Dup fd c) = refl
text_is (whole.Fstat fd c) = refl
text_is (whole.Close fd c) = refl
text_is (whole.Inherit child c) = refl

-- it stays
pub text_stays : (w v : Whole) → call_in v ≡ call_in w → text_in v ≡ text_in w
text_stays w v e = text_is v ∙ ap path_of e ∙ sym (text_is w)

-- as it was read, in two
pub read_text : (w : Whole) (path second : List ℕ) → path ≡ first_in w → second ≡ second_in w → path ++ second ≡ text_in w
read_text w path second first behind = ap (λ (path : List ℕ). path ++ second) first ∙ ap (λ (second : List ℕ). first_in w ++ second) behind ∙ in_two w

-- names that it asks about
told_in : (version : Version) (path second : List ℕ) (a : Ask) → IsNamedInTwo version path second a → AskTold version path second a
told_in version path second (ask.Take n query.Nothing) named = tt
told_in version path second (ask.Take n (query.Name e)) named = named
told_in version path second (ask.Take n query.Entries) named = tt
told_in version path second a named = tt

stands_in : (version : Version) (path second : List ℕ) (a : Ask) → IsNamedInTwo version path second a → AskStands version path second a
stands_in version path second (ask.Enter d e n) named = named
stands_in version path second (ask.ReadFile fd n offset count) named = absurd named.0
stands_in version path second (ask.WriteFile fd n offset i) named = absurd named.0
stands_in version path second a named = tt

-- in one path
told_alone : (version : Version) (path : List ℕ) (a : Ask) → IsNamed version path a → AskTold version path [] a
told_alone version path a named = told_in version path [] a (named_front path [] version a named)

stands_alone : (version : Version) (path : List ℕ) (a : Ask) → IsNamed version path a → AskStands version path [] a
stands_alone version path a named = stands_in version path [] a (named_front path [] version a named)

-- a read asks for as much as there is room for
pub told_of : (version : Version) (w : Whole) (a : Ask) → WholeAsks version w a → AskTold version (first_in w) (second_in w) a
told_of version (whole.Link old new c) a named = told_in version old new a named
told_of version (whole.Read fd buf (reading.Part n offset)) (ask.ReadFile f i at count) named = tt
told_of version (whole.Read fd buf (reading.Part n offset)) a named = told_alone version buf.items a named
told_of version (whole.Write fd bytes c) (ask.WriteFile f n offset i) named = tt
told_of version (whole.Write fd bytes c) a named = told_alone version bytes a named
told_of version w a named = told_alone version (text_in w) a named

pub stands_of : (version : Version) (ns : List ℕ) (w : Whole) (a : Ask) → WholeFits version ns w → WholeAsks version w a → AskStands version (first_in w) (second_in w) a
stands_of version ns (whole.Link old new c) a fits named = stands_in version old new a named
stands_of version ns (whole.Read fd buf (reading.Part n offset)) (ask.ReadFile f i at count) fits named =
    let short = fits.0 in
    (omega (arith, named), omega (arith, named, short), refl)
stands_of version ns (whole.Read fd buf (reading.Part n offset)) a fits named = stands_alone version buf.items a named
stands_of version ns (whole.Write fd bytes c) (ask.WriteFile f n offset i) fits named = (named, refl)
stands_of version ns (whole.Write fd bytes c) a fits named = stands_alone version bytes a named
stands_of version ns w a fits named = stands_alone version (text_in w) a named

-- ---- an operation that may start

-- whatever was read it leaves the same
leaves_text : (version : Version) (path : List ℕ) (op : above.Op) (text : List ℕ) (x : Heard) (s t : Having) → Leaves version path op (answer_to [] op x) s t → Leaves version path op (answer_to text op x) s t
leaves_text version path (above.ReadFile fd n offset count) text x s t leaves = leaves
leaves_text version path op text x s t leaves = leaves

-- ---- a program that runs so

module _ (version : Version) (path : List ℕ) (s : Having) where
  pub runs_first : (p : programs.P Reply) (op : above.Op) → asks p ≡ Some op → Runs version path (BeginsWith version path) p s → BeginsWith version path op s
  unfolding Runs
  runs_first (Ret r) op e runs = absurd (cc e)
  runs_first (Do o m k) op e runs = let is : o ≡ op = cc e in subst (λ (op : above.Op). BeginsWith version path op s) is runs.0

  pub runs_on : (p : programs.P Reply) (op : above.Op) (x : Heard) (text : List ℕ) (t : Having) → asks p ≡ Some op → Runs version path (BeginsWith version path) p s → Leaves version path op (answer_to [] op x) s t
      → Runs version path (BeginsWith version path) (hears text p x) t
  unfolding Runs
  runs_on (Ret r) op x text t e runs leaves = absurd (cc e)
  runs_on (Do o m k) op x text t e runs leaves =
      let is : op ≡ o = cc e in
      runs.1 (answer_to text o x) t (leaves_text version path o text x s t (subst (λ (o : above.Op). Leaves version path o (answer_to [] o x) s t) is leaves))

  pub runs_out : (r : Reply) → Runs version path (BeginsWith version path) (Ret r) s → IsEmpty s.hand
  unfolding Runs
  runs_out r runs = runs

-- ---- a call

-- it begins with an empty hand
pub first_runs : (version : Version) (call : Call) (w : Whole) (s : Having) → call_in w ≡ call → whole_of version [] w ≡ program version call → RunsByParts version (path_of call) call → IsEmpty s.hand
    → Runs version (text_in w) (BeginsWith version (text_in w)) (whole_of version [] w) s
first_runs version call w s same is runs empty =
    let text = text_is w ∙ ap path_of same in
    subst (λ (path : List ℕ). Runs version path (BeginsWith version path) (whole_of version [] w) s) (sym text)
    (subst (λ (p : programs.P Reply). Runs version (path_of call) (BeginsWith version (path_of call)) p s) (sym is) (runs s empty))

-- its next operation, by its text in two
module _ (version : Version) (w : Whole) (ns : List ℕ) (s : Having) (a : Ask) (asked : asks (whole_of version ns w) ≡ Some (op_in (text_in w) a)) (runs : Runs version (text_in w) (BeginsWith version (text_in w)) (whole_of version ns w) s) where
  pub begins_now : BeginsWith version (first_in w ++ second_in w) (op_in (first_in w ++ second_in w) a) s
  begins_now = subst (λ (t : List ℕ). BeginsWith version t (op_in t a) s) (sym (in_two w)) (runs_first version (text_in w) s (whole_of version ns w) (op_in (text_in w) a) asked runs)

  pub way_now : (q : InodePart) (t : Having) → UnderWay version (first_in w ++ second_in w) (op_in (first_in w ++ second_in w) a) s q t → IsOnWay version (text_in w) (whole_of version ns w) q t
  way_now q t under = record {
    op = op_in (text_in w) a;
    start = s;
    asked = asked;
    runs = runs;
    under = subst (λ (path : List ℕ). UnderWay version path (op_in path a) s q t) (in_two w) under;
  }

-- how it goes on from what its operation left, which may have come into its text
module _ (version : Version) (w u v : Whole) (ns ms : List ℕ) (q : InodePart) (s t : Having) (x : Heard) (filled : FillsOrStays w u) (way : IsOnWay version (text_in w) (whole_of version ns w) q s)
    (leaves : (op : above.Op) (start : Having) → UnderWay version (text_in w) op start q s → Leaves version (text_in w) op (answer_to [] op x) start t) where
  heard_on : Runs version (text_in u) (BeginsWith version (text_in u)) (hears (text_in u) (whole_of version ns u) x) t
  heard_on = heard_runs version ns w u x t filled (runs_on version (text_in w) way.start (whole_of version ns w) way.op x (text_in u) t way.asked way.runs (leaves way.op way.start way.under))

  pub next_runs : call_in v ≡ call_in u → hears (text_in u) (whole_of version ns u) x ≡ whole_of version ms v → Runs version (text_in v) (BeginsWith version (text_in v)) (whole_of version ms v) t
  next_runs same e =
      subst (λ (path : List ℕ). Runs version path (BeginsWith version path) (whole_of version ms v) t) (sym (text_stays u v same))
      (subst (λ (p : programs.P Reply). Runs version (text_in u) (BeginsWith version (text_in u)) p t) e heard_on)

  pub next_ends : (r : Reply) → hears (text_in u) (whole_of version ns u) x ≡ Ret r → IsEmpty t.hand
  next_ends r e = runs_out version (text_in u) t r (subst (λ (p : programs.P Reply). Runs version (text_in u) (BeginsWith version (text_in u)) p t) e heard_on)
