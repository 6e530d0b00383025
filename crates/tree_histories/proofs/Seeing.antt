-- What the kept tree shows where a call takes an inode's lock.
use Rattle.tree_histories.proofs.Vocabulary.{Bool, true, None, option_map, empty_in, face_of, face_seen, sight_of, Version, ◌≡◌, inl, ℕ, ◌<◌, ◌^◌, List, ◌++◌, Option, Some, refl, sym, ◌∙◌, ap, subst, append-nil, Node, Name, Tree, look, found_in, seen_in, Op, op_in, query_in, IsSought, IsSoughtInOne, name_in, IsElement, IsInOne, Query, Seen, Element, WholeAsks, first_in, second_in, text_in, Whole, SeenFor, ShowsSo}
use Rattle.path_walk.specs.declared.asks.Ask.TheVariants as ask
use Rattle.path_walk.specs.declared.asks.Face.{Face}
use Rattle.path_walk.specs.declared.asks.Heard.TheVariants as heard
use Rattle.path_walk.specs.declared.asks.Query.TheVariants as query
use Rattle.whole_calls.specs.declared.reading.Read.TheVariants as reading
use Rattle.whole_calls.specs.declared.whole.Whole.TheVariants as calling

look_same : (ns : ℕ → Option Node) (n : ℕ) (e : Name) → look ns n e ≡ look (λ j. ns n) n e
unfolding look
look_same ns n e = refl

pub found_name : (version : Version) (t : Tree) (n : ℕ) (path second : List ℕ) (q : Query) (e : Element) (o : Option ℕ) (name : Name) → q ≡ query.Name e
    → (IsElement version (path ++ second) e → IsInOne path e → name ≡ name_in (path ++ second) e) → (n < 2 ^ 16 → o ≡ look t.nodes n name)
    → n < 2 ^ 16 → IsSought version (path ++ second) q → IsSoughtInOne path q → o ≡ found_in n (t.nodes n) (query_in (path ++ second) q)
found_name version t n path second q e o name is named looks small sought one =
    let s : IsElement version (path ++ second) e = subst (λ (x : Query). IsSought version (path ++ second) x) is sought in
    let i : IsInOne path e = subst (λ (x : Query). IsSoughtInOne path x) is one in
    looks small
    ∙ (ap (λ (x : Name). look t.nodes n x) (named s i)
    ∙ (look_same t.nodes n (name_in (path ++ second) e) ∙ ap (λ (x : Query). found_in n (t.nodes n) (query_in (path ++ second) x)) (sym is)))

-- what is seen of a node, or of none
pub sees_so : (version : Version) (n : ℕ) (text : List ℕ) (q : Query) (v : Option Node) (f : Option Face) (found : Option ℕ) (empty : Bool) → option_map face_of f ≡ face_seen version v
    → found ≡ found_in n v (query_in text q) → empty ≡ empty_in v (query_in text q) → sight_of (record { face = f; found = found; empty = empty }) ≡ seen_in version n (query_in text q) v
sees_so version n text q v f found empty face here none = λ i. record { face = face i; found = here i; empty = none i }

pub empty_nowhere : (text : List ℕ) (q : Query) → true ≡ empty_in None (query_in text q)
empty_nowhere text query.Nothing = refl
empty_nowhere text (query.Name e) = refl
empty_nowhere text query.Entries = refl

-- ---- what is asked

in_two : (w : Whole) → first_in w ++ second_in w ≡ text_in w
in_two (calling.Link old new c) = refl
in_two (calling.Open path flags c) = append-nil path
in_two (calling.Read fd buf c) = append-nil buf.items
in_two (calling.Write fd bytes c) = append-nil bytes
in_two (calling.Unlink path c) = append-nil path
in_two (calling.Mkdir path c) = append-nil path
in_two (calling.Chdir path c) = append-nil path
in_two (calling.Dup fd c) = refl
in_two (calling.Fstat fd c) = refl
in_two (calling.Close fd c) = refl
in_two (calling.Inherit child c) = refl

sought_alone : (version : Version) (path : List ℕ) (q : Query) → IsSought version path q → IsSought version path q × IsSoughtInOne path q
sought_alone version path query.Nothing s = (s, tt)
sought_alone version path (query.Name e) s = (s, inl s.within)
sought_alone version path query.Entries s = (s, tt)

sought_of : (version : Version) (w : Whole) (n : ℕ) (q : Query) → WholeAsks version w (ask.Take n q) → IsSought version (text_in w) q × IsSoughtInOne (first_in w) q
sought_of version (calling.Link old new c) n q named = named
sought_of version (calling.Read fd buf (reading.Part m offset)) n q named = sought_alone version buf.items q named
sought_of version (calling.Read fd buf c) n q named = sought_alone version buf.items q named
sought_of version w n q named = sought_alone version (text_in w) q named

pub seen_take : (version : Version) (t : Tree) (w : Whole) (n : ℕ) (q : Query) (path second : List ℕ) (s : Seen) (o : Option Op) → o ≡ Some (op_in (text_in w) (ask.Take n q))
    → WholeAsks version w (ask.Take n q) → path ≡ first_in w → second ≡ second_in w → ShowsSo version t n q path second s → SeenFor version t o (heard.Saw s)
seen_take version t w n q path second s o asked named first behind shows =
    let text : path ++ second ≡ text_in w = ap (λ (p : List ℕ). p ++ second) first ∙ (ap (λ (p : List ℕ). first_in w ++ p) behind ∙ in_two w) in
    let sought = sought_of version w n q named in
    subst (λ (z : Option Op). SeenFor version t z (heard.Saw s)) (sym asked)
    (λ small few.
    shows small few (subst (λ (p : List ℕ). IsSought version p q) (sym text) sought.0) (subst (λ (p : List ℕ). IsSoughtInOne p q) (sym first) sought.1)
    ∙ ap (λ (p : List ℕ). seen_in version n (query_in p q) (t.nodes n)) text)
