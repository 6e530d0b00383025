-- With the history that is the operations themselves.
use Rattle.inodes_on_blocks.proofs.Vocabulary.{◌<◌, ◌≡◌, inl, ℕ, List, [], ◌∷◌, ◌++◌, Option, refl, sym, ◌∙◌, ap, subst, Super, Version, hart_count, Laws, onto, Lasts, files_then, Kept, Keeps, Handler, ActsOnceAt, alone, Done, whole, IsDone, Answers, DoesItAt, DoesIt}
use Rattle.inode_machine.specs.World as above
use Rattle.inode_machine.specs.Rules.{Own}

pub kept_then : (h : ℕ) (u v w : above.World) → Kept h u v → Kept h v w → Kept h u w
kept_then h u v w a b = record {
  same = λ free. b.same (ap (λ (o : Own). o.desk.lender) (a.same free) ∙ free) ∙ a.same free;
  opens = λ free. files_then h u v w (a.same free) (a.opens free) (b.opens (ap (λ (o : Own). o.desk.lender) (a.same free) ∙ free));
  rests = λ i. b.rests (a.rests i);
}

pub kept_same : (h : ℕ) (w : above.World) → Kept h w w
kept_same h w = record { same = λ free. refl; opens = λ free i k e below li is at. (e, at, refl, (λ keeps. refl)); rests = λ i. i }

both_none : {A : Type 0} (xs ys : List A) → xs ≡ [] → ys ≡ [] → xs ++ ys ≡ []
both_none xs ys p q = λ i. p i ++ q i

pub alone_laws : (version : Version) → Laws (whole version)
alone_laws version = record {
  same = λ h w. (refl, kept_same h w);
  trans = λ h u v w xs ys a b. (both_none xs ys a.0 b.0, kept_then h u v w a.1 b.1);
  idle_none = λ h v w xs o i. o.0;
  idle_stays = λ h v w xs o i. o.1.rests i;
  clean_before = λ h v w xs o y. tt;
}

pub alone_keeps : Keeps alone
alone_keeps h v w xs o = o.1

pub lasts_done : (version : Version) (op : above.Op) (h : ℕ) → Lasts (whole version) h (IsDone op) (Answers op)
lasts_done version op h a fs xs v u o i c = ((λ y. inl o.0), subst (λ (ys : List Done). onto ys fs ≡ (op, a) ∷ []) (sym o.0) c)

pub does_it : (op : above.Op) (p : Handler op) → ((sizes : Super) (h : ℕ) → h < hart_count → (m : above.Answer op → Option above.Mark) → ActsOnceAt sizes alone h op m p) → DoesIt op p
does_it op p acts sizes h m c w lt todo stands = acts sizes h lt m c (IsDone op) (Answers op) [] w (lasts_done sizes.version op h) todo stands

pub does_it_at : (sizes : Super) (op : above.Op) (p : Handler op) → ((h : ℕ) → h < hart_count → (m : above.Answer op → Option above.Mark) → ActsOnceAt sizes alone h op m p) → DoesItAt sizes op p
does_it_at sizes op p acts h m c w lt todo stands = acts h lt m c (IsDone op) (Answers op) [] w (lasts_done sizes.version op h) todo stands
