-- Runs one after the other, as a crate above builds them event by event.
use Rattle.image_versions.specs.declared.version.Version.{Version}
use Rattle.tree_laws.proofs.Vocabulary.{◌≡◌, ℕ, refl, sym, subst, List, [], ◌∷◌, ◌++◌, false, World, Event, Happens, Runs, climbing, NoneClimbs, IsStartBy, Alone}

-- a run, and a run from its end
pub runs_append : (version : Version) (w mid w' : World) (es later : List Event) → Runs version w es mid → Runs version mid later w' → Runs version w (es ++ later) w'
unfolding Runs
runs_append version w mid w' [] later r s = subst (λ (z : World). Runs version z later w') (sym r) s
runs_append version w mid w' (e ∷ es) later r s = (r.0, r.1, runs_append version r.0 mid w' es later r.2 s)

-- a run of one event
pub runs_one : (version : Version) (w w' : World) (e : Event) → Happens version w e w' → Runs version w (e ∷ []) w'
unfolding Runs
runs_one version w w' e o = (w', o, refl)

-- one event more
pub runs_more : (version : Version) (w mid w' : World) (es : List Event) (e : Event) → Runs version w es mid → Happens version mid e w' → Runs version w (es ++ e ∷ []) w'
runs_more version w mid w' es e r o = runs_append version w mid w' es (e ∷ []) r (runs_one version mid w' e o)

pub runs_none : (version : Version) (w : World) → Runs version w [] w
unfolding Runs
runs_none version w = refl

pub calm_append : (es later : List Event) → NoneClimbs es → NoneClimbs later → NoneClimbs (es ++ later)
unfolding NoneClimbs
calm_append [] later k l = l
calm_append (e ∷ es) later k l = (k.0, calm_append es later k.1 l)

pub calm_more : (es : List Event) (e : Event) → NoneClimbs es → climbing e ≡ false → NoneClimbs (es ++ e ∷ [])
unfolding NoneClimbs
calm_more es e k c = calm_append es (e ∷ []) k (c, tt)

pub alone_append : (h : ℕ) (es later : List Event) → Alone h es → Alone h later → Alone h (es ++ later)
unfolding Alone
alone_append h [] later k l = l
alone_append h (e ∷ es) later k l = (k.0, alone_append h es later k.1 l)

pub alone_more : (h : ℕ) (es : List Event) (e : Event) → Alone h es → IsStartBy h e → Alone h (es ++ e ∷ [])
unfolding Alone
alone_more h es e k s = alone_append h es (e ∷ []) k (s, tt)
