-- What each action makes of a tree before it settles, and what it answers, if it isn't refused.
use Rattle.std.specs.Prelude.{◌≡◌, ℕ, List, length, Option, None, if◌then◌else◌}
use Rattle.image_versions.specs.declared.version.Version.{Version}
use Rattle.tree_laws.specs.Vocabulary.{Action, Open, Truncate, Read, WritePart, Find, Bump, Enter, Unbump, Unlink, Mkdir, Chdir, Dup, Close, Fstat, Inherit, StepAnswer, Bytes, NewFd, Done, Name, Tree, put, look, and_then, creates, file_at, part, moved, truncated, wrote, held, at_hold, raise_hold, enter_hold, drop_hold, raised, lowered, removed, made, at_dir, closed, lowest, opened_new, opened_at, opened, stat_answer, effect_with, answer_with}

-- the step makes this tree and gives this answer, whatever its path leads to (res), and whatever its parent with the
-- last element is (par)
abbrev pub Makes : Version → Action → (Tree → ℕ → Option ℕ → Option (ℕ × Name) → ℕ → ℕ → Tree)
    → (Tree → ℕ → Option ℕ → Option (ℕ × Name) → ℕ → StepAnswer) → Type 0
Makes version s tree answer = (t : Tree) (h : ℕ) (res : Option ℕ) (par : Option (ℕ × Name)) (new id : ℕ)
    → (effect_with version t h s res par new id ≡ tree t h res par new id) × (answer_with version t h s res par id ≡ answer t h res par id)

-- its answer is that it is done
abbrev pub Does : Version → Action → (Tree → ℕ → Option ℕ → Option (ℕ × Name) → ℕ → Tree) → Type 0
Does version s tree = Makes version s (λ t h res par new id. tree t h res par new) (λ t h res par id. Done)

pub record ActionsAreTold (version : Version) : Type 0 where
  pub opens : (path : List ℕ) (flags : ℕ) → Makes version (Open path flags)
      (λ t h res par new id. if creates flags then opened_new t h id flags par new else opened_at t h id flags res new)
      (λ t h res par id. opened t h id (if creates flags then and_then par (λ q. look t.nodes q.0 q.1) else res))
  pub truncate : (fd : ℕ) → Does version (Truncate fd) (λ t h res par new. truncated t (file_at t h fd))
  pub read : (fd n : ℕ) → Makes version (Read fd n)
      (λ t h res par new id. moved t (t.fds h fd) (length (part version t (file_at t h fd) n)))
      (λ t h res par id. Bytes (part version t (file_at t h fd) n))
  pub write : (fd : ℕ) (bytes : List ℕ) → Does version (WritePart fd bytes) (λ t h res par new. wrote t h fd bytes)
  pub find : (old : List ℕ) → Does version (Find old) (λ t h res par new. held t h res)
  pub bump : Does version Bump (λ t h res par new. record (at_hold t (t.holds h) raised) { holds = put t.holds h (raise_hold (t.holds h)) })
  pub enter : (name : List ℕ) → Does version (Enter name) (λ t h res par new. drop_hold (enter_hold t par (t.holds h)) h)
  pub unbump : Does version Unbump (λ t h res par new. drop_hold (at_hold t (t.holds h) lowered) h)
  pub unlink : (path : List ℕ) → Does version (Unlink path) (λ t h res par new. removed t par)
  pub mkdir : (path : List ℕ) → Does version (Mkdir path) (λ t h res par new. made t par new)
  pub chdir : (path : List ℕ) → Does version (Chdir path) (λ t h res par new. at_dir t h res)
  pub dup : (fd : ℕ) → Makes version (Dup fd)
      (λ t h res par new id. record t { fds = put t.fds h (put (t.fds h) (lowest (t.fds h)) (t.fds h fd)) })
      (λ t h res par id. NewFd (lowest (t.fds h)))
  pub close : (fd : ℕ) → Does version (Close fd) (λ t h res par new. closed (record t { fds = put t.fds h (put (t.fds h) fd None) }))
  pub fstat : (fd : ℕ) → Makes version (Fstat fd) (λ t h res par new id. t) (λ t h res par id. stat_answer version t (file_at t h fd))
  pub inherit : (child : ℕ)
      → Does version (Inherit child) (λ t h res par new. record t { fds = put t.fds child (t.fds h); cwd = put t.cwd child (t.cwd h) })
