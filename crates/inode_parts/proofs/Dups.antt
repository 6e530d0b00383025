-- dup, run below: the hand stays empty.
use Rattle.inode_parts.proofs.Vocabulary.{ℕ, [], Option, Some, None, sym, subst, Descriptors, Reply, IsEmpty, dup_on, full, say, BeginsWith, RunsByParts, Having, Runs, Version}
use Rattle.plain_tree.specs.declared.answer.Answer.TheVariants as answers
use Rattle.plain_tree.specs.declared.call.Call.TheVariants as calls

says : (v : Version) (r : Reply) (s : Having) → IsEmpty s.hand → Runs v [] (BeginsWith v []) (say r) s
unfolding Runs
says v r s empty = (tt, λ a t left. subst IsEmpty (sym left.0) empty)

doubled : (v : Version) (fd : ℕ) (a : Option (Option ℕ)) (s : Having) → IsEmpty s.hand → Runs v [] (BeginsWith v []) (dup_on fd a) s
unfolding Runs
doubled v fd None s empty = empty
doubled v fd (Some None) s empty = says v (full (calls.Dup fd) Descriptors) s empty
doubled v fd (Some (Some f)) s empty = says v (record { answer = answers.Fd f; call = calls.Dup fd }) s empty

pub dup_runs : (v : Version) (fd : ℕ) → RunsByParts v [] (calls.Dup fd)
unfolding Runs
dup_runs v fd s empty = (tt, λ a t left. doubled v fd a t (subst IsEmpty (sym left.0) empty))
