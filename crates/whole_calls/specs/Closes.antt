-- The rest of a close, and of an inherit.
use Rattle.std.specs.Prelude.{ℕ}
use Rattle.whole_calls.specs.Vocabulary.{Reply, Ret, Do, unmarked, Lend, Release, Join, Leave, P, done, drop, say, close_program, inherit_end, lend_from, lend_on, lends, lent_directory}
use Rattle.plain_tree.specs.declared.call.Call.TheVariants as calls
use Rattle.whole_calls.specs.Ends.{dropping_of}
use Rattle.whole_calls.specs.declared.close.Close.{Close}
use Rattle.whole_calls.specs.declared.close.Close.TheVariants as closing
use Rattle.whole_calls.specs.declared.close.Inherit.{Inherit}
use Rattle.whole_calls.specs.declared.close.Inherit.TheVariants as inheriting

abbrev pub left : ℕ → P Reply
left fd = Do Leave unmarked (λ _. say (done (calls.Close fd)))

abbrev pub close_of : ℕ → Close → P Reply
close_of fd closing.Shut = close_program fd
close_of fd (closing.Join n) = Do Join unmarked (λ _. drop n (left fd))
close_of fd (closing.Drops d) = dropping_of (left fd) d
close_of fd closing.Leave = left fd
close_of fd closing.Say = say (done (calls.Close fd))

abbrev pub releases : ℕ → P Reply
releases child = Do (Release child) unmarked (λ _. Ret (done (calls.Inherit child)))

abbrev pub leaves : ℕ → P Reply
leaves child = Do Leave unmarked (λ _. releases child)

abbrev pub inherit_of : ℕ → Inherit → P Reply
inherit_of child (inheriting.Lend more from) = Do (Lend child from) (lends child) (lend_on child (lend_from child more))
inherit_of child inheriting.Directory = lent_directory child
inherit_of child (inheriting.Join old) = inherit_end child old
inherit_of child (inheriting.Drops d) = dropping_of (leaves child) d
inherit_of child inheriting.Leave = leaves child
inherit_of child inheriting.Release = releases child
