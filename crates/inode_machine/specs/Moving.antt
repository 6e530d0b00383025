-- The programs of chdir and inherit.
use Rattle.std.specs.Prelude.{ℕ, zero, suc, ◌+◌, true, false, List, [], Option, None, if◌then◌else◌}
use Rattle.image_versions.specs.declared.version.Version.{Version}
use Rattle.inode_machine.specs.Vocabulary.{NotDirectory, Reply, elements, descriptor_count, Ret, Do, unmarked}
use Rattle.plain_tree.specs.declared.call.Call.TheVariants as calls
use Rattle.plain_tree.specs.declared.step.Action.TheVariants as steps
use Rattle.inode_machine.specs.Basics.{AtNothing, is_directory_face, Mark, LoanResult, Lent, Moved, P, own_step, failed, done, drop, give_up, tail, stopped, walk, start}
use Rattle.inode_machine.specs.World.Op.{Take, SetDirectory, Lend, LendDirectory, Release, Join, Leave}

-- chdir: the new directory first, then the old one's reference is dropped

abbrev pub chdir_at : List ℕ → ℕ → List ℕ → P Reply
chdir_at path n ns =
    Do (Take n AtNothing) unmarked (λ a.
    if is_directory_face a.face
    then Do (SetDirectory n) unmarked (λ old. drop old (tail ns (done (calls.Chdir path))))
    else give_up n (tail ns (failed (calls.Chdir path) NotDirectory)))

abbrev pub chdir_program : Version → List ℕ → P Reply
chdir_program version path =
    Do Join unmarked (λ _.
    start (steps.Chdir path) path [] (λ d.
    walk (steps.Chdir path) d (elements version path) [] (chdir_at path) (λ why ns. tail ns (stopped (calls.Chdir path) why)))
    (λ why ns. tail ns (stopped (calls.Chdir path) why)))

-- inherit: each descriptor in turn, then the directory; the child's old one is dropped

-- the child has all with the last descriptor, or with the directory if there is none
abbrev pub lends : ℕ → LoanResult → Option Mark
lends child (Lent i true) = None
lends child (Lent i false) = own_step (steps.Inherit child)
lends child (Moved old) = own_step (steps.Inherit child)

abbrev pub inherit_end : ℕ → ℕ → P Reply
inherit_end child old =
    Do Join unmarked (λ _. drop old (Do Leave unmarked (λ _. Do (Release child) unmarked (λ _. Ret (done (calls.Inherit child))))))

abbrev pub lent_directory : ℕ → P Reply
lent_directory child = Do (LendDirectory child) unmarked (λ old. inherit_end child old)

abbrev pub lend_on : ℕ → (ℕ → P Reply) → LoanResult → P Reply
lend_on child again (Lent i true) = again (i + 1)
lend_on child again (Lent i false) = lent_directory child
lend_on child again (Moved old) = inherit_end child old

-- the caller's descriptors from here on, at most so many
abbrev pub lend_from : ℕ → ℕ → ℕ → P Reply
lend_from child zero from = lent_directory child
lend_from child (suc left) from = Do (Lend child from) (lends child) (lend_on child (lend_from child left))

abbrev pub inherit_program : ℕ → P Reply
inherit_program child = lend_from child descriptor_count 0
