-- Programs one after the other, without marks.
use Rattle.inode_parts.proofs.Vocabulary.{◌≡◌, ℕ, Option, Some, ◌∙◌, Loaded, Ret, Do, bind, plain, plain-bind, load_unless}
use Rattle.atomic_programs.specs.Prog.{asks}
use Rattle.fs_machine.specs.Machines as code
use Rattle.fs_machine.specs.Steps as steps
use Rattle.inodes_on_blocks.specs.Handlers.{P}
use Rattle.inode_parts.proofs.Plain.{plain_load}

-- what a program asks it asks within another
pub asks_bind : {A B : Type 0} (p : code.P A) (f : A → code.P B) (op : steps.Op) → asks p ≡ Some op → asks (bind p f) ≡ Some op
asks_bind (Ret a) f op e = absurd (cc e)
asks_bind (Do o m k) f op e = e

pub then_plain : {A B : Type 0} (p : P A) (q : code.P A) (f : A → P B) (g : A → code.P B) → plain p ≡ q → ((a : A) → plain (f a) ≡ g a) → plain (bind p f) ≡ bind q g
then_plain p q f g same each = plain-bind p f ∙ (λ i. bind (same i) (λ a. each a i))

-- an inode is loaded, and then
pub load_then : {A : Type 0} (inodestart n : ℕ) (content : Option Loaded) (f : Loaded → P A) (g : Loaded → code.P A) → ((l : Loaded) → plain (f l) ≡ g l)
    → plain (bind (load_unless inodestart n content) f) ≡ bind (load_unless inodestart n content) g
load_then inodestart n content f g same = then_plain (load_unless inodestart n content) (load_unless inodestart n content) f g (plain_load inodestart n content) same
