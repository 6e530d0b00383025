-- What a program asks for that goes on with another.
use Rattle.inode_data.proofs.Vocabulary.{◌≡◌, Some, Ret, Do, asks, bind, P}
use Rattle.fs_machine.specs.Steps as steps

pub asks_bind : {A B : Type 0} (p : P A) (f : A → P B) (op : steps.Op) → asks p ≡ Some op → asks (bind p f) ≡ Some op
asks_bind (Ret a) f op e = absurd (cc e)
asks_bind (Do o m k) f op e = e
