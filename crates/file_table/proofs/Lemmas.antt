-- What the proofs of this crate's functions use: its lemmas, and what they speak of.
pub use Rattle.fs_machine.proofs.Vocabulary.{P, ap, bind, inode_in, refl, sym, ℕ, ◌∙◌, ◌≡◌}
unfoldable pub use Rattle.fs_machine.proofs.Vocabulary.{answer_in}
pub use Rattle.file_table.specs.Vocabulary.{load_unless, number_in}
pub use Rattle.fs_machine.proofs.Goings.{inode-there}
pub use Rattle.file_table.specs.LockingFiles.{locks, opens}
pub use Rattle.fs_machine.specs.InMemory.{Inode, Loaded}
