-- What this crate's proofs speak of: its own definitions, and what the crates below and the library call things.
pub use Rattle.whole_calls.specs.Vocabulary.{Ask, Do, Element, IsElement, IsNamed, IsNamedInTwo, Join, Name, P, Reply, Take, name_in, op_in, unmarked, write_from, write_piece, write_program}
unfoldable pub use Rattle.whole_calls.specs.Vocabulary.{same_name}
pub use Rattle.inode_machine.proofs.Vocabulary.{AtName, Bool, List, [], ap, append-nil, arith, false, inl, inr, length, length-append, refl, subst, suc, sym, take, true, zero, ℕ, ◌&&◌, ◌++◌, ◌+◌, ◌-◌, ◌||◌, ◌∙◌, ◌∷◌, ◌≡◌, ◌≢◌, ◌≤◌}
pub use Rattle.path_walk.specs.Asks.{OnlySeeks}
pub use Rattle.path_walk.specs.Elements.{IsInOne, shifted}
pub use Rattle.path_walk.specs.Names.{IsName}
pub use Rattle.std.proofs.Common.{drop, get_or, length-drop, nat_eq}
pub use Rattle.std.proofs.Math.Seq.{drop-append-add}
pub use Rattle.std.proofs.lemmas.List.{drop-append-le, take-append-le}
pub use Rattle.whole_calls.specs.Calls.{is_dots}
pub use Rattle.whole_calls.specs.Wholes.{first_in, second_in, text_in}
pub use Rattle.whole_calls.specs.Writes.{more_of, write_of}
pub use Rattle.whole_calls.specs.declared.whole.Whole.{Whole}
