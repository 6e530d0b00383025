-- What the proofs of this crate's functions use: its lemmas, and what they speak of.
pub use Rattle.whole_calls.specs.Vocabulary.{Do, Element, Enter, IsElement, IsNamed, IsNamedInTwo, Leave, Name, Take, done, drop, face_of, free_all, give_up, lower, name_in, open_at, open_made, reply_to, say, type_of, tail, unmarked}
pub use Rattle.path_walk.proofs.Vocabulary.{AtName, Bool, List, ap, arith, get_or, length, ne_eqb, refl, sym, true, ℕ, ◌&&◌, ◌+◌, ◌<◌, ◌∙◌, ◌≡◌}
pub use Rattle.whole_calls.proofs.Vocabulary.{IsInOne, false, nat_eq, shifted, subst, ◌++◌}
pub use Rattle.std.proofs.Common.{Some, eq-eqb, ◌^◌}
pub use Rattle.whole_calls.proofs.Dots.{more_dots, one_dots, two_dots}
pub use Rattle.whole_calls.proofs.Shifted.{element_shifted, name_shifted, named_front, op_front, shifted_in_one}
pub use Rattle.whole_calls.proofs.Writes.{begins_is, from_is}
pub use Rattle.whole_calls.specs.Calls.{Fits, chdir_stage, gave_parent, unlink_stage}
pub use Rattle.whole_calls.specs.Closes.{leaves, left}
pub use Rattle.whole_calls.specs.Links.{LinkFits, link_stage, new_after, old_after}
pub use Rattle.whole_calls.specs.Makes.{mkdir_stage}
pub use Rattle.whole_calls.specs.Opens.{open_stage}
pub use Rattle.whole_calls.specs.Reads.{ReadAsks}
pub use Rattle.whole_calls.specs.Writes.{WriteAsks, WriteFits}
