-- What the proofs of this crate's functions use: its lemmas, and what they speak of.
pub use Rattle.fs_machine.proofs.Vocabulary.{Bool, BufferState, Do, Goes, GuardState, IsSome, List, None, Option, P, Ret, Some, [], ap, arith, bind, block_at, cond, false, fetch_block, fetch_left, inode_in, length, number_at, reference_at, refl, set, subst, sym, true, unmarked, ℕ, ◌++◌, ◌+◌, ◌-◌, ◌<◌, ◌∙◌, ◌∷◌, ◌≡◌, ◌≤◌}
unfoldable pub use Rattle.fs_machine.proofs.Vocabulary.{answer_in}
pub use Rattle.fs_layout.proofs.Vocabulary.{append-nil, cast_signed, dinode_at, take, ◌%◌, ◌*◌}
unfoldable pub use Rattle.fs_layout.proofs.Vocabulary.{u16_at}
pub use Rattle.inode_table.specs.Vocabulary.{ClaimResult, Claims, NoPlace, fetch_asked, inodes_per_block}
pub use Rattle.inode_table.specs.HeldInodes.{number_in}
pub use Rattle.inode_table.specs.NewInodes.{is_free_in, make_in}
unfoldable pub use Rattle.inode_table.specs.NewInodes.{free_among, new_from}
pub use Rattle.fs_layout.proofs.Numbers.{u16_at-part}
pub use Rattle.fs_machine.proofs.Goings.{fetched_goes, first-beside, inode-there, no-place, reference-beside}
pub use Rattle.fs_machine.specs.Fetching.{block_in, bytes_in}
pub use Rattle.fs_machine.specs.Ops.{claimed_by}
pub use Rattle.inode_table.proofs.Goings.{loaded-there, not-loaded, recorded-in, stands}
pub use Rattle.inode_table.proofs.Stored.{stores_one}
pub use Rattle.inode_table.specs.Making.{rest_of}
pub use Rattle.inode_table.specs.Programs.{give_back, load, load_unless, record_of, store}
pub use Rattle.inode_table.specs.declared.new_inode.Looking.{Looking}
pub use Rattle.inode_table.specs.declared.new_inode.Made.{Made}
pub use Rattle.std.proofs.Common.{add-one, rules, w16}
pub use Rattle.std.proofs.Math.Seq.{take-suc-set}
pub use Rattle.std.proofs.lemmas.List.{length-set}
pub use Rattle.fs_layout.specs.declared.inode.Dinode.{Dinode}
pub use Rattle.fs_machine.specs.InMemory.{Inode, Loaded, stands_so, unindexed}
pub use Rattle.fs_machine.specs.declared.hand.Hand.{Hand}
pub use Rattle.fs_machine.specs.declared.op.Answer.TheVariants.{Is}
