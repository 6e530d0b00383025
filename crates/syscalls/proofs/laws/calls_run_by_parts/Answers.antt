use Rattle.syscalls.proofs.Lemmas.{[], ◌++◌, Call, IsCall, Version, path_of, RunsByParts, close_runs, inherit_runs, stat_runs, dup_runs, read_runs, write_runs, chdir_runs, open_runs, link_runs, mkdir_runs, unlink_runs}
use Rattle.plain_tree.specs.declared.call.Call.TheVariants as calls
use Rattle.syscalls.proofs.laws.calls_run_by_parts.Goals as goal

each : (version : Version) (call : Call) → IsCall version call → RunsByParts version (path_of call) call
each version (calls.Open path flags) is s empty = open_runs version path flags is s empty
each version (calls.Read fd buffer) is s empty = read_runs version buffer s empty fd buffer
each version (calls.Write fd bytes) is s empty = write_runs version bytes s empty fd bytes
each version (calls.Link old new) is s empty = link_runs version (old ++ new) old new is s empty
each version (calls.Unlink path) is s empty = unlink_runs version path is s empty
each version (calls.Mkdir path) is s empty = mkdir_runs version path is s empty
each version (calls.Chdir path) is s empty = chdir_runs version path is s empty
each version (calls.Dup fd) is s empty = dup_runs version [] s empty fd
each version (calls.Fstat fd) is s empty = stat_runs version [] s empty fd
each version (calls.Close fd) is s empty = close_runs version [] s empty fd
each version (calls.Inherit child) is s empty = inherit_runs version [] s empty child

pub returns : goal.returns
returns c = each
