use Rattle.tree_laws.proofs.Finished.{open_finishes, read_finishes, write_finishes, link_finishes, unlink_finishes, mkdir_finishes, chdir_finishes, dup_finishes, fstat_finishes, close_finishes, inherit_finishes}
use Rattle.tree_laws.proofs.each_call_finishes.Goals as goal

pub returns-clause-open : goal.returns-clause-open
returns-clause-open c = open_finishes

pub returns-clause-read : goal.returns-clause-read
returns-clause-read c = read_finishes

pub returns-clause-write : goal.returns-clause-write
returns-clause-write c = write_finishes

pub returns-clause-link : goal.returns-clause-link
returns-clause-link c = link_finishes

pub returns-clause-unlink : goal.returns-clause-unlink
returns-clause-unlink c = unlink_finishes

pub returns-clause-mkdir : goal.returns-clause-mkdir
returns-clause-mkdir c = mkdir_finishes

pub returns-clause-chdir : goal.returns-clause-chdir
returns-clause-chdir c = chdir_finishes

pub returns-clause-dup : goal.returns-clause-dup
returns-clause-dup c = dup_finishes

pub returns-clause-fstat : goal.returns-clause-fstat
returns-clause-fstat c = fstat_finishes

pub returns-clause-close : goal.returns-clause-close
returns-clause-close c = close_finishes

pub returns-clause-inherit : goal.returns-clause-inherit
returns-clause-inherit c = inherit_finishes
