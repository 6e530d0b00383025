use Rattle.syscalls.proofs.Lemmas.{[], close_runs, inherit_runs, stat_runs, dup_runs, read_runs, write_runs, chdir_runs, open_runs, link_runs, mkdir_runs, unlink_runs}
use Rattle.syscalls.proofs.laws.calls_find_what_they_ask.Goals as goal

pub returns : goal.returns
returns c =
    record {
      close = λ version fd call s empty. close_runs version [] s empty fd;
      inherit = λ version child call s empty. inherit_runs version [] s empty child;
      fstat = λ version fd call s empty. stat_runs version [] s empty fd;
      dup = λ version fd call s empty. dup_runs version [] s empty fd;
      read = λ version text fd buffer call s empty. read_runs version text s empty fd buffer;
      write = λ version text fd bytes call s empty. write_runs version text s empty fd bytes;
      chdir = λ version path call s empty. chdir_runs version path call s empty;
      opens = λ version path flags call s empty. open_runs version path flags call s empty;
      mkdir = λ version path call s empty. mkdir_runs version path call s empty;
      link = λ version text old new call s empty. link_runs version text old new call s empty;
      unlink = λ version path call s empty. unlink_runs version path call s empty;
    }
