-- The words by which answers name calls.
use Rattle.std.specs.Prelude.{ℕ, List, codes}
use Rattle.console.specs.Vocabulary.{Call}
use Rattle.plain_tree.specs.declared.call.Call.TheVariants as calls
use Rattle.console.specs.declared.verb.Verb.{Verb}
use Rattle.console.specs.declared.verb.Verb.TheVariants.{Open, Read, Write, Link, Unlink, Mkdir, Chdir, Dup, Fstat, Close, Inherit}

abbrev pub verb_of : Call → Verb
verb_of (calls.Open path flags) = Open
verb_of (calls.Read fd buffer) = Read
verb_of (calls.Write fd bytes) = Write
verb_of (calls.Link old new) = Link
verb_of (calls.Unlink path) = Unlink
verb_of (calls.Mkdir path) = Mkdir
verb_of (calls.Chdir path) = Chdir
verb_of (calls.Dup fd) = Dup
verb_of (calls.Fstat fd) = Fstat
verb_of (calls.Close fd) = Close
verb_of (calls.Inherit child) = Inherit child

abbrev pub word_of : Verb → List ℕ
word_of Open = codes "open"
word_of Read = codes "read"
word_of Write = codes "write"
word_of Link = codes "link"
word_of Unlink = codes "unlink"
word_of Mkdir = codes "mkdir"
word_of Chdir = codes "chdir"
word_of Dup = codes "dup"
word_of Fstat = codes "fstat"
word_of Close = codes "close"
word_of (Inherit child) = codes "inherit"
