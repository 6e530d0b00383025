-- The calls over whole inodes make moves.
use Rattle.image_versions.specs.declared.version.Version.{Version}
use Rattle.inode_machine.proofs.Vocabulary.{sym, settle_again, is_covered, covered, IsMoving}
use Rattle.inode_machine.proofs.Covered.{lawful}
use Rattle.inode_machine.proofs.Histories.{places_one}
use Rattle.inode_machine.proofs.Basics.{start_is}

pub moving : (version : Version) → IsMoving version (covered version)
moving version = record {
  lawful = lawful version;
  one = places_one version;
  begins = λ h call busy w u e. let s = start_is is_covered h call busy w u e in (s.hart, s.stage);
  rests = λ h w i. i.walk;
  settled = λ w. sym (settle_again w.all);
}
