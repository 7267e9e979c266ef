-- Demand 3 (SPEC 12.1) for set 1 and for the sets of SPEC 1.6, over SHAKE256.
use Rattle.sets.specs.Set.{set1}
use Rattle.shake.specs.Shake.{shake256}
use Rattle.shake.proofs.Output.{length_shake256}
use Rattle.sets.proofs.Five.{set2, set3, set4, set5}
use Rattle.ring.proofs.Rings.{set1_fits, set2_fits, set3_fits, set4_fits, set5_fits}
use Rattle.scheme.specs.Demand3.{Demand3}
use Rattle.scheme.proofs.Demand3.{demand3}

-- set 1
pub demand3_set1 : Demand3 set1 shake256
demand3_set1 = demand3 set1 set1_fits shake256 length_shake256

-- and the sets of SPEC 1.6, over today's definitions
pub demand3_set2 : Demand3 set2 shake256
demand3_set2 = demand3 set2 set2_fits shake256 length_shake256

pub demand3_set3 : Demand3 set3 shake256
demand3_set3 = demand3 set3 set3_fits shake256 length_shake256

pub demand3_set4 : Demand3 set4 shake256
demand3_set4 = demand3 set4 set4_fits shake256 length_shake256

pub demand3_set5 : Demand3 set5 shake256
demand3_set5 = demand3 set5 set5_fits shake256 length_shake256
