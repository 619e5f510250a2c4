-- What the tests of a trace come to, computed.
use Rattle.std.proofs.Common.{refl}
use Rattle.parlog.specs.Records.{cut}
use Rattle.parlog.specs.Scan.{lowest}
use Rattle.trace.specs.Instances.{OtherRecords, StampsFollow}
use Rattle.trace.specs.Trace.{first_fault, first_gap, record_bytes, record_fault, trace_tested}

pub stamps_follow : StampsFollow
unfolding trace_tested first_fault first_gap record_fault record_bytes lowest cut
stamps_follow = record { all_right = refl; third_left_out = refl; last_cut = refl; cut_before_gap = refl; plain_next = refl }

pub other_records : OtherRecords
unfolding trace_tested first_fault first_gap record_fault record_bytes lowest cut
other_records = record { nothing = refl; kind_34 = refl; longer = refl }
