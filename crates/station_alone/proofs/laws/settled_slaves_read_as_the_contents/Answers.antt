use Rattle.station_alone.proofs.SettledLaws.{settled-holds, settled-reads}
use Rattle.station_alone.proofs.laws.settled_slaves_read_as_the_contents.Goals as goal

pub returns-clause-going : goal.returns-clause-going
returns-clause-going c = λ s stands still settled. settled-reads s (settled-holds s (stands.ready.going still) settled)

pub returns-clause-no_fault : goal.returns-clause-no_fault
returns-clause-no_fault c = λ s stands none settled. settled-reads s (settled-holds s (stands.ready.up none) settled)
