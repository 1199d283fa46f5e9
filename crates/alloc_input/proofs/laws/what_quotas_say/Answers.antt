use Rattle.alloc_input.proofs.SaidFields.{columns-said, rows-said, groups-said, members-said, bundles-said, contents-said, names-said}
use Rattle.alloc_input.proofs.SaidQuotas.{sets-said}
use Rattle.alloc_input.proofs.SaidDemands.{demands-said, no-demands}
use Rattle.alloc_input.proofs.SaidPlaces.{places-said}
use Rattle.alloc_input.proofs.laws.what_quotas_say.Goals as goal

pub returns : goal.returns
returns c = record {
  columns = columns-said;
  rows = rows-said;
  groups = groups-said;
  members = members-said;
  bundles = bundles-said;
  contents = contents-said;
  names = names-said;
  places = places-said;
  sets = sets-said;
  demands = demands-said;
  no_demands = no-demands;
}
