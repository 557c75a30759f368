use Rattle.std.proofs.Common.{sym}
use Rattle.std.proofs.lemmas.List.{length-map}
use Rattle.inspector_tests.proofs.building.BuildingKind.first_count.Goals as goal

pub returns : goal.returns
returns c = sym (length-map c.args.self.now.firsts.now _)
