use Rattle.std.proofs.Common.{rules}
use Rattle.uses_nd_array_core.specs.LaneSumsAndFirsts.{zero_first}
use Rattle.uses_nd_array_core.proofs.calls_along_axis.firsts_out.Goals as goal

pub returns-clause-left : goal.returns-clause-left
returns-clause-left g c = c.in_ok-firsts.ensures.alike zero_first (λ v w b f' call. search rules)
