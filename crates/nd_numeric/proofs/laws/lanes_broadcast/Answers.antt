use Rattle.nd_array_core.specs.ArrayMeaning.{meaning_of, shape_of}
use Rattle.nd_numeric.proofs.FirstAxisBroadcast.{rest_broadcasts, rest_at}
use Rattle.nd_numeric.proofs.laws.lanes_broadcast.Goals as goal

pub returns-clause-broadcasts : goal.returns-clause-broadcasts
returns-clause-broadcasts g c = rest_broadcasts (shape_of c.args.array.now) (shape_of c.args.lanes.now) c.shape_is_checked.ensures c.requires.some c.requires.shape

pub returns-clause-elements : goal.returns-clause-elements
returns-clause-elements g c = rest_at (meaning_of c.args.lanes.now) (shape_of c.args.array.now) c.requires.some c.requires.shape
