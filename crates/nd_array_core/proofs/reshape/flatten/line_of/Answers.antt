use Rattle.nd_array_core.specs.ArrayMeaning.{shape_of}
use Rattle.nd_array_core.proofs.reshape_lemmas.StridesForReshape.{line_has_all}
use Rattle.nd_array_core.proofs.reshape.flatten.line_of.Goals as goal

pub returns-clause-shape : goal.returns-clause-shape
returns-clause-shape g c = line_has_all (shape_of c.args.array.now) c.len.result c.len.ensures.value c.len.ensures.short
