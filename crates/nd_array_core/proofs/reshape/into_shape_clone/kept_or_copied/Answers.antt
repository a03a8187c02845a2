use Rattle.nd_array_core.proofs.NamesFromOtherCrates.{false≢true}
use Rattle.nd_array_core.specs.ArrayMeaning.{meaning_of, memory_layout_of}
use Rattle.nd_array_core.specs.reshape.EitherArray.{NotCopied}
use Rattle.nd_array_core.proofs.reshape.into_shape_clone.kept_or_copied.Goals as goal

pub returns-clause-refused : goal.returns-clause-refused
unfolding meaning_of memory_layout_of
returns-clause-refused g c = NotCopied c.requires.shape (λ serve. false≢true (c.in-None.ensures.some.1 serve))

pub copied_in-requires-clause-shape : goal.copied_in-requires-clause-shape
copied_in-requires-clause-shape g c = c.requires.shape

pub copied_in-requires-clause-clones : goal.copied_in-requires-clause-clones
unfolding meaning_of memory_layout_of
copied_in-requires-clause-clones g c = c.requires.clones (λ serve. false≢true (c.in-None.ensures.some.1 serve))

pub returns-in-Ok-clause-serves : goal.returns-in-Ok-clause-serves
unfolding meaning_of memory_layout_of
returns-in-Ok-clause-serves g c serve = absurd (false≢true (c.in-None.ensures.some.1 serve))

pub returns-clause-serves : goal.returns-clause-serves
unfolding meaning_of memory_layout_of
returns-clause-serves g c serve = absurd (false≢true (c.in-None.ensures.some.1 serve))
