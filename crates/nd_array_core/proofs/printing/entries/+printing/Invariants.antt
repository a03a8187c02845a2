use Rattle.nd_array_core.proofs.NamesFromOtherCrates.{◌+◌, ◌-◌, ◌*◌, length, IfSome, HasWritten, HasWrittenStyled, IsFlush, IsPlainFormatter, formatter_spec}
use Rattle.nd_array_core.specs.ArrayMeaning.{meaning_of, shape_of}
use Rattle.nd_array_core.specs.printing.ArrayTexts.{run_of_entries}
use Rattle.nd_array_core.proofs.printing.entries.+printing.Given as goal

abbrev pub decreases-write_axes : goal.decreases-write_axes
decreases-write_axes g l = length (shape_of l.view.now) * 8 + 5

abbrev pub decreases-write_entries : goal.decreases-write_entries
decreases-write_entries g l = length (shape_of l.view.now) * 8 + 4

abbrev pub decreases-write_ends : goal.decreases-write_ends
decreases-write_ends g l = length (shape_of l.view.now) * 8 + 3

abbrev pub decreases-write_run : goal.decreases-write_run
decreases-write_run g l = length (shape_of l.view.now) * 8 + 2

abbrev pub decreases-write_item : goal.decreases-write_item
decreases-write_item g l = length (shape_of l.view.now) * 8 + 1

abbrev pub invariant-write_run-loop-k : goal.invariant-write_run-loop-k
invariant-write_run-loop-k g l =
    IfSome (run_of_entries g.P.WritesElement.text_of l.whole l.depth (meaning_of l.view) l.from (l.k - l.from))
    (λ bs. IsPlainFormatter l.initial.f → HasWritten g.W.Write.write_str_gives l.initial.f bs l.f)
    × IfSome (run_of_entries (g.P.WritesElement.styled_text_of (formatter_spec l.initial.f)) l.whole l.depth (meaning_of l.view) l.from (l.k - l.from))
    (λ bs. IsFlush l.initial.f → HasWrittenStyled g.W.Write.write_str_gives l.initial.f bs l.f)
