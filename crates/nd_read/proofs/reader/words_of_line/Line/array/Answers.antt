use Rattle.nd_read.proofs.ArraysReadAndWritten.{parts_take}
use Rattle.nd_read.proofs.reader.words_of_line.Line.array.Goals as goal

pub array_of-requires : goal.array_of-requires
array_of-requires c =
    let parts = (parts_take c.args.self.now (c.in_ok-lengths.lengths.items, c.in_ok-lengths.elements.items) c.parts.new.self c.in_ok-lengths.ensures).is in
    record {
      checked = rw c.deref.ensures.value parts.5;
      few = rw c.deref.ensures.value parts.4;
      full = rw c.deref.ensures.value parts.7;
    }
