use Rattle.nd_array_core.specs.ArrayMeaning.{meaning_of}
use Rattle.nd_npy.specs.FileBytesAndArrays.{npy_in}
use Rattle.nd_npy.specs.StreamReadsAndWrites.{ReadsStreamAs}
use Rattle.nd_npy.proofs.ArraysFromStreams.{stream_kept, stream_bytes, cause_of_front, memory_of_front}
use Rattle.nd_npy.proofs.streams.read_npy_from.Goals as goal

pub returns-in-Ok-clause-read : goal.returns-in-Ok-clause-read
returns-in-Ok-clause-read g c = stream_kept _ _ (λ bytes. ReadsStreamAs meaning_of c.array_behind.result (npy_in g.A.NpyItem bytes)) c.in-Ok.ensures.front.0 c.array_behind.ensures.read

pub returns-in-Ok-clause-memory : goal.returns-in-Ok-clause-memory
returns-in-Ok-clause-memory g c = λ is. stream_bytes _ _ c.in-Ok.front.items c.in-Ok.ensures.front.0 (c.array_behind.ensures.memory is)

pub returns-in-Err-clause-read : goal.returns-in-Err-clause-read
returns-in-Err-clause-read g c = cause_of_front c.in-Err.error c.in-Err.ensures.refused _ (npy_in g.A.NpyItem)

pub returns-in-Err-clause-memory : goal.returns-in-Err-clause-memory
returns-in-Err-clause-memory g c = memory_of_front c.in-Err.error c.in-Err.ensures.refused
