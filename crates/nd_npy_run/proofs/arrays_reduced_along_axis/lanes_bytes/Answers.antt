use Rattle.nd_array_core.specs.ArrayMeaning.{meaning_of}
use Rattle.nd_npy_run.specs.OutputAndStatus.{bytes_made}
use Rattle.nd_npy_run.proofs.FilesOfLaneReductions.{kind_comes}
use Rattle.nd_npy_run.proofs.arrays_reduced_along_axis.lanes_bytes.Goals as goal

pub returns-in-Bool : goal.returns-in-Bool
returns-in-Bool g c = kind_comes c.args.item_type c.args.axis.0 (meaning_of c.args.array.now) c.args.reduction (bytes_made c.reduced_as.result) _ c.in-Bool.is c.reduced_as.ensures

pub returns-in-Int8 : goal.returns-in-Int8
returns-in-Int8 g c = kind_comes c.args.item_type c.args.axis.0 (meaning_of c.args.array.now) c.args.reduction (bytes_made c.reduced_as-in-Int8.result) _ c.in-Int8.is c.reduced_as-in-Int8.ensures

pub returns-in-Int16 : goal.returns-in-Int16
returns-in-Int16 g c = kind_comes c.args.item_type c.args.axis.0 (meaning_of c.args.array.now) c.args.reduction (bytes_made c.reduced_as-in-Int16.result) _ c.in-Int16.is c.reduced_as-in-Int16.ensures

pub returns-in-Int32 : goal.returns-in-Int32
returns-in-Int32 g c = kind_comes c.args.item_type c.args.axis.0 (meaning_of c.args.array.now) c.args.reduction (bytes_made c.reduced_as-in-Int32.result) _ c.in-Int32.is c.reduced_as-in-Int32.ensures

pub returns-in-Int64 : goal.returns-in-Int64
returns-in-Int64 g c = kind_comes c.args.item_type c.args.axis.0 (meaning_of c.args.array.now) c.args.reduction (bytes_made c.reduced_as-in-Int64.result) _ c.in-Int64.is c.reduced_as-in-Int64.ensures

pub returns-in-UInt8 : goal.returns-in-UInt8
returns-in-UInt8 g c = kind_comes c.args.item_type c.args.axis.0 (meaning_of c.args.array.now) c.args.reduction (bytes_made c.reduced_as-in-UInt8.result) _ c.in-UInt8.is c.reduced_as-in-UInt8.ensures

pub returns-in-UInt16 : goal.returns-in-UInt16
returns-in-UInt16 g c = kind_comes c.args.item_type c.args.axis.0 (meaning_of c.args.array.now) c.args.reduction (bytes_made c.reduced_as-in-UInt16.result) _ c.in-UInt16.is c.reduced_as-in-UInt16.ensures

pub returns-in-UInt32 : goal.returns-in-UInt32
returns-in-UInt32 g c = kind_comes c.args.item_type c.args.axis.0 (meaning_of c.args.array.now) c.args.reduction (bytes_made c.reduced_as-in-UInt32.result) _ c.in-UInt32.is c.reduced_as-in-UInt32.ensures

pub returns-in-UInt64 : goal.returns-in-UInt64
returns-in-UInt64 g c = kind_comes c.args.item_type c.args.axis.0 (meaning_of c.args.array.now) c.args.reduction (bytes_made c.reduced_as-in-UInt64.result) _ c.in-UInt64.is c.reduced_as-in-UInt64.ensures

pub returns-in-Float32 : goal.returns-in-Float32
returns-in-Float32 g c = kind_comes c.args.item_type c.args.axis.0 (meaning_of c.args.array.now) c.args.reduction (bytes_made c.reduced_as-in-Float32.result) _ c.in-Float32.is c.reduced_as-in-Float32.ensures

pub returns-in-Float64 : goal.returns-in-Float64
returns-in-Float64 g c = kind_comes c.args.item_type c.args.axis.0 (meaning_of c.args.array.now) c.args.reduction (bytes_made c.reduced_as-in-Float64.result) _ c.in-Float64.is c.reduced_as-in-Float64.ensures
