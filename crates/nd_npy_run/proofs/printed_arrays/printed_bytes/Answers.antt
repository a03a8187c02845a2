use Rattle.nd_array_core.specs.ArrayMeaning.{meaning_of}
use Rattle.nd_npy_text.specs.declared.item_type.Kind.TheVariants as kinds
use Rattle.nd_npy_run.proofs.PrintedTextByItemKind.{kind_comes}
use Rattle.nd_npy_run.proofs.printed_arrays.printed_bytes.Goals as goal

pub returns-in-Bool : goal.returns-in-Bool
returns-in-Bool g c = kind_comes c.args.item_type kinds.Bool (meaning_of c.args.array.now) _ c.in-Bool.is c.printed_as.ensures

pub returns-in-Int8 : goal.returns-in-Int8
returns-in-Int8 g c = kind_comes c.args.item_type kinds.Int8 (meaning_of c.args.array.now) _ c.in-Int8.is c.printed_as-in-Int8.ensures

pub returns-in-Int16 : goal.returns-in-Int16
returns-in-Int16 g c = kind_comes c.args.item_type kinds.Int16 (meaning_of c.args.array.now) _ c.in-Int16.is c.printed_as-in-Int16.ensures

pub returns-in-Int32 : goal.returns-in-Int32
returns-in-Int32 g c = kind_comes c.args.item_type kinds.Int32 (meaning_of c.args.array.now) _ c.in-Int32.is c.printed_as-in-Int32.ensures

pub returns-in-Int64 : goal.returns-in-Int64
returns-in-Int64 g c = kind_comes c.args.item_type kinds.Int64 (meaning_of c.args.array.now) _ c.in-Int64.is c.printed_as-in-Int64.ensures

pub returns-in-UInt8 : goal.returns-in-UInt8
returns-in-UInt8 g c = kind_comes c.args.item_type kinds.UInt8 (meaning_of c.args.array.now) _ c.in-UInt8.is c.printed_as-in-UInt8.ensures

pub returns-in-UInt16 : goal.returns-in-UInt16
returns-in-UInt16 g c = kind_comes c.args.item_type kinds.UInt16 (meaning_of c.args.array.now) _ c.in-UInt16.is c.printed_as-in-UInt16.ensures

pub returns-in-UInt32 : goal.returns-in-UInt32
returns-in-UInt32 g c = kind_comes c.args.item_type kinds.UInt32 (meaning_of c.args.array.now) _ c.in-UInt32.is c.printed_as-in-UInt32.ensures

pub returns-in-UInt64 : goal.returns-in-UInt64
returns-in-UInt64 g c = kind_comes c.args.item_type kinds.UInt64 (meaning_of c.args.array.now) _ c.in-UInt64.is c.printed_as-in-UInt64.ensures
