-- What proofs of this crate take from other crates, through one door: a proof names what it uses of it in one line. Declares nothing.
pub use Rattle.std.proofs.Common.{Bool, FitsSigned, List, None, Some, [], add-one, ap, append_assoc, arith, below_more, bit_and, bit_or, cond, drop, drop-cons, eqb, false, get_or, inl, inr, leb, length, length-append, ltb, map, nat_abs, negsuc, not, of_z, pos, refl, replicate, rules, set, slice_set, subst, suc, sym, take, to_z, true, w64, zero, ℕ, ℤ, ⊎_elim, ◌%◌, ◌&&◌, ◌*ℤ◌, ◌*◌, ◌++◌, ◌+ℤ◌, ◌+◌, ◌-◌, ◌/◌, ◌<◌, ◌^◌, ◌||◌, ◌∙◌, ◌∷◌, ◌≡◌, ◌≢◌, ◌≤◌, ◌⊎◌}
pub use Rattle.std.proofs.Math.Arith.{mod-mul}
pub use Rattle.std.proofs.Math.Nat.{div-div-eq-div-mul, div-lt_iff_lt-mul, div-mul-le_self, le_of_mul-le-mul_left, lt-div-mul-add, lt_of_mul-lt-mul_left, mod-eq_of_lt, mul-le-mul_left, mul-le-mul_right, mul-mod_left, mul-zero, mul_assoc, mul_comm, sub-le, zero-mul}
pub use Rattle.std.proofs.Math.Seq.{take-set-lt, take-suc}
pub use Rattle.std.proofs.lemmas.Bool.{and_from, and_parts, cases_eq, cases_lt, eq-eqb, eqb-true, false≢true, le-leb, lt-ltb, ltb-true, ne_eqb}
pub use Rattle.std.proofs.lemmas.Bool.Decides.{nat_tests}
pub use Rattle.std.proofs.lemmas.Int.{ints, to_z-of_z, to_z_pos}
pub use Rattle.std.proofs.lemmas.List.{append-nil, drop-set, drop_all, ext_get_or, get_or-map, get_or-set_other, get_or-set_same, get_or_default, length-map, length-replicate, length-set, length-take, set-get_or, set-set, set_past, take-replicate, take_all, take_more, take_more_set}
pub use Rattle.std.proofs.lemmas.List.Concat.{get_or-flat_map}
pub use Rattle.std.proofs.lemmas.List.FromFn.{get_or-range_with_len, length-range_with_len}
pub use Rattle.std.proofs.lemmas.List.Sums.{count_by-le-length, count_by_more_no, count_by_more_yes, sum_by-take-le}
pub use Rattle.std.proofs.lemmas.Nat.{div-add-mod', div-mul-add, div_below, mod-mul-add, mod_below, one_shl, pow_pos}
pub use Rattle.std.proofs.lemmas.Nat.Bits.{and_pow, bit_at-lt, bit_at-zero, bit_at_ones, bit_at_ones_above, bit_at_set_other, bit_at_set_same, same_from_bits}
pub use Rattle.std.proofs.lemmas.Option.{get_or_from_slice_get, slice_get-get_or, slice_get-map, slice_get_past, slice_get_within}
pub use Rattle.std.specs.Cmp.{both_ways}
pub use Rattle.std.specs.Int.{bit_at, div_ceil}
pub use Rattle.std.specs.List.{count_by, flat_map, insert, list_all, list_any, range_with_len, remove}
pub use Rattle.std.specs.Option.{is_some, option_map, unwrap_or}
pub use Rattle.std.specs.Prelude.{Option, nat_le, nat_lt, slice_get}
