-- What proofs by hand take from the toolchain's logic, through one door: such a proof names what it uses of it in one line.
pub use Prim.Native.Nat.{suc, zero, ℕ, ◌*◌, ◌+◌, ◌-◌, ◌<◌, ◌^◌, ◌≤◌}
pub use base.Fml.{Fml, GName, Incl, Incl-refl, Incl-trans, Lft, Share, fat, fauth, fbor, fdead, feq, fhide, flent, flft, flt, fobs, fres, fsep, ftrue}
pub use base.Fraction.{full_share, left, right}
pub use base.Logic.{SProp, apply∗, comm∗, emp, emp∗, ent, ex, fst∗, guard, guard_i, id⊢, mono_l, mono_r, never, sep, snd∗, via, wand}
pub use base.Stored.{Gv, coded_list}
pub use contract.BorrowLft.{meet_⊑_left, meet_⊑_right, ⊑_meet, ◌⊑◌}
pub use contract.Lifetimes.{AllOutlive, Lfts, toks}
pub use contract.Monad.{Fun, fact, fact_i, fact_use}
pub use contract.Running.{MachineTables, Running, tables}
unfoldable pub use contract.Running.{tables_of}
pub use denote.Array.{Array}
pub use denote.ArrayMemory.{Single}
pub use denote.Builtin.{RefMutOf, RefOf, SliceRefOf, bool, isize, unit, usize}
pub use denote.Copied.{plain_Copied}
pub use denote.Enum.Declared.{shape}
pub use denote.Enum.Enum.{form_of, in_a_row}
pub use denote.Enum.Row.{tagged_with}
pub use denote.Exit.{no, yes}
pub use denote.Follow.{follows, follows_if, follows_then}
unfoldable pub use denote.Follow.{both_by, follows_by}
pub use denote.FollowSlice.{heres_id, slice_of}
pub use denote.Index.{closes_slice, opens_slice, place, place_is, row, whole_in, whole_out}
pub use denote.Laws.{Are, Is, Ises, Lawful, Lawfuls, Tells, Typed, owns_show, shows, showss}
pub use denote.Memory.{cell_at, hidden_shr, lone, mem, part_at, shared_of}
unfoldable pub use denote.Memory.{part_of}
pub use denote.Opens.{Shut, hide, unhide}
pub use denote.Param.{ArrayAt, bounded, copied, layout, layouts, number, param}
pub use denote.Param.Laws.{IsCopy, Laws, array_laws, copied_laws, of_field, param_laws, row_shared}
pub use denote.Param.Members.{once_call}
pub use denote.Param.Shared.{copy_shared, mut_ref_shared, mut_slice_shared}
pub use denote.Param.Steps.{one_value}
pub use denote.Plain.{bool_Tells, bool_vals, uint_Makes, uint_Tells, uint_vals}
pub use denote.RattleType.{RattleType, RowLaws, Valss, owns}
pub use denote.RawPtr.{Ptr, RawPtr, block_ptr, coded_ptr, in_a_block, in_block, null_ptr, ptr_own, ptr_val, rawptr_pure, ◌+ₚ◌}
pub use denote.Ref.{Bor, MutBor, MutRef, NamedLft, ShrRef, mut_Tells, mut_vals, shr_Tells, shr_vals}
pub use denote.Shadow.{makes_shadow, pure_i}
pub use denote.Shares.{Shares-less, peels}
pub use denote.Sharing.{ShrLaws, beside, said, within}
pub use denote.SharingLaws.{beside_shr_laws, nothing_shr_laws, said_shr_laws, shortens, within_shr_laws}
pub use denote.Signature.{Slot, mut_slice_of, named_lft, plain, type_at, types_at}
pub use denote.Slice.{MutSlice, Room, elements_shared, elements_shr_laws, mut_slice_Lawful, mut_slice_Tells, mut_slice_at, mut_slice_vals, shr_slice_Tells, shr_slice_at, shr_slice_vals, slice_val}
pub use denote.Steps.{closes, heard, looks, nothing, only, opens, owned, peeks, shuts}
pub use denote.Struct.Declared.{Declared}
pub use denote.Struct.Field.{RawPtr-field, i64-field, mut_ref_field, mut_slice_field, usize-field}
pub use denote.Struct.Laws.{RawPtr-copy, RawPtr-laws, field_copy, i64-copy, i64-laws, mut_ref_laws, mut_slice_laws, usize-copy}
pub use denote.Struct.Lending.{Lends, Lends-both, Lends-false, Lends-lies, Lends-nothing, Lends-said, in_block_pure, lent_at_shr_laws, lent_out, of_Lends}
pub use denote.Struct.Loose.{lawfuls}
pub use denote.Struct.Members.{Member, rows_of}
pub use denote.Struct.Owning.{Owning}
pub use denote.Struct.Parts.{PartsBack}
pub use denote.Struct.Pick.{record_field_back, record_field_out, rest_at}
pub use denote.Struct.Struct.{Struct}
pub use denote.Struct.Tuple.{Tuple}
pub use denote.Triple.Call.{calls_at}
pub use denote.Triple.Clauses.{Clauses, Ended, Lasts, closing, lasts}
pub use denote.Triple.Entry.{Vals, alive, on_entry}
pub use denote.Triple.Spec.{Meets, triple_of}
pub use denote.Triple.Statement.{Contract, Triple}
pub use denote.Triple.Table.{entered, framed}
pub use denote.Triple.Walked.{Goes-dropped, Goes-ref, Goes-slice, Goes-spent_ref, Goes-spent_slice, Stays, ends_at, says, stay_dropped, stay_ref, stay_slice, walk_Meets, walk_of, walked}
pub use lib.Dec.{T, eqb, eqb→eq, lit<}
pub use lib.ListN.{get_or, get_or-replicate, length, length-append, length-drop, length-replicate, length-set, replicate, set, take, take-append-drop}
pub use mathlib.Core.Bool.{Bool, false, not, true, ◌&&◌}
pub use mathlib.Core.List.{List, [], ◌++◌, ◌∷◌}
pub use mathlib.Core.Path.{ap, refl, subst, sym, ◌∙◌, ◌≡◌}
pub use mir.MapTy.{inst_fn}
pub use mir.Syntax.{Args, Dict, Fn, Lifetime, Ty, a_number, a_type, dcons, dnil, method, named, no_args, ty_ptr, w64}
pub use mir.Val.{Fits, Val, WT, has_ty, of_list, vbool, vcons, vint, vnil, vptr, vstruct, vunit}
pub use prog.Capped.{capped_is}
pub use prog.Memory.{Memory, align, capped, size, up}
pub use prog.Model.{Model}
pub use prog.Routine.{Routine}
pub use prog.Wired.{Wired}
pub use prog.Wp.{Env, Tables, Wp, WpFn, after_seq, at_return}
pub use seplogic.Ra.Ura.{Ura}
pub use sound.WpLaws.{WpFn-mono, fm_of}
pub use types.ByLocal.{alloc_all, env, free_all, get, get_in, get_tag, is, lands_as, look_at, look_in_at, pass_all, sets, sets_last, through}
pub use types.Follow.{after, after₂, closes_following, takes_part, takes_two}
pub use types.Kit.{ !, Goal, Item, Post, Seq, Soaks, Step, any_q, at_ret, await, by, check, done, drop, feq_i, feq_l, fjoin, fjoin3, flt_i, flt_l, fpack, fpick, frame, fsplit, fsplit3, given, group, join, keep, later, learn, mean, move, now, pick, prop, qed, raw, rewrite, show, some, split, split3, step, suffices, updating, use0, use1, use2, use3, ‵, ◌$◌, ◌∵◌, ◌⊛◌}
pub use types.Late.{ages, bor_new_deep, deep}
pub use types.Logic.{Logic, lfts, sem}
pub use types.Match.{in_variant, live, vrt}
pub use types.Mut.{close_ref, open_ref}
pub use types.Part.{agg, look_in, sub, whole}
pub use types.Run.{addr, and_then, bin, blocks, branches, enter, exec, first, fld, from, hop, lit, load, look, no_more, num_lit, of_opd, returns, returns_within, size_lit, size_word, skips, stop, switches_on, un, unit_lit}
pub use types.SemTy.{Arr, Body, SemTy, cells}
pub use types.Through.{hands_through}
pub use types.Tokens.{bor_new, lent_back, lft_end, lft_new, name_done, name_new, res_agree}
